use Rattle.std.proofs.Common.{sym, subst}
use Rattle.dw_model.specs.Output as model
use Rattle.dw_symbols.specs.Told.{means}
use Rattle.a2l_lines.specs.Reply.{AreReplies}
use Rattle.a2l_lines.proofs.ReplyLemmas.{are-replies}
use Rattle.a2l_lines.proofs.pool.reply_all.Goals as goal

pub returns-in-Ok : goal.returns-in-Ok
returns-in-Ok g c =
    let file = c.args.image.now in
    let queries = c.args.queries.asked.now in
    let replies = c.in-Ok.replies.items in
    record { replies = subst (λ (options : model.Options). AreReplies options (means file) queries replies) (sym c.requires.style) (are-replies g.O.Style.options file queries replies c.in-Ok.ensures.answers) }
