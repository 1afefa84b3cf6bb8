use Rattle.a2l_lines.specs.Text.{options_shown}
use Rattle.a2l_lines.proofs.ReplyLemmas.{reply-by}
use Rattle.a2l_lines.proofs.replier.Replier.reply.Goals as goal

pub returns-clause-reply : goal.returns-clause-reply
returns-clause-reply g c =
    reply-by (options_shown c.args.self.now.options.now) g.O.Style.options c.args.self.now.context.file c.args.query c.in_ok-answer.answer c.of.result c.args.self.now.by c.in_ok-answer.ensures.right c.of.ensures
