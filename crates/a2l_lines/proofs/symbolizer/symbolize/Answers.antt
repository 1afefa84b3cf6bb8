use Rattle.std.proofs.Common.{◌∙◌, List, map, ap, subst}
use Rattle.std.specs.Io.KnownBytes.{append_known}
use Rattle.dw_symbols.specs.Told.{means}
use Rattle.a2l_lines.specs.Input.{input_shown, word_shown}
use Rattle.a2l_lines.specs.Text.{options_shown}
use Rattle.a2l_lines.specs.Symbolize.{status_for}
use Rattle.a2l_lines.specs.declared.reply.Reply.{Reply}
use Rattle.a2l_lines.specs.Pieces.{pieces_of, WritesPicked, PicksBeginning}
use Rattle.a2l_lines.proofs.ReplyLemmas.{pieces-of-replies, picks-of-replies}
use Rattle.a2l_lines.proofs.WriteLemmas.{on_err}
use Rattle.a2l_lines.proofs.SymbolizeLemmas.{shown, asked-shown, begins, begun, is-text, is-status}
use Rattle.a2l_lines.proofs.symbolizer.symbolize.Goals as goal

pub returns-in_err-inputs-clause-beginning : goal.returns-in_err-inputs-clause-beginning
returns-in_err-inputs-clause-beginning g c =
    on_err c.from_residual.result (begins (options_shown c.args.options.now) c.args.image.now (map word_shown c.args.options.now.words.items) (g.R.Source.left c.args.reader.now) (g.W.Sink.told c.args.writer.now))

pub returns-in_err-report-clause-beginning : goal.returns-in_err-report-clause-beginning
returns-in_err-report-clause-beginning g c =
    on_err c.from_residual-in_err-report.result (begins (options_shown c.args.options.now) c.args.image.now (map word_shown c.args.options.now.words.items) (g.R.Source.left c.args.reader.now) (g.W.Sink.told c.args.writer.now))

pub returns-in_err-block-clause-beginning : goal.returns-in_err-block-clause-beginning
returns-in_err-block-clause-beginning g c =
    on_err c.from_residual-in_err-block.result (begins (options_shown c.args.options.now) c.args.image.now (map word_shown c.args.options.now.words.items) (g.R.Source.left c.args.reader.now) (g.W.Sink.told c.args.writer.now))

pub write_picked-requires-clause-within : goal.write_picked-requires-clause-within
write_picked-requires-clause-within g c =
    let report = rw c.deref-2.ensures.value at c.in_ok-report.ensures in
    let replies = c.in_ok-report.report.replies.items in
    let picks = c.in_ok-report.report.picks.items in
    rw (c.deref-5.ensures.value, c.deref-6.ensures.value)
    (picks-of-replies (options_shown c.args.options.now) (means c.args.image.now) (map input_shown c.in_ok-inputs.inputs.items) report.asked picks replies report.shares report.replies)

pub returns-in-Ok-clause-written : goal.returns-in-Ok-clause-written
returns-in-Ok-clause-written g c =
    let options = options_shown c.args.options.now in
    let file = c.args.image.now in
    let words = map word_shown c.args.options.now.words.items in
    let left = g.R.Source.left c.args.reader.now in
    let found = map input_shown c.in_ok-inputs.inputs.items in
    let picks = c.in_ok-report.report.picks.items in
    let replies = c.in_ok-report.report.replies.items in
    let all = rw (c.deref.ensures.value, asked-shown c.in_ok-inputs.inputs.items) at c.in_ok-inputs.ensures.asked in
    let report = rw c.deref-2.ensures.value at c.in_ok-report.ensures in
    let seen = subst (λ (replies : List Reply). WritesPicked (g.W.Sink.told c.args.writer.now) (g.W.Sink.told c.write_picked.new.writer) (pieces_of replies) c.deref-6.result.now) c.deref-5.ensures.value c.in-Ok.ensures.written in
    let written = rw c.deref-6.ensures.value at seen in
    let ended = rw (c.deref-3.ensures.value, c.deref-4.ensures.value) at c.outcome-status.ensures in
    record {
      bytes = all.bytes;
      input = all.input;
      written = written ∙ ap (append_known (g.W.Sink.told c.args.writer.now)) (is-text options file words left found report.asked picks _ all report.shares (pieces-of-replies options (means file) report.asked replies report.replies));
      status = ended ∙ ap status_for (is-status options file words left found report.asked picks replies all report.shares report.replies);
    }

pub returns-clause-beginning : goal.returns-clause-beginning
returns-clause-beginning g c =
    let options = options_shown c.args.options.now in
    let file = c.args.image.now in
    let words = map word_shown c.args.options.now.words.items in
    let left = g.R.Source.left c.args.reader.now in
    let found = map input_shown c.in_ok-inputs.inputs.items in
    let picks = c.in_ok-report.report.picks.items in
    let replies = c.in_ok-report.report.replies.items in
    let all = rw (c.deref.ensures.value, asked-shown c.in_ok-inputs.inputs.items) at c.in_ok-inputs.ensures.asked in
    let report = rw c.deref-2.ensures.value at c.in_ok-report.ensures in
    let seen = subst (λ (replies : List Reply). PicksBeginning (g.W.Sink.told c.args.writer.now) (g.W.Sink.told c.write_picked.new.writer) (pieces_of replies) c.deref-6.result.now) c.deref-5.ensures.value c.in-Err.ensures.beginning in
    let written = rw c.deref-6.ensures.value at seen in
    begun options file words left (g.W.Sink.told c.args.writer.now) (g.W.Sink.told c.write_picked.new.writer) (map shown found) _ all
    (is-text options file words left found report.asked picks _ all report.shares (pieces-of-replies options (means file) report.asked replies report.replies)) written
