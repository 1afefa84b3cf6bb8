use Rattle.std.proofs.Common.{ap, ◌∙◌}
use Rattle.std.specs.Str.Lossy.{utf8_lossy}
use Rattle.serde_json.specs.Data.{string}
use Rattle.serde_json.specs.View.{view, members_view}
use Rattle.serde_json.specs.declared.value.Value as value
use Rattle.serde_json.proofs.Views.{view-Object}
use Rattle.a2l_why.specs.Told.{lines_told}
use Rattle.a2l_why.proofs.DocumentLemmas.{has_both, view-String}
use Rattle.a2l_why.proofs.document.told_value.Goals as goal

pub returns : goal.returns
returns c =
    let lines = view-String c.in_ok-lines.lines ∙ ap string (c.in_ok-lines.ensures.lossy ∙ ap utf8_lossy c.deref-2.ensures.value) in
    rw (view-Object c.put-3.new.self.members)
    (has_both (members_view c.put_answer.new.self.members.entries) (members_view c.put-2.new.self.members.entries) (members_view c.put-3.new.self.members.entries)
    (view c.in_ok-try_from_str.field-0) (view (value.String c.in_ok-lines.lines)) c.args.word.now (lines_told c.args.told.now)
    c.in_ok-try_from_str.ensures lines c.in_ok-put-2.ensures c.in_ok-put-3.ensures)
