use Rattle.std.proofs.Common.{codes, map}
use Rattle.serde_json.specs.Data.{string, put}
use Rattle.serde_json.specs.View.{view, members_view}
use Rattle.serde_json.specs.declared.value.Value as value
use Rattle.serde_json.proofs.Views.{view-Array}
use Rattle.a2l_why.proofs.DocumentLemmas.{asked_in}
use Rattle.a2l_why.proofs.document.of_words.Goals as goal

pub returns : goal.returns
returns c = record {
  members = put (codes "status") (string c.if-is_clean.finish.now) (members_view c.put.new.self.members.entries);
  reports = map view c.in_ok-list.list.items;
  is_text = c.in_ok-text.ensures;
  asked = asked_in (members_view c.new-object.result.members.entries) (members_view c.put.new.self.members.entries) (view (value.Array c.in_ok-list.list)) (string c.if-is_clean.finish.now) (map view c.in_ok-list.list.items) c.in_ok-put.ensures (view-Array c.in_ok-list.list);
  are_reports = c.in_ok-list.ensures;
}
