use Rattle.std.proofs.Common.{◌≡◌, ◌∙◌, ap, map, arith}
use Rattle.dw_index.specs.Range.{range_shown}
use Rattle.dw_units.specs.OpenUnit.{sections_of}
use Rattle.dw_frames.specs.Drafts.{Drafts}
use Rattle.dw_frames.specs.UnitIn.{unit_in}
use Rattle.dw_frames.proofs.DraftLemmas.{was-added}
use Rattle.dw_frames.proofs.drafts.Drafts.add.Goals as goal

pub returns-clause-added : goal.returns-clause-added
returns-clause-added c same =
    let old = c.self.inside in
    let tables : (sections_of old.unit).tables ≡ c.args.indexes.now = ap (λ (drafts : Drafts). drafts.of.sections.tables) c.self.view_is ∙ same in
    was-added (unit_in old.unit) old.functions.items c.push.new.self.items old.lists.items old.claims c.add.new.self c.args.entry.now c.len-number.result c.group_of-group.result c.args.self.now c.begin_list.new.self
    c.self.view_is (rw (c.offset.ensures) at c.in_ok-push.ensures.items) (let len = old.functions.ok.0 in omega (arith, c.len-number.ensures, len)) c.group_of-group.ensures (rw (c.children.ensures) at c.in_ok-begin_list.ensures)
    (map range_shown c.args.ranges.now) c.args.list (rw tables c.in_ok-add.ensures.claims)
