use Rattle.std.proofs.Common.{refl}
use Rattle.dw_forms.specs.Fault.{form_fault}
use Rattle.dw_forms.proofs.PairsLemmas.{none-left, no-fault, no-end, still-read, takes-first}
use Rattle.dw_forms.proofs.pairs.take_pair.Goals as goal

pub returns-then-count-eq0-clause-taken : goal.returns-then-count-eq0-clause-taken
returns-then-count-eq0-clause-taken c =
    (none-left c.args.pairs.now.place c.args.pairs.now.count c.if-count-eq0.true c.requires, refl)

pub returns-in_default-clause-left : goal.returns-in_default-clause-left
returns-in_default-clause-left c =
    absurd (no-fault c.args.pairs.now.place c.args.pairs.now.count (form_fault c.in_default.field-0) c.if-count-eq0.false c.requires c.in_default.ensures)

pub returns-in_default-clause-taken : goal.returns-in_default-clause-taken
returns-in_default-clause-taken c =
    absurd (no-fault c.args.pairs.now.place c.args.pairs.now.count (form_fault c.in_default.field-0) c.if-count-eq0.false c.requires c.in_default.ensures)

pub returns-in_default-found-clause-left : goal.returns-in_default-found-clause-left
returns-in_default-found-clause-left c =
    absurd (no-end c.args.pairs.now.place c.next_spec.new.cursor c.args.pairs.now.count c.in-Ok.found c.if-count-eq0.false c.requires c.in-Ok.ensures c.in_default-found.is)

pub returns-in_default-found-clause-taken : goal.returns-in_default-found-clause-taken
returns-in_default-found-clause-taken c =
    absurd (no-end c.args.pairs.now.place c.next_spec.new.cursor c.args.pairs.now.count c.in-Ok.found c.if-count-eq0.false c.requires c.in-Ok.ensures c.in_default-found.is)

pub returns-clause-left : goal.returns-clause-left
returns-clause-left c =
    still-read c.args.pairs.now.place c.next_spec.new.cursor c.args.pairs.now.count c.in-Ok.found c.if-count-eq0.false c.requires c.in-Ok.ensures

pub returns-clause-taken : goal.returns-clause-taken
returns-clause-taken c =
    takes-first c.args.pairs.now.place c.next_spec.new.cursor c.args.pairs.now.count c.in-Ok.found c.in-Some.spec c.if-count-eq0.false c.requires c.in-Ok.ensures c.in-Some.is
