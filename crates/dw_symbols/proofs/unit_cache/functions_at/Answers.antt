use Rattle.dw_symbols.specs.ImageUnit.{sections_in, unit_in}
use Rattle.dw_symbols.specs.Kept.{IsTreeAt}
use Rattle.dw_symbols.proofs.KeptLemmas.{after-set, looked-up}
use Rattle.dw_symbols.proofs.unit_cache.functions_at.Goals as goal

pub returns-in-Some-clause-kept : goal.returns-in-Some-clause-kept
returns-in-Some-clause-kept c =
    let s = sections_in c.args.unit in
    let own = looked-up (IsTreeAt s) c.args.kept.now.entries c.args.unit.index c.in-Some.tree.now c.requires.kept c.in-Some.ensures.value in
    rw (c.functions_in.ensures.tree) (after-set (IsTreeAt s) c.args.kept.now.entries c.args.unit.index c.in-Some.tree.now c.requires.kept own)

pub returns-in-Some-clause-functions : goal.returns-in-Some-clause-functions
returns-in-Some-clause-functions c =
    c.functions_in.ensures.functions _ _ (looked-up (IsTreeAt (sections_in c.args.unit)) c.args.kept.now.entries c.args.unit.index c.in-Some.tree.now c.requires.kept c.in-Some.ensures.value)

pub returns-clause-functions : goal.returns-clause-functions
returns-clause-functions c =
    c.in_ok-found.ensures.functions (sections_in c.args.unit) (unit_in c.args.unit) (rw (c.shared_units.ensures) at c.in_ok-tree.ensures.tree)
