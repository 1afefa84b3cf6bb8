use Rattle.std.specs.Prelude.{reverse}
use Rattle.std.specs.List.{flat_map}
use Rattle.dw_forms.specs.Tables.{tables_shown}
use Rattle.dw_ranges.specs.Claims.{in_group, list_claims}
use Rattle.dw_ranges.proofs.WindowLemmas.{HasBefore}
use Rattle.dw_ranges.proofs.window.Window.read.Given as goal

abbrev pub invariant-loop-one : goal.invariant-loop-one
invariant-loop-one l =
    let claims = list_claims (tables_shown l.fn.tables) in
    HasBefore (flat_map claims (reverse (in_group 0 l.fn.held))) (flat_map claims l.one-iterator) l.from l.draft
