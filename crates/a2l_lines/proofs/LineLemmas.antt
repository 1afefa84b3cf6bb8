-- The lines of the units, one after the other.
use Rattle.std.proofs.Common.{◌≡◌, ℕ, ◌+◌, List, [], ◌∷◌, ◌++◌, take, Some, ap}
use Rattle.std.specs.Prelude.{slice_get}
use Rattle.std.proofs.lemmas.List.{append-nil, take_more}
use Rattle.std.proofs.lemmas.Grind.{flat_map-append}
use Rattle.std.proofs.lemmas.Option.{slice_get_within, get_or_from_slice_get}
use Rattle.dw_model.specs.Unit.{DwarfUnit}
use Rattle.dw_model.specs.Output.{unit_line, unit_lines}

-- the lines of one unit more
pub unit_lines-more : (units : List DwarfUnit) (i : ℕ) (unit : DwarfUnit) → slice_get units i ≡ Some unit → unit_lines (take (i + 1) units) ≡ unit_lines (take i units) ++ unit_line unit
unit_lines-more units i unit e =
    let fits = slice_get_within units i unit e in
    rw (take_more units i unit fits, get_or_from_slice_get units i unit unit e, flat_map-append unit_line (take i units) (unit ∷ []))
    (ap (λ (xs : List ℕ). unit_lines (take i units) ++ xs) (append-nil (unit_line unit)))
