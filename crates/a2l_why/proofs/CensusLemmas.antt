-- Counting the units of a kind, one after the other.
use Rattle.std.proofs.Common.{◌≡◌, ◌∙◌, ℕ, ◌+◌, Bool, true, false, List, take, Some, ap, sym}
use Rattle.std.specs.Prelude.{slice_get}
use Rattle.std.specs.List.{count_by}
use Rattle.std.proofs.lemmas.List.Sums.{count_by_more_no, count_by_more_yes}
use Rattle.std.proofs.lemmas.Option.{slice_get_within, get_or_from_slice_get}
use Rattle.dw_model.specs.Unit.{DwarfUnit}

-- one unit more that counts
pub counts : (p : DwarfUnit → Bool) (units : List DwarfUnit) (i : ℕ) (unit : DwarfUnit) (count : ℕ) → slice_get units i ≡ Some unit → p unit ≡ true → count ≡ count_by p (take i units) → count + 1 ≡ count_by p (take (i + 1) units)
counts p units i unit count e is_one so_far =
    let at = get_or_from_slice_get units i unit unit e in
    ap (λ n. n + 1) so_far ∙ sym (count_by_more_yes p units i unit (slice_get_within units i unit e) (ap p at ∙ is_one))

-- one unit more that doesn't
pub passes : (p : DwarfUnit → Bool) (units : List DwarfUnit) (i : ℕ) (unit : DwarfUnit) (count : ℕ) → slice_get units i ≡ Some unit → p unit ≡ false → count ≡ count_by p (take i units) → count ≡ count_by p (take (i + 1) units)
passes p units i unit count e is_other so_far =
    let at = get_or_from_slice_get units i unit unit e in
    so_far ∙ sym (count_by_more_no p units i unit (slice_get_within units i unit e) (ap p at ∙ is_other))
