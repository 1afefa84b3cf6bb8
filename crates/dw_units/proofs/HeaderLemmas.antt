-- A unit whose header isn't skipped.
use Rattle.std.proofs.Common.{◌≡◌, ℕ, false, List, Some, refl}
use Rattle.dw_model.specs.declared.dwarf.TheConstants.{DWARF_VERSION}
use Rattle.dw_model.specs.Reading.{Place, start, number_at}
use Rattle.dw_model.specs.Unit.{Extent, is_skipped, kind_of, kept_unit, unit_of}

pub is_kept : (extent : Extent) (size : ℕ) (bytes : List ℕ) (version type : ℕ × Place) → number_at 2 (start bytes) ≡ Some version → version.0 ≡ DWARF_VERSION → number_at 1 version.1 ≡ Some type → is_skipped (kind_of type.0) ≡ false → unit_of extent size bytes ≡ kept_unit extent size (kind_of type.0) type.1
unfolding unit_of
is_kept extent size bytes version type e v f k = rw (e, v, f, k) refl
