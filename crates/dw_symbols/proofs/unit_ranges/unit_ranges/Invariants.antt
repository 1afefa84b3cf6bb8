use Rattle.std.proofs.Common.{length}
use Rattle.std.specs.Prelude.{◌≡◌, ◌/◌}
use Rattle.dw_symbols.proofs.OwnerLemmas.{Gathered}
use Rattle.dw_symbols.proofs.unit_ranges.unit_ranges.Given as goal

abbrev pub invariant-loop-i : goal.invariant-loop-i
invariant-loop-i l = (l.indexes ≡ l.units.tables) × Gathered l.units (length l.units.tables.rnglists / 3) l.claims l.read l.i
