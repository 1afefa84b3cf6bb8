-- Going through a span of addresses, from one stretch to the next.
use Rattle.std.specs.Prelude.{◌≡◌, ◌≤◌, ◌<◌, ℕ, List}
use Rattle.dw_model.specs.Matrix.{Row}
use Rattle.dw_line.specs.declared.walk.Stretch.{Stretch}
use Rattle.dw_line.specs.Lines.{Table}
use Rattle.dw_line.specs.Search.{told_at}

-- how far a walk has come: its table, the address that comes next, and the end of the span
pub record Walked : Type 0 where
  pub table : Table
  pub at : ℕ
  pub high : ℕ

abbrev pub walked_to : ℕ → Walked → Walked
walked_to at walk = record { table = walk.table; at = at; high = walk.high }

-- The stretch begins at an address and ends in the span, and each of its addresses has its row, or
-- none.
pub record IsStretch (rows : List Row) (at high : ℕ) (stretch : Stretch) : Type 0 where
  pub begins : stretch.begin ≡ at
  pub rises : at < stretch.end
  pub within : stretch.end ≤ high
  pub row : (a : ℕ) → at ≤ a → a < stretch.end → told_at rows a ≡ stretch.row
