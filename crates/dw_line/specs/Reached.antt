-- A row that was found in a used sequence, with the one after it, from which later ones are run on.
use Rattle.std.specs.Prelude.{◌≡◌, ◌<◌, ◌≤◌, ◌*◌, ◌+◌, ℕ, Bool, true, ◌&&◌, ◌==◌, nat_le, nat_lt, if◌then◌else◌}
use Rattle.std.specs.Prelude.{List, ◌∷◌, length, drop, Option, Some, None, IfSome, MatchOption, option_map, slice_get}
use Rattle.dw_model.specs.LineHeader.{LineHeader}
use Rattle.dw_model.specs.Matrix.{Row, row_in, row_of, first_address, last_address}
use Rattle.dw_line.specs.declared.checkpoints.Checkpoint.{Checkpoint}
use Rattle.dw_line.specs.declared.rows.Row.{Row as RowTold}
use Rattle.dw_line.specs.declared.search.Reached.{Reached}
use Rattle.dw_line.specs.declared.search.Last.{Last}
use Rattle.dw_line.specs.Search.{row_told, told_at}
use Rattle.dw_line.specs.Sequences.{kept_row, used_sequences, number_among, IsCheckpoint, HasCheckpoints}

-- the row, as a caller sees it
abbrev pub told_of : Reached → RowTold
told_of reached = row_told (kept_row reached.row)

-- It has the address of the first of these rows, and those after it are run on from it, unless it
-- is the last of them: after a row that ends its sequence the registers begin anew.
pub record IsNextRow (header : LineHeader) (rows : List Row) (next : Checkpoint) : Type 0 where
  pub address : next.registers.address ≡ first_address rows
  pub on : 1 < length rows → IsCheckpoint header next rows

-- It is one of these rows, and the next one is known.
pub record IsRow (header : LineHeader) (rows : List Row) (passed : ℕ) (reached : Reached) : Type 0 where
  pub is : kept_row reached.row ∷ drop (passed + 1) rows ≡ drop passed rows
  pub next : IsNextRow header (drop (passed + 1) rows) reached.next

-- One of these rows. From it to the checkpoint whose number it has there are at most 64 rows.
pub record IsReached (header : LineHeader) (rows : List Row) (reached : Reached) : Type 0 where
  pub passed : ℕ
  pub behind : 64 * reached.next_checkpoint ≤ passed + 64
  pub is : IsRow header rows passed reached

-- the address lies at the row or after it, and before the next one
abbrev pub HoldsAddress : ℕ → Reached → Type 0
HoldsAddress a reached = (reached.row.address ≤ a) × (a < reached.next.registers.address)

-- An address is sought from one of these rows on, which isn't above it: at most 64 rows after it is
-- one above the address, and at most as many the checkpoint with a number.
pub record IsSought (header : LineHeader) (rows : List Row) (row : Checkpoint) (next_checkpoint a : ℕ) : Type 0 where
  pub place : ℕ
  pub is : IsCheckpoint header row (drop place rows)
  pub near : 64 * next_checkpoint ≤ place + 64
  pub below : row.registers.address ≤ a
  pub stop : ℕ
  pub after : place ≤ stop
  pub soon : stop ≤ place + 64
  pub above : a < first_address (drop stop rows)

-- What is found from a row on is the row at or after which the address lies, before the next one.
abbrev pub FindsFrom : LineHeader → Checkpoint → ℕ → ℕ → Option Reached → Type 0
FindsFrom header row next_checkpoint a found =
    (rows : List Row) → IsSought header rows row next_checkpoint a
    → MatchOption found ⊥ (λ reached. IsReached header rows reached × HoldsAddress a reached)

-- What is found is the row of the address, and one of these rows.
abbrev pub FindsIn : LineHeader → List Row → ℕ → Option Reached → Type 0
FindsIn header rows a found =
    (option_map told_of found ≡ option_map row_told (row_in a rows))
    × IfSome found (IsReached header rows) × IfSome found (HoldsAddress a)

-- the same in the used sequence that has these checkpoints, of an address below its end
abbrev pub FindsAmong : LineHeader → List Checkpoint → ℕ → Option Reached → Type 0
FindsAmong header checkpoints a found =
    (rows : List Row) → HasCheckpoints header checkpoints rows → a < last_address rows → FindsIn header rows a found

-- the same where a row of the sequence may have been found before
abbrev pub FindsOnward : LineHeader → List Checkpoint → Option Reached → ℕ → Option Reached → Type 0
FindsOnward header checkpoints last a found =
    (rows : List Row) → HasCheckpoints header checkpoints rows → a < last_address rows
    → IfSome last (IsReached header rows) → FindsIn header rows a found

-- the address lies before a checkpoint, if there is one
abbrev pub is_before : ℕ → Option Checkpoint → Bool
is_before a None = true
is_before a (Some checkpoint) = nat_lt a checkpoint.registers.address

-- the address lies at the row or after it, and before the next checkpoint of its sequence
abbrev pub reaches : Reached → List Checkpoint → ℕ → Bool
reaches reached checkpoints a =
    nat_le reached.row.address a && is_before a (slice_get checkpoints reached.next_checkpoint)

-- the row that was found last, if it is one of the sequence with this number
abbrev pub last_in : ℕ → Option Last → Option Reached
last_in number None = None
last_in number (Some last) = if last.number == number then Some last.reached else None

-- What was found last is a row of the used sequence with its number.
abbrev pub IsLast : LineHeader → List (List Row) → Option Last → Type 0
IsLast header used last =
    IfSome last (λ last. IfSome (slice_get used last.number) (λ rows. IsReached header rows last.reached))

-- What is found is the row of the address in a matrix, and is a row of the used sequence whose
-- number it has.
abbrev pub FindsRow : LineHeader → List Row → ℕ → Option Last → Type 0
FindsRow header rows a found =
    (option_map (λ last. told_of last.reached) found ≡ option_map row_told (row_of rows a))
    × IsLast header (used_sequences rows) found

-- Each address of the sequence with a number that lies at an address or after it, and before the
-- next row, has the row that was found.
pub record Stays (rows : List Row) (number a : ℕ) (found : Last) : Type 0 where
  pub above : a < found.reached.next.registers.address
  pub same : (c : ℕ) → a ≤ c → c < found.reached.next.registers.address
      → number_among (used_sequences rows) c ≡ Some number → told_at rows c ≡ Some (told_of found.reached)

-- What is found is the row of the address in the used sequence with a number.
pub record IsRowOf (header : LineHeader) (rows : List Row) (number a : ℕ) (found : Last) : Type 0 where
  pub row : FindsRow header rows a (Some found)
  pub named : found.number ≡ number
  pub stays : Stays rows number a found
