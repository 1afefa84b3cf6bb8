-- The used sequences of a matrix, and the checkpoints from which their rows are run again.
use Rattle.std.specs.Prelude.{◌≡◌, ◌≤◌, ◌<◌, ℕ, ◌+◌, ◌*◌, ◌/◌, Bool, true, false, ◌&&◌, nat_le, nat_lt, if◌then◌else◌}
use Rattle.std.specs.Prelude.{List, [], ◌∷◌, length, take, drop, sum_by, filter, Option, Ok}
use Rattle.std.specs.List.{position_from}
use Rattle.dw_model.specs.LineHeader.{LineHeader}
use Rattle.dw_model.specs.Matrix.{Row, sequences, is_used, first_address, last_address}
use Rattle.dw_model.specs.Ranges.{Range}
use Rattle.dw_model.specs.Registers.{row}
use Rattle.dw_line.specs.declared.checkpoints.Checkpoint.{Checkpoint}
use Rattle.dw_line.specs.declared.checkpoints.Sequence.{Sequence}
use Rattle.dw_line.specs.Machine.{State, rows_on}
use Rattle.dw_line.specs.declared.registers.Registers.{Registers}
use Rattle.dw_line.specs.Registers.{registers_shown}

abbrev pub used_sequences : List Row → List (List Row)
used_sequences rows = filter is_used (sequences rows)

-- how many checkpoints a used sequence has: one for 64 rows, but for its end row
abbrev pub checkpoints_of : List Row → ℕ
checkpoints_of rows = (length rows + 62) / 64

-- how many its used sequences have together
abbrev pub checkpoint_count : List (List Row) → ℕ
checkpoint_count used = sum_by checkpoints_of used

-- they have at most as many
abbrev pub most_checkpoints : List (List Row) → ℕ
most_checkpoints used = sum_by length used / 64 + length used

abbrev pub holds_address : ℕ → List Row → Bool
holds_address a rows = nat_le (first_address rows) a && nat_lt a (last_address rows)

-- the number of the first sequence that holds an address
abbrev pub number_among : List (List Row) → ℕ → Option ℕ
number_among used a = position_from (holds_address a) 0 used

-- the sequence of this number is the first that holds each address from one on and below another;
-- or none does
abbrev pub IsOwner : List Row → Option ℕ → (begin end : ℕ) → Type 0
IsOwner rows number begin end = (a : ℕ) → begin ≤ a → a < end → number_among (used_sequences rows) a ≡ number

-- the rows up to and with the first that ends its sequence
abbrev pub up_to_end : List Row → List Row
up_to_end [] = []
up_to_end (row ∷ rows) = if row.ends then row ∷ [] else row ∷ up_to_end rows

-- ---- checkpoints

-- the machine after a checkpoint's row
abbrev pub state_of : LineHeader → Checkpoint → State
state_of header checkpoint = record {
  registers = registers_shown checkpoint.registers;
  place = record { at = checkpoint.place; left = drop checkpoint.place header.program };
}

-- the row with these registers, which doesn't end its sequence
abbrev pub kept_row : Registers → Row
kept_row registers = row (registers_shown registers) false

abbrev pub checkpoint_row : Checkpoint → Row
checkpoint_row checkpoint = kept_row checkpoint.registers

-- The checkpoint's row and those that the machine appends after it, up to the end of its sequence,
-- are these.
pub record IsCheckpoint (header : LineHeader) (checkpoint : Checkpoint) (rows : List Row) : Type 0 where
  pub others : List Row
  pub appends : rows_on header (state_of header checkpoint) ≡ Ok others
  pub rest : checkpoint_row checkpoint ∷ up_to_end others ≡ rows
  pub within : checkpoint.place ≤ length header.program

-- They are checkpoints of a sequence: one at its first row, and at each 64th row after it.
abbrev pub AreCheckpoints : LineHeader → List Checkpoint → List Row → Type 0
AreCheckpoints header [] rows = Unit {0}
AreCheckpoints header (checkpoint ∷ others) rows =
    IsCheckpoint header checkpoint rows × AreCheckpoints header others (drop 64 rows)

-- all checkpoints of a used sequence
pub record HasCheckpoints (header : LineHeader) (checkpoints : List Checkpoint) (rows : List Row) : Type 0 where
  pub used : is_used rows ≡ true
  pub each : AreCheckpoints header checkpoints rows
  pub enough : length rows ≤ 64 * length checkpoints + 1

-- ---- the sequences that are kept

-- those of a sequence among all checkpoints
abbrev pub checkpoints_in : List Checkpoint → Sequence → List Checkpoint
checkpoints_in checkpoints sequence = drop sequence.first_checkpoint (take sequence.end_checkpoint checkpoints)

-- What is kept of a used sequence: its bounds, and its checkpoints, whose indexes are below a
-- bound.
pub record IsSequence (header : LineHeader) (checkpoints : List Checkpoint) (end : ℕ) (sequence : Sequence)
    (rows : List Row) : Type 0 where
  pub ordered : sequence.first_checkpoint ≤ sequence.end_checkpoint
  pub within : sequence.end_checkpoint ≤ end
  pub begins : sequence.begin ≡ first_address rows
  pub ends : sequence.end ≡ last_address rows
  pub has : HasCheckpoints header (checkpoints_in checkpoints sequence) rows

-- the same of each sequence
abbrev pub AreSequences : LineHeader → List Checkpoint → ℕ → List Sequence → List (List Row) → Type 0
AreSequences header checkpoints end [] [] = Unit {0}
AreSequences header checkpoints end (sequence ∷ sequences) (rows ∷ used) =
    IsSequence header checkpoints end sequence rows × AreSequences header checkpoints end sequences used
AreSequences header checkpoints end _ _ = ⊥

-- What is kept of the used sequences of a matrix.
pub record AreKept (header : LineHeader) (checkpoints : List Checkpoint) (kept : List Sequence)
    (used : List (List Row)) : Type 0 where
  pub each : AreSequences header checkpoints (length checkpoints) kept used
  pub count : length checkpoints ≡ checkpoint_count used

-- each sequence's range with its number, counted from a first one
abbrev pub pairs_from : ℕ → List Sequence → List (Range × ℕ)
pairs_from first [] = []
pairs_from first (sequence ∷ sequences) =
    (record { begin = sequence.begin; end = sequence.end }, first) ∷ pairs_from (first + 1) sequences

-- the number of the first sequence that holds an address, by the bounds that are kept
abbrev pub number_of : List Sequence → ℕ → Option ℕ
number_of kept a = position_from (λ s. nat_le s.begin a && nat_lt a s.end) 0 kept
