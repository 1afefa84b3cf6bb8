-- What is recorded of a line program while it runs.
use Rattle.std.specs.Prelude.{ℕ, ◌-◌, Bool, true, ◌&&◌, nat_le, nat_lt, ◌==◌, if◌then◌else◌}
use Rattle.std.specs.Prelude.{List, [], ◌∷◌, ◌++◌, length, take, Option, Some, None, option_and_then, slice_get}
use Rattle.dw_line.specs.declared.registers.Registers.{Registers}
use Rattle.dw_line.specs.declared.checkpoints.Checkpoint.{Checkpoint}
use Rattle.dw_line.specs.declared.checkpoints.Sequence.{Sequence}
use Rattle.dw_line.specs.declared.checkpoints.Pending.{Pending}
use Rattle.dw_line.specs.declared.checkpoints.Checkpoints.{Checkpoints}
use Rattle.dw_line.specs.declared.machine.Appended.{Appended}

-- the checkpoints and the used sequences so far, and what is known of the rows since the last end
-- row
pub record Recorder : Type 0 where
  pub checkpoints : List Checkpoint
  pub sequences : List Sequence
  pub pending : Pending

abbrev pub recorder_shown : Checkpoints → Recorder
recorder_shown kept =
    record { checkpoints = kept.checkpoints.items; sequences = kept.sequences.items; pending = kept.pending }

-- no row is pending after so many checkpoints
abbrev pub none_pending : ℕ → Pending
none_pending first_checkpoint = record { first_checkpoint = first_checkpoint; last_address = 0; rises = true; room = 0 }

abbrev pub empty : Recorder
empty = record { checkpoints = []; sequences = []; pending = none_pending 0 }

-- one more row, which doesn't end its sequence; `due` says whether it is a checkpoint
abbrev pub pending_by : Bool → ℕ → Pending → Pending
pending_by due address pending = record {
  first_checkpoint = pending.first_checkpoint;
  last_address = address;
  rises = pending.rises && nat_le pending.last_address address;
  room = if due then 63 else pending.room - 1;
}

abbrev pub row_pending : ℕ → Pending → Pending
row_pending address pending = pending_by (pending.room == 0) address pending

abbrev pub pushed_by : Bool → Registers → ℕ → Recorder → Recorder
pushed_by due registers place r = record {
  checkpoints = if due then r.checkpoints ++ record { registers = registers; place = place } ∷ [] else r.checkpoints;
  sequences = r.sequences;
  pending = pending_by due registers.address r.pending;
}

abbrev pub pushed : Registers → ℕ → Recorder → Recorder
pushed registers place r = pushed_by (r.pending.room == 0) registers place r

-- the pending rows, which begin at an address, are used with an end row at another
abbrev pub are_used : Pending → (begin end : ℕ) → Bool
are_used pending begin end = pending.rises && nat_le pending.last_address end && nat_lt begin end

-- the address at which the pending rows begin, where they are used with an end row at an address
abbrev pub used_from : ℕ → Recorder → Option ℕ
used_from end r =
    option_and_then (λ first.
    if are_used r.pending first.registers.address end then Some first.registers.address else None)
    (slice_get r.checkpoints r.pending.first_checkpoint)

-- what is kept of the pending rows, where they are a used sequence from one address to another
abbrev pub sequence_of : (begin end : ℕ) → Recorder → Sequence
sequence_of begin end r = record {
  begin = begin;
  end = end;
  first_checkpoint = r.pending.first_checkpoint;
  end_checkpoint = length r.checkpoints;
}

-- the pending rows end: they are a sequence, which is kept where it is used
abbrev pub closed_from : Option ℕ → ℕ → Recorder → Recorder
closed_from None end r = record {
  checkpoints = take r.pending.first_checkpoint r.checkpoints;
  sequences = r.sequences;
  pending = none_pending r.pending.first_checkpoint;
}
closed_from (Some begin) end r = record {
  checkpoints = r.checkpoints;
  sequences = r.sequences ++ sequence_of begin end r ∷ [];
  pending = none_pending (length r.checkpoints);
}

abbrev pub closed : ℕ → Recorder → Recorder
closed end r = closed_from (used_from end r) end r

-- one more row, after which so many bytes of the program are passed
abbrev pub recorded : Appended → ℕ → Recorder → Recorder
recorded appended place r =
    if appended.ends then closed appended.registers.address r else pushed appended.registers place r

-- the program ends: rows that no end row follows are in no sequence
abbrev pub finished : Recorder → Recorder
finished r = record {
  checkpoints = take r.pending.first_checkpoint r.checkpoints;
  sequences = r.sequences;
  pending = r.pending;
}
