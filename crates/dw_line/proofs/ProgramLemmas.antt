-- Running a program for the first time: what is recorded, and which rows are still appended.
use Rattle.std.proofs.Common.{◌≡◌, ℕ, ◌+◌, ◌*◌, ◌≤◌, Bool, true, false, List, [], ◌∷◌, length, drop, Option, Some, None, Ok, Err, sym, subst, ap, ◌∙◌, length-append, arith}
use Rattle.std.specs.Prelude.{◌==◌}
use Rattle.std.proofs.lemmas.List.{length-take}
use Rattle.std.proofs.Math.Seq.{drop-append_seam}
use Rattle.dw_model.specs.Reading.{Place, start}
use Rattle.dw_model.specs.Faults.{bad}
use Rattle.dw_model.specs.LineHeader.{LineHeader}
use Rattle.dw_model.specs.Matrix.{Row}
use Rattle.dw_model.specs.Registers.{row}
use Rattle.dw_model.specs.Registers as model
use Rattle.dw_line.specs.declared.registers.Registers.{Registers}
use Rattle.dw_line.specs.declared.machine.Appended.{Appended}
use Rattle.dw_line.specs.Registers.{registers_shown}
use Rattle.dw_line.specs.Machine.{State, beginning, rows_on, row_before, registers_behind, appended_row, least_bytes, IsNext, RunsToNext}
use Rattle.dw_line.specs.Sequences.{used_sequences, AreKept}
use Rattle.dw_line.specs.Program.{IsRecorded}
use Rattle.dw_line.specs.Recorder.{Recorder, recorder_shown, empty, pushed_by, used_from, closed_from, recorded, finished}
use Rattle.dw_line.specs.declared.checkpoints.Checkpoints.{Checkpoints}
use Rattle.dw_line.proofs.MachineLemmas.{Passes, passes, passes_more, passes_none}
use Rattle.dw_line.proofs.RecorderLemmas as records
use Rattle.dw_line.proofs.RecorderLemmas.{Records}

-- all rows of the program, of which those in front of `rows` are recorded
pub record Whole (header : LineHeader) (r : Recorder) (rows : List Row) : Type 0 where
  pub all : List Row
  pub run : rows_on header (beginning header) ≡ Ok all
  pub records : Records header r all rows

-- how many bytes what is kept so far takes at least
abbrev pub size_of : Recorder → ℕ
size_of r = length r.checkpoints + 3 * length r.sequences

-- A fault on the way from here is the program's, and where the rows from here on can be read, so
-- can all. What is kept takes no more bytes than were passed.
pub record Recording (header : LineHeader) (r : Recorder) (state : State) : Type 0 where
  pub bad : rows_on header state ≡ Err bad → rows_on header (beginning header) ≡ Err bad
  pub good : (rows : List Row) → rows_on header state ≡ Ok rows → Whole header r rows
  pub place : Passes (start header.program) state.place
  pub fits : size_of r ≤ state.place.at

pub begins : (header : LineHeader) → Recording header empty (beginning header)
begins header = record {
  bad = λ e. e;
  good = λ rows e. record { all = rows; run = e; records = records.begins header rows };
  place = passes_none (start header.program);
  fits = omega arith;
}

-- a place is given by how many bytes are in front of it
pub place_is : (program : List ℕ) (p : Place) → Passes (start program) p → (record { at = p.at; left = drop p.at program } ≡ p) × (p.at ≤ length program)
place_is program p s =
    let at : p.at ≡ length s.0 = omega (arith, s.1.1) in
    let left : drop p.at program ≡ p.left = ap (λ (n : ℕ). drop n program) at ∙ ap (drop (length s.0)) s.1.0 ∙ drop-append_seam s.0 p.left in
    (ap (λ (rest : List ℕ). record { at = p.at; left = rest }) left, omega (arith, at, ap length s.1.0, length-append s.0 p.left))

one_recorded : (header : LineHeader) (r : Recorder) (registers : Registers) (ends : Bool) (place : ℕ) (all rows : List Row)
    → Records header r all (row (registers_shown registers) ends ∷ rows)
    → rows_on header (record { registers = registers_behind (registers_shown registers) ends; place = record { at = place; left = drop place header.program } }) ≡ Ok rows → place ≤ length header.program
    → Records header (recorded (record { registers = registers; ends = ends }) place r) all rows
one_recorded header r registers true place all rows is later within =
    records.close header r.checkpoints r.sequences r.pending.first_checkpoint r.pending.last_address r.pending.rises r.pending.room registers all rows is
one_recorded header r registers false place all rows is later within =
    records.push header r.checkpoints r.sequences r.pending.first_checkpoint r.pending.last_address r.pending.rises r.pending.room registers place all rows is later within

-- what a row makes takes no more bytes than it
pushed_size : (due : Bool) (registers : Registers) (place : ℕ) (r : Recorder) → size_of (pushed_by due registers place r) ≤ size_of r + 1
pushed_size due registers place r = grind (arith, length-append)

closed_size : (begin : Option ℕ) (end : ℕ) (r : Recorder) → size_of (closed_from begin end r) ≤ size_of r + 3
closed_size begin end r = grind (arith, length-take, length-append)

recorded_size : (ends : Bool) (registers : Registers) (place : ℕ) (r : Recorder) → size_of (recorded (record { registers = registers; ends = ends }) place r) ≤ size_of r + least_bytes ends
recorded_size true registers place r = closed_size (used_from registers.address r) registers.address r
recorded_size false registers place r = pushed_size (r.pending.room == 0) registers place r

pub goes_on : (header : LineHeader) (r : Recorder) (state : State) (next : Appended) (new : Place) (behind : State) → behind ≡ record { registers = registers_behind (registers_shown next.registers) next.ends; place = new } → IsNext header state next new → Recording header r state → Recording header (recorded next new.at r) behind
goes_on header r state next new behind same is so_far =
    subst (λ (s : State). Recording header (recorded next new.at r) s) (sym same) (record {
      bad = λ e. so_far.bad (is.rows ∙ ap (row_before (appended_row next)) e);
      good = λ rows e.
          let whole = so_far.good (appended_row next ∷ rows) (is.rows ∙ ap (row_before (appended_row next)) e) in
          let at = place_is header.program new place in
          let later = ap (λ (p : Place). rows_on header (record { registers = registers_behind (registers_shown next.registers) next.ends; place = p })) at.0 ∙ e in
          record { all = whole.all; run = whole.run; records = one_recorded header r next.registers next.ends new.at whole.all rows whole.records later at.1 };
      place = place;
      fits = omega (arith, recorded_size next.ends next.registers new.at r, so_far.fits, is.size);
    })
  where
    place : Passes (start header.program) new
    place = passes (start header.program) new (passes_more (start header.program) state.place new so_far.place is.spans)

-- ---- what a call that runs the machine to its next row answers

pub none_left : (header : LineHeader) (old : State) (found : Option Appended) (new : Place) → found ≡ None → RunsToNext header old (Ok found) new → rows_on header old ≡ Ok []
none_left header old found new none is = subst (λ (found : Option Appended). RunsToNext header old (Ok found) new) none is

pub one_more : (header : LineHeader) (old : State) (found : Option Appended) (next : Appended) (new : Place) → found ≡ Some next → RunsToNext header old (Ok found) new → IsNext header old next new
one_more header old found next new some is = subst (λ (found : Option Appended). RunsToNext header old (Ok found) new) some is

pub begins_as : (header : LineHeader) (r : Recorder) (registers : model.Registers) (p : Place) → r ≡ empty → registers ≡ model.initial → p ≡ start header.program → Recording header r (record { registers = registers; place = p })
begins_as header r registers p e f g = rw (e, f, g) (begins header)

pub finishes : (header : LineHeader) (r : Recorder) (state : State) (kept : Checkpoints) → recorder_shown kept ≡ finished r → rows_on header state ≡ Ok [] → Recording header r state → IsRecorded header kept
finishes header r state kept same none so_far =
    let whole = so_far.good [] none in
    record {
      rows = whole.all;
      run = whole.run;
      kept = subst (λ (r : Recorder). AreKept header r.checkpoints r.sequences (used_sequences whole.all)) (sym same) (records.finish header r whole.all whole.records);
      fits = subst (λ (r : Recorder). size_of r ≤ length header.program) (sym same) (omega (arith, length-take r.pending.first_checkpoint r.checkpoints, so_far.fits, (place_is header.program state.place so_far.place).1));
    }
