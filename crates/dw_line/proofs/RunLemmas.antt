-- Rows that are run again, one after the other, up to the first above an address.
use Rattle.std.proofs.Common.{◌≡◌, ℕ, ◌+◌, ◌<◌, ◌≤◌, true, false, List, [], ◌∷◌, take, drop, length, Option, Some, Result, Ok, refl, sym, subst, ap, ◌∙◌, arith}
use Rattle.std.proofs.lemmas.Bool.{cases_eq, cond_both}
use Rattle.std.proofs.lemmas.Option.{same_Some}
use Rattle.std.proofs.lemmas.List.{drop-drop, drop_all, take-append-drop, length-take-le, length-drop}
use Rattle.dw_model.specs.Reading.{Place, start}
use Rattle.dw_model.specs.Faults.{Bad}
use Rattle.dw_model.specs.Answers.{Tells}
use Rattle.dw_model.specs.LineHeader.{LineHeader}
use Rattle.dw_model.specs.Matrix.{Row, first_address}
use Rattle.dw_model.specs.Registers.{row}
use Rattle.dw_line.specs.declared.machine.Appended.{Appended}
use Rattle.dw_line.specs.declared.checkpoints.Checkpoint.{Checkpoint}
use Rattle.dw_line.specs.declared.search.Reached.{Reached}
use Rattle.dw_line.specs.declared.registers.Registers.{Registers}
use Rattle.dw_line.specs.Registers.{registers_shown}
use Rattle.dw_line.specs.Machine.{state_behind, rows_on, row_before, appended_row, IsNext, IsIn}
use Rattle.dw_line.specs.Sequences.{up_to_end, state_of, checkpoint_row, IsCheckpoint}
use Rattle.dw_line.specs.Reached.{IsNextRow, IsReached, IsSought, HoldsAddress}
use Rattle.dw_line.proofs.MachineLemmas.{Passes, Advances, passes, passes_more}
use Rattle.dw_line.proofs.ProgramLemmas.{place_is}

-- ---- the place of the machine

abbrev pub place_of : LineHeader → Checkpoint → Place
place_of header checkpoint = record { at = checkpoint.place; left = drop checkpoint.place header.program }

-- a row that was appended, with the place behind it
abbrev pub appended_at : Appended → ℕ → Checkpoint
appended_at next place = record { registers = next.registers; place = place }

-- the machine is where a program can be run on
pub record Stands (header : LineHeader) (here : Checkpoint) (cursor : Place) : Type 0 where
  pub is : cursor ≡ place_of header here
  pub within : here.place ≤ length header.program

-- a place in a program is reached from its beginning
to_place : (program : List ℕ) (k : ℕ) → k ≤ length program → Passes (start program) (record { at = k; left = drop k program })
to_place program k h = (take k program, (sym (take-append-drop k program), omega (arith, length-take-le k program h)), tt)

-- the row that was run last, where the machine stands after it
abbrev pub row_at : Registers → Place → Checkpoint
row_at registers place = record { registers = registers; place = place.at }

pub stands_on : (header : LineHeader) (here : Checkpoint) (next : Appended) (old new : Place) → Stands header here old → Advances old new → Stands header (appended_at next new.at) new
stands_on header here next old new stands spans =
    let passed = passes (start header.program) new (passes_more (start header.program) old new (subst (λ (p : Place). Passes (start header.program) p) (sym stands.is) (to_place header.program here.place stands.within)) spans) in
    let is = place_is header.program new passed in
    record { is = sym is.0; within = is.1 }

-- ---- the next row

-- the first of the rows that were read
pub record Taken (first : Row) (others : Result (List Row) Bad) (rows : List Row) : Type 0 where
  pub rest : List Row
  pub behind : others ≡ Ok rest
  pub whole : rows ≡ first ∷ rest

taken : (first : Row) (others : Result (List Row) Bad) (rows : List Row) → row_before first others ≡ Ok rows → Taken first others rows
taken first others rows e = grind arith

up_to_end-goes : (r : Row) (rows : List Row) → r.ends ≡ false → up_to_end (r ∷ rows) ≡ r ∷ up_to_end rows
up_to_end-goes r rows e = rw e refl

up_to_end-ends : (r : Row) (rows : List Row) → r.ends ≡ true → length (up_to_end (r ∷ rows)) ≡ 1
up_to_end-ends r rows e = rw e refl

goes_row : (next : Appended) → next.ends ≡ false → appended_row next ≡ row (registers_shown next.registers) false
goes_row next goes = ap (row (registers_shown next.registers)) goes

first-up : (r : Row) (rows : List Row) → first_address (up_to_end (r ∷ rows)) ≡ r.address
first-up r rows = cond_both r.ends (r ∷ []) (r ∷ up_to_end rows) (λ rows. first_address rows ≡ r.address) (λ e. refl) (λ e. refl)

-- the rows after those that were run
behind : (i : ℕ) (r : Row) (own all : List Row) → r ∷ own ≡ drop i all → own ≡ drop (i + 1) all
behind i r own all e = ap (drop 1) e ∙ drop-drop 1 i all

-- where the state is that of the row
abbrev pub Next : LineHeader → Checkpoint → Place → Appended → Place → Type 0
Next header here old next new = IsNext header (record { registers = registers_shown here.registers; place = old }) next new

next_of : (header : LineHeader) (here : Checkpoint) (old new : Place) (next : Appended) → Stands header here old → Next header here old next new → IsNext header (state_of header here) next new
next_of header here old new next stands is = subst (λ (p : Place). Next header here p next new) stands.is is

-- a machine at a place of the program, and what it returns on its way to the next row
in_program : (header : LineHeader) (here : Checkpoint) (cursor : Place) → Stands header here cursor → IsIn header cursor
in_program header here cursor stands = subst (IsIn header) (sym stands.is) (refl, stands.within)

-- These rows are appended after a row, and with it they are those up to the end of its sequence.
record RunsOn (header : LineHeader) (next : Checkpoint) (rows others : List Row) : Type 0 where
  appends : rows_on header (state_of header next) ≡ Ok others
  rest : checkpoint_row next ∷ up_to_end others ≡ rows

-- it is so of the next row, if that doesn't end its sequence
runs_on : (header : LineHeader) (next : Appended) (new : Place) (others : List Row) → Stands header (appended_at next new.at) new → (t : Taken (appended_row next) (rows_on header (state_behind next new)) others) → next.ends ≡ false → RunsOn header (appended_at next new.at) (up_to_end others) t.rest
runs_on header next new others stands t goes = grind (arith, goes_row, up_to_end-goes)

-- rows are run on from it, unless it ends its sequence
next_is : (header : LineHeader) (next : Appended) (new : Place) (others : List Row) → Stands header (appended_at next new.at) new → Taken (appended_row next) (rows_on header (state_behind next new)) others → IsNextRow header (up_to_end others) (appended_at next new.at)
next_is header next new others stands t = grind (arith, first-up, up_to_end-ends, runs_on)

-- ---- how it goes on and ends

-- What is known in the loop: the machine stands after a row that isn't above the address, in front
-- of one that is.
pub record Runs (header : LineHeader) (rows : List Row) (here : Checkpoint) (cursor : Place) (a stop i : ℕ) : Type 0 where
  pub stands : Stands header here cursor
  pub on : IsCheckpoint header here (drop i rows)
  pub below : here.registers.address ≤ a
  pub before : i < stop

-- what is known of the loop from the first row on
abbrev pub RunsFrom : LineHeader → (first here : Checkpoint) → Place → (next_checkpoint a i : ℕ) → Type 0
RunsFrom header first here cursor next_checkpoint a i =
    (rows : List Row) → (sought : IsSought header rows first next_checkpoint a) → Runs header rows here cursor a sought.stop (sought.place + i)

first_is : (header : LineHeader) (here : Checkpoint) (rows : List Row) → IsCheckpoint header here rows → first_address rows ≡ here.registers.address
first_is header here rows is = ap first_address (sym is.rest)

-- a row that isn't above the address isn't the one that is
later_stop : (rows : List Row) (a i stop : ℕ) → i ≤ stop → first_address (drop i rows) ≤ a → a < first_address (drop stop rows) → i < stop
later_stop rows a i stop order below above = grind (arith, cases_eq)

-- behind all rows is none above it
none_there : (rows : List Row) (a stop : ℕ) → length rows ≤ stop → a < first_address (drop stop rows) → ⊥
none_there rows a stop past above = omega (arith, above, ap first_address (drop_all stop rows past))

pub begins_at : (header : LineHeader) (first : Checkpoint) (cursor : Place) (next_checkpoint a : ℕ) → (first.place ≤ length header.program → Some cursor ≡ Some (place_of header first)) → RunsFrom header first (row_at first.registers cursor) cursor next_checkpoint a 0
begins_at header first cursor next_checkpoint a e rows sought = grind (arith, same_Some, first_is, later_stop)

-- what the machine returns on its way to the next row, from a place of the program
module _ (header : LineHeader) (first here : Checkpoint) (old new : Place) (next : Appended) (next_checkpoint a i : ℕ)
    (told : IsIn header old → Next header here old next new) (given : RunsFrom header first here old next_checkpoint a i)
    (rows : List Row) (sought : IsSought header rows first next_checkpoint a) where
  runs : Runs header rows here old a sought.stop (sought.place + i)
  runs = given rows sought

  is : Next header here old next new
  is = told (in_program header here old runs.stands)

  stands : Stands header (appended_at next new.at) new
  stands = stands_on header here next old new runs.stands is.spans

  t : Taken (appended_row next) (rows_on header (state_behind next new)) runs.on.others
  t = taken (appended_row next) (rows_on header (state_behind next new)) runs.on.others (sym (next_of header here old new next runs.stands is).rows ∙ runs.on.appends)

  own : up_to_end runs.on.others ≡ drop (sought.place + i + 1) rows
  own = behind (sought.place + i) (checkpoint_row here) (up_to_end runs.on.others) rows runs.on.rest

  next_row : IsNextRow header (drop (sought.place + i + 1) rows) (appended_at next new.at)
  next_row = subst (λ (own : List Row). IsNextRow header own (appended_at next new.at)) own (next_is header next new runs.on.others stands t)

  further : next.registers.address ≤ a → sought.place + i + 1 < sought.stop
  further below = later_stop rows a (sought.place + i + 1) sought.stop (omega (arith, runs.before)) (omega (arith, next_row.address, below)) sought.above

  pub goes_on : next.registers.address ≤ a → next.ends ≡ false → Runs header rows (appended_at next new.at) new a sought.stop (sought.place + (i + 1))
  goes_on below goes = grind (arith, runs_on, runs, stands, t, own, further)

  -- the sequence doesn't end before a row that is above the address
  pub no_end : next.registers.address ≤ a → next.ends ≡ true → ⊥
  no_end below last =
      let one : length (drop (sought.place + i + 1) rows) ≡ 1 = ap length (sym own) ∙ ap (λ (others : List Row). length (up_to_end others)) t.whole ∙ up_to_end-ends (appended_row next) t.rest last in
      none_there rows a sought.stop (omega (arith, one, length-drop (sought.place + i + 1) rows, further below)) sought.above

  abbrev found : ℕ → Reached
  found at = record { row = here.registers; next = appended_at next at; next_checkpoint = next_checkpoint }

  pub stops_above : (at : ℕ) → at ≡ new.at → a < next.registers.address → IsReached header rows (found at) × HoldsAddress a (found at)
  stops_above at e-at above = (
    record {
      passed = sought.place + i;
      behind = omega (arith, sought.near);
      is = record {
        is = ap (λ (own : List Row). checkpoint_row here ∷ own) (sym own) ∙ runs.on.rest;
        next = subst (λ (n : ℕ). IsNextRow header (drop (sought.place + i + 1) rows) (appended_at next n)) (sym e-at) next_row;
      };
    },
    (runs.below, above),
  )

-- what it returns where there is no next row, or none that can be read
module _ (header : LineHeader) (first here : Checkpoint) (old : Place) (next_checkpoint a i : ℕ)
    (given : RunsFrom header first here old next_checkpoint a i) (rows : List Row) (sought : IsSought header rows first next_checkpoint a) where
  abbrev read : Result (List Row) Bad
  read = rows_on header (record { registers = registers_shown here.registers; place = old })

  is_read : read ≡ Ok (given rows sought).on.others
  is_read = ap (λ (p : Place). rows_on header (record { registers = registers_shown here.registers; place = p })) (given rows sought).stands.is ∙ (given rows sought).on.appends

  pub no_none : (IsIn header old → read ≡ Ok []) → ⊥
  no_none none =
      let runs = given rows sought in
      let empty : runs.on.others ≡ [] = cc (is_read, none (in_program header here old runs.stands)) in
      let one : length (drop (sought.place + i) rows) ≡ 1 = ap length (sym runs.on.rest) ∙ ap (λ (others : List Row). length (checkpoint_row here ∷ up_to_end others)) empty in
      none_there rows a sought.stop (omega (arith, one, length-drop (sought.place + i) rows, runs.before)) sought.above

  pub no_fault : (told : Option Bad) → (IsIn header old → Tells told read) → ⊥
  no_fault told fault = grind (arith, in_program, is_read)

  pub no_more : 64 ≤ i → ⊥
  no_more h = omega (arith, h, (given rows sought).before, sought.soon)
