-- Long ways of a program, kept and found again.
use Rattle.std.proofs.Common.{◌≡◌, ℕ, ◌+◌, ◌<◌, Bool, false, List, [], ◌∷◌, ◌++◌, length-append, arith}
use Rattle.std.specs.Prelude.{◌&&◌, ◌==◌, not}
use Rattle.std.proofs.lemmas.Bool.Decides.{nat_tests}
use Rattle.std.proofs.lemmas.List.Elements.{All-nil, All-push}
use Rattle.dw_model.specs.LineHeader.{LineHeader}
use Rattle.dw_model.specs.Reading.{Place, start}
use Rattle.dw_line.specs.declared.checkpoints.Checkpoint.{Checkpoint}
use Rattle.dw_line.specs.declared.leaps.Leap.{Leap}
use Rattle.dw_line.specs.declared.machine.Appended.{Appended}
use Rattle.dw_line.specs.declared.registers.Registers.{Registers}
use Rattle.dw_line.specs.Leaps.{IsLeap, FewLeaps}
use Rattle.dw_line.proofs.MachineLemmas.{Passes, passes, passes_more, passes_none}
use Rattle.dw_line.proofs.ProgramLemmas.{place_is}
use Rattle.dw_line.specs.Machine.{IsIn, IsNext, state_at}

-- what the code's test of two checkpoints says
abbrev pub same_checkpoint : Checkpoint → Checkpoint → Bool
same_checkpoint a b =
    ((a.registers.address == b.registers.address) && ((a.registers.file == b.registers.file) && ((a.registers.line == b.registers.line) && (a.registers.column == b.registers.column)))) && (a.place == b.place)

pub are_same : (a b : Checkpoint) → false ≡ not (same_checkpoint a b) → a ≡ b
are_same a b e = grind (arith, nat_tests)

-- the way to a row from a place of the program to another
abbrev pub way : Registers → ℕ → Appended → ℕ → Leap
way registers from next place =
    record { from = record { registers = registers; place = from }; next = next; place = place }

pub is_leap : (header : LineHeader) (registers : Registers) (old new : Place) (next : Appended) → IsIn header old → IsIn header new → IsNext header (state_at registers old) next new
    → IsLeap header (way registers old.at next new.at)
is_leap header registers old new next from to is = grind arith

-- What is known while a program is run: the place is in it, and the long ways up to there.
pub record Leaping (header : LineHeader) (leaps : List Leap) (p : Place) : Type 0 where
  pub place : Passes (start header.program) p
  pub few : FewLeaps header p.at leaps

pub begins : (header : LineHeader) (leaps : List Leap) (p : Place) → leaps ≡ [] → p ≡ start header.program → Leaping header leaps p
begins header leaps p none first = rw (none, first) (record { place = passes_none (start header.program); few = record { are = All-nil (IsLeap header); few = omega arith } })

-- a row later, behind a long way or a short one
module _ (header : LineHeader) (leaps : List Leap) (registers : Registers) (old new : Place) (next : Appended) (is : Leaping header leaps old) (row : IsNext header (state_at registers old) next new) where
  place : Passes (start header.program) new
  place = passes (start header.program) new (passes_more (start header.program) old new is.place row.spans)

  pub goes_on : Leaping header leaps new
  goes_on = record { place = place; few = record { are = is.few.are; few = omega (arith, is.few.few, row.spans.1.1) } }

  pub leaps_on : (from to : ℕ) → from ≡ old.at → to ≡ new.at → from + 64 < to → Leaping header (leaps ++ way registers from next to ∷ []) new
  leaps_on from to e f long =
      let one = is_leap header registers old new next (place_is header.program old is.place) (place_is header.program new place) row in
      let leap = way registers old.at next new.at in
      let same : way registers from next to ≡ leap = cc in
      rw same (record { place = place; few = record { are = All-push (IsLeap header) leaps leap is.few.are one; few = omega (arith, is.few.few, long, e, f, length-append leaps (leap ∷ [])) } })
