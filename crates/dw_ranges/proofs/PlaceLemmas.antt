-- A list that goes on at a place is the one that begins there.
use Rattle.std.proofs.Common.{rules, ◌≡◌, ℕ, cond, ◌≤◌, Bool, List, [], ◌∷◌, length, length-append, length-drop, drop, Option, Some, None, Result, Ok, refl, subst, arith}
use Rattle.std.specs.Prelude.{ok_or, nat_eq, ◌==◌}
use Rattle.std.specs.Map.{lookup}
use Rattle.std.specs.List.{AllByRecursion}
use Rattle.std.proofs.lemmas.Bool.{le-leb}
use Rattle.std.proofs.lemmas.List.{drop-drop, drop_at}
use Rattle.std.proofs.lemmas.Option.{same_Some}
use Rattle.dw_model.specs.declared.dwarf.TheConstants as constants
use Rattle.dw_model.specs.Results.{◌>>=◌}
use Rattle.dw_model.specs.Reading.{Place, Between, number_at}
use Rattle.dw_model.specs.Leb.{uleb_at}
use Rattle.dw_model.specs.Faults.{Bad, bad}
use Rattle.dw_model.specs.Text.{Tables, Bases}
use Rattle.dw_model.specs.Ranges.{RangeEntry, Operand, leb, eight_bytes, one, two, operands, next_range_entry}
use Rattle.dw_model.proofs.StepLemmas.{bind_ok, ok_or-ok}
use Rattle.dw_model.proofs.AdvanceLemmas.{ends_at, either, past_none}
use Rattle.dw_model.proofs.InstructionLemmas.{or_fault-ok}
use Rattle.dw_model.proofs.LebReading.{uleb-spans}
use Rattle.dw_model.proofs.NumberLemmas.{number_at-spans}
use Rattle.dw_ranges.specs.Step.{Outcome, place_at, step}
use Rattle.dw_ranges.specs.NextOutcome.{next_outcome}
use Rattle.dw_ranges.proofs.ListLemmas.{behind-entry}

-- what holds of each value of a table holds of the one that is found
found_in : {X : Type 0} (P : X → Type 0) (test : ℕ → Bool) (table : List (ℕ × X)) (x : X) → AllByRecursion (λ row. P row.1) table → lookup test table ≡ Some x → P x
found_in P test [] x all e = grind arith
found_in {X} P test (row ∷ table) x all e = grind (arith, either, same_Some, (found_in {X = X} P test table))

-- the place is that of its offset in a section
pub record IsIn (section : List ℕ) (p : Place) : Type 0 where
  pub within : p.at ≤ length section
  pub left : p.left ≡ drop p.at section

pub in-place : (section : List ℕ) (p : Place) → IsIn section p → place_at section p.at ≡ Ok p
in-place section p is = grind (arith, le-leb)

module _ (section : List ℕ) where
  in-on : (p q : Place) (piece : List ℕ) → Between p piece q → IsIn section p → IsIn section q
  in-on p q piece b is = grind (arith, (drop-drop (length piece) p.at section), (drop_at piece q.left (length piece) refl), (length-drop p.at section), (length-append piece q.left))

  abbrev Stays : {X : Type 0} → (Place → Result (X × Place) Bad) → Type 0
  Stays {X} read = (p : Place) (x : X × Place) → read p ≡ Ok x → IsIn section p → IsIn section x.1

  leb-in : Stays leb
  leb-in p x e is = in-on p x.1 _ (uleb-spans p x.1 x.0 (or_fault-ok bad (uleb_at p) x e)).1 is

  number-in : (n : ℕ) (p : Place) (x : ℕ × Place) → ok_or (number_at n p) bad ≡ Ok x → IsIn section p → IsIn section x.1
  number-in n p x e is = in-on p x.1 _ (number_at-spans n p x (ok_or-ok (number_at n p) bad x e)).1 is

  eight-in : Stays eight_bytes
  eight-in p x e is = number-in 8 p x e is

  one-in : (first : Operand) (make : ℕ → RangeEntry) → Stays first → Stays (one first make)
  one-in first make step p x e is = grind (arith, bind_ok, ends_at)

  two-in : (first second : Operand) (make : ℕ → ℕ → RangeEntry) → Stays first → Stays second → Stays (two first second make)
  two-in first second make step other p x e is = grind (arith, bind_ok, ends_at, (λ (a : ℕ × Place). step p a), (λ (q : Place) (b : ℕ × Place). other q b))

  operands-in : AllByRecursion (λ row. Stays row.1) operands
  operands-in = search (rules, one-in, two-in, leb-in, eight-in)

  entry-in : (p t : Place) (item : RangeEntry) → next_range_entry p ≡ Ok (Some item, t) → IsIn section p → IsIn section t
  unfolding next_range_entry
  entry-in p t item e is =
      let entry : Place → (Place → Result (RangeEntry × Place) Bad) → Result (Option RangeEntry × Place) Bad = λ q read. read q >>= λ entry. Ok (Some entry.0, entry.1) in
      let rest : ℕ × Place → Result (Option RangeEntry × Place) Bad = λ code. cond {A = Result (Option RangeEntry × Place) Bad} (code.0 == constants.DW_RLE_end_of_list) (Ok (None, code.1)) (ok_or (lookup (nat_eq code.0) operands) bad >>= entry code.1) in
      let code = bind_ok (ok_or (number_at 1 p) bad) rest (Some item, t) e in
      let more = past_none (code.0.0 == constants.DW_RLE_end_of_list) code.0.1 (ok_or (lookup (nat_eq code.0.0) operands) bad >>= entry code.0.1) item t code.2 in
      let read = bind_ok (ok_or (lookup (nat_eq code.0.0) operands) bad) (entry code.0.1) (Some item, t) more in
      let some = ok_or-ok (lookup (nat_eq code.0.0) operands) bad read.0 read.1 in
      let found = bind_ok (read.0 code.0.1) (λ entry. Ok (Some entry.0, entry.1)) (Some item, t) read.2 in
      let step : Stays read.0 = found_in (λ read. Stays read) (nat_eq code.0.0) operands read.0 operands-in some in
      subst (IsIn section) (ends_at (Some found.0.0) (Some item) found.0.1 t found.2)
      (step code.0.1 found.0 found.1 (number-in 1 p code.0 code.1 is))

  -- a list goes on in its section
  pub outcome-in : (tables : Tables) (bases : Bases) (base : Result ℕ Bad) (p q : Place) (o : Outcome) → next_outcome tables bases base p ≡ Ok (Some o, q) → IsIn section p → IsIn section q
  outcome-in tables bases base p q o e is = behind-entry tables bases base q o (IsIn section) (next_range_entry p) e (λ entry r read. entry-in p r entry read is)
