-- Where declarations begin: starts that are added, and how many there are.
use Rattle.std.proofs.Common.{◌≡◌, inl, inr, ◌∙◌, ℕ, zero, suc, ◌+◌, ◌<◌, ◌≤◌, Bool, cond, List, [], ◌∷◌, ◌++◌, length, map, drop, get_or, Option, Some, None, Ok, refl, sym, arith}
use Rattle.std.specs.Prelude.{fold, slice_get, sum, ◌==◌}
use Rattle.std.specs.Option.{option_or}
use Rattle.std.proofs.lemmas.Bool.{eqb-true, eqb-false}
use Rattle.std.proofs.lemmas.List.{length-append, length-drop, length_push}
use Rattle.std.proofs.lemmas.List.Sums.{sum-map, sum_by-append, sum_by-cons}
use Rattle.std.proofs.lemmas.Option.{same_Some}
use Rattle.dw_model.specs.Reading.{Place}
use Rattle.dw_model.specs.Abbrev.{Declaration, next_declaration}
use Rattle.dw_model.proofs.AdvanceLemmas.{declarations_advance}
use Rattle.dw_forms.specs.declared.declaration.Decl.{Decl}
use Rattle.dw_forms.specs.declared.run.Start.{Start}
use Rattle.dw_forms.specs.Declaration.{declaration_shown}
use Rattle.dw_forms.specs.Run.{ReadRun}
use Rattle.dw_forms.specs.Starts.{StartList, start_at, AreAdded, AreApart, AreRising}
use Rattle.dw_forms.specs.Store.{AreChained}
use Rattle.dw_forms.specs.StoreInside.{grown, rest_in, sizes_of, tables_of, whole}
use Rattle.dw_forms.proofs.OntoLemmas.{Stands, next-stands}

abbrev offsets_of : List Decl → List ℕ
offsets_of ds = map (λ (d : Decl). d.offset) ds

-- ---- the offsets of a run

left-of : (section : List ℕ) (p : Place) → Stands section p → length p.left + p.at ≡ length section
left-of section p s = grind (arith, length-drop)

goes-up : (section : List ℕ) (p t : Place) (d : Declaration) → Stands section p → next_declaration p ≡ Ok (Some d, t) → (p.at < t.at) × (p.at < length section)
goes-up section p t d s e = grind (arith, declarations_advance, left-of, next-stands)

-- each is in the section, and not before the run
pub in-section : (section : List ℕ) (p q : Place) (ds : List Decl) (k offset : ℕ) → Stands section p → AreChained p ds q → slice_get (offsets_of ds) k ≡ Some offset → (p.at ≤ offset) × (offset < length section)
in-section section p q [] k offset s h e = absurd cc
in-section section p q (d ∷ ds) zero offset s h e = grind (arith, goes-up, same_Some)
in-section section p q (d ∷ ds) (suc k) offset s h e =
    grind (arith, goes-up, next-stands, in-section section h.1 q ds k offset (next-stands section p h.1 (declaration_shown d) s h.2) h.3 e)

pub rising : (section : List ℕ) (p q : Place) (ds : List Decl) → Stands section p → AreChained p ds q → AreRising (offsets_of ds)
rising section p q [] s h j k a b less e f = absurd cc
rising section p q (d ∷ ds) s h j zero a b less e f = absurd (omega (arith, less))
rising section p q (d ∷ ds) s h zero (suc k) a b less e f =
    let up = goes-up section p h.1 (declaration_shown d) s h.2 in
    let same : p.at ≡ a = sym h.0 ∙ same_Some d.offset a e in
    let later = in-section section h.1 q ds k b (next-stands section p h.1 (declaration_shown d) s h.2) h.3 f in
    omega (arith, up.0, same, later.0)
rising section p q (d ∷ ds) s h (suc j) (suc k) a b less e f =
    rising section h.1 q ds (next-stands section p h.1 (declaration_shown d) s h.2) h.3 j k a b (omega (arith, less)) e f

-- ---- one start more

-- what an offset has after a start was added at a key
abbrev Adds : StartList → StartList → ℕ → Start → Type 0
Adds old new key start = (q : ℕ) (same : Bool) → (q == key) ≡ same → start_at new q ≡ cond same (Some start) (start_at old q)

appended : (old : StartList) (key : ℕ) (start : Start) (q : ℕ) → start_at (old ++ (key, start) ∷ []) q ≡ option_or (start_at old q) (cond (q == key) (Some start) None)
appended [] key start q = refl
appended (first ∷ old) key start q = grind (arith, appended old key start q)

pub or-none : {X : Type 0} (found : Option X) → option_or found None ≡ found
or-none found = grind arith

adds : (old : StartList) (key : ℕ) (start : Start) → start_at old key ≡ None → Adds old (old ++ (key, start) ∷ []) key start
adds old key start none q same e = grind (arith, appended, eqb-true, or-none)

one-offset : (offsets : List ℕ) (j k a : ℕ) → AreRising offsets → j < k → slice_get offsets j ≡ Some a → slice_get offsets k ≡ Some a → ⊥
one-offset offsets j k a rise less e f = omega (arith, rise j k a a less e f)

-- ---- starts are added

module _ (run : ℕ) (offsets : List ℕ) (first : StartList) where
  pub none-yet : (i key : ℕ) (old : StartList) → AreApart first offsets → AreRising offsets → AreAdded run i offsets first old → slice_get offsets i ≡ Some key → start_at old key ≡ None
  none-yet i key old apart rise added at = by_found (start_at old key) refl
    where
      by_found : (found : Option Start) → start_at old key ≡ found → found ≡ None
      by_found None e = refl
      by_found (Some s) e =
          elim (added.each key s e) [
            | inl before ↦ let none : Some s ≡ None = sym before ∙ apart i key at in absurd cc
            | inr mine ↦ absurd (one-offset offsets s.index i key rise mine.1 mine.2 at)
          ]

  pub added-one : (i key : ℕ) (start : Start) (old : StartList) → AreApart first offsets → AreRising offsets → AreAdded run i offsets first old → slice_get offsets i ≡ Some key → start.run ≡ run → start.index ≡ i → AreAdded run (i + 1) offsets first (old ++ (key, start) ∷ [])
  added-one i key start old apart rise added at of_run of_index =
      grind (arith, length_push, none-yet, eqb-true, adds, same_Some, eqb-false)

-- ---- how many there are

pub sum-more : (runs : List ReadRun) (run : ReadRun) → sum (sizes_of (runs ++ run ∷ [])) ≡ sum (sizes_of runs) + length run.declarations
sum-more runs run = grind (arith, sum-map, sum_by-append)

-- ---- how many a table has

abbrev Table : Type 0
Table = List Declaration

-- one more table, which isn't longer than a bound either
pushed-within : (tables : List Table) (table : Table) (n j : ℕ) → ((k : ℕ) → length (get_or tables k []) ≤ n) → length table ≤ n → length (get_or (tables ++ table ∷ []) j []) ≤ n
pushed-within [] table n zero each h = h
pushed-within [] table n (suc j) each h = omega arith
pushed-within (first ∷ tables) table n zero each h = each 0
pushed-within (first ∷ tables) table n (suc j) each h = pushed-within tables table n j (λ k. each (suc k)) h

drop-within : (i n : ℕ) (table : Table) → length table ≤ n → length (drop i table) ≤ n
drop-within i n table h = let size = length-drop i table in omega (arith, size, h)

rest-within : (tables : List Table) (rest : Option Start) (n : ℕ) → ((k : ℕ) → length (get_or tables k []) ≤ n) → length (rest_in tables rest) ≤ n
rest-within tables rest n each = grind (arith, drop-within)

tables-within : (runs : List ReadRun) (tables : List Table) (n k : ℕ) → ((k : ℕ) → length (get_or tables k []) ≤ n) → length (get_or (fold grown tables runs) k []) ≤ n + sum (sizes_of runs)
tables-within [] tables n k each = let here = each k in omega (arith, here)
tables-within (run ∷ runs) tables n k each =
    let size : ReadRun → ℕ = λ run. length run.declarations in
    let wider : (k : ℕ) → length (get_or tables k []) ≤ n + length run.declarations = λ k. let here = each k in omega (arith, here) in
    let rest = rest-within tables run.rest n each in
    let parts = length-append run.declarations (rest_in tables run.rest) in
    let whole_within : length (whole tables run) ≤ n + length run.declarations = omega (arith, rest, parts) in
    let others = tables-within runs (grown tables run) (n + length run.declarations) k (λ k. pushed-within tables (whole tables run) (n + length run.declarations) k wider whole_within) in
    let all = sum-map size (run ∷ runs) in
    let later = sum-map size runs in
    let first = sum_by-cons size run runs in
    omega (arith, others, all, later, first)

pub table-within : (runs : List ReadRun) (start : Start) → length (drop start.index (get_or (tables_of runs) start.run [])) ≤ sum (sizes_of runs)
table-within runs start =
    let within = tables-within runs [] 0 start.run none in
    drop-within start.index (sum (sizes_of runs)) (get_or (tables_of runs) start.run []) (omega (arith, within))
  where
    none : (k : ℕ) → length (get_or {A = Table} [] k []) ≤ 0
    none k = grind arith
