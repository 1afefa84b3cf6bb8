-- Declarations that are read once, and the tables that begin among them.
use Rattle.std.proofs.Common.{◌≡◌, ◌⊎◌, inl, inr, ◌∙◌, ℕ, zero, suc, ◌<◌, ◌≤◌, Bool, cond, List, [], ◌∷◌, ◌++◌, length, drop, get_or, map, Option, Some, None, Result, Ok, Err, refl, sym, ap, subst, arith}
use Rattle.std.specs.Prelude.{IfErr, IfSome, IsOk, IsSome, slice_get, option_map, sum}
use Rattle.std.proofs.lemmas.Bool.{le-leb, leb-true}
use Rattle.std.proofs.Math.Seq.{get_or-append_seam}
use Rattle.std.proofs.lemmas.List.{drop-append-le, get_or_append_left, length_push, map_push, length-map}
use Rattle.std.proofs.lemmas.List.Sums.{fold-append}
use Rattle.std.proofs.lemmas.Option.{same_Some, slice_get_within}
use Rattle.dw_model.specs.Faults.{Fault, ends_early}
use Rattle.dw_model.specs.Results.{◌>>=◌}
use Rattle.dw_model.specs.Reading.{Place, bytes_at, items, start}
use Rattle.dw_model.specs.Abbrev.{Declaration, declared, next_declaration, abbreviations}
use Rattle.dw_model.proofs.StepLemmas.{bind_ok, ok_is}
use Rattle.dw_model.proofs.AdvanceLemmas.{declarations_advance}
use Rattle.dw_model.proofs.ItemsLemmas.{items-turn}
use Rattle.dw_forms.specs.declared.declaration.Decl.{Decl}
use Rattle.dw_forms.specs.declared.fault.FormFault.{FormFault}
use Rattle.dw_forms.specs.declared.run.Start.{Start}
use Rattle.dw_forms.specs.Fault.{HidesNoFault}
use Rattle.dw_forms.specs.Declaration.{declaration_shown}
use Rattle.dw_forms.specs.Run.{ReadRun}
use Rattle.dw_forms.specs.Starts.{StartList, start_at, AreAdded, AreApart, AreBelow}
use Rattle.dw_forms.specs.Store.{Read, table_from, HasTable, IsKept, AreChained, EndsAt, IsRunAt}
use Rattle.dw_forms.specs.declared.store.AbbrevStore.TheInside.{Inside}
use Rattle.dw_forms.specs.StoreInside.{rest_in, whole, grown, tables_of, sizes_of, IsTabled, AreTabled, IsStored}
use Rattle.dw_forms.proofs.OntoLemmas.{place_at, Stands, next-stands}
use Rattle.dw_forms.proofs.StartLemmas.{in-section, sum-more}

abbrev all_at : Place → Result (List Declaration × Place) Fault
all_at p = items (λ p. p.left) next_declaration p

-- ---- a run is read

pub chained-more : (p q t : Place) (ds : List Decl) (d : Decl) → AreChained p ds q → d.offset ≡ q.at → next_declaration q ≡ Ok (Some (declaration_shown d), t) → AreChained p (ds ++ d ∷ []) t
chained-more p q t [] d h at e = grind arith
chained-more p q t (x ∷ ds) d h at e = (h.0, h.1, h.2, chained-more h.1 q t ds d h.3 at e)

pub found-one : (q t : Place) (found : Option Decl) (d : Decl) → found ≡ Some d → next_declaration q ≡ Ok (option_map declaration_shown found, t) → next_declaration q ≡ Ok (Some (declaration_shown d), t)
found-one q t found d is e = e ∙ ap (λ (found : Option Decl). Ok (option_map declaration_shown found, t)) is

-- all declarations from the first of a run on
chained-items : (p q t : Place) (ds : List Decl) (rest : List Declaration) → AreChained p ds q → all_at q ≡ Ok (rest, t) → all_at p ≡ Ok (map declaration_shown ds ++ rest, t)
chained-items p q t [] rest h e = ap all_at h ∙ e
chained-items p q t (d ∷ ds) rest h e =
    rw (items-turn next_declaration (λ p. p.left) declarations_advance p, h.2, chained-items h.1 q t ds rest h.3 e) refl

chained-stands : (section : List ℕ) (p q : Place) (ds : List Decl) → Stands section p → AreChained p ds q → Stands section q
chained-stands section p q [] s h = subst (Stands section) h s
chained-stands section p q (d ∷ ds) s h =
    chained-stands section h.1 q ds (next-stands section p h.1 (declaration_shown d) s h.2) h.3

-- what is read at a place of the section is the table there
table-at : (section : List ℕ) (p t : Place) (all : List Declaration) → Stands section p → all_at p ≡ Ok (all, t) → abbreviations section p.at ≡ Ok all
unfolding abbreviations
table-at section p t all s e = grind (arith, place_at, le-leb)

read-at : (section : List ℕ) (p : Place) (all : List Declaration) → Stands section p → abbreviations section p.at ≡ Ok all → (t : Place) × (all_at p ≡ Ok (all, t))
unfolding abbreviations
read-at section p all s e =
    let read : Result (List Declaration) Fault = all_at (place_at section p.at) >>= λ found. Ok found.0 in
    let given : read ≡ Ok all = ap (λ (within : Bool). cond {A = Result (List Declaration) Fault} within read (Err ends_early)) (sym (le-leb p.at (length section) s.1)) ∙ e in
    let found = bind_ok (all_at (place_at section p.at)) (λ found. Ok found.0) all given in
    let same : found.0.0 ≡ all = ok_is found.0.0 all found.2 in
    (found.0.1, ap all_at s.0 ∙ found.1 ∙ ap (λ (all : List Declaration). Ok (all, found.0.1)) same)

-- the table that begins with each declaration of a run
tails : (section : List ℕ) (p q t : Place) (ds : List Decl) (rest : List Declaration) (j offset : ℕ) → Stands section p → AreChained p ds q → all_at q ≡ Ok (rest, t) → slice_get (map (λ (d : Decl). d.offset) ds) j ≡ Some offset
    → abbreviations section offset ≡ Ok (drop j (map declaration_shown ds ++ rest))
tails section p q t [] rest j offset s h e at = absurd cc
tails section p q t (d ∷ ds) rest zero offset s h e at =
    let same : p.at ≡ offset = sym h.0 ∙ same_Some d.offset offset at in
    ap (abbreviations section) (sym same) ∙ table-at section p t (map declaration_shown (d ∷ ds) ++ rest) s (chained-items p q t (d ∷ ds) rest h e)
tails section p q t (d ∷ ds) rest (suc j) offset s h e at =
    tails section h.1 q t ds rest j offset (next-stands section p h.1 (declaration_shown d) s h.2) h.3 e at

-- ---- lists that grow

at-last : {X : Type 0} (xs : List X) (y d : X) (k : ℕ) → k ≡ length xs → get_or (xs ++ y ∷ []) k d ≡ y
at-last xs y d k h = ap (λ (n : ℕ). get_or (xs ++ y ∷ []) n d) h ∙ get_or-append_seam xs y [] d

pub get-pushed : {X : Type 0} (xs : List X) (y z : X) (k : ℕ) → slice_get (xs ++ y ∷ []) k ≡ Some z → ((k < length xs) × (slice_get xs k ≡ Some z)) ⊎ ((k ≡ length xs) × (y ≡ z))
get-pushed [] y z zero e = inr (refl, same_Some y z e)
get-pushed [] y z (suc k) e = absurd cc
get-pushed (x ∷ xs) y z zero e = inl (omega arith, e)
get-pushed (x ∷ xs) y z (suc k) e = grind (arith, get-pushed xs y z k e)

pub apart-more : (starts : StartList) (ds : List Decl) (d : Decl) (q : Place) → AreApart starts (map (λ (d : Decl). d.offset) ds) → d.offset ≡ q.at → start_at starts q.at ≡ None → AreApart starts (map (λ (d : Decl). d.offset) (ds ++ d ∷ []))
apart-more starts ds d q apart same none k offset e = grind (arith, map_push, get-pushed)

-- ---- a run is added to others

abbrev pub shown : List ℕ → List ReadRun → Read
shown section runs = record { section = section; sizes = sizes_of runs; tables = tables_of runs; starts = [] }

abbrev pub HaveTables : List ℕ → List ReadRun → StartList → Type 0
HaveTables section runs starts = (offset : ℕ) (start : Start) → start_at starts offset ≡ Some start → HasTable (shown section runs) offset start

module _ (section : List ℕ) (runs : List ReadRun) (run : ReadRun) (count : length (tables_of runs) ≡ length runs) where
  tables-more : tables_of (runs ++ run ∷ []) ≡ grown (tables_of runs) run
  tables-more = fold-append grown [] runs (run ∷ [])

  sizes-more : sizes_of (runs ++ run ∷ []) ≡ sizes_of runs ++ length run.declarations ∷ []
  sizes-more = map_push (λ (run : ReadRun). length run.declarations) runs run

  pub count-more : length (tables_of (runs ++ run ∷ [])) ≡ length (runs ++ run ∷ [])
  count-more = grind (arith, tables-more, length_push)

  table-before : (k : ℕ) → k < length runs → get_or (tables_of (runs ++ run ∷ [])) k [] ≡ get_or (tables_of runs) k []
  table-before k h = grind (arith, tables-more, get_or_append_left)

  table-last : (k : ℕ) → k ≡ length runs → get_or (tables_of (runs ++ run ∷ [])) k [] ≡ whole (tables_of runs) run
  table-last k h = grind (arith, tables-more, at-last)

  size-before : (k : ℕ) → k < length runs → get_or (sizes_of (runs ++ run ∷ [])) k 0 ≡ get_or (sizes_of runs) k 0
  size-before k h = grind (arith, sizes-more, get_or_append_left, length-map)

  size-last : (k : ℕ) → k ≡ length runs → get_or (sizes_of (runs ++ run ∷ [])) k 0 ≡ length run.declarations
  size-last k h = grind (arith, sizes-more, at-last, length-map)

  pub kept-more : IsKept (shown section runs) (shown section (runs ++ run ∷ []))
  kept-more start h = grind (arith, count-more, length_push, size-before, table-before)

  -- what follows a run is what followed it
  rest-same : (rest : Option Start) → IfSome rest (λ start. start.run < length runs) → rest_in (tables_of (runs ++ run ∷ [])) rest ≡ rest_in (tables_of runs) rest
  rest-same rest h = grind (arith, table-before)

  earlier-same : (rest : Option Start) (k : ℕ) → k ≤ length runs → IfSome rest (λ start. (start.run < k) × (start.index ≤ get_or (sizes_of runs) start.run 0)) → IfSome rest (λ start. (start.run < k) × (start.index ≤ get_or (sizes_of (runs ++ run ∷ [])) start.run 0))
  earlier-same rest k h e = grind (arith, size-before)

  below : (rest : Option Start) (k : ℕ) → k ≤ length runs → IfSome rest (λ start. (start.run < k) × (start.index ≤ get_or (sizes_of runs) start.run 0)) → IfSome rest (λ start. start.run < length runs)
  below rest k h e = grind arith

  each-more : AreTabled runs → IfSome run.rest (λ start. (start.run < length runs) × (start.index ≤ get_or (sizes_of runs) start.run 0)) → (k : ℕ) (one : ReadRun) → slice_get (runs ++ run ∷ []) k ≡ Some one → IsTabled (runs ++ run ∷ []) k one
  each-more are leads k one e = elim (get-pushed runs run one k e) [ inl h ↦ old h.0 h.1 | inr h ↦ subst (λ (one : ReadRun). IsTabled (runs ++ run ∷ []) k one) h.1 (new h.0) ]
    where
      old : k < length runs → slice_get runs k ≡ Some one → IsTabled (runs ++ run ∷ []) k one
      old within there =
          let is = are.each k one there in
          record {
            table = table-before k within ∙ is.table ∙ ap (λ (rest : List Declaration). one.declarations ++ rest) (sym (rest-same one.rest (below one.rest k (omega (arith, within)) is.earlier)));
            earlier = earlier-same one.rest k (omega (arith, within)) is.earlier;
          }

      new : k ≡ length runs → IsTabled (runs ++ run ∷ []) k run
      new last = grind (arith, table-last, rest-same, below, earlier-same)

  pub tabled-more : AreTabled runs → IfSome run.rest (λ start. (start.run < length runs) × (start.index ≤ get_or (sizes_of runs) start.run 0)) → AreTabled (runs ++ run ∷ [])
  tabled-more are leads = record { count = count-more; each = each-more are leads }

  still : (offset : ℕ) (start : Start) → HasTable (shown section runs) offset start → HasTable (shown section (runs ++ run ∷ [])) offset start
  still offset start h =
      let kept = kept-more start h.0 in
      let size = kept.1 in
      (kept.0, omega (arith, h.1, size), h.2 ∙ ap Ok (sym kept.2))

  -- the table that begins with a declaration of the run
  own : (p q t : Place) (ds : List Decl) (offset : ℕ) (start : Start) → run.declarations ≡ map declaration_shown ds → Stands section p → AreChained p ds q → all_at q ≡ Ok (rest_in (tables_of runs) run.rest, t) → start.run ≡ length runs
      → slice_get (map (λ (d : Decl). d.offset) ds) start.index ≡ Some offset → HasTable (shown section (runs ++ run ∷ [])) offset start
  own p q t ds offset start is s h e last at =
      grind (arith, slice_get_within, size-last, length-map, count-more, length_push, table-last, tails)

  first-own : (p q t : Place) (ds : List Decl) → run.declarations ≡ map declaration_shown ds → Stands section p → AreChained p ds q → all_at q ≡ Ok (rest_in (tables_of runs) run.rest, t) → HasTable (shown section (runs ++ run ∷ [])) p.at (record { run = length runs; index = 0 })
  first-own p q t ds is s h e =
      let more = count-more in
      let grows = length_push runs run in
      let table : get_or (tables_of (runs ++ run ∷ [])) (length runs) [] ≡ map declaration_shown ds ++ rest_in (tables_of runs) run.rest = table-last (length runs) refl ∙ ap (λ (ds : List Declaration). ds ++ rest_in (tables_of runs) run.rest) is in
      (omega (arith, more, grows), omega arith, table-at section p t (map declaration_shown ds ++ rest_in (tables_of runs) run.rest) s (chained-items p q t ds (rest_in (tables_of runs) run.rest) h e) ∙ ap Ok (sym table))

  pub starts-more : (p q t : Place) (ds : List Decl) (n : ℕ) (offsets : List ℕ) (old new : StartList) → run.declarations ≡ map declaration_shown ds → n ≡ length runs → offsets ≡ map (λ (d : Decl). d.offset) ds → Stands section p → AreChained p ds q
      → all_at q ≡ Ok (rest_in (tables_of runs) run.rest, t) → AreAdded n (length offsets) offsets old new → HaveTables section runs old → HaveTables section (runs ++ run ∷ []) new
  starts-more p q t ds n offsets old new is last those s h e added have offset start found =
      elim (added.each offset start found) [
        | inl before ↦ still offset start (have offset start before)
        | inr mine ↦ own p q t ds offset start is s h e (mine.0 ∙ last) (ap (λ (xs : List ℕ). slice_get xs start.index) (sym those) ∙ mine.2)
      ]

  -- the run that was added
  pub added-run : (items : List ReadRun) (n : ℕ) (found : ReadRun) → items ≡ runs ++ run ∷ [] → n ≡ length runs → found ≡ get_or items n found → found ≡ run
  added-run items n found same last is = is ∙ ap (λ (xs : List ReadRun). get_or xs n found) same ∙ at-last runs run found n last

  pub first-of : (items : List ReadRun) (n offset : ℕ) (p q t : Place) (ds : List Decl) → items ≡ runs ++ run ∷ [] → n ≡ length runs → run.declarations ≡ map declaration_shown ds → Stands section p × (p.at ≡ offset) → AreChained p ds q → all_at q ≡ Ok (rest_in (tables_of runs) run.rest, t)
      → HasTable (shown section items) offset (record { run = n; index = 0 })
  first-of items n offset p q t ds same last is s h e =
      let here = first-own p q t ds is s.0 h e in
      let runs_same = subst (λ (items : List ReadRun). HasTable (shown section items) p.at (record { run = length runs; index = 0 })) (sym same) here in
      let run_same = subst (λ (n : ℕ). HasTable (shown section items) p.at (record { run = n; index = 0 })) (sym last) runs_same in
      subst (λ (offset : ℕ). HasTable (shown section items) offset (record { run = n; index = 0 })) s.1 run_same

  -- what was read of a table is there afterwards, unless the table is empty
  pub read-there : (items : List ReadRun) (n offset : ℕ) (p q : Place) (ds : List Decl) (rest : Option Start) (offsets : List ℕ) (old new : StartList) → items ≡ runs ++ run ∷ [] → n ≡ length runs → run.declarations ≡ map declaration_shown ds → run.rest ≡ rest → offsets ≡ map (λ (d : Decl). d.offset) ds
      → p.at ≡ offset → AreChained p ds q → EndsAt old q rest → start_at old offset ≡ None → AreAdded n (length offsets) offsets old new → IsSome (start_at new offset) ⊎ (get_or (tables_of items) n [] ≡ [])
  read-there items n offset p q [] rest offsets old new same last is on those at h end none added =
      grind (arith, table-last)
  read-there items n offset p q (d ∷ ds) rest offsets old new same last is on those at h end none added =
      let first : slice_get offsets 0 ≡ Some offset = ap (λ (xs : List ℕ). slice_get xs 0) those ∙ ap Some (h.0 ∙ at) in
      inl (added.there 0 offset (slice_get_within offsets 0 offset first) first)

-- ---- where a run ends

pub ended : (section : List ℕ) (runs : List ReadRun) (starts : StartList) (q : Place) (rest : Option Start) → HaveTables section runs starts → Stands section q → EndsAt starts q rest → (t : Place) × (all_at q ≡ Ok (rest_in (tables_of runs) rest, t))
ended section runs starts q None have s e =
    (e.0, rw (items-turn next_declaration (λ p. p.left) declarations_advance q, e.1) refl)
ended section runs starts q (Some start) have s e =
    read-at section q (table_from (shown section runs) start) s (have q.at start e).2

pub leads : (section : List ℕ) (runs : List ReadRun) (starts : StartList) (q : Place) (rest : Option Start) → length (tables_of runs) ≡ length runs → HaveTables section runs starts → EndsAt starts q rest → IfSome rest (λ start. (start.run < length runs) × (start.index ≤ get_or (sizes_of runs) start.run 0))
leads section runs starts q None count have e = tt
leads section runs starts q (Some start) count have e =
    let there = have q.at start e in
    (omega (arith, there.0, count), there.1)

-- ---- a table is read

pub stands-taken : (section bytes : List ℕ) (offset : ℕ) (first p q : Place) → first ≡ start section → p ≡ q → bytes_at offset first ≡ Some (bytes, q) → Stands section p × (p.at ≡ offset)
stands-taken section bytes offset first p q begun same e = grind (arith, Stands, same_Some, leb-true)

pub run-ends : (section : List ℕ) (runs : List ReadRun) (starts : StartList) (p : Place) (ds : List Decl) (rest rest_of_run : Option Start) → HaveTables section runs starts → Stands section p → rest_of_run ≡ rest → (h : IsRunAt starts p ds rest)
    → (t : Place) × (all_at h.0 ≡ Ok (rest_in (tables_of runs) rest_of_run, t))
run-ends section runs starts p ds rest rest_of_run have s same h =
    let end = ended section runs starts h.0 rest have (chained-stands section p h.0 ds s h.1) h.2 in
    (end.0, end.1 ∙ ap (λ (rest : Option Start). Ok (rest_in (tables_of runs) rest, end.0)) (sym same))

pub readable : (section : List ℕ) (runs : List ReadRun) (starts : StartList) (p : Place) (ds : List Decl) (rest : Option Start) (offset : ℕ) → HaveTables section runs starts → Stands section p × (p.at ≡ offset) → IsRunAt starts p ds rest → IsOk (abbreviations section offset)
readable section runs starts p ds rest offset have s h =
    let end = run-ends section runs starts p ds rest rest have s.0 refl h in
    let table = table-at section p end.0 (map declaration_shown ds ++ rest_in (tables_of runs) rest) s.0 (chained-items p h.0 end.0 ds (rest_in (tables_of runs) rest) h.1 end.1) in
    subst (λ (given : Result (List Declaration) Fault). IsOk given) (sym (ap (abbreviations section) (sym s.1) ∙ table)) refl

pub hides : {A X : Type 0} (result : Result X FormFault) (given : Result A Fault) → IsOk given → IfErr result (λ fault. HidesNoFault fault given)
hides result given read = grind arith

pub below-more : (section : List ℕ) (p q : Place) (ds : List Decl) (run count : ℕ) (offsets : List ℕ) (old new : StartList) → offsets ≡ map (λ (d : Decl). d.offset) ds → Stands section p → AreChained p ds q → AreAdded run count offsets old new → AreBelow (length section) old → AreBelow (length section) new
below-more section p q ds run count offsets old new those s h added below offset start found =
    elim (added.each offset start found) [
      | inl before ↦ below offset start before
      | inr mine ↦ (in-section section p q ds start.index offset s h (ap (λ (xs : List ℕ). slice_get xs start.index) (sym those) ∙ mine.2)).1
    ]

-- as many starts as declarations
pub counted-more : (runs : List ReadRun) (run : ReadRun) (ds : List Decl) (n : ℕ) (offsets : List ℕ) (old new : StartList) → run.declarations ≡ map declaration_shown ds → offsets ≡ map (λ (d : Decl). d.offset) ds → AreAdded n (length offsets) offsets old new → length old ≡ sum (sizes_of runs)
    → length new ≡ sum (sizes_of (runs ++ run ∷ []))
counted-more runs run ds n offsets old new is those added counted = grind (arith, length-map, sum-more)

pub stored : (store : Inside) (runs : List ReadRun) → store.runs.items ≡ runs → AreTabled runs → length store.starts ≡ sum (sizes_of runs) → AreBelow (length store.section.now) store.starts → HaveTables store.section.now runs store.starts → IsStored store
stored store runs same are counted below starts = record {
  tabled = subst AreTabled (sym same) are;
  counted = counted ∙ ap (λ (runs : List ReadRun). sum (sizes_of runs)) (sym same);
  below = below;
  starts = subst (λ (runs : List ReadRun). HaveTables store.section.now runs store.starts) (sym same) starts;
}

-- ---- a code is found in a table

declared-here : (xs ys : List Declaration) (code : ℕ) (d : Declaration) → declared xs code ≡ Some d → declared (xs ++ ys) code ≡ Some d
declared-here [] ys code d e = absurd cc
declared-here (x ∷ xs) ys code d e = grind (arith, declared-here xs ys code d)

declared-later : (xs ys : List Declaration) (code : ℕ) → declared xs code ≡ None → declared (xs ++ ys) code ≡ declared ys code
declared-later [] ys code e = refl
declared-later (x ∷ xs) ys code e = grind (arith, declared-later xs ys code)

-- the table from a start on
abbrev pub table_in : List ReadRun → Start → List Declaration
table_in runs start = drop start.index (get_or (tables_of runs) start.run [])

abbrev pub Within : List ReadRun → Start → Type 0
Within runs start = start.index ≤ get_or (sizes_of runs) start.run 0

size-at : (runs : List ReadRun) (k : ℕ) (run : ReadRun) → slice_get runs k ≡ Some run → get_or (sizes_of runs) k 0 ≡ length run.declarations
size-at [] k run e = absurd cc
size-at (x ∷ runs) zero run e = ap (λ (run : ReadRun). length run.declarations) (same_Some x run e)
size-at (x ∷ runs) (suc k) run e = size-at runs k run e

-- a table is the rest of its run, and what follows that
parts : (runs : List ReadRun) (start : Start) (run : ReadRun) → AreTabled runs → Within runs start → slice_get runs start.run ≡ Some run → table_in runs start ≡ drop start.index run.declarations ++ rest_in (tables_of runs) run.rest
parts runs start run are within there =
    let size = size-at runs start.run run there in
    ap (drop start.index) (are.each start.run run there).table ∙ drop-append-le start.index run.declarations (rest_in (tables_of runs) run.rest) (omega (arith, within, size))

pub run-there : (runs : List ReadRun) (k : ℕ) (d : ReadRun) → k < length runs → slice_get runs k ≡ Some (get_or runs k d)
run-there [] k d h = absurd (omega (arith, h))
run-there (x ∷ runs) zero d h = refl
run-there (x ∷ runs) (suc k) d h = run-there runs k d (omega (arith, h))

pub found-here : (runs : List ReadRun) (start : Start) (run : ReadRun) (code : ℕ) (d : Declaration) → AreTabled runs → Within runs start → slice_get runs start.run ≡ Some run → declared (drop start.index run.declarations) code ≡ Some d → declared (table_in runs start) code ≡ Some d
found-here runs start run code d are within there e =
    ap (λ (table : List Declaration). declared table code) (parts runs start run are within there) ∙ declared-here (drop start.index run.declarations) (rest_in (tables_of runs) run.rest) code d e

pub found-later : (runs : List ReadRun) (start : Start) (run : ReadRun) (code : ℕ) → AreTabled runs → Within runs start → slice_get runs start.run ≡ Some run → declared (drop start.index run.declarations) code ≡ None → declared (table_in runs start) code ≡ declared (rest_in (tables_of runs) run.rest) code
found-later runs start run code are within there e =
    ap (λ (table : List Declaration). declared table code) (parts runs start run are within there) ∙ declared-later (drop start.index run.declarations) (rest_in (tables_of runs) run.rest) code e

pub leads-back : (runs : List ReadRun) (k : ℕ) (run : ReadRun) (next : Start) → AreTabled runs → slice_get runs k ≡ Some run → run.rest ≡ Some next → (next.run < k) × Within runs next
leads-back runs k run next are there e =
    subst (λ (rest : Option Start). IfSome rest (λ start. (start.run < k) × (start.index ≤ get_or (sizes_of runs) start.run 0))) e (are.each k run there).earlier
