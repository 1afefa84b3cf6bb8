-- The pairs that were read once are read again.
use Rattle.std.proofs.Common.{◌≡◌, ◌∙◌, ◌+◌, ◌-◌, ◌<◌, ℕ, suc, List, [], ◌∷◌, length, map, Option, Some, None, Result, Ok, refl, sym, ap, subst, arith}
use Rattle.std.specs.Prelude.{option_map, slice_index_or}
use Rattle.std.proofs.lemmas.List.{length-map}
use Rattle.dw_model.specs.Faults.{Fault}
use Rattle.dw_model.specs.Leb.{uleb_at}
use Rattle.dw_model.specs.Reading.{Place, Between, bytes_at, items, AreItems}
use Rattle.dw_model.specs.Abbrev.{Specification, next_specification}
use Rattle.dw_model.specs.Answers.{Tells}
use Rattle.dw_model.proofs.AdvanceLemmas.{specifications_advance}
use Rattle.dw_model.proofs.ItemsLemmas.{read_by, are-read}
use Rattle.dw_model.proofs.LebReading.{uleb-ok}
use Rattle.dw_model.proofs.NumberLemmas.{bytes_at-between}
use Rattle.dw_model.proofs.StepLemmas.{ok_is, ok-err}
use Rattle.dw_forms.specs.declared.declaration.Spec.{Spec}
use Rattle.dw_forms.specs.Spec.{spec_shown}
use Rattle.dw_forms.specs.Pairs.{specs_in_read, specs_at, AreAt, ReadsShortPair}

abbrev pub all_at : Place → Result (List Specification × Place) Fault
all_at p = items (λ q. q.left) next_specification p

-- the first of some pairs, and the others
record Begins (p : Place) (count : ℕ) : Type 0 where
  pub first : Specification
  pub behind : Place
  pub rest : List Specification × Place
  pub read : next_specification p ≡ Ok (Some first, behind)
  pub others : all_at behind ≡ Ok rest
  pub all : specs_at p ≡ first ∷ rest.0
  pub counted : count ≡ suc (length rest.0)

begins : (p : Place) (count : ℕ) → (count ≡ 0 → ⊥) → AreAt p count → Begins p count
begins p count some are = by_list are.0.0 are.0.1 are.1 are.2
  where
    by_list : (all : List Specification) (end : Place) → all_at p ≡ Ok (all, end) → length all ≡ count → Begins p count
    by_list [] end read counted = absurd (some (sym counted))
    by_list (first ∷ rest) end read counted =
        let each : AreItems next_specification p (first ∷ rest) end = ((read_by next_specification (λ p. p.left) specifications_advance).read p end (first ∷ rest)).0 read in
        record {
          first = first;
          behind = each.0;
          rest = (rest, end);
          read = each.1;
          others = are-read next_specification (λ p. p.left) specifications_advance rest each.0 end each.2;
          all = ap specs_in_read read;
          counted = sym counted;
        }

pub none-left : (p : Place) (count : ℕ) → count ≡ 0 → AreAt p count → specs_at p ≡ []
none-left p count none are = ap specs_in_read are.1 ∙ empty are.0.0 (are.2 ∙ none)
  where
    empty : (all : List Specification) → length all ≡ 0 → all ≡ []
    empty [] e = refl
    empty (first ∷ rest) e = absurd (omega (arith, e))

pub no-fault : (p : Place) (count : ℕ) (told : Option Fault) → (count ≡ 0 → ⊥) → AreAt p count → Tells told (next_specification p) → ⊥
no-fault p count None some are fault = fault
no-fault p count (Some told) some are fault =
    let b = begins p count some are in
    ok-err (Some b.first, b.behind) told (sym b.read ∙ fault)

taken : (p q : Place) (count : ℕ) (found : Option Spec) (b : Begins p count) → next_specification p ≡ Ok (option_map spec_shown found, q) → ◌≡◌ {A = Option Specification × Place} (Some b.first, b.behind) (option_map spec_shown found, q)
taken p q count found b e = ok_is (Some b.first, b.behind) (option_map spec_shown found, q) (sym b.read ∙ e)

pub no-end : (p q : Place) (count : ℕ) (found : Option Spec) → (count ≡ 0 → ⊥) → AreAt p count → next_specification p ≡ Ok (option_map spec_shown found, q) → found ≡ None → ⊥
no-end p q count found some are e none =
    let b = begins p count some are in
    let same : Some b.first ≡ None = ap (λ (x : Option Specification × Place). x.0) (taken p q count found b e) ∙ ap (option_map spec_shown) none in
    absurd cc

pub still-read : (p q : Place) (count : ℕ) (found : Option Spec) → (count ≡ 0 → ⊥) → AreAt p count → next_specification p ≡ Ok (option_map spec_shown found, q) → AreAt q (count - 1)
still-read p q count found some are e =
    let b = begins p count some are in
    let counted = b.counted in
    let behind : b.behind ≡ q = ap (λ (x : Option Specification × Place). x.1) (taken p q count found b e) in
    subst (λ (q : Place). AreAt q (count - 1)) behind (b.rest, b.others, omega (arith, counted))

pub takes-first : (p q : Place) (count : ℕ) (found : Option Spec) (spec : Spec) → (count ≡ 0 → ⊥) → AreAt p count → next_specification p ≡ Ok (option_map spec_shown found, q) → found ≡ Some spec → specs_at p ≡ spec_shown spec ∷ specs_at q
takes-first p q count found spec some are e is =
    let b = begins p count some are in
    let same = taken p q count found b e in
    let behind : b.behind ≡ q = ap (λ (x : Option Specification × Place). x.1) same in
    let first : Some b.first ≡ Some (spec_shown spec) = ap (λ (x : Option Specification × Place). x.0) same ∙ ap (option_map spec_shown) is in
    let one : b.first ≡ spec_shown spec = cc in
    let others : specs_at q ≡ b.rest.0 = ap specs_at (sym behind) ∙ ap specs_in_read b.others in
    b.all ∙ ap (λ (s : Specification). s ∷ b.rest.0) one ∙ ap (λ (rest : List Specification). spec_shown spec ∷ rest) (sym others)

-- ---- the pairs of a declaration that was read

pub counted : (specs : List Spec) (p q : Place) → all_at p ≡ Ok (map spec_shown specs, q) → AreAt p (length specs)
counted specs p q e = ((map spec_shown specs, q), e, length-map specs spec_shown)

-- ---- a name and a form of one byte each

-- a byte whose top bit isn't set is a number
one_byte : (p q : Place) (b : ℕ) → Between p (b ∷ []) q → b < 128 → uleb_at p ≡ Ok (b, q)
one_byte p q b between low = uleb-ok p q b (b ∷ []) between (low, omega (arith, low)) (omega (arith, low))

pub short_pair : (p q : Place) (bytes : List ℕ) → bytes_at 2 p ≡ Some (bytes, q) → slice_index_or bytes 0 0 < 128 → slice_index_or bytes 1 0 < 128 → ReadsShortPair (Some (slice_index_or bytes 0 0, slice_index_or bytes 1 0)) p q
short_pair p q bytes e = let s = bytes_at-between 2 p (bytes, q) e in of bytes s.1 s.0
  where
    of : (bytes : List ℕ) → Between p bytes q → length bytes ≡ 2 → slice_index_or bytes 0 0 < 128 → slice_index_or bytes 1 0 < 128 → ReadsShortPair (Some (slice_index_or bytes 0 0, slice_index_or bytes 1 0)) p q
    of [] between two low high = absurd (omega (arith, two))
    of (a ∷ []) between two low high = absurd (omega (arith, two))
    of (a ∷ b ∷ []) between two low high =
        let second : Place = record { at = p.at + 1; left = b ∷ q.left } in
        (second, one_byte p second a (between.0, refl) low, one_byte second q b (refl, omega (arith, between.1)) high)
    of (a ∷ b ∷ c ∷ rest) between two low high = absurd (omega (arith, two))
