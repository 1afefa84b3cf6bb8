-- The least owner is the least of those whose ranges hold the address.
use Rattle.std.proofs.Common.{◌≡◌, ◌⊎◌, inl, inr, ◌≤◌, ℕ, suc, ◌+◌, Bool, true, false, cond, List, [], ◌∷◌, get_or, map, Option, Some, None, refl, sym, ◌∙◌, arith}
use Rattle.std.specs.List.{All, Any, position, position_from}
use Rattle.std.proofs.lemmas.Bool.{true≢false}
use Rattle.std.proofs.lemmas.List.Elements.{All-cons, All-tail}
use Rattle.std.proofs.lemmas.Iterator.Adapters.{position_from-zero}
use Rattle.dw_model.specs.Ranges.{Range, holds, covers}
use Rattle.dw_index.specs.Owners.{least, least_owner, IsLeastOwner, numbered}
use Rattle.dw_index.proofs.OwnerLemmas.{least_owner-append}

abbrev Pair : Type 0
Pair = Range × ℕ

-- ---- no owner

abbrev Free : ℕ → Pair → Type 0
Free a pair = holds a pair.0 ≡ false

pub none_holds : (pairs : List Pair) (a : ℕ) → least_owner pairs a ≡ None → All (Free a) pairs
unfolding least_owner
none_holds [] a e = λ k d h. absurd (omega arith)
none_holds (pair ∷ pairs) a e = grind (arith, none_holds pairs a)

pub from_none : (pairs : List Pair) (a : ℕ) → All (Free a) pairs → least_owner pairs a ≡ None
unfolding least_owner
from_none [] a all = refl
from_none (pair ∷ pairs) a all =
    grind (arith, all 0 pair, from_none pairs a (All-tail (Free a) pair pairs all))

-- ---- the least owner

abbrev Owns : ℕ → ℕ → Pair → Type 0
Owns a owner pair = (holds a pair.0 ≡ true) × (pair.1 ≡ owner)

abbrev NotLess : ℕ → ℕ → Pair → Type 0
NotLess a owner pair = holds a pair.0 ≡ true → owner ≤ pair.1

-- it is that of the first range, or the least of the others
first_or_later : (test : Bool) (first owner : ℕ) (later : Option ℕ) → least (cond test (Some first) None) later ≡ Some owner → ((test ≡ true) × (first ≡ owner)) ⊎ (later ≡ Some owner)
first_or_later test first owner later e = grind arith

owns : (pairs : List Pair) (a owner : ℕ) → least_owner pairs a ≡ Some owner → Any (Owns a owner) pairs
unfolding least_owner
owns [] a owner e = absurd cc
owns (pair ∷ pairs) a owner e = elim (first_or_later (holds a pair.0) pair.1 owner (least_owner pairs a) e) [
  | inl here ↦ (0, pair, omega arith, refl, here)
  | inr later ↦ (let h = owns pairs a owner later in (suc h.0, h.1, omega (arith, h.2), h.3, h.4))
]

none_less : (pairs : List Pair) (a owner : ℕ) → least_owner pairs a ≡ Some owner → All (NotLess a owner) pairs
unfolding least_owner
none_less [] a owner e = absurd cc
none_less (pair ∷ pairs) a owner e = All-cons (NotLess a owner) pair pairs (grind arith) (λ k d b t.
    let some : (other : ℕ) → least_owner pairs a ≡ Some other → other ≤ (get_or pairs k d).1 = λ other f. none_less pairs a other f k d b t in
    let none : least_owner pairs a ≡ None → ⊥ = λ f. true≢false (sym t ∙ none_holds pairs a f k d b) in
    grind (arith, some, none))

pub is_least : (pairs : List Pair) (a owner : ℕ) → least_owner pairs a ≡ Some owner → IsLeastOwner pairs a owner
is_least pairs a owner e =
    record { owns = owns pairs a owner e; none_less = none_less pairs a owner e }

from_found : (pairs : List Pair) (a owner : ℕ) (found : Option ℕ) → least_owner pairs a ≡ found → IsLeastOwner pairs a owner → found ≡ Some owner
from_found pairs a owner found e is = grind (arith, none_holds, is_least)

pub from_least : (pairs : List Pair) (a owner : ℕ) → IsLeastOwner pairs a owner → least_owner pairs a ≡ Some owner
from_least pairs a owner is = from_found pairs a owner (least_owner pairs a) refl is

-- ---- places of lists as owners

pub of_list : (ranges : List Range) (place a : ℕ) → least_owner (map (λ range. (range, place)) ranges) a ≡ cond (covers a ranges) (Some place) None
unfolding least_owner
of_list [] place a = refl
of_list (range ∷ ranges) place a = grind (arith, of_list ranges place a)

-- places after a first one are above it
above : {X : Type 0} (test : X → Bool) (place : ℕ) (xs : List X) (n : ℕ) → position_from test place xs ≡ Some n → place ≤ n
above test place [] n e = absurd cc
above test place (x ∷ xs) n e = grind (arith, above test (place + 1) xs n)

first_of_two : (test : Bool) (place : ℕ) (later : Option ℕ) → ((n : ℕ) → later ≡ Some n → place ≤ n) → least (cond test (Some place) None) later ≡ cond test (Some place) later
first_of_two test place later h = grind arith

-- the least of an owner and of those after it is the first
pub least-first : {X : Type 0} (test : X → Bool) (here : Bool) (place : ℕ) (xs : List X) → least (cond here (Some place) None) (position_from test (place + 1) xs) ≡ cond here (Some place) (position_from test (place + 1) xs)
least-first test here place xs = grind (arith, first_of_two, above)

from_place : (lists : List (List Range)) (place a : ℕ) → least_owner (numbered place lists) a ≡ position_from (covers a) place lists
unfolding least_owner
from_place [] place a = refl
from_place (ranges ∷ lists) place a =
    grind (arith, least_owner-append, of_list, least-first, from_place lists (place + 1) a)

pub first_list : (lists : List (List Range)) (a : ℕ) → least_owner (numbered 0 lists) a ≡ position (covers a) lists
first_list lists a = from_place lists 0 a ∙ sym (position_from-zero (covers a) lists)
