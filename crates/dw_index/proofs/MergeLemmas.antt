-- Merging two lists of segments, border by border.
use Rattle.std.proofs.Common.{◌≡◌, ◌≢◌, ◌≤◌, ◌<◌, ℕ, ◌+◌, true, false, List, [], ◌∷◌, ◌++◌, length, Option, Some, None, refl, sym, ◌∙◌, arith, length-append}
use Rattle.std.specs.Prelude.{nat_eq}
use Rattle.std.specs.Option.{option_eq}
use Rattle.std.proofs.lemmas.Bool.{le-leb, lt-leb}
use Rattle.dw_index.specs.declared.segment.Segment.{Segment}
use Rattle.dw_index.specs.Owners.{least}
use Rattle.dw_index.specs.Segments.{owner_from, owner_at, AreSegments, Below, border, past_owner, past_rest}
use Rattle.dw_index.proofs.SegmentLemmas.{below_all, below_more, below_push, owner-push, push}

-- ---- one side, after a border that is at most its first one

-- no segment begins below
abbrev IsFrom : ℕ → List Segment → Type 0
IsFrom at [] = Unit {0}
IsFrom at (segment ∷ segments) = at ≤ segment.begin

from_border : (bound at : ℕ) (owner : Option ℕ) (rest : List Segment) → AreSegments bound owner rest → IsFrom at rest → AreSegments at owner rest
from_border bound at owner rest s h = grind arith

past_rises : (bound at : ℕ) (owner : Option ℕ) (rest : List Segment) → AreSegments bound owner rest → IsFrom at rest → AreSegments (at + 1) (past_owner at owner rest) (past_rest at rest)
past_rises bound at owner rest s h = grind arith

past_behind : (at : ℕ) (owner : Option ℕ) (rest : List Segment) (a : ℕ) → at ≤ a → owner_from (past_owner at owner rest) (past_rest at rest) a ≡ owner_from owner rest a
past_behind at owner rest a h = grind arith

-- ---- the next border

abbrev Next : (at : ℕ) → (first second : List Segment) → Type 0
Next at first second = IsFrom at first × IsFrom at second × (length (past_rest at first) + length (past_rest at second) + 1 ≤ length first + length second)

pub next : (at : ℕ) (first second : List Segment) → Some at ≡ least (border first) (border second) → Next at first second
next at first second e = grind arith

low_border : (bound at : ℕ) (left right : Option ℕ) (first second : List Segment) → AreSegments bound left first → AreSegments bound right second → Some at ≡ least (border first) (border second) → bound ≤ at
low_border bound at left right first second s t e = grind arith

-- ---- the merge so far

-- The addresses below the bound have their owners, and those from it on have the one that both
-- sides have so far.
pub record Merging (whole : ℕ → Option ℕ) (left right : Option ℕ) (first second merged : List Segment) (room : ℕ) : Type 0 where
  pub bound : ℕ
  pub before : (a : ℕ) → a < bound → owner_at merged a ≡ whole a
  pub behind : (a : ℕ) → bound ≤ a → least (owner_from left first a) (owner_from right second a) ≡ whole a
  pub settled : (a : ℕ) → bound ≤ a → owner_at merged a ≡ least left right
  pub left_rises : AreSegments bound left first
  pub right_rises : AreSegments bound right second
  pub segments : AreSegments 0 None merged
  pub below : Below bound merged
  pub size : length merged + length first + length second ≤ room

pub begins : (first second : List Segment) → AreSegments 0 None first → AreSegments 0 None second → Merging (λ a. least (owner_at first a) (owner_at second a)) None None first second [] (length first + length second)
begins first second s t = grind arith

-- the bound goes up to a border of either side
module _ (whole : ℕ → Option ℕ) (left right : Option ℕ) (first second merged : List Segment) (room at : ℕ) (m : Merging whole left right first second merged room) (is_next : Some at ≡ least (border first) (border second)) where
  low : m.bound ≤ at
  low = low_border m.bound at left right first second m.left_rises m.right_rises is_next

  n : Next at first second
  n = next at first second is_next

  abbrev owner : Option ℕ
  owner = least (past_owner at left first) (past_owner at right second)

  between : (a : ℕ) → m.bound ≤ a → a < at → least left right ≡ whole a
  between a h b =
      let x = below_all at left first left a (from_border m.bound at left first m.left_rises n.0) b in
      let y = below_all at right second right a (from_border m.bound at right second m.right_rises n.1) b in
      rw (x, y) at (m.behind a h)

  behind_at : (a : ℕ) → at ≤ a → least (owner_from (past_owner at left first) (past_rest at first) a) (owner_from (past_owner at right second) (past_rest at second) a) ≡ whole a
  behind_at a h = grind (arith, past_behind, low)

  left_on : AreSegments (at + 1) (past_owner at left first) (past_rest at first)
  left_on = past_rises m.bound at left first m.left_rises n.0

  right_on : AreSegments (at + 1) (past_owner at right second) (past_rest at second)
  right_on = past_rises m.bound at right second m.right_rises n.1

  at_border : (a : ℕ) → a ≡ at → owner ≡ whole a
  at_border a e =
      let x = below_all (at + 1) (past_owner at left first) (past_rest at first) (past_owner at left first) a left_on (omega arith) in
      let y = below_all (at + 1) (past_owner at right second) (past_rest at second) (past_owner at right second) a right_on (omega arith) in
      rw (x, y) at (behind_at a (omega arith))

  on : (all : List Segment) → ((a : ℕ) → a < at → owner_at all a ≡ owner_at merged a) → ((a : ℕ) → at ≤ a → owner_at all a ≡ owner) → AreSegments 0 None all → Below (at + 1) all → length all ≤ length merged + 1 → Merging whole (past_owner at left first) (past_owner at right second) (past_rest at first) (past_rest at second) all room
  on all before behind segments below size = grind (arith, between, at_border)

  pub stays : owner ≡ least left right → Merging whole (past_owner at left first) (past_owner at right second) (past_rest at first) (past_rest at second) merged room
  stays same = grind (arith, on, low, below_more)

  pub grows : (segment : Segment) → segment.begin ≡ at → segment.owner ≡ owner → owner ≢ least left right → Merging whole (past_owner at left first) (past_owner at right second) (past_rest at first) (past_rest at second) (merged ++ segment ∷ []) room
  grows segment begins owned other =
      on (merged ++ segment ∷ [])
      (λ a h. owner-push merged segment None a ∙ rw (lt-leb segment.begin a (omega arith)) refl)
      (λ a h. owner-push merged segment None a ∙ rw (le-leb segment.begin a (omega arith)) owned)
      (push 0 None merged segment m.segments (below_more m.bound segment.begin merged (omega (arith, low)) m.below) (omega arith) (λ e. other (sym owned ∙ e ∙ m.settled segment.begin (omega (arith, low)))))
      (grind (arith, low, below_push, below_more))
      (omega (arith, length-append merged (segment ∷ [])))

pub same_owner : (x y : Option ℕ) → true ≡ option_eq nat_eq x y → x ≡ y
same_owner x y e = grind arith

pub other_owner : (x y : Option ℕ) → false ≡ option_eq nat_eq x y → x ≢ y
other_owner x y e = grind arith
