-- Ranges of which those are kept that matter in a window of addresses.
use Rattle.std.proofs.Common.{◌≡◌, ℕ, ◌<◌, ◌≤◌, Bool, true, false, List, [], ◌∷◌, ◌++◌, map, Option, Some, None, append_assoc, take, length, get_or, ◌+◌, refl, sym, ap, subst, ◌∙◌, arith}
use Rattle.std.specs.Prelude.{max, min}
use Rattle.std.proofs.lemmas.Bool.Decides.{nat_tests}
use Rattle.std.proofs.lemmas.List.{append-nil, map-append, take_all, take_more}
use Rattle.std.proofs.lemmas.List.Folds.{list_any-append}
use Rattle.dw_model.specs.Ranges.{Range, covers, holds}
use Rattle.dw_index.specs.declared.range.Range.{Range as CodeRange}
use Rattle.dw_index.specs.declared.segment.Segment.{Segment}
use Rattle.dw_index.specs.Owners.{least, least_owner}
use Rattle.dw_index.specs.Range.{range_shown}
use Rattle.dw_index.specs.Segments.{owner_at}
use Rattle.dw_index.proofs.LawLemmas.{of_list}
use Rattle.dw_index.proofs.OwnerLemmas.{least_owner-append, least-none}
use Rattle.dw_ranges.specs.declared.window.draft.Draft.{Draft}
use Rattle.dw_ranges.specs.Owned.{owned}
use Rattle.dw_ranges.specs.Window.{AreKnown, ArePieces, HasOwners, PiecesTo}

-- ---- pieces of an index

pub no_pieces : (segments : List Segment) (from : ℕ) → ArePieces segments from from []
unfolding least_owner
no_pieces segments from = grind arith

module _ (segments : List Segment) (from at next : ℕ) (pieces : List (CodeRange × ℕ)) (on : at < next) (steady : (a : ℕ) → at ≤ a → a < next → owner_at segments a ≡ owner_at segments at) (are : ArePieces segments from at pieces) where
  pub piece_added : (owner : ℕ) → owner_at segments at ≡ Some owner → ArePieces segments from next (pieces ++ (record { begin = at; end = next }, owner) ∷ [])
  unfolding least_owner
  piece_added owner some = grind (arith, map-append, nat_tests, least_owner-append, least-none)

-- ---- ranges that are added

-- an owner that is no less than one that has a lesser before it changes nothing
pub later-owner : (x : Option ℕ) (first owner : ℕ) → least x (Some first) ≡ x → first ≤ owner → least x (Some owner) ≡ x
later-owner None first owner e h = absurd cc
later-owner (Some x) first owner e h = grind arith

pub still-lesser : (x y : Option ℕ) (owner : ℕ) → least x (Some owner) ≡ x → least (least x y) (Some owner) ≡ least x y
still-lesser x y owner e = grind arith

-- one range more
pub ruleset push_steps = (nat_tests, map-append, least_owner-append, least-none, later-owner, still-lesser)

abbrev one_of : CodeRange → ℕ → Range × ℕ
one_of range owner = (range_shown range, owner)

abbrev shown : List CodeRange → ℕ → List (Range × ℕ)
shown ranges owner = owned (map range_shown ranges) owner

-- the ranges before an index were added to what was there
abbrev pub Added : (ranges : List CodeRange) (owner k : ℕ) (old new : Draft) → Type 0
Added ranges owner k old new =
    (all : List (Range × ℕ)) (from : ℕ) → HasOwners all from old → HasOwners (all ++ shown (take k ranges) owner) from new

-- a range whose addresses have known owners that come first
pub known_added : (draft : Draft) (all : List (Range × ℕ)) (from : ℕ) (range : CodeRange) (owner : ℕ) → AreKnown draft (max range.begin draft.from) (min range.end draft.until) owner → HasOwners all from draft → HasOwners (all ++ one_of range owner ∷ []) from draft
unfolding least_owner
known_added draft all from range owner are has = record {
  begin = has.begin;
  some = has.some;
  owners = λ a low high. has.owners a low high ∙ sym (same a low high (holds a (range_shown range)) refl);
  known = λ a first low high e. grind (arith, least_owner-append, least-none, still-lesser, (has.known a first low high e));
}
  where
    same : (a : ℕ) → from ≤ a → a < draft.until → (held : Bool) → holds a (range_shown range) ≡ held → least_owner (all ++ one_of range owner ∷ []) a ≡ least_owner all a
    same a low high false e = grind (arith, least_owner-append, least-none)
    same a low high true e =
        let begin = has.begin in
        let within : (range.begin ≤ a) × (a < range.end) = grind (arith, nat_tests) in
        let first = are a (omega (arith, within.0, begin, low)) (omega (arith, within.1, high)) in
        let lesser = has.known a first.0 low high (first.1) in
        grind (arith, least_owner-append, least-none, (later-owner (least_owner all a) first.0 owner lesser (first.2)))

-- what is read where there is no range
abbrev pub no_range : CodeRange
no_range = record { begin = 0; end = 0 }

pub one-added : (ranges : List CodeRange) (owner k : ℕ) (old between new : Draft) → k < length ranges → Added ranges owner k old between
    → ((all : List (Range × ℕ)) (from : ℕ) → HasOwners all from between → HasOwners (all ++ one_of (get_or ranges k no_range) owner ∷ []) from new)
    → Added ranges owner (k + 1) old new
one-added ranges owner k old between new within added push all from has = grind (arith, append_assoc, (take_more ranges k no_range within), map-append, (push (all ++ shown (take k ranges) owner) from (added all from has)))

pub all-added : (ranges : List CodeRange) (owner k : ℕ) (old new : Draft) → length ranges ≤ k → Added ranges owner k old new
    → (all : List (Range × ℕ)) (from : ℕ) → HasOwners all from old → HasOwners (all ++ shown ranges owner) from new
all-added ranges owner k old new past added all from has = grind (arith, (take_all k ranges past), (added all from has))

-- ---- the pieces of a list that has an index

module _ (ranges : List Range) (owner at next : ℕ) (old draft : Draft) (on : at < next) (steady : (a : ℕ) → at ≤ a → a < next → covers a ranges ≡ covers at ranges) (to : PiecesTo ranges owner at old draft) where
  pub piece_passed : (new : Draft) → covers at ranges ≡ true → ((all : List (Range × ℕ)) (from : ℕ) → HasOwners all from draft → HasOwners (all ++ (record { begin = at; end = next }, owner) ∷ []) from new) → PiecesTo ranges owner next old new
  piece_passed new some push = record {
    pieces = to.pieces ++ record { begin = at; end = next } ∷ [];
    reached = grind arith;
    below = λ a low high. grind (arith, nat_tests, list_any-append);
    above = λ a up. grind (arith, nat_tests, list_any-append);
    added = λ all from has. grind (arith, append_assoc, map-append, (push (all ++ owned to.pieces owner) from (to.added all from has)));
  }

pub pieces-all : (ranges : List Range) (owner at : ℕ) (old draft : Draft) → draft.until ≤ at → PiecesTo ranges owner at old draft → (all : List (Range × ℕ)) (from : ℕ) → HasOwners all from old → HasOwners (all ++ owned ranges owner) from draft
pieces-all ranges owner at old draft past to all from has =
    let added = to.added all from has in
    let same : (a : ℕ) → from ≤ a → a < draft.until → least_owner (all ++ owned to.pieces owner) a ≡ least_owner (all ++ owned ranges owner) a = λ a low high. grind (arith, least_owner-append, of_list) in
    record {
      begin = added.begin;
      some = added.some;
      owners = λ a low high. added.owners a low high ∙ same a low high;
      known = λ a first low high e. rw (← same a low high) (added.known a first low high e);
    }

-- ---- lists that are held

-- Of all ranges a draft has those before some that are added later.
pub record HasBefore (all later : List (Range × ℕ)) (from : ℕ) (draft : Draft) : Type 0 where
  pub before : List (Range × ℕ)
  pub parts : before ++ later ≡ all
  pub has : HasOwners before from draft

pub more-before : (all later next rest : List (Range × ℕ)) (from : ℕ) (old new : Draft) → later ≡ next ++ rest → HasBefore all later from old
    → ((front : List (Range × ℕ)) (from : ℕ) → HasOwners front from old → HasOwners (front ++ next) from new) → HasBefore all rest from new
more-before all later next rest from old new is was add = record {
  before = was.before ++ next;
  parts = append_assoc was.before next rest ∙ ap (λ (more : List (Range × ℕ)). was.before ++ more) (sym is) ∙ was.parts;
  has = add was.before from was.has;
}

pub all-before : (all later : List (Range × ℕ)) (from : ℕ) (draft : Draft) → later ≡ [] → HasBefore all later from draft → HasOwners all from draft
all-before all later from draft is was =
    subst (λ (all : List (Range × ℕ)). HasOwners all from draft) (sym (append-nil was.before) ∙ ap (λ (more : List (Range × ℕ)). was.before ++ more) (sym is) ∙ was.parts) was.has
