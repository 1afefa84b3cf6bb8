-- Segments in order, and the owner that they have at an address.
use Rattle.std.proofs.Common.{◌≡◌, ◌≢◌, ◌≤◌, ◌<◌, ℕ, zero, suc, ◌+◌, ◌-◌, List, [], ◌∷◌, ◌++◌, length, get_or, Option, None, refl, ◌∙◌, arith}
use Rattle.std.proofs.lemmas.Bool.{le-leb, lt-leb}
use Rattle.dw_index.specs.declared.segment.Segment.{Segment}
use Rattle.dw_index.specs.Search.{Passes}
use Rattle.dw_index.specs.Segments.{passed, owner_from, AreSegments, begin_at, Below}

pub begin_at-get : (segments : List Segment) (k : ℕ) (d : Segment) → k < length segments → begin_at segments k ≡ (get_or segments k d).begin
begin_at-get [] k d h = absurd (omega arith)
begin_at-get (segment ∷ segments) k d h = grind (arith, begin_at-get segments)

-- ---- borders rise

pub above : (bound : ℕ) (before : Option ℕ) (segments : List Segment) (k : ℕ) → AreSegments bound before segments → k < length segments → bound ≤ begin_at segments k
above bound before [] k s h = absurd (omega arith)
above bound before (segment ∷ segments) k s h =
    grind (arith, above (segment.begin + 1) segment.owner segments)

pub rises : (bound : ℕ) (before : Option ℕ) (segments : List Segment) (i k : ℕ) → AreSegments bound before segments → i ≤ k → k < length segments → begin_at segments i ≤ begin_at segments k
rises bound before [] i k s order h = absurd (omega arith)
rises bound before (segment ∷ segments) i k s order h =
    grind (arith, above, rises (segment.begin + 1) segment.owner segments)

-- ---- the owner after and before a border

pub behind_border : (segment : Segment) (segments : List Segment) (before : Option ℕ) (a : ℕ) → segment.begin ≤ a → owner_from before (segment ∷ segments) a ≡ owner_from segment.owner segments a
behind_border segment segments before a h = rw (le-leb segment.begin a h) refl

pub before_border : (segment : Segment) (segments : List Segment) (before : Option ℕ) (a : ℕ) → a < segment.begin → owner_from before (segment ∷ segments) a ≡ owner_from before segments a
before_border segment segments before a h = rw (lt-leb segment.begin a h) refl

-- below all segments is the owner before them
pub below_all : (bound : ℕ) (last : Option ℕ) (segments : List Segment) (before : Option ℕ) (a : ℕ) → AreSegments bound last segments → a < bound → owner_from before segments a ≡ before
below_all bound last [] before a s h = refl
below_all bound last (segment ∷ segments) before a s h =
    grind (arith, before_border, below_all (segment.begin + 1) segment.owner segments)

-- ---- the segment that a search finds

pub none_passed : (segments : List Segment) (before : Option ℕ) (a : ℕ) → ((k : ℕ) → k < length segments → a < begin_at segments k) → owner_from before segments a ≡ before
none_passed [] before a h = refl
none_passed (segment ∷ segments) before a h =
    before_border segment segments before a (h 0 (omega arith)) ∙ none_passed segments before a (λ k b. h (suc k) (omega arith))

pub last_passed : (segments : List Segment) (before : Option ℕ) (a n : ℕ) (d : Segment) → n < length segments → ((k : ℕ) → k < n + 1 → begin_at segments k ≤ a) → ((k : ℕ) → n + 1 ≤ k → k < length segments → a < begin_at segments k) → owner_from before segments a ≡ (get_or segments n d).owner
last_passed [] before a n d h below behind = absurd (omega arith)
last_passed (segment ∷ segments) before a zero d h below behind =
    grind (arith, below 0, behind_border, none_passed segments segment.owner a (λ k b. behind (suc k) (omega arith) (omega arith)))
last_passed (segment ∷ segments) before a (suc n) d h below behind =
    grind (arith, below 0, behind_border, last_passed segments segment.owner a n d (omega arith) (λ k b. below (suc k) (omega arith)) (λ k b e. behind (suc k) (omega arith) (omega arith)))

-- ---- a segment more

pub below_more : (bound higher : ℕ) (segments : List Segment) → bound ≤ higher → Below bound segments → Below higher segments
below_more bound higher [] h b = tt
below_more bound higher (segment ∷ segments) h b = (omega (arith, b.0), below_more bound higher segments h b.1)

pub below_push : (at higher : ℕ) (segments : List Segment) (last : Segment) → last.begin < higher → Below higher segments → Below higher (segments ++ last ∷ [])
below_push at higher [] last h b = (h, tt)
below_push at higher (segment ∷ segments) last h b = (b.0, below_push at higher segments last h b.1)

pub owner-push : (segments : List Segment) (last : Segment) (before : Option ℕ) (a : ℕ) → owner_from before (segments ++ last ∷ []) a ≡ passed a (owner_from before segments a) last
owner-push [] last before a = refl
owner-push (segment ∷ segments) last before a = owner-push segments last (passed a before segment) a

pub push : (bound : ℕ) (before : Option ℕ) (segments : List Segment) (last : Segment) → AreSegments bound before segments → Below last.begin segments → bound ≤ last.begin → last.owner ≢ owner_from before segments last.begin → AreSegments bound before (segments ++ last ∷ [])
push bound before [] last s b h other = (h, other, tt)
push bound before (segment ∷ segments) last s b h other =
    grind (arith, push (segment.begin + 1) segment.owner segments last s.2 b.1 (omega (arith, b.0)))

-- ---- halving

-- what is in the place of a segment after the last one
abbrev pub no_segment : Segment
no_segment = record { begin = 0; owner = None }

module _ (segments : List Segment) (order : AreSegments 0 None segments) (a middle : ℕ) (within : middle < length segments) where
  pub passed_to : begin_at segments middle ≤ a → (k : ℕ) → k < middle + 1 → begin_at segments k ≤ a
  passed_to h k b =
      omega (arith, rises 0 None segments k middle order (omega arith) within)

  pub behind_from : a < begin_at segments middle → (k : ℕ) → middle ≤ k → k < length segments → a < begin_at segments k
  behind_from h k b e = omega (arith, rises 0 None segments middle k order b e)

-- if a count parts the segments next to it by an address, it parts all
pub passes : (segments : List Segment) (a count : ℕ) → AreSegments 0 None segments → count ≤ length segments → (0 < count → (get_or segments (count - 1) no_segment).begin ≤ a) → (count < length segments → a < (get_or segments count no_segment).begin) → Passes segments a count
passes segments a count order within last next = record {
  within = within;
  before = λ k b. omega (arith, last (omega arith), begin_at-get segments (count - 1) no_segment (omega arith), rises 0 None segments k (count - 1) order (omega arith) (omega arith));
  behind = λ k b e. omega (arith, next (omega arith), begin_at-get segments count no_segment (omega arith), rises 0 None segments count k order b e);
}
