-- The owner from an address on, up to the first border above it.
use Rattle.std.proofs.Common.{◌≡◌, ◌≢◌, ◌≤◌, ◌<◌, ℕ, zero, suc, ◌+◌, List, [], ◌∷◌, length, Option, None, refl, arith}
use Rattle.dw_model.specs.Steady.{IsSteady, last_address}
use Rattle.dw_index.specs.declared.segment.Segment.{Segment}
use Rattle.dw_index.specs.Segments.{owner_at, owner_from, AreSegments, begin_at}
use Rattle.dw_index.proofs.SegmentLemmas.{rises, above, behind_border, below_all, none_passed}

-- two addresses that have passed the same segments have the same owner
pub same_owner : (segments : List Segment) (before : Option ℕ) (a c n : ℕ) → a ≤ c → ((k : ℕ) → k < n → begin_at segments k ≤ a) → ((k : ℕ) → n ≤ k → k < length segments → c < begin_at segments k)
    → owner_from before segments c ≡ owner_from before segments a
same_owner [] before a c n order passed behind = refl
same_owner (segment ∷ segments) before a c zero order passed behind =
    grind (arith, none_passed (segment ∷ segments) before c (λ k h. behind k (omega arith) h), none_passed (segment ∷ segments) before a (λ k h. omega (arith, order, behind k (omega arith) h)))
same_owner (segment ∷ segments) before a c (suc n) order passed behind =
    grind (arith, passed 0, behind_border, same_owner segments segment.owner a c n order (λ k h. passed (suc k) (omega arith)) (λ k h e. behind (suc k) (omega arith) (omega arith)))

-- at the first border above an address there is another owner than at the address
pub other_owner : (bound : ℕ) (before : Option ℕ) (segments : List Segment) (a n : ℕ) → AreSegments bound before segments → n < length segments → ((k : ℕ) → k < n → begin_at segments k ≤ a) → a < begin_at segments n
    → owner_from before segments (begin_at segments n) ≢ owner_from before segments a
other_owner bound before [] a n s h passed behind = absurd (omega (arith, h))
other_owner bound before (segment ∷ segments) a zero s h passed behind = grind (arith, below_all)
other_owner bound before (segment ∷ segments) a (suc n) s h passed behind =
    grind (arith, passed 0, above, behind_border, other_owner (segment.begin + 1) segment.owner segments a n s.2 (omega (arith, h)) (λ k b. passed (suc k) (omega (arith, b))))

-- After the last border the owner stays.
pub steady_to_the_end : (segments : List Segment) (a end n : ℕ) → a < end → last_address ≤ end → length segments ≤ n → ((k : ℕ) → k < n → begin_at segments k ≤ a)
    → IsSteady (owner_at segments) a end
steady_to_the_end segments a end n order last all passed = record {
  above = order;
  same = λ c from below. same_owner segments None a c n from passed (λ k h e. absurd (omega (arith, h, e, all)));
  changes = λ before. absurd (omega (arith, before, last));
}

-- Elsewhere it stays up to the first border above the address.
pub steady_to_a_border : (segments : List Segment) (a n : ℕ) → AreSegments 0 None segments → n < length segments → ((k : ℕ) → k < n → begin_at segments k ≤ a) → ((k : ℕ) → n ≤ k → k < length segments → a < begin_at segments k)
    → IsSteady (owner_at segments) a (begin_at segments n)
steady_to_a_border segments a n s within passed behind = record {
  above = behind n (omega arith) within;
  same = λ c from below. same_owner segments None a c n from passed (λ k h e. omega (arith, below, rises 0 None segments n k s h e));
  changes = λ before. other_owner 0 None segments a n s within passed (behind n (omega arith) within);
}
