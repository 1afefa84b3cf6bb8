-- The indexes of groups, one after the other, and how many segments they have.
use Rattle.std.proofs.Common.{◌≡◌, ℕ, zero, suc, ◌+◌, ◌*◌, ◌≤◌, List, [], ◌∷◌, ◌++◌, length, refl, subst, arith}
use Rattle.std.proofs.lemmas.Bool.Decides.{nat_tests}
use Rattle.std.proofs.lemmas.List.Sums.{sum_by_push}
use Rattle.std.proofs.lemmas.Option.{same_Some}
use Rattle.dw_index.specs.declared.segment.Segment.{Segment}
use Rattle.dw_index.specs.Owners.{least_owner}
use Rattle.dw_index.specs.Segments.{owner_at}
use Rattle.dw_ranges.specs.Claims.{Claim, in_group}
use Rattle.dw_ranges.specs.LinkedInside.{AreIndexed, AreIndexes, count_below}

-- a range is in a group below the next number where it is below the number, or in its group
count-next : (n : ℕ) (ranges : List Claim) → count_below (n + 1) ranges ≡ count_below n ranges + length (in_group n ranges)
count-next n [] = refl
count-next n (one ∷ ranges) = grind (arith, nat_tests, (count-next n ranges))

count-all : (n : ℕ) (ranges : List Claim) → count_below n ranges ≤ length ranges
count-all n [] = omega arith
count-all n (one ∷ ranges) = grind (arith, nat_tests, (count-all n ranges))

each-more : (ranges : List Claim) (indexes : List (ℕ × List Segment)) (n : ℕ) (index : List Segment) → AreIndexes ranges indexes → ((a : ℕ) → owner_at index a ≡ least_owner (in_group n ranges) a) → AreIndexes ranges (indexes ++ (n, index) ∷ [])
each-more ranges [] n index are is zero known e a =
    subst (λ (known : ℕ × List Segment). owner_at known.1 a ≡ least_owner (in_group known.0 ranges) a) (same_Some (n, index) known e) (is a)
each-more ranges [] n index are is (suc k) known e a = absurd cc
each-more ranges (first ∷ indexes) n index are is zero known e a = are zero known e a
each-more ranges (first ∷ indexes) n index are is (suc k) known e a = each-more ranges indexes n index (λ k. are (suc k)) is k known e a

pub none_indexed : (ranges : List Claim) → AreIndexed 0 ranges []
none_indexed ranges = record { each = λ k known e a. absurd cc; few = omega arith }

-- the group of a number has an index, or none
pub one_indexed : (ranges : List Claim) (indexes : List (ℕ × List Segment)) (n : ℕ) (index : List Segment) → AreIndexed n ranges indexes → ((a : ℕ) → owner_at index a ≡ least_owner (in_group n ranges) a) → length index ≤ 2 * length (in_group n ranges)
    → AreIndexed (n + 1) ranges (indexes ++ (n, index) ∷ [])
one_indexed ranges indexes n index are is few = record {
  each = each-more ranges indexes n index are.each is;
  few = omega (arith, count-next n ranges, sum_by_push (λ (known : ℕ × List Segment). length known.1) indexes (n, index), are.few, few);
}

pub none_more : (ranges : List Claim) (indexes : List (ℕ × List Segment)) (n : ℕ) → AreIndexed n ranges indexes → AreIndexed (n + 1) ranges indexes
none_more ranges indexes n are = record { each = are.each; few = omega (arith, count-next n ranges, are.few) }

pub all_few : (ranges : List Claim) (indexes : List (ℕ × List Segment)) (n segments : ℕ) → AreIndexed n ranges indexes → segments ≤ 2 * count_below n ranges → segments ≤ 2 * length ranges
all_few ranges indexes n segments are few = omega (arith, count-all n ranges, few)

-- the indexes of one group more
pub ruleset index_steps = (none_indexed, one_indexed, none_more, all_few)
