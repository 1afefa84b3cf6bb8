-- The range lists that were read.
use Rattle.std.proofs.Common.{arith, ◌≡◌, ◌⊎◌, inr, Bool, List, [], ◌∷◌, ◌++◌, Some}
use Rattle.std.proofs.Common.{Ordering}
use Rattle.std.specs.BTreeMap.{insert_entry}
use Rattle.std.specs.Map.{lookup, values_of}
use Rattle.dw_ranges.specs.ReadLists.{Has}

pub has_front : {X : Type 0} (xs ys : List X) (x : X) → Has xs x → Has (xs ++ ys) x
has_front [] ys x h = grind arith
has_front {X} (y ∷ xs) ys x h = grind (arith, (has_front {X = X} xs))

pub has_back : {X : Type 0} (xs ys : List X) (x : X) → Has ys x → Has (xs ++ ys) x
has_back [] ys x h = h
has_back (y ∷ xs) ys x h = inr (has_back xs ys x h)

pub has_parts : {X : Type 0} (xs ys : List X) (x : X) → Has (xs ++ ys) x → Has xs x ⊎ Has ys x
has_parts [] ys x h = grind arith
has_parts {X} (y ∷ xs) ys x h = grind (arith, (has_parts {X = X} xs))

pub has_looked : {K X : Type 0} (test : K → Bool) (es : List (K × X)) (x : X) → lookup test es ≡ Some x → Has (values_of es) x
has_looked test [] x e = grind arith
has_looked {K} {X} test (entry ∷ es) x e = grind (arith, (has_looked {K = K} {X = X} test es))

pub inserted : {K X : Type 0} (cmp : K → K → Ordering) (es : List (K × X)) (k : K) (v x : X) → Has (values_of (insert_entry cmp es k v)) x → (v ≡ x) ⊎ Has (values_of es) x
inserted cmp [] k v x h = grind arith
inserted {K} {X} cmp (entry ∷ es) k v x h = grind (arith, (inserted {K = K} {X = X} cmp es))

-- what is read before and after one more is noted
pub ruleset note_steps = (has_parts, has_front, has_back, inserted)
