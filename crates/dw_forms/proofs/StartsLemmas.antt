-- Starts by their places in a list, and how many there are.
use Rattle.std.proofs.Common.{◌≡◌, ◌≢◌, ◌∙◌, ℕ, zero, suc, ◌+◌, ◌<◌, ◌≤◌, Bool, true, false, List, [], ◌∷◌, ◌++◌, get_or, length, set, Option, Some, None, refl, sym, ap, subst, arith}
use Rattle.std.specs.Prelude.{is_some, nat_eq, slice_get, ◌==◌}
use Rattle.std.specs.Cmp.{nat_eq_equiv}
use Rattle.std.specs.List.{range_with_len, list_any, IsDistinct}
use Rattle.std.specs.Map.{keys_of}
use Rattle.std.proofs.lemmas.Bool.{cases_eq, cases_lt, eq-eqb, eqb-true, eqb-false, or_left, or_right}
use Rattle.std.proofs.lemmas.List.{get_or-set_same, get_or-set_other, length-set, length_push, map_push}
use Rattle.std.proofs.lemmas.List.FromFn.{length-range_with_len}
use Rattle.std.proofs.lemmas.Map.Entries.{length-keys_of, lookup_from_place, place_from_lookup}
use Rattle.std.proofs.lemmas.Map.Keys.{IsDistinct-push}
use Rattle.std.proofs.lemmas.Map.Made.{is_some-lookup, length-le_from_is_member}
use Rattle.std.proofs.lemmas.Option.{get_or_from_slice_get, same_Some, slice_get-get_or, slice_get_read, slice_get_within}
use Rattle.dw_forms.specs.declared.run.Start.{Start}
use Rattle.dw_forms.specs.Starts.{StartList, start_at, group_of, AreBelow, AreLinked, IsLast}
use Rattle.dw_forms.proofs.StoreLemmas.{get-pushed}

-- ---- a start is found at its place

-- what a look-up finds
pub read-at : {X : Type 0} (xs ys : List X) (k : ℕ) (x : X) → xs ≡ ys → k < length xs → x ≡ get_or xs k x → slice_get ys k ≡ Some x
read-at {X = X} xs ys k x same within is = grind (arith, slice_get_read)

pub there : (starts : StartList) (k offset : ℕ) (start : Start) → IsDistinct nat_eq (keys_of starts) → slice_get starts k ≡ Some (offset, start) → Some start ≡ start_at starts offset
there starts k offset start distinct e = sym (lookup_from_place nat_eq_equiv starts k offset start distinct e)

-- an offset without a start
pub missing : (starts : StartList) (offset : ℕ) → ((k : ℕ) (start : Start) → slice_get starts k ≡ Some (offset, start) → ⊥) → None ≡ start_at starts offset
missing starts offset none = by (start_at starts offset) refl
  where
    by : (found : Option Start) → start_at starts offset ≡ found → None ≡ found
    by None e = refl
    by (Some start) e =
        let place = place_from_lookup (nat_eq offset) starts start e in
        absurd (none place.0 start (place.2 ∙ ap (λ (key : ℕ). Some (key, start)) (sym (eqb-true offset place.1 place.3))))

-- ---- one start more

module _ (starts : StartList) (key : ℕ) (start : Start) where
  abbrev more : StartList
  more = starts ++ (key, start) ∷ []

  -- the last of the first so many stays, and so does the last of another group
  last-still : (group count place : ℕ) → count ≤ length starts → IsLast starts group count place → IsLast more group count place
  last-still group count place within last = grind (arith, get-pushed)

  last-other : (group place : ℕ) → group_of key ≢ group → IsLast starts group (length starts) place → IsLast more group (length more) place
  last-other group place differ last = grind (arith, length_push, get-pushed)

  last-new : IsLast more (group_of key) (length more) (length starts + 1)
  last-new = grind (arith, length_push, get-pushed)

  module _ (heads before : List ℕ) (place : ℕ) (linked : AreLinked heads before starts) (within : group_of key < length heads) (none : start_at starts key ≡ None) (head : slice_get heads (group_of key) ≡ Some place) where
    lasts : (group last : ℕ) → slice_get (set heads (group_of key) (length starts + 1)) group ≡ Some last → (same : Bool) → (group_of key == group) ≡ same → IsLast more group (length more) last
    lasts group last e true same =
        let is : group_of key ≡ group = eqb-true (group_of key) group same in
        let here : get_or (set heads (group_of key) (length starts + 1)) (group_of key) last ≡ length starts + 1 = get_or-set_same heads (group_of key) (length starts + 1) last within in
        let number : length starts + 1 ≡ last = sym here ∙ ap (λ (group : ℕ). get_or (set heads (group_of key) (length starts + 1)) group last) is ∙ get_or_from_slice_get (set heads (group_of key) (length starts + 1)) group last last e in
        subst (λ (last : ℕ). IsLast more group (length more) last) number (subst (λ (group : ℕ). IsLast more group (length more) (length starts + 1)) is last-new)
    lasts group last e false same =
        let differ : group_of key ≢ group = eqb-false (group_of key) group same in
        let long = length-set heads (group_of key) (length starts + 1) in
        let in_heads = slice_get_within (set heads (group_of key) (length starts + 1)) group last e in
        let old : get_or heads group last ≡ last = sym (get_or-set_other heads (group_of key) group (length starts + 1) last (λ turned. differ (sym turned))) ∙ get_or_from_slice_get (set heads (group_of key) (length starts + 1)) group last last e in
        last-other group last differ (linked.lasts group last (slice_get-get_or heads group last (omega (arith, in_heads, long)) ∙ ap Some old))

    earlier : (k offset last : ℕ) (s : Start) → slice_get more k ≡ Some (offset, s) → slice_get (before ++ place ∷ []) k ≡ Some last → IsLast more (group_of offset) k last
    earlier k offset last s e link = grind (arith, get-pushed, last-still)

    grouped : (k offset : ℕ) (s : Start) → slice_get more k ≡ Some (offset, s) → group_of offset < length (set heads (group_of key) (length starts + 1))
    grouped k offset s e = grind (arith, length-set, get-pushed)

    pub linked-more : AreLinked (set heads (group_of key) (length starts + 1)) (before ++ place ∷ []) more
    linked-more = record {
      distinct =
          let absent = sym (is_some-lookup (nat_eq key) starts) ∙ ap is_some none in
          subst (λ (keys : List ℕ). IsDistinct nat_eq keys) (sym (map_push (λ (pair : ℕ × Start). pair.0) starts (key, start))) (IsDistinct-push nat_eq_equiv (keys_of starts) key linked.distinct absent);
      counted = let links = length_push before place in let size = length_push starts (key, start) in omega (arith, links, size, linked.counted);
      lasts = λ group last e. lasts group last e (group_of key == group) refl;
      grouped = grouped;
      earlier = earlier;
    }

-- ---- how many there are

in-range : (from count q : ℕ) → from ≤ q → q < from + count → list_any (nat_eq q) (range_with_len from count) ≡ true
in-range from zero q low high = absurd (omega (arith, low, high))
in-range from (suc count) q low high = grind (arith, cases_eq, or_left, eq-eqb, or_right, in-range (from + 1) count q)

pub most : (starts : StartList) (end : ℕ) → IsDistinct nat_eq (keys_of starts) → AreBelow end starts → length starts ≤ end
most starts end distinct below =
    let count = length-keys_of starts in
    let size = length-range_with_len 0 end in
    let fits = length-le_from_is_member nat_eq_equiv (keys_of starts) (range_with_len 0 end) distinct inside in
    omega (arith, count, size, fits)
  where
    inside : (q : ℕ) → list_any (nat_eq q) (keys_of starts) ≡ true → list_any (nat_eq q) (range_with_len 0 end) ≡ true
    inside q member = by (start_at starts q) refl (is_some-lookup (nat_eq q) starts ∙ member)
      where
        by : (found : Option Start) → start_at starts q ≡ found → is_some found ≡ true → list_any (nat_eq q) (range_with_len 0 end) ≡ true
        by found e some = grind (arith, in-range)

pub linked-none : AreLinked [] [] []
unfolding IsDistinct
linked-none = grind arith

-- ---- a group is gone through

-- the place is of the last in the offset's group of the first so many starts, and none after these begins there
abbrev pub Sought : StartList → ℕ → ℕ → Type 0
Sought starts offset place =
    (count : ℕ) × (count ≤ length starts) × IsLast starts (group_of offset) count place
    × ((k : ℕ) (start : Start) → count ≤ k → slice_get starts k ≡ Some (offset, start) → ⊥)

pub sought-first : (heads before : List ℕ) (starts : StartList) (offset place : ℕ) → AreLinked heads before starts → slice_get heads (group_of offset) ≡ Some place → Sought starts offset place
sought-first heads before starts offset place linked e = grind (arith, slice_get_within)

pub sought-within : (starts : StartList) (offset place : ℕ) → Sought starts offset place → place ≤ length starts
sought-within starts offset place sought = let within = sought.2.within in omega (arith, within, sought.1)

pub sought-next : (heads before : List ℕ) (starts : StartList) (offset place k next : ℕ) (first : ℕ × Start) → AreLinked heads before starts → Sought starts offset place → place ≡ k + 1 → slice_get starts k ≡ Some first → first.0 ≢ offset → slice_get before k ≡ Some next → (next < place) × Sought starts offset next
sought-next heads before starts offset place k next first linked sought is at other link =
    let last = sought.2 in
    let group = last.own k first.0 first.1 is at in
    let earlier = subst (λ (group : ℕ). IsLast starts group k next) group (linked.earlier k first.0 next first.1 at link) in
    (omega (arith, earlier.within, is), (k, omega (arith, is, last.within, sought.1), earlier, past))
  where
    past : (j : ℕ) (start : Start) → k ≤ j → slice_get starts j ≡ Some (offset, start) → ⊥
    past j start low e = grind (arith, cases_eq, same_Some, cases_lt)

pub sought-none : (starts : StartList) (offset place : ℕ) → Sought starts offset place → (1 ≤ place → ⊥) → None ≡ start_at starts offset
sought-none starts offset place sought end = grind (arith, missing, cases_lt)
