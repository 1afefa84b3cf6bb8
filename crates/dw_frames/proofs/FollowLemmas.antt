-- What was kept of functions follows the nodes that were read.
use Rattle.std.proofs.Common.{◌≡◌, ◌⊎◌, inl, inr, ℕ, suc, ◌+◌, ◌-◌, ◌<◌, ◌≤◌, Bool, true, false, cond, List, [], ◌∷◌, ◌++◌, length, map, Option, Some, None, refl, sym, ap, subst, ◌∙◌, arith, length-append}
use Rattle.std.specs.Prelude.{get_or, slice_get, not}
use Rattle.std.proofs.lemmas.List.{map_push, length-map}
use Rattle.std.proofs.Math.Bool.{and-true}
use Rattle.std.proofs.lemmas.Bool.{and_left, and_right, eq-eqb, ne_eqb, eqb-true, lt-ltb, le-ltb}
use Rattle.std.proofs.lemmas.Option.{get_or_from_slice_get, same_Some, slice_get_within}
use Rattle.dw_model.specs.Entry.{Entry}
use Rattle.dw_model.specs.Section.{Sections}
use Rattle.dw_model.specs.Unit.{DwarfUnit}
use Rattle.dw_model.specs.Ranges.{Range}
use Rattle.dw_model.specs.Tree.{Node, is_function, is_subprogram, is_inlined, enclosing, holds_address}
use Rattle.dw_ranges.specs.Claims.{Claim, claims_in, owner_in}
use Rattle.dw_ranges.specs.Owned.{owned}
use Rattle.dw_ranges.proofs.GetLemmas.{get-kept, get-last, get-pushed, get-there, get-mapped, get-unmapped}
use Rattle.dw_ranges.proofs.GroupLemmas.{group-here, group-elsewhere, same_or_apart}
use Rattle.dw_frames.specs.Rising.{Rises}
use Rattle.dw_frames.specs.Drafts.{Drafts, begun, innermost, inside, nowhere, outermost, with_list, with_function, without_last, without_list, known_ranges, is_idle, is_kept, behind_function}
use Rattle.dw_frames.specs.Placed.{Placed, placed, offset_of, near, first, is_outermost, lies_in, Names, Follows}
use Rattle.dw_frames.proofs.NearLemmas.{enclosing-one, falls-on, near-below}
use Rattle.dw_frames.proofs.ChainLemmas.{lies-after}
use Rattle.dw_frames.proofs.PlacedLemmas.{or-none}
use Rattle.dw_frames.proofs.RisingLemmas.{rises-once, rises-push}
use Rattle.dw_frames.proofs.FirstLemmas.{first-push, owner-more}

next-two : (n : ℕ) → suc (suc n) ≡ inside n
next-two n = omega arith

-- one more function, which is after what was found
names-kept : (all : List Placed) (x : Placed) (group : ℕ) (found : Option Node) → ((node : Node) → found ≡ Some node → node.entry.offset < offset_of x) → Names all group found → Names (all ++ x ∷ []) group found
names-kept all x group found behind h = grind (arith, get-pushed, get-kept)

module _ (s : Sections) (unit : DwarfUnit) where
  abbrev kept : List Node → List Placed
  kept before = placed (is_kept s unit) before

  -- ---- a null entry

  get-of-front : {X : Type 0} (xs : List X) (i : ℕ) (x : X) → slice_get (without_last xs) i ≡ Some x → slice_get xs i ≡ Some x
  get-of-front [] i x e = e
  get-of-front (y ∷ []) i x e = absurd cc
  get-of-front (y ∷ z ∷ xs) i x e = grind (arith, get-of-front (z ∷ xs))

  pub follows-null : (before : List Node) (drafts : Drafts) (bound next : ℕ) → bound ≤ next → Follows s unit before drafts bound → Follows s unit before (without_list drafts) next
  follows-null before drafts bound next h f = grind (arith, falls-on, get-of-front)

  -- ---- an entry that is no function

  near-zero : (before : List Node) → near 0 before ≡ None
  unfolding near
  near-zero [] = refl
  near-zero (node ∷ before) = grind (arith, and_right, le-ltb, near-zero before)

  top-names : (before : List Node) (lists : List ℕ) (k group : ℕ) → length lists ≡ k + 1 → slice_get lists k ≡ Some group → Names (kept before) group (near (k + 1) before) → Names (kept before) (get_or lists (length lists - 1) nowhere) (near (length lists) before)
  top-names before lists k group len e h = grind (arith, get_or_from_slice_get)

  pub innermost-names : (before : List Node) (drafts : Drafts) (bound : ℕ) → Follows s unit before drafts bound → Names (kept before) (innermost drafts) (near (length drafts.lists) before)
  innermost-names before drafts bound f = by_lists drafts.lists (λ i group e. f.lists i group e)
    where
      by_lists : (lists : List ℕ) → ((i group : ℕ) → slice_get lists i ≡ Some group → Names (kept before) group (near (i + 1) before)) → Names (kept before) (get_or lists (length lists - 1) nowhere) (near (length lists) before)
      by_lists [] h = grind (arith, near-zero before)
      by_lists (list ∷ rest) h =
          let last = get-there (list ∷ rest) (length rest) (omega arith) in
          top-names before (list ∷ rest) (length rest) last.0 (omega arith) last.1 (h (length rest) last.0 last.1)

  -- a node at this depth or deeper hides nothing further out
  near-past : (d : ℕ) (node : Node) (before : List Node) → d ≤ node.depth → near d (node ∷ before) ≡ near d before
  unfolding near
  near-past d node before h = grind (arith, and_right, le-ltb)

  near-other : (node : Node) (before : List Node) → is_function node.entry ≡ false → near (node.depth + 1) (node ∷ before) ≡ near node.depth before
  unfolding near
  near-other node before e = grind arith

  near-here : (node : Node) (before : List Node) → is_function node.entry ≡ true → near (node.depth + 1) (node ∷ before) ≡ Some node
  unfolding near
  near-here node before e = grind (arith, lt-ltb)

  placed-other : (node : Node) (before : List Node) → is_kept s unit node.entry ≡ false → kept (node ∷ before) ≡ kept before
  unfolding placed
  placed-other node before e = rw e refl

  placed-here : (node : Node) (before : List Node) → is_kept s unit node.entry ≡ true → kept (node ∷ before) ≡ kept before ++ (node, enclosing (node ∷ []) before) ∷ []
  unfolding placed
  placed-here node before e = rw e refl

  get-children : (children : Bool) (lists : List ℕ) (new i group : ℕ) → slice_get (begun children new lists) i ≡ Some group → (slice_get lists i ≡ Some group) ⊎ ((i ≡ length lists) × (new ≡ group))
  get-children children lists new i group e = grind (arith, get-pushed)

  -- an entry that isn't kept, and the list below it
  follows-unkept : (before : List Node) (drafts : Drafts) (bound next : ℕ) (entry : Entry) (group : ℕ) → is_kept s unit entry ≡ false → bound ≤ entry.offset → entry.offset < next
      → Names (kept before) group (near (length drafts.lists + 1) (record { depth = length drafts.lists; entry = entry } ∷ before)) → Follows s unit before drafts bound
      → Follows s unit (record { depth = length drafts.lists; entry = entry } ∷ before) (with_list entry.children group drafts) next
  follows-unkept before drafts bound next entry new e low high names f =
      grind (arith, placed-other, falls-on, get-children, slice_get_within, near-past)

  pub follows-other : (before : List Node) (drafts : Drafts) (bound next : ℕ) (entry : Entry) → is_function entry ≡ false → bound ≤ entry.offset → entry.offset < next → Follows s unit before drafts bound
      → Follows s unit (record { depth = length drafts.lists; entry = entry } ∷ before) (with_list entry.children (innermost drafts) drafts) next
  follows-other before drafts bound next entry e low high f =
      let node : Node = record { depth = length drafts.lists; entry = entry } in
      follows-unkept before drafts bound next entry (innermost drafts) (and_left (is_function entry) (not (is_idle s unit entry)) e) low high (rw (near-other node before e) (innermost-names before drafts bound f)) f

  -- a function without ranges
  pub follows-idle : (before : List Node) (drafts : Drafts) (bound next : ℕ) (entry : Entry) → is_function entry ≡ true → is_idle s unit entry ≡ true → bound ≤ entry.offset → entry.offset < next → Follows s unit before drafts bound
      → Follows s unit (record { depth = length drafts.lists; entry = entry } ∷ before) (with_list entry.children nowhere drafts) next
  follows-idle before drafts bound next entry function idle low high f =
      let here : Node = record { depth = length drafts.lists; entry = entry } in
      follows-unkept before drafts bound next entry nowhere (rw idle (and_right (is_function entry) false refl)) low high (λ node is k p e same. grind (arith, same_Some here node, near-here here before function, f.below k p)) f

  -- ---- a function that is kept

  sizes : (before : List Node) (drafts : Drafts) (bound : ℕ) → Follows s unit before drafts bound → length drafts.functions ≡ length (kept before)
  sizes before drafts bound f = grind (arith, length-map)

  -- nothing lies in the last function
  none-in-last : (a : ℕ) (all : List Placed) (k : ℕ) (p : Placed) → Rises (map offset_of all) → ((k : ℕ) (p : Placed) (e : Node) → slice_get all k ≡ Some p → p.1 ≡ Some e → e.entry.offset < offset_of p) → slice_get all k ≡ Some p → length all ≡ k + 1 → first (lies_in (holds_address s unit a) (offset_of p)) all ≡ None
  none-in-last a all k p rises around h size =
      grind (arith, lies-after (holds_address s unit a) all k, slice_get_within all)

  module _ (before : List Node) (drafts : Drafts) (bound next : ℕ) (entry : Entry) (function : is_function entry ≡ true) (active : is_idle s unit entry ≡ false) (f : Follows s unit before drafts bound) where
    abbrev node : Node
    node = record { depth = length drafts.lists; entry = entry }

    abbrev all : List Placed
    all = kept before

    abbrev here : Placed
    here = (node, enclosing (node ∷ []) before)

    abbrev number : ℕ
    number = length drafts.functions

    abbrev pairs : List (Range × ℕ)
    pairs = owned (known_ranges s unit entry) number

    -- the claims after it, where it claims ranges in this group
    abbrev after : ℕ → List Claim
    after group = drafts.claims ++ claims_in group pairs

    -- in which function it lies
    lies : Names (kept before) (innermost drafts) here.1
    lies = subst (Names (kept before) (innermost drafts)) (sym (enclosing-one node before)) (innermost-names before drafts bound f)

    by_subprogram : (b : Bool) → is_subprogram entry ≡ b → (a : ℕ) → owner_in (after (cond b outermost (innermost drafts))) outermost a ≡ first (is_outermost (holds_address s unit a)) (kept before ++ here ∷ [])
    by_subprogram b e a =
        grind (arith, group-here, owner-more, sizes, group-elsewhere, lies, first-push, or-none, and_left)

    -- functions of one offset have one number
    one-number : (k m : ℕ) (p q : Placed) → slice_get (kept before) k ≡ Some p → slice_get (kept before) m ≡ Some q → offset_of q ≡ offset_of p → m ≡ k
    one-number k m p q e g same =
        rises-once (map offset_of (kept before)) m k (offset_of p) f.rises (get-mapped offset_of (kept before) m q g ∙ ap Some same) (get-mapped offset_of (kept before) k p e)

    -- what is inlined in each function of before
    by_group : is_inlined entry ≡ true → (group : ℕ) → Names (kept before) group here.1 → (k a : ℕ) (p : Placed) → slice_get (kept before) k ≡ Some p → owner_in (after group) (inside k) a ≡ first (lies_in (holds_address s unit a) (offset_of p)) (kept before ++ here ∷ [])
    by_group inlined group h k a p e =
        grind (arith, group-elsewhere, first-push, or-none, and_right, same_or_apart, same_Some, eq-eqb, and-true, next-two, group-here, owner-more, sizes, one-number, ne_eqb)

    inlined-before : (b : Bool) → is_subprogram entry ≡ b → (k a : ℕ) (p : Placed) → slice_get (kept before) k ≡ Some p → owner_in (after (cond b outermost (innermost drafts))) (inside k) a ≡ first (lies_in (holds_address s unit a) (offset_of p)) (kept before ++ here ∷ [])
    inlined-before b e k a p g =
        grind (arith, group-elsewhere, first-push, or-none, and_left, eqb-true, by_group, lies)

    none-owned : (b : Bool) (k a : ℕ) → length (kept before) ≤ k → owner_in (after (cond b outermost (innermost drafts))) (inside k) a ≡ None
    none-owned b k a past = grind (arith, group-elsewhere, lies, slice_get_within)

    rises-here : bound ≤ entry.offset → Rises (map offset_of (kept before ++ here ∷ []))
    rises-here h = grind (arith, map_push offset_of (kept before) here, rises-push, get-unmapped)

    around-here : bound ≤ entry.offset → (k : ℕ) (p : Placed) (e : Node) → slice_get (kept before ++ here ∷ []) k ≡ Some p → p.1 ≡ Some e → e.entry.offset < offset_of p
    around-here low k p e g is = grind (arith, get-pushed, near-below, enclosing-one)

    follows-kept : bound ≤ entry.offset → entry.offset < next → is_kept s unit entry ≡ true
        → Follows s unit (node ∷ before) (with_function entry (known_ranges s unit entry) drafts) next
    follows-kept low high keep =
        let same = placed-here node before keep in
        let rising = rises-here low in
        let last-number : slice_get (kept before ++ here ∷ []) number ≡ Some here = ap (slice_get (kept before ++ here ∷ [])) (sizes before drafts bound f) ∙ get-last (kept before) here in
        record {
          functions = rw same (ap (λ (offsets : List ℕ). offsets ++ entry.offset ∷ []) f.functions ∙ sym (map_push offset_of (kept before) here));
          falls = (high, falls-on bound entry.offset before low f.falls);
          rises = rw same rising;
          below = λ k p g. grind (arith, get-pushed (kept before) here k p (rw same at g), f.below k p);
          around = λ k p e g. around-here low k p e (rw same at g);
          outermost = λ a. rw same (by_subprogram (is_subprogram entry) refl a);
          inlined = λ k a p g. elim (get-pushed (kept before) here k p (rw same at g)) [
            | inl before ↦ rw same (inlined-before (is_subprogram entry) refl k a p before)
            | inr last ↦ rw (same, ← last.1) (none-owned (is_subprogram entry) k a (omega (arith, last.0)) ∙ sym (none-in-last a (kept before ++ here ∷ []) (length (kept before)) here rising (around-here low) (get-last (kept before) here) (let l = length-append (kept before) (here ∷ []) in omega (arith, l))))
          ];
          unowned = λ k a past. none-owned (is_subprogram entry) k a (grind (arith, same, length-append));
          lists = λ i list g. elim (get-children entry.children drafts.lists (inside number) i list g) [
            | inl old_list ↦
                let within = slice_get_within drafts.lists i list old_list in
                rw (same, near-past (i + 1) node before (omega (arith, within))) (names-kept (kept before) here list (near (i + 1) before) (λ found is. grind (arith, near-below (i + 1) bound before found f.falls is)) (f.lists i list old_list))
            | inr new_list ↦ rw (same, new_list.0, near-here node before function, ← new_list.1) (subst (λ (group : ℕ). Names (kept before ++ here ∷ []) group (Some node)) (next-two number) (here, last-number, refl))
          ];
        }

  pub follows-function : (before : List Node) (drafts : Drafts) (bound next : ℕ) (entry : Entry) → is_function entry ≡ true → bound ≤ entry.offset → entry.offset < next → Follows s unit before drafts bound
      → Follows s unit (record { depth = length drafts.lists; entry = entry } ∷ before) (behind_function s unit entry drafts) next
  follows-function before drafts bound next entry function low high f =
      grind (arith, follows-idle before drafts bound next entry, follows-kept before drafts bound next entry)
