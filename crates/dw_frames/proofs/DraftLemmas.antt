-- The functions of a unit, while its entries are read.
use Rattle.std.proofs.Common.{◌≡◌, ◌<◌, ◌+◌, inl, inr, ℕ, true, false, List, [], ◌∷◌, ◌++◌, length, Option, Some, None, sym, ap, refl, ◌∙◌, arith}
use Rattle.std.specs.Prelude.{IsSome}
use Rattle.std.specs.Option.{option_to_list}
use Rattle.std.proofs.lemmas.List.{append-nil}
use Rattle.dw_model.specs.Entry.{Entry}
use Rattle.dw_model.specs.Ranges.{Range}
use Rattle.dw_model.specs.Tree.{is_subprogram}
use Rattle.dw_ranges.specs.declared.range_list.RangeList.{RangeList}
use Rattle.dw_ranges.specs.Claims.{Adds, AddsListed, ClaimsState, all_claims}
use Rattle.dw_ranges.specs.Held.{listed}
use Rattle.dw_frames.specs.Drafts.{Drafts, group_of, with_function, with_list, without_last}
use Rattle.dw_frames.specs.Known.{Same, WasAdded}
use Rattle.dw_frames.specs.UnitIn.{UnitIn}

pub last-left-out : {X : Type 0} (xs : List X) (x : X) → without_last (xs ++ x ∷ []) ≡ xs
last-left-out [] x = refl
last-left-out (y ∷ []) x = refl
last-left-out (y ∷ z ∷ xs) x = ap (λ (rest : List _). y ∷ rest) (last-left-out (z ∷ xs) x)

pub popped : {X : Type 0} (xs ys : List X) (last : Option X) → xs ≡ ys ++ option_to_list last → (0 < length xs → IsSome last) → ys ≡ without_last xs
popped xs ys (Some x) e h = sym (ap (λ (all : List _). without_last all) e ∙ last-left-out ys x)
popped [] ys None e h = sym (e ∙ append-nil ys)
popped (x ∷ xs) ys None e h = let none : false ≡ true = h (omega arith) in absurd cc

-- ---- one more function

module _ (of : UnitIn) (functions more lists : List ℕ) (before after : ClaimsState) (entry : Entry) (number group : ℕ) (old new : Drafts)
    (is : record { of = of; functions = functions; claims = all_claims of.sections.tables before; lists = lists } ≡ old) (pushed : more ≡ functions ++ entry.offset ∷ []) (size : number ≡ length functions) (at : group ≡ group_of (is_subprogram entry) old)
    (begins : new ≡ with_list entry.children (number + 2) (record { of = of; functions = more; claims = all_claims of.sections.tables after; lists = lists })) where
  added-by : (ranges : List Range) → Adds group ranges number (all_claims of.sections.tables before) (all_claims of.sections.tables after) → Same (with_function entry ranges old) new
  added-by ranges adds = grind arith

  pub was-added : (ranges : List Range) (list : Option RangeList) → AddsListed of.sections.tables group ranges number list before after → WasAdded entry ranges list old new
  was-added ranges list (inl adds) = inl (added-by ranges adds)
  was-added ranges list (inr adds) = inr (
    adds.0,
    adds.1,
    rw (← is) (rw (← is) at (added-by (listed of.sections.tables adds.0) adds.2)),
  )
