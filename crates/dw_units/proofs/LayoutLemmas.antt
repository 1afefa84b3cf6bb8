-- Declarations of a unit that were met.
use Rattle.std.proofs.Common.{◌≡◌, ℕ, zero, suc, List, [], ◌∷◌, ◌++◌, length, Option, Some, refl, sym, subst, ap, ◌∙◌, arith}
use Rattle.std.specs.Prelude.{slice_get, slice_set}
use Rattle.std.proofs.lemmas.Option.{same_Some}
use Rattle.dw_model.specs.Abbrev.{Declaration, Specification}
use Rattle.dw_units.specs.Layouts.{AreOf, IsKept}
use Rattle.dw_units.specs.declared.layouts.Layouts.{Layouts}
use Rattle.dw_units.specs.declared.layouts.Met.{Met}

-- what holds of each place holds still, where one more value has it
pub set-each : {X : Type 0} (P : ℕ → X → Type 0) (xs : List (Option X)) (place : ℕ) (one : X) → ((k : ℕ) (x : X) → slice_get xs k ≡ Some (Some x) → P k x) → P place one
    → (k : ℕ) (x : X) → slice_get (slice_set xs place (Some one)) k ≡ Some (Some x) → P k x
set-each P [] place one each is k x there = absurd cc
set-each P (y ∷ xs) zero one each is zero x there = subst (P zero) (same_Some one x (same_Some (Some one) (Some x) there)) is
set-each P (y ∷ xs) zero one each is (suc k) x there = each (suc k) x there
set-each P (y ∷ xs) (suc place) one each is zero x there = each zero x there
set-each P (y ∷ xs) (suc place) one each is (suc k) x there = set-each (λ k. P (suc k)) xs place one (λ k. each (suc k)) is k x there

stays : {X : Type 0} (xs : List X) (y x : X) (k : ℕ) → slice_get xs k ≡ Some x → slice_get (xs ++ y ∷ []) k ≡ Some x
stays [] y x k there = absurd cc
stays (z ∷ xs) y x zero there = there
stays (z ∷ xs) y x (suc k) there = stays xs y x k there

pub last : {X : Type 0} (xs : List X) (y : X) → slice_get (xs ++ y ∷ []) (length xs) ≡ Some y
last [] y = refl
last (z ∷ xs) y = last xs y

-- what is kept of a declaration stays so where each layout stays at its place
pub carried : (declarations : List Declaration) (old new : Layouts) (code : ℕ) (one : Met) → ((place : ℕ) (specifications : List Specification) → slice_get old.list.items place ≡ Some specifications → slice_get new.list.items place ≡ Some specifications)
    → new.width ≡ old.width → IsKept declarations old code one → IsKept declarations new code one
carried declarations old new code one stay width kept = grind arith

pub with-layout : (declarations : List Declaration) (old new : Layouts) (code : ℕ) (one : Met) (layout : List Specification) → new.list.items ≡ old.list.items ++ layout ∷ []
    → new.width ≡ old.width → IsKept declarations old code one → IsKept declarations new code one
with-layout declarations old new code one layout list width kept = grind (arith, carried, stays)

pub with-room : (declarations : List Declaration) (old new : Layouts) → new.list.items ≡ old.list.items → new.width ≡ old.width
    → ((code : ℕ) (one : Met) → slice_get new.met.items code ≡ Some (Some one) → slice_get old.met.items code ≡ Some (Some one)) → AreOf declarations old → AreOf declarations new
with-room declarations old new list width each are code one there =
    carried declarations old new code one (λ place specifications there. ap (λ list. slice_get list place) list ∙ there) width (are code one (each code one there))

pub with-met : (declarations : List Declaration) (old new : Layouts) (code : ℕ) (one : Met) → new.list.items ≡ old.list.items → new.width ≡ old.width → new.met.items ≡ slice_set old.met.items code (Some one)
    → ((k : ℕ) (met : Met) → slice_get old.met.items k ≡ Some (Some met) → IsKept declarations old k met) → IsKept declarations old code one → AreOf declarations new
with-met declarations old new code one list width met each is k x there =
    let carry = λ (k : ℕ) (x : Met). carried declarations old new k x (λ place specifications there. ap (λ list. slice_get list place) list ∙ there) width in
    set-each (IsKept declarations new) old.met.items code one (λ k x there. carry k x (each k x there)) (carry code one is) k x (sym (ap (λ met. slice_get met k) met) ∙ there)
