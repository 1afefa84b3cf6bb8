-- The faults of a unit's functions, and which units have some.
use Rattle.std.proofs.Common.{◌≡◌, ℕ, Bool, true, false, List, [], ◌∷◌, Some, arith}
use Rattle.std.specs.Prelude.{find, ◌&&◌}
use Rattle.dw_model.specs.Section.{Sections}
use Rattle.dw_model.specs.Unit.{Kind, DwarfUnit, is_skipped, units}
use Rattle.dw_model.specs.Root.{answers}
use Rattle.dw_model.specs.Answer.{unit_of}

-- ---- a unit that answers isn't skipped

kept-kind : (kind : Kind) (test : Bool) → (answers kind && test) ≡ true → is_skipped kind ≡ false
kept-kind kind test e = grind arith

found-passes : {X : Type 0} (p : X → Bool) (xs : List X) (x : X) → find p xs ≡ Some x → p x ≡ true
found-passes p [] x e = absurd cc
found-passes p (y ∷ xs) x e = grind (arith, found-passes p xs x)

pub answering-kept : (s : Sections) (a : ℕ) (unit : DwarfUnit) → unit_of s a ≡ Some unit → is_skipped unit.kind ≡ false
unfolding unit_of
answering-kept s a unit e = kept-kind unit.kind _ (found-passes _ (units s.info) unit e)
