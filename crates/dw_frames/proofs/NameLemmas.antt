-- References that lead after all units, and names along references.
use Rattle.std.proofs.Common.{◌≡◌, ℕ, zero, suc, ◌-◌, ◌≤◌, ◌<◌, List, [], ◌∷◌, length, Option, Some, None, Result, refl, arith}
use Rattle.std.specs.Prelude.{option_and_then, slice_get}
use Rattle.std.proofs.lemmas.Bool.{and_right, le-ltb}
use Rattle.std.proofs.lemmas.Option.{same_Some}
use Rattle.std.specs.Result.{result_unwrap_or}
use Rattle.dw_model.specs.Faults.{Refusal}
use Rattle.dw_model.specs.Section.{Sections}
use Rattle.dw_model.specs.Unit.{DwarfUnit, units, cut}
use Rattle.dw_model.specs.Name.{UnitEntry, holding, entry_of, referred, own_name, name_within}
use Rattle.dw_units.proofs.HoldingLemmas.{Ascending, cut-ascends}

end-above : (from : ℕ) (all : List DwarfUnit) (k : ℕ) (last : DwarfUnit) → Ascending from all → slice_get all k ≡ Some last → from ≤ last.end
end-above from [] k last a e = absurd cc
end-above from (unit ∷ all) zero last a e = grind (arith, same_Some)
end-above from (unit ∷ all) (suc k) last a e = let later = end-above unit.end all k last a.2 e in omega (arith, a.0, a.1, later)

holds-none : (from o : ℕ) (all : List DwarfUnit) (last : DwarfUnit) → Ascending from all → slice_get all (length all - 1) ≡ Some last → last.end ≤ o → holding all o ≡ None
holds-none from o [] last a e h = refl
holds-none from o (unit ∷ []) last a e h = grind (arith, same_Some, and_right, le-ltb)
holds-none from o (unit ∷ next ∷ all) last a e h =
    grind (arith, end-above, and_right, le-ltb, holds-none unit.end o (next ∷ all) last a.2)

units-ascend : (info : List ℕ) (found : Result (List DwarfUnit) Refusal) → cut info ≡ found → Ascending 0 (result_unwrap_or found [])
units-ascend info found e = grind (arith, cut-ascends)

pub leads-nowhere : (s : Sections) (last : DwarfUnit) (o : ℕ) → slice_get (units s.info) (length (units s.info) - 1) ≡ Some last → last.end ≤ o → entry_of s o ≡ None
unfolding entry_of
leads-nowhere s last o e h =
    rw (holds-none 0 o (units s.info) last (units-ascend s.info (cut s.info) refl) e h) refl

-- ---- names

pub own-found : (s : Sections) (more : ℕ) (here : UnitEntry) (text : List ℕ) → own_name s here ≡ Some text → name_within s more here ≡ Some text
unfolding name_within
own-found s more here text e = grind arith

pub own-alone : (s : Sections) (here : UnitEntry) → own_name s here ≡ None → name_within s 0 here ≡ None
unfolding name_within
own-alone s here e = e

pub goes-on : (s : Sections) (more : ℕ) (here : UnitEntry) (found : Option UnitEntry) → 0 < more → own_name s here ≡ None → referred s here ≡ found → name_within s more here ≡ option_and_then (name_within s (more - 1)) found
unfolding name_within
goes-on s more here found some e f = grind arith
