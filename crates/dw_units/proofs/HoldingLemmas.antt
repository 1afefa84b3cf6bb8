-- Units are one after the other, so that the one that holds an offset is the last that begins at or
-- before it.
use Rattle.std.proofs.Common.{◌≡◌, ◌∙◌, ℕ, zero, suc, ◌+◌, ◌≤◌, ◌<◌, Bool, true, false, cond, List, [], ◌∷◌, length, map, get_or, Option, Some, None, Ok, refl, sym, ap, subst, arith}
use Rattle.std.specs.Prelude.{nat_le, nat_lt, option_map, slice_get, slice_index_or}
use Rattle.std.specs.List.{AllWithin, cons_option}
use Rattle.std.specs.List.Sorted.{IsNonDecreasingBy, IsPartitionPoint}
use Rattle.std.proofs.lemmas.Bool.{le-ltb, lt-ltb, leb-true}
use Rattle.std.proofs.lemmas.Option.{slice_get_read, slice_get-map}
use Rattle.dw_model.specs.InitialLength.{Width, length_size}
use Rattle.dw_model.specs.Unit.{DwarfUnit, Test, untested, cut, Content, IsUnitOf, AreUnits, extent_at}
use Rattle.dw_model.specs.Unit as model
use Rattle.dw_model.specs.Section.{Sections}
use Rattle.dw_model.specs.Name.{holding}
use Rattle.dw_model.proofs.CutLaws.{cut-are}
use Rattle.dw_model.proofs.BoundLemmas.{unit_of-within}
use Rattle.dw_units.specs.declared.unit.Unit.{Unit as CodeUnit}
use Rattle.dw_units.specs.Unit.{unit_shown}

-- each unit begins at or after the end of the one before it
abbrev pub Ascending : ℕ → List DwarfUnit → Type 0
Ascending from [] = Unit {0}
Ascending from (unit ∷ units) = (from ≤ unit.offset) × (unit.offset ≤ unit.end) × Ascending unit.end units

lower : (low high : ℕ) (units : List DwarfUnit) → low ≤ high → Ascending high units → Ascending low units
lower low high [] h a = tt
lower low high (unit ∷ units) h a = (omega (arith, h, a.0), a.1, a.2)

-- the unit of a piece, and those after it
piece-ascends : (test : Test) (at : ℕ) (width : Width) (content : List ℕ) (unit : Option DwarfUnit) (others : List DwarfUnit) → IsUnitOf test at width content unit → Ascending (at + length_size width + length content) others → Ascending at (cons_option unit others)
piece-ascends test at width content unit others u a = grind (arith, lower, unit_of-within)

units-ascend : (test : Test) (at : ℕ) (contents : List Content) (found : List DwarfUnit) → AreUnits test at contents found → Ascending at found
units-ascend test at [] found u = subst (Ascending at) (sym u) tt
units-ascend test at (content ∷ contents) found u =
    grind (arith, piece-ascends, units-ascend test (at + length_size content.width + length content.bytes) contents u.1 u.4)

pub cut-ascends : (info : List ℕ) (found : List DwarfUnit) → cut info ≡ Ok found → Ascending 0 found
cut-ascends info found e = grind (arith, cut-are, units-ascend)

-- ---- offsets of units rise

ends-below : (from : ℕ) (units : List CodeUnit) (j : ℕ) (d : CodeUnit) → Ascending from (map unit_shown units) → j < length units → from ≤ (get_or units j d).offset
ends-below from [] j d a within = absurd (omega (arith, within))
ends-below from (unit ∷ units) zero d a within = a.0
ends-below from (unit ∷ units) (suc j) d a within = let later = ends-below unit.end units j d a.2 (omega (arith, within)) in omega (arith, a.0, a.1, later)

pub offsets-rise : (from : ℕ) (units : List CodeUnit) → Ascending from (map unit_shown units) → IsNonDecreasingBy (λ unit. unit.offset) units
offsets-rise from [] a i j d below within = absurd (omega (arith, within))
offsets-rise from (unit ∷ units) a zero zero d below within = omega arith
offsets-rise from (unit ∷ units) a zero (suc j) d below within = let later = ends-below unit.end units j d a.2 (omega (arith, within)) in omega (arith, a.1, later)
offsets-rise from (unit ∷ units) a (suc i) zero d below within = absurd (omega (arith, below))
offsets-rise from (unit ∷ units) a (suc i) (suc j) d below within = offsets-rise unit.end units a.2 i j d (omega (arith, below)) (omega (arith, within))

-- ---- the unit that holds an offset

abbrev begins : ℕ → CodeUnit → Bool
begins o unit = nat_le unit.offset o

pub none-holds : (o : ℕ) (units : List CodeUnit) → AllWithin (λ unit. begins o unit ≡ false) units 0 (length units) → holding (map unit_shown units) o ≡ None
none-holds o [] h = refl
none-holds o (unit ∷ units) h =
    let first : begins o unit ≡ false = h zero unit (omega arith) (omega arith) in
    rw first (none-holds o units (λ k d low high. h (suc k) d (omega arith) (omega (arith, high))))

pub last-holds : (from o : ℕ) (units : List CodeUnit) (i : ℕ) (d : CodeUnit) → Ascending from (map unit_shown units) → i < length units → AllWithin (λ unit. begins o unit ≡ true) units 0 (suc i) → AllWithin (λ unit. begins o unit ≡ false) units (suc i) (length units)
    → holding (map unit_shown units) o ≡ cond (nat_lt o (get_or units i d).end) (Some (unit_shown (get_or units i d))) None
last-holds from o [] i d a within h g = absurd (omega (arith, within))
last-holds from o (unit ∷ units) zero d a within h g =
    let first : begins o unit ≡ true = h zero unit (omega arith) (omega arith) in
    rw (first, none-holds o units (λ k d low high. g (suc k) d (omega arith) (omega (arith, high)))) refl
last-holds from o (unit ∷ []) (suc i) d a within h g = absurd (omega (arith, within))
last-holds from o (unit ∷ next ∷ units) (suc i) d a within h g =
    let first : begins o unit ≡ true = h zero unit (omega arith) (omega arith) in
    let second = leb-true next.offset o (h (suc zero) next (omega arith) (omega arith)) in
    let past : nat_lt o unit.end ≡ false = le-ltb o unit.end (omega (arith, a.2.0, second)) in
    rw (first, past) (last-holds unit.end o (next ∷ units) i d a.2 (omega (arith, within)) (λ k d low high. h (suc k) d (omega arith) (omega (arith, high))) (λ k d low high. g (suc k) d (omega (arith, low)) (omega (arith, high))))

-- ---- in the words of the sections that the units are seen as

whole-units : (s seen : Sections) (units : List CodeUnit) → s ≡ seen → cut s.info ≡ Ok (map unit_shown units) → model.units seen.info ≡ map unit_shown units
whole-units s seen units same whole = grind arith

pub units-rise : (s : Sections) (units : List CodeUnit) → cut s.info ≡ Ok (map unit_shown units) → IsNonDecreasingBy (λ unit. unit.offset) units
units-rise s units whole = offsets-rise 0 units (cut-ascends s.info (map unit_shown units) whole)

-- so many units begin at the offset or before it
abbrev pub Begun : ℕ → List CodeUnit → ℕ → Type 0
Begun o units n = IsPartitionPoint (λ unit. nat_le unit.offset o ≡ true) (λ unit. nat_le unit.offset o ≡ false) units n

pub none-begun : (s seen : Sections) (units : List CodeUnit) (o n : ℕ) → s ≡ seen → cut s.info ≡ Ok (map unit_shown units) → Begun o units n → n ≡ 0 → None ≡ holding (model.units seen.info) o
none-begun s seen units o n same whole begun none = grind (arith, whole-units, none-holds)

last-of : (s seen : Sections) (units : List CodeUnit) (o n i : ℕ) (unit : CodeUnit) → s ≡ seen → cut s.info ≡ Ok (map unit_shown units) → Begun o units n → n ≡ suc i → n ≤ length units → unit ≡ slice_index_or units i unit
    → holding (model.units seen.info) o ≡ cond (nat_lt o unit.end) (Some (unit_shown unit)) None
last-of s seen units o n i unit same whole begun some within is =
    let before : AllWithin (λ unit. begins o unit ≡ true) units 0 (suc i) = subst (λ n. AllWithin (λ unit. begins o unit ≡ true) units 0 n) some begun.0 in
    let behind : AllWithin (λ unit. begins o unit ≡ false) units (suc i) (length units) = subst (λ n. AllWithin (λ unit. begins o unit ≡ false) units n (length units)) some begun.1 in
    let last = last-holds 0 o units i unit (cut-ascends s.info (map unit_shown units) whole) (omega (arith, within, some)) before behind in
    ap (λ (units : List DwarfUnit). holding units o) (whole-units s seen units same whole) ∙ last ∙ ap (λ (unit : CodeUnit). cond (nat_lt o unit.end) (Some (unit_shown unit)) None) (sym is)

pub past-last : (s seen : Sections) (units : List CodeUnit) (o n i : ℕ) (unit : CodeUnit) → s ≡ seen → cut s.info ≡ Ok (map unit_shown units) → Begun o units n → n ≡ suc i → n ≤ length units → unit ≡ slice_index_or units i unit → unit.end ≤ o
    → None ≡ holding (model.units seen.info) o
past-last s seen units o n i unit same whole begun some within is past =
    sym (last-of s seen units o n i unit same whole begun some within is ∙ rw (le-ltb o unit.end past) refl)

pub in-last : (s seen : Sections) (units : List CodeUnit) (o n i : ℕ) (unit : CodeUnit) → s ≡ seen → cut s.info ≡ Ok (map unit_shown units) → Begun o units n → n ≡ suc i → n ≤ length units → unit ≡ slice_index_or units i unit → o < unit.end
    → slice_get (model.units seen.info) i ≡ holding (model.units seen.info) o
in-last s seen units o n i unit same whole begun some within is inside =
    let found = slice_get_read units (length units) i unit refl (omega (arith, within, some)) is in
    let there : slice_get (model.units seen.info) i ≡ Some (unit_shown unit) = ap (λ (units : List DwarfUnit). slice_get units i) (whole-units s seen units same whole) ∙ slice_get-map unit_shown units i ∙ ap (option_map unit_shown) found in
    there ∙ sym (last-of s seen units o n i unit same whole begun some within is ∙ rw (lt-ltb o unit.end inside) refl)
