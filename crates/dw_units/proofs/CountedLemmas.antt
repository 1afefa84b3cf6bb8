-- The attributes of an entry that count, as they are read one by one.
use Rattle.std.proofs.Common.{◌≡◌, ℕ, ◌≤◌, Bool, true, false, cond, List, [], ◌∷◌, ◌++◌, length, map, Option, Some, None, Result, Ok, Err, refl, sym, ap, ◌∙◌, subst, arith}
use Rattle.std.specs.Prelude.{IsSome, nat_eq, option_and_then, ◌==◌}
use Rattle.std.specs.Option.{option_or}
use Rattle.std.specs.List.{list_any}
use Rattle.std.specs.Map.{lookup}
use Rattle.std.specs.Set.{is_member}
use Rattle.std.proofs.lemmas.Cmp.{nat_eq_equiv}
use Rattle.std.proofs.lemmas.List.{length-map, map_push}
use Rattle.std.proofs.lemmas.Map.Made.{length-le_from_is_member}
use Rattle.std.proofs.lemmas.Bool.{cases_Bool, eqb-true, eqb-false, eq-eqb, ne_eqb, or_right}
use Rattle.std.proofs.lemmas.List.Folds.{list_any-append}
use Rattle.dw_model.specs.Abbrev.{Specification}
use Rattle.dw_model.specs.Faults.{Fault}
use Rattle.dw_model.specs.Form.{Value}
use Rattle.dw_model.specs.Reading.{Place}
use Rattle.dw_model.specs.Entry.{Attribute, attributes_at, classes}
use Rattle.dw_forms.specs.Names.{is_used}
use Rattle.dw_forms.specs.Needed.{AreAlike}
use Rattle.dw_forms.specs.Size.{place_behind}
use Rattle.dw_forms.proofs.FirstValueLemmas.{read-named}
use Rattle.dw_units.specs.View.{attributes_in, IsRead}
use Rattle.dw_forms.specs.declared.names.TheConstants.{NAMES}
use Rattle.dw_forms.proofs.StartLemmas.{or-none}
use Rattle.dw_units.specs.declared.attributes.Attribute.{Attribute as CodeAttribute}
use Rattle.dw_units.specs.Attribute.{attribute_shown}
use Rattle.dw_units.specs.Counted.{attribute_in, first_of, AllCount, AreCounted}
use Rattle.dw_units.proofs.AttrLemmas.{given, told}

or-same : (value : Option Value) → option_or value value ≡ value
or-same value = grind arith

-- the first of a name, among some attributes and one more
grown : (before : List Attribute) (last : Attribute) (name : ℕ) → first_of name (before ++ last ∷ []) ≡ option_or (first_of name before) (cond (last.name == name) (Some last.value) None)
grown [] last name = grind arith
grown (first ∷ before) last name = grind (arith, grown before last name)

-- ---- name by name

-- a name is among these
abbrev is_done : ℕ → List ℕ → Bool
is_done name names = list_any (nat_eq name) names

-- Of these names, what is kept has just the value that counts; and nothing of other names.
abbrev pub AreFilled : List Attribute → List ℕ → List CodeAttribute → Type 0
AreFilled all names kept =
    (name : ℕ) → first_of name (map attribute_shown kept) ≡ cond (is_done name names) (attribute_in name all) None

pub none-filled : (all : List Attribute) (kept : List CodeAttribute) → kept ≡ [] → AreFilled all [] kept
none-filled all kept empty name = ap (λ (kept : List CodeAttribute). first_of name (map attribute_shown kept)) empty

module _ (all : List Attribute) (names : List ℕ) (one : ℕ) (kept : List CodeAttribute) (filled : AreFilled all names kept) where
  -- what is there of a name, with one name more
  more : (name : ℕ) → cond (is_done name (names ++ one ∷ [])) (attribute_in name all) None ≡ option_or (cond (is_done name names) (attribute_in name all) None) (cond (nat_eq name one) (attribute_in name all) None)
  more name = grind (arith, list_any-append, or-same, or-none)

  -- no value counts for the name
  pub filled-none : attribute_in one all ≡ None → AreFilled all (names ++ one ∷ []) kept
  filled-none none name = grind (arith, cases_Bool, eqb-true, more, or-none)

  -- this value counts for it
  pub filled-some : (attribute : CodeAttribute) → attribute.name ≡ one → Some (attribute_shown attribute).value ≡ attribute_in one all → AreFilled all (names ++ one ∷ []) (kept ++ attribute ∷ [])
  filled-some attribute named counts name = grind (arith, map_push, grown, more, eqb-true, eq-eqb, ne_eqb, eqb-false)

-- ---- all names

-- the names are those for which some values count
unlisted : (name : ℕ) → is_done name NAMES ≡ false → lookup (nat_eq name) classes ≡ None
unlisted name none = grind arith

unlisted-attribute : (name : ℕ) (attributes : List Attribute) → lookup (nat_eq name) classes ≡ None → attribute_in name attributes ≡ None
unlisted-attribute name attributes none = grind (arith, told, given)

pub all-filled : (all : List Attribute) (kept : List CodeAttribute) → AreFilled all NAMES kept → AreCounted all kept
all-filled all kept filled name = grind (arith, unlisted-attribute, unlisted)

-- ---- how many are kept

-- one is kept of a name of which there is a first one
named : (kept : List CodeAttribute) (name : ℕ) → IsSome (first_of name (map attribute_shown kept)) → is_member nat_eq (map (λ one. one.name) kept) name ≡ true
named [] name some = absurd cc
named (one ∷ kept) name some = grind (arith, eqb-true, eq-eqb, or_right, named kept name)

-- one at least is kept for each name of which an attribute counts
pub each-kept : (all : List Attribute) (kept : List CodeAttribute) (names : List ℕ) → AreCounted all kept → AllCount all names → length names ≤ length kept
each-kept all kept names counted count =
    let within = λ (name : ℕ) (member : is_member nat_eq names name ≡ true). named kept name (subst IsSome (sym (counted name)) (count.each name member)) in
    subst (λ (n : ℕ). length names ≤ n) (length-map kept (λ one. one.name)) (length-le_from_is_member nat_eq_equiv names (map (λ one. one.name) kept) count.distinct within)

-- ---- by the attributes that entries need

module _ (size : ℕ) (needed all : List Specification) (p : Place) (alike : AreAlike needed all) where
  readable : (some more : Result (List Attribute × Place) Fault) → place_behind some ≡ place_behind more → IsRead more → IsRead some
  readable (Ok found) more same read = (found, refl)
  readable (Err fault) more same read = (let no = same ∙ ap place_behind read.1 in absurd cc)

  pub needed-read : IsRead (attributes_at size all p) → IsRead (attributes_at size needed p)
  needed-read = readable (attributes_at size needed p) (attributes_at size all p) (alike.behind size p)

  first-alike : (name : ℕ) → is_used name ≡ true → IsRead (attributes_at size all p) → first_of name (attributes_in (attributes_at size needed p)) ≡ first_of name (attributes_in (attributes_at size all p))
  first-alike name used read =
      let some = needed-read read in
      ap (λ read. first_of name (attributes_in read)) some.1
      ∙ sym (read-named size name needed p some.0 some.1) ∙ alike.values size name p used ∙ read-named size name all p read.0 read.1
      ∙ ap (λ read. first_of name (attributes_in read)) (sym read.1)

  pub counted-alike : (kept : List CodeAttribute) → IsRead (attributes_at size all p) → AreCounted (attributes_in (attributes_at size needed p)) kept → AreCounted (attributes_in (attributes_at size all p)) kept
  counted-alike kept read counted name = by (is_used name) refl
    where
      by : (used : Bool) → is_used name ≡ used → first_of name (map attribute_shown kept) ≡ attribute_in name (attributes_in (attributes_at size all p))
      by true used =
          counted name ∙ told name (attributes_in (attributes_at size needed p)) ∙ ap (option_and_then (given name)) (first-alike name used read)
          ∙ sym (told name (attributes_in (attributes_at size all p)))
      by false unused =
          counted name ∙ unlisted-attribute name (attributes_in (attributes_at size needed p)) (unlisted name unused)
          ∙ sym (unlisted-attribute name (attributes_in (attributes_at size all p)) (unlisted name unused))
