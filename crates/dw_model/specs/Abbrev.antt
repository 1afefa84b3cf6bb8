-- Abbreviation declarations (DWARF 5, section 7.5.3).
use Rattle.std.specs.Prelude.{ℕ, ℤ, Bool, not, ◌&&◌, List, length, drop, Option, Some, None, Result, Ok, Err, ok_or}
use Rattle.std.specs.Prelude.{find, nat_le, ◌==◌, if◌then◌else◌}
use Rattle.dw_model.specs.declared.dwarf.TheConstants.{DW_FORM_implicit_const}
use Rattle.dw_model.specs.Results.{◌>>=◌}
use Rattle.dw_model.specs.Reading.{Place, number_at, items}
use Rattle.dw_model.specs.Leb.{uleb_at, sleb_at}
use Rattle.dw_model.specs.Faults.{Fault, ends_early}

-- an attribute's name and form, and its value where that is in the declaration
pub record Specification : Type 0 where
  pub name : ℕ
  pub form : ℕ
  pub constant : Option ℤ

pub record Declaration : Type 0 where
  pub code : ℕ
  pub tag : ℕ
  pub children : Bool
  pub specifications : List Specification

-- a pair of name and form, with a number after DW_FORM_implicit_const; the pair 0, 0 ends the list
unfoldable pub next_specification : Place → Result (Option Specification × Place) Fault
next_specification p = do
  name ← uleb_at p
  form ← uleb_at name.1
  if name.0 == 0 && form.0 == 0 then Ok (None, form.1) else (
      if form.0 == DW_FORM_implicit_const then (do
        constant ← sleb_at form.1
        Ok (Some (record { name = name.0; form = form.0; constant = Some constant.0 }), constant.1))
      else Ok (Some (record { name = name.0; form = form.0; constant = None }), form.1))

-- Code, tag, a byte that says whether there are children (any but 0 says so, own), and the list of
-- pairs.
unfoldable pub declaration_behind : ℕ → Place → Result (Declaration × Place) Fault
declaration_behind code p = do
  tag ← uleb_at p
  children ← ok_or (number_at 1 tag.1) ends_early
  specifications ← items (λ q. q.left) next_specification children.1
  Ok (
    record { code = code; tag = tag.0; children = not (children.0 == 0); specifications = specifications.0 },
    specifications.1,
  )

-- the code 0 ends a table, and so does the section's end where a declaration would begin (own)
unfoldable pub next_declaration : Place → Result (Option Declaration × Place) Fault
next_declaration p = if length p.left == 0 then Ok (None, p) else (do
  code ← uleb_at p
  if code.0 == 0 then Ok (None, code.1) else (do
    declaration ← declaration_behind code.0 code.1
    Ok (Some declaration.0, declaration.1)))

-- the table at an offset of .debug_abbrev
unfoldable pub abbreviations : List ℕ → ℕ → Result (List Declaration) Fault
abbreviations section offset =
    if nat_le offset (length section)
    then (items (λ p. p.left) next_declaration (record { at = offset; left = drop offset section })
    >>= λ found. Ok found.0)
    else Err ends_early

-- the first declaration of a code (own)
abbrev pub declared : List Declaration → ℕ → Option Declaration
declared declarations code = find (λ declaration. declaration.code == code) declarations
