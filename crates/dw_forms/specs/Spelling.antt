-- The code's spellings as the definitions have them.
use Rattle.std.specs.Prelude.{ℕ, not, ◌==◌}
use Rattle.dw_model.specs.Form.{Value}
use Rattle.dw_model.specs.Form as model
use Rattle.dw_forms.specs.declared.form.Class.{Class}
use Rattle.dw_forms.specs.declared.form.Class.TheVariants as class
use Rattle.dw_forms.specs.declared.form.Size.{Size}
use Rattle.dw_forms.specs.declared.form.Size.TheVariants as size
use Rattle.dw_forms.specs.declared.form.Spelling.{Spelling}
use Rattle.dw_forms.specs.declared.form.Spelling.TheVariants.{Fixed, Offset, Uleb, Sleb, Flag, Block, Counted}
use Rattle.dw_forms.specs.declared.form.Spelling.TheVariants.{UlebCounted, Text, Implicit, Present}

-- the value that a number of this class is
abbrev pub made : Class → ℕ → Value
made class.Address n = model.address n
made class.Unsigned n = model.unsigned n
made class.Str n = model.str n
made class.LineStr n = model.line_str n
made class.StrIndex n = model.str_index n
made class.AddressIndex n = model.address_index n
made class.UnitRef n = model.unit_ref n
made class.SectionRef n = model.section_ref n
made class.SectionOffset n = model.section_offset n
made class.RangeIndex n = model.range_index n
made class.Unused n = model.unused n

abbrev pub size_shown : Size → ℕ
size_shown size.One = 1
size_shown size.Two = 2
size_shown size.Three = 3
size_shown size.Four = 4
size_shown size.Eight = 8

abbrev pub spelling_shown : Spelling → model.Spelling
spelling_shown (Fixed size class) = model.fixed (size_shown size) (made class)
spelling_shown (Offset class) = model.offset (made class)
spelling_shown (Uleb class) = model.uleb (made class)
spelling_shown Sleb = model.sleb
spelling_shown Flag = model.fixed 1 (λ n. model.flag (not (n == 0)))
spelling_shown (Block size) = model.block size
spelling_shown (Counted size) = model.counted (size_shown size)
spelling_shown UlebCounted = model.uleb_counted
spelling_shown Text = model.text
spelling_shown Implicit = model.implicit
spelling_shown Present = model.present
