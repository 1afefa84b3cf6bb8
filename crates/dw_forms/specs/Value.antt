-- A value as the definitions have it.
use Rattle.dw_model.specs.Form as model
use Rattle.dw_forms.specs.declared.value.Value.{Value}
use Rattle.dw_forms.specs.declared.value.Value.TheVariants.{Address, Unsigned, Signed, Bytes, Flag, Inline, Str}
use Rattle.dw_forms.specs.declared.value.Value.TheVariants.{LineStr, StrIndex, AddressIndex, UnitRef, SectionRef}
use Rattle.dw_forms.specs.declared.value.Value.TheVariants.{SectionOffset, RangeIndex, Unused}

abbrev pub value_shown : Value → model.Value
value_shown (Address n) = model.address n
value_shown (Unsigned n) = model.unsigned n
value_shown (Signed z) = model.signed z
value_shown (Bytes bytes) = model.bytes bytes.now
value_shown (Flag b) = model.flag b
value_shown (Inline text) = model.inline text.now
value_shown (Str n) = model.str n
value_shown (LineStr n) = model.line_str n
value_shown (StrIndex n) = model.str_index n
value_shown (AddressIndex n) = model.address_index n
value_shown (UnitRef n) = model.unit_ref n
value_shown (SectionRef n) = model.section_ref n
value_shown (SectionOffset n) = model.section_offset n
value_shown (RangeIndex n) = model.range_index n
value_shown (Unused n) = model.unused n
