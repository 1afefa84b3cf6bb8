-- Numbers and values.
use Rattle.std.specs.Prelude.{◌≡◌, ℕ, true, ◌∷◌, [], List, pos, negsuc, Some, None, Ok, Err, codes, refl}
use Rattle.dw_model.specs.declared.dwarf.TheConstants.{DW_FORM_addr, DW_FORM_block2, DW_FORM_string, DW_FORM_block1, DW_FORM_flag, DW_FORM_sdata, DW_FORM_strp, DW_FORM_indirect, DW_FORM_exprloc, DW_FORM_flag_present, DW_FORM_data16, DW_FORM_implicit_const, DW_FORM_addrx3, DW_FORM_GNU_strp_alt}
use Rattle.dw_model.specs.Faults.{ends_early, unknown_form, too_wide}
use Rattle.dw_model.specs.Reading.{Place, start}
use Rattle.dw_model.specs.Leb.{uleb_at, sleb_at}
use Rattle.dw_model.specs.Form.{value_at}
use Rattle.dw_model.specs.Form as values
use Rattle.dw_model.proofs.Samples.{hex}
use Rattle.dw_model.proofs.OnSamples.{on_samples}

-- the place after these bytes, with others left
abbrev past_to : ℕ → List ℕ → Place
past_to n left = record { at = n; left = left }

uleb_three_bytes : uleb_at (start (hex (codes "e5 8e 26"))) ≡ Ok (624485, past_to 3 [])
uleb_three_bytes = unfold on_samples in refl

uleb_padded : uleb_at (start (hex (codes "80 80 00"))) ≡ Ok (0, past_to 3 [])
uleb_padded = unfold on_samples in refl

uleb_greatest : uleb_at (start (hex (codes "ff ff ff ff ff ff ff ff ff 01"))) ≡ Ok (18446744073709551615, past_to 10 [])
uleb_greatest = unfold on_samples in refl

uleb_wide : uleb_at (start (hex (codes "ff ff ff ff ff ff ff ff ff 02"))) ≡ Err too_wide
uleb_wide = unfold on_samples in refl

uleb_end : uleb_at (start (hex (codes "80"))) ≡ Err ends_early
uleb_end = unfold on_samples in refl

uleb_and_more : uleb_at (start (hex (codes "7f 05"))) ≡ Ok (127, past_to 1 (5 ∷ []))
uleb_and_more = unfold on_samples in refl

sleb_minus_128 : sleb_at (start (hex (codes "80 7f"))) ≡ Ok (negsuc 127, past_to 2 [])
sleb_minus_128 = unfold on_samples in refl

sleb_minus_1 : sleb_at (start (hex (codes "7f"))) ≡ Ok (negsuc 0, past_to 1 [])
sleb_minus_1 = unfold on_samples in refl

sleb_padded : sleb_at (start (hex (codes "ff 7f"))) ≡ Ok (negsuc 0, past_to 2 [])
sleb_padded = unfold on_samples in refl

sleb_63 : sleb_at (start (hex (codes "3f"))) ≡ Ok (pos 63, past_to 1 [])
sleb_63 = unfold on_samples in refl

sleb_minus_64 : sleb_at (start (hex (codes "40"))) ≡ Ok (negsuc 63, past_to 1 [])
sleb_minus_64 = unfold on_samples in refl

sleb_least : sleb_at (start (hex (codes "80 80 80 80 80 80 80 80 80 7f"))) ≡ Ok (negsuc 9223372036854775807, past_to 10 [])
sleb_least = unfold on_samples in refl

sleb_wide : sleb_at (start (hex (codes "80 80 80 80 80 80 80 80 80 01"))) ≡ Err too_wide
sleb_wide = unfold on_samples in refl

addrx3 : value_at 4 DW_FORM_addrx3 None (start (hex (codes "01 02 03"))) ≡ Ok (values.address_index 197121, past_to 3 [])
addrx3 = unfold on_samples in refl

addrx3_cut : value_at 4 DW_FORM_addrx3 None (start (hex (codes "01 02"))) ≡ Err ends_early
addrx3_cut = unfold on_samples in refl

vendor_text : value_at 4 DW_FORM_GNU_strp_alt None (start (hex (codes "05 00 00 00"))) ≡ Ok (values.unused 5, past_to 4 [])
vendor_text = unfold on_samples in refl

text_of_four_bytes : value_at 4 DW_FORM_strp None (start (hex (codes "05 00 00 00 00 00 00 00"))) ≡ Ok (values.str 5, past_to 4 (0 ∷ 0 ∷ 0 ∷ 0 ∷ []))
text_of_four_bytes = unfold on_samples in refl

text_of_eight_bytes : value_at 8 DW_FORM_strp None (start (hex (codes "05 00 00 00 00 00 00 00"))) ≡ Ok (values.str 5, past_to 8 [])
text_of_eight_bytes = unfold on_samples in refl

an_address : value_at 4 DW_FORM_addr None (start (hex (codes "00 10 40 00 00 00 00 00"))) ≡ Ok (values.address 0x401000, past_to 8 [])
an_address = unfold on_samples in refl

two_byte_block : value_at 4 DW_FORM_block2 None (start (hex (codes "02 00 aa bb cc"))) ≡ Ok (values.bytes (0xaa ∷ 0xbb ∷ []), past_to 4 (0xcc ∷ []))
two_byte_block = unfold on_samples in refl

block_cut : value_at 4 DW_FORM_block1 None (start (hex (codes "03 01 02"))) ≡ Err ends_early
block_cut = unfold on_samples in refl

sixteen_bytes : value_at 4 DW_FORM_data16 None (start (hex (codes "00 01 02 03 04 05 06 07 08 09 0a 0b 0c 0d 0e 0f"))) ≡ Ok (values.bytes (hex (codes "00 01 02 03 04 05 06 07 08 09 0a 0b 0c 0d 0e 0f")), past_to 16 [])
sixteen_bytes = unfold on_samples in refl

inline_text : value_at 4 DW_FORM_string None (start (hex (codes "6c 65 61 66 00 2a"))) ≡ Ok (values.inline (codes "leaf"), past_to 5 (42 ∷ []))
inline_text = unfold on_samples in refl

inline_text_cut : value_at 4 DW_FORM_string None (start (codes "leaf")) ≡ Err ends_early
inline_text_cut = unfold on_samples in refl

a_flag : value_at 4 DW_FORM_flag None (start (hex (codes "07"))) ≡ Ok (values.flag true, past_to 1 [])
a_flag = unfold on_samples in refl

flag_by_being_there : value_at 4 DW_FORM_flag_present None (start (hex (codes ""))) ≡ Ok (values.flag true, past_to 0 [])
flag_by_being_there = unfold on_samples in refl

signed_number : value_at 4 DW_FORM_sdata None (start (hex (codes "80 7f"))) ≡ Ok (values.signed (negsuc 127), past_to 2 [])
signed_number = unfold on_samples in refl

of_the_declaration : value_at 4 DW_FORM_implicit_const (Some (negsuc 4)) (start (hex (codes ""))) ≡ Ok (values.signed (negsuc 4), past_to 0 [])
of_the_declaration = unfold on_samples in refl

not_of_the_declaration : value_at 4 DW_FORM_implicit_const None (start []) ≡ Err unknown_form
not_of_the_declaration = unfold on_samples in refl

expression : value_at 4 DW_FORM_exprloc None (start (hex (codes "02 91 00"))) ≡ Ok (values.bytes (0x91 ∷ 0 ∷ []), past_to 3 [])
expression = unfold on_samples in refl

indirect_number : value_at 4 DW_FORM_indirect None (start (hex (codes "0b 2a"))) ≡ Ok (values.unsigned 42, past_to 2 [])
indirect_number = unfold on_samples in refl

indirect_twice : value_at 4 DW_FORM_indirect None (start (hex (codes "16 8b 00 2a"))) ≡ Ok (values.unsigned 42, past_to 4 [])
indirect_twice = unfold on_samples in refl

indirect_constant : value_at 4 DW_FORM_indirect (Some (pos 1)) (start (hex (codes "21"))) ≡ Err unknown_form
indirect_constant = unfold on_samples in refl

form_2 : value_at 4 2 None (start (hex (codes "00 00"))) ≡ Err unknown_form
form_2 = unfold on_samples in refl

older_split_form : value_at 4 0x1f01 None (start (hex (codes "00 00"))) ≡ Err unknown_form
older_split_form = unfold on_samples in refl
