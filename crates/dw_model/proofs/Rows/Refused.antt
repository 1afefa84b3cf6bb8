-- What is refused, and what is listed.
use Rattle.std.specs.Prelude.{◌≡◌, ℕ, zero, suc, ◌+◌, List, [], ◌∷◌, ◌++◌, length, take, replicate, Option, Some, None, codes, refl}
use Rattle.dw_model.specs.Faults.{Refusal, not_elf, not_elf64_little, relocatable, section_table, section_range, compressed, unit_header, address_size, root, root_ranges}
use Rattle.dw_model.specs.Refusal.{refusal, listing_refusal}
use Rattle.dw_model.specs.Output.{listing}
use Rattle.dw_model.proofs.Samples.{hex, poke, smallest, inlined_info, inlined, mixed_versions, with_info, wide_unit, narrow_unit, wide_unit_64, narrow_unit_64, overlapping}
use Rattle.dw_model.proofs.OnSamples.{on_samples}

inlined_length : length inlined ≡ 686
inlined_length = unfold on_samples in refl

inlined_accepted : refusal inlined ≡ None
inlined_accepted = unfold on_samples in refl

inlined_listing : listing inlined ≡ codes "0x0 version 5 compile\n0x5b version 5 partial\n"
inlined_listing = unfold on_samples in refl

smallest_accepted : refusal smallest ≡ None
smallest_accepted = unfold on_samples in refl

smallest_listing : listing smallest ≡ []
smallest_listing = unfold on_samples in refl

mixed_versions_accepted : refusal mixed_versions ≡ None
mixed_versions_accepted = unfold on_samples in refl

mixed_versions_listing : listing mixed_versions ≡ codes "0x0 version 4 skipped\n0xb version 5 compile\n0x66 version 5 partial\n"
mixed_versions_listing = unfold on_samples in refl

cut_header : refusal (take 63 smallest) ≡ Some not_elf
cut_header = unfold on_samples in refl

-- why n beginnings of the sample are refused, from one of this length on
refusals_from : ℕ → ℕ → List (Option Refusal)
refusals_from size zero = []
refusals_from size (suc n) = refusal (take size inlined) ∷ refusals_from (size + 1) n

each_cut_header : refusals_from 0 64 ≡ replicate 64 (Some not_elf)
each_cut_header = unfold on_samples refusals_from in refl

each_cut_file : refusals_from 64 622 ≡ replicate 622 (Some section_table)
each_cut_file = unfold on_samples refusals_from in refl

no_magic : refusal (poke inlined 0 (hex (codes "00"))) ≡ Some not_elf
no_magic = unfold on_samples in refl

class_32 : refusal (poke inlined 4 (hex (codes "01"))) ≡ Some not_elf64_little
class_32 = unfold on_samples in refl

big_endian : refusal (poke inlined 5 (hex (codes "02"))) ≡ Some not_elf64_little
big_endian = unfold on_samples in refl

object_file : refusal (poke inlined 16 (hex (codes "01"))) ≡ Some relocatable
object_file = unfold on_samples in refl

header_size : refusal (poke inlined 58 (hex (codes "3f"))) ≡ Some section_table
header_size = unfold on_samples in refl

abbrev_past_the_end : refusal (poke inlined 527 (hex (codes "04"))) ≡ Some (section_range (codes ".debug_abbrev"))
abbrev_past_the_end = unfold on_samples in refl

compressed_line : refusal (poke inlined 567 (hex (codes "08"))) ≡ Some (compressed (codes ".debug_line"))
compressed_line = unfold on_samples in refl

renamed_line : refusal (poke inlined 354 (hex (codes "78"))) ≡ None
renamed_line = unfold on_samples in refl

unit_too_long : refusal (poke inlined 64 (hex (codes "58"))) ≡ Some (unit_header 0x5c)
unit_too_long = unfold on_samples in refl

wide_length_too_long : refusal (poke inlined 64 (hex (codes "ff ff ff ff"))) ≡ Some (unit_header 0)
wide_length_too_long = unfold on_samples in refl

wide_length_cut : refusal (with_info (hex (codes "ff ff ff ff 00 00 00 00 00 00 00"))) ≡ Some (unit_header 0)
wide_length_cut = unfold on_samples in refl

wide_padding_listing : listing (with_info (hex (codes "ff ff ff ff 00 00 00 00 00 00 00 00") ++ inlined_info)) ≡ codes "0xc version 5 compile\n0x67 version 5 partial\n"
wide_padding_listing = unfold on_samples in refl

wide_unit_64_listing : listing (overlapping (wide_unit_64 ++ narrow_unit)) ≡ codes "0x0 version 5 compile\n0x25 version 5 compile\n"
wide_unit_64_listing = unfold on_samples in refl

narrow_unit_64_listing : listing (overlapping (narrow_unit_64 ++ wide_unit)) ≡ codes "0x0 version 5 compile\n0x2d version 5 compile\n"
narrow_unit_64_listing = unfold on_samples in refl

wide_skeleton_cut : refusal (with_info (hex (codes "ff ff ff ff 13 00 00 00 00 00 00 00 05 00 04 08 00 00 00 00 00 00 00 00 00 00 00 00 00 00 00"))) ≡ Some (unit_header 0)
wide_skeleton_cut = unfold on_samples in refl

reserved_length : refusal (poke inlined 64 (hex (codes "f0 ff ff ff"))) ≡ Some (unit_header 0)
reserved_length = unfold on_samples in refl

short_addresses : refusal (poke inlined 71 (hex (codes "04"))) ≡ Some (address_size 0)
short_addresses = unfold on_samples in refl

root_undeclared : refusal (poke inlined 174 (hex (codes "08"))) ≡ Some (root 0)
root_undeclared = unfold on_samples in refl

root_undeclared_listed : listing_refusal (poke inlined 174 (hex (codes "08"))) ≡ Some (root 0)
root_undeclared_listed = unfold on_samples in refl

root_without_base : refusal (poke inlined 180 (hex (codes "1b"))) ≡ Some (root_ranges 0)
root_without_base = unfold on_samples in refl

root_without_base_listed : listing_refusal (poke inlined 180 (hex (codes "1b"))) ≡ None
root_without_base_listed = unfold on_samples in refl

root_without_base_listing : listing (poke inlined 180 (hex (codes "1b"))) ≡ codes "0x0 version 5 compile\n0x5b version 5 partial\n"
root_without_base_listing = unfold on_samples in refl
