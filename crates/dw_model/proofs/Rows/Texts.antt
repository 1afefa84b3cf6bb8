-- Texts and addresses to which values lead.
use Rattle.std.specs.Prelude.{◌≡◌, ◌∷◌, [], ◌++◌, Some, None, codes, refl}
use Rattle.dw_model.specs.Form as values
use Rattle.dw_model.specs.Text.{Tables, Bases, text, address}
use Rattle.dw_model.proofs.Samples.{hex}
use Rattle.dw_model.proofs.OnSamples.{on_samples}

abbrev tables : Tables
tables = record {
  str = codes "main" ++ 0 ∷ codes "leaf" ++ 0 ∷ codes "open";
  line_str = codes "/w" ++ 0 ∷ [];
  str_offsets = hex (codes "08 00 00 00 05 00 00 00 05 00 00 00 01 00 00 00 0a 00 00 00 0e 00 00 00");
  addr = hex (codes "14 00 00 00 05 00 08 00 00 10 00 00 00 00 00 00 00 20 00 00 00 00 00 00");
  rnglists = [];
}

abbrev bases : Bases
bases = record { str_offsets = Some 8; addr = Some 8; rnglists = None; offset_size = 4 }

abbrev no_bases : Bases
no_bases = record { str_offsets = None; addr = None; rnglists = None; offset_size = 4 }

inline : text tables bases (values.inline (codes "x")) ≡ Some (codes "x")
inline = unfold on_samples in refl

first_text : text tables bases (values.str 0) ≡ Some (codes "main")
first_text = unfold on_samples in refl

from_within_a_text : text tables bases (values.str 6) ≡ Some (codes "eaf")
from_within_a_text = unfold on_samples in refl

without_an_end : text tables bases (values.str 10) ≡ None
without_an_end = unfold on_samples in refl

past_the_section : text tables bases (values.str 15) ≡ None
past_the_section = unfold on_samples in refl

empty_text : text tables bases (values.str 4) ≡ Some []
empty_text = unfold on_samples in refl

line_text : text tables bases (values.line_str 0) ≡ Some (codes "/w")
line_text = unfold on_samples in refl

by_index : text tables bases (values.str_index 0) ≡ Some (codes "leaf")
by_index = unfold on_samples in refl

by_the_next_index : text tables bases (values.str_index 1) ≡ Some (codes "ain")
by_the_next_index = unfold on_samples in refl

by_an_index_to_nothing : text tables bases (values.str_index 3) ≡ None
by_an_index_to_nothing = unfold on_samples in refl

by_an_index_past_the_end : text tables bases (values.str_index 4) ≡ None
by_an_index_past_the_end = unfold on_samples in refl

by_index_without_a_base : text tables no_bases (values.str_index 0) ≡ None
by_index_without_a_base = unfold on_samples in refl

number_is_no_text : text tables bases (values.unsigned 0) ≡ None
number_is_no_text = unfold on_samples in refl

an_address : address tables bases (values.address 7) ≡ Some 7
an_address = unfold on_samples in refl

address_by_index : address tables bases (values.address_index 1) ≡ Some 0x2000
address_by_index = unfold on_samples in refl

address_past_the_end : address tables bases (values.address_index 2) ≡ None
address_past_the_end = unfold on_samples in refl

address_without_a_base : address tables no_bases (values.address_index 0) ≡ None
address_without_a_base = unfold on_samples in refl

number_is_no_address : address tables bases (values.unsigned 7) ≡ None
number_is_no_address = unfold on_samples in refl
