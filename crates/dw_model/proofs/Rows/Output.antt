-- The bytes that are written.
use Rattle.std.specs.Prelude.{◌≡◌, ℕ, true, false, List, ◌∷◌, [], ◌++◌, Some, None, codes, refl}
use Rattle.dw_model.specs.Query.{address, span}
use Rattle.dw_model.specs.Output.{Options, inputs, address_in, query_in, text, has_faults}
use Rattle.dw_model.proofs.Samples.{hex, poke, smallest, inlined, inlined_info, with_info, mixed_versions, wide_unit, narrow_unit, wide_unit_64, narrow_unit_64, overlapping, overlapping_with, line_table, line_table_64, narrow_lines, bare_unit, deep}
use Rattle.dw_model.proofs.OnSamples.{on_samples}

abbrev plain : Options
plain = record { functions = false; inlines = false; addresses = false }

-- with -f
abbrev functions : Options
functions = record { functions = true; inlines = false; addresses = false }

-- with -f and -i
abbrev frames : Options
frames = record { functions = true; inlines = true; addresses = false }

-- with -f, -i and -a
abbrev all : Options
all = record { functions = true; inlines = true; addresses = true }

abbrev word : List ℕ → List (List ℕ)
word text = text ∷ []

-- a unit with an undeclared entry, and a unit without lines after it
abbrev faulty : List ℕ
faulty = with_info (poke inlined_info 0x23 (0x63 ∷ []) ++ bare_unit)

-- an address, no address, an empty line and another address
abbrev four_lines : List (List ℕ)
four_lines = inputs [] (codes "0x401000\nzz\n\n0x500001\n")

nothing_known : text plain smallest (word (codes "0x0")) ≡ codes "??:0\n"
nothing_known = unfold on_samples in refl

three_frames : text all inlined (word (codes "0x401004")) ≡ codes "0x0000000000401004\nleaf\n/w/a.c:4\nmid\n/w/a.c:30\nmain\n/w/z.c:20\n"
three_frames = unfold on_samples in refl

innermost_frame : text (record { functions = true; inlines = false; addresses = true }) inlined (word (codes "0x401004")) ≡ codes "0x0000000000401004\nleaf\n/w/a.c:4\n"
innermost_frame = unfold on_samples in refl

frames_at_borders : text frames inlined (codes "401000" ∷ codes "401006" ∷ codes "40100e" ∷ []) ≡ codes "main\n/w/a.c:3\nmid\n/w/a.c:4\nmain\n/w/z.c:20\n??\n??:0\n"
frames_at_borders = unfold on_samples in refl

mixed_versions_text : text frames mixed_versions (word (codes "401003")) ≡ codes "??\n/w/a.c:3\nmain\n/w/z.c:20\n"
mixed_versions_text = unfold on_samples in refl

wide_unit_first : text functions (overlapping (wide_unit ++ narrow_unit)) (word (codes "2000")) ≡ codes "??\n??:0\n"
wide_unit_first = unfold on_samples in refl

wide_unit_64_first : text functions (overlapping (wide_unit_64 ++ narrow_unit)) (word (codes "2000")) ≡ codes "??\n??:0\n"
wide_unit_64_first = unfold on_samples in refl

narrow_unit_64_first : text functions (overlapping (narrow_unit_64 ++ wide_unit)) (word (codes "2000")) ≡ codes "??\n/w/a.c:3\n"
narrow_unit_64_first = unfold on_samples in refl

narrow_unit_by_a_64_table : text functions (overlapping_with (line_table_64 narrow_lines) narrow_unit) (word (codes "2000")) ≡ codes "??\n/w/a.c:3\n"
narrow_unit_by_a_64_table = unfold on_samples in refl

narrow_unit_first : text functions (overlapping (narrow_unit ++ wide_unit)) (word (codes "2000")) ≡ codes "??\n/w/a.c:3\n"
narrow_unit_first = unfold on_samples in refl

without_lines : text plain (poke inlined 354 (0x78 ∷ [])) (word (codes "401000")) ≡ codes "!unit 0x0 fault 4\n"
without_lines = unfold on_samples in refl

faults_and_bad_lines : text functions faulty four_lines ≡ codes "!unit 0x0 fault 1\n!bad address\n!bad address\n??\n??:0\n"
faults_and_bad_lines = unfold on_samples in refl

faults_told : has_faults faulty four_lines ≡ true
faults_told = unfold on_samples in refl

bad_address_told : has_faults inlined (codes "zz" ∷ []) ≡ true
bad_address_told = unfold on_samples in refl

no_faults : has_faults inlined (inputs [] (codes "401000\n0\n")) ≡ false
no_faults = unfold on_samples in refl

names_itself : text functions (with_info (poke inlined_info 0x48 (0x47 ∷ []))) (word (codes "401004")) ≡ codes "??\n/w/a.c:4\n"
names_itself = unfold on_samples in refl

many_directories : text plain (poke inlined 279 (0x7f ∷ [])) (word (codes "401000")) ≡ codes "!unit 0x0 fault 4\n"
many_directories = unfold on_samples in refl

-- the name of `main` as a block of more bytes than its unit has left
block_past_the_unit : text plain (poke inlined 189 (0x0a ∷ [])) (word (codes "401000")) ≡ codes "!unit 0x0 fault 1\n"
block_past_the_unit = unfold on_samples in refl

depth_512 : text functions (deep 0x219 512) (word (codes "401000")) ≡ codes "??\n/w/a.c:3\n"
depth_512 = unfold on_samples in refl

depth_513 : text functions (deep 0x21a 513) (word (codes "401000")) ≡ codes "!unit 0x0 fault 2\n"
depth_513 = unfold on_samples in refl

empty_input : text plain inlined (inputs [] []) ≡ []
empty_input = unfold on_samples in refl

bad_address_alone : text all inlined (word (codes "0x")) ≡ codes "!bad address\n"
bad_address_alone = unfold on_samples in refl

fault_with_its_address : text all faulty (word (codes "401000")) ≡ codes "0x0000000000401000\n!unit 0x0 fault 1\n"
fault_with_its_address = unfold on_samples in refl

line_0 : text frames (with_info (poke inlined_info 0x45 (0 ∷ []))) (word (codes "401002")) ≡ codes "mid\n/w/a.c:3\nmain\n/w/z.c:?\n"
line_0 = unfold on_samples in refl

hexadecimal : address_in (codes "401004") ≡ Some 0x401004
hexadecimal = unfold on_samples in refl

upper_case : address_in (codes "0X4F") ≡ Some 0x4f
upper_case = unfold on_samples in refl

sixteen_digits : address_in (codes "0xffffffffffffffff") ≡ Some 0xffffffffffffffff
sixteen_digits = unfold on_samples in refl

leading_zeros : address_in (codes "0000000000000000") ≡ Some 0
leading_zeros = unfold on_samples in refl

seventeen_digits : address_in (codes "00000000000000001") ≡ None
seventeen_digits = unfold on_samples in refl

no_digits : address_in (codes "0x") ≡ None
no_digits = unfold on_samples in refl

nothing : address_in ([]) ≡ None
nothing = unfold on_samples in refl

other_letters : address_in (codes "0x4g") ≡ None
other_letters = unfold on_samples in refl

blank : address_in (codes " 4") ≡ None
blank = unfold on_samples in refl

x_alone : address_in (codes "x4") ≡ None
x_alone = unfold on_samples in refl

twice : address_in (codes "0x0x4") ≡ None
twice = unfold on_samples in refl

-- ---- spans

an_address : query_in (codes "0x401004") ≡ Some (address 0x401004)
an_address = unfold on_samples in refl

a_span : query_in (codes "0x401000-40100E") ≡ Some (span 0x401000 0x40100e)
a_span = unfold on_samples in refl

all_addresses : query_in (codes "0-ffffffffffffffff") ≡ Some (span 0 0xffffffffffffffff)
all_addresses = unfold on_samples in refl

empty_span : query_in (codes "401000-401000") ≡ None
empty_span = unfold on_samples in refl

falling_span : query_in (codes "401004-401000") ≡ None
falling_span = unfold on_samples in refl

no_end : query_in (codes "401000-") ≡ None
no_end = unfold on_samples in refl

no_begin : query_in (codes "-401000") ≡ None
no_begin = unfold on_samples in refl

two_dashes : query_in (codes "1-2-3") ≡ None
two_dashes = unfold on_samples in refl

long_end : query_in (codes "1-00000000000000002") ≡ None
long_end = unfold on_samples in refl

blank_behind_the_dash : query_in (codes "1- 2") ≡ None
blank_behind_the_dash = unfold on_samples in refl

pieces_cut_off : text plain inlined (word (codes "401002-401006")) ≡ codes "0x0000000000401002-0x0000000000401004 /w/a.c:3\n0x0000000000401004-0x0000000000401006 /w/a.c:4\n"
pieces_cut_off = unfold on_samples in refl

-- with -f and -i the same, and with -a the span before its pieces; no address of it is covered
-- before the unit and after it
pieces_with_the_span : text all inlined (word (codes "400ffe-401010")) ≡ codes "0x0000000000400ffe-0x0000000000401010\n0x0000000000401000-0x0000000000401004 /w/a.c:3\n0x0000000000401004-0x000000000040100e /w/a.c:4\n"
pieces_with_the_span = unfold on_samples in refl

whole_pieces : text plain inlined (word (codes "400000-410000")) ≡ codes "0x0000000000401000-0x0000000000401004 /w/a.c:3\n0x0000000000401004-0x000000000040100e /w/a.c:4\n"
whole_pieces = unfold on_samples in refl

no_pieces : text plain inlined (word (codes "400000-401000")) ≡ codes "??:0\n"
no_pieces = unfold on_samples in refl

no_span : text plain inlined (word (codes "401000-401000")) ≡ codes "!bad address\n"
no_span = unfold on_samples in refl

no_span_told : has_faults inlined (word (codes "401000-401000")) ≡ true
no_span_told = unfold on_samples in refl

span_of_the_narrow_unit : text plain (overlapping (narrow_unit ++ wide_unit)) (word (codes "1000-3000")) ≡ codes "0x0000000000002000-0x0000000000002010 /w/a.c:3\n"
span_of_the_narrow_unit = unfold on_samples in refl

span_of_the_wide_unit : text plain (overlapping (wide_unit ++ narrow_unit)) (word (codes "1000-3000")) ≡ codes "??:0\n"
span_of_the_wide_unit = unfold on_samples in refl

-- two rows of one location
joined_rows : text plain (overlapping_with (line_table (hex (codes "00 09 02 00 20 00 00 00 00 00 00 14 20 02 0f 00 01 01"))) narrow_unit) (word (codes "2000-2010")) ≡ codes "0x0000000000002000-0x0000000000002010 /w/a.c:3\n"
joined_rows = unfold on_samples in refl

-- the same with a column in the second
rows_of_two_columns : text plain (overlapping_with (line_table (hex (codes "00 09 02 00 20 00 00 00 00 00 00 14 05 04 20 02 0f 00 01 01"))) narrow_unit) (word (codes "2000-2010")) ≡ codes "0x0000000000002000-0x0000000000002001 /w/a.c:3\n0x0000000000002001-0x0000000000002010 /w/a.c:3\n"
rows_of_two_columns = unfold on_samples in refl

span_without_lines : text all (poke inlined 354 (0x78 ∷ [])) (word (codes "400ff8-401001")) ≡ codes "0x0000000000400ff8-0x0000000000401001\n!unit 0x0 fault 4\n"
span_without_lines = unfold on_samples in refl

span_without_lines_told : has_faults (poke inlined 354 (0x78 ∷ [])) (word (codes "400ff8-401001")) ≡ true
span_without_lines_told = unfold on_samples in refl

span_before_a_fault : text plain (poke inlined 354 (0x78 ∷ [])) (word (codes "400ff8-401000")) ≡ codes "??:0\n"
span_before_a_fault = unfold on_samples in refl

-- a fault of the entries is none of a span
span_without_entries : text plain faulty (word (codes "401003-401005")) ≡ codes "0x0000000000401003-0x0000000000401004 /w/a.c:3\n0x0000000000401004-0x0000000000401005 /w/a.c:4\n"
span_without_entries = unfold on_samples in refl

-- ---- lines of input

lines_of_input : inputs [] (codes "1\r\n2\n\n3") ≡ codes "1" ∷ codes "2" ∷ [] ∷ codes "3" ∷ []
lines_of_input = unfold on_samples in refl

carriage_return_without_newline : inputs [] (codes "1\r") ≡ codes "1\r" ∷ []
carriage_return_without_newline = unfold on_samples in refl

one_carriage_return : inputs [] (codes "1\r\r\n") ≡ codes "1\r" ∷ []
one_carriage_return = unfold on_samples in refl

words_before_lines : inputs (codes "1\r" ∷ []) (codes "2\n") ≡ codes "1\r" ∷ []
words_before_lines = unfold on_samples in refl
