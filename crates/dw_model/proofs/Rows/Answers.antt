-- What addresses mean.
use Rattle.std.specs.Prelude.{◌≡◌, ℕ, List, ◌∷◌, [], ◌++◌, Option, Some, None, codes, refl}
use Rattle.dw_model.specs.Faults.{entry_fault}
use Rattle.dw_model.specs.Answer.{Frame, not_covered, fault, found, tree_fault, line_fault, answer, location}
use Rattle.dw_model.proofs.Samples.{poke, smallest, inlined, inlined_info, with_info, with_bare_unit, wide_unit, narrow_unit, overlapping}
use Rattle.dw_model.proofs.OnSamples.{on_samples}

-- a frame with all that can be known of it
abbrev known : List ℕ → List ℕ → ℕ → Option ℕ → Frame
known name path line column = record { name = Some name; location = record { path = Some path; line = Some line; column = column } }

abbrev nothing_known : Frame
nothing_known = record { name = None; location = record { path = None; line = None; column = None } }

abbrev without_name : List ℕ → ℕ → Frame
without_name path line = record { name = None; location = record { path = Some path; line = Some line; column = Some 0 } }

abbrev a : List ℕ
a = codes "/w/a.c"

abbrev z : List ℕ
z = codes "/w/z.c"

below : answer inlined 0x400fff ≡ not_covered
below = unfold on_samples in refl

main_alone : answer inlined 0x401000 ≡ found 0 (known (codes "main") a 3 (Some 0) ∷ [])
main_alone = unfold on_samples in refl

mid_in_main : answer inlined 0x401002 ≡ found 0 (known (codes "mid") a 3 (Some 0) ∷ known (codes "main") z 20 (Some 7) ∷ [])
mid_in_main = unfold on_samples in refl

leaf_in_mid_in_main : answer inlined 0x401004 ≡ found 0 (known (codes "leaf") a 4 (Some 0) ∷ known (codes "mid") a 30 None ∷ known (codes "main") z 20 (Some 7) ∷ [])
leaf_in_mid_in_main = unfold on_samples in refl

last_byte_of_leaf : answer inlined 0x401005 ≡ found 0 (known (codes "leaf") a 4 (Some 0) ∷ known (codes "mid") a 30 None ∷ known (codes "main") z 20 (Some 7) ∷ [])
last_byte_of_leaf = unfold on_samples in refl

behind_leaf : answer inlined 0x401006 ≡ found 0 (known (codes "mid") a 4 (Some 0) ∷ known (codes "main") z 20 (Some 7) ∷ [])
behind_leaf = unfold on_samples in refl

behind_mid : answer inlined 0x401008 ≡ found 0 (known (codes "main") a 4 (Some 0) ∷ [])
behind_mid = unfold on_samples in refl

last_byte : answer inlined 0x40100d ≡ found 0 (known (codes "main") a 4 (Some 0) ∷ [])
last_byte = unfold on_samples in refl

behind_the_unit : answer inlined 0x40100e ≡ not_covered
behind_the_unit = unfold on_samples in refl

no_file_at_all : answer smallest 0 ≡ not_covered
no_file_at_all = unfold on_samples in refl

without_functions : location inlined 0x401004 ≡ found 0 (without_name a 4 ∷ [])
without_functions = unfold on_samples in refl

second_unit : answer with_bare_unit 0x500001 ≡ found 0x6e (nothing_known ∷ [])
second_unit = unfold on_samples in refl

first_unit_before_the_second : answer with_bare_unit 0x401000 ≡ found 0 (known (codes "main") a 3 (Some 0) ∷ [])
first_unit_before_the_second = unfold on_samples in refl

location_in_the_second_unit : location with_bare_unit 0x500001 ≡ found 0x6e (nothing_known ∷ [])
location_in_the_second_unit = unfold on_samples in refl

wide_unit_first : answer (overlapping (wide_unit ++ narrow_unit)) 0x2000 ≡ found 0 (nothing_known ∷ [])
wide_unit_first = unfold on_samples in refl

narrow_unit_first : answer (overlapping (narrow_unit ++ wide_unit)) 0x2000 ≡ found 0 (without_name a 3 ∷ [])
narrow_unit_first = unfold on_samples in refl

outside_the_narrow_unit : answer (overlapping (narrow_unit ++ wide_unit)) 0x2010 ≡ found 0x1d (nothing_known ∷ [])
outside_the_narrow_unit = unfold on_samples in refl

entry_fault_of_a_unit : answer (with_info (poke inlined_info 0x23 (0x63 ∷ []))) 0x401000 ≡ fault 0 (tree_fault entry_fault)
entry_fault_of_a_unit = unfold on_samples in refl

location_without_the_tree : location (with_info (poke inlined_info 0x23 (0x63 ∷ []))) 0x401000 ≡ found 0 (without_name a 3 ∷ [])
location_without_the_tree = unfold on_samples in refl

bad_lines : answer (poke inlined 354 (0x78 ∷ [])) 0x401000 ≡ fault 0 line_fault
bad_lines = unfold on_samples in refl

bad_lines_at_a_location : location (poke inlined 354 (0x78 ∷ [])) 0x401000 ≡ fault 0 line_fault
bad_lines_at_a_location = unfold on_samples in refl

bad_lines_outside : answer (poke inlined 354 (0x78 ∷ [])) 0x400000 ≡ not_covered
bad_lines_outside = unfold on_samples in refl

tree_before_lines : answer (poke (with_info (poke inlined_info 0x23 (0x63 ∷ []))) 354 (0x78 ∷ [])) 0x401000 ≡ fault 0 (tree_fault entry_fault)
tree_before_lines = unfold on_samples in refl

many_directories : answer (poke inlined 279 (0x7f ∷ [])) 0x401000 ≡ fault 0 line_fault
many_directories = unfold on_samples in refl

-- line 0 is no line, and takes the column with it
call_line_0 : answer (with_info (poke inlined_info 0x45 (0 ∷ []))) 0x401002 ≡ found 0 (known (codes "mid") a 3 (Some 0) ∷ record { name = Some (codes "main"); location = record { path = Some z; line = None; column = None } } ∷ [])
call_line_0 = unfold on_samples in refl
