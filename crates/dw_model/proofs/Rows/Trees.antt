-- Trees of entries, functions at an address, and names.
use Rattle.std.specs.Prelude.{◌≡◌, ℕ, List, ◌∷◌, [], ◌++◌, map, Option, Some, None, Result, Ok, Err, option_map, slice_get, codes, refl}
use Rattle.dw_model.specs.Results.{◌>>=◌}
use Rattle.dw_model.specs.Faults.{TreeFault, entry_fault, depth_fault, ranges_fault}
use Rattle.dw_model.specs.Section.{sections}
use Rattle.dw_model.specs.Unit.{units}
use Rattle.dw_model.specs.Tree.{tree, chain}
use Rattle.dw_model.specs.Name.{name}
use Rattle.dw_model.proofs.Samples.{hex, poke, three_sections, inlined, inlined_info, inlined_abbrev, with_info, deep, far_name}
use Rattle.dw_model.proofs.OnSamples.{on_samples}

-- the offsets and depths of the entries of a file's first unit
abbrev depths : List ℕ → Option (Result (List (ℕ × ℕ)) TreeFault)
depths file = option_map (λ unit. tree (sections file) unit >>= λ nodes. Ok (map (λ node. (node.entry.offset, node.depth)) nodes)) (slice_get (units (sections file).info) 0)

-- whether its tree can be read
abbrev is_readable : List ℕ → Option (Result (Unit {0}) TreeFault)
is_readable file = option_map (λ unit. tree (sections file) unit >>= λ nodes. Ok tt) (slice_get (units (sections file).info) 0)

-- the offsets and names of the functions at an address, in its first unit
abbrev functions_at : List ℕ → ℕ → Option (Result (List (ℕ × Option (List ℕ))) TreeFault)
functions_at file a =
    option_map
    (λ unit. tree (sections file) unit >>= λ nodes.
    Ok (map (λ node. (node.entry.offset, name (sections file) (record { unit = unit; entry = node.entry }))) (chain (sections file) unit nodes a)))
    (slice_get (units (sections file).info) 0)

depths_of_entries : depths inlined ≡ Some (Ok ((0x0c, 0) ∷ (0x1d, 1) ∷ (0x23, 1) ∷ (0x35, 2) ∷ (0x36, 3) ∷ (0x47, 4) ∷ []))
depths_of_entries = unfold on_samples in refl

three_functions : functions_at inlined 0x401004 ≡ Some (Ok ((0x47, Some (codes "leaf")) ∷ (0x36, Some (codes "mid")) ∷ (0x23, Some (codes "main")) ∷ []))
three_functions = unfold on_samples in refl

one_function : functions_at inlined 0x401000 ≡ Some (Ok ((0x23, Some (codes "main")) ∷ []))
one_function = unfold on_samples in refl

two_functions : functions_at inlined 0x401006 ≡ Some (Ok ((0x36, Some (codes "mid")) ∷ (0x23, Some (codes "main")) ∷ []))
two_functions = unfold on_samples in refl

no_function : functions_at inlined 0x40100e ≡ Some (Ok [])
no_function = unfold on_samples in refl

entry_that_names_itself : functions_at (with_info (poke inlined_info 0x48 (0x47 ∷ []))) 0x401004 ≡ Some (Ok ((0x47, None) ∷ (0x36, Some (codes "mid")) ∷ (0x23, Some (codes "main")) ∷ []))
entry_that_names_itself = unfold on_samples in refl

entry_without_declaration : is_readable (with_info (poke inlined_info 0x23 (0x63 ∷ []))) ≡ Some (Err entry_fault)
entry_without_declaration = unfold on_samples in refl

depth_512 : is_readable (deep 0x219 512) ≡ Some (Ok tt)
depth_512 = unfold on_samples in refl

depth_513 : is_readable (deep 0x21a 513) ≡ Some (Err depth_fault)
depth_513 = unfold on_samples in refl

lists_ended_by_the_unit : is_readable (deep 0x1c 3) ≡ Some (Ok tt)
lists_ended_by_the_unit = unfold on_samples in refl

-- the function's low_pc is an index, without a base
ranges_of_a_function : is_readable (three_sections inlined_info (poke inlined_abbrev 17 (0x1b ∷ [])) []) ≡ Some (Err ranges_fault)
ranges_of_a_function = unfold on_samples in refl

name_16_references_away : functions_at (far_name 16) 0x1000 ≡ Some (Ok ((0x19, Some (codes "deep")) ∷ []))
name_16_references_away = unfold on_samples in refl

name_17_references_away : functions_at (far_name 17) 0x1000 ≡ Some (Ok ((0x19, None) ∷ []))
name_17_references_away = unfold on_samples in refl

entries_that_name_each_other : functions_at (three_sections (hex (codes "2c 00 00 00 05 00 01 08 00 00 00 00") ++ hex (codes "01 00 10 00 00 00 00 00 00 10 00 00 00") ++ hex (codes "02 2a 00 00 00 00 10 00 00 00 00 00 00 10 00 00 00") ++ hex (codes "03 19 00 00 00 00")) (hex (codes "01 11 01 11 01 12 06 00 00 02 2e 00 31 13 11 01 12 06 00 00 03 2e 00 31 13 00 00 00")) []) 0x1000 ≡ Some (Ok ((0x19, None) ∷ []))
entries_that_name_each_other = unfold on_samples in refl

nothing_behind_the_last_list : depths (with_info (hex (codes "1e 00 00 00 05 00 01 08 00 00 00 00") ++ hex (codes "01 00 00 00 00 00 10 40 00 00 00 00 00 0e 00 00 00") ++ hex (codes "04 00 00 63 63"))) ≡ Some (Ok ((0x0c, 0) ∷ (0x1d, 1) ∷ []))
nothing_behind_the_last_list = unfold on_samples in refl

root_without_children : depths (with_info (hex (codes "10 00 00 00 05 00 01 08 00 00 00 00") ++ hex (codes "03 6d 00 63 63 63 63 63"))) ≡ Some (Ok ((0x0c, 0) ∷ []))
root_without_children = unfold on_samples in refl
