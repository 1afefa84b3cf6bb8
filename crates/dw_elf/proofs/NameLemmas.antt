-- Looking for a name among the used ones.
use Rattle.std.proofs.Common.{◌≡◌, ℕ, Bool, true, false, cond, Option, Some, None, Ok, List, [], ◌∷◌, map, refl, sym, ap, ◌∙◌}
use Rattle.std.specs.Prelude.{find, not, option_map}
use Rattle.dw_model.specs.Elf.{Table}
use Rattle.dw_model.specs.Section.{table_of, lies_in, is_compressed, used_names, accepted_table, elf_refusal}
use Rattle.dw_elf.specs.declared.name.Name.{Name}
use Rattle.dw_elf.specs.declared.fault.OpenFault.TheVariants.{SectionRange, Compressed}
use Rattle.dw_elf.specs.Name.{text_of}
use Rattle.dw_elf.specs.OpenFault.{Refuses}

option_map-cond : {X Y : Type 0} (f : X → Y) (b : Bool) (x : X) (o : Option X) → option_map f (cond b (Some x) o) ≡ cond b (Some (f x)) (option_map f o)
option_map-cond f true x o = refl
option_map-cond f false x o = refl

-- the first that passes, before or after the list is mapped
pub find_mapped : {X Y : Type 0} (f : X → Y) (test : Y → Bool) (xs : List X) → option_map f (find (λ x. test (f x)) xs) ≡ find test (map f xs)
find_mapped f test [] = refl
find_mapped f test (x ∷ xs) = option_map-cond f (test (f x)) x (find (λ y. test (f y)) xs) ∙ ap (cond (test (f x)) (Some (f x))) (find_mapped f test xs)

-- what is found among the used names is found among their texts
found_text : (test : List ℕ → Bool) (names : List Name) (found : Option Name) → map text_of names ≡ used_names → found ≡ find (λ name. test (text_of name)) names → find test used_names ≡ option_map text_of found
found_text test names found used e = ap (find test) (sym used) ∙ sym (find_mapped text_of test names) ∙ ap (option_map text_of) (sym e)

-- a file is refused for the first name whose section runs past its end
pub outside_refused : (file : List ℕ) (table : Table) (names : List Name) (name : Name) → map text_of names ≡ used_names → table_of file ≡ Ok table
    → Some name ≡ find (λ name. not (lies_in file table (text_of name))) names → Refuses (SectionRange name) (elf_refusal file)
unfolding accepted_table
outside_refused file table names name used opened outside =
    rw (opened, found_text (λ text. not (lies_in file table text)) names (Some name) used outside) (refl, refl)

-- and where there is none, for the first whose section is compressed
pub compressed_refused : (file : List ℕ) (table : Table) (names : List Name) (name : Name) → map text_of names ≡ used_names → table_of file ≡ Ok table
    → None ≡ find (λ name. not (lies_in file table (text_of name))) names → Some name ≡ find (λ name. is_compressed table (text_of name)) names
    → Refuses (Compressed name) (elf_refusal file)
unfolding accepted_table
compressed_refused file table names name used opened inside compressed =
    rw (opened, found_text (λ text. not (lies_in file table text)) names None used inside, found_text (is_compressed table) names (Some name) used compressed) (refl, refl)
