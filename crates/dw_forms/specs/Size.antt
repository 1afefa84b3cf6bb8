-- Values that take as many bytes in every entry (DWARF 5, table 7.6).
use Rattle.std.specs.Prelude.{◌≡◌, ℕ, ◌+◌, ℤ, List, [], ◌∷◌, Option, Some, None, Result, ok_or, nat_eq, option_map}
use Rattle.std.specs.Prelude.{option_and_then}
use Rattle.std.specs.Map.{lookup}
use Rattle.dw_model.specs.Faults.{Fault, ends_early}
use Rattle.dw_model.specs.Reading.{Place, made, bytes_at}
use Rattle.dw_model.specs.Form.{Spelling, fixed, offset, block, implicit, present, forms}
use Rattle.dw_model.specs.Abbrev.{Specification}
use Rattle.dw_bytes.specs.Leb.{fits_u64}

-- of values in this spelling, where offsets have so many bytes
abbrev pub spelling_size : ℕ → Option ℤ → Spelling → Option ℕ
spelling_size size constant (fixed n make) = Some n
spelling_size size constant (offset make) = Some size
spelling_size size constant (block n) = Some n
spelling_size size constant implicit = option_map (λ _. 0) constant
spelling_size size constant present = Some 0
spelling_size size constant _ = None

-- the size of the values of an attribute, where all have the same
abbrev pub value_size : ℕ → Specification → Option ℕ
value_size size specification =
    option_and_then (spelling_size size specification.constant) (lookup (nat_eq specification.form) forms)

-- the size of all values together
abbrev pub values_size : ℕ → List Specification → Option ℕ
values_size size [] = Some 0
values_size size (specification ∷ specifications) =
    option_and_then (λ m. option_map (λ n. m + n) (values_size size specifications)) (value_size size specification)

-- the same, where it fits 64 bits
abbrev pub size_in : ℕ → List Specification → Option ℕ
size_in size specifications = option_and_then fits_u64 (values_size size specifications)

-- where reading goes, and its fault
abbrev pub place_behind : {A : Type 0} → Result (A × Place) Fault → Result (Unit {0} × Place) Fault
place_behind read = made (λ _. tt) read

-- Wherever it is read, it goes as far as the next n bytes do, and has no other fault than theirs.
abbrev pub Skips : {A : Type 0} → ℕ → (Place → Result (A × Place) Fault) → Type 0
Skips n read = (p : Place) → place_behind (read p) ≡ place_behind (ok_or (bytes_at n p) ends_early)
