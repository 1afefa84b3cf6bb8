-- LEB128 numbers as they are computed.
use Rattle.std.specs.Prelude.{ℕ, ◌+◌, ◌-◌, ◌*◌, ◌%◌, ◌^◌, ℤ, List, [], ◌∷◌, take, Option, Some, None, Result, Ok}
use Rattle.std.specs.Prelude.{nat_lt, ok_or, position, if◌then◌else◌}
use Rattle.dw_model.specs.Faults as model
use Rattle.dw_model.specs.Leb.{groups, fits_i64}
use Rattle.dw_model.specs.Results.{◌>>=◌}
use Rattle.dw_bytes.specs.declared.leb.Leb.{Leb}
use Rattle.dw_bytes.specs.declared.leb.Leb.TheVariants.{End, Wide}

-- a number that fits 64 bits
abbrev pub fits_u64 : ℕ → Option ℕ
fits_u64 n = if nat_lt n (2 ^ 64) then Some n else None

-- the unsigned number at the front of bytes, where it fits 64 bits, and how many of them it takes
abbrev pub front_uleb : List ℕ → Result (ℕ × ℕ) model.Fault
front_uleb bytes = do
  n ← ok_or (position (λ b. nat_lt b 128) bytes) model.ends_early
  number ← ok_or (fits_u64 (groups (take (n + 1) bytes))) model.too_wide
  Ok (number, n + 1)

-- the fault that an error reports
abbrev pub leb_fault : Leb → Option model.Fault
leb_fault End = Some model.ends_early
leb_fault Wide = Some model.too_wide

-- the number of each reason
abbrev pub fault_number : Leb → ℕ
fault_number End = 1
fault_number Wide = 2

-- the number of the complements of groups of seven bits
abbrev pub complements : List ℕ → ℕ
complements [] = 0
complements (b ∷ bytes) = 127 - b % 128 + 128 * complements bytes

-- a number that fits 63 bits
abbrev pub fits_u63 : ℕ → Option ℕ
fits_u63 n = if nat_lt n (2 ^ 63) then Some n else None

-- a signed number that fits 64 bits
abbrev pub fits_signed : ℤ → Option ℤ
fits_signed z = if fits_i64 z then Some z else None
