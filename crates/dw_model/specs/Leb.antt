-- LEB128 numbers (DWARF 5, section 7.6).
use Rattle.std.specs.Prelude.{◌≡◌, ℕ, ◌+◌, ◌*◌, ◌^◌, ◌%◌, ◌<◌, ◌≤◌, ℤ, pos, ◌-ℤ◌, neg_ℤ, Bool, false, IsFalse, ◌&&◌}
use Rattle.std.specs.Prelude.{List, [], ◌∷◌, length, take, Result, Ok, Err, ok_or, position, nat_lt, nat_le, int_lt}
use Rattle.std.specs.Prelude.{int_le, if◌then◌else◌}
use Rattle.dw_model.specs.Results.{◌>>=◌}
use Rattle.dw_model.specs.Reading.{Place, past, BeginsWith}
use Rattle.dw_model.specs.Faults.{Fault, ends_early, too_wide}

-- the number whose groups of seven bits are the low seven bits of each byte, the lowest first
abbrev pub groups : List ℕ → ℕ
groups [] = 0
groups (b ∷ bytes) = b % 128 + 128 * groups bytes

-- bit 6 of the last byte is set
abbrev pub is_negative : List ℕ → Bool
is_negative [] = false
is_negative (b ∷ []) = nat_le 64 (b % 128)
is_negative (b ∷ c ∷ bytes) = is_negative (c ∷ bytes)

-- the same number in two's complement: 128 ^ k less where bit 6 of the last of k bytes is set
abbrev pub signed_groups : List ℕ → ℤ
signed_groups bytes = if is_negative bytes then pos (groups bytes) -ℤ pos (128 ^ length bytes) else pos (groups bytes)

-- the top bit is set on all bytes but the last
abbrev pub IsLeb : List ℕ → Type 0
IsLeb [] = ⊥
IsLeb (b ∷ []) = b < 128
IsLeb (b ∷ c ∷ bytes) = (128 ≤ b) × IsLeb (c ∷ bytes)

-- the bytes are a spelling of the number; a number may have longer spellings, which are padded
-- (own)
abbrev pub IsUleb : List ℕ → ℕ → Type 0
IsUleb bytes n = IsLeb bytes × (n ≡ groups bytes)

abbrev pub IsSleb : List ℕ → ℤ → Type 0
IsSleb bytes z = IsLeb bytes × (z ≡ signed_groups bytes)

abbrev pub fits_i64 : ℤ → Bool
fits_i64 z = int_le (neg_ℤ (pos (2 ^ 63))) z && int_lt z (pos (2 ^ 63))

-- the bytes begin with a spelling of a number that doesn't fit 64 bits
abbrev pub BeginsTooWide : List ℕ → Type 0
BeginsTooWide = BeginsWith (λ piece. (n : ℕ) × IsUleb piece n × (2 ^ 64 ≤ n))

-- the same of a signed number
abbrev pub BeginsTooWideSigned : List ℕ → Type 0
BeginsTooWideSigned = BeginsWith (λ piece. (z : ℤ) × IsSleb piece z × IsFalse (fits_i64 z))

-- the bytes up to and with the next one whose top bit isn't set
abbrev pub leb_at : Place → Result (List ℕ × Place) Fault
leb_at p = do
  n ← ok_or (position (λ b. nat_lt b 128) p.left) ends_early
  Ok (take (n + 1) p.left, past (n + 1) p)

-- an unsigned number, which fits 64 bits
unfoldable pub uleb_at : Place → Result (ℕ × Place) Fault
uleb_at p = do
  bytes ← leb_at p
  if nat_lt (groups bytes.0) (2 ^ 64) then Ok (groups bytes.0, bytes.1) else Err too_wide

-- a signed number, which fits 64 bits
unfoldable pub sleb_at : Place → Result (ℤ × Place) Fault
sleb_at p = do
  bytes ← leb_at p
  if fits_i64 (signed_groups bytes.0) then Ok (signed_groups bytes.0, bytes.1) else Err too_wide
