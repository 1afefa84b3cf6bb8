-- The number of groups of seven bits, from the last group on.
use Rattle.std.proofs.Common.{◌≡◌, ℕ, zero, suc, ◌+◌, ◌-◌, ◌*◌, ◌%◌, ◌^◌, ◌<◌, ◌≤◌, pos, negsuc, Bool, true, false, List, [], ◌∷◌, length, drop, get_or, Some, None, cond, w64, to_z, of_z, refl, sym, arith}
use Rattle.std.specs.Prelude.{nat_lt, nat_le, ◌-ℤ◌, position}
use Rattle.std.proofs.lemmas.Bool.{le-ltb}
use Rattle.std.proofs.lemmas.Option.{same_Some}
use Rattle.std.proofs.Math.Nat.{pow-succ'}
use Rattle.std.proofs.lemmas.List.{drop_more}
use Rattle.dw_model.specs.Leb.{groups, signed_groups, is_negative}
use Rattle.dw_bytes.specs.Leb.{fits_u64, fits_u63, fits_signed, complements}

-- a number that is a group and 128 times the number of the others
module _ (group : ℕ → ℕ) (number : List ℕ → ℕ) (nothing : number [] ≡ 0) (more : (b : ℕ) (bytes : List ℕ) → number (b ∷ bytes) ≡ group b + 128 * number bytes) where
  number-drop : (n : ℕ) (bytes : List ℕ) → number (drop n bytes) ≤ number bytes
  number-drop zero bytes = omega arith
  number-drop (suc n) [] = omega arith
  number-drop (suc n) (b ∷ bytes) = omega (arith, number-drop n bytes, more b bytes)

  -- one group more before those that were counted
  pub one_more : (bytes : List ℕ) (i : ℕ) → i < length bytes → number (drop (length bytes - (i + 1)) bytes) ≡ number (drop (length bytes - i) bytes) * 128 + group (get_or bytes (length bytes - 1 - i) 0)
  one_more bytes i h =
      let place : length bytes - (i + 1) ≡ length bytes - 1 - i = omega (arith, h) in
      let next : length bytes - 1 - i + 1 ≡ length bytes - i = omega (arith, h) in
      let split : drop (length bytes - 1 - i) bytes ≡ get_or bytes (length bytes - 1 - i) 0 ∷ drop (length bytes - 1 - i + 1) bytes = drop_more bytes (length bytes - 1 - i) 0 (omega (arith, h)) in
      rw (place, split, next, more (get_or bytes (length bytes - 1 - i) 0) (drop (length bytes - i) bytes)) (omega arith)

  -- a number that is large before its last group is added
  pub large : (bytes : List ℕ) (i value limit : ℕ) → i < length bytes → value ≡ number (drop (length bytes - i) bytes) → limit ≤ value → limit * 128 ≤ number bytes
  large bytes i value limit h is above =
      omega (arith, one_more bytes i h, number-drop (length bytes - (i + 1)) bytes, above, is)

pub unsigned_large : (bytes : List ℕ) (i value : ℕ) → i < length bytes → value ≡ groups (drop (length bytes - i) bytes) → 2 ^ 57 ≤ value → None ≡ fits_u64 (groups bytes)
unsigned_large bytes i value h is above =
    let out = large (λ b. b % 128) groups refl (λ b bytes. refl) bytes i value (2 ^ 57) h is above in
    rw (le-ltb (groups bytes) (2 ^ 64) (omega (arith, out))) refl

pub below_large : (bytes : List ℕ) (i value : ℕ) → i < length bytes → value ≡ complements (drop (length bytes - i) bytes) → 2 ^ 56 ≤ value → None ≡ fits_u63 (complements bytes)
below_large bytes i value h is above =
    let out = large (λ b. 127 - b % 128) complements refl (λ b bytes. refl) bytes i value (2 ^ 56) h is above in
    rw (le-ltb (complements bytes) (2 ^ 63) (omega (arith, out))) refl

pub below_more : (bytes : List ℕ) (i : ℕ) → i < length bytes → complements (drop (length bytes - (i + 1)) bytes) ≡ complements (drop (length bytes - i) bytes) * 128 + (127 - get_or bytes (length bytes - 1 - i) 0 % 128)
below_more = one_more (λ b. 127 - b % 128) complements refl (λ b bytes. refl)

-- ---- signs

pub sign_of : (bytes : List ℕ) → is_negative bytes ≡ nat_le 64 (get_or bytes (length bytes - 1) 0 % 128)
sign_of [] = refl
sign_of (b ∷ []) = refl
sign_of (b ∷ c ∷ bytes) =
    let place : length (b ∷ c ∷ bytes) - 1 ≡ suc (length (c ∷ bytes) - 1) = omega arith in
    rw place (sign_of (c ∷ bytes))

-- the groups and their complements are all bits
all_bits : (bytes : List ℕ) → groups bytes + complements bytes + 1 ≡ 128 ^ length bytes
all_bits [] = refl
all_bits (b ∷ bytes) =
    let power : 128 ^ length (b ∷ bytes) ≡ 128 * 128 ^ length bytes = pow-succ' 128 (length bytes) in
    omega (arith, all_bits bytes, power)

less : (a b n : ℕ) → a + b + 1 ≡ n → pos a -ℤ pos n ≡ negsuc b
less a b n e = grind (arith, e)

pub negative_is : (bytes : List ℕ) → is_negative bytes ≡ true → signed_groups bytes ≡ negsuc (complements bytes)
negative_is bytes e = rw e (less (groups bytes) (complements bytes) (128 ^ length bytes) (all_bits bytes))

fits_by : (m : ℕ) (small : Bool) → nat_lt m (2 ^ 63) ≡ small → fits_signed (negsuc m) ≡ cond small (Some (negsuc m)) None
fits_by m true e = grind (arith, e)
fits_by m false e = grind (arith, e)

too_low : (m : ℕ) (small : Bool) → nat_lt m (2 ^ 63) ≡ small → None ≡ cond small (Some m) None → nat_lt m (2 ^ 63) ≡ false
too_low m true e h = absurd cc
too_low m false e h = e

low : (m x : ℕ) (small : Bool) → nat_lt m (2 ^ 63) ≡ small → Some x ≡ cond small (Some m) None → (nat_lt m (2 ^ 63) ≡ true) × (x ≡ m)
low m x true e h = (e, same_Some x m h)
low m x false e h = absurd cc

pub below_none : (bytes : List ℕ) → is_negative bytes ≡ true → None ≡ fits_u63 (complements bytes) → None ≡ fits_signed (signed_groups bytes)
below_none bytes e h =
    let small = too_low (complements bytes) (nat_lt (complements bytes) (2 ^ 63)) refl h in
    rw (negative_is bytes e) (sym (fits_by (complements bytes) false small))

pub below_some : (bytes : List ℕ) (below : ℕ) → is_negative bytes ≡ true → Some below ≡ fits_u63 (complements bytes) → Some (to_z w64 (of_z w64 (negsuc 0 -ℤ to_z w64 below))) ≡ fits_signed (signed_groups bytes)
below_some bytes below e h =
    let l = low (complements bytes) below (nat_lt (complements bytes) (2 ^ 63)) refl h in
    rw (negative_is bytes e, fits_by (complements bytes) true l.0) (grind (arith, l.1, l.0))

-- ---- numbers of one byte

pub first_is_last : (bytes : List ℕ) → 0 < length bytes → get_or bytes 0 0 < 128 → Some 0 ≡ position (λ b. nat_lt b 128) bytes
first_is_last [] some small = absurd (omega (arith, some))
first_is_last (b ∷ bytes) some small = grind (arith, small)

pub second_is_last : (bytes : List ℕ) → 1 < length bytes → 128 ≤ get_or bytes 0 0 → get_or bytes 1 0 < 128 → Some 1 ≡ position (λ b. nat_lt b 128) bytes
second_is_last [] some large small = absurd (omega (arith, some))
second_is_last (b ∷ []) some large small = absurd (omega (arith, some))
second_is_last (b ∷ c ∷ bytes) some large small = grind (arith, large, small)

-- a group in two's complement
pub one_group_positive : (b : ℕ) → b % 128 < 64 → fits_signed (signed_groups (b ∷ [])) ≡ Some (pos (b % 128))
one_group_positive b small = grind (arith, small)

pub one_group_negative : (b : ℕ) → 64 ≤ b % 128 → fits_signed (signed_groups (b ∷ [])) ≡ Some (pos (b % 128) -ℤ pos 128)
one_group_negative b above = grind (arith, above)

pub pair_positive : (b c : ℕ) → c % 128 < 64 → fits_signed (signed_groups (b ∷ c ∷ [])) ≡ Some (pos (b % 128 + 128 * (c % 128)))
pair_positive b c small = grind (arith, small)

pub pair_negative : (b c : ℕ) → 64 ≤ c % 128 → fits_signed (signed_groups (b ∷ c ∷ [])) ≡ Some (pos (b % 128 + 128 * (c % 128)) -ℤ pos 16384)
pair_negative b c above = grind (arith, above)
