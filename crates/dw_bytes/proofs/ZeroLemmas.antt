-- The first zero byte.
use Rattle.std.proofs.Common.{◌≡◌, ℕ, Bool, true, false, List, length, Option, Some, None, refl, arith}
use Rattle.std.specs.Prelude.{position, slice_index, ◌==◌}
use Rattle.std.proofs.lemmas.Bool.{lt-ltb, le-ltb}
use Rattle.std.proofs.lemmas.List.Sums.{position_or_len_is}
use Rattle.memchr.specs.Find.{IsFirstByte, is_byte}

untrue : (b : Bool) → ¬ (b ≡ true) → b ≡ false
untrue true h = absurd (h refl)
untrue false h = refl

pub first_zero : (bytes : List ℕ) (r : Option ℕ) → IsFirstByte (is_byte 0) bytes r → r ≡ position (λ byte. byte == 0) bytes
first_zero bytes None none =
    let at = position_or_len_is (λ byte. byte == 0) bytes (length bytes) 0 (omega arith) (λ k h. untrue (slice_index bytes k == 0) (none k (omega arith) h)) (λ h. absurd (omega arith)) in
    rw (at, le-ltb (length bytes) (length bytes) (omega arith)) refl
first_zero bytes (Some k) h =
    let at = position_or_len_is (λ byte. byte == 0) bytes k 0 (omega (arith, h.0.high)) (λ j b. untrue (slice_index bytes j == 0) (h.0.before j (omega arith) b)) (λ _. h.1) in
    rw (at, lt-ltb k (length bytes) h.0.high) refl
