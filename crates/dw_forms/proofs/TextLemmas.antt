-- A zero byte anywhere ends a first text.
use Rattle.std.proofs.Common.{◌≡◌, ◌∙◌, ℕ, zero, suc, ◌+◌, ◌<◌, Bool, cond, List, [], ◌∷◌, length, Some, option_map, refl, arith}
use Rattle.std.specs.Prelude.{not, slice_get, ◌==◌}
use Rattle.std.specs.List.{position_or_len, before_first}
use Rattle.std.proofs.lemmas.Bool.{lt-ltb, eq-eqb}
use Rattle.std.proofs.lemmas.Option.{same_Some}
use Rattle.dw_model.specs.Reading.{Place, start, text_at}

abbrev is_zero : ℕ → Bool
is_zero byte = byte == 0

behind-one : (b : ℕ) (bytes : List ℕ) (is : Bool) → is_zero b ≡ is → position_or_len is_zero bytes < length bytes → cond (not is) (1 + position_or_len is_zero bytes) 0 < suc (length bytes)
behind-one b bytes is e h = grind arith

zero-first : (b : ℕ) (bytes : List ℕ) → b ≡ 0 → position_or_len is_zero (b ∷ bytes) < suc (length bytes)
zero-first b bytes e = rw (eq-eqb b 0 e) (omega arith)

ends : (bytes : List ℕ) (k b : ℕ) → slice_get bytes k ≡ Some b → b ≡ 0 → position_or_len is_zero bytes < length bytes
ends [] k b e is = absurd cc
ends (c ∷ bytes) zero b e is = zero-first c bytes (same_Some c b e ∙ is)
ends (c ∷ bytes) (suc k) b e is = behind-one c bytes (is_zero c) refl (ends bytes k b e is)

pub text-there : (bytes : List ℕ) (k b : ℕ) → slice_get bytes k ≡ Some b → b ≡ 0 → Some (before_first is_zero bytes) ≡ option_map (λ (found : List ℕ × Place). found.0) (text_at (start bytes))
text-there bytes k b e is = grind (arith, lt-ltb, ends)
