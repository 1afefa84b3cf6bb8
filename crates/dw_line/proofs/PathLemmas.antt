-- The last byte of a path.
use Rattle.std.proofs.Common.{◌≡◌, ℕ, suc, ◌-◌, ◌<◌, List, [], ◌∷◌, length, get_or, refl, arith}
use Rattle.std.specs.Prelude.{◌==◌}
use Rattle.dw_model.specs.Path.{ends_in_slash}

closes_from : (b : ℕ) (bytes : List ℕ) → (get_or (b ∷ bytes) (length bytes) 0 == 47) ≡ ends_in_slash (b ∷ bytes)
closes_from b [] = refl
closes_from b (c ∷ bytes) = closes_from c bytes

less_one : (n : ℕ) → suc n - 1 ≡ n
less_one n = omega arith

pub closes_at_last : (bytes : List ℕ) → 0 < length bytes → (get_or bytes (length bytes - 1) 0 == 47) ≡ ends_in_slash bytes
closes_at_last [] some = absurd (omega arith)
closes_at_last (b ∷ bytes) some = rw (less_one (length bytes)) (closes_from b bytes)
