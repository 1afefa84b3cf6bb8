-- The least owner of several ranges.
use Rattle.std.proofs.Common.{◌≡◌, ℕ, List, [], ◌∷◌, ◌++◌, Option, None, refl, arith}
use Rattle.dw_model.specs.Ranges.{Range}
use Rattle.dw_index.specs.Owners.{least, least_owner}

pub least-assoc : (x y z : Option ℕ) → least (least x y) z ≡ least x (least y z)
least-assoc x y z = grind arith

pub least-none : (x : Option ℕ) → least x None ≡ x
least-none x = grind arith

pub least_owner-append : (pairs others : List (Range × ℕ)) (a : ℕ) → least_owner (pairs ++ others) a ≡ least (least_owner pairs a) (least_owner others a)
unfolding least_owner
least_owner-append [] others a = refl
least_owner-append (pair ∷ pairs) others a = grind (arith, least_owner-append pairs others a)
