-- The attributes of an entry whose values can be read.
use Rattle.std.proofs.Common.{◌≡◌, ℕ, List, [], ◌∷◌, length, Ok, ap, arith}
use Rattle.dw_model.specs.Reading.{Place}
use Rattle.dw_model.specs.Abbrev.{Specification}
use Rattle.dw_model.specs.Entry.{Attribute, attributes_at}
use Rattle.dw_model.proofs.StepLemmas.{ok_is}
use Rattle.dw_forms.proofs.FirstValueLemmas.{first-read}

-- as many as are asked for
pub counted-all : (size : ℕ) (specs : List Specification) (p : Place) (found : List Attribute × Place) → attributes_at size specs p ≡ Ok found → length specs ≡ length found.0
unfolding attributes_at
counted-all size [] p found e = ap (λ (x : List Attribute × Place). length x.0) (ok_is ([], p) found e)
counted-all size (one ∷ others) p found e = grind (arith, first-read, counted-all size others)

-- ---- all of them
