-- Lists of so many items, read one by one.
use Rattle.std.proofs.Common.{◌≡◌, ℕ, zero, suc, ◌+◌, ◌-◌, ◌<◌, ◌≤◌, List, [], ◌∷◌, ◌++◌, map, Option, Result, Ok, Err, refl, sym, ap, append_assoc, arith}
use Rattle.std.specs.Prelude.{MatchOption}
use Rattle.std.proofs.lemmas.List.{map_push, append-nil}
use Rattle.dw_model.specs.Results.{◌>>=◌}
use Rattle.dw_model.specs.Reading.{Place}
use Rattle.dw_model.specs.Faults.{Bad, bad}
use Rattle.dw_model.specs.Answers.{Tells}

-- the items that were read before, and those that are still read
abbrev pub in_front : {A : Type 0} → List A → Result (List A × Place) Bad → Result (List A × Place) Bad
in_front front read = read >>= λ x. Ok (front ++ x.0, x.1)

in_front-more : {A : Type 0} (front : List A) (item : A) (read : Result (List A × Place) Bad) → in_front front (in_front (item ∷ []) read) ≡ in_front (front ++ item ∷ []) read
in_front-more {A} front item (Ok x) = ap (λ (xs : List A). Ok (xs, x.1)) (sym (append_assoc front (item ∷ []) x.0))
in_front-more front item (Err e) = refl

-- the one fault of a table, told by whatever told it before
pub tells : {A B : Type 0} (told own : Option Bad) (part : Result A Bad) (whole : Result B Bad) → own ≡ told → Tells told part → (part ≡ Err bad → whole ≡ Err bad) → MatchOption own (Unit {0}) (λ fault. whole ≡ Err fault)
tells {A} {B} told own part whole same fault behind = grind arith

-- the same of a call that takes no memory
pub still_tells : {A B : Type 0} (told own : Option Bad) (part : Result A Bad) (whole : Result B Bad) → own ≡ told → Tells told part → (part ≡ Err bad → whole ≡ Err bad) → Tells own whole
still_tells {A} {B} told own part whole same fault behind = grind arith

-- the same where the part takes memory too
pub tells_unless : {A B : Type 0} (told own : Option Bad) (part : Result A Bad) (whole : Result B Bad) → own ≡ told → MatchOption told (Unit {0}) (λ fault. part ≡ Err fault) → (part ≡ Err bad → whole ≡ Err bad) → MatchOption own (Unit {0}) (λ fault. whole ≡ Err fault)
tells_unless {A} {B} told own part whole same fault behind = grind arith

module _ {X A : Type 0} (view : X → A) (one : Place → Result (A × Place) Bad) (many : ℕ → Place → Result (List A × Place) Bad)
    (none : (p : Place) → many zero p ≡ Ok ([], p))
    (some : (n : ℕ) (p : Place) → many (suc n) p ≡ (one p >>= λ x. in_front (x.0 ∷ []) (many n x.1))) where
  -- of a list of `count`, the items before the i-th were read
  abbrev pub SoFar : List X → (count i : ℕ) → Place → Result (List A × Place) Bad → Type 0
  SoFar items count i p whole = in_front (map view items) (many (count - i) p) ≡ whole

  pub begins : (count : ℕ) (p : Place) → SoFar [] count 0 p (many count p)
  begins count p = grind arith

  more : (count i : ℕ) → i < count → count - i ≡ suc (count - (i + 1))
  more count i h = omega (arith, h)

  pub goes_on : (items : List X) (item : X) (count i : ℕ) (p q : Place) (whole : Result (List A × Place) Bad) → i < count → one p ≡ Ok (view item, q) → SoFar items count i p whole → SoFar (items ++ item ∷ []) count (i + 1) q whole
  goes_on items item count i p q whole h e so_far = grind (arith, more, in_front-more, map_push)

  pub stops : (items : List X) (count i : ℕ) (p : Place) (whole : Result (List A × Place) Bad) → i < count → SoFar items count i p whole → one p ≡ Err bad → whole ≡ Err bad
  stops items count i p whole h so_far e = grind (arith, more)

  pub ends : (items : List X) (count i : ℕ) (p : Place) (whole : Result (List A × Place) Bad) → count ≤ i → SoFar items count i p whole → whole ≡ Ok (map view items, p)
  ends items count i p whole h so_far = grind (arith, append-nil)
