-- What was read took its bytes from those that were left.
use Rattle.std.proofs.Common.{◌≡◌, ◌∙◌, [], ℕ, ◌+◌, ◌≤◌, List, length, take, drop, ◌++◌, Option, Result, Ok, Err, Some, refl, sym, ap, arith, length-drop, length-append}
use Rattle.std.specs.Prelude.{nat_le}
use Rattle.std.proofs.lemmas.Bool.{leb-true}
use Rattle.std.proofs.lemmas.Option.{cond_some}
use Rattle.std.proofs.lemmas.List.{take_at, drop_at, take-append-drop, length-take-le}
use Rattle.byteorder.specs.Endian.{little_number}
use Rattle.dw_model.proofs.StepLemmas.{ok_is}
use Rattle.dw_model.specs.Reading.{Place, made, past, Between, number_at, bytes_at}

pub record Took (n : ℕ) (old new : Place) : Type 0 where
  pub enough : n ≤ length old.left
  pub new_is : past n old ≡ new

pub number_at-took : (n : ℕ) (p : Place) (x : ℕ × Place) → number_at n p ≡ Some x → Took n p x.1
number_at-took n p x e =
    let h = cond_some (nat_le n (length p.left)) (little_number n p.left, past n p) x e in
    record { enough = leb-true n (length p.left) h.0; new_is = ap (λ (y : ℕ × Place). y.1) h.1 }

pub bytes_at-took : (n : ℕ) (p : Place) (x : List ℕ × Place) → bytes_at n p ≡ Some x → Took n p x.1
bytes_at-took n p x e =
    let h = cond_some (nat_le n (length p.left)) (take n p.left, past n p) x e in
    record { enough = leb-true n (length p.left) h.0; new_is = ap (λ (y : List ℕ × Place). y.1) h.1 }

-- as many bytes fewer are left
pub took-left : (n : ℕ) (old new : Place) → Took n old new → length new.left + n ≡ length old.left
took-left n old new took =
    let e : length new.left ≡ length (drop n old.left) = ap (λ (p : Place). length p.left) (sym took.new_is) in
    let enough = took.enough in
    omega (arith, e, length-drop n old.left)

-- ---- what is made of a value that was read

pub made_of : {A B E : Type 0} (make : A → B) (read : Result (A × Place) E) (y : B) (q : Place) → made make read ≡ Ok (y, q) → (x : A) × (read ≡ Ok (x, q)) × (y ≡ make x)
made_of {B = B} make (Ok x) y q e =
    let same = ok_is (make x.0, x.1) (y, q) e in
    let place : x.1 ≡ q = ap (λ (z : B × Place). z.1) same in
    (x.0, ap (λ (place : Place). Ok (x.0, place)) place, sym (ap (λ (z : B × Place). z.0) same))
made_of make (Err f) y q e = absurd cc

pub fault_of : {A B E : Type 0} (make : A → B) (read : Result (A × Place) E) (f : E) → made make read ≡ Err f → read ≡ Err f
fault_of make (Ok x) f e = absurd cc
fault_of make (Err g) f e = cc

-- ---- pieces between places

place_of : (a b : ℕ) (s t : List ℕ) → a ≡ b → s ≡ t → ◌≡◌ {A = Place} (record { at = a; left = s }) (record { at = b; left = t })
place_of a b s t e f = cc

-- the place after a piece
pub past-between : (p q : Place) (piece : List ℕ) (n : ℕ) → length piece ≡ n → Between p piece q → past n p ≡ q
past-between p q piece n e b = grind (arith, drop_at, place_of)

pub take-between : (p q : Place) (piece : List ℕ) (n : ℕ) → length piece ≡ n → Between p piece q → take n p.left ≡ piece
take-between p q piece n e b = rw (b.0) (take_at piece q.left n e)

pub between-past : (p : Place) (n : ℕ) → n ≤ length p.left → Between p (take n p.left) (past n p)
between-past p n h = (sym (take-append-drop n p.left), omega (arith, length-take-le n p.left h))

pub read_is : {A : Type 0} {E : Type 0} (x y : A) (p q : Place) → x ≡ y → p ≡ q → ◌≡◌ {A = Result (A × Place) E} (Ok (x, p)) (Ok (y, q))
read_is x y p q e f = cc

pub some_is : {A : Type 0} (x y : A) (p q : Place) → x ≡ y → p ≡ q → ◌≡◌ {A = Option (A × Place)} (Some (x, p)) (Some (y, q))
some_is x y p q e f = cc

pub between-length : (p q : Place) (piece : List ℕ) → Between p piece q → length p.left ≡ length piece + length q.left
between-length p q piece b = rw (b.0) (length-append piece q.left)

-- nothing is between a place and itself
pub between-none : (p q : Place) → p ≡ q → Between p [] q
between-none p q e = (ap (λ (place : Place). place.left) e, omega (arith, ap (λ (place : Place). place.at) e))

pub empty-between : (p q : Place) (piece : List ℕ) → Between p piece q → piece ≡ [] → p ≡ q
empty-between p q piece b e = grind (arith, place_of)

-- the place after a front
abbrev pub behind_front : (front rest : List ℕ) → Place
behind_front front rest = record { at = length front; left = rest }

pub same_front : (first second rest others : List ℕ) → first ++ rest ≡ second ++ others → length first ≡ length second → first ≡ second
same_front first second rest others e size =
    sym (take_at first rest (length second) size) ∙ ap (λ (s : List ℕ). take (length second) s) e ∙ take_at second others (length second) refl
