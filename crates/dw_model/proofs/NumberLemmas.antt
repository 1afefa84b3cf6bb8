-- Fixed numbers, bytes and texts are in a piece of the bytes.
use Rattle.std.proofs.Common.{◌≡◌, ℕ, zero, suc, ◌+◌, ◌≤◌, true, List, ◌++◌, length, take, drop, Some, refl, sym, ap, ◌∙◌, arith, length-append}
use Rattle.std.specs.Prelude.{nat_le, slice_index}
use Rattle.std.proofs.lemmas.Bool.{leb-true, le-leb}
use Rattle.std.proofs.lemmas.List.{get_or_append_left, length-take-le, take-append-drop}
use Rattle.byteorder.specs.Endian.{little_from, little_number}
use Rattle.std.proofs.lemmas.Option.{cond_some}
use Rattle.dw_model.specs.Reading.{Place, past, Between, Spans, number_at, bytes_at}
use Rattle.dw_model.proofs.ReadingLemmas.{past-between, take-between, between-past, some_is}

little_from-append : (n i : ℕ) (xs ys : List ℕ) → i + n ≤ length xs → little_from i n (xs ++ ys) ≡ little_from i n xs
little_from-append zero i xs ys h = refl
little_from-append (suc n) i xs ys h =
    let first : slice_index (xs ++ ys) i ≡ slice_index xs i = get_or_append_left xs ys 0 i (omega (arith, h)) in
    let others : little_from (suc i) n (xs ++ ys) ≡ little_from (suc i) n xs = little_from-append n (suc i) xs ys (omega (arith, h)) in
    rw (first, others) refl

-- the number in the first bytes is that of a front that has them
pub little_number-append : (n : ℕ) (front rest : List ℕ) → n ≤ length front → little_number n (front ++ rest) ≡ little_number n front
little_number-append n front rest h = little_from-append n 0 front rest (omega (arith, h))

enough : (p q : Place) (piece : List ℕ) (n : ℕ) → length piece ≡ n → Between p piece q → nat_le n (length p.left) ≡ true
enough p q piece n e b =
    let whole : length p.left ≡ length piece + length q.left = rw (b.0) (length-append piece q.left) in
    le-leb n (length p.left) (omega (arith, whole, e))

pub number_at-ok : (n : ℕ) (p q : Place) (piece : List ℕ) → length piece ≡ n → Between p piece q → number_at n p ≡ Some (little_number n piece, q)
number_at-ok n p q piece e b = grind (arith, little_number-append, enough, some_is, past-between)

pub number_at-spans : (n : ℕ) (p : Place) (x : ℕ × Place) → number_at n p ≡ Some x → Spans (λ piece. (length piece ≡ n) × (x.0 ≡ little_number n piece)) p x.1
number_at-spans n p x e =
    let h = cond_some (nat_le n (length p.left)) (little_number n p.left, past n p) x e in
    let within : n ≤ length p.left = leb-true n (length p.left) h.0 in
    let size : length (take n p.left) ≡ n = length-take-le n p.left within in
    let whole : take n p.left ++ drop n p.left ≡ p.left = take-append-drop n p.left in
    let same : little_number n p.left ≡ little_number n (take n p.left) = ap (little_number n) (sym whole) ∙ little_number-append n (take n p.left) (drop n p.left) (omega (arith, size)) in
    rw (← h.1) (take n p.left, between-past p n within, (size, same))

pub bytes_at-ok : (n : ℕ) (p q : Place) (piece : List ℕ) → length piece ≡ n → Between p piece q → bytes_at n p ≡ Some (piece, q)
bytes_at-ok n p q piece e b = grind (arith, enough, some_is, take-between, past-between)

pub bytes_at-between : (n : ℕ) (p : Place) (x : List ℕ × Place) → bytes_at n p ≡ Some x → (length x.0 ≡ n) × Between p x.0 x.1
bytes_at-between n p x e =
    let h = cond_some (nat_le n (length p.left)) (take n p.left, past n p) x e in
    let within : n ≤ length p.left = leb-true n (length p.left) h.0 in
    rw (← h.1) (length-take-le n p.left within, between-past p n within)
