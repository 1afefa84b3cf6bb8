-- A text is compared by no more bytes than it and its zero byte take.
use Rattle.std.proofs.Common.{◌≡◌, ◌∙◌, ℕ, suc, ◌+◌, Bool, true, false, List, [], ◌∷◌, length, take, Option, Some, None, option_map, refl, sym, ap, arith}
use Rattle.std.specs.Prelude.{◌==◌, ◌&&◌, nat_eq, nat_lt, bytes_eq}
use Rattle.std.specs.Option.{option_eq}
use Rattle.std.specs.List.{position_or_len}
use Rattle.std.proofs.lemmas.Bool.{lt-ltb, le-ltb, ltb-true, ltb-false}
use Rattle.dw_model.specs.Reading.{Place, start, text_at}
use Rattle.dw_elf.specs.Layout.{first_text}

abbrev is_zero : ℕ → Bool
is_zero b = b == 0

abbrev end_of : List ℕ → ℕ
end_of bytes = position_or_len is_zero bytes

-- a zero byte in front ends the text
at-zero : (b : ℕ) (bytes : List ℕ) → (b == 0) ≡ true → first_text (b ∷ bytes) ≡ Some []
at-zero b bytes e = rw (e, lt-ltb 0 (suc (length bytes)) (omega arith)) refl

one-more : (p n : ℕ) (is : Bool) → nat_lt p n ≡ is → nat_lt (suc p) (suc n) ≡ is
one-more p n true e = lt-ltb (suc p) (suc n) (omega (arith, ltb-true p n e))
one-more p n false e = le-ltb (suc p) (suc n) (omega (arith, ltb-false p n e))

after-other : (b : ℕ) (bytes : List ℕ) (is : Bool) → nat_lt (end_of bytes) (length bytes) ≡ is → (b == 0) ≡ false → first_text (b ∷ bytes) ≡ option_map (λ text. b ∷ text) (first_text bytes)
after-other b bytes true f e =
    let k : 1 + end_of bytes ≡ suc (end_of bytes) = omega arith in
    rw (e, k, one-more (end_of bytes) (length bytes) true f, f) refl
after-other b bytes false f e =
    let k : 1 + end_of bytes ≡ suc (end_of bytes) = omega arith in
    rw (e, k, one-more (end_of bytes) (length bytes) false f, f) refl

joined : (b : ℕ) (bytes : List ℕ) → (b == 0) ≡ false → first_text (b ∷ bytes) ≡ option_map (λ text. b ∷ text) (first_text bytes)
joined b bytes e = after-other b bytes (nat_lt (end_of bytes) (length bytes)) refl e

not-empty : (b : ℕ) (text : Option (List ℕ)) → option_eq bytes_eq (option_map (λ text. b ∷ text) text) (Some []) ≡ false
not-empty b None = refl
not-empty b (Some text) = refl

never : (b : Bool) → b && false ≡ false
never true = refl
never false = refl

with-front : (b c : ℕ) (text : Option (List ℕ)) (other : List ℕ) → option_eq bytes_eq (option_map (λ text. b ∷ text) text) (Some (c ∷ other)) ≡ nat_eq b c && option_eq bytes_eq text (Some other)
with-front b c None other = sym (never (nat_eq b c))
with-front b c (Some text) other = refl

by-front : (b : ℕ) (bytes text : List ℕ) (is : Bool) → (b == 0) ≡ is
    → ((c : ℕ) (other : List ℕ) → text ≡ c ∷ other → option_eq bytes_eq (first_text (take (suc (length other)) bytes)) (Some other) ≡ option_eq bytes_eq (first_text bytes) (Some other))
    → option_eq bytes_eq (first_text (b ∷ take (length text) bytes)) (Some text) ≡ option_eq bytes_eq (first_text (b ∷ bytes)) (Some text)
by-front b bytes text true e later = ap (λ found. option_eq bytes_eq found (Some text)) (at-zero b (take (length text) bytes) e ∙ sym (at-zero b bytes e))
by-front b bytes [] false e later =
    ap (λ found. option_eq bytes_eq found (Some [])) (joined b (take 0 bytes) e) ∙ not-empty b (first_text (take 0 bytes))
    ∙ sym (ap (λ found. option_eq bytes_eq found (Some [])) (joined b bytes e) ∙ not-empty b (first_text bytes))
by-front b bytes (c ∷ other) false e later =
    ap (λ found. option_eq bytes_eq found (Some (c ∷ other))) (joined b (take (suc (length other)) bytes) e)
    ∙ with-front b c (first_text (take (suc (length other)) bytes)) other
    ∙ ap (λ same. nat_eq b c && same) (later c other refl)
    ∙ sym (ap (λ found. option_eq bytes_eq found (Some (c ∷ other))) (joined b bytes e) ∙ with-front b c (first_text bytes) other)

-- Whether a text is in front is seen in as many bytes as it and a zero byte take.
text_in_front : (bytes text : List ℕ) → option_eq bytes_eq (first_text (take (suc (length text)) bytes)) (Some text) ≡ option_eq bytes_eq (first_text bytes) (Some text)
text_in_front [] text = refl
text_in_front (b ∷ bytes) text = by-front b bytes text (b == 0) refl (λ c other e. text_in_front bytes other)

-- what is found in the front decides
pub decides : (bytes front text : List ℕ) (found : Option (List ℕ × Place)) → front ≡ take (suc (length text)) bytes → text_at (start front) ≡ found
    → option_eq bytes_eq (option_map (λ text. text.0) found) (Some text) ≡ option_eq bytes_eq (first_text bytes) (Some text)
decides bytes front text found f e =
    ap (λ (found : Option (List ℕ × Place)). option_eq bytes_eq (option_map (λ text. text.0) found) (Some text)) (sym e ∙ ap (λ bytes. text_at (start bytes)) f) ∙ text_in_front bytes text
