-- A text is before the first zero byte.
use Rattle.std.proofs.Common.{◌≡◌, ◌≢◌, ℕ, suc, ◌+◌, ◌<◌, Bool, true, false, cond, List, [], ◌∷◌, ◌++◌, length, take, Option, Some, None, refl, sym, ap, arith, length-append}
use Rattle.std.specs.Prelude.{not, nat_lt, ◌==◌, option_and_then}
use Rattle.std.specs.List.{position_or_len, AllByRecursion}
use Rattle.std.proofs.lemmas.Bool.{lt-ltb, ltb-true, eqb-true, ne_eqb, eqb-false}
use Rattle.std.proofs.lemmas.List.{take_at, append_assoc}
use Rattle.dw_model.specs.Reading.{Place, past, Between, Spans, text_at}
use Rattle.dw_model.proofs.ReadingLemmas.{past-between, between-past, some_is}

abbrev is_zero : ℕ → Bool
is_zero b = b == 0

-- the bytes of a text and the zero byte after it
abbrev pub IsText : List ℕ → List ℕ → Type 0
IsText content piece = (piece ≡ content ++ 0 ∷ []) × AllByRecursion (λ b. b ≢ 0) content

text_length : (content rest : List ℕ) → AllByRecursion (λ b. b ≢ 0) content → position_or_len is_zero (content ++ 0 ∷ rest) ≡ length content
text_length [] rest h = refl
text_length (b ∷ content) rest h = rw (ne_eqb b 0 h.0) (omega (arith, text_length content rest h.1))

-- what is before the first zero byte, where there is one
record Found (bytes : List ℕ) (n : ℕ) : Type 0 where
  content : AllByRecursion (λ b. b ≢ 0) (take n bytes)
  piece : take (suc n) bytes ≡ take n bytes ++ 0 ∷ []

found_of : (b : ℕ) (bytes : List ℕ) (last : Bool) → is_zero b ≡ last → (n : ℕ) → (n < length bytes → Found bytes n) → cond (not last) (1 + n) 0 < suc (length bytes) → Found (b ∷ bytes) (cond (not last) (1 + n) 0)
found_of b bytes true e n others h = record { content = tt; piece = ap (λ (c : ℕ). c ∷ []) (eqb-true b 0 e) }
found_of b bytes false e n others h =
    let k : 1 + n ≡ suc n = omega arith in
    let f = others (omega (arith, h)) in
    rw k (record { content = (eqb-false b 0 e, f.content); piece = ap (λ (s : List ℕ). b ∷ s) f.piece })

found : (bytes : List ℕ) → position_or_len is_zero bytes < length bytes → Found bytes (position_or_len is_zero bytes)
found [] h = absurd (omega arith)
found (b ∷ bytes) h = found_of b bytes (is_zero b) refl (position_or_len is_zero bytes) (found bytes) h

pub text_at-ok : (p q : Place) (piece content : List ℕ) → IsText content piece → Between p piece q → text_at p ≡ Some (content, q)
text_at-ok p q piece content t b =
    let n : ℕ = position_or_len is_zero p.left in
    let whole : p.left ≡ content ++ 0 ∷ q.left = rw (b.0, t.0) (append_assoc content (0 ∷ []) q.left) in
    let at : n ≡ length content = rw whole (text_length content q.left t.1) in
    let size : length piece ≡ n + 1 = rw (t.0) (omega (arith, length-append content (0 ∷ []), at)) in
    let long : length p.left ≡ length piece + length q.left = rw (b.0) (length-append piece q.left) in
    let text : take n p.left ≡ content = rw whole (take_at content (0 ∷ q.left) (position_or_len is_zero (content ++ 0 ∷ q.left)) (sym (text_length content q.left t.1))) in
    rw (lt-ltb n (length p.left) (omega (arith, size, long))) (some_is (take n p.left) content (past (n + 1) p) q text (past-between p q piece (n + 1) size b))

ended : (n : ℕ) (p : Place) (found : Bool) → nat_lt n (length p.left) ≡ found → (x : List ℕ × Place) → ◌≡◌ {A = Option (List ℕ × Place)} (option_and_then (λ n. Some (take n p.left, past (n + 1) p)) (cond found (Some n) None)) (Some x) → (n < length p.left) × (take n p.left ≡ x.0) × (past (n + 1) p ≡ x.1)
ended n p true e x h =
    let same : ◌≡◌ {A = List ℕ × Place} (take n p.left, past (n + 1) p) x = cc in
    (ltb-true n (length p.left) e, ap (λ (y : List ℕ × Place). y.0) same, ap (λ (y : List ℕ × Place). y.1) same)
ended n p false e x h = absurd cc

pub text_at-spans : (p : Place) (x : List ℕ × Place) → text_at p ≡ Some x → Spans (IsText x.0) p x.1
text_at-spans p x e =
    let n : ℕ = position_or_len is_zero p.left in
    let h = ended n p (nat_lt n (length p.left)) refl x e in
    let more : suc n ≡ n + 1 = omega arith in
    let f = found p.left h.0 in
    let piece : take (n + 1) p.left ≡ take n p.left ++ 0 ∷ [] = rw (← more) f.piece in
    rw (← h.1, ← h.2) (take (n + 1) p.left, between-past p (n + 1) (omega (arith, h.0)), (piece, f.content))
