-- The sixteen digits of an address, and the eight bytes that they decode to.
use Rattle.std.proofs.Common.{◌≡◌, ◌≢◌, ℕ, zero, suc, ◌+◌, ◌-◌, ◌*◌, ◌/◌, ◌%◌, ◌^◌, ◌<◌, ◌≤◌, Bool, true, false, ◌&&◌, List, [], ◌∷◌, ◌++◌, length, replicate, Option, Some, None, Result, Ok, Err, if◌then◌else◌, refl, sym, ap, ◌∙◌, append-nil, length-append, length-drop, take, drop, unwrap_or, pow-suc, arith}
use borrow.Rule.Slice.PartMut.{put_mid}
use Rattle.std.proofs.lemmas.List.{drop_all, length-replicate, take-replicate}
use Rattle.std.specs.Prelude.{MatchResult, ◌==◌, nat_lt, slice_index, option_map}
use Rattle.std.specs.List.{list_all, AllPass}
use Rattle.std.specs.Result.{result_ok, result_unwrap_or}
use Rattle.std.specs.Char.{digit_value, is_ascii_hexdigit}
use Rattle.std.specs.Fmt.{digit_glyph, digits, digits_onto}
use Rattle.std.specs.Int.{w64, to_be_bytes, from_be_bytes, bytes_high_first}
use Rattle.std.specs.Int.Digits.{number_from_digits_after, number_from_digits}
use Rattle.std.specs.Str.Parse.{digits_value, digits_value_after}
use Rattle.std.proofs.lemmas.Bool.{and_parts, agree_below_at, eqb-true, ltb-true, eqb-false}
use Rattle.std.proofs.lemmas.List.Elements.{All-cons, All-head, All-nil, All-tail}
use Rattle.std.proofs.lemmas.List.Sums.{AllPass-from_list_all, list_all-from_AllPass}
use Rattle.std.proofs.lemmas.Nat.{div_below, be_bytes_8, from_be_bytes-to_be_bytes_8}
use Rattle.dw_model.specs.Output.{sixteen_digits}
use Rattle.hex.specs.Hex.{IsBytes, decode_of, decode_pairs, decode_sized, digit_or_error, encode_lower, encode_with, hex_digit_value, is_hex_digit, lower_digits, ◌>>=◌}
use Rattle.hex.specs.declared.error.FromHexError.{FromHexError}
use Rattle.hex.proofs.HexLemmas.{IsOk-decode_sized, decode_of-encode_lower, decode_of-even, decode_of-ok, decode_sized-twice, length-encode_with}

-- ---- the law

below-103 : (c v : ℕ) → hex_digit_value c ≡ Some v → c < 103
below-103 c v h = grind (arith)

value-is : (c v : ℕ) → hex_digit_value c ≡ Some v → digit_value c ≡ v
value-is c v h =
    let same = agree_below_at (λ c. unwrap_or (hex_digit_value c) (digit_value c) == digit_value c) (λ c. true) 103 c refl (below-103 c v h) in
    sym (rw h at (eqb-true (unwrap_or (hex_digit_value c) (digit_value c)) (digit_value c) same))

bytes_of : (bytes more : List ℕ) → ◌≡◌ {A = Result (List ℕ) FromHexError} (Ok more) (Ok bytes) → more ≡ bytes
bytes_of bytes more e = ap (λ (r : Result (List ℕ) FromHexError). result_unwrap_or r []) e

-- two digits before others, by what is read of each
two : (i n high low : ℕ) (rest bytes : List ℕ) (x y : Option ℕ) (r : Result (List ℕ) FromHexError)
    → hex_digit_value high ≡ x → hex_digit_value low ≡ y
    → ((m : ℕ) (more : List ℕ) → r ≡ Ok more → digits_value_after 16 m rest ≡ number_from_digits_after 256 m more)
    → ((digit_or_error high i x >>= (λ h. digit_or_error low (i + 1) y >>= (λ l. Ok (h * 16 + l)))) >>= (λ byte. r >>= (λ more. Ok (byte ∷ more)))) ≡ Ok bytes
    → digits_value_after 16 n (high ∷ low ∷ rest) ≡ number_from_digits_after 256 n bytes
two i n high low rest bytes (Some h) (Some l) (Ok more) is_high is_low later read =
    let same : (n * 16 + digit_value high) * 16 + digit_value low ≡ n * 256 + (h * 16 + l) = omega (arith, value-is high h is_high, value-is low l is_low) in
    rw (← bytes_of bytes ((h * 16 + l) ∷ more) read) (ap (λ m. digits_value_after 16 m rest) same ∙ later (n * 256 + (h * 16 + l)) more refl)
two i n high low rest bytes (Some h) (Some l) (Err e) is_high is_low later read = cc read
two i n high low rest bytes (Some h) None r is_high is_low later read = cc read
two i n high low rest bytes None y r is_high is_low later read = cc read

pairs : (i n : ℕ) (text bytes : List ℕ) → decode_pairs i text ≡ Ok bytes → digits_value_after 16 n text ≡ number_from_digits_after 256 n bytes
unfolding decode_pairs
pairs i n [] bytes read = rw (← bytes_of bytes [] read) refl
pairs i n (digit ∷ []) bytes read = cc read
pairs i n (high ∷ low ∷ rest) bytes read =
    two i n high low rest bytes (hex_digit_value high) (hex_digit_value low) (decode_pairs (i + 2) rest) refl refl (λ m more. pairs (i + 2) m rest more) read

joined : (a b c d e f g h : ℕ) → number_from_digits 256 (a ∷ b ∷ c ∷ d ∷ e ∷ f ∷ g ∷ h ∷ []) ≡ from_be_bytes w64 (a ∷ b ∷ c ∷ d ∷ e ∷ f ∷ g ∷ h ∷ [])
joined a b c d e f g h = omega arith

-- the number of sixteen digits is that of the eight big-endian bytes that they decode to
pub decoded : (text : List ℕ) (n : ℕ) → n < 2 ^ 64 → decode_of text ≡ Ok (to_be_bytes w64 n) → digits_value 16 text ≡ n
decoded text n fits read =
    let even = (decode_of-ok text (to_be_bytes w64 n) read).0 in
    pairs 0 0 text (to_be_bytes w64 n) (sym (decode_of-even text even) ∙ read) ∙ joined _ _ _ _ _ _ _ _ ∙ from_be_bytes-to_be_bytes_8 n fits

-- ---- reading

-- zeros before digits change neither
after_zeros : (zeros : ℕ) (text : List ℕ) → (list_all is_ascii_hexdigit (replicate zeros 48 ++ text) ≡ list_all is_ascii_hexdigit text) × (digits_value 16 (replicate zeros 48 ++ text) ≡ digits_value 16 text)
after_zeros zero text = (refl, refl)
after_zeros (suc zeros) text = after_zeros zeros text

is-digit : (c : ℕ) → is_hex_digit c ≡ is_ascii_hexdigit c
is-digit c = grind (arith)

are-digits : (text : List ℕ) → list_all is_hex_digit text ≡ list_all is_ascii_hexdigit text
are-digits [] = refl
are-digits (c ∷ text) = rw (is-digit c, are-digits text) refl

abbrev written_by : List ℕ → Option ℕ
written_by text = if list_all is_ascii_hexdigit text then Some (digits_value 16 text) else None

refused : (text : List ℕ) (e : FromHexError) (all : Bool) → length text ≡ 16 → decode_sized text 8 ≡ Err e → list_all is_ascii_hexdigit text ≡ all → written_by text ≡ None
refused text e false sixteen given test = rw test refl
refused text e true sixteen given test =
    let ok = (IsOk-decode_sized text 8).1 (sixteen, AllPass-from_list_all is_hex_digit text (are-digits text ∙ test)) in
    cc (rw given at ok)

-- sixteen digits, by what they decode to and what the call leaves
by_bytes : (text : List ℕ) (given : Result (List ℕ) FromHexError) (result : Result Unit FromHexError) (out : List ℕ) → length text ≡ 16 → decode_sized text 8 ≡ given
    → MatchResult given (λ bytes. (result ≡ Ok tt) × (out ≡ bytes)) (λ e. result ≡ Err e)
    → option_map (λ _. from_be_bytes w64 out) (result_ok result) ≡ written_by text
by_bytes text (Err e) result out sixteen given h =
    rw h (sym (refused text e (list_all is_ascii_hexdigit text) sixteen given refl))
by_bytes text (Ok bytes) result out sixteen given h =
    let whole : decode_of text ≡ Ok bytes = sym (decode_sized-twice text 8 sixteen) ∙ given in
    let ok = decode_of-ok text bytes whole in
    let small = ok.3 in
    let n : ℕ = from_be_bytes w64 bytes in
    let fits : n < 2 ^ 64 = omega (arith, small 0, small 1, small 2, small 3, small 4, small 5, small 6, small 7) in
    let back : to_be_bytes w64 n ≡ bytes = be_bytes_8 bytes n (omega (arith, sixteen, ok.2)) small refl in
    let test : list_all is_ascii_hexdigit text ≡ true = sym (are-digits text) ∙ list_all-from_AllPass is_hex_digit text ok.1 in
    rw (h.0, h.1, test, decoded text n fits (whole ∙ ap Ok (sym back))) refl

-- Digits that end sixteen zeros are read by the eight bytes that these decode to.
pub read : (text : List ℕ) (zeros : ℕ) (result : Result Unit FromHexError) (out : List ℕ) → zeros + length text ≡ 16
    → MatchResult (decode_sized (put_mid zeros (16 - zeros) (replicate 16 48) text) 8) (λ bytes. (result ≡ Ok tt) × (out ≡ bytes)) (λ e. result ≡ Err e)
    → option_map (λ _. from_be_bytes w64 out) (result_ok result) ≡ written_by text
read text zeros result out sixteen h =
    let room : List ℕ = replicate 16 48 in
    let front : take zeros room ≡ replicate zeros 48 = take-replicate zeros 16 48 (omega (arith, sixteen)) in
    let back : drop (16 - zeros) (drop zeros room) ≡ [] = drop_all (16 - zeros) (drop zeros room) (omega (arith, length-drop zeros room)) in
    let whole = rw (front, back, append-nil) at h in
    let same = after_zeros zeros text in
    let size : length (replicate zeros 48 ++ text) ≡ 16 = omega (arith, sixteen, length-append (replicate zeros 48) text, length-replicate {A = ℕ} zeros 48) in
    let text_read = by_bytes (replicate zeros 48 ++ text) (decode_sized (replicate zeros 48 ++ text) 8) result out size refl whole in
    rw (same.0, same.1) at text_read

-- ---- writing

-- the last k digits of a number, before others
abbrev last_digits : ℕ → ℕ → List ℕ → List ℕ
last_digits zero n after = after
last_digits (suc k) n after = last_digits k (n / 16) (digit_glyph false (n % 16) ∷ after)

moved : (k : ℕ) (after : List ℕ) → replicate k 48 ++ 48 ∷ after ≡ 48 ∷ (replicate k 48 ++ after)
moved zero after = refl
moved (suc k) after = ap (λ text. 48 ∷ text) (moved k after)

zeros : (k : ℕ) (after : List ℕ) → last_digits k 0 after ≡ replicate k 48 ++ after
zeros zero after = refl
zeros (suc k) after = zeros k (48 ∷ after) ∙ moved k after

abbrev with_zeros : ℕ → List ℕ → List ℕ
with_zeros size text = replicate (size - length text) 48 ++ text

one_more : (f k n : ℕ) (after : List ℕ) (first : Bool) → (n / 16 == 0) ≡ first
    → (n / 16 ≢ 0 → with_zeros (k + suc (length after)) (digits_onto f 16 false (n / 16) (digit_glyph false (n % 16) ∷ after)) ≡ last_digits (suc k) n after)
    → with_zeros (suc k + length after) (if first then digit_glyph false (n % 16) ∷ after else digits_onto f 16 false (n / 16) (digit_glyph false (n % 16) ∷ after)) ≡ last_digits (suc k) n after
one_more f k n after true e later =
    let none : n / 16 ≡ 0 = eqb-true (n / 16) 0 e in
    let size : suc k + length after - suc (length after) ≡ k = omega arith in
    rw (size, none, zeros k (digit_glyph false (n % 16) ∷ after)) refl
one_more f k n after false e later =
    let some : n / 16 ≢ 0 = eqb-false (n / 16) 0 e in
    let size : suc k + length after ≡ k + suc (length after) = omega arith in
    rw size (later some)

-- the digits of the formatter with zeros before them
formatted : (f k n : ℕ) (after : List ℕ) → k ≤ f → n < 16 ^ suc k → with_zeros (suc k + length after) (digits_onto (suc f) 16 false n after) ≡ last_digits (suc k) n after
formatted f zero n after fuel fits =
    one_more f 0 n after (n / 16 == 0) refl (λ more. absurd (more (omega (arith, fits))))
formatted zero (suc k) n after fuel fits = absurd (omega (arith, fuel))
formatted (suc f) (suc k) n after fuel fits =
    let less : n < 16 ^ suc k * 16 = rw (pow-suc 16 (suc k)) at fits in
    one_more (suc f) (suc k) n after (n / 16 == 0) refl
    (λ more. formatted f k (n / 16) (digit_glyph false (n % 16) ∷ after) (omega (arith, fuel)) (div_below n 16 (16 ^ suc k) (omega arith) less))

abbrev is_lower : ℕ → Bool
is_lower c = nat_lt (digit_value c) 16 && (digit_glyph false (digit_value c) == c)

-- digits of lower case are those of their number
unique : (text after : List ℕ) (k n : ℕ) → AllPass is_lower text → last_digits (length text + k) (digits_value_after 16 n text) after ≡ last_digits k n (text ++ after)
unique [] after k n lower =
    let none : 0 + k ≡ k = omega arith in
    rw none refl
unique (c ∷ text) after k n lower =
    let parts = and_parts (nat_lt (digit_value c) 16) (digit_glyph false (digit_value c) == c) (All-head (λ c. is_lower c ≡ true) c text lower) in
    let below : digit_value c < 16 = ltb-true (digit_value c) 16 parts.0 in
    let front : (n * 16 + digit_value c) / 16 ≡ n = omega (arith, below) in
    let last : (n * 16 + digit_value c) % 16 ≡ digit_value c = omega (arith, below) in
    let same : digit_glyph false (digit_value c) ≡ c = eqb-true (digit_glyph false (digit_value c)) c parts.1 in
    let later = unique text after (suc k) (n * 16 + digit_value c) (All-tail (λ c. is_lower c ≡ true) c text lower) in
    let size : suc (length text) + k ≡ length text + suc k = omega arith in
    rw size (rw (front, last, same) at later)

encoded-lower : (bytes : List ℕ) → IsBytes bytes → AllPass is_lower (encode_lower bytes)
unfolding encode_with
encoded-lower [] small = All-nil (λ c. is_lower c ≡ true)
encoded-lower (b ∷ rest) small =
    let lower : AllPass is_lower lower_digits = AllPass-from_list_all is_lower lower_digits refl in
    let fits : b < 256 = small 0 in
    All-cons (λ c. is_lower c ≡ true) (slice_index lower_digits (b / 16)) (slice_index lower_digits (b % 16) ∷ encode_lower rest) (lower (b / 16) 0 (omega (arith, fits)))
    (All-cons (λ c. is_lower c ≡ true) (slice_index lower_digits (b % 16)) (encode_lower rest) (lower (b % 16) 0 (omega arith)) (encoded-lower rest (λ i. small (suc i))))

bytes-small : (k n : ℕ) → IsBytes (bytes_high_first k n)
bytes-small zero n i = omega arith
bytes-small (suc zero) n zero = omega arith
bytes-small (suc (suc k)) n zero = omega arith
bytes-small (suc k) n (suc i) = bytes-small k n i

-- the digits of a number's eight bytes are its sixteen digits
pub encoded : (n : ℕ) → n < 2 ^ 64 → encode_lower (to_be_bytes w64 n) ≡ sixteen_digits n
unfolding digits
encoded n fits =
    let text : List ℕ = encode_lower (to_be_bytes w64 n) in
    let small : IsBytes (to_be_bytes w64 n) = bytes-small 8 n in
    let value : digits_value 16 text ≡ n = decoded text n fits (decode_of-encode_lower (to_be_bytes w64 n) small) in
    let back = unique text [] 0 0 (encoded-lower (to_be_bytes w64 n) small) in
    sym (rw (length-encode_with lower_digits (to_be_bytes w64 n), value, append-nil) at back) ∙ sym (formatted 63 15 n [] (omega arith) (omega (arith, fits)))
