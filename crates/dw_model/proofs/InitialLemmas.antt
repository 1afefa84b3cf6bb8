-- An initial length is read exactly where a piece of the bytes is one.
use Rattle.std.proofs.Common.{◌≡◌, ℕ, ◌+◌, ◌≤◌, Bool, true, false, cond, List, ◌++◌, length, Option, Some, refl, subst, sym, ap, ◌∙◌, arith, length-append}
use Rattle.std.specs.Prelude.{nat_le, ◌==◌}
use Rattle.std.proofs.lemmas.Option.{same_Some}
use Rattle.std.proofs.lemmas.Bool.{ne_eqb, eqb-true, leb-false, lt-leb}
use Rattle.byteorder.specs.Endian.{little_number}
use Rattle.dw_model.specs.declared.dwarf.TheConstants.{DW_LENGTH_RESERVED, DW_LENGTH_64BIT}
use Rattle.dw_model.specs.Reading.{Place, Between, Spans, number_at}
use Rattle.dw_model.specs.InitialLength.{Width, four, eight, length_size, InitialLength, of_length, reserved, short_length, long_length, initial_length, IsInitialLength}
use Rattle.dw_model.proofs.StepLemmas.{bind_some}
use Rattle.dw_model.proofs.ReadingLemmas.{number_at-took, took-left}
use Rattle.dw_model.proofs.NumberLemmas.{number_at-ok, number_at-spans}
use Rattle.dw_model.proofs.SpellingLemmas.{between, parted, joined}

abbrev Found : Type 0
Found = InitialLength × Place

pub initial-long : (width : Width) (n : ℕ) (piece : List ℕ) → IsInitialLength width n piece → length piece ≡ length_size width
initial-long four n piece h = h.0
initial-long eight n piece h = rw (h.2) (omega (arith, length-append h.0 h.1, h.3, h.5))

-- ---- how far it goes

behind-left : (escape : Bool) (n : ℕ) (p : Place) (x : Found) → cond escape (long_length p) (Some (short_length n, p)) ≡ Some x → length x.1.left ≤ length p.left
behind-left true n p x e = grind (arith, bind_some, same_Some, took-left, number_at-took)
behind-left false n p x e = grind (arith, same_Some)

-- it takes four bytes at least
pub initial-left : (p : Place) (x : Found) → initial_length p ≡ Some x → length x.1.left + 4 ≤ length p.left
unfolding initial_length
initial-left p x e = grind (arith, bind_some, took-left, number_at-took, behind-left)

-- ---- what it is

pub initial-ok : (width : Width) (n : ℕ) (p q : Place) (piece : List ℕ) → Between p piece q → IsInitialLength width n piece → initial_length p ≡ Some (of_length n width, q)
unfolding initial_length
initial-ok four n p q piece b h =
    rw (number_at-ok 4 p q piece h.0 b, h.1, ne_eqb n DW_LENGTH_64BIT (λ e. omega (arith, h.2, e)), lt-leb DW_LENGTH_RESERVED n h.2) refl
initial-ok eight n p q piece b h =
    let whole : Between p (h.0 ++ h.1) q = rw (← h.2) b in
    let parts = parted p q h.0 h.1 whole in
    rw (number_at-ok 4 p (between p h.0 h.1 q) h.0 h.3 parts.0, h.4, number_at-ok 8 (between p h.0 h.1 q) q h.1 h.5 parts.1, h.6) refl

short-spans : (width : Width) (n m : ℕ) (p q r : Place) (first : List ℕ) → Between p first q → length first ≡ 4 → m ≡ little_number 4 first → (above : Bool) → nat_le DW_LENGTH_RESERVED m ≡ above → ◌≡◌ {A = Option Found} (Some (cond above reserved (of_length m four), q)) (Some (of_length n width, r)) → Spans (IsInitialLength width n) p r
short-spans width n m p q r first b size is true f h =
    let same : reserved ≡ of_length n width = ap (λ (y : Found). y.0) (same_Some (reserved, q) (of_length n width, r) h) in
    absurd cc
short-spans eight n m p q r first b size is false f h =
    let same : of_length m four ≡ of_length n eight = ap (λ (y : Found). y.0) (same_Some (of_length m four, q) (of_length n eight, r) h) in
    absurd cc
short-spans four n m p q r first b size is false f h =
    let same : of_length m four ≡ of_length n four = ap (λ (y : Found). y.0) (same_Some (of_length m four, q) (of_length n four, r) h) in
    let place : q ≡ r = ap (λ (y : Found). y.1) (same_Some (of_length m four, q) (of_length n four, r) h) in
    let counts : m ≡ n = cc in
    (first, rw (← place) b, (size, sym is ∙ counts, omega (arith, leb-false DW_LENGTH_RESERVED m f, counts)))

long-spans : (width : Width) (n m : ℕ) (p q r : Place) (first : List ℕ) → Between p first q → length first ≡ 4 → little_number 4 first ≡ DW_LENGTH_64BIT → (second : List ℕ) → Between q second r → length second ≡ 8 → m ≡ little_number 8 second → of_length m eight ≡ of_length n width → Spans (IsInitialLength width n) p r
long-spans four n m p q r first b size is second c more counts same = absurd cc
long-spans eight n m p q r first b size is second c more counts same =
    let length : m ≡ n = cc in
    (first ++ second, joined p q r first second b c, (first, second, refl, size, is, more, sym counts ∙ length))

spans_by : (width : Width) (n m : ℕ) (p q r : Place) (first : List ℕ) → Between p first q → length first ≡ 4 → m ≡ little_number 4 first → (escape : Bool) → (m == DW_LENGTH_64BIT) ≡ escape → cond escape (long_length q) (Some (short_length m, q)) ≡ Some (of_length n width, r) → Spans (IsInitialLength width n) p r
spans_by width n m p q r first b size is false e h = short-spans width n m p q r first b size is (nat_le DW_LENGTH_RESERVED m) refl h
spans_by width n m p q r first b size is true e h =
    let x = bind_some (number_at 8 q) (λ n. Some (of_length n.0 eight, n.1)) (of_length n width, r) h in
    let s = number_at-spans 8 q x.0 x.1 in
    let same = same_Some (of_length x.0.0 eight, x.0.1) (of_length n width, r) x.2 in
    let place : x.0.1 ≡ r = ap (λ (y : Found). y.1) same in
    let escape : little_number 4 first ≡ DW_LENGTH_64BIT = sym is ∙ eqb-true m DW_LENGTH_64BIT e in
    long-spans width n x.0.0 p q r first b size escape s.0 (subst (λ r. Between q s.0 r) place s.1) s.2.0 s.2.1 (ap (λ (y : Found). y.0) same)

pub initial-spans : (width : Width) (n : ℕ) (p q : Place) → initial_length p ≡ Some (of_length n width, q) → Spans (IsInitialLength width n) p q
unfolding initial_length
initial-spans width n p q e =
    let f = bind_some (number_at 4 p) (λ n. cond (n.0 == DW_LENGTH_64BIT) (long_length n.1) (Some (short_length n.0, n.1))) (of_length n width, q) e in
    let s = number_at-spans 4 p f.0 f.1 in
    spans_by width n f.0.0 p f.0.1 q s.0 s.1 s.2.0 s.2.1 (f.0.0 == DW_LENGTH_64BIT) refl f.2
