-- A value is read in its spelling exactly where a piece of the bytes is one.
use Rattle.std.proofs.Common.{◌≡◌, ℕ, ◌+◌, ◌<◌, ◌^◌, ℤ, true, List, [], ◌++◌, length, Option, Some, None, Ok, refl, sym, ap, ◌∙◌, arith, length-append}
use Rattle.std.specs.Prelude.{ok_or}
use Rattle.std.proofs.lemmas.List.{append_assoc}
use Rattle.byteorder.specs.Endian.{little_number}
use Rattle.dw_model.specs.Reading.{Place, made, Between, Spans, number_at, bytes_at, text_at}
use Rattle.dw_model.specs.Faults.{ends_early}
use Rattle.dw_model.specs.Leb.{IsUleb, uleb_at, sleb_at}
use Rattle.dw_model.specs.Form.{Value, Spelling, fixed, offset, uleb, sleb, block, counted, uleb_counted, implicit, present, bytes, signed, flag, inline, spelled_at, IsSpelling, BeginsWide}
use Rattle.dw_model.specs.Form as form
use Rattle.dw_model.proofs.StepLemmas.{bind_ok, ok_or-ok, ok_is}
use Rattle.std.proofs.lemmas.Option.{same_Some}
use Rattle.dw_model.proofs.ReadingLemmas.{made_of, read_is, empty-between, between-none}
use Rattle.dw_model.proofs.NumberLemmas.{number_at-ok, number_at-spans, bytes_at-ok, bytes_at-between}
use Rattle.dw_model.proofs.TextLemmas.{text_at-ok, text_at-spans}
use Rattle.dw_model.proofs.LebReading.{uleb-ok, uleb-spans, sleb-ok, sleb-spans}

-- ---- two pieces, one after the other

pub joined : (p q r : Place) (first second : List ℕ) → Between p first q → Between q second r → Between p (first ++ second) r
joined p q r first second b c =
    (b.0 ∙ ap (λ (s : List ℕ). first ++ s) c.0 ∙ sym (append_assoc first second r.left), omega (arith, b.1, c.1, length-append first second))

-- the place between two pieces
abbrev pub between : Place → List ℕ → List ℕ → Place → Place
between p first second r = record { at = p.at + length first; left = second ++ r.left }

pub parted : (p r : Place) (first second : List ℕ) → Between p (first ++ second) r → (Between p first (between p first second r)) × Between (between p first second r) second r
parted p r first second b =
    ((b.0 ∙ append_assoc first second r.left, refl), (refl, omega (arith, b.1, length-append first second)))

-- ---- each spelling

pub spelled-ok : (size : ℕ) (s : Spelling) (constant : Option ℤ) (p q : Place) (piece : List ℕ) (v : Value) → Between p piece q → IsSpelling size s constant piece v → spelled_at size s constant p ≡ Ok (v, q)
unfolding spelled_at
spelled-ok size (fixed n make) constant p q piece v b h = rw (number_at-ok n p q piece h.0 b, h.1) refl
spelled-ok size (offset make) constant p q piece v b h = rw (number_at-ok size p q piece h.0 b, h.1) refl
spelled-ok size (uleb make) constant p q piece v b h = rw (uleb-ok p q h.0 piece b h.1 h.2, h.3) refl
spelled-ok size sleb constant p q piece v b h = rw (sleb-ok p q h.0 piece b h.1 h.2, h.3) refl
spelled-ok size (block n) constant p q piece v b h = rw (bytes_at-ok n p q piece h.0 b, h.1) refl
spelled-ok size (counted n) constant p q piece v b h =
    let whole : Between p (h.0 ++ h.1) q = rw (← h.2) b in
    let parts = parted p q h.0 h.1 whole in
    rw (number_at-ok n p (between p h.0 h.1 q) h.0 h.3 parts.0, bytes_at-ok (little_number n h.0) (between p h.0 h.1 q) q h.1 h.4 parts.1, h.5) refl
spelled-ok size uleb_counted constant p q piece v b h =
    let whole : Between p (h.0 ++ h.1) q = rw (← h.2) b in
    let parts = parted p q h.0 h.1 whole in
    rw (uleb-ok p (between p h.0 h.1 q) (length h.1) h.0 parts.0 h.3 h.4, bytes_at-ok (length h.1) (between p h.0 h.1 q) q h.1 refl parts.1, h.5) refl
spelled-ok size form.text constant p q piece v b h = rw (text_at-ok p q piece h.0 (h.1, h.2) b, h.3) refl
spelled-ok size implicit None p q piece v b h = let some = h.1 in absurd cc
spelled-ok size implicit (Some z) p q piece v b h = grind (arith, same_Some, read_is, empty-between)
spelled-ok size present constant p q piece v b h = read_is (flag true) v p q (sym h.1) (empty-between p q piece b h.0)

-- what a piece is, where a value is made of it
pub spelled-spans : (size : ℕ) (s : Spelling) (constant : Option ℤ) (p q : Place) (v : Value) → spelled_at size s constant p ≡ Ok (v, q) → Spans (λ piece. IsSpelling size s constant piece v) p q
unfolding spelled_at
spelled-spans size (fixed n make) constant p q v e =
    let x = made_of make (ok_or (number_at n p) ends_early) v q e in
    let s = number_at-spans n p (x.0, q) (ok_or-ok (number_at n p) ends_early (x.0, q) x.1) in
    (s.0, s.1, (s.2.0, x.2 ∙ ap make s.2.1))
spelled-spans size (offset make) constant p q v e =
    let x = made_of make (ok_or (number_at size p) ends_early) v q e in
    let s = number_at-spans size p (x.0, q) (ok_or-ok (number_at size p) ends_early (x.0, q) x.1) in
    (s.0, s.1, (s.2.0, x.2 ∙ ap make s.2.1))
spelled-spans size (uleb make) constant p q v e =
    let x = made_of make (uleb_at p) v q e in
    let s = uleb-spans p q x.0 x.1 in
    (s.0, s.1, (x.0, s.2.0, s.2.1, x.2))
spelled-spans size sleb constant p q v e =
    let x = made_of signed (sleb_at p) v q e in
    let s = sleb-spans p q x.0 x.1 in
    (s.0, s.1, (x.0, s.2.0, s.2.1, x.2))
spelled-spans size (block n) constant p q v e =
    let x = made_of bytes (ok_or (bytes_at n p) ends_early) v q e in
    let s = bytes_at-between n p (x.0, q) (ok_or-ok (bytes_at n p) ends_early (x.0, q) x.1) in
    (x.0, s.1, (s.0, x.2))
spelled-spans size (counted n) constant p q v e =
    let b = bind_ok (ok_or (number_at n p) ends_early) (λ len. made bytes (ok_or (bytes_at len.0 len.1) ends_early)) (v, q) e in
    let l = number_at-spans n p b.0 (ok_or-ok (number_at n p) ends_early b.0 b.1) in
    let x = made_of bytes (ok_or (bytes_at b.0.0 b.0.1) ends_early) v q b.2 in
    let s = bytes_at-between b.0.0 b.0.1 (x.0, q) (ok_or-ok (bytes_at b.0.0 b.0.1) ends_early (x.0, q) x.1) in
    (l.0 ++ x.0, joined p b.0.1 q l.0 x.0 l.1 s.1, (l.0, x.0, refl, l.2.0, s.0 ∙ l.2.1, x.2))
spelled-spans size uleb_counted constant p q v e =
    let b = bind_ok (uleb_at p) (λ len. made bytes (ok_or (bytes_at len.0 len.1) ends_early)) (v, q) e in
    let l = uleb-spans p b.0.1 b.0.0 b.1 in
    let x = made_of bytes (ok_or (bytes_at b.0.0 b.0.1) ends_early) v q b.2 in
    let s = bytes_at-between b.0.0 b.0.1 (x.0, q) (ok_or-ok (bytes_at b.0.0 b.0.1) ends_early (x.0, q) x.1) in
    let number : IsUleb l.0 (length x.0) = rw (s.0) l.2.0 in
    let fits : length x.0 < 2 ^ 64 = rw (s.0) l.2.1 in
    (l.0 ++ x.0, joined p b.0.1 q l.0 x.0 l.1 s.1, (l.0, x.0, refl, number, fits, x.2))
spelled-spans size form.text constant p q v e =
    let x = made_of inline (ok_or (text_at p) ends_early) v q e in
    let s = text_at-spans p (x.0, q) (ok_or-ok (text_at p) ends_early (x.0, q) x.1) in
    (s.0, s.1, (x.0, s.2.0, s.2.1, x.2))
spelled-spans size implicit None p q v e = absurd cc
spelled-spans size implicit (Some z) p q v e =
    let same = ok_is (signed z, p) (v, q) e in
    ([], between-none p q (ap (λ (y : Value × Place). y.1) same), (z, refl, refl, sym (ap (λ (y : Value × Place). y.0) same)))
spelled-spans size present constant p q v e =
    let same = ok_is (flag true, p) (v, q) e in
    ([], between-none p q (ap (λ (y : Value × Place). y.1) same), (refl, sym (ap (λ (y : Value × Place). y.0) same)))
