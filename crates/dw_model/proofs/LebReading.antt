-- What the laws of LEB128 numbers say, for the readers above them.
use Rattle.std.proofs.Common.{◌≡◌, ◌⊎◌, ℕ, ◌<◌, ◌^◌, ℤ, List, [], ◌∷◌, length, Ok, Err, arith}
use Rattle.std.specs.Prelude.{IsTrue}
use Rattle.std.proofs.lemmas.Bool.{lt-ltb, le-ltb, ltb-true, ltb-false}
use Rattle.dw_model.specs.Reading.{Place, Between, Spans}
use Rattle.dw_model.specs.Faults.{Fault, ends_early, too_wide}
use Rattle.dw_model.specs.Leb.{IsLeb, IsUleb, IsSleb, fits_i64, BeginsTooWide, BeginsTooWideSigned, groups, signed_groups, uleb_at, sleb_at}
use Rattle.dw_model.proofs.ReadingLemmas.{between-length}
use Rattle.dw_model.proofs.LebLemmas.{fits_u64, fitting-ok, fitting-spans, fitting-wide, wide_since, ended_or_wide}

pub uleb-spans : (p q : Place) (n : ℕ) → uleb_at p ≡ Ok (n, q) → Spans (λ piece. IsUleb piece n × (n < 2 ^ 64)) p q
unfolding uleb_at
uleb-spans p q n e = let s = fitting-spans groups fits_u64 p q n e in (s.0.0, s.0.1, (s.0.2, ltb-true n (2 ^ 64) s.1))

pub uleb-ok : (p q : Place) (n : ℕ) (piece : List ℕ) → Between p piece q → IsUleb piece n → n < 2 ^ 64 → uleb_at p ≡ Ok (n, q)
unfolding uleb_at
uleb-ok p q n piece b h fits = fitting-ok groups fits_u64 p q n (piece, b, h) (lt-ltb n (2 ^ 64) fits)

pub sleb-spans : (p q : Place) (z : ℤ) → sleb_at p ≡ Ok (z, q) → Spans (λ piece. IsSleb piece z × IsTrue (fits_i64 z)) p q
unfolding sleb_at
sleb-spans p q z e = let s = fitting-spans signed_groups fits_i64 p q z e in (s.0.0, s.0.1, (s.0.2, s.1))

pub sleb-ok : (p q : Place) (z : ℤ) (piece : List ℕ) → Between p piece q → IsSleb piece z → IsTrue (fits_i64 z) → sleb_at p ≡ Ok (z, q)
unfolding sleb_at
sleb-ok p q z piece b h fits = fitting-ok signed_groups fits_i64 p q z (piece, b, h) fits

pub uleb-wide : (p : Place) → BeginsTooWide p.left → uleb_at p ≡ Err too_wide
unfolding uleb_at
uleb-wide p b = fitting-wide groups fits_u64 p (b.0, b.1, b.2, (b.3.0, b.3.1, le-ltb b.3.0 (2 ^ 64) b.3.2))

pub uleb-wide-only : (p : Place) → uleb_at p ≡ Err too_wide → BeginsTooWide p.left
unfolding uleb_at
uleb-wide-only p e = let b = wide_since groups fits_u64 p e in (b.0, b.1, b.2, (b.3.0, b.3.1, ltb-false b.3.0 (2 ^ 64) b.3.2))

pub uleb-faults : (p : Place) (f : Fault) → uleb_at p ≡ Err f → (f ≡ ends_early) ⊎ (f ≡ too_wide)
unfolding uleb_at
uleb-faults = ended_or_wide groups fits_u64

pub sleb-wide : (p : Place) → BeginsTooWideSigned p.left → sleb_at p ≡ Err too_wide
unfolding sleb_at
sleb-wide p b = fitting-wide signed_groups fits_i64 p b

pub sleb-wide-only : (p : Place) → sleb_at p ≡ Err too_wide → BeginsTooWideSigned p.left
unfolding sleb_at
sleb-wide-only p e = wide_since signed_groups fits_i64 p e

pub sleb-faults : (p : Place) (f : Fault) → sleb_at p ≡ Err f → (f ≡ ends_early) ⊎ (f ≡ too_wide)
unfolding sleb_at
sleb-faults = ended_or_wide signed_groups fits_i64

leb-long : (piece : List ℕ) → IsLeb piece → 0 < length piece
leb-long [] h = absurd h
leb-long (b ∷ piece) h = omega arith

-- a number takes a byte at least
pub uleb-left : (p q : Place) (n : ℕ) → uleb_at p ≡ Ok (n, q) → length q.left < length p.left
uleb-left p q n e =
    let s = uleb-spans p q n e in
    let whole = between-length p q s.0 s.1 in
    omega (arith, whole, leb-long s.0 s.2.0.0)
