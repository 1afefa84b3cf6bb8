-- LEB128 numbers are read exactly where a front of the bytes spells them.
use Rattle.std.proofs.Common.{◌≡◌, ◌⊎◌, inl, inr, ◌^◌, ℕ, suc, ◌+◌, ◌<◌, Bool, true, false, cond, List, [], ◌∷◌, ◌++◌, length, take, Some, None, Result, Ok, Err, refl, ap, sym, ◌∙◌, arith, length-append}
use Rattle.std.specs.Prelude.{not, nat_lt, ok_or}
use Rattle.std.specs.List.{position_or_len}
use Rattle.std.proofs.lemmas.Bool.{lt-ltb, le-ltb, ltb-true, ltb-false}
use Rattle.dw_model.specs.Reading.{Place, start, past, Between, Spans, BeginsWith}
use Rattle.dw_model.specs.Leb.{IsLeb, leb_at}
use Rattle.dw_model.specs.Results.{◌>>=◌}
use Rattle.dw_model.specs.Faults.{Fault, ends_early, too_wide}
use Rattle.dw_model.proofs.ReadingLemmas.{past-between, take-between, between-past, read_is}
use Rattle.dw_model.proofs.StepLemmas.{bind_ok, ok_is, ok-err}

abbrev is_last : ℕ → Bool
is_last b = nat_lt b 128

leb_length : (front rest : List ℕ) → IsLeb front → suc (position_or_len is_last (front ++ rest)) ≡ length front
leb_length [] rest h = absurd h
leb_length (b ∷ []) rest h = rw (lt-ltb b 128 h) refl
leb_length (b ∷ c ∷ front) rest h = rw (le-ltb b 128 h.0) (omega (arith, leb_length (c ∷ front) rest h.1))

-- how far the first byte's test goes, where it is far to the end of the others
front_of : (b : ℕ) (bytes : List ℕ) (last : Bool) → is_last b ≡ last → (n : ℕ) → (n < length bytes → IsLeb (take (suc n) bytes)) → cond (not last) (1 + n) 0 < suc (length bytes) → IsLeb (b ∷ take (cond (not last) (1 + n) 0) bytes)
front_of b bytes true e n others h = ltb-true b 128 e
front_of b [] false e n others h = absurd (omega arith)
front_of b (c ∷ bytes) false e n others h =
    let k : 1 + n ≡ suc n = omega arith in
    rw k (ltb-false b 128 e, others (omega arith))

leb_front : (bytes : List ℕ) → position_or_len is_last bytes < length bytes → IsLeb (take (suc (position_or_len is_last bytes)) bytes)
leb_front [] h = absurd (omega arith)
leb_front (b ∷ bytes) h = front_of b bytes (is_last b) refl (position_or_len is_last bytes) (leb_front bytes) h

pub leb_at-ok : (p q : Place) (front : List ℕ) → Between p front q → IsLeb front → leb_at p ≡ Ok (front, q)
leb_at-ok p q front b h =
    let n : ℕ = position_or_len is_last p.left in
    let whole : length p.left ≡ length front + length q.left = rw (b.0) (length-append front q.left) in
    let last : n + 1 ≡ length front = rw (b.0) (omega (arith, leb_length front q.left h)) in
    let piece : take (n + 1) p.left ≡ front = take-between p q front (n + 1) (sym last) b in
    rw (lt-ltb n (length p.left) (omega (arith, last, whole))) (read_is (take (n + 1) p.left) front (past (n + 1) p) q piece (past-between p q front (n + 1) (sym last) b))

ended : (n : ℕ) (p : Place) (found : Bool) → nat_lt n (length p.left) ≡ found → (x : List ℕ × Place) → (ok_or (cond found (Some n) None) ends_early >>= λ n. Ok (take (n + 1) p.left, past (n + 1) p)) ≡ Ok x → (n < length p.left) × (take (n + 1) p.left ≡ x.0) × (past (n + 1) p ≡ x.1)
ended n p true e x h =
    let same = ok_is (take (n + 1) p.left, past (n + 1) p) x h in
    (ltb-true n (length p.left) e, ap (λ (y : List ℕ × Place). y.0) same, ap (λ (y : List ℕ × Place). y.1) same)
ended n p false e x h = absurd cc

pub leb_at-between : (p : Place) (x : List ℕ × Place) → leb_at p ≡ Ok x → (Between p x.0 x.1) × IsLeb x.0
leb_at-between p x e =
    let n : ℕ = position_or_len is_last p.left in
    let h = ended n p (nat_lt n (length p.left)) refl x e in
    let more : n + 1 ≡ suc n = omega arith in
    let front : IsLeb (take (n + 1) p.left) = rw more (leb_front p.left h.0) in
    let between : Between p (take (n + 1) p.left) (past (n + 1) p) = between-past p (n + 1) (omega (arith, h.0)) in
    rw (← h.1, ← h.2) (between, front)

unended : (n : ℕ) (p : Place) (found : Bool) (f : Fault) → ◌>>=◌ {B = List ℕ × Place} (ok_or (cond found (Some n) None) ends_early) (λ n. Ok (take (n + 1) p.left, past (n + 1) p)) ≡ Err f → f ≡ ends_early
unended n p true f h = absurd cc
unended n p false f h = cc

-- the place after a front of the bytes that are left
abbrev pub behind : Place → (front rest : List ℕ) → Place
behind p front rest = record { at = p.at + length front; left = rest }

pub leb_at-begins : (p : Place) (front rest : List ℕ) → p.left ≡ front ++ rest → IsLeb front → leb_at p ≡ Ok (front, behind p front rest)
leb_at-begins p front rest e h = leb_at-ok p (behind p front rest) front (e, refl) h

pub leb_at-fault : (p : Place) (f : Fault) → leb_at p ≡ Err f → (f ≡ ends_early) × (BeginsWith IsLeb p.left → ⊥)
leb_at-fault p f e = (
  unended (position_or_len is_last p.left) p (nat_lt (position_or_len is_last p.left) (length p.left)) f e,
  λ b. ok-err (b.0, behind p b.0 b.1) f (sym (leb_at-begins p b.0 b.1 b.2 b.3) ∙ e),
)

pub alone : (first second rest others : List ℕ) → IsLeb first → IsLeb second → first ++ rest ≡ second ++ others → first ≡ second
alone first second rest others h k e =
    let one : leb_at (start (first ++ rest)) ≡ Ok (first, record { at = length first; left = rest }) = leb_at-ok (start (first ++ rest)) (record { at = length first; left = rest }) first (refl, omega arith) h in
    let two : leb_at (start (first ++ rest)) ≡ Ok (second, record { at = length second; left = others }) = leb_at-ok (start (first ++ rest)) (record { at = length second; left = others }) second (e, omega arith) k in
    ap (λ (x : List ℕ × Place). x.0) (ok_is (first, record { at = length first; left = rest }) (second, record { at = length second; left = others }) (sym one ∙ two))

-- ---- a number that fits

module _ {A : Type 0} (value : List ℕ → A) (fits : A → Bool) where
  abbrev pub fitting : Result (List ℕ × Place) Fault → Result (A × Place) Fault
  fitting read = read >>= λ bytes. cond (fits (value bytes.0)) (Ok (value bytes.0, bytes.1)) (Err too_wide)

  abbrev pub Spelled : A → List ℕ → Type 0
  Spelled v piece = IsLeb piece × (v ≡ value piece)

  abbrev pub Wide : List ℕ → Type 0
  Wide piece = (v : A) × Spelled v piece × (fits v ≡ false)

  pub fitting-ok : (p q : Place) (v : A) → Spans (Spelled v) p q → fits v ≡ true → fitting (leb_at p) ≡ Ok (v, q)
  fitting-ok p q v s e = grind (arith, leb_at-ok)

  tested : (x : List ℕ × Place) (fit : Bool) → fits (value x.0) ≡ fit → (y : A × Place) → cond fit (Ok (value x.0, x.1)) (Err too_wide) ≡ Ok y → (fits (value x.0) ≡ true) × (value x.0 ≡ y.0) × (x.1 ≡ y.1)
  tested x true e y h =
      let same = ok_is (value x.0, x.1) y h in
      (e, ap (λ (z : A × Place). z.0) same, ap (λ (z : A × Place). z.1) same)
  tested x false e y h = absurd cc

  pub fitting-spans : (p q : Place) (v : A) → fitting (leb_at p) ≡ Ok (v, q) → Spans (Spelled v) p q × (fits v ≡ true)
  fitting-spans p q v e =
      let b = bind_ok (leb_at p) (λ bytes. cond (fits (value bytes.0)) (Ok (value bytes.0, bytes.1)) (Err too_wide)) (v, q) e in
      let t = tested b.0 (fits (value b.0.0)) refl (v, q) b.2 in
      let s = leb_at-between p b.0 b.1 in
      rw (← t.2) ((b.0.0, s.0, (s.1, sym t.1)), let fit : fits v ≡ true = rw (← t.1) t.0 in fit)

  untested : (x : List ℕ × Place) (fit : Bool) → fits (value x.0) ≡ fit → (f : Fault) → ◌≡◌ {A = Result (A × Place) Fault} (cond fit (Ok (value x.0, x.1)) (Err too_wide)) (Err f) → (fits (value x.0) ≡ false) × (f ≡ too_wide)
  untested x true e f h = absurd (ok-err (value x.0, x.1) f h)
  untested x false e f h = (e, cc)

  -- why a number isn't read
  pub data Unread (left : List ℕ) (f : Fault) : Type 0 where
    no_end : f ≡ ends_early → (BeginsWith IsLeb left → ⊥) → Unread left f
    unfit : f ≡ too_wide → BeginsWith Wide left → Unread left f

  unread : (p : Place) (r : Result (List ℕ × Place) Fault) → leb_at p ≡ r → (f : Fault) → fitting r ≡ Err f → Unread p.left f
  unread p (Ok x) e f h =
      let s = leb_at-between p x e in
      let t = untested x (fits (value x.0)) refl f h in
      unfit t.1 (x.0, x.1.left, s.0.0, (value x.0, (s.1, refl), t.0))
  unread p (Err g) e f h =
      let same : g ≡ f = cc in
      let t = leb_at-fault p g e in
      no_end (sym same ∙ t.0) t.1

  pub fitting-fault : (p : Place) (f : Fault) → fitting (leb_at p) ≡ Err f → Unread p.left f
  fitting-fault p f e = unread p (leb_at p) refl f e

  pub fitting-wide : (p : Place) → BeginsWith Wide p.left → fitting (leb_at p) ≡ Err too_wide
  fitting-wide p b =
      let w = b.3 in
      let same : value b.0 ≡ w.0 = sym w.1.1 in
      let unfits : fits w.0 ≡ false = w.2 in
      rw (leb_at-begins p b.0 b.1 b.2 w.1.0, same, unfits) refl

  ended_of : (p : Place) → (BeginsWith IsLeb p.left → ⊥) → (r : Result (A × Place) Fault) → fitting (leb_at p) ≡ r → r ≡ Err ends_early
  ended_of p none (Ok x) e = let s = fitting-spans p x.1 x.0 e in absurd (none (s.0.0, x.1.left, s.0.1.0, s.0.2.0))
  ended_of p none (Err f) e = elim (fitting-fault p f e) [ no_end g h ↦ ap Err g | unfit g h ↦ absurd (none (h.0, h.1, h.2, h.3.1.0)) ]

  pub fitting-ends : (p : Place) → (BeginsWith IsLeb p.left → ⊥) → fitting (leb_at p) ≡ Err ends_early
  fitting-ends p none = ended_of p none (fitting (leb_at p)) refl

  pub wide_since : (p : Place) → fitting (leb_at p) ≡ Err too_wide → BeginsWith Wide p.left
  wide_since p e = elim (fitting-fault p too_wide e) [ no_end g h ↦ absurd cc | unfit g h ↦ h ]

  pub ends_since : (p : Place) → fitting (leb_at p) ≡ Err ends_early → BeginsWith IsLeb p.left → ⊥
  ends_since p e = elim (fitting-fault p ends_early e) [ no_end g h ↦ h | unfit g h ↦ absurd cc ]

  pub ended_or_wide : (p : Place) (f : Fault) → fitting (leb_at p) ≡ Err f → (f ≡ ends_early) ⊎ (f ≡ too_wide)
  ended_or_wide p f e = elim (fitting-fault p f e) [ no_end g h ↦ inl g | unfit g h ↦ inr g ]

abbrev pub fits_u64 : ℕ → Bool
fits_u64 n = nat_lt n (2 ^ 64)
