-- Why a value in its spelling isn't read.
use Rattle.std.proofs.Common.{◌≡◌, inl, inr, ℕ, ℤ, List, Option, Some, None, Err, refl, ap, ◌∙◌}
use Rattle.std.specs.Prelude.{ok_or}
use Rattle.dw_model.specs.Reading.{Place, made, number_at, bytes_at, text_at}
use Rattle.dw_model.specs.Faults.{Fault, ends_early, unknown_form, too_wide}
use Rattle.dw_model.specs.Leb.{uleb_at, sleb_at}
use Rattle.dw_model.specs.Form.{Value, Spelling, fixed, offset, uleb, sleb, block, counted, uleb_counted, implicit, present, bytes, spelled_at, BeginsWide}
use Rattle.dw_model.specs.Form as form
use Rattle.dw_model.proofs.StepLemmas.{bind_err, ok_or-err}
use Rattle.dw_model.proofs.ReadingLemmas.{fault_of}
use Rattle.dw_model.proofs.LebReading.{uleb-wide, uleb-wide-only, uleb-faults, sleb-wide, sleb-wide-only, sleb-faults}

-- the fault, and what each but the first says
pub data Why (s : Spelling) (constant : Option ℤ) (left : List ℕ) (f : Fault) : Type 0 where
  too_short : f ≡ ends_early → Why s constant left f
  nothing_declared : f ≡ unknown_form → s ≡ implicit → constant ≡ None → Why s constant left f
  unfit : f ≡ too_wide → BeginsWide s left → Why s constant left f

short : {A : Type 0} (make : A → Value) (o : Option (A × Place)) (s : Spelling) (constant : Option ℤ) (left : List ℕ) (f : Fault) → made make (ok_or o ends_early) ≡ Err f → Why s constant left f
short make o s constant left f e = too_short (ok_or-err o ends_early f (fault_of make (ok_or o ends_early) f e))

why_uleb : (s : Spelling) (constant : Option ℤ) (p : Place) (f : Fault) → (uleb_at p ≡ Err too_wide → BeginsWide s p.left) → uleb_at p ≡ Err f → Why s constant p.left f
why_uleb s constant p f wide e =
    elim (uleb-faults p f e) [ inl g ↦ too_short g | inr g ↦ unfit g (wide (e ∙ ap Err g)) ]

why_sleb : (s : Spelling) (constant : Option ℤ) (p : Place) (f : Fault) → (sleb_at p ≡ Err too_wide → BeginsWide s p.left) → sleb_at p ≡ Err f → Why s constant p.left f
why_sleb s constant p f wide e =
    elim (sleb-faults p f e) [ inl g ↦ too_short g | inr g ↦ unfit g (wide (e ∙ ap Err g)) ]

pub spelled-why : (size : ℕ) (s : Spelling) (constant : Option ℤ) (p : Place) (f : Fault) → spelled_at size s constant p ≡ Err f → Why s constant p.left f
unfolding spelled_at
spelled-why size (fixed n make) constant p f e = short make (number_at n p) (fixed n make) constant p.left f e
spelled-why size (offset make) constant p f e = short make (number_at size p) (offset make) constant p.left f e
spelled-why size (uleb make) constant p f e = why_uleb (uleb make) constant p f (uleb-wide-only p) (fault_of make (uleb_at p) f e)
spelled-why size sleb constant p f e = why_sleb sleb constant p f (sleb-wide-only p) (fault_of form.signed (sleb_at p) f e)
spelled-why size (block n) constant p f e = short bytes (bytes_at n p) (block n) constant p.left f e
spelled-why size (counted n) constant p f e =
    elim (bind_err (ok_or (number_at n p) ends_early) (λ len. made bytes (ok_or (bytes_at len.0 len.1) ends_early)) f e) [
      | inl g ↦ too_short (ok_or-err (number_at n p) ends_early f g)
      | inr g ↦ short bytes (bytes_at g.0.0 g.0.1) (counted n) constant p.left f g.2
    ]
spelled-why size uleb_counted constant p f e =
    elim (bind_err (uleb_at p) (λ len. made bytes (ok_or (bytes_at len.0 len.1) ends_early)) f e) [
      | inl g ↦ why_uleb uleb_counted constant p f (uleb-wide-only p) g
      | inr g ↦ short bytes (bytes_at g.0.0 g.0.1) uleb_counted constant p.left f g.2
    ]
spelled-why size form.text constant p f e = short form.inline (text_at p) form.text constant p.left f e
spelled-why size implicit None p f e = let same : f ≡ unknown_form = cc in nothing_declared same refl refl
spelled-why size implicit (Some z) p f e = absurd cc
spelled-why size present constant p f e = absurd cc

pub spelled-wide : (size : ℕ) (s : Spelling) (constant : Option ℤ) (p : Place) → BeginsWide s p.left → spelled_at size s constant p ≡ Err too_wide
unfolding spelled_at
spelled-wide size (uleb make) constant p h = rw (uleb-wide p h) refl
spelled-wide size sleb constant p h = rw (sleb-wide p h) refl
spelled-wide size uleb_counted constant p h = rw (uleb-wide p h) refl
spelled-wide size (fixed n make) constant p h = absurd h
spelled-wide size (offset make) constant p h = absurd h
spelled-wide size (block n) constant p h = absurd h
spelled-wide size (counted n) constant p h = absurd h
spelled-wide size form.text constant p h = absurd h
spelled-wide size implicit constant p h = absurd h
spelled-wide size present constant p h = absurd h
