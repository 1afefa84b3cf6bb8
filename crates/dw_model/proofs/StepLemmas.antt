-- What a step that found something says of its parts.
use Rattle.std.proofs.Common.{◌≡◌, ◌⊎◌, inl, inr, Bool, true, false, cond, Option, Some, None, Result, Ok, Err, refl, ap}
use Rattle.std.specs.Prelude.{ok_or, option_and_then}
use Rattle.std.proofs.lemmas.Option.{same_Some}
use Rattle.dw_model.specs.Results.{◌>>=◌}

-- the first of two steps that gave a value
pub bind_ok : {A B E : Type 0} (r : Result A E) (f : A → Result B E) (y : B) → (r >>= f) ≡ Ok y → (x : A) × (r ≡ Ok x) × (f x ≡ Ok y)
bind_ok (Ok x) f y e = (x, refl, e)
bind_ok (Err d) f y e = absurd cc

-- the same at an option
pub bind_some : {A B : Type 0} (o : Option A) (f : A → Option B) (y : B) → option_and_then f o ≡ Some y → (x : A) × (o ≡ Some x) × (f x ≡ Some y)
bind_some (Some x) f y e = (x, refl, e)
bind_some None f y e = absurd cc

pub ok_or-ok : {A E : Type 0} (o : Option A) (d : E) (x : A) → ok_or o d ≡ Ok x → o ≡ Some x
ok_or-ok (Some y) d x e = cc
ok_or-ok None d x e = absurd cc

-- two values that a call gave are one
pub ok_is : {A E : Type 0} (x y : A) → ◌≡◌ {A = Result A E} (Ok x) (Ok y) → x ≡ y
ok_is x y e = cc

-- a value is no fault
pub ok-err : {A E : Type 0} (x : A) (f : E) → ◌≡◌ {A = Result A E} (Ok x) (Err f) → ⊥
ok-err x f e = absurd cc

-- the first of two steps that was a fault
pub bind_err : {A B E : Type 0} (r : Result A E) (f : A → Result B E) (d : E) → (r >>= f) ≡ Err d → (r ≡ Err d) ⊎ ((x : A) × (r ≡ Ok x) × (f x ≡ Err d))
bind_err (Ok x) f d e = inr (x, refl, e)
bind_err (Err c) f d e = let same : ◌≡◌ {A = Result _ _} (Err c) (Err d) = cc in inl same

pub ok_or-err : {A E : Type 0} (o : Option A) (d f : E) → ok_or o d ≡ Err f → f ≡ d
ok_or-err (Some y) d f e = absurd cc
ok_or-err None d f e = cc

-- ---- steps that read an item, or none at the end

-- where an item was read, the end wasn't there
pub past_none : {A S E : Type 0} (b : Bool) (s : S) (r : Result (Option A × S) E) (item : A) (t : S) → cond {A = Result (Option A × S) E} b (Ok (None, s)) r ≡ Ok (Some item, t) → r ≡ Ok (Some item, t)
past_none true s r item t e =
    let same : None ≡ Some item = ap (λ (x : Option _ × _). x.0) (ok_is (None, s) (Some item, t) e) in
    absurd cc
past_none false s r item t e = e

-- where none was read, it was
pub none_read : {A S E : Type 0} (b : Bool) (s t : S) (made : Result (A × S) E) → cond {A = Result (Option A × S) E} b (Ok (None, s)) (made >>= λ x. Ok (Some x.0, x.1)) ≡ Ok (None, t) → b ≡ true
none_read true s t made e = refl
none_read false s t (Ok x) e =
    let same : Some x.0 ≡ None = ap (λ (y : Option _ × _). y.0) (ok_is (Some x.0, x.1) (None, t) e) in
    absurd cc
none_read false s t (Err f) e = absurd cc

-- what an item was made of
pub item_of : {A S E : Type 0} (made : Result (A × S) E) (item : A) (t : S) → ◌>>=◌ {B = Option A × S} made (λ x. Ok (Some x.0, x.1)) ≡ Ok (Some item, t) → made ≡ Ok (item, t)
item_of (Ok x) item t e =
    let same = ok_is (Some x.0, x.1) (Some item, t) e in
    let first : x.0 ≡ item = same_Some x.0 item (ap (λ (y : Option _ × _). y.0) same) in
    λ i. Ok (first i, ap (λ (y : Option _ × _). y.1) same i)
item_of (Err f) item t e = absurd cc

-- what was read, with the place behind it
pub read_of : {A S E : Type 0} (read : Result (A × S) E) (x : A) → (read >>= λ found. Ok found.0) ≡ Ok x → (t : S) × (read ≡ Ok (x, t))
read_of (Ok y) x e =
    let same : y.0 ≡ x = ok_is y.0 x e in
    (y.1, λ i. Ok (same i, y.1))
read_of (Err f) x e = absurd cc
