-- Values of fixed sizes, one after the other.
use Rattle.std.proofs.Common.{◌≡◌, ◌∙◌, ℕ, ℤ, ◌+◌, ◌^◌, ◌<◌, Bool, true, false, List, [], ◌∷◌, length, drop, Option, Some, None, Result, Ok, Err, refl, ap, subst, arith}
use Rattle.std.specs.Prelude.{ok_or, nat_eq, nat_le, option_map, option_and_then, IfSome}
use Rattle.std.proofs.lemmas.Option.{same_Some}
use Rattle.std.specs.Map.{lookup}
use Rattle.std.proofs.lemmas.Bool.{leb-true, leb-false, lt-leb, le-leb, lt-ltb}
use Rattle.std.proofs.lemmas.List.{drop-drop, length-drop}
use Rattle.dw_model.specs.Faults.{Fault, ends_early}
use Rattle.dw_model.specs.Results.{◌>>=◌}
use Rattle.dw_model.specs.Reading.{Place, past, made, number_at, bytes_at}
use Rattle.dw_model.specs.Form.{Value, bytes, Spelling, fixed, offset, block, implicit, present, forms, spelled_at, value_at}
use Rattle.dw_model.specs.Abbrev.{Specification}
use Rattle.dw_model.specs.Entry.{Attribute, attributes_at}
use Rattle.dw_model.proofs.ValueLemmas.{value-here, has_spelling}
use Rattle.dw_bytes.specs.Leb.{fits_u64}
use Rattle.dw_forms.specs.Size.{spelling_size, value_size, values_size, size_in, place_behind, Skips}

-- ---- bytes, and then further bytes

abbrev pub Behind : Type 0
Behind = Result (Unit {0} × Place) Fault

abbrev pub bytes_behind : ℕ → Place → Behind
bytes_behind n p = place_behind (ok_or (bytes_at n p) ends_early)

few : (n : ℕ) (p : Place) → nat_le n (length p.left) ≡ false → bytes_behind n p ≡ Err ends_early
few n p e = rw e refl

enough : (n : ℕ) (p : Place) → nat_le n (length p.left) ≡ true → bytes_behind n p ≡ Ok (tt, past n p)
enough n p e = rw e refl

past-past : (m n : ℕ) (p : Place) → past n (past m p) ≡ past (m + n) p
past-past m n p = grind (arith, drop-drop)

pub on : (m n : ℕ) (p : Place) (first second : Bool) → nat_le m (length p.left) ≡ first → nat_le n (length (drop m p.left)) ≡ second → (bytes_behind m p >>= λ q. bytes_behind n q.1) ≡ bytes_behind (m + n) p
on m n p first second e f = grind (arith, leb-false, few, lt-leb, leb-true, length-drop, enough, past-past, le-leb)

-- ---- values, one after the other

pub same-behind : (read : Behind) (f g : Unit {0} × Place → Behind) → ((q : Unit {0} × Place) → f q ≡ g q) → (read >>= f) ≡ (read >>= g)
same-behind read f g h = grind arith

pub behind-cons : (name : ℕ) (value : Result (Value × Place) Fault) (others : Place → Result (List Attribute × Place) Fault)
    → place_behind (value >>= λ value. others value.1 >>= λ others. Ok (record { name = name; value = value.0 } ∷ others.0, others.1)) ≡ (place_behind value >>= λ q. place_behind (others q.1))
behind-cons name value others = grind arith

-- ---- where offsets have so many bytes

module _ (w : ℕ) where
  skips-none : Skips 0 (attributes_at w [])
  unfolding attributes_at
  skips-none p = grind (arith, enough, le-leb)

  skips-cons : (m n : ℕ) (one : Specification) (others : List Specification) → Skips m (value_at w one.form one.constant) → Skips n (attributes_at w others) → Skips (m + n) (attributes_at w (one ∷ others))
  unfolding attributes_at
  skips-cons m n one others h rest p =
      behind-cons one.name (value_at w one.form one.constant p) (attributes_at w others)
      ∙ ap (λ (read : Behind). read >>= λ q. place_behind (attributes_at w others q.1)) (h p)
      ∙ same-behind (bytes_behind m p) (λ q. place_behind (attributes_at w others q.1)) (λ q. bytes_behind n q.1) (λ q. rest q.1)
      ∙ on m n p (nat_le m (length p.left)) (nat_le n (length (drop m p.left))) refl refl

  -- ---- values of one form

  abbrev SkipsSpelled : ℕ → Spelling → Option ℤ → Type 0
  SkipsSpelled n spelling constant = Skips n (spelled_at w spelling constant)

  number-skips : (n : ℕ) (make : ℕ → Value) (p : Place) (there : Bool) → nat_le n (length p.left) ≡ there → place_behind (made make (ok_or (number_at n p) ends_early)) ≡ bytes_behind n p
  number-skips n make p there e = grind arith

  fixed-skips : (n : ℕ) (make : ℕ → Value) (constant : Option ℤ) → SkipsSpelled n (fixed n make) constant
  unfolding spelled_at
  fixed-skips n make constant p = number-skips n make p (nat_le n (length p.left)) refl

  offset-skips : (make : ℕ → Value) (constant : Option ℤ) → SkipsSpelled w (offset make) constant
  unfolding spelled_at
  offset-skips make constant p = number-skips w make p (nat_le w (length p.left)) refl

  block-there : (n : ℕ) (p : Place) (there : Bool) → nat_le n (length p.left) ≡ there → place_behind (made bytes (ok_or (bytes_at n p) ends_early)) ≡ bytes_behind n p
  block-there n p there e = grind arith

  block-skips : (n : ℕ) (constant : Option ℤ) → SkipsSpelled n (block n) constant
  unfolding spelled_at
  block-skips n constant p = block-there n p (nat_le n (length p.left)) refl

  pub nothing-read : (p : Place) → Ok (tt, p) ≡ bytes_behind 0 p
  nothing-read p = grind (arith, enough, le-leb)

  implicit-skips : (constant : Option ℤ) (z : ℤ) → constant ≡ Some z → SkipsSpelled 0 implicit constant
  unfolding spelled_at
  implicit-skips constant z e p = rw e (nothing-read p)

  present-skips : (constant : Option ℤ) → SkipsSpelled 0 present constant
  unfolding spelled_at
  present-skips constant p = nothing-read p

  -- ---- by what the forms tell

  of-spelling : (constant : Option ℤ) (spelling : Spelling) (n : ℕ) → spelling_size w constant spelling ≡ Some n → SkipsSpelled n spelling constant
  of-spelling constant spelling n e =
      grind (arith, same_Some, fixed-skips, offset-skips, block-skips, implicit-skips, present-skips)

  of-form : (form : ℕ) (constant : Option ℤ) (found : Option Spelling) (n : ℕ) → lookup (nat_eq form) forms ≡ found → option_and_then (spelling_size w constant) found ≡ Some n → Skips n (value_at w form constant)
  of-form form constant None n e h p = absurd cc
  of-form form constant (Some spelling) n e h p =
      let here : value_at w form constant p ≡ spelled_at w spelling constant p = value-here w form constant p (has_spelling form spelling e) ∙ rw e refl in
      ap place_behind here ∙ of-spelling constant spelling n h p

  pub value-skips : (one : Specification) (n : ℕ) → value_size w one ≡ Some n → Skips n (value_at w one.form one.constant)
  value-skips one n h = of-form one.form one.constant (lookup (nat_eq one.form) forms) n refl h

  -- the two parts of a sum
  pub summed : (first others : Option ℕ) (n : ℕ) → option_and_then (λ m. option_map (λ n. m + n) others) first ≡ Some n → (m k : ℕ) × (first ≡ Some m) × (others ≡ Some k) × (m + k ≡ n)
  summed first others n e = grind (arith, same_Some)

  pub values-skip : (specifications : List Specification) (n : ℕ) → values_size w specifications ≡ Some n → Skips n (attributes_at w specifications)
  values-skip [] n e = subst (λ n. Skips n (attributes_at w [])) (same_Some 0 n e) skips-none
  values-skip (one ∷ others) n e =
      let s = summed (value_size w one) (values_size w others) n e in
      subst (λ n. Skips n (attributes_at w (one ∷ others))) s.4 (skips-cons s.0 s.1 one others (value-skips one s.0 s.2) (values-skip others s.1 s.3))

  -- ---- one after the other

  -- what was counted, with the sizes of those after, is all
  abbrev pub Counts : ℕ → List Specification → Option ℕ → Type 0
  Counts size others all = all ≡ option_map (λ n. size + n) (values_size w others)

  pub counts-all : (size : ℕ) (all : Option ℕ) → size < 2 ^ 64 → Counts size [] all → option_and_then fits_u64 all ≡ Some size
  counts-all size all h so_far = grind (arith, lt-ltb)

  -- ---- what is told

  fitted : (all : Option ℕ) (n : ℕ) → option_and_then fits_u64 all ≡ Some n → all ≡ Some n
  fitted all n e = grind arith

  pub told-skip : (specifications : List Specification) (told : Option ℕ) → told ≡ size_in w specifications → IfSome told (λ n. Skips n (attributes_at w specifications))
  told-skip specifications told e = grind (arith, values-skip, fitted)
