-- Steps of which each may be the first fault: `?` at a `Result`.
use Rattle.std.specs.Prelude.{Result, Ok, Err, Option, Some, None, Bool, true, false}

infixl 10 ◌>>=◌
abbrev pub ◌>>=◌ : {A B E : Type 0} → Result A E → (A → Result B E) → Result B E
(Ok x) >>= f = f x
(Err e) >>= f = Err e

-- the fault, where the test holds
abbrev pub refuse_if : {E : Type 0} → Bool → E → Result (Unit {0}) E
refuse_if true e = Err e
refuse_if false e = Ok tt

-- the fault of what was found, where anything was
abbrev pub refuse_found : {A E : Type 0} → (A → E) → Option A → Result (Unit {0}) E
refuse_found fault None = Ok tt
refuse_found fault (Some x) = Err (fault x)

-- the same value, and one fault for every other
abbrev pub or_fault : {A E F : Type 0} → F → Result A E → Result A F
or_fault fault (Ok x) = Ok x
or_fault fault (Err e) = Err fault

-- the same value, and another fault for each fault
abbrev pub with_code : {A E F : Type 0} → (E → F) → Result A E → Result A F
with_code code (Ok x) = Ok x
with_code code (Err e) = Err (code e)
