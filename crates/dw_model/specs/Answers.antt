-- How a call's answer is what a definition gives.
use Rattle.std.specs.Prelude.{◌≡◌, Option, Some, None, Result, Ok, Err, MatchOption}
use Rattle.dw_model.specs.Reading.{Place}

-- A call that reads at a place: it found what the definition finds there, and is just past it; or
-- it found nothing, and is where it was.
abbrev pub Reads : {X Y : Type 0} → (X → Y) → Option X → Option (Y × Place) → Place → Place → Type 0
Reads view None found old new = (found ≡ None) × (new ≡ old)
Reads view (Some x) found old new = found ≡ Some (view x, new)

-- the definition gives just this fault; out of memory, which is no fault of a file, isn't one
abbrev pub Tells : {Y F : Type 0} → Option F → Result Y F → Type 0
Tells None given = ⊥
Tells (Some fault) given = given ≡ Err fault

-- A call that takes no memory returns what the definition gives: its value, seen by `view`, or its
-- fault, which `told` finds in the error.
abbrev pub Gives : {X Y E F : Type 0} → (X → Y) → (E → Option F) → Result X E → Result Y F → Type 0
Gives view told (Ok x) given = given ≡ Ok (view x)
Gives view told (Err e) given = Tells (told e) given

-- The same of a call that reads at a place, and may be anywhere after a fault.
abbrev pub ReadsOn : {X Y E F : Type 0} → (X → Y) → (E → Option F) → Result X E → Result (Y × Place) F → Place → Type 0
ReadsOn view told (Ok x) given new = given ≡ Ok (view x, new)
ReadsOn view told (Err e) given new = Tells (told e) given

-- The same of a call that stays where it was after a fault.
abbrev pub ReadsOrTells : {X Y E F : Type 0} → (X → Y) → (E → Option F) → Result X E
    → Result (Y × Place) F → Place → Place → Type 0
ReadsOrTells view told (Ok x) given old new = given ≡ Ok (view x, new)
ReadsOrTells view told (Err e) given old new = Tells (told e) given × (new ≡ old)

-- A call that takes memory: it may report that it is out of memory instead of any answer.
abbrev pub GivesUnlessMemory : {X Y E F : Type 0} → (X → Y) → (E → Option F) → Result X E → Result Y F → Type 0
GivesUnlessMemory view told (Ok x) given = given ≡ Ok (view x)
GivesUnlessMemory view told (Err e) given = MatchOption (told e) (Unit {0}) (λ fault. given ≡ Err fault)

-- The same of a call that reads at a place, and may be anywhere after a fault.
abbrev pub ReadsUnlessMemory : {X Y E F : Type 0} → (X → Y) → (E → Option F) → Result X E
    → Result (Y × Place) F → Place → Type 0
ReadsUnlessMemory view told (Ok x) given new = given ≡ Ok (view x, new)
ReadsUnlessMemory view told (Err e) given new = MatchOption (told e) (Unit {0}) (λ fault. given ≡ Err fault)
