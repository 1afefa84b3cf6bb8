-- What a handle in C holds.
use Rattle.std.specs.Prelude.{◌≡◌, ℕ, List, Option, Some, IsSome, true, false}
use Rattle.dw_model.specs.Answer.{Answer}
use Rattle.dw_model.specs.Faults.{Refusal}
use Rattle.dw_elf.specs.declared.fault.OpenFault.{OpenFault}
use Rattle.dw_elf.specs.OpenFault.{refusal_of}
use Rattle.a2l_c.specs.declared.structs.CHandle.{CHandle}
use Rattle.a2l_c.specs.declared.structs.CRefusal.{CRefusal}
use Rattle.a2l_c.specs.Structs.{IsReason}
use Rattle.a2l_c.specs.SessionState.{SessionState}

-- Where a handle says that it is open, it holds a session. C owes this: it sets handles to zero,
-- and leaves them to the calls.
abbrev pub IsValid : CHandle → Type 0
IsValid handle = handle.open ≡ true → IsSome handle.handle.session

-- a handle is open, and its session shows this
abbrev pub Holds : CHandle → SessionState → Type 0
Holds handle session = (handle.open ≡ true) × (handle.handle.session ≡ Some session)

-- a handle is open or not as it was, and holds what it held
abbrev pub Stays : CHandle → CHandle → Type 0
Stays old new = (new.open ≡ old.open) × (new.handle.session ≡ old.handle.session)

-- a handle is open, and this holds of its session
abbrev pub HoldsSuch : CHandle → (SessionState → Type 0) → Type 0
HoldsSuch handle such = (session : SessionState) × Holds handle session × such session

-- a handle is open, and this holds of its answers
abbrev pub HasAnswers : CHandle → (List Answer → Type 0) → Type 0
HasAnswers handle such = HoldsSuch handle (λ session. such session.answers)

-- a session of which these are the answers, over the same file
abbrev pub answering : (List ℕ → List Answer) → SessionState → SessionState
answering meaning session = record { file = session.file; answers = meaning session.file }

-- a handle was open, and after a question its answers are these of the file
abbrev pub Answers : (List ℕ → List Answer) → CHandle → CHandle → Type 0
Answers meaning old new = HoldsSuch old (λ session. Holds new (answering meaning session))

-- a first handle is open and a second one isn't
abbrev pub MayOpenBeside : CHandle → CHandle → Type 0
MayOpenBeside handle other = (handle.open ≡ true) × (other.open ≡ false)

-- a file is refused, and a struct reports why
abbrev pub TellsRefusal : Option Refusal → CRefusal → Type 0
TellsRefusal refusal told = (fault : OpenFault) × (IsSome refusal × (refusal_of fault ≡ refusal)) × IsReason fault told
