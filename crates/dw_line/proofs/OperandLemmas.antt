-- Operands of an opcode that the standard doesn't name, read over one by one.
use Rattle.std.proofs.Common.{◌≡◌, ℕ, suc, ◌+◌, ◌-◌, ◌<◌, ◌≤◌, Result, Ok, Err, arith}
use Rattle.dw_model.specs.Results.{or_fault}
use Rattle.dw_model.specs.Reading.{Place}
use Rattle.dw_model.specs.Leb.{uleb_at}
use Rattle.dw_model.specs.Faults.{Bad, bad}
use Rattle.dw_model.specs.Instruction.{Instruction, no_effect, unknown_at}

-- of `count` operands, those before the i-th were read
abbrev pub SoFar : (count i : ℕ) → Place → Result (Instruction × Place) Bad → Type 0
SoFar count i p whole = unknown_at (count - i) p ≡ whole

more : (count i : ℕ) → i < count → count - i ≡ suc (count - (i + 1))
more count i h = omega (arith, h)

pub begins : (count : ℕ) (p : Place) → SoFar count 0 p (unknown_at count p)
begins count p = grind arith

pub goes_on : (count i operand : ℕ) (p q : Place) (whole : Result (Instruction × Place) Bad) → i < count → or_fault bad (uleb_at p) ≡ Ok (operand, q) → SoFar count i p whole → SoFar count (i + 1) q whole
unfolding unknown_at
goes_on count i operand p q whole h e so_far = grind (arith, more)

pub stops : (count i : ℕ) (p : Place) (whole : Result (Instruction × Place) Bad) → i < count → SoFar count i p whole → or_fault bad (uleb_at p) ≡ Err bad → whole ≡ Err bad
unfolding unknown_at
stops count i p whole h so_far e = grind (arith, more)

pub ends : (count i : ℕ) (p : Place) (whole : Result (Instruction × Place) Bad) → count ≤ i → SoFar count i p whole → whole ≡ Ok (no_effect, p)
unfolding unknown_at
ends count i p whole h so_far = grind arith
