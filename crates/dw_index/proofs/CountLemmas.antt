-- Halving: how many probes are left, at most and at least.
use Rattle.std.proofs.Common.{◌≡◌, ℕ, zero, suc, ◌+◌, ◌-◌, ◌*◌, ◌/◌, ◌^◌, ◌<◌, ◌≤◌, arith, pow-suc}
use Rattle.std.proofs.lemmas.Nat.{pow_pos}

-- As many probes as are left of a bound suffice for so many segments.
pub record Suffices (size steps bound : ℕ) : Type 0 where
  pub rest : ℕ
  pub small : size < 2 ^ rest
  pub left : steps + rest ≤ bound

pub starts : (part size steps digits : ℕ) → part ≤ size → size < 2 ^ digits → Suffices part steps (steps + digits)
starts part size steps digits less h = grind arith

pub halves : (size half steps more bound : ℕ) → 0 < size → half ≤ size / 2 → more ≡ steps + 1 → Suffices size steps bound → Suffices half more bound
halves size half steps more bound some less one is = record {
  rest = is.rest - 1;
  small = grind (arith, pow-suc 2 (is.rest - 1));
  left = grind arith;
}

pub in_bound : (size steps bound : ℕ) → Suffices size steps bound → steps ≤ bound
in_bound size steps bound is = omega (arith, is.left)

-- ---- at least

-- So many segments need as many probes as are missing of a bound.
pub record Needs (size steps bound : ℕ) : Type 0 where
  pub rest : ℕ
  pub large : 2 ^ rest ≤ size + 1
  pub missing : bound ≤ steps + rest

pub needs : (part size steps halvings : ℕ) → size ≤ part → 2 ^ halvings ≤ size + 1 → Needs part steps (steps + halvings)
needs part size steps halvings more h = record { rest = halvings; large = omega (arith, more, h); missing = omega arith }

pub needs_less : (size half steps more bound : ℕ) → size ≤ 2 * half + 2 → more ≡ steps + 1 → Needs size steps bound → Needs half more bound
needs_less size half steps more bound less one is = by is.rest is.large is.missing
  where
    by : (rest : ℕ) → 2 ^ rest ≤ size + 1 → bound ≤ steps + rest → Needs half more bound
    by zero large missing = record { rest = 0; large = grind arith; missing = omega (arith, one, missing) }
    by (suc rest) large missing = record { rest = rest; large = omega (arith, pow-suc 2 rest, large, less); missing = omega (arith, one, missing) }

pub needs_none : (size steps bound : ℕ) → size ≤ 0 → Needs size steps bound → bound ≤ steps
needs_none size steps bound none is = by is.rest is.large is.missing
  where
    by : (rest : ℕ) → 2 ^ rest ≤ size + 1 → bound ≤ steps + rest → bound ≤ steps
    by zero large missing = omega (arith, missing)
    by (suc rest) large missing = absurd (omega (arith, pow-suc 2 rest, pow_pos rest, large, none))
