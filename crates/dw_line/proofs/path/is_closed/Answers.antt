use Rattle.std.proofs.Common.{◌≡◌, ◌<◌, ℕ, false, length, sym, arith}
use Rattle.std.specs.Prelude.{◌==◌}
use Rattle.std.proofs.lemmas.Bool.{eqb-false}
use Rattle.dw_line.proofs.PathLemmas.{closes_at_last}
use Rattle.dw_line.proofs.path.is_closed.Goals as goal

some_length : (n : ℕ) → false ≡ (n == 0) → 0 < n
some_length n e =
    let other = eqb-false n 0 (sym e) in
    grind (arith, other)

pub returns-then-not-is_empty : goal.returns-then-not-is_empty
returns-then-not-is_empty c = closes_at_last c.args.path.now (some_length (length c.args.path.now) c.if-not-is_empty.ensures)
