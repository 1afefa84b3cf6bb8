-- Which cells gave a worker nothing, over several tries.
use Rattle.std.specs.Prelude.{MatchBool}
use Rattle.std.proofs.Common.{◌≡◌, ℕ, ◌+◌, ◌-◌, ◌<◌, ◌≤◌, ◌⊎◌, Bool, IsSome, inl, inr, ⊎_elim, subst, append_assoc, arith}
use Rattle.std.proofs.lemmas.Bool.{cases_eq, cases_lt}
use Rattle.std.proofs.lemmas.List.{length-append}
use Rattle.std.proofs.lemmas.List.Elements.{Contains-append_left, Contains-append_right}
use Rattle.ticket_board.specs.Ring.Views.{Working}
use Rattle.ticket_board.specs.Ring.Takers.{TakerState, HasSought, MissedEach, Between}

joined : (many more : ℕ) (F G H : ℕ → Type 0) (old mid new : Working) → MissedEach many F old mid → MissedEach more G mid new
    → ((cell : ℕ) → H cell → F cell ⊎ G cell) → MissedEach (many + more) H old new
joined many more F G H old mid new first second cases =
    grind (arith, append_assoc, length-append, ⊎_elim, Contains-append_left, Contains-append_right)

-- one cell more
pub missed-more : (from cell : ℕ) (old mid new : Working) → from ≤ cell → MissedEach (cell - from) (Between from cell) old mid
    → MissedEach 1 (λ other. other ≡ cell) mid new → MissedEach (cell + 1 - from) (Between from (cell + 1)) old new
missed-more from cell old mid new order first second =
    let many : cell - from + 1 ≡ cell + 1 - from = omega (arith, order) in
    subst (λ (n : ℕ). MissedEach n (Between from (cell + 1)) old new) many
    (joined (cell - from) 1 (Between from cell) (λ other. other ≡ cell) (Between from (cell + 1)) old mid new first second
    (λ other h. elim (cases_eq other cell) [
      | inl e ↦ inr e
      | inr ne ↦ inl (h.0, omega (arith, h.1, ne))
    ]))

-- those from one on, and then those before it
pub missed-round : (begin cells : ℕ) (old mid new : Working) → begin ≤ cells → MissedEach (cells - begin) (Between begin cells) old mid
    → MissedEach (begin - 0) (Between 0 begin) mid new → MissedEach cells (λ cell. cell < cells) old new
missed-round begin cells old mid new order first second =
    let all : cells - begin + (begin - 0) ≡ cells = omega (arith, order) in
    subst (λ (n : ℕ). MissedEach n (λ cell. cell < cells) old new) all
    (joined (cells - begin) (begin - 0) (Between begin cells) (Between 0 begin) (λ cell. cell < cells) old mid new first second
    (λ cell h. elim (cases_lt cell begin) [
      | inl lt ↦ inr (omega arith, lt)
      | inr le ↦ inl (le, h)
    ]))

pub sought-on : (old mid new : TakerState) → HasSought old mid → HasSought mid new → HasSought old new
sought-on old mid new first second = grind arith

-- the last try gave a number, or all cells gave nothing
pub round-found : (begin cells : ℕ) (hit : Bool) (old mid new : Working) → begin ≤ cells → MissedEach (cells - begin) (Between begin cells) old mid
    → MatchBool hit (IsSome new.hand) (MissedEach (begin - 0) (Between 0 begin) mid new)
    → MatchBool hit (IsSome new.hand) (MissedEach cells (λ cell. cell < cells) old new)
round-found begin cells hit old mid new order first second = grind (arith, missed-round)
