use Rattle.std.proofs.Common.{◌<◌, ℕ, Option, None, subst, arith}
use Rattle.dw_line.specs.Sequences.{IsOwner}
use Rattle.dw_line.specs.Border.{OwnerEnds, IsBorder}
use Rattle.dw_line.specs.Header.{without_lists}
use Rattle.dw_line.proofs.WalkLemmas.{no_row, owner_before, in_span, either_border}
use Rattle.dw_line.proofs.walk.Walk.next.Goals as goal

pub returns-in_default-clause-stretch : goal.returns-in_default-clause-stretch
returns-in_default-clause-stretch c =
    let rows = c.self.inside.lines.now.rows in
    let at = c.self.inside.at in
    let high = c.self.inside.high in
    let end = c.lesser-end.result in
    let order = c.lesser-end.ensures.above at c.owner_from-self-inside.ensures.after c.if-begin-self.false in
    let owner = subst (λ (number : Option ℕ). IsOwner rows number at c.owner_from-self-inside.result.until) c.in_default.is c.owner_from-self-inside.ensures.owner in
    rw (← c.self.view_is) (in_span rows at end high (record { begin = at; end = end; row = None }) c.lesser-end.ensures.second (no_row rows at end order (owner_before rows None at end c.owner_from-self-inside.result.until owner c.lesser-end.ensures.first)))

pub returns-clause-border : goal.returns-clause-border
returns-clause-border c =
    let lines = c.self.inside.lines.now in
    let at = c.self.inside.at in
    let high = c.self.inside.high in
    let until = c.owner_from-self-inside.result.until in
    let owner = subst (λ (number : Option ℕ). IsOwner lines.rows number at until) c.in-Some.is c.owner_from-self-inside.ensures.owner in
    let ends = subst (λ (number : Option ℕ). OwnerEnds lines.rows number until) c.in-Some.is c.owner_from-self-inside.ensures.border in
    let border : c.lesser-end-2.result < high → IsBorder lines.rows at c.lesser-end-2.result =
    either_border (without_lists lines.header) lines.rows c.in-Some.number at until high c.lesser-end.result c.lesser-end-2.result c.row_uncounted-found.result
    c.row_uncounted-found.ensures.named owner ends c.owner_from-self-inside.ensures.after (grind arith) c.lesser-end.ensures.first c.lesser-end.ensures.above
    c.row_uncounted-found.ensures.stays.above c.row_uncounted-found.ensures.row.1 c.lesser-end-2.ensures.first c.lesser-end-2.ensures.second c.lesser-end-2.ensures.above in
    rw (← c.self.view_is) border
