use Rattle.std.proofs.Common.{◌≡◌, ◌<◌, ℕ, length, get_or, sym}
use Rattle.std.proofs.lemmas.List.{get_or_read, map_more}
use Rattle.ticket_core.specs.declared.query.QueryKind.TheVariants.{Address}
use Rattle.a2l_lines.specs.Queries.{query_at}
use Rattle.a2l_lines.proofs.order.in_order.Goals as goal

pub loop-place-preserved : goal.loop-place-preserved
loop-place-preserved c =
    let queries = c.args.queries.now in
    let order = c.args.order.now in
    let i = c.loop-place.place-index in
    let place = (get_or order i ((0, 0), 0)).1 in
    let within : place < length queries = c.requires.within i ((0, 0), 0) c.loop-place-test.true in
    let read : c.index-queries-place.result ≡ query_at queries place = get_or_read queries place c.index-queries-place.result within c.index-queries-place.is (Address 0) in
    rw (c.in_ok-push.ensures.items, c.loop-place.invariant, read) (sym (map_more (λ (pair : (ℕ × ℕ) × ℕ). query_at queries pair.1) order i ((0, 0), 0) c.loop-place-test.true))
