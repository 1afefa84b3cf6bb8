use Rattle.dw_frames.proofs.ToldLemmas.{told-kept}
use Rattle.dw_frames.proofs.descriptions.Descriptions.get.Goals as goal

pub returns-then-at-offset : goal.returns-then-at-offset
returns-then-at-offset c of all =
    let item = c.in_ok-kept.ensures.lookup in
    told-kept of c.deref-2.result.now c.in_ok-place.place.now c.args.offset c.in_ok-kept.kept.now item.3.0 item.1 c.if-at-offset.true (rw (c.deref-2.ensures.value) all)
