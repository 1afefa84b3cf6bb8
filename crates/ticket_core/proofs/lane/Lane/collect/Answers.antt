use Rattle.std.proofs.Common.{◌≡◌, ◌<◌, length, arith}
use Rattle.ticket_core.proofs.LaneLemmas.{collected-read, put_back-read, not_ready-read}
use Rattle.ticket_core.proofs.lane.Lane.collect.Goals as goal

pub returns-in-Filled-clause-collected : goal.returns-in-Filled-clause-collected
returns-in-Filled-clause-collected g c shown =
    let e : c.len-number.result ≡ length c.args.self.now.received.items = omega arith in
    let h : c.len-number.result < length c.args.self.now.slots.items = omega arith in
    collected-read shown _ _ _ _ _ _ _ _ _ _ e h
    c.replace.ensures.value c.index_mut.ensures.value c.in-Filled.is c.replace.ensures.after c.push_reserved.ensures.items

pub returns-in_default-clause-kept : goal.returns-in_default-clause-kept
returns-in_default-clause-kept g c shown =
    put_back-read shown _ _ _ _ _ _ _ _ c.replace.ensures.value c.index_mut.ensures.value

pub returns-in_default-clause-refusal : goal.returns-in_default-clause-refusal
returns-in_default-clause-refusal g c shown =
    let e : c.len-number.result ≡ length c.args.self.now.received.items = omega arith in
    let same : length c.args.self.now.slots.items ≡ length c.args.self.now.asked.items = omega arith in
    let h : c.len-number.result < length c.args.self.now.slots.items = omega arith in
    not_ready-read shown _ _ _ _ _ _ _ c.replace.ensures.value c.index_mut.ensures.value c.in_default.not-Filled e same h
