use Rattle.a2l_lines.proofs.SharingLemmas.{shares-in}
use Rattle.a2l_lines.proofs.shares.Sharing.in_order.Goals as goal

pub returns-clause-shares : goal.returns-clause-shares
returns-clause-shares c = λ inputs shares.
    let became = rw c.deref.ensures.value at c.in_ok-became.ensures in
    let asked = rw c.deref-2.ensures.value at c.in_ok-asked.ensures in
    let picks = rw (c.deref-3.ensures.value, c.deref-4.ensures.value) at c.in_ok-picks.ensures in
    rw (asked, picks)
    (shares-in inputs c.args.self.asked.items c.args.self.picks.items c.in_ok-became.became.items c.args.order.now c.requires.order became shares)
