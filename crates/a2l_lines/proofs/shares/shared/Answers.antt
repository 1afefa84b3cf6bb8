use Rattle.std.proofs.Common.{◌≡◌, length, map, get_or, arith, refl, sym, ap, ◌∙◌}
use Rattle.std.proofs.lemmas.List.{get_or_read}
use Rattle.ticket_core.specs.declared.query.QueryKind.TheVariants.{Address}
use Rattle.a2l_lines.specs.Sharing.{Pair, pair_at}
use Rattle.a2l_lines.specs.Input.{input_shown}
use Rattle.a2l_lines.proofs.SharingLemmas.{sharing-next, sharing-ends}
use Rattle.a2l_lines.proofs.shares.shared.Goals as goal

pub loop-i-preserved : goal.loop-i-preserved
loop-i-preserved c =
    let count : c.len.result ≡ length c.add.new.asked.items = omega (arith, c.len.ensures, c.add.new.asked.ok.0) in
    let pairs = c.args.pairs.now in
    let i = c.loop-i.i in
    let first = c.index-pairs-i.result in
    let second = c.index-pairs-i-in-loop-i.result in
    let query : get_or pairs i first ≡ pair_at pairs i = sym c.index-pairs-i.is ∙ get_or_read pairs i first c.loop-i-test.true c.index-pairs-i.is (Address 0, 0) in
    let place : get_or pairs i second ≡ pair_at pairs i = sym c.index-pairs-i-in-loop-i.is ∙ get_or_read pairs i second c.loop-i-test.true c.index-pairs-i-in-loop-i.is (Address 0, 0) in
    rw count
    (sharing-next (map input_shown c.args.inputs.now) pairs i (get_or pairs i first).0 (get_or pairs i second).1 c.loop-i.asked.items c.add.new.asked.items c.loop-i.picks.items _
    (ap (λ (pair : Pair). pair.0) query) (ap (λ (pair : Pair). pair.1) place) c.requires.pairs c.requires.order c.loop-i-test.true c.loop-i.invariant c.in_ok-add.ensures.added c.in_ok-add.ensures.last refl)

pub returns : goal.returns
returns c =
    sharing-ends (map input_shown c.args.inputs.now) c.args.pairs.now c.loop-i.i c.loop-i.asked.items c.loop-i.picks.items c.requires.pairs c.loop-i-test.false c.loop-i.invariant
