use Rattle.std.proofs.Common.{◌≡◌, ◌-◌, arith}
use Rattle.dw_forms.specs.Tables.{tables_shown}
use Rattle.dw_ranges.specs.Claims.{owner_of}
use Rattle.dw_frames.specs.Drafts.{outermost}
use Rattle.dw_frames.specs.Tree.{inwards}
use Rattle.std.proofs.lemmas.List.{append-nil}
use Rattle.std.proofs.lemmas.Option.{slice_get_past}
use Rattle.dw_frames.proofs.InwardsLemmas.{inwards-zero, inwards-none, inwards-nowhere, found-more, kept-there}
use Rattle.dw_frames.proofs.chains.Chains.at.Goals as goal

pub returns-in_default : goal.returns-in_default
returns-in_default c =
    let tables = tables_shown c.args.tables.now in
    let chains = c.args.self.now in
    grind (arith, inwards-none tables chains c.args.a, append-nil, chains.functions.ok.0)

pub returns-in_default-get : goal.returns-in_default-get
returns-in_default-get c =
    let tables = tables_shown c.args.tables.now in
    let chains = c.args.self.now in
    grind (arith, inwards-nowhere tables chains c.args.a (c.len-end.result - c.loop.counter) c.in-Some.k, slice_get_past, c.in_default-get.ensures.lookup.3, append-nil, chains.functions.ok.0)

pub loop-preserved : goal.loop-preserved
loop-preserved c =
    let tables = tables_shown c.args.tables.now in
    let chains = c.args.self.now in
    let item = c.in-Some-get.ensures.lookup in
    let there = kept-there chains c.deref.result.now c.in-Some.k c.in-Some-get.offset.now c.deref.ensures.value item.3.0 item.1 in
    let before = rw (c.in-Some.is) at c.loop.invariant in
    rw (c.in_ok-push.ensures.items, c.find-number-in-loop.ensures) (found-more tables chains c.args.a c.len-end.result c.loop.counter c.in-Some.k c.in-Some-get.offset.now c.loop.ids.items (inwards tables chains c.args.a c.len-end.result (owner_of tables chains.owners outermost c.args.a)) c.loop-test.true there before)

pub returns : goal.returns
returns c =
    let tables = tables_shown c.args.tables.now in
    let chains = c.args.self.now in
    let none : c.len-end.result - c.loop.counter ≡ 0 = omega (arith, c.loop-test.false) in
    grind (arith, inwards-zero tables chains c.args.a c.loop.number, append-nil, chains.functions.ok.0)
