use Rattle.std.proofs.Common.{◌++◌, List, arith, map, subst, sym}
use Rattle.std.proofs.lemmas.List.{length_push, map_push}
use Rattle.dw_model.specs.Abbrev.{Specification}
use Rattle.dw_forms.specs.Needed.{AreAlike}
use Rattle.dw_forms.specs.Spec.{spec_shown}
use Rattle.dw_forms.proofs.NeededLemmas.{AreKnown, passed-over, known-still, known-more, taken}
use Rattle.dw_forms.proofs.needed.needed_of.Goals as goal

pub loop-spec-preserved-then-not-branch : goal.loop-spec-preserved-then-not-branch
loop-spec-preserved-then-not-branch c =
    let l = c.loop-spec in
    let front = map spec_shown l.needed.items in
    let one = spec_shown c.in-Some.spec in
    let out = passed-over front l.left c.take_first.new.self c.args.specs.now one l.names.items c.is_needed.new.names.items c.in-Some.ensures l.invariant.0 l.invariant.2 in
    let still = known-still front l.left c.take_first.new.self c.args.specs.now one l.names.items c.is_needed.new.names.items c.in-Some.ensures l.invariant.0 l.invariant.2 in
    (out (c.in_ok-is_needed.ensures.size c.if-not-branch.true) (c.in_ok-is_needed.ensures.later c.if-not-branch.true), l.invariant.1, still c.in_ok-is_needed.field-0 c.if-not-branch.true c.in_ok-is_needed.ensures.noted)

pub loop-spec-preserved : goal.loop-spec-preserved
loop-spec-preserved c =
    let l = c.loop-spec in
    let front = map spec_shown l.needed.items in
    let one = spec_shown c.in-Some.spec in
    let more = taken front l.left c.take_first.new.self c.args.specs.now one l.names.items c.is_needed.new.names.items c.in-Some.ensures l.invariant.0 l.invariant.2 in
    let known = known-more front l.left c.take_first.new.self c.args.specs.now one l.names.items c.is_needed.new.names.items c.in-Some.ensures l.invariant.0 l.invariant.2 c.in_ok-is_needed.field-0 c.in_ok-is_needed.ensures.noted in
    let shown = sym (map_push spec_shown l.needed.items c.in-Some.spec) in
    rw (c.in_ok-push.ensures.items) (
      subst (λ (needed : List Specification). AreAlike (needed ++ c.take_first.new.self) c.args.specs.now) shown more,
      omega (arith, length_push l.needed.items c.in-Some.spec, c.if-len-most.false),
      subst (λ (needed : List Specification). AreKnown c.is_needed.new.names.items needed) shown known,
    )
