use Rattle.std.proofs.Common.{◌≡◌, ◌∙◌, None, Some, map, get_or, ap}
use Rattle.std.proofs.lemmas.List.{get_or-map}
use Rattle.a2l_lines.specs.Input.{input_shown}
use Rattle.a2l_lines.proofs.SharingLemmas.{pairs-more, found-more, found-same}
use Rattle.a2l_lines.proofs.shares.pairs_of.Goals as goal

pub loop-i-preserved-in_default : goal.loop-i-preserved-in_default
loop-i-preserved-in_default c =
    let none : get_or (map input_shown c.args.inputs.now) c.loop-i.i None ≡ None = get_or-map input_shown c.args.inputs.now c.loop-i.i _ None c.loop-i-test.true ∙ ap input_shown c.in_default.is in
    record {
      right = c.loop-i.invariant.right;
      found = found-same (map input_shown c.args.inputs.now) c.loop-i.pairs.items c.loop-i.i none c.loop-i.invariant.found;
    }

pub loop-i-preserved : goal.loop-i-preserved
loop-i-preserved c =
    let inputs = map input_shown c.args.inputs.now in
    let is : get_or inputs c.loop-i.i None ≡ Some c.in-Asked.query = get_or-map input_shown c.args.inputs.now c.loop-i.i _ None c.loop-i-test.true ∙ ap input_shown c.in-Asked.is in
    record {
      right = pairs-more inputs c.loop-i.pairs.items c.push.new.self.items c.loop-i.i c.in-Asked.query is c.in_ok-push.ensures.items c.loop-i.invariant.right;
      found = found-more inputs c.loop-i.pairs.items c.push.new.self.items c.loop-i.i c.in-Asked.query is c.in_ok-push.ensures.items c.loop-i.invariant.found;
    }
