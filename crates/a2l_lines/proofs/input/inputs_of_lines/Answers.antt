use Rattle.std.proofs.Common.{map, rules}
use Rattle.std.specs.Str.Lines.{lines}
use Rattle.dw_model.specs.Output.{query_in}
use Rattle.a2l_lines.proofs.InputLemmas.{lines-more}
use Rattle.a2l_lines.proofs.input.inputs_of_lines.Goals as goal

pub loop-left-preserved : goal.loop-left-preserved
loop-left-preserved c =
    lines-more c.loop-left.inputs.items c.push.new.self.items c.of.result c.loop-left.left.now c.split_line.result.0.now c.split_line.result.1.now (map query_in (lines c.args.bytes.now)) (search rules) c.split_line.ensures.line c.split_line.ensures.rest c.of.ensures c.in_ok-push.ensures.items c.loop-left.invariant
