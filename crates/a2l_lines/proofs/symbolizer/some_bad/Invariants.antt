use Rattle.std.proofs.Common.{◌≡◌, false, map, take}
use Rattle.std.specs.List.{list_any}
use Rattle.a2l_lines.specs.Input.{input_shown}
use Rattle.a2l_lines.specs.Text.{is_bad}
use Rattle.a2l_lines.proofs.symbolizer.some_bad.Given as goal

abbrev pub invariant-loop-input : goal.invariant-loop-input
invariant-loop-input l = list_any is_bad (map input_shown (take l.input-index l.inputs)) ≡ false
