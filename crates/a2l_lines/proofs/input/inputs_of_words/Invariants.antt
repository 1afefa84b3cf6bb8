use Rattle.std.proofs.Common.{◌≡◌, map, take}
use Rattle.dw_model.specs.Output.{query_in}
use Rattle.a2l_lines.specs.Input.{asked_by, word_shown}
use Rattle.a2l_lines.proofs.input.inputs_of_words.Given as goal

abbrev pub invariant-loop-word : goal.invariant-loop-word
invariant-loop-word l = map asked_by l.inputs.items ≡ map query_in (map word_shown (take l.word-index l.words))
