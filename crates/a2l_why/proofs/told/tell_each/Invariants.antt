use Rattle.std.proofs.Common.{◌≡◌, map, take}
use Rattle.dw_model.specs.Section.{sections}
use Rattle.a2l_lines.specs.Input.{word_shown}
use Rattle.a2l_why.specs.Told.{answer_of_word, answer_told, lines_of, lines_told, unit_in, unit_of_word}
use Rattle.a2l_why.proofs.told.tell_each.Given as goal

abbrev pub invariant-loop-word : goal.invariant-loop-word
invariant-loop-word l = record {
  same : l.context.file ≡ l.image;
  answers : map answer_told l.tolds.items ≡ map (answer_of_word l.image) (map word_shown (take l.word-index l.words));
  lines : map lines_told l.tolds.items ≡ map (lines_of l.image) (map word_shown (take l.word-index l.words));
  units : map (unit_in (sections l.image)) l.tolds.items ≡ map (unit_of_word l.image) (map word_shown (take l.word-index l.words));
}
