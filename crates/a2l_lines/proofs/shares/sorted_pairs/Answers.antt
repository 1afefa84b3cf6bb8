use Rattle.std.proofs.Common.{map, rules}
use Rattle.std.proofs.lemmas.List.Sorted.{answers_always}
use Rattle.a2l_lines.specs.Input.{input_shown}
use Rattle.a2l_lines.proofs.SharingLemmas.{pairs-moved, words_of, in-order}
use Rattle.a2l_lines.proofs.shares.sorted_pairs.Goals as goal

pub returns-clause-pairs : goal.returns-clause-pairs
returns-clause-pairs c =
    pairs-moved (map input_shown c.args.inputs.now) c.in_ok-pairs.pairs.items c.sort_unstable_by_key.new.self.items c.sort_unstable_by_key.ensures.permutation c.in_ok-pairs.ensures

pub returns-clause-order : goal.returns-clause-order
returns-clause-order c =
    in-order c.sort_unstable_by_key.new.self.items (c.sort_unstable_by_key.ensures.sorted words_of (answers_always _ _ _ (λ f a r g h. search rules)))
