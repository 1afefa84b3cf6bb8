use Rattle.std.proofs.Common.{◌≡◌, ℕ, ◌*◌, ◌%◌, ◌<◌, ◌≤◌, get_or}
use Rattle.std.specs.Vec.{vec_len, vec_capacity}
use Rattle.ticket_board.specs.Ring.Layout.{state_field, word_of, free_word}
use Rattle.ticket_board.proofs.ring.new_ring.free_words.Given as goal

abbrev pub invariant-loop-cell : goal.invariant-loop-cell
invariant-loop-cell l = record {
  len : vec_len l.words ≡ 3 * l.cell;
  room : 3 * l.cells ≤ vec_capacity l.words;
  free : (k : ℕ) → k < l.cell → get_or l.words.items (word_of k state_field) 0 ≡ free_word (k % l.shape.window);
}
