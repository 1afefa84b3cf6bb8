-- The ring as it is opened, and the seats that are cut off one by one.
use Rattle.std.specs.Prelude.{◌≡◌, ℕ, suc, ◌-◌, ◌%◌, ◌<◌, List, [], ◌∷◌, ◌++◌, length, replicate, slice_index_or}
use Rattle.std.specs.Prelude.{slice_set, nat_lt, if◌then◌else◌}
use Rattle.ticket_core.specs.declared.shape.Shape.{Shape}
use Rattle.ticket_board.specs.Ring.Layout.{cells_in, words_in, state_field, word_of, free_word}
use Rattle.ticket_board.specs.Ring.Homes.{Empty}
use Rattle.ticket_board.specs.Ring.Views.{Asks, Works, View, new_asking, new_working, opener}
use Rattle.ticket_board.specs.Ring.Shows.{Board}

-- each cell is free for the first number that uses it
pub record AreFree (shape : Shape) (words : List ℕ) : Type 0 where
  pub size : length words ≡ words_in shape
  pub free : (cell : ℕ) → cell < cells_in shape
      → slice_index_or words (word_of cell state_field) 0 ≡ free_word (cell % shape.window)

-- all slots are empty, and one seat is there
abbrev pub opened : Shape → List ℕ → List ℕ → Board
opened shape key words = record {
  words = words;
  homes = replicate (cells_in shape) Empty;
  views = opener shape key 0 ∷ [];
}

-- the seat that is cut off after so many: first those of the senders, then those of the workers
abbrev pub next_seat : Shape → List ℕ → ℕ → View
next_seat shape key cut = record {
  shape = shape;
  key = key;
  role = if nat_lt cut shape.senders then Asks cut new_asking else Works (cut - shape.senders) new_working;
}

abbrev pub cut_off : Shape → List ℕ → ℕ → ℕ → Board → Board
cut_off shape key seat cut board = record {
  words = board.words;
  homes = board.homes;
  views = slice_set board.views seat (opener shape key (suc cut)) ++ next_seat shape key cut ∷ [];
}
