-- Where the words and the slot of a number are: each sender has as many cells as its window, and a
-- number uses one.
use Rattle.std.specs.Prelude.{ℕ, ◌+◌, ◌*◌, ◌%◌, List, slice_index_or}
use Rattle.ticket_core.specs.declared.shape.Shape.{Shape}

-- ---- cells

-- how many cells there are, each with one slot
abbrev pub cells_in : Shape → ℕ
cells_in shape = shape.senders * shape.window

-- the cell of a sender's number
abbrev pub cell_of : Shape → ℕ → ℕ → ℕ
cell_of shape s n = s * shape.window + n % shape.window

-- ---- the words of a cell: its state, then the two words of the query that was asked

abbrev pub cell_words : ℕ
cell_words = 3

abbrev pub state_field : ℕ
state_field = 0

abbrev pub first_field : ℕ
first_field = 1

abbrev pub second_field : ℕ
second_field = 2

-- the index of a cell's word among all words
abbrev pub word_of : ℕ → ℕ → ℕ
word_of cell field = cell * cell_words + field

abbrev pub state_place : Shape → ℕ → ℕ → ℕ
state_place shape s n = word_of (cell_of shape s n) state_field

abbrev pub first_place : Shape → ℕ → ℕ → ℕ
first_place shape s n = word_of (cell_of shape s n) first_field

abbrev pub second_place : Shape → ℕ → ℕ → ℕ
second_place shape s n = word_of (cell_of shape s n) second_field

-- how many words there are
abbrev pub words_in : Shape → ℕ
words_in shape = cells_in shape * cell_words

-- what is there
abbrev pub state_at : Shape → List ℕ → ℕ → ℕ → ℕ
state_at shape words s n = slice_index_or words (state_place shape s n) 0

abbrev pub first_at : Shape → List ℕ → ℕ → ℕ → ℕ
first_at shape words s n = slice_index_or words (first_place shape s n) 0

abbrev pub second_at : Shape → List ℕ → ℕ → ℕ → ℕ
second_at shape words s n = slice_index_or words (second_place shape s n) 0

-- ---- the state word: eight times the number, and its phase

-- not yet asked
abbrev pub free_word : ℕ → ℕ
free_word n = 8 * n

-- it waits for a worker
abbrev pub asked_word : ℕ → ℕ
asked_word n = 8 * n + 1

-- in a worker's hand
abbrev pub taken_word : ℕ → ℕ
taken_word n = 8 * n + 2

-- its answer is in the slot
abbrev pub answered_word : ℕ → ℕ
answered_word n = 8 * n + 3

-- its answer is in the sender's hand
abbrev pub collecting_word : ℕ → ℕ
collecting_word n = 8 * n + 4
