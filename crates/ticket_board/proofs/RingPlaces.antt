-- Which words and slots are those of a number, and what is read of them after a write.
use Rattle.std.proofs.Common.{◌≡◌, ◌≢◌, ℕ, zero, suc, ◌+◌, ◌*◌, ◌%◌, ◌<◌, ◌≤◌, List, length, get_or, set, inl, inr, ◌∙◌, suc-mul, mul_comm, mod-eq_of_lt, arith}
use Rattle.std.proofs.lemmas.Bool.{cases_eq, cases_lt}
use Rattle.std.proofs.lemmas.List.{get_or-set_same, get_or-set_other}
use Rattle.std.proofs.lemmas.Nat.{same_from_place, mul-add-lt, mod_below, mod-mul-add, div-add-mod'}
use Rattle.atomic_table.proofs.Lists.{one_turn}
use Rattle.ticket_core.specs.declared.shape.Shape.{Shape}
use Rattle.ticket_board.specs.Ring.Layout.{cells_in, cell_of, cell_words, state_field, first_field, second_field, word_of, words_in, state_place, state_at, first_at, second_at}
use Rattle.ticket_board.specs.Ring.Homes.{Home, Out, home_at}

-- two words of cells are one only where the cells and the fields are
pub word-apart : (cell other field field' : ℕ) → field < cell_words → field' < cell_words → (cell ≡ other → field ≡ field' → ⊥)
    → word_of cell field ≢ word_of other field'
word-apart cell other field field' h h' ne e = grind (arith, same_from_place)

pub word-within : (cells cell field : ℕ) → cell < cells → field < cell_words → word_of cell field < cells * cell_words
word-within cells cell field h h' = rw (mul_comm cells cell_words) (mul-add-lt cell cell_words field cells h h')

module _ (shape : Shape) (some_room : 0 < shape.window) where
  turn : (n : ℕ) → n % shape.window < shape.window
  turn n = mod_below n shape.window some_room

  pub cell-within : (s n : ℕ) → s < shape.senders → cell_of shape s n < cells_in shape
  cell-within s n h = rw (mul_comm shape.senders shape.window) (mul-add-lt s shape.window (n % shape.window) shape.senders h (turn n))

  pub cell-parts : (s n t m : ℕ) → cell_of shape s n ≡ cell_of shape t m → (s ≡ t) × (n % shape.window ≡ m % shape.window)
  cell-parts s n t m e = same_from_place s (n % shape.window) t (m % shape.window) shape.window (turn n) (turn m) e

  -- the cells of two senders
  pub senders-apart : (s n t m : ℕ) → t ≢ s → cell_of shape t m ≢ cell_of shape s n
  senders-apart s n t m ne e = ne (cell-parts t m s n e).0

  -- two numbers that are less than a window apart
  pub numbers-apart : (s first n m : ℕ) → first ≤ n → n < first + shape.window → first ≤ m → m < first + shape.window → m ≢ n
      → cell_of shape s m ≢ cell_of shape s n
  numbers-apart s first n m n_from n_below m_from m_below ne e = grind (arith, cell-parts, cases_lt, one_turn)

  -- ---- what is read after a write

  module _ (words : List ℕ) (s n x : ℕ) where
    -- of another cell, and of another word
    pub word-else : (field other t m : ℕ) → field < cell_words → other < cell_words → (cell_of shape t m ≡ cell_of shape s n → other ≡ field → ⊥)
        → get_or (set words (word_of (cell_of shape s n) field) x) (word_of (cell_of shape t m) other) 0 ≡ get_or words (word_of (cell_of shape t m) other) 0
    word-else field other t m h h' apart = grind (arith, get_or-set_other, word-apart)

    pub state-else : (field t m : ℕ) → field < cell_words → cell_of shape t m ≢ cell_of shape s n
        → state_at shape (set words (word_of (cell_of shape s n) field) x) t m ≡ state_at shape words t m
    state-else field t m h ne = word-else field state_field t m h (omega arith) (λ e _. ne e)

    -- what a state word leaves of the other two
    pub first-stays : (t m : ℕ) → first_at shape (set words (state_place shape s n) x) t m ≡ first_at shape words t m
    first-stays t m = word-else state_field first_field t m (omega arith) (omega arith) (λ _ e. omega arith)

    pub second-stays : (t m : ℕ) → second_at shape (set words (state_place shape s n) x) t m ≡ second_at shape words t m
    second-stays t m = word-else state_field second_field t m (omega arith) (omega arith) (λ _ e. omega arith)

    -- of what was written
    pub word-here : (field : ℕ) → field < cell_words → s < shape.senders → length words ≡ words_in shape
        → get_or (set words (word_of (cell_of shape s n) field) x) (word_of (cell_of shape s n) field) 0 ≡ x
    word-here field h h' e = grind (arith, word-within, cell-within, get_or-set_same)

  module _ (homes : List Home) (s n : ℕ) (x : Home) where
    pub home-else : (t m : ℕ) → cell_of shape t m ≢ cell_of shape s n → home_at shape (set homes (cell_of shape s n) x) t m ≡ home_at shape homes t m
    home-else t m ne = get_or-set_other homes (cell_of shape s n) (cell_of shape t m) x Out ne

    pub home-here : s < shape.senders → length homes ≡ cells_in shape → home_at shape (set homes (cell_of shape s n) x) s n ≡ x
    home-here h e = get_or-set_same homes (cell_of shape s n) x Out (rw e (cell-within s n h))

  -- ---- the number for which a cell is

  pub around : (n : ℕ) → (n + shape.window) % shape.window ≡ n % shape.window
  around n = grind (arith, div-add-mod', suc-mul, mod-mul-add, turn)

  -- each cell stands for one of the numbers of a window
  pub standing : (first j : ℕ) → j < shape.window
      → (m : ℕ) × (first ≤ m) × (m < first + shape.window) × (m % shape.window ≡ j)
  standing zero j h = (j, omega arith, omega arith, mod-eq_of_lt h)
  standing (suc first) j h =
      let before = standing first j h in
      elim (cases_eq before.0 first) [
        | inl e ↦ (before.0 + shape.window, omega (arith, before.1), omega (arith, e), around before.0 ∙ before.3)
        | inr ne ↦ (before.0, omega (arith, before.1, ne), omega (arith, before.2), before.3)
      ]
