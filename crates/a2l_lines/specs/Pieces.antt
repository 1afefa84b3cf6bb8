-- The text that inputs pick of the replies to queries.
use Rattle.std.specs.Prelude.{ℕ, List, [], ◌∷◌, map, flat_map, Option, slice_index_or}
use Rattle.dw_model.specs.Answer.{Answer}
use Rattle.dw_model.specs.Output as model
use Rattle.dw_symbols.specs.Told.{query_shown}
use Rattle.ticket_core.specs.declared.query.Query.{Query}
use Rattle.a2l_lines.specs.Ends.{WritesAll, WritesBeginning}
use Rattle.a2l_lines.specs.declared.reply.Reply.{Reply}

-- the line of a bad address, then the lines of the reply to each query
abbrev pub pieces_of : List Reply → List (List ℕ)
pieces_of replies = model.bad_address_line ∷ map (λ reply. reply.lines.items) replies

-- the lines of a query, by what it means
abbrev pub lines_of : model.Options → (Query → Answer) → Query → List ℕ
lines_of options means query = model.query_lines options (query_shown query) (means query)

-- the same by what queries mean
abbrev pub pieces_for : model.Options → (Query → Answer) → List Query → List (List ℕ)
pieces_for options means asked = model.bad_address_line ∷ map (lines_of options means) asked

-- the text of which each input picks a piece
abbrev pub picked_text : List (List ℕ) → List ℕ → List ℕ
picked_text pieces picks = flat_map (λ pick. slice_index_or pieces pick []) picks

-- it was written whole
abbrev pub WritesPicked : (old new : Option (List ℕ)) → List (List ℕ) → List ℕ → Type 0
WritesPicked old new pieces picks = WritesAll old new (picked_text pieces picks)

-- a beginning of it was
abbrev pub PicksBeginning : (old new : Option (List ℕ)) → List (List ℕ) → List ℕ → Type 0
PicksBeginning old new pieces picks = WritesBeginning old new (picked_text pieces picks)
