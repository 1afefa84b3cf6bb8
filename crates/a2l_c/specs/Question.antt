-- The answers of a question.
use Rattle.std.specs.Prelude.{ℕ, List, [], ◌∷◌, map}
use Rattle.dw_model.specs.Answer.{Answer, answer, location}
use Rattle.dw_model.specs.Pieces.{pieces}
use Rattle.a2l_c.specs.declared.question.Question.{Question}
use Rattle.a2l_c.specs.declared.question.Question.TheVariants.{Frames, Locations, Pieces}

-- what a question asks of a file, in the order in which it asks
abbrev pub answers_to : Question → List ℕ → List Answer
answers_to (Frames addresses) file = map (answer file) addresses.now
answers_to (Locations addresses) file = map (location file) addresses.now
answers_to (Pieces low high) file = pieces file low high ∷ []
