-- Answers that show what their queries mean are the file's.
use Rattle.std.proofs.Common.{◌≡◌, ℕ, List, [], ◌∷◌, map, refl, arith}
use Rattle.ticket_core.specs.declared.query.Query.{Query}
use Rattle.dw_symbols.specs.declared.answer.Answer.{Answer}
use Rattle.dw_symbols.specs.Answer.{answer_shown}
use Rattle.dw_symbols.specs.Codes.{answer_code}
use Rattle.dw_symbols.specs.Told.{told, means, meaning}

pub same_answer : (file : List ℕ) (query : Query) (answer : Answer) → told answer ≡ meaning file query → answer_shown answer ≡ means file query
same_answer file query answer same = answer_code.inj (answer_shown answer) (means file query) same

pub same_answers : (file : List ℕ) (queries : List Query) (answers : List Answer) → map told answers ≡ map (meaning file) queries → map answer_shown answers ≡ map (means file) queries
same_answers file [] [] same = refl
same_answers file [] (answer ∷ answers) same = cc
same_answers file (query ∷ queries) [] same = cc
same_answers file (query ∷ queries) (answer ∷ answers) same =
    grind (arith, same_answer, same_answers file queries answers)
