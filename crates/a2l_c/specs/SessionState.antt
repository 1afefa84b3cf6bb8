-- What contracts see of a session.
use Rattle.std.specs.Prelude.{ℕ, List, refl}
use Rattle.std.specs.Coded.{Coded, code_by, coded×, coded_list, coded_ℕ}
use Rattle.dw_model.specs.Answer.{Answer}
use Rattle.dw_symbols.specs.Codes.{answer_code}

-- the bytes of its file, and the answers of what was asked last, in its order
pub record SessionState : Type 0 where
  pub file : List ℕ
  pub answers : List Answer

abbrev pub session_code : Coded SessionState
session_code =
    code_by (List ℕ × List Answer) (coded× (coded_list coded_ℕ) (coded_list answer_code))
    (λ state. (state.file, state.answers))
    (λ p. record { file = p.0; answers = p.1 }) (λ _. refl)
