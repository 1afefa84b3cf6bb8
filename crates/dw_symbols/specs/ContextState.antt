-- What contracts see of a context.
use Rattle.std.specs.Prelude.{ℕ, List, refl}
use Rattle.std.specs.Coded.{Coded, code_by, coded×, coded_list, coded_ℕ}

-- the bytes of its file, and how often `find_frames`, or an answer for a pool, was refused memory
pub record ContextState : Type 0 where
  pub file : List ℕ
  pub refused : ℕ

abbrev pub state_code : Coded ContextState
state_code =
    code_by (List ℕ × ℕ) (coded× (coded_list coded_ℕ) coded_ℕ) (λ state. (state.file, state.refused))
    (λ p. record { file = p.0; refused = p.1 }) (λ _. refl)
