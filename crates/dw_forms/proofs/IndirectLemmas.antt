-- A form that names another one, and the form that is reached.
use Rattle.std.proofs.Common.{◌≡◌, ℕ, ℤ, Option, Some, None, Result, Ok, Err, refl, sym, ◌∙◌, arith}
use Rattle.std.specs.Prelude.{ok_or, nat_eq}
use Rattle.std.specs.Map.{lookup}
use Rattle.std.proofs.lemmas.Bool.{ne_eqb}
use Rattle.dw_model.specs.declared.dwarf.TheConstants.{DW_FORM_indirect}
use Rattle.dw_model.specs.Results.{◌>>=◌}
use Rattle.dw_model.specs.Reading.{Place}
use Rattle.dw_model.specs.Faults.{Fault, unknown_form}
use Rattle.dw_model.specs.Leb.{uleb_at}
use Rattle.dw_model.specs.Form.{Value, Spelling, forms, spelled_at, value_at}
use Rattle.dw_model.specs.Answers.{Tells}
use Rattle.dw_model.proofs.ValueLemmas.{value-here, value-behind}

abbrev Read : Type 0
Read = Result (Value × Place) Fault

module _ (size : ℕ) where
  -- the value that is read from here is the one that was asked for
  abbrev pub Stays : (form : ℕ) → Option ℤ → Place → Read → Type 0
  Stays form constant p all = value_at size form constant p ≡ all

  reached : (form : ℕ) (constant : Option ℤ) (p : Place) (all : Read) → form ≡ DW_FORM_indirect → Stays form constant p all → (uleb_at p >>= λ next. value_at size next.0 None next.1) ≡ all
  reached form constant p all is stays = grind (arith, value-behind)

  told_by : (told : Option Fault) (p : Place) (all : Read) → Tells told (uleb_at p) → (uleb_at p >>= λ next. value_at size next.0 None next.1) ≡ all → Tells told all
  told_by told p all h e = grind arith

  pub form_told : (told own : Option Fault) (form : ℕ) (constant : Option ℤ) (p : Place) (all : Read) → form ≡ DW_FORM_indirect → Stays form constant p all → Tells told (uleb_at p) → own ≡ told → Tells own all
  form_told told own form constant p all is stays h e = grind (arith, told_by, reached)

  pub form_next : (form next : ℕ) (constant : Option ℤ) (p q : Place) (all : Read) → form ≡ DW_FORM_indirect → Stays form constant p all → uleb_at p ≡ Ok (next, q) → Stays next None q all
  form_next form next constant p q all is stays e =
      let step : (uleb_at p >>= λ next. value_at size next.0 None next.1) ≡ value_at size next None q = rw e refl in
      sym step ∙ reached form constant p all is stays

  direct : (form : ℕ) (constant : Option ℤ) (p : Place) (all : Read) → (form ≡ DW_FORM_indirect → ⊥) → Stays form constant p all → (ok_or (lookup (nat_eq form) forms) unknown_form >>= λ s. spelled_at size s constant p) ≡ all
  direct form constant p all other stays = grind (arith, value-here, ne_eqb)

  pub form_unknown : (form : ℕ) (constant : Option ℤ) (p : Place) (all : Read) → (form ≡ DW_FORM_indirect → ⊥) → Stays form constant p all → lookup (nat_eq form) forms ≡ None → all ≡ Err unknown_form
  form_unknown form constant p all other stays none = sym (direct form constant p all other stays) ∙ rw none refl

  pub form_known : (form : ℕ) (constant : Option ℤ) (p : Place) (all : Read) (s : Spelling) → (form ≡ DW_FORM_indirect → ⊥) → Stays form constant p all → lookup (nat_eq form) forms ≡ Some s → spelled_at size s constant p ≡ all
  form_known form constant p all s other stays some =
      let read : (ok_or (lookup (nat_eq form) forms) unknown_form >>= λ s. spelled_at size s constant p) ≡ spelled_at size s constant p = rw some refl in
      sym read ∙ direct form constant p all other stays
