-- A text, as the definitions have it.
use Rattle.std.specs.Prelude.{ℕ, List, ◌==◌}
use Rattle.std.specs.List.{before_first}
use Rattle.dw_forms.specs.declared.text.Text.{Text}
use Rattle.dw_forms.specs.declared.text.Text.TheVariants.{Whole, UpToZero}

abbrev pub text_shown : Text → List ℕ
text_shown (Whole bytes) = bytes.now
text_shown (UpToZero bytes) = before_first (λ byte. byte == 0) bytes.now
