-- The names of attributes that are used.
use Rattle.std.specs.Prelude.{ℕ, Bool, nat_eq}
use Rattle.std.specs.List.{list_any}
use Rattle.dw_forms.specs.declared.names.TheConstants.{NAMES}

abbrev pub is_used : ℕ → Bool
is_used name = list_any (nat_eq name) NAMES
