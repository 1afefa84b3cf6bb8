-- Attributes of a name, as they are declared and as they are read.
use Rattle.std.specs.Prelude.{ℕ, List, [], ◌∷◌, Option, Some, None, cond, find, option_and_then, option_map, ◌==◌}
use Rattle.std.specs.Result.{result_ok}
use Rattle.dw_model.specs.Reading.{Place}
use Rattle.dw_model.specs.Abbrev.{Specification}
use Rattle.dw_model.specs.Entry.{Attribute}
use Rattle.dw_model.specs.Form.{Value, value_at}

-- the first attribute of a name that is declared
abbrev pub first_named : ℕ → List Specification → Option Specification
first_named name specifications = find (λ one. one.name == name) specifications

-- the value of the first attribute of a name, where those before it and it can be read
unfoldable pub value_up_to : (size name : ℕ) → List Specification → Place → Option Value
value_up_to size name [] p = None
value_up_to size name (one ∷ specifications) p =
    option_and_then (λ value. cond (one.name == name) (Some value.0) (value_up_to size name specifications value.1))
    (result_ok (value_at size one.form one.constant p))

-- the value of the first attribute of a name
abbrev pub value_named : ℕ → List Attribute → Option Value
value_named name attributes = option_map (λ first. first.value) (find (λ first. first.name == name) attributes)
