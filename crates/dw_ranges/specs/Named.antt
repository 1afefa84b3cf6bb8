-- The ranges that an entry names.
use Rattle.std.specs.Prelude.{List, [], ◌∷◌, Option, Result, Ok}
use Rattle.dw_model.specs.Results.{◌>>=◌}
use Rattle.dw_model.specs.Form.{Value}
use Rattle.dw_model.specs.Entry.{Entry}
use Rattle.dw_model.specs.Text.{Tables, Bases}
use Rattle.dw_model.specs.Faults.{Bad}
use Rattle.dw_model.specs.Ranges.{Range, range, address_of, first_base, high_end, list_ranges}
use Rattle.dw_forms.specs.Value.{value_shown}
use Rattle.dw_units.specs.declared.named_ranges.NamedRanges.{NamedRanges}
use Rattle.dw_units.specs.declared.named_ranges.NamedRanges.TheVariants.{List as Listed, Bounds, Nothing}
use Rattle.dw_ranges.specs.Step.{all_kept}

-- the range between two bounds
abbrev pub between_bounds : Tables → Bases → (low high : Value) → Result (List Range) Bad
between_bounds tables bases low high = do
  begin ← address_of tables bases low
  end ← high_end tables bases begin high
  Ok (range begin end ∷ [])

-- those that are named so, and count
abbrev pub ranges_by : Tables → Bases → Option Entry → NamedRanges → Result (List Range) Bad
ranges_by tables bases root (Listed list) =
    all_kept (list_ranges tables bases (first_base tables bases root) (value_shown list))
ranges_by tables bases root (Bounds low high) =
    all_kept (between_bounds tables bases (value_shown low) (value_shown high))
ranges_by tables bases root Nothing = Ok []
