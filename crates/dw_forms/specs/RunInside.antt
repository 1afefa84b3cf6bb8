-- What a run is seen as, and how a code is found in it.
use Rattle.std.specs.Prelude.{◌≡◌, ◌≤◌, ◌<◌, ◌+◌, ℕ, Some, map, length}
use Rattle.dw_forms.specs.declared.run.Run.TheInside.{Inside}
use Rattle.dw_forms.specs.Declaration.{declaration_shown}
use Rattle.dw_forms.specs.Run.{ReadRun, code_at, ArePlaces}

abbrev pub run_in : Inside → ReadRun
run_in run = record {
  declarations = map declaration_shown run.declarations.items;
  offsets = map (λ declaration. declaration.offset) run.declarations.items;
  rest = run.rest;
}

pub record IsIndexed (run : Inside) : Type 0 where
  pub within : run.in_order ≤ length run.declarations.items
  pub in_order : (k : ℕ) → k < run.in_order → code_at run.declarations.items k ≡ Some (k + 1)
  pub others : ArePlaces run.in_order (length run.declarations.items) run.declarations.items run.others
