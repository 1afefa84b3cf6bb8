-- What a context is seen as.
use Rattle.std.specs.Prelude.{◌≡◌}
use Rattle.dw_model.specs.Section.{sections}
use Rattle.dw_symbols.specs.declared.context.Context.TheInside.{Inside}
use Rattle.dw_symbols.specs.ContextState.{ContextState}
use Rattle.dw_symbols.specs.Kept.{AreTrees, AreTables}
use Rattle.dw_symbols.specs.Source.{file_in}

abbrev pub state_of : Inside → ContextState
state_of context = record { file = file_in context.source; refused = context.refusals.count }

-- What is kept of range lists, of units and of line tables is the file's.
pub record IsKept (context : Inside) : Type 0 where
  pub indexes : context.indexes ≡ (sections (file_in context.source)).tables
  pub trees : AreTrees (sections (file_in context.source)) context.trees.entries
  pub tables : AreTables (sections (file_in context.source)).line context.tables
