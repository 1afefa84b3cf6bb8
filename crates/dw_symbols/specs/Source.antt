-- The file of a context's image.
use Rattle.std.specs.Prelude.{ℕ, List}
use Rattle.dw_symbols.specs.declared.source.Source.{Source}
use Rattle.dw_symbols.specs.declared.source.Source.TheVariants.{Borrowed, Shared}

abbrev pub file_in : Source → List ℕ
file_in (Borrowed image) = image.now
file_in (Shared image) = image.value
