-- How many bytes an offset has, and what an initial length says, as the definitions have it.
use Rattle.std.specs.Prelude.{ℕ}
use Rattle.dw_model.specs.InitialLength as model
use Rattle.dw_bytes.specs.declared.width.Width.{Width}
use Rattle.dw_bytes.specs.declared.width.Width.TheVariants.{Four, Eight}
use Rattle.dw_bytes.specs.declared.width.Initial.{Initial}
use Rattle.dw_bytes.specs.declared.width.Initial.TheVariants.{Bytes, Reserved}

abbrev pub width_shown : Width → model.Width
width_shown Four = model.four
width_shown Eight = model.eight

-- bytes of an offset
abbrev pub size_of : Width → ℕ
size_of width = model.offset_size (width_shown width)

abbrev pub initial_shown : Initial → model.InitialLength
initial_shown (Bytes length width) = model.of_length length (width_shown width)
initial_shown Reserved = model.reserved
