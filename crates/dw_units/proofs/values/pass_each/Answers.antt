use Rattle.std.proofs.Common.{ap}
use Rattle.dw_model.specs.declared.dwarf.TheConstants.{OFFSET_SIZE_32}
use Rattle.dw_model.specs.Entry.{attributes_at}
use Rattle.dw_bytes.specs.Width.{size_of}
use Rattle.dw_forms.specs.Size.{place_behind}
use Rattle.dw_units.proofs.SkipLemmas.{passes}
use Rattle.dw_units.proofs.values.pass_each.Goals as goal

pub returns-in-Four : goal.returns-in-Four
returns-in-Four c =
    passes (attributes_at (size_of c.args.width) c.args.layout.now c.args.cursor.now) (place_behind (attributes_at OFFSET_SIZE_32 c.args.layout.now c.args.cursor.now)) c.pass.result c.pass.new.cursor (ap (λ width. place_behind (attributes_at (size_of width) c.args.layout.now c.args.cursor.now)) c.in-Four.is) c.pass.ensures
