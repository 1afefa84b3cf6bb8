use Rattle.dw_bytes.specs.Width.{size_of}
use Rattle.dw_units.proofs.SkipLemmas.{passed-alike}
use Rattle.dw_units.proofs.values.pass_declared.Goals as goal

pub returns : goal.returns
returns c =
    passed-alike (size_of c.args.width) c.needed.result c.args.declaration.now.specs c.args.cursor.now c.pass_attributes.new.cursor c.pass_attributes.result c.needed.ensures c.pass_attributes.ensures
