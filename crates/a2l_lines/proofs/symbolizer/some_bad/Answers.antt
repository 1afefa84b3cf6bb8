use Rattle.std.proofs.Common.{refl}
use Rattle.a2l_lines.specs.Input.{input_shown}
use Rattle.a2l_lines.specs.Text.{is_bad}
use Rattle.a2l_lines.proofs.TextLemmas.{any-found}
use Rattle.a2l_lines.proofs.symbolizer.some_bad.Goals as goal

pub returns-in-Bad : goal.returns-in-Bad
returns-in-Bad c =
    any-found is_bad input_shown c.args.inputs.now c.loop-input.input-index c.input-item.result c.loop-input-test.true (rw (← c.input-item.is, c.in-Bad.is) refl)
