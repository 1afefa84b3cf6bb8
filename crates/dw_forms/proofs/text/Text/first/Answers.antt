use Rattle.std.proofs.Common.{◌-◌, length, sym}
use Rattle.dw_forms.proofs.TextLemmas.{text-there}
use Rattle.dw_forms.proofs.text.Text.first.Goals as goal

pub returns-in-Some-eq0 : goal.returns-in-Some-eq0
returns-in-Some-eq0 c =
    text-there c.args.bytes.now (length c.args.bytes.now - 1) c.in-Some-eq0.field-0.now (sym c.in-Some-eq0.ensures.value) c.in-Some-eq0.field-0-test
