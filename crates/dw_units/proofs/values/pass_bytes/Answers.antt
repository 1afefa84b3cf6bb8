use Rattle.std.proofs.Common.{◌≡◌, Some, subst}
use Rattle.dw_model.specs.Reading.{bytes_at}
use Rattle.dw_model.specs.Entry.{attributes_at}
use Rattle.dw_model.specs.Answers.{Reads}
use Rattle.dw_units.proofs.SkipLemmas.{passed}
use Rattle.dw_units.proofs.values.pass_bytes.Goals as goal

pub returns : goal.returns
returns c offset_size specs skips =
    let taken : c.take.result ≡ Some c.in_ok-_values._values = c.in_ok-_values.ensures.ok_part in
    let read = subst (λ found. Reads (λ bytes. bytes.now) found (bytes_at c.args.size c.args.cursor.now) c.args.cursor.now c.take.new.self) taken c.take.ensures in
    passed c.args.size (attributes_at offset_size specs) c.args.cursor.now c.take.new.self c.in_ok-_values._values.now skips read
