use Rattle.std.proofs.Common.{◌∙◌}
use Rattle.a2l_lines.proofs.DigitLemmas.{encoded}
use Rattle.a2l_lines.proofs.digits.sixteen_digits.Goals as goal

pub returns : goal.returns
returns c =
    let written = rw c.unwrap.ensures at c.encode_to_slice.ensures.written in
    rw c.to_be_bytes.ensures at written ∙ encoded c.args.address c.ranges.address.fits
