use Rattle.std.proofs.Common.{arith, ◌-◌, length}
use Rattle.a2l_lines.proofs.DigitLemmas.{read}
use Rattle.a2l_lines.proofs.digits.number.Goals as goal

pub returns : goal.returns
returns c =
    let text = c.args.digits.now in
    let h = read text (16 - length text) c.decode_to_slice.result c.decode_to_slice.new.out (omega (arith, c.requires)) (rw c.copy_from_slice.ensures.after at c.decode_to_slice.ensures.value) in
    let ok = rw (← c.ok.ensures.value, c.in_ok-ok.was) at h in
    rw c.from_be_bytes.ensures ok

pub returns-in_err-ok : goal.returns-in_err-ok
returns-in_err-ok c =
    let text = c.args.digits.now in
    let h = read text (16 - length text) c.decode_to_slice.result c.decode_to_slice.new.out (omega (arith, c.requires)) (rw c.copy_from_slice.ensures.after at c.decode_to_slice.ensures.value) in
    let ok = rw (← c.ok.ensures.value, c.in_err-ok.was) at h in
    rw c.from_residual.ensures ok
