use Rattle.std.proofs.Common.{map}
use Rattle.a2l_lines.specs.Input.{input_shown}
use Rattle.a2l_lines.proofs.report.report_of.Goals as goal

pub returns : goal.returns
returns g c =
    let replies = rw c.deref-3.ensures.value at c.in_ok-replies.ensures.replies in
    record {
      asked = c.in_ok-sharing.sharing.asked.items;
      shares = c.in_ok-sharing.ensures.shares (map input_shown c.args.inputs.now) c.in_ok-shared.ensures.shares.0;
      replies = replies;
    }
