use Rattle.std.proofs.Common.{◌≡◌, false, take}
use Rattle.std.specs.List.{list_any}
use Rattle.a2l_lines.proofs.symbolizer.some_refused.Given as goal

abbrev pub invariant-loop-reply : goal.invariant-loop-reply
invariant-loop-reply l = list_any (λ reply. reply.is_fault) (take l.reply-index l.replies) ≡ false
