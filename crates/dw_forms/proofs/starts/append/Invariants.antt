use Rattle.std.proofs.Common.{◌≡◌, length, vec_capacity}
use Rattle.dw_forms.specs.Starts.{AreAdded, AreLinked}
use Rattle.dw_forms.proofs.starts.append.Given as goal

abbrev pub invariant-loop-index : goal.invariant-loop-index
invariant-loop-index l =
    AreAdded l.fn.run l.index l.read.offsets l.fn.list.items l.list.items
    × AreLinked l.heads.items l.before.items l.list.items
    × (length l.heads.items ≡ length l.fn.heads.items)
    × (vec_capacity l.list ≡ vec_capacity l.fn.list)
    × (vec_capacity l.before ≡ vec_capacity l.fn.before)
