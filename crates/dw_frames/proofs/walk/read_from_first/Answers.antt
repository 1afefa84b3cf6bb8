use Rattle.std.proofs.Common.{[], ◌∷◌}
use Rattle.std.proofs.lemmas.Result.{err_from_is_err_and}
use Rattle.dw_units.specs.Entries.{ranged_at}
use Rattle.dw_frames.proofs.TreeLemmas.{found-some, root-unread, root-null, root-unused, began, below-read}
use Rattle.dw_frames.proofs.walk.read_from_first.Goals as goal

pub returns-in_err-first-clause-follows : goal.returns-in_err-first-clause-follows
returns-in_err-first-clause-follows c =
    let of = c.args.reader.now.of in
    let p = err_from_is_err_and c.from_residual.result c.from_residual.ensures.1 in
    rw (p.1, p.2) (root-unread of c.args.entries.now c.requires.walk.3 c.requires.walk.0 c.requires.walk.1 _ c.in_err-first.ensures.next)

pub returns-in-Null-clause-follows : goal.returns-in-Null-clause-follows
returns-in-Null-clause-follows c =
    let of = c.args.reader.now.of in
    let read = c.in_ok-first.ensures.next in
    root-null of c.args.entries.now c.requires.walk.3 c.requires.walk.0 c.requires.walk.1 read.0 c.next_function.new.self.place read.1 (rw (c.in-Null.is) at read.2)

pub returns-in_err-keep-clause-follows : goal.returns-in_err-keep-clause-follows
returns-in_err-keep-clause-follows c =
    let of = c.args.reader.now.of in
    let p = err_from_is_err_and c.from_residual-in_err-keep.result c.from_residual-in_err-keep.ensures.1 in
    let read = c.in_ok-first.ensures.next in
    let told = c.in_err-keep.ensures.entry (ranged_at c.args.entries.now.declarations c.args.entries.now.place) read.0 read.2 in
    rw (p.1, p.2) (root-unused of c.args.entries.now c.requires.walk.3 c.requires.walk.0 c.requires.walk.1 c.args.drafts.now read.0 c.next_function.new.self.place _ c.requires.none read.1 told)

pub returns-clause-follows : goal.returns-clause-follows
returns-clause-follows c =
    let of = c.args.reader.now.of in
    let read = c.in_ok-first.ensures.next in
    let first = found-some (ranged_at c.args.entries.now.declarations c.args.entries.now.place) c.in_ok-first.first read.0 c.next_function.new.self.last read.2 c.in_default.not-Null in
    let kept = c.in_ok-keep.ensures.entry (ranged_at c.args.entries.now.declarations c.args.entries.now.place) read.0 read.2 in
    let b = began of c.args.entries.now c.requires.walk.3 c.requires.walk.0 c.requires.walk.1 c.args.drafts.now c.keep.new.drafts read.0 first.0 c.next_function.new.self c.requires.none c.in_ok-first.ensures.declarations c.in_ok-first.ensures.offset_size read.1 first.1 kept.0 kept.1 in
    below-read of c.args.entries.now c.requires.walk.3 c.requires.walk.0 c.requires.walk.1 c.keep.new.drafts c.read_below.new.drafts c.next_function.new.self c.read_below.result b ((rw (c.in_ok-keep.ensures.same) at c.read_below.ensures.follows) (record { depth = 0; entry = b.entry } ∷ []) b.follows)
