use Rattle.std.proofs.Common.{◌∙◌, ℕ, List, ap, arith}
use Rattle.dw_frames.specs.Drafts.{without_list}
use Rattle.dw_frames.specs.DraftsInside.{drafts_of}
use Rattle.dw_frames.proofs.DraftLemmas.{popped}
use Rattle.dw_frames.proofs.drafts.Drafts.end_list.Goals as goal

pub returns : goal.returns
returns c =
    let old = c.self.inside.lists in
    ap (λ (lists : List ℕ). record { of = (drafts_of c.self.inside).of; functions = (drafts_of c.self.inside).functions; claims = (drafts_of c.self.inside).claims; lists = lists })
    (popped old.items c.pop.new.self.items c.pop.result c.pop.ensures.items (λ some. c.pop.ensures.variant.1 (let same = old.ok.0 in omega (arith, some, same))))
    ∙ ap without_list c.self.view_is
