use Rattle.std.proofs.lemmas.List.Elements.{All-push}
use Rattle.dw_frames.specs.Descriptions.{IsTold}
use Rattle.dw_frames.proofs.descriptions.Descriptions.put.Goals as goal

pub returns-in-Ok-push : goal.returns-in-Ok-push
returns-in-Ok-push c of all told = rw (c.in-Ok-push.ensures.items) (All-push (IsTold of) c.args.self.now.list.items (c.args.offset, c.args.told) all told)
