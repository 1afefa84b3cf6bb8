use Rattle.dw_forms.proofs.NeededLemmas.{name-more}
use Rattle.dw_forms.proofs.needed.is_needed.Goals as goal

pub returns-then-is_used-clause-noted : goal.returns-then-is_used-clause-noted
returns-then-is_used-clause-noted c = name-more c.args.spec.now.name c.args.names.now.items c.push.new.self.items c.in_ok-push.ensures.ok
