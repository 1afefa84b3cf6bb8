use Rattle.ticket_core.proofs.RunLemmas.{reached-sound}
use Rattle.ticket_core.proofs.RefusalLemmas.{can-unrefused, unrefused-can}
use Rattle.ticket_core.proofs.laws.law_of_refusals.Goals as goal

pub returns : goal.returns
returns c = record {
  allowed = λ meaning shape key events state r event placed. (
    can-unrefused meaning state (reached-sound meaning shape key events state r) event,
    unrefused-can meaning state (reached-sound meaning shape key events state r) event placed,
  );
}
