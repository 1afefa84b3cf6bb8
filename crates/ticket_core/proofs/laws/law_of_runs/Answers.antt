use Rattle.ticket_core.proofs.RunLemmas.{reached-right, reached-counted, reached-sound, reached-limits, hands-agree, places-agree, run-ended}
use Rattle.ticket_core.proofs.laws.law_of_runs.Goals as goal

pub returns : goal.returns
returns c = record {
  right = reached-right;
  finished_once = reached-counted;
  hands_agree = λ meaning shape key events state r. hands-agree meaning state (reached-sound meaning shape key events state r);
  places_agree = λ meaning shape key events state r s. places-agree meaning state.key _ ((reached-sound meaning shape key events state r).each s);
  limits = reached-limits;
  ended_stays = λ meaning shape key events later state last r more s ended. run-ended meaning later state last s (reached-sound meaning shape key events state r) ended more;
}
