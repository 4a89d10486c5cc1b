use Rattle.bip_ip.proofs.TellLemmas.{leads_to_the_step, tells_by_component, tells_offered_numbers}
use Rattle.bip_ip.proofs.TellLemmas.{tells_once, tells_participants, tells_what_moves}
use Rattle.bip_ip.proofs.laws.notify_laws.Goals as goal

pub returns : goal.returns
returns c = record {
  moves = tells_what_moves;
  each = tells_participants;
  rising = tells_by_component;
  once = tells_once;
  numbers = tells_offered_numbers;
  leads =
      leads_to_the_step;
}
