use Rattle.bip_ip.proofs.SufficeLemmas.{asked_suffices, local_suffices}
use Rattle.bip_ip.proofs.LawLemmas.{asked_fits, asked_stands_in_the_way, next_only_rises, one_reply}
use Rattle.bip_ip.proofs.LawLemmas.{one_try, past_stays, refusals_teach, taken_once}
use Rattle.bip_ip.proofs.laws.node_laws.Goals as goal

pub returns : goal.returns
returns c = record {
  try_one = one_try;
  reply_one = one_reply;
  fits = asked_fits;
  asked = asked_suffices;
  local = local_suffices;
  in_the_way = asked_stands_in_the_way;
  once =
      taken_once;
  past = past_stays;
  refused = refusals_teach;
  next = next_only_rises;
}
