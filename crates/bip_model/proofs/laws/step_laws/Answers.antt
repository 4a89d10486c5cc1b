use Rattle.std.proofs.Common.{refl}
use Rattle.bip_model.specs.Steps.{start_of}
use Rattle.bip_model.proofs.LawLemmas.{after-member, commute, enabled_where, ends_after, goes_on}
use Rattle.bip_model.proofs.LawLemmas.{is_local, offers_where, one_transition, others_stay}
use Rattle.bip_model.proofs.LawLemmas.{participants_go}
use Rattle.bip_model.proofs.StateLemmas.{start_is_state, states_lead_to_states}
use Rattle.bip_model.proofs.laws.step_laws.Goals as goal

pub returns : goal.returns
returns c = record {
  offers = offers_where;
  starts = λ m valid. start_is_state m (start_of m) valid refl;
  enabled = enabled_where;
  stay = others_stay;
  go = participants_go;
  led = λ m valid s a i q at. after-member m s a i q valid at;
  one = one_transition;
  states = states_lead_to_states;
  local = is_local;
  commute = commute;
  end = ends_after;
  run = goes_on;
}
