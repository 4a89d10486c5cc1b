use Rattle.std.proofs.Common.{arith}
use Rattle.std.proofs.lemmas.Grind.{common_steps}
use Rattle.bip_model.specs.Components.{loc_line, port_line, trans_line, var_line}
use Rattle.bip_model.proofs.GrowthLemmas.{inside_grows, loc_grows, port_grows, priority_grows}
use Rattle.bip_model.proofs.GrowthLemmas.{trans_grows, var_grows}
use Rattle.bip_model.proofs.ParticipantLemmas.{names_in_any_order, names_participants}
use Rattle.bip_model.proofs.PriorityLemmas.{puts_one}
use Rattle.bip_model.proofs.ScopeLemmas.{finds_of_participants}
use Rattle.bip_model.proofs.laws.builder_laws.Goals as goal

pub returns : goal.returns
returns c = record {
  component = grind (arith, common_steps);
  var = λ d e name value. inside_grows (var_line name value) (var_grows name value) d e;
  loc = λ d e name. inside_grows (loc_line name) (loc_grows name) d e;
  port = λ d e name. inside_grows (port_line name) (port_grows name) d e;
  trans = λ d e port source target guard update. inside_grows
      (trans_line port source target guard update)
      (trans_grows port source target guard update) d e;
  end = grind (arith, common_steps);
  interaction = grind (arith, common_steps);
  priority = priority_grows;
  participants = names_participants;
  any_order = names_in_any_order;
  variables = finds_of_participants;
  pairs = puts_one;
}
