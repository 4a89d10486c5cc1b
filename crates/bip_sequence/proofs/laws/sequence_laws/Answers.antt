use Rattle.bip_sequence.proofs.FlightLemmas.{arrows_are_of_messages, flights_are_messages}
use Rattle.bip_sequence.proofs.MarkLemmas.{grants_are_marked, refusals_are_marked, rows_stand_apart}
use Rattle.bip_sequence.proofs.laws.sequence_laws.Goals as goal

pub returns : goal.returns
returns c = record {
  flights = flights_are_messages;
  arrows = arrows_are_of_messages;
  grants = grants_are_marked;
  refusals = refusals_are_marked;
  rows = rows_stand_apart;
}
