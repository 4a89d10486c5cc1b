use Rattle.bip_draw.proofs.EdgeLemmas.{edges_differ, transitions_stand_once}
use Rattle.bip_draw.proofs.EscapingLemmas.{escaped_texts_are_kept, names_are_inert}
use Rattle.bip_draw.proofs.EscapingLemmas.{texts_are_inert}
use Rattle.bip_draw.proofs.LayoutLemmas.{lanes_are_apart, rows_are_apart}
use Rattle.bip_draw.proofs.HueLemmas.{colours_differ, none_is_red}
use Rattle.bip_draw.proofs.laws.picture_laws.Goals as goal

pub returns : goal.returns
returns c = record {
  colours = colours_differ;
  red = none_is_red;
  lanes = lanes_are_apart;
  rows = rows_are_apart;
  inert = texts_are_inert;
  escaped = escaped_texts_are_kept;
  names = names_are_inert;
  once = transitions_stand_once;
  edges = edges_differ;
}
