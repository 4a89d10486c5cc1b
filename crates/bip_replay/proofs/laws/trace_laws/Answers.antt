use Rattle.bip_replay.proofs.GrantLemmas.{reads_grant_lines}
use Rattle.bip_replay.proofs.LineByLineLemmas.{grants_line_by_line}
use Rattle.bip_replay.proofs.TextLemmas.{are_of_model, names_its_interaction, same_grants}
use Rattle.bip_replay.proofs.TextLemmas.{tells_first_line, written_reads_back}
use Rattle.bip_replay.proofs.laws.trace_laws.Goals as goal

pub returns : goal.returns
returns c = record {
  lines = reads_grant_lines;
  line_by_line = grants_line_by_line;
  same = same_grants;
  named = names_its_interaction;
  of_model = are_of_model;
  written =
      written_reads_back;
  first = tells_first_line;
}
