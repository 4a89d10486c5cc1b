use Rattle.std.proofs.Common.{◌≡◌, take, All}
use Rattle.bip_replay.specs.Items.{ReadsBack}
use Rattle.bip_replay.specs.Lines.{grant_on}
use Rattle.bip_replay.specs.Writing.{bare_line, text_of}
use Rattle.bip_replay.proofs.writing.write_trace.Given as goal

abbrev pub invariant-loop-grant : goal.invariant-loop-grant
invariant-loop-grant l =
    record {
      text : l.text.items ≡ text_of l.model (take l.grant-index l.grants);
      read : All (ReadsBack (grant_on l.model) (bare_line l.model)) (take l.grant-index l.grants);
    }
