use Rattle.std.proofs.Common.{◌≡◌, [], length}
use Rattle.bip_model.specs.Texts.{words}
use Rattle.bip_model.specs.declared.wants.Role.TheVariants.{Moved}
use Rattle.bip_replay.specs.Lines.{wants_said}
use Rattle.bip_replay.proofs.lines.read_wants.Given as goal

abbrev pub invariant-loop-word : goal.invariant-loop-word
invariant-loop-word l =
    record {
      said : wants_said l.role l.named.items (words l.rest) ≡ wants_said Moved [] (words l.line);
    }

abbrev pub decreases-loop-word : goal.decreases-loop-word
decreases-loop-word l = length l.rest
