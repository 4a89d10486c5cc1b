use Rattle.std.proofs.Common.{◌≡◌, [], drop}
use Rattle.arrayvec.specs.ArrayVec.{array_vec_len}
use Rattle.bip_replay.specs.Lines.{wants_known}
use Rattle.bip_replay.proofs.lines.look_up.Given as goal

abbrev pub invariant-loop-want : goal.invariant-loop-want
invariant-loop-want l =
    record {
      known : wants_known l.model.component_names l.wants.items (drop l.want-index l.named)
          ≡ wants_known l.model.component_names [] l.named;
      len : array_vec_len l.wants ≡ l.want-index;
    }
