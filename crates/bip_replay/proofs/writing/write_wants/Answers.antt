use Rattle.std.proofs.Common.{arith}
use Rattle.std.proofs.lemmas.Grind.{common_steps}
use Rattle.std.proofs.lemmas.List.Elements.{All-more}
use Rattle.bip_replay.specs.Writing.{IsSpelled}
use Rattle.bip_replay.proofs.writing.write_wants.Goals as goal

pub loop-want-preserved : goal.loop-want-preserved
loop-want-preserved c =
    record {
      text = grind (arith, common_steps);
      spelled = All-more (IsSpelled c.args.model.now) c.args.wants.now c.loop-want.want-index _
          c.loop-want-test.true c.loop-want.invariant.spelled c.write_want.ensures.spelled;
    }
