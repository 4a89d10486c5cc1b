use Rattle.std.proofs.Common.{refl}
use Rattle.bip_replay.proofs.runs.Position.are_enough.Goals as goal

pub returns-then-are_parties : goal.returns-then-are_parties
returns-then-are_parties c =
    rw (← c.self.view_is) (
      λ on. record {
        parties = c.if-are_parties.ensures.0 refl;
        covered = c.cover_above.ensures.0 on;
      },
      λ enough. c.cover_above.ensures.1 enough.covered,
    )
