use Rattle.std.proofs.Common.{refl}
use Rattle.bip_model.specs.Steps.{participants_of}
use Rattle.bip_model.proofs.PartyLemmas.{seen_from_test, test_from_seen}
use Rattle.bip_model.proofs.models.Model.see_all.Goals as goal

pub returns : goal.returns
returns c =
    let m = c.args.self.now in
    let a = c.args.inter.0 in
    let ws = c.args.wants.now in
    rw c.see_all.ensures (
      seen_from_test m a ws (participants_of m a) c.looks.result.now refl c.looks.ensures.looks,
      test_from_seen m a ws (participants_of m a) c.looks.result.now refl c.looks.ensures.looks,
    )
