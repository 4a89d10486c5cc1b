use Rattle.bip_model.proofs.PartyLemmas.{parties_from_test, test_from_parties}
use Rattle.bip_model.proofs.models.Model.are_parties.Goals as goal

pub returns : goal.returns
returns c =
    let m = c.args.self.now in
    let a = c.args.inter.0 in
    let ws = c.args.wants.now in
    rw c.are_parties.ensures (
      parties_from_test m a ws c.participants.result.now c.looks.result.now
          c.participants.ensures.participants c.looks.ensures.looks,
      test_from_parties m a ws c.participants.result.now c.looks.result.now
          c.participants.ensures.participants c.looks.ensures.looks,
    )
