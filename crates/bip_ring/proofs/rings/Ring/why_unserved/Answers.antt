use Rattle.std.proofs.Common.{subst}
use Rattle.bip_bank.specs.Banks.{content_of}
use Rattle.bip_bank.specs.Idleness.{IsIdleBecause}
use Rattle.bip_bank.specs.declared.banks.BankStep.TheVariants.{Serve}
use Rattle.bip_ring.proofs.RingLemmas.{away_idle}
use Rattle.bip_ring.specs.Rings.{KeptRing, kept_ring}
use Rattle.bip_ring.proofs.rings.Ring.why_unserved.Goals as goal

pub returns-in-Some-clause-some : goal.returns-in-Some-clause-some
returns-in-Some-clause-some c =
    let r : KeptRing = record {
      desk = record {
        plan = c.self.inside.plan.now;
        base = c.self.inside.base;
        table = c.self.inside.token.table;
        waiting = c.self.inside.waiting.items;
      };
      place = c.self.inside.place;
      count = c.self.inside.count;
    } in
    subst (λ (k : KeptRing). IsIdleBecause (content_of (kept_ring k)) (Serve c.args.station)
    c.in-Some.why) c.self.view_is
    (away_idle r c.args.station c.in-Some.why (c.in-Some.ensures.some c.self.inside.count))
