use Rattle.std.proofs.Common.{subst}
use Rattle.bip_observe.specs.Offers.{observed}
use Rattle.bip_observe.specs.Verdicts.{IsVerdict}
use Rattle.bip_ip.specs.Nodes.{KeptNode}
use Rattle.bip_ip.proofs.nodes.IpNode.why_not.Goals as goal

pub returns-in_default-decide : goal.returns-in_default-decide
returns-in_default-decide c = record {
  some = (
    c.is_own.ensures.0 c.if-not-is_own.false,
    c.in_default.ensures.none,
    subst (λ (k : KeptNode). IsVerdict (observed k.offers) c.args.inter.0 c.decide.result)
        c.self.view_is c.decide.ensures,
    c.in_default-decide.not-Ready,
  );
  none = tt;
}
