use Rattle.std.proofs.Common.{refl, rules}
use Rattle.std.proofs.lemmas.Bool.{eqb-true}
use Rattle.bip_observe.proofs.PortLemmas.{ports_few, ports_none, ports_within}
use Rattle.bip_observe.proofs.offers.are_ports.Goals as goal

pub returns-then-count-ge16 : goal.returns-then-count-ge16
returns-then-count-ge16 c = (
  λ is. ports_few c.args.ports c.args.count c.ranges.ports.fits c.if-count-ge16.true,
  λ all. search rules,
)

pub returns-else-count-ge16 : goal.returns-else-count-ge16
returns-else-count-ge16 c = (
  λ is. ports_within c.args.ports c.args.count (eqb-true _ _ is),
  λ all. rw (ports_none c.args.ports c.args.count all) refl,
)
