use Rattle.std.proofs.Common.{arith}
use Rattle.std.proofs.lemmas.Bool.{false≢true}
use Rattle.bip_partition.proofs.TableLemmas.{reserved_known}
use Rattle.bip_partition.proofs.plans.Plan.reserved.Goals as goal

pub returns-in-None-clause-reserved : goal.returns-in-None-clause-reserved
returns-in-None-clause-reserved c = (
  λ none. absurd (false≢true none),
  λ is. absurd (omega (
    arith,
    reserved_known c.args.self.now c.args.inter.0 c.in-None.ensures.valid is,
    c.in-None.ensures.none,
  )),
)
