use Rattle.std.proofs.Common.{ℕ, length, subst}
use Rattle.bip_bank.specs.declared.idleness.WhyIdle.{WhyIdle}
use Rattle.bip_forks.specs.Sides.{IsNextNeighbour}
use Rattle.bip_forks.specs.Stations.{KeepsFork, KeptStation, MayPass, side_with}
use Rattle.bip_forks.proofs.stations.Station.next_pass.Goals as goal

pub returns : goal.returns
returns c = subst (λ (s : KeptStation). IsNextNeighbour
    (λ (t : ℕ). (why : WhyIdle) × KeepsFork (side_with s t) why)
    (λ (t : ℕ). MayPass (side_with s t)) (length s.sides) c.args.from c.next_neighbour.result)
    c.self.view_is c.next_neighbour.ensures
