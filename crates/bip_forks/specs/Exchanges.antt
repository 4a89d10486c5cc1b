-- What a station does with another one of what they share.
use Rattle.bip_forks.specs.Sides.{KeepsForkSomehow, KeepsTokenSomehow}
use Rattle.bip_forks.specs.Stations.{MayAsk, MayPass}
use Rattle.bip_forks.specs.declared.exchanges.Exchange.{Exchange}
use Rattle.bip_forks.specs.declared.exchanges.Exchange.TheVariants.{Ask, Pass}
use Rattle.bip_forks.specs.declared.shares.Side.{Side}

-- what is exchanged can go, and why it can't
abbrev pub Goes : Exchange → Side → Type 0
Goes Pass side = MayPass side
Goes Ask side = MayAsk side

abbrev pub StaysSomehow : Exchange → Side → Type 0
StaysSomehow Pass side = KeepsForkSomehow side
StaysSomehow Ask side = KeepsTokenSomehow side
