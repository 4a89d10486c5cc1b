-- The nodes of a host.
use Rattle.std.specs.Prelude.{ℕ, ◌+◌, length}
use Rattle.bip_host.specs.declared.hosts.Kind.{Kind}
use Rattle.bip_host.specs.declared.hosts.Kind.TheVariants as kind
use Rattle.bip_host.specs.declared.nodes.Nodes.{Nodes}
use Rattle.bip_host.specs.declared.nodes.Stations.{Stations}
use Rattle.bip_host.specs.declared.nodes.Stations.TheVariants as stations

-- which kind of third layer stations are of
abbrev pub kind_of : Stations → Kind
kind_of stations.Central = kind.Central
kind_of (stations.Ring list) = kind.Ring
kind_of (stations.Forks list) = kind.Forks

abbrev pub count_stations : Stations → ℕ
count_stations stations.Central = 0
count_stations (stations.Ring list) = length list.items
count_stations (stations.Forks list) = length list.items

module _ {L G : Type 0} where
  -- how many nodes a host has
  abbrev pub count_nodes : Nodes L G → ℕ
  count_nodes nodes =
      length nodes.components.items + length nodes.classes.items + count_stations nodes.stations
