-- Resolvers: their names, and what the stations of a new bank share.
use Rattle.std.specs.Prelude.{◌≡◌, ◌≢◌, ℕ, List, codes}
use Rattle.bip_bank.specs.Sharing.{Sharing, alone}
use Rattle.bip_forks.specs.Opening.{AreForksAtFirst}
use Rattle.bip_host.specs.declared.hosts.Kind.TheVariants as kind
use Rattle.bip_host.specs.declared.hosts.Kind.{Kind}
use Rattle.bip_host.specs.declared.hosts.Tables.TheVariants.{Locked, Words}
use Rattle.bip_host.specs.declared.hosts.Tables.{Tables}
use Rattle.bip_partition.specs.Plans.{Planned}
use Rattle.bip_ring.specs.Rings.{IsRingAtFirst}
use Rattle.bipr.specs.declared.resolvers.HostForm.{HostForm}
use Rattle.bipr.specs.declared.resolvers.Resolver.{Resolver}
use Rattle.bipr.specs.declared.resolvers.Resolver.TheVariants.{Central, Forks, Ring}

-- the kind of host that has a resolver's third layer
abbrev pub kind_named : Resolver → Kind
kind_named Central = kind.Central
kind_named Ring = kind.Ring
kind_named Forks = kind.Forks

-- the name of a resolver
abbrev pub resolver_name : Resolver → List ℕ
resolver_name Central = codes "central"
resolver_name Ring = codes "ring"
resolver_name Forks = codes "forks"

-- the name of how tables are shared
abbrev pub tables_name : Tables → List ℕ
tables_name Locked = codes "locked"
tables_name Words = codes "words"

-- row words are asked for without the central bank
abbrev pub NeedsCentral : HostForm → Type 0
NeedsCentral form = (form.tables ≡ Words) × (form.resolver ≢ Central)

-- what the stations of a resolver's new bank share: nothing; the token of a ring; or forks
abbrev pub IsSharedAtFirst : Resolver → Planned → Sharing → Type 0
IsSharedAtFirst Central p sharing = sharing ≡ alone
IsSharedAtFirst Ring p sharing = IsRingAtFirst p sharing
IsSharedAtFirst Forks p sharing = AreForksAtFirst p sharing
