-- Partitions of the interactions of a model into classes.
use Rattle.std.specs.Prelude.{◌≡◌, ℕ, ◌≤◌, ◌<◌, ◌==◌, Bool, List, length, map, count_by, sum_by}
use Rattle.std.specs.Prelude.{All, position, unwrap_or}
use Rattle.std.specs.List.{list_any}
use Rattle.std.specs.List.Sorted.{IsStrictlyIncreasing}
use Rattle.bip_model.specs.Naming.{AreApart}
use Rattle.bip_model.specs.Numbering.{by_number}
use Rattle.bip_model.specs.declared.numbering.InterId.{InterId}
use Rattle.bip_model.specs.declared.partitions.Partition.{Partition}
use Rattle.bip_model.specs.declared.parts.System.{System}

-- how often an interaction stands in a list
abbrev pub times_in : List InterId → ℕ → ℕ
times_in list a = count_by (λ (b : InterId). b.0 == a) list

-- no interaction stands twice in a list
abbrev pub AreDifferent : List InterId → Type 0
AreDifferent list = (a : ℕ) → times_in list a ≤ 1

-- classes, each with a name and members, that are a partition of so many interactions: each stands
-- in exactly one of them, once
pub record IsPartition {C : Type 0} (name : C → List ℕ) (members : C → List InterId)
    (count : ℕ) (classes : List C) : Type 0 where
  pub few : length classes ≤ 32
  pub apart : AreApart (map name classes)
  pub filled : All (λ c. 0 < length (members c)) classes
  pub known : All (λ c. All (λ (a : InterId). a.0 < count) (members c)) classes
  pub once : (a : ℕ) → a < count → sum_by (λ c. times_in (members c) a) classes ≡ 1

-- the numbers of interactions
abbrev pub numbers_in : List InterId → List ℕ
numbers_in list = map (λ (a : InterId). a.0) list

-- classes as they are kept: they part the interactions below a count, and stand with their members
-- in order of number
pub record IsClasses (kept : Partition) : Type 0 where
  pub few : length kept.names ≤ 32
  pub apart : AreApart kept.names
  pub paired : length kept.members ≡ length kept.names
  pub filled : All (λ (class : List InterId). 0 < length class) kept.members
  pub rising : All (λ (class : List InterId). IsStrictlyIncreasing (numbers_in class)) kept.members
  pub known : All (All (λ (a : InterId). a.0 < kept.count)) kept.members
  pub once : (a : ℕ) → a < kept.count → sum_by (λ class. times_in class a) kept.members ≡ 1

-- whether an interaction is in a list
abbrev pub is_member : ℕ → List InterId → Bool
is_member a list = list_any (λ (b : InterId). b.0 == a) list

-- the number of the class in which an interaction stands, the first one of what no class has
abbrev pub class_in : Partition → ℕ → ℕ
class_in kept a = unwrap_or (position (is_member a) kept.members) 0

-- classes of a model: they part its interactions
abbrev pub AreClassesOf : System → Partition → Type 0
AreClassesOf m kept = kept.count ≡ length m.interactions

-- the interactions of a class, in order of number
abbrev pub in_order : List InterId → List InterId
in_order class = by_number (λ (a : InterId). a.0) class
