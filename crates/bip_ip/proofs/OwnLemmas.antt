-- The members of a class are its own interactions.
use Rattle.std.proofs.Common.{◌≡◌, ℕ, ◌<◌, true, eqb, [], length, get_or, eqb-true, ap, subst, sym}
use Rattle.std.specs.Prelude.{Contains}
use Rattle.std.proofs.lemmas.List.Folds.{Any-from_list_any}
use Rattle.bip_model.specs.Partitions.{class_in, is_member}
use Rattle.bip_model.specs.Priorities.{inter}
use Rattle.bip_model.specs.declared.numbering.InterId.{InterId}
use Rattle.bip_partition.specs.Laws.{IsPlanned}
use Rattle.bip_partition.specs.Plans.{Planned}
use Rattle.bip_partition.proofs.ClassLemmas.{stands_in_its_class}

-- a member of a class is declared, and the class is its own
pub own_member : (p : Planned) (a k : ℕ) → IsPlanned p → k < length p.classes.members
    → is_member a (get_or p.classes.members k []) ≡ true → (a < length p.model.interactions)
    × (class_in p.classes a ≡ k)
own_member p a k planned within is =
    let list = get_or p.classes.members k [] in
    let at = Any-from_list_any (λ (b : InterId). eqb b.0 a) list is in
    let number : at.1.0 ≡ a = eqb-true at.1.0 a at.4 in
    let known : at.1.0 < p.classes.count = subst (λ (b : InterId). b.0 < p.classes.count) at.3
    (planned.parted.known k [] within at.0 at.1 at.2) in
    let declared : a < length p.model.interactions = rw (← number, ← planned.of_model) known in
    let same : at.1 ≡ inter a = ap inter number in
    let there : Contains list (inter a) = rw (← same) (at.0, at.2, at.3) in
    (declared, sym ((stands_in_its_class p planned a declared).1 k there))
