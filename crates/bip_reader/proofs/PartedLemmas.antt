-- Partitions of lists that are seen in another way, and what a whole reading lacks.
use Rattle.std.proofs.Common.{◌≡◌, ◌≢◌, ℕ, ◌<◌, List, length, map, refl, ap, ◌∙◌, subst, sym}
use Rattle.std.specs.Prelude.{All, sum, sum_by}
use Rattle.std.proofs.lemmas.List.{get_or-map, length-map}
use Rattle.std.proofs.lemmas.List.Elements.{All-map}
use Rattle.std.proofs.lemmas.List.Sums.{sum-map}
use Rattle.std.proofs.lemmas.Simd.{map-map}
use Rattle.bip_model.specs.Naming.{AreApart}
use Rattle.bip_model.specs.Partitions.{IsPartition, in_order, times_in}
use Rattle.bip_model.specs.Priorities.{IsCyclic}
use Rattle.bip_model.specs.declared.faults.ClassFault.{ClassFault}
use Rattle.bip_model.specs.declared.faults.ClassFault.TheVariants as class_fault
use Rattle.bip_model.specs.declared.numbering.InterId.{InterId}
use Rattle.bip_model.specs.declared.partitions.Partition.{Partition}
use Rattle.bip_model.specs.declared.parts.System.{System}
use Rattle.bip_reader.specs.Faults.{why_of_class}
use Rattle.bip_reader.specs.declared.faults.Why.{Why}
use Rattle.bip_reader.specs.declared.faults.Why.TheVariants.{Memory, NotAPartition}
use Rattle.bip_reader.specs.declared.reading.Reading.{Reading}
use Rattle.bip_reader.specs.Reading.{ClassList}
use Rattle.bip_reader.specs.Texts.{IsFaultAtEnd, IsParted, IsWholeReading, classes_of, system_of}

-- lists, each seen as a name with numbers of interactions
module _ {C : Type 0} (v : C → List ℕ × List InterId) (m : System) (cs : List C) where
  once_seen : (a : ℕ) → sum_by (λ (c : List ℕ × List InterId). times_in c.1 a) (map v cs) ≡ sum_by
      (λ c. times_in (v c).1 a) cs
  once_seen a =
      let times : List ℕ × List InterId → ℕ = λ c. times_in c.1 a in
      sym (sum-map times (map v cs)) ∙ ap sum (map-map times v cs) ∙ sum-map (λ c. times (v c)) cs

  -- they part the interactions exactly where what is seen does
  pub parts : IsPartition (λ c. (v c).0) (λ c. (v c).1) (length m.interactions) cs
      → IsParted m (map v cs)
  parts h = record {
    few = rw length-map h.few;
    apart = rw map-map h.apart;
    filled = All-map (λ (c : List ℕ × List InterId). 0 < length c.1) v cs h.filled;
    known = All-map (λ (c : List ℕ × List InterId). All
        (λ (a : InterId). a.0 < length m.interactions) c.1) v cs h.known;
    once = λ a within. once_seen a ∙ h.once a within;
  }

  pub parts_as_seen : IsParted m (map v cs) → IsPartition (λ c. (v c).0) (λ c. (v c).1)
      (length m.interactions) cs
  parts_as_seen h = record {
    few = rw (← length-map cs v) h.few;
    apart = subst AreApart (map-map (λ (c : List ℕ × List InterId). c.0) v cs) h.apart;
    filled = All-unmap (λ (c : List ℕ × List InterId). 0 < length c.1) h.filled;
    known = All-unmap (λ (c : List ℕ × List InterId). All
        (λ (a : InterId). a.0 < length m.interactions) c.1) h.known;
    once = λ a within. sym (once_seen a) ∙ h.once a within;
  }
    where
      All-unmap : (P : List ℕ × List InterId → Type 0) → All P (map v cs) → All (λ c. P (v c)) cs
      All-unmap P all = λ k d within. let longer : k < length (map v cs) = rw length-map within in
          subst P (get_or-map v cs k d (v d) within) (all k (v d) longer)

  -- classes that were made of them
  pub made : (classes : Partition) → classes.count ≡ length m.interactions
      → classes.names ≡ map (λ c. (v c).0) cs
      → classes.members ≡ map (λ c. in_order (v c).1) cs → classes ≡ classes_of m (map v cs)
  made classes count names members = simp map-map (rw (← members, ← names, ← count) refl)

-- the lists that a whole reading has are no partition
pub unparted : (r : Reading) (m : System) (listed : ClassList) (why : Why) → m ≡ system_of r
    → listed ≡ r.classes → IsWholeReading r → ¬ IsCyclic (system_of r).priorities
    → (why ≡ NotAPartition) × ¬ IsParted m listed → IsFaultAtEnd r why
unparted r m listed why is_model is_listed whole acyclic h =
    rw h.0 (whole, acyclic, rw (← is_model, ← is_listed) h.1)

-- classes that were refused are told as no partition, unless memory was wanting
pub told : (fault : ClassFault) (why : Why) → why ≡ why_of_class fault
    → (why ≢ Memory → (why ≡ NotAPartition) × (fault ≡ class_fault.NotAPartition))
    × (why ≡ Memory → fault ≡ class_fault.Memory)
told class_fault.NotAPartition why is = (λ other. (is, refl), λ wants. cc)
told class_fault.Memory why is = (λ other. absurd (other is), λ wants. refl)
