-- Nodes, each at its own place, and one more behind them.
use Rattle.std.proofs.Common.{◌≡◌, ℕ, List, [], ◌∷◌, ◌++◌, length, refl, subst, sym}
use Rattle.std.specs.Prelude.{None, Option, Some, slice_get}
use Rattle.bip_bank.specs.Sharing.{IsNextStation}
use Rattle.bip_bank.specs.declared.banks.StationId.{StationId}
use Rattle.bip_host.proofs.PlaceLemmas.{at_push}
use Rattle.bip_host.specs.Classes.{IsFirstClassActor}
use Rattle.bip_host.specs.Components.{IsFirstComponentActor}
use Rattle.bip_host.specs.Starting.{AreClassNodes, AreComponentNodes, AreForkNodes, AreRingNodes}
use Rattle.bip_host.specs.Starting.{HaveForm, IsForkActor, IsRingActor, IsTokenAt}
use Rattle.bip_host.specs.Layers.{IsLayerOf}
use Rattle.bip_host.specs.Rings.{IsFirstRingActor}
use Rattle.bip_host.specs.Tables.{Form, form_of, form_of_layers, most_of}
use Rattle.bip_host.specs.declared.classes.ClassActor.{ClassActor}
use Rattle.bip_host.specs.declared.components.ComponentActor.{ComponentActor}
use Rattle.bip_host.specs.declared.forks.ForkActor.{ForkActor}
use Rattle.bip_host.specs.declared.hands.ClassHands.{ClassHands}
use Rattle.bip_host.specs.declared.hands.ComponentHands.{ComponentHands}
use Rattle.bip_host.specs.declared.hands.StationHands.{StationHands}
use Rattle.bip_host.specs.declared.layers.Layers.TheVariants as layers
use Rattle.bip_host.specs.declared.layers.Layers.{Layers}
use Rattle.bip_host.specs.declared.layers.ThirdLayer.TheVariants as layer
use Rattle.bip_host.specs.declared.layers.ThirdLayer.{ThirdLayer}
use Rattle.bip_host.specs.declared.rings.RingActor.{RingActor}
use Rattle.bip_host.specs.declared.settled.Settled.{Settled}
use Rattle.bip_partition.specs.Plans.{Planned}
use Rattle.bip_ring.specs.declared.tokens.Token.{Token}

pub no_component : (p : Planned) → AreComponentNodes p []
no_component p = record { each = λ k node at. cc }

pub component_behind : (p : Planned) (nodes : List (ComponentActor × ComponentHands))
    (node : ComponentActor × ComponentHands) → AreComponentNodes p nodes
    → IsFirstComponentActor p (length nodes) node.0 → AreComponentNodes p (nodes ++ node ∷ [])
component_behind p nodes node are one = record {
  each = at_push (λ k (n : ComponentActor × ComponentHands). IsFirstComponentActor p k n.0) nodes
      node are.each one;
}

pub no_fork : (p : Planned) → AreForkNodes p []
no_fork p = record { each = λ k node at. cc }

pub fork_behind : (p : Planned) (nodes : List (ForkActor × StationHands))
    (node : ForkActor × StationHands) → AreForkNodes p nodes → IsForkActor p (length nodes) node.0
    → AreForkNodes p (nodes ++ node ∷ [])
fork_behind p nodes node are one = record {
  each = at_push (λ k (n : ForkActor × StationHands). IsForkActor p k n.0) nodes node are.each one;
}

pub no_ring : (count : ℕ) → AreRingNodes count []
no_ring count = record { each = λ k node at. cc }

pub ring_actor : (count k : ℕ) (t : StationId) (held : Option (Settled Token)) (a : RingActor)
    → IsFirstRingActor t held a → IsNextStation count k t.0 → IsTokenAt k held
    → IsRingActor count k a
ring_actor count k t held a new next token = record {
  behind = subst (λ (s : StationId). IsNextStation count k s.0) (sym new.next) next;
  first = record {
    next = refl;
    waiting = new.waiting;
    token = refl;
    stage = new.stage;
    counts = new.counts;
  };
  token = subst (IsTokenAt k) (sym new.token) token;
}

pub ring_behind : (count : ℕ) (nodes later : List (RingActor × StationHands))
    (node : RingActor × StationHands) → AreRingNodes count nodes → later ≡ nodes ++ node ∷ []
    → IsRingActor count (length nodes) node.0 → AreRingNodes count later
ring_behind count nodes later node are is one = record {
  each = subst (λ (ns : List (RingActor × StationHands)). (k : ℕ) (n : RingActor × StationHands)
      → slice_get ns k ≡ Some n → IsRingActor count k n.0) (sym is)
      (at_push (λ k (n : RingActor × StationHands). IsRingActor count k n.0) nodes node are.each
      one);
}

-- once it is taken, the token isn't at hand any more
pub token_behind : (nodes later : List (RingActor × StationHands)) (node : RingActor × StationHands)
    (held : Option (Settled Token)) → later ≡ nodes ++ node ∷ [] → held ≡ None
    → IsTokenAt (length later) held
token_behind nodes later node held is none =
    subst (λ (ns : List (RingActor × StationHands)). IsTokenAt (length ns) held) (sym is)
    (longer nodes)
  where
    longer : (ns : List (RingActor × StationHands)) → IsTokenAt (length (ns ++ node ∷ [])) held
    longer [] = none
    longer (n ∷ ns) = none

module _ {L : Type 0} where
  -- a third layer is of the form of what it is made of
  pub of_this_form : (made : Layers L) (c : ℕ) (of : ThirdLayer L) → IsLayerOf made c of
      → form_of of ≡ form_of_layers made
  of_this_form (layers.Table lock passes) c (layer.Table desk) is = refl
  of_this_form (layers.Table lock passes) c (layer.Words desk) is = absurd is
  of_this_form (layers.Table lock passes) c (layer.Stations desk) is = absurd is
  of_this_form (layers.Words seat) c (layer.Table desk) is = absurd is
  of_this_form (layers.Words seat) c (layer.Words desk) is = refl
  of_this_form (layers.Words seat) c (layer.Stations desk) is = absurd is
  of_this_form (layers.Stations stations) c (layer.Table desk) is = absurd is
  of_this_form (layers.Stations stations) c (layer.Words desk) is = absurd is
  of_this_form (layers.Stations stations) c (layer.Stations desk) is = refl

module _ {L G : Type 0} where
  pub no_class : (p : Planned) (form : Form) → AreClassNodes {L = L} {G = G} p form []
  no_class p form = record { each = λ k node at. cc; form = λ k node at. cc }

  pub class_behind : (p : Planned) (form : Form) (nodes : List (ClassActor × ClassHands L G))
      (node : ClassActor × ClassHands L G) → AreClassNodes p form nodes
      → IsFirstClassActor p (length nodes) (most_of form) node.0 → form_of node.1.layer ≡ form
      → AreClassNodes p form (nodes ++ node ∷ [])
  class_behind p form nodes node are one of = record {
    each = at_push (λ k (n : ClassActor × ClassHands L G). IsFirstClassActor p k (most_of form) n.0)
        nodes node are.each one;
    form = at_push (λ k (n : ClassActor × ClassHands L G). form_of n.1.layer ≡ form) nodes node
        are.form of;
  }

  pub classes_grow : (p : Planned) (old new : Form)
      (nodes later : List (ClassActor × ClassHands L G))
      (node : ClassActor × ClassHands L G) → new ≡ old → AreClassNodes p old nodes
      → later ≡ nodes ++ node ∷ [] → IsFirstClassActor p (length nodes) (most_of old) node.0
      → form_of node.1.layer ≡ old → AreClassNodes p new later
  classes_grow p old new nodes later node same are is one of =
      subst (AreClassNodes p new) (sym is)
      (subst (λ f. AreClassNodes p f (nodes ++ node ∷ [])) (sym same)
      (class_behind p old nodes node are one of))

  pub have_form : (p : Planned) (form : Form) (nodes : List (ClassActor × ClassHands L G))
      → AreClassNodes p form nodes → HaveForm form nodes
  have_form p form nodes are = record { each = are.form }
