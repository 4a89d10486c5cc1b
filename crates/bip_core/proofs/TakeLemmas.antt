-- What is told can be taken: by offers that show a state, each notification is one by which its
-- component can move there.
use Rattle.std.proofs.Common.{◌≡◌, ◌∙◌, ◌<◌, ℕ, List, [], true, false, None, Option, Some}
use Rattle.std.proofs.Common.{ap, eqb, get_or, length, map, refl, slice_get, subst, sym, arith}
use Rattle.std.specs.Prelude.{Contains, IsSomeAnd, IsTrue}
use Rattle.std.specs.Option.{option_map_or}
use Rattle.std.proofs.lemmas.Bool.{and_parts, eqb-true, false≢true}
use Rattle.std.proofs.lemmas.List.{get_or-map, length-map}
use Rattle.bip_model.specs.Components.{offers_at}
use Rattle.bip_model.specs.Messages.{Shows}
use Rattle.bip_model.specs.Parts.{Participant}
use Rattle.bip_model.specs.States.{State}
use Rattle.bip_model.specs.Steps.{moves, offered, participants_of, transfer_of}
use Rattle.bip_model.specs.declared.messages.Notify.{Notify}
use Rattle.bip_model.specs.declared.messages.Offer.{Offer}
use Rattle.bip_model.specs.declared.numbering.PortId.{PortId}
use Rattle.bip_model.specs.declared.parts.Component.{Component}
use Rattle.bip_model.specs.declared.parts.System.{System}
use Rattle.bip_model.specs.declared.states.LocalState.{LocalState}
use Rattle.bip_model.proofs.ExpressionLemmas.{counts-transferred}
use Rattle.bip_partition.specs.Plans.{Planned}
use Rattle.bip_observe.specs.Laws.{AllShow, IsInSet}
use Rattle.bip_observe.specs.Verdicts.{IsReady}
use Rattle.bip_observe.proofs.ShowLemmas.{ready_may_run}
use Rattle.bip_component.specs.Components.{CanMoveBy, Node}
use Rattle.bip_ip.specs.Asking.{told_by, values_offered}
use Rattle.bip_ip.proofs.TellLemmas.{IsToldAt, length_values_told, tells_what_moves, told_at}
use Rattle.bip_ip.proofs.TellLemmas.{values_told}
use Rattle.bip_core.specs.Laws.{ToldCanBeTaken}
use Rattle.bip_core.specs.Views.{CanBeTaken}

-- lists of lists of the same lengths have them place by place
length_at : (xs ys : List (List ℕ)) (i : ℕ) → map length xs ≡ map length ys → i < length xs
    → length (get_or xs i []) ≡ length (get_or ys i [])
length_at xs ys i same within =
    let each : length xs ≡ length ys =
    simp length-map at (ap length same) in
    sym (get_or-map length xs i [] 0 within)
    ∙ ap (λ (l : List ℕ). get_or l i 0) same
    ∙ get_or-map length ys i [] 0 (omega (arith, within, each))

-- a port that is on offer is so in a local state with a value for each variable, and as many are
-- told
can_from : (x : Option Component) (local : LocalState) (port : PortId) (values : List ℕ)
    → option_map_or (λ component. offers_at component local port) x false ≡ true
    → length values ≡ length local.values
    → IsSomeAnd x (λ component. IsTrue (offers_at component local port)
    × (length values ≡ length component.variables))
can_from None local port values on each = absurd (false≢true on)
can_from (Some component) local port values on each =
    let both = and_parts (eqb (length local.values) (length component.variables)) _ on in
    (on, each ∙ eqb-true (length local.values) (length component.variables) both.0)

-- what is told by offers that show a state can be taken there
pub told_taken : (m : System) (o : ℕ → Offer) (of : ℕ → Type 0) (s : State) (a : ℕ)
    → IsReady m o of a → AllShow m o of s → (n : Notify) → Contains (told_by m o a) n
    → CanBeTaken m n (s n.comp.0)
told_taken m o of s a ready show n at =
    by_place (s n.comp.0) refl
    (subst (λ (c : ℕ). IsSomeAnd (s c) (Shows m (o n.comp.0)))
    (ready.own n.comp.0 (ready.moved n.comp.0 moved))
    (show n.comp.0 (ready.moved n.comp.0 moved)))
  where
    q : Participant
    q = get_or (participants_of m a) at.0 (n.comp, n.port)

    told : IsToldAt m o a n at.0
    told = told_at m o a n at

    moved : moves m a n.comp.0 ≡ true
    moved = tells_what_moves m o a n at

    port_on : (place : Option LocalState) → s n.comp.0 ≡ place → option_map_or (λ component.
        option_map_or (λ local. offers_at component local n.port) place false)
        (slice_get m.components n.comp.0) false ≡ true
    port_on place is =
        let all = (ready_may_run m o of s a ready show).enabled.offered_all in
        let here : offered m s (n.comp, n.port) ≡ true =
        subst (λ (x : Notify). offered m s (x.comp, x.port) ≡ true) told.is
        (all at.0 (n.comp, n.port) told.within) in
        subst (λ (x : Option LocalState). option_map_or (λ component.
        option_map_or (λ local. offers_at component local n.port) x false)
        (slice_get m.components n.comp.0) false ≡ true) is here

    each : length n.values ≡ length (o n.comp.0).values
    each =
        let within : at.0 < length (values_told m o a) =
        rw (length_values_told m o a) told.within in
        let same = length_at (values_told m o a) (values_offered m o a) at.0
        (counts-transferred (transfer_of m a) (values_offered m o a)) within in
        let offers = get_or-map (λ (r : Participant). (o r.0.0).values) (participants_of m a) at.0
        (n.comp, n.port) [] told.within in
        let theirs : (o q.0.0).values ≡ (o n.comp.0).values =
        ap (λ (x : Notify). (o x.comp.0).values) told.is in
        ap (λ (x : Notify). length x.values) (sym told.is)
        ∙ same
        ∙ ap length (offers ∙ theirs)

    by_place : (place : Option LocalState) → s n.comp.0 ≡ place
        → IsSomeAnd place (Shows m (o n.comp.0)) → CanBeTaken m n place
    by_place None is shows = absurd shows
    by_place (Some local) is shows =
        can_from (slice_get m.components n.comp.0) local n.port n.values (port_on (Some local) is)
        (each ∙ ap length shows.values)

-- a node that waits for a notification which can be taken where it is can move by it
pub can_move_by : (p : Planned) (node : Node) (n : Notify) → node.plan ≡ p → n.comp.0 ≡ node.comp
    → n.number ≡ node.number → node.spent ≡ false → CanBeTaken p.model n (Some node.local)
    → CanMoveBy node n
can_move_by p node n plan comp number unspent taken = record {
  unspent = unspent;
  comp = comp;
  number = number;
  can = subst (λ (q : Planned). IsSomeAnd (slice_get q.model.components node.comp)
      (λ component. IsTrue (offers_at component node.local n.port)
      × (length n.values ≡ length component.variables))) (sym plan)
      (subst (λ (c : ℕ). IsSomeAnd (slice_get p.model.components c)
      (λ component. IsTrue (offers_at component node.local n.port)
      × (length n.values ≡ length component.variables))) comp taken);
}

pub told_can_be_taken : ToldCanBeTaken
told_can_be_taken p o set s a ready show n at node awaiting =
    let there : s n.comp.0 ≡ Some node.local = ap s awaiting.comp ∙ awaiting.there in
    can_move_by p node n awaiting.plan awaiting.comp awaiting.number awaiting.unspent
    (subst (CanBeTaken p.model n) there (told_taken p.model o (IsInSet set) s a ready show n at))
