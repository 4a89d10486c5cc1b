-- Local states: how the components' agree with the state to which the trace leads.
use Rattle.std.specs.Prelude.{◌≡◌, ℕ, ⊤, ◌+◌, ◌<◌, All, List, true, Some}
use Rattle.bip_model.specs.Messages.{ShowsState}
use Rattle.bip_model.specs.Parties.{AreWantsBy, HasWantOf}
use Rattle.bip_model.specs.States.{State}
use Rattle.bip_model.specs.declared.messages.Notify.{Notify}
use Rattle.bip_model.specs.declared.messages.Offer.{Offer}
use Rattle.bip_model.specs.declared.parts.System.{System}
use Rattle.bip_model.specs.declared.reasons.Why.{Why}
use Rattle.bip_model.specs.declared.wants.Want.{Want}
use Rattle.bip_observe.specs.Verdicts.{IsReady, IsTrueOf}
use Rattle.bip_replay.specs.Runs.{IsModelRun, state_after}
use Rattle.bip_ip.specs.Asking.{told_by}
use Rattle.bip_ip.specs.declared.nodes.OpenRecord.{OpenRecord}
use Rattle.bip_core.specs.declared.messages.Message.{Message}
use Rattle.bip_core.specs.declared.messages.Message.TheVariants.{NotifyComponent, OfferTo}
use Rattle.bip_core.specs.declared.messages.Message.TheVariants.{ReplyToClass, RequestToBank}
use Rattle.bip_core.specs.Lists.{In}
use Rattle.bip_core.specs.Numbers.{IsOwed}
use Rattle.bip_core.specs.Views.{TakesTo, View}

-- wants, reasons and notifications were made of offers, each as it was sent: the reasons are true
-- of them, and by those of the wanted components alone the interaction is ready; those of these
-- whose numbers aren't used yet show the state to which the trace leads
pub record Made (m : System) (u : ℕ → ℕ) (s : State) (a : ℕ) (reasons : List Why)
    (wants : List Want) (notifies : List Notify) : Type 0 where
  pub offers : ℕ → Offer
  pub so : All (λ (y : Why). IsTrueOf m offers y.inter.0 y.cause) reasons
  pub wants_are : AreWantsBy m offers a reasons wants
  pub ready : IsReady m offers (HasWantOf wants) a
  pub tells_are : notifies ≡ told_by m offers a
  pub fit : (c : ℕ) → HasWantOf wants c → u c < (offers c).number → ShowsState m s (offers c)

-- each notification in flight can be taken, and leads its component to where the trace does; and
-- each offer whose number isn't used yet shows that
abbrev pub MailShows : System → (ℕ → ℕ) → State → State → Message → Type 0
MailShows m u s state (NotifyComponent n) = TakesTo m n (state n.comp.0) (s n.comp.0)
MailShows m u s state (OfferTo k o) = u o.comp.0 < o.number → ShowsState m s o
MailShows m u s state (RequestToBank q) = ⊤
MailShows m u s state (ReplyToClass r) = ⊤

-- local states agree with a trace that is a run and leads to this state: a component that made all
-- its granted moves is there; what tells one of its last can be taken, and leads it there; offers
-- that count show it
pub record LocalsAgree (m : System) (base : ℕ) (u : ℕ → ℕ) (s : State) (w : View) : Type 0 where
  pub end_is : state_after m w.trace ≡ s
  pub run : IsModelRun m base w.trace
  pub at_rest : (c : ℕ) → w.number c ≡ u c + 1 → w.state c ≡ s c
  pub spent : (c : ℕ) → w.spent c ≡ true → w.state c ≡ s c
  pub mail : (x : Message) → In x w.mail → MailShows m u s w.state x
  pub held : (k c : ℕ) (o : Offer) → w.held k c ≡ Some o → u o.comp.0 < o.number
      → ShowsState m s o
  pub owed : (k a : ℕ) (e : OpenRecord) (n : Notify) → IsOwed w k a e n
      → TakesTo m n (w.state n.comp.0) (s n.comp.0)
  pub made : (k a : ℕ) (e : OpenRecord) → w.pending k a ≡ Some e
      → Made m u s e.request.inter.0 e.request.reasons e.request.wants e.notifies
