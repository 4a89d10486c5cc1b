-- Which frames an addressee accepts, and why it drops the others.
use Rattle.std.specs.Prelude.{◌≡◌, ℕ, ◌<◌, ⊤, List, length, slice_get, codes, All, IsSomeAnd}
use Rattle.std.specs.Prelude.{Result, Ok, Err}
use Rattle.bip_model.specs.Messages.{IsOfferOf}
use Rattle.bip_model.specs.declared.messages.Notify.{Notify}
use Rattle.bip_model.specs.declared.messages.Reply.TheVariants.{Granted, Refused}
use Rattle.bip_model.specs.declared.parts.Component.{Component}
use Rattle.bip_model.specs.declared.reasons.Cause.{Cause}
use Rattle.bip_model.specs.declared.reasons.Cause.TheVariants.{Port, Guard}
use Rattle.bip_model.specs.declared.reasons.Why.{Why}
use Rattle.bip_model.specs.declared.wants.Want.{Want}
use Rattle.bip_partition.specs.Plans.{IsFit, Planned}
use Rattle.bip_frame.specs.Faults.{IsFirstFault, text_of_frame}
use Rattle.bip_frame.specs.Frames.{IsFrame, Message, of_notify, of_offer, of_reply, of_request}
use Rattle.bip_frame.specs.Views.{reply_class}
use Rattle.bip_core.specs.declared.accepting.Address.{Address}
use Rattle.bip_core.specs.declared.accepting.Address.TheVariants.{Class, Comp, Layer}
use Rattle.bip_core.specs.declared.accepting.DropFault.{DropFault}
use Rattle.bip_core.specs.declared.accepting.DropFault.TheVariants.{Frame, Misfit, Unknown}

-- the plan has a component, a class, an interaction of this number
abbrev pub HasComp : Planned → ℕ → Type 0
HasComp p c = c < length p.model.components

abbrev pub HasClass : Planned → ℕ → Type 0
HasClass p k = k < length p.classes.members

abbrev pub HasInter : Planned → ℕ → Type 0
HasInter p a = a < length p.model.interactions

-- it has the components that wants name
abbrev pub HasWanted : Planned → List Want → Type 0
HasWanted p wants = All (λ (w : Want). HasComp p w.comp.0) wants

-- it has what a reason names: its interaction, and the component of a port
abbrev pub HasCause : Planned → Cause → Type 0
HasCause p (Port c) = HasComp p c.0
HasCause p Guard = ⊤

abbrev pub HasReason : Planned → Why → Type 0
HasReason p y = HasInter p y.inter.0 × HasCause p y.cause

-- it has an addressee; the third layer is always there
abbrev pub HasAddress : Planned → Address → Type 0
HasAddress p (Comp c) = HasComp p c.0
HasAddress p (Class k) = HasClass p k.0
HasAddress p Layer = ⊤

-- it has all components, classes and interactions that a message names
abbrev pub HasNames : Planned → Message → Type 0
HasNames p (of_offer o) = HasComp p o.comp.0
HasNames p (of_request r) =
    HasClass p r.class.0 × HasInter p r.inter.0 × HasWanted p r.wants × All (HasReason p) r.reasons
HasNames p (of_reply (Granted k request a serial)) = HasClass p k.0 × HasInter p a.0
HasNames p (of_reply (Refused k request a c used)) =
    HasClass p k.0 × HasInter p a.0 × HasComp p c.0
HasNames p (of_notify n) = HasComp p n.comp.0

-- a notification that a component can be given: a value for each of its variables, and one of its
-- ports
pub record IsNotifyOf (component : Component) (notify : Notify) : Type 0 where
  pub values : length notify.values ≡ length component.variables
  pub port : notify.port.0 < length component.ports

-- a message fits an addressee: a class takes offers that their components can make, and replies to
-- it; the third layer requests that fit the plan; and a component notifications that the component
-- which they name can be given
abbrev pub FitsAddressee : Planned → Address → Message → Type 0
FitsAddressee p (Class k) (of_offer o) =
    IsSomeAnd (slice_get p.model.components o.comp.0) (λ component. IsOfferOf component o)
FitsAddressee p (Class k) (of_reply r) = reply_class r ≡ k
FitsAddressee p Layer (of_request r) = IsFit p r
FitsAddressee p (Comp c) (of_notify n) =
    IsSomeAnd (slice_get p.model.components n.comp.0) (λ component. IsNotifyOf component n)
FitsAddressee p to message = ⊥

-- the plan lacks nothing that an address or a message names
pub record IsKnown (p : Planned) (to : Address) (m : Message) : Type 0 where
  pub address : HasAddress p to
  pub names : HasNames p m

-- a message is accepted: the plan lacks nothing, and it fits its addressee
pub record IsAccepted (p : Planned) (to : Address) (m : Message) : Type 0 where
  pub known : IsKnown p to m
  pub fits : FitsAddressee p to m

-- why bytes are dropped, the first that applies: they are no frame; it names what the plan lacks;
-- it doesn't fit
abbrev pub IsDropped : Planned → Address → List ℕ → DropFault → Type 0
IsDropped p to bytes (Frame fault) = IsFirstFault bytes fault
IsDropped p to bytes Unknown = (m : Message) × IsFrame m bytes × ¬ IsKnown p to m
IsDropped p to bytes Misfit =
    (m : Message) × IsFrame m bytes × IsKnown p to m × ¬ FitsAddressee p to m

-- the number of a fault
abbrev pub number_of_drop : DropFault → ℕ
number_of_drop (Frame fault) = 1
number_of_drop Unknown = 2
number_of_drop Misfit = 3

-- the words of a fault
abbrev pub text_of_drop : DropFault → List ℕ
text_of_drop (Frame fault) = text_of_frame fault
text_of_drop Unknown = codes "unknown number"
text_of_drop Misfit = codes "doesn't fit"

-- What contracts of private functions say.

-- what is said of a message: it is accepted; or it names what the plan lacks; or it doesn't fit
abbrev pub IsJudged : Planned → Address → Message → Result (Unit {0}) DropFault → Type 0
IsJudged p to m (Ok accepted) = IsAccepted p to m
IsJudged p to m (Err (Frame fault)) = ⊥
IsJudged p to m (Err Unknown) = ¬ IsKnown p to m
IsJudged p to m (Err Misfit) = IsKnown p to m × ¬ FitsAddressee p to m
