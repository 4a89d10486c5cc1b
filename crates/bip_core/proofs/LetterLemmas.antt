-- Letters and the messages that they are; what is sent is accepted by those for whom it is.
use Rattle.std.proofs.Common.{◌≡◌, ℕ, ◌≤◌, ◌<◌, true, List, [], ◌∷◌, ap, get_or, inl, inr, length}
use Rattle.std.proofs.Common.{map, refl, slice_get, subst, sym}
use Rattle.std.specs.Prelude.{All, Contains, IsSomeAnd}
use Rattle.std.proofs.lemmas.List.{get_or_default}
use Rattle.std.proofs.lemmas.List.Elements.{All-cons, All-map, All-nil, Contains-get_or}
use Rattle.std.proofs.lemmas.Option.{slice_get_cases}
use Rattle.bip_model.specs.Messages.{IsOfferOf}
use Rattle.bip_model.specs.declared.messages.Notify.{Notify}
use Rattle.bip_model.specs.declared.messages.Offer.{Offer}
use Rattle.bip_model.specs.declared.messages.Reply.{Reply}
use Rattle.bip_model.specs.declared.messages.Request.{Request}
use Rattle.bip_model.specs.declared.numbering.ClassId.{ClassId}
use Rattle.bip_model.specs.declared.parts.Component.{Component}
use Rattle.bip_model.specs.Parties.{AreExplained, HasWantOf}
use Rattle.bip_model.specs.Parts.{IsSystem}
use Rattle.bip_model.specs.Reasons.{IsNamedBy}
use Rattle.bip_model.specs.Steps.{moves}
use Rattle.bip_model.specs.declared.reasons.Cause.{Cause}
use Rattle.bip_model.specs.declared.reasons.Cause.TheVariants.{Guard, Port}
use Rattle.bip_model.specs.declared.reasons.Why.{Why}
use Rattle.bip_model.specs.declared.wants.Want.{Want}
use Rattle.bip_model.proofs.AboveLemmas.{HasAbove-high}
use Rattle.bip_model.proofs.LookLemmas.{moves_known}
use Rattle.bip_model.proofs.PartyLemmas.{party_known}
use Rattle.bip_partition.proofs.ClassLemmas.{class_known}
use Rattle.bip_partition.proofs.TableLemmas.{reserved_known}
use Rattle.bip_partition.proofs.TouchLemmas.{touching_known}
use Rattle.bip_partition.specs.Laws.{IsPlanned}
use Rattle.bip_partition.specs.Plans.{Planned}
use Rattle.bip_component.specs.declared.components.Notified.TheVariants as notified
use Rattle.bip_ip.specs.declared.nodes.Answered.TheVariants as answered
use Rattle.bip_ip.specs.declared.nodes.Tried.TheVariants as tried
use Rattle.bip_bank.specs.declared.banks.Acted.TheVariants as acted
use Rattle.bip_bank.specs.Decisions.{reply_to}
use Rattle.bip_frame.specs.Views.{reply_class}
use Rattle.bip_model.specs.declared.messages.Reply.TheVariants as reply
use Rattle.bip_frame.specs.Frames.{IsFrame, of_notify, of_offer, of_reply, of_request}
use Rattle.bip_frame.proofs.ReadingLemmas.{whole_again}
use Rattle.bip_core.specs.Accepting.{HasCause, HasReason}
use Rattle.bip_core.specs.Events.{AreSent, SendsWhatFits, class_named}
use Rattle.bip_core.specs.Letters.{CanBeHandedOn, CanBeOffered, CanBeSubmitted, CanBeTold}
use Rattle.bip_core.specs.Letters.{IsLetterOf, IsNumberedRequest, address_of, as_spelled}
use Rattle.bip_core.specs.Letters.{message_at, message_in}
use Rattle.bip_core.specs.Worlds.{AreOffersOf}
use Rattle.bip_core.specs.declared.accepting.Address.{Address}
use Rattle.bip_core.specs.declared.events.What.{What}
use Rattle.bip_core.specs.declared.events.What.TheVariants.{Acts, Hears, Learns, Moves, Nothing}
use Rattle.bip_core.specs.declared.events.What.TheVariants.{Submits, Tries}
use Rattle.bip_core.specs.declared.messages.Message.{Message}
use Rattle.bip_core.specs.declared.messages.Message.TheVariants.{NotifyComponent, OfferTo}
use Rattle.bip_core.specs.declared.messages.Message.TheVariants.{ReplyToClass, RequestToBank}

-- a frame with its address is the message that it spells
placed : (m : Message) → message_at (address_of m) (as_spelled m) ≡ m
placed (OfferTo k o) = refl
placed (RequestToBank q) = refl
placed (ReplyToClass r) = refl
placed (NotifyComponent n) = refl

-- bytes with an address are the letter of one message, which is read off them
pub letter_is : (m : Message) (to : Address) (bytes : List ℕ) → IsLetterOf m to bytes
    → message_in to bytes ≡ m
letter_is m to bytes letter = rw (
  letter.address,
  letter.frame.is,
  whole_again (as_spelled m) letter.frame.can,
) (placed m)

-- so they are the letter of what is read
pub letter_read : (m : Message) (to : Address) (bytes : List ℕ) → IsLetterOf m to bytes
    → IsLetterOf (message_in to bytes) to bytes
letter_read m to bytes letter = subst (λ (x : Message). IsLetterOf x to bytes)
    (sym (letter_is m to bytes letter)) letter

-- which message it is, by what its frame spells
pub is_offer : (m : Message) (o : Offer) → of_offer o ≡ as_spelled m → (k : ClassId)
    × (m ≡ OfferTo k o)
is_offer (OfferTo k x) o is = let same : x ≡ o = cc in (k, ap (OfferTo k) same)
is_offer (RequestToBank q) o is = absurd (cc)
is_offer (ReplyToClass r) o is = absurd (cc)
is_offer (NotifyComponent n) o is = absurd (cc)

pub is_request : (m : Message) (q : Request) → of_request q ≡ as_spelled m → m ≡ RequestToBank q
is_request (OfferTo k x) q is = absurd (cc)
is_request (RequestToBank x) q is = let same : x ≡ q = cc in ap RequestToBank same
is_request (ReplyToClass r) q is = absurd (cc)
is_request (NotifyComponent n) q is = absurd (cc)

pub is_reply : (m : Message) (r : Reply) → of_reply r ≡ as_spelled m → m ≡ ReplyToClass r
is_reply (OfferTo k x) r is = absurd (cc)
is_reply (RequestToBank q) r is = absurd (cc)
is_reply (ReplyToClass x) r is = let same : x ≡ r = cc in ap ReplyToClass same
is_reply (NotifyComponent n) r is = absurd (cc)

pub is_notify : (m : Message) (n : Notify) → of_notify n ≡ as_spelled m → m ≡ NotifyComponent n
is_notify (OfferTo k x) n is = absurd (cc)
is_notify (RequestToBank q) n is = absurd (cc)
is_notify (ReplyToClass r) n is = absurd (cc)
is_notify (NotifyComponent x) n is = let same : x ≡ n = cc in ap NotifyComponent same

-- a request that is accepted, and can be framed
pub numbered : (p : Planned) (m : Message) (q : Request) (bytes : List ℕ) → m ≡ RequestToBank q
    → CanBeHandedOn p m → IsFrame (as_spelled m) bytes → IsNumberedRequest p q
numbered p m q bytes is accepted frame =
    let its = subst (CanBeHandedOn p) is accepted in
    let spelled = subst (λ (x : Message). IsFrame (as_spelled x) bytes) is frame in
    record { some = spelled.can.head.some; fit = its.fits; numbered = spelled.can.wants.numbered }

-- the class that a reply names
pub class_is : (r : Reply) → (reply_class r).0 ≡ class_named r
class_is (reply.Granted k q a s) = refl
class_is (reply.Refused k q a c n) = refl

-- a component that is read is there
some_within : (xs : List Component) (c : ℕ) (P : Component → Type 0) → IsSomeAnd (slice_get xs c) P
    → c < length xs
some_within xs c P so = elim (slice_get_cases xs c).1 [
  | inl here ↦ here.1
  | inr past ↦ absurd (rw past.1 at so)
]

pub offered_here : (p : Planned) (offer : Offer) → CanBeOffered p offer
    → offer.comp.0 < length p.model.components
offered_here p offer can = some_within p.model.components offer.comp.0
    (λ component. IsOfferOf component offer) can.made

-- an offer to a class that touches its component
pub offered_accepted : (p : Planned) (offer : Offer) (k : ClassId) → k.0 < length p.classes.members
    → CanBeOffered p offer → CanBeHandedOn p (OfferTo k offer)
offered_accepted p offer k known can = record {
  known = record {
    address = known;
    names = offered_here p offer can;
  };
  fits = can.made;
}

pub offers_accepted : (p : Planned) (offer : Offer) (sent : List Message) → CanBeOffered p offer
    → AreOffersOf p offer sent → All (CanBeHandedOn p) sent
offers_accepted p offer sent can of_all =
    rw of_all.each (All-map (CanBeHandedOn p) (λ (k : ClassId). OfferTo k offer) of_all.classes
    (λ i d within. each (get_or of_all.classes i d)
    (i, within, get_or_default of_all.classes i (get_or of_all.classes i d) d within)))
  where
    each : (k : ClassId) → Contains of_all.classes k → CanBeHandedOn p (OfferTo k offer)
    each k at = offered_accepted p offer k (touching_known p k.0 offer.comp.0
        ((of_all.touching.exact k.0).0 at)) can

-- what is told
told_accepted : (p : Planned) (n : Notify) → CanBeTold p n → CanBeHandedOn p (NotifyComponent n)
told_accepted p n can =
    let known = some_within p.model.components n.comp.0 _ can.taken in
    record { known = record { address = known; names = known }; fits = can.taken }

-- and it can be written
pub told_numbered : (p : Planned) (notifies : List Notify) → All (CanBeTold p) notifies
    → All (λ (n : Notify). (1 ≤ n.number) × (n.port.0 < 16)) notifies
told_numbered p notifies all = λ k d within. let can = all k d within in (can.some, can.port)

all_told : (p : Planned) (notifies : List Notify) → All (CanBeTold p) notifies
    → All (CanBeHandedOn p) (map (λ n. NotifyComponent n) notifies)
all_told p notifies all = All-map (CanBeHandedOn p) (λ n. NotifyComponent n) notifies
    (λ i d within. told_accepted p _ (all i d within))

-- what reasons name is there
cause_known : (p : Planned) (b : ℕ) (cause : Cause) (wants : List Want) → IsSystem p.model
    → ((c : ℕ) → IsNamedBy p.model b cause c → (moves p.model b c ≡ true) × HasWantOf wants c)
    → HasCause p cause
cause_known p b (Port c) wants valid borne = moves_known p.model b c.0 valid.so_far
    (borne c.0 refl).0
cause_known p b Guard wants valid borne = tt

reasons_known : (p : Planned) (a : ℕ) (wants : List Want) (reasons : List Why) → IsSystem p.model
    → AreExplained p.model a wants reasons → All (HasReason p) reasons
reasons_known p a wants [] valid are = All-nil (HasReason p)
reasons_known p a wants (y ∷ ys) valid are = λ k d within.
    let z = get_or (y ∷ ys) k d in
    let at = Contains-get_or (y ∷ ys) k d within in (
      HasAbove-high (length p.model.interactions) p.model.priorities a z.inter.0
          valid.so_far.priorities ((are.each z.inter.0).0 (at.0, z, at.1, at.2, refl)),
      cause_known p z.inter.0 z.cause wants valid (are.borne k d within),
    )

-- a request
pub asked_accepted : (p : Planned) (q : Request) → IsPlanned p → CanBeSubmitted p q
    → CanBeHandedOn p (RequestToBank q)
asked_accepted p q planned can =
    let declared = reserved_known p q.inter.0 planned.valid can.fit.reserved in
    record {
      known = record {
        address = tt;
        names = (
          rw can.fit.class (class_known p q.inter.0 planned declared),
          declared,
          λ i d within. party_known p.model q.inter.0 q.wants _ planned.valid can.fit.parties
              (i, within, get_or_default q.wants i _ d within),
          reasons_known p q.inter.0 q.wants q.reasons planned.valid can.fit.explained,
        );
      };
      fits = can.fit;
    }

-- what an answer sends is accepted
pub sent_accepted : (p : Planned) (what : What) (sent : List Message) → IsPlanned p
    → SendsWhatFits p what → AreSent p what sent → All (CanBeHandedOn p) sent
sent_accepted p Nothing sent planned fits sends = rw sends (All-nil (CanBeHandedOn p))
sent_accepted p (Hears r) sent planned fits sends = rw sends (All-nil (CanBeHandedOn p))
sent_accepted p Submits sent planned fits sends = rw sends (All-nil (CanBeHandedOn p))
sent_accepted p (Learns (answered.Told notifies)) sent planned fits sends =
    rw sends (all_told p notifies fits)
sent_accepted p (Learns answered.Dropped) sent planned fits sends =
    rw sends (All-nil (CanBeHandedOn p))
sent_accepted p (Learns answered.Stale) sent planned fits sends =
    rw sends (All-nil (CanBeHandedOn p))
sent_accepted p (Moves (notified.Moved offer)) sent planned fits sends =
    offers_accepted p offer sent fits sends
sent_accepted p (Moves notified.Spent) sent planned fits sends =
    rw sends (All-nil (CanBeHandedOn p))
sent_accepted p (Moves notified.Stale) sent planned fits sends =
    rw sends (All-nil (CanBeHandedOn p))
sent_accepted p (Tries tried.Foreign) sent planned fits sends = rw sends (All-nil (CanBeHandedOn p))
sent_accepted p (Tries (tried.Pending b)) sent planned fits sends =
    rw sends (All-nil (CanBeHandedOn p))
sent_accepted p (Tries (tried.Not x)) sent planned fits sends = rw sends (All-nil (CanBeHandedOn p))
sent_accepted p (Tries (tried.Local g notifies)) sent planned fits sends =
    rw sends (all_told p notifies fits)
sent_accepted p (Tries tried.Ended) sent planned fits sends = rw sends (All-nil (CanBeHandedOn p))
sent_accepted p (Tries (tried.Sent q)) sent planned fits sends =
    rw sends (All-cons (CanBeHandedOn p) (RequestToBank q) [] (asked_accepted p q planned fits)
    (All-nil (CanBeHandedOn p)))
sent_accepted p (Acts acted.Nothing) sent planned fits sends = rw sends (All-nil (CanBeHandedOn p))
sent_accepted p (Acts acted.Moved) sent planned fits sends = rw sends (All-nil (CanBeHandedOn p))
sent_accepted p (Acts (acted.Answered q d)) sent planned fits sends =
    rw sends (All-cons (CanBeHandedOn p) (ReplyToClass (reply_to q d)) [] fits.accepted
    (All-nil (CanBeHandedOn p)))
