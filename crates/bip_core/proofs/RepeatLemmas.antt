-- Alike worlds, the same event: it does the same in both, but for a grant's serial, and leaves
-- alike
-- worlds.
use Rattle.std.proofs.Common.{◌≡◌, ℕ, suc, ◌+◌, ◌≤◌, List, [], ◌∷◌, ◌++◌, Option, Some, None}
use Rattle.std.proofs.Common.{length, map, refl, sym, ap, ap₂, ◌∙◌, subst, inl, inr, arith}
use Rattle.std.specs.Prelude.{◌⊎◌}
use Rattle.std.proofs.Math.Path.{fun_ext}
use Rattle.std.proofs.lemmas.Bool.{cases_order}
use Rattle.bip_model.specs.declared.grants.Grant.{Grant}
use Rattle.bip_model.specs.declared.messages.Notify.{Notify}
use Rattle.bip_model.specs.declared.messages.Offer.{Offer}
use Rattle.bip_model.specs.declared.messages.Reply.{Reply}
use Rattle.bip_model.specs.declared.messages.Reply.TheVariants as reply
use Rattle.bip_model.specs.declared.numbering.ClassId.{ClassId}
use Rattle.bip_model.specs.declared.numbering.InterId.{InterId}
use Rattle.bip_partition.specs.Plans.{IsListTouching, Planned}
use Rattle.bip_model.proofs.NumberingLemmas.{rises_from_increasing, same_list}
use Rattle.bip_observe.proofs.OfferLemmas.{one_offer_each, one_receipt}
use Rattle.bip_observe.specs.Offers.{IsReceipt, Observed}
use Rattle.bip_observe.specs.declared.offers.Receipt.{Receipt}
use Rattle.bip_component.specs.Components.{IsNodeAfter, IsNotified, Node, led_by}
use Rattle.bip_component.specs.declared.components.Notified.{Notified}
use Rattle.bip_component.specs.declared.components.Notified.TheVariants as notified
use Rattle.bip_ip.proofs.LawLemmas.{one_reply, one_try}
use Rattle.bip_ip.specs.Nodes.{Awaits, ClassNode, IsAnswered, IsLeftByRefusal, IsLeftByReply}
use Rattle.bip_ip.specs.Nodes.{IsTried, after_offer, after_try}
use Rattle.bip_ip.specs.declared.nodes.Answered.{Answered}
use Rattle.bip_ip.specs.declared.nodes.Answered.TheVariants as answered
use Rattle.bip_ip.specs.declared.nodes.OpenRecord.{OpenRecord}
use Rattle.bip_ip.specs.declared.nodes.Tried.{Tried}
use Rattle.bip_ip.specs.declared.nodes.Tried.TheVariants as tried
use Rattle.bip_bank.proofs.RepeatLemmas.{one_answer_to_a_step}
use Rattle.bip_bank.specs.Banks.{BankContent, DoesStep, IsActed, with_request}
use Rattle.bip_bank.specs.Decisions.Decision.TheVariants as decision
use Rattle.bip_bank.specs.Laws.{MovesInOneWay, acted_but_serial}
use Rattle.bip_bank.specs.declared.banks.Acted.{Acted}
use Rattle.bip_bank.specs.declared.banks.Acted.TheVariants as acted
use Rattle.bip_bank.specs.declared.banks.BankStep.{BankStep}
use Rattle.bip_core.specs.Events.{AreKeptOf, ArePut, AreSent, IsMailHandedOn, IsDone, IsHandedOn}
use Rattle.bip_core.specs.Events.{IsStep, IsTraced, TakesOut, all_done, are_notified, grant_in}
use Rattle.bip_core.specs.Events.{one_kept, one_lost, trace_with, class_named}
use Rattle.bip_core.specs.Repeats.{AreAlike, but_serials, message_but_serial}
use Rattle.bip_core.specs.Worlds.{AreOffersOf, WorldContent, with_class_node, with_component_node}
use Rattle.bip_core.specs.declared.events.Did.{Did}
use Rattle.bip_core.specs.declared.events.Event.{Event}
use Rattle.bip_core.specs.declared.events.Event.TheVariants.{Bank, Mail, Try}
use Rattle.bip_core.specs.declared.events.What.{What}
use Rattle.bip_core.specs.declared.events.What.TheVariants.{Acts, Hears, Learns, Moves, Nothing}
use Rattle.bip_core.specs.declared.events.What.TheVariants.{Submits, Tries}
use Rattle.bip_core.specs.declared.messages.Message.{Message}
use Rattle.bip_core.specs.declared.messages.Message.TheVariants.{NotifyComponent, OfferTo}
use Rattle.bip_core.specs.declared.messages.Message.TheVariants.{ReplyToClass, RequestToBank}

-- what an event did, but for the serial of a grant
abbrev pub what_but_serial : What → What
what_but_serial Nothing = Nothing
what_but_serial (Hears receipt) = Hears receipt
what_but_serial Submits = Submits
what_but_serial (Learns did) = Learns did
what_but_serial (Moves did) = Moves did
what_but_serial (Tries did) = Tries did
what_but_serial (Acts did) = Acts (acted_but_serial did)

-- Nodes: what each answers, and what that leaves.

abbrev node_by : Observed → (ℕ → Option OpenRecord) → ℕ → ClassNode
node_by o pending next = record { offers = o; pending = pending; next = next }

same_node : (o x : Observed) (f g : ℕ → Option OpenRecord) (n k : ℕ) → o ≡ x → f ≡ g → n ≡ k
    → node_by o f n ≡ node_by x g k
same_node o x f g n k offers pending next = rw (offers, pending, next) refl

abbrev observed_by : Planned → ℕ → (ℕ → ℕ) → (ℕ → Option Offer) → Observed
observed_by p class known held = record { plan = p; class = class; known = known; held = held }

same_observed : (p q : Planned) (k l : ℕ) (f g : ℕ → ℕ) (h i : ℕ → Option Offer) → p ≡ q → k ≡ l
    → f ≡ g → h ≡ i → observed_by p k f h ≡ observed_by q l g i
same_observed p q k l f g h i plans classes known held = rw (plans, classes, known, held) refl

-- what a refusal teaches is one thing, whether or not it can be told that the class touches the
-- component
learned_once : (a c used : ℕ) (v later other : ClassNode) → IsLeftByRefusal a c used v later
    → IsLeftByRefusal a c used v other → (b : ℕ) → later.offers.known b ≡ other.offers.known b
learned_once a c used v later other is also b =
    elim (cases_order (later.offers.known b) (other.offers.known b)) [
      | inl same ↦ same
      | inr (inl lower) ↦ absurd (apart (λ same. omega (
        arith,
        lower,
        ap (λ (o : Observed). o.known b) same,
      )))
      | inr (inr higher) ↦ absurd (apart (λ same.
          omega (arith, higher, ap (λ (o : Observed). o.known b) same)))
    ]
  where
    apart : (later.offers ≡ other.offers → ⊥) → ⊥
    apart differ = differ (is.others (λ touches. differ
        (is.touched touches ∙ sym (also.touched touches)))
        ∙ sym (also.others (λ touches. differ (is.touched touches ∙ sym (also.touched touches)))))

refused_once : (a c used : ℕ) (v later other : ClassNode) → IsLeftByRefusal a c used v later
    → IsLeftByRefusal a c used v other → later ≡ other
refused_once a c used v later other is also =
    same_node later.offers other.offers later.pending other.pending later.next other.next
    (same_observed later.offers.plan other.offers.plan later.offers.class other.offers.class
    later.offers.known other.offers.known later.offers.held other.offers.held
    (is.plan ∙ sym also.plan) (is.class ∙ sym also.class)
    (fun_ext (learned_once a c used v later other is also)) (is.held ∙ sym also.held))
    (is.pending ∙ sym also.pending) (is.next ∙ sym also.next)

left_once : (v : ClassNode) (r : Reply) (did : Answered) (later other : ClassNode)
    → IsAnswered v r did → IsLeftByReply r did v later → IsLeftByReply r did v other → later ≡ other
left_once v (reply.Granted k n a s) (answered.Told notifies) later other answers is also =
    is answers.0 answers.1 ∙ sym (also answers.0 answers.1)
left_once v (reply.Granted k n a s) answered.Dropped later other answers is also = absurd answers
left_once v (reply.Granted k n a s) answered.Stale later other answers is also = is ∙ sym also
left_once v (reply.Refused k n a c used) (answered.Told notifies) later other answers is also =
    absurd answers
left_once v (reply.Refused k n a c used) answered.Dropped later other answers is also =
    refused_once a.0 c.0 used v later other is also
left_once v (reply.Refused k n a c used) answered.Stale later other answers is also = is ∙ sym also

notified_once : (node : Node) (n : Notify) (did also : Notified) → IsNotified node n did
    → IsNotified node n also → did ≡ also
notified_once node n (notified.Moved x) (notified.Moved y) is other =
    ap notified.Moved (one_offer_each node.plan.model node.comp (node.number + 1)
    (led_by node n) x y is.2 other.2)
notified_once node n (notified.Moved x) notified.Spent is other =
    absurd (omega (arith, is.1, other.1))
notified_once node n (notified.Moved x) notified.Stale is other = absurd (other is.0)
notified_once node n notified.Spent (notified.Moved y) is other =
    absurd (omega (arith, is.1, other.1))
notified_once node n notified.Spent notified.Spent is other = refl
notified_once node n notified.Spent notified.Stale is other = absurd (other is.0)
notified_once node n notified.Stale (notified.Moved y) is other = absurd (is other.0)
notified_once node n notified.Stale notified.Spent is other = absurd (is other.0)
notified_once node n notified.Stale notified.Stale is other = refl

moved_once : (node : Node) (n : Notify) (did : Notified) (later other : Node)
    → IsNodeAfter node n did later → IsNodeAfter node n did other → later ≡ other
moved_once node n (notified.Moved x) later other is also = is ∙ sym also
moved_once node n notified.Spent later other is also = is ∙ sym also
moved_once node n notified.Stale later other is also = is ∙ sym also

pub same_some : {X : Type 0} (x y : X) → Some x ≡ Some y → x ≡ y
same_some x y is = cc

none_some : {X : Type 0} (x : X) → None ≡ Some x → ⊥
none_some x is = cc

-- A message that is handed on, by what it is: its node answers.

abbrev HandedTo : WorldContent → Message → What → WorldContent → Type 0
HandedTo w (OfferTo k offer) what v =
    (node : ClassNode) × (receipt : Receipt) × (w.classes k.0 ≡ Some node)
    × IsReceipt node.offers offer receipt × (what ≡ Hears receipt)
    × (v ≡ with_class_node k.0 (after_offer offer receipt node) w)
HandedTo w (RequestToBank q) what v = (what ≡ Submits)
    × (v ≡ record w { bank = with_request q w.bank })
HandedTo w (ReplyToClass r) what v =
    (node : ClassNode) × (later : ClassNode) × (did : Answered)
    × (w.classes (class_named r) ≡ Some node) × IsAnswered node r did
    × IsLeftByReply r did node later × (what ≡ Learns did)
    × (v ≡ with_class_node (class_named r) later w)
HandedTo w (NotifyComponent n) what v =
    (node : Node) × (later : Node) × (did : Notified) × (w.components n.comp.0 ≡ Some node)
    × IsNotified node n did × IsNodeAfter node n did later × (what ≡ Moves did)
    × (v ≡ with_component_node n.comp.0 later w)

handed_to : (w v : WorldContent) (m : Message) (what : What) → IsHandedOn w m what v
    → HandedTo w m what v
handed_to w v (OfferTo k offer) Nothing is = absurd is
handed_to w v (OfferTo k offer) (Hears receipt) is = (is.0, receipt, is.1, is.2, refl, is.3)
handed_to w v (OfferTo k offer) Submits is = absurd is
handed_to w v (OfferTo k offer) (Learns did) is = absurd is
handed_to w v (OfferTo k offer) (Moves did) is = absurd is
handed_to w v (OfferTo k offer) (Tries did) is = absurd is
handed_to w v (OfferTo k offer) (Acts did) is = absurd is
handed_to w v (RequestToBank q) Nothing is = absurd is
handed_to w v (RequestToBank q) (Hears receipt) is = absurd is
handed_to w v (RequestToBank q) Submits is = (refl, is)
handed_to w v (RequestToBank q) (Learns did) is = absurd is
handed_to w v (RequestToBank q) (Moves did) is = absurd is
handed_to w v (RequestToBank q) (Tries did) is = absurd is
handed_to w v (RequestToBank q) (Acts did) is = absurd is
handed_to w v (ReplyToClass r) Nothing is = absurd is
handed_to w v (ReplyToClass r) (Hears receipt) is = absurd is
handed_to w v (ReplyToClass r) Submits is = absurd is
handed_to w v (ReplyToClass r) (Learns did) is = (is.0, is.1, did, is.2, is.3, is.4, refl, is.5)
handed_to w v (ReplyToClass r) (Moves did) is = absurd is
handed_to w v (ReplyToClass r) (Tries did) is = absurd is
handed_to w v (ReplyToClass r) (Acts did) is = absurd is
handed_to w v (NotifyComponent n) Nothing is = absurd is
handed_to w v (NotifyComponent n) (Hears receipt) is = absurd is
handed_to w v (NotifyComponent n) Submits is = absurd is
handed_to w v (NotifyComponent n) (Learns did) is = absurd is
handed_to w v (NotifyComponent n) (Moves did) is = (is.0, is.1, did, is.2, is.3, is.4, refl, is.5)
handed_to w v (NotifyComponent n) (Tries did) is = absurd is
handed_to w v (NotifyComponent n) (Acts did) is = absurd is

-- no answer depends on a serial
awaits_but : (v : ClassNode) (k : ClassId) (n : ℕ) (a : InterId) (s t : ℕ) (e : OpenRecord)
    → Awaits v (reply.Granted k n a s) e → Awaits v (reply.Granted k n a t) e
awaits_but v k n a s t e awaits = record { pending = awaits.pending; to = awaits.to }

answered_but : (v : ClassNode) (k : ClassId) (n : ℕ) (a : InterId) (s t : ℕ) (did : Answered)
    → IsAnswered v (reply.Granted k n a s) did → IsAnswered v (reply.Granted k n a t) did
answered_but v k n a s t (answered.Told notifies) is =
    (is.0, awaits_but v k n a s t is.0 is.1, is.2)
answered_but v k n a s t answered.Dropped is = is
answered_but v k n a s t answered.Stale is = λ e awaits. is e (awaits_but v k n a t s e awaits)

left_but : (v later : ClassNode) (k : ClassId) (n : ℕ) (a : InterId) (s t : ℕ) (did : Answered)
    → IsLeftByReply (reply.Granted k n a s) did v later
    → IsLeftByReply (reply.Granted k n a t) did v later
left_but v later k n a s t (answered.Told notifies) is =
    λ e awaits. is e (awaits_but v k n a t s e awaits)
left_but v later k n a s t answered.Dropped is = is
left_but v later k n a s t answered.Stale is = is

handed_but : (w v : WorldContent) (m : Message) (what : What) → HandedTo w m what v
    → HandedTo (but_serials w) (message_but_serial m) what (but_serials v)
handed_but w v (OfferTo k offer) what is = (is.0, is.1, is.2, is.3, is.4, ap but_serials is.5)
handed_but w v (RequestToBank q) what is = (is.0, ap but_serials is.1)
handed_but w v (ReplyToClass (reply.Granted k n a s)) what is = (
  is.0,
  is.1,
  is.2,
  is.3,
  answered_but is.0 k n a s 0 is.2 is.4,
  left_but is.0 is.1 k n a s 0 is.2 is.5,
  is.6,
  ap but_serials is.7,
)
handed_but w v (ReplyToClass (reply.Refused k n a c used)) what is =
    (is.0, is.1, is.2, is.3, is.4, is.5, is.6, ap but_serials is.7)
handed_but w v (NotifyComponent n) what is = (
  is.0,
  is.1,
  is.2,
  is.3,
  is.4,
  is.5,
  is.6,
  ap but_serials is.7,
)

-- what is handed on leaves what stations share
handed_shares : (w v : WorldContent) (m : Message) (what : What) → HandedTo w m what v
    → v.bank.sharing ≡ w.bank.sharing
handed_shares w v (OfferTo k offer) what is = ap (λ (u : WorldContent). u.bank.sharing) is.5
handed_shares w v (RequestToBank q) what is = ap (λ (u : WorldContent). u.bank.sharing) is.1
handed_shares w v (ReplyToClass r) what is = ap (λ (u : WorldContent). u.bank.sharing) is.7
handed_shares w v (NotifyComponent n) what is = ap (λ (u : WorldContent). u.bank.sharing) is.7

abbrev hears_after : WorldContent → ℕ → Offer → Receipt → ClassNode → WorldContent
hears_after w k offer receipt node = with_class_node k (after_offer offer receipt node) w

-- one message that is handed on in one world does one thing
handed_once : (w v x : WorldContent) (m : Message) (what also : What) → HandedTo w m what v
    → HandedTo w m also x → (what ≡ also) × (v ≡ x)
handed_once w v x (OfferTo k offer) what also is other =
    let node : is.0 ≡ other.0 = same_some is.0 other.0 (sym is.2 ∙ other.2) in
    let receipt : is.1 ≡ other.1 = one_receipt other.0.offers offer is.1 other.1
    (subst (λ (n : ClassNode). IsReceipt n.offers offer is.1) node is.3) other.3 in (
      is.4 ∙ (ap Hears receipt ∙ sym other.4),
      is.5 ∙ (ap₂ (hears_after w k.0 offer) receipt node ∙ sym other.5),
    )
handed_once w v x (RequestToBank q) what also is other = (is.0 ∙ sym other.0, is.1 ∙ sym other.1)
handed_once w v x (ReplyToClass r) what also is other =
    let node : is.0 ≡ other.0 = same_some is.0 other.0 (sym is.3 ∙ other.3) in
    let did : is.2 ≡ other.2 = one_reply other.0 r is.2 other.2
    (subst (λ (n : ClassNode). IsAnswered n r is.2) node is.4) other.4 in
    let left : IsLeftByReply r other.2 other.0 is.1 =
    subst (λ (d : Answered). IsLeftByReply r d other.0 is.1) did
    (subst (λ (n : ClassNode). IsLeftByReply r is.2 n is.1) node is.5) in (
      is.6 ∙ (ap Learns did ∙ sym other.6),
      is.7 ∙ (ap (λ (n : ClassNode). with_class_node
          (class_named r) n w) (left_once other.0 r other.2 is.1 other.1 other.4 left other.5)
          ∙ sym other.7),
    )
handed_once w v x (NotifyComponent n) what also is other =
    let node : is.0 ≡ other.0 = same_some is.0 other.0 (sym is.3 ∙ other.3) in
    let did : is.2 ≡ other.2 = notified_once other.0 n is.2 other.2
    (subst (λ (x : Node). IsNotified x n is.2) node is.4) other.4 in
    let left : IsNodeAfter other.0 n other.2 is.1 =
    subst (λ (d : Notified). IsNodeAfter other.0 n d is.1) did
    (subst (λ (x : Node). IsNodeAfter x n is.2 is.1) node is.5) in (
      is.6 ∙ (ap Moves did ∙ sym other.6),
      is.7 ∙ (ap (λ (x : Node). with_component_node n.comp.0 x
          w) (moved_once other.0 n other.2 is.1 other.1 left other.5) ∙ sym other.7),
    )

-- the message at a place, and those that are left, by lists that are mapped
split_at : {X : Type 0} {Y : Type 0} (f : X → Y) (front other : List X) (m n : X)
    (back rest : List X) → length front ≡ length other
    → map f (front ++ m ∷ back) ≡ map f (other ++ n ∷ rest)
    → (f m ≡ f n) × (map f (front ++ back) ≡ map f (other ++ rest))
split_at f [] [] m n back rest same is = (cc, cc)
split_at f [] (y ∷ ys) m n back rest same is = absurd (omega arith)
split_at f (x ∷ xs) [] m n back rest same is = absurd (omega arith)
split_at {Y = Y} f (x ∷ xs) (y ∷ ys) m n back rest same is =
    let first : f x ≡ f y = cc in
    let others : map f (xs ++ m ∷ back) ≡ map f (ys ++ n ∷ rest) = cc in
    let split = split_at f xs ys m n back rest (omega arith) others in
    (split.0, ap₂ (λ (z : Y) (zs : List Y). z ∷ zs) first split.1)

taken_alike : (place : ℕ) (m n : Message) (mail left other rest : List Message)
    → TakesOut place m mail left → TakesOut place n other rest
    → map message_but_serial mail ≡ map message_but_serial other
    → (message_but_serial m ≡ message_but_serial n)
    × (map message_but_serial left ≡ map message_but_serial rest)
taken_alike place m n mail left other rest one two same =
    let whole = ap (map message_but_serial) (sym one.whole)
    ∙ (same ∙ ap (map message_but_serial) two.whole) in
    let split = split_at message_but_serial one.front two.front m n one.back two.back
    (one.before ∙ sym two.before) whole in (
      split.0,
      ap (map message_but_serial) one.others ∙ (split.1
          ∙ sym (ap (map message_but_serial) two.others)),
    )

-- What an event does, by what it is.

abbrev with_mail : WorldContent → List Message → WorldContent
with_mail w mail = record w { mail = mail }

pub mail_done : (w v : WorldContent) (place : ℕ) (what : What) → IsDone w (Mail place) what v
    → ((length w.mail ≤ place) × (what ≡ Nothing) × (v ≡ w)) ⊎ IsMailHandedOn place w what v
mail_done w v place Nothing is = inl (is.0, refl, is.1)
mail_done w v place (Hears receipt) is = inr is
mail_done w v place Submits is = inr is
mail_done w v place (Learns did) is = inr is
mail_done w v place (Moves did) is = inr is
mail_done w v place (Tries did) is = inr is
mail_done w v place (Acts did) is = inr is

abbrev pub IsTriedIn : WorldContent → ℕ → ℕ → What → WorldContent → Type 0
IsTriedIn w k a what v =
    ((w.classes k ≡ None) × (what ≡ Nothing) × (v ≡ w))
    ⊎ ((node : ClassNode) × (did : Tried) × (w.classes k ≡ Some node) × IsTried node a did
    × (what ≡ Tries did) × (v ≡ with_class_node k (after_try a did node) w))

pub try_done : (w v : WorldContent) (k : ClassId) (a : InterId) (what : What)
    → IsDone w (Try k a) what v → IsTriedIn w k.0 a.0 what v
try_done w v k a Nothing is = inl (is.0, refl, is.1)
try_done w v k a (Hears receipt) is = absurd is
try_done w v k a Submits is = absurd is
try_done w v k a (Learns did) is = absurd is
try_done w v k a (Moves did) is = absurd is
try_done w v k a (Tries did) is = inr (is.0, did, is.1, is.2, refl, is.3)
try_done w v k a (Acts did) is = absurd is

abbrev pub IsActedIn : WorldContent → BankStep → What → WorldContent → Type 0
IsActedIn w step what v =
    (did : Acted) × (later : BankContent) × DoesStep w.bank step did later
    × IsActed did w.bank later × (what ≡ Acts did) × (v ≡ record w { bank = later })

pub bank_done : (w v : WorldContent) (step : BankStep) (what : What) → IsDone w (Bank step) what v
    → IsActedIn w step what v
bank_done w v step Nothing is = absurd is
bank_done w v step (Hears receipt) is = absurd is
bank_done w v step Submits is = absurd is
bank_done w v step (Learns did) is = absurd is
bank_done w v step (Moves did) is = absurd is
bank_done w v step (Tries did) is = absurd is
bank_done w v step (Acts did) is = (did, is.0, is.1, is.2, refl, is.3)

-- what two events do is the same but for a serial, and leaves alike worlds, whose stations still
-- move what they share in one way
abbrev AreOne : What → WorldContent → What → WorldContent → Type 0
AreOne what v also x = (what_but_serial what ≡ what_but_serial also) × AreAlike v x
    × MovesInOneWay v.bank.sharing

same_mails : (w x : WorldContent) → AreAlike w x
    → map message_but_serial w.mail ≡ map message_but_serial x.mail
same_mails w x alike = ap (λ (u : WorldContent). u.mail) alike

pub same_lengths : (w x : WorldContent) → AreAlike w x → length w.mail ≡ length x.mail
same_lengths w x alike = by_lists w.mail x.mail (same_mails w x alike)
  where
    by_lists : (ms ns : List Message) → map message_but_serial ms ≡ map message_but_serial ns
        → length ms ≡ length ns
    by_lists [] [] is = refl
    by_lists [] (n ∷ ns) is = cc
    by_lists (m ∷ ms) [] is = cc
    by_lists (m ∷ ms) (n ∷ ns) is =
        let others : map message_but_serial ms ≡ map message_but_serial ns = cc in
        ap suc (by_lists ms ns others)

delivered_once : (w x v y : WorldContent) (place : ℕ) (what also : What) → AreAlike w x
    → MovesInOneWay w.bank.sharing → IsMailHandedOn place w what v → IsMailHandedOn place x also y
    → AreOne what v also y
delivered_once w x v y place what also alike way is other =
    let taken = taken_alike place is.message other.message w.mail is.rest x.mail other.rest is.taken
    other.taken (same_mails w x alike) in
    let worlds : but_serials (with_mail w is.rest) ≡ but_serials (with_mail x other.rest) =
    ap (λ (u : WorldContent). with_mail u (map message_but_serial is.rest)) alike
    ∙ ap (λ (ms : List Message). with_mail x ms) taken.1 in
    let one = handed_but (with_mail w is.rest) v is.message what
    (handed_to (with_mail w is.rest) v is.message what is.on) in
    let two = handed_but (with_mail x other.rest) y other.message also
    (handed_to (with_mail x other.rest) y other.message also other.on) in
    let there : HandedTo (but_serials (with_mail x other.rest))
    (message_but_serial other.message) what (but_serials v) =
    subst (λ (m : Message). HandedTo (but_serials (with_mail x other.rest)) m what (but_serials v))
    taken.0
    (subst (λ (u : WorldContent). HandedTo u (message_but_serial is.message) what (but_serials v))
    worlds one) in
    let once = handed_once (but_serials (with_mail x other.rest)) (but_serials v) (but_serials y)
    (message_but_serial other.message) what also there two in (
      ap what_but_serial once.0,
      once.1,
      subst MovesInOneWay (sym (handed_shares (with_mail w is.rest) v is.message what
          (handed_to (with_mail w is.rest) v is.message what is.on))) way,
    )

same_way : (w v : WorldContent) → v ≡ w → MovesInOneWay w.bank.sharing
    → MovesInOneWay v.bank.sharing
same_way w v same way = subst (λ (u : WorldContent). MovesInOneWay u.bank.sharing) (sym same) way

pub past_mail : (place : ℕ) (m : Message) (mail rest : List Message) → TakesOut place m mail rest
    → length mail ≤ place → ⊥
past_mail place m mail rest taken past =
    omega (arith, past, taken.before, ap length taken.whole, longer taken.front)
  where
    longer : (xs : List Message) → length xs + 1 ≤ length (xs ++ m ∷ taken.back)
    longer [] = omega arith
    longer (x ∷ xs) = omega (arith, longer xs)

mail_once : (w x v y : WorldContent) (place : ℕ) (what also : What) → AreAlike w x
    → MovesInOneWay w.bank.sharing → IsDone w (Mail place) what v → IsDone x (Mail place) also y
    → AreOne what v also y
mail_once w x v y place what also alike way is other =
    by_views (mail_done w v place what is) (mail_done x y place also other)
  where
    by_views : ((length w.mail ≤ place) × (what ≡ Nothing) × (v ≡ w))
        ⊎ IsMailHandedOn place w what v
        → ((length x.mail ≤ place) × (also ≡ Nothing) × (y ≡ x)) ⊎ IsMailHandedOn place x also y
        → AreOne what v also y
    by_views (inl none) (inl nor) = (
      ap what_but_serial (none.1 ∙ sym nor.1),
      ap but_serials none.2 ∙ (alike ∙ sym (ap but_serials nor.2)),
      same_way w v none.2 way,
    )
    by_views (inl none) (inr there) = absurd (past_mail place there.message x.mail there.rest
        there.taken (omega (arith, none.0, same_lengths w x alike)))
    by_views (inr here) (inl nor) = absurd (past_mail place here.message w.mail here.rest here.taken
        (omega (arith, nor.0, same_lengths w x alike)))
    by_views (inr here) (inr there) = delivered_once w x v y place what also alike way here there

same_class : (w x : WorldContent) (k : ℕ) → AreAlike w x → w.classes k ≡ x.classes k
same_class w x k alike = ap (λ (u : WorldContent). u.classes k) alike

tried_once : (w x v y : WorldContent) (k a : ℕ) (what also : What) → AreAlike w x
    → MovesInOneWay w.bank.sharing → IsTriedIn w k a what v → IsTriedIn x k a also y
    → AreOne what v also y
tried_once w x v y k a what also alike way (inl none) (inl nor) = (
  ap what_but_serial (none.1 ∙ sym nor.1),
  ap but_serials none.2 ∙ (alike ∙ sym (ap but_serials nor.2)),
  same_way w v none.2 way,
)
tried_once w x v y k a what also alike way (inl none) (inr there) =
    absurd (none_some there.0 (sym none.0 ∙ (same_class w x k alike ∙ there.2)))
tried_once w x v y k a what also alike way (inr here) (inl nor) =
    absurd (none_some here.0 (sym nor.0 ∙ (sym (same_class w x k alike) ∙ here.2)))
tried_once w x v y k a what also alike way (inr here) (inr there) =
    let node : here.0 ≡ there.0 = same_some here.0 there.0
    (sym here.2 ∙ (same_class w x k alike ∙ there.2)) in
    let did : here.1 ≡ there.1 = one_try there.0 a here.1 there.1
    (subst (λ (n : ClassNode). IsTried n a here.1) node here.3) there.3 in (
      ap what_but_serial (here.4 ∙ (ap Tries did ∙ sym there.4)),
      ap but_serials here.5 ∙ (ap (λ (u : WorldContent). with_class_node k
          (after_try a here.1 here.0) u) alike
          ∙ (ap₂ (λ (d : Tried) (n : ClassNode). with_class_node k (after_try a d n)
          (but_serials x)) did node ∙ sym (ap but_serials there.5))),
      subst (λ (u : WorldContent). MovesInOneWay u.bank.sharing) (sym here.5) way,
    )

acted_once : (w x v y : WorldContent) (step : BankStep) (what also : What) → AreAlike w x
    → MovesInOneWay w.bank.sharing → IsActedIn w step what v → IsActedIn x step also y
    → AreOne what v also y
acted_once w x v y step what also alike way here there =
    let bank : w.bank ≡ x.bank = ap (λ (u : WorldContent). u.bank) alike in
    let once = one_answer_to_a_step w.bank here.1 there.1 step here.0 there.0 way here.2 here.3
    (subst (λ (b : BankContent). DoesStep b step there.0 there.1) (sym bank) there.2)
    (subst (λ (b : BankContent). IsActed there.0 b there.1) (sym bank) there.3) in (
      ap what_but_serial here.4 ∙ (ap Acts once.0 ∙ sym (ap what_but_serial there.4)),
      ap but_serials here.5 ∙ (ap (λ (u : WorldContent). record u { bank = here.1 }) alike
          ∙ (ap (λ (b : BankContent). record (but_serials x) { bank = b }) once.1
          ∙ sym (ap but_serials there.5))),
      subst (λ (u : WorldContent). MovesInOneWay u.bank.sharing) (sym here.5) once.2,
    )

done_once : (w x v y : WorldContent) (event : Event) (what also : What) → AreAlike w x
    → MovesInOneWay w.bank.sharing → IsDone w event what v → IsDone x event also y
    → AreOne what v also y
done_once w x v y (Mail place) what also alike way is other =
    mail_once w x v y place what also alike way is other
done_once w x v y (Try k a) what also alike way is other =
    tried_once w x v y k.0 a.0 what also alike way (try_done w v k a what is)
    (try_done x y k a also other)
done_once w x v y (Bank step) what also alike way is other =
    acted_once w x v y step what also alike way (bank_done w v step what is)
    (bank_done x y step also other)

-- The grant joins the trace.

pub grant_but : (what : What) → grant_in what ≡ grant_in (what_but_serial what)
grant_but Nothing = refl
grant_but (Hears receipt) = refl
grant_but Submits = refl
grant_but (Learns did) = refl
grant_but (Moves did) = refl
grant_but (Tries did) = refl
grant_but (Acts acted.Nothing) = refl
grant_but (Acts acted.Moved) = refl
grant_but (Acts (acted.Answered q (decision.Granted serial))) = refl
grant_but (Acts (acted.Answered q (decision.Refused c used))) = refl

abbrev traced : WorldContent → Option Grant → WorldContent
traced w g = record w { trace = trace_with w.trace g }

traced_once : (w x v y : WorldContent) (event : Event) (what also : What) → AreAlike w x
    → MovesInOneWay w.bank.sharing → IsTraced w event what v → IsTraced x event also y
    → AreOne what v also y
traced_once w x v y event what also alike way is other =
    let done = done_once w x is.middle other.middle event what also alike way is.done other.done in
    let grant : grant_in what ≡ grant_in also = grant_but what
    ∙ (ap grant_in done.0 ∙ sym (grant_but also)) in (
      done.0,
      ap but_serials is.after ∙ (ap (λ (u : WorldContent). traced u (grant_in what)) done.1
          ∙ (ap (traced (but_serials other.middle)) grant ∙ sym (ap but_serials other.after))),
      subst (λ (u : WorldContent). MovesInOneWay u.bank.sharing) (sym is.after) done.2,
    )

-- What is sent.

notified_but : (ns : List Notify) → map message_but_serial (are_notified ns) ≡ are_notified ns
notified_but [] = refl
notified_but (n ∷ ns) = ap (λ (ms : List Message). NotifyComponent n ∷ ms) (notified_but ns)

offers_but : (offer : Offer) (ks : List ClassId)
    → map message_but_serial (map (λ k. OfferTo k offer) ks) ≡ map (λ k. OfferTo k offer) ks
offers_but offer [] = refl
offers_but offer (k ∷ ks) = ap (λ (ms : List Message). OfferTo k offer ∷ ms) (offers_but offer ks)

sent_but : (p : Planned) (what : What) (sent : List Message) → AreSent p what sent
    → AreSent p (what_but_serial what) (map message_but_serial sent)
sent_but p Nothing sent is = ap (map message_but_serial) is
sent_but p (Hears receipt) sent is = ap (map message_but_serial) is
sent_but p Submits sent is = ap (map message_but_serial) is
sent_but p (Learns (answered.Told notifies)) sent is = ap (map message_but_serial) is
    ∙ notified_but notifies
sent_but p (Learns answered.Dropped) sent is = ap (map message_but_serial) is
sent_but p (Learns answered.Stale) sent is = ap (map message_but_serial) is
sent_but p (Moves (notified.Moved offer)) sent is =
    record {
      classes = is.classes;
      touching = is.touching;
      each = ap (map message_but_serial) is.each ∙ offers_but offer is.classes;
    }
sent_but p (Moves notified.Spent) sent is = ap (map message_but_serial) is
sent_but p (Moves notified.Stale) sent is = ap (map message_but_serial) is
sent_but p (Tries tried.Foreign) sent is = ap (map message_but_serial) is
sent_but p (Tries (tried.Pending b)) sent is = ap (map message_but_serial) is
sent_but p (Tries (tried.Not verdict)) sent is = ap (map message_but_serial) is
sent_but p (Tries (tried.Local g notifies)) sent is = ap (map message_but_serial) is
    ∙ notified_but notifies
sent_but p (Tries tried.Ended) sent is = ap (map message_but_serial) is
sent_but p (Tries (tried.Sent q)) sent is = ap (map message_but_serial) is
sent_but p (Acts acted.Nothing) sent is = ap (map message_but_serial) is
sent_but p (Acts acted.Moved) sent is = ap (map message_but_serial) is
sent_but p (Acts (acted.Answered q (decision.Granted serial))) sent is =
    ap (map message_but_serial) is
sent_but p (Acts (acted.Answered q (decision.Refused c used))) sent is =
    ap (map message_but_serial) is

pub one_list_touching : (p : Planned) (c : ℕ) (xs ys : List ClassId) → IsListTouching p c xs
    → IsListTouching p c ys → xs ≡ ys
one_list_touching p c xs ys one other =
    same_list (λ (k : ClassId). k.0) xs ys (rises_from_increasing
    (map (λ (k : ClassId). k.0) xs) one.rising)
    (rises_from_increasing (map (λ (k : ClassId). k.0) ys) other.rising)
    (λ k at. (other.exact k.0).1 ((one.exact k.0).0 at))
    (λ k at. (one.exact k.0).1 ((other.exact k.0).0 at))

pub one_offering : (p : Planned) (offer : Offer) (xs ys : List Message) → AreOffersOf p offer xs
    → AreOffersOf p offer ys → xs ≡ ys
one_offering p offer xs ys one other =
    one.each ∙ (ap (map (λ (k : ClassId). OfferTo k offer))
    (one_list_touching p offer.comp.0 one.classes other.classes one.touching other.touching)
    ∙ sym other.each)

sent_once : (p : Planned) (what : What) (xs ys : List Message) → AreSent p what xs
    → AreSent p what ys → xs ≡ ys
sent_once p Nothing xs ys one other = one ∙ sym other
sent_once p (Hears receipt) xs ys one other = one ∙ sym other
sent_once p Submits xs ys one other = one ∙ sym other
sent_once p (Learns (answered.Told notifies)) xs ys one other = one ∙ sym other
sent_once p (Learns answered.Dropped) xs ys one other = one ∙ sym other
sent_once p (Learns answered.Stale) xs ys one other = one ∙ sym other
sent_once p (Moves (notified.Moved offer)) xs ys one other = one_offering p offer xs ys one other
sent_once p (Moves notified.Spent) xs ys one other = one ∙ sym other
sent_once p (Moves notified.Stale) xs ys one other = one ∙ sym other
sent_once p (Tries tried.Foreign) xs ys one other = one ∙ sym other
sent_once p (Tries (tried.Pending b)) xs ys one other = one ∙ sym other
sent_once p (Tries (tried.Not verdict)) xs ys one other = one ∙ sym other
sent_once p (Tries (tried.Local g notifies)) xs ys one other = one ∙ sym other
sent_once p (Tries tried.Ended) xs ys one other = one ∙ sym other
sent_once p (Tries (tried.Sent q)) xs ys one other = one ∙ sym other
sent_once p (Acts acted.Nothing) xs ys one other = one ∙ sym other
sent_once p (Acts acted.Moved) xs ys one other = one ∙ sym other
sent_once p (Acts (acted.Answered q d)) xs ys one other = one ∙ sym other

kept_fewer : (xs ys : List Message) → AreKeptOf xs ys → length xs ≤ length ys
kept_fewer _ _ all_done = omega arith
kept_fewer _ _ (one_kept {xs = xs} {ys = ys} kept) = omega (arith, kept_fewer xs ys kept)
kept_fewer _ _ (one_lost {xs = xs} {ys = ys} kept) = omega (arith, kept_fewer xs ys kept)

kept_all : (xs ys : List Message) → AreKeptOf xs ys → length xs ≡ length ys → xs ≡ ys
kept_all _ _ all_done same = refl
kept_all _ _ (one_kept {m = m} {xs = xs} {ys = ys} kept) same =
    ap (λ (zs : List Message). m ∷ zs) (kept_all xs ys kept (omega (arith, same)))
kept_all _ _ (one_lost {m = m} {xs = xs} {ys = ys} kept) same =
    absurd (omega (arith, same, kept_fewer xs ys kept))

put_all : (sent mail later : List Message) (lost : ℕ) → lost ≡ 0 → ArePut sent lost mail later
    → later ≡ mail ++ sent
put_all sent mail later lost none put =
    put.last ∙ ap (λ (ms : List Message). mail ++ ms)
    (kept_all put.put sent put.kept (omega (arith, none, put.count)))

map_both : (xs ys : List Message) → map message_but_serial (xs ++ ys) ≡ map message_but_serial xs
    ++ map message_but_serial ys
map_both [] ys = refl
map_both (x ∷ xs) ys = ap (λ (ms : List Message). message_but_serial x ∷ ms) (map_both xs ys)

-- one event in alike worlds, which loses nothing: it does one thing, and leaves alike worlds
pub step_once : (w x v y : WorldContent) (event : Event) (did also : Did) → AreAlike w x
    → MovesInOneWay w.bank.sharing → IsStep w event did v → IsStep x event also y → did.lost ≡ 0
    → also.lost ≡ 0 → AreOne did.what v also.what y
step_once w x v y event did also alike way is other none nor =
    let acted = traced_once w x is.middle other.middle event did.what also.what alike way is.acted
    other.acted in
    let plan : w.plan ≡ x.plan = ap (λ (u : WorldContent). u.plan) alike in
    let here : AreSent x.plan (what_but_serial also.what) (map message_but_serial is.sent) =
    subst (λ (what : What). AreSent x.plan what (map message_but_serial is.sent)) acted.0
    (subst (λ (p : Planned). AreSent p (what_but_serial did.what)
    (map message_but_serial is.sent)) plan (sent_but w.plan did.what is.sent is.sends)) in
    let sent : map message_but_serial is.sent ≡ map message_but_serial other.sent =
    sent_once x.plan (what_but_serial also.what) (map message_but_serial is.sent)
    (map message_but_serial other.sent) here
    (sent_but x.plan also.what other.sent other.sends) in
    let mail : map message_but_serial v.mail ≡ map message_but_serial y.mail =
    ap (map message_but_serial) (put_all is.sent is.middle.mail v.mail did.lost none is.put)
    ∙ (map_both is.middle.mail is.sent ∙ (ap₂ (λ (xs ys : List Message). xs ++ ys)
    (same_mails is.middle other.middle acted.1) sent
    ∙ (sym (map_both other.middle.mail other.sent)
    ∙ sym (ap (map message_but_serial) (put_all other.sent other.middle.mail y.mail also.lost
    nor other.put))))) in (
      acted.0,
      ap but_serials is.others ∙ (ap (λ (u : WorldContent). with_mail u
          (map message_but_serial v.mail)) acted.1
          ∙ (ap (λ (ms : List Message). with_mail (but_serials other.middle) ms) mail
          ∙ sym (ap but_serials other.others))),
      subst (λ (u : WorldContent). MovesInOneWay u.bank.sharing) (sym is.others) acted.2,
    )
