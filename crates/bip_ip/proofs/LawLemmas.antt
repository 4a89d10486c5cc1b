-- One answer to a try and to a reply; what is past stays past.
use Rattle.std.proofs.Common.{◌≡◌, ◌⊎◌, ℕ, ◌+◌, ◌<◌, ◌≤◌, cond, max, List, [], Option, Some, None}
use Rattle.std.proofs.Common.{inl, inr, refl, sym, ap, ◌∙◌, subst, arith}
use Rattle.std.specs.Prelude.{◌==◌}
use Rattle.std.proofs.lemmas.Bool.{eq-eqb}
use Rattle.std.proofs.lemmas.Bool.Decides.{eqb_tells}
use Rattle.bip_model.specs.Numbering.{IsLowest, put}
use Rattle.bip_model.specs.Parties.{AreExplained, AreParties}
use Rattle.bip_model.specs.declared.grants.Grant.{Grant}
use Rattle.bip_model.specs.declared.messages.Notify.{Notify}
use Rattle.bip_model.specs.declared.messages.Reply.{Reply}
use Rattle.bip_model.specs.declared.messages.Reply.TheVariants.{Granted, Refused}
use Rattle.bip_model.specs.declared.messages.Request.{Request}
use Rattle.bip_model.specs.declared.numbering.InterId.{InterId}
use Rattle.bip_model.specs.declared.reasons.Why.{Why}
use Rattle.bip_model.specs.declared.wants.Want.{Want}
use Rattle.bip_model.proofs.FoundLemmas.{lowest_same}
use Rattle.bip_model.proofs.WantLemmas.{one_wants_each}
use Rattle.bip_partition.specs.Plans.{IsReserved}
use Rattle.bip_observe.proofs.ReasonLemmas.{one_reasons_each}
use Rattle.bip_observe.proofs.VerdictLemmas.{one_verdict}
use Rattle.bip_ip.proofs.SufficeLemmas.{asked_suffices}
use Rattle.bip_observe.specs.Offers.{Observed}
use Rattle.bip_observe.specs.Verdicts.{offers_of}
use Rattle.bip_observe.specs.declared.verdicts.Verdict.{Verdict}
use Rattle.bip_observe.specs.declared.verdicts.Verdict.TheVariants.{Ready}
use Rattle.bip_observe.specs.declared.offers.Receipt.TheVariants.{Held, Old, Stranger}
use Rattle.bip_ip.specs.Laws.{AskedFits, AskedStandsInTheWay, IsPast, NextOnlyRises}
use Rattle.bip_ip.specs.Laws.{OneAnswerToAReply, OneAnswerToATry, PastStays, RefusalsTeach}
use Rattle.bip_ip.specs.Laws.{TakenOnce, hears, request_in, takes, tries}
use Rattle.bip_ip.specs.Nodes.{AreWanted, Awaits, CanBeAsked, ClassNode, IsNextRequest, IsOwn}
use Rattle.bip_ip.specs.Nodes.{IsReplyTo, IsTried, StandsInTheWay, inter_in}
use Rattle.bip_ip.specs.declared.nodes.Answered.TheVariants.{Told, Dropped, Stale}
use Rattle.bip_ip.specs.declared.nodes.OpenRecord.{OpenRecord}
use Rattle.bip_ip.specs.declared.nodes.Tried.{Tried}
use Rattle.bip_ip.specs.declared.nodes.Tried.TheVariants.{Foreign, Pending, Not, Local, Ended, Sent}

-- things by their parts
abbrev inter_of : ℕ → InterId
inter_of a = record { 0 = a }

abbrev grant_by : ℕ → List Want → Grant
grant_by a wants = record { inter = inter_of a; wants = wants }

same_grant : (a b : ℕ) (wants others : List Want) → a ≡ b → wants ≡ others
    → grant_by a wants ≡ grant_by b others
same_grant a b wants others inter is = ap (λ (n : ℕ). grant_by n wants) inter ∙ ap (grant_by b) is

same_local : (g h : Grant) (notifies others : List Notify) → g ≡ h → notifies ≡ others
    → Local g notifies ≡ Local h others
same_local g h notifies others grant is = ap (λ (x : Grant). Local x notifies) grant
    ∙ ap (Local h) is

abbrev request_by : ℕ → ℕ → ℕ → List Why → List Want → Request
request_by class number a reasons wants = record {
  wants = wants;
  reasons = reasons;
  request = number;
  class = record { 0 = class };
  inter = inter_of a;
}

same_request : (k l n i a b : ℕ) (ys zs : List Why) (wants others : List Want) → k ≡ l → n ≡ i
    → a ≡ b → ys ≡ zs → wants ≡ others → request_by k n a ys wants ≡ request_by l i b zs others
same_request k l n i a b ys zs wants others class number inter because is =
    rw (class, number, inter, because, is) refl

next_request : (v : ClassNode) (a : ℕ) (q r : Request) → IsNextRequest v a q → IsNextRequest v a r
    → q ≡ r
next_request v a q r one other =
    let because = one_reasons_each v.offers a q.reasons r.reasons one.reasons other.reasons in
    let theirs = subst (λ (ys : List Why). AreWanted v a ys r.wants) (sym because) other.wants in
    same_request q.class.0 r.class.0 q.request r.request q.inter.0 r.inter.0 q.reasons r.reasons
    q.wants r.wants (one.class ∙ sym other.class) (one.number ∙ sym other.number)
    (one.inter ∙ sym other.inter) because
    (one_wants_each v.offers.plan.model (offers_of v.offers) a q.reasons q.wants r.wants one.wants
    theirs)

foreign_alone : (v : ClassNode) (a : ℕ) (other : Tried) → (¬ IsOwn v a) → IsTried v a other
    → Foreign ≡ other
foreign_alone v a Foreign not_own also = refl
foreign_alone v a (Pending c) not_own also = absurd (not_own also.0)
foreign_alone v a (Not x) not_own also = absurd (not_own also.0)
foreign_alone v a (Local h others) not_own also = absurd (not_own also.0.own)
foreign_alone v a Ended not_own also = absurd (not_own also.0.own)
foreign_alone v a (Sent r) not_own also = absurd (not_own also.0.own)

pending_alone : (v : ClassNode) (a : ℕ) (b : InterId) (other : Tried) → IsOwn v a
    → IsLowest (StandsInTheWay v a) b.0 → IsTried v a other → Pending b ≡ other
pending_alone v a b Foreign own lowest also = absurd (also own)
pending_alone v a b (Pending c) own lowest also =
    ap (λ (n : ℕ). Pending (inter_of n)) (lowest_same (StandsInTheWay v a) b.0 c.0 lowest also.1)
pending_alone v a b (Not x) own lowest also = absurd (also.1 b.0 lowest.here)
pending_alone v a b (Local h others) own lowest also = absurd (also.0.free b.0 lowest.here)
pending_alone v a b Ended own lowest also = absurd (also.0.free b.0 lowest.here)
pending_alone v a b (Sent r) own lowest also = absurd (also.0.free b.0 lowest.here)

not_alone : (v : ClassNode) (a : ℕ) (w : Verdict) (other : Tried) → IsTried v a (Not w)
    → IsTried v a other → Not w ≡ other
not_alone v a w Foreign tried also = absurd (also tried.0)
not_alone v a w (Pending c) tried also = absurd (tried.1 c.0 also.1.here)
not_alone v a w (Not x) tried also = ap Not (one_verdict v.offers a w x tried.2 also.2)
not_alone v a w (Local h others) tried also =
    absurd (tried.3 (one_verdict v.offers a w Ready tried.2 also.0.ready))
not_alone v a w Ended tried also = absurd (tried.3
    (one_verdict v.offers a w Ready tried.2 also.0.ready))
not_alone v a w (Sent r) tried also = absurd (tried.3
    (one_verdict v.offers a w Ready tried.2 also.0.ready))

-- what can be asked for isn't refused
pub asked_alone : (v : ClassNode) (a : ℕ) (x : Verdict) → CanBeAsked v a → ¬ IsTried v a (Not x)
asked_alone v a x can also = also.3 (one_verdict v.offers a x Ready also.2 can.ready)

local_alone : (v : ClassNode) (a : ℕ) (g : Grant) (notifies : List Notify) (other : Tried)
    → IsTried v a (Local g notifies) → IsTried v a other → Local g notifies ≡ other
local_alone v a g notifies Foreign tried also = absurd (also tried.0.own)
local_alone v a g notifies (Pending c) tried also = absurd (tried.0.free c.0 also.1.here)
local_alone v a g notifies (Not x) tried also = absurd (asked_alone v a x tried.0 also)
local_alone v a g notifies (Local h others) tried also =
    same_local g h notifies others (same_grant g.inter.0 h.inter.0 g.wants h.wants
    (tried.2 ∙ sym also.2) (one_wants_each v.offers.plan.model (offers_of v.offers) a
    [] g.wants h.wants tried.3 also.3)) (tried.4 ∙ sym also.4)
local_alone v a g notifies Ended tried also = absurd (tried.1 also.1)
local_alone v a g notifies (Sent r) tried also = absurd (tried.1 also.1)

ended_alone : (v : ClassNode) (a : ℕ) (other : Tried) → IsTried v a Ended → IsTried v a other
    → Ended ≡ other
ended_alone v a Foreign tried also = absurd (also tried.0.own)
ended_alone v a (Pending c) tried also = absurd (tried.0.free c.0 also.1.here)
ended_alone v a (Not x) tried also = absurd (asked_alone v a x tried.0 also)
ended_alone v a (Local h others) tried also = absurd (also.1 tried.1)
ended_alone v a Ended tried also = refl
ended_alone v a (Sent r) tried also = absurd (omega (arith, tried.2, also.2))

sent_alone : (v : ClassNode) (a : ℕ) (q : Request) (other : Tried) → IsTried v a (Sent q)
    → IsTried v a other → Sent q ≡ other
sent_alone v a q Foreign tried also = absurd (also tried.0.own)
sent_alone v a q (Pending c) tried also = absurd (tried.0.free c.0 also.1.here)
sent_alone v a q (Not x) tried also = absurd (asked_alone v a x tried.0 also)
sent_alone v a q (Local h others) tried also = absurd (also.1 tried.1)
sent_alone v a q Ended tried also = absurd (omega (arith, tried.2, also.2))
sent_alone v a q (Sent r) tried also = ap Sent (next_request v a q r tried.3 also.3)

pub one_try : OneAnswerToATry
one_try v a Foreign other tried also = foreign_alone v a other tried also
one_try v a (Pending b) other tried also = pending_alone v a b other tried.0 tried.1 also
one_try v a (Not w) other tried also = not_alone v a w other tried also
one_try v a (Local g notifies) other tried also = local_alone v a g notifies other tried also
one_try v a Ended other tried also = ended_alone v a other tried also
one_try v a (Sent q) other tried also = sent_alone v a q other tried also

-- one record waits for a reply
pub one_record : (v : ClassNode) (reply : Reply) (e f : OpenRecord) → Awaits v reply e
    → Awaits v reply f → e ≡ f
one_record v reply e f one other =
    let both : Some e ≡ Some f = sym one.pending ∙ other.pending in
    cc

pub one_reply : OneAnswerToAReply
one_reply v (Granted class request a serial) (Told notifies) (Told others) is also =
    ap Told (is.2 ∙ (ap (λ (e : OpenRecord). e.notifies)
    (one_record v (Granted class request a serial) is.0 also.0 is.1 also.1) ∙ sym also.2))
one_reply v (Granted class request a serial) (Told notifies) Dropped is also = absurd also
one_reply v (Granted class request a serial) (Told notifies) Stale is also = absurd (also is.0 is.1)
one_reply v (Granted class request a serial) Dropped other is also = absurd is
one_reply v (Granted class request a serial) Stale (Told others) is also = absurd (is also.0 also.1)
one_reply v (Granted class request a serial) Stale Dropped is also = absurd also
one_reply v (Granted class request a serial) Stale Stale is also = refl
one_reply v (Refused class request a c used) (Told notifies) other is also = absurd is
one_reply v (Refused class request a c used) Dropped (Told others) is also = absurd also
one_reply v (Refused class request a c used) Dropped Dropped is also = refl
one_reply v (Refused class request a c used) Dropped Stale is also = absurd (also is.0 is.1)
one_reply v (Refused class request a c used) Stale (Told others) is also = absurd also
one_reply v (Refused class request a c used) Stale Dropped is also = absurd (is also.0 also.1)
one_reply v (Refused class request a c used) Stale Stale is also = refl

pub asked_fits : AskedFits
asked_fits v a q tried =
    let next = tried.3 in
    record {
      reserved = subst (IsReserved v.offers.plan) (sym next.inter) tried.1;
      class = rw next.inter (next.class ∙ sym tried.0.own.class);
      parties = subst (λ (b : ℕ). AreParties v.offers.plan.model b q.wants)
          (sym next.inter) next.wants.parties;
      explained = subst (λ (b : ℕ). AreExplained v.offers.plan.model b q.wants q.reasons)
          (sym next.inter) (asked_suffices v a q tried).explained;
    }

pub asked_stands_in_the_way : AskedStandsInTheWay
asked_stands_in_the_way v a b q tried meets = (rw (eq-eqb a a refl) refl, meets)

-- the number of the request that a reply is to
to_request : (reply : Reply) (q : Request) → IsReplyTo reply q → q.request ≡ request_in reply
to_request (Granted class request a serial) q to = to.1
to_request (Refused class request a c used) q to = to.1

-- a record that was put, or one that was there
put_record : (f : ℕ → Option OpenRecord) (a b : ℕ) (x : Option OpenRecord) (e : OpenRecord)
    → put f a x b ≡ Some e → ((b ≡ a) × (x ≡ Some e)) ⊎ (f b ≡ Some e)
put_record f a b x e is = elim (eqb_tells b a) [
  | inl same ↦ inl (same.1, rw same.0 at is)
  | inr apart ↦ inr (rw apart.0 at is)
]

-- where the record that waited is gone, its reply is past
past_after : (v later : ClassNode) (reply : Reply) (e : OpenRecord)
    → later.pending ≡ put v.pending (inter_in reply) None → later.next ≡ v.next → Awaits v reply e
    → e.request.request < v.next → IsPast later reply
past_after v later reply e pending next awaits earlier = record {
  made = omega (arith, next, earlier, to_request reply e.request awaits.to);
  over = λ f still.
      let read : put v.pending (inter_in reply) None (inter_in reply) ≡ Some f =
      ap (λ (g : ℕ → Option OpenRecord). g (inter_in reply)) (sym pending) ∙ still.pending in
      let none : None ≡ Some f = rw (eq-eqb (inter_in reply) (inter_in reply) refl) at read in
      absurd (cc);
}

pub taken_once : TakenOnce
taken_once v later (Granted class request a serial) e (Told notifies) awaits earlier answered left =
    let is = left e awaits in
    past_after v later (Granted class request a serial) e (ap (λ (u : ClassNode). u.pending) is)
    (ap (λ (u : ClassNode). u.next) is) awaits earlier
taken_once v later (Granted class request a serial) e Dropped awaits earlier answered left =
    absurd answered
taken_once v later (Granted class request a serial) e Stale awaits earlier answered left =
    absurd (answered e awaits)
taken_once v later (Refused class request a c used) e (Told notifies) awaits earlier answered left =
    absurd answered
taken_once v later (Refused class request a c used) e Dropped awaits earlier answered left =
    past_after v later (Refused class request a c used) e left.pending left.next awaits earlier
taken_once v later (Refused class request a c used) e Stale awaits earlier answered left =
    absurd (answered e awaits)

-- what is past stays so where records stay
past_same : (v later : ClassNode) (reply : Reply) → later.pending ≡ v.pending → later.next ≡ v.next
    → IsPast v reply → IsPast later reply
past_same v later reply pending next past = record {
  made = omega (arith, next, past.made);
  over = λ e still. past.over e (record {
    pending = ap (λ (g : ℕ → Option OpenRecord). g
        (inter_in reply)) (sym pending) ∙ still.pending;
    to = still.to;
  });
}

-- where one goes
past_fewer : (v later : ClassNode) (reply : Reply) (b : ℕ) → later.pending ≡ put v.pending b None
    → later.next ≡ v.next → IsPast v reply → IsPast later reply
past_fewer v later reply b pending next past = record {
  made = omega (arith, next, past.made);
  over = λ e still.
      let read : put v.pending b None (inter_in reply) ≡ Some e =
      ap (λ (g : ℕ → Option OpenRecord). g (inter_in reply)) (sym pending) ∙ still.pending in
      elim (put_record v.pending b (inter_in reply) None e read) [
        | inl here ↦ absurd (cc)
        | inr there ↦ past.over e (record { pending = there; to = still.to })
      ];
}

-- and where one comes
past_more : (v later : ClassNode) (reply : Reply) (b : ℕ) (f : OpenRecord)
    → later.pending ≡ put v.pending b (Some f) → later.next ≡ v.next + 1
    → f.request.request ≡ v.next → IsPast v reply → IsPast later reply
past_more v later reply b f pending next number past = record {
  made = omega (arith, next, past.made);
  over = λ e still.
      let read : put v.pending b (Some f) (inter_in reply) ≡ Some e =
      ap (λ (g : ℕ → Option OpenRecord). g (inter_in reply)) (sym pending) ∙ still.pending in
      elim (put_record v.pending b (inter_in reply) (Some f) e read) [
        | inl here ↦
            let same : f ≡ e = cc in
            let to : f.request.request ≡ request_in reply =
            rw same (to_request reply e.request still.to) in
            absurd (omega (arith, to, number, past.made))
        | inr there ↦ past.over e (record { pending = there; to = still.to })
      ];
}

past_unchanged : (v later : ClassNode) (reply : Reply) → later ≡ v → IsPast v reply
    → IsPast later reply
past_unchanged v later reply same past = subst (λ (u : ClassNode). IsPast u reply) (sym same) past

pub past_stays : PastStays
past_stays v later reply (hears offer Held is left) past =
    past_same v later reply (ap (λ (u : ClassNode). u.pending) left)
    (ap (λ (u : ClassNode). u.next) left) past
past_stays v later reply (hears offer Old is left) past = past_unchanged v later reply left past
past_stays v later reply (hears offer Stranger is left) past =
    past_unchanged v later reply left past
past_stays v later reply (tries a Foreign tried left) past = past_unchanged v later reply left past
past_stays v later reply (tries a (Pending b) tried left) past =
    past_unchanged v later reply left past
past_stays v later reply (tries a (Not w) tried left) past = past_unchanged v later reply left past
past_stays v later reply (tries a (Local g notifies) tried left) past =
    past_same v later reply (ap (λ (u : ClassNode). u.pending) left)
    (ap (λ (u : ClassNode). u.next) left) past
past_stays v later reply (tries a Ended tried left) past = past_unchanged v later reply left past
past_stays v later reply (tries a (Sent q) tried left) past =
    past_more v later reply a _ (ap (λ (u : ClassNode). u.pending) left)
    (ap (λ (u : ClassNode). u.next) left) tried.3.number past
past_stays v later reply (takes (Granted class request a serial) (Told notifies) answered left)
    past =
    let is = left answered.0 answered.1 in
    past_fewer v later reply a.0 (ap (λ (u : ClassNode). u.pending) is)
    (ap (λ (u : ClassNode). u.next) is) past
past_stays v later reply (takes (Granted class request a serial) Dropped answered left) past =
    absurd answered
past_stays v later reply (takes (Granted class request a serial) Stale answered left) past =
    past_unchanged v later reply left past
past_stays v later reply (takes (Refused class request a c used) (Told notifies) answered left)
    past = absurd answered
past_stays v later reply (takes (Refused class request a c used) Dropped answered left) past =
    past_fewer v later reply a.0 left.pending left.next past
past_stays v later reply (takes (Refused class request a c used) Stale answered left) past =
    past_unchanged v later reply left past

-- a refusal teaches one number
pub refusals_teach : RefusalsTeach
refusals_teach v later a c used e left pending wanted b =
    subst (λ (o : Observed). (v.offers.known b ≤ o.known b)
    × (o.known b ≤ max (v.offers.known b) (cond (b == c) used 0)))
    (sym (left.wanted e pending wanted)) (elim (eqb_tells b c) [
      | inl same ↦ let is : v.offers.known b ≡ v.offers.known c = ap v.offers.known same.1 in
          rw same.0 (omega arith, omega arith)
      | inr other ↦ rw other.0 (omega arith, omega arith)
    ])

-- request numbers only rise
pub next_only_rises : NextOnlyRises
next_only_rises v later (hears offer Held is left) =
    omega (arith, ap (λ (u : ClassNode). u.next) left)
next_only_rises v later (hears offer Old is left) =
    omega (arith, ap (λ (u : ClassNode). u.next) left)
next_only_rises v later (hears offer Stranger is left) =
    omega (arith, ap (λ (u : ClassNode). u.next) left)
next_only_rises v later (tries a Foreign tried left) =
    omega (arith, ap (λ (u : ClassNode). u.next) left)
next_only_rises v later (tries a (Pending b) tried left) =
    omega (arith, ap (λ (u : ClassNode). u.next) left)
next_only_rises v later (tries a (Not w) tried left) =
    omega (arith, ap (λ (u : ClassNode). u.next) left)
next_only_rises v later (tries a (Local g notifies) tried left) =
    omega (arith, ap (λ (u : ClassNode). u.next) left)
next_only_rises v later (tries a Ended tried left) =
    omega (arith, ap (λ (u : ClassNode). u.next) left)
next_only_rises v later (tries a (Sent q) tried left) =
    omega (arith, ap (λ (u : ClassNode). u.next) left)
next_only_rises v later (takes (Granted class request a serial) (Told notifies) answered left) =
    omega (arith, ap (λ (u : ClassNode). u.next) (left answered.0 answered.1))
next_only_rises v later (takes (Granted class request a serial) Dropped answered left) =
    absurd answered
next_only_rises v later (takes (Granted class request a serial) Stale answered left) =
    omega (arith, ap (λ (u : ClassNode). u.next) left)
next_only_rises v later (takes (Refused class request a c used) (Told notifies) answered left) =
    absurd answered
next_only_rises v later (takes (Refused class request a c used) Dropped answered left) =
    omega (arith, left.next)
next_only_rises v later (takes (Refused class request a c used) Stale answered left) =
    omega (arith, ap (λ (u : ClassNode). u.next) left)
