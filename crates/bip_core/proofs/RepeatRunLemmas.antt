-- Two runs of the same events are one; and a plan has one new world above a base.
use Rattle.std.proofs.Common.{◌≡◌, ℕ, zero, suc, ◌+◌, cond, Bool, List, [], ◌∷◌, ◌++◌, Option, Some}
use Rattle.std.proofs.Common.{None, length, map, refl, sym, ap, ap₂, ◌∙◌, subst, arith}
use Rattle.std.specs.Prelude.{count_by, is_some, sum_by}
use Rattle.std.proofs.Math.Path.{fun_ext}
use Rattle.std.proofs.lemmas.List.Sums.{sum_by-cons}
use Rattle.bip_model.specs.declared.grants.Grant.{Grant}
use Rattle.bip_model.specs.declared.messages.Offer.{Offer}
use Rattle.bip_model.specs.declared.states.LocalState.{LocalState}
use Rattle.bip_partition.specs.Plans.{Planned}
use Rattle.bip_observe.proofs.OfferLemmas.{one_offer_each}
use Rattle.bip_component.specs.Components.{IsFirst, IsOffered, Node}
use Rattle.bip_ip.specs.Nodes.{ClassNode}
use Rattle.bip_bank.specs.Banks.{BankContent, asked_nothing}
use Rattle.bip_bank.specs.Decisions.Decision.TheVariants as decision
use Rattle.bip_bank.specs.Laws.{MovesInOneWay}
use Rattle.bip_bank.specs.declared.banks.Acted.TheVariants as acted
use Rattle.bip_core.proofs.RepeatLemmas.{grant_but, one_offering, same_some, step_once}
use Rattle.bip_core.proofs.RepeatLemmas.{what_but_serial}
use Rattle.bip_core.specs.Repeats.{AreAlike, OneNewWorld, OneRun, but_serials}
use Rattle.bip_core.specs.Runs.{AreSteps, IsLossless, did_so, is_grant, is_idle, is_refusal}
use Rattle.bip_core.specs.Runs.{lost_by, report_of, was_skipped}
use Rattle.bip_core.specs.Starting.{AreOffersBelow, IsFirstClass, IsFirstComponent}
use Rattle.bip_core.specs.Worlds.{AreOffersOf, WorldContent}
use Rattle.bip_core.specs.declared.events.Did.{Did}
use Rattle.bip_core.specs.declared.events.Event.{Event}
use Rattle.bip_core.specs.declared.events.What.{What}
use Rattle.bip_core.specs.declared.events.What.TheVariants.{Acts, Hears, Learns, Moves, Nothing}
use Rattle.bip_core.specs.declared.events.What.TheVariants.{Submits, Tries}
use Rattle.bip_core.specs.declared.messages.Message.{Message}
use Rattle.bip_core.specs.declared.runs.Report.{Report}

-- what an event did, but for the serial of a grant
abbrev did_but : Option Did → Option Did
did_but None = None
did_but (Some did) = Some (record { what = what_but_serial did.what; lost = did.lost })

-- events of which none was skipped, and that lost nothing
abbrev AllWhole : List (Option Did) → Type 0
AllWhole dids = (count_by was_skipped dids ≡ 0) × (sum_by lost_by dids ≡ 0)

whole_first : (did : Did) (dids : List (Option Did)) → AllWhole (Some did ∷ dids) → (did.lost ≡ 0)
    × AllWhole dids
whole_first did dids (done, sent) =
    let skips = sum_by-cons (λ x. cond (was_skipped x) 1 0) (Some did) dids in
    let loses = sum_by-cons lost_by (Some did) dids in
    (omega (arith, sent, loses), (omega (arith, done, skips), omega (arith, sent, loses)))

not_skipped : (dids : List (Option Did)) → AllWhole (None ∷ dids) → ⊥
not_skipped dids (done, sent) = omega (
  arith,
  done,
  sum_by-cons (λ x. cond (was_skipped x) 1 0) None dids,
)

abbrev did_by : What → ℕ → Option Did
did_by what lost = Some (record { what = what; lost = lost })

same_did : (a b : What) (m n : ℕ) → a ≡ b → m ≡ n → did_by a m ≡ did_by b n
same_did a b m n whats losses = rw (whats, losses) refl

abbrev SameRuns : List (Option Did) → List (Option Did) → WorldContent → WorldContent → Type 0
SameRuns dids also v y = (map did_but dids ≡ map did_but also) × AreAlike v y
    × MovesInOneWay v.bank.sharing

steps_once : (events : List Event) (dids also : List (Option Did)) (w x v y : WorldContent)
    → AreAlike w x → MovesInOneWay w.bank.sharing → AreSteps events dids w v
    → AreSteps events also x y → AllWhole dids → AllWhole also
    → SameRuns dids also v y
steps_once [] [] [] w x v y alike way is other whole so = (
  refl,
  ap but_serials is ∙ (alike ∙ sym (ap but_serials other)),
  subst (λ (u : WorldContent). MovesInOneWay u.bank.sharing) (sym is) way,
)
steps_once [] (d ∷ ds) also w x v y alike way is other whole so = absurd is
steps_once [] [] (o ∷ os) w x v y alike way is other whole so = absurd other
steps_once (e ∷ es) [] also w x v y alike way is other whole so = absurd is
steps_once (e ∷ es) (None ∷ ds) also w x v y alike way is other whole so =
    absurd (not_skipped ds whole)
steps_once (e ∷ es) (Some d ∷ ds) [] w x v y alike way is other whole so = absurd other
steps_once (e ∷ es) (Some d ∷ ds) (None ∷ os) w x v y alike way is other whole so =
    absurd (not_skipped os so)
steps_once (e ∷ es) (Some d ∷ ds) (Some o ∷ os) w x v y alike way is other whole so =
    let none = whole_first d ds whole in
    let nor = whole_first o os so in
    let first = step_once w x is.0 other.0 e d o alike way is.1 other.1 none.0 nor.0 in
    let rest = steps_once es ds os is.0 other.0 v y first.1 first.2 is.2 other.2 none.1 nor.1 in (
      ap₂ (λ (z : Option Did) (zs : List (Option Did)). z ∷ zs)
          (same_did (what_but_serial d.what) (what_but_serial o.what) d.lost o.lost first.0
          (none.0 ∙ sym nor.0)) rest.0,
      rest.1,
      rest.2,
    )

-- no sum of a report depends on a serial
sums_but : (f : Option Did → ℕ) → ((d : Option Did) → f (did_but d) ≡ f d)
    → (ds : List (Option Did)) → sum_by f (map did_but ds) ≡ sum_by f ds
sums_but f same [] = refl
sums_but f same (d ∷ ds) =
    sum_by-cons f (did_but d) (map did_but ds)
    ∙ (ap₂ (λ (m n : ℕ). m + n) (same d) (sums_but f same ds) ∙ sym (sum_by-cons f d ds))

sum_same : (f : Option Did → ℕ) → ((d : Option Did) → f (did_but d) ≡ f d)
    → (ds es : List (Option Did)) → map did_but ds ≡ map did_but es → sum_by f ds ≡ sum_by f es
sum_same f same ds es alike = sym (sums_but f same ds) ∙ (ap (sum_by f) alike ∙ sums_but f same es)

refusal_but : (what : What) → is_refusal (what_but_serial what) ≡ is_refusal what
refusal_but Nothing = refl
refusal_but (Hears receipt) = refl
refusal_but Submits = refl
refusal_but (Learns did) = refl
refusal_but (Moves did) = refl
refusal_but (Tries did) = refl
refusal_but (Acts acted.Nothing) = refl
refusal_but (Acts acted.Moved) = refl
refusal_but (Acts (acted.Answered q (decision.Granted serial))) = refl
refusal_but (Acts (acted.Answered q (decision.Refused c used))) = refl

idle_but : (what : What) → is_idle (what_but_serial what) ≡ is_idle what
idle_but Nothing = refl
idle_but (Hears receipt) = refl
idle_but Submits = refl
idle_but (Learns did) = refl
idle_but (Moves did) = refl
idle_but (Tries did) = refl
idle_but (Acts acted.Nothing) = refl
idle_but (Acts acted.Moved) = refl
idle_but (Acts (acted.Answered q d)) = refl

abbrev one_if : Bool → ℕ
one_if b = cond b 1 0

did_so_but : (kind : What → Bool) → ((what : What) → kind (what_but_serial what) ≡ kind what)
    → (d : Option Did) → one_if (did_so kind (did_but d)) ≡ one_if (did_so kind d)
did_so_but kind same None = refl
did_so_but kind same (Some did) = ap one_if (same did.what)

lost_but : (d : Option Did) → lost_by (did_but d) ≡ lost_by d
lost_but None = refl
lost_but (Some did) = refl

skipped_but : (d : Option Did) → one_if (was_skipped (did_but d)) ≡ one_if (was_skipped d)
skipped_but None = refl
skipped_but (Some did) = refl

same_length : (ds es : List (Option Did)) → map did_but ds ≡ map did_but es → length ds ≡ length es
same_length [] [] is = refl
same_length [] (e ∷ es) is = cc
same_length (d ∷ ds) [] is = cc
same_length (d ∷ ds) (e ∷ es) is =
    let rest : map did_but ds ≡ map did_but es = cc in
    ap suc (same_length ds es rest)

abbrev report_by : ℕ → ℕ → ℕ → ℕ → ℕ → ℕ → Report
report_by lost events grants refusals idle skipped =
    record {
      lost = lost;
      events = events;
      grants = grants;
      refusals = refusals;
      idle = idle;
      skipped = skipped;
    }

same_reports : (a b c d e f g h i j k l : ℕ) → a ≡ g → b ≡ h → c ≡ i → d ≡ j → e ≡ k → f ≡ l
    → report_by a b c d e f ≡ report_by g h i j k l
same_reports a b c d e f g h i j k l lost events grants refusals idle skipped =
    rw (lost, events, grants, refusals, idle, skipped) refl

same_report : (ds es : List (Option Did)) → map did_but ds ≡ map did_but es
    → report_of ds ≡ report_of es
same_report ds es alike =
    same_reports _ _ _ _ _ _ _ _ _ _ _ _
    (sum_same lost_by lost_but ds es alike)
    (same_length ds es alike)
    (sum_same (λ x. cond (did_so is_grant x) 1 0)
    (did_so_but is_grant (λ what. ap is_some (sym (grant_but what)))) ds es alike)
    (sum_same (λ x. cond (did_so is_refusal x) 1 0) (did_so_but is_refusal refusal_but) ds es alike)
    (sum_same (λ x. cond (did_so is_idle x) 1 0) (did_so_but is_idle idle_but) ds es alike)
    (sum_same (λ x. cond (was_skipped x) 1 0) skipped_but ds es alike)

lossless : (report : Report) (dids : List (Option Did)) → report ≡ report_of dids
    → IsLossless report → AllWhole dids
lossless report dids sums whole = (
  sym (ap (λ (r : Report). r.skipped) sums) ∙ whole.done,
  sym (ap (λ (r : Report). r.lost) sums) ∙ whole.sent,
)

pub one_run : OneRun
one_run events w v x report other way is also whole so =
    let once = steps_once events is.dids also.dids w w v x refl way is.steps also.steps
    (lossless report is.dids is.sums whole) (lossless other also.dids also.sums so) in
    record {
      traces = ap (λ (u : WorldContent). u.trace) once.1;
      reports = is.sums ∙ (same_report is.dids also.dids once.0 ∙ sym also.sums);
      worlds = once.1;
    }

-- The new world.

abbrev component_by : Planned → ℕ → ℕ → LocalState → Bool → Node
component_by p c number local spent = record {
  plan = p;
  comp = c;
  number = number;
  local = local;
  spent = spent;
}

same_component : (p q : Planned) (c d n k : ℕ) (l m : LocalState) (a b : Bool) → p ≡ q → c ≡ d
    → n ≡ k → l ≡ m → a ≡ b → component_by p c n l a ≡ component_by q d k m b
same_component p q c d n k l m a b plans comps numbers locals spent =
    rw (plans, comps, numbers, locals, spent) refl

first_node_once : (p : Planned) (base c : ℕ) (x y : Option Node) → IsFirstComponent p base c x
    → IsFirstComponent p base c y → x ≡ y
first_node_once p base c None None is other = refl
first_node_once p base c None (Some y) is other = absurd (omega (arith, is, other.0))
first_node_once p base c (Some x) None is other = absurd (omega (arith, is.0, other))
first_node_once p base c (Some x) (Some y) is other = ap Some (both is.1 other.1)
  where
    both : IsFirst p c base x → IsFirst p c base y → x ≡ y
    both one two =
        same_component x.plan y.plan x.comp y.comp x.number y.number x.local y.local x.spent y.spent
        (one.plan ∙ sym two.plan) (one.comp ∙ sym two.comp) (one.number ∙ sym two.number)
        (same_some x.local y.local (sym one.local ∙ two.local)) (one.unspent ∙ sym two.unspent)

first_class_once : (p : Planned) (base k : ℕ) (x y : Option ClassNode) → IsFirstClass p base k x
    → IsFirstClass p base k y → x ≡ y
first_class_once p base k None None is other = refl
first_class_once p base k None (Some y) is other = absurd (omega (arith, is, other.0))
first_class_once p base k (Some x) None is other = absurd (omega (arith, is.0, other))
first_class_once p base k (Some x) (Some y) is other = ap Some (is.1 ∙ sym other.1)

offers_once : (n : ℕ) (p : Planned) (nodes : ℕ → Option Node) (xs ys : List Message)
    → AreOffersBelow n p nodes xs → AreOffersBelow n p nodes ys → xs ≡ ys
offers_once zero p nodes xs ys is other = is ∙ sym other
offers_once (suc c) p nodes xs ys (node, offer, before, last, here, offered, sent, below, is)
    (other, same, front, back, there, also, sends, lower, so) =
    let one : node ≡ other = same_some node other (sym here ∙ there) in
    let first : offer ≡ same = one_offer_each other.plan.model other.comp other.number other.local
    offer same (subst (λ (n : Node). IsOffered n (Some offer)) one offered).1 also.1 in
    let lasts : last ≡ back = one_offering p same last back
    (subst (λ (o : Offer). AreOffersOf p o last) first sent) sends in
    is ∙ (ap₂ (λ (ms ns : List Message). ms ++ ns)
    (offers_once c p nodes before front below lower) lasts ∙ sym so)

abbrev world_by : Planned → (ℕ → Option Node) → (ℕ → Option ClassNode) → List Message → List Grant
    → BankContent → WorldContent
world_by p components classes mail trace bank =
    record {
      plan = p;
      components = components;
      classes = classes;
      mail = mail;
      trace = trace;
      bank = bank;
    }

same_world : (p q : Planned) (c d : ℕ → Option Node) (k l : ℕ → Option ClassNode)
    (m n : List Message) (s t : List Grant) (a b : BankContent) → p ≡ q → c ≡ d → k ≡ l → m ≡ n
    → s ≡ t → a ≡ b
    → world_by p c k m s a ≡ world_by q d l n t b
same_world p q c d k l m n s t a b plans components classes mails traces banks =
    rw (plans, components, classes, mails, traces, banks) refl

pub one_new_world : OneNewWorld
one_new_world p base w v new other sharing =
    let components : w.components ≡ v.components =
    fun_ext (λ c. first_node_once p base c (w.components c) (v.components c) (new.components c)
    (other.components c)) in
    let classes : w.classes ≡ v.classes = fun_ext
    (λ k. first_class_once p base k (w.classes k) (v.classes k) (new.classes k)
    (other.classes k)) in
    let mail : w.mail ≡ v.mail = offers_once (length p.model.components) p v.components w.mail
    v.mail (subst (λ (nodes : ℕ → Option Node). AreOffersBelow
    (length p.model.components) p nodes w.mail) components new.mail) other.mail in
    same_world w.plan v.plan w.components v.components w.classes v.classes w.mail v.mail w.trace
    v.trace w.bank v.bank (new.plan ∙ sym other.plan) components classes mail
    (new.trace ∙ sym other.trace)
    (new.bank ∙ (ap (asked_nothing p base) sharing ∙ sym other.bank))
