-- Why the laws of verdicts hold: each excludes the others, one of them holds, and it is true of the
-- state that the offers show.
use Rattle.std.proofs.Common.{◌≡◌, ◌⊎◌, ℕ, ◌<◌, Bool, true, false, not, ◌&&◌, eqb, eq-eqb, eqb-true}
use Rattle.std.proofs.Common.{length, get_or, Option, None, Some, inl, inr, refl, subst, sym, ap}
use Rattle.std.proofs.Common.{◌∙◌}
use Rattle.std.specs.Prelude.{IsTrue, nat_lt, unwrap_or}
use Rattle.std.specs.Option.{option_map_or}
use Rattle.std.specs.List.{list_any}
use Rattle.std.proofs.lemmas.Bool.{and_parts, cases_Bool, false≢true, not-true}
use Rattle.std.proofs.Common.{ltb-true}
use Rattle.std.proofs.lemmas.List.{get_or_default}
use Rattle.std.proofs.lemmas.List.Elements.{All-contains}
use Rattle.std.proofs.lemmas.List.Folds.{Any-from_list_any, list_any-from_Any}
use Rattle.bip_model.specs.Messages.{ShowsState}
use Rattle.bip_model.specs.Parts.{IsSystem, Participant}
use Rattle.bip_model.specs.States.{State}
use Rattle.bip_model.specs.Steps.{moves, participants_of}
use Rattle.bip_model.specs.declared.messages.Offer.{Offer}
use Rattle.bip_model.specs.declared.parts.System.{System}
use Rattle.bip_model.proofs.AboveLemmas.{HasAbove-high}
use Rattle.bip_model.proofs.ClimbLemmas.{Decided}
use Rattle.bip_model.proofs.LookLemmas.{moves_known}
use Rattle.bip_model.specs.Numbering.{IsLowest}
use Rattle.bip_model.proofs.FoundLemmas.{lowest_or_none, lowest_same}
use Rattle.bip_observe.proofs.ExcludeLemmas.{exclude_decided, open_decided}
use Rattle.bip_observe.proofs.ShowLemmas.{AreShown, enable_or_exclude, enabled_there}
use Rattle.bip_observe.proofs.ShowLemmas.{excluded_there, guard_both, guard_there, moves_each}
use Rattle.bip_observe.proofs.ShowLemmas.{off_here, off_there, ready_may_run, shown_own}
use Rattle.bip_observe.specs.Laws.{AllShow, CountedShow, OneVerdict, SomeVerdict, VerdictsAreTrue}
use Rattle.bip_observe.specs.Offers.{AreOwn, Observed}
use Rattle.bip_observe.specs.Verdicts.{AllCount, ArePortsOn, OfferCounts, Enable, IsMissing, IsOff}
use Rattle.bip_observe.specs.Verdicts.{IsOpenAbove, IsVerdict, LacksAbove, guard_holds, is_counted}
use Rattle.bip_observe.specs.Verdicts.{no_offer, offers_of, port_on}
use Rattle.bip_observe.specs.declared.verdicts.Verdict.{Verdict}
use Rattle.bip_observe.specs.declared.verdicts.Verdict.TheVariants.{Ready, NotReady, PortOff}
use Rattle.bip_observe.specs.declared.verdicts.Verdict.TheVariants.{GuardFalse, Below}

-- ---- each excludes the others

pub missing_counts : (v : Observed) (a c : ℕ) → IsLowest (IsMissing v a) c → AllCount v a → ⊥
missing_counts v a c missing all = absurd (false≢true (sym missing.here.1 ∙ all c missing.here.0))

-- a port that is off isn't on
off_on : (m : System) (o : ℕ → Offer) (a c : ℕ) → IsOff m o a c → ArePortsOn m o a → ⊥
off_on m o a c off on = false≢true (sym off.4.1
    ∙ All-contains (λ (q : Participant). IsTrue (port_on o q)) (participants_of m a) off.1 on
    (off.0, off.2, off.3))

-- where all that it moves counts, an interaction is not ready by one above it
lacks : (v : Observed) (a c : ℕ) → IsVerdict v a (NotReady (record { 0 = c })) → AllCount v a
    → LacksAbove v a c
lacks v a c (inl missing) all = absurd (missing_counts v a c missing all)
lacks v a c (inr above) all = above

-- two components that lack an offer are the same
same_missing : (v : Observed) (a c d : ℕ) → IsVerdict v a (NotReady (record { 0 = c }))
    → IsVerdict v a (NotReady (record { 0 = d })) → c ≡ d
same_missing v a c d (inl one) (inl other) = lowest_same (IsMissing v a) c d one other
same_missing v a c d (inl one) (inr other) = absurd (missing_counts v a c one other.counted)
same_missing v a c d (inr one) (inl other) = absurd (missing_counts v a d other one.counted)
same_missing v a c d (inr one) (inr other) =
    let same = lowest_same (IsOpenAbove v a) one.inter other.inter one.open_ other.open_ in
    lowest_same (IsMissing v other.inter) c d
    (subst (λ (b : ℕ). IsLowest (IsMissing v b) c) same one.missing) other.missing

lacks_counts : (v : Observed) (a b c : ℕ) → LacksAbove v a c → IsLowest (IsOpenAbove v a) b
    → AllCount v b → ⊥
lacks_counts v a b c lack open_ all =
    missing_counts v b c (subst (λ (d : ℕ). IsLowest (IsMissing v d) c)
    (lowest_same (IsOpenAbove v a) lack.inter b lack.open_ open_) lack.missing) all

not_open : (v : Observed) (a b : ℕ) → IsLowest (IsOpenAbove v a) b → IsVerdict v a Ready → ⊥
not_open v a b open_ ready = open_.here.1 (ready.clear b open_.here.0)

pub one_verdict : OneVerdict
one_verdict v a (NotReady c) (NotReady d) one other =
    ap (λ n. NotReady (record { 0 = n })) (same_missing v a c.0 d.0 one other)
one_verdict v a (NotReady c) (PortOff d) one other =
    absurd (off_on v.plan.model (offers_of v) a d.0 other.1.here
    (lacks v a c.0 one other.0).enabled.ports)
one_verdict v a (NotReady c) GuardFalse one other =
    absurd (guard_both v.plan.model (offers_of v) a other.2
    (lacks v a c.0 one other.0).enabled.guard)
one_verdict v a (NotReady c) (Below b) one other =
    absurd (lacks_counts v a b.0 c.0 (lacks v a c.0 one other.0) other.2 other.3)
one_verdict v a (NotReady c) Ready one other = let lack = lacks v a c.0 one other.moved in
    absurd (not_open v a lack.inter lack.open_ other)
one_verdict v a (PortOff c) (NotReady d) one other =
    absurd (off_on v.plan.model (offers_of v) a c.0 one.1.here
    (lacks v a d.0 other one.0).enabled.ports)
one_verdict v a (PortOff c) (PortOff d) one other =
    ap (λ n. PortOff (record { 0 = n })) (lowest_same
    (IsOff v.plan.model (offers_of v) a) c.0 d.0 one.1 other.1)
one_verdict v a (PortOff c) GuardFalse one other =
    absurd (off_on v.plan.model (offers_of v) a c.0 one.1.here other.1)
one_verdict v a (PortOff c) (Below b) one other =
    absurd (off_on v.plan.model (offers_of v) a c.0 one.1.here other.1.ports)
one_verdict v a (PortOff c) Ready one other =
    absurd (off_on v.plan.model (offers_of v) a c.0 one.1.here other.enabled.ports)
one_verdict v a GuardFalse (NotReady d) one other =
    absurd (guard_both v.plan.model (offers_of v) a one.2 (lacks v a d.0 other one.0).enabled.guard)
one_verdict v a GuardFalse (PortOff d) one other =
    absurd (off_on v.plan.model (offers_of v) a d.0 other.1.here one.1)
one_verdict v a GuardFalse GuardFalse one other = refl
one_verdict v a GuardFalse (Below b) one other =
    absurd (guard_both v.plan.model (offers_of v) a one.2 other.1.guard)
one_verdict v a GuardFalse Ready one other = absurd (guard_both v.plan.model
    (offers_of v) a one.2 other.enabled.guard)
one_verdict v a (Below b) (NotReady d) one other =
    absurd (lacks_counts v a b.0 d.0 (lacks v a d.0 other one.0) one.2 one.3)
one_verdict v a (Below b) (PortOff d) one other =
    absurd (off_on v.plan.model (offers_of v) a d.0 other.1.here one.1.ports)
one_verdict v a (Below b) GuardFalse one other =
    absurd (guard_both v.plan.model (offers_of v) a other.2 one.1.guard)
one_verdict v a (Below b) (Below d) one other =
    ap (λ n. Below (record { 0 = n })) (lowest_same (IsOpenAbove v a) b.0 d.0 one.2 other.2)
one_verdict v a (Below b) Ready one other = absurd (not_open v a b.0 one.2 other)
one_verdict v a Ready (NotReady d) one other = let lack = lacks v a d.0 other one.moved in
    absurd (not_open v a lack.inter lack.open_ one)
one_verdict v a Ready (PortOff d) one other =
    absurd (off_on v.plan.model (offers_of v) a d.0 other.1.here one.enabled.ports)
one_verdict v a Ready GuardFalse one other = absurd (guard_both v.plan.model
    (offers_of v) a other.2 one.enabled.guard)
one_verdict v a Ready (Below d) one other = absurd (not_open v a d.0 other.2 one)
one_verdict v a Ready Ready one other = refl

-- ---- one of them holds

missing_decided : (v : Observed) (a c : ℕ) → Decided (IsMissing v a c)
missing_decided v a c = elim (cases_Bool (is_counted v c)) [
  | inl counted ↦ inr (λ missing. false≢true (sym missing.1 ∙ counted))
  | inr uncounted ↦ elim (cases_Bool (moves v.plan.model a c)) [
    | inl takes ↦ inl (takes, uncounted)
    | inr rests ↦ inr (λ missing. false≢true (sym rests ∙ missing.0))
  ]
]

-- an interaction has a component that lacks an offer, or all count
missing_or_all : (v : Observed) (a : ℕ) → IsSystem v.plan.model → AllCount v a
    ⊎ ((c : ℕ) × IsLowest (IsMissing v a) c)
missing_or_all v a valid = elim (lowest_or_none (IsMissing v a) (missing_decided v a)
    (length v.plan.model.components)) [
      | inr missing ↦ inr missing
      | inl none ↦ inl (λ c takes. elim (cases_Bool (is_counted v c)) [
        | inl counted ↦ counted
        | inr uncounted ↦ absurd (none c (moves_known v.plan.model a c valid.so_far takes)
            (takes, uncounted))
      ])
    ]

-- whether a participant is of a component, and its port is off
abbrev off_at : (ℕ → Offer) → ℕ → Participant → Bool
off_at o c q = eqb q.0.0 c && not (port_on o q)

off_from : (m : System) (o : ℕ → Offer) (a c : ℕ)
    → list_any (off_at o c) (participants_of m a) ≡ true → IsOff m o a c
off_from m o a c any =
    let at = Any-from_list_any (off_at o c) (participants_of m a) any in
    let both = and_parts (eqb at.1.0.0 c) (not (port_on o at.1)) at.4 in
    (at.0, at.1, at.2, at.3, (eqb-true at.1.0.0 c both.0, not-true (port_on o at.1) both.1))

off_to : (m : System) (o : ℕ → Offer) (a c : ℕ) → IsOff m o a c
    → list_any (off_at o c) (participants_of m a) ≡ true
off_to m o a c off = list_any-from_Any (off_at o c) (participants_of m a)
    (off.0, off.1, off.2, off.3, rw (off.4.1, eq-eqb off.1.0.0 c off.4.0) refl)

off_decided : (m : System) (o : ℕ → Offer) (a c : ℕ) → Decided (IsOff m o a c)
off_decided m o a c = elim (cases_Bool (list_any (off_at o c) (participants_of m a))) [
  | inl any ↦ inl (off_from m o a c any)
  | inr none ↦ inr (λ off. false≢true (sym none ∙ off_to m o a c off))
]

-- an interaction's ports are on where none is off
ports_on : (m : System) (o : ℕ → Offer) (a : ℕ) → IsSystem m
    → ((c : ℕ) → c < length m.components → ¬ IsOff m o a c) → ArePortsOn m o a
ports_on m o a valid none k d within =
    let q = get_or (participants_of m a) k d in
    elim (cases_Bool (port_on o q)) [
      | inl on ↦ on
      | inr off ↦ absurd (none q.0.0 (moves_known m a q.0.0 valid.so_far
          (moves_each m a k d within)) (
            k,
            q,
            within,
            get_or_default (participants_of m a) k q d within,
            (refl, off),
          ))
    ]

-- the offer of a component that counts is its own
pub counted_own : (v : Observed) → AreOwn v → (c : ℕ) → IsTrue (is_counted v c)
    → (offers_of v c).comp.0 ≡ c
counted_own v own c counted = by_held (v.held c) refl counted
  where
    by_held : (o : Option Offer) → v.held c ≡ o
        → option_map_or (λ (offer : Offer). nat_lt (v.known c) offer.number) o false ≡ true
        → (unwrap_or o no_offer).comp.0 ≡ c
    by_held None is counted = absurd (false≢true counted)
    by_held (Some offer) is counted = (own c offer is).0

pub all_own : (v : Observed) → AreOwn v → (c : ℕ) → OfferCounts v c → (offers_of v c).comp.0 ≡ c
all_own v own c counted = counted_own v own c counted

-- an interaction that offers enable has a verdict by what is above it
enabled_verdict : (v : Observed) (a : ℕ) → IsSystem v.plan.model → AreOwn v
    → a < length v.plan.model.interactions → AllCount v a → Enable v.plan.model (offers_of v) a
    → (w : Verdict) × IsVerdict v a w
enabled_verdict v a valid own declared all enable =
    let m = v.plan.model in
    elim (lowest_or_none (IsOpenAbove v a) (open_decided v a) (length m.interactions)) [
      | inr open_ ↦ elim (missing_or_all v open_.0 valid) [
        | inr missing ↦ (
          NotReady (record { 0 = missing.0 }),
          inr (record {
            counted = all;
            enabled = enable;
            inter = open_.0;
            open_ = open_.1;
            missing = missing.1;
          }),
        )
        | inl both ↦ (Below (record { 0 = open_.0 }), (all, enable, open_.1, both))
      ]
      | inl none ↦ (
        Ready,
        record {
          declared = declared;
          moved = all;
          own = all_own v own;
          enabled = enable;
          clear = λ b above. elim (exclude_decided v b) [
            | inl exclude ↦ exclude
            | inr open_ ↦ absurd (none b (HasAbove-high
                (length m.interactions) m.priorities a b valid.so_far.priorities above)
                (above, open_))
          ];
        },
      )
    ]

-- one of which all offers count has one
counted_verdict : (v : Observed) (a : ℕ) → IsSystem v.plan.model → AreOwn v
    → a < length v.plan.model.interactions → AllCount v a → (w : Verdict) × IsVerdict v a w
counted_verdict v a valid own declared all =
    let m = v.plan.model in
    let o = offers_of v in
    elim (lowest_or_none (IsOff m o a) (off_decided m o a) (length m.components)) [
      | inr off ↦ (PortOff (record { 0 = off.0 }), (all, off.1))
      | inl none ↦
          let on : ArePortsOn m o a = ports_on m o a valid none in
          elim (cases_Bool (guard_holds m o a)) [
            | inr not_so ↦ (GuardFalse, (all, on, not_so))
            | inl so ↦ enabled_verdict v a valid own declared all
                (record { ports = on; guard = so })
          ]
    ]

pub some_verdict : SomeVerdict
some_verdict v valid own a declared = elim (missing_or_all v a valid) [
  | inr missing ↦ (NotReady (record { 0 = missing.0 }), inl missing.1)
  | inl all ↦ counted_verdict v a valid own declared all
]

-- ---- and it is true of the state that the offers show

-- the offer of a component that counts shows the state that those that count do
counted_shows : (v : Observed) (s : State) → CountedShow v s
    → AllShow v.plan.model (offers_of v) (OfferCounts v) s
counted_shows v s show c counted = by_held (v.held c) refl counted
  where
    by_held : (o : Option Offer) → v.held c ≡ o
        → option_map_or (λ (offer : Offer). nat_lt (v.known c) offer.number) o false ≡ true
        → ShowsState v.plan.model s (unwrap_or o no_offer)
    by_held None is counted = absurd (false≢true counted)
    by_held (Some offer) is counted = show c offer is (ltb-true (v.known c) offer.number counted)

-- so the offers of an interaction's participants do
shown_in : (v : Observed) (s : State) → AreOwn v → CountedShow v s → (a : ℕ) → AllCount v a
    → AreShown v.plan.model (offers_of v) s a
shown_in v s own show a all = shown_own v.plan.model (offers_of v) (OfferCounts v) s a
    (all_own v own) (counted_shows v s show) all

pub verdicts_true : VerdictsAreTrue
verdicts_true v valid own s show a declared (NotReady c) verdict = tt
verdicts_true v valid own s show a declared (PortOff c) verdict =
    let shown = shown_in v s own show a verdict.0 in
    record {
      here = off_there v.plan.model (offers_of v) s a c.0 shown verdict.1.here;
      lower = λ k below off. verdict.1.lower k below
          (off_here v.plan.model (offers_of v) s a k shown off);
    }
verdicts_true v valid own s show a declared GuardFalse verdict =
    guard_there v.plan.model (offers_of v) s a
    (shown_in v s own show a verdict.0) verdict.1 verdict.2
verdicts_true v valid own s show a declared (Below b) verdict =
    let m = v.plan.model in
    let o = offers_of v in
    let lowest = verdict.2 in
    let known = HasAbove-high (length m.interactions) m.priorities a b.0 valid.so_far.priorities
    lowest.here.0 in (
      enabled_there m o s a declared (shown_in v s own show a verdict.0) verdict.1,
      record {
        above = lowest.here.0;
        enabled = elim (enable_or_exclude m o (OfferCounts v) b.0
            (λ k d within. verdict.3 _ (moves_each m b.0 k d within))) [
              | inl enable ↦ enabled_there m o s b.0 known
                  (shown_in v s own show b.0 verdict.3) enable
              | inr exclude ↦ absurd (lowest.here.1 exclude)
            ];
        lower = λ c below above. elim (exclude_decided v c) [
          | inl exclude ↦ excluded_there m o (OfferCounts v) s c (all_own v own)
              (counted_shows v s show) exclude
          | inr open_ ↦ absurd (lowest.lower c below (above, open_))
        ];
      },
    )
verdicts_true v valid own s show a declared Ready verdict =
    ready_may_run v.plan.model (offers_of v) (OfferCounts v) s a verdict (counted_shows v s show)
