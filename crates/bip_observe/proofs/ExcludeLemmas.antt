-- What offers that count exclude, as a test.
use Rattle.std.proofs.Common.{◌≡◌, ℕ, Bool, true, false, not, ◌&&◌, ◌||◌, inl, inr, refl, sym, ◌∙◌}
use Rattle.std.specs.List.{list_all, list_any}
use Rattle.std.proofs.lemmas.Bool.{and_parts, cases_Bool, false≢true, not-true, or_cases}
use Rattle.std.proofs.lemmas.List.Folds.{Any-from_list_any, list_any-from_Any}
use Rattle.std.proofs.lemmas.List.Sums.{AllPass-from_list_all, list_all-from_AllPass}
use Rattle.bip_model.specs.Parts.{Participant}
use Rattle.bip_model.specs.Steps.{participants_of}
use Rattle.bip_model.proofs.ClimbLemmas.{Decided, HasAbove-decided}
use Rattle.bip_observe.specs.Offers.{Observed}
use Rattle.bip_observe.specs.Verdicts.{OfferCounts, Exclude, IsOpenAbove, excludes, guard_holds}
use Rattle.bip_observe.specs.Verdicts.{is_counted, is_known_off, offers_of, port_on}

or_true : (b : Bool) → (b || true) ≡ true
or_true true = refl
or_true false = refl

module _ (v : Observed) (b : ℕ) where
  abbrev counted : Participant → Bool
  counted q = is_counted v q.0.0

  pub exclude_from : excludes v b ≡ true → Exclude v.plan.model (offers_of v) (OfferCounts v) b
  exclude_from test = elim (or_cases (list_any (is_known_off v) (participants_of v.plan.model b))
      (list_all counted (participants_of v.plan.model b) && not
      (guard_holds v.plan.model (offers_of v) b)) test) [
        | inl some ↦
            let at = Any-from_list_any (is_known_off v) (participants_of v.plan.model b) some in
            let both = and_parts (is_counted v at.1.0.0) (not (port_on (offers_of v) at.1)) at.4 in
            inl (at.0, at.1, at.2, at.3, (both.0, not-true (port_on (offers_of v) at.1) both.1))
        | inr rest ↦
            let both = and_parts (list_all counted (participants_of v.plan.model b))
            (not (guard_holds v.plan.model (offers_of v) b)) rest in
            inr (
              AllPass-from_list_all counted (participants_of v.plan.model b) both.0,
              not-true (guard_holds v.plan.model (offers_of v) b) both.1,
            )
      ]

  pub exclude_to : Exclude v.plan.model (offers_of v) (OfferCounts v) b → excludes v b ≡ true
  exclude_to exclude = elim exclude [
    | inl at ↦
        let here : is_known_off v at.1 ≡ true = rw (at.4.0, at.4.1) refl in
        rw (list_any-from_Any (is_known_off v) (participants_of v.plan.model b)
        (at.0, at.1, at.2, at.3, here)) refl
    | inr both ↦
        rw (list_all-from_AllPass counted (participants_of v.plan.model b) both.0, both.1)
        (or_true (list_any (is_known_off v) (participants_of v.plan.model b)))
  ]

  pub exclude_decided : Decided (Exclude v.plan.model (offers_of v) (OfferCounts v) b)
  exclude_decided = elim (cases_Bool (excludes v b)) [
    | inl is ↦ inl (exclude_from is)
    | inr not_so ↦ inr (λ exclude. false≢true (sym not_so ∙ exclude_to exclude))
  ]

-- an interaction above another is open, or it isn't
pub open_decided : (v : Observed) (a b : ℕ) → Decided (IsOpenAbove v a b)
open_decided v a b = elim (HasAbove-decided v.plan.model.priorities a b) [
  | inr apart ↦ inr (λ both. apart both.0)
  | inl above ↦ elim (exclude_decided v b) [
    | inl exclude ↦ inr (λ both. both.1 exclude)
    | inr open_ ↦ inl (above, open_)
  ]
]
