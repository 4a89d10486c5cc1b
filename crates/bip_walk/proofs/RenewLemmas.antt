-- What can be drawn stays as it is where what was granted isn't in conflict with it.
use Rattle.std.proofs.Common.{◌≡◌, ◌≢◌, ◌∙◌, ◌+◌, ◌++◌, ◌∷◌, ◌<◌, ℕ, Bool, false, List}
use Rattle.std.proofs.Common.{[], None, Option, Some, ap, arith, cond, get_or, inl, inr, length}
use Rattle.std.proofs.Common.{refl, replicate, set, subst, suc, sym, zero}
use Rattle.std.specs.Prelude.{◌↔◌, IsTrue}
use Rattle.std.proofs.lemmas.Bool.{cases_Bool, cases_lt, cases_order, false≢true}
use Rattle.std.proofs.lemmas.List.{get_or-set_other, get_or-set_same}
use Rattle.bip_model.proofs.HistoryLemmas.{used_by-push}
use Rattle.bip_model.proofs.LawLemmas.{others_stay}
use Rattle.bip_model.proofs.LookLemmas.{may_run_is_local}
use Rattle.bip_model.specs.Numbering.{last_number}
use Rattle.bip_model.specs.Priorities.{inter}
use Rattle.bip_model.specs.Steps.{after, moves, start_of}
use Rattle.bip_model.specs.Wants.{raised}
use Rattle.bip_model.specs.declared.grants.Grant.{Grant}
use Rattle.bip_model.specs.declared.numbering.InterId.{InterId}
use Rattle.bip_model.specs.declared.parts.System.{System}
use Rattle.bip_partition.specs.Plans.{InConflict, Touches}
use Rattle.bip_replay.proofs.NextLemmas.{raised_expected}
use Rattle.bip_replay.proofs.RunLemmas.{end_of-push}
use Rattle.bip_replay.specs.Book.{Content}
use Rattle.bip_replay.specs.Expected.{IsExpectedGrant}
use Rattle.bip_replay.specs.Runs.{Standing, standing_after, standing_on}
use Rattle.bip_walk.specs.Choices.{TellDrawable, AreDrawable, AreRenewed, CanBeDrawn, IsChanged}
use Rattle.bip_walk.specs.Choices.{IsListChosen, IsRenewedAt}
use Rattle.bip_walk.specs.Walking.{TellDrawableOf}

-- one more grant leads on
pub leads_on : (m : System) (base : ℕ) (gs : List Grant) (g : Grant)
    → standing_after m base (gs ++ g ∷ []) ≡ standing_on (standing_after m base gs) g
leads_on m base gs g = rw (end_of-push m (start_of m) gs g, used_by-push (λ c. base) gs g) refl

module _ (p : Standing) (g : Grant) (a : ℕ) (full : IsExpectedGrant p g.inter.0 g)
    (free : ¬ InConflict p.model g.inter.0 a) where
  -- it moves nothing that is touched
  not_moved_by : (c : ℕ) → Touches p.model a c → moves p.model g.inter.0 c ≡ false
  not_moved_by c touched = elim (cases_Bool (moves p.model g.inter.0 c)) [
    | inl moved ↦ absurd (free (c, (inl moved, touched, inl moved)))
    | inr stays ↦ stays
  ]

  used_stays : (c : ℕ) → Touches p.model a c → raised p.used g.wants c ≡ p.used c
  used_stays c touched =
      raised_expected p g.inter.0 g c full
      ∙ ap (λ b. cond b (p.used c + 1) (p.used c)) (not_moved_by c touched)

  pub can_stay : CanBeDrawn p a ↔ CanBeDrawn (standing_on p g) a
  can_stay =
      let local = may_run_is_local p.model p.state (after p.model p.state g.inter.0) a
      (λ c touched. sym (others_stay p.model p.state g.inter.0 c (not_moved_by c touched))) in (
        λ can. record {
          may = local.0 can.may;
          unspent = λ c touched. rw (used_stays c touched) (can.unspent c touched);
        },
        λ can. record {
          may = local.1 can.may;
          unspent = λ c touched.
              subst (λ (n : ℕ). n < last_number) (used_stays c touched) (can.unspent c touched);
        },
      )

-- one more is asked anew, or stays
module _ (m : System) (p : Standing) (granted : Option InterId) (n : ℕ) (old now : List Bool)
    (so : AreRenewed m p granted n old now) where
  -- what is so at another one is so still
  at_less : (next : List Bool) (a : ℕ) → a < n → get_or next a false ≡ get_or now a false
      → IsRenewedAt m p granted old next a
  at_less next a less same = elim (so.each a less) [
    | inl new ↦ inl (new.0, (λ on. new.1.0 (sym same ∙ on), λ can. same ∙ new.1.1 can))
    | inr kept ↦ inr (kept.0, same ∙ kept.1)
  ]

  pub one_renewed : (next : List Bool) (test : Bool) → n < length now → IsChanged m granted n
      → (IsTrue test ↔ CanBeDrawn p n) → next ≡ set now n test
      → AreRenewed m p granted (n + 1) old next
  one_renewed next test within changed is put =
      let here : get_or next n false ≡ test = rw put (get_or-set_same now n test false within) in
      let other : (a : ℕ) → a ≢ n → get_or next a false ≡ get_or now a false =
      λ a differ. rw put (get_or-set_other now n a test false differ) in
      record {
        each = λ a below. elim (cases_order a n) [
          | inl same ↦ subst (IsRenewedAt m p granted old next) (sym same)
              (inl (changed, (λ on. is.0 (sym here ∙ on), λ can. here ∙ is.1 can)))
          | inr (inl less) ↦ at_less next a less (other a (λ same. omega (arith, less, same)))
          | inr (inr more) ↦ absurd (omega (arith, below, more))
        ];
        others = λ a above.
            other a (λ same. omega (arith, above, same)) ∙ so.others a (omega (arith, above));
      }

  pub none_renewed : (¬ IsChanged m granted n) → AreRenewed m p granted (n + 1) old now
  none_renewed free = record {
    each = λ a below. elim (cases_order a n) [
      | inl same ↦ subst (IsRenewedAt m p granted old now) (sym same)
          (inr (free, so.others n (omega arith)))
      | inr (inl less) ↦ at_less now a less refl
      | inr (inr more) ↦ absurd (omega (arith, below, more))
    ];
    others = λ a above. so.others a (omega (arith, above));
  }

-- where all are asked anew, they are those of where the run stands
pub all_renewed : (p : Standing) (old new : List Bool) (n : ℕ) → n ≡ length p.model.interactions
    → ((a : ℕ) → get_or old a false ≡ false) → AreRenewed p.model p None n old new
    → TellDrawable p new
all_renewed p old new n count none is a = elim (cases_lt a n) [
  | inl less ↦ elim (is.each a less) [
    | inl fresh ↦ fresh.1
    | inr kept ↦ absurd (kept.0 tt)
  ]
  | inr more ↦ (
    λ on. absurd (false≢true (sym (none a) ∙ (sym (is.others a more) ∙ on))),
    λ can. absurd (omega (arith, count, more, can.may.enabled.declared)),
  )
]

-- where a grant was added, they are those of where it leads
pub renewed_on : (p : Standing) (g : Grant) (old new : List Bool) (n : ℕ)
    → n ≡ length p.model.interactions → TellDrawable p old → IsExpectedGrant p g.inter.0 g
    → AreRenewed p.model (standing_on p g) (Some g.inter) n old new
    → TellDrawable (standing_on p g) new
renewed_on p g old new n count was full is a = elim (cases_lt a n) [
  | inl less ↦ elim (is.each a less) [
    | inl fresh ↦ fresh.1
    | inr kept ↦
        let stay = can_stay p g a full kept.0 in (
          λ on. stay.0 ((was a).0 (sym kept.1 ∙ on)),
          λ can. kept.1 ∙ (was a).1 (stay.1 can),
        )
  ]
  | inr more ↦ (
    λ on. absurd (
        let can = (was a).0 (sym (is.others a more) ∙ on) in
        omega (arith, count, more, can.may.enabled.declared)),
    λ can. absurd (omega (arith, count, more, can.may.enabled.declared)),
  )
]

-- the list of what is chosen is that of what can be drawn
pub chosen_drawable : (p : Standing) (choices : List Bool) (n : ℕ) (list : List InterId)
    → n ≡ length p.model.interactions → TellDrawable p choices → IsListChosen choices n list
    → AreDrawable p list
chosen_drawable p choices n list count are is = record {
  rising = is.rising;
  exact = λ a. (
    λ at. (are a).0 ((is.exact a).0 at).1,
    λ can. (is.exact a).1 (omega (arith, count, can.may.enabled.declared), (are a).1 can),
  );
}

-- a book's choices are renewed behind a grant that is pushed
pub renewed_behind : (b after : Content) (m : System) (g : Grant) (i : InterId)
    (old new : List Bool) (q : Standing) → b.model ≡ m → TellDrawableOf b old
    → IsExpectedGrant (standing_after b.model b.base b.grants) i.0 g
    → after ≡ record b { grants = b.grants ++ g ∷ [] }
    → q ≡ standing_after after.model after.base after.grants
    → AreRenewed m q (Some i) (length m.interactions) old new → TellDrawableOf after new
renewed_behind b after m g i old new q same was full goes there renewed =
    let s = standing_after b.model b.base b.grants in
    let n = length m.interactions in
    let on : standing_after after.model after.base after.grants ≡ standing_on s g =
    ap (λ (x : Content). standing_after x.model x.base x.grants) goes
    ∙ leads_on b.model b.base b.grants g in
    let named : i ≡ g.inter = ap inter (sym full.inter) in
    let of_model : AreRenewed b.model q (Some i) n old new =
    subst (λ (x : System). AreRenewed x q (Some i) n old new) (sym same) renewed in
    let of_standing : AreRenewed b.model (standing_on s g) (Some i) n old new =
    subst (λ (x : Standing). AreRenewed b.model x (Some i) n old new) (there ∙ on) of_model in
    let of_grant : AreRenewed b.model (standing_on s g) (Some g.inter) n old new =
    subst (λ (x : InterId). AreRenewed b.model (standing_on s g) (Some x) n old new) named
    of_standing in
    subst (λ (x : Standing). TellDrawable x new) (sym on)
    (renewed_on s g old new n (ap (λ (x : System). length x.interactions) (sym same)) was
    (subst (λ (a : ℕ). IsExpectedGrant s a g) (sym full.inter) full) of_grant)

-- and those of a book are asked first
pub renewed_first : (b : Content) (m : System) (old new : List Bool) (q : Standing) → b.model ≡ m
    → ((a : ℕ) → get_or old a false ≡ false) → q ≡ standing_after b.model b.base b.grants
    → AreRenewed m q None (length m.interactions) old new → TellDrawableOf b new
renewed_first b m old new q same none there renewed =
    let s = standing_after b.model b.base b.grants in
    let n = length m.interactions in
    let of_model : AreRenewed b.model q None n old new =
    subst (λ (x : System). AreRenewed x q None n old new) (sym same) renewed in
    all_renewed s old new n (ap (λ (x : System). length x.interactions) (sym same)) none
    (subst (λ (x : Standing). AreRenewed b.model x None n old new) there of_model)

-- none is chosen at first
pub none_chosen : (n a : ℕ) → get_or (replicate n false) a false ≡ false
none_chosen zero a = refl
none_chosen (suc n) zero = refl
none_chosen (suc n) (suc a) = none_chosen n a
