-- The laws of banks: what any calls make of the grants.
use Rattle.std.proofs.Common.{◌≡◌, ℕ, List, [], ◌∷◌, ◌++◌, append_assoc, refl, sym, ap, ◌∙◌, subst}
use Rattle.std.proofs.Common.{inl, inr}
use Rattle.std.specs.Prelude.{All}
use Rattle.std.proofs.lemmas.Bool.Decides.{eqb_tells}
use Rattle.std.proofs.lemmas.List.{append-nil}
use Rattle.std.proofs.lemmas.List.Elements.{All-nil, All-push, All-head, All-tail}
use Rattle.bip_model.proofs.HistoryLemmas.{IsHistory-append, moves_once, used_by-push}
use Rattle.bip_model.specs.Grants.{IsHistory, used_by}
use Rattle.bip_model.specs.Numbering.{put}
use Rattle.bip_model.specs.Wants.{IsFresh, raised}
use Rattle.bip_model.specs.declared.grants.Grant.{Grant}
use Rattle.bip_model.specs.declared.messages.Request.{Request}
use Rattle.bip_partition.specs.Plans.{IsFit, Planned}
use Rattle.bip_table.specs.Reservations.{IsDecision, grant_of}
use Rattle.bip_table.specs.declared.reservations.Decision.TheVariants.{Granted, Refused}
use Rattle.bip_table.specs.declared.reservations.Decision.{Decision}
use Rattle.bip_bank.specs.Banks.{BankContent, IsActed, with_decision, with_request}
use Rattle.bip_bank.specs.Laws.{GrantsAreAllowed, GrantsAreHistories, GrantsGoOn, IsAllowed, Lead}
use Rattle.bip_bank.specs.Laws.{PlanStays, acted, at_once, taken}
use Rattle.bip_bank.specs.Sharing.{Sharing}
use Rattle.bip_bank.specs.declared.banks.Acted.TheVariants.{Answered, Moved, Nothing}
use Rattle.bip_bank.specs.declared.banks.Acted.{Acted}

-- grants that are a history, and explain the used numbers
pub record AreExplained (b : BankContent) : Type 0 where
  pub history : IsHistory (λ c. b.base) b.grants
  pub explained : b.used ≡ used_by (λ c. b.base) b.grants

decided_explained : (b : BankContent) (q : Request) (d : Decision) (open' : ℕ → List Request)
    (sharing : Sharing) → IsDecision b.used q.wants d → AreExplained b
    → AreExplained (record (with_decision q d b) { waiting = open'; sharing = sharing })
decided_explained b q (Granted serial) open' sharing fresh are = record {
  history = (IsHistory-append (λ c. b.base) b.grants (grant_of q ∷ [])).1
      (are.history, (subst (λ (u : ℕ → ℕ). IsFresh u q.wants) are.explained fresh, tt));
  explained = ap (λ (u : ℕ → ℕ). raised u q.wants) are.explained
      ∙ sym (used_by-push (λ c. b.base) b.grants (grant_of q));
}
decided_explained b q (Refused c n) open' sharing refused are =
    record { history = are.history; explained = are.explained }

acted_explained : (b next : BankContent) (did : Acted) → IsActed did b next → AreExplained b
    → AreExplained next
acted_explained b next Nothing is are = subst AreExplained (sym is) are
acted_explained b next Moved is are = subst AreExplained (sym is)
    (record { history = are.history; explained = are.explained })
acted_explained b next (Answered q d) is are =
    subst AreExplained (sym is.after) (decided_explained b q d
    (put b.waiting q.inter.0 is.rest) next.sharing is.decision are)

stay_explained : (b later : BankContent) → AreExplained b → Lead b later → AreExplained later
stay_explained b later are at_once = are
stay_explained b later are (taken q fits rest) =
    stay_explained (with_request q b) later (record {
      history = are.history;
      explained = are.explained;
    }) rest
stay_explained b later are (acted {next = n} did is rest) =
    stay_explained n later (acted_explained b n did is are) rest

pub grants_histories : GrantsAreHistories
grants_histories b later none lead =
    let start : AreExplained b = record {
      history = subst (λ (gs : List Grant). IsHistory (λ c. b.base) gs) (sym none.none) tt;
      explained = none.unused ∙ ap (λ (gs : List Grant). used_by (λ c. b.base) gs) (sym none.none);
    } in
    let are = stay_explained b later start lead in
    record {
      history = are.history;
      once = moves_once (λ c. later.base) later.grants are.history;
      explained = are.explained;
    }

decided_on : (b : BankContent) (q : Request) (d : Decision) → (gs : List Grant)
    × ((with_decision q d b).grants ≡ b.grants ++ gs)
decided_on b q (Granted serial) = (grant_of q ∷ [], refl)
decided_on b q (Refused c n) = ([], sym (append-nil b.grants))

acted_on : (b next : BankContent) (did : Acted) → IsActed did b next → (gs : List Grant)
    × (next.grants ≡ b.grants ++ gs)
acted_on b next Nothing is = ([], ap (λ (x : BankContent). x.grants) is ∙ sym (append-nil b.grants))
acted_on b next Moved is = ([], ap (λ (x : BankContent). x.grants) is ∙ sym (append-nil b.grants))
acted_on b next (Answered q d) is = let on = decided_on b q d in
    (on.0, ap (λ (x : BankContent). x.grants) is.after ∙ on.1)

pub grants_go_on : GrantsGoOn
grants_go_on b later at_once = ([], sym (append-nil b.grants))
grants_go_on b later (taken q fits rest) = grants_go_on (with_request q b) later rest
grants_go_on b later (acted {next = n} did is rest) =
    let first = acted_on b n did is in
    let then' = grants_go_on n later rest in (
      first.0 ++ then'.0,
      then'.1 ∙ (ap (λ (gs : List Grant). gs ++ then'.0) first.1
          ∙ append_assoc b.grants first.0 then'.0),
    )

decided_plan : (b : BankContent) (q : Request) (d : Decision)
    → ((with_decision q d b).plan ≡ b.plan) × ((with_decision q d b).base ≡ b.base)
decided_plan b q (Granted serial) = (refl, refl)
decided_plan b q (Refused c n) = (refl, refl)

acted_plan : (b next : BankContent) (did : Acted) → IsActed did b next → (next.plan ≡ b.plan)
    × (next.base ≡ b.base)
acted_plan b next Nothing is = (
  ap (λ (x : BankContent). x.plan) is,
  ap (λ (x : BankContent). x.base) is,
)
acted_plan b next Moved is = (
  ap (λ (x : BankContent). x.plan) is,
  ap (λ (x : BankContent). x.base) is,
)
acted_plan b next (Answered q d) is =
    let both = decided_plan b q d in (
      ap (λ (x : BankContent). x.plan) is.after ∙ both.0,
      ap (λ (x : BankContent). x.base) is.after ∙ both.1,
    )

pub plan_stays : PlanStays
plan_stays b later at_once = (refl, refl)
plan_stays b later (taken q fits rest) = plan_stays (with_request q b) later rest
plan_stays b later (acted {next = n} did is rest) =
    let first = acted_plan b n did is in
    let then' = plan_stays n later rest in
    (then'.0 ∙ first.0, then'.1 ∙ first.1)

-- grants that the plan allows, and open requests that fit it
pub record AllFit (b : BankContent) : Type 0 where
  pub grants : All (IsAllowed b.plan) b.grants
  pub waiting : (a : ℕ) → All (λ (q : Request). IsFit b.plan q) (b.waiting a)

-- requests that fit, with others of one interaction
put_fit : (p : Planned) (open' : ℕ → List Request) (a : ℕ) (qs : List Request)
    → ((k : ℕ) → All (λ (q : Request). IsFit p q) (open' k)) → All (λ (q : Request). IsFit p q) qs
    → (k : ℕ) → All (λ (q : Request). IsFit p q) (put open' a qs k)
put_fit p open' a qs all these k = elim (eqb_tells k a)
    [ inl same ↦ rw same.0 these | inr other ↦ rw other.0 (all k) ]

decided_fit : (b : BankContent) (q : Request) (d : Decision) (rest : List Request)
    (sharing : Sharing) → b.waiting q.inter.0 ≡ q ∷ rest → AllFit b
    → AllFit (record (with_decision q d b) {
      waiting = put b.waiting q.inter.0 rest;
      sharing = sharing;
    })
decided_fit b q (Granted serial) rest sharing oldest all =
    let open' = subst (λ (qs : List Request). All (λ (r : Request). IsFit b.plan r) qs) oldest
    (all.waiting q.inter.0) in
    let fit : IsFit b.plan q = All-head (λ (r : Request). IsFit b.plan r) q rest open' in
    record {
      grants = All-push (IsAllowed b.plan) b.grants (grant_of q) all.grants
          (record { reserved = fit.reserved; parties = fit.parties });
      waiting = put_fit b.plan b.waiting q.inter.0 rest all.waiting
          (All-tail (λ (r : Request). IsFit b.plan r) q rest open');
    }
decided_fit b q (Refused c n) rest sharing oldest all =
    let open' = subst (λ (qs : List Request). All (λ (r : Request). IsFit b.plan r) qs) oldest
    (all.waiting q.inter.0) in
    record {
      grants = all.grants;
      waiting = put_fit b.plan b.waiting q.inter.0 rest all.waiting
          (All-tail (λ (r : Request). IsFit b.plan r) q rest open');
    }

acted_fit : (b next : BankContent) (did : Acted) → IsActed did b next → AllFit b → AllFit next
acted_fit b next Nothing is all = subst AllFit (sym is) all
acted_fit b next Moved is all = subst AllFit (sym is)
    (record { grants = all.grants; waiting = all.waiting })
acted_fit b next (Answered q d) is all = subst AllFit (sym is.after)
    (decided_fit b q d is.rest next.sharing is.oldest all)

stay_fit : (b later : BankContent) → AllFit b → Lead b later → AllFit later
stay_fit b later all at_once = all
stay_fit b later all (taken q fits rest) =
    stay_fit (with_request q b) later (record {
      grants = all.grants;
      waiting = put_fit b.plan b.waiting q.inter.0 (b.waiting q.inter.0 ++ q ∷ []) all.waiting
          (All-push (λ (r : Request). IsFit b.plan r) (b.waiting q.inter.0) q
          (all.waiting q.inter.0) fits);
    }) rest
stay_fit b later all (acted {next = n} did is rest) =
    stay_fit n later (acted_fit b n did is all) rest

pub grants_allowed : GrantsAreAllowed
grants_allowed b later none closed lead =
    (stay_fit b later (record {
      grants = subst (All (IsAllowed b.plan)) (sym none) (All-nil (IsAllowed b.plan));
      waiting = λ a. subst (λ (w : ℕ → List Request). All (λ (q : Request). IsFit b.plan q) (w a))
          (sym closed) (All-nil (λ (q : Request). IsFit b.plan q));
    }) lead).grants
