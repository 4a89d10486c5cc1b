-- What is said of texts that were read, or weren't.
use Rattle.std.proofs.Common.{◌≡◌, ◌∙◌, ℕ, List, [], Result, Ok, Err, refl, subst}
use Rattle.std.proofs.Common.{sym}
use Rattle.std.proofs.Common.{Bool}
use Rattle.std.specs.Borrow.{Bor}
use Rattle.std.specs.Result.{IsErrAnd}
use Rattle.bip_partition.specs.Plans.{Planned}
use Rattle.bip_answers.specs.Answers.{HasPlan, IsRefusedModel}
use Rattle.bipr.specs.Dividing.{after_mark, before_mark}
use Rattle.bipr.specs.Loading.{AreTextsAt, GivesOther, OfText, OfTexts, apart, first_unread, joined}
use Rattle.bipr.specs.Loading.{OfPlan, Silently, no_memory, of_first, of_no_plan, of_no_text}
use Rattle.bipr.specs.Loading.{of_one, of_plan}
use Rattle.bipr.specs.Loading.{of_text, of_two, second_unread, silent}
use Rattle.bipr.specs.Endings.{AllOutcomes, AllOutcomesTelling}
use Rattle.bipr.specs.Stops.{answer_of_stop, unread}
use Rattle.bipr.specs.Streams.{Put}
use Rattle.bip_answers.specs.declared.answers.Answer.{Answer}
use Rattle.bipr.specs.declared.inputs.InputFault.{InputFault}
use Rattle.bipr.specs.declared.loading.Other.{Other}
use Rattle.bipr.specs.declared.loading.Other.TheVariants.{At}
use Rattle.bipr.specs.declared.stops.Stop.{Stop}
use Rattle.bipr.specs.declared.stops.Stop.TheVariants.{OutOfMemory}
use Rattle.bipr.proofs.EndingLemmas.{lacks_quietly, outcome_answered, outcome_stopped}
use Rattle.bipr.proofs.EndingLemmas.{outcomes_quiet, outcomes_weaker}

-- why a path's text isn't read
abbrev pub IsUnreadAt : (List ℕ → Result (List ℕ) InputFault → Type 0) → List ℕ → Stop → Type 0
IsUnreadAt gives path why = (fault : InputFault) × gives path (Err fault)
    × (answer_of_stop why ≡ unread path fault)

-- what is told and answered to one text, or to its plan
module _ {S : Type 0} (writes : S → List ℕ → Bool → S → Type 0) (before after : S)
    (given : Result Answer Stop) where
  pub text_said : (gives : List ℕ → Result (List ℕ) InputFault → Type 0) (path text : List ℕ)
      (says : List ℕ → List Put → Answer → Type 0) → gives path (Ok text)
      → AllOutcomesTelling writes before after given (says text)
      → AllOutcomesTelling writes before after given (OfText gives path says)
  text_said gives path text says read all =
      outcomes_weaker writes before after given (says text) (OfText gives path says) all
      (λ told answer is. of_text text told answer read is)

  pub plan_said : (model : List ℕ) (says : Planned → List Put → Answer → Type 0) (p : Planned)
      → HasPlan model p → AllOutcomesTelling writes before after given (says p)
      → AllOutcomesTelling writes before after given (OfPlan model says)
  plan_said model says p has all =
      outcomes_weaker writes before after given (says p) (OfPlan model says) all
      (λ told answer is. of_plan p told answer has is)

  pub quietly_said : (may_answer : Answer → Type 0) → after ≡ before → AllOutcomes given may_answer
      → AllOutcomesTelling writes before after given (Silently may_answer)
  quietly_said may_answer same all =
      outcomes_quiet writes before after given (Silently may_answer) same
      (λ answer said. silent answer (all answer said))

-- and where there is none
module _ {S : Type 0} (writes : S → List ℕ → Bool → S → Type 0) (stream : S)
    (given : Result Answer Stop) (gives : List ℕ → Result (List ℕ) InputFault → Type 0)
    (path : List ℕ) (says : List ℕ → List Put → Answer → Type 0) where
  pub text_stopped : (why : Stop) → IsErrAnd given (λ w. w ≡ why) → IsUnreadAt gives path why
      → AllOutcomesTelling writes stream stream given (OfText gives path says)
  text_stopped why is (fault, gave, same) =
      outcomes_quiet writes stream stream given (OfText gives path says) refl
      (outcome_stopped given (OfText gives path says []) why is
      (subst (OfText gives path says []) (sym same) (of_no_text fault gave)) no_memory)

  pub text_lacking : IsErrAnd given (λ w. w ≡ OutOfMemory)
      → AllOutcomesTelling writes stream stream given (OfText gives path says)
  text_lacking is = lacks_quietly writes stream given (OfText gives path says) is no_memory

-- a text that has no plan
pub plan_refused : {S : Type 0} (writes : S → List ℕ → Bool → S → Type 0) (stream : S)
    (model : List ℕ) (says : Planned → List Put → Answer → Type 0) (answer : Answer)
    → IsRefusedModel model answer
    → AllOutcomesTelling writes stream stream (Ok answer) (OfPlan model says)
plan_refused writes stream model says answer refused =
    outcomes_quiet writes stream stream (Ok answer) (OfPlan model says) refl
    (outcome_answered (OfPlan model says []) answer (of_no_plan answer refused))

module _ (gives : List ℕ → Result (List ℕ) InputFault → Type 0) where
  module _ (fits : List ℕ → Type 0) (refuses : List ℕ → Answer → Type 0)
      (says : List ℕ → List ℕ → List Put → Answer → Type 0) (first second : List ℕ) where
    abbrev Of : List Put → Answer → Type 0
    Of = OfTexts fits refuses says gives first second

    -- the first of two
    pub first_stopped : (why : Stop) → IsUnreadAt gives first why → Of [] (answer_of_stop why)
    first_stopped why (fault, given, same) = subst (Of []) (sym same) (first_unread fault given)

    -- the other one
    pub other_stopped : (why : Stop) (text model : List ℕ) (other : Other) → gives first (Ok text)
        → AreTextsAt first second text model other → fits model
        → (path : Bor (List ℕ)) × (fault : InputFault) × (other ≡ At path)
        × gives path.now (Err fault) × (answer_of_stop why ≡ unread path.now fault)
        → Of [] (answer_of_stop why)
    other_stopped why text model _ read (apart at is alone all) fit
        (path, fault, named, given, same) =
        let here : path.now ≡ second = cc in
        subst (Of []) (sym (same ∙ subst (λ (p : List ℕ). unread path.now fault ≡ unread p fault)
        here refl)) (second_unread text fault alone read (subst fits all fit)
        (subst (λ (p : List ℕ). gives p (Err fault)) here given))
    other_stopped why text model _ read (joined rest both before after) fit
        (path, fault, named, gave, same) =
        cc

    -- the first one is refused
    pub first_refused : (text model : List ℕ) (other : Other) (answer : Answer)
        → gives first (Ok text) → AreTextsAt first second text model other → refuses model answer
        → ((rest : List ℕ) → refuses model answer → says model rest [] answer) → Of [] answer
    first_refused text model _ answer read (apart at is alone all) refused turn =
        of_first text answer alone read (subst (λ (m : List ℕ). refuses m answer) all refused)
    first_refused text model _ answer read (joined rest both before after) refused turn =
        of_one text [] answer both read
        (subst (λ (m : List ℕ). says m (after_mark text) [] answer) before
        (turn (after_mark text) refused))

    -- both are answered
    pub both_said : (text model : List ℕ) (other : Other) (last : List ℕ) (told : List Put)
        (answer : Answer) → gives first (Ok text) → AreTextsAt first second text model other
        → fits model → GivesOther gives other (Ok last) → says model last told answer
        → Of told answer
    both_said text model _ last told answer read (apart at is alone all) fit given said =
        of_two text last told answer alone read (subst fits all fit)
        (subst (λ (p : List ℕ). gives p (Ok last)) is given)
        (subst (λ (m : List ℕ). says m last told answer) all said)
    both_said text model _ last told answer read (joined rest both before after) fit given said =
        let same : last ≡ after_mark text = cc in
        of_one text told answer both read
        (subst (λ (t : List ℕ). says (before_mark text) t told answer) same
        (subst (λ (m : List ℕ). says m last told answer) before said))
