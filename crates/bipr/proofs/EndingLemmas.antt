-- What is said of a command that has an answer, or was stopped.
use Rattle.std.proofs.Common.{◌≡◌, arith, inl, inr, ℕ, Bool, false, true, List, [], Result, Ok, Err}
use Rattle.std.proofs.Common.{None, Option, Some, refl, sym, subst}
use Rattle.std.specs.Result.{IsErrAnd}
use Rattle.bipr.specs.Endings.{AllOutcomes, AllOutcomesTelling, Ends, EndsExplaining, EndsTelling}
use Rattle.bipr.specs.Endings.{IsEnd, IsFileKept, IsOutcome, Keeping, explaining, nothing_kept}
use Rattle.bipr.specs.Endings.{unkept}
use Rattle.bipr.specs.Endings.{unwritten, written}
use Rattle.bip_answers.specs.declared.answers.FileText.{FileText}
use Rattle.bipr.specs.Streams.{Put, Puts, none_put, nothing}
use Rattle.bip_answers.specs.declared.answers.Status.{Status}
use Rattle.bip_answers.specs.declared.answers.Status.TheVariants.{Done, Refused, BadCommandLine}
use Rattle.bip_answers.specs.declared.answers.Status.TheVariants.{NoMemory, NoThread, NotARun}
use Rattle.bipr.specs.Stops.{answer_of_stop, bad_base, out_of_memory}
use Rattle.bip_answers.specs.declared.answers.Answer.{Answer}
use Rattle.bipr.specs.declared.stops.Stop.{Stop}
use Rattle.bipr.specs.declared.stops.Stop.TheVariants.{BaseOutOfRange, CannotRead, CannotWrite}
use Rattle.bipr.specs.declared.stops.Stop.TheVariants.{ChartOnOutput, DrawnAndTold, GrantRefused}
use Rattle.bipr.specs.declared.stops.Stop.TheVariants.{OutOfMemory, PlanOfPart, RecordOnOutput}
use Rattle.bipr.specs.declared.stops.Stop.TheVariants.{RowsOutOfOrder}
use Rattle.bipr.specs.declared.stops.Stop.TheVariants.{ScheduleTooLong, SeedNotARun}
use Rattle.bipr.specs.declared.stops.Stop.TheVariants.{ThreadRefused, TooManyRows}
use Rattle.bipr.specs.declared.stops.Stop.TheVariants.{SeedOrSeeds, TurnsOrGrants, WordsNeedCentral}

-- an answer is said as it is
pub outcome_answered : (P : Answer → Type 0) (given : Answer) → P given → (answer : Answer)
    → answer ≡ given → P answer
outcome_answered P given holds answer same = subst P (sym same) holds

-- a stop that is handed on is said, or that memory is out
pub outcome_stopped : (result : Result Answer Stop) (P : Answer → Type 0) (given : Stop)
    → IsErrAnd result (λ why. why ≡ given)
    → P (answer_of_stop given) → P out_of_memory → AllOutcomes result P
outcome_stopped (Ok answer) P given is told lacking = absurd is
outcome_stopped (Err why) P given is told lacking =
    λ answer said. by_why why answer (subst (λ (w : Stop). P (answer_of_stop w)) (sym is) told) said
  where
    by_why : (w : Stop) (answer : Answer) → P (answer_of_stop w) → IsOutcome (Err w) answer
        → P answer
    by_why (CannotRead path) answer held (inl same) = subst P (sym same) held
    by_why (CannotRead path) answer held (inr same) = subst P (sym same) lacking
    by_why CannotWrite answer held same = subst P (sym same) held
    by_why BaseOutOfRange answer held same = subst P (sym same) held
    by_why RowsOutOfOrder answer held same = subst P (sym same) held
    by_why SeedOrSeeds answer held same = subst P (sym same) held
    by_why TurnsOrGrants answer held same = subst P (sym same) held
    by_why WordsNeedCentral answer held same = subst P (sym same) held
    by_why RecordOnOutput answer held same = subst P (sym same) held
    by_why PlanOfPart answer held same = subst P (sym same) held
    by_why DrawnAndTold answer held same = subst P (sym same) held
    by_why ChartOnOutput answer held same = subst P (sym same) held
    by_why TooManyRows answer held same = subst P (sym same) held
    by_why ScheduleTooLong answer held same = subst P (sym same) held
    by_why GrantRefused answer held same = subst P (sym same) held
    by_why ThreadRefused answer held same = subst P (sym same) held
    by_why (SeedNotARun seed) answer held same = subst P (sym same) held
    by_why OutOfMemory answer held same = subst P (sym same) held

-- that the base is out of range is said, with no memory
pub outcome_out_of_range : (result : Result Answer Stop) (P : Answer → Type 0)
    → IsErrAnd result (λ why. why ≡ BaseOutOfRange) → P bad_base → AllOutcomes result P
outcome_out_of_range (Ok answer) P is held = absurd is
outcome_out_of_range (Err why) P is held = λ answer said.
    subst P (sym (subst (λ (w : Stop). IsOutcome (Err w) answer) is said)) held

-- want of memory is said
pub outcome_lacking : (result : Result Answer Stop) (P : Answer → Type 0)
    → IsErrAnd result (λ why. why ≡ OutOfMemory)
    → P out_of_memory → AllOutcomes result P
outcome_lacking result P is lacking = outcome_stopped result P OutOfMemory is lacking lacking

-- and so it is where nothing was told before
pub lacks_quietly : {S : Type 0} (writes : S → List ℕ → Bool → S → Type 0) (stream : S)
    (result : Result Answer Stop) (P : List Put → Answer → Type 0)
    → IsErrAnd result (λ why. why ≡ OutOfMemory) → P [] out_of_memory
    → AllOutcomesTelling writes stream stream result P
lacks_quietly writes stream result P is lacking =
    record { told = []; on_the_way = none_put; outcomes = outcome_lacking result (P []) is lacking }

-- nothing is told where the stream stays as it was
pub outcomes_quiet : {S : Type 0} (writes : S → List ℕ → Bool → S → Type 0) (before after : S)
    (given : Result Answer Stop) (P : List Put → Answer → Type 0) → after ≡ before
    → AllOutcomes given (P []) → AllOutcomesTelling writes before after given P
outcomes_quiet writes before after given P same all =
    subst (λ s. AllOutcomesTelling writes before s given P) (sym same)
    (record { told = []; on_the_way = none_put; outcomes = all })

-- an end for which nothing is kept is one whatever keeps files
kept_anyhow : (keeps : Keeping) (file : Option FileText) (is_kept : Bool)
    → IsFileKept nothing_kept file is_kept → IsFileKept keeps file is_kept
kept_anyhow keeps None is_kept is = is
kept_anyhow keeps (Some file) is_kept is = absurd is

pub end_keeping : (says : List ℕ → Bool → Type 0) (keeps : Keeping)
    (complains : List ℕ → Bool → Type 0) (answer : Answer) (status : Status)
    → IsEnd says nothing_kept complains answer status → IsEnd says keeps complains answer status
end_keeping says keeps complains answer _ (written is_told out kept complained) =
    written is_told out (kept_anyhow keeps answer.file true kept) complained
end_keeping says keeps complains answer _ (unkept is_told out kept complained) =
    unkept is_told out (kept_anyhow keeps answer.file false kept) complained
end_keeping says keeps complains answer _ (unwritten is_told out complained) =
    unwritten is_told out complained

pub ends_keeping : (may : Answer → Type 0) (says : List ℕ → Bool → Type 0) (keeps : Keeping)
    (complains : List ℕ → Bool → Type 0) (status : Status)
    → Ends may says nothing_kept complains status → Ends may says keeps complains status
ends_keeping may says keeps complains status ends =
    (ends.0, ends.1, end_keeping says keeps complains ends.0 status ends.2)

-- a command that tells nothing on its way
pub ends_quietly : {S : Type 0} (may : Answer → Type 0) (may_telling : List Put → Answer → Type 0)
    (says : List ℕ → Bool → Type 0) (keeps : Keeping) (writes : S → List ℕ → Bool → S → Type 0)
    (before after : S) (status : Status)
    → Ends may says keeps (Puts writes before after) status
    → ((answer : Answer) → may answer → may_telling [] answer)
    → EndsTelling may_telling says keeps writes before after status
ends_quietly may may_telling says keeps writes before after status ends turn =
    record {
      told = [];
      middle = before;
      on_the_way = none_put;
      ends = (ends.0, turn ends.0 ends.1, ends.2);
    }

-- one that does, and then ends with its answer or with what stopped it
pub ends_telling : {S : Type 0} (may_telling : List Put → Answer → Type 0)
    (says : List ℕ → Bool → Type 0) (keeps : Keeping) (writes : S → List ℕ → Bool → S → Type 0)
    (before middle after : S) (given : Result Answer Stop) (status : Status)
    → AllOutcomesTelling writes before middle given may_telling
    → Ends (IsOutcome given) says keeps (Puts writes middle after) status
    → EndsTelling may_telling says keeps writes before after status
ends_telling may_telling says keeps writes before middle after given status all ends =
    record {
      told = all.told;
      middle = middle;
      on_the_way = all.on_the_way;
      ends = (ends.0, all.outcomes ends.0 ends.1, ends.2);
    }

-- what holds of all that is said, with what is told before it, holds so of less
pub outcomes_weaker : {S : Type 0} (writes : S → List ℕ → Bool → S → Type 0) (before after : S)
    (given : Result Answer Stop) (P Q : List Put → Answer → Type 0)
    → AllOutcomesTelling writes before after given P
    → ((told : List Put) (answer : Answer) → P told answer → Q told answer)
    → AllOutcomesTelling writes before after given Q
outcomes_weaker writes before after given P Q all turn =
    record {
      told = all.told;
      on_the_way = all.on_the_way;
      outcomes = λ answer said. turn all.told answer (all.outcomes answer said);
    }

-- nothing is put where nothing is said
explaining-none : (status : Status) → explaining status [] ≡ []
explaining-none Done = refl
explaining-none Refused = refl
explaining-none BadCommandLine = refl
explaining-none NoMemory = refl
explaining-none NoThread = refl
explaining-none NotARun = refl

-- a command that isn't asked to explain
pub ends_unexplained : {S : Type 0} (may : Bool → List Put → Answer → Type 0)
    (says : List ℕ → Bool → Type 0) (keeps : Keeping) (writes : S → List ℕ → Bool → S → Type 0)
    (before after : S) (status : Status)
    → EndsTelling (may false) says keeps writes before after status
    → EndsExplaining may says keeps writes before after status
ends_unexplained may says keeps writes before after status ends =
    record {
      is_asked = false;
      last = after;
      ends = ends;
      why = [];
      shown = refl;
      short = omega arith;
      explained = (true, rw (explaining-none status) (nothing refl));
      unasked = λ _. refl;
    }
