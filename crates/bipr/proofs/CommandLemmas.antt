-- What is carried out of words that name a command.
use Rattle.std.proofs.Common.{[], None}
use Rattle.std.proofs.Common.{◌≡◌, ℕ, Bool, List, Option, Some, Result, subst}
use Rattle.std.specs.Result.{IsErrAnd}
use Rattle.clap.specs.Words.{Row, Text}
use Rattle.bip_program.specs.Asked.{IsReadAs}
use Rattle.bipr.specs.Commands.{IsAnsweredTo, IsCarriedOutBy, IsSaidTo, asked, named, spelled}
use Rattle.bipr.specs.Commands.{unasked}
use Rattle.bipr.specs.Endings.{AllOutcomesTelling}
use Rattle.bipr.specs.Hosted.{Hosts}
use Rattle.bipr.specs.Streams.{Put}
use Rattle.bip_answers.specs.declared.answers.Answer.{Answer}
use Rattle.bipr.specs.declared.commands.Command.{Command}
use Rattle.bipr.specs.declared.inputs.InputFault.{InputFault}
use Rattle.bipr.specs.declared.stops.Stop.{Stop}
use Rattle.bipr.specs.declared.stops.Stop.TheVariants.{BaseOutOfRange}
use Rattle.bipr.proofs.EndingLemmas.{outcome_out_of_range, outcomes_quiet, outcomes_weaker}

module _ {S : Type 0} (writes : S → List ℕ → Bool → S → Type 0) (before after : S)
    (given : Result Answer Stop) where
  -- a command that is asked by these arguments
  pub asked_for : {A : Type 0} (asks : A → Type 0) (does : A → List Put → Answer → Type 0)
      (read : Option A) (arguments : A) → IsReadAs asks read → read ≡ Some arguments
      → AllOutcomesTelling writes before after given (does arguments)
      → AllOutcomesTelling writes before after given (IsAnsweredTo asks does)
  asked_for asks does read arguments meant same all =
      outcomes_weaker writes before after given (does arguments) (IsAnsweredTo asks does) all
      (λ told answer is. asked arguments told answer (subst (IsReadAs asks) same meant) is)

  -- one that is asked by none
  pub not_asked : {A : Type 0} (asks : A → Type 0) (does : A → List Put → Answer → Type 0)
      (read : Option A) (why : Stop) → after ≡ before → IsReadAs asks read
      → (read ≡ None) × (why ≡ BaseOutOfRange) → IsErrAnd given (λ w. w ≡ why)
      → AllOutcomesTelling writes before after given (IsAnsweredTo asks does)
  not_asked asks does read why same meant none is =
      outcomes_quiet writes before after given (IsAnsweredTo asks does) same
      (outcome_out_of_range given (IsAnsweredTo asks does [])
      (subst (λ (x : Stop). IsErrAnd given (λ w. w ≡ x)) none.1 is)
      (unasked (subst (IsReadAs asks) none.0 meant)))

  -- words that name it
  pub carried : (parsed : Option (Text × List Row))
      (gives : List ℕ → Result (List ℕ) InputFault → Type 0)
      (hosts : Hosts) (command : Command) (values : List Row) → parsed ≡ Some (spelled command, values)
      → AllOutcomesTelling writes before after given (IsSaidTo command values gives hosts)
      → AllOutcomesTelling writes before after given (IsCarriedOutBy parsed gives hosts)
  carried parsed gives hosts command values at all =
      outcomes_weaker writes before after given (IsSaidTo command values gives hosts)
      (IsCarriedOutBy parsed gives hosts) all
      (λ told answer is. named command values told answer at is)
