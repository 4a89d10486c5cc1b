-- What is asked of a trace is refused alike, where the model's text has a fault.
use Rattle.std.proofs.Common.{◌≡◌, ◌≢◌, ◌∙◌, ℕ, List, ap, sym}
use Rattle.bip_reader.specs.Texts.{HasFault}
use Rattle.bip_reader.specs.declared.faults.ReadFault.{ReadFault}
use Rattle.bip_reader.specs.declared.faults.Why.TheVariants.{Memory}
use Rattle.bip_answers.specs.Answers.{complaining}
use Rattle.bip_answers.specs.Charted.{uncharted}
use Rattle.bip_answers.specs.Ended.{unended}
use Rattle.bip_answers.specs.Views.{IsViewed}
use Rattle.bip_answers.specs.Wording.{model_refusal}
use Rattle.bip_answers.specs.declared.answers.Answer.{Answer}
use Rattle.bip_answers.specs.declared.answers.Status.TheVariants.{Refused}
use Rattle.bip_answers.specs.declared.views.View.{View}
use Rattle.bip_answers.specs.declared.views.View.TheVariants.{Chart, End, Verdict}
use Rattle.bip_answers.proofs.AnswerLemmas.{has_answered-no_model, refused_undone}

pub refused_view : (view : View) (base : ℕ) (model trace : List ℕ) (fault : ReadFault)
    (answer : Answer) → fault.why ≢ Memory
    → answer ≡ complaining Refused (model_refusal fault) → HasFault model fault
    → IsViewed view base model trace answer
refused_view Verdict base model trace fault answer other same has =
    has_answered-no_model base model trace answer fault other same has
refused_view End base model trace fault answer other same has =
    unended answer (has_answered-no_model base model trace answer fault other same has)
    (λ done. refused_undone (sym (ap (λ (a : Answer). a.status) same) ∙ done))
refused_view (Chart shown) base model trace fault answer other same has =
    uncharted answer (has_answered-no_model base model trace answer fault other same has)
    (ap (λ (a : Answer). a.status) same)
