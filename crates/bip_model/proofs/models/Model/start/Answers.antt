use Rattle.std.proofs.Common.{◌≡◌}
use Rattle.std.proofs.lemmas.Result.{IfOk-weaker}
use Rattle.bip_model.specs.States.{IsStateOf, state_of}
use Rattle.bip_model.specs.Steps.{start_of}
use Rattle.bip_model.proofs.StateLemmas.{start_is_state}
use Rattle.bip_model.proofs.models.Model.start.Goals as goal

pub returns-clause-of_model : goal.returns-clause-of_model
returns-clause-of_model c =
    let m = c.args.self.now in
    IfOk-weaker c.first_state.result (λ s. state_of s ≡ start_of m) (λ s. IsStateOf m (state_of s))
    (λ s is. start_is_state m (state_of s) c.recall.ensures.valid is) c.first_state.ensures
