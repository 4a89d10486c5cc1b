use Rattle.std.proofs.Common.{◌∙◌, sym, subst}
use Rattle.std.specs.Prelude.{None, Some}
use Rattle.bip_host.specs.Forks.{ForkHearsOf, ForkHearsWith}
use Rattle.bip_host.specs.declared.actors.Turn.TheVariants.{Done}
use Rattle.bip_host.proofs.forks.ForkActorActor.hear.Goals as goal

pub returns-in-Some-heard-clause-step : goal.returns-in-Some-heard-clause-step
returns-in-Some-heard-clause-step c =
    let begun = record c.args.self.now { station = None } in
    let step = c.hear_message.result in
    let later = c.hear_message.new.self in
    subst (λ station. ForkHearsWith station begun c.args.heard step later)
    (sym (sym c.take.ensures.value ∙ c.in-Some.is))
    (subst (λ heard. ForkHearsWith (Some c.in-Some.station) begun heard step later)
    (sym c.in-Some-heard.is)
    (subst (λ station. ForkHearsOf c.in-Some-heard.message c.in-Some.station.decider
    (record c.args.self.now { station = station; turn = Done }) step later)
    c.take.ensures.after c.hear_message.ensures.step))
