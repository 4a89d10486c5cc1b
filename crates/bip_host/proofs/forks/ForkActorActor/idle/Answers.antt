use Rattle.std.proofs.Common.{◌∙◌, ap, inl, inr, refl, sym, subst}
use Rattle.std.proofs.lemmas.Bool.{false≢true}
use Rattle.std.specs.Prelude.{None}
use Rattle.bip_host.specs.Forks.{ForkHearsWith}
use Rattle.bip_host.specs.declared.actors.Step.TheVariants.{Over}
use Rattle.bip_host.specs.declared.actors.Turn.TheVariants.{Nothing}
use Rattle.bip_host.specs.declared.settled.Served.TheVariants as served
use Rattle.bip_host.proofs.forks.ForkActorActor.idle.Goals as goal

pub returns-in-None-clause-turn : goal.returns-in-None-clause-turn
returns-in-None-clause-turn c =
    let a = c.args.self.now in
    let station = c.in-Some.station in
    subst (λ decider. ForkHearsWith decider (record a { station = None }) None (Over Nothing)
    (record a { turn = Nothing }))
    (sym c.in-Some.is)
    (inl (
      served.Nothing station,
      inl (refl, λ ready. false≢true (sym c.if-is_ready.false ∙ c.is_ready.ensures.1 ready)),
      inr (
        station,
        c.in-None.ensures.none,
        refl,
        refl,
        ap (λ decider. record a { station = decider; turn = Nothing }) c.in-Some.is,
      ),
    ))
