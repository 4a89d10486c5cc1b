use Rattle.std.proofs.Common.{◌≡◌, ◌∙◌, arith, length, rules, subst}
use Rattle.bip_host.specs.Classes.{IsFirstClassActor}
use Rattle.bip_host.specs.Tables.{form_of, form_of_layers, most_of}
use Rattle.bip_host.proofs.StartingLemmas.{classes_grow}
use Rattle.bip_host.proofs.starting.start_classes.Goals as goal

pub loop-intake-preserved : goal.loop-intake-preserved
loop-intake-preserved g c =
    let p = c.args.plan.now in
    let old = form_of_layers c.loop-intake.layers in
    let same = c.class_parts.ensures.layers in
    let long : c.loop-intake.nodes.len ≡ length c.loop-intake.nodes.items =
    omega (arith, c.loop-intake.nodes.ok.0) in
    let actor : IsFirstClassActor p c.len-in-loop-intake.result (most_of old) c.in-Ok-Some.actor =
    search rules in
    let form : form_of c.in-Ok-Some.layer ≡ old = search rules in
    let first = subst (λ k. IsFirstClassActor p k (most_of old) c.in-Ok-Some.actor)
    (c.len-in-loop-intake.ensures ∙ long) actor in (
      classes_grow p old (form_of_layers c.class_parts.new.layers) c.loop-intake.nodes.items
          c.push.new.self.items _ same c.loop-intake.invariant.0 c.in_ok-push-in-Ok-Some.ensures.items first
          form,
      same ∙ c.loop-intake.invariant.1,
    )
