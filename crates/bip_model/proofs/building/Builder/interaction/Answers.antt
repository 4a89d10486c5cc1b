use Rattle.std.proofs.Common.{refl, sym, ◌∙◌}
use Rattle.bip_model.proofs.DraftLemmas.{interaction_ends, interaction_kept}
use Rattle.bip_model.proofs.building.Builder.interaction.Goals as goal
use Rattle.bip_model.proofs.building.Builder.interaction.Goals.{in-Heap-1, in-Inline-1}

pub invariant_of-self : goal.invariant_of-self
invariant_of-self c =
    interaction_kept c.self.inside.draft c.args.name c.each.result c.in-Ok.named c.args.guard.now
    c.args.transfer.now c.add_named_interaction.result _
    c.self.invariant c.each.ensures.some (sym c.contains.ensures ∙ c.if-contains.false)
    (sym c.in-Ok.ensures.named) (rw c.as_slice.ensures at c.add_named_interaction.ensures.said)
    c.add_named_interaction.ensures.err

pub invariant_of-self-in-Ok-2 : goal.invariant_of-self-in-Ok-2
invariant_of-self-in-Ok-2 c =
    interaction_kept c.self.inside.draft c.args.name c.each.result c.in-Ok.named c.args.guard.now
    c.args.transfer.now c.add_named_interaction.result _
    c.self.invariant c.each.ensures.some (sym c.contains.ensures ∙ c.if-contains.false)
    (sym c.in-Ok.ensures.named) (rw c.as_slice.ensures at c.add_named_interaction.ensures.said)
    c.add_named_interaction.ensures.err

pub returns-in-Err-clause-said : goal.returns-in-Err-clause-said
returns-in-Err-clause-said c = rw (
  ← c.self.view_is,
  sym c.contains.ensures ∙ c.if-contains.false,
  ← c.each.ensures.items,
  sym c.in-Err.ensures.named,
) refl

pub returns-in-Ok-clause-said : goal.returns-in-Ok-clause-said
returns-in-Ok-clause-said c =
    let said = interaction_ends c.self.inside.draft c.args.name c.each.result c.in-Ok.named
    c.args.guard.now c.args.transfer.now c.add_named_interaction.result _
    (sym c.contains.ensures ∙ c.if-contains.false) (sym c.in-Ok.ensures.named)
    (rw c.as_slice.ensures at c.add_named_interaction.ensures.said) in
    rw (← c.self.view_is, ← c.each.ensures.items)
    (elim c.match-named.branch [
      | in-Heap-1 w ↦ rw w.self-is said
      | in-Inline-1 w ↦
          rw w.self-is said
    ])
