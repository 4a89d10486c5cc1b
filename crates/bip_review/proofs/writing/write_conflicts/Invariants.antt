use Rattle.bip_model.specs.Naming.{name_in}
use Rattle.bip_model.specs.Texts.{spaced}
use Rattle.bip_review.proofs.StationLemmas.{AddsConflictsBelow}
use Rattle.bip_review.proofs.writing.write_conflicts.Given as goal

abbrev pub invariant-loop-number : goal.invariant-loop-number
invariant-loop-number l =
    AddsConflictsBelow l.plan (λ n. spaced (name_in l.plan.model.interaction_names n)) l.inter.0
    l.number l.initial.text.items l.text.items
