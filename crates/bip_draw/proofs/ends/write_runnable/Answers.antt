use Rattle.std.proofs.Common.{refl, sym, subst}
use Rattle.std.proofs.lemmas.Bool.{false≢true}
use Rattle.bip_replay.specs.Runs.{standing_of}
use Rattle.bip_draw.specs.Ends.{AddsRunnable, none_may, some_may}
use Rattle.bip_draw.proofs.ends.write_runnable.Goals as goal

pub returns-then-nothing_may_run : goal.returns-then-nothing_may_run
returns-then-nothing_may_run c =
    let p = standing_of c.args.position.now in
    subst (AddsRunnable p.model p.state c.args.text.now.items)
    (sym c.in_ok-extend_from_slice.ensures.items) (none_may (c.if-nothing_may_run.ensures.0 refl))

pub returns : goal.returns
returns c = some_may (λ stuck. false≢true (c.if-nothing_may_run.ensures.1 stuck))
    (rw (c.model.ensures, c.state.ensures) at c.in_ok-write_interactions.ensures)
