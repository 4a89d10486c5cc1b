use Rattle.std.proofs.Common.{ℕ, map, max, sym, take, ◌∙◌}
use Rattle.bip_table.proofs.ClosingLemmas.{greatest_more}
use Rattle.bip_table.specs.Closing.{greatest}
use Rattle.bip_table.specs.Passes.{Passed, shown_at}
use Rattle.bip_table.proofs.closing.greatest_shown.Goals as goal

pub loop-pass-preserved : goal.loop-pass-preserved
loop-pass-preserved g c =
    let f : Passed → ℕ = λ p. shown_at p.tallies c.args.comp.0 in
    let next = greatest_more f c.args.passes.now c.loop-pass.pass-index c.pass-item.result
    c.loop-pass-test.true in
    c.max-most.ensures ∙ (λ i. max (c.loop-pass.invariant i) (c.shown.ensures i))
    ∙ (λ i. max (greatest (map f (take c.loop-pass.pass-index c.args.passes.now)))
    (f (c.pass-item.is i))) ∙ sym next
