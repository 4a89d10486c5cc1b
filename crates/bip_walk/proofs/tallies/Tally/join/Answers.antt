use Rattle.std.proofs.Common.{◌∙◌, ap, arith, refl}
use Rattle.bip_walk.specs.Tallies.{Tallied}
use Rattle.bip_walk.proofs.TallyLemmas.{tally_joined, within_joined}
use Rattle.bip_walk.proofs.tallies.Tally.join.Goals as goal

pub invariant_of-self : goal.invariant_of-self
invariant_of-self c =
    let mine = ap (λ (t : Tallied). t.counts) c.self.view_is in
    let theirs = ap (λ (t : Tallied). t.counts) c.more.view_is in
    record {
      grants = omega (arith, c.self.invariant.grants, c.more.invariant.grants);
      counts = rw (c.counts_with-self-inside.ensures, ← mine, ← theirs) (
          within_joined c.self.inside.traces c.more.inside.traces c.self.inside.counts.items
          c.more.inside.counts.items (rw (mine, theirs) c.requires.same) c.self.invariant.counts
          c.more.invariant.counts);
      stuck = omega (arith, c.self.invariant.stuck, c.more.invariant.stuck);
    }

pub returns-clause-joins : goal.returns-clause-joins
returns-clause-joins c =
    let mine = c.self.view_is in
    let theirs = c.more.view_is in
    tally_joined c.args.self.now c.args.more.now _
    (rw (← ap (λ (t : Tallied). t.traces) mine, ← ap (λ (t : Tallied). t.traces) theirs) refl)
    (rw (← ap (λ (t : Tallied). t.grants) mine, ← ap (λ (t : Tallied). t.grants) theirs) refl)
    c.counts_with-self-inside.ensures
    (rw (← ap (λ (t : Tallied). t.stuck) mine, ← ap (λ (t : Tallied). t.stuck) theirs) refl)
    (c.or-self-inside.ensures
    ∙ rw (← ap (λ (t : Tallied). t.first) mine, ← ap (λ (t : Tallied). t.first) theirs) refl)
