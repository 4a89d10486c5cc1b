use Rattle.std.proofs.Common.{rules, subst, sym}
use Rattle.bip_bank.specs.Banks.{content_of}
use Rattle.bip_forks.specs.Kept.{kept_forks}
use Rattle.bip_forks.specs.Opening.{AreForksAtFirst, IsNewForks}
use Rattle.bip_ring.specs.Rings.{IsNewRing, IsRingAtFirst, kept_ring}
use Rattle.bipr.specs.Resolvers.{IsSharedAtFirst}
use Rattle.bipr.specs.declared.resolvers.Resolver.TheVariants.{Central, Forks, Ring}
use Rattle.bipr.proofs.ExploredLemmas.{shared_figures}
use Rattle.bipr.proofs.ahead.explore_one.Goals as goal

pub returns-in-Central-clause-explored : goal.returns-in-Central-clause-explored
returns-in-Central-clause-explored c =
    let p = c.args.plan.now in
    rw c.in-Central.is
    (shared_figures _ (IsSharedAtFirst Central p) p c.args.asked.now.draws _ c.explore_seed.result
    (λ x is. sym is.2) c.explore_seed.ensures.explored)

pub returns-in-Ring-clause-explored : goal.returns-in-Ring-clause-explored
returns-in-Ring-clause-explored c =
    let p = c.args.plan.now in
    rw c.in-Ring.is
    (shared_figures _ (IsSharedAtFirst Ring p) p c.args.asked.now.draws _
    c.explore_seed-in-Ring.result
    (λ x is. let new : IsNewRing p 0 (content_of (kept_ring is.0)) = search rules in
    subst (IsRingAtFirst p) is.2 new.first) c.explore_seed-in-Ring.ensures.explored)

pub returns-in-Forks-clause-explored : goal.returns-in-Forks-clause-explored
returns-in-Forks-clause-explored c =
    let p = c.args.plan.now in
    rw c.in-Forks.is
    (shared_figures _ (IsSharedAtFirst Forks p) p c.args.asked.now.draws _
    c.explore_seed-in-Forks.result
    (λ x is. let new : IsNewForks p 0 (content_of (kept_forks is.0)) = search rules in
    subst (AreForksAtFirst p) is.2 new.first) c.explore_seed-in-Forks.ensures.explored)
