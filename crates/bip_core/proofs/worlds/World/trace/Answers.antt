use Rattle.std.proofs.Common.{◌≡◌, rules, sym, subst}
use Rattle.bip_model.specs.Grants.{MovesOnceEach}
use Rattle.bip_model.proofs.HistoryLemmas.{moves_once}
use Rattle.bip_core.specs.Worlds.{KeptWorld}
use Rattle.bip_core.proofs.worlds.World.trace.Goals as goal

pub returns-clause-once : goal.returns-clause-once
returns-clause-once g c =
    let once = moves_once _ _ c.self.invariant.all.books.history in
    let same : c.trace_by.result.now ≡ c.args.self.now.trace = search rules in
    subst MovesOnceEach (sym same) (subst (λ (w : KeptWorld). MovesOnceEach w.trace) c.self.view_is
    once)
