use Rattle.std.proofs.Common.{sym, subst}
use Rattle.std.specs.List.Sorted.{IsStrictlyIncreasing}
use Rattle.bip_bank.proofs.CentralLemmas.{entry_components}
use Rattle.bip_forks.proofs.opening.first_station.Goals as goal

pub new-requires : goal.new-requires
new-requires c = rw (c.deref.ensures.value, c.in_ok-entries.ensures)
    (subst IsStrictlyIncreasing (sym (entry_components c.args.base c.touches.result.now))
    c.touches.ensures.touches.rising)
