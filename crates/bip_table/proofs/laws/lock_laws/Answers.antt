use Rattle.bip_table.proofs.LockLawLemmas.{nothing_falls, refusal_is_shown, shown_is_reached}
use Rattle.bip_table.proofs.laws.lock_laws.Goals as goal

pub returns-clause-falls : goal.returns-clause-falls
returns-clause-falls c = nothing_falls

pub returns-clause-refusal : goal.returns-clause-refusal
returns-clause-refusal c = refusal_is_shown

pub returns-clause-reached : goal.returns-clause-reached
returns-clause-reached c = shown_is_reached
