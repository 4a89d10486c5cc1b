use Rattle.bip_core.proofs.SentenceLemmas.{agrees_in_six, none_told_is_stale, one_offer_out}
use Rattle.bip_core.proofs.laws.agreement_laws.Goals as goal

pub returns : goal.returns
returns c = record { six = agrees_in_six; one = one_offer_out; taken = none_told_is_stale }
