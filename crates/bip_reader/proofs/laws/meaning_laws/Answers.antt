use Rattle.bip_reader.proofs.CanonicalLemmas.{canonical}
use Rattle.bip_reader.proofs.DecisionLemmas.{meaning_or_fault}
use Rattle.bip_reader.proofs.ValidLemmas.{means_valid, no_want_of_memory}
use Rattle.bip_reader.proofs.FirstLemmas.{first_fault, nothing_past}
use Rattle.bip_reader.proofs.SameMeaningLemmas.{no_last_line_feed, same_meaning}
use Rattle.bip_reader.proofs.laws.meaning_laws.Goals as goal

pub returns-clause-same : goal.returns-clause-same
returns-clause-same c = same_meaning

pub returns-clause-last : goal.returns-clause-last
returns-clause-last c = no_last_line_feed

pub returns-clause-whys : goal.returns-clause-whys
returns-clause-whys c = no_want_of_memory

pub returns-clause-first : goal.returns-clause-first
returns-clause-first c = first_fault

pub returns-clause-past : goal.returns-clause-past
returns-clause-past c = nothing_past

pub returns-clause-some : goal.returns-clause-some
returns-clause-some c = meaning_or_fault

pub returns-clause-valid : goal.returns-clause-valid
returns-clause-valid c = means_valid

pub returns-clause-canonical : goal.returns-clause-canonical
returns-clause-canonical c = λ m classes valid are of_model spelled. canonical m classes valid are
    of_model spelled
