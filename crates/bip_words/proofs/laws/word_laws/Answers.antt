use Rattle.bip_words.proofs.LawLemmas.{reads}
use Rattle.bip_words.proofs.laws.word_laws.Goals as goal

pub returns : goal.returns
returns c = record { reads = reads }
