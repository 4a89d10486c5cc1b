use Rattle.std.proofs.Common.{subst, sym}
use Rattle.bip_reader.specs.Texts.{MayLackMemory}
use Rattle.bip_reader.proofs.TextLemmas.{lacks_last}
use Rattle.bip_reader.proofs.texts.read_text.Goals as goal

pub returns-in-Err-clause-memory : goal.returns-in-Err-clause-memory
returns-in-Err-clause-memory c = λ is.
    subst (MayLackMemory c.args.text.now) (sym c.in_ok-reading.ensures.last)
    (lacks_last c.args.text.now c.in_ok-reading.reading c.in_ok-reading.ensures.said)
