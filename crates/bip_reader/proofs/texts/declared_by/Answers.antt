use Rattle.bip_reader.proofs.PartedLemmas.{unparted}
use Rattle.bip_reader.proofs.texts.declared_by.Goals as goal

pub returns-in-Err-clause-fault : goal.returns-in-Err-clause-fault
returns-in-Err-clause-fault c other =
    unparted c.args.reading c.in_ok-model.model c.in_ok-model.listed
    c.in-Err.why c.in_ok-model.ensures.model c.in_ok-model.ensures.classes
    c.in_ok-model.ensures.whole
    c.in_ok-model.ensures.acyclic (c.in-Err.ensures.fault other)
