use Rattle.std.proofs.Common.{◌≡◌, Err, ap}
use Rattle.bip_reader.specs.declared.faults.Why.TheVariants.{Memory}
use Rattle.bip_reader.proofs.PartedLemmas.{made, parts, parts_as_seen, told}
use Rattle.bip_reader.proofs.texts.classes_of.Goals as goal

pub returns-in-Ok-clause-parted : goal.returns-in-Ok-clause-parted
returns-in-Ok-clause-parted c = rw (← c.into_vec.ensures)
    (parts (λ class. (class.0, class.1.items)) c.args.model.now c.into_vec.result.items
    c.in-Ok.ensures.partition)

pub returns-in-Ok-clause-ordered : goal.returns-in-Ok-clause-ordered
returns-in-Ok-clause-ordered c =
    rw (← c.into_vec.ensures)
    (made (λ class. (class.0, class.1.items)) c.args.model.now c.into_vec.result.items
    c.in-Ok.classes c.in-Ok.ensures.of_model c.in-Ok.ensures.names c.in-Ok.ensures.members)

pub returns-in-Err-clause-fault : goal.returns-in-Err-clause-fault
returns-in-Err-clause-fault c = λ other.
    let is = (told c.in-Err.fault c.from.result c.from.ensures).0 other in (
      is.0,
      rw (← c.into_vec.ensures) (λ parted. c.in-Err.ensures.refused (ap Err is.1)
          (parts_as_seen (λ class. (class.0, class.1.items)) c.args.model.now
          c.into_vec.result.items
          parted)),
    )

pub returns-in-Err-clause-memory : goal.returns-in-Err-clause-memory
returns-in-Err-clause-memory c = λ wants.
    let lacks : c.from.result ≡ Memory = cc in
    let is = (told c.in-Err.fault c.from.result c.from.ensures).1 lacks in
    rw (← c.into_vec.ensures) (parts (λ class. (class.0, class.1.items)) c.args.model.now
    c.into_vec.result.items (c.in-Err.ensures.memory (ap Err is)))
