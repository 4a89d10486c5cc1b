use Rattle.std.proofs.Common.{ap, subst, ◌∙◌, arith}
use Rattle.bip_frame.specs.Fields.{Gives}
use Rattle.bip_frame.specs.Reading.{read_whole}
use Rattle.bip_frame.specs.Views.{message_shown}
use Rattle.bip_frame.proofs.FaultLemmas.{is_first, is_only}
use Rattle.bip_frame.proofs.ReadingLemmas.{is_found, are_lent, whole_again}
use Rattle.bip_frame.proofs.reading.read.Goals as goal

pub returns-clause-found : goal.returns-clause-found
returns-clause-found c = is_found c.args.bytes.now c.take_all.result
    (λ i. omega (arith, c.type_inv.bytes i)) c.take_all.ensures

pub returns-clause-only : goal.returns-clause-only
returns-clause-only c = λ m frame. subst (λ f. Gives message_shown c.take_all.result f)
    (ap read_whole frame.is ∙ whole_again m frame.can) c.take_all.ensures

pub returns-clause-first : goal.returns-clause-first
returns-clause-first c = is_first c.args.bytes.now c.take_all.result
    (λ i. omega (arith, c.type_inv.bytes i)) c.take_all.ensures

pub returns-clause-each : goal.returns-clause-each
returns-clause-each c = is_only c.args.bytes.now c.take_all.result c.take_all.ensures

pub returns-clause-lent : goal.returns-clause-lent
returns-clause-lent c = are_lent c.args.bytes.now c.take_all.result
    (λ i. omega (arith, c.type_inv.bytes i)) c.take_all.ensures
