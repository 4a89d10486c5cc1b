use Rattle.bip_bank.proofs.BankLemmas.{grants_allowed, grants_go_on, grants_histories, plan_stays}
use Rattle.bip_bank.proofs.IdlenessLemmas.{reasons_are_all, reasons_are_true}
use Rattle.bip_bank.proofs.RepeatLemmas.{one_answer_to_a_step}
use Rattle.bip_bank.proofs.laws.bank_laws.Goals as goal

pub returns-clause-history : goal.returns-clause-history
returns-clause-history c = grants_histories

pub returns-clause-go_on : goal.returns-clause-go_on
returns-clause-go_on c = grants_go_on

pub returns-clause-plan : goal.returns-clause-plan
returns-clause-plan c = plan_stays

pub returns-clause-allowed : goal.returns-clause-allowed
returns-clause-allowed c = grants_allowed

pub returns-clause-one : goal.returns-clause-one
returns-clause-one c = one_answer_to_a_step

pub returns-clause-reasons : goal.returns-clause-reasons
returns-clause-reasons c = reasons_are_true

pub returns-clause-all : goal.returns-clause-all
returns-clause-all c = reasons_are_all
