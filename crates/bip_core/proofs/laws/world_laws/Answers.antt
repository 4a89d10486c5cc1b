use Rattle.bip_core.proofs.FirstLemmas.{first_offers_are_sent}
use Rattle.bip_core.proofs.TakeLemmas.{told_can_be_taken}
use Rattle.bip_core.proofs.KeepLemmas.{worlds_keep_their_plan}
use Rattle.bip_core.proofs.RunLemmas.{messages_counted, messages_once, messages_sent, step_trace}
use Rattle.bip_core.proofs.RunLemmas.{steps_grow}
use Rattle.bip_core.proofs.WorkLemmas.{no_work_is_idle, work_is_done}
use Rattle.bip_core.proofs.laws.world_laws.Goals as goal

pub returns-clause-join : goal.returns-clause-join
returns-clause-join c = λ w v event did step. step_trace w event did v step

pub returns-clause-go_on : goal.returns-clause-go_on
returns-clause-go_on c = λ w v events dids so. steps_grow events dids w v so

pub returns-clause-plan : goal.returns-clause-plan
returns-clause-plan c = worlds_keep_their_plan

pub returns-clause-sent : goal.returns-clause-sent
returns-clause-sent c = messages_sent

pub returns-clause-once : goal.returns-clause-once
returns-clause-once c = messages_once

pub returns-clause-counted : goal.returns-clause-counted
returns-clause-counted c = messages_counted

pub returns-clause-first : goal.returns-clause-first
returns-clause-first c = first_offers_are_sent

pub returns-clause-taken : goal.returns-clause-taken
returns-clause-taken c = told_can_be_taken

pub returns-clause-work : goal.returns-clause-work
returns-clause-work c = work_is_done

pub returns-clause-idle : goal.returns-clause-idle
returns-clause-idle c = no_work_is_idle
