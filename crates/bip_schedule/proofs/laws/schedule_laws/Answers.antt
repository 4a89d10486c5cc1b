use Rattle.bip_schedule.proofs.LawLemmas.{events_or_fault, not_both, one_schedule}
use Rattle.bip_schedule.proofs.LawLemmas.{one_schedule_fault, one_seed_trace}
use Rattle.bip_schedule.proofs.LineLemmas.{lines_are_events, lines_are_unknown, lines_say_nothing}
use Rattle.bip_partition.proofs.TableLemmas.{one_stations}
use Rattle.bip_schedule.proofs.IdleLemmas.{busy_never_idle}
use Rattle.bip_schedule.proofs.laws.schedule_laws.Goals as goal

pub returns-clause-stations : goal.returns-clause-stations
returns-clause-stations c = one_stations

pub returns-clause-events : goal.returns-clause-events
returns-clause-events c = one_schedule

pub returns-clause-fault : goal.returns-clause-fault
returns-clause-fault c = one_schedule_fault

pub returns-clause-apart : goal.returns-clause-apart
returns-clause-apart c = not_both

pub returns-clause-either : goal.returns-clause-either
returns-clause-either c = events_or_fault

pub returns-clause-seed : goal.returns-clause-seed
returns-clause-seed c = one_seed_trace

pub returns-clause-lines : goal.returns-clause-lines
returns-clause-lines c = lines_are_events

pub returns-clause-nothing : goal.returns-clause-nothing
returns-clause-nothing c = lines_say_nothing

pub returns-clause-unknown : goal.returns-clause-unknown
returns-clause-unknown c = lines_are_unknown

pub returns-clause-busy : goal.returns-clause-busy
returns-clause-busy c = busy_never_idle
