use Rattle.bip_words.specs.Tables.{IsSeatOf}
use Rattle.bip_host_tests.proofs.tests.reserving.run_on.Given as goal

abbrev pub invariant-loop : goal.invariant-loop
invariant-loop l = IsSeatOf l.table l.seat
