use Rattle.std.proofs.Common.{◌≡◌}
use Rattle.bip_bank.specs.Banks.{content_of}
use Rattle.bip_tests.proofs.tests.banking.take_steps.Given as goal

abbrev pub invariant-loop-step : goal.invariant-loop-step
invariant-loop-step g l = (content_of (g.B.Bank.kept l.bank)).plan ≡ l.plan
