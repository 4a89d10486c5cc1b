use Rattle.std.proofs.Common.{rules}
use Rattle.bipr.specs.Refusals.{lacking, no_text}
use Rattle.bipr.proofs.invocations.Invocation.refuse_words.Goals as goal

pub returns-then-eq : goal.returns-then-eq
returns-then-eq g c = (_, lacking (search rules), c.complain.ensures)

pub returns : goal.returns
returns g c = (_, no_text (search rules), c.complain-2.ensures)
