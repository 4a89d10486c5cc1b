use Rattle.std.proofs.Common.{arith}
use Rattle.std.proofs.lemmas.Grind.{common_steps}
use Rattle.bip_model.proofs.PartitionLemmas.{list_any-named}
use Rattle.bip_model.proofs.partitions.+are_apart.Goals as goal

pub returns-then-is_name_of_one : goal.returns-then-is_name_of_one
returns-then-is_name_of_one t c = grind (
  arith,
  common_steps,
  list_any-named (λ c'. c'.0) c.in-Some.first.now.0 c.in-Some.rest.now,
)

pub returns : goal.returns
returns t c = grind (
  arith,
  common_steps,
  list_any-named (λ c'.
      c'.0) c.in-Some.first.now.0 c.in-Some.rest.now,
)
