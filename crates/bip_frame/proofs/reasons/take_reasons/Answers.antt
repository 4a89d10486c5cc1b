use Rattle.std.proofs.Common.{arith}
use Rattle.bip_frame.specs.Entries.{no_word, read_reason}
use Rattle.bip_frame.specs.Faults.{reason_parts}
use Rattle.bip_frame.specs.Lent.{why_in}
use Rattle.bip_frame.proofs.PartLemmas.{count_part, list_lies}
use Rattle.bip_frame.proofs.ReasonLemmas.{reason_part, reason_size}
use Rattle.bip_frame.proofs.reasons.take_reasons.Goals as goal

pub returns-clause-read : goal.returns-clause-read
returns-clause-read c = (list_lies reason_parts read_reason reason_part 4 why_in reason_size no_word
    c.args.bytes.now c.in_ok-count.count c.in_ok-count.list.now tt c.in_ok-rest.rest.now
    (λ i. omega (arith, c.type_inv.bytes i)) c.in_ok-count.ensures c.in_ok-rest.ensures).2

pub returns-clause-lie : goal.returns-clause-lie
returns-clause-lie c = (
  ((count_part 127).takes c.args.bytes.now c.in_ok-count.count c.in_ok-count.list.now
      (λ i. omega (arith, c.type_inv.bytes i)) c.in_ok-count.ensures).0.parts,
  (list_lies reason_parts read_reason reason_part 4 why_in reason_size no_word c.args.bytes.now
      c.in_ok-count.count c.in_ok-count.list.now tt c.in_ok-rest.rest.now
      (λ i. omega (arith, c.type_inv.bytes i)) c.in_ok-count.ensures c.in_ok-rest.ensures).0,
)
