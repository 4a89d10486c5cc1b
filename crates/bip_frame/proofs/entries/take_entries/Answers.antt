use Rattle.std.proofs.Common.{arith}
use Rattle.bip_frame.specs.Entries.{one_moves, read_entry}
use Rattle.bip_frame.specs.Faults.{entry_parts}
use Rattle.bip_frame.specs.Lent.{want_in}
use Rattle.bip_frame.proofs.EntryLemmas.{entry_part, entry_size}
use Rattle.bip_frame.proofs.PartLemmas.{list_lies}
use Rattle.bip_frame.proofs.entries.take_entries.Goals as goal

pub returns-clause-read : goal.returns-clause-read
returns-clause-read c = (list_lies entry_parts read_entry entry_part 11 want_in entry_size one_moves
    c.args.bytes.now c.in_ok-count.count c.in_ok-count.list.now c.in_ok-moved.moved
    c.in_ok-moved.rest.now (λ i. omega (arith, c.type_inv.bytes i)) c.in_ok-count.ensures
    c.in_ok-moved.ensures).2

pub returns-clause-lie : goal.returns-clause-lie
returns-clause-lie c = (list_lies entry_parts read_entry entry_part 11 want_in entry_size one_moves
    c.args.bytes.now c.in_ok-count.count c.in_ok-count.list.now c.in_ok-moved.moved
    c.in_ok-moved.rest.now (λ i. omega (arith, c.type_inv.bytes i)) c.in_ok-count.ensures
    c.in_ok-moved.ensures).0

pub returns-clause-moved : goal.returns-clause-moved
returns-clause-moved c = (list_lies entry_parts read_entry entry_part 11 want_in entry_size
    one_moves c.args.bytes.now c.in_ok-count.count c.in_ok-count.list.now c.in_ok-moved.moved
    c.in_ok-moved.rest.now (λ i. omega (arith, c.type_inv.bytes i)) c.in_ok-count.ensures
    c.in_ok-moved.ensures).1
