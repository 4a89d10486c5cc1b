use Rattle.bipr.proofs.StreamLemmas.{puts_nothing, puts_one}
use Rattle.bipr.proofs.streams.put.Goals as goal

pub returns-then-is_empty : goal.returns-then-is_empty
returns-then-is_empty g c =
    puts_nothing g.S.Stream.writes c.args.stream.now c.args.text.now c.is_empty.result
    c.if-is_empty.ensures c.if-is_empty.true

pub returns-else-is_empty : goal.returns-else-is_empty
returns-else-is_empty g c =
    puts_one g.S.Stream.writes c.args.stream.now c.write_text.new.self c.args.text.now
    c.write_text.result
    c.if-is_empty.ensures c.write_text.ensures
