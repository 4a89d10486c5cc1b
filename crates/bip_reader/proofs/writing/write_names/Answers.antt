use Rattle.bip_model.specs.Naming.{IsName}
use Rattle.bip_reader.specs.Writing.{line_of_name}
use Rattle.bip_reader.proofs.WritingLemmas.{list_step}
use Rattle.bip_reader.proofs.writing.write_names.Goals as goal

pub loop-name-preserved : goal.loop-name-preserved
loop-name-preserved c =
    list_step IsName (line_of_name c.args.keyword.now) c.args.names.now c.loop-name.name-index
    c.name-item.result c.args.text.now.items c.loop-name.text.items _ c.loop-name-test.true
    c.name-item.is c.loop-name.invariant
    c.in_ok-write_name.ensures.text c.in_ok-write_name.ensures.spelled
