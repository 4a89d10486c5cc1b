use Rattle.bip_draw.specs.Charts.{has_mark}
use Rattle.bip_draw.proofs.ChartLemmas.{some_filtered}
use Rattle.bip_draw.proofs.charts.write_wants.Goals as goal

pub write_marked-requires-clause-some : goal.write_marked-requires-clause-some
write_marked-requires-clause-some c =
    rw (c.as_slice.ensures.value, c.in_ok-marked.ensures)
    (some_filtered (has_mark c.args.layout.now.only) c.args.wants.now c.requires.marked)
