use Rattle.bip_core.proofs.TraceLemmas.{own_joined, trace_length}
use Rattle.bip_core.specs.Traces.{trace_by}
use Rattle.bip_core.proofs.traces.join_tried.Goals as goal

pub returns-in-Local : goal.returns-in-Local
returns-in-Local c =
    let trace = trace_by c.args.own.now.items c.args.granted.now in
    rw (c.in-Local.is, c.push_reserved.ensures.items, c.copy_all.ensures.all, c.copy.ensures)
    (own_joined trace c.args.granted.now c.in-Local.grant
    (trace_length c.args.own.now.items c.args.granted.now))
