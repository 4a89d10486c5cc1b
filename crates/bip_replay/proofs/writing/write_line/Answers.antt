use Rattle.std.proofs.Common.{[]}
use Rattle.std.proofs.lemmas.List.{get_or_read}
use Rattle.bip_replay.proofs.TextLemmas.{line-reads_back}
use Rattle.bip_replay.proofs.writing.write_line.Goals as goal

pub returns-clause-reads_back : goal.returns-clause-reads_back
returns-clause-reads_back c =
    let same = c.interaction_names.ensures.names in
    let found = get_or_read c.interaction_names.result.now c.args.grant.now.inter.0
    c.index-interaction_names-grant.result
    (rw same c.requires.inter) c.index-interaction_names-grant.is [] in
    line-reads_back c.args.model.now c.args.grant.now c.interaction_names.ensures.valid c.requires
    (rw (found, same) at c.as_bytes.ensures.name) c.as_slice.ensures.valid
    (rw c.as_slice.ensures.wants at c.in_ok-write_wants.ensures.spelled)
