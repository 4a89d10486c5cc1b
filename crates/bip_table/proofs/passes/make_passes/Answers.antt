use Rattle.bip_table.proofs.PassLemmas.{first_counts}
use Rattle.bip_table.proofs.passes.make_passes.Goals as goal

pub invariant_of-push : goal.invariant_of-push
invariant_of-push g c = (
  c.split_off-share.ensures.parts,
  rw (c.of-tallies.ensures, c.in_ok-first_tallies.ensures) (first_counts c.args.rows.now _),
)
