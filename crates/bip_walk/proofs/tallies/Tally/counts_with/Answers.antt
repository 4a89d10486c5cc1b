use Rattle.std.proofs.Common.{◌∙◌, ap, arith, sym}
use Rattle.std.proofs.lemmas.List.FromFn.{map-range_with_len_more}
use Rattle.bip_walk.specs.Tallies.{Tallied, joined_at}
use Rattle.bip_walk.proofs.tallies.Tally.counts_with.Goals as goal

pub loop-place-preserved : goal.loop-place-preserved
loop-place-preserved c =
    let mine = ap (λ (t : Tallied). t.counts) c.self.view_is in
    let theirs = ap (λ (t : Tallied). t.counts) c.more.view_is in (
      c.push.ensures.items ∙ rw (
        c.loop-place.invariant.0,
        c.joined_count.ensures,
        c.deref.ensures.0,
        c.deref-in-loop-place.ensures.0,
        mine,
        theirs,
      ) (
          sym (map-range_with_len_more (joined_at c.args.self.now.counts c.args.more.now.counts)
          0 c.loop-place.place c.loop-place.place (omega arith))),
      omega (arith, c.push.ensures.len, c.loop-place.invariant.1),
    )
