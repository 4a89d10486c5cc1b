use Rattle.bip_model.proofs.PlaceLemmas.{places_more}
use Rattle.bip_model.proofs.parts.Component.places.Goals as goal

pub loop-place-preserved : goal.loop-place-preserved
loop-place-preserved c =
    let t = c.index-transitions-place.result in
    rw c.index_of.ensures (places_more c.args.self.now c.loop-place.place t t
    c.loop-place.places.items c.requires
    (rw c.as_slice-transitions.ensures at c.loop-place-test.true)
    (rw c.as_slice-transitions.ensures at c.index-transitions-place.is) c.loop-place.invariant)
