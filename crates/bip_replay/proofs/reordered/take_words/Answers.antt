use Rattle.std.proofs.Common.{◌<◌, length}
use Rattle.bip_model.specs.declared.numbering.CompId.{CompId}
use Rattle.bip_replay.proofs.ReorderedLemmas.{left_known, takes_more}
use Rattle.bip_replay.specs.Runs.{standing_of}
use Rattle.bip_replay.proofs.reordered.take_words.Goals as goal

pub take_word-requires : goal.take_word-requires
take_word-requires c = left_known (standing_of c.args.position.now) c.args.left.now.items
    c.loop.left.items c.loop.counter c.args.text.now c.loop.rest.now
    (λ (x : CompId). x.0 < length c.args.position.now.model.component_names) c.loop.invariant.1
    c.requires

pub loop-preserved : goal.loop-preserved
loop-preserved c = (
  c.loop.invariant.0,
  takes_more (standing_of
      c.args.position.now) c.args.left.now.items c.loop.left.items c.take_word.new.left.items
      c.loop.counter c.args.text.now c.loop.rest.now c.in_ok-rest.rest.now c.loop.invariant.1
      c.in_ok-rest.ensures,
)
