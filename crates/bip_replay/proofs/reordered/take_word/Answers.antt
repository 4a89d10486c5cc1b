use Rattle.bip_replay.proofs.ReorderedLemmas.{takes_word}
use Rattle.bip_replay.specs.Runs.{standing_of}
use Rattle.bip_replay.proofs.reordered.take_word.Goals as goal

pub returns : goal.returns
returns c = takes_word (standing_of c.args.position.now) c.args.left.now.items
    c.swap_remove.new.self.items c.in_ok-place.place c.swap_remove.result c.args.text.now
    c.skip_blanks-word.result.now c.in_ok-place.rest.now
    (rw c.as_slice.ensures.value at c.in_ok-place.ensures) c.swap_remove.ensures.value
    c.swap_remove.ensures.items c.skip_blanks-word.ensures
