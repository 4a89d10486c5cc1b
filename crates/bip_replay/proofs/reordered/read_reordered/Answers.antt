use Rattle.std.proofs.Common.{◌≡◌, [], rules}
use Rattle.bip_model.proofs.ListLemmas.{empty_is}
use Rattle.bip_replay.proofs.ReorderedLemmas.{said_line}
use Rattle.bip_replay.specs.Expected.{IsApart}
use Rattle.bip_replay.specs.Runs.{standing_of}
use Rattle.bip_replay.proofs.reordered.read_reordered.Goals as goal

pub returns : goal.returns
returns c =
    let apart : IsApart c.in_ok-behind.behind.now = search rules in
    let none : c.skip_blanks.result.now ≡ [] = empty_is c.skip_blanks.result.now (search rules) in
    said_line (standing_of c.args.position.now) c.args.line.now c.in_ok-behind.behind.now
    c.in_ok-name.name.now c.in_ok-name.wants.now c.in_ok-rest.rest.now c.skip_blanks.result.now
    c.in_ok-inter.inter.0 c.in_ok-behind.ensures apart c.in_ok-name.ensures.word
    c.in_ok-name.ensures.whole (rw c.model.ensures at c.in_ok-inter.ensures) c.in_ok-rest.ensures
    c.skip_blanks.ensures none
