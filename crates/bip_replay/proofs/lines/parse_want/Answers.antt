use Rattle.std.proofs.Common.{rules, sym}
use Rattle.std.proofs.lemmas.Option.{cond_some}
use Rattle.bip_model.specs.Naming.{is_name}
use Rattle.bip_model.specs.Words.{name_of}
use Rattle.bip_replay.proofs.lines.parse_want.Goals as goal

pub returns : goal.returns
unfolding name_of
returns c =
    let word = c.in_ok-name.name.now in
    let known = cond_some (is_name word) word c.in_ok-name-2.name (sym c.in_ok-name-2.ensures) in
    search (rules, known)
