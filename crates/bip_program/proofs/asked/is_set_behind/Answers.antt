use Rattle.std.proofs.Common.{refl, sym}
use Rattle.bip_program.proofs.ProgramLemmas.{names_command, names_none}
use Rattle.bip_program.proofs.asked.is_set_behind.Goals as goal

pub returns-in-Some : goal.returns-in-Some
returns-in-Some c =
    rw (names_command c.args.matches.now _ _ (sym c.in-Some.ensures.name)
    (sym c.in-Some.ensures.rows))
    c.is_set.ensures

pub returns-in-None : goal.returns-in-None
returns-in-None c = rw (names_none c.args.matches.now (sym c.in-None.ensures.name)) refl
