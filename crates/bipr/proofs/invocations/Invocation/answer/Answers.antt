use Rattle.std.proofs.Common.{[], refl, sym}
use Rattle.bipr.specs.Commands.{IsCarriedOutBy, unnamed}
use Rattle.bipr.proofs.EndingLemmas.{outcome_answered, outcomes_quiet}
use Rattle.bip_program.proofs.ProgramLemmas.{names_command, names_none}
use Rattle.bipr.proofs.invocations.Invocation.answer.Goals as goal

pub returns-in-Some-clause-says : goal.returns-in-Some-clause-says
returns-in-Some-clause-says g c =
    rw (names_command c.args.matches.now _ _ (sym c.in-Some.ensures.name)
    (sym c.in-Some.ensures.rows)) c.answer_named.ensures.says

pub returns-in-None-clause-says : goal.returns-in-None-clause-says
returns-in-None-clause-says g c =
    let gives = g.I.Inputs.gives c.args.self.now.inputs.now in
    let hosts = g.H.Hosting.hosts c.args.self.now.hosting.now in
    let none = names_none c.args.matches.now (sym c.in-None.ensures.name) in
    outcomes_quiet g.E.Stream.writes _ _ _ (IsCarriedOutBy _ gives hosts) refl
    (outcome_answered (IsCarriedOutBy _ gives hosts []) _
    (unnamed (λ command values same. cc)))
