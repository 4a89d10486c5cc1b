use Rattle.std.proofs.Common.{◌≡◌, ◌∙◌, List, [], Option, Some, ap, refl}
use Rattle.std.specs.Option.{option_map_or}
use Rattle.clap.specs.Words.{Row, Text, found_of, rows_of}
use Rattle.bipr.specs.Commands.{IsCarriedOutBy, spelled, unnamed}
use Rattle.bipr.specs.declared.commands.Command.{Command}
use Rattle.bipr.specs.declared.commands.Command.TheVariants as command
use Rattle.bipr.proofs.CommandLemmas.{asked_for, carried, not_asked}
use Rattle.bipr.proofs.EndingLemmas.{outcome_answered, outcomes_quiet}
use Rattle.bipr.proofs.invocations.Invocation.answer_named.Goals as goal

first_name : (a b : Text × List Row) → Some a ≡ Some b → a.0 ≡ b.0
first_name a b same =
    ap (λ (o : Option (Text × List Row)). option_map_or (λ (p : Text × List Row). p.0) o []) same

abbrev found : Text → List Row → Option (Text × List Row)
found name values = Some (name, values)

at_name : {name : Text} {named command : Command} {values : List Row} → named ≡ command
    → name ≡ spelled named → found name values ≡ found (spelled command) values
at_name {values = values} same is =
    ap (λ (n : Text). Some (n, values)) (is ∙ ap spelled same)

pub returns-in_err-asked-in-Some-Canon-clause-says :
    goal.returns-in_err-asked-in-Some-Canon-clause-says
returns-in_err-asked-in-Some-Canon-clause-says g c =
    carried g.E.Stream.writes _ _ _ _ _ _ command.Canon _
    (at_name c.in-Some-Canon.field-0-is c.in-Some-Canon.ensures.some)
    (not_asked g.E.Stream.writes _ _ _ _ _ c.read.result _ refl c.read.ensures
    c.in_err-asked-in-Some-Canon.ensures.err c.from_residual.ensures.1)

pub returns-in_ok-asked-in-Some-Canon-clause-says :
    goal.returns-in_ok-asked-in-Some-Canon-clause-says
returns-in_ok-asked-in-Some-Canon-clause-says g c =
    carried g.E.Stream.writes _ _ _ _ _ _ command.Canon _
    (at_name c.in-Some-Canon.field-0-is c.in-Some-Canon.ensures.some)
    (asked_for g.E.Stream.writes _ _ _ _ _ c.read.result _ c.read.ensures
    c.in_ok-asked-in-Some-Canon.ensures.ok c.canon.ensures.says)

pub returns-in_err-asked-in-Some-Chart-clause-says :
    goal.returns-in_err-asked-in-Some-Chart-clause-says
returns-in_err-asked-in-Some-Chart-clause-says g c =
    carried g.E.Stream.writes _ _ _ _ _ _ command.Chart _
    (at_name c.in-Some-Chart.field-0-is c.in-Some-Chart.ensures.some)
    (not_asked g.E.Stream.writes _ _ _ _ _ c.read-in-Some-Chart.result _ refl
    c.read-in-Some-Chart.ensures
    c.in_err-asked-in-Some-Chart.ensures.err c.from_residual-in_err-asked-in-Some-Chart.ensures.1)

pub returns-in_ok-asked-in-Some-Chart-clause-says :
    goal.returns-in_ok-asked-in-Some-Chart-clause-says
returns-in_ok-asked-in-Some-Chart-clause-says g c =
    carried g.E.Stream.writes _ _ _ _ _ _ command.Chart _
    (at_name c.in-Some-Chart.field-0-is c.in-Some-Chart.ensures.some)
    (asked_for g.E.Stream.writes _ _ _ _ _ c.read-in-Some-Chart.result _
    c.read-in-Some-Chart.ensures
    c.in_ok-asked-in-Some-Chart.ensures.ok c.chart.ensures.says)

pub returns-in_err-asked-in-Some-Check-clause-says :
    goal.returns-in_err-asked-in-Some-Check-clause-says
returns-in_err-asked-in-Some-Check-clause-says g c =
    carried g.E.Stream.writes _ _ _ _ _ _ command.Check _
    (at_name c.in-Some-Check.field-0-is c.in-Some-Check.ensures.some)
    (not_asked g.E.Stream.writes _ _ _ _ _ c.read-in-Some-Check.result _ refl
    c.read-in-Some-Check.ensures
    c.in_err-asked-in-Some-Check.ensures.err c.from_residual-in_err-asked-in-Some-Check.ensures.1)

pub returns-in_ok-asked-in-Some-Check-clause-says :
    goal.returns-in_ok-asked-in-Some-Check-clause-says
returns-in_ok-asked-in-Some-Check-clause-says g c =
    carried g.E.Stream.writes _ _ _ _ _ _ command.Check _
    (at_name c.in-Some-Check.field-0-is c.in-Some-Check.ensures.some)
    (asked_for g.E.Stream.writes _ _ _ _ _ c.read-in-Some-Check.result _
    c.read-in-Some-Check.ensures
    c.in_ok-asked-in-Some-Check.ensures.ok c.check.ensures.says)

pub returns-in_err-asked-in-Some-Draw-clause-says :
    goal.returns-in_err-asked-in-Some-Draw-clause-says
returns-in_err-asked-in-Some-Draw-clause-says g c =
    carried g.E.Stream.writes _ _ _ _ _ _ command.Draw _
    (at_name c.in-Some-Draw.field-0-is c.in-Some-Draw.ensures.some)
    (not_asked g.E.Stream.writes _ _ _ _ _ c.read-in-Some-Draw.result _ refl
    c.read-in-Some-Draw.ensures
    c.in_err-asked-in-Some-Draw.ensures.err c.from_residual-in_err-asked-in-Some-Draw.ensures.1)

pub returns-in_ok-asked-in-Some-Draw-clause-says :
    goal.returns-in_ok-asked-in-Some-Draw-clause-says
returns-in_ok-asked-in-Some-Draw-clause-says g c =
    carried g.E.Stream.writes _ _ _ _ _ _ command.Draw _
    (at_name c.in-Some-Draw.field-0-is c.in-Some-Draw.ensures.some)
    (asked_for g.E.Stream.writes _ _ _ _ _ c.read-in-Some-Draw.result _ c.read-in-Some-Draw.ensures
    c.in_ok-asked-in-Some-Draw.ensures.ok c.draw.ensures.says)

pub returns-in_err-asked-in-Some-Replay-clause-says :
    goal.returns-in_err-asked-in-Some-Replay-clause-says
returns-in_err-asked-in-Some-Replay-clause-says g c =
    carried g.E.Stream.writes _ _ _ _ _ _ command.Replay _
    (at_name c.in-Some-Replay.field-0-is c.in-Some-Replay.ensures.some)
    (not_asked g.E.Stream.writes _ _ _ _ _ c.read-in-Some-Replay.result _ refl
    c.read-in-Some-Replay.ensures
    c.in_err-asked-in-Some-Replay.ensures.err c.from_residual-in_err-asked-in-Some-Replay.ensures.1)

pub returns-in_ok-asked-in-Some-Replay-clause-says :
    goal.returns-in_ok-asked-in-Some-Replay-clause-says
returns-in_ok-asked-in-Some-Replay-clause-says g c =
    carried g.E.Stream.writes _ _ _ _ _ _ command.Replay _
    (at_name c.in-Some-Replay.field-0-is c.in-Some-Replay.ensures.some)
    (asked_for g.E.Stream.writes _ _ _ _ _ c.read-in-Some-Replay.result _
    c.read-in-Some-Replay.ensures
    c.in_ok-asked-in-Some-Replay.ensures.ok c.replay.ensures.says)

pub returns-in_err-asked-in-Some-Steps-clause-says :
    goal.returns-in_err-asked-in-Some-Steps-clause-says
returns-in_err-asked-in-Some-Steps-clause-says g c =
    carried g.E.Stream.writes _ _ _ _ _ _ command.Steps _
    (at_name c.in-Some-Steps.field-0-is c.in-Some-Steps.ensures.some)
    (not_asked g.E.Stream.writes _ _ _ _ _ c.read-in-Some-Steps.result _ refl
    c.read-in-Some-Steps.ensures
    c.in_err-asked-in-Some-Steps.ensures.err c.from_residual-in_err-asked-in-Some-Steps.ensures.1)

pub returns-in_ok-asked-in-Some-Steps-clause-says :
    goal.returns-in_ok-asked-in-Some-Steps-clause-says
returns-in_ok-asked-in-Some-Steps-clause-says g c =
    carried g.E.Stream.writes _ _ _ _ _ _ command.Steps _
    (at_name c.in-Some-Steps.field-0-is c.in-Some-Steps.ensures.some)
    (asked_for g.E.Stream.writes _ _ _ _ _ c.read-in-Some-Steps.result _
    c.read-in-Some-Steps.ensures
    c.in_ok-asked-in-Some-Steps.ensures.ok c.steps.ensures.says)

pub returns-in_err-asked-in-Some-Explore-clause-says :
    goal.returns-in_err-asked-in-Some-Explore-clause-says
returns-in_err-asked-in-Some-Explore-clause-says g c =
    carried g.E.Stream.writes _ _ _ _ _ _ command.Explore _
    (at_name c.in-Some-Explore.field-0-is c.in-Some-Explore.ensures.some)
    (not_asked g.E.Stream.writes _ _ _ _ _ c.read-in-Some-Explore.result _ refl
    c.read-in-Some-Explore.ensures
    c.in_err-asked-in-Some-Explore.ensures.err
    c.from_residual-in_err-asked-in-Some-Explore.ensures.1)

pub returns-in_ok-asked-in-Some-Explore-clause-says :
    goal.returns-in_ok-asked-in-Some-Explore-clause-says
returns-in_ok-asked-in-Some-Explore-clause-says g c =
    carried g.E.Stream.writes _ _ _ _ _ _ command.Explore _
    (at_name c.in-Some-Explore.field-0-is c.in-Some-Explore.ensures.some)
    (asked_for g.E.Stream.writes _ _ _ _ _ c.read-in-Some-Explore.result _
    c.read-in-Some-Explore.ensures
    c.in_ok-asked-in-Some-Explore.ensures.ok c.explore.ensures.says)

pub returns-in_err-asked-in-Some-Run-clause-says :
    goal.returns-in_err-asked-in-Some-Run-clause-says
returns-in_err-asked-in-Some-Run-clause-says g c =
    carried g.E.Stream.writes _ _ _ _ _ _ command.Run _
    (at_name c.in-Some-Run.field-0-is c.in-Some-Run.ensures.some)
    (not_asked g.E.Stream.writes _ _ _ _ _ c.read-in-Some-Run.result _ refl
    c.read-in-Some-Run.ensures
    c.in_err-asked-in-Some-Run.ensures.err c.from_residual-in_err-asked-in-Some-Run.ensures.1)

pub returns-in_ok-asked-in-Some-Run-clause-says :
    goal.returns-in_ok-asked-in-Some-Run-clause-says
returns-in_ok-asked-in-Some-Run-clause-says g c =
    carried g.E.Stream.writes _ _ _ _ _ _ command.Run _
    (at_name c.in-Some-Run.field-0-is c.in-Some-Run.ensures.some)
    (asked_for g.E.Stream.writes _ _ _ _ _ c.read-in-Some-Run.result _ c.read-in-Some-Run.ensures
    c.in_ok-asked-in-Some-Run.ensures.ok c.run.ensures.says)

pub returns-in_err-asked-in-Some-Seed-clause-says :
    goal.returns-in_err-asked-in-Some-Seed-clause-says
returns-in_err-asked-in-Some-Seed-clause-says g c =
    carried g.E.Stream.writes _ _ _ _ _ _ command.Seed _
    (at_name c.in-Some-Seed.field-0-is c.in-Some-Seed.ensures.some)
    (not_asked g.E.Stream.writes _ _ _ _ _ c.read-in-Some-Seed.result _ refl
    c.read-in-Some-Seed.ensures
    c.in_err-asked-in-Some-Seed.ensures.err c.from_residual-in_err-asked-in-Some-Seed.ensures.1)

pub returns-in_ok-asked-in-Some-Seed-clause-says :
    goal.returns-in_ok-asked-in-Some-Seed-clause-says
returns-in_ok-asked-in-Some-Seed-clause-says g c =
    carried g.E.Stream.writes _ _ _ _ _ _ command.Seed _
    (at_name c.in-Some-Seed.field-0-is c.in-Some-Seed.ensures.some)
    (asked_for g.E.Stream.writes _ _ _ _ _ c.read-in-Some-Seed.result _ c.read-in-Some-Seed.ensures
    c.in_ok-asked-in-Some-Seed.ensures.ok c.seed.ensures.says)

pub returns-in_err-asked-in-Some-Walk-clause-says :
    goal.returns-in_err-asked-in-Some-Walk-clause-says
returns-in_err-asked-in-Some-Walk-clause-says g c =
    carried g.E.Stream.writes _ _ _ _ _ _ command.Walk _
    (at_name c.in-Some-Walk.field-0-is c.in-Some-Walk.ensures.some)
    (not_asked g.E.Stream.writes _ _ _ _ _ c.read-in-Some-Walk.result _ refl
    c.read-in-Some-Walk.ensures
    c.in_err-asked-in-Some-Walk.ensures.err c.from_residual-in_err-asked-in-Some-Walk.ensures.1)

pub returns-in_ok-asked-in-Some-Walk-clause-says :
    goal.returns-in_ok-asked-in-Some-Walk-clause-says
returns-in_ok-asked-in-Some-Walk-clause-says g c =
    carried g.E.Stream.writes _ _ _ _ _ _ command.Walk _
    (at_name c.in-Some-Walk.field-0-is c.in-Some-Walk.ensures.some)
    (asked_for g.E.Stream.writes _ _ _ _ _ c.read-in-Some-Walk.result _ c.read-in-Some-Walk.ensures
    c.in_ok-asked-in-Some-Walk.ensures.ok c.walk.ensures.says)

pub returns-in-None-clause-says : goal.returns-in-None-clause-says
returns-in-None-clause-says g c =
    let gives = g.I.Inputs.gives c.args.self.now.inputs.now in
    let hosts = g.H.Hosting.hosts c.args.self.now.hosting.now in
    outcomes_quiet g.E.Stream.writes _ _ _ (IsCarriedOutBy _ gives hosts) refl
    (outcome_answered (IsCarriedOutBy _ gives hosts []) _
    (unnamed (λ command values same.
    c.in-None.ensures.none command
    (first_name (c.args.name.now, rows_of (found_of c.args.behind.now)) (spelled command, values)
    same))))
