use Rattle.std.proofs.Common.{false, map, rules}
use Rattle.std.specs.String.{string_bytes}
use Rattle.bipr.specs.Commands.{IsCarriedOut, lacking, unparsed}
use Rattle.bipr.specs.Refusals.{IsErrorAnswer}
use Rattle.bipr.specs.Streams.{none_put}
use Rattle.bipr.proofs.EndingLemmas.{end_keeping, ends_quietly, ends_unexplained}
use Rattle.bip_program.proofs.ProgramLemmas.{does_not_parse, parses}
use Rattle.bipr.proofs.invocations.Invocation.carry_out.Goals as goal

pub returns-in_default : goal.returns-in_default
returns-in_default g c =
    let words = map string_bytes c.args.words.now in
    ends_unexplained (IsCarriedOut words (g.I.Inputs.gives c.args.self.now.inputs.now)
    (g.H.Hosting.hosts c.args.self.now.hosting.now)) _ _ g.E.Stream.writes _ _ _ (record {
      told = _;
      middle = _;
      on_the_way = none_put;
      ends = (_, lacking, end_keeping _ _ _ _ _ c.complain.ensures);
    })

pub returns-in-Ok-try_get_matches_from : goal.returns-in-Ok-try_get_matches_from
returns-in-Ok-try_get_matches_from g c =
    let words = map string_bytes c.args.words.now in
    let parse = c.in-Ok-try_get_matches_from in
    c.carry_out_parsed.ensures words (parses _ _ words parse.matches c.in-Ok.ensures
    (search rules) parse.ensures.matches parse.ensures.kinds)

pub returns-in-Err : goal.returns-in-Err
returns-in-Err g c =
    let words = map string_bytes c.args.words.now in
    let gives = g.I.Inputs.gives c.args.self.now.inputs.now in
    let hosts = g.H.Hosting.hosts c.args.self.now.hosting.now in
    let fails = does_not_parse _ _ words c.in-Err.error c.in-Ok.ensures (search rules)
    c.in-Err.ensures.kinds in
    let ends = c.end.ensures in
    ends_unexplained (IsCarriedOut words gives hosts) _ _ g.E.Stream.writes _ _ _
    (ends_quietly (IsErrorAnswer c.in-Err.error) (IsCarriedOut words gives hosts false) _ _
    g.E.Stream.writes _ _ _
    (ends.0, c.answer_error-answer.ensures ends.0 ends.1, ends.2)
    (λ answer is. unparsed c.in-Err.error answer fails is))
