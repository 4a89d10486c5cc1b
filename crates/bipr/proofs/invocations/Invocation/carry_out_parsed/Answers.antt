use Rattle.std.proofs.Common.{false, true}
use Rattle.bip_program.specs.Asked.{IsExplainAsked}
use Rattle.bipr.specs.Commands.{IsCarriedOut, parsed}
use Rattle.bip_program.specs.Programs.{parsed_of}
use Rattle.bipr.proofs.EndingLemmas.{ends_telling, ends_unexplained, outcomes_weaker}
use Rattle.bipr.proofs.invocations.Invocation.carry_out_parsed.Goals as goal

pub returns-then-is_asked : goal.returns-then-is_asked
returns-then-is_asked g c = λ words says.
    let said = parsed_of c.args.matches.now in
    let asked : IsExplainAsked said true =
    rw c.if-is_asked.true at c.is_explained-is_asked.ensures in
    rw c.explain.ensures.output (record {
      is_asked = true;
      last = _;
      ends = ends_telling _ _ _ g.E.Stream.writes _ _ _ c.answer-answer.result c.end-status.result
          (outcomes_weaker g.E.Stream.writes _ _ c.answer-answer.result _ _
          c.answer-answer.ensures.says
          (λ told answer by. parsed said true told answer says asked by))
          (rw c.answer-answer.ensures.output at c.end-status.ensures);
      why = _;
      shown = c.explain.ensures.shown;
      short = c.explain.ensures.short;
      explained = c.explain.ensures.explained;
      unasked = λ no. cc;
    })

pub returns-else-is_asked : goal.returns-else-is_asked
returns-else-is_asked g c = λ words says.
    let gives = g.I.Inputs.gives c.args.self.now.inputs.now in
    let hosts = g.H.Hosting.hosts c.args.self.now.hosting.now in
    let said = parsed_of c.args.matches.now in
    let asked : IsExplainAsked said false =
    rw c.if-is_asked.false at c.is_explained-is_asked.ensures in
    ends_unexplained (IsCarriedOut words gives hosts) _ _ g.E.Stream.writes _ _ _
    (ends_telling (IsCarriedOut words gives hosts false) _ _ g.E.Stream.writes _ _ _
    c.answer-answer.result c.end-status.result
    (outcomes_weaker g.E.Stream.writes _ _ c.answer-answer.result _ _ c.answer-answer.ensures.says
    (λ told answer by. parsed said false told answer says asked by))
    (rw c.answer-answer.ensures.output at c.end-status.ensures))
