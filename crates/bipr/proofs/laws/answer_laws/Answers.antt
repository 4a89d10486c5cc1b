use Rattle.bipr.proofs.HostedLemmas.{hosts_replay}
use Rattle.bipr.proofs.MarkLemmas.{are_parts}
use Rattle.bip_answers.proofs.OneAnswerLemmas.{AreExact, has_one_answer}
use Rattle.bip_answers.proofs.OneCheckLemmas.{has_one_check}
use Rattle.bip_answers.proofs.RenderingLemmas.{has_one_rendering}
use Rattle.bipr.proofs.ScheduledLemmas.{steps_replay}
use Rattle.bipr.proofs.SomeAnswerLemmas.{some_answer}
use Rattle.bipr.proofs.laws.answer_laws.Goals as goal

pub returns : goal.returns
returns c =
    let exact : AreExact =
    record {
      meaning = c.meaning_laws.ensures.meaning;
      fault = c.meaning_laws.ensures.fault;
      either = c.meaning_laws.ensures.either;
      no_run = c.fault_laws.ensures.first;
      one = c.fault_laws.ensures.one;
    } in
    record {
      parts = are_parts;
      some =
          some_answer c.meaning_laws.ensures.some c.meaning_laws.ensures.valid
          c.meaning_laws.ensures.whys c.fault_laws.ensures.answered;
      one = has_one_answer exact;
      one_check = has_one_check exact;
      one_rendering = has_one_rendering exact;
      replays = steps_replay;
      hosts = hosts_replay;
    }
