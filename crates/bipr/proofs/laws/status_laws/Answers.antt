use Rattle.bip_answers.proofs.OneAnswerLemmas.{AreExact}
use Rattle.bipr.proofs.StatusLemmas.{check_statuses_tell, statuses_tell, steps_statuses_tell}
use Rattle.bipr.proofs.laws.status_laws.Goals as goal

pub returns : goal.returns
returns c =
    let exact : AreExact =
    record {
      meaning = c.meaning_laws.ensures.meaning;
      fault = c.meaning_laws.ensures.fault;
      either = c.meaning_laws.ensures.either;
      no_run = c.fault_laws.ensures.first;
      one = c.fault_laws.ensures.one;
    } in
    record {
      replay = statuses_tell exact;
      check = check_statuses_tell exact;
      steps = steps_statuses_tell c.schedule_laws.ensures.apart;
    }
