use Rattle.bip_bank.specs.Banks.{content_of}
use Rattle.bip_bank.specs.Central.{kept_central}
use Rattle.bip_tests.proofs.SecondLemmas.{may_move}
use Rattle.bip_tests.proofs.second.SecondBank.why_idle.Goals as goal

pub returns-in_default : goal.returns-in_default
returns-in_default c = record {
  some = tt;
  none = may_move (content_of (kept_central c.args.self.now.central)) c.args.self.now.lacks
      c.args.step c.in_default.not-Serve;
}
