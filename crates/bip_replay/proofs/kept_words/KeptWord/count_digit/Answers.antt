use Rattle.std.proofs.Common.{◌≡◌, ◌+◌, ◌-◌, arith}
use Rattle.std.proofs.lemmas.Bool.Decides.{nat_tests}
use Rattle.bip_replay.proofs.KeptWordLemmas.{counts_up}
use Rattle.bip_replay.proofs.kept_words.KeptWord.count_digit.Goals as goal

pub returns : goal.returns
returns c = λ name is.
    let numbered : c.args.number ≡ c.args.self.now.number + 1 = grind (arith, nat_tests) in
    record {
      fits = is.fits;
      named = λ some. is.named (omega arith);
      spelled = λ some. rw numbered
          (counts_up name c.args.self.now.bytes c.args.self.now.len (c.args.self.now.len - 1)
          c.args.self.now.number (omega arith) (omega arith) (omega arith)
          (is.spelled (omega arith)) (omega arith));
    }
