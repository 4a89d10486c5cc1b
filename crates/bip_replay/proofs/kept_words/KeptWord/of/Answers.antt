use Rattle.std.proofs.Common.{◌≡◌, ◌++◌, ◌∷◌, ◌≤◌, ◌∙◌, List, ℕ, ap, arith, length, rules}
use Rattle.std.specs.Fmt.{decimal}
use Rattle.std.proofs.lemmas.Fmt.{length-decimal-le}
use Rattle.bip_replay.proofs.KeptWordLemmas.{spelled_word}
use Rattle.bip_replay.proofs.kept_words.KeptWord.of.Goals as goal

pub returns : goal.returns
returns c =
    let is : c.as_bytes-digits.result.now ≡ decimal c.args.number = search rules in
    let short : length (decimal c.args.number) ≤ 20 =
    length-decimal-le 20 c.args.number (omega arith) (omega arith) (omega arith) in
    let few : length c.as_bytes-digits.result.now ≤ 20 = rw is short in
    record {
      fits = omega (arith, c.requires.1, few);
      named = λ some. c.requires;
      spelled = λ some. spelled_word c.args.name.now c.as_bytes-digits.result.now _
          c.copy_from_slice.new.self c.copy_from_slice-2.new.self c.copy_from_slice.ensures.after
          c.copy_from_slice-2.ensures.after (omega (arith, c.requires.1, few))
          ∙ ap (λ (ds : List ℕ). c.args.name.now ++ 58 ∷ ds) is;
    }
