use Rattle.bip_explain.proofs.FormLemmas.{words_from_said}
use Rattle.bip_explain.proofs.limits.find_limit.Goals as goal

pub find_list-requires : goal.find_list-requires
find_list-requires c =
    let k = c.in_ok-keyword in
    rw k.ensures.line (words_from_said c.line_at.result.now k.keyword.word.now _ k.ensures.words)

pub returns-in-Some-clause-some : goal.returns-in-Some-clause-some
returns-in-Some-clause-some c = rw (c.in_ok-keyword.ensures.line, c.line_at.ensures) at
    (c.in-Some.ensures.some c.args.text.now c.args.number)
