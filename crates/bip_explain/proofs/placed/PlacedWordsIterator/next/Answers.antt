use Rattle.std.proofs.Common.{◌+◌, ◌≤◌, length, arith, refl}
use Rattle.bip_explain.proofs.PlacedLemmas.{is_between, rest_behind, taken_behind, word_taken}
use Rattle.bip_explain.proofs.PlacedLemmas.{word_fits}
use Rattle.bip_explain.proofs.placed.PlacedWordsIterator.next.Goals as goal

pub overflow_sub-column-2 : goal.overflow_sub-column-2
overflow_sub-column-2 c =
    let t = c.in_ok-word in
    let fits : length t.rest.now + length t.word.now ≤ length c.args.self.now.line.now
    = word_fits c.args.self.now.line.now c.args.self.now.rest.now t.word.now t.rest.now
    c.args.self.now.of_line t.ensures.whole in
    omega arith

pub invariant_of-self : goal.invariant_of-self
invariant_of-self c =
    let t = c.in_ok-word in
    record {
      of_line = rest_behind c.args.self.now.line.now c.args.self.now.rest.now t.word.now
          t.rest.now c.args.self.now.of_line t.ensures.whole t.ensures.word;
    }

pub returns-clause-steps : goal.returns-clause-steps
returns-clause-steps c =
    let t = c.in_ok-word in (
      refl,
      (
        t.ensures.word,
        word_taken c.args.self.now.line.now c.args.self.now.rest.now t.word.now t.rest.now
            c.args.self.now.of_line t.ensures.whole t.ensures.word,
        taken_behind c.args.self.now.line.now c.args.self.now.rest.now t.word.now t.rest.now
            c.args.self.now.of_line t.ensures.whole t.ensures.word,
        is_between c.args.self.now.line.now c.args.self.now.rest.now t.rest.now _ refl
            c.args.self.now.of_line t.ensures.whole t.ensures.longer,
      ),
    )
