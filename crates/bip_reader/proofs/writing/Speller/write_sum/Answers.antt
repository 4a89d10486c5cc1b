use Rattle.std.proofs.Common.{◌≡◌, ◌++◌, arith, get_or, List, ℕ, []}
use Rattle.std.proofs.lemmas.Grind.{common_steps}
use Rattle.bip_model.specs.Texts.{spaced}
use Rattle.bip_model.specs.declared.expressions.Sign.{Sign}
use Rattle.bip_model.specs.declared.expressions.Sign.TheVariants.{Plus}
use Rattle.bip_model.specs.declared.expressions.Term.{Term}
use Rattle.bip_model.specs.declared.expressions.Term.TheVariants.{Value}
use Rattle.bip_model.specs.declared.expressions.Variable.{Variable}
use Rattle.bip_reader.specs.Writing.{IsSpelledTerm, sign_word, term_word, variable_word}
use Rattle.bip_reader.specs.Writing.{words_of_signed}
use Rattle.bip_reader.proofs.WritingLemmas.{words_step}
use Rattle.bip_reader.proofs.writing.Speller.write_sum.Goals as goal

two_words : (text a b : List ℕ) → (text ++ spaced a) ++ spaced b ≡ text
    ++ (spaced a ++ (spaced b ++ []))
two_words text a b = grind (arith, common_steps)

pub loop-term-preserved : goal.loop-term-preserved
loop-term-preserved c =
    let d : Sign × Term Variable = (Plus, Value 0) in
    let t : Sign × Term Variable = get_or c.as_slice-term-items.result.now c.loop-term.term-index
    d in
    words_step (λ (u : Sign × Term Variable). IsSpelledTerm u.1)
    (words_of_signed (variable_word c.args.self.now)) c.as_slice-term-items.result.now
    c.loop-term.term-index d c.write_term.new.text.items c.loop-term.text.items _
    c.loop-term-test.true c.loop-term.invariant
    (rw (c.in_ok-write_term-2.ensures.text, c.in_ok-write_sign.ensures)
    (two_words c.loop-term.text.items (sign_word t.0)
    (term_word (variable_word c.args.self.now) t.1)))
    c.in_ok-write_term-2.ensures.spelled
