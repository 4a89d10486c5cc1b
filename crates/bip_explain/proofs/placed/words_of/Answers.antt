use Rattle.std.proofs.Common.{◌≡◌, ◌∷◌, Some, rules}
use Rattle.bip_model.specs.Texts.{words}
use Rattle.bip_explain.specs.Placed.{TakesWord, said_words}
use Rattle.bip_explain.proofs.PlacedLemmas.{first_on}
use Rattle.bip_explain.proofs.placed.words_of.Goals as goal

pub returns-in_ok-first-in-Words-clause-first : goal.returns-in_ok-first-in-Words-clause-first
returns-in_ok-first-in-Words-clause-first c =
    let line = c.args.line.now in
    let first = c.in_ok-first-in-Words.first in
    let new = c.next.new.self.rest.now in
    let step : TakesWord line line (Some first) new =
    rw (c.of-words.ensures.line, c.of-words.ensures.rest) at
    c.in_ok-first-in-Words.ensures.steps.1 in
    let says : said_words line ≡ first.word.now ∷ words new = search rules in
    first_on line new first (words new) step says
