use Rattle.std.proofs.Common.{◌≡◌, ◌+◌, ◌++◌, ◌∙◌, List, ℕ, ap}
use Rattle.bip_replay.proofs.ExpectedLemmas.{some_weaker}
use Rattle.bip_replay.proofs.FollowerLemmas.{kept_has, kept_spelled}
use Rattle.bip_replay.specs.Runs.{standing_of}
use Rattle.bip_replay.proofs.followers.Follower.strip_word.Goals as goal

pub returns-in-Some-clause-word : goal.returns-in-Some-clause-word
returns-in-Some-clause-word c =
    let numbered : c.in-Some.word.now.number
    ≡ (standing_of c.args.self.now).used c.args.comp.0 + 1 =
    c.in-Some.ensures.numbered ∙ c.in_ok-number.ensures.next in
    some_weaker _ _ c.strip.result (λ rest e. e
    ∙ ap (λ (t : List ℕ). t ++ rest.now) (c.as_bytes.ensures
    ∙ kept_spelled c.args.self.now c.args.comp c.in-Some.word.now c.in-Some.ensures.word numbered))
    c.strip.ensures

pub returns-in-Some-clause-has : goal.returns-in-Some-clause-has
returns-in-Some-clause-has c =
    let numbered : c.in-Some.word.now.number
    ≡ (standing_of c.args.self.now).used c.args.comp.0 + 1 =
    c.in-Some.ensures.numbered ∙ c.in_ok-number.ensures.next in
    some_weaker _ _ c.strip.result (λ rest e. kept_has c.args.self.now c.args.comp
    c.in-Some.word.now c.requires c.in-Some.ensures.word numbered c.in_ok-number.ensures.fits)
    c.strip.ensures
