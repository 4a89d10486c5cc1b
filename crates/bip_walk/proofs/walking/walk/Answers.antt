use Rattle.std.proofs.Common.{ap, arith}
use Rattle.bip_replay.specs.Book.{Content}
use Rattle.bip_replay.specs.Runs.{standing_of}
use Rattle.bip_walk.proofs.RenewLemmas.{none_chosen, renewed_first}
use Rattle.bip_walk.proofs.WalkingLemmas.{ends_so_far, more_so_far, none_so_far}
use Rattle.bip_walk.proofs.walking.walk.Goals as goal

pub loop-init : goal.loop-init
loop-init c =
    let began = rw c.model.ensures at c.in_ok-book.ensures in (
      rw c.generator_of-words.ensures (none_so_far c.args.plan.now.model c.args.base c.args.seed
          c.in_ok-book.book began),
      renewed_first c.in_ok-book.book c.args.plan.now.model _ c.renew.new.choices
          (standing_of c.position.result.now) (ap (λ (b : Content). b.model) began) (none_chosen 128)
          c.position.ensures.there c.renew.ensures,
    )

pub go_on-requires-clause-choices : goal.go_on-requires-clause-choices
go_on-requires-clause-choices c = c.loop.invariant.1

pub returns-then-not-branch : goal.returns-then-not-branch
returns-then-not-branch c = ends_so_far c.args.plan.now.model c.args.base c.args.seed
    c.loop.counter c.loop.book c.loop.words c.loop.invariant.0 c.args.count c.go_on.new.book
    c.go_on.new.words (omega (arith, c.loop-test.true))
    (rw c.if-not-branch.true at c.in_ok-go_on.ensures.walks)

pub loop-preserved : goal.loop-preserved
loop-preserved c = (
  more_so_far c.args.plan.now.model c.args.base c.args.seed
      c.loop.counter c.loop.book c.loop.words c.loop.invariant.0 c.go_on.new.book
      c.go_on.new.words (rw c.if-not-branch.false at c.in_ok-go_on.ensures.walks),
  c.in_ok-go_on.ensures.choices,
)
