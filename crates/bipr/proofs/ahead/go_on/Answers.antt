use Rattle.std.proofs.Common.{◌≡◌, ◌<◌, ◌^◌, ◌∙◌, arith, rules, sym}
use Rattle.bipr.proofs.AheadLemmas.{block_explored, explored_counts, more_explored, one_explored}
use Rattle.bipr.proofs.ahead.go_on.Goals as goal

pub join-requires-clause-same : goal.join-requires-clause-same
join-requires-clause-same c =
    let p = c.args.plan.now in
    let asked = c.args.asked.now in
    let block = block_explored p asked c.args.ahead.now c.args.done c.in-Some.block.now
    c.requires.ahead c.in-Some.ensures.some in
    explored_counts p asked 0 c.args.all.now c.requires.explored
    ∙ sym (explored_counts p asked c.args.done c.in-Some.block.now block.0)

pub join-requires-clause-few : goal.join-requires-clause-few
join-requires-clause-few c =
    let block = block_explored c.args.plan.now c.args.asked.now c.args.ahead.now c.args.done
    c.in-Some.block.now c.requires.ahead c.in-Some.ensures.some in
    let small : c.args.asked.now.seeds < 2 ^ 32 = search rules in
    omega (arith, block.1, small, c.if-seeds-done.false, c.seeds.ensures)

pub returns-in-Some-clause-explored : goal.returns-in-Some-clause-explored
returns-in-Some-clause-explored c =
    let p = c.args.plan.now in
    let asked = c.args.asked.now in
    let block = block_explored p asked c.args.ahead.now c.args.done c.in-Some.block.now
    c.requires.ahead c.in-Some.ensures.some in
    let at : c.args.all.now.tally.traces ≡ c.args.done =
    omega (arith, c.requires.reached, c.if-seeds-done.false, c.seeds.ensures) in
    (more_explored p asked 0 c.args.done c.args.all.now c.in-Some.block.now c.join.new.self
    c.requires.explored block.0 (omega (arith, at)) c.join.ensures).0

pub returns-in-Some-clause-further : goal.returns-in-Some-clause-further
returns-in-Some-clause-further c =
    let p = c.args.plan.now in
    let asked = c.args.asked.now in
    let block = block_explored p asked c.args.ahead.now c.args.done c.in-Some.block.now
    c.requires.ahead c.in-Some.ensures.some in
    let at : c.args.all.now.tally.traces ≡ c.args.done =
    omega (arith, c.requires.reached, c.if-seeds-done.false, c.seeds.ensures) in
    let more = (more_explored p asked 0 c.args.done c.args.all.now c.in-Some.block.now
    c.join.new.self c.requires.explored block.0 (omega (arith, at)) c.join.ensures).1 in
    omega (arith, more, at, c.in-Some.ensures.some.some)

pub returns-in-Some-clause-kept : goal.returns-in-Some-clause-kept
returns-in-Some-clause-kept c =
    λ few.
    let p = c.args.plan.now in
    let asked = c.args.asked.now in
    let block = block_explored p asked c.args.ahead.now c.args.done c.in-Some.block.now
    c.requires.ahead c.in-Some.ensures.some in
    let at : c.args.all.now.tally.traces ≡ c.args.done =
    omega (arith, c.requires.reached, c.if-seeds-done.false, c.seeds.ensures) in
    let more = (more_explored p asked 0 c.args.done c.args.all.now c.in-Some.block.now
    c.join.new.self c.requires.explored block.0 (omega (arith, at)) c.join.ensures).1 in
    omega (arith, more, at, block.1)

pub returns-in_ok-explore_one-in-None-clause-explored :
    goal.returns-in_ok-explore_one-in-None-clause-explored
returns-in_ok-explore_one-in-None-clause-explored c =
    let p = c.args.plan.now in
    let asked = c.args.asked.now in
    let x = c.in_ok-explore_one-in-None.field-0 in
    let one = one_explored p asked c.args.done x c.in_ok-explore_one-in-None.ensures.explored in
    let at : c.args.all.now.tally.traces ≡ c.args.done =
    omega (arith, c.requires.reached, c.if-seeds-done.false, c.seeds.ensures) in
    (more_explored p asked 0 c.args.done c.args.all.now x c.join-in-None.new.self
    c.requires.explored one.0 (omega (arith, at)) c.join-in-None.ensures).0

pub returns-in_ok-explore_one-in-None-clause-further :
    goal.returns-in_ok-explore_one-in-None-clause-further
returns-in_ok-explore_one-in-None-clause-further c =
    let p = c.args.plan.now in
    let asked = c.args.asked.now in
    let x = c.in_ok-explore_one-in-None.field-0 in
    let one = one_explored p asked c.args.done x c.in_ok-explore_one-in-None.ensures.explored in
    let at : c.args.all.now.tally.traces ≡ c.args.done =
    omega (arith, c.requires.reached, c.if-seeds-done.false, c.seeds.ensures) in
    let more = (more_explored p asked 0 c.args.done c.args.all.now x c.join-in-None.new.self
    c.requires.explored one.0 (omega (arith, at)) c.join-in-None.ensures).1 in
    omega (arith, more, at, one.1)

pub returns-in_ok-explore_one-in-None-clause-kept :
    goal.returns-in_ok-explore_one-in-None-clause-kept
returns-in_ok-explore_one-in-None-clause-kept c =
    λ few.
    let p = c.args.plan.now in
    let asked = c.args.asked.now in
    let x = c.in_ok-explore_one-in-None.field-0 in
    let one = one_explored p asked c.args.done x c.in_ok-explore_one-in-None.ensures.explored in
    let at : c.args.all.now.tally.traces ≡ c.args.done =
    omega (arith, c.requires.reached, c.if-seeds-done.false, c.seeds.ensures) in
    let more = (more_explored p asked 0 c.args.done c.args.all.now x c.join-in-None.new.self
    c.requires.explored one.0 (omega (arith, at)) c.join-in-None.ensures).1 in
    omega (arith, more, at, one.1, c.requires.left)
