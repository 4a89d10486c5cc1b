use Rattle.bip_model.specs.Wants.{components_of}
use Rattle.std.proofs.Common.{arith, length, subst, ap, List}
use Rattle.bip_model.proofs.NumberingLemmas.{increasing_tail}
use Rattle.bip_model.specs.declared.wants.Want.{Want}
use Rattle.std.specs.List.Sorted.{IsStrictlyIncreasing}
use Rattle.bip_words.proofs.ReservingLemmas.{lacking_first, lacking_later}
use Rattle.bip_words.proofs.reserving.+first_lacking.Goals as goal

pub returns-in-None-clause-some : goal.returns-in-None-clause-some
returns-in-None-clause-some t c = lacking_first c.args.rows.now c.args.wants.now c.in-Some.more.now
    c.in-Some.want.now c.in-Some.ensures.cases.0 c.requires c.in-None.ensures.none

pub returns-in-Some-row_of-clause-some : goal.returns-in-Some-row_of-clause-some
returns-in-Some-row_of-clause-some t c = lacking_later c.args.rows.now c.args.wants.now
    c.in-Some.more.now c.in-Some.want.now c.first_lacking.result c.in-Some.ensures.cases.0
    (_, c.in-Some-row_of.ensures.row) c.first_lacking.ensures.some

pub first_lacking-requires : goal.first_lacking-requires
first_lacking-requires t c = (
  (let l = ap length c.in-Some.ensures.cases.0 in omega (arith, l)),
  increasing_tail c.in-Some.want.now.comp.0 (components_of c.in-Some.more.now)
      (subst (λ (ws : List Want). IsStrictlyIncreasing (components_of ws)) c.in-Some.ensures.cases.0
      c.requires),
)
