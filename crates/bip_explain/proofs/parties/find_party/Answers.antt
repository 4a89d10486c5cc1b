use Rattle.std.proofs.Common.{◌≡◌, ℕ, ◌<◌, Some, Ok, length}
use Rattle.bip_model.specs.Parties.{CoverAbove}
use Rattle.bip_model.specs.States.{state_of}
use Rattle.bip_model.specs.Texts.{line_at}
use Rattle.bip_explain.specs.Parties.{IsCoverLack, IsLowestUncovered, IsNamedRight}
use Rattle.bip_explain.proofs.HindranceLemmas.{first_fault}
use Rattle.bip_replay.specs.Lines.{grant_on}
use Rattle.bip_replay.specs.declared.faults.BookFault.TheVariants.{Parties}
use Rattle.bip_explain.proofs.PartyLemmas.{all_right, not_blocked, parties_short}
use Rattle.bip_explain.proofs.parties.find_party.Goals as goal

pub returns-in_default-clause-none : goal.returns-in_default-clause-none
returns-in_default-clause-none c = λ base first.
    let f = first_fault c.args.model.now base c.args.text.now c.args.number Parties first in
    (rw c.in_default.is at c.in_ok-grant.ensures.none) f.grant (rw c.line_at-line.ensures f.says)

pub returns-then-is_some-clause-none : goal.returns-then-is_some-clause-none
returns-then-is_some-clause-none c = λ base first.
    let m = c.args.model.now in
    let g = c.in-Some.grant in
    let s = state_of c.in_ok-state.state in
    let f = first_fault m base c.args.text.now c.args.number Parties first in
    let reads : grant_on m (line_at c.args.text.now c.args.number) ≡ Ok (Some g) =
    rw (← c.line_at-line.ensures) (rw c.in-Some.is at c.in_ok-grant.ensures.some) in
    let is = parties_short m base c.args.text.now c.args.number s g f
    (c.in_ok-state.ensures.before base f.grants f.reads f.run) reads in
    not_blocked m s g.inter.0 c.blocked_by.result c.is_some.result c.blocked_by.ensures.some
    c.is_some.ensures c.if-is_some.true is.may

pub returns-in-None-clause-none : goal.returns-in-None-clause-none
returns-in-None-clause-none c = λ base first.
    let m = c.args.model.now in
    let g = c.in-Some.grant in
    let s = state_of c.in_ok-state.state in
    let f = first_fault m base c.args.text.now c.args.number Parties first in
    let reads : grant_on m (line_at c.args.text.now c.args.number) ≡ Ok (Some g) =
    rw (← c.line_at-line.ensures) (rw c.in-Some.is at c.in_ok-grant.ensures.some) in
    let is = parties_short m base c.args.text.now c.args.number s g f
    (c.in_ok-state.ensures.before base f.grants f.reads f.run) reads in
    let right : (d : ℕ) → d < length m.components → IsNamedRight m g.inter.0 g.wants d =
    rw (← c.as_slice-wants.ensures.wants) c.in_default-find_misnamed.ensures.none in
    let covered : CoverAbove m s g.inter.0 g.wants =
    rw (← c.as_slice-wants.ensures.wants) c.in-None.ensures.none in
    is.short (record {
      parties = all_right m (line_at c.args.text.now
          c.args.number) g c.recall.ensures.valid reads right;
      covered = covered;
    })

pub returns-clause-some : goal.returns-clause-some
returns-clause-some c = λ base.
    let m = c.args.model.now in
    let g = c.in-Some.grant in
    let s = state_of c.in_ok-state.state in
    let found = c.in-Some-find_uncovered in
    let reads : grant_on m (line_at c.args.text.now c.args.number) ≡ Ok (Some g) =
    rw (← c.line_at-line.ensures) (rw c.in-Some.is at c.in_ok-grant.ensures.some) in
    let right : (d : ℕ) → d < length m.components → IsNamedRight m g.inter.0 g.wants d =
    rw (← c.as_slice-wants.ensures.wants) c.in_default-find_misnamed.ensures.none in
    let lowest : IsLowestUncovered m s g.inter.0 g.wants found.above.0 =
    rw (← c.as_slice-wants.ensures.wants) found.ensures.some.0 in
    let lack : IsCoverLack m s g.wants found.above.0 found.lack =
    rw (← c.as_slice-wants.ensures.wants) found.ensures.some.1 in (
      g,
      reads,
      record {
        state = s;
        before = c.in_ok-state.ensures.before base;
        parties = all_right m (line_at c.args.text.now c.args.number) g c.recall.ensures.valid reads
            right;
        lowest = lowest;
        lack = lack;
      },
    )
