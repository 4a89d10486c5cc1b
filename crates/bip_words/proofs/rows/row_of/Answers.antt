use Rattle.std.proofs.Common.{rules, ◌≡◌, ◌≢◌, ℕ, get_or, subst, arith, take_all, All}
use Rattle.bip_model.specs.declared.numbering.CompId.{CompId}
use Rattle.bip_words.proofs.ReservingLemmas.{row_found}
use Rattle.bip_words.proofs.rows.row_of.Goals as goal

abbrev no_entry : CompId × ℕ
no_entry = (record { 0 = 0 }, 0)

pub returns-then-eq-clause-row : goal.returns-then-eq-clause-row
returns-then-eq-clause-row c =
    let is : (get_or c.args.rows.now c.loop-row.row no_entry).0.0 ≡ c.args.comp.0 = search rules in
    row_found c.args.rows.now c.loop-row.row no_entry c.args.comp.0 c.loop-row-test.true is

pub returns-clause-none : goal.returns-clause-none
returns-clause-none c = subst (All (λ (e : CompId × ℕ). e.0.0 ≢ c.args.comp.0))
    (take_all c.loop-row.row c.args.rows.now (omega (arith, c.loop-row-test.false)))
    c.loop-row.invariant
