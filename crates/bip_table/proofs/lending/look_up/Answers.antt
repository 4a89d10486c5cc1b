use Rattle.std.proofs.Common.{◌≡◌, ◌+◌, ◌≤◌, ◌<◌, ◌∙◌, List, Option, None, Some, ap, drop, get_or}
use Rattle.std.proofs.Common.{refl, sym, subst, arith}
use Rattle.bip_model.specs.declared.numbering.CompId.{CompId}
use Rattle.bip_model.specs.declared.wants.Role.TheVariants.{Moved}
use Rattle.bip_model.specs.declared.wants.Want.{Want}
use Rattle.bip_table.proofs.LendLemmas.{met-next}
use Rattle.bip_table.proofs.MeetLemmas.{all_behind, met_fresh, met_stale}
use Rattle.bip_table.proofs.RowLemmas.{no_one, place_used}
use Rattle.bip_table.specs.Lending.{met}
use Rattle.bip_table.specs.Rows.{used_at}
use Rattle.bip_table.proofs.lending.look_up.Goals as goal

abbrev no_want : Want
no_want = record { number = 0; comp = record { 0 = 0 }; role = Moved }

pub returns-then-want-rows : goal.returns-then-want-rows
returns-then-want-rows c =
    let row = c.in-Some.ensures.row.0 refl in
    let want = get_or c.args.wants.now c.loop-at.at no_want in
    let used : (get_or c.args.rows.now c.in-Some.place no_one).used
    ≡ used_at c.args.rows.now want.comp.0 =
    rw c.in-Some.ensures.some (place_used c.args.rows.now want.comp.0 no_one row) in
    let stale : want.number ≤ used_at c.args.rows.now want.comp.0 =
    subst (λ n. want.number ≤ n) used c.if-want-rows.true in
    let next = ap (λ (before : Option CompId). met c.args.rows.now
    (drop (c.loop-at.at + 1) c.args.wants.now) before)
    (met_stale want (used_at c.args.rows.now want.comp.0) stale) in
    let whole = c.loop-at.invariant ∙ (met-next c.args.rows.now c.args.wants.now c.loop-at.at
    no_want None c.loop-at-test.true row ∙ next) in
    let behind = ap (λ (ws : List Want). met c.args.rows.now ws (Some want.comp))
    (all_behind c.args.wants.now (c.loop-at.at + 1)) in
    c.look_behind.ensures ∙ (behind ∙ sym whole)

pub loop-at-preserved : goal.loop-at-preserved
loop-at-preserved c =
    let row = c.in-Some.ensures.row.0 refl in
    let want = get_or c.args.wants.now c.loop-at.at no_want in
    let used : (get_or c.args.rows.now c.in-Some.place no_one).used
    ≡ used_at c.args.rows.now want.comp.0 =
    rw c.in-Some.ensures.some (place_used c.args.rows.now want.comp.0 no_one row) in
    let fresh : used_at c.args.rows.now want.comp.0 < want.number =
    subst (λ n. n < want.number) used (omega (arith, c.if-want-rows.false)) in
    let next = ap (λ (before : Option CompId). met c.args.rows.now
    (drop (c.loop-at.at + 1) c.args.wants.now) before)
    (met_fresh want (used_at c.args.rows.now want.comp.0) fresh) in
    c.loop-at.invariant ∙ (met-next c.args.rows.now c.args.wants.now c.loop-at.at no_want None
    c.loop-at-test.true row ∙ next)
