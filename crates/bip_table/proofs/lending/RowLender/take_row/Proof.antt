-- `take_row`, statement by statement: the lender is lent for each call, for a lifetime inside that
-- of its rows, and what `lend` says of the two parts is kept to the end.
use mathlib.Core.Path.{◌≡◌, refl, sym, subst, ap, ◌∙◌}
use Prim.Native.Nat.{ℕ, ◌+◌, ◌<◌}
use mathlib.Core.List.{List, [], ◌∷◌, ◌++◌}
use base.Share
use mir.Syntax.{named, w64}
use mir.Val.{Val, vptr, vstruct, of_list}
use base.Logic.{emp, apply∗, id⊢}
use base.Fml.{Fml, GName, Share, ftrue, flft, fdead}
use contract.Monad.{fact, fact_i}
use contract.Running.{tables}
use contract.BorrowLft.{meet_⊑_right}
use types.Kit.{‵, raw, ◌⊛◌, some, later, ◌$◌, ◌∵◌, !, qed, by, move, keep, use1, use2, use3, split}
use types.Kit.{join, pick, await, rewrite, fsplit, fpick, feq_l, suffices, frame, group, done}
use types.Run.{addr, from, of_opd, stop, fld, hop, and_then, no_more, returns, enter}
use types.Part.{whole, sub, agg}
use types.ByLocal.{alloc_all, pass_all, free_all, look_at, look_in_at, get, get_in, through, sets}
use types.ByLocal.{lands_as}
use denote.Exit.{yes}
use denote.Builtin.{usize, unit}
use denote.Lend.{LentAgain, lends_again, comes_back}
use denote.Plain.{uint_Makes, uint_vals, uint_Tells}
use denote.Ref.{MutBor, MutRef, mut_vals, mut_Tells}
use denote.Slice.{MutSlice, mut_slice_vals, mut_slice_Tells}
use denote.Signature.{plain, named_lft}
use denote.Steps.{nothing, owned, heard, only, peeks}
use denote.Laws.{shows}
use denote.Triple.Call.{calls_at}
use denote.Triple.Clauses.{lasts}
use denote.Triple.Entry.{on_entry}
use denote.Triple.Spec.{triple_of}
use denote.Triple.Table.{framed}
use denote.Triple.Walked.{Stays, walk_of, says, stay_ref, stay_dropped, Goes-ref, Goes-dropped}
use denote.Triple.Walked.{ends_at}
use Rattle.std.proofs.raw_atomic.Walks.{proved}
use Rattle.std.specs.Prelude.{length, set, take, drop as list_drop}
use Rattle.std.specs.Borrow.{Array, follows_both}
use Rattle.std.specs.List.Sorted.{IsStrictlyIncreasing}
use Rattle.std.proofs.Common.{add-one}
use Rattle.bip_table.proofs.LendLemmas.{written_at}
use Rattle.bip_table.proofs.LifetimeSteps.{Ends, begins}
use Rattle.bip_table.proofs.MeetLemmas.{rising_after}
use Rattle.bip_table.specs.Rows.{row_components}
use Rattle.bip_table.specs.Lending.{LeavesRows}
use denote.Struct.Tuple.{Tuple}
use Rattle.bip_table.specs.declared.lending.RowLender.{RowLender}
use Rattle.bip_table.specs.declared.rows.Row.{Row}
use Rattle.bip_table.specs.contracts.lending.RowLender as L
use Rattle.bip_table.specs.contracts.rows.Row.{the_row}
use Rattle.bip_table.specs.contracts.lending.RowLender.take_row as f
use Rattle.bip_table.proofs.lending.RowLender.take_row.Statement.{statement}
use Rattle.bip_table.proofs.lending.RowLender.take_row.Code as code
use Rattle.bip_table.specs.contracts.lending.RowLender.take_rows as take_rows
use Rattle.bip_table.proofs.lending.RowLender.take_rows.Met as take_rows_met
use Rattle.bip_table.specs.contracts.lending.lend as lend
use Rattle.bip_table.proofs.lending.lend.Met as lend_met
use Rattle.bip_table.specs.contracts.lending.RowLender.put_rows as put_rows
use Rattle.bip_table.proofs.lending.RowLender.put_rows.Met as put_rows_met

written_next : (rows : List Row) (k : ℕ) (x : Row) (xs : List Row) → k < length rows
    → set (take (k + 1) rows) k x ++ xs ≡ take k rows ++ x ∷ xs
written_next rows k x xs within = rw (add-one k) (written_at rows k x xs within)

abbrev stayed : Stays f.ended.signature.params f.ended.kept
stayed = (
  stay_ref (0 ∷ []) tt (plain (λ κs. L.the_row (named_lft 2 1 tt κs))),
  (stay_dropped (plain (λ _. usize)) yes, tt),
)

pub take_row_spec : {M : Type 1} → statement M
take_row_spec 𝓤 𝓛 𝓜 𝓡 wired =
    let c = f.clauses 𝓛 𝓜.mem 𝓡.returns in
    let W = walk_of 𝓛 f.ended stayed c in
    proved 𝓛 f.ended stayed c 𝓜 𝓡 (
      Goes-ref 𝓛 2 0 tt (plain
          (λ κs. L.the_row (named_lft 2 1 tt κs))),
      (Goes-dropped 𝓛 2 (plain (λ _. usize)) yes (λ κs x w. refl), tt),
    )
    f.Key.name code.function (code.unfolded 𝓤 𝓛.H 𝓜 𝓡 wired)
    (λ κs. (mut_vals, (uint_vals w64, tt))) (λ κs.
    (mut_Tells (named 0) κs.0 (L.the_row (named_lft 2 1 tt κs)), (uint_Tells w64, tt)))
    (λ κs qs bounds a _ are.
    let κ = κs.0 in let κ₁ = κs.1.0 in let q = qs.0 in let q₁ = qs.1.0 in
    let R = L.the_row (named_lft 2 1 tt κs) in
    let b = a.0.ref_ptr.0 in let o = a.0.ref_ptr.1 in let h = a.0.now in let place = a.1.0 in
    let y : W.Ghost = ((κs, qs, bounds, a, (mut_vals a.0, (uint_vals w64 place, tt))), tt) in
    qed 𝓛 (raw (on_entry 𝓛 f.signature κs qs a y.0.4) ∷ raw (fact 𝓤 (place < length h.rows.now))
    ∷ []) ∵
    use1 𝓛 ((‵ (flft κ q) ⊛ ‵ (flft κ₁ q₁) ⊛ ‵ ftrue) ⊛ ‵
    ((MutRef (named 0) κ R).own_val a.0 (mut_vals a.0)) ⊛ ‵
    (usize.own_val place (uint_vals w64 place)) ⊛ ‵ ftrue) (id⊢ 𝓤 _) $
    split ! $ split ! $ move ! (1 ∷ []) $ split ! $ move ! (3 ∷ []) $ split ! $
    keep ! (5 ∷ 0 ∷ 2 ∷ 4 ∷ []) $ heard ! _ (λ within.
    -- [self; the token of κ₁; the token of κ]
    enter ! _ _ _ _ _ $ alloc_all ! (λ l. pass_all ! refl
    ((tt, tt), ((tt, record { fits = are.1.0.1 }), tt)) $
    sets ! (addr ! (through ! refl (stop !))) refl (tt, tt) $
    -- the lender is lent for a lifetime inside κ₁, of whose token one half is used for that
    move ! (1 ∷ []) $ use1 𝓛 (‵ (flft κ₁ (Share.left q₁)) ⊛ ‵ (flft κ₁ (Share.right q₁)))
    (𝓛.lfts.lft_split κ₁ q₁) $ split ! $
    use1 𝓛 (later (some (λ (p : ℕ × Share). ‵ (flft (p.0 ∷ κ₁) p.1) ⊛ raw
    (Ends 𝓛 κ₁ (Share.left q₁) p.0 p.1)))) (begins 𝓛 κ₁ (Share.left q₁)) $ await ! tt $
    pick ! (λ p. split ! $
    -- [the token of α; its end; the other half; self; the token of κ]
    move ! (3 ∷ 4 ∷ []) $
    use2 𝓛 (later (some (λ (δ : GName). ‵ ((MutRef (named 0) (p.0 ∷ κ₁) R).own_val
    (record { ref_ptr = (b, o); ghost_name = δ; now = h }) (vptr b o ∷ [])) ⊛ ‵
    (LentAgain R κ (p.0 ∷ κ₁) q a.0.ghost_name b o δ h))))
    (lends_again 𝓛 R (named 0) κ (p.0 ∷ κ₁) q a.0.ghost_name b o (named 0) h) $ await ! tt $
    pick ! (λ δ. split ! $
    -- [the loan; what the lender keeps; the token of α; its end; the other half]
    let G₁ = triple_of 𝓛 take_rows.signature (take_rows.spec 𝓛 𝓜.mem 𝓡.returns) in
    let z₁ : G₁.Ghost = (
      (
        (p.0 ∷ κ₁, (κ₁, tt)),
        (p.1, (Share.right q₁, tt)),
        (meet_⊑_right (p.0 ∷ []) κ₁, tt),
        (
          record { ref_ptr = (b, o); ghost_name = δ; now = h },
          tt,
        ),
        (vptr b o ∷ [], tt),
      ),
      tt,
    ) in
    nothing ! $ move ! (1 ∷ 0 ∷ []) $ join ! $ nothing ! $ move ! (5 ∷ 0 ∷ []) $ join ! $
    move ! (3 ∷ 0 ∷ []) $ join ! $ join ! $ nothing ! $ move ! (1 ∷ 0 ∷ []) $
    use2 𝓛 (raw (G₁.pre z₁)) (id⊢ 𝓤 _) $
    calls_at ! (framed 𝓤 𝓛.H 𝓜 (tables 𝓤 𝓛.H 𝓜 𝓡 𝓡.env)) G₁
    (take_rows_met.met 𝓤 𝓛 𝓜 𝓡 (code.calls-bip_table::lending::RowLender::take_rows 𝓡.env
    wired)) z₁ (and_then ! (get ! refl) (no_more !)) (λ v₁.
    use1 𝓛 (later (some (λ (r : MutBor (List Row)).
    ((‵ (flft (p.0 ∷ κ₁) p.1) ⊛ ‵ (flft κ₁ (Share.right q₁)) ⊛ ‵ ftrue) ⊛ ‵
    ((MutSlice (named 1) κ₁ the_row).own_val r (v₁ ∷ []))) ⊛
    some (λ (ws : RowLender × Unit {0}). ‵ (lasts take_rows.ended z₁.0.0 z₁.0.3 ws) ⊛ raw
    (fact 𝓤 (r ≡ h.rows)) ⊛ raw (fact 𝓤 (ws.0.from ≡ h.from)))))) (id⊢ 𝓤 _) $
    await ! tt $ pick ! (λ r. split ! $ split ! $ split ! $ move ! (3 ∷ []) $
    pick ! (λ ws. split ! $ move ! (1 ∷ []) $ split ! $
    heard ! _ (λ same. heard ! _ (λ from₁. fsplit ! $ fsplit ! $
    -- [the last lender; its borrow; nothing; the token of α; the other half; the rows; what the
    -- lender keeps; the end]
    move ! (3 ∷ 7 ∷ []) $ use2 𝓛 (later (‵ (fdead (p.0 ∷ κ₁)) ⊛ ‵ (flft κ₁ (Share.left q₁))))
    (apply∗ 𝓤 (𝓛.A.lft (p.0 ∷ κ₁) p.1) _) $ await ! tt $ split ! $
    move ! (0 ∷ 7 ∷ 2 ∷ []) $ use3 𝓛 (later (‵
    ((MutRef (named 0) κ R).own_val (record a.0 { now = ws.0 }) (vptr b o ∷ [])) ⊛ ‵
    (flft κ q))) (comes_back 𝓛 R (named 0) κ (p.0 ∷ κ₁) q a.0.ghost_name b o δ h ws.0) $
    await ! tt $ split ! $
    -- [self; the token of κ; the left half; ..]
    move ! (5 ∷ []) $ split ! $ move ! (4 ∷ 0 ∷ []) $
    use2 𝓛 (‵ (flft κ₁ q₁)) (𝓛.lfts.lft_join κ₁ q₁) $
    -- [the token of κ₁; nothing; self; the token of κ; nothing; nothing; the rows]
    move ! (6 ∷ []) $ peeks ! (MutSlice (named 1) κ₁ the_row) _
    (shows 𝓛 (MutSlice (named 1) κ₁ the_row)) r (v₁ ∷ []) (λ is.
    let e₁ = mut_slice_Tells (named 1) κ₁ the_row r (v₁ ∷ []) is in
    lands_as ! (ap only e₁) refl (tt, (tt, (record { fits = is.0.1.0 }, tt))) $
    rewrite ! 0 (λ (vs : List Val). ‵ ((MutSlice (named 1) κ₁ the_row).own_val r vs)) e₁ refl $
    sets ! (addr ! (from ! (fld ! refl (hop ! (look_in_at ! 3 (sub ! 0 refl (whole !))) (stop !)))))
    refl (tt, tt) $
    sets ! (agg ! (and_then ! (get ! refl) (and_then
    ! (get_in ! (fld ! refl (stop !)) (sub ! 1 refl (whole !))) (no_more !)))) refl
    (tt, (tt, (record { fits = is.0.1.0 }, tt))) $
    -- [the rows; the token of κ₁; nothing; self; the token of κ; ..]
    let G₂ = triple_of 𝓛 lend.signature (lend.spec 𝓛 𝓜.mem 𝓡.returns) in
    let z₂ : G₂.Ghost = (
      (
        (κ₁, tt),
        (q₁, tt),
        tt,
        (r, (place, tt)),
        (mut_slice_vals r, (uint_vals w64 place, tt)),
      ),
      tt,
    ) in
    let long : place < length r.now = subst (λ (x : MutBor (List Row)). place < length x.now)
    (sym same) within in
    move ! (1 ∷ 0 ∷ []) $ use2 𝓛 (raw (G₂.pre z₂))
    (qed 𝓛 (‵ (flft κ₁ q₁) ∷ ‵ ((MutSlice (named 0) κ₁ the_row).own_val r (mut_slice_vals r))
    ∷ []) ∵ says ! long $ nothing ! $ move ! (1 ∷ 0 ∷ []) $ join ! $ frame ! $
    owned ! usize _ (uint_Makes 𝓛 w64) place (uint_vals w64 place) (refl, are.1.0.1) $ nothing ! $
    move ! (1 ∷ 0 ∷ []) $ join ! $ move ! (1 ∷ 0 ∷ []) $ done !) $
    calls_at ! (framed 𝓤 𝓛.H 𝓜 (tables 𝓤 𝓛.H 𝓜 𝓡 𝓡.env)) G₂
    (lend_met.met 𝓤 𝓛 𝓜 𝓡 (code.calls-bip_table::lending::lend 𝓡.env wired)) z₂
    (and_then ! (get ! refl) (and_then ! (get ! refl) (no_more !))) (λ v₂.
    let Leaves : MutBor Row × MutBor (List Row) → (Row → List Row → List Row) → Fml =
    λ t F. follows_both (Array the_row 0) the_row
    (Array the_row 0) r.ghost_name t.0.ghost_name t.1.ghost_name F in
    let Two = Tuple (MutRef (named 0) κ₁ the_row ∷ MutSlice (named 0) κ₁ the_row ∷ []) in
    use1 𝓛 (later (some (λ (t : MutBor Row × MutBor (List Row)).
    ((‵ (flft κ₁ q₁) ⊛ ‵ ftrue) ⊛ ‵ (Two.own_val t (v₂ ∷ []))) ⊛
    some (λ (ws : Unit {0} × (Unit {0} × Unit {0})). ‵ (lasts lend.ended z₂.0.0 z₂.0.3 ws) ⊛ ‵
    (Leaves t (λ x xs. set (take (place + 1) r.now) place x ++ xs)) ⊛ raw
    (fact 𝓤 (r.now ≡ take place r.now ++ t.0.now ∷ t.1.now)) ⊛ raw
    (fact 𝓤 (t.1.now ≡ list_drop (place + 1) r.now)))))) (id⊢ 𝓤 _) $
    await ! tt $ pick ! (λ t. split ! $ split ! $ split ! $ move ! (3 ∷ []) $
    pick ! (λ ws₂. split ! $ move ! (1 ∷ []) $ split ! $ move ! (1 ∷ []) $ split ! $
    heard ! _ (λ parts. heard ! _ (λ behind.
    rewrite ! 0 (λ (F : Row → List Row → List Row). ‵ (Leaves t F))
    (λ i x xs. written_next r.now place x xs long i) refl $
    -- [what follows; nothing; the token of κ₁; nothing; the two parts; nothing; self; the token of
    -- κ; ..]
    move ! (4 ∷ []) $ fpick ! (λ vss. fsplit ! $
    feq_l ! (λ e₂. fsplit ! $ move ! (1 ∷ []) $ fsplit ! $
    peeks ! (MutSlice (named 0) κ₁ the_row) _ (shows 𝓛 (MutSlice (named 0) κ₁ the_row)) t.1 vss.1.0
    (λ is₁. move ! (2 ∷ []) $
    peeks ! (MutRef (named 0) κ₁ the_row) _ (shows 𝓛 (MutRef (named 0) κ₁ the_row)) t.0 vss.0
    (λ is₀.
    let f₀ = mut_Tells (named 0) κ₁ the_row t.0 vss.0 is₀ in
    let f₁ = mut_slice_Tells (named 0) κ₁ the_row t.1 vss.1.0 is₁ in
    let fit = is₁.0.1.0 in
    lands_as ! (ap only e₂ ∙ (λ i. vstruct (of_list (f₀ i ++ (f₁ i ++ []))))) refl
    (tt, (tt, ((tt, (record { fits = fit }, tt)), tt))) $
    rewrite ! 0 (λ (vs : List Val). ‵ ((MutRef (named 0) κ₁ the_row).own_val t.0 vs)) f₀ refl $
    rewrite ! 1 (λ (vs : List Val). ‵ ((MutSlice (named 0) κ₁ the_row).own_val t.1 vs)) f₁ refl $
    sets ! (of_opd ! (get_in ! (fld ! refl (stop !)) (sub ! 0 refl (whole !)))) refl (tt, tt) $
    sets ! (of_opd ! (get_in ! (fld ! refl (stop !)) (sub ! 1 refl (whole !)))) refl
    (tt, (tt, (record { fits = fit }, tt))) $
    -- the lender is lent again, and takes the rest
    sets ! (addr ! (through ! refl (stop !))) refl (tt, tt) $
    sets ! (addr ! (from ! (fld ! refl (hop ! (look_in_at ! 5 (sub ! 0 refl (whole !))) (stop !)))))
    refl (tt, tt) $
    sets ! (agg ! (and_then ! (get ! refl) (and_then
    ! (get_in ! (fld ! refl (stop !)) (sub ! 1 refl (whole !))) (no_more !)))) refl
    (tt, (tt, (record { fits = fit }, tt))) $
    -- [the row; the rest; nothing; what follows; nothing; the token of κ₁; nothing; nothing; self;
    -- the token of κ; ..]
    move ! (5 ∷ []) $ use1 𝓛 (‵ (flft κ₁ (Share.left q₁)) ⊛ ‵ (flft κ₁ (Share.right q₁)))
    (𝓛.lfts.lft_split κ₁ q₁) $ split ! $
    use1 𝓛 (later (some (λ (p : ℕ × Share). ‵ (flft (p.0 ∷ κ₁) p.1) ⊛ raw
    (Ends 𝓛 κ₁ (Share.left q₁) p.0 p.1)))) (begins 𝓛 κ₁ (Share.left q₁)) $ await ! tt $
    pick ! (λ p'. split ! $
    move ! (10 ∷ 11 ∷ []) $
    use2 𝓛 (later (some (λ (δ : GName). ‵ ((MutRef (named 0) (p'.0 ∷ κ₁) R).own_val
    (record { ref_ptr = (b, o); ghost_name = δ; now = ws.0 }) (vptr b o ∷ [])) ⊛ ‵
    (LentAgain R κ (p'.0 ∷ κ₁) q a.0.ghost_name b o δ ws.0))))
    (lends_again 𝓛 R (named 0) κ (p'.0 ∷ κ₁) q a.0.ghost_name b o (named 0) ws.0) $ await ! tt $
    pick ! (λ δ'. split ! $
    -- [the loan; what the lender keeps; the token of α; its end; the other half; the row; the rest;
    -- ..]
    let G₃ = triple_of 𝓛 put_rows.signature (put_rows.spec 𝓛 𝓜.mem 𝓡.returns) in
    let lent : MutBor RowLender = record { ref_ptr = (b, o); ghost_name = δ'; now = ws.0 } in
    let z₃ : G₃.Ghost = (
      (
        (p'.0 ∷ κ₁, (κ₁, tt)),
        (p'.1, (Share.right q₁, tt)),
        (meet_⊑_right (p'.0 ∷ []) κ₁, tt),
        (lent, (t.1, tt)),
        (vptr b o ∷ [], (mut_slice_vals t.1, tt)),
      ),
      tt,
    ) in
    let rising : IsStrictlyIncreasing (row_components t.1.now) =
    subst (λ (xs : List Row). IsStrictlyIncreasing (row_components xs)) (sym behind)
    (rising_after r.now (place + 1) (subst (λ (x : MutBor (List Row)). IsStrictlyIncreasing
    (row_components x.now)) (sym same) h.rising)) in
    nothing ! $ move ! (7 ∷ 0 ∷ []) $ join ! $ move ! (1 ∷ 0 ∷ []) $ join ! $ nothing ! $
    move ! (5 ∷ 0 ∷ []) $ join ! $ move ! (3 ∷ 0 ∷ []) $ join ! $
    use2 𝓛 (raw (G₃.pre z₃)) (qed 𝓛 ((‵ (flft (p'.0 ∷ κ₁) p'.1) ⊛ ‵
    (flft κ₁ (Share.right q₁)) ⊛ ‵ ftrue)
    ∷ (‵ ((MutRef (named 0) (p'.0 ∷ κ₁) R).own_val lent (vptr b o ∷ [])) ⊛ ‵
    ((MutSlice (named 1) κ₁ the_row).own_val t.1 (mut_slice_vals t.1)) ⊛ ‵ ftrue) ∷ []) ∵ says
    ! rising $ join ! $ done !) $
    calls_at ! (framed 𝓤 𝓛.H 𝓜 (tables 𝓤 𝓛.H 𝓜 𝓡 𝓡.env)) G₃
    (put_rows_met.met 𝓤 𝓛 𝓜 𝓡 (code.calls-bip_table::lending::RowLender::put_rows 𝓡.env wired))
    z₃ (and_then ! (get ! refl) (and_then ! (get ! refl) (no_more !))) (λ v₃.
    use1 𝓛 (later (some (λ (u : Unit {0}). ((‵ (flft (p'.0 ∷ κ₁) p'.1) ⊛ ‵
    (flft κ₁ (Share.right q₁)) ⊛ ‵ ftrue) ⊛ ‵ (unit.own_val u (v₃ ∷ []))) ⊛
    some (λ (ws₃ : RowLender × (Unit {0} × Unit {0})). ‵
    (lasts put_rows.ended z₃.0.0 z₃.0.3 ws₃) ⊛ raw (fact 𝓤 (ws₃.0.rows ≡ t.1)) ⊛ raw
    (fact 𝓤 (ws₃.0.from ≡ ws.0.from)))))) (id⊢ 𝓤 _) $
    await ! tt $ pick ! (λ u. split ! $ split ! $ split ! $ move ! (2 ∷ []) $
    feq_l ! (λ is_unit. lands_as ! (ap only is_unit) refl (tt, tt) $
    move ! (2 ∷ []) $ pick ! (λ ws₃. split ! $ move ! (1 ∷ []) $ split ! $
    heard ! _ (λ new. heard ! _ (λ from₃. fsplit ! $ fsplit ! $
    -- [the last lender; its borrow; nothing; the token of α; the other half; what the lender keeps;
    -- the end; the row; ..]
    move ! (3 ∷ 6 ∷ []) $ use2 𝓛 (later (‵ (fdead (p'.0 ∷ κ₁)) ⊛ ‵ (flft κ₁ (Share.left q₁))))
    (apply∗ 𝓤 (𝓛.A.lft (p'.0 ∷ κ₁) p'.1) _) $ await ! tt $ split ! $
    move ! (0 ∷ 6 ∷ 2 ∷ []) $ use3 𝓛 (later (‵
    ((MutRef (named 0) κ R).own_val (record a.0 { now = ws₃.0 }) (vptr b o ∷ [])) ⊛ ‵
    (flft κ q))) (comes_back 𝓛 R (named 0) κ (p'.0 ∷ κ₁) q a.0.ghost_name b o δ' ws.0 ws₃.0) $
    await ! tt $ split ! $
    move ! (5 ∷ []) $ split ! $ move ! (4 ∷ 0 ∷ []) $
    use2 𝓛 (‵ (flft κ₁ q₁)) (𝓛.lfts.lft_join κ₁ q₁) $
    -- [the token of κ₁; nothing; self; the token of κ; nothing; nothing; the row; nothing; what
    -- follows; ..]
    sets ! (addr ! (through ! refl (stop !))) refl (tt, tt) $
    returns ! (look_at ! 0 refl) $ free_all ! refl $ keep ! (2 ∷ 3 ∷ 0 ∷ 6 ∷ 8 ∷ []) $
    let row : Val = vptr t.0.ref_ptr.0 t.0.ref_ptr.1 in
    let value = subst (λ (x : MutBor (List Row)). x.now ≡ take place x.now ++ t.0.now
    ∷ ws₃.0.rows.now) same (subst (λ (x : MutBor (List Row)). r.now ≡ take place r.now
    ++ t.0.now ∷ x.now) (sym new) parts) in
    rewrite ! 4 (λ (x : MutBor (List Row)). ‵ (LeavesRows x place t.0 t.1)) same refl $
    rewrite ! 4 (λ (x : MutBor (List Row)). ‵ (LeavesRows h.rows place t.0 x)) (sym new) refl $
    suffices ! _ (ends_at 𝓛 f.ended stayed c y row t.0 (ws₃.0, (tt, tt)) (tt, (tt, tt))) $
    nothing ! $ move ! (3 ∷ 0 ∷ []) $ join ! $ move ! (2 ∷ 0 ∷ []) $ join ! $
    nothing ! $ nothing ! $ join ! $ move ! (2 ∷ 0 ∷ []) $ join ! $ move ! (1 ∷ 0 ∷ []) $ group ! 3
    $ frame ! $ frame ! $ says ! (from₃ ∙ from₁) $
    by ! (fact_i 𝓤 _ (emp 𝓤) value)))))))))))))))))))))))))))))
