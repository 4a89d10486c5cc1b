-- `next`, statement by statement: the lender is lent for each call, for a lifetime inside that of
-- its rows, and comes back as the call left it.
use mathlib.Core.Path.{◌≡◌, refl, sym, subst, ap, ◌∙◌}
use Prim.Native.Nat.{ℕ, ◌+◌, ◌<◌, ◌≤◌}
use native.Mathlib.Omega.{arith}
use mathlib.Core.List.{List, [], ◌∷◌, ◌++◌}
use mathlib.Core.Logic.{inl, inr, ◌⊎◌}
use base.Share
use lib.Dec.{lit<}
use mir.Syntax.{named, w64}
use mir.Val.{Val, vptr, of_list}
use base.Logic.{emp, id⊢, apply∗}
use base.Fml.{GName, Share, ftrue, flft, fdead}
use contract.Monad.{fact, fact_i}
use contract.Running.{tables}
use contract.BorrowLft.{meet_⊑_right}
use types.Kit.{‵, raw, ◌⊛◌, some, later, at_ret, ◌$◌, ◌∵◌, !, qed, move, keep, use0, use1, use2}
use types.Kit.{use3, split, join, pick, await, rewrite, fsplit, fpick, feq_l, suffices, frame}
use types.Kit.{group, done}
use types.Match.{live, vrt, in_variant}
use types.Part.{whole, agg}
use types.Run.{addr, of_opd, lit, stop, fld, and_then, no_more, first, switches, exec, returns}
use types.Run.{returns_within, enter}
use types.ByLocal.{alloc_all, pass_all, free_all, look_at, get, get_in, get_tag, through, sets}
use types.ByLocal.{sets_last, lands_as, env}
use denote.Exit.{yes}
use denote.Builtin.{usize}
use denote.Laws.{shows}
use denote.Lend.{LentAgain, lends_again, comes_back}
use denote.Plain.{uint_vals, uint_Tells}
use denote.Ref.{MutBor, MutRef, mut_vals, mut_Tells}
use denote.Signature.{plain, named_lft}
use denote.Steps.{nothing, heard, only, peeks}
use denote.Triple.Call.{calls_at}
use denote.Triple.Clauses.{lasts}
use denote.Triple.Entry.{on_entry}
use denote.Triple.Spec.{triple_of}
use denote.Triple.Table.{framed}
use denote.Triple.Walked.{Stays, walk_of, says, stay_ref, stay_dropped, Goes-ref, Goes-dropped}
use denote.Triple.Walked.{ends_at}
use Rattle.std.proofs.raw_atomic.Walks.{proved}
use Rattle.std.specs.Prelude.{◌↔◌, IfSome, IsSome, IsTrue, None, Option, Some, length, max, take}
use Rattle.std.specs.contracts.option.Option as O
use Rattle.bip_model.specs.contracts.numbering.CompId as C
use Rattle.bip_table.proofs.LifetimeSteps.{Ends, begins}
use Rattle.bip_table.proofs.OptionSteps.{none_of, some_of}
use Rattle.bip_model.proofs.numbering.CompId.TheLaws.{lowers}
use Rattle.bip_model.specs.declared.numbering.CompId.{CompId}
use Rattle.bip_table.specs.Lending.{LeavesRows}
use Rattle.bip_table.specs.Rows.{has_row, place_in}
use Rattle.bip_table.specs.contracts.lending.RowLender as L
use Rattle.bip_table.specs.contracts.lending.RowLender.next as f
use Rattle.bip_table.specs.contracts.lending.RowLender.seek as seek
use Rattle.bip_table.specs.contracts.lending.RowLender.take_row as take_row
use Rattle.bip_table.specs.contracts.rows.Row.{the_row}
use Rattle.bip_table.specs.declared.lending.RowLender.{RowLender}
use Rattle.bip_table.specs.declared.rows.Row.{Row}
use Rattle.bip_table.proofs.lending.RowLender.next.Statement.{statement}
use Rattle.bip_table.proofs.lending.RowLender.next.Code as code
use Rattle.bip_table.proofs.lending.RowLender.seek.Met as seek_met
use Rattle.bip_table.proofs.lending.RowLender.take_row.Met as take_row_met

-- how a component is stored
abbrev word : CompId → List Val
word comp = lowers.lowered comp ∷ []

option_cases : (r : Option ℕ) → (r ≡ None) ⊎ ((n : ℕ) × (r ≡ Some n))
option_cases None = inl refl
option_cases (Some n) = inr (n, refl)

abbrev stayed : Stays f.ended.signature.params f.ended.kept
stayed = (
  stay_ref (0 ∷ []) tt (plain (λ κs. L.the_row (named_lft 2 1 tt κs))),
  (stay_dropped (plain (λ _. C.the_row)) yes, tt),
)

pub next_spec : {M : Type 1} → statement M
next_spec 𝓤 𝓛 𝓜 𝓡 wired =
    let c = f.clauses 𝓛 𝓜.mem 𝓡.returns in
    let 𝓣 = tables 𝓤 𝓛.H 𝓜 𝓡 𝓡.env in
    let W = walk_of 𝓛 f.ended stayed c in
    proved 𝓛 f.ended stayed c 𝓜 𝓡 (
      Goes-ref 𝓛 2 0 tt (plain
          (λ κs. L.the_row (named_lft 2 1 tt κs))),
      (Goes-dropped 𝓛 2 (plain (λ _. C.the_row)) yes (λ κs x w. refl), tt),
    )
    f.Key.name code.function (code.unfolded 𝓤 𝓛.H 𝓜 𝓡 wired)
    (λ κs. (mut_vals, (word, tt))) (λ κs. (
      mut_Tells (named 0) κs.0 (L.the_row
          (named_lft 2 1 tt κs)),
      (lowers.val_is, tt),
    )) (λ κs qs bounds a _ are.
    let κ = κs.0 in let κ₁ = κs.1.0 in let q = qs.0 in let q₁ = qs.1.0 in
    let R = L.the_row (named_lft 2 1 tt κs) in
    let b = a.0.ref_ptr.0 in let o = a.0.ref_ptr.1 in let h = a.0.now in let comp = a.1.0 in
    let y : W.Ghost = ((κs, qs, bounds, a, (mut_vals a.0, (word comp, tt))), tt) in
    qed 𝓛 (raw (on_entry 𝓛 f.signature κs qs a y.0.4) ∷ ‵ ftrue ∷ []) ∵
    use1 𝓛 ((‵ (flft κ q) ⊛ ‵ (flft κ₁ q₁) ⊛ ‵ ftrue) ⊛ ‵
    ((MutRef (named 0) κ R).own_val a.0 (mut_vals a.0)) ⊛ ‵
    (C.the_row.own_val comp (word comp)) ⊛ ‵ ftrue) (id⊢ 𝓤 _) $
    split ! $ split ! $ move ! (1 ∷ []) $ split ! $ move ! (3 ∷ []) $ split ! $ move ! (1 ∷ []) $
    split ! $ keep ! (2 ∷ 0 ∷ 3 ∷ 5 ∷ []) $
    -- [self; the component; the token of κ₁; the token of κ]
    enter ! _ _ _ _ _ $ alloc_all ! (λ l. pass_all ! refl
    ((tt, tt), ((tt, (record { fits = are.1.0.1.1.0.1 }, tt)), tt)) $
    sets ! (addr ! (through ! refl (stop !))) refl (tt, tt) $
    -- the lender is lent for a lifetime inside κ₁, of whose token one half is used for that
    move ! (2 ∷ []) $ use1 𝓛 (‵ (flft κ₁ (Share.left q₁)) ⊛ ‵ (flft κ₁ (Share.right q₁)))
    (𝓛.lfts.lft_split κ₁ q₁) $ split ! $
    use1 𝓛 (later (some (λ (p : ℕ × Share). ‵ (flft (p.0 ∷ κ₁) p.1) ⊛ raw
    (Ends 𝓛 κ₁ (Share.left q₁) p.0 p.1)))) (begins 𝓛 κ₁ (Share.left q₁)) $ await ! tt $
    pick ! (λ p. split ! $
    -- [the token of α; its end; the other half; self; the component; the token of κ]
    move ! (3 ∷ 5 ∷ []) $
    use2 𝓛 (later (some (λ (δ : GName). ‵ ((MutRef (named 0) (p.0 ∷ κ₁) R).own_val
    (record { ref_ptr = (b, o); ghost_name = δ; now = h }) (vptr b o ∷ [])) ⊛ ‵
    (LentAgain R κ (p.0 ∷ κ₁) q a.0.ghost_name b o δ h))))
    (lends_again 𝓛 R (named 0) κ (p.0 ∷ κ₁) q a.0.ghost_name b o (named 0) h) $ await ! tt $
    pick ! (λ δ. split ! $
    -- [the loan; what the lender keeps; the token of α; its end; the other half; the component]
    let G₁ = triple_of 𝓛 seek.signature (seek.spec 𝓛 𝓜.mem 𝓡.returns) in
    let lent₁ : MutBor RowLender = record { ref_ptr = (b, o); ghost_name = δ; now = h } in
    let z₁ : G₁.Ghost = (
      (
        (p.0 ∷ κ₁, (κ₁, tt)),
        (p.1, (Share.right q₁, tt)),
        (meet_⊑_right (p.0 ∷ []) κ₁, tt),
        (lent₁, (comp, tt)),
        (vptr b o ∷ [], (word comp, tt)),
      ),
      tt,
    ) in
    nothing ! $ move ! (6 ∷ 0 ∷ []) $ join ! $ move ! (1 ∷ 0 ∷ []) $ join ! $ nothing ! $
    move ! (5 ∷ 0 ∷ []) $ join ! $ move ! (3 ∷ 0 ∷ []) $ join ! $ join ! $ nothing ! $
    move ! (1 ∷ 0 ∷ []) $
    use2 𝓛 (raw (G₁.pre z₁)) (id⊢ 𝓤 _) $
    calls_at ! (framed 𝓤 𝓛.H 𝓜 (tables 𝓤 𝓛.H 𝓜 𝓡 𝓡.env)) G₁
    (seek_met.met 𝓤 𝓛 𝓜 𝓡 (code.calls-bip_table::lending::RowLender::seek 𝓡.env wired)) z₁
    (and_then ! (get ! refl) (and_then ! (get ! refl) (no_more !))) (λ v₁.
    use1 𝓛 (later (some (λ (r : Option ℕ). ((‵ (flft (p.0 ∷ κ₁) p.1) ⊛ ‵
    (flft κ₁ (Share.right q₁)) ⊛ ‵ ftrue) ⊛ ‵ ((O.the_row usize).own_val r (v₁ ∷ []))) ⊛
    some (λ (ws : RowLender × (Unit {0} × Unit {0})). ‵ (lasts seek.ended z₁.0.0 z₁.0.3 ws) ⊛ raw
    (fact 𝓤 (IsSome r ↔ ((h.from ≤ comp.0) × IsTrue (has_row h.rows.now comp.0)))) ⊛ raw
    (fact 𝓤 (IfSome r (λ k. k ≡ place_in h.rows.now comp.0))) ⊛
    raw (fact 𝓤 (IfSome r (λ k. k < length h.rows.now))) ⊛ raw (fact 𝓤 (ws.0.rows ≡ h.rows)) ⊛ raw
    (fact 𝓤 (ws.0.from ≡ max h.from (comp.0 + 1))))))) (id⊢ 𝓤 _) $
    await ! tt $ pick ! (λ r. split ! $ split ! $ split ! $ move ! (3 ∷ []) $
    pick ! (λ ws. split ! $ move ! (1 ∷ []) $ split ! $ move ! (1 ∷ []) $ split ! $
    move ! (1 ∷ []) $ split ! $ move ! (1 ∷ []) $ split ! $
    heard ! _ (λ same. heard ! _ (λ from₁. heard ! _
    (λ within. heard ! _ (λ here. heard ! _ (λ some₁. fsplit ! $ fsplit ! $
    -- [the last lender; its borrow; nothing; the token of α; the other half; the place; what the
    -- lender keeps; the end]
    move ! (3 ∷ 7 ∷ []) $ use2 𝓛 (later (‵ (fdead (p.0 ∷ κ₁)) ⊛ ‵ (flft κ₁ (Share.left q₁))))
    (apply∗ 𝓤 (𝓛.A.lft (p.0 ∷ κ₁) p.1) _) $ await ! tt $ split ! $
    move ! (0 ∷ 7 ∷ 2 ∷ []) $ use3 𝓛 (later (‵
    ((MutRef (named 0) κ R).own_val (record a.0 { now = ws.0 }) (vptr b o ∷ [])) ⊛ ‵
    (flft κ q))) (comes_back 𝓛 R (named 0) κ (p.0 ∷ κ₁) q a.0.ghost_name b o δ h ws.0) $
    await ! tt $ split ! $
    move ! (5 ∷ []) $ split ! $ move ! (4 ∷ 0 ∷ []) $
    use2 𝓛 (‵ (flft κ₁ q₁)) (𝓛.lfts.lft_join κ₁ q₁) $
    -- [the token of κ₁; nothing; self; the token of κ; nothing; nothing; the place]
    let Ref = MutRef (named 1) κ₁ the_row in
    let Told : Option ℕ → Type 0 = λ x. IsSome x ↔
    ((h.from ≤ comp.0) × IsTrue (has_row h.rows.now comp.0)) in
    let no_place : Option ℕ = None in
    elim (option_cases r) [
      | inl none ↦
          move ! (6 ∷ []) $ rewrite ! 0 (λ (x : Option ℕ). ‵
          ((O.the_row usize).own_val x (v₁ ∷ []))) none refl $
          fpick ! (λ us. fsplit ! $ feq_l ! (λ e. fpick ! (λ vss. fsplit ! $ feq_l ! (λ e'.
          lands_as ! (ap only e ∙ (λ i. live 0 (of_list (e' i)))) refl
          (tt, (record { fits = lit< tt }, tt)) $
          first ! $ switches ! (get_tag ! (vrt ! refl (fld ! refl (stop !))) (whole !)) (
            (λ k. absurd (omega (arith, k))),
            (
              (λ k.
                  sets ! (agg ! (and_then ! (lit ! tt) (no_more !))) refl
                  (tt, (record { fits = lit< tt }, tt)) $
                  returns_within ! (W.post y) refl (look_at ! 0 refl) $ free_all ! refl $
                  keep ! (3 ∷ 4 ∷ 1 ∷ []) $
                  suffices ! _ (ends_at 𝓛 f.ended stayed c y (live 0 (of_list [])) None
                  (ws.0, (tt, tt)) (tt, (tt, tt))) $
                  use0 𝓛 (‵ ((O.the_row Ref).own_val None (live 0 (of_list []) ∷ [])))
                  (none_of 𝓛 Ref) $
                  nothing ! $ move ! (4 ∷ 0 ∷ []) $ join ! $ move ! (3 ∷ 0 ∷ []) $ join ! $
                  nothing ! $ nothing ! $ join ! $ move ! (3 ∷ 0 ∷ []) $ join ! $
                  move ! (1 ∷ 0 ∷ []) $ group ! 3 $ frame ! $
                  nothing ! $ frame ! $
                  use0 𝓛 (raw (fact 𝓤 (ws.0.from ≡ max h.from (comp.0 + 1))))
                  (fact_i 𝓤 _ (emp 𝓤) from₁) $
                  use0 𝓛 (raw (fact 𝓤 (ws.0.rows.ghost_name ≡ h.rows.ghost_name)))
                  (fact_i 𝓤 _ (emp 𝓤) (ap (λ (x : MutBor (List Row)). x.ghost_name) same)) $
                  use0 𝓛 (raw (fact 𝓤 (ws.0.rows.now ≡ h.rows.now)))
                  (fact_i 𝓤 _ (emp 𝓤) (ap (λ (x : MutBor (List Row)). x.now) same)) $
                  use0 𝓛 (raw (fact 𝓤 (Unit {0}))) (fact_i 𝓤 _ (emp 𝓤) tt) $
                  use0 𝓛 (raw (fact 𝓤 (Told no_place))) (fact_i 𝓤 _ (emp 𝓤) (subst Told none some₁))
                  $ done !),
              (λ k. absurd (k.1 refl)),
            ),
          )))))
      | inr (n, some_n) ↦
          let is_there = subst (λ (x : Option ℕ). IfSome x (λ k. k < length h.rows.now)) some_n
          within in
          let is_place = subst (λ (x : Option ℕ). IfSome x (λ k. k ≡ place_in h.rows.now comp.0))
          some_n here in
          move ! (6 ∷ []) $ rewrite ! 0 (λ (x : Option ℕ). ‵
          ((O.the_row usize).own_val x (v₁ ∷ []))) some_n refl $
          fpick ! (λ us. fsplit ! $ feq_l ! (λ e. fpick
          ! (λ vss. fsplit ! $ feq_l ! (λ e'. fsplit ! $
          peeks ! usize _ (shows 𝓛 usize) n vss.0 (λ is.
          let word_n = uint_Tells w64 n vss.0 is in
          lands_as ! (ap only e ∙ (λ i. live 1 (of_list (e' i)))
          ∙ (λ i. live 1 (of_list (word_n i ++ [])))) refl
          (tt, (record { fits = lit< tt }, (record { fits = is.1 }, tt))) $
          rewrite ! 0 (λ (vs : List Val). ‵ (usize.own_val n vs)) word_n refl $
          first ! $ switches ! (get_tag ! (vrt ! refl (fld ! refl (stop !))) (whole !)) (
            (λ k.
                sets_last ! (of_opd ! (get_in ! (vrt ! refl (fld ! refl (stop !)))
                (in_variant ! 1 0 refl refl (whole !)))) refl (tt, record { fits = is.1 }) $
                exec ! 𝓣.C 𝓣.Λ (env (code.function).locals l) code.Mir.t-4 (at_ret _ (W.post y)) $
                sets ! (addr ! (through ! refl (stop !))) refl (tt, tt) $
                -- [the place; nothing; the token of κ₁; nothing; self; the token of κ; ..]
                move ! (2 ∷ []) $ use1 𝓛 (‵ (flft κ₁ (Share.left q₁)) ⊛ ‵
                (flft κ₁ (Share.right q₁))) (𝓛.lfts.lft_split κ₁ q₁) $ split ! $
                use1 𝓛 (later (some (λ (p : ℕ × Share). ‵ (flft (p.0 ∷ κ₁) p.1) ⊛ raw
                (Ends 𝓛 κ₁ (Share.left q₁) p.0 p.1)))) (begins 𝓛 κ₁ (Share.left q₁)) $
                await ! tt $ pick ! (λ p'. split ! $
                move ! (6 ∷ 7 ∷ []) $
                use2 𝓛 (later (some (λ (δ : GName). ‵
                ((MutRef (named 0) (p'.0 ∷ κ₁) R).own_val
                (record { ref_ptr = (b, o); ghost_name = δ; now = ws.0 }) (vptr b o ∷ [])) ⊛ ‵
                (LentAgain R κ (p'.0 ∷ κ₁) q a.0.ghost_name b o δ ws.0))))
                (lends_again 𝓛 R (named 0) κ (p'.0 ∷ κ₁) q a.0.ghost_name b o (named 0) ws.0) $
                await ! tt $ pick ! (λ δ'. split ! $
                -- [the loan; what the lender keeps; the token of α; its end; the other half; the
                -- place; ..]
                let G₂ = triple_of 𝓛 take_row.signature (take_row.spec 𝓛 𝓜.mem 𝓡.returns) in
                let lent₂ : MutBor RowLender =
                record { ref_ptr = (b, o); ghost_name = δ'; now = ws.0 } in
                let z₂ : G₂.Ghost = (
                  (
                    (p'.0 ∷ κ₁, (κ₁, tt)),
                    (p'.1, (Share.right q₁, tt)),
                    (meet_⊑_right (p'.0 ∷ []) κ₁, tt),
                    (lent₂, (n, tt)),
                    (vptr b o ∷ [], (uint_vals w64 n, tt)),
                  ),
                  tt,
                ) in
                let long : n < length ws.0.rows.now =
                subst (λ (x : MutBor (List Row)). n < length x.now) (sym same) is_there in
                nothing ! $ move ! (6 ∷ 0 ∷ []) $ join ! $ move ! (1 ∷ 0 ∷ []) $ join ! $
                nothing ! $ move ! (5 ∷ 0 ∷ []) $ join ! $ move ! (3 ∷ 0 ∷ []) $ join ! $
                use2 𝓛 (raw (G₂.pre z₂)) (qed 𝓛
                ((‵ (flft (p'.0 ∷ κ₁) p'.1) ⊛ ‵ (flft κ₁ (Share.right q₁)) ⊛ ‵ ftrue)
                ∷ (‵ ((MutRef (named 0) (p'.0 ∷ κ₁) R).own_val lent₂ (vptr b o ∷ [])) ⊛ ‵
                (usize.own_val n (uint_vals w64 n)) ⊛ ‵ ftrue) ∷ []) ∵ says ! long $ join ! $
                done !) $
                calls_at ! (framed 𝓤 𝓛.H 𝓜 𝓣) G₂
                (take_row_met.met 𝓤 𝓛 𝓜 𝓡
                (code.calls-bip_table::lending::RowLender::take_row 𝓡.env wired)) z₂
                (and_then ! (get ! refl) (and_then ! (get ! refl) (no_more !))) (λ v₂.
                use1 𝓛 (later (some (λ (x : MutBor Row).
                ((‵ (flft (p'.0 ∷ κ₁) p'.1) ⊛ ‵ (flft κ₁ (Share.right q₁)) ⊛ ‵ ftrue) ⊛ ‵
                (Ref.own_val x (v₂ ∷ []))) ⊛
                some (λ (ws₂ : RowLender × (Unit {0} × Unit {0})). ‵
                (lasts take_row.ended z₂.0.0 z₂.0.3 ws₂) ⊛ ‵
                (LeavesRows ws.0.rows n x ws₂.0.rows) ⊛ raw
                (fact 𝓤 (ws.0.rows.now ≡ take n ws.0.rows.now ++ x.now ∷ ws₂.0.rows.now)) ⊛ raw
                (fact 𝓤 (ws₂.0.from ≡ ws.0.from)))))) (id⊢ 𝓤 _) $
                await ! tt $ pick ! (λ x. split ! $ split ! $ split ! $ move ! (3 ∷ []) $
                pick ! (λ ws₂. split ! $ move ! (1 ∷ []) $ split ! $ move ! (1 ∷ []) $ split ! $
                heard ! _ (λ parts. heard ! _ (λ from₂.
                move ! (1 ∷ []) $ fsplit ! $ fsplit ! $
                -- [the last lender; its borrow; nothing; what follows; the token of α; the other
                -- half; the row; what the lender keeps; the end]
                move ! (4 ∷ 8 ∷ []) $ use2 𝓛 (later
                (‵ (fdead (p'.0 ∷ κ₁)) ⊛ ‵ (flft κ₁ (Share.left q₁))))
                (apply∗ 𝓤 (𝓛.A.lft (p'.0 ∷ κ₁) p'.1) _) $ await ! tt $ split ! $
                move ! (0 ∷ 8 ∷ 2 ∷ []) $ use3 𝓛
                (later (‵ ((MutRef (named 0) κ R).own_val (record a.0 { now = ws₂.0 })
                (vptr b o ∷ [])) ⊛ ‵ (flft κ q)))
                (comes_back 𝓛 R (named 0) κ (p'.0 ∷ κ₁) q a.0.ghost_name b o δ' ws.0 ws₂.0) $
                await ! tt $ split ! $
                move ! (6 ∷ []) $ split ! $ move ! (4 ∷ 0 ∷ []) $
                use2 𝓛 (‵ (flft κ₁ q₁)) (𝓛.lfts.lft_join κ₁ q₁) $
                -- [the token of κ₁; nothing; self; the token of κ; nothing; nothing; what follows;
                -- the row]
                move ! (7 ∷ []) $ peeks ! Ref _ (shows 𝓛 Ref) x (v₂ ∷ []) (λ is₂.
                let word_x = mut_Tells (named 1) κ₁ the_row x (v₂ ∷ []) is₂ in
                let v : Val = vptr x.ref_ptr.0 x.ref_ptr.1 in
                lands_as ! (ap only word_x) refl (tt, tt) $
                rewrite ! 0 (λ (vs : List Val). ‵ (Ref.own_val x vs)) word_x refl $
                sets ! (agg ! (and_then ! (lit ! tt) (and_then ! (get ! refl) (no_more !)))) refl
                (tt, (record { fits = lit< tt }, (tt, tt))) $
                returns ! (look_at ! 0 refl) $ free_all ! refl $
                use1 𝓛 (‵ ((O.the_row Ref).own_val (Some x) (live 1 (of_list (v ∷ [])) ∷ [])))
                (some_of 𝓛 Ref x v) $ keep ! (3 ∷ 4 ∷ 1 ∷ 0 ∷ 7 ∷ []) $
                let value = subst (λ (k : ℕ). h.rows.now ≡ take k h.rows.now ++ x.now
                ∷ ws₂.0.rows.now) is_place
                (subst (λ (y : MutBor (List Row)). y.now ≡ take n y.now ++ x.now
                ∷ ws₂.0.rows.now) same parts) in
                rewrite ! 4 (λ (y : MutBor (List Row)). ‵ (LeavesRows y n x ws₂.0.rows)) same refl $
                rewrite ! 4 (λ (k : ℕ). ‵ (LeavesRows h.rows k x ws₂.0.rows)) is_place refl $
                suffices ! _ (ends_at 𝓛 f.ended stayed c y (live 1 (of_list (v ∷ []))) (Some x)
                (ws₂.0, (tt, tt)) (tt, (tt, tt))) $
                nothing ! $ move ! (3 ∷ 0 ∷ []) $ join ! $ move ! (2 ∷ 0 ∷ []) $ join ! $
                nothing ! $ nothing ! $ join ! $ move ! (2 ∷ 0 ∷ []) $ join ! $
                move ! (1 ∷ 0 ∷ []) $ group ! 3 $ frame ! $
                frame ! $
                use0 𝓛 (raw (fact 𝓤 (ws₂.0.from ≡ max h.from (comp.0 + 1))))
                (fact_i 𝓤 _ (emp 𝓤) (from₂ ∙ from₁)) $
                use0 𝓛 (raw (fact 𝓤 (Unit {0}))) (fact_i 𝓤 _ (emp 𝓤) tt) $
                use0 𝓛 (raw (fact 𝓤 (Unit {0}))) (fact_i 𝓤 _ (emp 𝓤) tt) $
                use0 𝓛 (raw (fact 𝓤 (h.rows.now ≡ take (place_in h.rows.now comp.0) h.rows.now
                ++ x.now ∷ ws₂.0.rows.now))) (fact_i 𝓤 _ (emp 𝓤) value) $
                use0 𝓛 (raw (fact 𝓤 (Told (Some n)))) (fact_i 𝓤 _ (emp 𝓤) (subst Told some_n some₁))
                $ done !))))))))),
            ((λ k. absurd (omega (arith, k))), (λ k. absurd (k.0.1 refl))),
          ))))))
    ]))))))))))))
