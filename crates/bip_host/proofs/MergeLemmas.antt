-- Each step of an inbox keeps its rule.
use Rattle.std.proofs.Common.{◌≡◌, ℕ, zero, suc, List, [], ◌∷◌, ◌++◌, Bool, true, false, map, set}
use Rattle.std.proofs.Common.{refl, sym, ap, ◌∙◌, subst, append_assoc, eq-eqb, ne_eqb, ◌≢◌}
use Rattle.std.specs.Prelude.{if◌then◌else◌, ◌==◌}
use mathlib.Core.Option.{some, some-injective, some-ne-none}
use mathlib.Core.Logic.{dite}
use native.Mathlib.Decide.{ℕ_discrete}
use lib.ListN.{get_elem?}
use Rattle.crossbeam_queue.specs.Fifo.{Pushes, Pops, Admits}
use Rattle.bip_host.specs.declared.merging.End.{End}
use Rattle.bip_host.specs.Merges.{logged, list_at}
use Rattle.bip_host.specs.Merging.{end, got_first, IsMerged}

module _ {M : Type 0} where
  abbrev puts_of : List (End M) → List (List M)
  puts_of ends = map (λ (v : End M). v.put) ends

  abbrev pub items_of : List (ℕ × M) → List M
  items_of log = map (λ (e : ℕ × M). e.1) log

  by_case : (b c : Bool) (y x : M) (l r : List M) → r ≡ (if c then l ++ x ∷ [] else l) →
      (if b then y ∷ r else r) ≡
      (if c then (if b then y ∷ l else l) ++ x ∷ [] else (if b then y ∷ l else l))
  by_case true true y x l r e = ap (λ (k : List M). y ∷ k) e
  by_case true false y x l r e = ap (λ (k : List M). y ∷ k) e
  by_case false true y x l r e = e
  by_case false false y x l r e = e

  logged_push : (p q : ℕ) (x : M) (log : List (ℕ × M)) → logged p (log ++ (q, x) ∷ []) ≡
      (if q == p then logged p log ++ x ∷ [] else logged p log)
  logged_push p q x [] = refl
  logged_push p q x (e ∷ es) = by_case (e.0 == p) (q == p) e.1 x (logged p es)
      (logged p (es ++ (q, x) ∷ [])) (logged_push p q x es)

  items_push : (log : List (ℕ × M)) (q : ℕ) (x : M) → items_of
      (log ++ (q, x) ∷ []) ≡ items_of log ++ x ∷ []
  items_push [] q x = refl
  items_push (e ∷ es) q x = ap (λ (k : List M). e.1 ∷ k) (items_push es q x)

  list_at_here : (ends : List (End M)) (port : ℕ) (v w : End M) (x : M)
      → get_elem? ends port ≡ some v → w.put ≡ v.put ++ x ∷ [] → list_at
      (puts_of (set ends port w)) port ≡ list_at (puts_of ends) port ++ x ∷ []
  list_at_here [] port v w x at is = absurd (some-ne-none v (sym at))
  list_at_here (u ∷ vs) zero v w x at is = is ∙ ap (λ (k : End M). k.put ++ x ∷ [])
      (sym (some-injective u v at))
  list_at_here (u ∷ vs) (suc port) v w x at is = list_at_here vs port v w x at is

  list_at_else : (ends : List (End M)) (port p : ℕ) (w : End M) → p ≢ port → list_at
      (puts_of (set ends port w)) p ≡ list_at (puts_of ends) p
  list_at_else [] port p w ne = refl
  list_at_else (u ∷ vs) zero zero w ne = absurd (ne refl)
  list_at_else (u ∷ vs) zero (suc p) w ne = refl
  list_at_else (u ∷ vs) (suc port) zero w ne = refl
  list_at_else (u ∷ vs) (suc port) (suc p) w ne = list_at_else vs port p w (λ e. ne (ap suc e))

  list_at_push : (ends : List (End M)) (port p : ℕ) (v w : End M) (x : M)
      → get_elem? ends port ≡ some v → w.put ≡ v.put ++ x ∷ [] → list_at
      (puts_of (set ends port w)) p ≡
      (if port == p then list_at (puts_of ends) p ++ x ∷ [] else list_at (puts_of ends) p)
  list_at_push ends port p v w x at is =
      let old : List M = list_at (puts_of ends) p in
      let new : List M = list_at (puts_of (set ends port w)) p in
      let F : Bool → Type 0 = λ b. new ≡ (if b then old ++ x ∷ [] else old) in
      dite (ℕ_discrete port p)
      (λ e. subst F (sym (eq-eqb port p e))
      (subst (λ (k : ℕ). list_at (puts_of (set ends port w)) k
      ≡ list_at (puts_of ends) k ++ x ∷ []) e (list_at_here ends port v w x at is)))
      (λ ne. subst F (sym (ne_eqb port p ne)) (list_at_else ends port p w (λ e. ne (sym e))))

  got_same : (ends : List (End M)) (port : ℕ) (v w : End M) → get_elem? ends port ≡ some v
      → w.got ≡ v.got → got_first (set ends port w) ≡ got_first ends
  got_same [] port v w at is = refl
  got_same (u ∷ vs) zero v w at is = is ∙ ap (λ (k : End M). k.got) (sym (some-injective u v at))
  got_same (u ∷ vs) (suc port) v w at is = refl

  pub puts : (n port : ℕ) (v : End M) (x : M) → Pushes IsMerged n port v x
      (λ w. w ≡ end (v.put ++ x ∷ []) v.got)
  puts n port v x items ends room h at =
      let w : End M = end (v.put ++ x ∷ []) v.got in
      let log : List (ℕ × M) = h.0 ++ (port, x) ∷ [] in (
        w,
        (
          log,
          items_push h.0 port x ∙ ap (λ (k : List M). k ++ x ∷ []) h.1 ∙ append_assoc
              (got_first ends) items (x ∷ []) ∙ ap (λ (k : List M). k ++ (items ++ x ∷ []))
              (sym (got_same ends port v w at refl)),
          λ p. logged_push p port x h.0 ∙ ap (λ (k : List M). if port == p then k ++ x ∷ [] else k)
              (h.2 p) ∙ sym (list_at_push ends port p v w x at refl),
        ),
        refl,
      )

  puts_same : (ends : List (End M)) (port p : ℕ) (v w : End M) → get_elem? ends port ≡ some v
      → w.put ≡ v.put → list_at (puts_of (set ends port w)) p ≡ list_at (puts_of ends) p
  puts_same [] port p v w at is = refl
  puts_same (u ∷ vs) zero zero v w at is = is ∙ ap (λ (k : End M). k.put)
      (sym (some-injective u v at))
  puts_same (u ∷ vs) zero (suc p) v w at is = refl
  puts_same (u ∷ vs) (suc port) zero v w at is = refl
  puts_same (u ∷ vs) (suc port) (suc p) v w at is = puts_same vs port p v w at is

  got_at_first : (ends : List (End M)) (v w : End M) → get_elem? ends 0 ≡ some v →
      (got_first (set ends 0 w) ≡ w.got) × (got_first ends ≡ v.got)
  got_at_first [] v w at = absurd (some-ne-none v (sym at))
  got_at_first (u ∷ vs) v w at = (refl, ap (λ (k : End M). k.got) (some-injective u v at))

  takes : (v : End M) → Pops IsMerged 0 v (λ x w. w ≡ end v.put (v.got ++ x ∷ []))
  takes v x items ends h at =
      let w : End M = end v.put (v.got ++ x ∷ []) in
      let first = got_at_first ends v w at in (
        w,
        (
          h.0,
          h.1 ∙ ap (λ (k : List M). k ++ x ∷ items) first.1 ∙ sym
              (append_assoc v.got (x ∷ []) items) ∙ ap (λ (k : List M). k ++ items) (sym first.0),
          λ p. h.2 p ∙ sym (puts_same ends 0 p v w at refl),
        ),
        refl,
      )

  pub takes_as : (port : ℕ) (v : End M) → port ≡ 0 → Pops IsMerged port v
      (λ x w. w ≡ end v.put (v.got ++ x ∷ []))
  takes_as port v is = subst (λ (k : ℕ). Pops IsMerged k v (λ x w. w ≡ end v.put (v.got ++ x ∷ [])))
      (sym is) (takes v)

  list_at_opened : (ends : List (End M)) (p : ℕ) → list_at
      (puts_of (ends ++ end [] [] ∷ [])) p ≡ list_at (puts_of ends) p
  list_at_opened [] zero = refl
  list_at_opened [] (suc p) = refl
  list_at_opened (u ∷ vs) zero = refl
  list_at_opened (u ∷ vs) (suc p) = list_at_opened vs p

  got_opened : (ends : List (End M)) → got_first (ends ++ end [] [] ∷ []) ≡ got_first ends
  got_opened [] = refl
  got_opened (u ∷ vs) = refl

  pub opens : Admits {T = M} IsMerged (end [] [])
  opens items ends h = (
    h.0,
    h.1 ∙ ap (λ (k : List M). k ++ items) (sym (got_opened ends)),
    λ p. h.2 p ∙ sym (list_at_opened ends p),
  )

  pub begins : IsMerged {M = M} [] (end [] [] ∷ [])
  begins = ([], refl, λ p. sym (list_at_opened [] p))
