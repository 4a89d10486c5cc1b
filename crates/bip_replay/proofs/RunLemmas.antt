-- Runs: in parts, step by step, what they are histories of, the numbers of moves, where one grant
-- more leads, and used numbers of wants granted one after another.
use Rattle.std.proofs.Common.{◌≡◌, ℕ, ◌+◌, ◌<◌, List, [], ◌∷◌, ◌++◌, refl, arith, Bool, length}
use Rattle.std.proofs.Common.{Option, None, Some, ap, ap₂, drop, find, get_or, inl, inr, map, subst}
use Rattle.std.proofs.Common.{suc, sym, take, ◌⊎◌, ◌∙◌}
use Rattle.std.proofs.Math.Seq.{drop-cons}
use Rattle.std.proofs.lemmas.List.Elements.{All-head, All-tail, filter-append}
use Rattle.std.specs.Prelude.{◌↔◌, All, filter, nat_lt}
use Rattle.std.specs.List.Sorted.{IsStrictlyIncreasing}
use Rattle.std.proofs.lemmas.List.{length-append, map-id, take-append-drop}
use Rattle.bip_model.specs.declared.grants.Grant.{Grant}
use Rattle.bip_model.specs.declared.wants.Want.{Want}
use Rattle.bip_model.specs.declared.parts.System.{System}
use Rattle.bip_model.specs.Grants.{IsHistory, used_by}
use Rattle.bip_model.specs.States.{State}
use Rattle.bip_model.specs.Steps.{IsRun, after, end_of, start_of, MayRun}
use Rattle.bip_model.specs.Wants.{raised, components_of, moved_in}
use Rattle.bip_model.proofs.StepLemmas.{enabled_or_not}
use Rattle.bip_model.specs.Parts.{IsSystem}
use Rattle.bip_model.proofs.PartyLemmas.{cover_decided, parties_decided}
use Rattle.bip_replay.specs.Runs.{HasNextNumber, IsModelRun, IsNext, IsRunFrom, interactions_of}
use Rattle.bip_replay.specs.Runs.{state_after, used_after, is_wrong, IsNextAt, StandsAfter}
use Rattle.bip_replay.specs.Runs.{Standing, standing_after, standing_on}
use Rattle.bip_replay.specs.declared.faults.StepFault.{StepFault}
use Rattle.bip_replay.specs.declared.faults.StepFault.TheVariants.{NotEnabled, Below, Number}
use Rattle.bip_replay.specs.declared.faults.StepFault.TheVariants.{Parties}
use Rattle.bip_replay.specs.Faults.{IsFaultOf, expected_after, IsFaultAt}
use Rattle.bip_replay.specs.Laws.{times_moved}
use Rattle.bip_model.proofs.LowestLemmas.{may_or_below}
use Rattle.bip_replay.proofs.FaultLemmas.{lowest_wrong, next_from_tests, none_wrong}
use Rattle.bip_model.proofs.HistoryLemmas.{used_by-push}

pub IsRunFrom-push : (m : System) (s : State) (used : ℕ → ℕ) (gs : List Grant) (g : Grant)
    → IsRunFrom m s used gs → IsNext m (end_of m s (interactions_of gs)) (used_by used gs) g
    → IsRunFrom m s used (gs ++ g ∷ [])
IsRunFrom-push m s used [] g run next = (next, tt)
IsRunFrom-push m s used (h ∷ gs) g run next =
    (run.0, IsRunFrom-push m (after m s h.inter.0) (raised used h.wants) gs g run.1 next)

-- a run in two parts: the second goes on where the first ends
pub IsRunFrom-parts : (m : System) (s : State) (used : ℕ → ℕ) (gs hs : List Grant)
    → IsRunFrom m s used (gs ++ hs) → IsRunFrom m s used gs
    × IsRunFrom m (end_of m s (interactions_of gs)) (used_by used gs) hs
IsRunFrom-parts m s used [] hs run = (tt, run)
IsRunFrom-parts m s used (g ∷ gs) hs run = let rest =
    IsRunFrom-parts m (after m s g.inter.0) (raised used g.wants) gs hs run.1 in
    ((run.0, rest.0), rest.1)

-- the grant behind a beginning is next there
pub next_at : (m : System) (base : ℕ) (front rest : List Grant) (g : Grant)
    → IsModelRun m base (front ++ g ∷ rest) → IsNext m (state_after m front)
    (used_after base front) g
next_at m base front rest g run = (IsRunFrom-parts m (start_of m) (λ _. base) front
    (g ∷ rest) run).1.0

pub end_of-push : (m : System) (s : State) (gs : List Grant) (g : Grant)
    → end_of m s (interactions_of (gs ++ g ∷ [])) ≡ after m
    (end_of m s (interactions_of gs)) g.inter.0
end_of-push m s [] g = refl
end_of-push m s (h ∷ gs) g = end_of-push m (after m s h.inter.0) gs g

pub IsRun-from_grants : (m : System) (s : State) (used : ℕ → ℕ) (gs : List Grant)
    → IsRunFrom m s used gs → IsRun m s (interactions_of gs)
IsRun-from_grants m s used [] run = tt
IsRun-from_grants m s used (g ∷ gs) run = (
  run.0.may,
  IsRun-from_grants m (after m s g.inter.0) (raised used g.wants) gs run.1,
)

pub IsHistory-from_run : (m : System) (s : State) (used : ℕ → ℕ) (gs : List Grant)
    → IsRunFrom m s used gs → IsHistory used gs
IsHistory-from_run m s used [] run = tt
IsHistory-from_run m s used (g ∷ gs) run = (
  λ k d within. let next = run.0.numbers k d within in grind arith,
  IsHistory-from_run m (after m s g.inter.0) (raised used g.wants) gs run.1,
)

pub grants-back : (m : System) (base : ℕ) (gs : List Grant) (g : Grant)
    → IsModelRun m base (gs ++ g ∷ []) ↔ (IsModelRun m base gs
    × IsNext m (state_after m gs) (used_after base gs) g)
grants-back m base gs g = (
  λ run. (
    (IsRunFrom-parts m (start_of m) (λ _. base) gs (g ∷ []) run).0,
    next_at m base gs [] g run,
  ),
  λ both. IsRunFrom-push m (start_of m) (λ _. base) gs g both.0 both.1,
)

-- each grant behind a beginning of grants is next there
abbrev EachNext : System → State → (ℕ → ℕ) → List Grant → Type 0
EachNext m s used gs = (front rest : List Grant) (g : Grant) → gs ≡ front ++ g ∷ rest
    → IsNext m (end_of m s (interactions_of front)) (used_by used front) g

run-from_steps : (m : System) (s : State) (used : ℕ → ℕ) (gs : List Grant) → EachNext m s used gs
    → IsRunFrom m s used gs
run-from_steps m s used [] each = tt
run-from_steps m s used (g ∷ gs) each = (
  each [] gs g refl,
  run-from_steps m (after m s g.inter.0) (raised used
      g.wants) gs (λ front rest h e. each (g ∷ front) rest h cc),
)

pub by_steps : (m : System) (base : ℕ) (gs : List Grant)
    → IsModelRun m base gs ↔ EachNext m (start_of m) (λ _. base) gs
by_steps m base gs = (
  λ run front rest g e. next_at m base front rest g (subst (λ (hs : List Grant). IsModelRun m
      base hs) e run),
  run-from_steps m (start_of m) (λ _. base) gs,
)

-- wants with exact numbers move a component with the number behind its used one, or not at all
moved-next : (used : ℕ → ℕ) (ws : List Want) (c : ℕ) → All (HasNextNumber used) ws
    → (moved_in ws c ≡ 0) ⊎ (moved_in ws c ≡ used c + 1)
moved-next used [] c numbers = inl refl
moved-next used (w ∷ ws) c numbers =
    let later = moved-next used ws c (All-tail (HasNextNumber used) w ws numbers) in
    let first = All-head (HasNextNumber used) w ws numbers in
    grind arith

-- whether a grant moves a component
abbrev moves_one : ℕ → Grant → Bool
moves_one c g = nat_lt 0 (moved_in g.wants c)

-- the used number of a component is the one before and how often it moved
pub counts_moves : (m : System) (s : State) (used : ℕ → ℕ) (gs : List Grant) (c : ℕ)
    → IsRunFrom m s used gs → used_by used gs c ≡ used c + times_moved gs c
counts_moves m s used [] c run = omega arith
counts_moves m s used (g ∷ gs) c run =
    let next = moved-next used g.wants c run.0.numbers in
    let later = counts_moves m (after m s g.inter.0) (raised used g.wants) gs c run.1 in
    grind arith

pub numbered : (m : System) (base : ℕ) (front rest : List Grant) (g : Grant) (c : ℕ)
    → IsModelRun m base (front ++ g ∷ rest) → 0 < moved_in g.wants c
    → moved_in g.wants c ≡ base + times_moved (front ++ g ∷ []) c
numbered m base front rest g c run moves =
    let next = moved-next (used_after base front) g.wants c
    (next_at m base front rest g run).numbers in
    let before = counts_moves m (start_of m) (λ _. base) front c
    (IsRunFrom-parts m (start_of m) (λ _. base) front (g ∷ rest) run).0 in
    let more = filter-append (moves_one c) front (g ∷ []) in
    grind (arith, length-append (filter (moves_one c) front) (filter (moves_one c) (g ∷ [])))

-- a grant is next, or has a fault
abbrev pub NextOrFault : System → State → (ℕ → ℕ) → Grant → Type 0
NextOrFault m s used g = IsNext m s used g ⊎ ((fault : StepFault) × IsFaultOf m s used g fault)

pub next_or_fault : (m : System) (s : State) (used : ℕ → ℕ) (g : Grant) → IsSystem m
    → IsStrictlyIncreasing (components_of g.wants) → NextOrFault m s used g
next_or_fault m s used g valid rising = elim (enabled_or_not m s g.inter.0) [
  | inr not_now ↦ inr (NotEnabled, not_now)
  | inl is ↦ elim (may_or_below m s g.inter.0 is) [
    | inr below ↦ inr (Below (record { 0 = below.0 }), (is, below.1))
    | inl may ↦ by_wrong may (find (is_wrong (length m.components) used) g.wants) refl
  ]
]
  where
    by_wrong : MayRun m s g.inter.0 → (o : Option Want)
        → find (is_wrong (length m.components) used) g.wants ≡ o → NextOrFault m s used g
    by_wrong may (Some w) e = inr (
      Number w.comp (expected_after (used w.comp.0)),
      (may, lowest_wrong m used g.wants w rising e, refl),
    )
    by_wrong may None e =
        elim (parties_decided m g.inter.0 g.wants valid.so_far) [
          | inl parties ↦ elim (cover_decided m s g.inter.0 g.wants valid.so_far) [
            | inl covered ↦ inl (next_from_tests m s used g valid may e
                (record { parties = parties; covered = covered }))
            | inr bare ↦ inr (
              Parties,
              (
                may,
                none_wrong m used g.wants e,
                λ enough. bare enough.covered,
              ),
            )
          ]
          | inr some ↦ inr (
            Parties,
            (
              may,
              none_wrong m used g.wants e,
              λ enough. some enough.parties,
            ),
          )
        ]

-- a grant with a fault isn't next
pub not_next : (m : System) (s : State) (used : ℕ → ℕ) (g : Grant) (fault : StepFault)
    → IsFaultOf m s used g fault → IsNext m s used g → ⊥
not_next m s used g NotEnabled why next = why next.may.enabled
not_next m s used g (Below b) why next = next.may.clear b.0 why.1.above why.1.enabled
not_next m s used g (Number c expected) why next = let at = why.1.wrong in let has =
    next.numbers at.0 at.1 at.2 in grind arith
not_next m s used g Parties why next = why.2 (record {
  parties = next.parties;
  covered = next.covered;
})

-- what can be next where grants lead goes on from them
pub run_on : (m : System) (base : ℕ) (gs : List Grant) (p : Standing) (g : Grant)
    → StandsAfter m base gs p → IsNextAt p g → IsModelRun m base (gs ++ g ∷ [])
run_on m base gs p g leads next =
    IsRunFrom-push m (start_of m) (λ _. base) gs g leads.run
    (subst (λ (q : Standing). IsNextAt q g) leads.there next)

-- one grant more leads where it leads from there
one_more_leads : (m : System) (base : ℕ) (gs : List Grant) (g : Grant)
    → standing_on (standing_after m base gs) g ≡ standing_after m base (gs ++ g ∷ [])
one_more_leads m base gs g =
    ap (λ (s : State). record {
      model = m;
      base = base;
      state = s;
      used = raised (used_after base gs) g.wants;
    }) (sym (end_of-push m (start_of m) gs g))
    ∙ ap (λ (u : ℕ → ℕ). record {
      model = m;
      base = base;
      state = state_after m (gs ++ g ∷ []);
      used = u;
    }) (sym (used_by-push (λ _. base) gs g))

-- the longer list leads where the grant leads
pub leads_on : (m : System) (base : ℕ) (gs : List Grant) (p q : Standing) (g : Grant)
    → StandsAfter m base gs p → IsNextAt p g → q ≡ standing_on p g
    → StandsAfter m base (gs ++ g ∷ []) q
leads_on m base gs p q g leads next on =
    record {
      run = run_on m base gs p g leads next;
      there = on ∙ (ap (λ (r : Standing). standing_on r g) leads.there
          ∙ one_more_leads m base gs g);
    }

-- a grant with a fault where grants lead doesn't go on from them
pub stays_out : (m : System) (base : ℕ) (gs : List Grant) (p : Standing) (g : Grant)
    (fault : StepFault) → StandsAfter m base gs p → IsFaultAt p g fault
    → IsModelRun m base (gs ++ g ∷ []) → ⊥
stays_out m base gs p g fault leads why run =
    not_next m (state_after m gs) (used_after base gs) g fault
    (subst (λ (q : Standing). IsFaultAt q g fault) leads.there why)
    (next_at m base gs [] g run)

-- where a run stands after a grant
pub stands_on : (p : Standing) (t : State) (u : ℕ → ℕ) (g : Grant)
    → t ≡ after p.model p.state g.inter.0 → u ≡ raised p.used g.wants
    → standing_on p g ≡ record { model = p.model; base = p.base; state = t; used = u }
stands_on p t u g e f = rw (e, f) refl

-- grants of which so many were taken, and the next one
pub taken : (all done : List Grant) (g : Grant) → map (λ y. y) done ≡ take (length done) all
    → length done < length all → g ≡ get_or all (length done) g
    → all ≡ done ++ g ∷ drop (suc (length done)) all
taken all done g so_far within is =
    sym (take-append-drop (length done) all)
    ∙ ap₂ (λ (front rest : List Grant). front ++ rest) (sym so_far ∙ map-id done)
    (drop-cons all (length done) g within
    ∙ ap (λ (x : Grant). x ∷ drop (suc (length done)) all) (sym is))
