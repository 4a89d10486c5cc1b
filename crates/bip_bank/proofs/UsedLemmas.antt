-- Used numbers above a base: what rows say of them, what a decision by rows is above the base, and
-- what
-- a grant leaves.
use Rattle.std.proofs.Common.{◌≡◌, ◌<◌, ℕ, Bool, true, false, cond, max, List, [], ◌∷◌, map, get_or}
use Rattle.std.proofs.Common.{refl, sym, ap, ◌∙◌, inl, inr, arith}
use Rattle.std.proofs.Math.Path.{fun_ext}
use Rattle.std.specs.Prelude.{All, IsTrue}
use Rattle.std.proofs.lemmas.Bool.{false≢true, ne_eqb}
use Rattle.std.proofs.lemmas.Bool.Decides.{eqb_tells}
use Rattle.std.proofs.lemmas.List.Elements.{All-contains, All-head, All-tail}
use Rattle.bip_model.specs.Wants.{IsFresh, moved_in, raised}
use Rattle.bip_model.specs.declared.numbering.CompId.{CompId}
use Rattle.bip_model.specs.declared.wants.Want.{Want}
use Rattle.bip_table.specs.Reservations.{IsDecision, IsUsedUp}
use Rattle.bip_table.specs.Rows.{has_row, rows_of, used_at}
use Rattle.bip_table.specs.declared.reservations.Decision.TheVariants.{Granted, Refused}
use Rattle.bip_table.specs.declared.reservations.Decision.{Decision}
use Rattle.bip_table.specs.declared.rows.Row.{Row}
use Rattle.bip_bank.specs.Banks.{used_above}

-- each wanted component has a row
abbrev pub HaveRows : List Row → List Want → Type 0
HaveRows rows wants = All (λ (w : Want). IsTrue (has_row rows w.comp.0)) wants

-- wants that all have rows don't move a component without one
unmoved : (rows : List Row) (wants : List Want) (c : ℕ) → HaveRows rows wants
    → has_row rows c ≡ false → moved_in wants c ≡ 0
unmoved rows [] c all out = refl
unmoved rows (w ∷ ws) c all out =
    let row : has_row rows w.comp.0 ≡ true = All-head
    (λ (v : Want). IsTrue (has_row rows v.comp.0)) w ws all in
    rw (ne_eqb w.comp.0 c (λ e. false≢true (sym out ∙ (ap (has_row rows) (sym e) ∙ row))))
    (unmoved rows ws c (All-tail (λ (v : Want). IsTrue (has_row rows v.comp.0)) w ws all) out)

-- a grant uses up its moved numbers, above a base as in rows
pub above_raised : (base : ℕ) (rows later : List Row) (wants : List Want) → HaveRows rows wants
    → has_row later ≡ has_row rows → used_at later ≡ raised (used_at rows) wants
    → used_above base later ≡ raised (used_above base rows) wants
above_raised base rows later wants all same used = fun_ext (λ k.
    ap (λ (b : Bool). cond b (used_at later k) base) (ap (λ (f : ℕ → Bool). f k) same)
    ∙ (ap (λ (n : ℕ). cond (has_row rows k) n base) (ap (λ (f : ℕ → ℕ). f k) used)
    ∙ by_row k (has_row rows k) refl))
  where
    by_row : (k : ℕ) (b : Bool) → has_row rows k ≡ b
        → cond b (max (used_at rows k) (moved_in wants k)) base ≡ max (cond b (used_at rows k) base)
        (moved_in wants k)
    by_row k true is = refl
    by_row k false is = omega (arith, unmoved rows wants k all is)

-- what has a row has the used number that this says
at_row : (base : ℕ) (rows : List Row) (c : ℕ) → has_row rows c ≡ true
    → used_above base rows c ≡ used_at rows c
at_row base rows c row = rw row refl

pub fresh_above : (base : ℕ) (rows : List Row) (wants : List Want) → HaveRows rows wants
    → IsFresh (used_at rows) wants → IsFresh (used_above base rows) wants
fresh_above base rows wants all fresh = λ k d within.
    rw (at_row base rows (get_or wants k d).comp.0 (all k d within)) (fresh k d within)

-- a decision by rows is one by the used numbers above a base
pub decision_above : (base : ℕ) (rows : List Row) (wants : List Want) (d : Decision)
    → HaveRows rows wants → IsDecision (used_at rows) wants d
    → IsDecision (used_above base rows) wants d
decision_above base rows wants (Granted serial) all fresh = fresh_above base rows wants all fresh
decision_above base rows wants (Refused c n) all refused = (
  record {
    here = there c.0 refused.0.here;
    lower = λ k below used. refused.0.lower k below (back k used);
  },
  refused.1 ∙ sym (at_row base rows c.0 (wanted_row c.0 refused.0.here)),
)
  where
    wanted_row : (k : ℕ) → IsUsedUp (used_at rows) wants k → has_row rows k ≡ true
    wanted_row k used =
        let row : has_row rows used.1.comp.0 ≡ true =
        All-contains (λ (w : Want). IsTrue (has_row rows w.comp.0)) wants used.1 all
        (used.0, used.2, used.3) in
        ap (has_row rows) (sym used.4.0) ∙ row

    there : (k : ℕ) → IsUsedUp (used_at rows) wants k → IsUsedUp (used_above base rows) wants k
    there k used = (
      used.0,
      used.1,
      used.2,
      used.3,
      (used.4.0, omega (arith, used.4.1, at_row base rows k (wanted_row k used))),
    )

    back : (k : ℕ) → IsUsedUp (used_above base rows) wants k → IsUsedUp (used_at rows) wants k
    back k used =
        let row : has_row rows used.1.comp.0 ≡ true =
        All-contains (λ (w : Want). IsTrue (has_row rows w.comp.0)) wants used.1 all
        (used.0, used.2, used.3) in (
          used.0,
          used.1,
          used.2,
          used.3,
          (
            used.4.0,
            omega (arith, used.4.1, at_row base rows k (ap (has_row rows) (sym used.4.0) ∙ row)),
          ),
        )

-- what is refused isn't fresh
pub refused_stale : (used : ℕ → ℕ) (wants : List Want) (c : CompId) (n : ℕ)
    → IsDecision used wants (Refused c n) → ¬ IsFresh used wants
refused_stale used wants c n refused fresh =
    let at = refused.0.here in
    let above = All-contains (λ (w : Want). used w.comp.0 < w.number) wants at.1 fresh
    (at.0, at.2, at.3) in
    let same : used at.1.comp.0 ≡ used c.0 = ap used at.4.0 in
    omega (arith, above, at.4.1, same)

-- rows with the base say nothing else
pub used_first : (base : ℕ) (list : List CompId) (c : ℕ)
    → has_row (rows_of (map (λ (d : CompId). (d, base)) list)) c ≡ true
    → used_at (rows_of (map (λ (d : CompId). (d, base)) list)) c ≡ base
used_first base [] c row = cc
used_first base (d ∷ ds) c row = elim (eqb_tells d.0 c) [
  | inl same ↦ rw same.0 refl
  | inr other ↦
      rw other.0 (used_first base ds c (rw other.0 at row))
]

pub above_first : (base : ℕ) (list : List CompId)
    → used_above base (rows_of (map (λ (d : CompId). (d, base)) list)) ≡ (λ c. base)
above_first base list = fun_ext (λ k. by_row k
    (has_row (rows_of (map (λ (d : CompId). (d, base)) list)) k) refl)
  where
    by_row : (k : ℕ) (b : Bool) → has_row (rows_of (map (λ (d : CompId). (d, base)) list)) k ≡ b
        → cond b (used_at (rows_of (map (λ (d : CompId). (d, base)) list)) k) base ≡ base
    by_row k true is = used_first base list k is
    by_row k false is = refl
