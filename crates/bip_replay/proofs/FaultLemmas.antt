-- Faults: what the tests of a grant say.
use Rattle.std.proofs.Common.{◌≡◌, ℕ, ◌<◌, Bool, true, false, List, [], ◌∷◌, length, get_or, refl}
use Rattle.std.proofs.Common.{sym, ◌∙◌, arith, ◌⊎◌, None, Some, find}
use Rattle.std.specs.Prelude.{All, Contains, slice_get}
use Rattle.std.specs.List.{position_or_len}
use Rattle.std.specs.List.Sorted.{IsStrictlyIncreasing}
use Rattle.std.proofs.lemmas.Bool.{cases_order, lt-ltb}
use Rattle.std.proofs.lemmas.List.Elements.{All-cons, All-nil, Contains-get_or}
use Rattle.std.proofs.lemmas.List.Folds.{find_at}
use Rattle.std.proofs.lemmas.List.Quantifiers.{position-Some}
use Rattle.std.proofs.lemmas.List.Sums.{fails_before_first}
use Rattle.std.proofs.lemmas.Option.{get_or_from_slice_get, slice_get-get_or, slice_get_within}
use Rattle.bip_model.specs.declared.wants.Role.TheVariants.{Moved}
use Rattle.bip_model.specs.declared.wants.Want.{Want}
use Rattle.bip_model.specs.Parts.{IsSystem}
use Rattle.bip_model.specs.Wants.{components_of, raised}
use Rattle.bip_model.proofs.ListLemmas.{below_later}
use Rattle.bip_model.specs.declared.grants.Grant.{Grant}
use Rattle.bip_model.specs.declared.parts.System.{System}
use Rattle.bip_model.specs.States.{State}
use Rattle.bip_model.specs.Steps.{MayRun, after}
use Rattle.bip_model.specs.Parties.{AreParties}
use Rattle.bip_model.proofs.PartyLemmas.{party_known}
use Rattle.bip_replay.specs.Runs.{AreEnough, is_wrong, HasNextNumber, IsNext, IsRunFrom}
use Rattle.bip_replay.specs.Writing.{IsGrantOf}
use Rattle.bip_replay.specs.Faults.{IsLowestWrong, KnownAreRight}

-- a want that isn't wrong, of a component of the model
pub right : (m : System) (used : ℕ → ℕ) (w : Want) → is_wrong (length m.components) used w ≡ false
    → w.comp.0 < length m.components → HasNextNumber used w
right m used w test known = grind arith

-- whether a want of a component of the model is wrong, and the place of the first that is
abbrev wrong_in : System → (ℕ → ℕ) → Want → Bool
wrong_in m used = is_wrong (length m.components) used

abbrev first_wrong : System → (ℕ → ℕ) → List Want → ℕ
first_wrong m used ws = position_or_len (wrong_in m used) ws

-- the first want that is wrong is of the lowest component that is
pub lowest_wrong : (m : System) (used : ℕ → ℕ) (ws : List Want) (w : Want)
    → IsStrictlyIncreasing (components_of ws)
    → find (is_wrong (length m.components) used) ws ≡ Some w → IsLowestWrong m used ws w.comp.0
lowest_wrong m used ws w rising found =
    let i : ℕ = first_wrong m used ws in
    let at : slice_get ws i ≡ Some w = sym (find_at (wrong_in m used) ws) ∙ found in
    let here = position-Some (wrong_in m used) ws i w
    (rw (lt-ltb i (length ws) (slice_get_within ws i w at)) refl) in
    let is = get_or_from_slice_get ws i w w at in
    let wrong : wrong_in m used w ≡ true = rw is at here.1 in
    record {
      known = grind arith;
      wrong = (i, w, here.0, is, (refl, λ has. grind arith));
      lower = λ k d within below. right m used (get_or ws k d)
          (fails_before_first (wrong_in m used) ws k d
          (earlier i at k d within below (cases_order k i))) (grind arith);
    }
  where
    earlier : (i : ℕ) → slice_get ws i ≡ Some w → (k : ℕ) (d : Want) → k < length ws
        → (get_or ws k d).comp.0 < w.comp.0 → (k ≡ i) ⊎ ((k < i) ⊎ (i < k)) → k < i
    earlier i at k d within below order =
        let is = get_or_from_slice_get ws i w d at in
        let above = below_later (λ (v : Want). v.comp.0) ws rising i k d in
        grind (arith, above)

-- where no want is wrong, each of a component of the model is right
pub none_wrong : (m : System) (used : ℕ → ℕ) (ws : List Want)
    → find (is_wrong (length m.components) used) ws ≡ None → KnownAreRight m used ws
none_wrong m used ws found = λ k d within known.
    let past : k < first_wrong m used ws = grind
    (arith, find_at (wrong_in m used) ws, slice_get-get_or ws (first_wrong m used ws) d) in
    right m used (get_or ws k d) (fails_before_first (wrong_in m used) ws k d past) known

-- what a grant moves is a component of the model
pub moved_known : (m : System) (g : Grant) (w : Want) → IsSystem m → AreParties m g.inter.0 g.wants
    → Contains g.wants w → w.role ≡ Moved → w.comp.0 < length m.components
moved_known m g w valid has at moves = party_known m g.inter.0 g.wants w valid has at

-- where no want is wrong and the wants are of the parties, each is right
pub all_right : (m : System) (used : ℕ → ℕ) (g : Grant) → IsSystem m → KnownAreRight m used g.wants
    → AreParties m g.inter.0 g.wants → All (HasNextNumber used) g.wants
all_right m used g valid known has = λ k d within.
    known k d within (party_known m g.inter.0 g.wants (get_or g.wants k d) valid has
    (Contains-get_or g.wants k d within))

-- a grant of an interaction that may run, no want of which is wrong and whose wants are of the
-- parties, is next
pub next_from_tests : (m : System) (s : State) (used : ℕ → ℕ) (g : Grant) → IsSystem m
    → MayRun m s g.inter.0 → find (is_wrong (length m.components) used) g.wants ≡ None
    → AreEnough m s g.inter.0 g.wants
    → IsNext m s used g
next_from_tests m s used g valid may found has =
    record {
      may = may;
      numbers = all_right m used g valid (none_wrong m used g.wants
          found) has.parties;
      parties = has.parties;
      covered = has.covered;
    }

-- a grant that can be next is of the model, and so is each grant of a run
next_of_model : (m : System) (s : State) (used : ℕ → ℕ) (g : Grant) → IsSystem m
    → IsNext m s used g → IsGrantOf m g
next_of_model m s used g valid next = record {
  inter = rw valid.so_far.interactions_named next.may.enabled.declared;
  components = λ k d within.
      rw valid.components_named
      (party_known m g.inter.0 g.wants (get_or g.wants k d) valid next.parties
      (Contains-get_or g.wants k d within));
}

pub run_of_model : (m : System) (s : State) (used : ℕ → ℕ) (gs : List Grant) → IsSystem m
    → IsRunFrom m s used gs → All (IsGrantOf m) gs
run_of_model m s used [] valid run = All-nil (IsGrantOf m)
run_of_model m s used (g ∷ gs) valid run =
    All-cons (IsGrantOf m) g gs (next_of_model m s used g valid run.0)
    (run_of_model m (after m s g.inter.0) (raised used g.wants) gs valid run.1)
