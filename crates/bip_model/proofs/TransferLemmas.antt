-- The assignments of a transfer that are looked up one after another, and the places of the
-- variables that they assign to.
use Rattle.std.proofs.Common.{◌≡◌, ℕ, ◌+◌, ◌*◌, ◌<◌, Bool, true, false, ◌||◌, eqb, eqb-true, List}
use Rattle.std.proofs.Common.{[], ◌∷◌, ◌++◌, length, get_or, Option, None, Some, Ok, Err, refl, sym}
use Rattle.std.proofs.Common.{◌∙◌, arith}
use Rattle.std.specs.List.{list_any}
use Rattle.std.proofs.Math.Bool.{or-false, or-true}
use Rattle.std.proofs.Math.ListN.{replicate, set}
use Rattle.std.proofs.lemmas.List.{get_or-replicate, get_or-set_other, length-replicate, length-set}
use Rattle.std.proofs.lemmas.Grind.{get_or-set_at}
use Rattle.std.proofs.lemmas.List.Folds.{list_any-append}
use Rattle.std.proofs.lemmas.Bool.Decides.{nat_tests}
use Rattle.bip_model.specs.Expressions.{is_same}
use Rattle.bip_model.specs.Scopes.{knows_sum, transfer_said, variable_of}
use Rattle.bip_model.specs.declared.expressions.Assignment.{Assignment}
use Rattle.bip_model.specs.declared.expressions.Variable.{Variable}
use Rattle.bip_model.specs.declared.faults.BuildFault.TheVariants.{Twice, Unknown}
use Rattle.bip_model.specs.declared.scopes.VariableName.{VariableName}

-- the place of a variable among all that participants can have
abbrev pub place_of : Variable → ℕ
place_of v = v.owner * 8 + v.number.0

-- a variable of a participant
pub record IsPlaced (v : Variable) : Type 0 where
  pub owner : v.owner < 64
  pub number : v.number.0 < 8

-- whether a variable is assigned to by one of these
abbrev pub is_assigned : (VariableName → Option Variable) → List (Assignment VariableName)
    → Variable → Bool
is_assigned find before v = list_any (λ (b : Assignment VariableName). is_same
    (variable_of find b.target) v) before

-- of a transfer's assignments those before the rest have no fault, and the places of their targets
-- are marked
pub record IsCheckedSoFar (find : VariableName → Option Variable)
    (whole rest : List (Assignment VariableName)) (targets : List Bool) : Type 0 where
  pub before : List (Assignment VariableName)
  pub room : length targets ≡ 512
  pub marked : (v : Variable) → IsPlaced v → get_or targets (place_of v) false
      ≡ is_assigned find before v
  pub said : transfer_said find [] whole ≡ transfer_said find before rest

same_place : (v w : Variable) → IsPlaced v → IsPlaced w
    → is_same v w ≡ eqb (place_of v) (place_of w)
same_place v w at_v at_w = grind (
  arith,
  nat_tests,
  at_v.owner,
  at_v.number,
  at_w.owner,
  at_w.number,
)

-- what is marked once another place is
mark : (targets : List Bool) (i j : ℕ) → i < length targets
    → get_or (set targets i true) j false ≡ (get_or targets j false || eqb i j)
mark targets i j within = by_test (eqb i j) refl
  where
    by_test : (b : Bool) → eqb i j ≡ b → get_or (set targets i true) j false
        ≡ (get_or targets j false || b)
    by_test true e = get_or-set_at targets i j true false (sym (eqb-true i j e)) within
        ∙ sym (or-true (get_or targets j false))
    by_test false e = get_or-set_other targets i j true false (grind (arith, nat_tests))
        ∙ sym (or-false (get_or targets j false))

module _ (find : VariableName → Option Variable) (whole : List (Assignment VariableName)) where
  pub none_checked : IsCheckedSoFar find whole whole (replicate 512 false)
  none_checked = record {
    before = [];
    room = length-replicate 512 false;
    marked = λ v at. get_or-replicate 512 (place_of v) false false
        (omega (arith, at.owner, at.number));
    said = refl;
  }

  pub all_checked : (targets : List Bool) (rest : List (Assignment VariableName))
      → IsCheckedSoFar find whole rest targets → rest ≡ [] → transfer_said find [] whole ≡ Ok tt
  all_checked targets rest h none = h.said ∙ rw none refl

  module _ (a : Assignment VariableName) (rest whole_rest : List (Assignment VariableName))
      (targets : List Bool) (h : IsCheckedSoFar find whole whole_rest targets)
      (is : whole_rest ≡ a ∷ rest) where
    -- the next target isn't known
    pub target_unknown : find a.target ≡ None → transfer_said find [] whole ≡ Err Unknown
    target_unknown none = h.said ∙ rw (is, none) refl

    module _ (target : Variable) (known : find a.target ≡ Some target) (at : IsPlaced target) where
      assigned : (b : Bool) → get_or targets (place_of target) false ≡ b
          → is_assigned find h.before target ≡ b
      assigned b e = sym (h.marked target at) ∙ e

      -- it was assigned to before
      pub target_twice : get_or targets (place_of target) false ≡ true
          → transfer_said find [] whole ≡ Err Twice
      target_twice twice = h.said ∙ rw (is, known, assigned true twice) refl

      -- a name of its sum isn't known
      pub sum_unknown : get_or targets (place_of target) false ≡ false
          → knows_sum find a.sum ≡ false → transfer_said find [] whole ≡ Err Unknown
      sum_unknown once unknown = h.said ∙ rw (is, known, assigned false once, unknown) refl

      pub one_more_checked : get_or targets (place_of target) false ≡ false
          → knows_sum find a.sum ≡ true → IsCheckedSoFar find whole rest
          (set targets (place_of target) true)
      one_more_checked once sum_known = record {
        before = h.before ++ a ∷ [];
        room = length-set targets (place_of target) true ∙ h.room;
        marked = λ v at_v.
            let within : place_of target < length targets =
            omega (arith, at.owner, at.number, h.room) in
            let p : Assignment VariableName → Bool = λ b. is_same (variable_of find b.target) v in
            mark targets (place_of target) (place_of v) within
            ∙ rw (
              h.marked v at_v,
              ← same_place target v at at_v,
              list_any-append p h.before (a ∷ []),
              known,
              or-false (is_same target v),
            ) refl;
        said = h.said ∙ rw (is, known, assigned false once, sum_known) refl;
      }
