-- Runs of a model with exact numbers: which grant may come next, what a list of grants leads to,
-- and where a run stands.
use Rattle.std.specs.Prelude.{All, Bool, IsTrue, List, [], map}
use Rattle.std.specs.Prelude.{nat_lt, not, slice_index_or, ℕ, ⊤, ◌&&◌, ◌+◌, ◌<◌, ◌==◌, ◌∷◌}
use Rattle.std.specs.Prelude.{◌≡◌, ◌≤◌}
use Rattle.bip_model.specs.Grants.{used_by}
use Rattle.bip_model.specs.States.{State, state_of}
use Rattle.bip_model.specs.Steps.{MayRun, after, end_of, start_of}
use Rattle.bip_model.specs.Numbering.{last_number}
use Rattle.bip_model.specs.Parties.{AreParties, CoverAbove}
use Rattle.bip_model.specs.Wants.{is_moved, raised}
use Rattle.bip_model.specs.declared.grants.Grant.{Grant}
use Rattle.bip_model.specs.declared.wants.Want.{Want}
use Rattle.bip_model.specs.declared.parts.System.{System}
use Rattle.bip_model.specs.declared.states.LocalState.{LocalState}

-- a want has the number of its component's next move: one above the used number, where there is one
pub record HasNextNumber (used : ℕ → ℕ) (w : Want) : Type 0 where
  pub next : w.number ≡ used w.comp.0 + 1
  pub fits : w.number ≤ last_number

-- wants of an interaction are enough in a state: they are of its parties, and cover what is above
-- it there
pub record AreEnough (m : System) (s : State) (a : ℕ) (wants : List Want) : Type 0 where
  pub parties : AreParties m a wants
  pub covered : CoverAbove m s a wants

-- a grant may come next in a state, after the used numbers
pub record IsNext (m : System) (s : State) (used : ℕ → ℕ) (g : Grant) : Type 0 where
  pub may : MayRun m s g.inter.0
  pub numbers : All (HasNextNumber used) g.wants
  pub parties : AreParties m g.inter.0 g.wants
  pub covered : CoverAbove m s g.inter.0 g.wants

-- grants, each of which may come next where those before it lead
abbrev pub IsRunFrom : System → State → (ℕ → ℕ) → List Grant → Type 0
IsRunFrom m s used [] = ⊤
IsRunFrom m s used (g ∷ gs) =
    IsNext m s used g × IsRunFrom m (after m s g.inter.0) (raised used g.wants) gs

-- grants that are a run of the model from its start, with exact numbers above a base
abbrev pub IsModelRun : System → ℕ → List Grant → Type 0
IsModelRun m base gs = IsRunFrom m (start_of m) (λ _. base) gs

-- the interactions of grants
abbrev pub interactions_of : List Grant → List ℕ
interactions_of gs = map (λ (g : Grant). g.inter.0) gs

-- the state to which grants lead
abbrev pub state_after : System → List Grant → State
state_after m gs = end_of m (start_of m) (interactions_of gs)

-- the used numbers to which grants lead from a base
abbrev pub used_after : ℕ → List Grant → ℕ → ℕ
used_after base gs = used_by (λ _. base) gs

-- where a run of a model stands, whose numbers are above a base
pub record Standing : Type 0 where
  pub model : System
  pub base : ℕ
  pub state : State
  pub used : ℕ → ℕ

-- what a position keeps of it, component by component
pub record Kept : Type 0 where
  pub model : System
  pub base : ℕ
  pub locals : List LocalState
  pub used : List ℕ

-- where a run stands by what is kept; a component that isn't kept has used nothing above the base
abbrev pub standing_of : Kept → Standing
standing_of p =
    record {
      model = p.model;
      base = p.base;
      state = state_of p.locals;
      used = λ c. slice_index_or p.used c p.base;
    }

-- where grants lead from the model's start
abbrev pub standing_after : System → ℕ → List Grant → Standing
standing_after m base gs =
    record { model = m; base = base; state = state_after m gs; used = used_after base gs }

-- where a grant leads
abbrev pub standing_on : Standing → Grant → Standing
standing_on p g = record p { state = after p.model p.state g.inter.0; used = raised p.used g.wants }

-- a grant may come next
abbrev pub IsNextAt : Standing → Grant → Type 0
IsNextAt p g = IsNext p.model p.state p.used g

-- no interaction may run in a state
abbrev pub NothingMayRun : System → State → Type 0
NothingMayRun m s = (a : ℕ) → ¬ MayRun m s a

-- these grants are a run above the base, and lead here
pub record StandsAfter (m : System) (base : ℕ) (gs : List Grant) (p : Standing) : Type 0 where
  pub run : IsModelRun m base gs
  pub there : p ≡ standing_after m base gs

-- What contracts of private functions say.

-- whether a want has the number of its component's next move
abbrev pub has_next_number : (ℕ → ℕ) → Want → Bool
has_next_number used w = nat_lt (used w.comp.0) last_number && (used w.comp.0 + 1 == w.number)

-- whether a want is of one of so many components, and hasn't the number of its next move
abbrev pub is_wrong : ℕ → (ℕ → ℕ) → Want → Bool
is_wrong known used w = nat_lt w.comp.0 known && not (has_next_number used w)

-- the used numbers that a list keeps above a base
abbrev pub used_in : List ℕ → ℕ → ℕ → ℕ
used_in used base c = slice_index_or used c base

-- the components that wants move are among so many
abbrev pub AreMovedWithin : ℕ → List Want → Type 0
AreMovedWithin count wants =
    All (λ (w : Want). IsTrue (is_moved w.role) → w.comp.0 < count) wants
