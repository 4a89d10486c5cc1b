-- Walks: grants that are drawn one after another from the model's start.
use Rattle.std.specs.Prelude.{◌≡◌, ◌<◌, ◌≤◌, ◌%◌, ◌++◌, ◌∷◌, Bool, Err, List, [], Ok, Result, Some}
use Rattle.std.specs.Prelude.{false, length, slice_get, true, ℕ, ⊤}
use Rattle.std.specs.declared.alloc.AllocError.{AllocError}
use Rattle.rand_pcg.specs.Lcg.{Lcg}
use Rattle.rand_pcg.specs.Pcg.{pcg32}
use Rattle.bip_model.specs.declared.grants.Grant.{Grant}
use Rattle.bip_model.specs.declared.numbering.InterId.{InterId}
use Rattle.bip_model.specs.declared.parts.System.{System}
use Rattle.bip_replay.specs.Book.{Content}
use Rattle.bip_replay.specs.Runs.{Standing, standing_after}
use Rattle.bip_walk.specs.Chance.{generator_of}
use Rattle.bip_walk.specs.Choices.{TellDrawable, AreDrawable, CanBeDrawn, IsFullGrant}

-- the grant of a word where a run stands: of the interactions that can be drawn it takes the one
-- whose place is the word modulo their count
pub record IsGrantDrawn (p : Standing) (word : ℕ) (g : Grant) : Type 0 where
  pub list : List InterId
  pub are : AreDrawable p list
  pub at : slice_get list (word % length list) ≡ Some g.inter
  pub full : IsFullGrant p g.inter.0 g

-- grants that a generator draws from the model's start on, and the generator then: none; or one
-- more, that of the generator's next word where those before it lead
pub data AreWalked (start : Lcg) (m : System) (base : ℕ) : List Grant → Lcg → Type 0 where
  none_walked : AreWalked start m base [] start
  one_walked : (gs : List Grant) (words : Lcg) (g : Grant) → AreWalked start m base gs words
      → IsGrantDrawn (standing_after m base gs) (pcg32 words).0 g
      → AreWalked start m base (gs ++ g ∷ []) (pcg32 words).1

-- nothing can be drawn
abbrev pub NoneIsDrawable : Standing → Type 0
NoneIsDrawable p = (a : ℕ) → ¬ CanBeDrawn p a

-- the walk of a seed: so many grants, or fewer where nothing can be drawn behind them
pub record IsWalk (m : System) (base seed count : ℕ) (gs : List Grant) : Type 0 where
  pub words : Lcg
  pub walked : AreWalked (generator_of seed) m base gs words
  pub few : length gs ≤ count
  pub ends : length gs < count → NoneIsDrawable (standing_after m base gs)

-- a book is that of the walk of a seed
pub record IsBookOfWalk (m : System) (base seed count : ℕ) (b : Content) : Type 0 where
  pub model : b.model ≡ m
  pub base_is : b.base ≡ base
  pub walk : IsWalk m base seed count b.grants

-- What contracts of private functions say.

-- of each interaction whether it can be drawn where a book's grants lead
abbrev pub TellDrawableOf : Content → List Bool → Type 0
TellDrawableOf b choices = TellDrawable (standing_after b.model b.base b.grants) choices

-- a book goes on by the grant of a word, or nothing can be drawn
abbrev pub WalksOn : Content → Lcg → Result Bool AllocError → Content → Lcg → Type 0
WalksOn b words (Ok true) after left =
    (g : Grant) × IsGrantDrawn (standing_after b.model b.base b.grants) (pcg32 words).0 g
    × (after ≡ record b { grants = b.grants ++ g ∷ [] }) × (left ≡ (pcg32 words).1)
WalksOn b words (Ok false) after left =
    NoneIsDrawable (standing_after b.model b.base b.grants) × (after ≡ b)
WalksOn b words (Err e) after left = ⊤
