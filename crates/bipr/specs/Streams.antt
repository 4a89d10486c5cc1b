-- What becomes of a text that is put on a stream.
use Rattle.std.specs.Prelude.{◌≡◌, ℕ, All, Bool, false, true, List, [], ◌∷◌, ◌++◌, map}

-- a text is put on a stream, and is out or not: an empty one is no write, any other is one
pub data Puts {S : Type 0} (writes : S → List ℕ → Bool → S → Type 0) (before after : S) :
    List ℕ → Bool → Type 0 where
  nothing : after ≡ before → Puts writes before after [] true
  one : (byte : ℕ) (bytes : List ℕ) (is_out : Bool) → writes before (byte ∷ bytes) is_out after
      → Puts writes before after (byte ∷ bytes) is_out

-- a text that was put on a stream, and whether it is out
pub record Put : Type 0 where
  pub text : List ℕ
  pub is_out : Bool

-- texts are put on a stream one after another, each out or not
pub data PutsEach {S : Type 0} (writes : S → List ℕ → Bool → S → Type 0) (before : S) :
    List Put → S → Type 0 where
  none_put : PutsEach writes before [] before
  one_put : (puts : List Put) (put : Put) (middle after : S)
      → PutsEach writes before puts middle → Puts writes middle after put.text put.is_out
      → PutsEach writes before (puts ++ put ∷ []) after

-- the texts that were put
abbrev pub texts : List Put → List (List ℕ)
texts puts = map (λ (put : Put). put.text) puts

-- all of them are out
abbrev pub AreOut : List Put → Type 0
AreOut puts = All (λ (put : Put). put.is_out ≡ true) puts

-- all of them are out but the last one
pub record IsLastUnheard (puts : List Put) : Type 0 where
  pub front : List Put
  pub text : List ℕ
  pub heard : AreOut front
  pub whole : puts ≡ front ++ record { text = text; is_out = false } ∷ []
