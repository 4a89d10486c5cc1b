-- What stands in front of the words of a line that are left.
use Rattle.std.proofs.Common.{◌≡◌, ℕ, ◌≤◌, ◌||◌, not, Bool, true, false, List, [], ◌∷◌, ◌++◌}
use Rattle.std.proofs.Common.{length, refl, sym, ap, ◌∙◌, subst, append_assoc, drop, length-append}
use Rattle.std.proofs.Common.{arith}
use Rattle.std.specs.List.{list_any}
use Rattle.std.specs.Prelude.{IsTrue}
use Rattle.std.proofs.lemmas.Bool.{false≢true}
use Rattle.bip_model.specs.Texts.{words}
use Rattle.bip_explain.specs.Limits.{are_head, begins_list}
use Rattle.bip_explain.specs.Placed.{IsPlacedOn}
use Rattle.bip_explain.specs.Schedules.{name_interaction, name_station}
use Rattle.bip_explain.specs.declared.placed.Placed.{Placed}
use Rattle.bip_explain.proofs.LimitLemmas.{any_more}
use Rattle.bip_explain.proofs.PlacedLemmas.{stands_behind}

-- words of this kind stand in front of those that are left
pub record IsLeft (AreSuch : List (List ℕ) → Type 0) (line : List ℕ)
    (left : List (List ℕ)) : Type 0 where
  pub front : List (List ℕ)
  pub such : AreSuch front
  pub split : words line ≡ front ++ left

-- one word more
pub left_more : (P Q : List (List ℕ) → Type 0) (line word : List ℕ) (left new : List (List ℕ))
    → ((front : List (List ℕ)) → P front → Q (front ++ word ∷ [])) → IsLeft P line left
    → left ≡ word ∷ new → IsLeft Q line new
left_more P Q line word left new closed so is = record {
  front = so.front ++ word ∷ [];
  such = closed so.front so.such;
  split = so.split ∙ rw is (simp append_assoc);
}

-- what stands in front of a word that is taken
pub left_there : (P : List (List ℕ) → Type 0) (line : List ℕ) (placed : Placed) (rest : List ℕ)
    (left : List (List ℕ)) → IsLeft P line left → left ≡ placed.word.now ∷ words rest
    → (at : IsPlacedOn line placed) → words at.behind ≡ words rest → P at.front
left_there P line placed rest left so is at same =
    subst P (sym (stands_behind line placed so.front left rest so.split is at same)) so.such

-- two words or more
abbrev pub AreTwo : List (List ℕ) → Type 0
AreTwo front = 2 ≤ length front

pub two_more : (word : List ℕ) (front : List (List ℕ)) → AreTwo front → AreTwo (front ++ word ∷ [])
two_more word front two = omega (arith, length-append front (word ∷ []))

-- and whether a word behind them names a participant
pub record HeadSo (is_head : Bool) (front : List (List ℕ)) : Type 0 where
  pub two : AreTwo front
  pub so : are_head front ≡ is_head

pub head_first : (first second : List ℕ) → HeadSo true (first ∷ second ∷ [])
head_first first second = record { two = omega arith; so = refl }

pub head_word : (h : Bool) (word : List ℕ) → begins_list word ≡ false → (front : List (List ℕ))
    → HeadSo h front → HeadSo h (front ++ word ∷ [])
head_word h word none [] is = absurd (omega (arith, is.two))
head_word h word none (a ∷ []) is = absurd (omega (arith, is.two))
head_word h word none (a ∷ b ∷ more) is = record {
  two = two_more word (a ∷ b ∷ more) is.two;
  so = ap not (any_more begins_list more word
      ∙ (ap (λ t. list_any begins_list more || t) none ∙ by_test (list_any begins_list more)))
      ∙ is.so;
}
  where
    by_test : (t : Bool) → (t || false) ≡ t
    by_test true = refl
    by_test false = refl

pub head_ends : (h : Bool) (word : List ℕ) → begins_list word ≡ true → (front : List (List ℕ))
    → HeadSo h front → HeadSo false (front ++ word ∷ [])
head_ends h word begins [] is = absurd (omega (arith, is.two))
head_ends h word begins (a ∷ []) is = absurd (omega (arith, is.two))
head_ends h word begins (a ∷ b ∷ more) is = record {
  two = two_more word (a ∷ b ∷ more) is.two;
  so = ap not (any_more begins_list more word
      ∙ (ap (λ t. list_any begins_list more || t) begins ∙ by_test (list_any begins_list more)));
}
  where
    by_test : (t : Bool) → (t || true) ≡ true
    by_test true = refl
    by_test false = refl

-- the word in front of the second one
pub one_before : (ws : List (List ℕ)) (word : List ℕ) (rest : List (List ℕ))
    → drop 1 ws ≡ word ∷ rest → (first : List ℕ) × (ws ≡ (first ∷ []) ++ word ∷ rest)
one_before [] word rest is = cc
one_before (first ∷ ws) word rest is = (first, ap (λ (us : List (List ℕ)). first ∷ us) is)

-- words in front of one that names a station, with one more
abbrev pub NameStations : List (List ℕ) → Type 0
NameStations front = IsTrue (name_station front)

pub stations_more : (word : List ℕ) (front : List (List ℕ)) → NameStations front
    → NameStations (front ++ word ∷ [])
stations_more word [] named = absurd (false≢true named)
stations_more word (verb ∷ more) named = named

-- where a station is named so is an interaction
pub station_named : (front : List (List ℕ)) → name_station front ≡ true
    → name_interaction front ≡ true
station_named [] named = named
station_named (verb ∷ []) named = named
station_named (verb ∷ class ∷ []) named = refl
station_named (verb ∷ class ∷ inter ∷ more) named = named
