-- Lemmas on where words are cut, and on what they are.
use Rattle.std.proofs.Common.{◌≡◌, ℕ, ◌+◌, ◌<◌, List, [], ◌∷◌, ◌++◌, length, take, Option, None}
use Rattle.std.proofs.Common.{Some, refl, ◌∙◌, sym, append_assoc, append-nil, arith, length-append}
use Rattle.std.specs.Option.{option_map}
use Rattle.std.proofs.Math.Seq.{take-append_seam}
use Rattle.std.specs.Prelude.{is_some, IsSome, unwrap_or}
use Rattle.std.specs.List.{list_all}
use Rattle.bip_model.specs.Words.{cut_at, each_of}

-- a cut, with words in front
abbrev pub after_words : {M : Type 0} → List (List ℕ) → Option (List (List ℕ) × M × List (List ℕ))
    → Option (List (List ℕ) × M × List (List ℕ))
after_words front cut = option_map (λ c. (front ++ c.0, c.1, c.2)) cut

after_nothing : {M : Type 0} (cut : Option (List (List ℕ) × M × List (List ℕ)))
    → cut ≡ after_words [] cut
after_nothing None = refl
after_nothing (Some c) = refl

after_more : {M : Type 0} (front : List (List ℕ)) (word : List ℕ)
    (cut : Option (List (List ℕ) × M × List (List ℕ)))
    → after_words front (option_map (λ c. (word ∷ c.0, c.1, c.2)) cut) ≡ after_words
    (front ++ word ∷ []) cut
after_more front word None = refl
after_more front word (Some c) = rw (append_assoc front (word ∷ []) c.0) refl

-- words in front, so many, have no such mark
pub record IsCutSoFar {M : Type 0} (f : List ℕ → Option M) (whole rest : List (List ℕ))
    (count : ℕ) : Type 0 where
  pub front : List (List ℕ)
  pub parts : whole ≡ front ++ rest
  pub counted : count ≡ length front
  pub same : cut_at f whole ≡ after_words front (cut_at f rest)

module _ {M : Type 0} (f : List ℕ → Option M) (whole rest : List (List ℕ)) where
  pub none_cut : rest ≡ whole → IsCutSoFar f whole rest 0
  none_cut is = record {
    front = [];
    parts = sym is;
    counted = refl;
    same = rw is (after_nothing (cut_at f whole));
  }

  pub one_more : (count : ℕ) (word : List ℕ) (after : List (List ℕ)) → IsCutSoFar f whole rest count
      → rest ≡ word ∷ after → f word ≡ None → IsCutSoFar f whole after (count + 1)
  one_more count word after h is no_mark = record {
    front = h.front ++ word ∷ [];
    parts = rw (append_assoc h.front (word ∷ []) after) (rw is at h.parts);
    counted = omega (arith, h.counted, length-append h.front (word ∷ []));
    same = h.same ∙ rw is (rw no_mark (after_more h.front word (cut_at f after)));
  }

  pub cut_here : (count : ℕ) (word : List ℕ) (mark : M) (after : List (List ℕ))
      → IsCutSoFar f whole rest count → rest ≡ word ∷ after → f word ≡ Some mark
      → cut_at f whole ≡ Some (take count whole, mark, after)
  cut_here count word mark after h is marks =
      let front : take count whole ≡ h.front =
      rw (h.parts, h.counted) (take-append_seam h.front rest) in
      h.same ∙ rw is (rw (marks, front, append-nil) refl)

  pub uncut : (count : ℕ) → IsCutSoFar f whole rest count → rest ≡ [] → cut_at f whole ≡ None
  uncut count h is = h.same ∙ rw is refl

  pub shorter : (count : ℕ) (word : List ℕ) (after : List (List ℕ)) → IsCutSoFar f whole rest count
      → rest ≡ word ∷ after → length after < length whole
  shorter count word after h is =
      let longer : length rest ≡ length after + 1 = rw is (omega arith) in
      let all : length whole ≡ length h.front + length rest =
      rw h.parts (length-append h.front rest) in
      omega arith

  pub within : (count : ℕ) → IsCutSoFar f whole rest count → count + length rest ≡ length whole
  within count h = let all : length whole ≡ length h.front + length rest =
      rw h.parts (length-append h.front rest) in omega (arith, h.counted)

-- whether all things are something, and whether each is by itself
pub all_are_each : {A B : Type 0} (f : A → Option B) (xs : List A)
    → is_some (each_of f xs) ≡ list_all (λ x. is_some (f x)) xs
all_are_each f [] = refl
all_are_each f (x ∷ rest) = let later = all_are_each f rest in grind arith

-- there are as many as there were things
pub as_many : {A B : Type 0} (f : A → Option B) (xs : List A) (ys : List B) → each_of f xs ≡ Some ys
    → length ys ≡ length xs
as_many f [] ys e = grind arith
as_many f (x ∷ rest) ys e = grind (arith, as_many f rest)

-- what things are, after_words what those before are
abbrev pub each_behind : {A B : Type 0} → (A → Option B) → List B → List A → Option (List B)
each_behind f before xs = option_map (λ ys. before ++ ys) (each_of f xs)

-- one more thing is something
pub one_more_read : {A B : Type 0} (f : A → Option B) (before : List B) (x : A) (xs : List A)
    (y : B) (whole : Option (List B)) → each_behind f before (x ∷ xs) ≡ whole → f x ≡ Some y
    → each_behind f (before ++ y ∷ []) xs ≡ whole
one_more_read {A} {B} f before x xs y whole is said = by_rest (each_of f xs) refl
  where
    by_rest : (rest : Option (List B)) → each_of f xs ≡ rest
        → each_behind f (before ++ y ∷ []) xs ≡ whole
    by_rest None e = rw e (rw (said, e) at is)
    by_rest (Some ys) e = rw (e, append_assoc before (y ∷ []) ys) (rw (said, e) at is)

-- things that are lent are as many as their words
pub lent_as_many : {A B : Type 0} (f : A → Option B) (xs : List A) → IsSome (each_of f xs)
    → length (unwrap_or (each_of f xs) []) ≡ length xs
lent_as_many {A} {B} f xs some = by_read (each_of f xs) refl some
  where
    by_read : (o : Option (List B)) → each_of f xs ≡ o → IsSome o
        → length (unwrap_or o []) ≡ length xs
    by_read None e some' = cc
    by_read (Some ys) e some' = as_many f xs ys e
