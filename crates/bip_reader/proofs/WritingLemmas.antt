-- Lemmas on words that are written one after another.
use Rattle.std.proofs.Common.{◌≡◌, ◌<◌, ◌≤◌, ℕ, ◌+◌, false, cond, eqb, List, [], ◌∷◌, ◌++◌, length}
use Rattle.std.proofs.Common.{get_or, take, refl, ap, ◌∙◌, sym, arith, append_assoc, append-nil}
use Rattle.std.proofs.Common.{length-take-le, zero, suc}
use Rattle.std.specs.List.{flat_map, range_with_len}
use Rattle.std.proofs.lemmas.Bool.Decides.{nat_tests}
use Rattle.std.proofs.lemmas.Grind.{common_steps, flat_map-append}
use Rattle.std.proofs.lemmas.List.{take_all, take_more}
use Rattle.std.proofs.lemmas.List.Elements.{All-append, All-cons, All-nil}
use Rattle.std.specs.Prelude.{All}
use Rattle.bip_model.specs.Texts.{spaced}
use Rattle.bip_reader.specs.Writing.{line_with, words_of_list}

flat_map-push : {X A : Type 0} (f : X → List A) (xs : List X) (x : X)
    → flat_map f (xs ++ x ∷ []) ≡ flat_map f xs ++ f x
flat_map-push f xs x = flat_map-append f xs (x ∷ [])
    ∙ ap (λ (l : List _). flat_map f xs ++ l) (append-nil (f x))

module _ {P : Type 0} (first mark : List ℕ) (f : P → List (List ℕ)) where
  -- one more part
  list-push : (ps : List P) (p : P) → words_of_list first mark f (ps ++ p ∷ [])
      ≡ words_of_list first mark f ps ++ cond (eqb (length ps) 0) first mark ∷ f p
  list-push [] p = ap (λ (l : List (List ℕ)). first ∷ l) (append-nil (f p))
  list-push (q ∷ qs) p =
      let later : eqb (length (q ∷ qs)) 0 ≡ false = grind (arith, nat_tests) in
      let more = flat_map-push (λ r. mark ∷ f r) qs p in
      rw later (ap (λ (l : List (List ℕ)). first ∷ l)
      (ap (λ (l : List (List ℕ)). f q ++ l) more
      ∙ sym (append_assoc (f q) (flat_map (λ r. mark ∷ f r) qs) (mark ∷ f p))))

  -- and its words, written behind the others
  pub list_more : (front : List ℕ) (ps : List P) (i : ℕ) (d : P) → i < length ps
      → front ++ flat_map spaced (words_of_list first mark f (take (i + 1) ps))
      ≡ ((front ++ flat_map spaced (words_of_list first mark f (take i ps))) ++ spaced
      (cond (eqb i 0) first mark)) ++ flat_map spaced (f (get_or ps i d))
  list_more front ps i d within =
      let count : length (take i ps) ≡ i = length-take-le i ps (omega arith) in
      let before = words_of_list first mark f (take i ps) in
      let word = cond (eqb i 0) first mark in
      let more : words_of_list first mark f (take (i + 1) ps) ≡ before ++ word ∷ f (get_or ps i d) =
      rw (take_more ps i d within) (rw count at (list-push (take i ps) (get_or ps i d))) in
      rw (
        more,
        flat_map-append spaced before (word ∷ f (get_or ps i d)),
        append_assoc (front ++ flat_map spaced before) (spaced word)
            (flat_map spaced (f (get_or ps i d))),
        append_assoc front (flat_map spaced before)
            (spaced word ++ flat_map spaced (f (get_or ps i d))),
      ) refl

range-last : (a n j : ℕ) → a + n ≡ j → range_with_len a (suc n) ≡ range_with_len a n ++ j ∷ []
range-last a zero j e = let same : a ≡ j = omega arith in ap (λ k. k ∷ []) same
range-last a (suc n) j e = ap (λ l. a ∷ l) (range-last (a + 1) n j (omega arith))

-- what is made of the numbers below one, and of that one too
pub of_numbers_more : {A : Type 0} (f : ℕ → List A) (n : ℕ)
    → flat_map f (range_with_len 0 (n + 1)) ≡ flat_map f (range_with_len 0 n) ++ f n
of_numbers_more f n =
    let on : n + 1 ≡ suc n = omega arith in
    ap (λ k. flat_map f (range_with_len 0 k)) on ∙ ap (flat_map f) (range-last 0 n n (omega arith))
    ∙ flat_map-push f (range_with_len 0 n) n

-- a text that says something of the numbers below one, and one more line
pub more_written : (f : ℕ → List ℕ) (n : ℕ) (front text line : List ℕ)
    → text ≡ front ++ flat_map f (range_with_len 0 n) → line ≡ f n
    → text ++ line ≡ front ++ flat_map f (range_with_len 0 (n + 1))
more_written f n front text line before is = rw (before, is, of_numbers_more f n)
    (append_assoc front (flat_map f (range_with_len 0 n)) (f n))

-- a line of a first word, a name, and words in two parts
pub written_line : (front word name : List ℕ) (ws vs : List (List ℕ))
    → ((((front ++ word) ++ spaced name) ++ flat_map spaced ws) ++ flat_map spaced vs) ++ 10 ∷ []
    ≡ front ++ line_with word (name ∷ (ws ++ vs))
written_line front word name ws vs = rw (flat_map-append spaced ws vs) (grind (arith, common_steps))

-- a line of a first word, a name, and words
pub named_line : (front word name : List ℕ) (ws : List (List ℕ))
    → (((front ++ word) ++ spaced name) ++ flat_map spaced ws) ++ 10 ∷ [] ≡ front ++ line_with word
    (name ∷ ws)
named_line front word name ws = grind (arith, common_steps)

-- one more of a list that can be spelled
pub one_more : {X : Type 0} (P : X → Type 0) (xs : List X) (n : ℕ) (d : X) → n < length xs
    → All P (take n xs) → P (get_or xs n d) → All P (take (n + 1) xs)
one_more P xs n d within all is = rw (take_more xs n d within)
    (All-append P (take n xs) (get_or xs n d ∷ []) all
    (All-cons P (get_or xs n d) [] is (All-nil P)))

-- one more thing of a list, written behind those before
pub list_step : {X : Type 0} (P : X → Type 0) (f : X → List ℕ) (xs : List X) (i : ℕ) (x : X)
    (front text new : List ℕ) → i < length xs → x ≡ get_or xs i x
    → (text ≡ front ++ flat_map f (take i xs)) × All P (take i xs) → new ≡ text ++ f x → P x
    → (new ≡ front ++ flat_map f (take (i + 1) xs)) × All P (take (i + 1) xs)
list_step P f xs i x front text new within at before more is =
    let item : P (get_or xs i x) = rw (← at) is in
    let longer : flat_map f (take (i + 1) xs) ≡ flat_map f (take i xs) ++ f x =
    rw (take_more xs i x within) (flat_map-push f (take i xs) (get_or xs i x)
    ∙ ap (λ (y : _). flat_map f (take i xs) ++ f y) (sym at)) in (
      rw (more, before.0, longer) (append_assoc front (flat_map f (take i xs)) (f x)),
      one_more P xs i x within before.1 item,
    )

-- the same of things that are each some words
pub words_step : {X : Type 0} (P : X → Type 0) (g : X → List (List ℕ)) (xs : List X) (i : ℕ) (d : X)
    (front text new : List ℕ) → i < length xs
    → (text ≡ front ++ flat_map spaced (flat_map g (take i xs))) × All P (take i xs)
    → new ≡ text ++ flat_map spaced (g (get_or xs i d)) → P (get_or xs i d)
    → (new ≡ front ++ flat_map spaced (flat_map g (take (i + 1) xs))) × All P (take (i + 1) xs)
words_step P g xs i d front text new within before more is =
    let longer : flat_map g (take (i + 1) xs) ≡ flat_map g (take i xs) ++ g (get_or xs i d) =
    rw (take_more xs i d within) (flat_map-push g (take i xs) (get_or xs i d)) in
    let all = flat_map-append spaced (flat_map g (take i xs)) (g (get_or xs i d)) in (
      rw (more, before.0, longer, all) (append_assoc front
          (flat_map spaced (flat_map g (take i xs)))
          (flat_map spaced (g (get_or xs i d)))),
      one_more P xs i d within before.1 is,
    )

-- all of a list were taken
pub all_taken : {X : Type 0} (P : X → Type 0) (xs : List X) (n : ℕ) → length xs ≤ n
    → All P (take n xs) → All P xs
all_taken P xs n past all = rw (take_all n xs past) at all
