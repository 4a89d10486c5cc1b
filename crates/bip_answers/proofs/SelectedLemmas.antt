-- Words that name what is selected: one more, and the first that names nothing.
use Rattle.std.proofs.Common.{◌≡◌, ◌+◌, ◌<◌, ◌++◌, ◌∷◌, ◌∙◌, ℕ, List, [], None, Option, Some, ap}
use Rattle.std.proofs.Common.{ap₂}
use Rattle.std.proofs.Common.{arith, drop, get_or, length, map, refl, subst, suc, sym, take}
use Rattle.std.proofs.lemmas.List.{length-take-le, map-append, take-append-drop, take_more}
use Rattle.std.proofs.Common.{length-append}
use Rattle.std.proofs.Math.Seq.{drop-cons, get_or-append_seam}
use Rattle.std.specs.Borrow.{Bor}
use Rattle.bip_answers.specs.Selected.{AreFoundNames, IsFirstUnknown, IsUnknownAt, number_named}
use Rattle.bip_answers.specs.declared.selected.SelectFault.TheVariants.{Unknown}

-- the word at a place
module _ (names : List (List ℕ)) (words : List (Bor (List ℕ))) (i : ℕ) (d : Bor (List ℕ))
    (within : i < length words) where
  named_more : (numbers : List ℕ) (n : ℕ) → AreFoundNames names (take i words) numbers
      → number_named names (get_or words i d).now ≡ Some n
      → AreFoundNames names (take (i + 1) words) (numbers ++ n ∷ [])
  named_more numbers n before is =
      let f : Bor (List ℕ) → Option ℕ = λ (v : Bor (List ℕ)). number_named names v.now in
      ap (λ (vs : List (Bor (List ℕ))). map f vs) (take_more words i d within)
      ∙ map-append f (take i words) (get_or words i d ∷ [])
      ∙ ap₂ (λ (front back : List (Option ℕ)). front ++ back) before
      (ap (λ (o : Option ℕ). o ∷ []) is)
      ∙ sym (map-append (λ (number : ℕ). Some number) numbers (n ∷ []))

  pub more_named : {X : Type 0} (number : X → ℕ) (chosen : List X) (x : X)
      → AreFoundNames names (take i words) (map number chosen)
      → number_named names (get_or words i d).now ≡ Some (number x)
      → AreFoundNames names (take (i + 1) words) (map number (chosen ++ x ∷ []))
  more_named number chosen x before is =
      subst (λ (numbers : List ℕ). AreFoundNames names (take (i + 1) words) numbers)
      (sym (map-append number chosen (x ∷ [])))
      (named_more (map number chosen) (number x) before is)

  pub unknown_at : (numbers : List ℕ) → AreFoundNames names (take i words) numbers
      → number_named names (get_or words i d).now ≡ None → IsUnknownAt names words (Unknown i)
  unknown_at numbers before none =
      let split : words ≡ take i words ++ get_or words i d ∷ drop (suc i) words =
      sym (take-append-drop i words)
      ∙ ap (λ (rest : List (Bor (List ℕ))). take i words ++ rest)
      (drop-cons words i d within) in (
        (get_or words i d).now,
        record {
          front = take i words;
          at = get_or words i d;
          rest = drop (suc i) words;
          split = split;
          numbers = numbers;
          known = before;
          unknown = none;
          is = refl;
        },
        length-take-le i words (omega (arith, within)),
      )

-- the first word that names nothing stands at its number
pub unknown_within : (names : List (List ℕ)) (words : List (Bor (List ℕ))) (n : ℕ)
    → IsUnknownAt names words (Unknown n) → n < length words
unknown_within names words n is =
    let first = is.1 in
    omega (
      arith,
      ap length first.split,
      length-append first.front (first.at ∷ first.rest),
      is.2,
    )

pub unknown_word : (names : List (List ℕ)) (words : List (Bor (List ℕ))) (n : ℕ)
    (d : Bor (List ℕ)) → (is : IsUnknownAt names words (Unknown n))
    → IsFirstUnknown names words (get_or words n d).now
unknown_word names words n d is =
    let first = is.1 in
    let here : get_or words n d ≡ first.at =
    ap (λ (vs : List (Bor (List ℕ))). get_or vs n d) first.split
    ∙ ap (λ (k : ℕ). get_or (first.front ++ first.at ∷ first.rest) k d) (sym is.2)
    ∙ get_or-append_seam first.front first.at first.rest d in
    subst (λ (word : List ℕ). IsFirstUnknown names words word)
    (first.is ∙ sym (ap (λ (v : Bor (List ℕ)). v.now) here)) first
