-- Lemmas on the parts of words, and on lists that are lent as words.
use Rattle.std.proofs.Common.{◌≡◌, ◌+◌, ◌/◌, true, false, length, arith, List, [], ◌∷◌, ℕ, Option}
use Rattle.std.proofs.Common.{None, Some, refl}
use Rattle.std.specs.Option.{option_map, option_map_or, option_zip}
use Rattle.std.specs.Prelude.{is_some, unwrap_or, IsSome}
use Rattle.bip_model.specs.Clauses.{list_form, pairs_form, parts_at, words_after, words_before}
use Rattle.bip_model.specs.Words.{cut_at, each_of}

abbrev Cut : Type 0 → Type 0
Cut M = List (List ℕ) × M × List (List ℕ)

-- an item, and those behind it
abbrev pub first_of : {P : Type 0} → Option P → Option (List P) → Option (List P)
first_of x rest = option_map (λ p. p.0 ∷ p.1) (option_zip x rest)

some_same : {M : Type 0} (x y : Cut M) → Some x ≡ Some y → x ≡ y
some_same x y e = cc

-- the parts of words, by their first cut
pub parts_cut : {M : Type 0} (f : List ℕ → Option M) (words front behind : List (List ℕ)) (mark : M)
    → cut_at f words ≡ Some (front, mark, behind) → parts_at f words ≡ front ∷ parts_at f behind
parts_cut f [] front behind mark is = cc
parts_cut {M} f (word ∷ rest) front behind mark is =
    by_mark (f word) refl is (cut_at f rest) refl (λ c at. parts_cut f rest c.0 c.2 c.1 at)
  where
    by_cut : (cut : Option (Cut M)) → cut_at f rest ≡ cut
        → ((c : Cut M) → cut_at f rest ≡ Some c → parts_at f rest ≡ c.0 ∷ parts_at f c.2)
        → f word ≡ None → option_map {U = Cut M} (λ (c : Cut M). (word ∷ c.0, c.1, c.2)) cut
        ≡ Some (front, mark, behind) → parts_at f (word ∷ rest) ≡ front ∷ parts_at f behind
    by_cut None at more none' is' = cc
    by_cut (Some c) at more none' is' =
        let same = some_same (word ∷ c.0, c.1, c.2) (front, mark, behind) is' in
        rw (none', more c at) (λ i. (same i).0 ∷ parts_at f (same i).2)

    by_mark : (m : Option M) → f word ≡ m → option_map_or {U = Option (Cut M)}
        (λ (mark : M). Some ([], mark, rest)) m
        (option_map {U = Cut M} (λ (c : Cut M). (word ∷ c.0, c.1, c.2)) (cut_at f rest))
        ≡ Some (front, mark, behind)
        → (cut : Option (Cut M)) → cut_at f rest ≡ cut
        → ((c : Cut M) → cut_at f rest ≡ Some c → parts_at f rest ≡ c.0 ∷ parts_at f c.2)
        → parts_at f (word ∷ rest) ≡ front ∷ parts_at f behind
    by_mark None none' is' cut at more = by_cut cut at more none' (rw at at is')
    by_mark (Some m) some is' cut at more =
        let same = some_same ([], m, rest) (front, mark, behind) is' in
        rw some (λ i. (same i).0 ∷ parts_at f (same i).2)

pub parts_uncut : {M : Type 0} (f : List ℕ → Option M) (words : List (List ℕ))
    → cut_at f words ≡ None → parts_at f words ≡ words ∷ []
parts_uncut f [] is = refl
parts_uncut {M} f (word ∷ rest) is = by_mark (f word) refl is (cut_at f rest) refl
    (parts_uncut f rest)
  where
    by_mark : (m : Option M) → f word ≡ m → option_map_or {U = Option (Cut M)}
        (λ (mark : M). Some ([], mark, rest)) m
        (option_map {U = Cut M} (λ (c : Cut M). (word ∷ c.0, c.1, c.2)) (cut_at f rest)) ≡ None
        → (cut : Option (Cut M)) → cut_at f rest ≡ cut
        → (cut_at f rest ≡ None → parts_at f rest ≡ rest ∷ [])
        → parts_at f (word ∷ rest) ≡ (word ∷ rest) ∷ []
    by_mark (Some m) some is' cut at more = cc
    by_mark None none' is' None at more = rw (none', more at) refl
    by_mark None none' is' (Some c) at more = let wrong = rw at at is' in cc

-- parts are the part before the first mark, and those behind it
pub list_cut : {P M : Type 0} (part : List (List ℕ) → Option P) (mark : List ℕ → Option M)
    (words : List (List ℕ)) → list_form part mark (Some words) ≡ first_of
    (part (words_before mark words)) (list_form part mark (words_after mark words))
list_cut {P} {M} part mark words = by_cut (cut_at mark words) refl
  where
    by_cut : (cut : Option (Cut M)) → cut_at mark words ≡ cut
        → each_of part (parts_at mark words) ≡ first_of
        (part (option_map_or {U = List (List ℕ)} (λ (c : Cut M). c.0) cut words))
        (list_form part mark (option_map (λ (c : Cut M). c.2) cut))
    by_cut None is = rw (parts_uncut mark words is) refl
    by_cut (Some c) is = rw (parts_cut mark words c.0 c.2 c.1 is) refl

-- where the first is something, all are where the rest are
pub first_read : {P : Type 0} (x : Option P) (rest : Option (List P)) → is_some x ≡ true
    → is_some (first_of x rest) ≡ is_some rest
first_read None rest some = cc
first_read (Some x) None some = refl
first_read (Some x) (Some ys) some = refl

-- where the first is nothing, so are all
pub none_first : {P : Type 0} (x : Option P) (rest : Option (List P)) → is_some x ≡ false
    → is_some (first_of x rest) ≡ false
none_first None rest none = refl
none_first (Some x) rest none = cc

-- whether a list is one, by its first part
pub ruleset list_reads = (list_cut, first_read, none_first)

-- what is lent is its first, and what is lent behind it
module _ {P : Type 0} (x : Option P) (rest whole : Option (List P)) (is : whole ≡ first_of x rest)
    (lent : IsSome whole) where
  -- the first is there
  pub some_first : x ≡ None → ⊥
  some_first none = let wrong = rw (is, none) at lent in cc

  -- so are those behind it
  pub rest_lent : IsSome rest
  rest_lent = by_parts x rest refl refl
    where
      by_parts : (y : Option P) (more : Option (List P)) → x ≡ y → rest ≡ more → IsSome rest
      by_parts None more e f = absurd (some_first e)
      by_parts (Some y) None e f = let wrong = rw (is, e, f) at lent in cc
      by_parts (Some y) (Some ys) e f = rw f refl

  -- and they are the whole
  pub first_lent : (y : P) → x ≡ Some y → unwrap_or whole [] ≡ y ∷ unwrap_or rest []
  first_lent y e = by_rest rest refl
    where
      by_rest : (more : Option (List P)) → rest ≡ more → unwrap_or whole [] ≡ y ∷ unwrap_or rest []
      by_rest None f = let wrong = rw (is, e, f) at lent in cc
      by_rest (Some ys) f = rw (is, e, f) refl

-- words are twice as many as the pairs that they are
pub pairs_count : {P : Type 0} (f : List ℕ → List ℕ → Option P) (words : List (List ℕ))
    (ps : List P) → pairs_form f words ≡ Some ps → length words ≡ length ps + length ps
pairs_count f [] ps is = let none : [] ≡ ps = cc in rw (← none) refl
pairs_count f (word ∷ []) ps is = cc
pairs_count {P} f (first ∷ second ∷ rest) ps is =
    by_rest (f first second) (pairs_form f rest) refl (λ ys e. pairs_count f rest ys e) is
  where
    by_rest : (x : Option P) (more : Option (List P)) → pairs_form f rest ≡ more
        → ((ys : List P) → pairs_form f rest ≡ Some ys → length rest ≡ length ys + length ys)
        → option_map (λ (p : P × List P). p.0 ∷ p.1) (option_zip x more) ≡ Some ps
        → length (first ∷ second ∷ rest) ≡ length ps + length ps
    by_rest None more e count is' = cc
    by_rest (Some x) None e count is' = cc
    by_rest (Some x) (Some ys) e count is' =
        let same : x ∷ ys ≡ ps = cc in
        let counted = count ys e in
        rw (← same) (omega arith)

-- pairs that are lent are half as many as their words
pub lent_half : {P : Type 0} (f : List ℕ → List ℕ → Option P) (words : List (List ℕ))
    → IsSome (pairs_form f words) → length words / 2 ≡ length (unwrap_or (pairs_form f words) [])
lent_half {P} f words lent = by_read (pairs_form f words) refl lent
  where
    by_read : (o : Option (List P)) → pairs_form f words ≡ o → IsSome o
        → length words / 2 ≡ length (unwrap_or o [])
    by_read None e some = cc
    by_read (Some ps) e some = omega (arith, pairs_count f words ps e)
