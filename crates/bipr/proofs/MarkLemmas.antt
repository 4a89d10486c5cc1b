-- What stands before and behind the first line `---`, line by line.
use Rattle.std.proofs.Common.{◌≡◌, ℕ, suc, ◌+◌, ◌<◌, Bool, true, false, ◌&&◌, cond, List, [], ◌∷◌}
use Rattle.std.proofs.Common.{◌++◌, length, take, drop, Option, None, Some, refl, sym, ap, ◌∙◌}
use Rattle.std.proofs.Common.{subst, inl, inr, arith}
use Rattle.std.specs.Prelude.{codes, slice_index_or, ⊤}
use Rattle.std.specs.List.{list_any}
use Rattle.std.specs.Option.{option_map, option_map_or}
use Rattle.std.specs.Cmp.Lexicographic as texts
use Rattle.bip_model.specs.Texts.{is_line_feed, lines, onto_first_line}
use Rattle.bipr.specs.Dividing.{AreParts, after_mark, before_mark, begins_with_mark, is_mark}
use Rattle.bipr.specs.Dividing.{mark_in}

-- no line is `---`, the first aside where it doesn't begin
abbrev Unmarked : Bool → List (List ℕ) → Type 0
Unmarked true ls = list_any is_mark ls ≡ false
Unmarked false [] = ⊤
Unmarked false (l ∷ ls) = list_any is_mark ls ≡ false

-- there is a line that a byte at the front stands in, where none begins there
abbrev Late : Bool → List (List ℕ) → Type 0
Late true ls = ⊤
Late false ls = 0 < length ls

-- what a text is before and from the place of the first line `---`
abbrev Place : Bool → List ℕ → Option ℕ → Type 0
Place begins text None = Unmarked begins (lines text)
Place begins text (Some at) =
    Late begins (lines (take at text)) × (lines text ≡ lines (take at text) ++ lines (drop at text))
    × Unmarked begins (lines (take at text)) × (begins_with_mark (drop at text) ≡ true)

-- a byte more on the first line, which isn't `---` then
onto_unmarked : (b : ℕ) (ls : List (List ℕ)) → Unmarked false ls
    → is_mark (slice_index_or (onto_first_line b ls) 0 []) ≡ false
    → list_any is_mark (onto_first_line b ls) ≡ false
onto_unmarked b [] unmarked differs = rw differs refl
onto_unmarked b (l ∷ ls) unmarked differs = rw differs unmarked

onto_late : (b : ℕ) (ls : List (List ℕ)) → Unmarked false ls → Unmarked false (onto_first_line b ls)
onto_late b [] unmarked = refl
onto_late b (l ∷ ls) unmarked = unmarked

onto_append : (b : ℕ) (ls more : List (List ℕ)) → 0 < length ls
    → onto_first_line b (ls ++ more) ≡ onto_first_line b ls ++ more
onto_append b [] more some = absurd (omega arith)
onto_append b (l ∷ ls) more some = refl

first_same : (ls more : List (List ℕ)) → 0 < length ls
    → slice_index_or (ls ++ more) 0 [] ≡ slice_index_or ls 0 []
first_same [] more some = absurd (omega arith)
first_same (l ∷ ls) more some = refl

onto_some : (b : ℕ) (ls : List (List ℕ)) → 0 < length (onto_first_line b ls)
onto_some b [] = omega arith
onto_some b (l ∷ ls) = omega arith

some_line : (b : ℕ) (bs : List ℕ) → 0 < length (lines (b ∷ bs))
some_line b bs =
    elim (is_line_feed b) as
    (λ feed. 0 < length (cond feed ([] ∷ lines bs) (onto_first_line b (lines bs))))
    [ true ↦ omega arith | false ↦ onto_some b (lines bs) ]

at_feed : (b : ℕ) (bs : List ℕ) → is_line_feed b ≡ true → lines (b ∷ bs) ≡ [] ∷ lines bs
at_feed b bs feed = rw feed refl

within_line : (b : ℕ) (bs : List ℕ) → is_line_feed b ≡ false
    → lines (b ∷ bs) ≡ onto_first_line b (lines bs)
within_line b bs feed = rw feed refl

-- a byte more at the front, which doesn't begin `---`
unmarked_step : (begins feed : Bool) (b : ℕ) (bs : List ℕ) → is_line_feed b ≡ feed
    → begins && begins_with_mark (b ∷ bs) ≡ false
    → Unmarked feed (lines bs) → Unmarked begins (lines (b ∷ bs))
unmarked_step true true b bs at differs unmarked = rw at unmarked
unmarked_step false true b bs at differs unmarked = rw at unmarked
unmarked_step true false b bs at differs unmarked =
    rw (within_line b bs at)
    (onto_unmarked b (lines bs) unmarked
    (ap (λ (ls : List (List ℕ)). is_mark (slice_index_or ls 0 [])) (sym (within_line b bs at))
    ∙ differs))
unmarked_step false false b bs at differs unmarked =
    rw (within_line b bs at) (onto_late b (lines bs) unmarked)

lines_step : (feed : Bool) (b : ℕ) (front rest : List ℕ) → is_line_feed b ≡ feed
    → Late feed (lines front)
    → (text : List ℕ) → lines text ≡ lines front ++ lines rest
    → lines (b ∷ text) ≡ lines (b ∷ front) ++ lines rest
lines_step true b front rest at late text parted =
    rw at (ap (λ (ls : List (List ℕ)). [] ∷ ls) parted)
lines_step false b front rest at late text parted =
    rw at (ap (onto_first_line b) parted ∙ onto_append b (lines front) (lines rest) late)

late_step : (begins : Bool) (b : ℕ) (bs : List ℕ) → Late begins (lines (b ∷ bs))
late_step true b bs = tt
late_step false b bs = some_line b bs

place_step : (begins : Bool) (b : ℕ) (bs : List ℕ) (found : Option ℕ)
    → begins && begins_with_mark (b ∷ bs) ≡ false
    → Place (is_line_feed b) bs found → Place begins (b ∷ bs) (option_map (λ at. at + 1) found)
place_step begins b bs None differs h = unmarked_step begins (is_line_feed b) b bs refl differs h
place_step begins b bs (Some at) differs h =
    let front : List ℕ = take at bs in
    let parted : lines (b ∷ bs) ≡ lines (b ∷ front) ++ lines (drop at bs) =
    lines_step (is_line_feed b) b front (drop at bs) refl h.0 bs h.1 in
    let same : begins_with_mark (b ∷ front) ≡ begins_with_mark (b ∷ bs) =
    ap is_mark (sym (first_same (lines (b ∷ front)) (lines (drop at bs)) (some_line b front))
    ∙ ap (λ (ls : List (List ℕ)). slice_index_or ls 0 []) (sym parted)) in
    let one_more : suc at ≡ at + 1 = omega arith in
    let unmarked : Unmarked begins (lines (b ∷ front)) =
    unmarked_step begins (is_line_feed b) b front refl (ap (λ t. begins && t) same ∙ differs)
    h.2 in
    let behind : Place begins (b ∷ bs) (Some (suc at)) =
    (late_step begins b front, parted, unmarked, h.3) in
    subst (λ (k : ℕ). Place begins (b ∷ bs) (Some k)) one_more behind

place_here : (begins : Bool) (text : List ℕ) → begins && begins_with_mark text ≡ true
    → Place begins text (Some 0)
place_here true text is = (tt, refl, refl, is)
place_here false text is = absurd cc

place : (begins : Bool) (text : List ℕ) → Place begins text (mark_in begins text)
place true [] = refl
place false [] = tt
place begins (b ∷ bs) =
    by_front (begins && begins_with_mark (b ∷ bs)) refl (place (is_line_feed b) bs)
  where
    by_front : (t : Bool) → begins && begins_with_mark (b ∷ bs) ≡ t
        → Place (is_line_feed b) bs (mark_in (is_line_feed b) bs)
        → Place begins (b ∷ bs)
        (cond t (Some 0) (option_map (λ at. at + 1) (mark_in (is_line_feed b) bs)))
    by_front true is behind = place_here begins (b ∷ bs) is
    by_front false is behind = place_step begins b bs (mark_in (is_line_feed b) bs) is behind

abbrev first_of : List (List ℕ) → List ℕ
first_of ls = slice_index_or ls 0 []

-- the lines behind the first one
lines_behind : (b : ℕ) (bs : List ℕ)
    → lines (b ∷ bs) ≡ first_of (lines (b ∷ bs))
    ∷ lines (drop (suc (length (first_of (lines (b ∷ bs))))) (b ∷ bs))
lines_behind b [] =
    elim (is_line_feed b) as
    (λ feed. cond feed ([] ∷ []) ((b ∷ []) ∷ []) ≡ first_of (cond feed ([] ∷ []) ((b ∷ []) ∷ []))
    ∷ lines (drop (suc (length (first_of (cond feed ([] ∷ []) ((b ∷ []) ∷ []))))) (b ∷ [])))
    [ true ↦ refl | false ↦ refl ]
lines_behind b (c ∷ cs) = by_feed (is_line_feed b) refl (lines_behind c cs)
  where
    onto : (ls : List (List ℕ)) → 0 < length ls
        → ls ≡ first_of ls ∷ lines (drop (suc (length (first_of ls))) (c ∷ cs))
        → onto_first_line b ls ≡ first_of (onto_first_line b ls)
        ∷ lines (drop (suc (length (first_of (onto_first_line b ls)))) (b ∷ c ∷ cs))
    onto [] some h = absurd (omega arith)
    onto (l ∷ ls) some h = ap (onto_first_line b) h

    by_feed : (feed : Bool) → is_line_feed b ≡ feed
        → lines (c ∷ cs) ≡ first_of (lines (c ∷ cs))
        ∷ lines (drop (suc (length (first_of (lines (c ∷ cs))))) (c ∷ cs))
        → lines (b ∷ c ∷ cs) ≡ first_of (lines (b ∷ c ∷ cs))
        ∷ lines (drop (suc (length (first_of (lines (b ∷ c ∷ cs))))) (b ∷ c ∷ cs))
    by_feed true at behind = rw (at_feed b (c ∷ cs) at) refl
    by_feed false at behind =
        rw (within_line b (c ∷ cs) at) (onto (lines (c ∷ cs)) (some_line c cs) behind)

behind_mark : (text : List ℕ) → begins_with_mark text ≡ true
    → lines text ≡ codes "---" ∷ lines (drop 4 text)
behind_mark [] is = absurd cc
behind_mark (b ∷ bs) is =
    let first : first_of (lines (b ∷ bs)) ≡ codes "---" =
    texts.same_text (first_of (lines (b ∷ bs))) (codes "---") (sym is) in
    lines_behind b bs ∙ ap (λ (l : List ℕ). l ∷ lines (drop (suc (length l)) (b ∷ bs))) first

pub are_parts : (text : List ℕ) → AreParts text (before_mark text) (after_mark text)
are_parts text = by_place (mark_in true text) (place true text)
  where
    by_place : (found : Option ℕ) → Place true text found
        → AreParts text (option_map_or (λ at. take at text) found text)
        (option_map_or (λ at. drop 4 (drop at text)) found [])
    by_place None unmarked = record { unmarked = unmarked; parted = inr (refl, refl) }
    by_place (Some at) h =
        record {
          unmarked = h.2;
          parted =
              inl (h.1 ∙ ap (λ (ls : List (List ℕ)). lines (take at text) ++ ls)
              (behind_mark (drop at text) h.3));
        }
