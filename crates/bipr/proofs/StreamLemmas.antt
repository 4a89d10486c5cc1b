-- What is put on a stream.
use Rattle.std.proofs.Common.{◌≡◌, ◌==◌, ℕ, Bool, true, false, List, [], ◌∷◌, ◌++◌, length, refl}
use Rattle.std.proofs.Common.{rules, sym, subst}
use Rattle.std.proofs.lemmas.List.{append_assoc, append-nil, map-append}
use Rattle.bipr.specs.Streams.{Put, Puts, PutsEach, none_put, nothing, one, one_put, texts}

-- nothing is put for an empty text
pub puts_nothing : {S : Type 0} (writes : S → List ℕ → Bool → S → Type 0) (stream : S)
    (text : List ℕ) (is_out : Bool)
    → true ≡ (length text == 0) → is_out ≡ true → Puts writes stream stream text is_out
puts_nothing writes stream [] is_out empty out =
    subst (Puts writes stream stream []) (sym out) (nothing refl)
puts_nothing writes stream (b ∷ bs) is_out empty out = absurd (search rules)

-- any other text is one write
pub puts_one : {S : Type 0} (writes : S → List ℕ → Bool → S → Type 0) (before after : S)
    (text : List ℕ) (is_out : Bool)
    → false ≡ (length text == 0) → writes before text is_out after
    → Puts writes before after text is_out
puts_one writes before after [] is_out some written = absurd (search rules)
puts_one writes before after (b ∷ bs) is_out some written = one b bs is_out written

-- one text
pub puts_each_one : {S : Type 0} (writes : S → List ℕ → Bool → S → Type 0) (before after : S)
    (text : List ℕ) (is_out : Bool)
    → Puts writes before after text is_out
    → PutsEach writes before (record { text = text; is_out = is_out } ∷ []) after
puts_each_one writes before after text is_out put =
    one_put [] (record { text = text; is_out = is_out }) before after none_put put

-- texts behind others
pub puts_each_append : {S : Type 0} (writes : S → List ℕ → Bool → S → Type 0)
    (before middle after : S) (xs ys : List Put)
    → PutsEach writes before xs middle → PutsEach writes middle ys after
    → PutsEach writes before (xs ++ ys) after
puts_each_append writes before middle after xs ys first none_put =
    subst (λ (ts : List Put). PutsEach writes before ts middle) (sym (append-nil xs)) first
puts_each_append writes before middle after xs ys first (one_put puts put between last rest is) =
    subst (λ (ts : List Put). PutsEach writes before ts last) (append_assoc xs puts (put ∷ []))
    (one_put (xs ++ puts) put between last
    (puts_each_append writes before middle between xs puts first rest) is)

-- the texts of both
pub texts_append : (xs ys : List Put) → texts (xs ++ ys) ≡ texts xs ++ texts ys
texts_append xs ys = map-append (λ (put : Put). put.text) xs ys
