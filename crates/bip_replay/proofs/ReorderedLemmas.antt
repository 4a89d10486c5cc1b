-- Lines whose words are those that are expected, in any order.
use Rattle.std.proofs.Common.{◌≡◌, ◌∙◌, ◌+◌, ◌<◌, ◌≤◌, ◌++◌, ◌∷◌, ℕ, List, [], ap, arith, length}
use Rattle.std.proofs.Common.{false, get_or, inl, inr, map, refl, subst, sym, true}
use Rattle.std.specs.Char.{is_ascii_graphic}
use Rattle.std.specs.Prelude.{All, IsTrue, codes, slice_index_or}
use Rattle.std.specs.List.{list_all, swap_remove}
use Rattle.std.specs.List.Sorted.{IsPermutation}
use Rattle.std.proofs.lemmas.List.{append_assoc, append-nil, map-append}
use Rattle.std.proofs.Math.Seq.{drop-append_seam}
use Rattle.std.proofs.lemmas.List.Elements.{All-append, All-cons, All-drop, All-head, All-map}
use Rattle.std.proofs.lemmas.List.Elements.{All-nil, All-tail}
use Rattle.std.proofs.lemmas.List.Sorted.{All-permutation, IsPermutation-append_right}
use Rattle.std.proofs.lemmas.List.Sorted.{IsPermutation-refl, IsPermutation-swap_remove}
use Rattle.std.proofs.lemmas.List.Sorted.{IsPermutation-trans, length_permutation}
use Rattle.std.proofs.lemmas.List.Splits.{slice_split_at}
use Rattle.std.proofs.lemmas.List.Sums.{AllPass-from_list_all}
use Rattle.std.proofs.lemmas.Option.{get_or_from_slice_get, slice_get-get_or}
use Rattle.std.proofs.lemmas.Option.{slice_get_within}
use Rattle.bip_model.proofs.TextLemmas.{words_blank}
use Rattle.bip_model.proofs.WrittenLemmas.{IsWord, name-word, pair-word, words_spaced}
use Rattle.bip_model.specs.Naming.{name_in}
use Rattle.bip_model.specs.Parts.{IsSystem, Participant}
use Rattle.bip_model.specs.Steps.{IsListLookedAt, participants_of}
use Rattle.bip_model.specs.declared.parts.System.{System}
use Rattle.bip_replay.proofs.ExpectedLemmas.{expects_as_said, of_interaction}
use Rattle.bip_model.specs.Texts.{IsWordAndRest, is_blank, words}
use Rattle.bip_model.specs.declared.numbering.CompId.{CompId}
use Rattle.bip_replay.specs.Expected.{BeginsWithWord, Expects, HasNextWord, IsApart}
use Rattle.bip_replay.specs.Expected.{IsBehindBlanks, IsInterName}
use Rattle.bip_replay.specs.Expected.{IsNextAmong, IsPlainBefore, TakesNextWord, TakesWants}
use Rattle.bip_replay.specs.Expected.{TakesWords, comps_of, next_word}
use Rattle.bip_replay.specs.Runs.{Standing}
use Rattle.bip_replay.specs.Writing.{behind_see}

-- a text whose bytes can be seen has no blank
not_blank : (word : List ℕ) → list_all is_ascii_graphic word ≡ true
    → All (λ b. is_blank b ≡ false) word
not_blank word seen k d within = let is =
    AllPass-from_list_all is_ascii_graphic word seen k d within in grind arith

-- a word that ends there is the first
front_word : (word rest : List ℕ) → IsWord word → IsApart rest
    → words (word ++ rest) ≡ word ∷ words rest
front_word word [] is apart = words_spaced word [] is (All-nil IsWord)
front_word word (b ∷ bs) is (inl none) = absurd (let never = none in cc)
front_word word (b ∷ bs) is (inr blank) =
    rw (slice_split_at is_blank word b bs (not_blank word is.1) blank, is.0)
    (ap (λ (ws : List (List ℕ)). word ∷ ws) (sym (words_blank b bs blank)))

front_plain : (word rest : List ℕ) → list_all is_ascii_graphic word ≡ true
    → IsPlainBefore (word ++ rest) rest
front_plain [] rest seen plain = plain
front_plain (b ∷ bs) rest seen plain = grind (arith, front_plain bs rest)

-- blanks say nothing
words_skip : (blanks rest : List ℕ) → All (λ b. IsTrue (is_blank b)) blanks
    → words (blanks ++ rest) ≡ words rest
words_skip [] rest all = refl
words_skip (b ∷ bs) rest all =
    words_blank b (bs ++ rest) (All-head (λ c. IsTrue (is_blank c)) b bs all)
    ∙ words_skip bs rest (All-tail (λ c. IsTrue (is_blank c)) b bs all)

plain_skip : (blanks rest : List ℕ) → All (λ b. IsTrue (is_blank b)) blanks
    → IsPlainBefore (blanks ++ rest) rest
plain_skip [] rest all plain = plain
plain_skip (b ∷ bs) rest all plain =
    let blank : is_blank b ≡ true = All-head (λ c. IsTrue (is_blank c)) b bs all in
    let others = plain_skip bs rest (All-tail (λ c. IsTrue (is_blank c)) b bs all) plain in
    grind arith

-- a line that a word was split off is plain where the rest is
split_plain : (line word rest : List ℕ) → IsWordAndRest line word rest
    → list_all is_ascii_graphic word ≡ true → IsPlainBefore line rest
unfolding IsWordAndRest
split_plain line word rest whole seen plain =
    rw (whole.2, append_assoc whole.0 word rest)
    (plain_skip whole.0 (word ++ rest) whole.1 (front_plain word rest seen plain))

-- the word of a component is taken, and the component
pub takes_word : (p : Standing) (left after : List CompId) (place : ℕ) (x : CompId)
    (text word rest : List ℕ) → IsNextAmong p left place word rest
    → x ≡ slice_index_or left place x → after ≡ swap_remove left place x
    → IsBehindBlanks text word → TakesNextWord p left after text rest
takes_word p left after place x text word rest is value removed behind =
    let within : place < length left = slice_get_within left place is.comp is.at in
    let same : x ≡ is.comp = value ∙ get_or_from_slice_get left place is.comp x is.at in
    let has = is.word.known in
    let own : IsWord (next_word p is.comp) =
    pair-word (name_in p.model.component_names is.comp.0) (p.used is.comp.0 + 1) has.name
    (omega (arith, has.next)) in
    record {
      comp = x;
      all = rw removed (IsPermutation-swap_remove left place x within value);
      says = rw (behind.is, is.word.begins)
          (words_skip behind.blanks (next_word p is.comp ++ rest) behind.all
          ∙ front_word (next_word p is.comp) rest own is.word.ends
          ∙ ap (λ (d : CompId). next_word p d ∷ words rest) (sym same));
      plain = λ plain. rw (behind.is, is.word.begins)
          (plain_skip behind.blanks (next_word p is.comp ++ rest) behind.all
          (front_plain (next_word p is.comp) rest own.1 plain));
      known = rw same has;
    }

-- so many words are taken, and these components are left
pub record Takes (p : Standing) (comps left : List CompId) (count : ℕ)
    (text rest : List ℕ) : Type 0 where
  pub taken : List CompId
  pub all : IsPermutation comps (taken ++ left)
  pub says : words text ≡ map (next_word p) taken ++ words rest
  pub plain : IsPlainBefore text rest
  pub known : All (HasNextWord p) taken
  pub counted : length left + count ≡ length comps

pub takes_none : (p : Standing) (comps : List CompId) (text : List ℕ)
    → Takes p comps comps 0 text text
takes_none p comps text = record {
  taken = [];
  all = IsPermutation-refl comps;
  says = refl;
  plain = λ plain. plain;
  known = All-nil (HasNextWord p);
  counted = omega arith;
}

pub takes_more : (p : Standing) (comps left after : List CompId) (count : ℕ)
    (text mid rest : List ℕ) → Takes p comps left count text mid
    → TakesNextWord p left after mid rest → Takes p comps after (count + 1) text rest
takes_more p comps left after count text mid rest so one = record {
  taken = so.taken ++ one.comp ∷ [];
  all = rw (append_assoc so.taken (one.comp ∷ []) after)
      (IsPermutation-trans comps (so.taken ++ left) (so.taken ++ one.comp ∷ after) so.all
      (IsPermutation-append_right so.taken left (one.comp ∷ after) one.all));
  says = so.says ∙ rw (
    one.says,
    map-append (next_word p) so.taken (one.comp ∷ []),
    append_assoc (map (next_word p) so.taken) (next_word p one.comp ∷ []) (words rest),
  ) refl;
  plain = λ plain. so.plain (one.plain plain);
  known = All-append (HasNextWord p) so.taken (one.comp ∷ []) so.known
      (All-cons (HasNextWord p) one.comp [] one.known (All-nil (HasNextWord p)));
  counted = let shorter = length_permutation left (one.comp ∷ after) one.all in
      omega (arith, shorter, so.counted);
}

no_more : {X : Type 0} (xs : List X) (n : ℕ) → length xs + n ≡ n → xs ≡ []
no_more [] n is = refl
no_more (x ∷ xs) n is = absurd (omega (arith, is))

pub takes_all : (p : Standing) (comps left : List CompId) (text rest : List ℕ)
    → Takes p comps left (length comps) text rest → TakesWords p comps text rest
takes_all p comps left text rest so =
    let none : left ≡ [] = no_more left (length comps) so.counted in
    record {
      taken = so.taken;
      all = rw (append-nil so.taken) at (rw none at so.all);
      says = so.says;
      plain = so.plain;
      known = so.known;
    }

-- what holds of components holds of those that are left
pub left_known : (p : Standing) (comps left : List CompId) (count : ℕ) (text rest : List ℕ)
    (P : CompId → Type 0) → Takes p comps left count text rest → All P comps → All P left
left_known p comps left count text rest P so all =
    subst (All P) (drop-append_seam so.taken left)
    (All-drop P (length so.taken) (so.taken ++ left)
    (All-permutation P comps (so.taken ++ left) so.all all))

-- participants are components of the model
pub participants_known : (m : System) (a : ℕ) → IsSystem m → a < length m.interactions
    → All (λ (c : CompId). c.0 < length m.component_names) (comps_of (participants_of m a))
participants_known m a valid declared =
    of_interaction m a (λ qs. All (λ (c : CompId). c.0 < length m.component_names) (comps_of qs))
    valid declared
    (λ i is. All-map (λ (c : CompId). c.0 < length m.component_names)
    (λ (q : Participant). q.0) i.participants
    (λ k d within. rw valid.components_named (is.ports k d within).component))

-- the words of what is moved and of what is looked at
pub takes_wants : (p : Standing) (a : ℕ) (ds : List CompId) (text mid after rest : List ℕ)
    → IsListLookedAt p.model a ds → length (participants_of p.model a) + length ds ≤ 32
    → TakesWords p (comps_of (participants_of p.model a)) text mid
    → words mid ≡ codes "see" ∷ words after → IsWordAndRest mid (codes "see") after
    → TakesWords p ds after rest → 0 < length ds → TakesWants p a text rest
takes_wants p a ds text mid after rest listed few moved see whole looks some = record {
  looks = ds;
  listed = listed;
  few = few;
  moved = moved.taken;
  seen = looks.taken;
  all_moved = moved.all;
  all_seen = looks.all;
  says = moved.says ∙ ap (λ (ws : List (List ℕ)). map (next_word p) moved.taken ++ ws)
      (see ∙ (ap (λ (ws : List (List ℕ)). codes "see" ∷ ws) looks.says
      ∙ behind looks.taken (words rest) (rw (← length_permutation ds looks.taken looks.all) at
      some)));
  plain = λ plain. moved.plain (split_plain mid (codes "see") after whole refl
      (looks.plain plain));
  moves = moved.known;
  sees = looks.known;
}
  where
    behind : (cs : List CompId) (ws : List (List ℕ)) → 0 < length cs
        → codes "see" ∷ (map (next_word p) cs ++ ws) ≡ behind_see (map (next_word p) cs) ++ ws
    behind [] ws many = absurd (omega (arith, many))
    behind (c ∷ cs) ws many = refl

-- where nothing is looked at, those of what is moved
pub takes_moved : (p : Standing) (a : ℕ) (ds : List CompId) (text rest : List ℕ)
    → IsListLookedAt p.model a ds → length (participants_of p.model a) + length ds ≤ 32
    → TakesWords p (comps_of (participants_of p.model a)) text rest → ds ≡ []
    → TakesWants p a text rest
takes_moved p a ds text rest listed few moved none = record {
  looks = [];
  listed = rw none at listed;
  few = rw none at few;
  moved = moved.taken;
  seen = [];
  all_moved = moved.all;
  all_seen = IsPermutation-refl [];
  says = moved.says;
  plain = moved.plain;
  moves = moved.known;
  sees = All-nil (HasNextWord p);
}

-- a line that says an expected grant in any order reads as it
pub said_line : (p : Standing) (line behind name wants rest end : List ℕ) (a : ℕ)
    → line ≡ codes "grant" ++ behind → IsApart behind → words behind ≡ name ∷ words wants
    → IsWordAndRest behind name wants → IsInterName p.model name a → TakesWants p a wants rest
    → IsBehindBlanks rest end → end ≡ [] → Expects p line a
said_line p line behind name wants rest end a grant apart says whole named is blanks none =
    let over : rest ≡ blanks.blanks ++ [] =
    blanks.is ∙ ap (λ (t : List ℕ). blanks.blanks ++ t) none in
    expects_as_said p line name wants rest a named
    (rw grant (front_word (codes "grant") behind (refl, refl) apart)
    ∙ ap (λ (ws : List (List ℕ)). codes "grant" ∷ ws) says)
    (λ plain. rw grant (front_plain (codes "grant") behind refl
    (split_plain behind name wants whole (name-word name named.named.name).1 plain)))
    is (rw over (words_skip blanks.blanks [] blanks.all))
    (rw over (plain_skip blanks.blanks [] blanks.all refl))

-- no blanks yet, and one more
pub blanks_none : (text : List ℕ) → IsBehindBlanks text text
blanks_none text = record {
  blanks = [];
  all = All-nil (λ b. IsTrue (is_blank b));
  is = refl;
}

pub blanks_more : (text mid rest : List ℕ) (b : ℕ) → IsBehindBlanks text mid → mid ≡ b ∷ rest
    → IsTrue (is_blank b) → IsBehindBlanks text rest
blanks_more text mid rest b so is blank = record {
  blanks = so.blanks ++ b ∷ [];
  all = All-append (λ c. IsTrue (is_blank c)) so.blanks (b ∷ []) so.all
      (All-cons (λ c. IsTrue (is_blank c)) b [] blank (All-nil (λ c. IsTrue (is_blank c))));
  is = so.is ∙ rw is (sym (append_assoc so.blanks (b ∷ []) rest));
}

-- the component at a place, with whose word a text begins
pub next_among : (p : Standing) (comps : List CompId) (place : ℕ) (d : CompId)
    (text rest : List ℕ) → place < length comps
    → BeginsWithWord p (get_or comps place d) text rest → IsNextAmong p comps place text rest
next_among p comps place d text rest within is = record {
  comp = get_or comps place d;
  at = slice_get-get_or comps place d within;
  word = is;
}
