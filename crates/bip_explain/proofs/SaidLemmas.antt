-- Lines of a trace that are taken word by word, and name no component twice, say a grant.
use Rattle.std.proofs.Common.{◌≡◌, ℕ, ◌&&◌, ◌||◌, Bool, true, false, not, cond, List, [], ◌∷◌, ◌++◌}
use Rattle.std.proofs.Common.{drop, length, IfNone, Option, None, Some, Result, Ok, Err, eqb, suc}
use Rattle.std.proofs.Common.{refl, sym, ap, ◌∙◌, subst, arith, position}
use Rattle.std.specs.Prelude.{codes, is_some, nat_le, option_and_then}
use Rattle.std.specs.List.{list_all}
use Rattle.std.specs.Option.{option_map_or}
use Rattle.std.proofs.Math.Dec.{eqb-suc-zero}
use Rattle.std.proofs.lemmas.Bool.{false≢true}
use Rattle.std.proofs.lemmas.Option.{option_and_then_some}
use Rattle.bip_model.specs.Naming.{IsName, is_known, is_name, same_text}
use Rattle.bip_model.specs.Texts.{is_comment, is_plain, number_of, pair_of, words, words_said}
use Rattle.bip_model.specs.Wants.{is_moved}
use Rattle.bip_model.specs.declared.clauses.Spelling.TheVariants.{Own}
use Rattle.bip_model.specs.declared.grants.Grant.{Grant as ModelGrant}
use Rattle.bip_model.specs.declared.parts.System.{System}
use Rattle.bip_model.specs.declared.wants.Role.{Role}
use Rattle.bip_model.specs.declared.wants.Role.TheVariants.{Moved, Seen}
use Rattle.bip_model.specs.declared.wants.Want.{Want}
use Rattle.bip_reader.proofs.SpellingLemmas.{same_word}
use Rattle.bip_replay.specs.Lines.{NamedGrant, colon, grant_on, is_named, known, looked_up}
use Rattle.bip_replay.specs.Lines.{names_of, numbered_want, said, want_of, want_said, wants_known}
use Rattle.bip_replay.specs.Lines.{wants_said, with_want}
use Rattle.bip_replay.specs.declared.faults.LineFault.{LineFault}
use Rattle.bip_replay.specs.declared.faults.LineFault.TheVariants.{Syntax, Unknown}
use Rattle.bip_explain.specs.Expected.{after_all, ends, go_on_if, takes_all}
use Rattle.bip_explain.specs.Placed.{first_two, said_words}
use Rattle.bip_explain.specs.Traces.{are_apart, are_known}
use Rattle.bip_explain.specs.Words.{HasNot, IsWant, is_want, named_in}
use Rattle.bip_explain.specs.declared.expected.Expected.{Expected}
use Rattle.bip_explain.proofs.FormLemmas.{words_from_said}
use Rattle.bip_explain.specs.declared.expected.Expected.TheVariants.{Grant, Granted, FirstMoved}
use Rattle.bip_explain.specs.declared.expected.Expected.TheVariants.{MoreMoved, FirstSeen, MoreSeen}
use Rattle.std.specs.Cmp.Lexicographic as texts

-- the component of a word with a number
named_there : (word : List ℕ) → is_want word ≡ true → (name : List ℕ) × (named_in word ≡ Some name)
named_there word is = by_parts (pair_of colon word) refl is
  where
    by_parts : (o : Option (List ℕ × List ℕ)) → pair_of colon word ≡ o
        → option_map_or (λ parts. is_name parts.0 && is_some (number_of parts.1)) o false ≡ true
        → (name : List ℕ) × (named_in word ≡ Some name)
    by_parts None e h = absurd (false≢true h)
    by_parts (Some parts) e h = (parts.0, rw (e, h) refl)

abbrev IsWantNamed : Role → List ℕ → List ℕ → Type 0
IsWantNamed role word name = (v : _) × (want_said role word ≡ Some v) × (v.name ≡ name)

want_named : (role : Role) (word name : List ℕ) → named_in word ≡ Some name
    → IsWantNamed role word name
want_named role word name says = option_and_then_some _ (pair_of colon word) name says
    (λ parts split at. by_parts parts split (is_name parts.0) refl (number_of parts.1) refl at)
  where
    by_parts : (parts : List ℕ × List ℕ) → pair_of colon word ≡ Some parts → (b : Bool)
        → is_name parts.0 ≡ b → (n : Option ℕ) → number_of parts.1 ≡ n
        → cond (b && is_some n) (Some parts.0) None ≡ Some name → IsWantNamed role word name
    by_parts parts split false e n f at = cc
    by_parts parts split true e None f at = cc
    by_parts parts split true e (Some n) f at =
        (record { name = parts.0; number = n; role = role }, rw (split, e, f) refl, cc)

-- and back
named_said : (role : Role) (word : List ℕ) (v : _) → want_said role word ≡ Some v
    → named_in word ≡ Some v.name
named_said role word v says = option_and_then_some (want_of role) (pair_of colon word) v says
    (λ parts split at. by_parts parts split (is_name parts.0) refl (number_of parts.1) refl at)
  where
    by_parts : (parts : List ℕ × List ℕ) → pair_of colon word ≡ Some parts → (b : Bool)
        → is_name parts.0 ≡ b → (n : Option ℕ) → number_of parts.1 ≡ n → want_of role parts ≡ Some v
        → named_in word ≡ Some v.name
    by_parts parts split false e n f at = let none : None ≡ Some v = rw e at at in cc
    by_parts parts split true e None f at = let none : None ≡ Some v = rw (e, f) at at in cc
    by_parts parts split true e (Some n) f at = rw (split, e, f) (let there = rw (e, f) at at in cc)

passes_name : (word : List ℕ) → is_name word ≡ true → IsName word
passes_name word e = grind arith

pub want_is_named : (word name : List ℕ) → named_in word ≡ Some name → IsWant name word
want_is_named word name says = option_and_then_some _ (pair_of colon word) name says
    (λ parts split at. by_parts parts split (is_name parts.0) refl (number_of parts.1) refl at)
  where
    by_parts : (parts : List ℕ × List ℕ) → pair_of colon word ≡ Some parts → (b : Bool)
        → is_name parts.0 ≡ b → (n : Option ℕ) → number_of parts.1 ≡ n
        → cond (b && is_some n) (Some parts.0) None ≡ Some name → IsWant name word
    by_parts parts split false e n f at = cc
    by_parts parts split true e None f at = cc
    by_parts parts split true e (Some n) f at =
        let same : parts.0 ≡ name = cc in
        subst (λ (c : List ℕ). IsWant c word) same (passes_name parts.0 e, (parts.1, n, split, f))

-- a word that is taken, and those behind it
taken_if : (b : Bool) (next : Expected) (rest : List (List ℕ))
    → ends (option_and_then (λ n. after_all Own n rest) (go_on_if b next)) ≡ true → (b ≡ true)
    × (takes_all Own next rest ≡ true)
taken_if true next rest h = (refl, h)
taken_if false next rest h = absurd (false≢true h)

room : (known full apart : Bool) → (not (known || full) && apart) ≡ true → (known ≡ false)
    × (full ≡ false) × (apart ≡ true)
room false false apart h = (refl, refl, h)
room false true apart h = absurd (false≢true h)
room true full apart h = absurd (false≢true h)

-- the components of wants, in their order
names_length : (before : _) → length (names_of before) ≡ length before
names_length [] = refl
names_length (w ∷ before) = grind (arith, names_length before)

names_behind : (before more : _) → names_of (before ++ more) ≡ names_of before ++ names_of more
names_behind [] more = refl
names_behind (w ∷ before) more = ap (λ (ns : List (List ℕ)). w.name ∷ ns) (names_behind before more)

named_known : (name : List ℕ) (before : _) → is_named name before ≡ is_known name (names_of before)
named_known name [] = refl
named_known name (w ∷ before) = ap (λ b. same_text name w.name || b) (named_known name before)

-- a want joins those before it
joins_on : (role : Role) (before : _) (word : List ℕ) (rest : List (List ℕ)) → is_want word ≡ true
    → are_apart (names_of before) (word ∷ rest) ≡ true
    → (v : _) × (option_and_then (with_want before) (want_said role word) ≡ Some (before ++ v ∷ []))
    × (are_apart (names_of (before ++ v ∷ [])) rest ≡ true)
joins_on role before word rest is apart =
    let named = named_there word is in
    let v = want_named role word named.0 named.1 in
    let parts = room (is_known named.0 (names_of before)) (nat_le 32 (length (names_of before))) _
    (rw named.1 at apart) in
    let unknown : is_named v.0.name before ≡ false = named_known v.0.name before
    ∙ (ap (λ (n : List ℕ). is_known n (names_of before)) v.2 ∙ parts.0) in
    let few : nat_le 32 (length before) ≡ false = ap (λ n. nat_le 32 n) (sym (names_length before))
    ∙ parts.1 in
    (v.0, rw (v.1, unknown, few) refl, rw (names_behind before (v.0 ∷ []), v.2) parts.2)

none_empty : (n : ℕ) → eqb (suc n) 0 ≡ false
none_empty n = eqb-suc-zero n

seen_there : (b : _) (before : _) (ws : List (List ℕ)) → takes_all Own MoreSeen ws ≡ true
    → are_apart (names_of (b ∷ before)) ws ≡ true → is_some (wants_said Seen (b ∷ before) ws) ≡ true
seen_there b before [] takes apart = rw (none_empty (length before)) refl
seen_there b before (word ∷ rest) takes apart =
    let taken = taken_if (is_want word) MoreSeen rest takes in
    let on = joins_on Seen (b ∷ before) word rest taken.0 apart in
    rw on.1 (seen_there b (before ++ on.0 ∷ []) rest taken.1 on.2)

first_seen_there : (b : _) (before : _) (ws : List (List ℕ)) → takes_all Own FirstSeen ws ≡ true
    → are_apart (names_of (b ∷ before)) ws ≡ true
    → is_some (cond (eqb (length ws) 0) None (wants_said Seen (b ∷ before) ws)) ≡ true
first_seen_there b before [] takes apart = absurd (false≢true takes)
first_seen_there b before (word ∷ rest) takes apart =
    let taken = taken_if (is_want word) MoreSeen rest takes in
    let on = joins_on Seen (b ∷ before) word rest taken.0 apart in
    rw (none_empty (length rest), on.1) (seen_there b (before ++ on.0 ∷ []) rest taken.1 on.2)

moved_there : (b : _) (before : _) (ws : List (List ℕ)) → takes_all Own MoreMoved ws ≡ true
    → are_apart (names_of (b ∷ before)) ws ≡ true
    → is_some (wants_said Moved (b ∷ before) ws) ≡ true
moved_there b before [] takes apart = rw (none_empty (length before)) refl
moved_there b before (word ∷ rest) takes apart =
    by_see (same_text word (codes "see")) refl
    (λ v takes' apart'. moved_there b (before ++ v ∷ []) rest takes' apart')
  where
    by_see : (t : Bool) → same_text word (codes "see") ≡ t
        → ((v : _) → takes_all Own MoreMoved rest ≡ true
        → are_apart (names_of (b ∷ (before ++ v ∷ []))) rest ≡ true
        → is_some (wants_said Moved (b ∷ (before ++ v ∷ [])) rest) ≡ true)
        → is_some (wants_said Moved (b ∷ before) (word ∷ rest)) ≡ true
    by_see true e later =
        let see : word ≡ codes "see" = same_word word (codes "see") e in
        let behind : are_apart (names_of (b ∷ before)) rest ≡ true =
        subst (λ (w : List ℕ). are_apart (names_of (b ∷ before)) (w ∷ rest) ≡ true) see apart in
        rw (e, none_empty (length before)) (first_seen_there b before rest (rw e at takes) behind)
    by_see false e later =
        let taken = taken_if (is_want word) MoreMoved rest (rw e at takes) in
        let on = joins_on Moved (b ∷ before) word rest taken.0 apart in
        rw (e, on.1) (later on.0 taken.1 on.2)

first_moved_there : (ws : List (List ℕ)) → takes_all Own FirstMoved ws ≡ true
    → are_apart [] ws ≡ true → is_some (wants_said Moved [] ws) ≡ true
first_moved_there [] takes apart = absurd (false≢true takes)
first_moved_there (word ∷ rest) takes apart =
    let taken = taken_if (is_want word) MoreMoved rest takes in
    by_see (same_text word (codes "see")) refl taken.0
  where
    by_see : (t : Bool) → same_text word (codes "see") ≡ t → is_want word ≡ true
        → is_some (wants_said Moved [] (word ∷ rest)) ≡ true
    by_see true e is =
        let wrong : is_want (codes "see") ≡ true =
        subst (λ (w : List ℕ). is_want w ≡ true) (same_word word (codes "see") e) is in
        absurd (false≢true wrong)
    by_see false e is =
        let taken = taken_if (is_want word) MoreMoved rest takes in
        let on = joins_on Moved [] word rest is apart in
        rw (e, on.1) (moved_there on.0 [] rest taken.1 on.2)

-- words that are taken, and name no component twice, say a grant
grant_there : (ws : List (List ℕ)) → takes_all Own Grant ws ≡ true
    → are_apart [] (drop 1 (drop 1 ws)) ≡ true → (g : NamedGrant) × (said ws ≡ Ok (Some g))
grant_there [] takes apart = absurd (false≢true takes)
grant_there (word ∷ []) takes apart =
    let first = taken_if (same_text word (codes "grant")) Granted [] takes in
    absurd (false≢true first.1)
grant_there (word ∷ inter ∷ rest) takes apart =
    let first = taken_if (same_text word (codes "grant")) Granted (inter ∷ rest) takes in
    let second = taken_if (is_name inter) FirstMoved rest first.1 in
    by_wants first.0 second.0 (wants_said Moved [] rest) refl
    (first_moved_there rest second.1 apart)
  where
    by_wants : same_text word (codes "grant") ≡ true → is_name inter ≡ true → (o : _)
        → wants_said Moved [] rest ≡ o → is_some o ≡ true → (g : NamedGrant)
        × (said (word ∷ inter ∷ rest) ≡ Ok (Some g))
    by_wants e f None is h = absurd (false≢true h)
    by_wants e f (Some wants) is h = (record { inter = inter; wants = wants }, rw (e, f, is) refl)

-- what a line says that has words
pub said_from : (line word : List ℕ) (rest : List (List ℕ)) → said_words line ≡ word ∷ rest
    → words_said line ≡ Some (word ∷ rest)
said_from line word rest says = by_test (is_plain line) refl
  where
    by_test : (p : Bool) → is_plain line ≡ p → words_said line ≡ Some (word ∷ rest)
    by_test false e = let none : [] ≡ word ∷ rest = rw e at says in cc
    by_test true e = rw e (ap Some (rw e at says))

never_syntax : (m : System) (g : NamedGrant) → ¬ (looked_up m (Ok (Some g)) ≡ Err Syntax)
never_syntax m g = by_known (known m g)
  where
    by_known : (o : Option ModelGrant) → ¬ (option_map_or (λ h. Ok (Some h)) o (Err Unknown)
        ≡ Err Syntax)
    by_known None h = cc
    by_known (Some g') h = cc

-- a line that is taken, and names no component twice, is no fault of syntax
pub no_syntax : (m : System) (line word : List ℕ) (rest : List (List ℕ))
    → said_words line ≡ word ∷ rest → takes_all Own Grant (words line) ≡ true
    → are_apart [] (drop 1 (drop 1 (words line))) ≡ true → ¬ (grant_on m line ≡ Err Syntax)
no_syntax m line word rest says takes apart at =
    let here : words line ≡ word ∷ rest = words_from_said line word rest says in
    let g = grant_there (word ∷ rest) (rw here at takes) (rw here at apart) in
    never_syntax m g.0 (rw (said_from line word rest says, g.1) at at)

both : (a b : Bool) → (a && b) ≡ true → (a ≡ true) × (b ≡ true)
both true b h = (refl, h)
both false b h = absurd (false≢true h)

-- the first of words of wants, with those before it
first_want : (role : Role) (before : _) (word : List ℕ) (rest : List (List ℕ)) (wants : _)
    → option_and_then (λ ws. wants_said role ws rest)
    (option_and_then (with_want before) (want_said role word)) ≡ Some wants
    → (v : _) × (want_said role word ≡ Some v)
    × (wants_said role (before ++ v ∷ []) rest ≡ Some wants)
first_want role before word rest wants says =
    option_and_then_some (λ ws. wants_said role ws rest)
    (option_and_then (with_want before) (want_said role word)) wants says (λ more joins later.
    option_and_then_some (with_want before) (want_said role word) more joins (λ v said joined. (
      v,
      said,
      rw (← joined_is (is_named v.name before || nat_le 32 (length before))
          (before ++ v ∷ []) more joined) at later,
    )))
  where
    joined_is : {A : Type 0} (b : Bool) (x y : A) → cond b None (Some x) ≡ Some y → x ≡ y
    joined_is true x y e = cc
    joined_is false x y e = cc

-- names that are all of a model, by this list of its own
module _ (names : List (List ℕ)) where
  abbrev is_there : List ℕ → Bool
  is_there name = is_some (position (same_text name) names)

  abbrev AreThere : List (List ℕ) → Type 0
  AreThere ns = list_all is_there ns ≡ true

  all_more : (ns : List (List ℕ)) (n : List ℕ) → AreThere ns → is_there n ≡ true
      → AreThere (ns ++ n ∷ [])
  all_more [] n all one = rw one refl
  all_more (m ∷ ns) n all one = let parts = both (is_there m) _ all in
      rw parts.0 (all_more ns n parts.1 one)

  all_known : (role : Role) (before : _) (ws : List (List ℕ)) (wants : _)
      → wants_said role before ws ≡ Some wants → AreThere (names_of before)
      → are_known names ws ≡ true → AreThere (names_of wants)
  all_known role before [] wants says all each = by_test (eqb (length before) 0) says
    where
      by_test : (t : Bool) → cond t None (Some before) ≡ Some wants → AreThere (names_of wants)
      by_test true h = cc
      by_test false h = let same : before ≡ wants = cc in rw (← same) all
  all_known role before (word ∷ rest) wants says all each =
      let parts = both (option_map_or is_there (named_in word) true) _ each in
      by_see (is_moved role && same_text word (codes "see")) refl parts.0
      (λ role' before' says' all'. all_known role' before' rest wants says' all' parts.1)
    where
      behind_see : (t : Bool) → cond t None (wants_said Seen before rest) ≡ Some wants
          → wants_said Seen before rest ≡ Some wants
      behind_see true h = cc
      behind_see false h = h

      by_see : (t : Bool) → (is_moved role && same_text word (codes "see")) ≡ t
          → option_map_or is_there (named_in word) true ≡ true
          → ((role' : Role) (before' : _) → wants_said role' before' rest ≡ Some wants
          → AreThere (names_of before') → AreThere (names_of wants)) → AreThere (names_of wants)
      by_see true e one later = later Seen before
          (behind_see (eqb (length before) 0 || eqb (length rest) 0) (rw e at says)) all
      by_see false e one later =
          let first = first_want role before word rest wants (rw e at says) in
          let there : is_there first.0.name ≡ true =
          rw (named_said role word first.0 first.1) at one in
          later role (before ++ first.0 ∷ []) first.2
          (rw (names_behind before (first.0 ∷ []))
          (all_more (names_of before) first.0.name all there))

  known_there : (before : List Want) (wants : _) → AreThere (names_of wants)
      → is_some (wants_known names before wants) ≡ true
  known_there before [] all = refl
  known_there before (w ∷ wants) all =
      let parts = both (is_there w.name) _ all in
      by_place (position (same_text w.name) names) refl parts.0
      (λ before'. known_there before' wants parts.1)
    where
      by_place : (o : Option ℕ) → position (same_text w.name) names ≡ o → is_some o ≡ true
          → ((before' : List Want) → is_some (wants_known names before' wants) ≡ true)
          → is_some (wants_known names before (w ∷ wants)) ≡ true
      by_place None e h later = absurd (false≢true h)
      by_place (Some c) e h later = rw e (later (before ++ numbered_want c w ∷ []))

-- the words of a grant
grant_words : (ws : List (List ℕ)) (g : NamedGrant) → said ws ≡ Ok (Some g) → (more : List (List ℕ))
    × (ws ≡ codes "grant" ∷ g.inter ∷ more) × (is_name g.inter ≡ true)
    × (wants_said Moved [] more ≡ Some g.wants)
grant_words (word ∷ inter ∷ more) g is = grind (arith, texts.same_text word (codes "grant"))
grant_words ws g is = cc

-- what a line says without its words is a fault of syntax, if it is one
never_unknown : (ws : List (List ℕ)) → ¬ (said ws ≡ Err Unknown)
never_unknown [] h = cc
never_unknown (word ∷ []) h = cc
never_unknown (word ∷ inter ∷ rest) h = grind arith

-- the words that a line says, if it says some
words_here : (line word : List ℕ) (rest : List (List ℕ)) → words_said line ≡ Some (word ∷ rest)
    → words line ≡ word ∷ rest
words_here line word rest says = by_tests (is_plain line) refl (is_comment (words line)) refl
  where
    by_tests : (p : Bool) → is_plain line ≡ p → (q : Bool) → is_comment (words line) ≡ q
        → words line ≡ word ∷ rest
    by_tests false e q f = let none : None ≡ Some (word ∷ rest) = rw e at says in cc
    by_tests true e true f = let none : Some [] ≡ Some (word ∷ rest) = rw (e, f) at says in cc
    by_tests true e false f = let some : Some (words line) ≡ Some (word ∷ rest) =
        rw (e, f) at says in cc

-- the interaction that a line names is one of the model
abbrev pub IsInterKnown : System → List ℕ → Type 0
IsInterKnown m line = (first : List ℕ) → (second : List ℕ)
    → first_two (words line) ≡ Some (first, second) → IsName second
    → ¬ HasNot m.interaction_names second

known_grant : (m : System) (line : List ℕ) (ws : List (List ℕ)) (g : NamedGrant)
    → IsInterKnown m line → are_known m.component_names (drop 1 (drop 1 (words line))) ≡ true
    → words_said line ≡ Some ws → said ws ≡ Ok (Some g)
    → ¬ (looked_up m (Ok (Some g)) ≡ Err Unknown)
known_grant m line ws g inter comps says is h =
    let parts = grant_words ws g is in
    let here : words line ≡ codes "grant" ∷ g.inter ∷ parts.0 =
    words_here line (codes "grant") (g.inter ∷ parts.0) (says ∙ ap Some parts.1) in
    let wants = all_known m.component_names Moved [] parts.0 g.wants parts.3 refl
    (rw here at comps) in
    by_place (position (same_text g.inter) m.interaction_names) refl
    (wants_known m.component_names [] g.wants) refl
    (known_there m.component_names [] g.wants wants)
    (inter (codes "grant") g.inter (ap first_two here) (passes_name g.inter parts.2))
  where
    by_place : (a : Option ℕ) → position (same_text g.inter) m.interaction_names ≡ a
        → (o : Option (List Want)) → wants_known m.component_names [] g.wants ≡ o → is_some o ≡ true
        → ¬ HasNot m.interaction_names g.inter → ⊥
    by_place None e o f some has = has e
    by_place (Some a) e None f some has = absurd (false≢true some)
    by_place (Some a) e (Some wants) f some has = let known : Ok _ ≡ Err Unknown = rw (e, f) at h in
        cc

-- a line whose names are all known is no fault of names
pub no_unknown : (m : System) (line : List ℕ) → IsInterKnown m line
    → are_known m.component_names (drop 1 (drop 1 (words line))) ≡ true
    → ¬ (grant_on m line ≡ Err Unknown)
no_unknown m line inter comps h = by_words (words_said line) refl h
  where
    by_said : (ws : List (List ℕ)) → words_said line ≡ Some ws
        → (r : Result (Option NamedGrant) LineFault) → said ws ≡ r → ¬ (looked_up m r ≡ Err Unknown)
    by_said ws says (Err Syntax) is h' = cc
    by_said ws says (Err Unknown) is h' = never_unknown ws is
    by_said ws says (Ok None) is h' = cc
    by_said ws says (Ok (Some g)) is h' = known_grant m line ws g inter comps says is h'

    by_words : (o : Option (List (List ℕ))) → words_said line ≡ o
        → ¬ (looked_up m (option_map_or said o (Err Syntax)) ≡ Err Unknown)
    by_words None e h' = cc
    by_words (Some ws) e h' = by_said ws e (said ws) refl h'

-- what follows where nothing is found
pub where_none : {A P Q : Type 0} (o : Option A) → (P → Q) → IfNone o P → IfNone o Q
where_none None f h = f h
where_none (Some x) f h = tt

-- the second word, of those behind the first
pub second_is : (ws more : List (List ℕ)) (word first second : List ℕ) → drop 1 ws ≡ word ∷ more
    → first_two ws ≡ Some (first, second) → word ≡ second
second_is [] more word first second is two = cc
second_is (a ∷ []) more word first second is two = cc
second_is (a ∷ b ∷ ws) more word first second is two =
    let here : word ≡ b = cc in
    let parts : (a, b) ≡ (first, second) = cc in
    here ∙ ap (λ (p : List ℕ × List ℕ). p.1) parts

pub no_second : (ws : List (List ℕ)) (first second : List ℕ) → drop 1 ws ≡ []
    → ¬ (first_two ws ≡ Some (first, second))
no_second [] first second is two = cc
no_second (a ∷ []) first second is two = cc
no_second (a ∷ b ∷ ws) first second is two = cc
