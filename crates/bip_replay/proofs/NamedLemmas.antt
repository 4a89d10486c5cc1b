-- The wants that words name, and which they are of a model: from the words, and back.
use Rattle.std.proofs.Common.{◌≡◌, ℕ, ◌<◌, ◌≤◌, Bool, true, false, cond, ◌||◌, eqb, List, [], ◌∷◌}
use Rattle.std.proofs.Common.{◌++◌, length, None, Some, refl, sym, ap, ◌∙◌, arith, get_or, position}
use Rattle.std.specs.Prelude.{◌↔◌, codes}
use Rattle.std.specs.List.{AllZip, AllByRecursion, IsDistinct}
use Rattle.std.specs.Option.{option_and_then}
use Rattle.std.proofs.lemmas.Bool.{and_right}
use Rattle.std.proofs.lemmas.Cmp.{nat_list_eq_equiv}
use Rattle.std.proofs.lemmas.List.{append_assoc, append-nil, length-append, map-append}
use Rattle.std.proofs.lemmas.Option.{option_and_then_some}
use Rattle.std.specs.List.Sorted.{IsNonDecreasingBy, IsPermutation}
use Rattle.std.proofs.lemmas.List.Quantifiers.{position-Some}
use Rattle.std.proofs.lemmas.List.Sorted.{IsPermutation-sym, IsPermutation-trans}
use Rattle.std.specs.Cmp.Lexicographic as texts
use Rattle.bip_model.proofs.NameLemmas.{apart_push}
use Rattle.bip_model.proofs.PartitionLemmas.{list_any-named}
use Rattle.bip_model.specs.Naming.{AreApart, is_known, same_text}
use Rattle.bip_model.specs.Wants.{is_moved, components_of}
use Rattle.bip_model.specs.declared.wants.Role.{Role}
use Rattle.bip_model.specs.declared.wants.Role.TheVariants.{Moved, Seen}
use Rattle.bip_model.specs.declared.wants.Want.{Want}
use Rattle.bip_model.proofs.NumberingLemmas.{AreNumbered, by_number-IsPermutation, numbered_moved}
use Rattle.bip_model.proofs.NumberingLemmas.{sorted-is}
use Rattle.bip_replay.specs.Lines.{is_named, names_of, want_said, wants_said, with_want}
use Rattle.bip_replay.specs.Lines.{numbered_want, wants_by_component, wants_known}
use Rattle.bip_replay.specs.Writing.{behind_see}
use Rattle.bip_replay.specs.declared.lines.NamedWant.{NamedWant}

-- words that say these wants with a role, one each
abbrev pub Say : Role → List (List ℕ) → List NamedWant → Type 0
Say role words named = AllZip (λ word v. want_said role word ≡ Some v) words named

-- wants that one line can name: no component twice, and few
pub record AreFit (named : List NamedWant) : Type 0 where
  pub apart : AreApart (names_of named)
  pub few : length named ≤ 32

is_named-known : (v : NamedWant) (named : List NamedWant)
    → is_known v.name (names_of named) ≡ is_named v.name named
is_named-known v named = list_any-named (λ (w : NamedWant). w.name) v.name named

-- a want that joined others
joined : (before : List NamedWant) (v : NamedWant) (after : List NamedWant) → AreFit before
    → with_want before v ≡ Some after → (before ++ v ∷ [] ≡ after) × AreFit (before ++ v ∷ [])
joined before v after fit is =
    let known = is_named-known v before in
    let new = apart_push v.name (names_of before) in (
      grind arith,
      record {
        apart = simp map-append (new (grind arith) fit.apart);
        few = simp length-append (grind arith);
      },
    )

-- of names that are apart, one isn't among those before it
unknown : (name : List ℕ) (before rest : List (List ℕ)) → AreApart (before ++ name ∷ rest)
    → is_known name before ≡ false
unknown name [] rest apart = refl
unknown name (n ∷ ns) rest apart = rw (nat_list_eq_equiv.symm name n ∙ other ns apart.0)
    (unknown name ns rest apart.1)
  where
    other : (others : List (List ℕ)) → is_known n (others ++ name ∷ rest) ≡ false
        → same_text n name ≡ false
    other [] none = grind arith
    other (o ∷ os) none = grind (arith, other os)

-- a want joins those before it, where all fit
joins : (before : List NamedWant) (v : NamedWant) (rest : List NamedWant)
    → AreFit (before ++ v ∷ rest) → with_want before v ≡ Some (before ++ v ∷ [])
joins before v rest fit =
    let new = unknown v.name (names_of before) (names_of rest) (simp map-append at fit.apart) in
    let few = simp length-append at fit.few in
    grind (arith, is_named-known v before)

-- the word of a want isn't `see`
not_see : (role : Role) (word : List ℕ) (v : NamedWant) → want_said role word ≡ Some v
    → same_text word (codes "see") ≡ false
not_see role word v says = grind (arith, texts.same_text word (codes "see"))

-- words of wants, and more behind them
said-run : (role : Role) (before : List NamedWant) (words : List (List ℕ)) (vs : List NamedWant)
    (behind : List (List ℕ)) (more : List NamedWant) → Say role words vs
    → AreFit (before ++ (vs ++ more)) → wants_said role before (words ++ behind) ≡ wants_said role
    (before ++ vs) behind
said-run role before [] vs behind more say fit = grind (arith, append-nil before)
said-run role before (word ∷ words) (v ∷ vs) behind more say fit =
    rw (
      not_see role word v say.0,
      and_right (is_moved role) false refl,
      say.0,
      joins before v (vs ++ more) fit,
      ← append_assoc before (v ∷ []) vs,
    )
    (said-run role (before ++ v ∷ []) words vs behind more say.1
    (rw (append_assoc before (v ∷ []) (vs ++ more)) fit))
said-run role before words vs behind more say fit = absurd say

-- the first of words of wants, with those before it
said_first : (role : Role) (before : List NamedWant) (word : List ℕ) (rest : List (List ℕ))
    (named : List NamedWant) → AreFit before → option_and_then (λ wants. wants_said role wants rest)
    (option_and_then (with_want before) (want_said role word)) ≡ Some named
    → (v : NamedWant) × (want_said role word ≡ Some v) × AreFit (before ++ v ∷ [])
    × (wants_said role (before ++ v ∷ []) rest ≡ Some named)
said_first role before word rest named fit says =
    option_and_then_some (λ wants. wants_said role wants rest)
    (option_and_then (with_want before) (want_said role word)) named says
    (λ after joining behind.
    option_and_then_some (with_want before) (want_said role word) after joining (λ v said joining'.
    let j = joined before v after fit joining' in (v, said, j.1, rw (sym j.0) at behind)))

-- words of wants that are only looked at, behind wants before them
seen_said : (before : List NamedWant) (ws : List (List ℕ)) (named : List NamedWant) → AreFit before
    → wants_said Seen before ws ≡ Some named → (vs : List NamedWant) × Say Seen ws vs
    × (before ++ vs ≡ named) × AreFit named
seen_said before [] named fit says = let same : before ≡ named = grind arith in
    ([], tt, append-nil before ∙ same, rw (← same) fit)
seen_said before (word ∷ rest) named fit says =
    let one = said_first Seen before word rest named fit says in
    let more = seen_said (before ++ one.0 ∷ []) rest named one.2 one.3 in (
      one.0 ∷ more.0,
      (one.1, more.1),
      sym (append_assoc before (one.0 ∷ []) more.0) ∙ more.2,
      more.3,
    )

-- what stands behind the interaction and wants before: words of moved wants, and perhaps `see` with
-- those of seen ones
pub record AreSaid (before : List NamedWant) (ws : List (List ℕ))
    (named : List NamedWant) : Type 0 where
  pub moved_words : List (List ℕ)
  pub seen_words : List (List ℕ)
  pub moved : List NamedWant
  pub seen : List NamedWant
  pub split : ws ≡ moved_words ++ behind_see seen_words
  pub moves : Say Moved moved_words moved
  pub sees : Say Seen seen_words seen
  pub some : 0 < length (before ++ moved)
  pub all : (before ++ moved) ++ seen ≡ named
  pub fit : AreFit named

pub said_wants : (before : List NamedWant) (ws : List (List ℕ)) (named : List NamedWant)
    → AreFit before → wants_said Moved before ws ≡ Some named → AreSaid before ws named
said_wants before [] named fit says =
    let same : before ≡ named = grind arith in
    record {
      moved_words = [];
      seen_words = [];
      moved = [];
      seen = [];
      split = refl;
      moves = tt;
      sees = tt;
      some = rw (append-nil before) (grind arith);
      all = simp append-nil same;
      fit =
          rw (← same) fit;
    }
said_wants before (word ∷ rest) named fit says =
    by_see (same_text word (codes "see")) refl says (λ b. said_wants b rest named)
  where
    by_see : (b : Bool) → same_text word (codes "see") ≡ b
        → cond b (cond (eqb (length before) 0 || eqb (length rest) 0) None
        (wants_said Seen before rest)) (option_and_then (λ wants. wants_said Moved wants rest)
        (option_and_then (with_want before) (want_said Moved word))) ≡ Some named
        → ((b : List NamedWant) → AreFit b → wants_said Moved b rest ≡ Some named
        → AreSaid b rest named) → AreSaid before (word ∷ rest) named
    by_see true see s later =
        let seen = seen_said before rest named fit (grind arith) in
        let word_is = texts.same_text word (codes "see") (sym see) in
        record {
          moved_words = [];
          seen_words = rest;
          moved = [];
          seen = seen.0;
          split = grind arith;
          moves = tt;
          sees = seen.1;
          some =
              rw (append-nil before) (grind arith);
          all = rw (append-nil before) seen.2;
          fit =
              seen.3;
        }
    by_see false see s later =
        let one = said_first Moved before word rest named fit s in
        let more = later (before ++ one.0 ∷ []) one.2 one.3 in
        let e = append_assoc before (one.0 ∷ []) more.moved in
        record {
          moved_words = word ∷ more.moved_words;
          seen_words = more.seen_words;
          moved = one.0 ∷ more.moved;
          seen = more.seen;
          split =
              ap (λ (us : List (List ℕ)). word ∷ us) more.split;
          moves = (one.1, more.moves);
          sees =
              more.sees;
          some = rw e at more.some;
          all = rw e at more.all;
          fit = more.fit;
        }

-- the words are read as these wants
pub wants_said-from : (moved_words seen_words : List (List ℕ)) (moved seen : List NamedWant)
    → Say Moved moved_words moved → Say Seen seen_words seen → 0 < length moved
    → AreFit (moved ++ seen) → wants_said Moved [] (moved_words ++ behind_see seen_words)
    ≡ Some (moved ++ seen)
wants_said-from moved_words seen_words moved seen moves sees some fit =
    said-run Moved [] moved_words moved (behind_see seen_words) seen moves fit
    ∙ by_seen seen_words seen sees fit
  where
    by_seen : (words : List (List ℕ)) (vs : List NamedWant) → Say Seen words vs
        → AreFit (moved ++ vs) → wants_said Moved moved (behind_see words) ≡ Some (moved ++ vs)
    by_seen [] vs say fit' = grind (arith, append-nil moved)
    by_seen (word ∷ words) vs say fit' =
        let long = length-append moved vs in
        let run = rw (append-nil words) at (said-run Seen moved (word ∷ words) vs [] [] say
        (rw (append-nil vs) fit')) in
        grind arith

-- the number of a want's component
abbrev pub comp_of : Want → ℕ
comp_of w = w.comp.0

-- a want by names is this one, of the component with its name
pub record Numbers (names : List (List ℕ)) (v : NamedWant) (w : Want) : Type 0 where
  pub place : position (same_text v.name) names ≡ Some w.comp.0
  pub number : v.number ≡ w.number
  pub role : v.role ≡ w.role

-- a name that is found is the one with that number
pub name_at : (names : List (List ℕ)) (name : List ℕ) (c : ℕ)
    → position (same_text name) names ≡ Some c → name ≡ get_or names c []
name_at names name c at = texts.same_text name (get_or names c [])
    (sym (position-Some (same_text name) names c [] at).1)

-- different names are different components
tests_agree : (names : List (List ℕ)) (v x : NamedWant) (w y : Want) → Numbers names v w
    → Numbers names x y → same_text v.name x.name ≡ eqb w.comp.0 y.comp.0
tests_agree names v x w y is are =
    let one = name_at names v.name w.comp.0 is.place in
    let other = name_at names x.name y.comp.0 are.place in
    grind (arith, texts.same_text v.name x.name, nat_list_eq_equiv.refl v.name, is.place, are.place)

-- a name isn't among names exactly where its component isn't among theirs
others : (names : List (List ℕ)) (v : NamedWant) (w : Want) (xs : List NamedWant) (ys : List Want)
    → Numbers names v w → AllZip (Numbers names) xs ys
    → (is_known v.name (names_of xs) ≡ false) ↔ AllByRecursion (λ c. eqb w.comp.0 c ≡ false)
    (components_of ys)
others names v w [] [] is zip = (λ none. tt, λ none. refl)
others names v w (x ∷ xs) (y ∷ ys) is zip =
    let here = tests_agree names v x w y is zip.0 in
    let rest = others names v w xs ys is zip.1 in
    (λ none. grind arith, λ none. grind arith)
others names v w xs ys is zip = absurd (search)

-- wants whose names are apart are of different components, and back
pub apart_as_numbered : (names : List (List ℕ)) (vs : List NamedWant) (ws : List Want)
    → AllZip (Numbers names) vs ws → AreApart (names_of vs) ↔ AreNumbered comp_of ws
unfolding IsDistinct
apart_as_numbered names [] [] zip = (λ apart. tt, λ apart. tt)
apart_as_numbered names (v ∷ vs) (w ∷ ws) zip =
    let first = others names v w vs ws zip.0 zip.1 in
    let rest = apart_as_numbered names vs ws zip.1 in
    (λ apart. (first.0 apart.0, rest.0 apart.1), λ apart. (first.1 apart.0, rest.1 apart.1))
apart_as_numbered names vs ws zip = absurd (search)

-- the wants that are found for names, and those before, are by component what is known
pub record AreFound (names : List (List ℕ)) (before : List Want) (named : List NamedWant)
    (wants : List Want) : Type 0 where
  pub found : List Want
  pub each : AllZip (Numbers names) named found
  pub all : wants_by_component (before ++ found) ≡ wants

pub found_for : (names : List (List ℕ)) (before : List Want) (named : List NamedWant)
    (wants : List Want) → wants_known names before named ≡ Some wants
    → AreFound names before named wants
found_for names before [] wants is = record {
  found = [];
  each = tt;
  all = rw (append-nil before) (grind arith);
}
found_for names before (v ∷ vs) wants is =
    let at : (c : ℕ) × (position (same_text v.name) names ≡ Some c)
    × (wants_known names (before ++ numbered_want c v ∷ []) vs ≡ Some wants) = grind arith in
    let more = found_for names (before ++ numbered_want at.0 v ∷ []) vs wants at.2 in
    record {
      found = numbered_want at.0 v ∷ more.found;
      each = (record { place = at.1; number = refl; role = refl }, more.each);
      all = rw (append_assoc before (numbered_want at.0 v ∷ []) more.found) at more.all;
    }

pub known_from : (names : List (List ℕ)) (before : List Want) (named : List NamedWant)
    (found : List Want) → AllZip (Numbers names) named found
    → wants_known names before named ≡ Some (wants_by_component (before ++ found))
known_from names before [] [] zip = rw (append-nil before) refl
known_from names before (v ∷ vs) (w ∷ ws) zip =
    let same : numbered_want w.comp.0 v ≡ w = rw (zip.0.number, zip.0.role) refl in
    rw (zip.0.place, same, ← append_assoc before (w ∷ []) ws)
    (known_from names (before ++ w ∷ []) vs ws zip.1)
known_from names before vs ws zip = absurd (search)

-- what a sort leaves of the wants for names that are apart
pub sorted_wants : (names : List (List ℕ)) (named : List NamedWant) (items sorted : List Want)
    → AreApart (names_of named) → wants_known names [] named ≡ Some (wants_by_component items)
    → IsPermutation items sorted → IsNonDecreasingBy comp_of sorted
    → wants_by_component items ≡ sorted
sorted_wants names named items sorted apart known moved up =
    let are = found_for names [] named (wants_by_component items) known in
    let across : IsPermutation are.found (wants_by_component items) =
    rw are.all at (by_number-IsPermutation comp_of are.found) in
    let back = IsPermutation-trans are.found (wants_by_component items) items across
    (IsPermutation-sym items (wants_by_component items)
    (by_number-IsPermutation comp_of items)) in
    sorted-is comp_of items sorted moved up (numbered_moved comp_of are.found items back
    ((apart_as_numbered names named are.found are.each).0 apart))
