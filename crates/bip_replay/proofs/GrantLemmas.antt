-- Lines of grants: what is read of one is what its words spell, and back.
use Rattle.std.proofs.lemmas.Slice.Zip.{AllZip-long}
use Rattle.std.proofs.Common.{eqb-true, ◌≡◌, ℕ, ◌+◌, ◌<◌, ◌≤◌, true, eqb, List, [], ◌∷◌, ◌++◌}
use Rattle.std.proofs.Common.{length, take, drop, get_or, position, Some, Ok, refl, sym, ap, ◌∙◌}
use Rattle.std.proofs.Common.{subst, arith}
use Rattle.std.specs.Prelude.{All, codes}
use Rattle.std.specs.List.{AllZip, list_any}
use Rattle.std.specs.List.Sorted.{IsPermutation}
use Rattle.std.specs.Cmp.Lexicographic as texts
use Rattle.std.proofs.lemmas.List.{drop_more, take-append-drop}
use Rattle.std.proofs.lemmas.List.Quantifiers.{position-Some}
use Rattle.std.proofs.lemmas.List.Elements.{All-append, All-cons, All-nil}
use Rattle.std.proofs.lemmas.List.Sorted.{All-permutation, IsPermutation-sym}
use Rattle.std.proofs.lemmas.List.Sorted.{list_any-IsPermutation, length_permutation}
use Rattle.std.proofs.lemmas.Option.{get_or_from_slice_get, option_and_then_some, slice_get-get_or}
use Rattle.std.proofs.lemmas.Option.{slice_get_within}
use Rattle.bip_model.proofs.NumberingLemmas.{apart_from_rises, by_number-IsPermutation}
use Rattle.bip_model.proofs.NumberingLemmas.{by_number-is, by_number-rises, increasing_from_rises}
use Rattle.bip_model.proofs.NumberingLemmas.{numbered_moved, rises_from_increasing}
use Rattle.bip_model.specs.Naming.{AreApart, is_name, same_text}
use Rattle.bip_model.specs.Parts.{IsSystem}
use Rattle.bip_model.specs.Texts.{is_plain, pair_of, words}
use Rattle.bip_model.specs.Wants.{IsWants, components_of, is_moved}
use Rattle.bip_model.specs.declared.grants.Grant.{Grant}
use Rattle.bip_model.specs.declared.parts.System.{System}
use Rattle.bip_model.specs.declared.wants.Role.{Role}
use Rattle.bip_model.specs.declared.wants.Role.TheVariants.{Moved, Seen}
use Rattle.bip_model.specs.declared.wants.Want.{Want}
use Rattle.bip_replay.specs.Laws.{IsGrantLine, IsNameOf, ReadsGrantLines, Spells}
use Rattle.bip_replay.specs.Lines.{NamedGrant, colon, grant_on, known, named_on, said, want_of}
use Rattle.bip_replay.specs.Lines.{want_said, wants_known, wants_said}
use Rattle.bip_replay.specs.Writing.{IsGrantOf}
use Rattle.bip_replay.specs.declared.lines.NamedWant.{NamedWant}
use Rattle.bip_replay.proofs.NamedLemmas.{AreFit, Numbers, apart_as_numbered, Say, comp_of}
use Rattle.bip_replay.proofs.NamedLemmas.{found_for, known_from, name_at, said_wants}
use Rattle.bip_replay.proofs.NamedLemmas.{wants_said-from}
use Rattle.bip_model.proofs.WrittenLemmas.{is_name-from, pair_of-name, position-name}

-- the parts of a word with a colon
parts_of : (word : List ℕ) (parts : List ℕ × List ℕ) → pair_of colon word ≡ Some parts
    → word ≡ parts.0 ++ colon ∷ parts.1
parts_of word parts is =
    let at : (i : ℕ) × (position (λ b. eqb b 58) word ≡ Some i)
    × ((take i word, drop (i + 1) word) ≡ parts) = grind arith in
    let here = position-Some (λ b. eqb b 58) word at.0 0 at.1 in
    let behind = rw (eqb-true (get_or word at.0 0) 58 here.1) at (drop_more word at.0 0 here.0) in
    rw (← at.2) (sym (take-append-drop at.0 word)
    ∙ ap (λ (bs : List ℕ). take at.0 word ++ bs) behind)

-- a name that is found, as the name with its number, and back
pub name_of-place : (names : List (List ℕ)) (text : List ℕ) (c : ℕ) → is_name text ≡ true
    → position (same_text text) names ≡ Some c → IsNameOf names text c
name_of-place names text c named at =
    let here = slice_get-get_or names c [] (position-Some (same_text text) names c [] at).0 in
    record {
      name = grind arith;
      known = here ∙ ap (λ (t : List ℕ).
          Some t) (sym (name_at names text c at));
    }

place-name_of : (names : List (List ℕ)) (text : List ℕ) (c : ℕ) → AreApart names
    → IsNameOf names text c → position (same_text text) names ≡ Some c
place-name_of names text c apart is =
    rw (sym (get_or_from_slice_get names c text [] is.known))
    (position-name names c apart (slice_get_within names c text is.known))

-- a word that says a want of a model spells it
spells_from : (m : System) (role : Role) (word : List ℕ) (v : NamedWant) (w : Want)
    → want_said role word ≡ Some v → Numbers m.component_names v w → Spells m role word w
spells_from m role word v w says is =
    option_and_then_some (want_of role) (pair_of colon word) v says
    (λ parts split of_parts. record {
      component = parts.0;
      numeral = parts.1;
      parts = parts_of word parts split;
      names = name_of-place m.component_names parts.0 w.comp.0 (grind arith) (grind arith);
      number = grind arith;
      by_place = grind arith;
    })

-- a word that spells a want says it by names
says_from : (m : System) (role : Role) (word : List ℕ) (w : Want) → AreApart m.component_names
    → Spells m role word w → (v : NamedWant) × (want_said role word ≡ Some v)
    × Numbers m.component_names v w
says_from m role word w apart s = (
  record { name = s.component; number = w.number; role = role },
  rw (
    s.parts,
    pair_of-name 58 s.component s.numeral refl s.names.name,
    is_name-from s.component s.names.name,
    s.number,
  ) refl,
  record {
    place = place-name_of m.component_names s.component w.comp.0 apart s.names;
    number = refl;
    role = sym s.by_place;
  },
)

all_spell : (m : System) (role : Role) (words : List (List ℕ)) (vs : List NamedWant)
    (ws : List Want) → Say role words vs → AllZip (Numbers m.component_names) vs ws
    → AllZip (Spells m role) words ws
all_spell m role [] [] [] say are = tt
all_spell m role (word ∷ words) (v ∷ vs) (w ∷ ws) say are =
    (spells_from m role word v w say.0 are.0, all_spell m role words vs ws say.1 are.1)
all_spell m role words vs ws say are = absurd (search)

all_say : (m : System) (role : Role) (words : List (List ℕ)) (ws : List Want)
    → AreApart m.component_names → AllZip (Spells m role) words ws → (vs : List NamedWant)
    × Say role words vs × AllZip (Numbers m.component_names) vs ws
all_say m role [] [] apart spell = ([], tt, tt)
all_say m role (word ∷ words) (w ∷ ws) apart spell =
    let first = says_from m role word w apart spell.0 in
    let rest = all_say m role words ws apart spell.1 in
    (first.0 ∷ rest.0, (first.1, rest.1), (first.2, rest.2))
all_say m role words ws apart spell = absurd (search)

-- two lists side by side, one behind the other
module _ {X Y : Type 0} (R : X → Y → Type 0) where
  zip_split : (xs us : List X) (zs : List Y) → AllZip R (xs ++ us) zs → (ys : List Y)
      × (vs : List Y) × (ys ++ vs ≡ zs) × AllZip R xs ys × AllZip R us vs
  zip_split [] us zs zip = ([], zs, refl, tt, zip)
  zip_split (x ∷ xs) us [] zip = absurd zip
  zip_split (x ∷ xs) us (z ∷ zs) zip = let rest = zip_split xs us zs zip.1 in
      (z ∷ rest.0, rest.1, ap (λ (ys : List Y). z ∷ ys) rest.2, (zip.0, rest.3), rest.4)

  zip_join : (xs us : List X) (ys vs : List Y) → AllZip R xs ys → AllZip R us vs
      → AllZip R (xs ++ us) (ys ++ vs)
  zip_join [] us [] vs zip more = more
  zip_join (x ∷ xs) us (y ∷ ys) vs zip more = (zip.0, zip_join xs us ys vs zip.1 more)
  zip_join xs us ys vs zip more = absurd (search)

-- the words of a grant by names
said_parts : (ws : List (List ℕ)) (h : NamedGrant) → said ws ≡ Ok (Some h)
    → (behind : List (List ℕ)) × (ws ≡ codes "grant" ∷ h.inter ∷ behind) × (is_name h.inter ≡ true)
    × (wants_said Moved [] behind ≡ Some h.wants)
said_parts (word ∷ inter ∷ behind) h is = grind (arith, texts.same_text word (codes "grant"))
said_parts ws h is = cc

-- a grant by names, and what it is of the model
known_parts : (m : System) (line : List ℕ) (g : Grant) → grant_on m line ≡ Ok (Some g)
    → (h : NamedGrant) × (named_on line ≡ Ok (Some h))
    × (position (same_text h.inter) m.interaction_names ≡ Some g.inter.0)
    × (wants_known m.component_names [] h.wants ≡ Some g.wants)
known_parts m line g is = grind arith

-- the grant by names of a line
named_parts : (line : List ℕ) (h : NamedGrant) → named_on line ≡ Ok (Some h)
    → (is_plain line ≡ true) × (said (words line) ≡ Ok (Some h))
named_parts line h is = grind arith

-- wants of no words fit
none_fit : AreFit []
none_fit = record { apart = tt; few = omega arith }

-- the wants that a line names fit
pub named_fit : (line : List ℕ) (h : NamedGrant) → named_on line ≡ Ok (Some h) → AreFit h.wants
named_fit line h is = let parts = said_parts (words line) h (named_parts line h is).1 in
    (said_wants [] parts.0 h.wants none_fit parts.3).fit

-- a line that reads as a grant is its line
pub grant_line : (m : System) (line : List ℕ) (g : Grant) → grant_on m line ≡ Ok (Some g)
    → IsGrantLine m line g
grant_line m line g reads =
    let by_name = known_parts m line g reads in
    let h : NamedGrant = by_name.0 in
    let here = named_parts line h by_name.1 in
    let parts = said_parts (words line) h here.1 in
    let are = said_wants [] parts.0 h.wants none_fit parts.3 in
    let known = found_for m.component_names [] h.wants g.wants by_name.3 in
    let apart = (apart_as_numbered m.component_names h.wants known.found known.each).0
    are.fit.apart in
    let both = zip_split (Numbers m.component_names) are.moved are.seen known.found
    (subst (λ (vs : List NamedWant). AllZip (Numbers m.component_names) vs known.found)
    (sym are.all) known.each) in
    let moved : IsPermutation known.found g.wants =
    rw known.all at (by_number-IsPermutation comp_of known.found) in
    let long = length_permutation known.found g.wants moved in
    let same = AllZip-long (Numbers m.component_names) h.wants known.found known.each in
    let beside = AllZip-long (Numbers m.component_names) are.moved both.0 both.3 in
    record {
      interaction = h.inter;
      moved_words = are.moved_words;
      seen_words = are.seen_words;
      moved = both.0;
      seen = both.1;
      plain = here.0;
      says = rw are.split at parts.1;
      named = name_of-place m.interaction_names h.inter g.inter.0 parts.2 by_name.2;
      moves = all_spell m Moved are.moved_words are.moved both.0 are.moves both.3;
      sees = all_spell m Seen are.seen_words are.seen both.1 are.sees both.4;
      some = omega (arith, are.some);
      few = omega (arith, are.fit.few);
      wants = rw (sym both.2) at moved;
      rising = increasing_from_rises (components_of g.wants)
          (rw known.all at (by_number-rises comp_of known.found apart));
    }

-- the line of a grant of a model reads as it
pub line_reads : (m : System) (line : List ℕ) (g : Grant) → IsSystem m → IsGrantLine m line g
    → grant_on m line ≡ Ok (Some g)
line_reads m line g valid is =
    let apart = valid.so_far.components_apart in
    let moves = all_say m Moved is.moved_words is.moved apart is.moves in
    let sees = all_say m Seen is.seen_words is.seen apart is.sees in
    let each = zip_join (Numbers m.component_names) moves.0 sees.0 is.moved is.seen moves.2
    sees.2 in
    let rises = rises_from_increasing (components_of g.wants) is.rising in
    let numbered = numbered_moved comp_of g.wants (is.moved ++ is.seen)
    (IsPermutation-sym (is.moved ++ is.seen) g.wants is.wants)
    (apart_from_rises (components_of g.wants) rises) in
    let long = length_permutation (is.moved ++ is.seen) g.wants is.wants in
    let same = AllZip-long (Numbers m.component_names) (moves.0 ++ sees.0)
    (is.moved ++ is.seen) each in
    let beside = AllZip-long (Numbers m.component_names) moves.0 is.moved moves.2 in
    let fit : AreFit (moves.0 ++ sees.0) = record {
      apart = (apart_as_numbered m.component_names (moves.0 ++ sees.0)
          (is.moved ++ is.seen) each).1 numbered;
      few = omega (arith, is.few);
    } in
    let said = wants_said-from is.moved_words is.seen_words moves.0 sees.0 moves.1 sees.1
    (omega (arith, is.some)) fit in
    let place = place-name_of m.interaction_names is.interaction g.inter.0
    valid.so_far.interactions_apart is.named in
    let known = known_from m.component_names [] (moves.0 ++ sees.0) (is.moved ++ is.seen) each in
    let sorted = by_number-is comp_of (is.moved ++ is.seen) g.wants is.wants rises in
    rw (is.plain, is.says, is_name-from is.interaction is.named.name, said, place, known, sorted)
    refl

pub reads_grant_lines : ReadsGrantLines
reads_grant_lines m line g valid = (grant_line m line g, line_reads m line g valid)

-- what side by side says of the one list holds of all of it
all_beside : {X Y : Type 0} (R : X → Y → Type 0) (P : Y → Type 0) → ((x : X) (y : Y) → R x y → P y)
    → (xs : List X) (ys : List Y) → AllZip R xs ys → All P ys
all_beside R P tells xs [] zip = All-nil P
all_beside R P tells (x ∷ xs) (y ∷ ys) zip = All-cons P y ys (tells x y zip.0)
    (all_beside R P tells xs ys zip.1)
all_beside R P tells xs ys zip = absurd zip

-- what each word that spells a want tells of it holds of a line's wants
of_spelled : (m : System) (line : List ℕ) (g : Grant) (P : Want → Type 0)
    → ((role : Role) (word : List ℕ) (w : Want) → Spells m role word w → P w) → IsGrantLine m line g
    → All P g.wants
of_spelled m line g P tells is =
    All-permutation P (is.moved ++ is.seen) g.wants is.wants
    (All-append P is.moved is.seen (all_beside (Spells m Moved) P
    (tells Moved) is.moved_words is.moved is.moves)
    (all_beside (Spells m Seen) P (tells Seen) is.seen_words is.seen is.sees))

-- a line's grant is one of the model
pub grant_of_model : (m : System) (line : List ℕ) (g : Grant) → IsGrantLine m line g → IsGrantOf m g
grant_of_model m line g is =
    record {
      inter = slice_get_within m.interaction_names g.inter.0 is.interaction is.named.known;
      components = of_spelled m line g (λ (w : Want). w.comp.0 < length m.component_names)
          (λ role word w s. slice_get_within m.component_names w.comp.0 s.component s.names.known)
          is;
    }

-- the wants of a line can be those of a grant
pub line_wants : (m : System) (line : List ℕ) (g : Grant) → IsGrantLine m line g → IsWants g.wants
line_wants m line g is =
    record {
      few = is.few;
      rising = is.rising;
      numbered = of_spelled m line g (λ (w : Want). 1 ≤ w.number) (λ role word w s. grind arith) is;
      moving = moving is.moved_words is.moved is.some is.moves is.wants;
    }
  where
    moving : (words : List (List ℕ)) (ws : List Want) → 0 < length ws
        → AllZip (Spells m Moved) words ws → IsPermutation (ws ++ is.seen) g.wants
        → list_any (λ (w : Want). is_moved w.role) g.wants ≡ true
    moving (word ∷ words) (w ∷ ws) some zip moved =
        sym (list_any-IsPermutation (λ (v : Want). is_moved v.role)
        ((w ∷ ws) ++ is.seen) g.wants moved) ∙ rw zip.0.by_place refl
    moving words ws some zip moved = grind arith

pub wants_valid : (m : System) (line : List ℕ) (h : NamedGrant) (a : ℕ) (wants : List Want)
    → named_on line ≡ Ok (Some h) → position (same_text h.inter) m.interaction_names ≡ Some a
    → wants_known m.component_names [] h.wants ≡ Some wants → IsWants wants
wants_valid m line h a wants named place known =
    let g : Grant = record { inter = record { 0 = a }; wants = wants } in
    line_wants m line g (grant_line m line g (rw (named, place, known) refl))
