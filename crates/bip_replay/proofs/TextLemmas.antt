-- Texts of grants: those that say the same words say the same grants, a grant's line names its
-- interaction, each grant is one of the model, and what is written reads back.
use Rattle.std.proofs.Common.{arith, ◌≡◌, ℕ, ◌+◌, List, [], ◌∷◌, map, Option, None, Some, Result}
use Rattle.std.proofs.Common.{Ok, Err, refl, sym, ◌∙◌, ◌<◌, ◌≤◌, Bool, true, cond, ◌++◌, length}
use Rattle.std.specs.Prelude.{All, filter, codes}
use Rattle.std.specs.Option.{option_map, option_map_or}
use Rattle.std.proofs.lemmas.List.Elements.{All-append, All-cons, All-nil, All-filter, All-head}
use Rattle.std.proofs.lemmas.List.Elements.{All-map, All-tail, All-weaker, filter_passes}
use Rattle.std.proofs.lemmas.Option.{get_or_from_slice_get, slice_get-get_or}
use Rattle.bip_model.specs.Texts.{lines, said_in, says_something, words_said, is_plain}
use Rattle.bip_model.specs.declared.grants.Grant.{Grant}
use Rattle.bip_model.specs.declared.parts.System.{System}
use Rattle.bip_replay.specs.Laws.{AreOfModel, CanBeWritten, NamesItsInteraction, SameGrants, Spells}
use Rattle.bip_replay.specs.Laws.{TellsFirstLine, WrittenReadsBack}
use Rattle.bip_replay.specs.Lines.{grant_on, looked_up, said}
use Rattle.bip_replay.specs.Items.{ReadsBack, one_more}
use Rattle.bip_replay.specs.Traces.{grants_from, grants_of}
use Rattle.bip_replay.proofs.ItemLemmas.{first_at_fault, first_read, items_from-written}
use Rattle.bip_replay.specs.Writing.{IsGrantOf, IsSpelled, bare_line, behind_see, has_role}
use Rattle.bip_replay.specs.Writing.{want_word, want_words, words_behind}
use Rattle.bip_replay.specs.declared.faults.LineFault.{LineFault}
use Rattle.bip_replay.specs.declared.faults.LineFault.TheVariants.{Syntax}
use Rattle.bip_replay.proofs.GrantLemmas.{grant_line, grant_of_model, line_reads}
use Rattle.std.specs.Fmt.{decimal}
use Rattle.std.specs.List.{AllZip, list_any}
use Rattle.std.proofs.lemmas.List.Sorted.{IsPermutation-filter_both, IsPermutation-sym}
use Rattle.bip_model.specs.Naming.{IsName, name_in}
use Rattle.bip_model.specs.Parts.{IsSystem}
use Rattle.bip_model.specs.Wants.{IsWants}
use Rattle.bip_model.specs.declared.wants.Role.{Role}
use Rattle.bip_model.specs.declared.wants.Role.TheVariants.{Moved, Seen}
use Rattle.bip_model.specs.declared.wants.Want.{Want}
use Rattle.bip_model.proofs.WrittenLemmas.{IsWord, name-word, number_of-decimal, pair-word}
use Rattle.bip_model.proofs.WrittenLemmas.{plain_spaced, words_spaced}

-- a line's grant before those of the lines behind it
abbrev with_grant : Result (Option Grant) LineFault → Option (List Grant) → Option (List Grant)
with_grant (Err fault) rest = None
with_grant (Ok None) rest = rest
with_grant (Ok (Some g)) rest = option_map (λ gs. g ∷ gs) rest

-- the grant that words say
abbrev grant_said : System → Option (List (List ℕ)) → Result (Option Grant) LineFault
grant_said m ws = looked_up m (option_map_or said ws (Err Syntax))

-- the grants that words say, line after line, without the lines' numbers
abbrev all_said : System → List (Option (List (List ℕ))) → Option (List Grant)
all_said m [] = Some []
all_said m (ws ∷ rest) = with_grant (grant_said m ws) (all_said m rest)

-- what is read, without the number of a line at fault
abbrev without_number : Result (List Grant) (ℕ × LineFault) → Option (List Grant)
without_number (Ok gs) = Some gs
without_number (Err e) = None

words_read : (m : System) (n : ℕ) (ls : List (List ℕ))
    → without_number (grants_from m n ls) ≡ all_said m (map words_said ls)
words_read m n [] = refl
words_read m n (line ∷ ls) = grind (arith, words_read m (n + 1) ls)

skipped_aside : (m : System) (ws : List (Option (List (List ℕ))))
    → all_said m (filter says_something ws) ≡ all_said m ws
skipped_aside m [] = refl
skipped_aside m (ws ∷ rest) = grind (arith, skipped_aside m rest)

-- what the lines of a text say is what they say that say something
said_words : (m : System) (text : List ℕ) → without_number (grants_of m text) ≡ all_said m
    (said_in text)
said_words m text = words_read m 1 (lines text)
    ∙ sym (skipped_aside m (map words_said (lines text)))

pub same_grants : SameGrants
same_grants m a b same gs e = grind (arith, said_words m a, said_words m b)

pub names_its_interaction : NamesItsInteraction
names_its_interaction m line g e =
    let is = grant_line m line g e in
    rw is.says (sym (get_or_from_slice_get m.interaction_names g.inter.0 is.interaction
    [] is.named.known))

lines_of_model : (m : System) (n : ℕ) (ls : List (List ℕ)) (gs : List Grant)
    → grants_from m n ls ≡ Ok gs → All (IsGrantOf m) gs
lines_of_model m n [] gs e = let same : [] ≡ gs = cc in rw (← same) (All-nil (IsGrantOf m))
lines_of_model m n (line ∷ ls) gs e =
    let at = first_read n (grant_on m line) (grants_from m (n + 1) ls) gs e in
    rw (← at.4) (by_said at.0 at.1 at.2 (lines_of_model m (n + 1) ls at.1 at.3))
  where
    by_said : (o : Option Grant) (hs : List Grant) → grant_on m line ≡ Ok o → All (IsGrantOf m) hs
        → All (IsGrantOf m) (one_more [] o ++ hs)
    by_said None hs says all = all
    by_said (Some g) hs says all = All-cons (IsGrantOf m) g hs
        (grant_of_model m line g (grant_line m line g says)) all

pub are_of_model : AreOfModel
are_of_model m text gs e = lines_of_model m 1 (lines text) gs e

-- a want with a number
abbrev HasNumber : Want → Type 0
HasNumber w = 1 ≤ w.number

-- the words of wants spell them
words-spell : (m : System) (role : Role) (ws : List Want) → All (IsSpelled m) ws → All HasNumber ws
    → All (λ w. has_role role w ≡ true) ws → AllZip (Spells m role) (map (want_word m) ws) ws
words-spell m role [] spelled numbered roles = tt
words-spell m role (w ∷ ws) spelled numbered roles =
    let s = All-head (IsSpelled m) w ws spelled in (
      record {
        component = name_in m.component_names w.comp.0;
        numeral = decimal w.number;
        parts = refl;
        names = record {
          name = s.name;
          known = slice_get-get_or m.component_names w.comp.0 [] s.component;
        };
        number = number_of-decimal w.number (All-head HasNumber w ws numbered) s.high;
        by_place = let has = All-head (λ v. has_role role v ≡ true) w ws roles in grind arith;
      },
      words-spell m role ws (All-tail (IsSpelled m) w ws spelled) (All-tail HasNumber w ws numbered)
          (All-tail (λ v. has_role role v ≡ true) w ws roles),
    )

-- where one passes a test, the filter keeps one
filter_some : (p : Want → Bool) (ws : List Want) → list_any p ws ≡ true → 0 < length (filter p ws)
filter_some p [] some = cc
filter_some p (w ∷ ws) some = grind (arith, filter_some p ws)

-- `see` is written where one is seen
pub see_or_none : (m : System) (ws : List Want)
    → behind_see (want_words m Seen ws) ≡ cond (list_any (has_role Seen) ws)
    (codes "see" ∷ want_words m Seen ws) []
see_or_none m [] = refl
see_or_none m (w ∷ ws) = grind (arith, see_or_none m ws)

-- what stands behind the word `grant` are words
behind-words : (m : System) (g : Grant) → IsName (name_in m.interaction_names g.inter.0)
    → All (IsSpelled m) g.wants → All IsWord (words_behind m g)
behind-words m g name spelled =
    All-cons IsWord (name_in m.interaction_names g.inter.0)
    (want_words m Moved g.wants ++ behind_see (want_words m Seen g.wants))
    (name-word (name_in m.interaction_names g.inter.0) name)
    (All-append IsWord (want_words m Moved g.wants) (behind_see (want_words m Seen g.wants))
    (with_role Moved) (by_seen (want_words m Seen g.wants) (with_role Seen)))
  where
    with_role : (role : Role) → All IsWord (want_words m role g.wants)
    with_role role =
        All-map IsWord (want_word m) (filter (has_role role) g.wants)
        (All-weaker (IsSpelled m) (λ w. IsWord (want_word m w))
        (λ w is. pair-word (name_in m.component_names w.comp.0) w.number is.name is.high)
        (filter (has_role role) g.wants) (All-filter (has_role role)
        (IsSpelled m) g.wants spelled))

    by_seen : (words : List (List ℕ)) → All IsWord words → All IsWord (behind_see words)
    by_seen [] all = all
    by_seen (word ∷ words) all = All-cons IsWord (codes "see") (word ∷ words) (refl, refl) all

-- the line that is written of a grant is its line, and reads as it
pub line-reads_back : (m : System) (g : Grant) → IsSystem m → IsGrantOf m g
    → IsName (name_in m.interaction_names g.inter.0) → IsWants g.wants → All (IsSpelled m) g.wants
    → ReadsBack (grant_on m) (bare_line m) g
line-reads_back m g system grant name wants spelled =
    let all : All IsWord (words_behind m g) = behind-words m g name spelled in
    let plain : is_plain (bare_line m g) ≡ true =
    plain_spaced (codes "grant") (words_behind m g) refl all in
    record {
      plain = plain;
      reads = line_reads m (bare_line m g) g system (record {
        interaction = name_in m.interaction_names g.inter.0;
        moved_words = want_words m Moved g.wants;
        seen_words = want_words m Seen g.wants;
        moved = filter (has_role Moved) g.wants;
        seen = filter (has_role Seen) g.wants;
        plain = plain;
        says = words_spaced (codes "grant") (words_behind m g) (refl, refl) all;
        named = record {
          name = name;
          known = slice_get-get_or m.interaction_names g.inter.0 [] grant.inter;
        };
        moves = with_role Moved;
        sees = with_role Seen;
        some = filter_some (has_role Moved) g.wants wants.moving;
        few = wants.few;
        wants = IsPermutation-sym g.wants (filter (has_role Moved) g.wants ++ filter
            (has_role Seen) g.wants) (IsPermutation-filter_both (has_role Moved) (has_role Seen)
            (λ w. refl) g.wants);
        rising = wants.rising;
      });
    }
  where
    with_role : (role : Role) → AllZip (Spells m role) (want_words m role g.wants)
        (filter (has_role role) g.wants)
    with_role role =
        words-spell m role (filter (has_role role) g.wants)
        (All-filter (has_role role) (IsSpelled m) g.wants spelled)
        (All-filter (has_role role) HasNumber g.wants wants.numbered)
        (filter_passes (has_role role) g.wants)

-- the text of grants is these grants
pub written_reads_back : WrittenReadsBack
written_reads_back m gs system all =
    items_from-written (grant_on m) (bare_line m) 1 gs
    (All-weaker (CanBeWritten m) (ReadsBack (grant_on m) (bare_line m))
    (λ g can. line-reads_back m g system can.of_model can.interaction can.wants can.components)
    gs all)

-- what is told of a text that isn't grants is its first line at fault
pub tells_first_line : TellsFirstLine
tells_first_line m text number fault is =
    let first = first_at_fault (grant_on m) 1 (lines text) number fault is in
    record {
      before = first.before;
      line = first.line;
      rest = first.rest;
      split = first.split;
      counted = first.counted;
      clear = first.clear;
      at = first.at;
    }
