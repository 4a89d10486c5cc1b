-- Words that are taken one by one are a line of the grammar: the lines of each form.
use Rattle.std.proofs.Common.{◌≡◌, inl, inr, ℕ, ◌||◌, true, List}
use Rattle.std.proofs.Common.{[], ◌∷◌, ◌++◌, length, map, Option, None, Some, refl, sym}
use Rattle.std.proofs.Common.{ap, ◌∙◌, subst}
use Rattle.std.specs.Prelude.{All, codes, is_some}
use Rattle.std.specs.Option.{option_map}
use Rattle.std.proofs.Math.Dec.{eqb-suc-zero}
use Rattle.std.proofs.lemmas.Bool.{false≢true}
use Rattle.std.proofs.lemmas.List.Elements.{All-cons, All-nil}
use Rattle.bip_model.specs.Naming.{is_name, same_text}
use Rattle.bip_model.specs.Texts.{value_said}
use Rattle.bip_model.specs.declared.clauses.Spelling.{Spelling}
use Rattle.bip_model.specs.declared.clauses.Spelling.TheVariants.{Own, Shared}
use Rattle.bip_reader.specs.Grammar.{AreTwoNames, IsWithClauses}
use Rattle.bip_reader.specs.Statements.{class_form, end_form, header_form, interaction_form}
use Rattle.bip_reader.specs.Statements.{keyword_of, name_and_words, one_name, priority_form}
use Rattle.bip_reader.specs.Statements.{three_names, trans_form, var_form}
use Rattle.bip_reader.specs.Writing.{words_of_list}
use Rattle.bip_reader.proofs.GrammarLemmas.{clauses_back}
use Rattle.bip_reader.proofs.SpellingLemmas.{IsUnmarked, first_some, same_word}
use Rattle.bip_explain.specs.Expected.{after_word, after_all, ends, takes_all}
use Rattle.bip_model.specs.Texts.{words}
use Rattle.bip_explain.specs.Forms.{IsFormReason, IsWantedThere}
use Rattle.bip_explain.specs.declared.forms.FormReason.{FormReason}
use Rattle.bip_explain.specs.declared.forms.FormReason.TheVariants.{Byte, Word, End as LineEnd}
use Rattle.bip_explain.proofs.WantedLemmas.{behind}
use Rattle.bip_explain.specs.Keywords.{IsModelLine, IsStatedAt, behind_inside, behind_keyword}
use Rattle.bip_explain.specs.Keywords.{behind_outside, spelling_behind, states_something}
use Rattle.bip_explain.specs.Words.{is_pair}
use Rattle.bip_explain.specs.declared.expected.Expected.{Expected}
use Rattle.bip_explain.specs.declared.expected.Expected.TheVariants.{Grant, Granted, FirstMoved}
use Rattle.bip_explain.specs.declared.expected.Expected.TheVariants.{MoreMoved, FirstSeen, MoreSeen}
use Rattle.bip_explain.specs.declared.expected.Expected.TheVariants.{FlightPlace, Class, Tried}
use Rattle.bip_explain.specs.declared.expected.Expected.TheVariants.{FirstStation, LastStation, One}
use Rattle.bip_explain.specs.declared.expected.Expected.TheVariants.{Name}
use Rattle.bip_explain.specs.declared.expected.Expected.TheVariants.{VariableName as NewVariable}
use Rattle.bip_explain.specs.declared.expected.Expected.TheVariants.{StartValue, TransitionPort}
use Rattle.bip_explain.specs.declared.expected.Expected.TheVariants.{TransitionSource}
use Rattle.bip_explain.specs.declared.expected.Expected.TheVariants.{TransitionTarget}
use Rattle.bip_explain.specs.declared.expected.Expected.TheVariants.{TransitionEnd, InteractionName}
use Rattle.bip_explain.specs.declared.expected.Expected.TheVariants.{FirstParticipant}
use Rattle.bip_explain.specs.declared.expected.Expected.TheVariants.{MoreParticipants}
use Rattle.bip_explain.specs.declared.expected.Expected.TheVariants.{LowInteraction, Below}
use Rattle.bip_explain.specs.declared.expected.Expected.TheVariants.{HighInteraction, ClassName}
use Rattle.bip_explain.specs.declared.expected.Expected.TheVariants.{FirstMember, MoreMembers}
use Rattle.bip_explain.specs.declared.expected.Expected.TheVariants.{LeftTerm, LeftMore, RightTerm}
use Rattle.bip_explain.specs.declared.expected.Expected.TheVariants.{RightMore, Target, Becomes}
use Rattle.bip_explain.specs.declared.expected.Expected.TheVariants.{SumTerm, SumMore, End}
use Rattle.bip_explain.specs.declared.scopes.Standing.{Standing}
use Rattle.bip_explain.specs.declared.scopes.Standing.TheVariants.{First, Outside, Inside}
use Rattle.bip_explain.proofs.TakenLemmas.{clauses_there, named_then}
use Rattle.bip_explain.proofs.TakenLemmas.{tested, one_of, some_name, head_clauses, pair_spelled}
use Rattle.bip_explain.proofs.TakenLemmas.{pairs_there, ended, each_name, each_pair, pairs_plain}
use Rattle.bip_explain.proofs.TakenLemmas.{name_plain, word_of_pair}

-- the lines of each form
header_there : (rest : List (List ℕ)) → takes_all Own One rest ≡ true
    → is_some (header_form rest) ≡ true
unfolding header_form
header_there [] takes = absurd (false≢true takes)
header_there (word ∷ rest) takes = tested (same_text word (codes "1"))
    (λ e. rw (ended rest (rw e at takes)) (rw e refl))
    (λ e. absurd (false≢true (rw e at takes)))

one_there : (rest : List (List ℕ)) → takes_all Own Name rest ≡ true → is_some (one_name rest) ≡ true
unfolding one_name
one_there [] takes = absurd (false≢true takes)
one_there (word ∷ rest) takes =
    let one = named_then Own Name End (λ w e. rw e refl) (λ w e. rw e refl) word rest takes in
    rw (ended rest one.1) (rw (some_name word one.0) refl)

var_there : (rest : List (List ℕ)) → takes_all Own NewVariable rest ≡ true
    → is_some (var_form rest) ≡ true
unfolding var_form
var_there [] takes = absurd (false≢true takes)
var_there (word ∷ []) takes = absurd (false≢true
    (named_then Own NewVariable StartValue (λ w e. rw e refl) (λ w e. rw e refl) word [] takes).1)
var_there (word ∷ value ∷ rest) takes =
    let one = named_then Own NewVariable StartValue (λ w e. rw e refl) (λ w e. rw e refl) word
    (value ∷ rest) takes in
    by_value (value_said value) refl one.0 one.1
  where
    by_value : (o : Option ℕ) → value_said value ≡ o → is_name word ≡ true
        → takes_all Own StartValue (value ∷ rest) ≡ true
        → is_some (var_form (word ∷ value ∷ rest)) ≡ true
    by_value None e named h = absurd (false≢true (rw e at h))
    by_value (Some n) e named h = rw (ended rest (rw e at h)) (rw (some_name word named, e) refl)

end_there : (rest : List (List ℕ)) → takes_all Own End rest ≡ true → is_some (end_form rest) ≡ true
unfolding end_form
end_there rest takes = rw (ended rest takes) refl

priority_there : (rest : List (List ℕ)) → takes_all Own LowInteraction rest ≡ true
    → is_some (priority_form rest) ≡ true
unfolding priority_form
priority_there [] takes = absurd (false≢true takes)
priority_there (low ∷ []) takes = absurd (false≢true
    (named_then Own LowInteraction Below (λ w e. rw e refl) (λ w e. rw e refl) low [] takes).1)
priority_there (low ∷ below ∷ rest) takes =
    let one = named_then Own LowInteraction Below (λ w e. rw e refl) (λ w e. rw e refl) low
    (below ∷ rest) takes in
    tested (same_text below (codes "<")) (λ e. by_high rest one.0 e (rw e at one.1))
    (λ e. absurd (false≢true (rw e at one.1)))
  where
    by_high : (more : List (List ℕ)) → is_name low ≡ true → same_text below (codes "<") ≡ true
        → takes_all Own HighInteraction more ≡ true
        → is_some (priority_form (low ∷ below ∷ more)) ≡ true
    by_high [] named e h = absurd (false≢true h)
    by_high (high ∷ more) named e h =
        let two = named_then Own HighInteraction End (λ w e. rw e refl)
        (λ w e. rw e refl) high more h in
        rw (ended more two.1) (rw (e, some_name low named, some_name high two.0) refl)

class_there : (rest : List (List ℕ)) → takes_all Own ClassName rest ≡ true
    → is_some (class_form rest) ≡ true
unfolding class_form name_and_words
class_there [] takes = absurd (false≢true takes)
class_there (name ∷ []) takes = absurd (false≢true
    (named_then Own ClassName FirstMember (λ w e. rw e refl) (λ w e. rw e refl) name [] takes).1)
class_there (name ∷ inter ∷ rest) takes =
    let one = named_then Own ClassName FirstMember (λ w e. rw e refl) (λ w e. rw e refl) name
    (inter ∷ rest) takes in
    let two = named_then Own FirstMember MoreMembers (λ w e. rw e refl)
    (λ w e. rw e refl) inter rest one.1 in
    let behind = each_name rest two.1 in
    rw (some_name name one.0, eqb-suc-zero (length rest), some_name inter two.0, behind.1) refl

trans_there : (rest : List (List ℕ)) → takes_all Own TransitionPort rest ≡ true
    → is_some (trans_form rest) ≡ true
unfolding trans_form three_names
trans_there [] takes = absurd (false≢true takes)
trans_there (port ∷ []) takes = absurd (false≢true
    (named_then Own TransitionPort TransitionSource (λ w e. rw e refl) (λ w e. rw e refl) port
    [] takes).1)
trans_there (port ∷ source ∷ []) takes =
    let one = named_then Own TransitionPort TransitionSource (λ w e. rw e refl)
    (λ w e. rw e refl) port (source ∷ []) takes in
    absurd (false≢true (named_then Own TransitionSource TransitionTarget (λ w e. rw e refl)
    (λ w e. rw e refl) source [] one.1).1)
trans_there (port ∷ source ∷ target ∷ rest) takes =
    let one = named_then Own TransitionPort TransitionSource (λ w e. rw e refl)
    (λ w e. rw e refl) port (source ∷ target ∷ rest) takes in
    let two = named_then Own TransitionSource TransitionTarget (λ w e. rw e refl)
    (λ w e. rw e refl) source (target ∷ rest) one.1 in
    let three = named_then Own TransitionTarget TransitionEnd (λ w e. rw e refl)
    (λ w e. rw e refl) target rest two.1 in
    let at = clauses_there Own rest (head_clauses rest three.1) in
    let front : List (List ℕ) = port ∷ source ∷ target ∷ [] in
    let plain : All IsUnmarked front = All-cons IsUnmarked port (source ∷ target ∷ [])
    (name_plain port one.0) (All-cons IsUnmarked source (target ∷ []) (name_plain source two.0)
    (All-cons IsUnmarked target [] (name_plain target three.0) (All-nil IsUnmarked))) in
    let with : IsWithClauses Own front (front ++ rest) at.guard at.assigned =
    record {
      comparing = at.comparing;
      assigning = at.assigning;
      says = ap (λ (l : List (List ℕ)). front ++ l) at.split;
      compares = at.compares;
      assigns =
          at.assigns;
    } in
    let read = clauses_back Own front (front ++ rest) at.guard at.assigned plain with in
    rw (read.0, read.1) (rw (some_name port one.0, some_name source two.0, some_name target three.0)
    refl)

interaction_there : (rest : List (List ℕ)) → takes_all Shared InteractionName rest ≡ true
    → is_some (interaction_form rest) ≡ true
unfolding interaction_form name_and_words
interaction_there [] takes = absurd (false≢true takes)
interaction_there (name ∷ []) takes = absurd (false≢true
    (named_then Shared InteractionName FirstParticipant (λ w e. rw e refl) (λ w e. rw e refl) name
    [] takes).1)
interaction_there (name ∷ word ∷ rest) takes =
    let one = named_then Shared InteractionName FirstParticipant (λ w e. rw e refl)
    (λ w e. rw e refl) name (word ∷ rest) takes in
    tested (is_pair word) (λ e. by_pairs one.0 e (rw e at one.1))
    (λ e. absurd (false≢true (rw e at one.1)))
  where
    by_pairs : is_name name ≡ true → is_pair word ≡ true
        → takes_all Shared MoreParticipants rest ≡ true
        → is_some (interaction_form (name ∷ word ∷ rest)) ≡ true
    by_pairs named e h =
        let first = pair_spelled word e in
        let pairs = pairs_there rest h in
        let at = clauses_there Shared pairs.rest pairs.clauses in
        let all : List (List ℕ × List ℕ) = first.0 ∷ pairs.pairs in
        let two : All AreTwoNames all = All-cons AreTwoNames first.0 pairs.pairs first.1
        pairs.named in
        let front : List (List ℕ) = name ∷ map word_of_pair all in
        let more : List (List ℕ) = words_of_list (codes "when") (codes "and")
        (λ part. part) at.comparing ++ words_of_list (codes "do") (codes ";")
        (λ part. part) at.assigning in
        let plain : All IsUnmarked front = All-cons IsUnmarked name (map word_of_pair all)
        (name_plain name named) (pairs_plain all two) in
        let whole : name ∷ word ∷ rest ≡ front ++ more
        = ap (λ (w : List ℕ). name ∷ w ∷ rest) first.2
        ∙ ap (λ (l : List (List ℕ)). name ∷ word_of_pair first.0 ∷ l)
        (pairs.split ∙ ap (λ (l : List (List ℕ)). map word_of_pair pairs.pairs ++ l)
        at.split) in
        let with : IsWithClauses Shared front (name ∷ word ∷ rest) at.guard at.assigned =
        record {
          comparing = at.comparing;
          assigning = at.assigning;
          says = whole;
          compares = at.compares;
          assigns = at.assigns;
        } in
        let read = clauses_back Shared front (name ∷ word ∷ rest) at.guard at.assigned plain with in
        rw (read.0, read.1) (rw (
          some_name name named,
          eqb-suc-zero (length (map word_of_pair pairs.pairs)),
          each_pair all two,
        ) refl)

mapped : {A B : Type 0} (f : A → B) (o : Option A) → is_some o ≡ true
    → is_some (option_map f o) ≡ true
mapped f None is = absurd (false≢true is)
mapped f (Some x) is = refl

-- words that are taken behind a first word which can begin the line are a line of the grammar
module _ (keyword : List ℕ) (rest : List (List ℕ)) (start : Expected)
    (takes : takes_all (spelling_behind keyword) start rest ≡ true) where
  abbrev IsStated : Type 0
  IsStated = IsModelLine (keyword ∷ rest)

  stated : (word : List ℕ) (n : Expected) → same_text keyword word ≡ true → n ≡ start
      → (takes_all (spelling_behind word) n rest ≡ true → states_something (word ∷ rest) ≡ true)
      → IsStated
  stated word n same at there =
      let first : keyword ≡ word = same_word keyword word same in
      let taken : takes_all (spelling_behind word) n rest ≡ true =
      subst (λ (w : List ℕ). takes_all (spelling_behind w) n rest ≡ true) first (rw at takes) in
      subst (λ (w : List ℕ). states_something (w ∷ rest) ≡ true) (sym first) (there taken)

  outside_stated : behind_outside keyword ≡ Some start → IsStated
  unfolding keyword_of
  outside_stated is = elim (first_some (same_text keyword (codes "component")) Name start _ is) [
    | inl at ↦ stated (codes "component") Name at.0 at.1
        (λ h. mapped _ (one_name rest) (one_there rest h))
    | inr is1 ↦ elim (first_some (same_text keyword (codes "interaction")) InteractionName start _
        is1) [
          | inl at ↦ stated (codes "interaction") InteractionName at.0 at.1 (interaction_there rest)
          | inr is2 ↦ elim (first_some (same_text keyword (codes "priority")) LowInteraction start _
              is2) [
                | inl at ↦ stated (codes "priority") LowInteraction at.0 at.1 (priority_there rest)
                | inr is3 ↦ elim (first_some (same_text keyword (codes "class")) ClassName start
                    None is3) [
                      | inl at ↦ stated (codes "class") ClassName at.0 at.1 (class_there rest)
                      | inr none ↦ cc
                    ]
              ]
        ]
  ]

  inside_stated : behind_inside keyword ≡ Some start → IsStated
  unfolding keyword_of
  inside_stated is = elim (first_some (same_text keyword (codes "var")) NewVariable start _ is) [
    | inl at ↦ stated (codes "var") NewVariable at.0 at.1 (var_there rest)
    | inr is1 ↦ elim (first_some (same_text keyword (codes "loc") || same_text keyword
        (codes "port")) Name start _ is1) [
          | inl at ↦ elim (one_of (same_text keyword (codes "loc"))
              (same_text keyword (codes "port")) at.0) [
                | inl loc ↦ stated (codes "loc") Name loc at.1
                    (λ h. mapped _ (one_name rest) (one_there rest h))
                | inr port ↦ stated (codes "port") Name port at.1
                    (λ h. mapped _ (one_name rest) (one_there rest h))
              ]
          | inr is2 ↦ elim (first_some (same_text keyword (codes "trans")) TransitionPort start _
              is2) [
                | inl at ↦ stated (codes "trans") TransitionPort at.0 at.1 (trans_there rest)
                | inr is3 ↦ elim (first_some (same_text keyword (codes "end")) End start None is3) [
                  | inl at ↦ stated (codes "end") End at.0 at.1 (end_there rest)
                  | inr none ↦ cc
                ]
              ]
        ]
  ]

  pub line_stated : (standing : Standing) → behind_keyword standing keyword ≡ Some start → IsStated
  unfolding keyword_of
  line_stated First is = elim (first_some (same_text keyword (codes "bip")) One start None is) [
    | inl at ↦ stated (codes "bip") One at.0 at.1 (header_there rest)
    | inr none ↦ cc
  ]
  line_stated Outside is = outside_stated is
  line_stated (Inside component) is = inside_stated is

-- words that complete a line from a place on
completed : (spelling : Spelling) (place : Expected) → (ws : List (List ℕ))
    × (takes_all spelling place ws ≡ true)
completed spelling One = (codes "1" ∷ [], refl)
completed spelling Name = (codes "a" ∷ [], refl)
completed spelling NewVariable = (codes "a" ∷ codes "0" ∷ [], refl)
completed spelling StartValue = (codes "0" ∷ [], refl)
completed spelling TransitionPort = (codes "a" ∷ codes "a" ∷ codes "a" ∷ [], refl)
completed spelling TransitionSource = (codes "a" ∷ codes "a" ∷ [], refl)
completed spelling TransitionTarget = (codes "a" ∷ [], refl)
completed spelling TransitionEnd = ([], refl)
completed spelling InteractionName = (codes "a" ∷ codes "a.a" ∷ [], refl)
completed spelling FirstParticipant = (codes "a.a" ∷ [], refl)
completed spelling MoreParticipants = ([], refl)
completed spelling LowInteraction = (codes "a" ∷ codes "<" ∷ codes "a" ∷ [], refl)
completed spelling Below = (codes "<" ∷ codes "a" ∷ [], refl)
completed spelling HighInteraction = (codes "a" ∷ [], refl)
completed spelling ClassName = (codes "a" ∷ codes "a" ∷ [], refl)
completed spelling FirstMember = (codes "a" ∷ [], refl)
completed spelling MoreMembers = ([], refl)
completed spelling LeftTerm = (codes "0" ∷ codes "=" ∷ codes "0" ∷ [], refl)
completed spelling LeftMore = (codes "=" ∷ codes "0" ∷ [], refl)
completed spelling RightTerm = (codes "0" ∷ [], refl)
completed spelling RightMore = ([], refl)
completed Own Target = (codes "a" ∷ codes ":=" ∷ codes "0" ∷ [], refl)
completed Shared Target = (codes "a.a" ∷ codes ":=" ∷ codes "0" ∷ [], refl)
completed spelling Becomes = (codes ":=" ∷ codes "0" ∷ [], refl)
completed spelling SumTerm = (codes "0" ∷ [], refl)
completed spelling SumMore = ([], refl)
completed spelling End = ([], refl)
completed spelling Grant = (codes "grant" ∷ codes "a" ∷ codes "a:1" ∷ [], refl)
completed spelling Granted = (codes "a" ∷ codes "a:1" ∷ [], refl)
completed spelling FirstMoved = (codes "a:1" ∷ [], refl)
completed spelling MoreMoved = ([], refl)
completed spelling FirstSeen = (codes "a:1" ∷ [], refl)
completed spelling MoreSeen = ([], refl)
completed spelling FlightPlace = (codes "0" ∷ [], refl)
completed spelling Class = (codes "a" ∷ codes "a" ∷ [], refl)
completed spelling Tried = (codes "a" ∷ [], refl)
completed spelling FirstStation = (codes "a" ∷ codes "a" ∷ [], refl)
completed spelling LastStation = (codes "a" ∷ [], refl)

-- a word that is taken where words lead is followed by words, with which all are a line
completes : (standing : Standing) (keyword : List ℕ) (start expected : Expected)
    (front more : List (List ℕ)) (word : List ℕ) → behind_keyword standing keyword ≡ Some start
    → front ≡ keyword ∷ more → after_all (spelling_behind keyword) start more ≡ Some expected
    → ¬ (after_word (spelling_behind keyword) expected word ≡ None) → (rest : List (List ℕ))
    × IsModelLine (front ++ word ∷ rest)
completes standing keyword start expected front more word begins split leads some =
    by_next (after_word spelling expected word) refl some
  where
    spelling : Spelling
    spelling = spelling_behind keyword

    by_next : (o : Option Expected) → after_word spelling expected word ≡ o → ¬ (o ≡ None)
        → (rest : List (List ℕ)) × IsModelLine (front ++ word ∷ rest)
    by_next None e none = absurd (none refl)
    by_next (Some next) e none =
        let c = completed spelling next in
        let takes : takes_all spelling start (more ++ word ∷ c.0) ≡ true =
        ap ends (behind spelling start expected more (word ∷ c.0) leads) ∙ rw e c.1 in
        (c.0, rw split (line_stated keyword (more ++ word ∷ c.0) start takes standing begins))

-- what is wanted in a line's form can stand there
pub can_stand : (standing : Standing) (keyword line : List ℕ) (start : Expected)
    (reason : FormReason) → behind_keyword standing keyword ≡ Some start
    → IsFormReason (spelling_behind keyword) start (keyword ∷ []) line reason
    → IsWantedThere IsModelLine line reason
can_stand standing keyword line start (Byte column byte) begins is = tt
can_stand standing keyword line start (Word placed other expected) begins is =
    let leads = is.2 in (
      is.0,
      λ word some. completes standing keyword start expected is.0.front leads.0 word begins
          leads.1 leads.2 (rw is.1 at some),
    )
can_stand standing keyword line start (LineEnd column other expected) begins is =
    let leads = is.2 in
    λ word some. completes standing keyword start expected
    (words line) leads.0 word begins leads.1 leads.2 (rw is.1 at some)

-- words that are taken where a line stands state something
pub stated_at : (standing : Standing) (keyword : List ℕ) (rest : List (List ℕ)) (start : Expected)
    → behind_keyword standing keyword ≡ Some start
    → takes_all (spelling_behind keyword) start rest ≡ true → IsStatedAt standing (keyword ∷ rest)
stated_at standing keyword rest start begins takes = (
  line_stated keyword rest start takes standing begins,
  λ none. let wrong : None ≡ Some start = sym none ∙ begins in cc,
)
