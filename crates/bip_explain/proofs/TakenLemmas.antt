-- Words that are taken one by one are a line of the grammar: the way back of what is wanted.
use Rattle.std.proofs.Common.{◌≡◌, inl, inr, ◌⊎◌, ℕ, ◌<◌, ◌≤◌, ◌&&◌, ◌||◌, Bool, true, false, List}
use Rattle.std.proofs.Common.{[], ◌∷◌, ◌++◌, length, map, Option, None, Some, zero, suc, refl, sym}
use Rattle.std.proofs.Common.{ap, ◌∙◌, arith, append_assoc}
use Rattle.std.specs.Prelude.{All, codes, is_some}
use Rattle.std.specs.List.{AllZip, flat_map}
use Rattle.std.specs.Option.{option_map_or}
use Rattle.std.proofs.lemmas.Bool.{false≢true}
use Rattle.std.proofs.lemmas.List.Elements.{All-cons, All-head, All-nil, All-tail}
use Rattle.bip_model.specs.Naming.{IsName, is_name, same_text}
use Rattle.bip_model.specs.Texts.{pair_of, value_said}
use Rattle.bip_model.specs.Words.{each_of, name_of, participant_of}
use Rattle.bip_model.specs.declared.clauses.Spelling.{Spelling}
use Rattle.bip_model.specs.declared.clauses.Spelling.TheVariants.{Own, Shared}
use Rattle.bip_model.specs.declared.expressions.Assignment.{Assignment}
use Rattle.bip_model.specs.declared.expressions.Comparison.{Comparison}
use Rattle.bip_model.specs.declared.expressions.Expr.{Expr}
use Rattle.bip_model.specs.declared.expressions.Relation.{Relation}
use Rattle.bip_model.specs.declared.expressions.Relation.TheVariants as relation
use Rattle.bip_model.specs.declared.expressions.Sign.{Sign}
use Rattle.bip_model.specs.declared.expressions.Sign.TheVariants.{Plus, Minus}
use Rattle.bip_model.specs.declared.expressions.Term.{Term}
use Rattle.bip_model.specs.declared.expressions.Term.TheVariants.{Value, Of}
use Rattle.bip_model.specs.declared.scopes.VariableName.{VariableName}
use Rattle.bip_reader.specs.Grammar.{AreTwoNames, SpellsAssignment, SpellsComparison}
use Rattle.bip_reader.specs.Grammar.{SpellsSigned, SpellsSum, SpellsTerm, SpellsVariable}
use Rattle.bip_reader.specs.Writing.{pair_word, relation_word, sign_word, words_of_list}
use Rattle.bip_reader.proofs.SpelledLemmas.{name_no_mark, pair_no_mark, pair_read}
use Rattle.bip_reader.proofs.SpellingLemmas.{IsUnmarked, pair_is, same_word, unmarked}
use Rattle.bip_explain.specs.Expected.{after_word, can_end, takes_all}
use Rattle.bip_explain.proofs.WantedLemmas.{behind}
use Rattle.bip_explain.specs.Words.{is_pair, is_relation, is_sign, is_term, is_variable}
use Rattle.bip_explain.specs.declared.expected.Expected.{Expected}
use Rattle.bip_explain.specs.declared.expected.Expected.TheVariants.{TransitionEnd}
use Rattle.bip_explain.specs.declared.expected.Expected.TheVariants.{MoreParticipants}
use Rattle.bip_explain.specs.declared.expected.Expected.TheVariants.{MoreMembers}
use Rattle.bip_explain.specs.declared.expected.Expected.TheVariants.{LeftTerm, LeftMore, RightTerm}
use Rattle.bip_explain.specs.declared.expected.Expected.TheVariants.{RightMore, Target, Becomes}
use Rattle.bip_explain.specs.declared.expected.Expected.TheVariants.{SumTerm, SumMore, End}

-- one way or the other
pub tested : {P : Type 0} (b : Bool) → (b ≡ true → P) → (b ≡ false → P) → P
tested true f g = f refl
tested false f g = g refl

pub one_of : (a b : Bool) → (a || b) ≡ true → (a ≡ true) ⊎ (b ≡ true)
one_of true b e = inl refl
one_of false b e = inr e

both_of : (a b : Bool) → (a && b) ≡ true → (a ≡ true) × (b ≡ true)
both_of true b e = (refl, e)
both_of false b e = absurd (false≢true e)

-- names, pairs, variables and terms
name_from : (word : List ℕ) → is_name word ≡ true → IsName word
name_from word e = grind arith

pub some_name : (word : List ℕ) → is_name word ≡ true → name_of word ≡ Some word
unfolding name_of
some_name word e = rw e refl

pair_there : (word : List ℕ) → is_pair word ≡ true → (p : List ℕ × List ℕ)
    × (participant_of word ≡ Some p)
pair_there word is = by_parts (pair_of 46 word) refl is
  where
    by_parts : (o : Option (List ℕ × List ℕ)) → pair_of 46 word ≡ o
        → option_map_or (λ parts. is_name parts.0 && is_name parts.1) o false ≡ true
        → (p : List ℕ × List ℕ) × (participant_of word ≡ Some p)
    by_parts None e h = absurd (false≢true h)
    by_parts (Some parts) e h =
        let named = both_of (is_name parts.0) (is_name parts.1) h in
        ((parts.0, parts.1), rw (e, some_name parts.0 named.0, some_name parts.1 named.1) refl)

variable_there : (spelling : Spelling) (word : List ℕ) → is_variable spelling word ≡ true
    → (v : VariableName) × SpellsVariable spelling word v
variable_there Own word is = (record { owner = None; name = word }, (refl, name_from word is, refl))
variable_there Shared word is =
    let pair = pair_there word is in
    let parts = pair_is word pair.0 pair.1 in
    (record { owner = Some pair.0.0; name = pair.0.1 }, (pair.0.0, refl, parts.0, parts.1, parts.2))

term_there : (spelling : Spelling) (word : List ℕ) → is_term spelling word ≡ true
    → (t : Term VariableName) × SpellsTerm spelling word t
term_there spelling word is = by_value (value_said word) refl is
  where
    by_value : (o : Option ℕ) → value_said word ≡ o
        → (is_some o || is_variable spelling word) ≡ true → (t : Term VariableName)
        × SpellsTerm spelling word t
    by_value (Some n) e h = (Value n, e)
    by_value None e h = let v = variable_there spelling word h in (Of v.0, v.1)

sign_there : (word : List ℕ) → is_sign word ≡ true → (s : Sign) × (word ≡ sign_word s)
sign_there word is = elim (one_of (same_text word (codes "+")) (same_text word (codes "-")) is) [
  | inl e ↦ (Plus, same_word word (codes "+") e)
  | inr e ↦ (Minus, same_word word (codes "-") e)
]

relation_there : (word : List ℕ) → is_relation word ≡ true → (r : Relation)
    × (word ≡ relation_word r)
relation_there word is = elim (one_of (((((same_text word (codes "=") || same_text word
    (codes "!=")) || same_text word (codes "<")) || same_text word (codes "<=")) || same_text word
    (codes ">"))) (same_text word (codes ">=")) is) [
      | inl is6 ↦ elim (one_of ((((same_text word (codes "=") || same_text word (codes "!="))
          || same_text word (codes "<")) || same_text word (codes "<=")))
          (same_text word (codes ">")) is6) [
            | inl is5 ↦ elim (one_of (((same_text word (codes "=") || same_text word (codes "!="))
                || same_text word (codes "<"))) (same_text word (codes "<=")) is5) [
                  | inl is4 ↦ elim (one_of ((same_text word (codes "=") || same_text word
                      (codes "!=")))
                      (same_text word (codes "<")) is4) [
                        | inl is3 ↦ elim (one_of (same_text word (codes "="))
                            (same_text word (codes "!=")) is3) [
                              | inl e ↦ (relation.Equal, same_word word (codes "=") e)
                              | inr e ↦ (relation.NotEqual, same_word word (codes "!=") e)
                            ]
                        | inr e ↦ (relation.Less, same_word word (codes "<") e)
                      ]
                  | inr e ↦ (relation.LessOrEqual, same_word word (codes "<=") e)
                ]
            | inr e ↦ (relation.Greater, same_word word (codes ">") e)
          ]
      | inr e ↦ (relation.GreaterOrEqual, same_word word (codes ">=") e)
    ]

-- whether words begin with a sign
abbrev begins_signed : List (List ℕ) → Bool
begins_signed [] = false
begins_signed (word ∷ rest) = is_sign word

-- terms behind their signs, and what is left
record SignedAt (spelling : Spelling) (more : Expected) (ws : List (List ℕ)) : Type 0 where
  parts : List (List (List ℕ))
  terms : List (Sign × Term VariableName)
  rest : List (List ℕ)
  spells : AllZip (SpellsSigned spelling) parts terms
  split : ws ≡ flat_map (λ part. part) parts ++ rest
  takes : takes_all spelling more rest ≡ true
  stops : begins_signed rest ≡ false
  fits : length rest ≤ length ws

-- a sum, and what is left
record SumAt (spelling : Spelling) (more : Expected) (ws : List (List ℕ)) : Type 0 where
  front : List (List ℕ)
  sum : Expr VariableName
  rest : List (List ℕ)
  spells : SpellsSum spelling front sum
  split : ws ≡ front ++ rest
  takes : takes_all spelling more rest ≡ true
  stops : begins_signed rest ≡ false
  fits : length rest < length ws

module _ (spelling : Spelling) (term more : Expected) (goes_on : can_end term ≡ false)
    (terms : (word : List ℕ) (rest : List (List ℕ)) → takes_all spelling term (word ∷ rest) ≡ true
    → (is_term spelling word ≡ true) × (takes_all spelling more rest ≡ true))
    (signs : (word : List ℕ) (rest : List (List ℕ)) → takes_all spelling more (word ∷ rest) ≡ true
    → is_sign word ≡ true → takes_all spelling term rest ≡ true) where
  unsigned : (ws : List (List ℕ)) → takes_all spelling more ws ≡ true → begins_signed ws ≡ false
      → SignedAt spelling more ws
  unsigned ws takes stops = record {
    parts = [];
    terms = [];
    rest = ws;
    spells = tt;
    split = refl;
    takes = takes;
    stops = stops;
    fits = omega arith;
  }

  signed_there : (ws : List (List ℕ)) → takes_all spelling more ws ≡ true
      → SignedAt spelling more ws
  signed_there [] takes = unsigned [] takes refl
  signed_there (word ∷ []) takes = tested (is_sign word)
      (λ e. absurd (false≢true (sym goes_on ∙ signs word [] takes e)))
      (λ e. unsigned (word ∷ []) takes e)
  signed_there (word ∷ next ∷ ws) takes = tested (is_sign word)
      (λ e.
      let one = terms next ws (signs word (next ∷ ws) takes e) in
      let s = sign_there word e in
      let t = term_there spelling next one.0 in
      let behind = signed_there ws one.1 in
      let signed : SpellsSigned spelling (word ∷ next ∷ []) (s.0, t.0) =
      record { term = next; says = ap (λ (w : List ℕ). w ∷ next ∷ []) s.1; spells = t.1 } in
      record {
        parts = (word ∷ next ∷ []) ∷ behind.parts;
        terms = (s.0, t.0) ∷ behind.terms;
        rest = behind.rest;
        spells = (signed, behind.spells);
        split = ap (λ (l : List (List ℕ)). word ∷ next ∷ l) behind.split;
        takes = behind.takes;
        stops = behind.stops;
        fits = omega (arith, behind.fits);
      })
      (λ e. unsigned (word ∷ next ∷ ws) takes e)

  sum_there : (ws : List (List ℕ)) → takes_all spelling term ws ≡ true → SumAt spelling more ws
  sum_there [] takes = absurd (false≢true (sym goes_on ∙ takes))
  sum_there (word ∷ ws) takes =
      let one = terms word ws takes in
      let t = term_there spelling word one.0 in
      let behind = signed_there ws one.1 in
      record {
        front = word ∷ flat_map (λ part. part) behind.parts;
        sum = record { first = t.0; rest = behind.terms };
        rest = behind.rest;
        spells = record {
          first = word;
          rest = behind.parts;
          says = refl;
          begins = t.1;
          goes_on = behind.spells;
        };
        split = ap (λ (l : List (List ℕ)). word ∷ l) behind.split;
        takes = behind.takes;
        stops = behind.stops;
        fits = omega (arith, behind.fits);
      }

module _ (spelling : Spelling) where
  left_there : (ws : List (List ℕ)) → takes_all spelling LeftTerm ws ≡ true
      → SumAt spelling LeftMore ws
  left_there = sum_there spelling LeftTerm LeftMore refl
      (λ word rest takes. tested (is_term spelling word) (λ e. (e, rw e at takes))
      (λ e. absurd (false≢true (rw e at takes))))
      (λ word rest takes e. rw e at takes)

  right_there : (ws : List (List ℕ)) → takes_all spelling RightTerm ws ≡ true
      → SumAt spelling RightMore ws
  right_there = sum_there spelling RightTerm RightMore refl
      (λ word rest takes. tested (is_term spelling word) (λ e. (e, rw e at takes))
      (λ e. absurd (false≢true (rw e at takes))))
      (λ word rest takes e. rw e at takes)

  assigned_there : (ws : List (List ℕ)) → takes_all spelling SumTerm ws ≡ true
      → SumAt spelling SumMore ws
  assigned_there = sum_there spelling SumTerm SumMore refl
      (λ word rest takes. tested (is_term spelling word) (λ e. (e, rw e at takes))
      (λ e. absurd (false≢true (rw e at takes))))
      (λ word rest takes e. rw e at takes)

  -- behind the left sum of a comparison stands its relation
  related : (ws : List (List ℕ)) → takes_all spelling LeftMore ws ≡ true → begins_signed ws ≡ false
      → (word : List ℕ) × (rest : List (List ℕ)) × (ws ≡ word ∷ rest) × (is_relation word ≡ true)
      × (takes_all spelling RightTerm rest ≡ true)
  related [] takes stops = absurd (false≢true takes)
  related (word ∷ rest) takes stops = tested (is_relation word)
      (λ e. (word, rest, refl, e, rw (stops, e) at takes))
      (λ e. absurd (false≢true (rw (stops, e) at takes)))

  -- and behind the right one a mark, if the line doesn't end
  marked : (ws : List (List ℕ)) → takes_all spelling RightMore ws ≡ true → begins_signed ws ≡ false
      → (ws ≡ []) ⊎ ((rest : List (List ℕ)) × (ws ≡ codes "and" ∷ rest)
      × (takes_all spelling LeftTerm rest ≡ true))
      ⊎ ((rest : List (List ℕ)) × (ws ≡ codes "do" ∷ rest)
      × (takes_all spelling Target rest ≡ true))
  marked [] takes stops = inl refl
  marked (word ∷ rest) takes stops = tested (same_text word (codes "and"))
      (λ e. inr (inl (
        rest,
        ap (λ (w : List ℕ). w ∷ rest) (same_word word (codes "and") e),
        rw (stops, e) at takes,
      )))
      (λ e. tested (same_text word (codes "do"))
      (λ f. inr (inr (
        rest,
        ap (λ (w : List ℕ). w ∷ rest) (same_word word (codes "do") f),
        rw (stops, e, f) at takes,
      )))
      (λ f. absurd (false≢true (rw (stops, e, f) at takes))))

  -- a comparison, and what is left
  record ComparisonAt (ws : List (List ℕ)) : Type 0 where
    front : List (List ℕ)
    comparison : Comparison VariableName
    rest : List (List ℕ)
    spells : SpellsComparison spelling front comparison
    split : ws ≡ front ++ rest
    takes : takes_all spelling RightMore rest ≡ true
    stops : begins_signed rest ≡ false
    fits : length rest < length ws

  comparison_there : (ws : List (List ℕ)) → takes_all spelling LeftTerm ws ≡ true → ComparisonAt ws
  comparison_there ws takes =
      let left = left_there ws takes in
      let between = related left.rest left.takes left.stops in
      let r = relation_there between.0 between.3 in
      let right = right_there between.1 between.4 in
      let whole : ws ≡ (left.front ++ relation_word r.0 ∷ right.front) ++ right.rest
      = left.split ∙ (ap (λ (l : List (List ℕ)). left.front ++ l)
      (between.2 ∙ (ap (λ (w : List ℕ). w ∷ between.1) r.1
      ∙ ap (λ (l : List (List ℕ)). relation_word r.0 ∷ l) right.split))
      ∙ sym (append_assoc left.front (relation_word r.0 ∷ right.front) right.rest)) in
      record {
        front = left.front ++ relation_word r.0 ∷ right.front;
        comparison = record { left = left.sum; relation = r.0; right = right.sum };
        rest = right.rest;
        spells = record {
          left = left.front;
          right = right.front;
          says = refl;
          on_left = left.spells;
          on_right = right.spells;
        };
        split = whole;
        takes = right.takes;
        stops = right.stops;
        fits = omega (arith, left.fits, right.fits, ap length between.2);
      }

  -- what stands behind a guard: nothing, or assignments
  abbrev IsBehindGuard : List (List ℕ) → Type 0
  IsBehindGuard ws = (ws ≡ []) ⊎ ((rest : List (List ℕ)) × (ws ≡ codes "do" ∷ rest)
      × (takes_all spelling Target rest ≡ true))

  record GuardAt (ws : List (List ℕ)) : Type 0 where
    first : List (List ℕ)
    parts : List (List (List ℕ))
    comparison : Comparison VariableName
    more : List (Comparison VariableName)
    rest : List (List ℕ)
    spells : SpellsComparison spelling first comparison
    others : AllZip (SpellsComparison spelling) parts more
    split : ws ≡ first ++ (flat_map (λ part. codes "and" ∷ part) parts ++ rest)
    behind : IsBehindGuard rest

  guard_there : (n : ℕ) (ws : List (List ℕ)) → length ws ≤ n → takes_all spelling LeftTerm ws ≡ true
      → GuardAt ws
  guard_there zero [] fits takes = absurd (false≢true takes)
  guard_there zero (word ∷ ws) fits takes = absurd (omega arith)
  guard_there (suc n) ws fits takes =
      let one = comparison_there ws takes in
      elim (marked one.rest one.takes one.stops) [
        | inl none ↦ record {
          first = one.front;
          parts = [];
          comparison = one.comparison;
          more = [];
          rest = one.rest;
          spells = one.spells;
          others = tt;
          split = one.split;
          behind =
              inl none;
        }
        | inr (inl next) ↦
            let shorter : length next.0 ≤ n = omega (arith, fits, one.fits, ap length next.1) in
            let later = guard_there n next.0 shorter next.2 in
            record {
              first = one.front;
              parts = later.first ∷ later.parts;
              comparison = one.comparison;
              more = later.comparison ∷ later.more;
              rest = later.rest;
              spells = one.spells;
              others = (later.spells, later.others);
              split = one.split ∙ ap (λ (l : List (List ℕ)). one.front ++ l)
                  (next.1 ∙ (ap (λ (l : List (List ℕ)). codes "and" ∷ l) later.split
                  ∙ sym (append_assoc (codes "and" ∷ later.first)
                  (flat_map (λ (part : List (List ℕ)). codes "and" ∷ part) later.parts)
                  later.rest)));
              behind = later.behind;
            }
        | inr (inr next) ↦ record {
          first = one.front;
          parts = [];
          comparison = one.comparison;
          more = [];
          rest = one.rest;
          spells = one.spells;
          others = tt;
          split =
              one.split;
          behind = inr next;
        }
      ]

  -- an assignment, and what is left: nothing, or more of them
  record AssignmentAt (ws : List (List ℕ)) : Type 0 where
    front : List (List ℕ)
    assignment : Assignment VariableName
    rest : List (List ℕ)
    spells : SpellsAssignment spelling front assignment
    split : ws ≡ front ++ rest
    behind : (rest ≡ []) ⊎ ((more : List (List ℕ)) × (rest ≡ codes ";" ∷ more)
        × (takes_all spelling Target more ≡ true))
    fits : length rest < length ws

  parted : (ws : List (List ℕ)) → takes_all spelling SumMore ws ≡ true → begins_signed ws ≡ false
      → (ws ≡ []) ⊎ ((rest : List (List ℕ)) × (ws ≡ codes ";" ∷ rest)
      × (takes_all spelling Target rest ≡ true))
  parted [] takes stops = inl refl
  parted (word ∷ rest) takes stops = tested (same_text word (codes ";"))
      (λ e. inr (
        rest,
        ap (λ (w : List ℕ). w ∷ rest) (same_word word (codes ";") e),
        rw (stops, e) at takes,
      ))
      (λ e. absurd (false≢true (rw (stops, e) at takes)))

  targeted : (word : List ℕ) (rest : List (List ℕ)) → takes_all spelling Target (word ∷ rest) ≡ true
      → (is_variable spelling word ≡ true) × (takes_all spelling Becomes rest ≡ true)
  targeted word rest takes = tested (is_variable spelling word) (λ e. (e, rw e at takes))
      (λ e. absurd (false≢true (rw e at takes)))

  becomes : (word : List ℕ) (rest : List (List ℕ)) → takes_all spelling Becomes (word ∷ rest) ≡ true
      → (word ≡ codes ":=") × (takes_all spelling SumTerm rest ≡ true)
  becomes word rest takes = tested (same_text word (codes ":="))
      (λ e. (same_word word (codes ":=") e, rw e at takes))
      (λ e. absurd (false≢true (rw e at takes)))

  assignment_there : (ws : List (List ℕ)) → takes_all spelling Target ws ≡ true → AssignmentAt ws
  assignment_there [] takes = absurd (false≢true takes)
  assignment_there (word ∷ []) takes = absurd (false≢true (targeted word [] takes).1)
  assignment_there (word ∷ mark ∷ ws) takes =
      let target = targeted word (mark ∷ ws) takes in
      let sets = becomes mark ws target.1 in
      let v = variable_there spelling word target.0 in
      let sum = assigned_there ws sets.1 in
      record {
        front = word ∷ mark ∷ sum.front;
        assignment = record { target = v.0; sum = sum.sum };
        rest = sum.rest;
        spells = record {
          target = word;
          sum = sum.front;
          says = ap (λ (w : List ℕ). word ∷ w ∷ sum.front) sets.0;
          on_left = v.1;
          on_right =
              sum.spells;
        };
        split = ap (λ (l : List (List ℕ)). word ∷ mark ∷ l) sum.split;
        behind = parted sum.rest sum.takes sum.stops;
        fits = omega (arith, sum.fits);
      }

  record AssignmentsAt (ws : List (List ℕ)) : Type 0 where
    first : List (List ℕ)
    parts : List (List (List ℕ))
    assignment : Assignment VariableName
    more : List (Assignment VariableName)
    spells : SpellsAssignment spelling first assignment
    others : AllZip (SpellsAssignment spelling) parts more
    split : ws ≡ first ++ flat_map (λ part. codes ";" ∷ part) parts

  assignments_there : (n : ℕ) (ws : List (List ℕ)) → length ws ≤ n
      → takes_all spelling Target ws ≡ true → AssignmentsAt ws
  assignments_there zero [] fits takes = absurd (false≢true takes)
  assignments_there zero (word ∷ ws) fits takes = absurd (omega arith)
  assignments_there (suc n) ws fits takes =
      let one = assignment_there ws takes in
      elim one.behind [
        | inl none ↦ record {
          first = one.front;
          parts = [];
          assignment = one.assignment;
          more = [];
          spells = one.spells;
          others = tt;
          split = one.split
              ∙ ap (λ (l : List (List ℕ)). one.front ++ l) none;
        }
        | inr next ↦
            let shorter : length next.0 ≤ n = omega (arith, fits, one.fits, ap length next.1) in
            let later = assignments_there n next.0 shorter next.2 in
            record {
              first = one.front;
              parts = later.first ∷ later.parts;
              assignment = one.assignment;
              more = later.assignment ∷ later.more;
              spells = one.spells;
              others = (later.spells, later.others);
              split = one.split ∙ ap (λ (l : List (List ℕ)). one.front ++ l)
                  (next.1 ∙ ap (λ (l : List (List ℕ)). codes ";" ∷ l) later.split);
            }
      ]

  -- a guard and assignments behind a place at which a line can end
  pub record ClausesAt (ws : List (List ℕ)) : Type 0 where
    pub comparing : List (List (List ℕ))
    pub assigning : List (List (List ℕ))
    pub guard : List (Comparison VariableName)
    pub assigned : List (Assignment VariableName)
    pub compares : AllZip (SpellsComparison spelling) comparing guard
    pub assigns : AllZip (SpellsAssignment spelling) assigning assigned
    pub split : ws ≡ words_of_list (codes "when") (codes "and") (λ part. part) comparing
        ++ words_of_list (codes "do") (codes ";") (λ part. part) assigning

  -- how words go on there
  abbrev pub AreClauses : List (List ℕ) → Type 0
  AreClauses ws = IsBehindGuard ws ⊎ ((rest : List (List ℕ)) × (ws ≡ codes "when" ∷ rest)
      × (takes_all spelling LeftTerm rest ≡ true))

  record AssignedAt (ws : List (List ℕ)) : Type 0 where
    assigning : List (List (List ℕ))
    assigned : List (Assignment VariableName)
    assigns : AllZip (SpellsAssignment spelling) assigning assigned
    split : ws ≡ words_of_list (codes "do") (codes ";") (λ part. part) assigning

  assigned_behind : (ws : List (List ℕ)) → IsBehindGuard ws → AssignedAt ws
  assigned_behind ws (inl none) = record {
    assigning = [];
    assigned = [];
    assigns = tt;
    split = none;
  }
  assigned_behind ws (inr next) =
      let later = assignments_there (length next.0) next.0 (omega arith) next.2 in
      record {
        assigning = later.first ∷ later.parts;
        assigned = later.assignment ∷ later.more;
        assigns = (later.spells, later.others);
        split = next.1 ∙ ap (λ (l : List (List ℕ)). codes "do" ∷ l) later.split;
      }

  pub clauses_there : (ws : List (List ℕ)) → AreClauses ws → ClausesAt ws
  clauses_there ws (inl behind) =
      let later = assigned_behind ws behind in
      record {
        comparing = [];
        assigning = later.assigning;
        guard = [];
        assigned = later.assigned;
        compares = tt;
        assigns = later.assigns;
        split = later.split;
      }
  clauses_there ws (inr next) =
      let guard = guard_there (length next.0) next.0 (omega arith) next.2 in
      let later = assigned_behind guard.rest guard.behind in
      let guards : List (List ℕ) = flat_map (λ (part : List (List ℕ)). codes "and" ∷ part)
      guard.parts in
      record {
        comparing = guard.first ∷ guard.parts;
        assigning = later.assigning;
        guard = guard.comparison ∷ guard.more;
        assigned = later.assigned;
        compares = (guard.spells, guard.others);
        assigns = later.assigns;
        split = next.1 ∙ ap (λ (l : List (List ℕ)). codes "when" ∷ l)
            (guard.split ∙ (ap (λ (l : List (List ℕ)). guard.first ++ (guards ++ l)) later.split
            ∙ sym (append_assoc guard.first guards
            (words_of_list (codes "do") (codes ";") (λ part. part) later.assigning))));
      }

-- how words go on behind the head of a line
pub head_clauses : (ws : List (List ℕ)) → takes_all Own TransitionEnd ws ≡ true → AreClauses Own ws
head_clauses [] takes = inl (inl refl)
head_clauses (word ∷ rest) takes = tested (same_text word (codes "when"))
    (λ e. inr (
      rest,
      ap (λ (w : List ℕ). w ∷ rest) (same_word word (codes "when") e),
      rw e at takes,
    ))
    (λ e. tested (same_text word (codes "do"))
    (λ f. inl (inr (
      rest,
      ap (λ (w : List ℕ). w ∷ rest) (same_word word (codes "do") f),
      rw (e, f) at takes,
    )))
    (λ f. absurd (false≢true (rw (e, f) at takes))))

abbrev pub word_of_pair : List ℕ × List ℕ → List ℕ
word_of_pair pair = pair_word pair.0 pair.1

-- participants, and what is left
pub record PairsAt (ws : List (List ℕ)) : Type 0 where
  pub pairs : List (List ℕ × List ℕ)
  pub rest : List (List ℕ)
  pub named : All AreTwoNames pairs
  pub split : ws ≡ map word_of_pair pairs ++ rest
  pub clauses : AreClauses Shared rest

pub pair_spelled : (word : List ℕ) → is_pair word ≡ true → (p : List ℕ × List ℕ) × AreTwoNames p
    × (word ≡ word_of_pair p)
pair_spelled word is =
    let pair = pair_there word is in
    let parts = pair_is word pair.0 pair.1 in
    (pair.0, (parts.0, parts.1), parts.2)

pub pairs_there : (ws : List (List ℕ)) → takes_all Shared MoreParticipants ws ≡ true → PairsAt ws
pairs_there [] takes = record {
  pairs = [];
  rest = [];
  named = All-nil AreTwoNames;
  split = refl;
  clauses = inl (inl refl);
}
pairs_there (word ∷ ws) takes = tested (is_pair word)
    (λ e.
    let pair = pair_spelled word e in
    let behind = pairs_there ws (rw e at takes) in
    record {
      pairs = pair.0 ∷ behind.pairs;
      rest = behind.rest;
      named = All-cons AreTwoNames pair.0 behind.pairs pair.1 behind.named;
      split = ap (λ (w : List ℕ). w ∷ ws) pair.2
          ∙ ap (λ (l : List (List ℕ)). word_of_pair pair.0 ∷ l) behind.split;
      clauses = behind.clauses;
    })
    (λ e.
    let clauses = tested (same_text word (codes "when"))
    (λ f. inr (
      ws,
      ap (λ (w : List ℕ). w ∷ ws) (same_word word (codes "when") f),
      rw (e, f) at takes,
    ))
    (λ f. tested (same_text word (codes "do"))
    (λ g. inl (inr (
      ws,
      ap (λ (w : List ℕ). w ∷ ws) (same_word word (codes "do") g),
      rw (e, f, g) at takes,
    )))
    (λ g. absurd (false≢true (rw (e, f, g) at takes)))) in
    record {
      pairs = [];
      rest = word ∷ ws;
      named = All-nil AreTwoNames;
      split = refl;
      clauses = clauses;
    })

-- nothing stands behind the end of a line
pub ended : (ws : List (List ℕ)) → takes_all Own End ws ≡ true → ws ≡ []
ended [] takes = refl
ended (word ∷ ws) takes = absurd (false≢true takes)

-- a name, and what is behind it
module _ (spelling : Spelling) (place next : Expected)
    (after : (word : List ℕ) → is_name word ≡ true → after_word spelling place word ≡ Some next)
    (other : (word : List ℕ) → is_name word ≡ false → after_word spelling place word ≡ None) where
  pub named_then : (word : List ℕ) (rest : List (List ℕ))
      → takes_all spelling place (word ∷ rest) ≡ true → (is_name word ≡ true)
      × (takes_all spelling next rest ≡ true)
  named_then word rest takes = tested (is_name word) (λ e. (e, rw (after word e) at takes))
      (λ e. absurd (false≢true (rw (other word e) at takes)))

pub each_name : (ws : List (List ℕ)) → takes_all Own MoreMembers ws ≡ true → (ns : List (List ℕ))
    × (each_of name_of ws ≡ Some ns)
each_name [] takes = ([], refl)
each_name (word ∷ ws) takes =
    let one = named_then Own MoreMembers MoreMembers (λ w e. rw e refl)
    (λ w e. rw e refl) word ws takes in
    let behind = each_name ws one.1 in
    (word ∷ behind.0, rw (some_name word one.0, behind.1) refl)

pub each_pair : (pairs : List (List ℕ × List ℕ)) → All AreTwoNames pairs
    → each_of participant_of (map word_of_pair pairs) ≡ Some pairs
each_pair [] all = refl
each_pair (p ∷ pairs) all =
    let named = All-head AreTwoNames p pairs all in
    rw (pair_read p.0 p.1 named.0 named.1, each_pair pairs (All-tail AreTwoNames p pairs all)) refl

pub pairs_plain : (pairs : List (List ℕ × List ℕ)) → All AreTwoNames pairs
    → All IsUnmarked (map word_of_pair pairs)
pairs_plain [] all = All-nil IsUnmarked
pairs_plain (p ∷ pairs) all = All-cons IsUnmarked (word_of_pair p) (map word_of_pair pairs)
    (unmarked (word_of_pair p) (pair_no_mark p.0 p.1 (All-head AreTwoNames p pairs all).0))
    (pairs_plain pairs (All-tail AreTwoNames p pairs all))

pub name_plain : (word : List ℕ) → is_name word ≡ true → IsUnmarked word
name_plain word e = unmarked word (name_no_mark word (name_from word e))
