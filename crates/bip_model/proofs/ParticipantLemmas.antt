-- Participants: those that words name, and that they are few.
use Rattle.std.proofs.Common.{arith, ◌≡◌, ℕ, ◌+◌, ◌<◌, ◌≤◌, Bool, not, true, false, cond, eqb, List}
use Rattle.std.proofs.Common.{[], ◌∷◌, ◌++◌, length, map, get_or, Option, None, Some, Ok, Err, refl}
use Rattle.std.proofs.Common.{sym, ap, ◌∙◌, All, IfOk, Result, position, slice_get, ok_or}
use Rattle.std.specs.List.{IsDistinct, list_any}
use Rattle.std.specs.List.Sorted.{IsNonDecreasingBy, IsPermutation, IsStrictlyIncreasing}
use Rattle.std.proofs.lemmas.List.{append_assoc, append-nil, get_or-map, length_push, length-map}
use Rattle.std.proofs.lemmas.List.{map-id}
use Rattle.std.proofs.lemmas.List.Folds.{map_fixed}
use Rattle.std.proofs.lemmas.Simd.{map-map}
use Rattle.std.proofs.lemmas.Result.{IfOk-at_ok, IfOk-weaker}
use Rattle.std.proofs.lemmas.List.Elements.{All-map, All-nil, All-push, All-same}
use Rattle.std.proofs.lemmas.List.Quantifiers.{position-Some}
use Rattle.std.proofs.lemmas.List.Sorted.{All-permutation, IsPermutation-map, IsPermutation-sym}
use Rattle.std.proofs.lemmas.List.Sorted.{IsPermutation-trans, length_permutation}
use Rattle.std.proofs.lemmas.Option.{slice_get_within}
use Rattle.bip_model.specs.Components.{number_in}
use Rattle.bip_model.specs.Drafts.{by_component, participant_named, participants_named}
use Rattle.bip_model.specs.Laws.{AreNamed, NamesInAnyOrder, NamesParticipants}
use Rattle.bip_model.specs.Naming.{same_text}
use Rattle.bip_model.specs.Faults.{◌>>=◌}
use Rattle.bip_model.specs.Parts.{IsPortIn, IsSystemSoFar, Participant, components_in}
use Rattle.bip_model.specs.declared.faults.BuildFault.{BuildFault}
use Rattle.bip_model.specs.declared.faults.BuildFault.TheVariants.{Twice, Unknown}
use Rattle.bip_model.specs.declared.parts.Component.{Component}
use Rattle.bip_model.specs.declared.parts.System.{System}
use Rattle.bip_model.proofs.NumberingLemmas.{apart_from_rises, by_number-IsPermutation}
use Rattle.bip_model.proofs.NumberingLemmas.{by_number-is, by_number-rises, few_below}
use Rattle.bip_model.proofs.NumberingLemmas.{increasing_from_rises, numbered_moved, numbered_new}
use Rattle.bip_model.proofs.NumberingLemmas.{numbered_push, rises_from_increasing, sorted-is}

abbrev pub component_of : Participant → ℕ
component_of q = q.0.0

-- the participants of components that are there, each with a port of it, of different components
pub record AreParticipants (components : List Component) (qs : List Participant) : Type 0 where
  pub apart : IsDistinct eqb (components_in qs)
  pub ports : All (IsPortIn components) qs

pub none_valid : (components : List Component) → AreParticipants components []
unfolding IsDistinct
none_valid components = record { apart = tt; ports = All-nil (IsPortIn components) }

pub push_valid : (components : List Component) (q : Participant) (qs : List Participant)
    → AreParticipants components qs → IsPortIn components q
    → list_any (λ (r : Participant). eqb r.0.0 q.0.0) qs ≡ false
    → AreParticipants components (qs ++ q ∷ [])
push_valid components q qs valid port new =
    record {
      apart = numbered_push component_of q qs new valid.apart;
      ports = All-push (IsPortIn components) qs q valid.ports port;
    }

-- participants are no more than components
pub few_participants : (components : List Component) (qs : List Participant)
    → AreParticipants components qs → length qs ≤ length components
few_participants components qs valid =
    few_below component_of (length components) qs valid.apart
    (λ k d within. (valid.ports k d within).component)

-- what the sort leaves of participants of different components
pub sorted_by_component : (qs rs : List Participant) → IsDistinct eqb (components_in qs)
    → IsPermutation qs rs → IsNonDecreasingBy component_of rs → by_component qs ≡ rs
sorted_by_component qs rs apart moved up = sorted-is component_of qs rs moved up apart

-- what holds of a good answer behind a test that stops, or lets go on, and behind an answer that is
-- gone on with
pub guarded : {X : Type 0} (P : X → Type 0) (b : Bool) (e : BuildFault) (r : Result X BuildFault)
    → (b ≡ false → IfOk r P) → IfOk (cond b (Err e) r) P
guarded P true e r holds = tt
guarded P false e r holds = holds refl

pub allowed : {X : Type 0} (P : X → Type 0) (b : Bool) (e : BuildFault) (r : Result X BuildFault)
    → (b ≡ true → IfOk r P) → IfOk (cond (not b) (Err e) r) P
allowed P true e r holds = holds refl
allowed P false e r holds = tt

pub bound : {A B : Type 0} (P : B → Type 0) (r : Result A BuildFault) (f : A → Result B BuildFault)
    → ((x : A) → r ≡ Ok x → IfOk (f x) P) → IfOk (r >>= f) P
bound P (Ok x) f holds = holds x refl
bound P (Err e) f holds = tt

-- an answer of what may be missing was there
ok_or_some : {X : Type 0} (o : Option X) (x : X) → ok_or o Unknown ≡ Ok x → o ≡ Some x
ok_or_some None x is = cc
ok_or_some (Some y) x is = cc

-- the number of a name is below how many names there are
pub number_in-below : (names : List (List ℕ)) (name : List ℕ) (i : ℕ) → number_in names name ≡ Ok i
    → i < length names
number_in-below names name i is = (position-Some (same_text name) names i []
    (ok_or_some (position (same_text name) names) i is)).0

-- a participant that a text names is there, with its port
pub participant_named-valid : (m : System) (word : List ℕ × List ℕ)
    → IfOk (participant_named m word) (IsPortIn m.components)
participant_named-valid m word =
    bound (IsPortIn m.components) (number_in m.component_names word.0) _ (λ c is_c.
    bound (IsPortIn m.components) (ok_or (slice_get m.components c) Unknown) _
    (λ component is_component.
    bound (IsPortIn m.components) (number_in component.ports word.1) _ (λ p is_p.
    let at = ok_or_some (slice_get m.components c) component is_component in
    record {
      component = slice_get_within m.components c component at;
      port = rw at (number_in-below component.ports word.1 p is_p);
    })))

-- one more word that names a new participant
pub named_more : (m : System) (found : List Participant) (left rest : List (List ℕ × List ℕ))
    (word : List ℕ × List ℕ) (q : Participant) → left ≡ word ∷ rest
    → participant_named m word ≡ Ok q → list_any (λ (r : Participant). eqb r.0.0 q.0.0) found
    ≡ false → AreParticipants m.components found
    → (participants_named m found left ≡ participants_named m (found ++ q ∷ []) rest)
    × AreParticipants m.components (found ++ q ∷ []) × (length found < length m.components)
named_more m found left rest word q next names new valid =
    let valid' = push_valid m.components q found valid
    (IfOk-at_ok (IsPortIn m.components) names (participant_named-valid m word)) new in (
      rw (next, names, new) refl,
      valid',
      omega (
        arith,
        length_push found q,
        few_participants m.components (found ++ q ∷ []) valid',
      ),
    )

-- one more word that names a participant again
pub named_twice : (m : System) (found : List Participant) (left rest : List (List ℕ × List ℕ))
    (word : List ℕ × List ℕ) (q : Participant) → left ≡ word ∷ rest
    → participant_named m word ≡ Ok q → list_any (λ (r : Participant). eqb r.0.0 q.0.0) found ≡ true
    → participants_named m found left ≡ Err Twice
named_twice m found left rest word q next names again = rw (next, names, again) refl

-- no more words
pub participants_named-end : (m : System) (found : List Participant) (left : List (List ℕ × List ℕ))
    → left ≡ [] → Ok (by_component found) ≡ participants_named m found left
participants_named-end m found left none = rw none refl

-- what words name, behind what was found before them
record AreNamedAfter (m : System) (before : List Participant) (words : List (List ℕ × List ℕ))
    (qs : List Participant) : Type 0 where
  named : List Participant
  one_each : map (participant_named m) words ≡ map Ok named
  apart : IsDistinct eqb (components_in (before ++ named))
  all : by_component (before ++ named) ≡ qs

named_after : (m : System) (before : List Participant) (words : List (List ℕ × List ℕ))
    → IsDistinct eqb (components_in before) → IfOk (participants_named m before words)
    (AreNamedAfter m before words)
named_after m before [] apart =
    let e = append-nil before in
    record { named = []; one_each = refl; apart = rw e apart; all = rw e refl }
named_after m before (word ∷ words) apart =
    bound (AreNamedAfter m before (word ∷ words)) (participant_named m word) _ (λ q is_q.
    guarded (AreNamedAfter m before (word ∷ words))
    (list_any (λ (r : Participant). eqb r.0.0 q.0.0) before) Twice _ (λ new.
    IfOk-weaker (participants_named m (before ++ q ∷ []) words)
    (AreNamedAfter m (before ++ q ∷ []) words) _ (λ qs rest.
    let e = append_assoc before (q ∷ []) rest.named in
    record {
      named = q ∷ rest.named;
      one_each = cc (is_q, rest.one_each);
      apart = rw e at rest.apart;
      all = rw e at rest.all;
    })
    (named_after m (before ++ q ∷ []) words (numbered_push component_of q before new apart))))

-- participants that are named come back by component
ok_after : (m : System) (before : List Participant) (words : List (List ℕ × List ℕ))
    (named : List Participant) → map (participant_named m) words ≡ map Ok named
    → IsDistinct eqb (components_in (before ++ named))
    → participants_named m before words ≡ Ok (by_component (before ++ named))
ok_after m before [] [] each apart = rw (append-nil before) refl
ok_after m before [] (q ∷ named) each apart = cc
ok_after m before (word ∷ words) [] each apart = cc
ok_after m before (word ∷ words) (q ∷ named) each apart =
    let first : participant_named m word ≡ Ok q = cc in
    let rest : map (participant_named m) words ≡ map Ok named = cc in
    let new : list_any (λ (r : Participant). eqb r.0.0 q.0.0) before ≡ false =
    numbered_new component_of before q named apart in
    let e : (before ++ q ∷ []) ++ named ≡ before ++ q ∷ named =
    append_assoc before (q ∷ []) named in
    rw (first, new) (ok_after m (before ++ q ∷ []) words named rest (rw (sym e) at apart)
    ∙ ap (λ (rs : List Participant). Ok (by_component rs)) e)

pub names_participants : NamesParticipants
unfolding IsDistinct
names_participants m words qs = (from, to)
  where
    from : participants_named m [] words ≡ Ok qs → AreNamed m words qs
    from is =
        let after' = IfOk-at_ok (AreNamedAfter m [] words) is (named_after m [] words tt) in
        record {
          named = after'.named;
          one_each = after'.one_each;
          these = rw after'.all at (by_number-IsPermutation component_of after'.named);
          rising = increasing_from_rises (components_in qs)
              (rw after'.all at (by_number-rises component_of after'.named after'.apart));
        }

    to : AreNamed m words qs → participants_named m [] words ≡ Ok qs
    to n =
        let rises = rises_from_increasing (components_in qs) n.rising in
        let apart = numbered_moved component_of qs n.named (IsPermutation-sym n.named qs n.these)
        (apart_from_rises (components_in qs) rises) in
        ok_after m [] words n.named n.one_each apart
        ∙ ap Ok (by_number-is component_of n.named qs n.these rises)

-- where words name participants, these stand by component, are there, and are as many
pub named_valid : (m : System) (words : List (List ℕ × List ℕ)) (qs : List Participant)
    → participants_named m [] words ≡ Ok qs → (length qs ≡ length words)
    × IsStrictlyIncreasing (components_in qs) × All (IsPortIn m.components) qs
named_valid m words qs is =
    let n = (names_participants m words qs).0 is in
    let P : Result Participant BuildFault → Type 0 = λ r. IfOk r (IsPortIn m.components) in
    let good : All P (map Ok n.named) = rw n.one_each at
    (All-map P (participant_named m) words
    (λ k d within. participant_named-valid m (get_or words k d))) in
    let ports : All (IsPortIn m.components) n.named =
    λ k d within. rw (get_or-map {Y = Result Participant BuildFault} Ok n.named k d
    (Ok d) within) at (good k (Ok d) (simp length-map within)) in (
      length_permutation n.named qs n.these ∙ sym (simp length-map at (ap length n.one_each)),
      n.rising,
      All-permutation (IsPortIn m.components) n.named qs n.these ports,
    )

-- what a word names; any participant where it names none
abbrev named_by : Result Participant BuildFault → Participant
named_by (Ok q) = q
named_by (Err e) = (record { 0 = 0 }, record { 0 = 0 })

-- the order of the words doesn't count
pub names_in_any_order : NamesInAnyOrder
names_in_any_order m words others qs moved is =
    let n = (names_participants m words qs).0 is in
    let found : List (Result Participant BuildFault) = map (participant_named m) words in
    let found' : List (Result Participant BuildFault) = map (participant_named m) others in
    let IsGood : Result Participant BuildFault → Type 0 = λ r. Ok (named_by r) ≡ r in
    let across : IsPermutation found found' =
    IsPermutation-map (participant_named m) words others moved in
    let good : All IsGood found' = All-permutation IsGood found found' across
    (All-same IsGood found (map Ok n.named) n.one_each
    (All-map IsGood Ok n.named (λ k d within. refl))) in
    let same : map named_by found ≡ n.named = ap (map named_by) n.one_each
    ∙ (map-map named_by Ok n.named ∙ map-id n.named) in
    let named_moved : IsPermutation n.named (map named_by found') =
    rw same at (IsPermutation-map named_by found found' across) in
    (names_participants m others qs).1 (record {
      named = map named_by found';
      one_each = sym (map-map Ok named_by found' ∙ map_fixed (λ r. Ok (named_by r)) found' good);
      these = IsPermutation-trans (map named_by found') n.named qs
          (IsPermutation-sym n.named (map named_by found') named_moved) n.these;
      rising = n.rising;
    })

named_count : (m : System) (before : List Participant) (words : List (List ℕ × List ℕ))
    → IfOk (participants_named m before words)
    (λ found. length found ≡ length before + length words)
named_count m before [] = omega (
  arith,
  length_permutation before (by_component
      before) (by_number-IsPermutation component_of before),
)
named_count m before (word ∷ words) =
    let P : List Participant → Type 0 = λ found. length found ≡ length before + length
    (word ∷ words) in
    bound P (participant_named m word) _ (λ q is_q.
    guarded P (list_any (λ (r : Participant). eqb r.0.0 q.0.0) before) Twice _ (λ new.
    IfOk-weaker (participants_named m (before ++ q ∷ []) words)
    (λ found. length found ≡ length (before ++ q ∷ []) + length words) P
    (λ found as_many. omega (arith, as_many, length_push before q))
    (named_count m (before ++ q ∷ []) words)))

-- the participants that words name behind others are as many as both
pub named_length : (m : System) (before : List Participant) (words : List (List ℕ × List ℕ))
    (found : List Participant) → participants_named m before words ≡ Ok found
    → length found ≡ length before + length words
named_length m before words found is =
    IfOk-at_ok (λ (found : List Participant). length found ≡ length before + length words) is
    (named_count m before words)

-- the participants that words name are at most 64
pub named_few : (m : System) (words : List (List ℕ × List ℕ)) (found : List Participant)
    → IsSystemSoFar m → participants_named m [] words ≡ Ok found → length found ≤ 64
named_few m words found so_far is =
    let valid = named_valid m words found is in
    let apart = apart_from_rises (components_in found)
    (rises_from_increasing (components_in found) valid.1) in
    omega (
      arith,
      few_participants m.components found (record { apart = apart; ports = valid.2 }),
      so_far.enough_names,
      so_far.few_components,
    )
