-- What a line says of a draft is told as the first fault of its words.
use Rattle.std.proofs.lemmas.Bool.Decides.{nat_tests}
use Rattle.std.proofs.Common.{◌≡◌, ℕ, Bool, true, false, cond, not, eqb, eqb-true, ◌&&◌, List, []}
use Rattle.std.proofs.Common.{◌∷◌, ◌++◌, get_or, Option, None, Some, Result, Ok, Err, refl, sym, ap}
use Rattle.std.proofs.Common.{◌∙◌, subst, inl, inr, arith, append_assoc, append-nil}
use Rattle.std.specs.Prelude.{◌⊎◌, All, is_some, position, slice_get, unwrap_or, option_and_then}
use Rattle.std.specs.List.{AllZip, list_any}
use Rattle.std.specs.Option.{option_map_or}
use Rattle.std.specs.Cmp.Lexicographic as texts
use Rattle.std.proofs.lemmas.Cmp.{nat_list_eq_equiv}
use Rattle.std.proofs.lemmas.List.Elements.{All-append, All-cons, All-head, All-nil, All-tail}
use Rattle.std.proofs.lemmas.List.Quantifiers.{position-Some}
use Rattle.std.proofs.lemmas.List.Sorted.{list_any-IsPermutation}
use Rattle.bip_model.proofs.NumberingLemmas.{by_number-IsPermutation}
use Rattle.bip_model.specs.Drafts.{by_component, participant_named, participants_named}
use Rattle.bip_model.specs.Expressions.{is_same}
use Rattle.bip_model.specs.Naming.{is_known, same_text}
use Rattle.bip_model.specs.Parts.{Participant}
use Rattle.bip_model.specs.Scopes.{assignment_said, knows_sum, shared, transfer_said}
use Rattle.bip_model.specs.Scopes.{variable_among, variable_named, variable_of}
use Rattle.bip_model.specs.declared.expressions.Assignment.{Assignment}
use Rattle.bip_model.specs.declared.expressions.Variable.{Variable}
use Rattle.bip_model.specs.declared.faults.BuildFault.{BuildFault}
use Rattle.bip_model.specs.declared.faults.BuildFault.TheVariants as build
use Rattle.bip_model.specs.declared.parts.Component.{Component}
use Rattle.bip_model.specs.declared.parts.System.{System}
use Rattle.bip_model.specs.declared.scopes.VariableName.{VariableName}
use Rattle.bip_reader.specs.Faults.{why_of_build}
use Rattle.bip_reader.specs.LineFaults.{faults_of_participant, faults_of_transfer, from_left}
use Rattle.bip_reader.specs.LineFaults.{has_declared, is_same_name, is_shared_variable}
use Rattle.bip_reader.specs.declared.faults.Why.{Why}
use Rattle.bip_reader.proofs.FirstFaultLemmas.{Tells, first_told, if_missing, if_there, made_there}
use Rattle.bip_reader.proofs.FirstFaultLemmas.{or_later, place_known, sum_told, tells_both}
use Rattle.bip_reader.proofs.FirstFaultLemmas.{told_both}

-- texts that are found are the same exactly where their places are
same_bool : (a b : Bool) → (a ≡ true → b ≡ true) → (b ≡ true → a ≡ true) → a ≡ b
same_bool true true f g = refl
same_bool false false f g = refl
same_bool true false f g = let wrong = f refl in cc
same_bool false true f g = let wrong = g refl in cc

texts_alike : (names : List (List ℕ)) (a b : List ℕ) (i j : ℕ)
    → position (same_text a) names ≡ Some i → position (same_text b) names ≡ Some j
    → same_text a b ≡ eqb j i
texts_alike names a b i j at other = same_bool (same_text a b) (eqb j i) places same
  where
    places : same_text a b ≡ true → eqb j i ≡ true
    places e =
        let one : a ≡ b = texts.same_text a b (sym e) in
        let here : Some i ≡ Some j = sym at ∙ ap (λ (t : List ℕ). position (same_text t) names) one
        ∙ other in
        let number : i ≡ j = cc in
        grind (arith, nat_tests)

    same : eqb j i ≡ true → same_text a b ≡ true
    same e =
        let number : j ≡ i = eqb-true j i e in
        let first : a ≡ get_or names i [] = texts.same_text a (get_or names i [])
        (sym (position-Some (same_text a) names i [] at).1) in
        let second : b ≡ get_or names j [] = texts.same_text b (get_or names j [])
        (sym (position-Some (same_text b) names j [] other).1) in
        let one : a ≡ b = first ∙ ap (λ k. get_or names k []) (sym number) ∙ sym second in
        subst (λ (t : List ℕ). same_text a t ≡ true) one (nat_list_eq_equiv.refl a)

no_participant : Participant
no_participant = (record { 0 = 0 }, record { 0 = 0 })

numbers_alike : (qs : List Participant) (c d : ℕ) (i j : ℕ)
    → position (λ (q : Participant). eqb q.0.0 c) qs ≡ Some i
    → position (λ (q : Participant). eqb q.0.0 d) qs ≡ Some j → eqb d c ≡ eqb j i
numbers_alike qs c d i j at other = same_bool (eqb d c) (eqb j i) places same
  where
    places : eqb d c ≡ true → eqb j i ≡ true
    places e =
        let number : d ≡ c = eqb-true d c e in
        let here : Some j ≡ Some i = sym other
        ∙ ap (λ (k : ℕ). position (λ (q : Participant). eqb q.0.0 k) qs) number ∙ at in
        let place : j ≡ i = cc in
        grind (arith, nat_tests)

    same : eqb j i ≡ true → eqb d c ≡ true
    same e =
        let place : j ≡ i = eqb-true j i e in
        let first : (get_or qs i no_participant).0.0 ≡ c =
        eqb-true _ c (position-Some (λ (q : Participant). eqb q.0.0 c) qs i no_participant
        at).1 in
        let second : (get_or qs j no_participant).0.0 ≡ d =
        eqb-true _ d (position-Some (λ (q : Participant). eqb q.0.0 d) qs j no_participant
        other).1 in
        let number : d ≡ c = sym second ∙ ap (λ k. (get_or qs k no_participant).0.0) place
        ∙ first in
        grind (arith, nat_tests)

-- one more beside one more
zip_more : {A B : Type 0} (R : A → B → Type 0) (xs : List A) (ys : List B) (x : A) (y : B)
    → AllZip R xs ys → R x y → AllZip R (xs ++ x ∷ []) (ys ++ y ∷ [])
zip_more R [] [] x y zip is = (is, tt)
zip_more R (w ∷ xs) (z ∷ ys) x y zip is = (zip.0, zip_more R xs ys x y zip.1 is)
zip_more R xs ys x y zip is = absurd (search)

any_alike : {A B : Type 0} (R : A → B → Type 0) (f : A → Bool) (g : B → Bool)
    → ((x : A) (y : B) → R x y → f x ≡ g y) → (xs : List A) (ys : List B) → AllZip R xs ys
    → list_any f xs ≡ list_any g ys
any_alike R f g alike [] [] zip = refl
any_alike R f g alike (x ∷ xs) (y ∷ ys) zip =
    rw (alike x y zip.0, any_alike R f g alike xs ys zip.1) refl
any_alike R f g alike xs ys zip = absurd (search)

-- a name that has stood, and one that hasn't
again : {A : Type 0} (X Y : Bool) (later : Option Why) (rest : Result A BuildFault) → X ≡ Y
    → Tells why_of_build later rest → Tells {A = A} why_of_build (or_later (if_there X) later)
    (cond Y (Err build.Twice) rest)
again {A} X Y later rest e is = subst (λ (b : Bool). Tells {A = A} why_of_build
    (or_later (if_there X) later) (cond b (Err build.Twice) rest)) e (by_test X)
  where
    by_test : (b : Bool) → Tells {A = A} why_of_build (or_later (if_there b) later)
        (cond b (Err build.Twice) rest)
    by_test true = (build.Twice, refl, refl)
    by_test false = is

module _ (m : System) where
  -- a word is that of a participant
  abbrev pub Stands : List ℕ × List ℕ → Participant → Type 0
  Stands word q = position (same_text word.0) m.component_names ≡ Some q.0.0

  abbrev IsNamed : List ℕ × List ℕ → Type 0
  IsNamed word = (q : Participant) × (participant_named m word ≡ Ok q) × Stands word q
      × (has_declared (λ (c : Component). c.ports) m word.0 word.1 ≡ true)

  abbrev IsUnnamed : List ℕ × List ℕ → Type 0
  IsUnnamed word = (participant_named m word ≡ Err build.Unknown)
      × (has_declared (λ (c : Component). c.ports) m word.0 word.1 ≡ false)

  participant_told : (word : List ℕ × List ℕ) → IsNamed word ⊎ IsUnnamed word
  participant_told word = by_component (position (same_text word.0) m.component_names) refl
    where
      by_port : (c : ℕ) (part : Component) (o : Option ℕ)
          → position (same_text word.0) m.component_names ≡ Some c
          → slice_get m.components c ≡ Some part → position (same_text word.1) part.ports ≡ o
          → IsNamed word ⊎ IsUnnamed word
      by_port c part None e f g = inr (
        rw (e, f, g) refl,
        rw (e, f) (place_known (same_text word.1) part.ports ∙ ap is_some g),
      )
      by_port c part (Some p) e f g = inl (
        (record { 0 = c }, record { 0 = p }),
        rw (e, f, g) refl,
        e,
        rw (e, f) (place_known (same_text word.1) part.ports ∙ ap is_some g),
      )

      by_part : (c : ℕ) (o : Option Component)
          → position (same_text word.0) m.component_names ≡ Some c → slice_get m.components c ≡ o
          → IsNamed word ⊎ IsUnnamed word
      by_part c None e f = inr (rw (e, f) refl, rw (e, f) refl)
      by_part c (Some part) e f = by_port c part (position (same_text word.1) part.ports) e f refl

      by_component : (o : Option ℕ) → position (same_text word.0) m.component_names ≡ o
          → IsNamed word ⊎ IsUnnamed word
      by_component None e = inr (rw e refl, rw e refl)
      by_component (Some c) e = by_part c (slice_get m.components c) e refl

  abbrev Words : Type 0
  Words = List (List ℕ × List ℕ)

  takes_part : (word : List ℕ × List ℕ) (q : Participant) → Stands word q
      → (befores : Words) (before : List Participant) → AllZip Stands befores before
      → list_any (λ (w : List ℕ × List ℕ). same_text word.0 w.0) befores ≡ list_any
      (λ (r : Participant). eqb r.0.0 q.0.0) before
  takes_part word q is befores before stand =
      any_alike Stands (λ w. same_text word.0 w.0) (λ r. eqb r.0.0 q.0.0)
      (λ w r at. texts_alike m.component_names word.0 w.0 q.0.0 r.0.0 is at) befores before stand

  pub participants_tell : (words befores : Words) (before : List Participant)
      → AllZip Stands befores before → Tells why_of_build
      (first_told (from_left (faults_of_participant m) befores words))
      (participants_named m before words)
  participants_tell [] befores before stand = (by_component before, refl)
  participants_tell (word ∷ words) befores before stand =
      by_word (participant_told word) (λ q is. participants_tell words (befores ++ word ∷ [])
      (before ++ q ∷ []) (zip_more Stands befores before word q stand is))
    where
      by_word : IsNamed word ⊎ IsUnnamed word
          → ((q : Participant) → Stands word q
          → Tells why_of_build (first_told
          (from_left (faults_of_participant m) (befores ++ word ∷ []) words))
          (participants_named m (before ++ q ∷ []) words))
          → Tells why_of_build (first_told (from_left (faults_of_participant m) befores
          (word ∷ words))) (participants_named m before (word ∷ words))
      by_word (inr h) more = rw (h.1, h.0) (build.Unknown, refl, refl)
      by_word (inl h) more =
          let q : Participant = h.0 in
          rw (h.3, h.1) (again (list_any (λ (w : List ℕ × List ℕ). same_text word.0 w.0) befores)
          (list_any (λ (r : Participant). eqb r.0.0 q.0.0) before)
          (first_told (from_left (faults_of_participant m) (befores ++ word ∷ []) words))
          (participants_named m (before ++ q ∷ []) words)
          (takes_part word q h.2 befores before stand) (more q h.2))

  abbrev pub AreNamed : Words → List Participant → Type 0
  AreNamed words named = (qs : List Participant) × AllZip Stands words qs
      × (named ≡ by_component qs)

  pub participants_stand : (words befores : Words) (before named : List Participant)
      → AllZip Stands befores before → participants_named m before words ≡ Ok named
      → AreNamed (befores ++ words) named
  participants_stand [] befores before named stand e = let same : by_component before ≡ named =
      cc in (before, rw (append-nil befores) stand, sym same)
  participants_stand (word ∷ words) befores before named stand e =
      by_word (participant_told word) (λ q is e'. participants_stand words (befores ++ word ∷ [])
      (before ++ q ∷ []) named (zip_more Stands befores before word q stand is) e')
    where
      by_word : IsNamed word ⊎ IsUnnamed word
          → ((q : Participant) → Stands word q
          → participants_named m (before ++ q ∷ []) words ≡ Ok named
          → AreNamed ((befores ++ word ∷ []) ++ words) named)
          → AreNamed (befores ++ word ∷ words) named
      by_word (inr h) more = let wrong = rw h.0 at e in cc
      by_word (inl h) more = by_test (list_any (λ (r : Participant). eqb r.0.0 h.0.0.0) before)
          (rw h.1 at e)
        where
          by_test : (b : Bool) → cond b (Err build.Twice)
              (participants_named m (before ++ h.0 ∷ []) words) ≡ Ok named
              → AreNamed (befores ++ word ∷ words) named
          by_test true e' = cc
          by_test false e' = subst (λ (ws : Words). AreNamed ws named)
              (append_assoc befores (word ∷ []) words) (more h.0 h.2 e')

  -- `C.v` is a variable of a participant exactly where it is found
  and_none : (b : Bool) → (b && false) ≡ false
  and_none true = refl
  and_none false = refl

  pub shared_there : (words : Words) (qs : List Participant) → AllZip Stands words qs
      → (v : VariableName) → is_shared_variable m words v ≡ is_some (shared m (by_component qs) v)
  shared_there words qs stand v = by_owner v.owner refl
    where
      by_part : (i : ℕ) (o : Option Component)
          → option_map_or (λ (c : Component). is_known v.name c.variables) o false ≡ is_some
          (option_and_then (λ (c : Component). variable_named c.variables i v.name) o)
      by_part i None = refl
      by_part i (Some part) = place_known (same_text v.name) part.variables
          ∙ sym (made_there {B = Variable} (λ n. record { owner = i; number = record { 0 = n } })
          (position (same_text v.name) part.variables))

      by_place : (c : ℕ) (x : Bool) (o : Option ℕ) → x ≡ is_some o
          → (x && option_map_or (λ (d : Component). is_known v.name d.variables)
          (slice_get m.components c) false) ≡ is_some
          (option_and_then (λ i. option_and_then
          (λ (d : Component). variable_named d.variables i v.name) (slice_get m.components c))
          o)
      by_place c x None e = rw e refl
      by_place c x (Some i) e = rw e (by_part i (slice_get m.components c))

      among : (owner : List ℕ) (c : ℕ) → position (same_text owner) m.component_names ≡ Some c
          → list_any (λ (w : List ℕ × List ℕ). same_text owner w.0) words ≡ is_some
          (position (λ (q : Participant). eqb q.0.0 c) (by_component qs))
      among owner c e =
          any_alike Stands (λ w. same_text owner w.0) (λ q. eqb q.0.0 c)
          (λ w q at. texts_alike m.component_names owner w.0 c q.0.0 e at) words qs stand
          ∙ list_any-IsPermutation (λ (q : Participant). eqb q.0.0 c) qs (by_component qs)
          (by_number-IsPermutation (λ (q : Participant). q.0.0) qs)
          ∙ place_known (λ (q : Participant). eqb q.0.0 c) (by_component qs)

      by_number : (owner : List ℕ) (o : Option ℕ) → position (same_text owner) m.component_names ≡ o
          → (list_any (λ (w : List ℕ × List ℕ). same_text owner w.0) words && has_declared
          (λ (c : Component). c.variables) m owner v.name) ≡ is_some
          (variable_among m (by_component qs) owner v.name)
      by_number owner None e = rw e (and_none
          (list_any (λ (w : List ℕ × List ℕ). same_text owner w.0) words))
      by_number owner (Some c) e = rw e (by_place c
          (list_any (λ (w : List ℕ × List ℕ). same_text owner w.0) words)
          (position (λ (q : Participant). eqb q.0.0 c) (by_component qs)) (among owner c e))

      by_owner : (o : Option (List ℕ)) → v.owner ≡ o
          → is_shared_variable m words v ≡ is_some (shared m (by_component qs) v)
      by_owner None e = rw e refl
      by_owner (Some owner) e = rw e (by_number owner
          (position (same_text owner) m.component_names) refl)

  -- where a variable was found
  record IsAt (qs : List Participant) (v : VariableName) : Type 0 where
    owner : List ℕ
    component : ℕ
    place : ℕ
    part : Component
    number : ℕ
    owned : v.owner ≡ Some owner
    named : position (same_text owner) m.component_names ≡ Some component
    placed : position (λ (q : Participant). eqb q.0.0 component) qs ≡ Some place
    declared : slice_get m.components component ≡ Some part
    numbered : position (same_text v.name) part.variables ≡ Some number

  found_at : (qs : List Participant) (v : VariableName) → is_some (shared m qs v) ≡ true → IsAt qs v
  found_at qs v found = by_owner v.owner refl
      (λ owner e. by_component owner (position (same_text owner) m.component_names) e refl)
    where
      by_number : (owner : List ℕ) (c i : ℕ) (part : Component) (o : Option ℕ)
          → v.owner ≡ Some owner → position (same_text owner) m.component_names ≡ Some c
          → position (λ (q : Participant). eqb q.0.0 c) qs ≡ Some i
          → slice_get m.components c ≡ Some part → position (same_text v.name) part.variables ≡ o
          → IsAt qs v
      by_number owner c i part None e f g h k = let wrong = rw (e, f, g, h, k) at found in cc
      by_number owner c i part (Some n) e f g h k =
          record {
            owner = owner;
            component = c;
            place = i;
            part = part;
            number = n;
            owned = e;
            named = f;
            placed = g;
            declared = h;
            numbered = k;
          }

      by_part : (owner : List ℕ) (c i : ℕ) (o : Option Component) → v.owner ≡ Some owner
          → position (same_text owner) m.component_names ≡ Some c
          → position (λ (q : Participant). eqb q.0.0 c) qs ≡ Some i → slice_get m.components c ≡ o
          → IsAt qs v
      by_part owner c i None e f g h = let wrong = rw (e, f, g, h) at found in cc
      by_part owner c i (Some part) e f g h =
          by_number owner c i part (position (same_text v.name) part.variables) e f g h refl

      by_place : (owner : List ℕ) (c : ℕ) (o : Option ℕ) → v.owner ≡ Some owner
          → position (same_text owner) m.component_names ≡ Some c
          → position (λ (q : Participant). eqb q.0.0 c) qs ≡ o → IsAt qs v
      by_place owner c None e f g = let wrong = rw (e, f, g) at found in cc
      by_place owner c (Some i) e f g = by_part owner c i (slice_get m.components c) e f g refl

      by_component : (owner : List ℕ) (o : Option ℕ) → v.owner ≡ Some owner
          → position (same_text owner) m.component_names ≡ o → IsAt qs v
      by_component owner None e f = let wrong = rw (e, f) at found in cc
      by_component owner (Some c) e f = by_place owner c
          (position (λ (q : Participant). eqb q.0.0 c) qs) e f refl

      by_owner : (o : Option (List ℕ)) → v.owner ≡ o
          → ((owner : List ℕ) → v.owner ≡ Some owner → IsAt qs v) → IsAt qs v
      by_owner None e next = let wrong = rw e at found in cc
      by_owner (Some owner) e next = next owner e

  variable_at : (qs : List Participant) (v : VariableName) (at : IsAt qs v)
      → shared m qs v ≡ Some (record { owner = at.place; number = record { 0 = at.number } })
  variable_at qs v at = rw (at.owned, at.named, at.placed, at.declared, at.numbered) refl

  both_alike : (a b c d : Bool) → a ≡ c → (a ≡ true → b ≡ d) → (a && b) ≡ (c && d)
  both_alike true b c d e f = rw (← e) (f refl)
  both_alike false b c d e f = rw (← e) refl

  -- names of variables that are found are the same exactly where the variables are
  pub targets_alike : (qs : List Participant) (v w : VariableName) → is_some (shared m qs v) ≡ true
      → is_some (shared m qs w) ≡ true → is_same_name v w ≡ is_same (variable_of (shared m qs) w)
      (variable_of (shared m qs) v)
  targets_alike qs v w found other =
      let one = found_at qs v found in
      let two = found_at qs w other in
      let owners = texts_alike m.component_names one.owner two.owner one.component two.component
      one.named two.named in
      let places = numbers_alike qs one.component two.component one.place two.place one.placed
      two.placed in
      let find : VariableName → Option Variable = shared m qs in
      let first : Variable = record { owner = one.place; number = record { 0 = one.number } } in
      let second : Variable = record { owner = two.place; number = record { 0 = two.number } } in
      let none : Variable = record { owner = 0; number = record { 0 = 0 } } in
      let names : is_same_name v w ≡ (same_text one.owner two.owner && same_text v.name w.name) =
      ap (λ (o : Option (List ℕ)). same_text (unwrap_or o []) (unwrap_or w.owner [])
      && same_text v.name w.name) one.owned
      ∙ ap (λ (o : Option (List ℕ)). same_text one.owner (unwrap_or o [])
      && same_text v.name w.name) two.owned
      in
      let variables : is_same (variable_of find w) (variable_of find v) ≡ is_same second first =
      ap (λ (o : Option Variable). is_same (unwrap_or o none) (variable_of find v))
      (variable_at qs w two)
      ∙ ap (λ (o : Option Variable). is_same second (unwrap_or o none)) (variable_at qs v one)
      in
      names
      ∙ both_alike (same_text one.owner two.owner) (same_text v.name w.name)
      (eqb two.place one.place) (eqb two.number one.number) (owners ∙ places) (λ e.
      let number : two.component ≡ one.component =
      eqb-true two.component one.component (sym owners ∙ e) in
      let part : Some two.part ≡ Some one.part = sym two.declared
      ∙ ap (slice_get m.components) number ∙ one.declared in
      let same : two.part ≡ one.part = cc in
      texts_alike one.part.variables v.name w.name one.number two.number one.numbered
      (subst (λ (p : Component). position (same_text w.name) p.variables ≡ Some two.number) same
      two.numbered))
      ∙ sym variables

-- nothing more is said
abbrev said : Unit {0}
said = tt

-- the assignments of a transfer
module _ (find : VariableName → Option Variable) (is_there : VariableName → Bool)
    (same : (v : VariableName) → is_there v ≡ is_some (find v))
    (alike : (v w : VariableName) → is_some (find v) ≡ true → is_some (find w) ≡ true
    → is_same_name v w ≡ is_same (variable_of find w) (variable_of find v)) where
  abbrev Before : List (Assignment VariableName) → Type 0
  Before before = All (λ (b : Assignment VariableName). is_some (find b.target) ≡ true) before

  targets_told : (before : List (Assignment VariableName)) (a : Assignment VariableName)
      → Before before → is_some (find a.target) ≡ true
      → list_any (λ (b : Assignment VariableName). is_same_name a.target b.target) before ≡ list_any
      (λ (b : Assignment VariableName). is_same (variable_of find b.target)
      (variable_of find a.target)) before
  targets_told [] a known there = refl
  targets_told (b ∷ before) a known there =
      rw (
        alike a.target b.target there (All-head
            (λ (c : Assignment VariableName). is_some (find c.target) ≡ true) b before known),
        targets_told before a (All-tail (λ (c : Assignment VariableName). is_some (find c.target)
            ≡ true) b before known) there,
      ) refl

  assignment_tells : (before : List (Assignment VariableName)) (a : Assignment VariableName)
      → Before before → Tells why_of_build (first_told (faults_of_transfer is_there before a))
      (assignment_said find before a)
  assignment_tells before a known = rw (same a.target, sum_told find is_there same a.sum)
      (by_target (is_some (find a.target)) refl)
    where
      rest : (x y k : Bool) → x ≡ y → Tells why_of_build (or_later (if_there x) (if_missing k))
          (cond y (Err build.Twice) (cond (not k) (Err build.Unknown) (Ok said)))
      rest x y k e = again x y (if_missing k) (cond (not k) (Err build.Unknown) (Ok said)) e
          (by_sum k)
        where
          by_sum : (b : Bool) → Tells why_of_build (if_missing b)
              (cond (not b) (Err build.Unknown) (Ok said))
          by_sum true = (said, refl)
          by_sum false = (build.Unknown, refl, refl)

      by_target : (b : Bool) → is_some (find a.target) ≡ b
          → Tells why_of_build (or_later (if_missing b)
          (or_later (if_there (list_any (λ (c : Assignment VariableName). is_same_name a.target
          c.target) before)) (if_missing (knows_sum find a.sum))))
          (cond (not b) (Err build.Unknown) (cond
          (list_any (λ (c : Assignment VariableName). is_same (variable_of find c.target)
          (variable_of find a.target)) before) (Err build.Twice)
          (cond (not (knows_sum find a.sum)) (Err build.Unknown) (Ok said))))
      by_target false e = (build.Unknown, refl, refl)
      by_target true e = rest _ _ (knows_sum find a.sum) (targets_told before a known e)

  assignment_known : (before : List (Assignment VariableName)) (a : Assignment VariableName)
      (x : Unit {0}) → assignment_said find before a ≡ Ok x → is_some (find a.target) ≡ true
  assignment_known before a x e = by_target (is_some (find a.target)) refl
    where
      by_target : (b : Bool) → is_some (find a.target) ≡ b → b ≡ true
      by_target true f = refl
      by_target false f = let wrong = rw f at e in cc

  assignments_tell : (rest before : List (Assignment VariableName)) → Before before
      → Tells why_of_build (first_told (from_left (faults_of_transfer is_there) before rest))
      (transfer_said find before rest)
  assignments_tell [] before known = (said, refl)
  assignments_tell (a ∷ rest) before known =
      rw (told_both (faults_of_transfer is_there before a)
      (from_left (faults_of_transfer is_there) (before ++ a ∷ []) rest))
      (tells_both why_of_build (first_told (faults_of_transfer is_there before a))
      (first_told (from_left (faults_of_transfer is_there) (before ++ a ∷ []) rest))
      (assignment_said find before a) (λ _. transfer_said find (before ++ a ∷ []) rest)
      (assignment_tells before a known) (λ x e.
      assignments_tell rest (before ++ a ∷ [])
      (All-append (λ (b : Assignment VariableName). is_some (find b.target) ≡ true) before
      (a ∷ []) known
      (All-cons (λ (b : Assignment VariableName). is_some (find b.target) ≡ true) a []
      (assignment_known before a x e) (All-nil
      (λ (b : Assignment VariableName). is_some (find b.target) ≡ true))))))

  pub transfer_tells : (transfer : List (Assignment VariableName))
      → Tells why_of_build (first_told (from_left (faults_of_transfer is_there) [] transfer))
      (transfer_said find [] transfer)
  transfer_tells transfer = assignments_tell transfer []
      (All-nil (λ (b : Assignment VariableName). is_some (find b.target) ≡ true))
