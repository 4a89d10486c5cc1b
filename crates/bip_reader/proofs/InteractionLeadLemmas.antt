-- What the lines of all interactions lead to.
use Rattle.std.proofs.Common.{◌≡◌, ℕ, suc, ◌<◌, false, eqb, List, [], ◌∷◌, ◌++◌, length, get_or}
use Rattle.std.proofs.Common.{map, take, Option, None, Some, Ok, refl, ap, ◌∙◌, sym, arith}
use Rattle.std.proofs.Common.{length-take-le}
use Rattle.std.specs.Prelude.{All, codes, nat_le, nat_lt}
use Rattle.std.proofs.Math.Seq.{take-length}
use Rattle.std.proofs.lemmas.Bool.Decides.{nat_tests}
use Rattle.std.proofs.lemmas.List.{length-map}
use Rattle.std.proofs.lemmas.List.Elements.{All-cons, All-head, All-map, All-nil, All-tail}
use Rattle.std.proofs.lemmas.List.Elements.{All-weaker}
use Rattle.std.proofs.lemmas.List.Sorted.{IsPermutation-refl}
use Rattle.std.proofs.lemmas.Option.{slice_get-get_or}
use Rattle.bip_model.specs.Components.{no_component}
use Rattle.bip_model.specs.Drafts.{no_system, participant_named, participants_named}
use Rattle.bip_model.specs.Expressions.{IsAssignmentIn, IsVariableIn}
use Rattle.bip_model.specs.Naming.{IsName, is_known, name_in}
use Rattle.bip_model.specs.Parts.{IsInteraction, IsPortIn, IsSystem, Participant, counts_of}
use Rattle.bip_model.specs.Scopes.{assignment_with, comparison_with, shared}
use Rattle.bip_model.specs.declared.expressions.Assignment.{Assignment}
use Rattle.bip_model.specs.declared.expressions.Comparison.{Comparison}
use Rattle.bip_model.specs.declared.expressions.Variable.{Variable}
use Rattle.bip_model.specs.declared.partitions.Partition.{Partition}
use Rattle.bip_model.specs.declared.parts.Interaction.{Interaction}
use Rattle.bip_model.specs.declared.parts.System.{System}
use Rattle.bip_model.specs.declared.scopes.VariableName.{VariableName}
use Rattle.bip_model.proofs.ParticipantLemmas.{names_participants}
use Rattle.bip_model.proofs.WrittenLemmas.{IsWord, names-word, position-name, unknown_before_it}
use Rattle.bip_reader.specs.Statements.{interaction_form, keyword_of, name_and_words}
use Rattle.bip_model.specs.Words.{each_of, participant_of}
use Rattle.bip_reader.specs.Writing.{CanBeSpelled, IsSpelledInteraction, component_in}
use Rattle.bip_reader.specs.Writing.{interaction_in, line_of_interaction, lines_of_interactions}
use Rattle.bip_reader.specs.Writing.{own_word, participant_word, shared_word, words_of_assignments}
use Rattle.bip_reader.specs.Writing.{words_of_guard}
use Rattle.bip_model.specs.declared.clauses.Spelling.TheVariants.{Shared}
use Rattle.bip_reader.specs.declared.statements.Keyword.TheVariants as keyword
use Rattle.bip_reader.specs.declared.statements.Statement.TheVariants as statement
use Rattle.bip_reader.proofs.ComponentLeadLemmas.{ports_apart, take-next, variables_apart}
use Rattle.bip_reader.proofs.LeadLemmas.{Leads, leads_numbers, leads_stated}
use Rattle.bip_reader.proofs.LineLeadLemmas.{inner_name, reading_at}
use Rattle.bip_reader.proofs.LookUpLemmas.{assignments_back, assignments_short, guard_back}
use Rattle.bip_reader.proofs.LookUpLemmas.{guard_known, guard_short, IsFound, owner_in, shared_name}
use Rattle.bip_reader.proofs.LookUpLemmas.{shared_there, transfer_read}
use Rattle.bip_reader.proofs.ReadBackLemmas.{IsInner, clause_words, clauses_read, inner}
use Rattle.bip_reader.proofs.SpelledLemmas.{IsVariableWord, name_read, pair_no_mark, pair_read}
use Rattle.bip_reader.proofs.SpelledLemmas.{shared_spelled}

-- what is made of things, each read again
pub each_made : {A B C : Type 0} (f : A → Option C) (g : B → A) (h : B → C) (xs : List B)
    → All (λ x. f (g x) ≡ Some (h x)) xs → each_of f (map g xs) ≡ Some (map h xs)
each_made f g h [] all = refl
each_made f g h (x ∷ xs) all = rw (
  All-head (λ y. f (g y) ≡ Some (h y)) x xs all,
  each_made f g h xs (All-tail (λ y. f (g y) ≡ Some (h y)) x xs all),
) refl

-- a name, and words that are read
pub named_words : {C : Type 0} (f : List ℕ → Option C) (name : List ℕ) (words : List (List ℕ))
    (read : List C) → IsName name → 0 < length words → each_of f words ≡ Some read
    → name_and_words f (name ∷ words) ≡ Some (name, read)
unfolding name_and_words
named_words f name words read is some each =
    let filled : eqb (length words) 0 ≡ false = grind (arith, nat_tests) in
    rw (name_read name is, filled, each) refl

module _ (m : System) (classes : Partition) (is : IsSystem m)
    (spelled : CanBeSpelled m classes) where
  component_named : (c : ℕ) → c < length m.components → IsName (name_in m.component_names c)
  component_named c within = spelled.components.0 c [] (omega (arith, is.components_named))

  -- the names of a participant
  abbrev names_of : Participant → List ℕ × List ℕ
  names_of q = (name_in m.component_names q.0.0, name_in (component_in m q.0.0).ports q.1.0)

  port_within : (q : Participant) → IsPortIn m.components q
      → q.1.0 < length (component_in m q.0.0).ports
  port_within q port = rw (slice_get-get_or m.components q.0.0 no_component port.component) at
      port.port

  port_named : (q : Participant) → IsPortIn m.components q
      → IsName (name_in (component_in m q.0.0).ports q.1.0)
  port_named q port = (spelled.components.1 q.0.0 no_component port.component).ports q.1.0 []
      (port_within q port)

  participant_read : (q : Participant) → IsPortIn m.components q
      → participant_of (participant_word m q) ≡ Some (names_of q)
  participant_read q port = pair_read (name_in m.component_names q.0.0)
      (name_in (component_in m q.0.0).ports q.1.0) (component_named q.0.0 port.component)
      (port_named q port)

  participant_inner : (q : Participant) → IsPortIn m.components q → IsInner (participant_word m q)
  participant_inner q port =
      let component = component_named q.0.0 port.component in
      inner (participant_word m q) (pair_no_mark (name_in m.component_names q.0.0)
      (name_in (component_in m q.0.0).ports q.1.0) component)
      (names-word 46 (name_in m.component_names q.0.0)
      (name_in (component_in m q.0.0).ports q.1.0) refl component (port_named q port))

  -- a system of all components, the first interactions and no priority
  abbrev pub with_interactions : ℕ → System
  with_interactions j = record m {
    interaction_names = take j m.interaction_names;
    interactions = take j m.interactions;
    priorities = [];
  }

  participant_back : (j : ℕ) (q : Participant) → IsPortIn m.components q
      → participant_named (with_interactions j) (names_of q) ≡ Ok q
  participant_back j q port =
      let component_at = position-name m.component_names q.0.0 is.so_far.components_apart
      (omega (arith, port.component, is.components_named)) in
      let declared = slice_get-get_or m.components q.0.0 no_component port.component in
      let port_at = position-name (component_in m q.0.0).ports q.1.0
      (ports_apart (component_in m q.0.0)
      (is.so_far.components q.0.0 no_component port.component)) (port_within q port) in
      rw component_at (rw declared (rw port_at refl))

  all_back : (j : ℕ) (qs : List Participant) → All (IsPortIn m.components) qs
      → map (participant_named (with_interactions j)) (map names_of qs) ≡ map Ok qs
  all_back j [] ports = refl
  all_back j (q ∷ qs) ports = rw (
    participant_back j q (All-head
        (IsPortIn m.components) q qs ports),
    all_back j qs
        (All-tail (IsPortIn m.components) q qs ports),
  ) refl

  participants_back : (j : ℕ) (i : Interaction) → IsInteraction m.components i
      → participants_named (with_interactions j) [] (map names_of i.participants)
      ≡ Ok i.participants
  participants_back j i valid =
      (names_participants (with_interactions j) (map names_of i.participants) i.participants).1
      (record {
        named = i.participants;
        one_each = all_back j i.participants valid.ports;
        these = IsPermutation-refl i.participants;
        rising = valid.rising;
      })

  module _ (j : ℕ) (within : j < length m.interactions) where
    abbrev this : Interaction
    this = interaction_in m j

    abbrev its_name : List ℕ
    its_name = name_in m.interaction_names j

    valid : IsInteraction m.components this
    valid = is.so_far.interactions j (record { participants = []; guard = []; transfer = [] })
        within

    its : IsSpelledInteraction this
    its = spelled.interactions.1 j (record { participants = []; guard = []; transfer = [] }) within

    is_named : IsName its_name
    is_named = spelled.interactions.0 j [] (omega (arith, is.so_far.interactions_named))

    there : (v : Variable) → IsVariableIn (counts_of m.components this.participants) v
        → IsFound m this.participants v
    there v known =
        shared_there m this.participants valid.rising valid.ports is.so_far.components_apart
        (omega (arith, is.components_named))
        (λ c d below. variables_apart (get_or m.components c d)
        (is.so_far.components c d below)) v known

    its_spelled : (v : Variable) → IsVariableIn (counts_of m.components this.participants) v
        → IsVariableWord Shared (shared_word m this.participants v)
        (shared_name m this.participants v)
    its_spelled v known =
        let at = there v known in
        shared_spelled (name_in m.component_names (owner_in this.participants v))
        (own_word (component_in m (owner_in this.participants v)) v)
        (component_named (owner_in this.participants v) at.0)
        ((spelled.components.1 (owner_in this.participants v) no_component at.0).starts.0 v.number.0
        [] at.1)

    front_inner : All IsInner (its_name ∷ map (participant_word m) this.participants)
    front_inner =
        All-cons IsInner its_name (map (participant_word m) this.participants)
        (inner_name its_name is_named)
        (All-map IsInner (participant_word m) this.participants
        (All-weaker (IsPortIn m.components)
        (λ q. IsInner (participant_word m q)) participant_inner this.participants valid.ports))

    abbrev its_guard : List (Comparison VariableName)
    its_guard = map (comparison_with (shared_name m this.participants)) this.guard

    abbrev its_transfer : List (Assignment VariableName)
    its_transfer = map (assignment_with (shared_name m this.participants)) this.transfer

    abbrev its_words : List (List ℕ)
    its_words = its_name ∷ (map (participant_word m) this.participants
        ++ (words_of_guard (shared_word m this.participants) this.guard ++ words_of_assignments
        (shared_word m this.participants) this.transfer))

    all_words : All IsWord its_words
    all_words =
        clause_words Shared (counts_of m.components this.participants)
        (shared_word m this.participants) (shared_name m this.participants) its_spelled
        (its_name ∷ map (participant_word m) this.participants)
        this.guard this.transfer front_inner valid.guard.there its.0 valid.transfer.there its.1

    form : interaction_form its_words ≡ Some (statement.Interaction its_name
        (map names_of this.participants) its_guard its_transfer)
    unfolding interaction_form
    form =
        let read = clauses_read Shared (counts_of m.components this.participants)
        (shared_word m this.participants) (shared_name m this.participants) its_spelled
        (its_name ∷ map (participant_word m) this.participants)
        this.guard this.transfer front_inner valid.guard.there its.0 valid.transfer.there its.1 in
        let each = each_made participant_of (participant_word m) names_of this.participants
        (All-weaker (IsPortIn m.components)
        (λ q. participant_of (participant_word m q) ≡ Some (names_of q)) participant_read
        this.participants valid.ports) in
        let filled : 0 < length (map (participant_word m) this.participants) =
        rw length-map valid.some in
        let named = named_words participant_of its_name (map (participant_word m) this.participants)
        (map names_of this.participants) is_named filled each in
        rw (read.0, read.1) (rw named refl)

    -- `interaction NAME C.p C.p .. [when GUARD] [do ASSIGNS]`
    interaction_leads : Leads (line_of_interaction m its_name this)
        (reading_at (with_interactions j) None []) (reading_at (with_interactions (suc j)) None [])
    unfolding keyword_of
    interaction_leads =
        let counts : List ℕ = counts_of m.components this.participants in
        let named : j < length m.interaction_names = omega (arith, is.so_far.interactions_named) in
        let found : (v : Variable) → IsVariableIn counts v
        → shared (with_interactions j) this.participants (shared_name m this.participants v)
        ≡ Some v = λ v known. (there v known).2 in
        let find = shared (with_interactions j) this.participants in
        let new : is_known its_name (take j m.interaction_names) ≡ false =
        unknown_before_it m.interaction_names j is.so_far.interactions_apart named in
        let back = participants_back j this valid in
        let known = guard_known counts find (shared_name m this.participants) found this.guard
        valid.guard.there in
        let said = transfer_read counts find (shared_name m this.participants) found
        [] this.transfer (All-nil (IsAssignmentIn counts)) valid.transfer.there
        (λ k d below a b none. absurd (omega arith)) valid.apart in
        let short = guard_short counts find (shared_name m this.participants) found this.guard
        valid.guard in
        let shorts = assignments_short counts find
        (shared_name m this.participants) found this.transfer valid.transfer in
        let guard_is = guard_back counts find
        (shared_name m this.participants) found this.guard valid.guard.there in
        let transfer_is = assignments_back counts find
        (shared_name m this.participants) found this.transfer valid.transfer.there in
        let room : nat_le 128 (length (take j m.interactions)) ≡ false =
        grind (
          arith,
          nat_tests,
          length-take-le j m.interactions (omega arith),
          is.so_far.few_interactions,
        ) in
        let few : nat_lt 8 (length this.participants) ≡ false =
        grind (arith, nat_tests, valid.few) in
        rw (
          take-next m.interaction_names j [] named,
          take-next m.interactions j (record { participants = []; guard = []; transfer = [] })
              within,
        )
        (leads_stated keyword.Interaction (codes "interaction") its_words
        (statement.Interaction its_name (map names_of this.participants) its_guard its_transfer)
        (reading_at (with_interactions j) None []) _ (refl, refl) refl refl all_words refl form
        (rw new (rw back (rw known (rw said (rw (room, few, short, shorts)
        (rw (guard_is, transfer_is) refl)))))))

  pub interactions_lead : Leads (lines_of_interactions m)
      (reading_at (record no_system {
        component_names = m.component_names;
        components = m.components;
      }) None []) (reading_at (record m { priorities = [] }) None [])
  interactions_lead =
      let names : take (length m.interactions) m.interaction_names ≡ m.interaction_names =
      ap (λ n. take n m.interaction_names) (sym is.so_far.interactions_named)
      ∙ take-length m.interaction_names in
      rw (names, take-length m.interactions) at
      (leads_numbers (λ a. line_of_interaction m (name_in m.interaction_names a)
      (interaction_in m a)) (λ j. reading_at (with_interactions j) None [])
      (length m.interactions) interaction_leads)
