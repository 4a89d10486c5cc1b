-- The canonical text of a model and its classes means just these.
use Rattle.std.proofs.Common.{◌≡◌, ℕ, zero, suc, ◌<◌, ◌≤◌, true, false, List, [], ◌∷◌, ◌++◌, length}
use Rattle.std.proofs.Common.{get_or, map, take, None, Some, refl, ap, ◌∙◌, sym, arith}
use Rattle.std.proofs.Common.{length-take-le}
use Rattle.std.specs.Prelude.{All, codes, nat_le, sum, sum_by}
use Rattle.std.specs.List.{flat_map, list_any, range_with_len}
use Rattle.std.specs.List.Sorted.{IsStrictlyIncreasing}
use Rattle.std.proofs.Math.Seq.{take-length}
use Rattle.std.proofs.lemmas.Bool.Decides.{nat_tests}
use Rattle.std.proofs.lemmas.List.{length-map}
use Rattle.std.proofs.lemmas.List.Elements.{All-cons, All-head, All-map, All-nil, All-tail}
use Rattle.std.proofs.lemmas.List.Elements.{All-weaker}
use Rattle.std.proofs.lemmas.List.Sorted.{IsPermutation-refl}
use Rattle.std.proofs.lemmas.List.Sums.{AllPass-from_list_all, sum-map}
use Rattle.std.proofs.lemmas.Simd.{map-map}
use Rattle.bip_model.specs.Naming.{IsName, is_known, name_in, same_text}
use Rattle.bip_model.specs.Partitions.{AreClassesOf, IsClasses, in_order, numbers_in, times_in}
use Rattle.bip_model.specs.Parts.{IsSystem}
use Rattle.bip_model.specs.Priorities.{AreInOrder, IsPairOf, is_before, is_same_pair, put_pair}
use Rattle.bip_model.specs.declared.numbering.InterId.{InterId}
use Rattle.bip_model.specs.declared.partitions.Partition.{Partition}
use Rattle.bip_model.specs.declared.parts.Pair.{Pair}
use Rattle.bip_model.specs.declared.parts.System.{System}
use Rattle.bip_model.proofs.NumberingLemmas.{by_number-is, rises_from_increasing}
use Rattle.bip_model.proofs.WrittenLemmas.{IsWord, name-word, position-name, unknown_before_it}
use Rattle.bip_reader.specs.Reading.{ClassList, class_line, empty_reading, interaction_named}
use Rattle.bip_reader.specs.Statements.{class_form, keyword_of, priority_form}
use Rattle.bip_reader.specs.Texts.{IsParted, Means}
use Rattle.bip_model.specs.Words.{each_of, name_of}
use Rattle.bip_reader.specs.Writing.{CanBeSpelled, line_of_class, line_of_priority, text_of_model}
use Rattle.bip_reader.specs.declared.statements.Keyword.TheVariants as keyword
use Rattle.bip_reader.specs.declared.statements.Statement.TheVariants as statement
use Rattle.bip_reader.proofs.ComponentLeadLemmas.{components_lead, none_before, take-next}
use Rattle.bip_reader.proofs.InteractionLeadLemmas.{each_made, interactions_lead, named_words}
use Rattle.bip_reader.proofs.LeadLemmas.{Leads, leads_all, leads_both, leads_numbers, leads_stated}
use Rattle.bip_reader.proofs.LeadLemmas.{read_whole}
use Rattle.bip_reader.proofs.LineLeadLemmas.{header_leads, reading_at}
use Rattle.bip_reader.proofs.SpelledLemmas.{name_read}

-- pairs in order
ordered_at : (ps : List Pair) (i j : ℕ) (d : Pair) → AreInOrder ps → i < j → j < length ps
    → is_before (get_or ps i d) (get_or ps j d) ≡ true
ordered_at [] i j d in_order early within = absurd (omega arith)
ordered_at (p ∷ ps) zero zero d in_order early within = absurd (omega arith)
ordered_at (p ∷ ps) zero (suc j) d in_order early within =
    AllPass-from_list_all (is_before p) ps in_order.0 j d (omega arith)
ordered_at (p ∷ ps) (suc i) zero d in_order early within = absurd (omega arith)
ordered_at (p ∷ ps) (suc i) (suc j) d in_order early within =
    ordered_at ps i j d in_order.1 (omega arith) (omega arith)

not_before : (p q : Pair) → is_before p q ≡ true → (is_before q p ≡ false)
    × (is_same_pair q p ≡ false)
not_before p q before = (grind (arith, nat_tests), grind (arith, nat_tests))

put_last : (q : Pair) (ps : List Pair) → All (λ p. is_before p q ≡ true) ps
    → put_pair q ps ≡ ps ++ q ∷ []
put_last q [] all = refl
put_last q (p ∷ ps) all =
    rw ((not_before p q (All-head (λ r. is_before r q ≡ true) p ps all)).0)
    (ap (λ (rest : List Pair). p ∷ rest) (put_last q ps
    (All-tail (λ r. is_before r q ≡ true) p ps all)))

first_of : {X : Type 0} (P : X → Type 0) (xs : List X) (k : ℕ) (d : X) → k ≤ length xs
    → ((i : ℕ) → i < k → P (get_or xs i d)) → All P (take k xs)
first_of P xs zero d within each = All-nil P
first_of P [] (suc k) d within each = All-nil P
first_of P (x ∷ xs) (suc k) d within each = All-cons P x (take k xs) (each 0 (omega arith))
    (first_of P xs k d (omega arith) (λ i below. each (suc i) (omega arith)))

module _ (m : System) (classes : Partition) (is : IsSystem m)
    (spelled : CanBeSpelled m classes) where
  pub interaction_named_at : (a : ℕ) → a < length m.interactions
      → IsName (name_in m.interaction_names a)
  interaction_named_at a within = spelled.interactions.0 a []
      (omega (arith, is.so_far.interactions_named))

  abbrev with_priorities : ℕ → System
  with_priorities j = record m { priorities = take j m.priorities }

  -- `priority LOW < HIGH`
  priority_leads : (d : Pair) (j : ℕ) → j < length m.priorities
      → Leads (line_of_priority m (get_or m.priorities j d))
      (reading_at (with_priorities j) None []) (reading_at (with_priorities (suc j)) None [])
  unfolding keyword_of priority_form
  priority_leads d j within =
      let p : Pair = get_or m.priorities j d in
      let of_model : IsPairOf (length m.interactions) p = is.so_far.priorities j d within in
      let low = interaction_named_at p.low.0 of_model.low in
      let high = interaction_named_at p.high.0 of_model.high in
      let before : (i : ℕ) → i < j → is_before (get_or m.priorities i d) p ≡ true =
      λ i below. ordered_at m.priorities i j d is.so_far.in_order below within in
      let new : list_any (is_same_pair p) (take j m.priorities) ≡ false =
      none_before (is_same_pair p) m.priorities j d (omega arith)
      (λ i below. (not_before (get_or m.priorities i d) p (before i below)).1) in
      let put : put_pair p (take j m.priorities) ≡ take j m.priorities ++ p ∷ [] =
      put_last p (take j m.priorities) (first_of (λ q. is_before q p ≡ true) m.priorities j d
      (omega arith) before) in
      let low_at = position-name m.interaction_names p.low.0 is.so_far.interactions_apart
      (omega (arith, of_model.low, is.so_far.interactions_named)) in
      let high_at = position-name m.interaction_names p.high.0 is.so_far.interactions_apart
      (omega (arith, of_model.high, is.so_far.interactions_named)) in
      let words : List (List ℕ) = name_in m.interaction_names p.low.0 ∷ codes "<"
      ∷ name_in m.interaction_names p.high.0 ∷ [] in
      let all : All IsWord words =
      All-cons IsWord (name_in m.interaction_names p.low.0)
      (codes "<" ∷ name_in m.interaction_names p.high.0 ∷ []) (name-word _ low)
      (All-cons IsWord (codes "<") (name_in m.interaction_names p.high.0 ∷ []) (refl, refl)
      (All-cons IsWord (name_in m.interaction_names p.high.0) [] (name-word _ high)
      (All-nil IsWord)))
      in
      rw (take-next m.priorities j d within)
      (leads_stated keyword.Priority (codes "priority") words
      (statement.Priority (name_in m.interaction_names p.low.0)
      (name_in m.interaction_names p.high.0)) (reading_at (with_priorities j) None []) _
      (refl, refl) refl refl all refl
      (rw (name_read _ low, name_read _ high) refl) (rw low_at (rw high_at (rw new (rw put refl)))))

  abbrev no_pair : Pair
  no_pair = record { low = record { 0 = 0 }; high = record { 0 = 0 } }

  priorities_lead : Leads (flat_map (line_of_priority m) m.priorities)
      (reading_at (record m { priorities = [] }) None []) (reading_at m None [])
  priorities_lead = rw (take-length m.priorities) at
      (leads_all (line_of_priority m) (λ j. reading_at (with_priorities j) None []) no_pair
      m.priorities (priority_leads no_pair))

-- names of classes with their members
abbrev zipped : List (List ℕ) → List (List InterId) → ClassList
zipped (n ∷ ns) (c ∷ cs) = (n, c) ∷ zipped ns cs
zipped ns cs = []

zipped_names : (ns : List (List ℕ)) (cs : List (List InterId)) → length cs ≡ length ns
    → map (λ (c : List ℕ × List InterId). c.0) (zipped ns cs) ≡ ns
zipped_names [] [] paired = refl
zipped_names [] (c ∷ cs) paired = absurd (omega arith)
zipped_names (n ∷ ns) [] paired = absurd (omega arith)
zipped_names (n ∷ ns) (c ∷ cs) paired = ap (λ (rest : List (List ℕ)). n ∷ rest)
    (zipped_names ns cs (omega arith))

zipped_members : (ns : List (List ℕ)) (cs : List (List InterId)) → length cs ≡ length ns
    → map (λ (c : List ℕ × List InterId). c.1) (zipped ns cs) ≡ cs
zipped_members [] [] paired = refl
zipped_members [] (c ∷ cs) paired = absurd (omega arith)
zipped_members (n ∷ ns) [] paired = absurd (omega arith)
zipped_members (n ∷ ns) (c ∷ cs) paired = ap (λ (rest : List (List InterId)). c ∷ rest)
    (zipped_members ns cs (omega arith))

zipped_at : (ns : List (List ℕ)) (cs : List (List InterId)) (k : ℕ) (d : List ℕ × List InterId)
    → length cs ≡ length ns → k < length ns → get_or (zipped ns cs) k d
    ≡ (name_in ns k, get_or cs k [])
zipped_at [] cs k d paired within = absurd (omega arith)
zipped_at (n ∷ ns) [] k d paired within = absurd (omega arith)
zipped_at (n ∷ ns) (c ∷ cs) zero d paired within = refl
zipped_at (n ∷ ns) (c ∷ cs) (suc k) d paired within =
    zipped_at ns cs k d (omega arith) (omega arith)

zipped_known : (name : List ℕ) (ns : List (List ℕ)) (cs : List (List InterId)) (k : ℕ)
    → length cs ≡ length ns → list_any (λ (c : List ℕ × List InterId). same_text name c.0)
    (take k (zipped ns cs)) ≡ is_known name (take k ns)
zipped_known name ns cs zero paired = refl
zipped_known name [] [] (suc k) paired = refl
zipped_known name [] (c ∷ cs) (suc k) paired = absurd (omega arith)
zipped_known name (n ∷ ns) [] (suc k) paired = absurd (omega arith)
zipped_known name (n ∷ ns) (c ∷ cs) (suc k) paired =
    rw (zipped_known name ns cs k (omega arith)) refl

zipped_long : (ns : List (List ℕ)) (cs : List (List InterId)) → length cs ≡ length ns
    → length (zipped ns cs) ≡ length ns
zipped_long [] [] paired = refl
zipped_long [] (c ∷ cs) paired = absurd (omega arith)
zipped_long (n ∷ ns) [] paired = absurd (omega arith)
zipped_long (n ∷ ns) (c ∷ cs) paired = let rest = zipped_long ns cs (omega arith) in omega arith

zipped_all : (P : List InterId → Type 0) (ns : List (List ℕ)) (cs : List (List InterId))
    → length cs ≡ length ns → All P cs → All (λ (c : List ℕ × List InterId). P c.1) (zipped ns cs)
zipped_all P ns cs paired all = λ k d within.
    let below : k < length ns = rw (zipped_long ns cs paired) at within in
    rw (zipped_at ns cs k d paired below) (all k [] (omega arith))

zipped_times : (a : ℕ) (ns : List (List ℕ)) (cs : List (List InterId)) → length cs ≡ length ns
    → sum_by (λ (c : List ℕ × List InterId). times_in c.1 a) (zipped ns cs) ≡ sum_by
    (λ (c : List InterId). times_in c a) cs
zipped_times a ns cs paired =
    let times : List InterId → ℕ = λ c. times_in c a in
    let whole : List ℕ × List InterId → ℕ = λ c. times_in c.1 a in
    sym (sum-map whole (zipped ns cs)) ∙ ap sum
    (sym (map-map times (λ (c : List ℕ × List InterId). c.1) (zipped ns cs)))
    ∙ ap (λ (list : List (List InterId)). sum (map times list)) (zipped_members ns cs paired)
    ∙ sum-map times cs

-- members that rise are in order
ordered : (class : List InterId) → IsStrictlyIncreasing (numbers_in class) → in_order class ≡ class
ordered class rising = by_number-is (λ (a : InterId). a.0) class class (IsPermutation-refl class)
    (rises_from_increasing (numbers_in class) rising)

zipped_ordered : (ns : List (List ℕ)) (cs : List (List InterId)) → length cs ≡ length ns
    → All (λ (class : List InterId). IsStrictlyIncreasing (numbers_in class)) cs
    → map (λ (c : List ℕ × List InterId). in_order c.1) (zipped ns cs) ≡ cs
zipped_ordered [] [] paired rising = refl
zipped_ordered [] (c ∷ cs) paired rising = absurd (omega arith)
zipped_ordered (n ∷ ns) [] paired rising = absurd (omega arith)
zipped_ordered (n ∷ ns) (c ∷ cs) paired rising =
    rw (
      ordered c (All-head (λ (class : List InterId). IsStrictlyIncreasing (numbers_in class)) c cs
          rising),
      zipped_ordered ns cs (omega arith)
          (All-tail (λ (class : List InterId). IsStrictlyIncreasing (numbers_in class)) c cs
          rising),
    )
    refl

map_same : {X : Type 0} (xs : List X) → map (λ x. x) xs ≡ xs
map_same [] = refl
map_same (x ∷ xs) = ap (λ (rest : List _). x ∷ rest) (map_same xs)

module _ (m : System) (classes : Partition) (is : IsSystem m) (are : IsClasses classes)
    (of_model : AreClassesOf m classes) (spelled : CanBeSpelled m classes) where
  abbrev listed : ClassList
  listed = zipped classes.names classes.members

  parted : IsParted m listed
  parted = record {
    few = rw (zipped_long classes.names classes.members are.paired) are.few;
    apart = rw (zipped_names classes.names classes.members are.paired) are.apart;
    filled = zipped_all (λ class. 0 < length class) classes.names classes.members are.paired
        are.filled;
    known = zipped_all (All (λ (a : InterId). a.0 < length m.interactions)) classes.names
        classes.members are.paired (rw of_model at are.known);
    once = λ a within. zipped_times a classes.names classes.members are.paired
        ∙ are.once a (rw of_model within);
  }

  -- `class NAME INTER INTER ..`
  class_leads : (j : ℕ) → j < length classes.names
      → Leads (line_of_class m classes j) (reading_at m None (take j listed))
      (reading_at m None (take (suc j) listed))
  unfolding keyword_of class_form class_line
  class_leads j within =
      let name : List ℕ = name_in classes.names j in
      let members : List InterId = get_or classes.members j [] in
      let there : j < length classes.members = omega (arith, are.paired) in
      let in_list : j < length listed = rw (zipped_long classes.names classes.members are.paired)
      within in
      let spell : InterId → List ℕ = λ (a : InterId). name_in m.interaction_names a.0 in
      let below : All (λ (a : InterId). a.0 < length m.interactions) members =
      rw of_model at (are.known j [] there) in
      let is_named : IsName name = spelled.class_names j [] within in
      let filled : 0 < length (map spell members) = rw length-map (are.filled j [] there) in
      let named : All (λ (a : InterId). IsName (spell a)) members =
      All-weaker (λ (a : InterId). a.0 < length m.interactions) (λ a. IsName (spell a))
      (λ a low. interaction_named_at m classes is spelled a.0 low) members below in
      let each : each_of name_of (map spell members) ≡ Some (map spell members) =
      each_made name_of spell spell members
      (All-weaker (λ a. IsName (spell a)) (λ a. name_of (spell a) ≡ Some (spell a))
      (λ a n. name_read (spell a) n) members named) in
      let form = named_words name_of name (map spell members)
      (map spell members) is_named filled each in
      let new : list_any (λ (c : List ℕ × List InterId). same_text name c.0) (take j listed)
      ≡ false = zipped_known name classes.names classes.members j are.paired
      ∙ unknown_before_it classes.names j are.apart within in
      let back : each_of (interaction_named (record { system = m; begun = None }))
      (map spell members) ≡ Some members =
      each_made (interaction_named (record { system = m; begun = None })) spell (λ a. a) members
      (All-weaker (λ (a : InterId). a.0 < length m.interactions)
      (λ a. interaction_named (record { system = m; begun = None }) (spell a) ≡ Some a)
      (λ a low. rw (position-name m.interaction_names a.0 is.so_far.interactions_apart
      (omega (arith, low, is.so_far.interactions_named))) refl) members below)
      ∙ ap (λ (list : List InterId). Some list) (map_same members)
      in
      let room : nat_le 32 (length (take j listed)) ≡ false =
      grind (arith, nat_tests, length-take-le j listed (omega arith), are.few) in
      let words : List (List ℕ) = name ∷ map spell members in
      let all : All IsWord words = All-cons IsWord name (map spell members)
      (name-word name is_named) (All-map IsWord spell members
      (All-weaker (λ a. IsName (spell a)) (λ a. IsWord (spell a))
      (λ a n. name-word (spell a) n) members named)) in
      rw (
        take-next listed j ([], []) in_list,
        zipped_at classes.names classes.members j ([], []) are.paired within,
      )
      (leads_stated keyword.Class (codes "class") words (statement.Class name (map spell members))
      (reading_at m None (take j listed)) _ (refl, refl) refl refl all refl
      (rw form refl) (rw new (rw back (rw room refl))))

  classes_lead : Leads (flat_map (line_of_class m classes)
      (range_with_len 0 (length classes.names))) (reading_at m None []) (reading_at m None listed)
  classes_lead =
      let whole : take (length classes.names) listed ≡ listed =
      ap (λ n. take n listed) (sym (zipped_long classes.names classes.members are.paired))
      ∙ take-length listed in
      rw whole at (leads_numbers (line_of_class m classes) (λ j. reading_at m None (take j listed))
      (length classes.names) class_leads)

  text_leads : Leads (text_of_model m classes) empty_reading (reading_at m None listed)
  text_leads =
      leads_both (leads_both (leads_both (leads_both header_leads
      (components_lead m classes is spelled)) (interactions_lead m classes is spelled))
      (priorities_lead m classes is spelled)) classes_lead

  -- the canonical text of a model and its classes means just these
  pub canonical : Means (text_of_model m classes) m classes
  canonical = record {
    read = reading_at m None listed;
    said = read_whole (text_of_model m classes) (reading_at m None listed) text_leads;
    declares = record {
      whole = record { ended = refl; some = is.some };
      model = refl;
      acyclic = is.acyclic;
      parted = parted;
      ordered = rw (
        zipped_names classes.names classes.members are.paired,
        zipped_ordered classes.names classes.members are.paired are.rising,
        ← of_model,
      ) refl;
    };
  }
