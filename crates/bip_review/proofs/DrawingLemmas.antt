-- What is drawn of a plan, part by part.
use Rattle.std.proofs.Common.{◌≡◌, ℕ, ◌+◌, ◌<◌, List, [], ◌∷◌, ◌++◌, length, map, get_or, take}
use Rattle.std.proofs.Common.{Option, None, Some, find, refl, ap, sym, ◌∙◌, arith, append-nil}
use Rattle.std.proofs.Common.{append_assoc, length-append, suc, zero}
use Rattle.std.specs.Prelude.{IfNone, IfSome, codes, unwrap_or}
use Rattle.std.specs.Fmt.{decimal}
use Rattle.std.specs.List.{flat_map, range_with_len}
use Rattle.std.proofs.lemmas.List.{flat_map_more, map_push, take_more}
use Rattle.std.proofs.lemmas.List.Concat.{flat_map-append}
use Rattle.std.proofs.lemmas.List.Elements.{All-map, All-push}
use Rattle.std.proofs.lemmas.List.Folds.{flat_map-map}
use Rattle.bip_model.specs.Naming.{name_in}
use Rattle.bip_model.specs.Numbering.{IsLowest}
use Rattle.bip_model.specs.Partitions.{class_in}
use Rattle.bip_model.specs.Parts.{components_in}
use Rattle.bip_model.specs.Priorities.{IsListAbove, inter}
use Rattle.bip_model.specs.Steps.{IsListLookedAt, IsLookedAt, moves, participants_of}
use Rattle.bip_model.specs.declared.numbering.ClassId.{ClassId}
use Rattle.bip_model.specs.declared.numbering.CompId.{CompId}
use Rattle.bip_model.specs.declared.numbering.InterId.{InterId}
use Rattle.bip_model.specs.declared.parts.System.{System}
use Rattle.bip_partition.specs.Laws.{IsPlanned}
use Rattle.bip_partition.specs.Plans.{AreStations, IsListTouching, Planned}
use Rattle.bip_review.specs.Drawing.{AddsFact, AddsFacts, AddsStationEdges, AreFacts, IsPlanDrawing}
use Rattle.bip_review.specs.Drawing.{borders_text, class_cluster, component_ellipse, conflicts_text}
use Rattle.bip_review.specs.Drawing.{edges_text, ellipse_text, label_of, looked_edge, member_text}
use Rattle.bip_review.specs.Drawing.{members_text, moved_edge, no_fact, node_name, one_fact}
use Rattle.bip_review.specs.Drawing.{plan_front, numbers_text, shown_class, spelled_in_turn}
use Rattle.bip_review.specs.Drawing.{station_edges}
use Rattle.bip_review.specs.Reasons.{MovesFromAbove}
use Rattle.bip_review.specs.Writing.{AreLooks, IsComponentShown, IsInteractionShown}
use Rattle.bip_review.specs.Writing.{InteractionShown, IsListConflicting, IsReserving, IsStanding}
use Rattle.bip_review.specs.Writing.{IsStationShown, Look, StationShown}
use Rattle.bip_review.specs.declared.reasons.RowReason.{RowReason}
use Rattle.bip_review.proofs.ReasonLemmas.{cause_of}
use Rattle.bip_review.proofs.StationLemmas.{station_reserved, station_shown}
use Rattle.bip_review.proofs.WritingLemmas.{is_looked_at, joined}

range-last : (a n j : ℕ) → a + n ≡ j → range_with_len a (suc n) ≡ range_with_len a n ++ j ∷ []
range-last a zero j e = let same : a ≡ j = omega arith in ap (λ k. k ∷ []) same
range-last a (suc n) j e = ap (λ l. a ∷ l) (range-last (a + 1) n j (omega arith))

-- what is spelled of the numbers below one, and of that one too
numbers_more : (f : ℕ → List ℕ) (n : ℕ)
    → flat_map f (range_with_len 0 (n + 1)) ≡ flat_map f (range_with_len 0 n) ++ f n
numbers_more f n =
    let on : n + 1 ≡ suc n = omega arith in
    ap (λ k. flat_map f (range_with_len 0 k)) on ∙ (ap (flat_map f) (range-last 0 n n (omega arith))
    ∙ sym (flat_map_more f [] (range_with_len 0 n) n))

pub one_number : (f : ℕ → List ℕ) (n : ℕ) (old mid new : List ℕ)
    → mid ≡ old ++ flat_map f (range_with_len 0 n) → new ≡ mid ++ f n
    → new ≡ old ++ flat_map f (range_with_len 0 (n + 1))
one_number f n old mid new before more = rw (numbers_more f n)
    (joined old (flat_map f (range_with_len 0 n)) mid (f n) new before more)

module _ {X : Type 0} (IsFact : ℕ → X → Type 0) where
  spelled_more : (f : ℕ → X → List ℕ) (m n : ℕ) (xs : List X) (x : X) → n ≡ m + length xs
      → spelled_in_turn f m (xs ++ x ∷ []) ≡ spelled_in_turn f m xs ++ f n x
  spelled_more f m n [] x is =
      let same : m ≡ n = omega arith in append-nil (f m x) ∙ ap (λ k. f k x) same
  spelled_more f m n (y ∷ ys) x is =
      ap (λ t. f m y ++ t) (spelled_more f (m + 1) n ys x (omega arith))
      ∙ sym (append_assoc (f m y) (spelled_in_turn f (m + 1) ys) (f n x))

  facts_counted : (n : ℕ) (facts : List X) → AreFacts IsFact n facts → n ≡ length facts
  facts_counted n facts no_fact = refl
  facts_counted n facts (one_fact {n = k} {facts = before} {fact} so is) =
      let counted = facts_counted k before so in
      omega (arith, counted, length-append before (fact ∷ []))

  spelled_last : (f : ℕ → X → List ℕ) (n : ℕ) (facts : List X) (x : X) → AreFacts IsFact n facts
      → spelled_in_turn f 0 (facts ++ x ∷ []) ≡ spelled_in_turn f 0 facts ++ f n x
  spelled_last f n facts x so =
      let counted = facts_counted n facts so in spelled_more f 0 n facts x (omega (arith, counted))

  pub no_facts : (f : ℕ → X → List ℕ) (old : List ℕ) → AddsFacts IsFact f 0 old old
  no_facts f old = record { facts = []; holds = no_fact; added = sym (append-nil old) }

  -- one fact more
  pub facts_more : (f : ℕ → X → List ℕ) (n : ℕ) (old mid new : List ℕ)
      → AddsFacts IsFact f n old mid → AddsFact (IsFact n) (f n) mid new
      → AddsFacts IsFact f (n + 1) old new
  facts_more f n old mid new h one = record {
    facts = h.facts ++ one.fact ∷ [];
    holds = one_fact h.holds one.holds;
    added = rw (spelled_last f n h.facts one.fact h.holds)
        (joined old (spelled_in_turn f 0 h.facts) mid (f n one.fact) new h.added one.added);
  }

  -- facts are spelled as their numbers are, where each is
  spelled_as : (f : ℕ → X → List ℕ) (g : ℕ → List ℕ)
      → ((n : ℕ) (x : X) → IsFact n x → f n x ≡ g n) → (n : ℕ) (facts : List X)
      → AreFacts IsFact n facts → spelled_in_turn f 0 facts ≡ flat_map g (range_with_len 0 n)
  spelled_as f g same n facts no_fact = refl
  spelled_as f g same n facts (one_fact {n = k} {facts = before} {fact} so is) =
      rw (spelled_last f k before fact so, spelled_as f g same k before so, same k fact is)
      (sym (numbers_more g k))

-- the members of a class are those that are shown to stand in it
members_shown : (p : Planned) (facts : List InteractionShown)
    → AreFacts (IsInteractionShown p) (length p.model.interactions) facts → (k : ℕ)
    → members_text p k
    ≡ spelled_in_turn (λ a (i : InteractionShown). member_text p k a i.class) 0 facts
members_shown p facts so k = sym (spelled_as (IsInteractionShown p)
    (λ a (i : InteractionShown). member_text p k a i.class)
    (λ a. member_text p k a (class_in p.classes a))
    (λ a i is. ap (member_text p k a) is.class) (length p.model.interactions) facts so)

-- a class, of its parts
pub class_parts : (p : Planned) (k : ℕ) (old t1 t2 t3 t4 t5 t6 new : List ℕ)
    → t1 ≡ old ++ codes "subgraph cluster_k"
    → t2 ≡ t1 ++ decimal k
    → t3 ≡ t2 ++ codes " {\nlabel=\""
    → t4 ≡ t3 ++ name_in p.classes.names k
    → t5 ≡ t4 ++ codes "\";\n"
    → t6 ≡ t5 ++ members_text p k
    → new ≡ t6 ++ codes "}\n"
    → new ≡ old ++ class_cluster p k (members_text p k)
class_parts p k old t1 t2 t3 t4 t5 t6 new e1 e2 e3 e4 e5 e6 e7 =
    let number : List ℕ = decimal k in
    let front : List ℕ = codes " {\nlabel=\"" in
    let name : List ℕ = name_in p.classes.names k in
    let mark : List ℕ = codes "\";\n" in
    let members : List ℕ = members_text p k in
    let end : List ℕ = codes "}\n" in
    let w5 = joined t5 members t6 end new e6 e7 in
    let w4 = joined t4 mark t5 (members ++ end) new e5 w5 in
    let w3 = joined t3 name t4 (mark ++ (members ++ end)) new e4 w4 in
    let w2 = joined t2 front t3 (name ++ (mark ++ (members ++ end))) new e3 w3 in
    let w1 = joined t1 number t2 (front ++ (name ++ (mark ++ (members ++ end)))) new e2 w2 in
    joined old (codes "subgraph cluster_k") t1
    (number ++ (front ++ (name ++ (mark ++ (members ++ end))))) new e1 w1

-- a component, of its parts
pub component_parts : (p : Planned) (c : ℕ) (classes : List ClassId) (reason : Option RowReason)
    (old t1 t2 new : List ℕ)
    → t1 ≡ old ++ node_name (codes "c") c
    → t2 ≡ t1 ++ ellipse_text reason
    → new ≡ t2 ++ label_of p.model.component_names c
    → IsListTouching p c classes
    → IsStanding p c reason
    → AddsFact (IsComponentShown p c) (component_ellipse p c) old new
component_parts p c classes reason old t1 t2 new e1 e2 e3 touching standing =
    let name : List ℕ = label_of p.model.component_names c in
    let w1 = joined t1 (ellipse_text reason) t2 name new e2 e3 in
    record {
      fact = record { reason = reason; classes = classes };
      holds = record { reason = standing; classes = touching };
      added = joined old (node_name (codes "c") c) t1 (ellipse_text reason ++ name) new e1 w1;
    }

-- an interaction, of its parts
pub interaction_parts : (p : Planned) (a : ℕ) (through : Option CompId) (old t1 t2 new : List ℕ)
    → t1 ≡ old ++ borders_text a through
    → t2 ≡ t1 ++ flat_map (moved_edge a) (components_in (participants_of p.model a))
    → AddsFact (AreLooks p.model a) (flat_map (λ (look : Look). looked_edge a look.comp)) t2 new
    → IsReserving p a through
    → AddsFact (IsInteractionShown p a) (edges_text a) old new
interaction_parts p a through old t1 t2 new e1 e2 looks reserving =
    let moved : List ℕ = flat_map (moved_edge a) (components_in (participants_of p.model a)) in
    let seen : List ℕ = flat_map (λ (look : Look). looked_edge a look.comp) looks.fact in
    let w1 = joined t1 moved t2 seen new e2 looks.added in
    record {
      fact = record {
        class = class_in p.classes a;
        moved = components_in (participants_of p.model a);
        looks = looks.fact;
        reserving = through;
      };
      holds = record { class = refl; moved = refl; looks = looks.holds; reserving = reserving };
      added = joined old (borders_text a through) t1 (moved ++ seen) new e1 w1;
    }

-- the first of those above that moves a component is there, where it is looked at
cause_there : (m : System) (a c : ℕ) (o : Option InterId) → IsLookedAt m a c
    → IfSome o (λ b. IsLowest (MovesFromAbove m a c) b.0)
    → IfNone o ((b : ℕ) → ¬ MovesFromAbove m a c b)
    → IsLowest (MovesFromAbove m a c) (unwrap_or o (inter 0)).0
cause_there m a c None looked some none =
    absurd (none looked.higher (record { above = looked.above; moved = looked.moved }))
cause_there m a c (Some b) looked some none = some

module _ (m : System) (a : ℕ) (above : List InterId) where
  abbrev first_above : CompId → Option InterId
  first_above c = find (λ (b : InterId). moves m b.0 c.0) above

  abbrev look_at : CompId → Look
  look_at c = record { comp = c; cause = unwrap_or (first_above c) (inter 0) }

  looks_at : (seen : List CompId) → map (λ (look : Look). look.comp) (map look_at seen) ≡ seen
  looks_at [] = refl
  looks_at (c ∷ seen) = ap (λ t. c ∷ t) (looks_at seen)

  -- what is looked at is so for the sake of one of those above
  pub looks_added : (seen : List CompId) (old new : List ℕ) → IsListAbove m.priorities a above
      → IsListLookedAt m a seen → new ≡ old ++ flat_map (looked_edge a) seen
      → AddsFact (AreLooks m a) (flat_map (λ (look : Look). looked_edge a look.comp)) old new
  looks_added seen old new is_above is added = record {
    fact = map look_at seen;
    holds = record {
      listed = rw (looks_at seen) is;
      causes = All-map (λ (look : Look). IsLowest (MovesFromAbove m a look.comp.0) look.cause.0)
          look_at seen (λ i d within.
          let c : CompId = get_or seen i d in
          let both = cause_of m a c.0 above (first_above c) is_above refl in
          cause_there m a c.0 (first_above c) (is_looked_at m a seen i d is within) both.0 both.1);
    };
    added = rw (flat_map-map (λ (look : Look). looked_edge a look.comp) look_at seen) added;
  }

pub no_station_edges : (p : Planned) (old : List ℕ) → AddsStationEdges p [] old old
no_station_edges p old = record {
  shown = [];
  listed = refl;
  holds = λ i d within. absurd (omega arith);
  added = sym (append-nil old);
}

-- one station more
pub station_edges_more : (p : Planned) (stations : List InterId) (s : ℕ) (d : InterId)
    (old mid new : List ℕ) → s < length stations → AreStations p stations → IsPlanned p
    → AddsStationEdges p (take s stations) old mid
    → AddsFact (IsListConflicting p (get_or stations s d).0)
    (conflicts_text (get_or stations s d).0) mid new
    → AddsStationEdges p (take (s + 1) stations) old new
station_edges_more p stations s d old mid new within are planned h one =
    let a : InterId = get_or stations s d in
    let last : InterId × StationShown = (a, record { conflicts = one.fact }) in
    record {
      shown = h.shown ++ last ∷ [];
      listed = rw (take_more stations s d within) (map_push (λ (t : InterId × StationShown). t.0)
          h.shown last ∙ ap (λ t. t ++ a ∷ []) h.listed);
      holds = All-push (λ (t : InterId × StationShown). IsStationShown p t.0.0 t.1) h.shown last
          h.holds (station_shown p a.0 one.fact planned
          (station_reserved p stations s d are within) one.holds);
      added =
          let alone : station_edges last ++ [] ≡ station_edges last =
          append-nil (station_edges last) in
          rw (flat_map-append station_edges h.shown (last ∷ []))
          (rw alone (joined old (flat_map station_edges h.shown) mid (station_edges last) new
          h.added one.added));
    }

-- the drawing of a plan, of its parts
pub plan_parts : (p : Planned) (stations : List InterId) (t1 t2 t3 t4 t5 t6 new : List ℕ)
    → AreStations p stations
    → t1 ≡ plan_front
    → t2 ≡ t1 ++ flat_map (λ k. class_cluster p k (members_text p k))
    (range_with_len 0 (length p.classes.names))
    → AddsFacts (IsComponentShown p) (component_ellipse p) (length p.model.components) t2 t3
    → AddsFacts (IsInteractionShown p) edges_text (length p.model.interactions) t3 t4
    → AddsStationEdges p stations t4 t5
    → t6 ≡ t5 ++ numbers_text p stations
    → new ≡ t6 ++ codes "}\n"
    → IsPlanDrawing p new
plan_parts p stations t1 t2 t3 t4 t5 t6 new are e1 e2 comps inters conflicts e6 e7 =
    let classes : List ℕ = flat_map (λ k. class_cluster p k (members_text p k))
    (range_with_len 0 (length p.classes.names)) in
    let nodes : List ℕ = spelled_in_turn (component_ellipse p) 0 comps.facts in
    let edges : List ℕ = spelled_in_turn edges_text 0 inters.facts in
    let met : List ℕ = flat_map station_edges conflicts.shown in
    let end : List ℕ = codes "}\n" in
    let w5 = joined t5 (numbers_text p stations) t6 end new e6 e7 in
    let w4 = joined t4 met t5 (numbers_text p stations ++ end) new conflicts.added w5 in
    let w3 = joined t3 edges t4 (met ++ (numbers_text p stations ++ end)) new inters.added w4 in
    let w2 = joined t2 nodes t3 (edges ++ (met ++ (numbers_text p stations ++ end))) new comps.added
    w3 in
    let w1 = joined t1 classes t2 (nodes ++ (edges ++ (met ++ (numbers_text p stations ++ end)))) new e2
    w2 in
    let same = members_shown p inters.facts inters.holds in
    let shown : classes ≡ flat_map (shown_class p inters.facts)
    (range_with_len 0 (length p.classes.names)) =
    λ i. flat_map (λ k. class_cluster p k (same k i))
    (range_with_len 0 (length p.classes.names)) in
    record {
      shown = record {
        interactions = inters.facts;
        components = comps.facts;
        stations = conflicts.shown;
      };
      holds = record {
        interactions = inters.holds;
        components = comps.holds;
        listed = rw conflicts.listed are;
        stations = conflicts.holds;
      };
      drawn = rw (conflicts.listed, ← shown, ← e1) w1;
    }
