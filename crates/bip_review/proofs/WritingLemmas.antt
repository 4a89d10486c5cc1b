-- What is named in a plan's text is of the plan.
use Rattle.std.proofs.Common.{◌≡◌, ℕ, ◌<◌, true, eqb, List, [], ◌∷◌, ◌++◌, length, map, get_or}
use Rattle.std.proofs.Common.{Option, None, Some, Result, Ok, Err, ◌+◌, refl, ap, ◌∙◌, append-nil}
use Rattle.std.proofs.Common.{append_assoc, inl, inr, eq-eqb}
use Rattle.std.specs.Prelude.{All, Contains, IfNone, IfSome, OnOk, codes}
use Rattle.std.specs.List.{flat_map}
use Rattle.std.specs.Option.{ForSome}
use Rattle.std.proofs.lemmas.Bool.{cases_lt}
use Rattle.std.proofs.lemmas.List.{get_or_past, map_push}
use Rattle.std.proofs.lemmas.List.Concat.{flat_map-append}
use Rattle.std.proofs.lemmas.List.Elements.{All-push, Contains-get_or}
use Rattle.std.proofs.lemmas.List.Folds.{list_any_at}
use Rattle.bip_model.specs.Numbering.{IsLowest}
use Rattle.bip_model.specs.Partitions.{class_in}
use Rattle.bip_model.specs.Parts.{IsSystem, Participant, components_in}
use Rattle.bip_model.specs.Naming.{name_in}
use Rattle.bip_model.specs.Texts.{line_feed, spaced}
use Rattle.bip_model.specs.declared.numbering.InterId.{InterId}
use Rattle.bip_model.specs.Priorities.{inter}
use Rattle.bip_model.specs.Steps.{IsListLookedAt, IsLookedAt, moves, participants_of}
use Rattle.bip_model.specs.declared.numbering.ClassId.{ClassId}
use Rattle.bip_model.specs.declared.numbering.CompId.{CompId}
use Rattle.bip_model.specs.declared.parts.System.{System}
use Rattle.bip_model.proofs.AboveLemmas.{HasAbove-high}
use Rattle.bip_model.proofs.ListLemmas.{Contains-none}
use Rattle.bip_model.proofs.LookLemmas.{moves_known}
use Rattle.bip_partition.specs.Laws.{IsPlanned}
use Rattle.bip_partition.specs.Plans.{IsListTouching, IsReserved, IsTabled, Planned}
use Rattle.bip_partition.proofs.ClassLemmas.{stands_in_its_class}
use Rattle.bip_partition.proofs.TouchLemmas.{looking_known, touched_known, touches_known}
use Rattle.bip_partition.proofs.TouchLemmas.{touching_known}
use Rattle.bip_review.specs.Reasons.{IsRowReason, MovesFromAbove, ReservesThrough}
use Rattle.bip_review.specs.Writing.{AddsLine, AddsLines, AddsLooks, ComponentShown}
use Rattle.bip_review.specs.Writing.{InteractionShown, IsComponentLine, IsInteractionLine, IsOfPlan}
use Rattle.bip_review.specs.Writing.{IsReserving, IsStanding, Look, component_text}
use Rattle.bip_review.specs.Writing.{interaction_text, look_text, moved_text, one_more}
use Rattle.bip_review.specs.Writing.{reserving_text, standing_text}
use Rattle.bip_review.specs.declared.reasons.RowReason.{RowReason}
use Rattle.bip_review.specs.declared.reasons.RowReason.TheVariants.{LookedAt, Shared, Beside}

-- the class of an interaction is one of the plan
pub class_known : (p : Planned) (a : ℕ) → IsPlanned p → a < length p.model.interactions
    → class_in p.classes a < length p.classes.members
class_known p a planned within = elim (cases_lt (class_in p.classes a) (length p.classes.members)) [
  | inl known ↦ known
  | inr past ↦
      let there : Contains [] (inter a) = rw (get_or_past p.classes.members (class_in p.classes a)
      [] past) at (stands_in_its_class p planned a within).0 in
      absurd (Contains-none (inter a) there)
]

-- what an interaction moves is of the model
pub participant_known : (m : System) (a i : ℕ) (d : Participant) → IsSystem m
    → i < length (participants_of m a) → (get_or (participants_of m a) i d).0.0
    < length m.components
participant_known m a i d valid within =
    let c : ℕ = (get_or (participants_of m a) i d).0.0 in
    let moved : moves m a c ≡ true = list_any_at (λ (q : Participant). eqb q.0.0 c)
    (participants_of m a) i d within (eq-eqb c c refl) in
    moves_known m a c valid.so_far moved

-- so is the interaction for whose sake it looks
pub cause_known : (m : System) (a c b : ℕ) → IsSystem m → MovesFromAbove m a c b
    → b < length m.interactions
cause_known m a c b valid cause = HasAbove-high
    (length m.interactions) m.priorities a b valid.so_far.priorities cause.above

-- classes that touch a component are of the plan
pub classes_known : (p : Planned) (c : ℕ) (list : List ClassId) → IsListTouching p c list
    → All (λ (k : ClassId). k.0 < length p.classes.members) list
classes_known p c list is = λ i d below. touching_known p (get_or list i d).0 c
    ((is.exact (get_or list i d).0).0 (Contains-get_or list i d below))

-- so is what a reason names
pub reason_known : (p : Planned) (c : ℕ) (reason : RowReason) → IsSystem p.model
    → IsRowReason p c reason → IsOfPlan p reason
reason_known p c (LookedAt a) valid is = looking_known p.model a.0 c valid is.here
reason_known p c Shared valid is = tt
reason_known p c (Beside a d) valid is = (
  touches_known p.model a.0 c valid is.3.here.touched,
  touched_known p.model a.0 d.0 valid is.3.here.beside,
)

pub reasons_known : (p : Planned) (c : ℕ) (reason : Option RowReason) → IsSystem p.model
    → IfSome reason (IsRowReason p c) → ForSome reason (IsOfPlan p)
reasons_known p c None valid some = λ r is. absurd (cc)
reasons_known p c (Some reason) valid some = λ r is. let same : reason ≡ r = cc in
    rw same at (reason_known p c reason valid some)

-- and the component through which an interaction is reserved
pub reserving_known : (p : Planned) (a : ℕ) (through : Option CompId) → IsSystem p.model
    → IfSome through (λ c. IsLowest (ReservesThrough p a) c.0)
    → ForSome through (λ c. c.0 < length p.model.components)
reserving_known p a None valid some = λ c is. absurd (cc)
reserving_known p a (Some d) valid some = λ c is. let same : d ≡ c = cc in
    rw same at (touched_known p.model a d.0 valid some.here.touched)

-- what two clauses say of an answer
pub is_standing : (p : Planned) (c : ℕ) (reason : Option RowReason)
    → IfSome reason (IsRowReason p c) → IfNone reason (¬ IsTabled p c) → IsStanding p c reason
is_standing p c None some none = none
is_standing p c (Some reason) some none = some

pub is_reserving : (p : Planned) (a : ℕ) (through : Option CompId)
    → IfSome through (λ c. IsLowest (ReservesThrough p a) c.0) → IfNone through (¬ IsReserved p a)
    → IsReserving p a through
is_reserving p a None some none = none
is_reserving p a (Some c) some none = some

-- one text behind another
pub joined : (old a mid b new : List ℕ) → mid ≡ old ++ a → new ≡ mid ++ b → new ≡ old ++ (a ++ b)
joined old a mid b new first second = second ∙ (ap (λ t. t ++ b) first ∙ append_assoc old a b)

-- the same where a call that may fail adds the second
pub joined_on_ok : {T E : Type 0} (r : Result T E) (old a mid b new : List ℕ) → mid ≡ old ++ a
    → OnOk r (new ≡ mid ++ b) → OnOk r (new ≡ old ++ (a ++ b))
joined_on_ok (Ok x) old a mid b new first second = joined old a mid b new first second
joined_on_ok (Err e) old a mid b new first second = tt

-- a line more behind lines
pub lines_more : (IsLine : ℕ → List ℕ → Type 0) (text : List ℕ) (n : ℕ) (mid new : List ℕ)
    → AddsLines IsLine text n mid → AddsLine (IsLine n) mid new → AddsLines IsLine text (n + 1) new
lines_more IsLine text n mid new before line = rw line.added (one_more before line.holds)

-- a line of an interaction, of its parts
pub interaction_line : (p : Planned) (a : ℕ) (through : Option CompId)
    (old t1 t2 t3 t4 t5 new : List ℕ)
    → t1 ≡ old ++ codes "interaction"
    → t2 ≡ t1 ++ spaced (name_in p.model.interaction_names a)
    → t3 ≡ t2 ++ moved_text p (class_in p.classes a) (components_in (participants_of p.model a))
    → AddsLooks p.model a t3 t4
    → t5 ≡ t4 ++ reserving_text p.model through
    → new ≡ t5 ++ line_feed ∷ []
    → IsReserving p a through
    → AddsLine (IsInteractionLine p a) old new
interaction_line p a through old t1 t2 t3 t4 t5 new e1 e2 e3 looks e5 e6 reserving =
    let name : List ℕ = spaced (name_in p.model.interaction_names a) in
    let moved : List ℕ = moved_text p (class_in p.classes a)
    (components_in (participants_of p.model a)) in
    let seen : List ℕ = flat_map (look_text p.model) looks.looks in
    let last : List ℕ = reserving_text p.model through in
    let w4 = joined t4 last t5 (line_feed ∷ []) new e5 e6 in
    let w3 = joined t3 seen t4 (last ++ line_feed ∷ []) new looks.added w4 in
    let w2 = joined t2 moved t3 (seen ++ (last ++ line_feed ∷ [])) new e3 w3 in
    let w1 = joined t1 name t2 (moved ++ (seen ++ (last ++ line_feed ∷ []))) new e2 w2 in
    let shown : InteractionShown = record {
      class = class_in p.classes a;
      moved = components_in (participants_of p.model a);
      looks = looks.looks;
      reserving =
          through;
    } in
    record {
      line = interaction_text p a shown;
      holds = record {
        shown = shown;
        holds = record {
          class = refl;
          moved = refl;
          looks = looks.holds;
          reserving = reserving;
        };
        spelled = refl;
      };
      added = joined old (codes "interaction") t1
          (name ++ (moved ++ (seen ++ (last ++ line_feed ∷ [])))) new e1 w1;
    }

-- a line of a component, of its parts
pub component_line : (p : Planned) (c : ℕ) (classes : List ClassId) (reason : Option RowReason)
    (old t1 t2 t3 new : List ℕ)
    → t1 ≡ old ++ codes "component"
    → t2 ≡ t1 ++ spaced (name_in p.model.component_names c)
    → t3 ≡ t2 ++ standing_text p classes reason
    → new ≡ t3 ++ line_feed ∷ []
    → IsListTouching p c classes
    → IsStanding p c reason
    → AddsLine (IsComponentLine p c) old new
component_line p c classes reason old t1 t2 t3 new e1 e2 e3 e4 touching standing =
    let name : List ℕ = spaced (name_in p.model.component_names c) in
    let last : List ℕ = standing_text p classes reason in
    let w2 = joined t2 last t3 (line_feed ∷ []) new e3 e4 in
    let w1 = joined t1 name t2 (last ++ line_feed ∷ []) new e2 w2 in
    let shown : ComponentShown = record { reason = reason; classes = classes } in
    record {
      line = component_text p c shown;
      holds = record {
        shown = shown;
        holds = record { reason = standing; classes = touching };
        spelled = refl;
      };
      added = joined old (codes "component") t1 (name ++ (last ++ line_feed ∷ [])) new e1 w1;
    }

-- the looks at the first components of a list, which are written behind a text
pub record AreFirstLooks (m : System) (a : ℕ) (seen : List CompId) (old new : List ℕ)
    (looks : List Look) : Type 0 where
  pub listed : map (λ (look : Look). look.comp) looks ≡ seen
  pub causes : All (λ (look : Look). IsLowest (MovesFromAbove m a look.comp.0) look.cause.0) looks
  pub added : new ≡ old ++ flat_map (look_text m) looks

-- one look more
pub one_look_more : (m : System) (a : ℕ) (seen : List CompId) (old mid new : List ℕ)
    (looks : List Look) (comp : CompId) (cause : InterId)
    → AreFirstLooks m a seen old mid looks
    → IsLowest (MovesFromAbove m a comp.0) cause.0
    → new ≡ mid ++ look_text m (record { comp = comp; cause = cause })
    → AreFirstLooks m a (seen ++ comp ∷ []) old new
    (looks ++ record { comp = comp; cause = cause } ∷ [])
one_look_more m a seen old mid new looks comp cause first lowest more =
    let look : Look = record { comp = comp; cause = cause } in
    record {
      listed = map_push (λ (l : Look). l.comp) looks look ∙ ap (λ cs. cs ++ comp ∷ []) first.listed;
      causes = All-push (λ (l : Look). IsLowest (MovesFromAbove m a l.comp.0) l.cause.0) looks look
          first.causes lowest;
      added =
          let one : look_text m look ++ [] ≡ look_text m look = append-nil (look_text m look) in
          rw (flat_map-append (look_text m) looks (look ∷ []))
          (rw one (joined old (flat_map (look_text m) looks) mid
          (look_text m look) new first.added more));
    }

-- what is in the list of what an interaction looks at is looked at
pub is_looked_at : (m : System) (a : ℕ) (seen : List CompId) (i : ℕ) (d : CompId)
    → IsListLookedAt m a seen → i < length seen → IsLookedAt m a (get_or seen i d).0
is_looked_at m a seen i d is within = (is.exact (get_or seen i d).0).0
    (Contains-get_or seen i d within)
