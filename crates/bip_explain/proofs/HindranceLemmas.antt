-- The state before a line, line by line, and the first fault of a trace, which is one of that
-- state.
use Rattle.std.proofs.Common.{◌≡◌, ℕ, ◌+◌, ◌-◌, ◌≤◌, ◌<◌, List, [], ◌∷◌, ◌++◌, length, Bool, true}
use Rattle.std.proofs.Common.{false, cond, ◌&&◌, eqb, zero, suc, map, get_or, Option, None, Some}
use Rattle.std.proofs.Common.{Result, Ok, Err, refl, sym, ap, ◌∙◌, subst, arith, position, take}
use Rattle.std.proofs.Common.{eq-eqb, length-append}
use Rattle.std.specs.Prelude.{codes, IfErr, IfNone, IfSome, IsSomeAnd, OnOk, slice_get}
use Rattle.std.proofs.lemmas.List.{append-nil, take_all, take_at}
use Rattle.bip_model.specs.Naming.{IsName, is_name, same_text}
use Rattle.bip_model.specs.States.{IsLocalStateOf, IsStateOf, State}
use Rattle.bip_model.specs.Components.{offers_at}
use Rattle.bip_model.specs.Expressions.{AreComparisonsIn, counts, holds}
use Rattle.bip_model.specs.Parts.{IsInteraction, IsSystem, Participant, counts_of}
use Rattle.bip_model.specs.Steps.{IsEnabled, IsHeldBack, MayRun, after, guard_of, offered}
use Rattle.bip_model.specs.Steps.{participants_of, start_of, values_at, values_of}
use Rattle.bip_model.specs.declared.expressions.Comparison.{Comparison}
use Rattle.bip_model.specs.declared.expressions.Variable.{Variable}
use Rattle.bip_model.specs.declared.faults.NotNow.{NotNow}
use Rattle.bip_model.specs.declared.faults.NotNow.TheVariants.{NotEnabled, Below}
use Rattle.bip_model.specs.declared.numbering.CompId.{CompId}
use Rattle.bip_model.specs.declared.numbering.InterId.{InterId}
use Rattle.std.proofs.lemmas.List.Quantifiers.{position-Some}
use Rattle.bip_model.specs.declared.numbering.PortId.{PortId}
use Rattle.bip_model.specs.declared.parts.Component.{Component}
use Rattle.bip_model.specs.declared.parts.Interaction.{Interaction}
use Rattle.bip_model.specs.declared.states.LocalState.{LocalState}
use Rattle.bip_model.proofs.ListLemmas.{All-slice_get}
use Rattle.bip_model.proofs.StepLemmas.{counts_offered, enabled_by_guard}
use Rattle.bip_replay.specs.declared.faults.StepFault.TheVariants as step
use Rattle.bip_explain.specs.declared.hindrances.FailedComparison.{FailedComparison}
use Rattle.bip_explain.specs.declared.hindrances.Unoffered.{Unoffered}
use Rattle.std.specs.List.{list_all}
use Rattle.std.proofs.lemmas.Option.{slice_get-get_or}
use Rattle.bip_model.specs.Texts.{is_plain, lines, numbered, numbered_lines, words, words_said}
use Rattle.bip_model.specs.declared.grants.Grant.{Grant}
use Rattle.bip_model.specs.declared.parts.System.{System}
use Rattle.bip_model.proofs.LineLemmas.{AreLeft, all_read, line_read, none_read}
use Rattle.bip_replay.specs.Faults.{IsFaultOf, expected_after, of_step}
use Rattle.bip_replay.specs.Laws.{times_moved}
use Rattle.bip_replay.specs.declared.faults.BookFault.TheVariants.{Number}
use Rattle.bip_explain.specs.Grants.{IsCountOf}
use Rattle.bip_replay.specs.Items.{before_rest, items_from, one_more}
use Rattle.std.specs.Option.{option_map, option_map_or}
use Rattle.bip_model.specs.declared.wants.Role.TheVariants.{Moved}
use Rattle.bip_replay.specs.Lines.{NamedGrant, grant_on, known, looked_up, named_on, said}
use Rattle.bip_replay.specs.Lines.{wants_said}
use Rattle.bip_replay.specs.Writing.{behind_see}
use Rattle.bip_replay.specs.declared.faults.LineFault.TheVariants as line_fault
use Rattle.bip_replay.proofs.GrantLemmas.{grant_line}
use Rattle.bip_replay.specs.Replays.{IsFirstFault}
use Rattle.bip_replay.specs.Runs.{IsModelRun, state_after, used_after}
use Rattle.bip_replay.specs.Traces.{grants_from}
use Rattle.bip_replay.specs.declared.faults.BookFault.{BookFault}
use Rattle.bip_replay.specs.declared.faults.LineFault.{LineFault}
use Rattle.bip_replay.specs.declared.faults.ReplayFault.TheVariants.{NotARun}
use Rattle.bip_replay.specs.declared.faults.StepFault.{StepFault}
use Rattle.bip_replay.proofs.ItemLemmas.{first_read}
use Rattle.bip_replay.proofs.RunLemmas.{counts_moves, end_of-push, grants-back}
use Rattle.bip_explain.specs.Hindrances.{IsFirstFailed, IsUnhindered, IsLedBy, IsLedOn}
use Rattle.bip_explain.specs.Hindrances.{IsStateBefore, IsUnoffered, IsUnofferedIn}
use Rattle.bip_model.specs.Texts.{line_at, line_in}
use Rattle.bip_explain.specs.Placed.{first_two, said_words, words_told}
use Rattle.bip_explain.proofs.LineLemmas.{neq-eqb}

-- what is read of the last of some lines, and of those before it
pub record AreReadTo {X : Type 0} (on : List ℕ → Result (Option X) LineFault) (n : ℕ)
    (front : List (List ℕ)) (line : List ℕ) (xs : List X) : Type 0 where
  pub before : List X
  pub item : Option X
  pub reads : items_from on n front ≡ Ok before
  pub says : on line ≡ Ok item
  pub all : xs ≡ one_more before item

one_behind : {X : Type 0} (first : Option X) (ys : List X) (o : Option X)
    → one_more [] first ++ one_more ys o ≡ one_more (one_more [] first ++ ys) o
one_behind first ys None = refl
one_behind None ys (Some x) = refl
one_behind (Some y) ys (Some x) = refl

last_read : {X : Type 0} (on : List ℕ → Result (Option X) LineFault) (n : ℕ) (front : List (List ℕ))
    (line : List ℕ) (xs : List X) → items_from on n (front ++ line ∷ []) ≡ Ok xs
    → AreReadTo on n front line xs
last_read {X} on n [] line xs is =
    let at = first_read n (on line) (Ok []) xs is in
    let none : [] ≡ at.1 = cc in
    record {
      before = [];
      item = at.0;
      reads = refl;
      says = at.2;
      all = sym at.4 ∙ (ap (λ (ys : List X). one_more [] at.0 ++ ys) (sym none)
          ∙ append-nil (one_more [] at.0));
    }
last_read {X} on n (l ∷ front) line xs is =
    let at = first_read n (on l) (items_from on (n + 1) (front ++ line ∷ [])) xs is in
    let later = last_read on (n + 1) front line at.1 at.3 in
    record {
      before = one_more [] at.0 ++ later.before;
      item = later.item;
      reads = read_on n (on l) (items_from on (n + 1) front) at.0 later.before at.2 later.reads;
      says = later.says;
      all = sym at.4 ∙ (ap (λ (ys : List X). one_more [] at.0 ++ ys) later.all
          ∙ one_behind at.0 later.before later.item);
    }
  where
    read_on : (k : ℕ) (r : Result (Option X) LineFault) (rs : Result (List X) (ℕ × LineFault))
        (o : Option X) (ys : List X) → r ≡ Ok o → rs ≡ Ok ys
        → before_rest k r rs ≡ Ok (one_more [] o ++ ys)
    read_on k r rs None ys e f = rw (e, f) refl
    read_on k r rs (Some x) ys e f = rw (e, f) refl

-- the lines so far lead here, if they are grants that are a run, and those are left
pub record IsStateSoFar (m : System) (base : ℕ) (text : List ℕ) (end : ℕ) (s : State)
    (left : List (ℕ × List ℕ)) : Type 0 where
  pub front : List (List ℕ)
  pub are_left : AreLeft text front left
  pub within : length front ≤ end - 1
  pub leads : (gs : List Grant) → grants_from m 1 front ≡ Ok gs → IsModelRun m base gs
      → s ≡ state_after m gs

pub state-none : (m : System) (base : ℕ) (text : List ℕ) (end : ℕ) (s : State) → s ≡ start_of m
    → IsStateSoFar m base text end s (numbered_lines text)
state-none m base text end s is = record {
  front = [];
  are_left = none_read text;
  within = omega arith;
  leads = λ gs reads run. let none : [] ≡ gs = cc in is
      ∙ ap (λ (hs : List Grant). state_after m hs) none;
}

pub state-more : (m : System) (base : ℕ) (text line : List ℕ) (end n : ℕ) (s t : State)
    (left after' : List (ℕ × List ℕ)) → IsStateSoFar m base text end s left
    → left ≡ (n, line) ∷ after' → n < end → IsLedOn m line s t
    → IsStateSoFar m base text end t after'
state-more m base text line end n s t left after' so next before led =
    let is = line_read text so.front left after' n line so.are_left next in
    record {
      front = so.front ++ line ∷ [];
      are_left = is.left;
      within = omega (arith, is.number, length-append so.front (line ∷ []));
      leads = λ gs reads run. let at = last_read (grant_on m) 1 so.front line gs reads in
          by_item at.before at.item at.reads (led at.item at.says) gs at.all run;
    }
  where
    by_item : (ys : List Grant) (o : Option Grant) → grants_from m 1 so.front ≡ Ok ys
        → IsLedBy m s o t → (gs : List Grant) → gs ≡ one_more ys o → IsModelRun m base gs
        → t ≡ state_after m gs
    by_item ys None reads stays gs all run = stays
        ∙ so.leads gs (reads ∙ ap (λ (hs : List Grant). Ok hs) (sym all)) run
    by_item ys (Some g) reads goes gs all run =
        let longer : IsModelRun m base (ys ++ g ∷ []) =
        subst (λ (hs : List Grant). IsModelRun m base hs) all run in
        let parts = (grants-back m base ys g).0 longer in
        let there : s ≡ state_after m ys = so.leads ys reads parts.0 in
        let may : MayRun m s g.inter.0 = subst (λ (u : State). MayRun m u g.inter.0)
        (sym there) parts.1.may in
        goes may ∙ (ap (λ (u : State). after m u g.inter.0) there
        ∙ (sym (end_of-push m (start_of m) ys g)
        ∙ ap (λ (hs : List Grant). state_after m hs) (sym all)))

pub state-stopped : (m : System) (base : ℕ) (text line : List ℕ) (end n : ℕ) (s : State)
    (left after' : List (ℕ × List ℕ)) → IsStateSoFar m base text end s left
    → left ≡ (n, line) ∷ after' → end ≤ n → IsStateBefore m base text end s
state-stopped m base text line end n s left after' so next behind gs reads run =
    let is = line_read text so.front left after' n line so.are_left next in
    let front : take (end - 1) (lines text) ≡ so.front =
    rw is.split (take_at so.front (line ∷ is.rest) (end - 1)
    (omega (arith, is.number, so.within))) in
    so.leads gs (ap (λ (ls : List (List ℕ)). grants_from m 1 ls) (sym front) ∙ reads) run

pub state-end : (m : System) (base : ℕ) (text : List ℕ) (end : ℕ) (s : State)
    (left : List (ℕ × List ℕ)) → IsStateSoFar m base text end s left → left ≡ []
    → IsStateBefore m base text end s
state-end m base text end s left so none gs reads run =
    let whole = all_read text so.front left so.are_left none in
    let front : take (end - 1) (lines text) ≡ so.front =
    rw whole (take_all (end - 1) so.front so.within) in
    so.leads gs (ap (λ (ls : List (List ℕ)). grants_from m 1 ls) (sym front) ∙ reads) run

-- the interaction that the line of a grant names
pub record NamesInter (m : System) (line : List ℕ) (g : Grant) : Type 0 where
  pub word : List ℕ
  pub said : first_two (said_words line) ≡ Some (codes "grant", word)
  pub name : IsName word
  pub place : position (same_text word) m.interaction_names ≡ Some g.inter.0

known_place : (m : System) (line : List ℕ) (g : Grant) → grant_on m line ≡ Ok (Some g)
    → (h : NamedGrant) × (named_on line ≡ Ok (Some h))
    × (position (same_text h.inter) m.interaction_names ≡ Some g.inter.0)
known_place m line g is = grind arith

pub grant_names : (m : System) (line : List ℕ) (g : Grant) → grant_on m line ≡ Ok (Some g)
    → NamesInter m line g
grant_names m line g reads =
    let is = grant_line m line g reads in
    let plain : is_plain line ≡ true = is.plain in
    let by_name = known_place m line g reads in
    let inter : is.interaction ≡ by_name.0.inter =
    same_inter (words line) by_name.0 is.interaction
    (is.moved_words ++ behind_see is.seen_words)
    (plain_said line by_name.0 by_name.1) is.says in
    record {
      word = is.interaction;
      said = rw (plain, is.says) refl;
      name = is.named.name;
      place = rw inter by_name.2;
    }
  where
    plain_said : (l : List ℕ) (h : NamedGrant) → named_on l ≡ Ok (Some h)
        → said (words l) ≡ Ok (Some h)
    plain_said l h e = grind arith

    same_inter : (ws : List (List ℕ)) (h : NamedGrant) (inter : List ℕ) (behind : List (List ℕ))
        → said ws ≡ Ok (Some h) → ws ≡ codes "grant" ∷ inter ∷ behind → inter ≡ h.inter
    same_inter ws h inter behind says is = by_said (rw is at says) where
      by_said : said (codes "grant" ∷ inter ∷ behind) ≡ Ok (Some h) → inter ≡ h.inter
      by_said e = grind arith

no_grant : (o : Option Grant) → option_map_or {U = Result (Option Grant) LineFault}
    (λ (h : Grant). Ok (Some h)) o (Err line_fault.Unknown) ≡ Ok None → ⊥
no_grant None e = cc
no_grant (Some h) e = cc

by_name : (m : System) (r : Result (Option NamedGrant) LineFault) → looked_up m r ≡ Ok None
    → r ≡ Ok None
by_name m (Err fault) e = cc
by_name m (Ok None) e = refl
by_name m (Ok (Some g)) e = absurd (no_grant (known m g) e)

no_wants : {A : Type 0} (o : Option A) (f : A → NamedGrant)
    → option_map_or {U = Result (Option NamedGrant) LineFault} (λ wants. Ok (Some (f wants))) o
    (Err line_fault.Syntax) ≡ Ok None → ⊥
no_wants None f e = cc
no_wants (Some wants) f e = cc

silent_words : (o : Option (List (List ℕ))) → option_map_or
    {U = Result (Option NamedGrant) LineFault} said o (Err line_fault.Syntax) ≡ Ok None
    → first_two (words_told o) ≡ None
silent_words None e = refl
silent_words (Some []) e = refl
silent_words (Some (word ∷ [])) e = refl
silent_words (Some (word ∷ inter ∷ rest)) e =
    by_test (same_text word (codes "grant") && is_name inter) e where
      by_test : (t : Bool) → cond t (option_map_or {U = Result (Option NamedGrant) LineFault}
          (λ wants. Ok (Some (record { inter = inter; wants = wants }))) (wants_said Moved [] rest)
          (Err line_fault.Syntax)) (Err line_fault.Syntax) ≡ Ok None
          → first_two (word ∷ inter ∷ rest) ≡ None
      by_test false is = cc
      by_test true is = absurd (no_wants (wants_said Moved [] rest)
          (λ wants. record { inter = inter; wants = wants }) is)

-- a line that says nothing names none
pub silent_names : (m : System) (line : List ℕ) → grant_on m line ≡ Ok None
    → first_two (said_words line) ≡ None
silent_names m line is = silent_words (words_said line) (by_name m (named_on line) is)

-- the line with a number, in front of which so many stand
line_there : (k : ℕ) (front rest : List (List ℕ)) (line : List ℕ)
    → line_in (numbered k (front ++ line ∷ rest)) (length front + k) ≡ line
line_there k [] rest line = rw (eq-eqb k (0 + k) (omega arith)) refl
line_there k (l ∷ front) rest line =
    let other : eqb k (length (l ∷ front) + k) ≡ false =
    neq-eqb k (length (l ∷ front) + k) (omega arith) in
    let same : length (l ∷ front) + k ≡ length front + (k + 1) = omega arith in
    rw (other, same) (line_there (k + 1) front rest line)

-- what the first fault of a trace says of its line, and of the state before it
pub record IsFaultOn (m : System) (base : ℕ) (text : List ℕ) (number : ℕ)
    (fault : BookFault) : Type 0 where
  pub grants : List Grant
  pub reads : grants_from m 1 (take (number - 1) (lines text)) ≡ Ok grants
  pub run : IsModelRun m base grants
  pub grant : Grant
  pub says : grant_on m (line_at text number) ≡ Ok (Some grant)
  pub step : StepFault
  pub same : fault ≡ of_step step
  pub why : IsFaultOf m (state_after m grants) (used_after base grants) grant step

pub first_fault : (m : System) (base : ℕ) (text : List ℕ) (number : ℕ) (fault : BookFault)
    → IsFirstFault m base text number (NotARun fault) → IsFaultOn m base text number fault
first_fault m base text number fault first =
    let front : take (number - 1) (lines text) ≡ first.front =
    rw first.split (take_at first.front (first.line ∷ first.rest) (number - 1)
    (omega (arith, first.numbered))) in
    let line : line_at text number ≡ first.line =
    rw (first.split, first.numbered) (line_there 1 first.front first.rest first.line) in
    let refused = first.why.2 in
    record {
      grants = first.grants;
      reads = ap (λ (ls : List (List ℕ)). grants_from m 1 ls) front ∙ first.reads;
      run = first.run;
      grant = refused.grant;
      says = ap (λ (l : List ℕ). grant_on m l) line ∙ refused.reads;
      step = first.why.0;
      same = first.why.1;
      why = refused.why;
    }

-- where the line of a grant leads, if it may run
pub led_on : (m : System) (s t : State) (a : ℕ) (r : Result (Unit {0}) NotNow)
    → OnOk r (t ≡ after m s a) → IfErr r (IsHeldBack m s a) → MayRun m s a → t ≡ after m s a
led_on m s t a (Ok u) fired refused may = fired
led_on m s t a (Err NotEnabled) fired refused may = absurd (refused may.enabled)
led_on m s t a (Err (Below b)) fired refused may =
    absurd (may.clear b.0 refused.1.above refused.1.enabled)

-- what the fault says keeps it from running
pub not_free : (m : System) (base : ℕ) (text : List ℕ) (number : ℕ) (fault : BookFault) (s : State)
    (a : ℕ) (is : IsFaultOn m base text number fault) → s ≡ state_after m is.grants
    → a ≡ is.grant.inter.0 → IsUnhindered m s a fault → ⊥
not_free m base text number fault s a is there same free = by_step is.step is.same is.why where
  here : IsUnhindered m (state_after m is.grants) is.grant.inter.0 fault
  here = subst (λ (u : State). IsUnhindered m u is.grant.inter.0 fault) there
      (subst (λ (n : ℕ). IsUnhindered m s n fault) same free)

  by_step : (step : StepFault) → fault ≡ of_step step
      → IsFaultOf m (state_after m is.grants) (used_after base is.grants) is.grant step → ⊥
  by_step step.NotEnabled e why = why (subst (λ (f : BookFault). IsUnhindered m
      (state_after m is.grants) is.grant.inter.0 f) e here)
  by_step (step.Below b) e why = subst (λ (f : BookFault). IsUnhindered m
      (state_after m is.grants) is.grant.inter.0 f) e here b.0 why.1.above why.1.enabled
  by_step (step.Number c next) e why = subst (λ (f : BookFault). IsUnhindered m
      (state_after m is.grants) is.grant.inter.0 f) e here
  by_step step.Parties e why = subst (λ (f : BookFault). IsUnhindered m
      (state_after m is.grants) is.grant.inter.0 f) e here

-- components that are there
pub get_there : {X : Type 0} (xs : List X) (i : ℕ) → i < length xs → (x : X)
    × (slice_get xs i ≡ Some x)
get_there [] i within = absurd (omega arith)
get_there (x ∷ xs) zero within = (x, refl)
get_there (x ∷ xs) (suc i) within = get_there xs i (omega arith)

pub no_local : (m : System) (s : State) (c : ℕ) → IsStateOf m s → c < length m.components
    → s c ≡ None → ⊥
no_local m s c of within none =
    let there = get_there m.components c within in
    subst (λ (o : Option LocalState). IsSomeAnd o (IsLocalStateOf there.0)) none
    (of.components c there.0 there.1)

pub local_of_it : (m : System) (s : State) (c : ℕ) (component : Component) (local : LocalState)
    → IsStateOf m s → slice_get m.components c ≡ Some component → s c ≡ Some local
    → IsLocalStateOf component local
local_of_it m s c component local of at is = subst (λ (o : Option LocalState). IsSomeAnd o
    (IsLocalStateOf component)) is (of.components c component at)

pub component_at : (m : System) (c : ℕ) (items : List Component) (component : Component)
    → items ≡ m.components → c < length m.components → component ≡ get_or items c component
    → slice_get m.components c ≡ Some component
component_at m c items component are within is =
    ap (λ (xs : List Component). slice_get xs c) (sym are)
    ∙ (slice_get-get_or items c component (rw are within)
    ∙ ap (λ (k : Component). Some k) (sym is))

-- what a component says of itself, of the model
module _ (m : System) (s : State) (comp : CompId) (port : PortId) (component : Component)
    (local : LocalState) (at : slice_get m.components comp.0 ≡ Some component)
    (is : s comp.0 ≡ Some local) where
  pub unoffered_in : (o : Option Unoffered) → IfSome o
      (λ why. (offers_at component local port ≡ false) × IsUnoffered component local port why)
      → IfSome o (λ why. (offered m s (comp, port) ≡ false) × IsUnofferedIn m s (comp, port) why)
  unoffered_in None h = tt
  unoffered_in (Some why) h = (rw (at, is) h.0, rw (at, is) h.1)

  pub offered_in : (o : Option Unoffered) → IfNone o (offers_at component local port ≡ true)
      → IfNone o (offered m s (comp, port) ≡ true)
  offered_in None h = rw (at, is) h
  offered_in (Some why) h = tt

-- the guard of an interaction whose ports are all offered
module _ (m : System) (s : State) (a : ℕ) (i : Interaction) (qs : List Participant)
    (values : List (List ℕ)) (guard : List (Comparison Variable))
    (at : slice_get m.interactions a ≡ Some i) (are : qs ≡ participants_of m a)
    (all : list_all (offered m s) qs ≡ true) (valued : values ≡ map (values_at s) qs)
    (guarded : guard ≡ i.guard) where
  same : qs ≡ i.participants
  same = are ∙ rw at refl

  pub guard_over : IsSystem m → AreComparisonsIn (counts values) guard
  guard_over valid =
      let of = All-slice_get (IsInteraction m.components) m.interactions a i
      valid.so_far.interactions at in
      let counted : counts values ≡ counts_of m.components i.participants = ap counts valued
      ∙ (counts_offered m s qs all ∙ ap (counts_of m.components) same) in
      rw (counted, guarded) of.guard.there

  pub enabled_there : holds guard values ≡ true → IsEnabled m s a
  enabled_there holding =
      (enabled_by_guard m s a i true at (subst (λ (rs : List Participant). list_all (offered m s) rs
      ≡ true) same all)
      (sym (ap (λ (g : List (Comparison Variable)). holds g (map (values_at s) i.participants))
      (sym guarded)
      ∙ (ap (λ (rs : List Participant). holds guard (map (values_at s) rs)) (sym same)
      ∙ (ap (λ (vs : List (List ℕ)). holds guard vs) (sym valued) ∙ holding))))).0 refl

  pub failed_there : (failed : FailedComparison) → IsFirstFailed guard values failed
      → (list_all (offered m s) (participants_of m a) ≡ true)
      × IsFirstFailed (guard_of m a) (values_of m s a) failed
  failed_there failed is = (
    subst (λ (rs : List Participant). list_all (offered m s) rs ≡ true) are all,
    subst (λ (g : List (Comparison Variable)). IsFirstFailed g (values_of m s a) failed)
        (guarded ∙ rw at refl)
        (subst (λ (vs : List (List ℕ)). IsFirstFailed guard vs failed)
        (valued ∙ ap (λ (rs : List Participant). map (values_at s) rs) are) is),
  )

-- an interaction that is named is declared
pub declared_inter : (m : System) (word : List ℕ) (o : Option InterId) → IsSystem m
    → option_map (λ (a : InterId). a.0) o ≡ position (same_text word) m.interaction_names
    → IfSome o (λ inter. inter.0 < length m.interactions)
declared_inter m word None valid is = tt
declared_inter m word (Some inter) valid is =
    omega (
      arith,
      (position-Some (same_text word) m.interaction_names inter.0 [] (sym is)).0,
      valid.so_far.interactions_named,
    )

abbrev two : List ℕ → List ℕ → Option (List ℕ × List ℕ)
two a b = Some (a, b)

pub second_word : (a b c d : List ℕ) → two a b ≡ two c d → b ≡ d
second_word a b c d e = ap (λ (o : Option (List ℕ × List ℕ)). option_map_or {U = List ℕ}
    (λ (p : List ℕ × List ℕ). p.1) o []) e

pub not_none : (a b : List ℕ) → two a b ≡ None → ⊥
not_none a b e = cc

pub led_by : (m : System) (s t : State) (inter : InterId) (line : List ℕ)
    (r : Result (Unit {0}) NotNow) → OnOk r (t ≡ after m s inter.0)
    → IfErr r (IsHeldBack m s inter.0)
    → ((g : Grant) → grant_on m line ≡ Ok (Some g) → Some inter.0 ≡ Some g.inter.0)
    → (grant_on m line ≡ Ok None → Some inter ≡ None) → (o : Option Grant)
    → grant_on m line ≡ Ok o → IsLedBy m s o t
led_by m s t inter line r fired refused named silent None says = let none : Some inter ≡ None =
    silent says in cc
led_by m s t inter line r fired refused named silent (Some g) says = λ may.
    let same : inter.0 ≡ g.inter.0 = let e : Some inter.0 ≡ Some g.inter.0 = named g says in cc in
    led_on m s t inter.0 r fired refused (subst (λ (a : ℕ). MayRun m s a) (sym same) may)
    ∙ ap (λ (a : ℕ). after m s a) same

-- how often a component has moved before the line whose number is wrong
pub counted : (m : System) (base : ℕ) (text : List ℕ) (number : ℕ) (comp : CompId) (next : ℕ)
    → IsCountOf m base text number comp next
counted m base text number comp next first some = by_step first.why.0 first.why.1 first.why.2.why
  where
    by_step : (step : StepFault) → Number comp next ≡ of_step step
        → IsFaultOf m (state_after m first.grants)
        (used_after base first.grants) first.why.2.grant step
        → (next - base) - 1 ≡ times_moved first.grants comp.0
    by_step step.NotEnabled e why = cc
    by_step (step.Below b) e why = cc
    by_step step.Parties e why = cc
    by_step (step.Number c k) e why =
        let same : c.0 ≡ comp.0 = cc in
        let is : next ≡ k = cc in
        let used = counts_moves m (start_of m) (λ _. base) first.grants comp.0 first.run in
        let after : k ≡ expected_after (used_after base first.grants comp.0) = why.2
        ∙ ap (λ (n : ℕ). expected_after (used_after base first.grants n)) same in
        grind arith
