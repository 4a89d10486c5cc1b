-- Schedules that are read line by line: the lines so far, one line more, the end; and the events of
-- the lines that are left.
use Rattle.std.proofs.Common.{◌≡◌, ◌≢◌, ℕ, ◌+◌, ◌∷◌, ◌++◌, List, [], Option, None, Some, Result, Ok}
use Rattle.std.proofs.Common.{◌<◌, ◌≤◌, Err, suc, refl, sym, ap, append_assoc, ◌∙◌, arith, length}
use Rattle.std.proofs.Common.{subst}
use Rattle.std.specs.Prelude.{All, IfSome, IsOk}
use Rattle.std.proofs.lemmas.List.{length-append}
use Rattle.std.proofs.lemmas.List.Elements.{All-cons, All-head, All-nil, All-push, All-tail}
use Rattle.bip_core.specs.declared.events.Event.{Event}
use Rattle.bip_model.proofs.LineLemmas.{line_read}
use Rattle.bip_model.specs.Texts.{lines, numbered, numbered_lines}
use Rattle.bip_model.specs.declared.numbering.InterId.{InterId}
use Rattle.bip_partition.proofs.TableLemmas.{one_stations}
use Rattle.bip_partition.specs.Plans.{AreStations, Planned}
use Rattle.bip_replay.proofs.ItemLemmas.{HasRead, first_read, has_read-below, has_read-end}
use Rattle.bip_replay.proofs.ItemLemmas.{has_read-fault, has_read-none, items_from-push}
use Rattle.bip_replay.specs.Faults.{trace_of_line}
use Rattle.bip_replay.specs.Items.{IsTextFault, items_from, items_of, one_more}
use Rattle.bip_replay.specs.declared.faults.LineFault.TheVariants as line_fault
use Rattle.bip_replay.specs.declared.faults.LineFault.{LineFault}
use Rattle.bip_replay.specs.declared.faults.TraceFault.TheVariants.{Memory, Syntax, Unknown}
use Rattle.bip_schedule.specs.Known.{StationedPlan}
use Rattle.bip_schedule.specs.Laws.{IsFault}
use Rattle.bip_schedule.specs.Lines.{event_on}
use Rattle.bip_schedule.specs.Schedules.{AreWell, IsEventText, item_said, items_left}
use Rattle.bip_schedule.specs.Writing.{HasSpelling, HaveSpelling}

-- by what a line says
module _ {X : Type 0} (on : List ℕ → Result (Option X) LineFault) where
  -- one line more, whatever it says
  pub line_more : (text line : List ℕ) (n : ℕ) (left after : List (ℕ × List ℕ)) (items : List X)
      (said : Option X) → HasRead on text items left → left ≡ (n, line) ∷ after → on line ≡ Ok said
      → HasRead on text (one_more items said) after
  line_more text line n left after items said so next says = record {
    front = so.front ++ line ∷ [];
    are_left = (line_read text so.front left after n line so.are_left next).left;
    reads = items_from-push on 1 so.front line items said so.reads says;
  }

  -- a line at fault is the first one
  line_at_fault : (text line : List ℕ) (n : ℕ) (left after : List (ℕ × List ℕ)) (items : List X)
      (fault : LineFault) → HasRead on text items left → left ≡ (n, line) ∷ after
      → on line ≡ Err fault
      → IsTextFault on text n (trace_of_line fault) × (trace_of_line fault ≢ Memory)
  line_at_fault text line n left after items line_fault.Syntax so next says =
      (has_read-fault on text line n left after items items Syntax so next says, λ same. cc)
  line_at_fault text line n left after items line_fault.Unknown so next says =
      (has_read-fault on text line n left after items items Unknown so next says, λ same. cc)

  said_one : (said : Option X) (ys : List X)
      → item_said (Ok said) ++ ys ≡ one_more [] said ++ ys
  said_one None ys = refl
  said_one (Some x) ys = refl

  -- lines that read as items have these left, and none is at fault
  left_from : (n : ℕ) (ls : List (List ℕ)) (xs : List X) → items_from on n ls ≡ Ok xs
      → (items_left on (numbered n ls) ≡ xs) × AreWell on (numbered n ls)
  left_from n [] xs reads = (cc, All-nil (λ (l : ℕ × List ℕ). IsOk (on l.1)))
  left_from n (line ∷ rest) xs reads =
      let at = first_read n (on line) (items_from on (n + 1) rest) xs reads in
      let later = left_from (n + 1) rest at.1 at.3 in (
        rw (at.2, later.0) (said_one at.0 at.1 ∙ at.4),
        All-cons (λ (l : ℕ × List ℕ). IsOk (on l.1)) (n, line) (numbered (n + 1) rest)
            (subst IsOk (sym at.2) refl) later.1,
      )

  left_of : (text : List ℕ) (xs : List X) → items_of on text ≡ Ok xs
      → (items_left on (numbered_lines text) ≡ xs) × AreWell on (numbered_lines text)
  left_of text xs reads = left_from 1 (lines text) xs reads

-- what was tested of a text: the lines before those that are left are events of a plan
pub record HasTested (p : Planned) (text : List ℕ) (by : StationedPlan)
    (left : List (ℕ × List ℕ)) : Type 0 where
  pub plan : by.plan ≡ p
  pub are : AreStations by.plan by.stations
  pub events : List Event
  pub read : HasRead (event_on by.plan by.stations) text events left
  pub spelled : All (HasSpelling by.plan by.stations) events
  pub few : length events ≤ length text

unfoldable pub tested-none : (p : Planned) (text : List ℕ) (by : StationedPlan) → by.plan ≡ p
    → AreStations by.plan by.stations → HasTested p text by (numbered_lines text)
tested-none p text by plan are = record {
  plan = plan;
  are = are;
  events = [];
  read = has_read-none (event_on by.plan by.stations) text;
  spelled = All-nil (HasSpelling by.plan by.stations);
  few = omega arith;
}

pub spelled_more : (P : Event → Type 0) (events : List Event) (said : Option Event) → All P events
    → IfSome said P → All P (one_more events said)
spelled_more P events None all one = all
spelled_more P events (Some e) all one = All-push P events e all one

pub few_more : (events : List Event) (said : Option Event) (n : ℕ) → length events < n
    → length (one_more events said) ≤ n
few_more events None n few = omega (arith, few)
few_more events (Some e) n few = omega (arith, few, length-append events (e ∷ []))

unfoldable pub tested-line : (p : Planned) (text line : List ℕ) (by : StationedPlan) (n : ℕ)
    (left after : List (ℕ × List ℕ)) (said : Option Event) → HasTested p text by left
    → left ≡ (n, line) ∷ after → Ok said ≡ event_on by.plan by.stations line
    → IfSome said (HasSpelling by.plan by.stations) → HasTested p text by after
tested-line p text line by n left after said so next says spelled = record {
  plan = so.plan;
  are = so.are;
  events = one_more so.events said;
  read = line_more (event_on by.plan by.stations) text line n left after so.events said so.read next
      (sym says);
  spelled = spelled_more (HasSpelling by.plan by.stations) so.events said so.spelled spelled;
  few = few_more so.events said (length text)
      (has_read-below (event_on by.plan by.stations) text line n left after so.events so.read next);
}

pub tested-more : (p : Planned) (text line : List ℕ) (by then : StationedPlan) (n : ℕ)
    (left after : List (ℕ × List ℕ)) (said : Option Event) → HasTested p text by left
    → left ≡ (n, line) ∷ after → Ok said ≡ event_on by.plan by.stations line
    → IfSome said (HasSpelling by.plan by.stations) → then ≡ by → HasTested p text then after
tested-more p text line by then n left after said so next says spelled same =
    subst (λ (b : StationedPlan). HasTested p text b after) (sym same)
    (tested-line p text line by n left after said so next says spelled)

pub tested-fault : (p : Planned) (text line : List ℕ) (by : StationedPlan) (n : ℕ)
    (left after : List (ℕ × List ℕ)) (fault : LineFault) → HasTested p text by left
    → left ≡ (n, line) ∷ after → Err fault ≡ event_on by.plan by.stations line
    → IsFault p text n (trace_of_line fault)
tested-fault p text line by n left after fault so next says =
    let wrong = line_at_fault (event_on by.plan by.stations) text line n left after so.events fault
    so.read next (sym says) in (
      record {
        stations = by.stations;
        are = subst (λ (q : Planned). AreStations q by.stations) so.plan so.are;
        why = subst (λ (q : Planned). IsTextFault (event_on q by.stations) text n
            (trace_of_line fault)) so.plan wrong.0;
      },
      wrong.1,
    )

-- a text of which no line is left is the events of its lines, each with a spelling
pub tested-events : (p : Planned) (text : List ℕ) (by : StationedPlan)
    (left : List (ℕ × List ℕ)) (so : HasTested p text by left) → left ≡ []
    → IsEventText p text so.events
tested-events p text by left so none = record {
  stations = by.stations;
  are = subst (λ (q : Planned). AreStations q by.stations) so.plan so.are;
  reads = subst (λ (q : Planned). items_of (event_on q by.stations) text ≡ Ok so.events) so.plan
      (has_read-end (event_on by.plan by.stations) text so.events left so.read none);
}

tested-spelled : (p : Planned) (text : List ℕ) (by : StationedPlan)
    (left : List (ℕ × List ℕ)) (so : HasTested p text by left) → HaveSpelling p so.events
tested-spelled p text by left so = λ stations are.
    let all : All (HasSpelling p by.stations) so.events =
    subst (λ (q : Planned). All (HasSpelling q by.stations) so.events) so.plan so.spelled in
    let own : AreStations p by.stations =
    subst (λ (q : Planned). AreStations q by.stations) so.plan so.are in
    subst (λ (list : List InterId). All (HasSpelling p list) so.events)
    (one_stations p by.stations stations own are) all

-- the schedule that such a text is, with all its lines left
pub record IsWhole (p : Planned) (text : List ℕ) (by : StationedPlan)
    (left : List (ℕ × List ℕ)) : Type 0 where
  pub says : IsEventText p text (items_left (event_on by.plan by.stations) left)
  pub spelled : HaveSpelling p (items_left (event_on by.plan by.stations) left)
  pub few : length (items_left (event_on by.plan by.stations) left) ≤ length text
  pub well : AreWell (event_on by.plan by.stations) left

pub tested-all : (p : Planned) (text : List ℕ) (by : StationedPlan)
    (left all : List (ℕ × List ℕ)) → HasTested p text by left → left ≡ []
    → all ≡ numbered_lines text → IsWhole p text by all
tested-all p text by left all so none whole =
    let on = event_on by.plan by.stations in
    let at = left_of on text so.events (has_read-end on text so.events left so.read none) in
    subst (λ (ls : List (ℕ × List ℕ)). IsWhole p text by ls) (sym whole) (record {
      says = subst (IsEventText p text) (sym at.0) (tested-events p text by left so none);
      spelled = subst (HaveSpelling p) (sym at.0) (tested-spelled p text by left so);
      few = subst (λ (events : List Event). length events ≤ length text) (sym at.0) so.few;
      well = at.1;
    })

-- lines that a schedule has left behind others that said nothing
pub record HasLeft (by then : StationedPlan) (left after : List (ℕ × List ℕ)) : Type 0 where
  pub same : then ≡ by
  pub items : items_left (event_on by.plan by.stations) left
      ≡ items_left (event_on by.plan by.stations) after
  pub well : AreWell (event_on by.plan by.stations) after

pub left-none : (by : StationedPlan) (left : List (ℕ × List ℕ))
    → AreWell (event_on by.plan by.stations) left → HasLeft by by left left
left-none by left well = record { same = refl; items = refl; well = well }

-- what the next line says by the plan that they began with
says_first : (by then : StationedPlan) (line : List ℕ) (r : Result (Option Event) LineFault)
    → then ≡ by → r ≡ event_on then.plan then.stations line → event_on by.plan by.stations line ≡ r
says_first by then line r same says =
    ap (λ (b : StationedPlan). event_on b.plan b.stations line) (sym same) ∙ sym says

pub left-nothing : (by then now : StationedPlan) (left after later : List (ℕ × List ℕ))
    (line : List ℕ) (n : ℕ) → HasLeft by then left after → after ≡ (n, line) ∷ later
    → Ok None ≡ event_on then.plan then.stations line → now ≡ then → HasLeft by now left later
left-nothing by then now left after later line n so next says same =
    let on = event_on by.plan by.stations in
    let said : on line ≡ Ok None = says_first by then line (Ok None) so.same says in
    let all : AreWell on ((n, line) ∷ later) = subst (AreWell on) next so.well in
    record {
      same = same ∙ so.same;
      items = so.items ∙ (ap (items_left on) next
          ∙ ap (λ (r : Result (Option Event) LineFault). item_said r ++ items_left on later) said);
      well = All-tail (λ (l : ℕ × List ℕ). IsOk (on l.1)) (n, line) later all;
    }

-- the event of the next line is the first of those that are left
pub record IsNextEvent (by now : StationedPlan) (left later : List (ℕ × List ℕ)) (e : Event)
    : Type 0 where
  pub first : items_left (event_on by.plan by.stations) left
      ≡ e ∷ items_left (event_on now.plan now.stations) later
  pub well : AreWell (event_on now.plan now.stations) later

pub left-event : (by then now : StationedPlan) (left after later : List (ℕ × List ℕ))
    (line : List ℕ) (n : ℕ) (e : Event) → HasLeft by then left after → after ≡ (n, line) ∷ later
    → Ok (Some e) ≡ event_on then.plan then.stations line → now ≡ then
    → IsNextEvent by now left later e
left-event by then now left after later line n e so next says same =
    let on = event_on by.plan by.stations in
    let said : on line ≡ Ok (Some e) = says_first by then line (Ok (Some e)) so.same says in
    let all : AreWell on ((n, line) ∷ later) = subst (AreWell on) next so.well in
    subst (λ (b : StationedPlan). IsNextEvent by b left later e) (sym (same ∙ so.same)) (record {
      first = so.items ∙ (ap (items_left on) next
          ∙ ap (λ (r : Result (Option Event) LineFault). item_said r ++ items_left on later) said);
      well = All-tail (λ (l : ℕ × List ℕ). IsOk (on l.1)) (n, line) later all;
    })

-- no line of a schedule is at fault
pub left-wrong : (by then : StationedPlan) (left after later : List (ℕ × List ℕ))
    (line : List ℕ) (n : ℕ) (fault : LineFault) → HasLeft by then left after
    → after ≡ (n, line) ∷ later → Err fault ≡ event_on then.plan then.stations line → ⊥
left-wrong by then left after later line n fault so next says =
    let on = event_on by.plan by.stations in
    let said : on line ≡ Err fault = says_first by then line (Err fault) so.same says in
    let all : AreWell on ((n, line) ∷ later) = subst (AreWell on) next so.well in
    let well : IsOk (on line) = All-head (λ (l : ℕ × List ℕ). IsOk (on l.1)) (n, line) later all in
    let never : IsOk {T = Option Event} (Err fault) = subst IsOk said well in
    cc

pub left-end : (by then : StationedPlan) (left after : List (ℕ × List ℕ))
    → HasLeft by then left after → after ≡ [] → items_left (event_on by.plan by.stations) left ≡ []
left-end by then left after so none =
    so.items ∙ ap (items_left (event_on by.plan by.stations)) none

-- Events that are done one after another: of all those that are done, and those that are left, of
-- which one is next.

-- one of all
all_behind : {X : Type 0} (P : X → Type 0) (xs ys : List X) (y : X) → All P (xs ++ y ∷ ys) → P y
all_behind P [] ys y all = All-head P y ys all
all_behind P (x ∷ xs) ys y all = all_behind P xs ys y (All-tail P x (xs ++ y ∷ ys) all)

-- the next of some events that have one
pub spelled_next : (p q : Planned) (all done left after : List Event) (e : Event)
    → HaveSpelling p all → all ≡ done ++ left → left ≡ e ∷ after → q ≡ p
    → HaveSpelling q (e ∷ [])
spelled_next p q all done left after e each parts next same =
    let whole : all ≡ done ++ e ∷ after = parts ∙ ap (λ (es : List Event). done ++ es) next in
    subst (λ (r : Planned). HaveSpelling r (e ∷ [])) (sym same) (λ stations are.
    All-cons (HasSpelling p stations) e []
    (all_behind (HasSpelling p stations) done after e
    (subst (All (HasSpelling p stations)) whole (each stations are)))
    (All-nil (HasSpelling p stations)))

-- there is room for it in their report
pub room_next : (all done left after : List Event) (e : Event) (n : ℕ) → all ≡ done ++ left
    → left ≡ e ∷ after → n ≡ length done → n < length all
room_next all done left after e n parts next counted =
    let whole : length all ≡ length done + length left =
    ap length parts ∙ length-append done left in
    let more : length left ≡ suc (length after) = ap length next in
    omega (arith, whole, more, counted)

-- they are one more, and the others
pub parts_next : (all done left after : List Event) (e : Event) → all ≡ done ++ left
    → left ≡ e ∷ after → all ≡ (done ++ e ∷ []) ++ after
parts_next all done left after e parts next =
    parts ∙ (ap (λ (es : List Event). done ++ es) next ∙ sym (append_assoc done (e ∷ []) after))
