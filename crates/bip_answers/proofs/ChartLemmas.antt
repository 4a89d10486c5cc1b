-- Charts: a trace that is followed line by line, and the run with which it begins.
use Rattle.std.proofs.Common.{◌≡◌, ◌<◌, ◌≤◌, ◌∙◌, ℕ, List, [], ◌∷◌, ◌++◌, None, Option, Some}
use Rattle.std.proofs.Common.{Result}
use Rattle.std.proofs.Common.{Ok, Err, ap, arith, length, refl, subst, sym}
use Rattle.std.specs.Prelude.{IfErr, IfOk}
use Rattle.std.specs.Borrow.{Bor}
use Rattle.bip_model.proofs.LineLemmas.{line_read}
use Rattle.bip_model.specs.Texts.{numbered_lines}
use Rattle.bip_model.specs.declared.grants.Grant.{Grant}
use Rattle.bip_model.specs.declared.numbering.CompId.{CompId}
use Rattle.bip_model.specs.declared.parts.System.{System}
use Rattle.bip_reader.specs.Texts.{Means}
use Rattle.bip_replay.proofs.ItemLemmas.{HasRead, has_read-below, has_read-end, has_read-more}
use Rattle.bip_replay.proofs.ItemLemmas.{has_read-none}
use Rattle.bip_replay.proofs.ReadingLemmas.{first_told}
use Rattle.bip_replay.specs.Items.{one_more}
use Rattle.bip_replay.specs.Lines.{grant_on}
use Rattle.bip_replay.specs.Replays.{IsReplayFault, IsRunOf}
use Rattle.bip_replay.specs.Runs.{IsModelRun, Standing, standing_of}
use Rattle.bip_replay.specs.declared.faults.StepFault.{StepFault}
use Rattle.bip_replay.specs.declared.faults.BookFault.{BookFault}
use Rattle.bip_replay.specs.declared.faults.ReplayFault.TheVariants.{NotARun}
use Rattle.bip_replay.specs.declared.faults.ReplayFault.{ReplayFault}
use Rattle.bip_draw.specs.Charts.{HasDrawn, IsChartFault, IsChartOn, Sketch, chart_of, rows_of}
use Rattle.bip_draw.specs.Ends.{AddsRunnable}
use Rattle.bip_draw.specs.declared.charts.ChartFault.TheVariants.{NotNext}
use Rattle.bip_draw.specs.declared.feet.Foot.{Foot}
use Rattle.bip_draw.specs.declared.charts.Excerpt.{Excerpt}
use Rattle.bip_model.specs.States.{State}
use Rattle.bip_model.specs.declared.partitions.Partition.{Partition}
use Rattle.bip_replay.specs.Faults.{IsFaultAt, of_step, replay_of_line}
use Rattle.bip_replay.specs.Replays.{IsLineFault}
use Rattle.bip_replay.specs.declared.faults.LineFault.TheVariants as line_fault
use Rattle.bip_replay.specs.declared.faults.LineFault.{LineFault}
use Rattle.bip_answers.specs.Answers.{IsSaidOf, complaining}
use Rattle.bip_answers.specs.Charted.{IsFollowed, IsFootOf, IsFrontRun, IsPictured, TakesLine}
use Rattle.bip_answers.specs.Charted.{AreLanesOf, IsChartAnswer, IsExcerptAnswer, charted}
use Rattle.bip_answers.specs.Charted.{count_shown, excerpt_of, fitting, most_rows, no_picture}
use Rattle.bip_answers.specs.Charted.{picture, stopped, too_long, uncharted, whole}
use Rattle.bip_answers.specs.Wording.{chart_refusal}
use Rattle.bip_answers.specs.declared.answers.Status.TheVariants.{Refused}
use Rattle.bip_answers.specs.declared.charted.Shown.{Shown}
use Rattle.bip_answers.specs.declared.answers.Answer.{Answer}

-- what has been followed of a trace: the lines read as these grants, which are drawn, and those
-- lines are left
pub record DrawnSoFar (base : ℕ) (text : List ℕ) (gs : List Grant) (c : Sketch)
    (left : List (ℕ × List ℕ)) : Type 0 where
  pub read : HasRead (grant_on c.model) text gs left
  pub drawn : HasDrawn base gs c

pub drawn-none : (base : ℕ) (text : List ℕ) (c : Sketch) → HasDrawn base [] c
    → DrawnSoFar base text [] c (numbered_lines text)
drawn-none base text c drawn =
    record { read = has_read-none (grant_on c.model) text; drawn = drawn }

-- one line more
pub drawn-more : (base : ℕ) (text line : List ℕ) (n : ℕ) (left after : List (ℕ × List ℕ))
    (gs : List Grant) (c d : Sketch) (u : Unit {0}) → DrawnSoFar base text gs c left
    → left ≡ (n, line) ∷ after → d.model ≡ c.model → TakesLine base gs line (Ok u) d
    → (hs : List Grant) × DrawnSoFar base text hs d after
drawn-more base text line n left after gs c d u so next same takes =
    let longer : List Grant = one_more gs takes.0 in
    let before : HasRead (grant_on d.model) text gs left =
    subst (λ (m : System). HasRead (grant_on m) text gs left) (sym same) so.read in (
      longer,
      record {
        read = has_read-more (grant_on d.model) text line n left after gs longer tt before next (
          takes.0,
          takes.1,
          refl,
        );
        drawn = takes.2;
      },
    )

-- there are fewer grants than bytes
pub drawn-below : (base : ℕ) (text line : List ℕ) (n : ℕ) (left after : List (ℕ × List ℕ))
    (gs : List Grant) (c : Sketch) → DrawnSoFar base text gs c left → left ≡ (n, line) ∷ after
    → c.count < length text
drawn-below base text line n left after gs c so next =
    omega (
      arith,
      so.drawn.counted,
      has_read-below (grant_on c.model) text line n left after gs so.read next,
    )

-- the end of the trace
pub drawn-end : (base : ℕ) (text : List ℕ) (left : List (ℕ × List ℕ)) (gs : List Grant)
    (c : Sketch) → DrawnSoFar base text gs c left → left ≡ []
    → IsFollowed c.model base text (Ok c.count) gs
drawn-end base text left gs c so none =
    (has_read-end (grant_on c.model) text gs left so.read none, so.drawn.counted)

-- or its first line at fault
pub drawn-fault : (base : ℕ) (text line : List ℕ) (n : ℕ) (left after : List (ℕ × List ℕ))
    (gs : List Grant) (c d : Sketch) (fault : ReplayFault) → DrawnSoFar base text gs c left
    → left ≡ (n, line) ∷ after → d.model ≡ c.model → TakesLine base gs line (Err fault) d
    → IsFollowed d.model base text (Err (n, fault)) gs
drawn-fault base text line n left after gs c d fault so next same takes =
    let read : HasRead (grant_on d.model) text gs left =
    subst (λ (m : System). HasRead (grant_on m) text gs left) (sym same) so.read in
    let is = line_read text read.front left after n line read.are_left next in (
      record {
        front = read.front;
        line = line;
        rest = is.rest;
        grants = gs;
        split = is.split;
        numbered = is.number;
        reads = read.reads;
        run = takes.1.leads.run;
        why = takes.0;
      },
      refl,
    )

-- what is said of a trace that was followed
pub followed_run : (m : System) (base : ℕ) (trace : List ℕ)
    (replayed : Result ℕ (ℕ × ReplayFault)) (gs : List Grant)
    → IsFollowed m base trace replayed gs → IsModelRun m base gs
    → IfOk replayed (IsRunOf m base trace)
followed_run m base trace (Ok count) gs is run =
    record { grants = gs; reads = is.0; run = run; counted = sym is.1 }
followed_run m base trace (Err e) gs is run = tt

pub followed_fault : (m : System) (base : ℕ) (trace : List ℕ)
    (replayed : Result ℕ (ℕ × ReplayFault)) (gs : List Grant)
    → IsFollowed m base trace replayed gs
    → IfErr replayed (λ e. IsReplayFault m base trace e.0 e.1)
followed_fault m base trace (Ok count) gs is = tt
followed_fault m base trace (Err (number, fault)) gs is =
    first_told m base trace number fault is.0

-- the run with which it begins
pub begins_whole : (m : System) (base : ℕ) (trace : List ℕ) (count : ℕ) (gs : List Grant)
    (verdict : Answer) → IsFollowed m base trace (Ok count) gs → IsModelRun m base gs
    → IsSaidOf m trace (Ok count) verdict → IsFrontRun m base trace gs verdict
begins_whole m base trace count gs verdict is run said =
    subst (IsFrontRun m base trace gs) (sym said)
    (whole count (record { grants = gs; reads = is.0; run = run; counted = sym is.1 }))

pub begins_stopped : (m : System) (base : ℕ) (trace : List ℕ) (number : ℕ) (fault : BookFault)
    (gs : List Grant) (verdict : Answer)
    → IsFollowed m base trace (Err (number, NotARun fault)) gs
    → IsSaidOf m trace (Err (number, NotARun fault)) verdict
    → IsFrontRun m base trace gs verdict
begins_stopped m base trace number fault gs verdict is said =
    subst (λ (hs : List Grant). IsFrontRun m base trace hs verdict) is.1
    (subst (IsFrontRun m base trace is.0.grants) (sym said) (stopped number fault is.0))

-- a chart shows what the one before it did
pub shows_on : (m : System) (classes : Partition) (x : Excerpt) (c d : Sketch)
    → IsChartOn m classes x c → IsChartOn c.model c.classes c.excerpt d
    → IsChartOn m classes x d
shows_on m classes x c d before on =
    record {
      model = on.model ∙ before.model;
      parted = on.parted ∙ before.parted;
      shows = on.shows ∙ before.shows;
    }

-- a line that says no grant is at fault, wherever it stands
pub says_none : (m : System) (s : State) (used : ℕ → ℕ) (line : List ℕ) (fault : LineFault)
    → grant_on m line ≡ Err fault → IsLineFault m s used line (replay_of_line fault)
says_none m s used line line_fault.Syntax is = is
says_none m s used line line_fault.Unknown is = is

-- what a line does to a chart, by what it says
module _ (base : ℕ) (gs : List Grant) (line : List ℕ) (c : Sketch)
    (drawn : HasDrawn base gs c) where
  of_model : c.position.model ≡ c.model
  of_model = ap (λ (p : Standing). p.model) drawn.leads.there

  said_there : (said : Result (Option Grant) LineFault) → grant_on c.position.model line ≡ said
      → grant_on c.model line ≡ said
  said_there said says =
      subst (λ (m : System). grant_on m line ≡ said) of_model says

  pub nothing_said : grant_on c.position.model line ≡ Ok None → TakesLine base gs line (Ok tt) c
  nothing_said says = (None, said_there (Ok None) says, drawn)

  pub none_said : (fault : LineFault) → grant_on c.position.model line ≡ Err fault
      → TakesLine base gs line (Err (replay_of_line fault)) c
  none_said fault says = (
    says_none c.model _ _ line fault (said_there (Err fault) says),
    drawn,
  )

  pub one_said : (g : Grant) (d : Sketch) → grant_on c.position.model line ≡ Ok (Some g)
      → d.model ≡ c.model → HasDrawn base (gs ++ g ∷ []) d → TakesLine base gs line (Ok tt) d
  one_said g d says same longer = (
    Some g,
    subst (λ (m : System). grant_on m line ≡ Ok (Some g)) (sym same)
        (said_there (Ok (Some g)) says),
    longer,
  )

  pub one_refused : (g : Grant) (d : Sketch) (fault : StepFault)
      → grant_on c.position.model line ≡ Ok (Some g) → IsChartFault c d g (NotNext fault)
      → TakesLine base gs line (Err (NotARun (of_step fault))) d
  one_refused g d fault says is =
      subst (λ (k : Sketch). TakesLine base gs line (Err (NotARun (of_step fault))) k) (sym is.1) (
        (
          fault,
          refl,
          record {
            grant = g;
            reads = said_there (Ok (Some g)) says;
            why = subst (λ (p : Standing). IsFaultAt p g fault) drawn.leads.there is.0;
          },
        ),
        drawn,
      )

-- the chart of a run, or too many rows
module _ (base : ℕ) (gs : List Grant) (x : Excerpt) (c : Sketch) (verdict : Answer)
    (drawn : HasDrawn base gs c) (shows : c.excerpt ≡ x) where
  counts : c.rows ≡ count_shown c.model x gs
  counts = drawn.rows ∙ ap (λ (y : Excerpt). length (rows_of c.model y gs)) shows

  pub pictured : (foot : Foot) (runnable text : List ℕ) → c.rows ≤ most_rows
      → IsFootOf x c.count verdict runnable foot
      → AddsRunnable c.position.model (standing_of c.position).state [] runnable
      → text ≡ chart_of c.model c.classes c.excerpt gs foot
      → IsPictured c.model c.classes x gs verdict
      (record {
        status = verdict.status;
        output = text;
        complaint = verdict.output;
        file = None;
      })
  pictured foot runnable text few behind runs is =
      let fits : count_shown c.model x gs ≤ most_rows = omega (arith, few, counts) in
      subst (λ (output : List ℕ).
      IsPictured c.model c.classes x gs verdict
      (record {
        status = verdict.status;
        output = output;
        complaint = verdict.output;
        file = None;
      }))
      (sym (is ∙ ap (λ (y : Excerpt). chart_of c.model c.classes y gs foot) shows))
      (fitting foot runnable fits
      (subst (λ (n : ℕ). IsFootOf x n verdict runnable foot) drawn.counted behind)
      (subst (λ (p : Standing). AddsRunnable p.model p.state [] runnable) drawn.leads.there runs))

  pub overlong : most_rows < c.rows
      → IsPictured c.model c.classes x gs verdict (complaining Refused (chart_refusal most_rows))
  overlong many =
      let more : most_rows < count_shown c.model x gs = omega (arith, many, counts) in
      too_long more

-- a chart that stays shows what it did
pub shows_itself : (c d : Sketch) → d ≡ c → IsChartOn c.model c.classes c.excerpt d
shows_itself c d same =
    subst (λ (k : Sketch). IsChartOn c.model c.classes c.excerpt k) (sym same)
    (record { model = refl; parted = refl; shows = refl })

-- a trace that a chart of a model followed, with the grants that it drew
pub record Followed (m : System) (classes : Partition) (x : Excerpt) (base : ℕ) (trace : List ℕ)
    (replayed : Result ℕ (ℕ × ReplayFault)) (c : Sketch) : Type 0 where
  pub grants : List Grant
  pub on : IsChartOn m classes x c
  pub says : IsFollowed m base trace replayed grants
  pub drawn : HasDrawn base grants c

pub has_followed : (m : System) (classes : Partition) (x : Excerpt) (base : ℕ) (trace : List ℕ)
    (replayed : Result ℕ (ℕ × ReplayFault)) (c d : Sketch) → IsChartOn m classes x c
    → IsChartOn c.model c.classes c.excerpt d
    → (gs : List Grant) × IsFollowed d.model base trace replayed gs × HasDrawn base gs d
    → Followed m classes x base trace replayed d
has_followed m classes x base trace replayed c d start on so =
    let here = shows_on m classes x c d start on in
    record {
      grants = so.0;
      on = here;
      says = subst (λ (n : System). IsFollowed n base trace replayed so.0) here.model so.1;
      drawn = so.2;
    }

module _ (m : System) (classes : Partition) (x : Excerpt) (base : ℕ) (trace : List ℕ)
    (replayed : Result ℕ (ℕ × ReplayFault)) (c : Sketch)
    (is : Followed m classes x base trace replayed c) where
  a_run : IsModelRun m base is.grants
  a_run = subst (λ (n : System). IsModelRun n base is.grants) is.on.model is.drawn.leads.run

  pub run_followed : IfOk replayed (IsRunOf m base trace)
  run_followed = followed_run m base trace replayed is.grants is.says a_run

  pub fault_followed : IfErr replayed (λ e. IsReplayFault m base trace e.0 e.1)
  fault_followed = followed_fault m base trace replayed is.grants is.says

  -- what is answered of it
  module _ (verdict answer : Answer) (text : List ℕ)
      (shows : (n : ℕ) (gs : List Grant) → HasDrawn n gs c
      → IsPictured c.model c.classes x gs verdict answer) where
    the_picture : IsPictured m classes x is.grants verdict answer
    the_picture =
        subst (λ (n : System). IsPictured n classes x is.grants verdict answer) is.on.model
        (subst (λ (k : Partition). IsPictured c.model k x is.grants verdict answer)
        is.on.parted (shows base is.grants is.drawn))

    pub answered_whole : (count : ℕ) → replayed ≡ Ok count → IsSaidOf m trace replayed verdict
        → IsExcerptAnswer base m classes x text trace answer
    answered_whole count same said =
        picture is.grants verdict answer
        (begins_whole m base trace count is.grants verdict
        (subst (λ r. IsFollowed m base trace r is.grants) same is.says) a_run
        (subst (λ r. IsSaidOf m trace r verdict) same said)) the_picture

    pub answered_stopped : (number : ℕ) (fault : BookFault)
        → replayed ≡ Err (number, NotARun fault) → IsSaidOf m trace replayed verdict
        → IsExcerptAnswer base m classes x text trace answer
    answered_stopped number fault same said =
        picture is.grants verdict answer
        (begins_stopped m base trace number fault is.grants verdict
        (subst (λ r. IsFollowed m base trace r is.grants) same is.says)
        (subst (λ r. IsSaidOf m trace r verdict) same said)) the_picture

-- what is answered where these lanes are shown
pub with_lanes : (base : ℕ) (m : System) (classes : Partition) (shown : Shown)
    (only : Option (Bor (List CompId))) (text trace : List ℕ) (answer : Answer)
    → Means text m classes → AreLanesOf m shown.only only
    → IsExcerptAnswer base m classes (excerpt_of shown only) text trace answer
    → IsChartAnswer base shown text trace answer
with_lanes base m classes shown only text trace _ means lanes
    (picture grants verdict answer begins shows) =
    charted m classes only grants verdict answer means lanes begins shows
with_lanes base m classes shown only text trace _ means lanes (no_picture answer is refused) =
    uncharted answer is refused
