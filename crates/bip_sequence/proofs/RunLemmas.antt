-- Events that are noted one after another, and their report.
use Rattle.std.proofs.Common.{◌≡◌, ◌∙◌, ◌+◌, ◌++◌, ◌∷◌, ℕ, List, Option, [], ap}
use Rattle.std.proofs.Common.{length}
use Rattle.std.proofs.Common.{length-append, refl, subst, sym}
use Rattle.bip_core.proofs.RunLemmas.{report_more, steps_one}
use Rattle.bip_core.specs.Runs.{AddsUp, AreSteps, IsRunOfEvents, report_of, report_with}
use Rattle.bip_core.specs.Worlds.{WorldContent}
use Rattle.bip_core.specs.declared.events.Did.{Did}
use Rattle.bip_core.specs.declared.events.Event.{Event}
use Rattle.bip_core.specs.declared.runs.Report.{Report}
use Rattle.bip_sequence.specs.Notes.{AreNoted, IsNotedEvent, NotesContent, none_noted, one_noted}

-- as many outcomes as events
noted_length : {w : WorldContent} {n : NotesContent} {es : List Event} {ds : List (Option Did)}
    {v : WorldContent} {later : NotesContent} → AreNoted w n es ds v later → length ds ≡ length es
noted_length none_noted = refl
noted_length (one_noted {es = es} {ds = ds} e d before is) =
    length-append ds (d ∷ [])
    ∙ (ap (λ n. n + 1) (noted_length before) ∙ sym (length-append es (e ∷ [])))

pub noted_count : {w v : WorldContent} {n later : NotesContent} {es : List Event}
    {ds : List (Option Did)} {report : Report} → AreNoted w n es ds v later
    → report ≡ report_of ds → report.events ≡ length es
noted_count noted is = ap (λ (r : Report). r.events) is ∙ noted_length noted

-- one more is noted
pub noted_on : {w v x : WorldContent} {n m later : NotesContent} {es : List Event}
    {ds : List (Option Did)} {report after : Report} {e : Event} {d : Option Did}
    → AreNoted w n es ds v m → report ≡ report_of ds
    → IsNotedEvent (report.events + 1) e d v x m later → after ≡ report_with report d
    → AreNoted w n (es ++ e ∷ []) (ds ++ d ∷ []) x later × (after ≡ report_of (ds ++ d ∷ []))
noted_on {v = v} {x = x} {m = m} {later = later} {es = es} {ds = ds} {report = report} {e = e}
    {d = d} before counted is more =
    let number : report.events + 1 ≡ length es + 1 =
    ap (λ k. k + 1) (noted_count before counted) in (
      one_noted e d before (subst (λ (k : ℕ). IsNotedEvent k e d v x m later) number is),
      more ∙ (ap (λ (r : Report). report_with r d) counted ∙ report_more ds d),
    )

-- of all events some are left; the others lead from a world to another one, and this is noted of
-- them
pub record HasNoted (all left : List Event) (w v : WorldContent) (n m : NotesContent)
    (report : Report) : Type 0 where
  pub done : List Event
  pub dids : List (Option Did)
  pub noted : AreNoted w n done dids v m
  pub sums : report ≡ report_of dids
  pub adds_up : AddsUp report
  pub parts : all ≡ done ++ left
  pub plan : v.plan ≡ w.plan
  pub kept : m.plan ≡ n.plan

-- they lead from the one world to the other
noted_steps : {w : WorldContent} {n : NotesContent} {es : List Event} {ds : List (Option Did)}
    {v : WorldContent} {later : NotesContent} → AreNoted w n es ds v later → AreSteps es ds w v
noted_steps none_noted = refl
noted_steps {w = w} (one_noted {es = es} {ds = ds} {v = v} {x = x} e d before is) =
    steps_one es ds w v x e d (noted_steps before) is.steps

pub all_noted : {w v : WorldContent} {n later : NotesContent} {es all : List Event}
    {ds : List (Option Did)} {report : Report} → AreNoted w n es ds v later
    → report ≡ report_of ds → es ≡ all → IsRunOfEvents all w v report
all_noted {w = w} {v = v} {ds = ds} noted sums whole =
    record {
      dids = ds;
      steps = subst (λ (l : List Event). AreSteps l ds w v) whole (noted_steps noted);
      sums = sums;
    }
