-- Faults are exact, there is one at most, and there is always an answer.
use Rattle.std.proofs.Common.{◌≡◌, ℕ, ◌+◌, List, [], ◌∷◌, ◌++◌, length, ◌∙◌, Option, None, Some}
use Rattle.std.proofs.Common.{Result, Ok, Err, refl, sym, ◌<◌, arith, ◌⊎◌, inl, inr}
use Rattle.std.specs.Prelude.{All, Any}
use Rattle.std.proofs.lemmas.List.{append_assoc, append-nil}
use Rattle.bip_model.specs.declared.grants.Grant.{Grant}
use Rattle.bip_model.specs.declared.wants.Want.{Want}
use Rattle.bip_model.specs.declared.parts.System.{System}
use Rattle.bip_model.specs.States.{State}
use Rattle.bip_model.specs.Steps.{start_of}
use Rattle.bip_model.specs.Parts.{IsSystem}
use Rattle.bip_model.specs.Texts.{lines}
use Rattle.bip_replay.specs.declared.faults.LineFault.{LineFault}
use Rattle.bip_replay.specs.declared.faults.ReplayFault.{ReplayFault}
use Rattle.bip_replay.specs.declared.faults.StepFault.{StepFault}
use Rattle.bip_replay.specs.declared.faults.StepFault.TheVariants.{Number, Parties}
use Rattle.bip_replay.specs.Faults.{IsFaultOf, IsLowestWrong, of_step}
use Rattle.bip_replay.specs.Replays.{IsFirstFault, IsLineFault, IsRunOf}
use Rattle.bip_replay.specs.Runs.{HasNextNumber, IsModelRun, state_after, used_after}
use Rattle.bip_replay.specs.Lines.{grant_on}
use Rattle.bip_replay.specs.Items.{one_more}
use Rattle.bip_replay.specs.Traces.{grants_from, grants_of}
use Rattle.bip_replay.specs.declared.faults.ReplayFault.TheVariants.{Syntax, Unknown, NotARun}
use Rattle.bip_replay.specs.declared.faults.ReplayFault.TheVariants.{Memory}
use Rattle.bip_replay.specs.declared.faults.LineFault.TheVariants as line_fault
use Rattle.bip_replay.specs.declared.faults.ReplayFault.TheVariants as replay
use Rattle.bip_replay.proofs.ItemLemmas.{first_read, items_from-append, items_from-push, onto}
use Rattle.bip_replay.proofs.RunLemmas.{not_next, IsRunFrom-push, next_at, next_or_fault}
use Rattle.bip_replay.proofs.GrantLemmas.{grant_line}

-- grants with more behind them
onto_some : (gs all : List Grant) (r : Result (List Grant) (ℕ × LineFault)) → onto gs r ≡ Ok all
    → (hs : List Grant) × (r ≡ Ok hs) × (gs ++ hs ≡ all)
onto_some gs all r is = grind arith

-- lines of which one is at fault where those before it lead are no run
pub stops : (m : System) (base : ℕ) (front rest : List (List ℕ)) (line : List ℕ)
    (gs all : List Grant) (fault : ReplayFault) → grants_from m 1 front ≡ Ok gs
    → IsLineFault m (state_after m gs) (used_after base gs) line fault
    → grants_from m 1 (front ++ line ∷ rest) ≡ Ok all → IsModelRun m base all → ⊥
stops m base front rest line gs all fault reads why whole run =
    let behind = onto_some gs all (grants_from m (1 + length front) (line ∷ rest))
    (rw (items_from-append (grant_on m) 1 front (line ∷ rest) gs reads) at whole) in
    let at = first_read (1 + length front) (grant_on m line)
    (grants_from m (1 + length front + 1) rest) behind.0 behind.1 in
    by_fault fault why at.0 at.1 at.2 (rw (at.4, behind.2) run)
  where
    by_fault : (f : ReplayFault) → IsLineFault m (state_after m gs) (used_after base gs) line f
        → (o : Option Grant) (hs : List Grant) → grant_on m line ≡ Ok o
        → IsModelRun m base (gs ++ (one_more [] o ++ hs)) → ⊥
    by_fault (replay.NotARun w) says (Some g) hs reads' on =
        let same : says.2.grant ≡ g = grind arith in
        not_next m (state_after m gs) (used_after base gs) g says.0 (rw same at says.2.why)
        (next_at m base gs hs g on)
    by_fault f says o hs reads' on = grind arith

-- a trace with a first fault is no run
pub no_run : (m : System) (base : ℕ) (text : List ℕ) (number : ℕ) (fault : ReplayFault)
    → IsFirstFault m base text number fault → (gs : List Grant) → grants_of m text ≡ Ok gs
    → IsModelRun m base gs → ⊥
no_run m base text number fault first gs reads run =
    stops m base first.front first.rest first.line first.grants gs fault first.reads first.why
    (rw first.split at reads) run

-- no want of a component is wrong where those below a higher one are right
not_wrong : (used : ℕ → ℕ) (ws : List Want) (c k : ℕ)
    → Any (λ (w : Want). (w.comp.0 ≡ c) × ¬ HasNextNumber used w) ws
    → All (λ (w : Want). w.comp.0 < k → HasNextNumber used w) ws → c < k → ⊥
not_wrong used ws c k wrong right below = let has = right wrong.0 wrong.1 wrong.2 in grind arith

-- one component is the lowest that is wrong
one_lowest : (m : System) (used : ℕ → ℕ) (ws : List Want) (c d : ℕ) → IsLowestWrong m used ws c
    → IsLowestWrong m used ws d → c ≡ d
one_lowest m used ws c d one other = grind (
  arith,
  not_wrong used ws c d one.wrong other.lower,
  not_wrong used ws d c other.wrong one.lower,
)

-- a grant has one fault at most
pub one_step : (m : System) (s : State) (used : ℕ → ℕ) (g : Grant) (f h : StepFault)
    → IsFaultOf m s used g f → IsFaultOf m s used g h → f ≡ h
one_step m s used g (Number c n) (Number d k) one other = let same =
    one_lowest m used g.wants c.0 d.0 one.1 other.1 in grind arith
one_step m s used g (Number c n) Parties one other =
    absurd (not_wrong used g.wants c.0 (length m.components) one.1.wrong other.1 one.1.known)
one_step m s used g Parties (Number d k) one other =
    absurd (not_wrong used g.wants d.0 (length m.components) other.1.wrong one.1 other.1.known)
one_step m s used g f h one other = grind arith

-- a line has one fault
one_line : (m : System) (s : State) (used : ℕ → ℕ) (line : List ℕ) (f h : ReplayFault)
    → IsLineFault m s used line f → IsLineFault m s used line h → f ≡ h
one_line m s used line (NotARun v) (NotARun w) one other =
    let same : one.2.grant ≡ other.2.grant = grind arith in
    let why : one.0 ≡ other.0 = one_step m s used other.2.grant one.0 other.0
    (rw same at one.2.why) other.2.why in
    rw (one.1, why, other.1) refl
one_line m s used line f h one other = grind arith

-- of two ways to part a list at one of its items, one is before the other, or they are the same
parted : {X : Type 0} (xs ys us vs : List X) (x y : X) → xs ++ x ∷ us ≡ ys ++ y ∷ vs
    → ((more : List X) × (ys ≡ xs ++ x ∷ more))
    ⊎ (((xs ≡ ys) × (x ≡ y)) ⊎ ((more : List X) × (xs ≡ ys ++ y ∷ more)))
parted [] [] us vs x y e = inr (inl (refl, cc))
parted [] (b ∷ ys) us vs x y e = let same : b ≡ x = cc in inl (ys, cc)
parted (a ∷ xs) [] us vs x y e = let same : a ≡ y = cc in inr (inr (xs, cc))
parted (a ∷ xs) (b ∷ ys) us vs x y e = let rest = parted xs ys us vs x y cc in grind arith

-- a trace has one first fault at most
pub one_first : (m : System) (base : ℕ) (text : List ℕ) (n k : ℕ) (f g : ReplayFault)
    → IsFirstFault m base text n f → IsFirstFault m base text k g → (n ≡ k) × (f ≡ g)
one_first m base text n k f g one other = by_place
    (parted one.front other.front one.rest other.rest one.line other.line
    (sym one.split ∙ other.split))
  where
    by_place : ((more : List (List ℕ)) × (other.front ≡ one.front ++ one.line ∷ more))
        ⊎ (((one.front ≡ other.front) × (one.line ≡ other.line))
        ⊎ ((more : List (List ℕ)) × (one.front ≡ other.front ++ other.line ∷ more))) → (n ≡ k)
        × (f ≡ g)
    by_place (inl before) = absurd (stops m base one.front before.0 one.line one.grants other.grants
        f one.reads one.why (rw before.1 at other.reads) other.run)
    by_place (inr (inr behind)) = absurd (stops m base other.front behind.0 other.line other.grants
        one.grants g other.reads other.why (rw behind.1 at one.reads) one.run)
    by_place (inr (inl here)) =
        let s : Ok one.grants ≡ Ok other.grants = sym (rw here.0 at one.reads) ∙ other.reads in
        let same : one.grants ≡ other.grants = cc in (
          grind arith,
          one_line m (state_after m other.grants) (used_after base
              other.grants) other.line f g (rw (same, here.1) at one.why) other.why,
        )

-- a text is the trace of a run, or has a first fault
abbrev Answered : System → ℕ → List ℕ → Type 0
Answered m base text = ((count : ℕ) × IsRunOf m base text count)
    ⊎ ((number : ℕ) × (fault : ReplayFault) × IsFirstFault m base text number fault)

-- the answer, where lines in front of the text read as grants that are a run
answer : (m : System) (base : ℕ) (text : List ℕ) (front rest : List (List ℕ)) (gs : List Grant)
    → IsSystem m → lines text ≡ front ++ rest → grants_from m 1 front ≡ Ok gs → IsModelRun m base gs
    → Answered m base text
answer m base text front [] gs valid split reads run =
    inl (
      length gs,
      record {
        grants = gs;
        reads = rw (split ∙ append-nil front) reads;
        run = run;
        counted = refl;
      },
    )
answer m base text front (line ∷ rest) gs valid split reads run =
    by_line (grant_on m line) refl (λ o says. answer m base text (front ++ line ∷ []) rest
    (one_more gs o) valid (split ∙ sym (append_assoc front (line ∷ []) rest))
    (items_from-push (grant_on m) 1 front line gs o reads says))
  where
    stopped : (fault : ReplayFault) → IsLineFault m (state_after m gs)
        (used_after base gs) line fault → Answered m base text
    stopped fault why =
        inr (
          length front + 1,
          fault,
          record {
            front = front;
            line = line;
            rest = rest;
            grants = gs;
            split = split;
            numbered = refl;
            reads = reads;
            run = run;
            why = why;
          },
        )

    by_line : (r : Result (Option Grant) LineFault) → grant_on m line ≡ r
        → ((o : Option Grant) → grant_on m line ≡ Ok o → IsModelRun m base (one_more gs o)
        → Answered m base text) → Answered m base text
    by_line (Err line_fault.Syntax) says later = stopped replay.Syntax says
    by_line (Err line_fault.Unknown) says later = stopped replay.Unknown says
    by_line (Ok None) says later = later None says run
    by_line (Ok (Some g)) says later = elim (next_or_fault m (state_after m gs)
        (used_after base gs) g valid (grant_line m line g says).rising) [
          | inl next ↦ later (Some g) says (IsRunFrom-push m (start_of m) (λ _. base) gs g run next)
          | inr wrong ↦ stopped (replay.NotARun (of_step wrong.0))
              (wrong.0, refl, record { grant = g; reads = says; why = wrong.1 })
        ]

-- every text is the trace of a run, or has a first fault
pub run_or_fault : (m : System) (base : ℕ) (text : List ℕ) → IsSystem m → Answered m base text
run_or_fault m base text valid = answer m base text [] (lines text) [] valid refl refl tt
