-- Replays: the lines read so far, one line more, and the first line at fault.
use Rattle.std.proofs.Common.{◌≡◌, ℕ, ◌+◌, ◌<◌, List, [], ◌∷◌, ◌++◌, length, Option, None, Some, Ok}
use Rattle.std.proofs.Common.{Err, Result, refl, sym, ap, subst, arith, Bool, true, false}
use Rattle.std.proofs.Common.{length-append}
use Rattle.std.specs.Prelude.{IfErr, IfOk}
use Rattle.bip_model.specs.declared.grants.Grant.{Grant}
use Rattle.bip_model.specs.declared.parts.System.{System}
use Rattle.bip_model.specs.Texts.{numbered_lines}
use Rattle.bip_model.proofs.LineLemmas.{line_read, none_read}
use Rattle.bip_replay.specs.declared.faults.LineFault.{LineFault}
use Rattle.bip_replay.specs.Items.{IsOutOfMemory}
use Rattle.bip_replay.proofs.ItemLemmas.{HasRead, has_read-below, has_read-end, has_read-more}
use Rattle.bip_replay.proofs.ItemLemmas.{has_read-none, memory_at}
use Rattle.bip_replay.specs.Lines.{grant_on}
use Rattle.std.specs.Int.{from_bool}
use Rattle.bip_replay.specs.declared.faults.ReplayFault.{ReplayFault}
use Rattle.bip_replay.specs.Faults.{replay_of_line}
use Rattle.bip_model.specs.Steps.{start_of}
use Rattle.bip_replay.specs.Runs.{IsModelRun, Kept, StandsAfter, Standing, standing_of, state_after}
use Rattle.bip_replay.specs.Runs.{used_after}
use Rattle.bip_replay.specs.Replays.{IsFirstFault, IsLineFault, IsReplayFault, IsRunTo, Takes}
use Rattle.bip_replay.proofs.RunLemmas.{leads_on}
use Rattle.bip_replay.specs.declared.faults.LineFault.TheVariants as line_fault
use Rattle.bip_replay.specs.declared.faults.ReplayFault.TheVariants as replay

-- what has been read of a text: grants that lead here, and those lines are left
pub record SoFar (m : System) (base : ℕ) (text : List ℕ) (p : Standing) (count : ℕ)
    (left : List (ℕ × List ℕ)) : Type 0 where
  pub grants : List Grant
  pub read : HasRead (grant_on m) text grants left
  pub leads : StandsAfter m base grants p
  pub counted : length grants ≡ count

pub so_far-none : (m : System) (base : ℕ) (text : List ℕ) (p : Standing) → StandsAfter m base [] p
    → SoFar m base text p 0 (numbered_lines text)
so_far-none m base text p leads = record {
  grants = [];
  read = has_read-none (grant_on m) text;
  leads = leads;
  counted = refl;
}

-- one line more
pub so_far-more : (m : System) (base : ℕ) (text line : List ℕ) (n count : ℕ)
    (left after : List (ℕ × List ℕ)) (p q : Standing) (found : Bool)
    → SoFar m base text p count left → left ≡ (n, line) ∷ after → Takes p line (Ok found) q
    → SoFar m base text q (count + from_bool found) after
so_far-more m base text line n count left after p q false so next takes =
    record {
      grants = so.grants;
      read = has_read-more (grant_on m) text line n left after so.grants so.grants tt so.read next (
        None,
        subst (λ (r : Standing). grant_on r.model line ≡ Ok None) so.leads.there takes.0,
        refl,
      );
      leads = subst (λ (r : Standing). StandsAfter m base so.grants r) (sym takes.1) so.leads;
      counted = omega (arith, so.counted);
    }
so_far-more m base text line n count left after p q true so next takes =
    let longer : List Grant = so.grants ++ takes.grant ∷ [] in
    record {
      grants = longer;
      read = has_read-more (grant_on m) text line n left after so.grants longer tt so.read next (
        Some takes.grant,
        subst (λ (r : Standing). grant_on r.model line
            ≡ Ok (Some takes.grant)) so.leads.there takes.reads,
        refl,
      );
      leads = leads_on m base so.grants p q takes.grant so.leads takes.next takes.on;
      counted = omega (arith, so.counted, length-append so.grants (takes.grant ∷ []));
    }

pub so_far-below : (m : System) (base : ℕ) (text line : List ℕ) (n count : ℕ)
    (left after : List (ℕ × List ℕ)) (p : Standing) → SoFar m base text p count left
    → left ≡ (n, line) ∷ after → count < length text
so_far-below m base text line n count left after p so next =
    omega (
      arith,
      has_read-below (grant_on m) text line n left after so.grants so.read next,
      so.counted,
    )

-- the end of the text: what was read is the run, which leads here
pub so_far-end : (m : System) (base : ℕ) (text : List ℕ) (p : Standing) (count : ℕ)
    (left : List (ℕ × List ℕ)) → SoFar m base text p count left → left ≡ []
    → IsRunTo m base text p count
so_far-end m base text p count left so none =
    record {
      is = record {
        grants = so.grants;
        reads = has_read-end (grant_on m) text so.grants left so.read none;
        run = so.leads.run;
        counted = so.counted;
      };
      there = so.leads.there;
    }

-- a first fault is told as it is
pub first_told : (m : System) (base : ℕ) (text : List ℕ) (n : ℕ) (fault : ReplayFault)
    → IsFirstFault m base text n fault → IsReplayFault m base text n fault
first_told m base text n replay.Memory first = absurd first.why
first_told m base text n fault first = first

-- where a run starts, by what a position keeps of it
module _ (m : System) (base : ℕ) (p : Kept) (start : StandsAfter m base [] (standing_of p)) where
  of_model : p.model ≡ m
  of_model = ap (λ (q : Standing). q.model) start.there

  of_base : p.base ≡ base
  of_base = ap (λ (q : Standing). q.base) start.there

  pub starts_itself : StandsAfter p.model p.base [] (standing_of p)
  starts_itself = subst (λ (n : System). StandsAfter n p.base [] (standing_of p)) (sym of_model)
      (subst (λ (k : ℕ). StandsAfter m k [] (standing_of p)) (sym of_base) start)

  pub ran_from : (text : List ℕ) (result : Result (Kept × ℕ) (ℕ × ReplayFault))
      → IfOk result (λ end. IsRunTo p.model p.base text (standing_of end.0) end.1)
      → IfOk result (λ end. IsRunTo m base text (standing_of end.0) end.1)
  ran_from text (Ok end) run =
      subst (λ (n : System). IsRunTo n base text (standing_of end.0) end.1) of_model
      (subst (λ (k : ℕ). IsRunTo p.model k text (standing_of end.0) end.1) of_base run)
  ran_from text (Err e) run = tt

  pub told_from : (text : List ℕ) (result : Result (Kept × ℕ) (ℕ × ReplayFault))
      → IfErr result (λ e. IsFirstFault p.model p.base text e.0 e.1)
      → IfErr result (λ e. IsReplayFault m base text e.0 e.1)
  told_from text (Ok end) first = tt
  told_from text (Err e) first =
      first_told m base text e.0 e.1 (subst (λ (n : System). IsFirstFault n base text e.0 e.1)
      of_model (subst (λ (k : ℕ). IsFirstFault p.model k text e.0 e.1) of_base first))

-- a line at fault behind grants that are a run is the first one
fault_at : (m : System) (base : ℕ) (text line : List ℕ) (n : ℕ) (left after : List (ℕ × List ℕ))
    (gs : List Grant) (fault : ReplayFault) → HasRead (grant_on m) text gs left
    → IsModelRun m base gs → left ≡ (n, line) ∷ after
    → IsLineFault m (state_after m gs) (used_after base gs) line fault
    → IsFirstFault m base text n fault
fault_at m base text line n left after gs fault read run next why =
    let is = line_read text read.front left after n line read.are_left next in
    record {
      front = read.front;
      line = line;
      rest = is.rest;
      grants = gs;
      split = is.split;
      numbered = is.number;
      reads = read.reads;
      run = run;
      why = why;
    }

-- the same of what has been read
pub so_far-fault : (m : System) (base : ℕ) (text line : List ℕ) (n count : ℕ)
    (left after : List (ℕ × List ℕ)) (p q : Standing) (fault : ReplayFault)
    → SoFar m base text p count left → left ≡ (n, line) ∷ after → Takes p line (Err fault) q
    → IsFirstFault m base text n fault
so_far-fault m base text line n count left after p q fault so next takes =
    fault_at m base text line n left after so.grants fault so.read so.leads.run next
    (rw so.leads.there at takes)

-- a first line that is at fault by itself is the first fault
pub first_line-fault : (m : System) (base : ℕ) (text line : List ℕ) (n : ℕ)
    (after : List (ℕ × List ℕ)) (fault : LineFault) → numbered_lines text ≡ (n, line) ∷ after
    → grant_on m line ≡ Err fault → IsReplayFault m base text 1 (replay_of_line fault)
first_line-fault m base text line n after fault next says =
    let is = line_read text [] (numbered_lines text) after n line (none_read text) next in
    first_told m base text 1 (replay_of_line fault)
    (subst (λ (k : ℕ). IsFirstFault m base text k (replay_of_line fault)) is.number
    (fault_at m base text line n (numbered_lines text) after [] (replay_of_line fault)
    (has_read-none (grant_on m) text) tt next (at fault says)))
  where
    at : (f : LineFault) → grant_on m line ≡ Err f
        → IsLineFault m (start_of m) (λ _. base) line (replay_of_line f)
    at line_fault.Syntax is = is
    at line_fault.Unknown is = is

-- where the first line reads, want of memory can be told of it
pub first_line-reads : (m : System) (base : ℕ) (text line : List ℕ) (n : ℕ)
    (after : List (ℕ × List ℕ)) (said : Option Grant) → numbered_lines text ≡ (n, line) ∷ after
    → grant_on m line ≡ Ok said → IsReplayFault m base text 1 replay.Memory
first_line-reads m base text line n after said next says =
    let is = line_read text [] (numbered_lines text) after n line (none_read text) next in (
      refl,
      subst (IsOutOfMemory (grant_on m) text) is.number (memory_at (grant_on m) text line n
          (numbered_lines text) after [] said (has_read-none (grant_on m) text) next says),
    )
