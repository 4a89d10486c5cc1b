-- Why grants aren't known to be a run.
use Rattle.std.proofs.Common.{◌≡◌, ℕ, Bool, List, [], ◌∷◌, ◌++◌, None, Some, ap, refl, subst, sym}
use Rattle.std.specs.Prelude.{Err, IfOk, IsTrue, Ok, Result}
use Rattle.bip_host.specs.Books.{SharedContent, blames_grant}
use Rattle.bip_host.specs.Reports.{AreFiguresOf, AreTotalsOf, IsEndedBy, IsReportOf, IsThreadCount}
use Rattle.bip_host.specs.Reports.{IsWhyNoRun, IsWhyNone, no_memory, no_run, of_book, refused}
use Rattle.bip_host.specs.declared.faults.HostFault.TheVariants as host
use Rattle.bip_host.specs.declared.faults.HostFault.{HostFault}
use Rattle.bip_host.specs.declared.hosts.Asked.{Asked}
use Rattle.bip_host.specs.declared.hosts.HostFigures.{HostFigures}
use Rattle.bip_host.specs.declared.hosts.HostReport.{HostReport}
use Rattle.bip_host.specs.declared.hosts.Totals.{Totals}
use Rattle.bip_partition.specs.Plans.{Planned}
use Rattle.bip_model.specs.declared.grants.Grant.{Grant}
use Rattle.bip_model.specs.declared.parts.System.{System}
use Rattle.bip_replay.specs.Laws.{BeginningsAreRuns}
use Rattle.bip_replay.specs.Runs.{IsModelRun}
use Rattle.bip_replay.specs.declared.faults.BookFault.TheVariants.{Below, Memory, NotEnabled}
use Rattle.bip_replay.specs.declared.faults.BookFault.TheVariants.{Number, Parties}
use Rattle.bip_replay.specs.declared.faults.BookFault.{BookFault}

-- a refusal isn't want of memory
differs : (fault : BookFault) → IsTrue (blames_grant fault) → fault ≡ Memory → ⊥
differs NotEnabled is same = cc
differs (Below b) is same = cc
differs (Number c expected) is same = cc
differs Parties is same = cc
differs Memory is same = cc

-- grants are put together in either order
joined : (done rest : List Grant) (g : Grant) → (done ++ g ∷ []) ++ rest ≡ done ++ g ∷ rest
joined [] rest g = refl
joined (d ∷ done) rest g = ap (λ gs. d ∷ gs) (joined done rest g)

-- where a grant can't follow those before it, and that isn't for want of memory, all of them are no
-- run
pub refuted : (m : System) (done rest : List Grant) (g : Grant) (fault : BookFault)
    (why : HostFault)
    → BeginningsAreRuns → why ≡ of_book fault
    → (IsModelRun m 0 (done ++ g ∷ []) → fault ≡ Memory)
    → IsWhyNoRun m (done ++ g ∷ rest) why
refuted m done rest g fault why begin is only =
    subst (IsWhyNoRun m (done ++ g ∷ rest)) (sym is) (by_fault fault only)
  where
    front : IsModelRun m 0 (done ++ g ∷ rest) → IsModelRun m 0 (done ++ g ∷ [])
    front run = begin m 0 (done ++ g ∷ []) rest
        (subst (IsModelRun m 0) (sym (joined done rest g)) run)

    by_fault : (f : BookFault) → (IsModelRun m 0 (done ++ g ∷ []) → f ≡ Memory)
        → IsWhyNoRun m (done ++ g ∷ rest) (of_book f)
    by_fault NotEnabled only = (refl, λ run. differs NotEnabled refl (only (front run)))
    by_fault (Below b) only = (refl, λ run. differs (Below b) refl (only (front run)))
    by_fault (Number c expected) only =
        (refl, λ run. differs (Number c expected) refl (only (front run)))
    by_fault Parties only = (refl, λ run. differs Parties refl (only (front run)))
    by_fault Memory only = tt

-- the first refusal is told
pub first_told : (m : System) (b : SharedContent) (lacks short : Bool) (why : HostFault)
    → (fault : BookFault) × (why ≡ host.NotARun fault) × IsTrue (blames_grant fault)
    × (b.refused ≡ Some fault)
    → IsWhyNone m b lacks short why
first_told m b lacks short why (fault, is, refusal, first) =
    subst (IsWhyNone m b lacks short) (sym is) (refused fault first)

-- that grants are no run is told, or that memory was wanted to see it
pub no_run_told : (m : System) (b : SharedContent) (lacks short : Bool) (why : HostFault)
    (gs : List Grant) → gs ≡ b.book.grants → b.refused ≡ None → IsWhyNoRun m gs why
    → IsWhyNone m b lacks short why
no_run_told m b lacks short (host.NotARun fault) gs same none is =
    no_run fault none (λ run. is.1 (subst (IsModelRun m 0) (sym same) run))
no_run_told m b lacks short host.Memory gs same none is = no_memory none
no_run_told m b lacks short host.Thread gs same none is = absurd is

-- the figures of a report are of what was asked for
pub figures_of : (p : Planned) (asked : Asked) (t : Totals) (b : SharedContent) (entered : ℕ)
    (r : Result (HostReport × HostFigures) HostFault) → AreTotalsOf asked t
    → IsThreadCount p asked.kind asked.threads
    → IfOk r (λ done. IsReportOf asked.limits b entered t done.0 done.1)
    → IfOk r (λ done. AreFiguresOf p asked.kind asked.tables asked.limits.turns done.1)
figures_of p asked t b entered (Ok done) of count told =
    subst (AreFiguresOf p asked.kind asked.tables asked.limits.turns) (sym told.figures)
    (record {
      kind = of.kind;
      tables = of.tables;
      threads = subst (IsThreadCount p asked.kind) (sym (of.threads told.with_threads)) count;
      turns = of.turns;
    })
figures_of p asked t b entered (Err why) of count told = tt

-- a report says why its host ended
pub ended_by : (asked : Asked) (t : Totals) (b : SharedContent) (entered : ℕ)
    (r : Result (HostReport × HostFigures) HostFault) → AreTotalsOf asked t
    → IfOk r (λ done. IsReportOf asked.limits b entered t done.0 done.1)
    → IfOk r (λ done. IsEndedBy asked.limits done.0.grants.items done.1)
ended_by asked t b entered (Ok done) of told =
    rw (told.figures, told.grants) (record { most = of.most; ended = refl })
ended_by asked t b entered (Err why) of told = tt
