-- What is told on the way while seeds are explored, and the answers.
use Rattle.std.proofs.Common.{◌≡◌, ◌+◌, ◌++◌, ◌∷◌, add-one, ℕ, true, false, List, []}
use Rattle.std.proofs.Common.{Result, Ok, Err, refl, subst, sym}
use Rattle.std.specs.Prelude.{IfOk}
use Rattle.bip_partition.specs.Plans.{Planned}
use Rattle.bip_bank.specs.Sharing.{Sharing}
use Rattle.bip_schedule.proofs.FigureLemmas.{figures_shared}
use Rattle.bip_schedule.specs.declared.drawing.Draws.{Draws}
use Rattle.bip_schedule.specs.Exploring.{AreSeedFigures, SeedFigures}
use Rattle.bip_schedule.specs.declared.exploring.ExploreFault.{ExploreFault}
use Rattle.bipr.specs.Explored.{IsExploreAnswer, IsProgressAt, IsProgressUntil, by_count}
use Rattle.bipr.specs.Explored.{ends_hundredth, explored, exploring_stats, more_progress, told_at}
use Rattle.bipr.specs.Resolvers.{IsSharedAtFirst}
use Rattle.bipr.specs.Scheduled.{reporting}
use Rattle.bipr.specs.Streams.{Put, texts}
use Rattle.bipr.specs.Wording.{progress_text, seeds_text}
use Rattle.bip_answers.specs.declared.answers.Answer.{Answer}
use Rattle.bipr.specs.declared.commands.explore.ExploreArguments.{ExploreArguments}

-- the line of a hundredth, or none
told_line : (asked : ExploreArguments) (seed : ℕ) → asked.is_told ≡ true
    → true ≡ ends_hundredth asked.seeds seed
    → told_at asked seed ≡ progress_text seed asked.seeds ∷ []
told_line asked seed told ends = rw (told, ← ends) refl

no_line : (asked : ExploreArguments) (seed : ℕ) → asked.is_told ≡ false → told_at asked seed ≡ []
no_line asked seed told = rw told refl

no_line_yet : (asked : ExploreArguments) (seed : ℕ) → asked.is_told ≡ true
    → false ≡ ends_hundredth asked.seeds seed → told_at asked seed ≡ []
no_line_yet asked seed told ends = rw (told, ← ends) refl

-- what is told with a seed where nothing is with the time
pub told_here : (asked : ExploreArguments) (seed : ℕ) → asked.is_told ≡ true
    → true ≡ ends_hundredth asked.seeds seed
    → IsProgressAt asked seed (progress_text seed asked.seeds ∷ [])
told_here asked seed told ends =
    subst (IsProgressAt asked seed) (told_line asked seed told ends) by_count

pub untold : (asked : ExploreArguments) (seed : ℕ) → asked.is_told ≡ false
    → IsProgressAt asked seed []
untold asked seed told = subst (IsProgressAt asked seed) (no_line asked seed told) by_count

pub untold_yet : (asked : ExploreArguments) (seed : ℕ) → asked.is_told ≡ true
    → false ≡ ends_hundredth asked.seeds seed → IsProgressAt asked seed []
untold_yet asked seed told ends =
    subst (IsProgressAt asked seed) (no_line_yet asked seed told ends) by_count

-- what is told until one more seed is done
pub told_more : (asked : ExploreArguments) (done : ℕ) (told more : List (List ℕ))
    → IsProgressUntil asked done told → IsProgressAt asked (done + 1) more
    → IsProgressUntil asked (done + 1) (told ++ more)
told_more asked done told more so here =
    subst (λ (n : ℕ). IsProgressAt asked n more → IsProgressUntil asked n (told ++ more))
    (sym (add-one done)) (more_progress done told more so) here

-- that all are runs is said, with what they come to
pub explored_said : (p : Planned) (asked : ExploreArguments) (figures : SeedFigures)
    (told : List Put) (answer : Answer)
    → AreSeedFigures (IsSharedAtFirst asked.resolver p) p 0 asked.draws 1 asked.seeds figures
    → IsProgressUntil asked asked.seeds (texts told)
    → answer ≡ reporting (seeds_text asked.seeds)
    (exploring_stats p.model asked.with_stats figures)
    → IsExploreAnswer p asked told answer
explored_said p asked figures told answer so lines said =
    subst (IsExploreAnswer p asked told) (sym said) (explored figures told so lines)

-- seeds that are explored with a bank that may be made are, with what its stations share
pub shared_figures : (shares others : Sharing → Type 0) (p : Planned) (draws : Draws) (seed : ℕ)
    (result : Result SeedFigures ExploreFault) → ((x : Sharing) → shares x → others x)
    → IfOk result (AreSeedFigures shares p 0 draws seed 1)
    → IfOk result (AreSeedFigures others p 0 draws seed 1)
shared_figures shares others p draws seed (Ok figures) is so =
    figures_shared shares others p 0 draws is seed 1 figures so
shared_figures shares others p draws seed (Err fault) is so = tt
