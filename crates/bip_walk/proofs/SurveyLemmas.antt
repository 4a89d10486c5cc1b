-- Surveys: no walk, and further walks.
use Rattle.std.proofs.Common.{◌≡◌, ◌∙◌, ◌+◌, ◌++◌, ℕ, [], ap, arith, length, refl}
use Rattle.std.proofs.lemmas.List.{length-append}
use Rattle.std.proofs.lemmas.List.FromFn.{length-map-range_with_len}
use Rattle.bip_model.specs.declared.parts.System.{System}
use Rattle.bip_walk.proofs.SeedLemmas.{each_on}
use Rattle.bip_walk.specs.Surveys.{IsSeedWalk, IsSurvey}
use Rattle.bip_walk.specs.Tallies.{JoinsTallies, Tallied, count_in, tally_of}

module _ (m : System) (base count : ℕ) where
  pub survey_none : (first : ℕ) (x : Tallied) → x ≡ tally_of (length m.interactions) []
      → IsSurvey m base count first 0 x
  survey_none first x is = record { traced = []; each = refl; walks = tt; is = is }

  pub survey_on : (first s next t : ℕ) (x y z : Tallied) → IsSurvey m base count first s x
      → IsSurvey m base count next t y → next ≡ first + s → JoinsTallies x y z
      → IsSurvey m base count first (s + t) z
  survey_on first s next t x y z one other at joins = record {
    traced = one.traced ++ other.traced;
    each = omega (arith, length-append one.traced other.traced, one.each, other.each);
    walks = each_on (IsSeedWalk m base count) first next one.traced other.traced one.walks
        other.walks (omega (arith, at, one.each));
    is = joins (length m.interactions) one.traced other.traced one.is other.is;
  }

  -- a survey is of as many walks, and of all interactions
  pub survey_seeds : (first s : ℕ) (x : Tallied) → IsSurvey m base count first s x → x.traces ≡ s
  survey_seeds first s x is = ap (λ (t : Tallied). t.traces) is.is ∙ is.each

  pub survey_counts : (first s : ℕ) (x : Tallied) → IsSurvey m base count first s x
      → length x.counts ≡ length m.interactions
  survey_counts first s x is =
      ap (λ (t : Tallied). length t.counts) is.is
      ∙ length-map-range_with_len (count_in is.traced) 0 (length m.interactions)
