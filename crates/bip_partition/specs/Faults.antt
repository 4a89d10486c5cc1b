-- Why a model with classes has no plan; and the numbers and the texts of faults.
use Rattle.std.specs.Prelude.{ℕ, ◌<◌, List, ◌++◌, codes}
use Rattle.std.specs.Fmt.{decimal}
use Rattle.bip_model.specs.declared.parts.System.{System}
use Rattle.bip_partition.specs.Plans.{TouchesTooMany}
use Rattle.bip_partition.specs.declared.faults.PlanFault.{PlanFault}
use Rattle.bip_partition.specs.declared.faults.PlanFault.TheVariants.{TooManyTouched, Memory}

-- the lowest interaction that touches too many components
pub record IsLowestTooMany (m : System) (a : ℕ) : Type 0 where
  pub many : TouchesTooMany m a
  pub lower : (b : ℕ) → b < a → ¬ TouchesTooMany m b

-- why there is no plan, the first that applies: an interaction touches too many components; or
-- memory is wanting, where none does
abbrev pub IsPlanFault : System → PlanFault → Type 0
IsPlanFault m (TooManyTouched a) = IsLowestTooMany m a.0
IsPlanFault m Memory = (a : ℕ) → ¬ TouchesTooMany m a

abbrev pub number_of_plan : PlanFault → ℕ
number_of_plan (TooManyTouched a) = 1
number_of_plan Memory = 2

abbrev pub text_of_plan : PlanFault → List ℕ
text_of_plan (TooManyTouched a) = codes "interaction " ++ decimal a.0 ++ codes " touches too many"
text_of_plan Memory = codes "no memory"
