-- What a call answered, the value or a fault; and the numbers and the texts of faults.
use Rattle.std.specs.Prelude.{◌≡◌, ℕ, List, ◌++◌, codes, Result, Ok, Err}
use Rattle.std.specs.Fmt.{decimal}
use Rattle.bip_model.specs.declared.faults.BuildFault.{BuildFault}
use Rattle.bip_model.specs.declared.faults.BuildFault.TheVariants as build
use Rattle.bip_model.specs.declared.faults.ClassFault.{ClassFault}
use Rattle.bip_model.specs.declared.faults.ClassFault.TheVariants as class_fault
use Rattle.bip_model.specs.declared.faults.NotNow.{NotNow}
use Rattle.bip_model.specs.declared.faults.NotNow.TheVariants.{NotEnabled, Below}

-- what is said of a thing, and then of what that gave; the first fault is the fault of both
infixl 10 ◌>>=◌
abbrev pub ◌>>=◌ : {A B E : Type 0} → Result A E → (A → Result B E) → Result B E
(Ok x) >>= f = f x
(Err e) >>= f = Err e

-- what a call that changes a value answered: the new value, or its fault
abbrev pub new_or_fault : {U X E : Type 0} → Result U E → X → Result X E
new_or_fault (Ok u) new = Ok new
new_or_fault (Err e) new = Err e

-- a call answered what is said, the value or the fault; or memory was wanting where there is no
-- fault
abbrev pub Answers : {X E : Type 0} → E → Result X E → Result X E → Type 0
Answers memory (Ok x) (Ok y) = y ≡ x
Answers memory (Ok x) (Err e) = e ≡ memory
Answers memory (Err f) (Ok y) = ⊥
Answers memory (Err f) (Err e) = e ≡ f

abbrev pub number_of_not_now : NotNow → ℕ
number_of_not_now NotEnabled = 1
number_of_not_now (Below b) = 2

abbrev pub text_of_not_now : NotNow → List ℕ
text_of_not_now NotEnabled = codes "not enabled"
text_of_not_now (Below b) = codes "below interaction " ++ decimal b.0

abbrev pub number_of_build : BuildFault → ℕ
number_of_build build.Unknown = 2
number_of_build build.Twice = 3
number_of_build build.TooMany = 4
number_of_build build.Missing = 5
number_of_build build.TwoTransitions = 6
number_of_build build.PriorityCycle = 7
number_of_build build.Memory = 9

abbrev pub text_of_build : BuildFault → List ℕ
text_of_build build.Unknown = codes "unknown name"
text_of_build build.Twice = codes "named twice"
text_of_build build.TooMany = codes "too many"
text_of_build build.Missing = codes "missing"
text_of_build build.TwoTransitions = codes "two transitions"
text_of_build build.PriorityCycle = codes "priority cycle"
text_of_build build.Memory = codes "no memory"

abbrev pub number_of_class : ClassFault → ℕ
number_of_class class_fault.NotAPartition = 1
number_of_class class_fault.Memory = 2

abbrev pub text_of_class : ClassFault → List ℕ
text_of_class class_fault.NotAPartition = codes "not a partition"
text_of_class class_fault.Memory = codes "no memory"
