-- The answer to the rendering of a model: the one that its text has.
use Rattle.std.specs.Prelude.{◌≢◌, ℕ, Bool, List, false, true}
use Rattle.bip_draw.specs.Drawing.{drawing_of}
use Rattle.bip_model.specs.declared.parts.System.{System}
use Rattle.bip_model.specs.declared.partitions.Partition.{Partition}
use Rattle.bip_reader.specs.Texts.{HasFault, Means}
use Rattle.bip_reader.specs.Writing.{text_of_model}
use Rattle.bip_reader.specs.declared.faults.ReadFault.{ReadFault}
use Rattle.bip_reader.specs.declared.faults.Why.TheVariants.{Memory}
use Rattle.bip_partition.specs.Plans.{Planned}
use Rattle.bip_review.specs.Drawing.{IsPlanDrawing}
use Rattle.bip_answers.specs.Answers.{HasPlan, IsRefusedModel, complaining, saying}
use Rattle.bip_answers.specs.Wording.{model_refusal}
use Rattle.bip_answers.specs.declared.answers.Answer.{Answer}
use Rattle.bip_answers.specs.declared.answers.Status.TheVariants.{Done, Refused}
use Rattle.bip_answers.specs.declared.renderings.Rendering.{Rendering}
use Rattle.bip_answers.specs.declared.renderings.Rendering.TheVariants.{Canonical, Drawing}

-- what a model and its classes are rendered as: their drawing, or their canonical text
abbrev pub rendering_of : Rendering → System → Partition → List ℕ
rendering_of Drawing m classes = drawing_of m classes
rendering_of Canonical m classes = text_of_model m classes

-- the answer to the rendering of a model's text
pub data IsRenderingAnswer (rendering : Rendering) (model : List ℕ) : Answer → Type 0 where
  -- the text is a model: it is rendered
  rendered : (m : System) (classes : Partition) → Means model m classes
      → IsRenderingAnswer rendering model (saying Done (rendering_of rendering m classes))
  -- it is none
  unrendered : (fault : ReadFault) → fault.why ≢ Memory → HasFault model fault
      → IsRenderingAnswer rendering model (complaining Refused (model_refusal fault))

-- the answer to the drawing of a model's text, or of its plan where that is asked for
pub data IsDrawingShowing (model : List ℕ) : Bool → Answer → Type 0 where
  of_model : (answer : Answer) → IsRenderingAnswer Drawing model answer
      → IsDrawingShowing model false answer
  -- the text has a plan, and what is drawn is true of it
  of_plan : (p : Planned) (text : List ℕ) → HasPlan model p → IsPlanDrawing p text
      → IsDrawingShowing model true (saying Done text)
  -- it has none
  planless : (answer : Answer) → IsRefusedModel model answer → IsDrawingShowing model true answer
