use Rattle.std.proofs.Common.{List, drop}
use Rattle.dw_model.specs.Abbrev.{Specification}
use Rattle.dw_forms.specs.Steps.{AreSteps}
use Rattle.dw_forms.proofs.StepLemmas.{values_behind, Leads}
use Rattle.dw_forms.proofs.steps.pass_steps.Given as goal

abbrev pub invariant-loop-step : goal.invariant-loop-step
invariant-loop-step l = (specs : List Specification) → AreSteps l.steps l.rest specs → Leads (drop l.step-index l.steps) l.rest l.cursor (values_behind specs l.fn.cursor)
