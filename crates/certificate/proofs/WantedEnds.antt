-- The end of a step over a body is the end of the step.
use Rattle.std.proofs.Common.{Err}
use Rattle.aig_semantics.specs.Circuits.{Circuit}
use Rattle.certificate.specs.declared.ends.AnswerEnd.{AnswerEnd}
use Rattle.certificate.specs.declared.ends.AnswerEnd.TheVariants as ends
use Rattle.certificate.specs.declared.state.Body.{Body}
use Rattle.certificate.specs.Reading.{Stepped}
use Rattle.certificate.specs.Steps.{Tells, TellsWanted}

pub same_end : (c : Circuit) (stepped : Stepped) (b : Body) (end : AnswerEnd) → TellsWanted c stepped b (Err end) → Tells c stepped (Err end)
same_end c stepped b (ends.Refused fault) told = told
same_end c stepped b ends.ReadFault told = told
same_end c stepped b ends.Memory told = told
