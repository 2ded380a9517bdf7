use Rattle.ufmt_lines.proofs.WholeOutputs.{outputs_are_the_output}
use Rattle.ufmt_lines.proofs.run.laws.outputs_are_the_output.Goals as goal

pub returns : goal.returns
returns c = outputs_are_the_output
