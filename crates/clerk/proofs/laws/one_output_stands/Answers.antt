use Rattle.clerk.proofs.Once.{one_output}
use Rattle.clerk.proofs.laws.one_output_stands.Goals as goal

pub returns : goal.returns
returns c = one_output
