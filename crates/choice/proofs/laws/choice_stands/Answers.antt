use Rattle.choice.proofs.Law.{law}
use Rattle.choice.proofs.laws.choice_stands.Goals as goal

pub returns : goal.returns
returns c = law
