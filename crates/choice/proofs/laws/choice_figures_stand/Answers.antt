use Rattle.std.proofs.Common.{refl}
use Rattle.choice.specs.Choice.{chosen}
use Rattle.choice.proofs.laws.choice_figures_stand.Goals as goal

pub returns : goal.returns
unfolding chosen
returns c = refl
