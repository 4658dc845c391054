use Rattle.method.specs.Caps.{within_caps}
use Rattle.method.proofs.laws.caps_stand.Goals as goal

pub returns : goal.returns
returns c = within_caps
