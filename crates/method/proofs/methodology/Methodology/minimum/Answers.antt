use Rattle.std.proofs.Common.{arith}
use Rattle.method.proofs.methodology.Methodology.minimum.Goals as goal

pub returns-clause-bounds : goal.returns-clause-bounds
returns-clause-bounds g c = let l = (g.met.Self.Methodology.lawful c.args.self.now).counts c.args.day in grind (arith, l)
