use Rattle.std.proofs.Common.{◌≤◌, ap, arith, rules}
use Rattle.metering.specs.Energy.{energy_at}
use Rattle.metering.specs.Meters.{meters}
use Rattle.settlement.proofs.settling.Settling.line.Goals as goal

pub returns-clause-is : goal.returns-clause-is
returns-clause-is g c =
    let s = c.args.self.now in
    let u = s.usable c.args.interval c.requires.0 c.requires.1 in
    let low : c.energy-metered.result ≤ 5000 = omega (arith, u.low, c.energy-metered.ensures.is, ap (energy_at (meters g.S.Store.meaning s.metered)) c.place_of-place.ensures.is) in
    search rules
