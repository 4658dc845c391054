use Rattle.std.proofs.Common.{◌≤◌, arith}
use Rattle.metering.specs.Energy.{energy_at}
use Rattle.metering.specs.Meters.{meters}
use Rattle.metering.proofs.Adding.{sum_more}
use Rattle.metering.proofs.Metered.energy_over.Goals as goal

pub loop-place-preserved : goal.loop-place-preserved
loop-place-preserved g c =
    let q = c.loop-place.place in
    let h : c.place_of-start.result ≤ q = omega arith in
    (omega (arith, c.energy-sum.ensures.is, c.loop-place.invariant.0, sum_more (energy_at (meters g.S.Store.meaning c.args.self.now)) c.place_of-start.result q h), omega (arith, h, c.energy-sum.ensures.most, c.loop-place.invariant.1))
