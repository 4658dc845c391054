use Rattle.std.proofs.Common.{◌≡◌, ◌≤◌, ap, ◌∙◌, arith}
use Rattle.metering.specs.Energy.{energy_of}
use Rattle.metering.proofs.Adding.{sum_more}
use Rattle.metering.proofs.Metered.energy.Goals as goal

pub loop-point-preserved : goal.loop-point-preserved
loop-point-preserved g c =
    let at = (g.S.Store.meaning c.args.self.now.store.now).at in
    let q = c.args.place in
    let p = c.loop-point.point in
    let h : c.args.self.now.unit.first ≤ p = omega arith in
    let k : c.energy_of-sum.result ≡ energy_of (at p q) = c.energy_of-sum.ensures.is ∙ ap energy_of c.read-reading.ensures in
    (omega (arith, k, c.loop-point.invariant.0, sum_more (λ n. energy_of (at n q)) c.args.self.now.unit.first p h), omega (arith, h, c.energy_of-sum.ensures.most, c.loop-point.invariant.1))
