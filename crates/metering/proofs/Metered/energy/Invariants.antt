use Rattle.std.proofs.Common.{◌≡◌, ◌-◌, ◌*◌, ◌≤◌}
use Rattle.metering.specs.Energy.{energy_at, unit_meters}
use Rattle.metering.proofs.Metered.energy.Given as goal

abbrev pub invariant-loop-point : goal.invariant-loop-point
invariant-loop-point g l =
    let n = l.point - l.self.unit.first in
    (l.sum ≡ energy_at (unit_meters (g.S.Store.meaning l.self.store.now).at l.self.unit.first n) l.place) × (l.sum ≤ 65535 * n)
