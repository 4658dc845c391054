use Rattle.std.proofs.Common.{◌≡◌, ◌-◌, ◌*◌, ◌≤◌, sum_by}
use Rattle.std.specs.List.{range_with_len}
use Rattle.metering.specs.Energy.{energy_at}
use Rattle.metering.specs.Meters.{meters}
use Rattle.metering.proofs.Metered.energy_over.Given as goal

abbrev pub invariant-loop-place : goal.invariant-loop-place
invariant-loop-place g l =
    let n = l.place - l.start in
    (l.sum ≡ sum_by (energy_at (meters g.S.Store.meaning l.self)) (range_with_len l.start n)) × (l.sum ≤ 1048560 * n)
