use Rattle.std.proofs.Common.{◌≡◌, ℕ, ◌<◌, ◌≤◌, None}
use Rattle.metering.specs.Energy.{trouble_at}
use Rattle.metering.specs.Meters.{meters}
use Rattle.metering.proofs.Metered.try_stretch.Given as goal

abbrev pub invariant-loop-place : goal.invariant-loop-place
invariant-loop-place g l = (q : ℕ) → l.start ≤ q → q < l.place → trouble_at (meters g.S.Store.meaning l.self) q ≡ None
