use Rattle.std.proofs.Common.{◌≡◌, ℕ, ◌<◌, ◌≤◌, true, is_some}
use Rattle.metering.proofs.Metered.try_points.Given as goal

abbrev pub invariant-loop-point : goal.invariant-loop-point
invariant-loop-point g l = (p : ℕ) → l.self.unit.first ≤ p → p < l.point → is_some ((g.S.Store.meaning l.self.store.now).at p l.place) ≡ true
