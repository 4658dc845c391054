use Rattle.std.proofs.Common.{◌≡◌, ◌*◌, ◌++◌, map, drop, pos, neg_ℤ, ◌≤ℤ◌}
use Rattle.std.specs.List.{range_with_len}
use Rattle.metering.specs.Meters.{meters}
use Rattle.settlement.specs.Lines.{line_at, reductions}
use Rattle.settlement.specs.Plans.{terms_of}
use Rattle.settlement.proofs.settling.Settling.fill.Given as goal

abbrev pub invariant-loop-i : goal.invariant-loop-i
invariant-loop-i g l =
    (l.lines ≡ map (line_at (meters g.S.Store.meaning l.self.metered) (g.M.Methodology.meaning l.self.method.now).baseline (terms_of l.self.plan)) (range_with_len l.first l.i) ++ drop l.i l.initial.lines)
    × (l.sum ≡ reductions (map (line_at (meters g.S.Store.meaning l.self.metered) (g.M.Methodology.meaning l.self.method.now).baseline (terms_of l.self.plan)) (range_with_len l.first l.i)))
    × (neg_ℤ (pos (10000 * l.i)) ≤ℤ l.sum) × (l.sum ≤ℤ pos (10000 * l.i))
