-- Energies that a baseline is asked for: at most 5000 an interval, over n days of m intervals.
use Rattle.std.specs.Prelude.{ℕ, ◌*◌, ◌<◌, ◌≤◌}

-- some days and some intervals, and energies within their limits
pub record Sound (v w a n m : ℕ) : Type 0 where
  pub days : 0 < n
  pub intervals : 0 < m
  pub interval : v ≤ 5000 * n
  pub window : w ≤ 5000 * (n * m)
  pub event : a ≤ 5000 * m
