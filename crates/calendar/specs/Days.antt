-- Days, their kinds and their trading intervals. Day 0 is Monday 4 January 2021. Assumes nothing.
use Rattle.std.specs.Prelude.{ℕ, ◌+◌, ◌-◌, ◌*◌, ◌/◌, ◌%◌, Bool, cond, ◌||◌, Some, None, Option, ◌==◌}
use Rattle.calendar.specs.declared.DayKind.{DayKind}
use Rattle.calendar.specs.declared.DayKind.TheVariants.{Business, NonBusiness}
use Rattle.calendar.specs.declared.Resolution.{Resolution}
use Rattle.calendar.specs.declared.Resolution.TheVariants.{HalfHours, FiveMinutes}

-- T, the trading intervals in a day
abbrev pub intervals_of : Resolution → ℕ
intervals_of HalfHours = 48
intervals_of FiveMinutes = 288

-- h, the intervals in an hour
abbrev pub hour_of : Resolution → ℕ
hour_of r = intervals_of r / 24

-- the resolution with so many intervals in a day
abbrev pub resolution_of : ℕ → Option Resolution
resolution_of t = cond (t == 48) (Some HalfHours) (cond (t == 288) (Some FiveMinutes) None)

-- Saturday and Sunday
abbrev pub weekend : ℕ → Bool
weekend d = d % 7 == 5 || d % 7 == 6

-- a day is non-business at a weekend or where it is a holiday, else business
abbrev pub kind_on : ℕ → Bool → DayKind
kind_on d holiday = cond (weekend d || holiday) NonBusiness Business

-- the place of interval i of day d, with t intervals in a day
abbrev pub place_of : ℕ → ℕ → ℕ → ℕ
place_of t d i = d * t + i

-- the adjustment window of a first interval f starts four hours before it, and has three hours
abbrev pub window_start : Resolution → ℕ → ℕ
window_start r f = f - 4 * hour_of r

abbrev pub window_length : Resolution → ℕ
window_length r = 3 * hour_of r
