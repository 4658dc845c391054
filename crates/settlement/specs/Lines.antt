-- What the lines of a settled event hold, over readings alone. Assumes nothing.
use Rattle.std.specs.Prelude.{ℕ, ◌+◌, ◌*◌, ◌≤◌, List, [], ◌∷◌, ◌++◌, map, length, ℤ, pos, ◌+ℤ◌, ◌-ℤ◌, fold, sum_by, Option}
use Rattle.std.specs.List.{range_with_len, flat_map}
use Rattle.method.specs.Energy.{Sound}
use Rattle.metering.specs.Sums.{first_in}
use Rattle.metering.specs.Energy.{Meters, energy_at, trouble_at, places}
use Rattle.metering.specs.declared.SourceFault.{SourceFault}
use Rattle.settlement.specs.declared.Line.{Line}

-- what is settled: intervals in a day, the event's day, the selected days (the latest first), the first interval and the
-- length of the adjustment window, and of the event
pub record Terms : Type 0 where
  pub intervals : ℕ
  pub day : ℕ
  pub days : List ℕ
  pub window : ℕ
  pub width : ℕ
  pub start : ℕ
  pub count : ℕ

-- n, the number of selected days
abbrev pub chosen_days : Terms → ℕ
chosen_days x = length x.days

-- the sources of a day: the window, then the event
abbrev pub day_sources : Terms → ℕ → List ℕ
day_sources x d = places x.intervals d x.window x.width ++ places x.intervals d x.start x.count

-- the sources in the order of their trial: the selected days, the latest first, then the event's day
abbrev pub sources : Terms → List ℕ
sources x = flat_map (day_sources x) (x.days ++ (x.day ∷ []))

module _ (m : Meters) where
  -- the first trouble with a source
  abbrev pub trouble : Terms → Option SourceFault
  trouble x = first_in (trouble_at m) (sources x)

  -- the unit's energy over a stretch of a day, and over that stretch on every selected day
  abbrev pub used : Terms → ℕ → ℕ → ℕ → ℕ
  used x from long d = sum_by (energy_at m) (places x.intervals d from long)

  abbrev pub used_before : Terms → ℕ → ℕ → ℕ
  used_before x from long = sum_by (used x from long) x.days

  -- V of an interval, W and A
  abbrev pub v_of : Terms → ℕ → ℕ
  v_of x i = used_before x i 1

  abbrev pub w_of : Terms → ℕ
  w_of x = used_before x x.window x.width

  abbrev pub a_of : Terms → ℕ
  a_of x = used x x.window x.width x.day

  abbrev pub metered : Terms → ℕ → ℕ
  metered x i = energy_at m (x.day * x.intervals + i)

  -- the energies of a line are within their limits
  pub record Usable (x : Terms) (i : ℕ) : Type 0 where
    pub sound : Sound (v_of x i) (w_of x) (a_of x) (chosen_days x) x.width
    pub low : metered x i ≤ 5000

  module _ (baseline : ℕ → ℕ → ℕ → ℕ → ℕ → ℤ) where
    abbrev pub baseline_at : Terms → ℕ → ℤ
    baseline_at x i = baseline (v_of x i) (w_of x) (a_of x) (chosen_days x) x.width

    -- the line of an interval
    abbrev pub line_at : Terms → ℕ → Line
    line_at x i = record {
      day = x.day;
      interval = i;
      days = chosen_days x;
      baseline = baseline_at x i;
      metered = metered x i;
      reduction = baseline_at x i -ℤ pos (metered x i);
    }

    -- one line an interval of the event, rising
    abbrev pub lines_of : Terms → List Line
    lines_of x = map (line_at x) (range_with_len x.start x.count)

-- the sum of the reductions
abbrev pub reductions : List Line → ℤ
reductions ls = fold (λ a l. a +ℤ l.reduction) (pos 0) ls
