-- The two baselines, as fractions and rounded down.
use Rattle.std.specs.Prelude.{ℕ, ◌+◌, ◌*◌, ◌/◌, cond, ℤ, pos, ◌+ℤ◌, ◌-ℤ◌, ◌*ℤ◌, ◌≤ℤ◌, ◌<ℤ◌, ◌==◌, nat_lt}
use Rattle.std.specs.Int.{int_div_euclid}

-- no energy on the selected days; a ratio of the event's day to their average below four fifths; one above six fifths; one between
abbrev pub by_ratio : {X : Type 0} → ℕ → ℕ → ℕ → X → X → X → X → X
by_ratio w a n plain low high between =
    cond (w == 0) plain (cond (nat_lt (5 * n * a) (4 * w)) low (cond (nat_lt (6 * w) (5 * n * a)) high between))

-- the top of the capped fraction, before rounding
abbrev pub top : ℕ → ℕ → ℕ → ℕ → ℕ
top v w a n = by_ratio w a n v (4 * v) (6 * v) (v * a)

-- what the capped fraction is over
abbrev pub under : ℕ → ℕ → ℕ → ℕ
under w a n = by_ratio w a n n (5 * n) (5 * n) w

-- the capped baseline
abbrev pub capped_of : ℕ → ℕ → ℕ → ℕ → ℕ → ℤ
capped_of v w a n m = pos (top v w a n / under w a n)

-- the sum that is over n * m in the additive baseline, before rounding
abbrev pub sum_of : ℕ → ℕ → ℕ → ℕ → ℕ → ℤ
sum_of v w a n m = pos (m * v + n * a) -ℤ pos w

-- the additive baseline
abbrev pub additive_of : ℕ → ℕ → ℕ → ℕ → ℕ → ℤ
additive_of v w a n m = int_div_euclid (sum_of v w a n m) (pos (n * m))

-- b is x / d rounded down, d above 0
abbrev pub Floor : ℤ → ℕ → ℤ → Type 0
Floor x d b = ((b *ℤ pos d) ≤ℤ x) × (x <ℤ ((b +ℤ pos 1) *ℤ pos d))
