-- What holds of the two baselines, before and after rounding, and worked figures.
use Rattle.std.specs.Prelude.{◌≡◌, ℕ, ◌*◌, ◌<◌, ◌≤◌, ℤ, pos, negsuc}
use Rattle.method.specs.Baseline.{top, under, capped_of, sum_of, additive_of, Floor}
use Rattle.method.specs.Methods.{capped_rules, similar_rules}
use Rattle.method.specs.declared.capped.Capped.{Capped}

-- the capped fraction lies from four to six fifths of V / n
abbrev pub Caps : Type 0
Caps = (v w a n : ℕ) → (4 * v * under w a n ≤ 5 * n * top v w a n) × (5 * n * top v w a n ≤ 6 * v * under w a n)

-- the capped baseline is its fraction rounded down
abbrev pub CappedFloor : Type 0
CappedFloor = (v w a n m : ℕ) → 0 < n → (0 < under w a n) × Floor (pos (top v w a n)) (under w a n) (capped_of v w a n m)

-- the additive baseline is its sum over n * m rounded down
abbrev pub AdditiveFloor : Type 0
AdditiveFloor = (v w a n m : ℕ) → 0 < n → 0 < m → Floor (sum_of v w a n m) (n * m) (additive_of v w a n m)

-- the baseline of methodology 1 at V, W, A, n and m
abbrev pub first : ℕ → ℕ → ℕ → ℕ → ℕ → ℤ
first = (capped_rules Capped.AllDays).baseline

-- the baseline of methodology 5
abbrev pub fifth : ℕ → ℕ → ℕ → ℕ → ℕ → ℤ
fifth = (similar_rules (record {})).baseline

-- worked figures
abbrev pub Figures : Type 0
Figures = (fifth 800 26800 3400 10 36 ≡ pos 100) × (first 800 26800 3400 10 36 ≡ pos 96)
    × (fifth 4400 25300 2770 10 6 ≡ pos 480) × (first 4400 25300 2770 10 6 ≡ pos 481)
    × (first 800 25000 3000 10 36 ≡ pos 96)
    × (first 37 0 12 5 6 ≡ pos 7)
    × (fifth 0 61 0 10 6 ≡ negsuc 1)
