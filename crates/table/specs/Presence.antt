-- The presence map: one bit for each cell, eight cells to a byte, the lowest first. Assumes nothing.
use Rattle.std.specs.Prelude.{◌≡◌, ℕ, zero, suc, ◌+◌, ◌/◌, ◌%◌, ◌^◌, Bool, false, cond, List, ◌==◌, nat_lt, slice_index}

-- whether the cell k is marked as present
abbrev pub bit : List ℕ → ℕ → Bool
bit xs k = slice_index xs (k / 8) / 2 ^ (k % 8) % 2 == 1

-- how many of the n cells from a on are not marked
abbrev pub clear : List ℕ → ℕ → ℕ → ℕ
clear xs a zero = 0
clear xs a (suc n) = clear xs a n + cond (bit xs (a + n)) 0 1

-- how many of the cells below n are marked
abbrev pub marked : List ℕ → ℕ → ℕ
marked xs zero = 0
marked xs (suc n) = marked xs n + cond (bit xs n) 1 0

-- ys is xs with the marks of the cells below n cleared
abbrev pub Cleared : ℕ → List ℕ → List ℕ → Type 0
Cleared n xs ys = (k : ℕ) → bit ys k ≡ cond (nat_lt k n) false (bit xs k)
