-- Records in the order of their keys. Assumes nothing.
use Rattle.std.specs.Prelude.{ℕ, ◌<◌, List, length, slice_index_or}

-- each key is above those before it
abbrev pub Rising : {X : Type 0} → (X → ℕ) → List X → Type 0
Rising key xs = (i j : ℕ) (d : _) → (i < j) × (j < length xs) → key (slice_index_or xs i d) < key (slice_index_or xs j d)
