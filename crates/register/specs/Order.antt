-- Records in the order of their keys, and what each call makes of them. Assumes nothing.
use Rattle.std.specs.Prelude.{◌≡◌, ℕ, suc, ◌<◌, ◌≤◌, Bool, cond, List, [], ◌∷◌, length, is_some, Some, None, Option, Result, MatchResult, ◌==◌, nat_le, nat_lt, slice_index_or, slice_set}
use Rattle.std.specs.List.{insert, remove}
use Rattle.register.specs.declared.RegisterFault.{RegisterFault}
use Rattle.register.specs.declared.RegisterFault.TheVariants.{Taken, Full, Absent}

-- the rank of the first that passes, or the length
abbrev pub first : {X : Type 0} → (X → Bool) → List X → ℕ
first p [] = 0
first p (x ∷ xs) = cond (p x) 0 (suc (first p xs))

module _ {X : Type 0} (key : X → ℕ) where
  -- the rank of the first record whose key is at least k, or the length
  abbrev pub spot : ℕ → List X → ℕ
  spot k xs = first (λ x. nat_le k (key x)) xs

  -- the record with the key k
  abbrev pub seek : ℕ → List X → Option X
  seek k [] = None
  seek k (x ∷ xs) = cond (k == key x) (Some x) (seek k xs)

  -- what a search for k says: the rank where k stands, or where it would stand
  abbrev pub Located : ℕ → List X → Result ℕ ℕ → Type 0
  Located k xs o = MatchResult o
      (λ i. (i < length xs) × ((d : X) → key (slice_index_or xs i d) ≡ k) × (i ≡ spot k xs))
      (λ i. (i ≤ length xs) × (i ≡ spot k xs) × (seek k xs ≡ None))

  -- why the insertion of x is refused, where there is room for cap
  abbrev pub refusal : ℕ → List X → X → Option RegisterFault
  refusal cap xs x = cond (is_some (seek (key x) xs)) (Some Taken) (cond (nat_lt (length xs) cap) None (Some Full))

  -- what the insertion of x makes of xs, where there is room for cap
  abbrev pub Inserted : {T : Type 0} → ℕ → List X → List X → X → Result T RegisterFault → Type 0
  Inserted cap xs ys x o = MatchResult o
      (λ _. (refusal cap xs x ≡ None) × (ys ≡ insert xs (spot (key x) xs) x))
      (λ e. (refusal cap xs x ≡ Some e) × (ys ≡ xs))

  -- what the removal of k makes of xs
  abbrev pub Removed : List X → List X → ℕ → Result X RegisterFault → Type 0
  Removed xs ys k o = MatchResult o
      (λ old. (seek k xs ≡ Some old) × (ys ≡ remove xs (spot k xs)))
      (λ e. (seek k xs ≡ None) × (e ≡ Absent) × (ys ≡ xs))

  -- what writing x over the record with its key makes of xs
  abbrev pub Replaced : List X → List X → X → Result X RegisterFault → Type 0
  Replaced xs ys x o = MatchResult o
      (λ old. (seek (key x) xs ≡ Some old) × (ys ≡ slice_set xs (spot (key x) xs) x))
      (λ e. (seek (key x) xs ≡ None) × (e ≡ Absent) × (ys ≡ xs))

  -- what a look-up finds afterwards: w under k, and what it found before under every other key
  abbrev pub Finds : {T : Type 0} → ℕ → Option X → List X → List X → Result T RegisterFault → Type 0
  Finds k w xs ys o = MatchResult o
      (λ _. (j : ℕ) → seek j ys ≡ cond (j == k) w (seek j xs))
      (λ _. (j : ℕ) → seek j ys ≡ seek j xs)

-- a call leaves n records, and all as it was where it is refused
abbrev pub Counts : {X T : Type 0} → ℕ → List X → List X → Result T RegisterFault → Type 0
Counts n xs ys o = MatchResult o (λ _. length ys ≡ n) (λ _. ys ≡ xs)
