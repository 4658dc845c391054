-- How many bytes a number takes, by the power of ten that it holds. Assumes nothing.
use Rattle.std.proofs.Common.{◌≡◌, ℕ, zero, suc, ◌+◌, ◌*◌, ◌/◌, ◌%◌, ◌^◌, ◌<◌, ◌≤◌, List, [], ◌∷◌, ◌++◌, length, decimal, arith, length-append}
use Rattle.std.proofs.lemmas.Fmt.{decimal_by_steps, length-decimal-le}

-- powers of ten
up : (k : ℕ) → 10 ^ suc k ≡ 10 * 10 ^ k
up k = grind arith

some : (k : ℕ) → 0 < 10 ^ k
some zero = omega arith
some (suc k) = omega (arith, some k, up k)

-- a number that holds a power of ten has a digit more than the power says
abbrev holds : ℕ → List ℕ → Type 0
holds n ds = (k : ℕ) → 10 ^ k ≤ n → k < length ds

one : (n : ℕ) → n < 10 → holds n ((48 + n) ∷ [])
one n h zero l = omega arith
one n h (suc k) l = absurd (omega (arith, l, up k, some k))

more : (n : ℕ) (ds : List ℕ) → 10 ≤ n → holds (n / 10) ds → holds n (ds ++ ((48 + n % 10) ∷ []))
more n ds h f zero l = omega (arith, length-append ds ((48 + n % 10) ∷ []))
more n ds h f (suc k) l = omega (arith, f k (omega (arith, l, up k)), length-append ds ((48 + n % 10) ∷ []))

-- .. and no more, where it is below the next
pub digits_of : (k n : ℕ) → n < 2 ^ 64 → 10 ^ k ≤ n → n < 10 * 10 ^ k → length (decimal n) ≡ k + 1
digits_of k n small low high = omega (arith, decimal_by_steps holds one more n small k low, length-decimal-le (suc k) n (omega arith) (omega (arith, high, up k)) small)
