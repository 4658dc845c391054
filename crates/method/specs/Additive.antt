-- The additive baseline rises with A, and has bounds. Assumes nothing.
use Rattle.std.specs.Prelude.{◌≡◌, ℕ, ◌*◌, ◌≤◌, pos, negsuc, ◌≤ℤ◌}
use Rattle.std.proofs.Common.{mul-le-mul_left, mul_comm, mul_left_comm, arith}
use Rattle.std.proofs.Math.Nat.{mul-pos}
use Rattle.std.proofs.lemmas.Int.{ints}
use Rattle.method.specs.Energy.{Sound}
use Rattle.method.specs.Baseline.{sum_of, additive_of}
use Rattle.method.specs.Rounding.{floor_rises, floor_within}

pub rises : (v w a b n m : ℕ) → Sound v w b n m → a ≤ b → additive_of v w a n m ≤ℤ additive_of v w b n m
rises v w a b n m s h =
    let k : n * a ≤ n * b = mul-le-mul_left n h in
    floor_rises (sum_of v w a n m) (sum_of v w b n m) (n * m) (mul-pos s.days s.intervals) (omega (arith, ints))

pub within : (v w a n m : ℕ) → Sound v w a n m → (negsuc 4999 ≤ℤ additive_of v w a n m) × (additive_of v w a n m ≤ℤ pos 10000)
within v w a n m s =
    let p : m * v ≤ m * (5000 * n) = mul-le-mul_left m s.interval in
    let q : n * a ≤ n * (5000 * m) = mul-le-mul_left n s.event in
    let e : m * (5000 * n) ≡ 5000 * (n * m) = simp (mul_comm, mul_left_comm) in
    let f : n * (5000 * m) ≡ 5000 * (n * m) = simp mul_left_comm in
    floor_within (sum_of v w a n m) (n * m) 5000 10000 (mul-pos s.days s.intervals) (omega (arith, ints)) (omega (arith, ints))
