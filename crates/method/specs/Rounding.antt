-- Quotients rounded down. Assumes nothing.
use Rattle.std.specs.Prelude.{◌≡◌, ℕ, zero, suc, ◌*◌, ◌/◌, ◌<◌, ◌≤◌, ℤ, pos, negsuc, ◌+ℤ◌, ◌*ℤ◌, neg_ℤ, ◌≤ℤ◌, ◌<ℤ◌}
use Rattle.std.proofs.Common.{le-div_iff_mul-le, div-mul-le_self, mul-le-mul_right, le_trans, mul_right_comm, le_of_mul-le-mul_right, zero-mul, arith}
use Rattle.std.specs.Int.{int_div_euclid}
use Rattle.std.proofs.lemmas.Int.{ints}
use Rattle.method.specs.Baseline.{Floor}

-- p / k ≤ r / l, from the fractions
pub quotients_le : (p k r l : ℕ) → 0 < k → 0 < l → p * l ≤ r * k → p / k ≤ r / l
quotients_le p k r l hk hl h =
    let q : (p / k) * l * k ≤ r * k =
    le_trans (rw mul_right_comm (mul-le-mul_right l (div-mul-le_self p k))) h in
    (le-div_iff_mul-le hl).1 (le_of_mul-le-mul_right q hk)

-- division rounded down rises with what is divided
pub floor_rises : (x y : ℤ) (d : ℕ) → 0 < d → x ≤ℤ y → int_div_euclid x (pos d) ≤ℤ int_div_euclid y (pos d)
floor_rises (pos a) (pos b) d h le =
    let l : a ≤ b = omega (arith, ints) in
    let q : a / d ≤ b / d = quotients_le a d b d h h (mul-le-mul_right d l) in
    omega (arith, ints)
floor_rises (pos a) (negsuc b) d h le = omega (arith, ints)
floor_rises (negsuc a) (pos b) d h le = omega (arith, ints)
floor_rises (negsuc a) (negsuc b) d h le =
    let l : b ≤ a = omega (arith, ints) in
    let q : b / d ≤ a / d = quotients_le b d a d h h (mul-le-mul_right d l) in
    omega (arith, ints)

above_neg : (a q d : ℕ) → q * d ≤ a → negsuc a <ℤ (neg_ℤ (pos q) *ℤ pos d)
above_neg a zero d low = omega (arith, ints, zero-mul d)
above_neg a (suc q) d low = omega (arith, ints)

one_up : (q : ℕ) → neg_ℤ (pos q) ≡ negsuc q +ℤ pos 1
one_up q = omega (arith, ints)

-- it is the floor
pub floor_is : (x : ℤ) (d : ℕ) → 0 < d → Floor x d (int_div_euclid x (pos d))
floor_is x d h = grind (arith, ints)

pub floor_within : (x : ℤ) (d low high : ℕ) → 0 < d → neg_ℤ (pos (low * d)) ≤ℤ x → x ≤ℤ pos (high * d) → (neg_ℤ (pos low) ≤ℤ int_div_euclid x (pos d)) × (int_div_euclid x (pos d) ≤ℤ pos high)
floor_within x d low high h l u = grind (arith, ints)
