-- Cells and their presence bits: where a cell lies, and what the write of one byte leaves. Assumes nothing.
use Rattle.std.proofs.Common.{◌≡◌, ℕ, ◌+◌, ◌*◌, ◌/◌, ◌%◌, ◌^◌, ◌<◌, ◌≤◌, true, false, cond, eqb, ltb, List, length, w8, ◌++◌, replicate, drop, get_or, set, refl, ap, ◌∙◌, arith}
use lib.Bits.{bit_or, bit_xor}
use Rattle.std.proofs.lemmas.Nat.{mul-add-lt, div-mul-add, mod-mul-add, one_shl, shr_split}
use Rattle.std.specs.Int.{bit_at}
use Rattle.std.proofs.lemmas.Nat.Bits.{bit_at-lt, bit_at-pow_same, bit_at-pow_other, bit_at_xor, bit_at_set_same, bit_at_set_other}
use Rattle.std.proofs.lemmas.List.{get_or-set_same, get_or-set_other}
use Rattle.std.proofs.lemmas.Bool.Decides.{nat_tests}
use Rattle.std.proofs.lemmas.Grind.{common_steps}
use Rattle.table.specs.Presence.{bit, Cleared}
use Rattle.table.proofs.Bytes.{low_dropped, high_kept}

-- the cell of the place q of the point p, of n points with w places each
pub cell_lt : (p q n w : ℕ) → p < n → q < w → p * w + q < n * w
cell_lt p q n w h k = omega (arith, mul-add-lt p w q n h k)

-- two places with one cell are one place
pub same_cell : (i j p q w : ℕ) → j < w → q < w → i * w + j ≡ p * w + q → (i ≡ p) × (j ≡ q)
same_cell i j p q w h k e = grind (arith, div-mul-add i w j h, div-mul-add p w q k, mod-mul-add i w j h, mod-mul-add p w q k, e)

-- the write of a byte y at i
module _ (xs : List ℕ) (i y : ℕ) (h : i < length xs) where
  pub byte_here : (k : ℕ) → k / 8 ≡ i → bit (set xs i y) k ≡ eqb (bit_at y (k % 8)) 1
  byte_here k e = ap (λ v. eqb (bit_at v (k % 8)) 1) (ap (λ v. get_or (set xs i y) v 0) e ∙ get_or-set_same xs i y 0 h)

  pub byte_other : (k : ℕ) → (k / 8 ≡ i → ⊥) → bit (set xs i y) k ≡ bit xs k
  byte_other k n = ap (λ v. eqb (bit_at v (k % 8)) 1) (get_or-set_other xs i (k / 8) y 0 n)

-- the write of a byte that differs at one bit, or at none
pub one_bit : (xs : List ℕ) (c y : ℕ) → c / 8 < length xs → ((j : ℕ) → (j ≡ c % 8 → ⊥) → bit_at y j ≡ bit_at (get_or xs (c / 8) 0) j) → (k : ℕ) → (k ≡ c → ⊥) → bit (set xs (c / 8) y) k ≡ bit xs k
one_bit xs c y h f k n = grind (arith, nat_tests, f (k % 8), byte_here xs (c / 8) y h k, byte_other xs (c / 8) y h k)

-- the byte with only the bit of the cell c set
abbrev pub mask : ℕ → ℕ
mask c = 1 * 2 ^ (c % 8) % 256

module _ (xs : List ℕ) (c : ℕ) (h : c / 8 < length xs) where
  abbrev x : ℕ
  x = get_or xs (c / 8) 0

  pub set_here : bit (set xs (c / 8) (bit_or x (mask c))) c ≡ true
  set_here = byte_here xs (c / 8) _ h c refl ∙ ap (λ v. eqb v 1) (bit_at_set_same w8 x (c % 8) (omega arith))

  pub set_other : (k : ℕ) → (k ≡ c → ⊥) → bit (set xs (c / 8) (bit_or x (mask c))) k ≡ bit xs k
  set_other = one_bit xs c _ h (bit_at_set_other w8 x (c % 8) (omega arith))

  flipped : (j : ℕ) → bit_at (bit_xor x (mask c)) j ≡ (bit_at x j + bit_at (2 ^ (c % 8)) j) % 2
  flipped j = ap (λ v. bit_at (bit_xor x v) j) (one_shl (c % 8) 8 (omega arith)) ∙ bit_at_xor x (2 ^ (c % 8)) j

  pub unset_here : bit xs c ≡ true → bit (set xs (c / 8) (bit_xor x (mask c))) c ≡ false
  unset_here e = grind (arith, nat_tests, e, byte_here xs (c / 8) (bit_xor x (mask c)) h c refl, flipped (c % 8), bit_at-pow_same (c % 8))

  pub unset_other : (k : ℕ) → (k ≡ c → ⊥) → bit (set xs (c / 8) (bit_xor x (mask c))) k ≡ bit xs k
  unset_other = one_bit xs c _ h (λ j n. omega (arith, flipped j, bit_at-pow_other (c % 8) j n, bit_at-lt x j))

-- a byte with its r lowest bits cleared clears r cells more
pub cleared_more : (es xs : List ℕ) (i r y n : ℕ) → i < length xs → r ≤ 8 → n ≡ 8 * i + r → Cleared (8 * i) es xs → ((j : ℕ) → j < r → bit_at y j ≡ 0) → ((j : ℕ) → r ≤ j → j < 8 → bit_at y j ≡ bit_at (get_or xs i 0) j) → Cleared n es (set xs i y)
cleared_more es xs i r y n h l e was low high k =
    grind (arith, nat_tests, was k, low (k % 8), high (k % 8), byte_here xs i y h k, byte_other xs i y h k)

-- a read of what has its first i bytes cleared
cleared_at : (es : List ℕ) (i j : ℕ) → i ≤ length es → get_or (replicate i 0 ++ drop i es) j 0 ≡ cond (ltb j i) 0 (get_or es j 0)
cleared_at es i j h = grind (arith, common_steps, nat_tests)

pub cleared_bytes : (es : List ℕ) (i : ℕ) → i ≤ length es → Cleared (8 * i) es (replicate i 0 ++ drop i es)
cleared_bytes es i h k = grind (arith, common_steps, nat_tests, cleared_at es i (k / 8) h)

pub cleared_low : (es xs : List ℕ) (i r n : ℕ) → i < length xs → r ≤ 8 → n ≡ 8 * i + r → get_or xs i 0 < 256 → Cleared (8 * i) es xs → Cleared n es (set xs i (get_or xs i 0 / 2 ^ r * 2 ^ r % 256))
cleared_low es xs i r n h l e b was =
    let x = get_or xs i 0 in
    let z : x / 2 ^ r * 2 ^ r % 256 ≡ x / 2 ^ r * 2 ^ r = omega (arith, shr_split x r) in
    cleared_more es xs i r _ n h l e was
    (λ j d. ap (λ v. bit_at v j) z ∙ low_dropped (x / 2 ^ r) j r d)
    (λ j d m. ap (λ v. bit_at v j) z ∙ high_kept x j r d)
