-- The bits of one byte: the low bits dropped, and how many are set. Assumes nothing.
use Rattle.std.proofs.Common.{◌≡◌, ℕ, ◌+◌, ◌*◌, ◌/◌, ◌%◌, ◌^◌, ◌<◌, ◌≤◌, sym, ap, ◌∙◌, add-zero, arith}
use lib.Count.{ones, ones_step, ones_cat, ones-le}
use Rattle.std.specs.Int.{bit_at}
use Rattle.std.proofs.lemmas.Nat.{mod-pow-add, mod_below, pow_pos, shr_split}
use Rattle.std.proofs.lemmas.Nat.Bits.{bit_at-zero, bit_at_cat_low, bit_at_cat_high}

pub low_dropped : (z j k : ℕ) → j < k → bit_at (z * 2 ^ k) j ≡ 0
low_dropped z j k h = ap (λ v. bit_at v j) (sym (add-zero (z * 2 ^ k))) ∙ bit_at_cat_low z k 0 j h ∙ bit_at-zero j

pub high_kept : (x j k : ℕ) → k ≤ j → bit_at (x / 2 ^ k * 2 ^ k) j ≡ bit_at x j
high_kept x j k h =
    let z = x / 2 ^ k in
    ap (λ v. bit_at v j) (sym (add-zero (z * 2 ^ k))) ∙ bit_at_cat_high z k 0 j (pow_pos k) h
    ∙ sym (bit_at_cat_high z k (x % 2 ^ k) j (mod_below x (2 ^ k) (pow_pos k)) h) ∙ ap (λ v. bit_at v j) (omega (arith, shr_split x k))

no_ones : (x : ℕ) → x ≡ 0 → ones x ≡ 0
no_ones x e = let h : x < 2 ^ 0 = omega arith in omega (arith, ones-le 0 x h)

one_digit : (y : ℕ) → ones (y % 2) ≡ y % 2
one_digit y = omega (arith, ones_step (y % 2), no_ones (y % 2 / 2) (omega arith))

pub ones_none : (x : ℕ) → ones (x % 2 ^ 0) ≡ 0
ones_none x = no_ones (x % 1) (omega arith)

-- one more of the low bits
pub ones_more : (x r : ℕ) → ones (x % 2 ^ (1 + r)) ≡ x / 2 ^ r % 2 + ones (x % 2 ^ r)
ones_more x r =
    ap ones (mod-pow-add x 1 r) ∙ ones_cat r (x / 2 ^ r % 2) (x % 2 ^ r) (mod_below x (2 ^ r) (pow_pos r))
    ∙ ap (λ v. v + ones (x % 2 ^ r)) (one_digit (x / 2 ^ r))
