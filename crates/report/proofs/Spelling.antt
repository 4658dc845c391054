-- A number in decimal by its sign and its digits. Assumes nothing.
use Rattle.std.proofs.Common.{◌≡◌, ◌∷◌, ℤ, pos, negsuc, nat_abs, ◌<ℤ◌, ◌≤ℤ◌, decimal, refl, arith}
use Rattle.std.specs.Fmt.{signed_decimal}
use Rattle.std.proofs.lemmas.Int.{ints}

pub signed_below : (b : ℤ) → b <ℤ pos 0 → signed_decimal b ≡ 45 ∷ decimal (nat_abs b)
signed_below (pos n) h = absurd (omega (arith, ints))
signed_below (negsuc n) h = refl

pub signed_above : (b : ℤ) → pos 0 ≤ℤ b → signed_decimal b ≡ decimal (nat_abs b)
signed_above (pos n) h = refl
signed_above (negsuc n) h = absurd (omega (arith, ints))
