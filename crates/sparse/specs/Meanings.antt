-- What a sparse store means, and why that is sound. Assumes nothing.
use Rattle.std.specs.Prelude.{◌≡◌, ℕ, ◌-◌, ◌≤◌, List, length, Some, None, Option, ◌≢◌, nat_lt, refl}
use Rattle.std.proofs.Common.{arith}
use Rattle.std.proofs.lemmas.Bool.{le-ltb, cond_both, cond-false}
use Rattle.register.specs.Held.{held, capacity}
use Rattle.register.specs.Order.{seek}
use Rattle.store.specs.declared.Reading.{Reading}
use Rattle.store.specs.Meaning.{Meaning, Sound}
use Rattle.sparse.specs.declared.PlacedReading.{PlacedReading}
use Rattle.sparse.specs.declared.Sparse.{Sparse}
use Rattle.sparse.specs.Places.{place_of, reading_of, one_point, Placed}

-- one point, with the records that the register holds
abbrev pub sparse_meaning : Sparse → Meaning
sparse_meaning s = one_point s.span (capacity s.readings) (held s.readings)

-- a reading that stands is up to 5,000 if its record is
small_reading : (o : Option PlacedReading) (v : Reading) → ((r : PlacedReading) → o ≡ Some r → r.energy ≤ 5000) → reading_of o ≡ Some v → v.energy ≤ 5000
small_reading None v f e = absurd cc
small_reading (Some r) v f e = let z : r.energy ≡ v.energy = cc in omega (arith, f r refl)

-- no reading stands where there is no record
not_there : (o : Option PlacedReading) → ((r : PlacedReading) → o ≢ Some r) → reading_of o ≡ None
not_there None f = refl
not_there (Some r) f = absurd (f r refl)

-- records within the span, with readings up to 5,000, are what every store owes
one_point_sound : (span n : ℕ) (xs : List PlacedReading) → span ≤ 1179648 → Placed span xs → Sound (one_point span n xs)
one_point_sound span n xs wide placed = record {
  some = omega arith;
  most = omega arith;
  wide = wide;
  small = λ p q v. cond_both (nat_lt p 1) (reading_of (seek place_of q xs)) None (λ o. o ≡ Some v → v.energy ≤ 5000) (λ t. small_reading (seek place_of q xs) v (λ r e. (placed q r e).1)) (λ n e. absurd cc);
  past_points = λ p q h. cond-false (nat_lt p 1) (reading_of (seek place_of q xs)) None (le-ltb p 1 h);
  past_span = λ p q h. cond_both (nat_lt p 1) (reading_of (seek place_of q xs)) None (λ o. o ≡ None) (λ t. not_there (seek place_of q xs) (λ r e. omega (arith, (placed q r e).0))) (λ n. refl);
  past_free = λ p h. cond-false (nat_lt p 1) (n - length xs) 0 (le-ltb p 1 h);
}

pub sparse_sound : (s : Sparse) → Sound (sparse_meaning s)
sparse_sound s = one_point_sound s.span (capacity s.readings) (held s.readings) s.wide s.placed
