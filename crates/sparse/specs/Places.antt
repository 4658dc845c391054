-- What a sparse store holds: the readings of one point, each in a record with its place. Assumes nothing.
use Rattle.std.specs.Prelude.{◌≡◌, ℕ, ◌-◌, ◌<◌, ◌≤◌, cond, List, length, Some, None, Option, nat_le, nat_lt}
use Rattle.refusal.specs.declared.MakeFault.{MakeFault}
use Rattle.refusal.specs.declared.MakeFault.TheVariants.{Limits}
use Rattle.register.specs.Order.{seek}
use Rattle.store.specs.declared.Reading.{Reading}
use Rattle.store.specs.Meaning.{Meaning}
use Rattle.sparse.specs.declared.PlacedReading.{PlacedReading}

-- the key of a record
abbrev pub place_of : PlacedReading → ℕ
place_of r = r.place

-- a sparse store has at most 1,179,648 places
abbrev pub sparse_fault : ℕ → Option MakeFault
sparse_fault span = cond (nat_le span 1179648) None (Some Limits)

-- the places of what is made: as asked, or none where there is a fault
abbrev pub made_span : ℕ → ℕ
made_span span = cond (nat_le span 1179648) span 0

-- the reading in a record
abbrev pub reading_of : Option PlacedReading → Option Reading
reading_of None = None
reading_of (Some r) = Some (record { energy = r.energy })

-- one point, that has the records xs in n slots
abbrev pub one_point : ℕ → ℕ → List PlacedReading → Meaning
one_point span n xs = record {
  points = 1;
  span = span;
  at = λ p q. cond (nat_lt p 1) (reading_of (seek place_of q xs)) None;
  free = λ p. cond (nat_lt p 1) (n - length xs) 0;
}

-- each record has a place before the span and a reading up to 5,000
abbrev pub Placed : ℕ → List PlacedReading → Type 0
Placed span xs = (q : ℕ) (r : PlacedReading) → seek place_of q xs ≡ Some r → (q < span) × (r.energy ≤ 5000)
