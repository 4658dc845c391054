-- What a unit used, and which of its sources cannot be used. These speak of readings by point and place alone. Assumes nothing.
use Rattle.std.specs.Prelude.{ℕ, ◌+◌, ◌*◌, Bool, cond, ◌&&◌, List, [], ◌∷◌, is_some, Some, None, sum_by, Option, nat_le}
use Rattle.std.specs.List.{range_with_len}
use Rattle.refusal.specs.Refusals.{Refusal}
use Rattle.store.specs.declared.Reading.{Reading}
use Rattle.store.specs.Meaning.{Readings}
use Rattle.metering.specs.Sums.{or_else, first_in}
use Rattle.metering.specs.declared.SourceFault.{SourceFault}
use Rattle.metering.specs.declared.SourceFault.TheVariants.{Missing, AboveLimit}

-- a missing source is told with its point and place, a unit above its limit with the place
abbrev pub source_refusal : SourceFault → Refusal
source_refusal (Missing point place) = record { number = 15; values = point ∷ place ∷ [] }
source_refusal (AboveLimit place) = record { number = 16; values = place ∷ [] }

-- a unit has 1 to 16 points, all of a store of so many
abbrev pub unit_fits : ℕ → ℕ → ℕ → Bool
unit_fits points first count = nat_le 1 count && (nat_le count 16 && nat_le (first + count) points)

-- the energy of a reading, 0 where there is none
abbrev pub energy_of : Option Reading → ℕ
energy_of None = 0
energy_of (Some v) = v.energy

-- a unit's meters: the readings, and so many points from the first on
pub record Meters : Type 0 where
  pub at : Readings
  pub first : ℕ
  pub count : ℕ

-- the meters of the unit of c points from u on
abbrev pub unit_meters : Readings → ℕ → ℕ → Meters
unit_meters at u c = record { at = at; first = u; count = c }

module _ (m : Meters) where
  -- the unit's energy at a place: the sum over its points
  abbrev pub energy_at : ℕ → ℕ
  energy_at place = sum_by (λ p. energy_of (m.at p place)) (range_with_len m.first m.count)

  -- the first point of the unit that has no reading there
  abbrev pub missing_at : ℕ → Option SourceFault
  missing_at place = first_in (λ p. cond (is_some (m.at p place)) None (Some (Missing p place))) (range_with_len m.first m.count)

  -- what is wrong with a source: a missing reading comes before too much energy
  abbrev pub trouble_at : ℕ → Option SourceFault
  trouble_at place = or_else (missing_at place) (cond (nat_le (energy_at place) 5000) None (Some (AboveLimit place)))

-- the places of a stretch of intervals of a day, with t intervals in a day
abbrev pub places : ℕ → ℕ → ℕ → ℕ → List ℕ
places t day from long = range_with_len (day * t + from) long
