-- A unit's meters, by the meaning of their store. Assumes nothing.
use Rattle.store.specs.Meaning.{Meaning}
use Rattle.metering.specs.Energy.{Meters, unit_meters}
use Rattle.metering.specs.declared.Metered.{Metered}

abbrev pub meters : {S : Type 0} → (S → Meaning) → Metered S → Meters
meters meaning m = unit_meters (meaning m.store.now).at m.unit.first m.unit.count
