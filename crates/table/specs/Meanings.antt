-- What a table means, and why that is sound. Assumes nothing.
use Rattle.store.specs.Meaning.{Meaning, Sound}
use Rattle.table.specs.declared.Table.{Table}
use Rattle.table.specs.Grid.{grid, grid_sound}

-- the readings and the free places that a table has
abbrev pub table_meaning : Table → Meaning
table_meaning t = grid t.points t.span t.readings.now t.present.now

pub table_sound : (t : Table) → Sound (table_meaning t)
table_sound t = grid_sound t.points t.span t.readings.now t.present.now t.limits t.small
