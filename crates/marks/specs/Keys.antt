-- The keys of the records in a book's registers. Assumes nothing.
use Rattle.std.specs.Prelude.{ℕ}
use Rattle.marks.specs.declared.DayMark.{DayMark}
use Rattle.marks.specs.declared.Event.{Event}

-- a marked day stands under its number
abbrev pub day_key : DayMark → ℕ
day_key m = m.day

-- an event stands under its first place
abbrev pub event_key : Event → ℕ
event_key e = e.first
