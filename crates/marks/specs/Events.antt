-- Where an event may lie in a book, and how two lie to one another. Assumes nothing.
use Rattle.std.specs.Prelude.{◌≡◌, ℕ, ◌+◌, ◌*◌, ◌/◌, ◌%◌, ◌<◌, ◌≤◌, Bool, true, ◌&&◌, List, length, nat_le, nat_lt, slice_index_or}
use Rattle.calendar.specs.declared.Resolution.{Resolution}
use Rattle.calendar.specs.Days.{intervals_of, hour_of}
use Rattle.marks.specs.declared.Event.{Event}

-- the first place after an event
abbrev pub end_of : Event → ℕ
end_of e = e.first + e.count

-- the day of a place
abbrev pub day_in : Resolution → ℕ → ℕ
day_in r place = place / intervals_of r

-- an event has an interval, starts four hours into its day or later, and ends by midnight
abbrev pub well_placed : Resolution → ℕ → ℕ → Bool
well_placed r first count = nat_le 1 count && (nat_le (4 * hour_of r) (first % intervals_of r) && nat_le (first % intervals_of r + count) (intervals_of r))

-- an event is well placed in a day of a book of so many days
abbrev pub in_book : Resolution → ℕ → Event → Bool
in_book r days e = nat_lt (day_in r e.first) days && well_placed r e.first e.count

-- every event is so placed
abbrev pub Placed : Resolution → ℕ → List Event → Type 0
Placed r days es = (i : ℕ) (d : Event) → i < length es → in_book r days (slice_index_or es i d) ≡ true

-- no event reaches into a later one
abbrev pub Apart : List Event → Type 0
Apart es = (i j : ℕ) (d : Event) → (i < j) × (j < length es) → end_of (slice_index_or es i d) ≤ (slice_index_or es j d).first
