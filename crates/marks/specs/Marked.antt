-- What is marked in a book, and what marking and lifting do to it. Assumes nothing.
use Rattle.std.specs.Prelude.{◌≡◌, ℕ, ◌+◌, ◌-◌, ◌*◌, ◌<◌, ◌≤◌, Bool, true, false, cond, not, ◌&&◌, ◌||◌, List, [], ◌∷◌, length, is_some, Some, None, filter, Option, Result, MatchResult, ◌==◌, nat_eq, nat_le, nat_lt, slice_index_or}
use Rattle.std.specs.List.{insert, remove}
use Rattle.refusal.specs.declared.MakeFault.{MakeFault}
use Rattle.refusal.specs.declared.MakeFault.TheVariants.{Limits}
use Rattle.calendar.specs.declared.DayKind.{DayKind}
use Rattle.calendar.specs.declared.Resolution.{Resolution}
use Rattle.calendar.specs.declared.Resolution.TheVariants.{HalfHours}
use Rattle.calendar.specs.Days.{hour_of, resolution_of, kind_on, window_start}
use Rattle.register.specs.declared.Register.{Register}
use Rattle.register.specs.Held.{held, capacity}
use Rattle.register.specs.Rising.{Rising}
use Rattle.register.specs.Order.{seek, spot}
use Rattle.marks.specs.declared.DayMark.{DayMark}
use Rattle.marks.specs.declared.Event.{Event}
use Rattle.marks.specs.declared.Marks.{Marks}
use Rattle.marks.specs.declared.MarkFault.{MarkFault}
use Rattle.marks.specs.declared.MarkFault.TheVariants.{DayBeyond, Misplaced, Overlap, Already, Full, Absent, Issued}
use Rattle.marks.specs.declared.MarkKind.{MarkKind}
use Rattle.marks.specs.declared.MarkKind.TheVariants.{Holiday, Exclusion}
use Rattle.marks.specs.Keys.{day_key, event_key}
use Rattle.marks.specs.Events.{day_in, well_placed, end_of, Placed, Apart}

-- a set of marked days: which days are in it, and how many more it has room for
pub record DaySet : Type 0 where
  pub has : ℕ → Bool
  pub free : ℕ

-- what a book's marks mean: events stand in the order of their first places
pub record Marking : Type 0 where
  pub resolution : Resolution
  pub days : ℕ
  pub holidays : DaySet
  pub exclusions : DaySet
  pub events : List Event
  pub event_slots : ℕ

-- the days that records stand for, where there are so many slots
abbrev pub day_set : List DayMark → ℕ → DaySet
day_set xs slots = record { has = λ d. is_some (seek day_key d xs); free = slots - length xs }

-- the days in a register
abbrev pub days_in : {g : _} → Register DayMark g → DaySet
days_in g = day_set (held g) (capacity g)

-- the records of the days that are marked so, and those days
abbrev pub marked_in : MarkKind → Marks → List DayMark
marked_in Holiday m = held m.holidays
marked_in Exclusion m = held m.exclusions

abbrev pub days_marked : MarkKind → Marking → DaySet
days_marked Holiday b = b.holidays
days_marked Exclusion b = b.exclusions

-- what the fields of a book's marks mean
abbrev pub marking : Marks → Marking
marking m = record {
  resolution = m.resolution;
  days = m.days;
  holidays = days_in m.holidays;
  exclusions = days_in m.exclusions;
  events = held m.events;
  event_slots = capacity m.events;
}

-- ---- days

-- the kind of a day of the book
abbrev pub kind_in : Marking → ℕ → DayKind
kind_in b d = kind_on d (b.holidays.has d)

-- why a day is not marked, in a book of so many days
abbrev pub day_fault : ℕ → DaySet → ℕ → Option MarkFault
day_fault days s d = cond (nat_lt d days) (cond (s.has d) (Some Already) (cond (nat_lt 0 s.free) None (Some Full))) (Some DayBeyond)

-- what marking the day d makes of a set, with the answer r
abbrev pub DayMarked : {U : Type 0} → ℕ → DaySet → DaySet → ℕ → Result U MarkFault → Type 0
DayMarked days s s' d r = MatchResult r
    (λ _. (day_fault days s d ≡ None) × ((x : ℕ) → s'.has x ≡ cond (x == d) true (s.has x)) × (s'.free + 1 ≡ s.free))
    (λ e. (day_fault days s d ≡ Some e) × (s' ≡ s))

-- what lifting the mark of the day d makes of a set, with the answer r
abbrev pub DayLifted : {U : Type 0} → DaySet → DaySet → ℕ → Result U MarkFault → Type 0
DayLifted s s' d r = MatchResult r
    (λ _. (s.has d ≡ true) × ((x : ℕ) → s'.has x ≡ cond (x == d) false (s.has x)) × (s'.free ≡ s.free + 1))
    (λ e. (s.has d ≡ false) × (e ≡ Absent) × (s' ≡ s))

-- ---- events

-- the day of a place, where the book has it
abbrev pub day_within : Marking → ℕ → Option ℕ
day_within b place = cond (nat_lt (day_in b.resolution place) b.days) (Some (day_in b.resolution place)) None

-- some of a list passes
abbrev pub some_of : {X : Type 0} → (X → Bool) → List X → Bool
some_of p [] = false
some_of p (x ∷ xs) = p x || some_of p xs

-- an event has an interval in common with the count intervals from first on
abbrev pub overlapping : ℕ → ℕ → Event → Bool
overlapping first count e = nat_lt e.first (first + count) && nat_lt first (end_of e)

-- an event, where there is one, starts before a place ..
abbrev pub starts_before : ℕ → Option Event → Bool
starts_before place None = false
starts_before place (Some e) = nat_lt e.first place

-- .. or ends after it
abbrev pub ends_after : ℕ → Option Event → Bool
ends_after place None = false
ends_after place (Some e) = nat_lt place (end_of e)

-- the day has an event, open or issued
abbrev pub event_day : Resolution → List Event → ℕ → Bool
event_day r es d = some_of (λ e. nat_eq (day_in r e.first) d) es

-- why an event is not marked
abbrev pub event_fault : Marking → ℕ → ℕ → Option MarkFault
event_fault b first count =
    cond (nat_lt (day_in b.resolution first) b.days)
    (cond (well_placed b.resolution first count)
    (cond (some_of (overlapping first count) b.events) (Some Overlap)
    (cond (nat_lt (length b.events) b.event_slots) None (Some Full)))
    (Some Misplaced))
    (Some DayBeyond)

-- an event whose credit was not issued
abbrev pub open_event : ℕ → ℕ → Event
open_event first count = record { first = first; count = count; issued = false }

-- what marking an event makes of the events, with the answer r
abbrev pub EventMarked : {U : Type 0} → Marking → Marking → ℕ → ℕ → Result U MarkFault → Type 0
EventMarked b b' first count r = MatchResult r
    (λ _. (event_fault b first count ≡ None) × (b'.events ≡ insert b.events (spot event_key first b.events) (open_event first count)))
    (λ e. (event_fault b first count ≡ Some e) × (b'.events ≡ b.events))

-- why the event with this first place is not lifted
abbrev pub lift_fault : Option Event → Option MarkFault
lift_fault None = Some Absent
lift_fault (Some e) = cond e.issued (Some Issued) None

-- what lifting the event with this first place makes of the events, with the answer r
abbrev pub EventLifted : {U : Type 0} → Marking → Marking → ℕ → Result U MarkFault → Type 0
EventLifted b b' first r = MatchResult r
    (λ _. (lift_fault (seek event_key first b.events) ≡ None) × (b'.events ≡ remove b.events (spot event_key first b.events)))
    (λ e. (lift_fault (seek event_key first b.events) ≡ Some e) × (b'.events ≡ b.events))

-- all but the events stays ..
pub record SameButEvents (b b' : Marking) : Type 0 where
  pub resolution : b'.resolution ≡ b.resolution
  pub days : b'.days ≡ b.days
  pub holidays : b'.holidays ≡ b.holidays
  pub exclusions : b'.exclusions ≡ b.exclusions
  pub event_slots : b'.event_slots ≡ b.event_slots

-- .. all but the holidays ..
pub record SameButHolidays (b b' : Marking) : Type 0 where
  pub resolution : b'.resolution ≡ b.resolution
  pub days : b'.days ≡ b.days
  pub exclusions : b'.exclusions ≡ b.exclusions
  pub events : b'.events ≡ b.events
  pub event_slots : b'.event_slots ≡ b.event_slots

-- .. and all but the exclusions
pub record SameButExclusions (b b' : Marking) : Type 0 where
  pub resolution : b'.resolution ≡ b.resolution
  pub days : b'.days ≡ b.days
  pub holidays : b'.holidays ≡ b.holidays
  pub events : b'.events ≡ b.events
  pub event_slots : b'.event_slots ≡ b.event_slots

-- all but the days that are marked so
abbrev pub SameButDays : MarkKind → Marking → Marking → Type 0
SameButDays Holiday b b' = SameButHolidays b b'
SameButDays Exclusion b b' = SameButExclusions b b'

-- ---- the lead

-- an earlier event of the same day ends less than four hours before the event l
abbrev pub closely_before : Resolution → Event → Event → Bool
closely_before r l e =
    (day_in r e.first == day_in r l.first) && (nat_lt e.first l.first && nat_lt l.first (end_of e + 4 * hour_of r))

-- an event leads where it is its day's first or follows four clear hours: no event of the day comes closely before it
abbrev pub leads : Resolution → List Event → Event → Bool
leads r es l = not (some_of (closely_before r l) es)

-- the last of a list
abbrev pub last_of : {X : Type 0} → List X → Option X
last_of [] = None
last_of (x ∷ []) = Some x
last_of (x ∷ (y ∷ ys)) = last_of (y ∷ ys)

-- the lead of the event at `first`: the latest event of its day, itself included and none after it, that leads
abbrev pub lead_of : Resolution → List Event → ℕ → Option Event
lead_of r es first =
    last_of (filter (λ l. (day_in r l.first == day_in r first) && (nat_le l.first first && leads r es l)) es)

-- k is the greatest rank up to i whose event leads
pub record LeadRank (r : Resolution) (es : List Event) (i k : ℕ) : Type 0 where
  pub within : k ≤ i
  pub found : (d : Event) → leads r es (slice_index_or es k d) ≡ true
  pub later : (j : ℕ) (d : Event) → (k < j) × (j ≤ i) → leads r es (slice_index_or es j d) ≡ false

-- where the adjustment window of a lead starts
abbrev pub window_from : Resolution → Option Event → Option ℕ
window_from r None = None
window_from r (Some l) = Some (window_start r l.first)

-- ---- what every book keeps

-- the records are in rising order: of the holidays ..
abbrev pub HolidaysRise : Marks → Type 0
HolidaysRise m = Rising day_key (held m.holidays)

-- .. of the exclusions ..
abbrev pub ExclusionsRise : Marks → Type 0
ExclusionsRise m = Rising day_key (held m.exclusions)

-- .. and of the events
abbrev pub EventsRise : Marks → Type 0
EventsRise m = Rising event_key (held m.events)

-- every event is well placed in a day of the book
abbrev pub EventsPlaced : Marks → Type 0
EventsPlaced m = Placed m.resolution m.days (held m.events)

-- no event reaches into a later one
abbrev pub EventsApart : Marks → Type 0
EventsApart m = Apart (held m.events)

-- a book has 1 to 4,096 days
abbrev pub DaysFit : Marks → Type 0
DaysFit m = (1 ≤ m.days) × (m.days ≤ 4096)

-- all of it
pub record Orderly (m : Marks) : Type 0 where
  pub fit : DaysFit m
  pub holidays : HolidaysRise m
  pub exclusions : ExclusionsRise m
  pub events : EventsRise m
  pub placed : EventsPlaced m
  pub apart : EventsApart m

-- marks are in order
pub orderly : (m : Marks) → Orderly m
orderly m = record { fit = m.fit; holidays = m.holidays.rising; exclusions = m.exclusions.rising; events = m.events.rising; placed = m.placed; apart = m.apart }

-- ---- making

-- a book has 1 to 4,096 days
abbrev pub fitting : ℕ → Bool
fitting days = nat_le 1 days && nat_le days 4096

-- why a book of so many intervals a day and so many days is not made
abbrev pub marks_fault : ℕ → ℕ → Option MakeFault
marks_fault intervals days = cond (is_some (resolution_of intervals) && fitting days) None (Some Limits)

-- no day, with room for so many
abbrev pub no_days : ℕ → DaySet
no_days slots = record { has = λ _. false; free = slots }

-- no mark, with room for so many holidays, exclusions and events
abbrev pub blank : Resolution → ℕ → ℕ → ℕ → ℕ → Marking
blank r days h x e = record { resolution = r; days = days; holidays = no_days h; exclusions = no_days x; events = []; event_slots = e }

-- the resolution asked for, half hours where there is none such
abbrev pub resolution_or : Option Resolution → Resolution
resolution_or None = HalfHours
resolution_or (Some r) = r

-- new marks: as asked, and where that is refused half hours, a day and no room
abbrev pub newly : ℕ → ℕ → ℕ → ℕ → ℕ → Marking
newly intervals days h x e =
    cond (is_some (marks_fault intervals days)) (blank HalfHours 1 0 0 0) (blank (resolution_or (resolution_of intervals)) days h x e)
