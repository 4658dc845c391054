-- What settling answers: the causes in their order, and the lines. It speaks of readings, marks and rules alone. Assumes nothing.
use Rattle.std.specs.Prelude.{◌≡◌, ℕ, ◌%◌, cond, List, ◌++◌, length, drop, is_some, Some, None, Option, Result, MatchResult, nat_le}
use Rattle.calendar.specs.Days.{intervals_of, window_start, window_length}
use Rattle.register.specs.Order.{seek}
use Rattle.store.specs.Meaning.{Readings}
use Rattle.marks.specs.declared.Event.{Event}
use Rattle.marks.specs.Keys.{event_key}
use Rattle.marks.specs.Events.{day_in}
use Rattle.marks.specs.Marked.{Marking, kind_in, lead_of}
use Rattle.method.specs.Rules.{Rules}
use Rattle.method.specs.Methods.{numbered_rules, known}
use Rattle.choice.specs.Choice.{selected_days}
use Rattle.metering.specs.Sums.{or_else}
use Rattle.metering.specs.Energy.{unit_fits, unit_meters}
use Rattle.metering.specs.declared.SourceFault.{SourceFault}
use Rattle.settlement.specs.declared.Line.{Line}
use Rattle.settlement.specs.declared.Settlement.{Settlement}
use Rattle.settlement.specs.declared.SettleFault.{SettleFault}
use Rattle.settlement.specs.declared.SettleFault.TheVariants.{Unit as BadUnit, Methodology, NoEvent, NotServed, TooFewDays, ShortList, Source}
use Rattle.settlement.specs.declared.planned.Plan.{Plan}
use Rattle.settlement.specs.Lines.{Terms, trouble, chosen_days, lines_of, reductions}
use Rattle.settlement.specs.Plans.{terms_of}

-- the event with this first place
abbrev pub event_in : Marking → ℕ → Option Event
event_in b first = seek event_key first b.events

abbrev pub count_of : Option Event → ℕ
count_of None = 0
count_of (Some e) = e.count

-- the first place of the lead
abbrev pub lead_place : Option Event → ℕ → ℕ
lead_place None first = first
lead_place (Some l) first = l.first

-- what the settlement of the event at `first` works on: the window is the lead's
abbrev pub terms : Rules → Marking → ℕ → Terms
terms r b first = record {
  intervals = intervals_of b.resolution;
  day = day_in b.resolution first;
  days = selected_days r b (day_in b.resolution first);
  window = window_start b.resolution (lead_place (lead_of b.resolution b.events first) first % intervals_of b.resolution);
  width = window_length b.resolution;
  start = first % intervals_of b.resolution;
  count = count_of (event_in b first);
}

-- no event, a day that is not served, too few days
abbrev pub day_cause : Rules → Marking → ℕ → Option SettleFault
day_cause r b day =
    cond (r.serves (kind_in b day)) (cond (nat_le (r.minimum (kind_in b day)) (length (selected_days r b day))) None (Some (TooFewDays day))) (Some NotServed)

abbrev pub plan_cause : Rules → Marking → ℕ → Option SettleFault
plan_cause r b first = cond (is_some (event_in b first)) (day_cause r b (day_in b.resolution first)) (Some NoEvent)

-- a plan is made of the terms, or there is a cause against it
abbrev pub Planned : Rules → Marking → ℕ → Result Plan SettleFault → Type 0
Planned r b first o = MatchResult o (λ p. (plan_cause r b first ≡ None) × (terms_of p ≡ terms r b first)) (λ e. plan_cause r b first ≡ Some e)

abbrev pub unit_cause : ℕ → ℕ → ℕ → Option SettleFault
unit_cause points u c = cond (unit_fits points u c) None (Some BadUnit)

abbrev pub source_cause : Option SourceFault → Option SettleFault
source_cause None = None
source_cause (Some f) = Some (Source f)

-- the first cause against settling: the unit, the event and its days, the list, the sources
abbrev pub settle_cause : Rules → Marking → ℕ → Readings → ℕ → ℕ → ℕ → ℕ → Option SettleFault
settle_cause r b points at u c first room =
    or_else (unit_cause points u c)
    (or_else (plan_cause r b first)
    (or_else (cond (nat_le (terms r b first).count room) None (Some ShortList))
    (source_cause (trouble (unit_meters at u c) (terms r b first)))))

-- the lines of the event
abbrev pub settled_lines : Rules → Marking → Readings → ℕ → ℕ → ℕ → List Line
settled_lines r b at u c first = lines_of (unit_meters at u c) r.baseline (terms r b first)

-- what settling makes of a list of lines, with the answer o
abbrev pub Settled : Rules → Marking → ℕ → Readings → ℕ → ℕ → ℕ → List Line → List Line → Result Settlement SettleFault → Type 0
Settled r b points at u c first before after o = MatchResult o
    (λ s. (settle_cause r b points at u c first (length before) ≡ None)
    × (after ≡ settled_lines r b at u c first ++ drop (terms r b first).count before)
    × (s.first ≡ first) × (s.count ≡ (terms r b first).count) × (s.days ≡ chosen_days (terms r b first))
    × (s.sum ≡ reductions (settled_lines r b at u c first)))
    (λ e. (settle_cause r b points at u c first (length before) ≡ Some e) × (after ≡ before))

-- the same by the number of a methodology: an unknown one is a cause after the unit
abbrev pub SettledBy : ℕ → Marking → ℕ → Readings → ℕ → ℕ → ℕ → List Line → List Line → Result Settlement SettleFault → Type 0
SettledBy number b points at u c first before after o = MatchResult (known number)
    (λ m. Settled (numbered_rules m) b points at u c first before after o)
    (λ _. MatchResult o (λ _. ⊥) (λ e. (or_else (unit_cause points u c) (Some Methodology) ≡ Some e) × (after ≡ before)))
