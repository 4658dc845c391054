-- The plan of a settlement, as its terms. Assumes nothing.
use Rattle.calendar.specs.Days.{intervals_of}
use Rattle.choice.specs.Choice.{days_of}
use Rattle.settlement.specs.declared.planned.Plan.{Plan}
use Rattle.settlement.specs.Lines.{Terms}

abbrev pub terms_of : Plan → Terms
terms_of p = record {
  intervals = intervals_of p.resolution;
  day = p.day;
  days = days_of p.selected;
  window = p.window.first;
  width = p.window.count;
  start = p.event.first;
  count = p.event.count;
}
