use Rattle.std.proofs.Common.{◌≡◌, take}
use Rattle.choice.proofs.Days.of.Given as goal

abbrev pub invariant-loop-day : goal.invariant-loop-day
invariant-loop-day g l =
    (goal.iterator-loop-day g).can_next l.day-iterator ×
    (goal.iterator-loop-day g).is_finite l.day-iterator ×
    (take l.days.count l.days.days ≡ take g.row.N l.yielded)
