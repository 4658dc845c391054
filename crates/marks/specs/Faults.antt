-- The number of each cause why a mark is not made or not lifted. Assumes nothing.
use Rattle.refusal.specs.Refusals.{Refusal, plain}
use Rattle.register.specs.declared.RegisterFault.{RegisterFault}
use Rattle.register.specs.declared.RegisterFault.TheVariants as register
use Rattle.marks.specs.declared.MarkFault.{MarkFault}
use Rattle.marks.specs.declared.MarkFault.TheVariants.{DayBeyond, Misplaced, Overlap, Already, Full, Absent, Issued}

-- the number of each cause
abbrev pub mark_refusal : MarkFault → Refusal
mark_refusal DayBeyond = plain 6
mark_refusal Misplaced = plain 7
mark_refusal Overlap = plain 8
mark_refusal Already = plain 9
mark_refusal Full = plain 10
mark_refusal Absent = plain 11
mark_refusal Issued = plain 12

-- how a register's fault is told of a mark
abbrev pub mark_fault : RegisterFault → MarkFault
mark_fault register.Taken = Already
mark_fault register.Full = Full
mark_fault register.Absent = Absent
