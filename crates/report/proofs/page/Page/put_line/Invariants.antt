use Rattle.std.proofs.Common.{take}
use Rattle.std.specs.List.{flat_map}
use Rattle.report.specs.Texts.{Written}
use Rattle.report.proofs.Rows.{bytes}
use Rattle.report.proofs.page.Page.put_line.Given as goal

abbrev pub invariant-loop-number : goal.invariant-loop-number
invariant-loop-number l = Written l.initial.self (flat_map bytes (take l.number-index l.number-items)) l.self
