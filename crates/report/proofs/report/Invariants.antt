use Rattle.std.proofs.Common.{take}
use Rattle.report.specs.Texts.{rows_text, Written}
use Rattle.report.proofs.report.Given as goal

abbrev pub invariant-loop-line : goal.invariant-loop-line
invariant-loop-line l = Written l.initial.page (rows_text (take l.line-index l.lines)) l.page
