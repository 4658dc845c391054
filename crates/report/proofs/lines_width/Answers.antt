use Rattle.std.proofs.Common.{rules, ◌≡◌, ◌∙◌, sym, min, length, arith}
use Rattle.std.specs.List.{sum_by}
use Rattle.std.proofs.iter.runs.Sources.{sums}
use Rattle.std.proofs.lemmas.List.Concat.{length-flat_map}
use Rattle.settlement.specs.declared.Line.{Line}
use Rattle.report.specs.Texts.{row_text}
use Rattle.report.proofs.Rows.{capped}
use Rattle.report.proofs.lines_width.Goals as goal

pub returns-clause-exact : goal.returns-clause-exact
returns-clause-exact c =
    let s : c.sum.result ≡ sum_by (λ (line : Line). length (row_text line)) c.args.lines.now = search (rules, sums) in
    s ∙ sym (length-flat_map row_text c.args.lines.now)

pub returns-clause-small : goal.returns-clause-small
returns-clause-small c =
    let s : c.sum.result ≡ sum_by (λ (line : Line). min (length (row_text line)) 126) c.args.lines.now = search (rules, sums) in
    omega (arith, s, capped (λ (line : Line). length (row_text line)) 126 c.args.lines.now)
