use Rattle.std.proofs.Common.{rules, ◌≡◌, ◌≤◌, ◌^◌, ◌∙◌, ℕ, ℤ, min, length, ap, arith}
use Rattle.std.specs.List.{sum_by}
use Rattle.std.proofs.iter.runs.Sources.{sums}
use Rattle.std.proofs.lemmas.Iterator.{YieldsList-from_slice}
use Rattle.std.proofs.lemmas.Iterator.Adapters.{fits_from_length, at_most_from_yields_List}
use Rattle.report.proofs.Rows.{room, row_length, capped}
use Rattle.report.proofs.row.line_width.Goals as goal

pub sum-requires-clause-fits : goal.sum-requires-clause-fits
sum-requires-clause-fits c =
    let few : length c.columns.result ≤ 6 = search rules in
    fits_from_length _ _ 6 (2 ^ 64) (at_most_from_yields_List (YieldsList-from_slice c.columns.result cc) few) c.map.ensures.closure (omega arith) (λ x r q k. search rules)

pub returns-clause-exact : goal.returns-clause-exact
returns-clause-exact c =
    let s : c.sum.result ≡ sum_by room c.columns.result = search (rules, sums) in
    s ∙ ap (sum_by room) c.columns.ensures ∙ row_length c.args.line.now

pub returns-clause-small : goal.returns-clause-small
returns-clause-small c =
    let six : length c.columns.result ≡ 6 = search rules in
    let s : c.sum.result ≡ sum_by (λ (p : ℤ × ℕ). min (room p) 21) c.columns.result = search (rules, sums) in
    omega (arith, six, s, capped room 21 c.columns.result)
