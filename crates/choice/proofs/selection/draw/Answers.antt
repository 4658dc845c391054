use Rattle.std.proofs.Common.{rules, tests, ◌∙◌, not, arith, ap}
use Rattle.std.proofs.lemmas.Iterator.{YieldsList-from_take}
use Rattle.std.proofs.lemmas.Iterator.Consumers.{YieldsList-at, YieldsList-from_filter}
use Rattle.marks.specs.Marked.{marking}
use Rattle.choice.specs.Choice.{chosen, matching_day}
use Rattle.choice.proofs.Found.{YieldsList-before, given, all_fit}
use Rattle.choice.proofs.selection.draw.Goals as goal

pub returns : goal.returns
unfolding chosen
returns g c e h =
    let r = g.M.Methodology.meaning c.args.method.now in
    c.of.ensures _ (given (YieldsList-from_take _ (YieldsList-at c.take-2.ensures.source
    (YieldsList-from_filter _ (λ x. not (e x)) (YieldsList-at c.filter-2.ensures.source
    (YieldsList-from_take _ (YieldsList-at c.take.ensures.source
    (YieldsList-from_filter _ (matching_day r (marking c.args.marks.now) c.args.day)
    (YieldsList-at c.filter.ensures.source (YieldsList-before c.rev.ensures.source)) c.filter.ensures.closure (λ x r q k. search (rules, tests, c.kind_of_day-kind.ensures)))) c.take.ensures.count))
    c.filter-2.ensures.closure (λ x r q k. search (rules, tests, h)))) c.take-2.ensures.count))
    ∙ all_fit 10 _ _ _ (c.from-wanted.ensures ∙ c.wanted.ensures.value ∙ ap r.wanted c.kind_of_day-kind.ensures) (omega (arith, c.wanted.ensures.bounds))
