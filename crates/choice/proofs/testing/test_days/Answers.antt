use Rattle.std.proofs.Common.{rules, tests, ◌∙◌, arith}
use Rattle.std.proofs.lemmas.Iterator.{YieldsList-from_take}
use Rattle.std.proofs.lemmas.Iterator.Consumers.{YieldsList-at, YieldsList-from_filter}
use Rattle.marks.specs.Marked.{marking}
use Rattle.choice.specs.Choice.{latest, testing_day}
use Rattle.choice.proofs.Found.{YieldsList-before, given, all_fit}
use Rattle.choice.proofs.testing.test_days.Goals as goal

pub returns : goal.returns
unfolding latest
returns g c =
    c.of.ensures _ (given (YieldsList-from_take _ (YieldsList-at c.take.ensures.source
    (YieldsList-from_filter _ (testing_day (g.M.Methodology.meaning c.args.method.now) (marking c.args.marks.now))
    (YieldsList-at c.filter.ensures.source (YieldsList-before c.rev.ensures.source)) c.filter.ensures.closure (λ x r q k. search (rules, tests)))) c.take.ensures.count))
    ∙ all_fit 50 _ _ _ (c.from-wanted.ensures ∙ c.test_days.ensures.value) (omega (arith, c.test_days.ensures.bounds))
