use Rattle.std.proofs.Common.{◌≡◌, ℕ, ◌+◌, ◌<◌, length, ap, arith}
use Rattle.std.proofs.lemmas.Int.{ints}
use Rattle.metering.specs.Meters.{meters}
use Rattle.settlement.specs.declared.Line.{Line}
use Rattle.settlement.specs.Lines.{line_at}
use Rattle.settlement.specs.Plans.{terms_of}
use Rattle.settlement.proofs.Fills.{filled_more, reductions_more}
use Rattle.settlement.proofs.settling.Settling.fill.Goals as goal

pub loop-i-preserved : goal.loop-i-preserved
loop-i-preserved g c =
    let v = c.args.self.now in
    let f : ℕ → Line = line_at (meters g.S.Store.meaning v.metered) (g.M.Methodology.meaning v.method.now).baseline (terms_of v.plan) in
    let s = v.plan.event.first in
    let i = c.loop-i.i in
    let lt : i < length c.args.lines.now = omega arith in
    let is : c.line-line.result ≡ f (s + i) = c.line-line.ensures.is in
    let r : c.line-line.result.reduction ≡ (f (s + i)).reduction = ap (λ (l : Line). l.reduction) is in
    let m = reductions_more f s i in (
      filled_more f s i c.loop-i.lines c.args.lines.now c.line-line.result lt c.loop-i.invariant.0 is,
      omega (arith, ints, r, m, c.loop-i.invariant.1, c.loop-i.invariant.2, c.loop-i.invariant.3, c.line-line.ensures.low, c.line-line.ensures.high, c.from-sum.ensures),
      omega (arith, ints, c.loop-i.invariant.2, c.loop-i.invariant.3, c.line-line.ensures.low, c.line-line.ensures.high, c.from-sum.ensures),
      omega (arith, ints, c.loop-i.invariant.2, c.loop-i.invariant.3, c.line-line.ensures.low, c.line-line.ensures.high, c.from-sum.ensures),
    )
