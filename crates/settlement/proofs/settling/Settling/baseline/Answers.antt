use Rattle.std.proofs.Common.{◌≡◌, arith}
use Rattle.std.proofs.lemmas.Int.{ints}
use Rattle.metering.specs.Meters.{meters}
use Rattle.settlement.specs.Lines.{baseline_at}
use Rattle.settlement.specs.Plans.{terms_of}
use Rattle.settlement.proofs.settling.Settling.baseline.Goals as goal

pub returns-in-Some-clause-is : goal.returns-in-Some-clause-is
returns-in-Some-clause-is g c =
    let s = c.args.self.now in
    let e : c.baseline.result ≡ baseline_at (meters g.S.Store.meaning s.metered) (g.M.Methodology.meaning s.method.now).baseline (terms_of s.plan) c.args.interval = let h = c.in-Some.ensures in cc (h.1, h.2, h.3, h.4, h.5, s.past_is, s.present_is, c.days.ensures.is, c.energy_on_days-past.ensures, c.baseline.ensures.value) in
    omega (arith, ints, e)

pub returns-in-None-clause-is : goal.returns-in-None-clause-is
returns-in-None-clause-is g c =
    let s = c.args.self.now in
    let u = s.usable c.args.interval c.requires.0 c.requires.1 in
    absurd (c.in-None.ensures (rw (c.energy_on_days-past.ensures, s.past_is, s.present_is, c.days.ensures.is) u.sound))
