use Rattle.std.proofs.Common.{ℕ, Option}
use Rattle.calendar.specs.Days.{intervals_of}
use Rattle.metering.specs.declared.SourceFault.{SourceFault}
use Rattle.metering.specs.Meters.{meters}
use Rattle.metering.specs.Energy.{trouble_at, places}
use Rattle.metering.proofs.Trials.{tried_on}
use Rattle.settlement.proofs.Sources.{first_front, tried_rest}
use Rattle.settlement.proofs.planned.Plan.try_day.Goals as goal

pub returns-in_err-try_stretch : goal.returns-in_err-try_stretch
returns-in_err-try_stretch g c =
    let p = c.args.self.now in
    let f : ℕ → Option SourceFault = trouble_at (meters g.S.Store.meaning c.args.metered.now) in
    let t = intervals_of p.resolution in
    let e = c.in_err-try_stretch.field-0.0 in
    tried_on c.from_residual.result e _ c.from_residual.ensures.1
    (first_front f (places t c.args.day p.window.first p.window.count) (places t c.args.day p.event.first p.event.count) e c.in_err-try_stretch.ensures)

pub returns : goal.returns
returns g c =
    let p = c.args.self.now in
    let f : ℕ → Option SourceFault = trouble_at (meters g.S.Store.meaning c.args.metered.now) in
    let t = intervals_of p.resolution in
    tried_rest f c.try_stretch-2.result (places t c.args.day p.window.first p.window.count) (places t c.args.day p.event.first p.event.count) c.in_ok-try_stretch.ensures c.try_stretch-2.ensures
