use Rattle.std.proofs.Common.{◌≡◌, take, None}
use Rattle.metering.specs.Meters.{meters}
use Rattle.metering.specs.Energy.{trouble_at}
use Rattle.metering.specs.Sums.{first_in}
use Rattle.settlement.specs.Lines.{day_sources}
use Rattle.settlement.specs.Plans.{terms_of}
use Rattle.settlement.proofs.planned.Plan.try_sources.Given as goal

abbrev pub invariant-loop-day : goal.invariant-loop-day
invariant-loop-day g l = first_in (λ d. first_in (trouble_at (meters g.S.Store.meaning l.metered)) (day_sources (terms_of l.self) d)) (take l.day-index l.day-items) ≡ None
