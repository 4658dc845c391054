use Rattle.metering.specs.Meters.{meters}
use Rattle.settlement.specs.Plans.{terms_of}
use Rattle.settlement.proofs.Limits.{usable}
use Rattle.settlement.proofs.settling.Settling.new.Goals as goal

pub invariant_of-result : goal.invariant_of-result
invariant_of-result g c =
    let p = c.args.plan in
    record {
      past_is = c.energy_on_days-past.ensures;
      present_is = c.energy_over-present.ensures.is;
      usable = usable (meters g.S.Store.meaning c.args.metered) (terms_of p) c.in_ok-try_sources.ensures p.some_days p.some_width;
    }
