use Rattle.std.proofs.Common.{ℕ, Option, sym, ap, ◌∙◌, arith}
use Rattle.std.specs.List.{range_with_len}
use Rattle.metering.specs.declared.SourceFault.{SourceFault}
use Rattle.metering.specs.Sums.{first_in}
use Rattle.metering.specs.Energy.{trouble_at}
use Rattle.metering.specs.Meters.{meters}
use Rattle.metering.proofs.Runs.{none_between, first_between}
use Rattle.metering.proofs.Trials.{tried_on}
use Rattle.metering.proofs.Metered.try_stretch.Goals as goal

pub returns-in_err-try_place : goal.returns-in_err-try_place
returns-in_err-try_place g c =
    let f : ℕ → Option SourceFault = trouble_at (meters g.S.Store.meaning c.args.self.now) in
    let n : ℕ = c.args.stretch.count in
    let e = c.in_err-try_place.field-0.0 in
    tried_on c.from_residual.result e _ c.from_residual.ensures.1
    (ap (λ s. first_in f (range_with_len s n)) (sym c.place_of-start.ensures.is)
    ∙ first_between f c.place_of-start.result n c.loop-place.place e (omega arith) (omega arith) c.loop-place.invariant c.in_err-try_place.ensures)

pub returns : goal.returns
returns g c =
    let f : ℕ → Option SourceFault = trouble_at (meters g.S.Store.meaning c.args.self.now) in
    let n : ℕ = c.args.stretch.count in
    ap (λ s. first_in f (range_with_len s n)) (sym c.place_of-start.ensures.is)
    ∙ none_between f c.place_of-start.result n (λ q l b. c.loop-place.invariant q l (omega arith))
