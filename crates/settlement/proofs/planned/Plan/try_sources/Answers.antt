use Rattle.std.proofs.Common.{◌≡◌, ℕ, ◌<◌, ◌≤◌, [], ◌∷◌, ◌++◌, length, Some, None, Option, sym, ap, ◌∙◌, subst, arith, take_all}
use Rattle.metering.specs.declared.SourceFault.{SourceFault}
use Rattle.metering.specs.Meters.{meters}
use Rattle.metering.specs.Energy.{trouble_at}
use Rattle.metering.specs.Sums.{or_else, first_in}
use Rattle.metering.specs.Trial.{Tried}
use Rattle.metering.proofs.Runs.{first_push}
use Rattle.metering.proofs.Trials.{tried_on}
use Rattle.settlement.specs.Lines.{Terms, day_sources}
use Rattle.settlement.specs.Plans.{terms_of}
use Rattle.settlement.proofs.Sources.{first_take, first_at, first_joined}
use Rattle.settlement.proofs.planned.Plan.try_sources.Goals as goal

pub returns-in_err-try_day : goal.returns-in_err-try_day
returns-in_err-try_day g c =
    let x : Terms = terms_of c.args.self.now in
    let f : ℕ → Option SourceFault = trouble_at (meters g.S.Store.meaning c.args.metered.now) in
    let F : ℕ → Option SourceFault = λ d. first_in f (day_sources x d) in
    let days = c.days-day-items.result.now in
    let e = c.in_err-try_day.field-0.0 in
    let lt : c.loop-day.day-index < length days = omega arith in
    let w : first_in F (days ++ (x.day ∷ [])) ≡ Some e = first_at F days (x.day ∷ []) c.loop-day.day-index 0 e lt c.loop-day.invariant c.in_err-try_day.ensures in
    tried_on c.from_residual.result e _ c.from_residual.ensures.1
    (first_joined f (day_sources x) (x.days ++ (x.day ∷ [])) ∙ ap (λ ds. first_in F (ds ++ (x.day ∷ []))) (sym c.days-day-items.ensures.is) ∙ w)

pub loop-day-preserved : goal.loop-day-preserved
loop-day-preserved g c =
    let x : Terms = terms_of c.args.self.now in
    let f : ℕ → Option SourceFault = trouble_at (meters g.S.Store.meaning c.args.metered.now) in
    let F : ℕ → Option SourceFault = λ d. first_in f (day_sources x d) in
    let days = c.days-day-items.result.now in
    let lt : c.loop-day.day-index < length days = omega arith in
    first_take F days c.loop-day.day-index 0 lt c.loop-day.invariant c.in_ok-try_day.ensures

pub returns : goal.returns
returns g c =
    let x : Terms = terms_of c.args.self.now in
    let f : ℕ → Option SourceFault = trouble_at (meters g.S.Store.meaning c.args.metered.now) in
    let F : ℕ → Option SourceFault = λ d. first_in f (day_sources x d) in
    let days = c.days-day-items.result.now in
    let le : length days ≤ c.loop-day.day-index = omega arith in
    let none : first_in F days ≡ None = ap (first_in F) (sym (take_all c.loop-day.day-index days le)) ∙ c.loop-day.invariant in
    let w : first_in f (day_sources x x.day) ≡ first_in F (days ++ (x.day ∷ [])) = sym (first_push F days x.day ∙ ap (λ o. or_else o (F x.day)) none) in
    let v : first_in F (days ++ (x.day ∷ [])) ≡ first_in F (x.days ++ (x.day ∷ [])) = ap (λ ds. first_in F (ds ++ (x.day ∷ []))) c.days-day-items.ensures.is in
    subst (Tried c.try_day-2.result) (w ∙ v ∙ sym (first_joined f (day_sources x) (x.days ++ (x.day ∷ [])))) c.try_day-2.ensures
