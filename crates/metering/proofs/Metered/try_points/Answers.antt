use Rattle.std.proofs.Common.{◌≡◌, ℕ, cond, is_some, Some, None, Err, Option, sym, ap, ◌∙◌, arith}
use Rattle.std.specs.Option.{ok_or}
use Rattle.metering.specs.declared.SourceFault.{SourceFault}
use Rattle.metering.specs.declared.SourceFault.TheVariants.{Missing}
use Rattle.metering.proofs.Runs.{none_between, first_between}
use Rattle.metering.proofs.Trials.{tried_on}
use Rattle.metering.proofs.Metered.try_points.Goals as goal

-- a fault in place of nothing
missed : {T F : Type 0} (o : Option T) (f e : F) → Err e ≡ ok_or o f → cond (is_some o) None (Some f) ≡ Some e
missed None f e h = cc
missed (Some v) f e h = cc

pub returns-in_err-ok_or : goal.returns-in_err-ok_or
returns-in_err-ok_or g c =
    let at = (g.S.Store.meaning c.args.self.now.store.now).at in
    let u = c.args.self.now.unit in
    let q = c.args.place in
    let f : ℕ → Option SourceFault = λ p. cond (is_some (at p q)) None (Some (Missing p q)) in
    let e = c.in_err-ok_or.field-0.0 in
    let h : f c.loop-point.point ≡ Some e = ap (λ o. cond (is_some o) None (Some (Missing c.loop-point.point q))) (sym c.read.ensures) ∙ missed c.read.result _ e c.in_err-ok_or.ensures.value in
    tried_on c.from_residual.result e _ c.from_residual.ensures.1
    (first_between f u.first u.count c.loop-point.point e (omega arith) (omega arith)
    (λ p l b. ap (λ t. cond t None (Some (Missing p q))) (c.loop-point.invariant p l b)) h)

pub returns : goal.returns
returns g c =
    let u = c.args.self.now.unit in
    none_between _ u.first u.count (λ p l b. ap (λ t. cond t None (Some (Missing p c.args.place))) (c.loop-point.invariant p l (omega arith)))
