use Rattle.std.proofs.Common.{◌≡◌, ℕ, ◌-◌, not, get_or, Some, None, sym, ap, ◌∙◌, arith}
use Rattle.std.specs.List.{slice_get}
use Rattle.std.proofs.lemmas.Option.{slice_get-get_or}
use Rattle.register.specs.Held.{held}
use Rattle.marks.specs.Marked.{leads}
use Rattle.marks.proofs.EventLists.{leads_first, leads_after}
use Rattle.marks.proofs.Marks.leads.Goals as goal

pub returns-then-rank-eq0 : goal.returns-then-rank-eq0
returns-then-rank-eq0 c h d =
    let s = c.args.self.now in
    let es = held s.events in
    sym (ap (λ k. leads s.resolution es (get_or es k d)) c.if-rank-eq0.true ∙ leads_first s.resolution s.days s.fit.1 es s.events.rising s.placed s.apart d)

pub returns-in_default : goal.returns-in_default
returns-in_default c h d =
    let n = slice_get-get_or (held c.args.self.now.events) c.args.rank d h in
    let g = c.in_default.ensures in
    absurd cc

pub returns-in-Some-get : goal.returns-in-Some-get
returns-in-Some-get c h d =
    let s = c.args.self.now in
    let es = held s.events in
    let a = c.in-Some-get.earlier in
    let b = c.in-Some.later in
    let i = c.args.rank in
    let p : slice_get es (i - 1) ≡ Some a = sym c.get-2.ensures ∙ c.in-Some-get.is in
    let q : slice_get es i ≡ Some b = sym c.get.ensures ∙ c.in-Some.is in
    let t = leads_after s.resolution s.days s.fit.1 es s.events.rising s.placed s.apart i a b d (omega (arith, c.if-rank-eq0.false)) p q in
    ap not (c.follows_closely.ensures t.0 t.1) ∙ sym t.2

pub returns-in-None : goal.returns-in-None
returns-in-None c h d =
    let n = slice_get-get_or (held c.args.self.now.events) (c.args.rank - 1) d (omega arith) in
    let g : slice_get (held c.args.self.now.events) (c.args.rank - 1) ≡ None = sym c.get-2.ensures ∙ c.in-None.is in
    absurd cc
