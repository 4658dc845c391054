use Rattle.std.proofs.Common.{◌≡◌, ◌+◌, true, false, sym, ap, ◌∙◌, arith}
use Rattle.std.specs.List.{slice_get}
use Rattle.register.specs.Held.{held}
use Rattle.marks.specs.Marked.{starts_before}
use Rattle.marks.proofs.EventLists.{meets_next, meets_none, meets_last}
use Rattle.marks.proofs.Marks.overlaps.Goals as goal

pub returns-then-starts_before : goal.returns-then-starts_before
returns-then-starts_before c h =
    let s = c.args.self.now in
    let es = held s.events in
    let f = c.args.event.first in
    let n = c.args.event.count in
    let i = c.first_at-rank.result in
    let e : c.saturating_add.result ≡ f + n = omega (arith, c.saturating_add.ensures) in
    let t : starts_before (f + n) (slice_get es i) ≡ true = ap (λ p. starts_before p (slice_get es i)) (sym e) ∙ sym c.starts_before.ensures ∙ c.if-starts_before.true in
    sym (meets_next s.resolution s.days s.fit.1 es s.events.rising s.placed s.apart f n i c.first_at-rank.ensures.is t)

pub returns-then-rank-eq0 : goal.returns-then-rank-eq0
returns-then-rank-eq0 c h =
    let s = c.args.self.now in
    let es = held s.events in
    let f = c.args.event.first in
    let n = c.args.event.count in
    let i = c.first_at-rank.result in
    let e : c.saturating_add.result ≡ f + n = omega (arith, c.saturating_add.ensures) in
    let t : starts_before (f + n) (slice_get es i) ≡ false = ap (λ p. starts_before p (slice_get es i)) (sym e) ∙ sym c.starts_before.ensures ∙ c.if-starts_before.false in
    sym (meets_none s.resolution s.days s.fit.1 es s.events.rising s.placed s.apart f n i c.first_at-rank.ensures.is t c.if-rank-eq0.true)

pub returns : goal.returns
returns c h =
    let s = c.args.self.now in
    let es = held s.events in
    let f = c.args.event.first in
    let n = c.args.event.count in
    let i = c.first_at-rank.result in
    let e : c.saturating_add.result ≡ f + n = omega (arith, c.saturating_add.ensures) in
    let t : starts_before (f + n) (slice_get es i) ≡ false = ap (λ p. starts_before p (slice_get es i)) (sym e) ∙ sym c.starts_before.ensures ∙ c.if-starts_before.false in
    c.ends_after.ensures ∙ sym (meets_last s.resolution s.days s.fit.1 es s.events.rising s.placed s.apart f n i c.first_at-rank.ensures.is t (omega (arith, c.if-rank-eq0.false)) c.first_at-rank.ensures.within)
