use Rattle.std.proofs.Common.{◌≡◌, ◌*◌, sym, refl, ap, ◌∙◌, rules}
use Rattle.std.specs.List.{slice_get}
use Rattle.register.specs.Held.{held}
use Rattle.register.specs.Order.{spot}
use Rattle.calendar.specs.Days.{intervals_of}
use Rattle.marks.specs.Keys.{event_key}
use Rattle.marks.proofs.EventLists.{on_day, day_told}
use Rattle.marks.proofs.Marks.is_event_day.Goals as goal

pub returns : goal.returns
returns c =
    let s = c.args.self.now in
    let es = held s.events in
    let i = c.first_at-rank.result in
    let t = c.intervals-intervals.ensures in
    let f = c.from.ensures in
    let m : c.from.result * c.intervals-intervals.result ≡ c.args.day * intervals_of s.resolution = cc in
    let at : i ≡ spot event_key (c.args.day * intervals_of s.resolution) es = c.first_at-rank.ensures.is ∙ ap (λ k. spot event_key k es) m in
    let told : c.is_some_and.result ≡ on_day s.resolution c.args.day (slice_get es i) = search rules in
    told ∙ sym (day_told s.resolution es s.events.rising c.args.day i at (slice_get es i) refl)
