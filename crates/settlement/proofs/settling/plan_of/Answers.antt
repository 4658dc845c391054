use Rattle.std.proofs.Common.{◌≡◌, ℕ, ◌%◌, ◌≤◌, true, length, is_some, Some, None, Option, sym, ap, ◌∙◌, subst, arith}
use Rattle.calendar.specs.Days.{intervals_of, window_start, window_length}
use Rattle.marks.specs.declared.Marks.{Marks}
use Rattle.marks.specs.Events.{day_in}
use Rattle.marks.specs.Marked.{marking, kind_in, day_within, lead_of}
use Rattle.settlement.specs.Books.{book_marking}
use Rattle.choice.specs.Choice.{days_of, selected_days}
use Rattle.register.specs.Held.{held}
use Rattle.settlement.specs.Lines.{Terms}
use Rattle.settlement.specs.Settles.{event_in, lead_place, plan_cause, terms}
use Rattle.settlement.proofs.Planning.{no_day, the_day, no_cause, same}
use Rattle.settlement.proofs.Standing.{on_a_day, few_intervals}
use Rattle.settlement.proofs.settling.plan_of.Goals as goal

pub returns-in_err-day : goal.returns-in_err-day
returns-in_err-day g c =
    let b = c.args.book.now in
    let e = c.in_ok-event.event in
    let found : c.event_at.result ≡ Some e = grind arith in
    let s : event_in (book_marking b) c.args.first ≡ Some e = ap (λ (m : Marks). event_in (marking m) c.args.first) (sym c.marks-marks.ensures) ∙ sym (c.event_at.ensures) ∙ found in
    let lt = on_a_day b c.args.first e s in
    let none : c.day_of.result ≡ None = grind arith in
    let n = subst (λ (m : Marks). ◌≡◌ {A = Option ℕ} None (day_within (marking m) c.args.first)) c.marks-marks.ensures (sym none ∙ c.day_of.ensures) in
    absurd (no_day (day_in b.marks.resolution c.args.first) b.marks.days lt n)

pub returns-then-event-gt-MOST_INTERVALS : goal.returns-then-event-gt-MOST_INTERVALS
returns-then-event-gt-MOST_INTERVALS g c =
    let b = c.args.book.now in
    let e = c.in_ok-event.event in
    let found : c.event_at.result ≡ Some e = grind arith in
    let s : event_in (book_marking b) c.args.first ≡ Some e = ap (λ (m : Marks). event_in (marking m) c.args.first) (sym c.marks-marks.ensures) ∙ sym (c.event_at.ensures) ∙ found in
    absurd (omega (arith, few_intervals b c.args.first e s, c.if-event-gt-MOST_INTERVALS.true))

pub returns : goal.returns
returns g c =
    let b = c.args.book.now in
    let f = c.args.first in
    let m = c.marks-marks.result.now in
    let r = g.M.Methodology.meaning c.args.method.now in
    let e = c.in_ok-event.event in
    let found : c.event_at.result ≡ Some e = grind arith in
    let day = c.in_ok-day.day in
    let on_day : c.day_of.result ≡ Some day = grind arith in
    let s : event_in (marking m) f ≡ Some e = sym (c.event_at.ensures) ∙ found in
    let on : day ≡ day_in m.resolution f = the_day (day_in m.resolution f) m.days day (sym on_day ∙ c.day_of.ensures) in
    let k : c.kind_of_day-kind.result ≡ kind_in (marking m) day = c.kind_of_day-kind.ensures in
    let drawn : days_of c.select-selected.result ≡ selected_days r (marking m) day = c.select-selected.ensures in
    let served : r.serves (kind_in (marking m) day) ≡ true = ap r.serves (sym k) ∙ sym c.serves.ensures ∙ c.if-not-serves.false in
    let least : c.minimum.result ≡ r.minimum (kind_in (marking m) day) = c.minimum.ensures.value ∙ ap r.minimum k in
    let enough : r.minimum (kind_in (marking m) day) ≤ length (days_of c.select-selected.result) = omega (arith, least, c.from.ensures, c.if-days-from.false, ap length c.days.ensures.is) in
    let R = c.resolution-resolution.result in
    let q : is_some (event_in (marking m) f) ≡ true = ap is_some s in
    let L = lead_place (lead_of m.resolution (held m.events) f) f in
    let w : c.window-window.result.first ≡ window_start R (L % intervals_of R) = c.window-window.ensures.first ∙ ap (window_start R) (c.interval_of.ensures.is ∙ ap (λ p. p % intervals_of R) (c.lead_place.ensures q)) in
    let z : R ≡ m.resolution = c.resolution-resolution.ensures in
    let D = days_of c.select-selected.result in
    let P : Marks → Type 0 = λ (v : Marks). (plan_cause r (marking v) f ≡ None) × (◌≡◌ {A = Terms} (record { intervals = intervals_of R; day = day; days = D; window = c.window-window.result.first; width = c.window-window.result.count; start = c.interval_of-2.result; count = e.count }) (terms r (marking v) f)) in
    subst P c.marks-marks.ensures (
      no_cause r (marking m) f day e D s on drawn served enough,
      same r (marking m) f day e D s on drawn (intervals_of R) c.window-window.result.first c.window-window.result.count c.interval_of-2.result
          (ap intervals_of z)
          (w ∙ ap (λ x. window_start x (L % intervals_of x)) z)
          (c.window-window.ensures.count ∙ ap window_length z)
          (c.interval_of-2.ensures.is ∙ ap (λ x. f % intervals_of x) z),
    )
