use Rattle.std.proofs.Common.{◌≡◌, ◌+◌, ◌<◌, true, false, is_some, Some, sym, ap, ◌∙◌, rules}
use Rattle.std.proofs.lemmas.Bool.{not_from_false}
use Rattle.register.specs.Held.{held, capacity}
use Rattle.marks.specs.Events.{well_placed}
use Rattle.marks.specs.Faults.{mark_fault}
use Rattle.marks.specs.Marked.{marking, day_within, some_of, overlapping, event_fault}
use Rattle.marks.proofs.EventMarks.{marked_placed, marked_apart, refused_as}
use Rattle.marks.proofs.Marks.mark_event.Goals as goal

pub invariant_of-self : goal.invariant_of-self
invariant_of-self c =
    let s = c.args.self.now in
    let f = c.args.first in
    let n = c.args.count in
    let there : is_some (day_within (marking s) f) ≡ true = ap is_some (sym c.day_of.ensures) ∙ c.is_none.ensures ∙ not_from_false c.is_none.result c.if-is_none.false in
    let ok : well_placed s.resolution f n ≡ true = sym c.lies_in_day.ensures ∙ c.if-not-lies_in_day.false in
    let meets : f + n < 4294967296 → false ≡ some_of (overlapping f n) (held s.events) = λ q. sym c.if-overlaps.false ∙ c.overlaps.ensures q in
    let ys = held c.insert.new.self in
    record {
      fit = s.fit;
      placed = marked_placed s f n there ok meets (capacity s.events) ys c.insert.result c.insert.ensures.done;
      apart = marked_apart s f n there ok meets (capacity s.events) ys c.insert.result c.insert.ensures.done;
    }

pub returns-in_err-insert-clause-done : goal.returns-in_err-insert-clause-done
returns-in_err-insert-clause-done c =
    let s = c.args.self.now in
    let f = c.args.first in
    let n = c.args.count in
    let there : is_some (day_within (marking s) f) ≡ true = ap is_some (sym c.day_of.ensures) ∙ c.is_none.ensures ∙ not_from_false c.is_none.result c.if-is_none.false in
    let ok : well_placed s.resolution f n ≡ true = sym c.lies_in_day.ensures ∙ c.if-not-lies_in_day.false in
    let meets : f + n < 4294967296 → false ≡ some_of (overlapping f n) (held s.events) = λ q. sym c.if-overlaps.false ∙ c.overlaps.ensures q in
    let e = c.in_err-insert.field-0.0 in
    let why : event_fault (marking s) f n ≡ Some (mark_fault e) = refused_as s f n there ok meets e c.in_err-insert.ensures.done.0 in
    let same : held c.insert.new.self ≡ held s.events = c.in_err-insert.ensures.done.1 in
    search rules
