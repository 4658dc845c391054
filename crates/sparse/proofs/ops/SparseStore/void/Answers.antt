use Rattle.std.proofs.Common.{◌<◌, None, is_ok, sym, ap, ◌∙◌, arith}
use Rattle.std.proofs.lemmas.Bool.Decides.{nat_tests}
use Rattle.register.specs.Held.{held, capacity}
use Rattle.register.proofs.Shifts.{front_within}
use Rattle.sparse.proofs.Changes.{placed_after, fitting_none, voided}
use Rattle.sparse.proofs.ops.SparseStore.void.Goals as goal

pub invariant_of-self-clause-placed : goal.invariant_of-self-clause-placed
invariant_of-self-clause-placed c =
    let s = c.args.self.now in
    placed_after s.span c.args.place None (held s.readings) (held c.remove.new.self) c.remove.result c.remove.ensures.finds (fitting_none s.span c.args.place) s.placed

pub returns : goal.returns
returns c =
    let s = c.args.self.now in
    let r = c.remove.ensures in
    let here : (c.args.point < 1) × (c.args.place < s.span) = grind (arith, nat_tests, c.try_place.ensures, c.in_ok-try_place.was) in
    let ok = sym c.map_err.ensures.variant ∙ ap is_ok c.in_ok-map_err.was in
    voided s.span (capacity s.readings) (capacity c.remove.new.self) (held s.readings) (held c.remove.new.self) c.args.point c.args.place c.remove.result ok here.0 here.1 s.readings.rising (front_within s.readings.used s.readings.slots.now) r.done r.finds r.counts r.room
