use Rattle.std.proofs.Common.{◌<◌, arith}
use Rattle.std.proofs.lemmas.Bool.Decides.{nat_tests}
use Rattle.register.specs.Held.{held}
use Rattle.sparse.proofs.Changes.{placed_after, fitting}
use Rattle.sparse.proofs.ops.SparseStore.enter.Goals as goal

pub invariant_of-self-clause-placed : goal.invariant_of-self-clause-placed
invariant_of-self-clause-placed c =
    let s = c.args.self.now in
    let within : c.args.place < s.span = grind (arith, nat_tests, c.try_place.ensures, c.in_ok-try_place.was) in
    let fit = fitting s.span c.args.place c.args.reading.energy within c.if-reading-gt-MOST_ENERGY.false in
    placed_after s.span c.args.place _ (held s.readings) (held c.replace.new.self) c.replace.result c.replace.ensures.finds fit s.placed

pub invariant_of-self-2-clause-placed : goal.invariant_of-self-2-clause-placed
invariant_of-self-2-clause-placed c =
    let s = c.args.self.now in
    let q = c.args.place in
    let within : q < s.span = grind (arith, nat_tests, c.try_place.ensures, c.in_ok-try_place.was) in
    let fit = fitting s.span q c.args.reading.energy within c.if-reading-gt-MOST_ENERGY.false in
    let placed = placed_after s.span q _ (held s.readings) (held c.replace.new.self) c.replace.result c.replace.ensures.finds fit s.placed in
    placed_after s.span q _ (held c.replace.new.self) (held c.insert.new.self) c.insert.result c.insert.ensures.finds fit placed
