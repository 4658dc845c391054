use Rattle.register.specs.Held.{held}
use Rattle.marks.proofs.EventMarks.{lifted_placed, lifted_apart}
use Rattle.marks.proofs.Marks.lift_event.Goals as goal

pub invariant_of-self : goal.invariant_of-self
invariant_of-self c =
    let s = c.args.self.now in
    let ys = held c.remove.new.self in
    record {
      fit = s.fit;
      placed = lifted_placed s c.args.first ys c.remove.result c.remove.ensures.done;
      apart = lifted_apart s c.args.first ys c.remove.result c.remove.ensures.done;
    }
