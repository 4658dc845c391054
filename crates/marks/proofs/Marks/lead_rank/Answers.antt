use Rattle.std.proofs.Common.{arith}
use Rattle.register.specs.Held.{held}
use Rattle.marks.proofs.EventLists.{leads_first}
use Rattle.marks.proofs.Marks.lead_rank.Goals as goal

pub returns : goal.returns
returns c h =
    let s = c.args.self.now in
    record {
      within = omega arith;
      found = leads_first s.resolution s.days s.fit.1 (held s.events) s.events.rising s.placed s.apart;
      later = λ j d q. c.loop-at.invariant h j d (omega (arith, q.0, c.loop-at-test.false), q.1);
    }
