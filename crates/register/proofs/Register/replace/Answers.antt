use Rattle.std.proofs.Common.{Some, ap, ◌∙◌}
use Rattle.std.proofs.lemmas.List.{get_or-take}
use Rattle.std.proofs.Math.Seq.{take-set-lt}
use Rattle.register.specs.Held.{held}
use Rattle.register.proofs.Shifts.{front_lt}
use Rattle.register.proofs.Edits.{over_done, over_finds, over_order}
use Rattle.register.proofs.Register.replace.Goals as goal

pub invariant_of-self-clause-rising : goal.invariant_of-self-clause-rising
invariant_of-self-clause-rising g c =
    let s = c.args.self.now in
    let x = c.args.record in
    let at = c.in-Ok.at in
    let lt = front_lt s.used s.slots.now at c.in-Ok.ensures.0 in
    rw (take-set-lt s.used s.slots.now at x lt) (over_order g.R.Record.keyed c.key.result (held s) s.rising at c.in-Ok.ensures x c.key.ensures)

pub returns-clause-done : goal.returns-clause-done
returns-clause-done g c =
    let s = c.args.self.now in
    let x = c.args.record in
    let at = c.in-Ok.at in
    let lt = front_lt s.used s.slots.now at c.in-Ok.ensures.0 in
    let d = c.index-self-at.result in
    let done = over_done g.R.Record.keyed c.key.result (held s) s.rising at c.in-Ok.ensures x c.key.ensures d in
    (done.0 ∙ ap Some (get_or-take s.used s.slots.now at d lt), take-set-lt s.used s.slots.now at x lt ∙ done.1)

pub returns-clause-finds : goal.returns-clause-finds
returns-clause-finds g c =
    let s = c.args.self.now in
    let x = c.args.record in
    let at = c.in-Ok.at in
    let lt = front_lt s.used s.slots.now at c.in-Ok.ensures.0 in
    rw (take-set-lt s.used s.slots.now at x lt) (over_finds g.R.Record.keyed c.key.result (held s) s.rising at c.in-Ok.ensures x c.key.ensures)
