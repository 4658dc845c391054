use Rattle.std.proofs.Common.{◌-◌, Some, take, ap, ◌∙◌}
use Rattle.std.proofs.lemmas.List.{get_or-take}
use Rattle.register.specs.Held.{held}
use Rattle.register.proofs.Shifts.{front_lt, out_at}
use Rattle.register.proofs.Edits.{out_done, out_finds, out_order}
use Rattle.register.proofs.Register.remove.Goals as goal

pub invariant_of-self-clause-rising : goal.invariant_of-self-clause-rising
invariant_of-self-clause-rising g c =
    let s = c.args.self.now in
    let at = c.in-Ok.at in
    let lt = front_lt s.used s.slots.now at c.in-Ok.ensures.0 in
    let left = ap (take (s.used - 1)) c.copy_within.ensures.after ∙ out_at s.slots.now s.used at lt s.fits in
    rw left (out_order g.R.Record.keyed c.args.key (held s) s.rising at c.in-Ok.ensures)

pub returns-clause-done : goal.returns-clause-done
returns-clause-done g c =
    let s = c.args.self.now in
    let at = c.in-Ok.at in
    let lt = front_lt s.used s.slots.now at c.in-Ok.ensures.0 in
    let left = ap (take (s.used - 1)) c.copy_within.ensures.after ∙ out_at s.slots.now s.used at lt s.fits in
    let d = c.index-self-at.result in
    let done = out_done g.R.Record.keyed c.args.key (held s) s.rising at c.in-Ok.ensures d in
    (done.0 ∙ ap Some (get_or-take s.used s.slots.now at d lt), left ∙ done.1)

pub returns-clause-finds : goal.returns-clause-finds
returns-clause-finds g c =
    let s = c.args.self.now in
    let at = c.in-Ok.at in
    let lt = front_lt s.used s.slots.now at c.in-Ok.ensures.0 in
    let left = ap (take (s.used - 1)) c.copy_within.ensures.after ∙ out_at s.slots.now s.used at lt s.fits in
    rw left (out_finds g.R.Record.keyed c.args.key (held s) s.rising at c.in-Ok.ensures)
