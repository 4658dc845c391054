use Rattle.std.proofs.Common.{◌<◌, length, refl, arith}
use Rattle.std.proofs.lemmas.List.{length-take-le}
use Rattle.register.specs.Held.{held, capacity}
use Rattle.register.proofs.Edits.{taken_at, put_done, put_finds, put_order}
use Rattle.register.proofs.Register.insert.Goals as goal

pub returns-in_default-clause-done : goal.returns-in_default-clause-done
returns-in_default-clause-done g c =
    let s = c.args.self.now in
    (taken_at g.R.Record.keyed c.key.result (held s) s.rising c.in_default.field-0 c.in_default.ensures c.args.record c.key.ensures (capacity s), refl {a = held s})

pub invariant_of-self-clause-rising : goal.invariant_of-self-clause-rising
invariant_of-self-clause-rising g c =
    let s = c.args.self.now in
    rw c.put_in.ensures (put_order g.R.Record.keyed c.key.result (held s) s.rising c.in-Err.at c.args.record c.key.ensures c.in-Err.ensures)

pub returns-clause-done : goal.returns-clause-done
returns-clause-done g c =
    let s = c.args.self.now in
    let lt : length (held s) < capacity s = omega (arith, length-take-le s.used s.slots.now s.fits, s.fits, c.if-self.false) in
    rw c.put_in.ensures (put_done g.R.Record.keyed c.key.result (held s) s.rising c.in-Err.at c.args.record c.key.ensures c.in-Err.ensures (capacity s) lt)

pub returns-clause-finds : goal.returns-clause-finds
returns-clause-finds g c =
    let s = c.args.self.now in
    rw c.put_in.ensures (put_finds g.R.Record.keyed c.key.result (held s) s.rising c.in-Err.at c.args.record c.key.ensures c.in-Err.ensures)
