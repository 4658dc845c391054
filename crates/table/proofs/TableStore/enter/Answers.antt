use Rattle.std.proofs.Common.{◌≡◌, ◌*◌, ◌/◌, ◌<◌, Some, length, set, length-set, arith, rules}
use Rattle.std.proofs.lemmas.List.{get_or-set_same, get_or-set_other}
use Rattle.table.specs.Grid.{cell_of}
use Rattle.table.proofs.Cells.{set_here, set_other}
use Rattle.table.proofs.Changes.{entered, small_set, small_bits}
use Rattle.table.proofs.TableStore.enter.Goals as goal

pub invariant_of-self-2 : goal.invariant_of-self-2
invariant_of-self-2 c =
    let t = c.args.self.now in
    let n = t.points * t.span in
    let k = c.in_ok-cell.cell in
    let rs = t.readings.now in
    let ps = t.present.now in
    let v = c.args.reading.energy in
    let l : k < n = search rules in
    let h : k < length rs = omega (arith, t.room.0) in
    let s = small_set n rs ps k v t.small c.if-reading-gt-MOST_ENERGY.false h in
    record {
      limits = t.limits;
      room = (simp length-set t.room.0, simp length-set t.room.1);
      small = small_bits n (set rs k v) ps _ k s (omega (arith, get_or-set_same rs k v 0 h, c.if-reading-gt-MOST_ENERGY.false)) (set_other ps k (omega (arith, t.room.1)));
    }

pub returns-clause-entered : goal.returns-clause-entered
returns-clause-entered c =
    let t = c.args.self.now in
    let n = t.points * t.span in
    let k = c.in_ok-cell.cell in
    let rs = t.readings.now in
    let ps = t.present.now in
    let v = c.args.reading in
    let l : k < n = search rules in
    let b : k / 8 < length ps = omega (arith, t.room.1) in
    let e : Some k ≡ cell_of t.points t.span c.args.point c.args.place = search rules in
    entered t.points t.span rs ps c.args.point c.args.place k e (set rs k v.energy) _ (λ j d. get_or-set_other rs k j v.energy 0 d) (set_other ps k b) v c.if-reading-gt-MOST_ENERGY.false (get_or-set_same rs k v.energy 0 (omega (arith, t.room.0))) (set_here ps k b)

pub returns-clause-kept : goal.returns-clause-kept
returns-clause-kept c j d =
    let t = c.args.self.now in
    let k = c.in_ok-cell.cell in
    let l : k < t.points * t.span = search rules in
    (get_or-set_other t.readings.now k j c.args.reading.energy 0 (λ s. omega arith), set_other t.present.now k (omega (arith, t.room.1)) j (λ s. omega arith))
