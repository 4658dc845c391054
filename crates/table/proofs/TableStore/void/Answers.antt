use Rattle.std.proofs.Common.{◌≡◌, ◌*◌, ◌/◌, ◌<◌, Some, true, length, length-set, sym, refl, arith, rules}
use Rattle.table.specs.Presence.{bit}
use Rattle.table.specs.Grid.{cell_of}
use Rattle.table.proofs.Cells.{unset_here, unset_other}
use Rattle.table.proofs.Changes.{voided, small_bits}
use Rattle.table.proofs.TableStore.void.Goals as goal

pub invariant_of-self : goal.invariant_of-self
invariant_of-self c =
    let t = c.args.self.now in
    let n = t.points * t.span in
    let k = c.in_ok-cell.cell in
    let ps = t.present.now in
    let l : k < n = search rules in
    record {
      limits = t.limits;
      room = (t.room.0, simp length-set t.room.1);
      small = small_bits n t.readings.now ps _ k t.small (t.small k (l, sym c.if-not-is_present.ensures)) (unset_other ps k (omega (arith, t.room.1)));
    }

pub returns-clause-voided : goal.returns-clause-voided
returns-clause-voided c =
    let t = c.args.self.now in
    let k = c.in_ok-cell.cell in
    let ps = t.present.now in
    let there : bit ps k ≡ true = sym c.if-not-is_present.ensures in
    let l : k < t.points * t.span = search rules in
    let b : k / 8 < length ps = omega (arith, t.room.1) in
    let e : Some k ≡ cell_of t.points t.span c.args.point c.args.place = search rules in
    voided t.points t.span t.readings.now ps c.args.point c.args.place k e t.readings.now _ (λ j d. refl) (unset_other ps k b) there (unset_here ps k b there)

pub returns-clause-kept : goal.returns-clause-kept
returns-clause-kept c j d =
    let t = c.args.self.now in
    let k = c.in_ok-cell.cell in
    let l : k < t.points * t.span = search rules in
    (refl, unset_other t.present.now k (omega (arith, t.room.1)) j (λ s. omega arith))
