use Rattle.std.proofs.Common.{◌-◌, ◌/◌, arith}
use Rattle.table.proofs.Counts.{marked_le, clear_le, clear_between, marked_bytes}
use Rattle.table.proofs.presence.ones_between.Goals as goal

pub overflow_add-result : goal.overflow_add-result
overflow_add-result c =
    let xs = c.args.present.now in
    let b = c.args.end in
    omega (arith, c.ones.ensures, marked_bytes xs (c.args.first / 8) (b / 8) (omega arith) (omega arith) c.type_inv.present, c.ones_before.ensures, marked_le xs b)

pub overflow_sub-result : goal.overflow_sub-result
overflow_sub-result c =
    let xs = c.args.present.now in
    let a = c.args.first in
    let b = c.args.end in
    omega (arith, c.ones.ensures, marked_bytes xs (a / 8) (b / 8) (omega arith) (omega arith) c.type_inv.present, c.ones_before.ensures, c.ones_before-2.ensures, clear_between xs a b c.requires.0, clear_le xs a (b - a))

pub returns : goal.returns
returns c =
    let xs = c.args.present.now in
    let a = c.args.first in
    let b = c.args.end in
    omega (arith, c.ones.ensures, marked_bytes xs (a / 8) (b / 8) (omega arith) (omega arith) c.type_inv.present, c.ones_before.ensures, c.ones_before-2.ensures, clear_between xs a b c.requires.0, clear_le xs a (b - a))
