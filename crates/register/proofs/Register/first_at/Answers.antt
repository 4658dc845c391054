use Rattle.std.proofs.Common.{ltb, rules}
use Rattle.std.proofs.lemmas.List.Sorted.{IsPartitionPoint-from_clause}
use Rattle.register.proofs.Places.{rising_parts, parted}
use Rattle.register.proofs.Register.first_at.Goals as goal

pub returns-clause-is : goal.returns-clause-is
returns-clause-is g c =
    let key = g.R.Record.keyed in
    let k = c.args.key in
    let facts = c.partition_point.ensures in
    let parts = IsPartitionPoint-from_clause (λ x. ltb (key x) k) _ _ facts.partitioned (rw c.records.ensures (rising_parts key k _ c.args.self.now.rising)) (λ a r f' called. search rules) in
    rw c.records.ensures at (parted key k _ _ facts.bound parts)
