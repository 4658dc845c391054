use Rattle.std.proofs.Common.{rules, arith}
use Rattle.std.proofs.lemmas.List.Sorted.{answers_always}
use Rattle.std.proofs.lemmas.Bool.Decides.{nat_tests}
use Rattle.register.specs.Held.{held}
use Rattle.register.proofs.Places.{located, past_last}
use Rattle.register.proofs.Register.locate.Goals as goal

pub returns-in-Some : goal.returns-in-Some
returns-in-Some g c =
    let key = g.R.Record.keyed in
    let facts = c.binary_search_by_key.ensures in
    let by_key = facts.position key (answers_always _ _ _ (λ f a r f' called. search rules)) in
    rw c.records-list.ensures at (located key c.args.key _ (rw c.records-list.ensures c.args.self.now.rising) _ facts.bound by_key)

pub returns-in_default : goal.returns-in_default
returns-in_default g c =
    let s = c.args.self.now in
    let is = rw c.records-list.ensures at c.last.ensures.value in
    rw c.records-list.ensures (past_last g.R.Record.keyed c.args.key (held s) s.rising _ is (λ y e. grind (arith, nat_tests)))

pub returns-in_default-2 : goal.returns-in_default-2
returns-in_default-2 g c =
    let s = c.args.self.now in
    let is = rw c.records-list.ensures at c.last.ensures.value in
    rw c.records-list.ensures (past_last g.R.Record.keyed c.args.key (held s) s.rising _ is (λ y e. grind (arith, nat_tests)))
