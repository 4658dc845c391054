use Rattle.std.proofs.Common.{◌≡◌, sym, ap, ◌∙◌, subst}
use Rattle.table.specs.Meanings.{table_meaning}
use Rattle.sparse.specs.Meanings.{sparse_meaning}
use Rattle.store.specs.Meaning.{Empty}
use Rattle.nest.proofs.Starts.{fresh}
use Rattle.nest.proofs.layers.through_layers.Goals as goal

pub returns : goal.returns
returns c =
    let below = c.new-store.ensures.below in
    let t : c.new-store.result.below.first.below.now ≡ c.new-table.result = ap (λ p. p.first.below.now) below ∙ ap (λ l. l.below.now) c.new-pair.ensures.first ∙ c.new.ensures in
    let s : c.new-store.result.below.second ≡ c.new-sparse.result = ap (λ p. p.second) below ∙ c.new-pair.ensures.second in
    c.run.ensures (fresh _ _ _ c.new-store.ensures.ahead (subst (λ v. Empty 2 8 8 (table_meaning v)) (sym t) c.new-table.ensures.empty) (subst (λ v. Empty 1 8 3 (sparse_meaning v)) (sym s) c.new-sparse.ensures.empty))
