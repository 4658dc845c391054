-- A list that is filled from its front, and the sum of the reductions of its lines. Assumes nothing.
use Rattle.std.proofs.Common.{◌≡◌, ℕ, ◌+◌, ◌<◌, List, [], ◌∷◌, ◌++◌, map, length, get_or, drop, set, ◌+ℤ◌, sym, refl, ap, ◌∙◌, append_assoc}
use Rattle.std.specs.List.{range_with_len}
use Rattle.std.proofs.lemmas.List.FromFn.{length-map-range_with_len, map-range_with_len_more}
use Rattle.std.proofs.lemmas.List.{drop_more, set_at}
use Rattle.std.proofs.lemmas.List.Sums.{fold_push}
use Rattle.settlement.specs.declared.Line.{Line}
use Rattle.settlement.specs.Lines.{reductions}

-- one place more, where x is what belongs there
pub filled_more : {X : Type 0} (f : ℕ → X) (s i : ℕ) (xs was : List X) (x : X) → i < length was → xs ≡ map f (range_with_len s i) ++ drop i was → x ≡ f (s + i) → set xs i x ≡ map f (range_with_len s (i + 1)) ++ drop (i + 1) was
filled_more f s i xs was x lt e is =
    let A = map f (range_with_len s i) in
    let d : drop i was ≡ get_or was i x ∷ drop (i + 1) was = drop_more was i x lt in
    ap (λ l. set l i x) (e ∙ ap (λ r. A ++ r) d)
    ∙ set_at A (get_or was i x) (drop (i + 1) was) x i (length-map-range_with_len f s i)
    ∙ ap (λ y. A ++ (y ∷ drop (i + 1) was)) is
    ∙ sym (append_assoc A (f (s + i) ∷ []) (drop (i + 1) was))
    ∙ ap (λ l. l ++ drop (i + 1) was) (sym (map-range_with_len_more f s i (s + i) refl))

-- one line more
pub reductions_more : (f : ℕ → Line) (s i : ℕ) → reductions (map f (range_with_len s (i + 1))) ≡ reductions (map f (range_with_len s i)) +ℤ (f (s + i)).reduction
reductions_more f s i = ap reductions (map-range_with_len_more f s i (s + i) refl) ∙ fold_push (λ a l. a +ℤ l.reduction) _ (map f (range_with_len s i)) (f (s + i))
