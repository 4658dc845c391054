-- A sum over neighbouring numbers, one more at the end. Assumes nothing.
use Rattle.std.proofs.Common.{◌≡◌, ℕ, zero, suc, ◌+◌, ◌-◌, ◌≤◌, [], ◌∷◌, ◌++◌, sum_by, sym, ap, ◌∙◌, add-zero, arith}
use Rattle.std.specs.List.{range_with_len}
use Rattle.std.proofs.lemmas.List.Sums.{sum_by_push}

counting_suc : (a n b : ℕ) → a + n ≡ b → range_with_len a (suc n) ≡ range_with_len a n ++ (b ∷ [])
counting_suc a zero b e = ap (λ x. x ∷ []) (sym (add-zero a) ∙ e)
counting_suc a (suc n) b e = ap (λ xs. a ∷ xs) (counting_suc (a + 1) n b (omega (arith, e)))

-- the numbers from a up to b, and b
pub sum_more : (f : ℕ → ℕ) (a b : ℕ) → a ≤ b → sum_by f (range_with_len a (b + 1 - a)) ≡ sum_by f (range_with_len a (b - a)) + f b
sum_more f a b h =
    let e : b + 1 - a ≡ suc (b - a) = omega (arith, h) in
    ap (λ n. sum_by f (range_with_len a n)) e ∙ ap (sum_by f) (counting_suc a (b - a) b (omega (arith, h))) ∙ sum_by_push f (range_with_len a (b - a)) b
