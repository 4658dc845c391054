-- What shifting makes of a list. Assumes nothing.
use Rattle.std.proofs.Common.{◌≡◌, ℕ, suc, ◌+◌, ◌-◌, ◌<◌, ◌≤◌, List, ◌∷◌, ◌++◌, length, take, drop, set, ap, ◌∙◌, arith}
use lib.Seq.{paste}
use Rattle.std.specs.List.{insert, remove}
use Rattle.std.proofs.Math.Seq.{take-set-lt}
use Rattle.std.proofs.lemmas.List.Edits.{take-paste}
use Rattle.std.proofs.lemmas.List.{set_split, drop_at, take-take, drop-take, length-take-le, length-take, length-drop, length-append, take-append-le}

-- what `put_in` writes
pub put_at : {X : Type 0} (xs : List X) (n at : ℕ) (r : X) → at ≤ n → n < length xs → take (n + 1) (set (paste xs (at + 1) (drop at xs) (n - at)) at r) ≡ insert (take n xs) at r
put_at xs n at r h k =
    let F = take (at + 1) xs in
    let M = take (n - at) (drop at xs) in
    let l = paste xs (at + 1) (drop at xs) (n - at) in
    let lf : length F ≡ at + 1 = length-take-le (at + 1) xs (omega arith) in
    let s : n + 1 ≡ at + 1 + (n - at) = omega arith in
    let e1 : take (n + 1) (set l at r) ≡ set (take (n + 1) l) at r = take-set-lt (n + 1) l at r (omega arith) in
    let e2 : take (n + 1) l ≡ F ++ M = ap (λ j. take j l) s ∙ take-paste xs (at + 1) (drop at xs) (n - at) (omega arith) (omega (arith, length-drop at xs)) in
    let e3 : set (F ++ M) at r ≡ take at (F ++ M) ++ (r ∷ drop (suc at) (F ++ M)) = set_split (F ++ M) at r (omega (arith, length-append F M)) in
    let e4 : take at (F ++ M) ≡ take at xs = take-append-le at F M (omega arith) ∙ take-take at (at + 1) xs (omega arith) in
    let e5 : drop (suc at) (F ++ M) ≡ M = drop_at F M (suc at) (omega arith) in
    let e6 : take at (take n xs) ≡ take at xs = take-take at n xs h in
    let t : n ≡ at + (n - at) = omega arith in
    let e7 : drop at (take n xs) ≡ M = ap (λ m. drop at (take m xs)) t ∙ drop-take at (n - at) xs in
    let e8 : take at (F ++ M) ++ (r ∷ drop (suc at) (F ++ M)) ≡ take at (take n xs) ++ (r ∷ drop at (take n xs)) = cc in
    e1 ∙ ap (λ q. set q at r) e2 ∙ e3 ∙ e8

-- what is left of the first n when those after `at` have moved down by one
pub out_at : {X : Type 0} (xs : List X) (n at : ℕ) → at < n → n ≤ length xs → take (n - 1) (paste xs at (drop (at + 1) xs) (n - (at + 1))) ≡ remove (take n xs) at
out_at xs n at h k =
    let m = n - (at + 1) in
    let e1 : n - 1 ≡ at + m = omega arith in
    let e2 : take (at + m) (paste xs at (drop (at + 1) xs) m) ≡ take at xs ++ take m (drop (at + 1) xs) = take-paste xs at (drop (at + 1) xs) m (omega arith) (omega (arith, length-drop (at + 1) xs)) in
    let e3 : take at (take n xs) ≡ take at xs = take-take at n xs (omega arith) in
    let o : suc at ≡ at + 1 = omega arith in
    let s : n ≡ suc at + m = omega arith in
    let e4 : drop (suc at) (take n xs) ≡ take m (drop (at + 1) xs) = ap (λ j. drop (suc at) (take j xs)) s ∙ drop-take (suc at) m xs ∙ ap (λ j. take m (drop j xs)) o in
    let e5 : take at xs ++ take m (drop (at + 1) xs) ≡ take at (take n xs) ++ drop (suc at) (take n xs) = cc in
    ap (λ j. take j (paste xs at (drop (at + 1) xs) m)) e1 ∙ e2 ∙ e5

-- the first n of a list, which may have fewer
pub front_within : {X : Type 0} (n : ℕ) (xs : List X) → length (take n xs) ≤ length xs
front_within n xs = omega (arith, length-take n xs)

pub front_lt : {X : Type 0} (n : ℕ) (xs : List X) (i : ℕ) → i < length (take n xs) → i < n
front_lt n xs i h = omega (arith, length-take n xs)
