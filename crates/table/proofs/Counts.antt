-- How many cells are marked: by byte, and against those that are clear. Assumes nothing.
use Rattle.std.proofs.Common.{◌≡◌, ℕ, zero, suc, ◌+◌, ◌-◌, ◌*◌, ◌/◌, ◌%◌, ◌^◌, ◌<◌, ◌≤◌, false, cond, List, length, take, drop, Fits, w8, get_or, sym, refl, ap, ◌∙◌, add-zero, add-one, add-suc, one-add, arith}
use lib.Count.{ones}
use Rattle.std.specs.List.{sum_by, slice_range}
use Rattle.std.proofs.lemmas.List.{get_or-drop, length-drop}
use Rattle.std.proofs.lemmas.List.Sums.{sum_by_more}
use Rattle.std.proofs.lemmas.Bool.Decides.{nat_tests}
use Rattle.table.specs.Presence.{bit, clear, marked}
use Rattle.table.proofs.Bytes.{ones_none, ones_more}

pub clear_le : (xs : List ℕ) (a n : ℕ) → clear xs a n ≤ n
clear_le xs a zero = omega arith
clear_le xs a (suc n) = grind (arith, nat_tests, clear_le xs a n)

pub marked_le : (xs : List ℕ) (n : ℕ) → marked xs n ≤ n
marked_le xs zero = omega arith
marked_le xs (suc n) = grind (arith, nat_tests, marked_le xs n)

-- of n cells from a on, each is clear or marked
clear_marked : (xs : List ℕ) (a n : ℕ) → clear xs a n + marked xs (a + n) ≡ marked xs a + n
clear_marked xs a zero = let e : marked xs (a + 0) ≡ marked xs a = ap (marked xs) (add-zero a) in omega arith
clear_marked xs a (suc n) =
    let e : marked xs (a + suc n) ≡ marked xs (a + n) + cond (bit xs (a + n)) 1 0 = ap (marked xs) (add-suc a n) in
    grind (arith, nat_tests, clear_marked xs a n, e)

pub clear_between : (xs : List ℕ) (a b : ℕ) → a ≤ b → clear xs a (b - a) + marked xs b ≡ marked xs a + (b - a)
clear_between xs a b h = ap (λ v. clear xs a (b - a) + marked xs v) (omega arith) ∙ clear_marked xs a (b - a)

-- the bit r of the byte i is the cell 8 * i + r
bit_digit : (xs : List ℕ) (i r : ℕ) → r < 8 → ◌≡◌ {A = ℕ} (cond (bit xs (8 * i + r)) 1 0) (get_or xs i 0 / 2 ^ r % 2)
bit_digit xs i r h =
    let d : (8 * i + r) / 8 ≡ i = omega arith in
    let m : (8 * i + r) % 8 ≡ r = omega arith in
    grind (arith, nat_tests, d, m)

pub marked_low : (xs : List ℕ) (i r : ℕ) → r ≤ 8 → ones (get_or xs i 0 % 2 ^ r) + marked xs (8 * i) ≡ marked xs (8 * i + r)
marked_low xs i zero h = let e : marked xs (8 * i + 0) ≡ marked xs (8 * i) = ap (marked xs) (add-zero (8 * i)) in omega (arith, ones_none (get_or xs i 0))
marked_low xs i (suc r) h =
    let e : marked xs (8 * i + suc r) ≡ marked xs (8 * i + r) + cond (bit xs (8 * i + r)) 1 0 = ap (marked xs) (add-suc (8 * i) r) in
    let o : ones (get_or xs i 0 % 2 ^ suc r) ≡ get_or xs i 0 / 2 ^ r % 2 + ones (get_or xs i 0 % 2 ^ r) = ap (λ v. ones (get_or xs i 0 % 2 ^ v)) (sym (one-add r)) ∙ ones_more (get_or xs i 0) r in
    omega (arith, marked_low xs i r (omega arith), bit_digit xs i r (omega arith))

-- a whole byte
pub marked_byte : (xs : List ℕ) (i : ℕ) → get_or xs i 0 < 256 → ones (get_or xs i 0) + marked xs (8 * i) ≡ marked xs (8 * (i + 1))
marked_byte xs i h =
    let e : get_or xs i 0 % 2 ^ 8 ≡ get_or xs i 0 = omega arith in
    let f : 8 * i + 8 ≡ 8 * (i + 1) = omega arith in
    ap (λ v. ones v + marked xs (8 * i)) (sym e) ∙ marked_low xs i 8 (omega arith) ∙ ap (marked xs) f

-- n bytes from i on
marked_from : (xs : List ℕ) (i n : ℕ) → i + n ≤ length xs → ((k : ℕ) → Fits w8 (get_or xs k 0)) → sum_by ones (take n (drop i xs)) + marked xs (8 * i) ≡ marked xs (8 * (i + n))
marked_from xs i zero h bytes = let e : marked xs (8 * (i + 0)) ≡ marked xs (8 * i) = ap (λ v. marked xs (8 * v)) (add-zero i) in omega arith
marked_from xs i (suc n) h bytes =
    let more : sum_by ones (take (suc n) (drop i xs)) ≡ sum_by ones (take n (drop i xs)) + ones (get_or (drop i xs) n 0) = ap (λ k. sum_by ones (take k (drop i xs))) (sym (add-one n)) ∙ sum_by_more ones (drop i xs) n 0 (omega (arith, length-drop i xs)) in
    let byte : ones (get_or (drop i xs) n 0) ≡ ones (get_or xs (i + n) 0) = ap ones (get_or-drop i xs n 0) in
    let e : marked xs (8 * (i + suc n)) ≡ marked xs (8 * (i + n + 1)) = ap (λ v. marked xs (8 * v)) (omega arith) in
    omega (arith, marked_from xs i n (omega arith) bytes, marked_byte xs (i + n) (omega (arith, bytes (i + n))))

-- the bytes from i to before j
pub marked_bytes : (xs : List ℕ) (i j : ℕ) → i ≤ j → j ≤ length xs → ((k : ℕ) → Fits w8 (get_or xs k 0)) → sum_by ones (slice_range xs i j) + marked xs (8 * i) ≡ marked xs (8 * j)
marked_bytes xs i j h l bytes = marked_from xs i (j - i) (omega arith) bytes ∙ ap (λ v. marked xs (8 * v)) (omega arith)

-- the same bits have as many clear ones
pub clear_same : (xs ys : List ℕ) (a n : ℕ) → ((r : ℕ) → r < n → bit ys (a + r) ≡ bit xs (a + r)) → clear ys a n ≡ clear xs a n
clear_same xs ys a zero f = refl
clear_same xs ys a (suc n) f = grind (arith, nat_tests, f n, clear_same xs ys a n (λ r l. f r (omega arith)))

-- where only the bit of the cell a + q differs, so does the count
pub clear_moved : (xs ys : List ℕ) (a q : ℕ) → ((k : ℕ) → (k ≡ a + q → ⊥) → bit ys k ≡ bit xs k) → (n : ℕ) → q < n → clear ys a n + cond (bit xs (a + q)) 0 1 ≡ clear xs a n + cond (bit ys (a + q)) 0 1
clear_moved xs ys a q f zero l = absurd (omega arith)
clear_moved xs ys a q f (suc n) l =
    grind (arith, nat_tests, f (a + n), λ (s : n ≡ q). clear_same xs ys a n (λ r m. f (a + r) (λ t. omega arith)), clear_moved xs ys a q f n)

pub clear_all : (xs : List ℕ) (a n : ℕ) → ((r : ℕ) → r < n → bit xs (a + r) ≡ false) → clear xs a n ≡ n
clear_all xs a zero f = refl
clear_all xs a (suc n) f = grind (arith, nat_tests, f n, clear_all xs a n (λ r l. f r (omega arith)))
