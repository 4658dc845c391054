-- What a write to one cell does to the grid. Assumes nothing.
use Rattle.std.proofs.Common.{◌≡◌, ℕ, ◌+◌, ◌-◌, ◌*◌, ◌<◌, ◌≤◌, true, false, cond, List, length, get_or, set, is_some, Some, None, Option, sym, refl, ◌∙◌, subst, arith}
use Rattle.std.proofs.lemmas.List.{get_or-set_same, get_or-set_other}
use Rattle.std.proofs.lemmas.Bool.Decides.{nat_tests}
use Rattle.store.specs.Meaning.{Meaning, Changed, Empty, entry_fault, void_fault}
use Rattle.store.specs.declared.Reading.{Reading}
use Rattle.table.specs.Presence.{bit, clear}
use Rattle.table.specs.Grid.{cell_of, grid, reading_at, Small}
use Rattle.table.proofs.Cells.{cell_lt, same_cell}
use Rattle.table.proofs.Counts.{clear_same, clear_moved, clear_all}

-- a cell is that of a place within
cell_found : (n w p q c : ℕ) → Some c ≡ cell_of n w p q → (p < n) × (q < w) × (c ≡ p * w + q)
cell_found n w p q c e = (grind (arith, nat_tests, e), grind (arith, nat_tests, e), grind (arith, nat_tests, e))

-- the cell c of the place q of the point p
module _ (points span : ℕ) (rs ps : List ℕ) (p q c : ℕ) (found : Some c ≡ cell_of points span p q) where
  hp : p < points
  hp = (cell_found points span p q c found).0

  hq : q < span
  hq = (cell_found points span p q c found).1

  hc : c ≡ p * span + q
  hc = (cell_found points span p q c found).2

  abbrev m : Meaning
  m = grid points span rs ps

  -- lists that agree with the table's at every other cell
  module _ (rs' ps' : List ℕ) (reads : (k : ℕ) → (k ≡ c → ⊥) → get_or rs' k 0 ≡ get_or rs k 0) (bits : (k : ℕ) → (k ≡ c → ⊥) → bit ps' k ≡ bit ps k) where
    abbrev m' : Meaning
    m' = grid points span rs' ps'

    counted : clear ps' (p * span) span + cond (bit ps c) 0 1 ≡ clear ps (p * span) span + cond (bit ps' c) 0 1
    counted = subst (λ k. clear ps' (p * span) span + cond (bit ps k) 0 1 ≡ clear ps (p * span) span + cond (bit ps' k) 0 1) (sym hc) (clear_moved ps ps' (p * span) q (λ k n. bits k (λ e. n (e ∙ hc))) span hq)

    elsewhere : (i j : ℕ) → ((i ≡ p) × (j ≡ q) → ⊥) → j < span → reading_at rs' ps' (i * span + j) ≡ reading_at rs ps (i * span + j)
    elsewhere i j d hj =
        let apart : i * span + j ≡ c → ⊥ = λ e. d (same_cell i j p q span hj hq (e ∙ hc)) in
        grind (arith, reads (i * span + j) apart, bits (i * span + j) apart)

    others : (i : ℕ) → (i ≡ p → ⊥) → clear ps' (i * span) span ≡ clear ps (i * span) span
    others i d = clear_same ps ps' (i * span) span (λ r l. bits (i * span + r) (λ e. d (same_cell i r p q span l hq (e ∙ hc)).0))

    changed : (o : Option Reading) (f : ℕ) → reading_at rs' ps' c ≡ o → clear ps' (p * span) span ≡ f → Changed m m' p q o f
    changed o f e n = record {
      points = refl;
      span = refl;
      here = grind (arith, nat_tests, hc, e);
      elsewhere = λ i j d. grind (arith, nat_tests, elsewhere i j d);
      count = grind (arith, nat_tests, n);
      others = λ i d. grind (arith, nat_tests, others i d);
    }

    pub entered : (v : Reading) → v.energy ≤ 5000 → get_or rs' c 0 ≡ v.energy → bit ps' c ≡ true → (entry_fault m p q v ≡ None) × Changed m m' p q (Some v) (m.free p - cond (is_some (m.at p q)) 0 1)
    entered v small e b = (grind (arith, nat_tests, hc, counted, b), changed (Some v) _ (grind (arith, e, b)) (grind (arith, nat_tests, hc, counted, b)))

    pub voided : bit ps c ≡ true → bit ps' c ≡ false → (void_fault m p q ≡ None) × Changed m m' p q None (m.free p + 1)
    voided t b = (grind (arith, nat_tests, hc, t), changed None _ (grind (arith, b)) (grind (arith, nat_tests, counted, t, b)))

-- one more small reading
pub small_set : (n : ℕ) (rs ps : List ℕ) (j v : ℕ) → Small n rs ps → v ≤ 5000 → j < length rs → Small n (set rs j v) ps
small_set n rs ps j v all small h k d = grind (arith, all k d, get_or-set_same rs j v 0 h, get_or-set_other rs j k v 0)

-- bits that differ at a cell with a small reading only
pub small_bits : (n : ℕ) (rs ps ps' : List ℕ) (c : ℕ) → Small n rs ps → get_or rs c 0 ≤ 5000 → ((k : ℕ) → (k ≡ c → ⊥) → bit ps' k ≡ bit ps k) → Small n rs ps'
small_bits n rs ps ps' c all small bits k d = grind (arith, nat_tests, all k, bits k, d.0, d.1)

-- a grid whose cells are all clear
pub empty : (n w : ℕ) (rs ps : List ℕ) → ((k : ℕ) → k < n * w → bit ps k ≡ false) → Empty n w w (grid n w rs ps)
empty n w rs ps none = record {
  points = refl;
  span = refl;
  none = λ p q. grind (arith, nat_tests, none (p * w + q), cell_lt p q n w);
  all = λ p. grind (arith, nat_tests, λ (h : p < n). clear_all ps (p * w) w (λ r l. none (p * w + r) (cell_lt p r n w h l)));
}
