-- Records stay in the order of their keys, and what each edit makes of them. Assumes nothing.
use Rattle.std.proofs.Common.{◌≡◌, ℕ, ◌+◌, ◌-◌, ◌<◌, ◌≤◌, cond, ltb, List, length, get_or, set, is_some, Some, None, Option, sym, ap, ◌∙◌, arith}
use Rattle.std.specs.List.{insert, remove}
use Rattle.std.proofs.lemmas.List.Edits.{length-insert, get_or-insert_below, get_or-insert_at, get_or-insert_above, length-remove, get_or-remove_below, get_or-remove_above}
use Rattle.std.proofs.lemmas.List.{get_or-set_same, get_or-set_other, length-set}
use Rattle.std.proofs.lemmas.Bool.{lt-ltb}
use Rattle.register.specs.declared.RegisterFault.{RegisterFault}
use Rattle.register.specs.declared.RegisterFault.TheVariants.{Taken, Full}
use Rattle.register.specs.Rising.{Rising}
use Rattle.register.specs.Order.{spot, seek, refusal}
use Rattle.register.proofs.Places.{spot_within, spot_below, spot_from}
use Rattle.register.proofs.Lookups.{seek_none}

module _ {X : Type 0} (key : X → ℕ) (xs : List X) (x : X) (rise : Rising key xs) (new : seek key (key x) xs ≡ None) where
  abbrev s : ℕ
  s = spot key (key x) xs

  le : s ≤ length xs
  le = spot_within key (key x) xs

  high : (i : ℕ) (d : X) → s ≤ i → i < length xs → key x < key (get_or xs i d)
  high i d h l = let n : key (get_or xs i d) ≡ key x → ⊥ = seek_none key (key x) xs new i d l in omega (arith, spot_from key (key x) xs rise i d h l)

  in_below : (i : ℕ) (d : X) → i < s → key (get_or (insert xs s x) i d) ≡ key (get_or xs i d)
  in_below i d h = ap key (get_or-insert_below xs s x d i h le)

  in_at : (i : ℕ) (d : X) → i ≡ s → key (get_or (insert xs s x) i d) ≡ key x
  in_at i d e = ap (λ j. key (get_or (insert xs s x) j d)) e ∙ ap key (get_or-insert_at xs s x d le)

  in_above : (i : ℕ) (d : X) → s < i → key (get_or (insert xs s x) i d) ≡ key (get_or xs (i - 1) d)
  in_above i d h = let e : i ≡ (i - 1) + 1 = omega arith in ap (λ j. key (get_or (insert xs s x) j d)) e ∙ ap key (get_or-insert_above xs s x d (i - 1) (omega arith) le)

  pub rising_inserted : Rising key (insert xs s x)
  rising_inserted i j d (h, l) =
      let n = length-insert xs s x le in
      let up = λ (a b : ℕ) (m : a < b) (t : b < length xs). rise a b d (m, t) in
      grind (arith, le, in_below i d, in_at i d, in_above i d, in_below j d, in_at j d, in_above j d, up i j, up i (j - 1), up (i - 1) (j - 1), spot_below key (key x) xs i d, high (j - 1) d)

pub rising_removed : {X : Type 0} (key : X → ℕ) (xs : List X) (g : ℕ) → g < length xs → Rising key xs → Rising key (remove xs g)
rising_removed key xs g lt rise i j d (h, l) =
    let n = length-remove xs g lt in
    let below = λ (a : ℕ) (m : a < g). ap key (get_or-remove_below xs g d a m lt) in
    let above = λ (a : ℕ) (m : g ≤ a). ap key (get_or-remove_above xs g d a m lt) in
    let up = λ (a b : ℕ) (m : a < b) (t : b < length xs). rise a b d (m, t) in
    grind (arith, below i, above i, below j, above j, up i j, up i (j + 1), up (i + 1) (j + 1))

pub rising_set : {X : Type 0} (key : X → ℕ) (xs : List X) (x : X) (g : ℕ) → g < length xs → ((d : X) → key (get_or xs g d) ≡ key x) → Rising key xs → Rising key (set xs g x)
rising_set key xs x g lt at rise i j d (h, l) =
    let n = length-set xs g x in
    let here = λ (a : ℕ) (e : a ≡ g). ap (λ b. key (get_or (set xs g x) b d)) e ∙ ap key (get_or-set_same xs g x d lt) ∙ sym (at d) ∙ ap (λ b. key (get_or xs b d)) (sym e) in
    let there = λ (a : ℕ) (e : a ≡ g → ⊥). ap key (get_or-set_other xs g a x d e) in
    let up = λ (a b : ℕ) (m : a < b) (t : b < length xs). rise a b d (m, t) in
    grind (arith, here i, there i, here j, there j, up i j)

-- why an insertion is refused, or that it is not
module _ {X : Type 0} (key : X → ℕ) (cap : ℕ) (xs : List X) (x : X) where
  abbrev answer : Option X → Option RegisterFault
  answer o = cond (is_some o) (Some Taken) (cond (ltb (length xs) cap) None (Some Full))

  pub refused_taken : (y : X) → seek key (key x) xs ≡ Some y → refusal key cap xs x ≡ Some Taken
  refused_taken y e = ap answer e

  pub not_refused : seek key (key x) xs ≡ None → length xs < cap → refusal key cap xs x ≡ None
  not_refused e h = ap answer e ∙ ap (λ b. cond b None (Some Full)) (lt-ltb (length xs) cap h)
