-- What an insertion, a removal and a replacement at the place that a search gives make of rising records. Assumes nothing.
use Rattle.std.proofs.Common.{◌≡◌, ℕ, ◌<◌, cond, eqb, List, length, get_or, set, Some, None, Ok, Err, sym, ap, ◌∙◌, subst}
use Rattle.std.specs.List.{insert, remove}
use Rattle.register.specs.declared.RegisterFault.TheVariants.{Taken}
use Rattle.register.specs.Rising.{Rising}
use Rattle.register.specs.Order.{spot, seek, refusal, Located}
use Rattle.register.proofs.Lookups.{sole, seek_at, seek_inserted, seek_removed, seek_set}
use Rattle.register.proofs.Orders.{rising_inserted, rising_removed, rising_set, refused_taken, not_refused}

module _ {X : Type 0} (key : X → ℕ) (k : ℕ) (xs : List X) (rise : Rising key xs) (at : ℕ) where
  module _ (x : X) (e : k ≡ key x) (gap : Located key k xs (Err at)) where
    put_new : seek key (key x) xs ≡ None
    put_new = ap (λ j. seek key j xs) (sym e) ∙ gap.2

    put_at_spot : insert xs at x ≡ insert xs (spot key (key x) xs) x
    put_at_spot = ap (λ i. insert xs i x) (gap.1 ∙ ap (λ j. spot key j xs) e)

    pub put_done : (cap : ℕ) → length xs < cap → (refusal key cap xs x ≡ None) × (insert xs at x ≡ insert xs (spot key (key x) xs) x)
    put_done cap lt = (not_refused key cap xs x put_new lt, put_at_spot)

    pub put_finds : (j : ℕ) → seek key j (insert xs at x) ≡ cond (eqb j (key x)) (Some x) (seek key j xs)
    put_finds j = seek_inserted key x xs at put_new j

    pub put_order : Rising key (insert xs at x)
    put_order = subst (Rising key) (sym put_at_spot) (rising_inserted key xs x rise put_new)

  module _ (here : Located key k xs (Ok at)) where
    pub taken_at : (x : X) → k ≡ key x → (cap : ℕ) → refusal key cap xs x ≡ Some Taken
    taken_at x e cap = refused_taken key cap xs x (get_or xs at x) (seek_at key (key x) xs rise at x here.0 (here.1 x ∙ e))

    pub out_done : (d : X) → (seek key k xs ≡ Some (get_or xs at d)) × (remove xs at ≡ remove xs (spot key k xs))
    out_done d = (seek_at key k xs rise at d here.0 (here.1 d), ap (remove xs) here.2)

    pub out_finds : (j : ℕ) → seek key j (remove xs at) ≡ cond (eqb j k) None (seek key j xs)
    out_finds j = seek_removed key k xs at (sole key k xs at rise here.0 here.1) j

    pub out_order : Rising key (remove xs at)
    out_order = rising_removed key xs at here.0 rise

    module _ (x : X) (e : k ≡ key x) where
      over_here : (d : X) → key (get_or xs at d) ≡ key x
      over_here d = here.1 d ∙ e

      pub over_done : (d : X) → (seek key (key x) xs ≡ Some (get_or xs at d)) × (set xs at x ≡ set xs (spot key (key x) xs) x)
      over_done d = (seek_at key (key x) xs rise at d here.0 (over_here d), ap (λ i. set xs i x) (here.2 ∙ ap (λ j. spot key j xs) e))

      pub over_finds : (j : ℕ) → seek key j (set xs at x) ≡ cond (eqb j (key x)) (Some x) (seek key j xs)
      over_finds j = seek_set key x xs at (sole key (key x) xs at rise here.0 over_here) j

      pub over_order : Rising key (set xs at x)
      over_order = rising_set key xs x at here.0 over_here rise
