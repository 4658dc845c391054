-- What a plan is made of is what the terms say. Assumes nothing.
use Rattle.std.proofs.Common.{◌≡◌, ℕ, ◌%◌, ◌<◌, ◌≤◌, Bool, true, false, cond, ltb, leb, List, length, is_some, Some, None, Option, sym, ap, ◌∙◌, subst}
use Rattle.std.proofs.lemmas.Bool.{lt-ltb, le-leb}
use Rattle.calendar.specs.Days.{intervals_of, window_start, window_length}
use Rattle.marks.specs.declared.Event.{Event}
use Rattle.marks.specs.Events.{day_in}
use Rattle.marks.specs.Marked.{Marking, kind_in, lead_of}
use Rattle.method.specs.Rules.{Rules}
use Rattle.choice.specs.Choice.{selected_days}
use Rattle.settlement.specs.declared.SettleFault.TheVariants.{NoEvent, NotServed, TooFewDays}
use Rattle.settlement.specs.Lines.{Terms}
use Rattle.settlement.specs.Settles.{event_in, count_of, lead_place, terms, day_cause, plan_cause}

pub no_day : (a d : ℕ) → a < d → ◌≡◌ {A = Option ℕ} None (cond (ltb a d) (Some a) None) → ⊥
no_day a d h e = let t : cond (ltb a d) (Some a) None ≡ Some a = ap (λ b. cond b (Some a) None) (lt-ltb a d h) in cc

the_day_by : (b : Bool) (a x : ℕ) → Some x ≡ cond b (Some a) None → x ≡ a
the_day_by true a x e = cc
the_day_by false a x e = cc

pub the_day : (a d x : ℕ) → Some x ≡ cond (ltb a d) (Some a) None → x ≡ a
the_day a d x e = the_day_by (ltb a d) a x e

module _ (r : Rules) (b : Marking) (first day : ℕ) (e : Event) (days : List ℕ) (stands : event_in b first ≡ Some e) (on : day ≡ day_in b.resolution first) (drawn : days ≡ selected_days r b day) where
  pub no_cause : r.serves (kind_in b day) ≡ true → r.minimum (kind_in b day) ≤ length days → plan_cause r b first ≡ None
  no_cause served enough =
      let l : leb (r.minimum (kind_in b day)) (length (selected_days r b day)) ≡ true = le-leb _ _ (subst (λ (ds : List ℕ). r.minimum (kind_in b day) ≤ length ds) drawn enough) in
      let k : day_cause r b day ≡ None =
      ap (λ s. cond s (cond (leb (r.minimum (kind_in b day)) (length (selected_days r b day))) None (Some (TooFewDays day))) (Some NotServed)) served
      ∙ ap (λ s. cond s None (Some (TooFewDays day))) l in
      ap (λ o. cond (is_some o) (day_cause r b (day_in b.resolution first)) (Some NoEvent)) stands ∙ ap (day_cause r b) (sym on) ∙ k

  pub same : (i w m s : ℕ) → i ≡ intervals_of b.resolution → w ≡ window_start b.resolution (lead_place (lead_of b.resolution b.events first) first % intervals_of b.resolution) → m ≡ window_length b.resolution → s ≡ first % intervals_of b.resolution →
      ◌≡◌ {A = Terms} (record { intervals = i; day = day; days = days; window = w; width = m; start = s; count = e.count }) (terms r b first)
  same i w m s hi hw hm hs =
      let k : e.count ≡ count_of (event_in b first) = ap count_of (sym stands) in
      let ds : days ≡ selected_days r b (day_in b.resolution first) = drawn ∙ ap (selected_days r b) on in
      cc
