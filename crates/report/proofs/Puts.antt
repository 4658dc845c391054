-- Bytes that are put into a buffer one after another. Assumes nothing.
use Rattle.std.proofs.Common.{◌≡◌, ℕ, ◌+◌, ◌<◌, ◌≤◌, List, [], ◌++◌, length, get_or, take, drop, sym, ap, ◌∙◌, subst, append_assoc, arith, length-append, length-drop, drop-drop}
use Rattle.std.specs.List.{flat_map}
use Rattle.std.proofs.lemmas.List.{length-take-le, take_at, drop_at, take_more, flat_map_more}
use Rattle.std.proofs.lemmas.List.Folds.{length-flat_map-take}
use Rattle.report.specs.declared.page.Page.{Page}
use Rattle.report.specs.Texts.{Put, Written}

-- bytes put after others are as if all had been put at once
put_more : {text a mid b last : List ℕ} {at next past : ℕ} → at ≤ length text → Put text at a mid next → Put mid next b last past → Put text at (a ++ b) last past
put_more {text} {a} {mid} {b} {last} {at} {next} {past} h p q =
    let rest = drop (at + length a) text in
    let split : mid ≡ (take at text ++ a) ++ rest = p.whole ∙ sym (append_assoc (take at text) a rest) in
    let long : length (take at text ++ a) ≡ next = length-append (take at text) a ∙ ap (λ k. k + length a) (length-take-le at text h) ∙ sym p.place in
    let front : take next mid ≡ take at text ++ a = ap (take next) split ∙ take_at (take at text ++ a) rest next long in
    let sum : at + length a + length b ≡ at + length (a ++ b) = omega (arith, length-append a b) in
    let back : drop (next + length b) mid ≡ drop (at + length (a ++ b)) text = sym (drop-drop (length b) next mid) ∙ ap (λ ds. drop (length b) (drop next ds)) split ∙ ap (drop (length b)) (drop_at (take at text ++ a) rest next long) ∙ drop-drop (length b) (at + length a) text ∙ ap (λ k. drop k text) sum in
    let far = drop (at + length (a ++ b)) text in
    record {
      whole = q.whole ∙ ap (λ ds. ds ++ (b ++ drop (next + length b) mid)) front ∙ ap (λ ds. (take at text ++ a) ++ (b ++ ds)) back ∙ append_assoc (take at text) a (b ++ far) ∙ ap (λ ds. take at text ++ ds) (sym (append_assoc a b far));
      place = q.place ∙ ap (λ k. k + length b) p.place ∙ sum;
    }

-- bytes written after others are as if all had been written at once
pub written_more : {page mid last : Page} {a b : List ℕ} → page.at ≤ length page.text.now → Written page a mid → Written mid b last → Written page (a ++ b) last
written_more h p q = record { put = put_more h p.put q.put; same = q.same ∙ p.same }

-- after what is written, there is room for what fits with it
pub written_room : {page mid : Page} {a : List ℕ} (b : List ℕ) → page.at + length (a ++ b) ≤ length page.text.now → Written page a mid → mid.at + length b ≤ length mid.text.now
written_room {page} {a = a} b h p =
    let both = length-append a b in
    let low : page.at ≤ length page.text.now = omega arith in
    omega (arith, both, length-take-le page.at page.text.now low, p.put.place, simp (length-append, length-drop) at (ap length p.put.whole))

-- the texts of some values are written one after another
module _ {X : Type 0} (f : X → List ℕ) (xs : List X) (i : ℕ) (d : X) (inside : i < length xs) {page mid : Page} where
  -- after those of the first values, there is room for the next one's
  pub turn_room : page.at + length (flat_map f xs) ≤ length page.text.now → Written page (flat_map f (take i xs)) mid → mid.at + length (f (get_or xs i d)) ≤ length mid.text.now
  turn_room all p =
      let next = f (get_or xs i d) in
      let fits : page.at + length (flat_map f (take i xs) ++ next) ≤ length page.text.now = omega (arith, length-flat_map-take f xs i d inside, length-append (flat_map f (take i xs)) next) in
      written_room next fits p

  -- and that is written after them
  pub turn : {last : Page} → page.at ≤ length page.text.now → Written page (flat_map f (take i xs)) mid → Written mid (f (get_or xs i d)) last → Written page (flat_map f (take (i + 1) xs)) last
  turn {last} h p q =
      let one = flat_map_more f [] (take i xs) (get_or xs i d) ∙ ap (flat_map f) (sym (take_more xs i d inside)) in
      subst (λ ds. Written page ds last) one (written_more h p q)
