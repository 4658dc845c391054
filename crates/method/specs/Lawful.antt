-- Every methodology's rules are lawful, by cases. Assumes nothing.
use Rattle.std.specs.Prelude.{◌≤◌}
use Rattle.std.proofs.Common.{arith, lit≤}
use Rattle.std.proofs.lemmas.Int.{ints}
use Rattle.method.specs.Rules.{FromOneToTen, Lawful}
use Rattle.method.specs.Methods.{capped_rules, similar_rules, numbered_rules}
use Rattle.calendar.specs.declared.DayKind.{DayKind}
use Rattle.method.specs.declared.capped.Capped.{Capped}
use Rattle.method.specs.declared.similar.SimilarDays.{SimilarDays}
use Rattle.method.specs.declared.numbered.Numbered.{Numbered}
use Rattle.method.specs.Caps as capped
use Rattle.method.specs.Additive as additive

capped_counts : (s : Capped) (k : DayKind) → FromOneToTen ((capped_rules s).minimum k) ((capped_rules s).wanted k)
capped_counts Capped.AllDays DayKind.Business = (lit≤ tt, lit≤ tt, lit≤ tt)
capped_counts Capped.AllDays DayKind.NonBusiness = (lit≤ tt, lit≤ tt, lit≤ tt)
capped_counts Capped.BusinessDays DayKind.Business = (lit≤ tt, lit≤ tt, lit≤ tt)
capped_counts Capped.BusinessDays DayKind.NonBusiness = (lit≤ tt, lit≤ tt, lit≤ tt)
capped_counts Capped.NonBusinessDays DayKind.Business = (lit≤ tt, lit≤ tt, lit≤ tt)
capped_counts Capped.NonBusinessDays DayKind.NonBusiness = (lit≤ tt, lit≤ tt, lit≤ tt)
capped_counts Capped.Composite DayKind.Business = (lit≤ tt, lit≤ tt, lit≤ tt)
capped_counts Capped.Composite DayKind.NonBusiness = (lit≤ tt, lit≤ tt, lit≤ tt)

capped_tests : (s : Capped) → (1 ≤ (capped_rules s).tests) × ((capped_rules s).tests ≤ 50)
capped_tests Capped.AllDays = (lit≤ tt, lit≤ tt)
capped_tests Capped.BusinessDays = (lit≤ tt, lit≤ tt)
capped_tests Capped.NonBusinessDays = (lit≤ tt, lit≤ tt)
capped_tests Capped.Composite = (lit≤ tt, lit≤ tt)

similar_counts : (s : SimilarDays) (k : DayKind) → FromOneToTen ((similar_rules s).minimum k) ((similar_rules s).wanted k)
similar_counts s DayKind.Business = (lit≤ tt, lit≤ tt, lit≤ tt)
similar_counts s DayKind.NonBusiness = (lit≤ tt, lit≤ tt, lit≤ tt)

pub capped_lawful : (s : Capped) → Lawful (capped_rules s)
capped_lawful s = record {
  counts = capped_counts s;
  tested = capped_tests s;
  within = λ v w a n m h. let b = capped.below v w a n h.days h.interval in (omega (arith, ints), omega (arith, ints));
  rises = λ v w a b n m h k. let q = capped.rises v w a b n h.days k in omega (arith, ints);
}

pub similar_lawful : (s : SimilarDays) → Lawful (similar_rules s)
similar_lawful s = record {
  counts = similar_counts s;
  tested = (lit≤ tt, lit≤ tt);
  within = additive.within;
  rises = additive.rises;
}

pub numbered_lawful : (s : Numbered) → Lawful (numbered_rules s)
numbered_lawful (Numbered.Capped s) = capped_lawful s
numbered_lawful (Numbered.SimilarDays s) = similar_lawful s
