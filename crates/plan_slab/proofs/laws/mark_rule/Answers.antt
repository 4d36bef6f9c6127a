-- The law that on a line what is uncovered of sloped edges is a mark.
use Rattle.std.proofs.Common.{sym}
use Rattle.plan_slab.proofs.Meets.MarkRule.{sloped_marks}
use Rattle.plan_slab.proofs.laws.mark_rule.Goals as goal

pub returns : goal.returns
returns c = λ sums room pieces σ has k hk z hz e bare some. ((has.slabs.marks k hk).exact z hz (sym e)).0 (sloped_marks has.bound z hz bare some)
