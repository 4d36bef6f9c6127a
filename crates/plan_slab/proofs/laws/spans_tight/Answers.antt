-- The law that spans go across their slab and are tight.
use Rattle.std.proofs.Common.{suc}
use Rattle.plan_spec.specs.Slabs.{nothing, line_at, span_at}
use Rattle.plan_slab.proofs.Meets.Tight.{span_across}
use Rattle.plan_slab.proofs.Regions.Cells.{two_lines, span_piece}
use Rattle.plan_slab.proofs.Regions.ExactlyOne.{known_slabs, slab_at}
use Rattle.plan_slab.proofs.laws.spans_tight.Goals as goal

pub returns : goal.returns
returns c = λ sums room pieces σ has k i hk hi. let slab = slab_at (known_slabs has) k hk in let a = span_across (line_at σ k) (line_at σ (suc k)) (span_at σ k i) slab.known (two_lines slab) (slab.spans.each i nothing hi) in (a.points, (span_piece slab i hi).strand.rises, a.from, a.to, a.tight)
