-- Each byte is put behind those before it.
use Rattle.std.proofs.Common.{◌++◌, ap, ◌∙◌}
use Rattle.std.specs.List.{flat_map}
use Rattle.std.proofs.lemmas.List.{get_or_default}
use Rattle.plan_svg.specs.Shapes.{escaped_byte}
use Rattle.plan_svg.proofs.Puts.{put_next, all_put}
use Rattle.plan_svg.proofs.text.put_escaped.Goals as goal

pub loop-byte-preserved : goal.loop-byte-preserved
loop-byte-preserved c =
    put_next escaped_byte _ c.loop-byte.out.items c.put_byte.new.out.items c.as_bytes-byte-items.result.now c.loop-byte.byte-index _ c.loop-byte-test.true (get_or_default c.as_bytes-byte-items.result.now c.loop-byte.byte-index 0 _ c.loop-byte-test.true) c.in_ok-put_byte.ensures c.loop-byte.invariant

pub returns : goal.returns
returns c =
    all_put escaped_byte _ c.loop-byte.out.items c.as_bytes-byte-items.result.now c.loop-byte.byte-index c.loop-byte-test.false c.loop-byte.invariant
    ∙ ap (λ l. c.args.out.now.items ++ flat_map escaped_byte l) c.as_bytes-byte-items.ensures.value
