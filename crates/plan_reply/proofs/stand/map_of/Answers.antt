-- The map of the sums, the room and the pieces is the scene's.
use Rattle.std.proofs.Common.{All, subst, sym}
use Rattle.plan_grid.specs.Frame.{frame_seen}
use Rattle.plan_convex.specs.Piece.{sums_seen}
use Rattle.plan_scene.specs.Scene.{scene_seen}
use Rattle.plan_spec.specs.Maps.{IsMapOf}
use Rattle.plan_slab.specs.EventLines.{IsLine}
use Rattle.plan_slab.specs.Subdivision.{slabs_of, regions_of}
use Rattle.plan_reply.proofs.Limits.{lowest_lines, too_large}
use Rattle.plan_reply.proofs.stand.map_of.Goals as goal

pub returns-in-Ok-build_by-clause-map : goal.returns-in-Ok-build_by-clause-map
returns-in-Ok-build_by-clause-map g c =
    subst (λ s. IsMapOf (scene_seen c.args.scene.now) (slabs_of s) (regions_of s)) (sym c.of.ensures) (record {
      sums = sums_seen c.sums-sums.result.now;
      are_sums = c.sums-sums.ensures.sums;
      room = frame_seen c.room-room.result;
      is_room = c.room-room.ensures.room;
      pieces = c.in-Ok.pieces;
      is_boundary = c.in-Ok.ensures;
      lowest = lowest_lines c.in-Ok-build_by.slabs.lines (subst (All IsLine) c.lines.ensures.value c.lines.ensures.each);
      slabs = c.in-Ok-build_by.ensures.slabs.slabs;
      regions = c.in-Ok-build_by.ensures.regions;
    })

pub returns-in-Err-TooManyRegions-clause-many : goal.returns-in-Err-TooManyRegions-clause-many
returns-in-Err-TooManyRegions-clause-many g c =
    λ e. too_large c.args.scene.now c.count.ensures.scene (sums_seen c.sums-sums.result.now) (frame_seen c.room-room.result) c.in-Ok.pieces
    c.sums-sums.ensures.sums c.room-room.ensures.room c.in-Ok.ensures (c.in-Err-TooManyRegions.ensures.many c.in-Err-TooManyRegions.field-0-is)
