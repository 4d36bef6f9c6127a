-- By the map of the stand.
use Rattle.std.proofs.Common.{◌≡◌, length, get_or, sym, subst, ◌∙◌, arith}
use Rattle.std.proofs.lemmas.List.{get_or_default}
use Rattle.plan_exact.proofs.Laws.{linear}
use Rattle.plan_spec.specs.Answers.{by_path, by_chain, IsCanonicalPath, IsCanonicalChain}
use Rattle.plan_spec.specs.Neighbours.{AreNeighbours}
use Rattle.plan_spec.specs.Placement.{IsClear}
use Rattle.plan_spec.specs.Walks.{IsFirstWalk, AreJoined}
use Rattle.plan_grid.specs.Spot.{spot_seen}
use Rattle.plan_scene.specs.Scene.{scene_seen}
use Rattle.plan_slab.specs.Subdivision.{slabs_of, regions_of}
use Rattle.plan_ring.proofs.Alike.AnswerWalks.{walk_within}
use Rattle.plan_reply.specs.Stand.{IsReply}
use Rattle.plan_reply.proofs.Joined.{same_label}
use Rattle.plan_reply.proofs.Longer.{range_points, ends_points}
use Rattle.plan_reply.proofs.Replies.{decomposed, clear_there, path_reply, chain_reply}
use Rattle.plan_reply.proofs.stand.Stand.way.Goals as goal

pub unreachable-requires : goal.unreachable-requires
unreachable-requires c =
    let m = c.self.invariant.is_map in
    let scene = c.self.inside.scene in
    let z = spot_seen c.args.query.start in
    c.in_default.ensures.located m.sums m.room (decomposed scene c.count.ensures.scene m)
    (clear_there scene c.count.ensures.scene m z (omega (arith, linear)) (subst (λ s. IsClear (scene_seen s) z) (sym c.self.view_is) c.requires.start_clear))

pub unreachable-requires-in_default-locate : goal.unreachable-requires-in_default-locate
unreachable-requires-in_default-locate c =
    let m = c.self.invariant.is_map in
    let scene = c.self.inside.scene in
    let z = spot_seen c.args.query.goal in
    c.in_default-locate.ensures.located m.sums m.room (decomposed scene c.count.ensures.scene m)
    (clear_there scene c.count.ensures.scene m z (omega (arith, linear)) (subst (λ s. IsClear (scene_seen s) z) (sym c.self.view_is) c.requires.goal_clear))

pub path_along-requires-clause-regions : goal.path_along-requires-clause-regions
path_along-requires-clause-regions c =
    let map = c.self.inside.map in
    let from = c.in-Some.from.number in
    let to = c.in-Some-locate.to.number in
    let walk = c.in-Some-2.walk.regions.items in
    let first : IsFirstWalk (AreNeighbours (slabs_of map) (regions_of map)) from to walk = rw c.in-Some-2.is at c.in_ok-walk.ensures in
    walk_within (slabs_of map) (regions_of map) from to walk c.in-Some.ensures.number first.is_walk

pub path_along-requires-clause-spots : goal.path_along-requires-clause-spots
path_along-requires-clause-spots c =
    let m = c.self.invariant.is_map in
    let map = c.self.inside.map in
    let from = c.in-Some.from.number in
    let to = c.in-Some-locate.to.number in
    let walk = c.in-Some-2.walk.regions.items in
    let first : IsFirstWalk (AreNeighbours (slabs_of map) (regions_of map)) from to walk = rw c.in-Some-2.is at c.in_ok-walk.ensures in
    λ k d within. ((decomposed c.self.inside.scene c.count.ensures.scene m).spots (get_or walk k d) (walk_within (slabs_of map) (regions_of map) from to walk c.in-Some.ensures.number first.is_walk k d within)).0

pub returns-clause-reply : goal.returns-clause-reply
returns-clause-reply c =
    let m = c.self.invariant.is_map in
    let scene = c.self.inside.scene in
    let map = c.self.inside.map in
    let s = spot_seen c.args.query.start in
    let g = spot_seen c.args.query.goal in
    let d = decomposed scene c.count.ensures.scene m in
    let path = c.in_ok-path_along-in-Some-2.field-0 in
    let first : IsFirstWalk (AreNeighbours (slabs_of map) (regions_of map)) c.in-Some.from.number c.in-Some-locate.to.number c.in-Some-2.walk.regions.items = rw c.in-Some-2.is at c.in_ok-walk.ensures in
    let given : IsCanonicalPath (slabs_of map) (regions_of map) s g path =
    record {
      from = c.in-Some.from.number;
      to = c.in-Some-locate.to.number;
      starts = c.in-Some.ensures.located m.sums m.room d;
      ends = c.in-Some-locate.ensures.located m.sums m.room d;
      walk = c.in-Some-2.walk.regions.items;
      is_first = first;
      is_path = c.in_ok-path_along-in-Some-2.ensures.along;
    } in
    subst (λ t. IsReply (scene_seen t) s g (by_path path)) c.self.view_is
    (path_reply scene c.count.ensures.scene m s g (omega (arith, linear)) (omega (arith, linear)) path (range_points path c.in_ok-path_along-in-Some-2.ensures.in_range)
    (subst (λ t. IsClear (scene_seen t) s) (sym c.self.view_is) c.requires.start_clear) (subst (λ t. IsClear (scene_seen t) g) (sym c.self.view_is) c.requires.goal_clear) given)

pub returns-then-index-clause-reply : goal.returns-then-index-clause-reply
returns-then-index-clause-reply c =
    let stand = c.self.invariant in
    let m = stand.is_map in
    let scene = c.self.inside.scene in
    let map = c.self.inside.map in
    let labels = c.self.inside.labels.items in
    let s = spot_seen c.args.query.start in
    let g = spot_seen c.args.query.goal in
    let d = decomposed scene c.count.ensures.scene m in
    let from = c.in-Some.from.number in
    let to = c.in-Some-locate.to.number in
    let long = stand.are_labels.size in
    let inside = c.in-Some.ensures.number in
    let there = c.in-Some-locate.ensures.number in
    let label_from : c.index.result.now ≡ get_or labels from 0 = c.index.ensures ∙ get_or_default labels from c.index.result.now 0 (omega (arith, inside, long)) in
    let label_to : c.index-2.result.now ≡ get_or labels to 0 = c.index-2.ensures ∙ get_or_default labels to c.index-2.result.now 0 (omega (arith, there, long)) in
    let apart : ¬ (AreJoined (AreNeighbours (slabs_of map) (regions_of map)) from to) = λ j. c.if-index.true (label_from ∙ stand.are_labels.same from to inside there j ∙ sym label_to) in
    let chain = c.in_ok-ring.field-0 in
    let ring = c.in_ok-ring.ensures.ring in
    let given : IsCanonicalChain (slabs_of map) (regions_of map) s g chain =
    record {
      from = from;
      to = to;
      starts = c.in-Some.ensures.located m.sums m.room d;
      ends = c.in-Some-locate.ensures.located m.sums m.room d;
      apart = apart;
      component = ring.component;
      is_component = ring.is_component;
      is_ring = ring.is_ring;
    } in
    subst (λ t. IsReply (scene_seen t) s g (by_chain chain)) c.self.view_is
    (chain_reply scene c.count.ensures.scene m s g (omega (arith, linear)) (omega (arith, linear)) chain (ends_points chain c.in_ok-ring.ensures.in_range)
    (subst (λ t. IsClear (scene_seen t) s) (sym c.self.view_is) c.requires.start_clear) (subst (λ t. IsClear (scene_seen t) g) (sym c.self.view_is) c.requires.goal_clear) given)

pub unreachable-requires-in-None : goal.unreachable-requires-in-None
unreachable-requires-in-None c =
    let stand = c.self.invariant in
    let map = c.self.inside.map in
    let labels = c.self.inside.labels.items in
    let from = c.in-Some.from.number in
    let to = c.in-Some-locate.to.number in
    let long = stand.are_labels.size in
    let inside = c.in-Some.ensures.number in
    let there = c.in-Some-locate.ensures.number in
    let label_from : c.index.result.now ≡ get_or labels from 0 = c.index.ensures ∙ get_or_default labels from c.index.result.now 0 (omega (arith, inside, long)) in
    let label_to : c.index-2.result.now ≡ get_or labels to 0 = c.index-2.ensures ∙ get_or_default labels to c.index-2.result.now 0 (omega (arith, there, long)) in
    let apart : ¬ (AreJoined (AreNeighbours (slabs_of map) (regions_of map)) from to) = rw c.in-None.is at c.in_ok-walk.ensures in
    apart (same_label (slabs_of map) (regions_of map) (length (regions_of map)) labels stand.are_labels from to inside there (sym label_from ∙ c.if-index.false ∙ label_to))
