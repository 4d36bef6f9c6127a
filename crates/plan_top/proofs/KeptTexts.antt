-- A text that is kept is that of the reply to each query from its part to another.
use Rattle.std.proofs.Common.{◌≡◌, ℕ, List, ◌++◌, sym, ap, subst, ◌∙◌, arith}
use Rattle.std.proofs.lemmas.Int.{ints}
use Rattle.plan_spec.specs.Answers.{by_chain}
use Rattle.plan_spec.specs.Segment.{Segment}
use Rattle.plan_cross.specs.declared.certificate.Query as cross
use Rattle.plan_wire.specs.Seen.{query_seen}
use Rattle.plan_scene.specs.Scene.{Scene, scene_seen, IsScene}
use Rattle.plan_reply.specs.Laws.{SameRing}
use Rattle.plan_reply.specs.Rings.{IsClosedPart}
use Rattle.plan_reply.specs.Stand.{IsPart}
use Rattle.plan_top.specs.Plan.{IsReplied, IsPut, IsKept, answer_text}
use Rattle.plan_top.specs.declared.kept.KeptRing.{KeptRing}

module _ (first : Scene) (query : cross.Query) (part : ℕ) (closed : IsClosedPart (scene_seen first) (query_seen query).start (query_seen query).goal part) where
  -- the reply for which it is kept is the reply to this query too
  replied_again : SameRing → IsScene first → (kept : KeptRing) → (k : IsKept first kept) → kept.part ≡ part → IsReplied first (query_seen query) (by_chain k.chain)
  replied_again law scene kept k same = record {
    is_reply = law first scene k.query.start k.query.goal (query_seen query).start (query_seen query).goal k.is_start k.is_goal (omega (arith, ints)) (omega (arith, ints))
        k.chain k.is_replied.lowest k.is_replied.is_reply part closed.other
        (subst (IsPart (scene_seen first) k.query.start) same k.in_part) closed.is_start closed.is_goal closed.differ;
    lowest = k.is_replied.lowest;
  }

  pub put_again : SameRing → IsScene first → (kept : KeptRing) → IsKept first kept → kept.part ≡ part → (before after : List ℕ) → after ≡ before ++ kept.text.items → IsPut first (query_seen query) before after
  put_again law scene kept k same before after put = record {
    answer = by_chain k.chain;
    is_replied = replied_again law scene kept k same;
    is_text = put ∙ ap (λ text. before ++ text) k.is_text;
  }

  pub kept_now : (chain : List Segment) → IsReplied first (query_seen query) (by_chain chain) → (kept : KeptRing) → kept.part ≡ part → kept.text.items ≡ answer_text (by_chain chain) → IsKept first kept
  kept_now chain replied kept same is_text = record {
    query = query_seen query;
    is_start = omega (arith, ints);
    is_goal = omega (arith, ints);
    in_part = subst (IsPart (scene_seen first) (query_seen query).start) (sym same) closed.is_start;
    chain = chain;
    is_replied = replied;
    is_text = is_text;
  }
