-- Edits, queries and rounds of a demonstration, one more each.
use Rattle.std.proofs.Common.{◌≡◌, ℕ, zero, suc, ◌+◌, ◌*◌, List, [], ◌∷◌, ◌++◌, Ok, Err, refl, sym, ap, subst, ◌∙◌, arith}
use Rattle.std.specs.List.{AllZip}
use Rattle.plan_spec.specs.Answers.{Answer}
use Rattle.plan_wire.specs.Documents.{Query}
use Rattle.plan_demo.specs.Demo.{edit, after_edit, edits, after_edits, query, queries, after_queries, turn, after_turn, turns, after_turns}
use Rattle.plan_demo.specs.Draws.{after}
use Rattle.plan_scene.specs.Scene.{Scene}
use Rattle.plan_top.specs.Demo.{Played, IsTurn, AreTurns, scene_after_all, count_end, count_ends, count_answer, count_answers, count_edits, count_replies}
use Rattle.plan_top.specs.Plan.{IsReplied}
use Rattle.plan_top.specs.Session.{End, AreEnds, IsEnd, scene_after}
use Rattle.plan_top.specs.Demonstration.{CountsEdits, CountsReplies, HasEdited, HasAsked, HasEditedAll, HasAskedAll, HasPlayed, scene_after_turns}
use Rattle.plan_top.specs.declared.counts.EditCount.{EditCount}
use Rattle.plan_top.specs.declared.counts.ReplyCount.{ReplyCount}
use Rattle.plan_top.specs.declared.demonstration.Demonstration.{Demonstration}

up : (n : ℕ) → suc n ≡ n + 1
up n = omega arith

-- ---- edits
ends_more : (n σ : ℕ) (s : Scene) (ends : List End) (end : End) → AreEnds s (edits n σ) ends → IsEnd (scene_after_all s ends) (edit (after_edits n σ)) end → AreEnds s (edits (suc n) σ) (ends ++ end ∷ [])
ends_more zero σ s [] end h k = (k, tt)
ends_more zero σ s (e ∷ ends) end h k = absurd h
ends_more (suc n) σ s [] end h k = absurd h
ends_more (suc n) σ s (e ∷ ends) end h k = (h.0, ends_more n (after_edit σ) (scene_after s e) ends end h.1 k)

scene_more : (s : Scene) (ends : List End) (end : End) → scene_after_all s (ends ++ end ∷ []) ≡ scene_after (scene_after_all s ends) end
scene_more s [] end = refl
scene_more s (e ∷ ends) end = scene_more (scene_after s e) ends end

after_edits_more : (n σ : ℕ) → after_edits (suc n) σ ≡ after_edit (after_edits n σ)
after_edits_more zero σ = refl
after_edits_more (suc n) σ = after_edits_more n (after_edit σ)

count_ends_more : (c : EditCount) (ends : List End) (end : End) → count_ends c (ends ++ end ∷ []) ≡ count_end (count_ends c ends) end
count_ends_more c [] end = refl
count_ends_more c (e ∷ ends) end = count_ends_more (count_end c e) ends end

counts_one : (c : EditCount) (end : End) → CountsEdits 1 c (count_end c end)
counts_one c (Ok scene) = omega arith
counts_one c (Err fault) = omega arith

pub edited_more : (n : ℕ) (a b c : Demonstration) → HasEditedAll n a b → HasEdited b c → HasEditedAll (n + 1) a c
edited_more n a b c h k = subst (λ m. HasEditedAll m a c) (up n) (record {
  ends = h.ends ++ k.end ∷ [];
  are_ends = ends_more n a.draws a.stand h.ends k.end h.are_ends (subst (λ s. IsEnd s (edit (after_edits n a.draws)) k.end) h.stand (subst (λ σ. IsEnd b.stand (edit σ) k.end) h.draws k.is_end));
  stand = k.stand ∙ ap (λ s. scene_after s k.end) h.stand ∙ sym (scene_more a.stand h.ends k.end);
  draws = k.draws ∙ ap after_edit h.draws ∙ sym (after_edits_more n a.draws);
  edits = k.edits ∙ ap (λ e. count_end e k.end) h.edits ∙ sym (count_ends_more a.edits h.ends k.end);
  counts = let before = h.counts in let one = subst (CountsEdits 1 b.edits) (sym k.edits) (counts_one b.edits k.end) in omega arith;
  replies = k.replies ∙ h.replies;
})

-- ---- queries
zip_more : (P : Query → Answer → Type 0) (n σ : ℕ) (answers : List Answer) (a : Answer) → AllZip P (queries n σ) answers → P (query (after_queries n σ)) a → AllZip P (queries (suc n) σ) (answers ++ a ∷ [])
zip_more P zero σ [] a h k = (k, tt)
zip_more P zero σ (b ∷ answers) a h k = absurd h
zip_more P (suc n) σ [] a h k = absurd h
zip_more P (suc n) σ (b ∷ answers) a h k = (h.0, zip_more P n (after 4 σ) answers a h.1 k)

after_queries_more : (n σ : ℕ) → after_queries (suc n) σ ≡ after 4 (after_queries n σ)
after_queries_more zero σ = refl
after_queries_more (suc n) σ = after_queries_more n (after 4 σ)

count_answers_more : (c : ReplyCount) (answers : List Answer) (a : Answer) → count_answers c (answers ++ a ∷ []) ≡ count_answer (count_answers c answers) a
count_answers_more c [] a = refl
count_answers_more c (b ∷ answers) a = count_answers_more (count_answer c b) answers a

counts_both : (m n : ℕ) (a b c : ReplyCount) → CountsReplies m a b → CountsReplies n b c → CountsReplies (m + n) a c
counts_both m n a b c h k = record {
  count = let first = h.count in let then = k.count in omega arith;
  points = let first = h.points in let then = k.points in omega arith;
  segments = let first = h.segments in let then = k.segments in omega arith;
}

pub asked_more : (n : ℕ) (a b c : Demonstration) → HasAskedAll n a b → HasAsked b c → HasAskedAll (n + 1) a c
asked_more n a b c h k = subst (λ m. HasAskedAll m a c) (up n) (record {
  answers = h.answers ++ k.answer ∷ [];
  are_answers = zip_more (IsReplied a.stand) n a.draws h.answers k.answer h.are_answers (subst (λ s. IsReplied s (query (after_queries n a.draws)) k.answer) h.stand (subst (λ σ. IsReplied b.stand (query σ) k.answer) h.draws k.is_reply));
  stand = k.stand ∙ h.stand;
  draws = k.draws ∙ ap (after 4) h.draws ∙ sym (after_queries_more n a.draws);
  edits = k.edits ∙ h.edits;
  replies = k.replies ∙ ap (λ r. count_answer r k.answer) h.replies ∙ sym (count_answers_more a.replies h.answers k.answer);
  counts = subst (λ m. CountsReplies m a.replies c.replies) (sym (up n)) (counts_both n 1 a.replies b.replies c.replies h.counts k.counts);
})

-- ---- rounds
turns_more : (n σ : ℕ) (s : Scene) (played : List Played) (p : Played) → AreTurns s (turns n σ) played → IsTurn (scene_after_turns s played) (turn (after_turns n σ)) p → AreTurns s (turns (suc n) σ) (played ++ p ∷ [])
turns_more zero σ s [] p h k = (k, tt)
turns_more zero σ s (q ∷ played) p h k = absurd h
turns_more (suc n) σ s [] p h k = absurd h
turns_more (suc n) σ s (q ∷ played) p h k = (h.0, turns_more n (after_turn σ) (scene_after_all s q.ends) played p h.1 k)

scene_after_more : (s : Scene) (played : List Played) (p : Played) → scene_after_turns s (played ++ p ∷ []) ≡ scene_after_all (scene_after_turns s played) p.ends
scene_after_more s [] p = refl
scene_after_more s (q ∷ played) p = scene_after_more (scene_after_all s q.ends) played p

after_turns_more : (n σ : ℕ) → after_turns (suc n) σ ≡ after_turn (after_turns n σ)
after_turns_more zero σ = refl
after_turns_more (suc n) σ = after_turns_more n (after_turn σ)

count_edits_more : (c : EditCount) (played : List Played) (p : Played) → count_edits c (played ++ p ∷ []) ≡ count_ends (count_edits c played) p.ends
count_edits_more c [] p = refl
count_edits_more c (q ∷ played) p = count_edits_more (count_ends c q.ends) played p

count_replies_more : (c : ReplyCount) (played : List Played) (p : Played) → count_replies c (played ++ p ∷ []) ≡ count_answers (count_replies c played) p.answers
count_replies_more c [] p = refl
count_replies_more c (q ∷ played) p = count_replies_more (count_answers c q.answers) played p

-- eight edits and then 64 queries are a round
is_turn : (σ : ℕ) (s : Scene) (p : Played) → AreEnds s (edits 8 σ) p.ends → AllZip (IsReplied (scene_after_all s p.ends)) (queries 64 (after_edits 8 σ)) p.answers → IsTurn s (turn σ) p
unfolding turn
is_turn σ s p h k = record { are_ends = h; are_answers = k }

is_after : (σ : ℕ) → after_queries 64 (after_edits 8 σ) ≡ after_turn σ
unfolding after_turn
is_after σ = refl

module _ (n : ℕ) (a b c d : Demonstration) (before : HasPlayed n a b) (edited : HasEditedAll 8 b c) (asked : HasAskedAll 64 c d) where
  abbrev here : Played
  here = record { ends = edited.ends; answers = asked.answers }

  this_turn : IsTurn b.stand (turn b.draws) here
  this_turn = is_turn b.draws b.stand here edited.are_ends
      (subst (λ s. AllZip (IsReplied s) (queries 64 (after_edits 8 b.draws)) asked.answers) edited.stand (subst (λ σ. AllZip (IsReplied c.stand) (queries 64 σ) asked.answers) edited.draws asked.are_answers))

  next_draws : d.draws ≡ after_turn b.draws
  next_draws = asked.draws ∙ ap (after_queries 64) edited.draws ∙ is_after b.draws

  pub played_more : HasPlayed (n + 1) a d
  played_more = subst (λ m. HasPlayed m a d) (up n) (record {
    played = before.played ++ here ∷ [];
    are_turns = turns_more n a.draws a.stand before.played here before.are_turns (subst (λ s. IsTurn s (turn (after_turns n a.draws)) here) before.stand (subst (λ σ. IsTurn b.stand (turn σ) here) before.draws this_turn));
    stand = asked.stand ∙ edited.stand ∙ ap (λ s. scene_after_all s edited.ends) before.stand ∙ sym (scene_after_more a.stand before.played here);
    draws = next_draws ∙ ap after_turn before.draws ∙ sym (after_turns_more n a.draws);
    edits = asked.edits ∙ edited.edits ∙ ap (λ e. count_ends e edited.ends) before.edits ∙ sym (count_edits_more a.edits before.played here);
    edit_counts = let first = before.edit_counts in let then = subst (CountsEdits 8 b.edits) (sym asked.edits) edited.counts in omega arith;
    replies = asked.replies ∙ ap (λ r. count_answers r asked.answers) (edited.replies ∙ before.replies) ∙ sym (count_replies_more a.replies before.played here);
    reply_counts =
        let then = subst (λ r. CountsReplies 64 r d.replies) edited.replies asked.counts in
        let sum : n * 64 + 64 ≡ suc n * 64 = omega arith in
        subst (λ m. CountsReplies m a.replies d.replies) sum (counts_both (n * 64) 64 a.replies b.replies d.replies before.reply_counts then);
  })
