-- Rounds of a demonstration as they are played: the scene, what is still to be drawn, and the counts, before and after.
use Rattle.std.specs.Prelude.{◌≡◌, ℕ, ◌+◌, ◌*◌, ◌≤◌, ◌^◌, List, [], ◌∷◌}
use Rattle.std.specs.List.{AllZip}
use Rattle.plan_spec.specs.Answers.{Answer}
use Rattle.plan_demo.specs.Demo.{edit, after_edit, edits, after_edits, query, queries, after_queries, turns, after_turns}
use Rattle.plan_demo.specs.Draws.{after}
use Rattle.plan_scene.specs.Scene.{Scene}
use Rattle.plan_top.specs.Demo.{Played, AreTurns, scene_after_all, count_end, count_ends, count_answer, count_answers, count_edits, count_replies}
use Rattle.plan_top.specs.Plan.{IsReplied}
use Rattle.plan_top.specs.Session.{End, AreEnds, IsEnd, scene_after}
use Rattle.plan_top.specs.declared.counts.EditCount.{EditCount}
use Rattle.plan_top.specs.declared.counts.ReplyCount.{ReplyCount}
use Rattle.plan_top.specs.declared.demonstration.Demonstration.{Demonstration}

-- ---- how far counts have come
-- n more edits are counted
abbrev pub CountsEdits : ℕ → EditCount → EditCount → Type 0
CountsEdits n c d = d.accepted + d.refused ≡ (c.accepted + c.refused) + n

-- n more replies are counted; a path has fewer than 2^64 points, and a chain fewer than 2^64 segments
pub record CountsReplies (n : ℕ) (c d : ReplyCount) : Type 0 where
  pub count : d.paths + d.chains + d.touching ≡ (c.paths + c.chains + c.touching) + n
  pub points : d.points ≤ c.points + n * 2 ^ 64
  pub segments : d.segments ≤ c.segments + n * 2 ^ 64

-- so many edits, and so many replies, may still be counted
abbrev pub HasRoom : ℕ → ℕ → Demonstration → Type 0
HasRoom m n t =
    (t.edits.accepted + t.edits.refused + m ≤ 1000) × (t.replies.paths + t.replies.chains + t.replies.touching + n ≤ 1000)
    × (t.replies.points + n * 2 ^ 64 ≤ 1000 * 2 ^ 64) × (t.replies.segments + n * 2 ^ 64 ≤ 1000 * 2 ^ 64)

-- ---- steps
pub record HasEdited (old new : Demonstration) : Type 0 where
  pub end : End
  pub is_end : IsEnd old.stand (edit old.draws) end
  pub stand : new.stand ≡ scene_after old.stand end
  pub draws : new.draws ≡ after_edit old.draws
  pub edits : new.edits ≡ count_end old.edits end
  pub replies : new.replies ≡ old.replies

pub record HasAsked (old new : Demonstration) : Type 0 where
  pub answer : Answer
  pub is_reply : IsReplied old.stand (query old.draws) answer
  pub stand : new.stand ≡ old.stand
  pub draws : new.draws ≡ after 4 old.draws
  pub edits : new.edits ≡ old.edits
  pub replies : new.replies ≡ count_answer old.replies answer
  pub counts : CountsReplies 1 old.replies new.replies

-- ---- n of them
pub record HasEditedAll (n : ℕ) (old new : Demonstration) : Type 0 where
  pub ends : List End
  pub are_ends : AreEnds old.stand (edits n old.draws) ends
  pub stand : new.stand ≡ scene_after_all old.stand ends
  pub draws : new.draws ≡ after_edits n old.draws
  pub edits : new.edits ≡ count_ends old.edits ends
  pub counts : CountsEdits n old.edits new.edits
  pub replies : new.replies ≡ old.replies

pub record HasAskedAll (n : ℕ) (old new : Demonstration) : Type 0 where
  pub answers : List Answer
  pub are_answers : AllZip (IsReplied old.stand) (queries n old.draws) answers
  pub stand : new.stand ≡ old.stand
  pub draws : new.draws ≡ after_queries n old.draws
  pub edits : new.edits ≡ old.edits
  pub replies : new.replies ≡ count_answers old.replies answers
  pub counts : CountsReplies n old.replies new.replies

-- the scene after these rounds
abbrev pub scene_after_turns : Scene → List Played → Scene
scene_after_turns s [] = s
scene_after_turns s (p ∷ played) = scene_after_turns (scene_after_all s p.ends) played

-- n rounds
pub record HasPlayed (n : ℕ) (old new : Demonstration) : Type 0 where
  pub played : List Played
  pub are_turns : AreTurns old.stand (turns n old.draws) played
  pub stand : new.stand ≡ scene_after_turns old.stand played
  pub draws : new.draws ≡ after_turns n old.draws
  pub edits : new.edits ≡ count_edits old.edits played
  pub edit_counts : CountsEdits (n * 8) old.edits new.edits
  pub replies : new.replies ≡ count_replies old.replies played
  pub reply_counts : CountsReplies (n * 64) old.replies new.replies
