-- The lines of `plan`: one for each query, with its number and its reply, then `end`.
use Rattle.std.specs.Prelude.{◌≡◌, ◌⊎◌, ℕ, suc, List, [], ◌∷◌, ◌++◌, All, Option, codes, decimal}
use Rattle.std.specs.List.{AllZip}
use Rattle.plan_spec.specs.Answers.{Answer, start_touches, goal_touches, by_path, by_chain, IsRight}
use Rattle.plan_spec.specs.Placement as placement
use Rattle.plan_spec.specs.Segment.{Segment}
use Rattle.plan_spec.specs.Vector.{IsPoint}
use Rattle.plan_wire.specs.Documents.{Document, Query, Task, queries, rounds, proof, path, chain}
use Rattle.plan_wire.specs.Stream.{Appends, AppendsPart}
use Rattle.plan_wire.specs.CertificateText.{certificate_text}
use Rattle.plan_scene.specs.Scene.{Scene, scene_seen}
use Rattle.plan_reply.specs.First.{IsFirst}
use Rattle.plan_reply.specs.Stand.{IsReply, IsLowestAnswer, IsPart}
use Rattle.plan_top.specs.Lines.{line}
use Rattle.plan_top.specs.declared.kept.KeptRing.{KeptRing}
use Rattle.plan_top.specs.declared.status.Status.{Status}
use Rattle.plan_top.specs.declared.status.Status.TheVariants.{Done, WriteFault, NoMemory}

-- ---- texts
abbrev pub answer_text : Answer → List ℕ
answer_text (start_touches who) = codes "{\"start\":" ++ decimal who ++ codes "}"
answer_text (goal_touches who) = codes "{\"goal\":" ++ decimal who ++ codes "}"
answer_text (by_path points) = certificate_text (path points)
answer_text (by_chain segments) = certificate_text (chain segments)

abbrev pub query_line : ℕ → Answer → List ℕ
query_line k answer = line (codes "query " ++ decimal k ++ codes " " ++ answer_text answer)

-- the lines of queries from number k on
abbrev pub query_lines : ℕ → List Answer → List ℕ
query_lines k [] = []
query_lines k (answer ∷ answers) = query_line k answer ++ query_lines (suc k) answers

abbrev pub end_line : List ℕ
end_line = line (codes "end")

-- ---- answers
-- the reply to the query in the first scene
pub record IsReplied (first : Scene) (q : Query) (answer : Answer) : Type 0 where
  pub is_reply : IsReply (scene_seen first) q.start q.goal answer
  pub lowest : IsLowestAnswer answer

-- the same; it is right in the scene as it is given
pub record IsAnswered (given : placement.Scene) (first : Scene) (q : Query) (answer : Answer) : Type 0 where
  pub is_reply : IsReply (scene_seen first) q.start q.goal answer
  pub is_right : IsRight given q.start q.goal answer
  pub lowest : IsLowestAnswer answer

-- of the queries the first have these answers, each by P
abbrev pub OnFirst : (Query → Answer → Type 0) → List Query → List Answer → Type 0
OnFirst P qs [] = Unit {0}
OnFirst P [] (answer ∷ answers) = ⊥
OnFirst P (q ∷ qs) (answer ∷ answers) = P q answer × OnFirst P qs answers

-- P of the queries
abbrev pub OnQueries : Task → (List Query → Type 0) → Type 0
OnQueries (queries qs) P = P qs
OnQueries (rounds _) P = ⊥
OnQueries (proof _ _) P = ⊥

-- ---- of a document
-- its first scene is made, and the text has one line for each of its first queries
pub record IsBegun (d : Document) (text : List ℕ) : Type 0 where
  pub given : Scene
  pub is_given : scene_seen given ≡ d.scene
  pub first : Scene
  pub is_first : IsFirst given first
  pub answers : List Answer
  pub are_answers : OnQueries d.task (λ qs. OnFirst (IsAnswered d.scene first) qs answers)
  pub is_text : text ≡ query_lines 1 answers

-- the text has one line for each of its queries, then the last line
pub record IsPlanned (d : Document) (text : List ℕ) : Type 0 where
  pub given : Scene
  pub is_given : scene_seen given ≡ d.scene
  pub first : Scene
  pub is_first : IsFirst given first
  pub answers : List Answer
  pub are_answers : OnQueries d.task (λ qs. AllZip (IsAnswered d.scene first) qs answers)
  pub is_text : text ≡ query_lines 1 answers ++ end_line

-- ---- on the way
-- its first scene is made, and these are its queries
pub record IsReady (d : Document) (first : Scene) (qs : List Query) : Type 0 where
  pub given : Scene
  pub is_given : scene_seen given ≡ d.scene
  pub is_first : IsFirst given first
  pub are_queries : d.task ≡ queries qs

-- the line of the reply to the query that has this number
pub record IsLineOf (first : Scene) (q : Query) (k : ℕ) (text : List ℕ) : Type 0 where
  pub answer : Answer
  pub is_replied : IsReplied first q answer
  pub is_text : text ≡ query_line k answer

-- the text of the reply to the query is put behind the bytes before
pub record IsPut (first : Scene) (q : Query) (before after : List ℕ) : Type 0 where
  pub answer : Answer
  pub is_replied : IsReplied first q answer
  pub is_text : after ≡ before ++ answer_text answer

-- the text is that of a chain that was the reply to a query whose start is in the part
pub record IsKept (first : Scene) (kept : KeptRing) : Type 0 where
  pub query : Query
  pub is_start : IsPoint query.start
  pub is_goal : IsPoint query.goal
  pub in_part : IsPart (scene_seen first) query.start kept.part
  pub chain : List Segment
  pub is_replied : IsReplied first query (by_chain chain)
  pub is_text : kept.text.items ≡ answer_text (by_chain chain)

abbrev pub AreKept : Scene → List KeptRing → Type 0
AreKept first = All (IsKept first)

-- the lines of the replies to the first queries; to all of them, and the last line
abbrev pub AreFirstLines : Scene → List Query → List ℕ → Type 0
AreFirstLines first qs text = (answers : List Answer) × OnFirst (IsReplied first) qs answers × (text ≡ query_lines 1 answers)

abbrev pub AreAllLines : Scene → List Query → List ℕ → Type 0
AreAllLines first qs text = (answers : List Answer) × AllZip (IsReplied first) qs answers × (text ≡ query_lines 1 answers ++ end_line)

-- what the lines of replies did, by status: to the bytes of the sink before and after
abbrev pub RepliesOutcome : Scene → List Query → Option (List ℕ) → Option (List ℕ) → Status → Type 0
RepliesOutcome first qs before after Done = (text : List ℕ) × AreAllLines first qs text × Appends before after text
RepliesOutcome first qs before after WriteFault = (text : List ℕ) × (AreAllLines first qs text ⊎ AreFirstLines first qs text) × AppendsPart before after text
RepliesOutcome first qs before after NoMemory = (text : List ℕ) × AreFirstLines first qs text × Appends before after text
RepliesOutcome first qs before after _ = ⊥
