-- What a picture says in words.
use Rattle.std.specs.Prelude.{ℕ, nat_eq, List, ◌++◌, length, codes, decimal, if◌then◌else◌}
use Rattle.plan_spec.specs.Answers.{Answer, start_touches, goal_touches, by_path, by_chain}
use Rattle.plan_wire.specs.Documents.{Certificate, path, chain}
use Rattle.plan_check.specs.Fault.{fault_text}
use Rattle.plan_check.specs.declared.verdict.Verdict.{Verdict}
use Rattle.plan_check.specs.declared.verdict.Verdict.TheVariants.{Valid, Invalid}

-- what is touched: 0 is the frame
abbrev pub touched_words : ℕ → List ℕ
touched_words who = if nat_eq who 0 then codes "the frame" else codes "obstacle " ++ decimal who

-- what a path or a chain shows
abbrev pub shown_words : Certificate → List ℕ
shown_words (path points) = codes "a path of " ++ decimal (length points) ++ codes " points, clear all along"
shown_words (chain segments) = codes "odd at the start, even at the goal: no way out"

abbrev pub answer_words : Answer → List ℕ
answer_words (start_touches who) = codes "the start touches " ++ touched_words who
answer_words (goal_touches who) = codes "the goal touches " ++ touched_words who
answer_words (by_path points) = shown_words (path points)
answer_words (by_chain segments) = shown_words (chain segments)

abbrev pub query_words : ℕ → Answer → List ℕ
query_words k answer = codes "query " ++ decimal k ++ codes ": " ++ answer_words answer

abbrev pub verdict_words : Certificate → Verdict → List ℕ
verdict_words certificate Valid = codes "valid: " ++ shown_words certificate
verdict_words certificate (Invalid fault) = codes "invalid: " ++ fault_text fault
