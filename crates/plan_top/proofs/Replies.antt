-- The lines that are written so far, and what one more line makes of them: whole, or cut by a fault of the sink.
use Rattle.std.proofs.Common.{◌≡◌, inl, inr, ℕ, suc, ◌+◌, ◌<◌, ◌≤◌, List, [], ◌∷◌, ◌++◌, length, take, get_or, map, Some, None, refl, sym, ap, subst, ◌∙◌, append_assoc, append-nil, length-append, arith}
use Rattle.std.specs.List.{AllZip}
use Rattle.std.proofs.lemmas.List.{take_at, drop_at, length-map, get_or-map}
use Rattle.plan_spec.specs.Answers.{Answer}
use Rattle.plan_cross.specs.declared.certificate.Query as cross
use Rattle.plan_wire.specs.Documents.{Query}
use Rattle.plan_wire.specs.Seen.{query_seen}
use Rattle.plan_wire.specs.Stream.{Appends, AppendsPart}
use Rattle.plan_wire.proofs.Streams.{appends_more}
use Rattle.plan_scene.specs.Scene.{Scene}
use Rattle.plan_top.specs.Outcome.{Told}
use Rattle.plan_top.specs.Plan.{OnFirst, IsReplied, IsLineOf, RepliesOutcome, query_line, query_lines, end_line}
use Rattle.plan_top.specs.declared.status.Status.TheVariants.{Done, WriteFault}

-- ---- texts that are added one after another
pub appends_both : (before mid after : Told) (xs ys : List ℕ) → Appends before mid xs → Appends mid after ys → Appends before after (xs ++ ys)
appends_both None mid after xs ys first then = rw first at then
appends_both (Some bytes) mid after xs ys first then = rw (← append_assoc) (rw first at then)

pub part_behind : (before mid after : Told) (xs ys : List ℕ) → Appends before mid xs → AppendsPart mid after ys → AppendsPart before after (xs ++ ys)
part_behind before mid after xs ys first (n, within, put) =
    let longer = length-append xs ys in
    (length xs + n, omega arith, appends_more before mid after (xs ++ ys) (length xs) n (subst (Appends before mid) (sym (take_at xs ys (length xs) refl)) first) (subst (λ rest. Appends mid after (take n rest)) (sym (drop_at xs ys (length xs) refl)) put))

-- ---- one answer more
on_first_more : (P : Query → Answer → Type 0) (qs : List Query) (ans : List Answer) (a : Answer) (d : Query) → length ans < length qs → OnFirst P qs ans → P (get_or qs (length ans) d) a → OnFirst P qs (ans ++ a ∷ [])
on_first_more P [] ans a d within h k = absurd (omega arith)
on_first_more P (q ∷ qs) [] a d within h k = (k, tt)
on_first_more P (q ∷ qs) (b ∷ ans) a d within h k = (h.0, on_first_more P qs ans a d (omega arith) h.1 k)

all_of_them : (P : Query → Answer → Type 0) (qs : List Query) (ans : List Answer) → OnFirst P qs ans → length ans ≡ length qs → AllZip P qs ans
all_of_them P [] [] h e = tt
all_of_them P [] (a ∷ ans) h e = h
all_of_them P (q ∷ qs) [] h e = absurd (omega arith)
all_of_them P (q ∷ qs) (a ∷ ans) h e = (h.0, all_of_them P qs ans h.1 (omega arith))

lines_more : (k : ℕ) (ans : List Answer) (a : Answer) → query_lines k (ans ++ a ∷ []) ≡ query_lines k ans ++ query_line (k + length ans) a
lines_more k [] a = append-nil (query_line k a) ∙ ap (λ n. query_line n a) (omega arith)
lines_more k (b ∷ ans) a =
    ap (λ t. query_line k b ++ t) (lines_more (suc k) ans a)
    ∙ sym (append_assoc (query_line k b) (query_lines (suc k) ans) (query_line (suc k + length ans) a))
    ∙ ap (λ n. query_lines k (b ∷ ans) ++ query_line n a) (omega arith)

-- ---- what is written
pub record Written (first : Scene) (qs : List Query) (before after : Told) (at : ℕ) : Type 0 where
  pub answers : List Answer
  pub are_replies : OnFirst (IsReplied first) qs answers
  pub count : length answers ≡ at
  pub appended : Appends before after (query_lines 1 answers)

module _ (first : Scene) (qs : List cross.Query) (before mid after : Told) where
  abbrev asked : List Query
  asked = map query_seen qs

  long : length asked ≡ length qs
  long = length-map qs query_seen

  -- the lines are there for all of them
  abbrev all_there : (at : ℕ) → at ≤ length qs → length qs ≤ at → (w : Written first asked before mid at) → length w.answers ≡ length asked
  all_there at most least w = let count = w.count in omega (arith, long)

  pub all_written : (at : ℕ) → at ≤ length qs → length qs ≤ at → Written first asked before mid at → Appends mid after end_line → RepliesOutcome first asked before after Done
  all_written at most least w put =
      (query_lines 1 w.answers ++ end_line, (w.answers, all_of_them (IsReplied first) asked w.answers w.are_replies (all_there at most least w), refl), appends_both before mid after (query_lines 1 w.answers) end_line w.appended put)

  pub last_cut : (at : ℕ) → at ≤ length qs → length qs ≤ at → Written first asked before mid at → AppendsPart mid after end_line → RepliesOutcome first asked before after WriteFault
  last_cut at most least w put =
      (query_lines 1 w.answers ++ end_line, inl (w.answers, all_of_them (IsReplied first) asked w.answers w.are_replies (all_there at most least w), refl), part_behind before mid after (query_lines 1 w.answers) end_line w.appended put)

  -- the lines with the next one
  next_replies : (at : ℕ) (d : cross.Query) (line : List ℕ) → at < length qs → (w : Written first asked before mid at) → (told : IsLineOf first (query_seen (get_or qs at d)) (at + 1) line) → OnFirst (IsReplied first) asked (w.answers ++ told.answer ∷ [])
  next_replies at d line within w told =
      let count = w.count in
      on_first_more (IsReplied first) asked w.answers told.answer (query_seen d) (omega (arith, long)) w.are_replies
      (subst (λ n. IsReplied first (get_or asked n (query_seen d)) told.answer) (sym count) (subst (λ q. IsReplied first q told.answer) (sym (get_or-map query_seen qs at d (query_seen d) within)) told.is_replied))

  next_lines : (at : ℕ) (q : Query) (line : List ℕ) → (w : Written first asked before mid at) → (told : IsLineOf first q (at + 1) line) → query_lines 1 (w.answers ++ told.answer ∷ []) ≡ query_lines 1 w.answers ++ line
  next_lines at q line w told =
      let count = w.count in
      lines_more 1 w.answers told.answer ∙ ap (λ t. query_lines 1 w.answers ++ t) (ap (λ n. query_line n told.answer) (omega arith) ∙ sym told.is_text)

  pub one_more : (at : ℕ) (d : cross.Query) (line : List ℕ) → at < length qs → Written first asked before mid at → IsLineOf first (query_seen (get_or qs at d)) (at + 1) line → Appends mid after line → Written first asked before after (at + 1)
  one_more at d line within w told put = record {
    answers = w.answers ++ told.answer ∷ [];
    are_replies = next_replies at d line within w told;
    count = let count = w.count in let longer = length-append w.answers (told.answer ∷ []) in omega arith;
    appended = subst (Appends before after) (sym (next_lines at (query_seen (get_or qs at d)) line w told)) (appends_both before mid after (query_lines 1 w.answers) line w.appended put);
  }

  pub cut : (at : ℕ) (d : cross.Query) (line : List ℕ) → at < length qs → Written first asked before mid at → IsLineOf first (query_seen (get_or qs at d)) (at + 1) line → AppendsPart mid after line → RepliesOutcome first asked before after WriteFault
  cut at d line within w told put =
      (query_lines 1 w.answers ++ line, inr (w.answers ++ told.answer ∷ [], next_replies at d line within w told, sym (next_lines at (query_seen (get_or qs at d)) line w told)), part_behind before mid after (query_lines 1 w.answers) line w.appended put)
