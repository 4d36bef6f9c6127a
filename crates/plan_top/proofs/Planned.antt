-- What `plan` did is what the lines of its replies did, or the line of a refusal.
use Rattle.std.proofs.Common.{◌≡◌, inl, inr, ℕ, List, [], ◌∷◌, Some, None, IfSome, Result, Ok, Err, IsOkAnd, sym, subst}
use Rattle.std.specs.List.{AllZip}
use Rattle.plan_spec.specs.Answers.{Answer, IsRight}
use Rattle.plan_wire.specs.Documents.{Document, Query}
use Rattle.plan_wire.specs.Documents.{document_of}
use Rattle.plan_wire.specs.declared.documents.Want.TheVariants as want
use Rattle.plan_scene.specs.Scene.{Scene, scene_seen}
use Rattle.plan_top.specs.Outcome.{Told, IsRefusalOf, IsPlanOf, IsBegunOf, IsReadToEnd, OnDocument, PlanOutcome, LineOutcome}
use Rattle.plan_top.specs.Plan.{IsReplied, IsAnswered, OnFirst, OnQueries, IsBegun, IsPlanned, IsReady, AreFirstLines, AreAllLines, RepliesOutcome}
use Rattle.plan_top.specs.declared.status.Refusal.{Refusal}
use Rattle.plan_top.specs.declared.status.Status.{Status}
use Rattle.plan_top.specs.declared.status.Status.TheVariants.{Done, Usage, Refused, ReadFault, WriteFault, NoMemory, Invalid}
use Rattle.plan_top.proofs.Firsts.{touches_alike, touched_alike}
use Rattle.plan_top.proofs.RightAlike.{right_alike}

-- ---- lists of answers
zip_weaker : (P Q : Query → Answer → Type 0) → ((q : Query) (a : Answer) → P q a → Q q a) → (qs : List Query) (ans : List Answer) → AllZip P qs ans → AllZip Q qs ans
zip_weaker P Q f [] [] h = h
zip_weaker P Q f [] (a ∷ ans) h = h
zip_weaker P Q f (q ∷ qs) [] h = h
zip_weaker P Q f (q ∷ qs) (a ∷ ans) h = (f q a h.0, zip_weaker P Q f qs ans h.1)

first_weaker : (P Q : Query → Answer → Type 0) → ((q : Query) (a : Answer) → P q a → Q q a) → (qs : List Query) (ans : List Answer) → OnFirst P qs ans → OnFirst Q qs ans
first_weaker P Q f qs [] h = tt
first_weaker P Q f [] (a ∷ ans) h = h
first_weaker P Q f (q ∷ qs) (a ∷ ans) h = (f q a h.0, first_weaker P Q f qs ans h.1)

-- ---- of a document
module _ (d : Document) (first : Scene) (qs : List Query) (ready : IsReady d first qs) where
  pub answered : (q : Query) (a : Answer) → IsReplied first q a → IsAnswered d.scene first q a
  answered q a h = record {
    is_reply = h.is_reply;
    is_right = subst (λ s. IsRight s q.start q.goal a) ready.is_given
        (right_alike (scene_seen first) (scene_seen ready.given) (λ p. let t = touches_alike p ready.given first ready.is_first.0 in (t.1, t.0)) (λ p n. touched_alike p ready.given first ready.is_first.0 n) q.start q.goal a h.is_reply.is_right);
    lowest = h.lowest;
  }

  planned : (text : List ℕ) → AreAllLines first qs text → IsPlanned d text
  planned text (ans, are, is) = record {
    given = ready.given;
    is_given = ready.is_given;
    first = first;
    is_first = ready.is_first;
    answers = ans;
    are_answers = subst (λ t. OnQueries t (λ qs. AllZip (IsAnswered d.scene first) qs ans)) (sym ready.are_queries) (zip_weaker (IsReplied first) (IsAnswered d.scene first) answered qs ans are);
    is_text = is;
  }

  begun : (text : List ℕ) → AreFirstLines first qs text → IsBegun d text
  begun text (ans, are, is) = record {
    given = ready.given;
    is_given = ready.is_given;
    first = first;
    is_first = ready.is_first;
    answers = ans;
    are_answers = subst (λ t. OnQueries t (λ qs. OnFirst (IsAnswered d.scene first) qs ans)) (sym ready.are_queries) (first_weaker (IsReplied first) (IsAnswered d.scene first) answered qs ans are);
    is_text = is;
  }

-- ---- of bytes
pub on_ok : {A E : Type 0} (r : Result A E) (P Q : A → Type 0) → ((a : A) → P a → Q a) → IsOkAnd r P → IsOkAnd r Q
on_ok (Ok a) P Q f h = f a h
on_ok (Err e) P Q f h = h

abbrev pub IsReadyOf : Told → Scene → List Query → Type 0
IsReadyOf told first qs = IfSome told (λ bytes. OnDocument want.Plan bytes (λ d. IsReady d first qs))

of_all : (told : Told) (first : Scene) (qs : List Query) (text : List ℕ) → IsReadyOf told first qs → AreAllLines first qs text → IsPlanOf told text
of_all None first qs text ready lines = tt
of_all (Some bytes) first qs text ready lines = on_ok (document_of bytes want.Plan) (λ d. IsReady d first qs) (λ d. IsPlanned d text) (λ d r. planned d first qs r text lines) ready

of_first : (told : Told) (first : Scene) (qs : List Query) (text : List ℕ) → IsReadyOf told first qs → AreFirstLines first qs text → IsBegunOf told text
of_first None first qs text ready lines = tt
of_first (Some bytes) first qs text ready lines = on_ok (document_of bytes want.Plan) (λ d. IsReady d first qs) (λ d. IsBegun d text) (λ d r. begun d first qs r text lines) ready

pub of_replies : (told left before after : Told) (first : Scene) (qs : List Query) (status : Status) → IsReadyOf told first qs → IsReadToEnd told left → RepliesOutcome first qs before after status → PlanOutcome told left before after status
of_replies told left before after first qs Done ready ended (text, lines, put) = (text, of_all told first qs text ready lines, ended, put)
of_replies told left before after first qs WriteFault ready ended (text, inl lines, put) = inl (text, inl (of_all told first qs text ready lines), put)
of_replies told left before after first qs WriteFault ready ended (text, inr lines, put) = inl (text, inr (of_first told first qs text ready lines), put)
of_replies told left before after first qs NoMemory ready ended (text, lines, put) = inr (text, of_first told first qs text ready lines, put)
of_replies told left before after first qs Usage ready ended h = absurd h
of_replies told left before after first qs (Refused r) ready ended h = absurd h
of_replies told left before after first qs ReadFault ready ended h = absurd h
of_replies told left before after first qs (Invalid f) ready ended h = absurd h

-- what holds of the bytes that are taken holds of those that are told
pub told_of : (P : List ℕ → Type 0) (told : Told) (bytes : List ℕ) → IfSome told (λ all. bytes ≡ all) → P bytes → IfSome told P
told_of P None bytes e h = tt
told_of P (Some all) bytes e h = subst P e h

pub of_refused : (told left before after : Told) (refusal : Refusal) (status : Status) → IsRefusalOf told refusal → LineOutcome (Refused refusal) before after status → PlanOutcome told left before after status
of_refused told left before after refusal status h (inl put) = rw put.0 (h, put.1)
of_refused told left before after refusal status h (inr cut) = rw cut.0 (inr (refusal, h, cut.1))
