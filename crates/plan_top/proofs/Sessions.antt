-- What `session` did, by how its rounds were played.
use Rattle.std.proofs.Common.{◌≡◌, ℕ, List, [], ◌∷◌, map, take, Some, None, IfSome, inl, inr, sym, subst}
use Rattle.plan_wire.specs.Documents.{Document, document_of}
use Rattle.plan_wire.specs.declared.documents.Want.TheVariants as want
use Rattle.plan_scene.specs.Scene.{Scene}
use Rattle.plan_top.specs.Outcome.{AnswerOutcome, IsReadToEnd, LineOutcome, OnDocument, Told}
use Rattle.plan_top.specs.Played.{AreAllRounds, AreFirstRounds, IsOpened, RoundsOutcome, round_seen}
use Rattle.plan_top.specs.Session.{AreRounds, IsSession, IsSessionBegun, Line, OnRounds}
use Rattle.plan_top.specs.SessionOutcome.{IsSessionBegunOf, IsSessionOf, IsSessionRefusalOf, SessionOutcome}
use Rattle.plan_top.specs.Watching.{Pair}
use Rattle.plan_top.specs.declared.session.Round as played
use Rattle.plan_top.specs.declared.status.Refusal.{Refusal}
use Rattle.plan_top.specs.declared.status.Status.{Status}
use Rattle.plan_top.specs.declared.status.Status.TheVariants.{Done, Usage, Refused, ReadFault, WriteFault, NoMemory, Invalid}
use Rattle.plan_top.proofs.Planned.{on_ok}

-- ---- of a document
module _ (d : Document) (first : Scene) (rounds : List played.Round) (opened : IsOpened d first rounds) where
  whole : (text : List ℕ) (pairs : List Pair) → AreAllRounds first (map round_seen rounds) text pairs → IsSession d text pairs
  whole text pairs all = record {
    given = opened.given;
    is_given = opened.is_given;
    first = first;
    is_first = opened.is_first;
    history = all.history;
    lines = all.lines;
    are_rounds = subst (λ t. OnRounds t (λ rs. AreRounds 1 (first ∷ []) rs all.history all.lines)) (sym opened.are_rounds) all.are_rounds;
    is_text = all.is_text;
    are_pairs = all.are_pairs;
  }

  begun : (lines : List Line) (pairs : List Pair) → AreFirstRounds first (map round_seen rounds) lines pairs → IsSessionBegun d lines pairs
  begun lines pairs some = record {
    given = opened.given;
    is_given = opened.is_given;
    first = first;
    is_first = opened.is_first;
    count = some.count;
    history = some.history;
    are_rounds = subst (λ t. OnRounds t (λ rs. AreRounds 1 (first ∷ []) (take some.count rs) some.history lines)) (sym opened.are_rounds) some.are_rounds;
    are_pairs = some.are_pairs;
  }

-- ---- of bytes
abbrev pub IsOpenedOf : Told → Scene → List played.Round → Type 0
IsOpenedOf told first rounds = IfSome told (λ bytes. OnDocument want.Session bytes (λ d. IsOpened d first rounds))

of_all : (told : Told) (first : Scene) (rounds : List played.Round) (text : List ℕ) (pairs : List Pair) → IsOpenedOf told first rounds → AreAllRounds first (map round_seen rounds) text pairs → IsSessionOf told text pairs
of_all None first rounds text pairs opened all = tt
of_all (Some bytes) first rounds text pairs opened all = on_ok (document_of bytes want.Session) (λ d. IsOpened d first rounds) (λ d. IsSession d text pairs) (λ d o. whole d first rounds o text pairs all) opened

of_first : (told : Told) (first : Scene) (rounds : List played.Round) (lines : List Line) (pairs : List Pair) → IsOpenedOf told first rounds → AreFirstRounds first (map round_seen rounds) lines pairs → IsSessionBegunOf told lines pairs
of_first None first rounds lines pairs opened some = tt
of_first (Some bytes) first rounds lines pairs opened some = on_ok (document_of bytes want.Session) (λ d. IsOpened d first rounds) (λ d. IsSessionBegun d lines pairs) (λ d o. begun d first rounds o lines pairs some) opened

module _ (told left before after : Told) (AreTold : List Pair → Type 0) where
  of_played : (first : Scene) (rounds : List played.Round) (status : Status) → IsOpenedOf told first rounds → IsReadToEnd told left → RoundsOutcome first (map round_seen rounds) before after AreTold status → SessionOutcome told left before after AreTold status
  of_played first rounds Done opened ended (text, pairs, all, put, are_told) = (text, pairs, of_all told first rounds text pairs opened all, ended, put, are_told)
  of_played first rounds WriteFault opened ended (inl (text, pairs, all, put, are_told)) = inl (text, pairs, of_all told first rounds text pairs opened all, put, are_told)
  of_played first rounds WriteFault opened ended (inr (lines, pairs, some, put, are_told)) = inr (inl (lines, pairs, of_first told first rounds lines pairs opened some, put, are_told))
  of_played first rounds NoMemory opened ended (lines, pairs, some, k, put, are_told) = inr (lines, pairs, of_first told first rounds lines pairs opened some, k, put, are_told)
  of_played first rounds Usage opened ended h = absurd h
  of_played first rounds (Refused r) opened ended h = absurd h
  of_played first rounds ReadFault opened ended h = absurd h
  of_played first rounds (Invalid f) opened ended h = absurd h

  pub of_rounds : (first : Scene) (rounds given : List played.Round) (status : Status) → IsOpenedOf told first rounds → IsReadToEnd told left → given ≡ rounds → RoundsOutcome first (map round_seen given) before after AreTold status → SessionOutcome told left before after AreTold status
  of_rounds first rounds given status opened ended same h = of_played first rounds status opened ended (subst (λ rs. RoundsOutcome first (map round_seen rs) before after AreTold status) same h)

  -- nobody is told anything
  pub of_refused : (refusal : Refusal) (status : Status) → AreTold [] → IsSessionRefusalOf told refusal → LineOutcome (Refused refusal) before after status → SessionOutcome told left before after AreTold status
  of_refused refusal status nobody h (inl put) = rw put.0 (h, put.1, nobody)
  of_refused refusal status nobody h (inr cut) = rw cut.0 (inr (inr (refusal, h, cut.1, nobody)))

  pub of_refusal : (refusal : Refusal) (status : Status) → AreTold [] → IsSessionRefusalOf told refusal → AnswerOutcome (Refused refusal) before after status → SessionOutcome told left before after AreTold status
  of_refusal refusal status nobody h (inl line) = of_refused refusal status nobody h line
  of_refusal refusal status nobody h (inr none) = rw none.0 (inl (none.1, nobody))
