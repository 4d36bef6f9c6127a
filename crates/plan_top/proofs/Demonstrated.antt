-- A demonstration from its floor to its two lines.
use Rattle.std.proofs.Common.{◌≡◌, inl, inr, ℕ, List, ◌++◌, map, length-append, refl, sym, ap, subst, ◌∙◌, arith}
use Rattle.std.proofs.lemmas.List.{take-append-le}
use Rattle.plan_grid.specs.declared.frame.Frame.{Frame}
use Rattle.plan_grid.specs.declared.spot.Spot.{Spot}
use Rattle.plan_grid.specs.Frame.{frame_seen}
use Rattle.plan_grid.specs.Spot.{spots_seen}
use Rattle.plan_wire.specs.Seen.{shape_seen}
use Rattle.plan_wire.specs.Stream.{Appends, AppendsPart}
use Rattle.plan_wire.specs.declared.documents.Shape.{Shape}
use Rattle.plan_demo.specs.Demo as demo
use Rattle.plan_demo.specs.Demo.{floor, rounds, obstacles, after_obstacles, turns}
use Rattle.plan_scene.specs.Scene.{Scene, scene_seen}
use Rattle.plan_reply.specs.First.{IsFirst}
use Rattle.plan_top.specs.Demo.{AreCounts, AreTurns, IsDemo, count_line, no_edits, no_replies}
use Rattle.plan_top.specs.DemoOutcome.{DemoOutcome}
use Rattle.plan_top.specs.First.{given_of}
use Rattle.plan_top.specs.Outcome.{Told}
use Rattle.plan_top.specs.Played.{EndOutcome}
use Rattle.plan_top.specs.Session.{end_line}
use Rattle.plan_top.specs.Demonstration.{HasPlayed}
use Rattle.plan_top.specs.declared.counts.EditCount.{EditCount}
use Rattle.plan_top.specs.declared.counts.ReplyCount.{ReplyCount}
use Rattle.plan_top.specs.declared.status.Status.{Status}
use Rattle.plan_top.specs.declared.status.Status.TheVariants.{Done, Usage, Refused, ReadFault, WriteFault, NoMemory, Invalid}
use Rattle.plan_top.specs.declared.demonstration.Demonstration.{Demonstration}
use Rattle.plan_top.proofs.Judged.{given_seen}
use Rattle.plan_top.proofs.Replies.{appends_both, part_behind}

-- ---- its floor
pub given_floor : (number state : ℕ) (frame : Frame) (robot : List Spot) (shapes : List Shape) → state ≡ number → frame_seen frame ≡ demo.frame → spots_seen robot ≡ demo.robot → map shape_seen shapes ≡ obstacles 40 1 state
    → scene_seen (given_of frame robot shapes) ≡ floor number
unfolding floor
given_floor number state frame robot shapes start f r os =
    given_seen frame robot shapes ∙ (λ i. record { frame = f i; robot = r i; obstacles = (os ∙ ap (obstacles 40 1) start) i })

-- ---- its rounds
pub counted : (number start : ℕ) (given first : Scene) (old new : Demonstration) → scene_seen given ≡ floor number → IsFirst given first → start ≡ after_obstacles 40 number
    → old ≡ record { draws = start; stand = first; edits = no_edits; replies = no_replies } → HasPlayed 4 old new → AreCounts number new.edits new.replies
unfolding rounds
counted number start given first old new is_given is_first state made played =
    let h = subst (λ t. HasPlayed 4 t new) made played in
    record {
      given = given;
      is_given = is_given;
      first = first;
      is_first = is_first;
      played = h.played;
      are_turns = subst (λ σ. AreTurns first (turns 4 σ) h.played) state h.are_turns;
      edits = h.edits;
      replies = h.replies;
    }

-- ---- its lines
part_of_more : (before after : Told) (xs ys : List ℕ) → AppendsPart before after xs → AppendsPart before after (xs ++ ys)
part_of_more before after xs ys (n, within, put) = let longer = length-append xs ys in (n, omega arith, subst (Appends before after) (sym (take-append-le n xs ys within)) put)

module _ (number : ℕ) (e : EditCount) (r : ReplyCount) (are : AreCounts number e r) (before mid after : Told) where
  abbrev first_line : List ℕ
  first_line = count_line number e r

  both : IsDemo number (first_line ++ end_line e.accepted)
  both = (e, r, are, refl)

  pub written : (status : Status) → Appends before mid first_line → EndOutcome (end_line e.accepted) mid after status → DemoOutcome number before after status
  written Done line put = (first_line ++ end_line e.accepted, both, appends_both before mid after first_line (end_line e.accepted) line put)
  written WriteFault line put = inl (first_line ++ end_line e.accepted, both, part_behind before mid after first_line (end_line e.accepted) line put)
  written NoMemory line put = inr (first_line, (e, r, are, refl), subst (λ (a : Told). Appends before a first_line) (sym put) line)
  written Usage line put = absurd put
  written (Refused refusal) line put = absurd put
  written ReadFault line put = absurd put
  written (Invalid fault) line put = absurd put

  pub cut : AppendsPart before after first_line → DemoOutcome number before after WriteFault
  cut put = inl (first_line ++ end_line e.accepted, both, part_of_more before after first_line (end_line e.accepted) put)
