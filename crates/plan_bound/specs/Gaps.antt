-- What is left of a closed part of an edge where open parts are taken out, one after another by where they begin.
use Rattle.std.specs.Prelude.{pos, ◌<ℤ◌, ◌↔◌, List, [], ◌∷◌, All, Any, AllPairs, if◌then◌else◌}
use Rattle.plan_grid.specs.Fraction.{Fraction}
use Rattle.plan_convex.specs.declared.part.Part.{Part}
use Rattle.plan_convex.specs.Parameter.{AtMost, Less, at_most}
use Rattle.plan_convex.specs.Part.{InOpen, InClosed}

-- from c to e, and in no open part
pub record Left (c e : Fraction) (ps : List Part) (z : Fraction) : Type 0 where
  pub from : AtMost c z
  pub upto : AtMost z e
  pub free : All (λ p. ¬ (InOpen p z)) ps

-- a part is not empty
pub record IsOpenPart (p : Part) : Type 0 where
  pub from : pos 0 <ℤ p.from.den
  pub to : pos 0 <ℤ p.to.den
  pub less : Less p.from p.to

-- sorted by where they begin
abbrev pub ByStart : List Part → Type 0
ByStart ps = AllPairs (λ p q. AtMost p.from q.from) ps

abbrev pub last_gap : Fraction → Fraction → List Part
last_gap c e = if at_most c e then record { from = c; to = e } ∷ [] else []

-- what is left from c to e
abbrev pub gaps : Fraction → Fraction → List Part → List Part
gaps c e [] = last_gap c e
gaps c e (p ∷ ps) =
    if at_most p.from e
    then (if at_most p.to c
    then gaps c e ps
    else (if at_most c p.from then record { from = c; to = p.from } ∷ gaps p.to e ps else gaps p.to e ps))
    else last_gap c e

-- a gap between c and e
pub record IsGap (c e : Fraction) (g : Part) : Type 0 where
  pub from : pos 0 <ℤ g.from.den
  pub to : pos 0 <ℤ g.to.den
  pub onward : AtMost g.from g.to
  pub after : AtMost c g.from
  pub upto : AtMost g.to e

-- exactly what is left, one after another and apart
pub record AreGaps (c e : Fraction) (ps gs : List Part) : Type 0 where
  pub exact : (z : Fraction) → pos 0 <ℤ z.den → Left c e ps z ↔ Any (λ g. InClosed g z) gs
  pub proper : All (IsGap c e) gs
  pub apart : AllPairs (λ g h. Less g.to h.from) gs

-- where a part begins
abbrev pub start_of : Part → Fraction
start_of p = p.from
