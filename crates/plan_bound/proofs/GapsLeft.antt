-- What is left of a closed part where open parts are taken out, one after another by where they begin: closed gaps, one after another and apart.
use Rattle.std.proofs.Common.{◌≡◌, ◌↔◌, ◌⊎◌, inl, inr, ⊎_elim, suc, Bool, true, false, cond, List, [], ◌∷◌, get_or, All, refl, arith}
use Rattle.std.proofs.lemmas.List.Elements.{All-nil, All-cons, All-head, All-tail, All-weaker}
use Rattle.std.proofs.lemmas.List.Kept.{AllPairs-cons}
use Rattle.plan_exact.proofs.Laws.{linear}
use Rattle.plan_grid.specs.Fraction.{Fraction}
use Rattle.plan_convex.proofs.Fractions.{IsFraction, at_most_trans, less_at_most, weak, not_both, at_most_or_less, at_most_true, at_most_false}
use Rattle.plan_convex.specs.Parameter.{AtMost, Less, at_most}
use Rattle.plan_convex.specs.declared.part.Part.{Part}
use Rattle.plan_convex.specs.Part.{InOpen, InClosed}
use Rattle.plan_bound.specs.Gaps.{Left, IsOpenPart, ByStart, last_gap, gaps, IsGap, AreGaps}
use Rattle.plan_plane.proofs.Lists.{any_here, any_there, any_cases, any_none}

-- ---- one part, by its case
-- the parts that are left begin no earlier than the next one
starts_after : (p : Part) (ps : List Part) → ByStart (p ∷ ps) → All (λ q. AtMost p.from q.from) ps
starts_after p ps h k d within = h 0 (suc k) d (omega arith) (omega arith)

pub by_start_tail : (p : Part) (ps : List Part) → ByStart (p ∷ ps) → ByStart ps
by_start_tail p ps h i j d less within = h (suc i) (suc j) d (omega arith) (omega arith)

-- nothing up to where the next part begins is in a part
free_before : (p : Part) (ps : List Part) (z : Fraction) → All IsOpenPart (p ∷ ps) → ByStart (p ∷ ps) → IsFraction z → AtMost z p.from → All (λ q. ¬ (InOpen q z)) (p ∷ ps)
free_before p ps z proper sorted hz h =
    All-cons (λ q. ¬ (InOpen q z)) p ps
    (λ k. not_both z p.from h k.0)
    (λ k d within i. let q = get_or ps k d in
    not_both z q.from (at_most_trans z p.from q.from hz (All-head IsOpenPart p ps proper).from (All-tail IsOpenPart p ps proper k d within).from h (starts_after p ps sorted k d within)) i.0)

-- the part begins beyond the end: no other matters
pub stop : (c e : Fraction) (p : Part) (ps : List Part) (z : Fraction) → IsFraction e → All IsOpenPart (p ∷ ps) → ByStart (p ∷ ps) → IsFraction z → Less e p.from → Left c e (p ∷ ps) z ↔ Left c e [] z
stop c e p ps z he proper sorted hz beyond = (λ l. record { from = l.from; upto = l.upto; free = All-nil (λ q. ¬ (InOpen q z)) }, λ i. record { from = i.from; upto = i.upto; free = free_before p ps z proper sorted hz (at_most_trans z e p.from hz he (All-head IsOpenPart p ps proper).from i.upto (weak e p.from beyond)) })

-- the part ends at c or before
pub skip : (c e : Fraction) (p : Part) (ps : List Part) (z : Fraction) → IsFraction c → IsOpenPart p → IsFraction z → AtMost p.to c → Left c e (p ∷ ps) z ↔ Left c e ps z
skip c e p ps z hc proper hz passed = (
  λ l. record { from = l.from; upto = l.upto; free = All-tail (λ q. ¬ (InOpen q z)) p ps l.free },
  λ l. record { from = l.from; upto = l.upto; free = All-cons (λ q. ¬ (InOpen q z)) p ps (λ i. not_both p.to z (at_most_trans p.to c z proper.to hc hz passed l.from) i.1) l.free },
)

-- what lies in no part, and beyond where the part begins, lies where it ends or beyond
after_part : (p : Part) (z : Fraction) → Less p.from z → ¬ (InOpen p z) → AtMost p.to z
after_part p z h off = ⊎_elim (λ k. k) (λ k. absurd (off (h, k))) (at_most_or_less p.to z)

-- the part has c within
pub pass : (c e : Fraction) (p : Part) (ps : List Part) (z : Fraction) → IsFraction c → IsOpenPart p → IsFraction z → Less p.from c → Less c p.to → Left c e (p ∷ ps) z ↔ Left p.to e ps z
pass c e p ps z hc proper hz before beyond = (
  λ l. record { from = after_part p z (less_at_most p.from c z proper.from hc hz before l.from) (All-head (λ q. ¬ (InOpen q z)) p ps l.free); upto = l.upto; free = All-tail (λ q. ¬ (InOpen q z)) p ps l.free },
  λ l. record { from = at_most_trans c p.to z hc proper.to hz (weak c p.to beyond) l.from; upto = l.upto; free = All-cons (λ q. ¬ (InOpen q z)) p ps (λ i. not_both p.to z l.from i.1) l.free },
)

-- the part begins at c or beyond: a gap, which may be one place
pub give : (c e : Fraction) (p : Part) (ps : List Part) (z : Fraction) → IsFraction c → IsFraction e → All IsOpenPart (p ∷ ps) → ByStart (p ∷ ps) → IsFraction z → AtMost c p.from → AtMost p.from e
    → Left c e (p ∷ ps) z ↔ (InClosed (record { from = c; to = p.from }) z ⊎ Left p.to e ps z)
give c e p ps z hc he proper sorted hz onward upto = (into, out)
  where
    hp : IsOpenPart p
    hp = All-head IsOpenPart p ps proper

    into : Left c e (p ∷ ps) z → InClosed (record { from = c; to = p.from }) z ⊎ Left p.to e ps z
    into l = elim (at_most_or_less z p.from) [
      | inl h ↦ inl (l.from, h)
      | inr h ↦ inr (record { from = after_part p z h (All-head (λ q. ¬ (InOpen q z)) p ps l.free); upto = l.upto; free = All-tail (λ q. ¬ (InOpen q z)) p ps l.free })
    ]

    out : InClosed (record { from = c; to = p.from }) z ⊎ Left p.to e ps z → Left c e (p ∷ ps) z
    out (inl i) = record { from = i.0; upto = at_most_trans z p.from e hz hp.from he i.1 upto; free = free_before p ps z proper sorted hz i.1 }
    out (inr l) = record {
      from = at_most_trans c p.from z hc hp.from hz onward (weak p.from z (less_at_most p.from p.to z hp.from hp.to hz hp.less l.from));
      upto = l.upto;
      free = All-cons (λ q. ¬ (InOpen q z)) p ps (λ i. not_both p.to z l.from i.1) l.free;
    }

-- ---- the gaps of a list of parts
abbrev pub IsAlone : Part → Part → Type 0
IsAlone g h = Less g.to h.from

pub no_gap : (c e : Fraction) → IsFraction c → IsFraction e → Less e c → AreGaps c e [] []
no_gap c e hc he h = record {
  exact = λ z hz. (λ l. absurd (not_both c e (at_most_trans c z e hc hz he l.from l.upto) h), λ some. absurd (any_none (λ g. InClosed g z) some));
  proper = All-nil (IsGap c e);
  apart = λ i j d less within. absurd (omega arith);
}

pub one_gap : (c e : Fraction) → IsFraction c → IsFraction e → AtMost c e → AreGaps c e [] (record { from = c; to = e } ∷ [])
one_gap c e hc he h = record {
  exact = λ z hz. (
    λ l. any_here (λ g. InClosed g z) (record { from = c; to = e }) [] (l.from, l.upto),
    λ some. ⊎_elim (λ i. record { from = i.0; upto = i.1; free = All-nil (λ q. ¬ (InOpen q z)) }) (λ n. absurd (any_none (λ g. InClosed g z) n)) (any_cases (λ g. InClosed g z) (record { from = c; to = e }) [] some),
  );
  proper = All-cons (IsGap c e) (record { from = c; to = e }) [] (record { from = hc; to = he; onward = h; after = omega (arith, linear); upto = omega (arith, linear) }) (All-nil (IsGap c e));
  apart = λ i j d less within. absurd (omega arith);
}

pub gaps_stop : {c e : Fraction} {gs : List Part} (p : Part) (ps : List Part) → IsFraction e → All IsOpenPart (p ∷ ps) → ByStart (p ∷ ps) → Less e p.from → AreGaps c e [] gs → AreGaps c e (p ∷ ps) gs
gaps_stop {c} {e} {gs} p ps he proper sorted beyond g = record {
  exact = λ z hz. let s = stop c e p ps z he proper sorted hz beyond in let x = g.exact z hz in (λ l. x.0 (s.0 l), λ some. s.1 (x.1 some));
  proper = g.proper;
  apart = g.apart;
}

pub gaps_skip : {c e : Fraction} {gs : List Part} (p : Part) (ps : List Part) → IsFraction c → IsOpenPart p → AtMost p.to c → AreGaps c e ps gs → AreGaps c e (p ∷ ps) gs
gaps_skip {c} {e} {gs} p ps hc proper passed g = record {
  exact = λ z hz. let s = skip c e p ps z hc proper hz passed in let x = g.exact z hz in (λ l. x.0 (s.0 l), λ some. s.1 (x.1 some));
  proper = g.proper;
  apart = g.apart;
}

-- gaps from further on
later : (c d e : Fraction) (gs : List Part) → IsFraction c → IsFraction d → AtMost c d → All (IsGap d e) gs → All (IsGap c e) gs
later c d e gs hc hd h = All-weaker (IsGap d e) (IsGap c e) (λ g k. record { from = k.from; to = k.to; onward = k.onward; after = at_most_trans c d g.from hc hd k.from h k.after; upto = k.upto }) gs

pub gaps_pass : {c e : Fraction} {gs : List Part} (p : Part) (ps : List Part) → IsFraction c → IsOpenPart p → Less p.from c → Less c p.to → AreGaps p.to e ps gs → AreGaps c e (p ∷ ps) gs
gaps_pass {c} {e} {gs} p ps hc proper before beyond g = record {
  exact = λ z hz. let s = pass c e p ps z hc proper hz before beyond in let x = g.exact z hz in (λ l. x.0 (s.0 l), λ some. s.1 (x.1 some));
  proper = later c p.to e gs hc proper.to (weak c p.to beyond) g.proper;
  apart = g.apart;
}

pub gaps_give : {c e : Fraction} {gs : List Part} (p : Part) (ps : List Part) → IsFraction c → IsFraction e → All IsOpenPart (p ∷ ps) → ByStart (p ∷ ps) → AtMost c p.from → AtMost p.from e → AreGaps p.to e ps gs → AreGaps c e (p ∷ ps) (record { from = c; to = p.from } ∷ gs)
gaps_give {c} {e} {gs} p ps hc he proper sorted onward upto g = record {
  exact = λ z hz. let s = give c e p ps z hc he proper sorted hz onward upto in let x = g.exact z hz in (
    λ l. ⊎_elim (any_here (λ g. InClosed g z) (record { from = c; to = p.from }) gs) (λ k. any_there (λ g. InClosed g z) (record { from = c; to = p.from }) gs (x.0 k)) (s.0 l),
    λ some. s.1 (⊎_elim inl (λ k. inr (x.1 k)) (any_cases (λ g. InClosed g z) (record { from = c; to = p.from }) gs some)),
  );
  proper = All-cons (IsGap c e) (record { from = c; to = p.from }) gs (record { from = hc; to = hp.from; onward = onward; after = omega (arith, linear); upto = upto }) (later c p.to e gs hc hp.to (at_most_trans c p.from p.to hc hp.from hp.to onward (weak p.from p.to hp.less)) g.proper);
  apart = AllPairs-cons IsAlone (record { from = c; to = p.from }) gs (All-weaker (IsGap p.to e) (λ h. Less p.from h.from) (λ h k. less_at_most p.from p.to h.from hp.from hp.to k.from hp.less k.after) gs g.proper) g.apart;
}
  where
    hp : IsOpenPart p
    hp = All-head IsOpenPart p ps proper

last_are : (c e : Fraction) → IsFraction c → IsFraction e → AreGaps c e [] (last_gap c e)
last_are c e hc he = by (at_most c e) refl
  where
    by : (t : Bool) → at_most c e ≡ t → AreGaps c e [] (cond t (record { from = c; to = e } ∷ []) [])
    by true h = one_gap c e hc he (at_most_true c e h)
    by false h = no_gap c e hc he (at_most_false c e h)

pub gaps_are : (c e : Fraction) (ps : List Part) → IsFraction c → IsFraction e → All IsOpenPart ps → ByStart ps → AreGaps c e ps (gaps c e ps)
gaps_are c e [] hc he proper sorted = last_are c e hc he
gaps_are c e (p ∷ ps) hc he proper sorted = by (λ d hd. gaps_are d e ps hd he (All-tail IsOpenPart p ps proper) (by_start_tail p ps sorted)) (at_most p.from e) (at_most p.to c) (at_most c p.from) refl refl refl
  where
    hp : IsOpenPart p
    hp = All-head IsOpenPart p ps proper

    by : ((d : Fraction) → IsFraction d → AreGaps d e ps (gaps d e ps)) → (s t u : Bool) → at_most p.from e ≡ s → at_most p.to c ≡ t → at_most c p.from ≡ u
        → AreGaps c e (p ∷ ps) (cond s (cond t (gaps c e ps) (cond u (record { from = c; to = p.from } ∷ gaps p.to e ps) (gaps p.to e ps))) (last_gap c e))
    by rest false t u hs ht hu = gaps_stop p ps he proper sorted (at_most_false p.from e hs) (last_are c e hc he)
    by rest true true u hs ht hu = gaps_skip p ps hc hp (at_most_true p.to c ht) (rest c hc)
    by rest true false true hs ht hu = gaps_give p ps hc he proper sorted (at_most_true c p.from hu) (at_most_true p.from e hs) (rest p.to hp.to)
    by rest true false false hs ht hu = gaps_pass p ps hc hp (at_most_false c p.from hu) (at_most_false p.to c ht) (rest p.to hp.to)
