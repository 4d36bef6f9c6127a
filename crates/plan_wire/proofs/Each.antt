-- Reading a list from its front: what was read so far stands before what the others are read as, so the whole is read where each
-- element is, and the first refusal of an element is that of the list.
use Rattle.std.proofs.Common.{◌≡◌, ℕ, ◌+◌, ◌<◌, List, [], ◌∷◌, ◌++◌, length, get_or, drop, map, Ok, Err, IfSome, Bor, refl, sym, ap, ◌∙◌, append_assoc}
use Rattle.std.proofs.lemmas.List.{drop_more, map-append}
use Rattle.std.proofs.lemmas.Option.{IfSome_then}
use Rattle.serde_json.specs.View.{view, items_view}
use Rattle.serde_json.specs.declared.value.Value.{Value}
use Rattle.plan_wire.specs.Reading.{Refusal, Read, Reader, list_of, made, each}
use Rattle.plan_wire.specs.Place.{path_of}
use Rattle.plan_wire.specs.Seen.{refusal_seen}
use Rattle.plan_wire.specs.declared.documents.place.Place.{Place, Element}
use Rattle.plan_wire.specs.declared.documents.fault.WireFault.{WireFault}
use Rattle.plan_wire.proofs.Places.{path_of_element}

-- the elements of a list of the JSON crate
pub list_of_items_view : (vs : List Value) → list_of (items_view vs) ≡ map view vs
list_of_items_view [] = refl
list_of_items_view (v ∷ vs) = ap (λ ds. view v ∷ ds) (list_of_items_view vs)

-- of the values the first i were read as these
abbrev pub ReadSoFar : {X B : Type 0} → Reader B → (X → B) → List ℕ → List Value → List X → ℕ → Type 0
ReadSoFar f seen place vs done i = each f place 0 (map view vs) ≡ made (λ rest. map seen done ++ rest) (each f place i (map view (drop i vs)))

module _ {X B : Type 0} (f : Reader B) (seen : X → B) (p : Bor Place) (vs : List Value) (done : List X) (i : ℕ) (v : Value)
    (so_far : ReadSoFar f seen (path_of p.now) vs done i) (within : i < length vs) (is : v ≡ get_or vs i v) where
  -- the element that is next, and those behind it
  next : each f (path_of p.now) 0 (map view vs) ≡ made (λ rest. map seen done ++ rest) (each f (path_of p.now) i (view v ∷ map view (drop (i + 1) vs)))
  next = so_far ∙ ap (λ l. made (λ rest. map seen done ++ rest) (each f (path_of p.now) i (map view l))) (drop_more vs i v within ∙ ap (λ w. w ∷ drop (i + 1) vs) (sym is))

  pub stops : (fault : WireFault) → IfSome (refusal_seen fault) (λ r. f (path_of (Element p i)) (view v) ≡ Err r) → IfSome (refusal_seen fault) (λ r. each f (path_of p.now) 0 (map view vs) ≡ Err r)
  stops fault told = IfSome_then (refusal_seen fault) told refused
    where
      refused : (r : Refusal) → f (path_of (Element p i)) (view v) ≡ Err r → each f (path_of p.now) 0 (map view vs) ≡ Err r
      refused r e = rw (next, ← path_of_element p i, e) refl

  pub goes_on : (x : X) → f (path_of (Element p i)) (view v) ≡ Ok (seen x) → ReadSoFar f seen (path_of p.now) vs (done ++ x ∷ []) (i + 1)
  goes_on x e = rw (next, ← path_of_element p i, e) (joined (each f (path_of p.now) (i + 1) (map view (drop (i + 1) vs))))
    where
      joined : (o : Read (List B)) → made (λ rest. map seen done ++ rest) (made (λ rest. seen x ∷ rest) o) ≡ made (λ rest. map seen (done ++ x ∷ []) ++ rest) o
      joined (Err r) = refl
      joined (Ok rest) = ap Ok (rw (map-append seen done (x ∷ [])) (sym (append_assoc (map seen done) (seen x ∷ []) rest)))
