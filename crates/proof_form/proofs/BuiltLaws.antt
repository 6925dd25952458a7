-- The loop that puts nodes together, from the last piece to the first.
use Rattle.std.proofs.Common.{◌≡◌, ◌≢◌, ℕ, List, [], ◌∷◌, ◌++◌, length, map, reverse, Option, Some, None, refl, sym, ap, ◌∙◌, arith}
use Rattle.std.specs.Option.{option_to_list}
use Rattle.std.proofs.lemmas.List.{map-append, length-reverse}
use Rattle.proof_form.specs.declared.trees.Piece.{Piece}
use Rattle.proof_form.specs.Outcomes.{◌>>=◌}
use Rattle.proof_form.specs.TreeReading.{Part, Built, with_part, built_on, whole, nodes_of}
use Rattle.proof_form.specs.Ties.TreeViews.{part, built}

-- Putting together the pieces so far, from what was put together of the others, is putting together all.
pub record Reached {X : Type 0} (set : X → ℕ → Option X) (left : List (Part X)) (b : Built X) (all : List (Part X)) : Type 0 where
  pub reached : built_on set (Some b) left ≡ built_on set (Some (0 ∷ [], [])) all

module _ {C X : Type 0} (view : C → X) (set : X → ℕ → Option X) where
  last_first : (b : Option (Built X)) (ps : List (Part X)) (p : Part X) → built_on set b (ps ++ p ∷ []) ≡ built_on set (b >>= with_part set p) ps
  last_first b [] p = refl
  last_first b (q ∷ ps) p = ap (λ o. o >>= with_part set q) (last_first b ps p)

  nothing_on : (ps : List (Part X)) → built_on set None ps ≡ None
  nothing_on [] = refl
  nothing_on (p ∷ ps) = ap (λ o. o >>= with_part set p) (nothing_on ps)

  popped : (old new : List (Piece C)) (p : Piece C) → old ≡ new ++ option_to_list (Some p) → map (part view) old ≡ map (part view) new ++ part view p ∷ []
  popped old new p e = rw (e, map-append) refl

  -- before the first turn
  pub begins : (ps : List (Piece C)) (empty counts : List ℕ) (nodes : List C) → empty ≡ [] → counts ≡ empty ++ 0 ∷ [] → nodes ≡ [] → Reached set (map (part view) ps) (built view counts nodes) (map (part view) ps)
  begins ps empty counts nodes none e f = record { reached = rw (e, none, f) refl }

  turn : (old new : List (Piece C)) (p : Piece C) (counts : List ℕ) (nodes : List C) (all : List (Part X)) → old ≡ new ++ option_to_list (Some p) → Reached set (map (part view) old) (built view counts nodes) all
      → built_on set (with_part set (part view p) (built view counts nodes)) (map (part view) new) ≡ built_on set (Some (0 ∷ [], [])) all
  turn old new p counts nodes all e r =
      sym (last_first (Some (built view counts nodes)) (map (part view) new) (part view p)) ∙ ap (built_on set (Some (built view counts nodes))) (sym (popped old new p e)) ∙ r.reached

  -- a piece more
  pub goes_on : (old new : List (Piece C)) (p : Piece C) (counts more_counts : List ℕ) (nodes more_nodes : List C) (all : List (Part X)) → old ≡ new ++ option_to_list (Some p)
      → Reached set (map (part view) old) (built view counts nodes) all → with_part set (part view p) (built view counts nodes) ≡ Some (built view more_counts more_nodes)
      → Reached set (map (part view) new) (built view more_counts more_nodes) all
  goes_on old new p counts more_counts nodes more_nodes all e r h =
      record { reached = ap (λ b. built_on set b (map (part view) new)) (sym h) ∙ turn old new p counts nodes all e r }

  -- a piece that does not fit
  pub fails : (old new : List (Piece C)) (p : Piece C) (counts : List ℕ) (nodes : List C) (all : List (Part X)) → old ≡ new ++ option_to_list (Some p)
      → Reached set (map (part view) old) (built view counts nodes) all → with_part set (part view p) (built view counts nodes) ≡ None → nodes_of set all ≡ None
  unfolding nodes_of
  fails old new p counts nodes all e r h =
      let t = turn old new p counts nodes all e r in
      let u : built_on set (Some (0 ∷ [], [])) all ≡ None = sym t ∙ ap (λ b. built_on set b (map (part view) new)) h ∙ nothing_on (map (part view) new) in
      ap (λ o. o >>= λ b. whole b.0 b.1) u

  all_built : (left : List (Piece C)) (counts : List ℕ) (nodes : List C) (all : List (Part X)) → left ≡ [] → Reached set (map (part view) left) (built view counts nodes) all
      → nodes_of set all ≡ whole (reverse counts) (map view (reverse nodes))
  unfolding nodes_of
  all_built left counts nodes all e r = let t = rw e at r.reached in ap (λ o. o >>= λ b. whole b.0 b.1) (sym t)

  whole_one : (cs : List ℕ) (ns : List X) → length cs ≡ 1 → whole cs ns ≡ Some ns
  whole_one [] ns e = absurd (omega arith)
  whole_one (c ∷ []) ns e = refl
  whole_one (c ∷ (d ∷ cs)) ns e = absurd (omega arith)

  whole_none : (cs : List ℕ) (ns : List X) → length cs ≢ 1 → whole cs ns ≡ None
  whole_none [] ns e = refl
  whole_none (c ∷ []) ns e = absurd (e refl)
  whole_none (c ∷ (d ∷ cs)) ns e = refl

  -- after the last turn
  pub ends : (left : List (Piece C)) (counts : List ℕ) (nodes given : List C) (all : List (Part X)) → left ≡ [] → Reached set (map (part view) left) (built view counts nodes) all
      → length counts ≡ 1 → given ≡ reverse nodes → nodes_of set all ≡ Some (map view given)
  ends left counts nodes given all e r one g =
      all_built left counts nodes all e r ∙ whole_one (reverse counts) (map view (reverse nodes)) (length-reverse counts ∙ one) ∙ ap (λ ns. Some (map view ns)) (sym g)

  pub left_open : (left : List (Piece C)) (counts : List ℕ) (nodes : List C) (all : List (Part X)) → left ≡ [] → Reached set (map (part view) left) (built view counts nodes) all
      → length counts ≢ 1 → nodes_of set all ≡ None
  left_open left counts nodes all e r many =
      all_built left counts nodes all e r ∙ whole_none (reverse counts) (map view (reverse nodes)) (λ one. many (sym (length-reverse counts) ∙ one))
