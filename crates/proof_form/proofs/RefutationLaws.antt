-- Refutations: what is read is spelled so, and what is spelled so is read.
use Rattle.std.proofs.Common.{◌≡◌, ℕ, ◌^◌, ◌<◌, true, false, nat_eq, List, [], ◌∷◌, ◌++◌, length, codes, Some, None, inl, inr, refl, sym, ap, ◌∙◌, subst, arith, append_assoc}
use Rattle.std.specs.List.{AllByRecursion, flat_map, list_all}
use Rattle.std.proofs.lemmas.Bool.{eqb-true, ltb-true}
use Rattle.std.proofs.lemmas.List.{append-nil}
use Rattle.std.proofs.lemmas.Option.{some_pair_parts, cond_some, same_Some}
use Rattle.proof_form.specs.declared.numerals.Numeral.{Numeral}
use Rattle.proof_form.specs.Numerals.{is_numeral, numeral_text}
use Rattle.proof_form.specs.Reading.{after, number_at, item_follows, many, more_follow, all_read}
use Rattle.proof_form.specs.TreeReading.{Part, opens, closes, part_text, nodes_of}
use Rattle.proof_form.specs.Refutations as spec
use Rattle.proof_form.specs.Refutations.{RefutationNode, leaf, cut, cases}
use Rattle.proof_form.specs.RefutationReading.{part_at, parts_at, leaf_at, number_of_cut, cut_at, cases_at, end_at, piece_at, with_parts, pieces_of, refutation_of}
use Rattle.proof_form.proofs.AfterLaws.{bind_some, after_spells}
use Rattle.proof_form.proofs.ListLaws.{each_passes, no_more_texts, no_more_texts_alone, numeral_follows, which_read, Stops, space_stops, end_stops, nothing_stops}
use Rattle.proof_form.proofs.ManyLaws.{many_spell, many_read, all_was_read}
use Rattle.proof_form.proofs.RunLaws.{both_hold, number_spells, number_reads}
use Rattle.proof_form.proofs.TreeLaws.{nodes_spell, OpensAs, PartIs, tree_is_made}

-- Parts of leaves

pub part_spells : (bs : List ℕ) (p : Numeral × Numeral) (rest : List ℕ) → part_at bs ≡ Some (p, rest) → bs ≡ spec.part_text p ++ rest
unfolding part_at
part_spells bs p rest h =
    let space = bind_some (after (codes " ") bs) _ (p, rest) h in
    let row = number_at space.0 in
    let colon = bind_some (after (codes ":") row.1) _ (p, rest) space.2 in
    let made = some_pair_parts (row.0, (number_at colon.0).0) p (number_at colon.0).1 rest colon.2 in
    let after_colon : row.1 ≡ 58 ∷ (numeral_text (number_at colon.0).0 ++ (number_at colon.0).1) = after_spells (codes ":") row.1 colon.0 colon.1 ∙ ap (λ r. 58 ∷ r) (number_spells colon.0) in
    let all : bs ≡ 32 ∷ (numeral_text row.0 ++ (58 ∷ (numeral_text (number_at colon.0).0 ++ (number_at colon.0).1))) =
    after_spells (codes " ") bs space.0 space.1 ∙ ap (λ r. 32 ∷ r) (number_spells space.0 ∙ ap (λ r. numeral_text row.0 ++ r) after_colon) in
    let grouped : bs ≡ spec.part_text (row.0, (number_at colon.0).0) ++ (number_at colon.0).1 = all ∙ ap (λ r. 32 ∷ r) (sym (append_assoc (numeral_text row.0) (58 ∷ numeral_text (number_at colon.0).0) (number_at colon.0).1)) in
    grouped ∙ ap (λ r. spec.part_text (row.0, (number_at colon.0).0) ++ r) made.1 ∙ ap (λ q. spec.part_text q ++ rest) made.0

pub part_reads : (p : Numeral × Numeral) (rest : List ℕ) → spec.is_part p ≡ true → Stops rest → (item_follows (spec.part_text p ++ rest) ≡ true) × (part_at (spec.part_text p ++ rest) ≡ Some (p, rest)) × Stops (spec.part_text p ++ rest)
unfolding part_at
part_reads p rest h stops =
    let k = both_hold (is_numeral p.0) _ h in
    let behind = 58 ∷ (numeral_text p.1 ++ rest) in
    let grouped : spec.part_text p ++ rest ≡ 32 ∷ (numeral_text p.0 ++ behind) = ap (λ r. 32 ∷ r) (append_assoc (numeral_text p.0) (58 ∷ numeral_text p.1) rest) in
    let first = number_reads p.0 behind k.0 refl in
    let second = number_reads p.1 rest k.1 stops.number in
    (ap item_follows grouped ∙ numeral_follows p.0 behind k.0, ap part_at grouped ∙ rw (first, second) refl, space_stops _)

-- Pieces

-- the node as it is opened is in the grammar
abbrev Opens : RefutationNode → Type 0
Opens (leaf ps) = spec.is_refutation_node (leaf ps) ≡ true
Opens (cut column k) = spec.is_refutation_node (cut column k) ≡ true
Opens (cases c) = c ≡ 0

-- what may follow a piece
record Follows (rest : List ℕ) : Type 0 where
  stops : Stops rest
  no_item : item_follows rest ≡ false

piece_spells : (bs : List ℕ) (p : Part RefutationNode) (rest : List ℕ) → piece_at bs ≡ Some (p, rest) → bs ≡ part_text spec.refutation_head p ++ rest
unfolding piece_at
piece_spells bs p rest h = elim (which_read (after (codes ")") bs) end_at _ (p, rest) h) [
  | inl e ↦ after_spells (codes ")") bs e.0 e.1 ∙ end_spells e.0 p rest e.2
  | inr h ↦ elim (which_read (after (codes " (leaf") bs) leaf_at _ (p, rest) h) [
    | inl e ↦ after_spells (codes " (leaf") bs e.0 e.1 ∙ leaf_spells e.0 p rest e.2
    | inr h ↦ elim (which_read (after (codes " (cut ") bs) cut_at _ (p, rest) h) [
      | inl e ↦ after_spells (codes " (cut ") bs e.0 e.1 ∙ cut_spells e.0 p rest e.2
      | inr h ↦ elim (which_read (after (codes " (cases") bs) cases_at None (p, rest) h) [
        | inl e ↦ after_spells (codes " (cases") bs e.0 e.1 ∙ cases_spell e.0 p rest e.2
        | inr h ↦ absurd (let no : ⊥ = cc in no)
      ]
    ]
  ]
]
  where
    end_spells : (r : List ℕ) (p : Part RefutationNode) (rest : List ℕ) → end_at r ≡ Some (p, rest) → 41 ∷ r ≡ part_text spec.refutation_head p ++ rest
    end_spells r p rest e = let q = some_pair_parts closes p r rest e in ap (λ t. 41 ∷ t) q.1 ∙ ap (λ t. part_text spec.refutation_head t ++ rest) q.0

    cases_spell : (r : List ℕ) (p : Part RefutationNode) (rest : List ℕ) → cases_at r ≡ Some (p, rest) → codes " (cases" ++ r ≡ part_text spec.refutation_head p ++ rest
    cases_spell r p rest e = let q = some_pair_parts (opens (cases 0)) p r rest e in ap (λ t. codes " (cases" ++ t) q.1 ∙ ap (λ t. part_text spec.refutation_head t ++ rest) q.0

    cut_spells : (r : List ℕ) (p : Part RefutationNode) (rest : List ℕ) → cut_at r ≡ Some (p, rest) → codes " (cut " ++ r ≡ part_text spec.refutation_head p ++ rest
    cut_spells r p rest e =
        let column = number_at r in
        let s = bind_some (after (codes " ") column.1) (number_of_cut column.0) (p, rest) e in
        let k = number_at s.0 in
        let q = some_pair_parts (opens (cut column.0 k.0)) p k.1 rest s.2 in
        let all : r ≡ numeral_text column.0 ++ (32 ∷ (numeral_text k.0 ++ k.1)) = number_spells r ∙ ap (λ t. numeral_text column.0 ++ t) (after_spells (codes " ") column.1 s.0 s.1 ∙ ap (λ t. 32 ∷ t) (number_spells s.0)) in
        let grouped : r ≡ (numeral_text column.0 ++ (32 ∷ numeral_text k.0)) ++ k.1 = all ∙ sym (append_assoc (numeral_text column.0) (32 ∷ numeral_text k.0) k.1) in
        ap (λ t. codes " (cut " ++ t) grouped ∙ ap (λ t. part_text spec.refutation_head (opens (cut column.0 k.0)) ++ t) q.1 ∙ ap (λ t. part_text spec.refutation_head t ++ rest) q.0

    leaf_spells : (r : List ℕ) (p : Part RefutationNode) (rest : List ℕ) → leaf_at r ≡ Some (p, rest) → codes " (leaf" ++ r ≡ part_text spec.refutation_head p ++ rest
    leaf_spells r p rest e =
        let ps = bind_some (parts_at r) _ (p, rest) e in
        let q = some_pair_parts (opens (leaf ps.0.0)) p ps.0.1 rest ps.2 in
        let all = many_spell part_at item_follows spec.part_text part_spells (length r) r ps.0.0 ps.0.1 ps.1 in
        ap (λ t. codes " (leaf" ++ t) all ∙ ap (λ t. part_text spec.refutation_head (opens (leaf ps.0.0)) ++ t) q.1 ∙ ap (λ t. part_text spec.refutation_head t ++ rest) q.0

leaf_reads : (ps : List (Numeral × Numeral)) (rest : List ℕ) → spec.is_refutation_node (leaf ps) ≡ true → Follows rest → parts_at (flat_map spec.part_text ps ++ rest) ≡ Some (ps, rest)
leaf_reads ps rest h f =
    let k = both_hold (spec.is_some_list ps) _ h in
    (many_read part_at item_follows spec.part_text (λ p. spec.is_part p ≡ true) Stops (λ p r v s. part_reads p r v s)
    (length (flat_map spec.part_text ps ++ rest)) ps rest (no_more_texts spec.part_text rest (λ p. omega arith) ps) (each_passes spec.is_part ps k.1) f.stops f.no_item).0

cut_reads : (column k : Numeral) (rest : List ℕ) → spec.is_refutation_node (cut column k) ≡ true → Follows rest → cut_at ((numeral_text column ++ 32 ∷ numeral_text k) ++ rest) ≡ Some (opens (cut column k), rest)
cut_reads column k rest h f =
    let both = both_hold (is_numeral column) _ h in
    let behind = 32 ∷ (numeral_text k ++ rest) in
    let grouped : (numeral_text column ++ 32 ∷ numeral_text k) ++ rest ≡ numeral_text column ++ behind = append_assoc (numeral_text column) (32 ∷ numeral_text k) rest in
    let first = number_reads column behind both.0 refl in
    let second = number_reads k rest both.1 f.stops.number in
    ap cut_at grouped ∙ rw (first, second) refl

piece_reads : (p : Part RefutationNode) (rest : List ℕ) → PartIs spec.refutation_head spec.refutation_parts Opens p → Follows rest
    → (more_follow (part_text spec.refutation_head p ++ rest) ≡ true) × (piece_at (part_text spec.refutation_head p ++ rest) ≡ Some (p, rest)) × Follows (part_text spec.refutation_head p ++ rest)
unfolding piece_at
piece_reads closes rest v f = (refl, refl, record { stops = end_stops rest; no_item = refl })
piece_reads (opens (leaf ps)) rest v f = (refl, rw (leaf_reads ps rest v f) refl, record { stops = space_stops _; no_item = refl })
piece_reads (opens (cut column k)) rest v f = (refl, rw (cut_reads column k rest v f) refl, record { stops = space_stops _; no_item = refl })
piece_reads (opens (cases c)) rest v f = (refl, ap (λ (n : ℕ). Some (opens (cases n), rest)) (sym v), record { stops = space_stops _; no_item = refl })

pieces_spell : (bs : List ℕ) (ps : List (Part RefutationNode)) → pieces_of bs ≡ Some ps → bs ≡ flat_map (part_text spec.refutation_head) ps
unfolding pieces_of
pieces_spell bs ps h =
    let x = bind_some (many piece_at more_follow (length bs) bs) all_read ps h in
    let all = many_spell piece_at more_follow (part_text spec.refutation_head) piece_spells (length bs) bs x.0.0 x.0.1 x.1 in
    let whole = all_was_read x.0.0 ps x.0.1 x.2 in
    all ∙ ap (λ r. flat_map (part_text spec.refutation_head) x.0.0 ++ r) whole.0 ∙ append-nil (flat_map (part_text spec.refutation_head) x.0.0) ∙ ap (flat_map (part_text spec.refutation_head)) whole.1

pieces_read : (ps : List (Part RefutationNode)) → AllByRecursion (PartIs spec.refutation_head spec.refutation_parts Opens) ps → pieces_of (flat_map (part_text spec.refutation_head) ps) ≡ Some ps
unfolding pieces_of
pieces_read ps v =
    let text = flat_map (part_text spec.refutation_head) ps in
    let r = many_read piece_at more_follow (part_text spec.refutation_head) (PartIs spec.refutation_head spec.refutation_parts Opens) Follows piece_reads (length text) ps []
    (no_more_texts_alone (part_text spec.refutation_head) some_text ps) v (record { stops = nothing_stops; no_item = refl }) refl in
    let whole = subst (λ bs. many piece_at more_follow (length text) bs ≡ Some (ps, [])) (append-nil text) r.0 in
    rw whole refl
  where
    some_text : (p : Part RefutationNode) → 0 < length (part_text spec.refutation_head p)
    some_text closes = omega arith
    some_text (opens (leaf ps)) = omega arith
    some_text (opens (cut column k)) = omega arith
    some_text (opens (cases n)) = omega arith

-- Refutations

sets : (n m : RefutationNode) (c : ℕ) → with_parts n c ≡ Some m → (spec.refutation_head m ≡ spec.refutation_head n) × (spec.refutation_parts m ≡ c)
sets (leaf ps) m c h = let k = cond_some (nat_eq c 0) (leaf ps) m h in (ap spec.refutation_head (sym k.1), ap spec.refutation_parts (sym k.1) ∙ sym (eqb-true c 0 k.0))
sets (cut column k) m c h = let j = cond_some (nat_eq c 2) (cut column k) m h in (ap spec.refutation_head (sym j.1), ap spec.refutation_parts (sym j.1) ∙ sym (eqb-true c 2 j.0))
sets (cases n) m c h = let e = same_Some (cases c) m h in (ap spec.refutation_head (sym e), ap spec.refutation_parts (sym e))

-- what is read is spelled so
pub refutation_spells : (bs : List ℕ) (ns : List RefutationNode) → refutation_of bs ≡ Some ns → bs ≡ spec.refutation_text ns
unfolding refutation_of
refutation_spells bs ns h =
    let ps = bind_some (pieces_of bs) (nodes_of with_parts) ns h in
    pieces_spell bs ps.0 ps.1 ∙ nodes_spell spec.refutation_head spec.refutation_parts with_parts sets ps.0 ns ps.2

node_opens : (n : RefutationNode) → spec.is_refutation_node n ≡ true → OpensAs spec.refutation_head spec.refutation_parts Opens with_parts n
node_opens (leaf ps) h = record { bare = leaf ps; is = h; counted = refl; head_is = refl; small = omega arith }
node_opens (cut column k) h = record { bare = cut column k; is = h; counted = refl; head_is = refl; small = omega arith }
node_opens (cases n) h = record { bare = cases 0; is = refl; counted = refl; head_is = refl; small = ltb-true n (2 ^ 32) h }

nodes_open : (ns : List RefutationNode) → list_all spec.is_refutation_node ns ≡ true → AllByRecursion (OpensAs spec.refutation_head spec.refutation_parts Opens with_parts) ns
nodes_open [] h = tt
nodes_open (n ∷ ns) h = let k = both_hold (spec.is_refutation_node n) _ h in (node_opens n k.0, nodes_open ns k.1)

-- what is spelled so is read
pub refutation_reads : (ns : List RefutationNode) → spec.is_refutation ns ≡ true → refutation_of (spec.refutation_text ns) ≡ Some ns
unfolding refutation_of
refutation_reads ns h =
    let k = both_hold (list_all spec.is_refutation_node ns) _ h in
    let w = tree_is_made spec.refutation_head spec.refutation_parts Opens with_parts ns (nodes_open ns k.0) k.1 in
    ap refutation_of (sym w.spelled) ∙ rw (pieces_read w.pieces w.are) w.made
