-- Predicates: what is read is spelled so, and what is spelled so is read.
use Rattle.std.proofs.Common.{◌≡◌, ℕ, ◌^◌, ◌<◌, true, false, not, nat_eq, nat_le, List, [], ◌∷◌, ◌++◌, length, codes, Some, None, inl, inr, refl, sym, ap, ◌∙◌, subst, arith, append_assoc}
use Rattle.std.specs.List.{AllByRecursion, flat_map, list_all, prefix_len}
use Rattle.std.proofs.lemmas.Bool.{eqb-true, ltb-true}
use Rattle.std.proofs.lemmas.List.{append-nil}
use Rattle.std.proofs.lemmas.Option.{some_pair_parts, cond_some, same_Some}
use Rattle.proof_form.specs.declared.numerals.Numeral.{Numeral}
use Rattle.proof_form.specs.Numerals.{is_numeral, is_zero_text, numeral_text}
use Rattle.proof_form.specs.Reading.{after, number_at, word_at, is_number_byte, item_follows, many, more_follow, all_read}
use Rattle.proof_form.specs.Trees.{is_tree}
use Rattle.proof_form.specs.TreeReading.{Part, opens, closes, part_text, nodes_of}
use Rattle.proof_form.specs.Predicates as spec
use Rattle.proof_form.specs.Refutations.{is_some_list}
use Rattle.proof_form.specs.Predicates.{PredicateNode, atom, and_of, or_of}
use Rattle.proof_form.specs.PredicateReading.{term_at, terms_at, atom_at, and_at, or_at, end_at, piece_at, with_parts, pieces_of, predicate_of}
use Rattle.proof_form.proofs.AfterLaws.{bind_some, after_spells}
use Rattle.proof_form.proofs.ListLaws.{each_passes, no_more_texts, no_more_texts_alone, numeral_follows, which_read, Stops, space_stops, end_stops, nothing_stops}
use Rattle.proof_form.proofs.ManyLaws.{many_spell, many_read, all_was_read}
use Rattle.proof_form.proofs.RunLaws.{both_hold, number_spells, number_reads, word_spells, column_reads}
use Rattle.proof_form.proofs.TreeLaws.{nodes_spell, OpensAs, PartIs, tree_is_made}

-- Terms of atoms

pub term_spells : (bs : List ℕ) (t : Numeral × List ℕ) (rest : List ℕ) → term_at bs ≡ Some (t, rest) → bs ≡ spec.term_text t ++ rest
unfolding term_at
term_spells bs t rest h =
    let space = bind_some (after (codes " ") bs) _ (t, rest) h in
    let number = number_at space.0 in
    let second = bind_some (after (codes " ") number.1) _ (t, rest) space.2 in
    let made = some_pair_parts (number.0, (word_at second.0).0) t (word_at second.0).1 rest second.2 in
    let behind : number.1 ≡ 32 ∷ ((word_at second.0).0 ++ (word_at second.0).1) = after_spells (codes " ") number.1 second.0 second.1 ∙ ap (λ r. 32 ∷ r) (word_spells second.0) in
    let all : bs ≡ 32 ∷ (numeral_text number.0 ++ (32 ∷ ((word_at second.0).0 ++ (word_at second.0).1))) =
    after_spells (codes " ") bs space.0 space.1 ∙ ap (λ r. 32 ∷ r) (number_spells space.0 ∙ ap (λ r. numeral_text number.0 ++ r) behind) in
    let grouped : bs ≡ spec.term_text (number.0, (word_at second.0).0) ++ (word_at second.0).1 = all ∙ ap (λ r. 32 ∷ r) (sym (append_assoc (numeral_text number.0) (32 ∷ (word_at second.0).0) (word_at second.0).1)) in
    grouped ∙ ap (λ r. spec.term_text (number.0, (word_at second.0).0) ++ r) made.1 ∙ ap (λ q. spec.term_text q ++ rest) made.0

pub term_reads : (t : Numeral × List ℕ) (rest : List ℕ) → spec.is_term t ≡ true → Stops rest → (item_follows (spec.term_text t ++ rest) ≡ true) × (term_at (spec.term_text t ++ rest) ≡ Some (t, rest)) × Stops (spec.term_text t ++ rest)
unfolding term_at
term_reads t rest h stops =
    let k = both_hold (is_numeral t.0) _ h in
    let j = both_hold (not (is_zero_text t.0.digits)) _ k.1 in
    let behind = 32 ∷ (t.1 ++ rest) in
    let grouped : spec.term_text t ++ rest ≡ 32 ∷ (numeral_text t.0 ++ behind) = ap (λ r. 32 ∷ r) (append_assoc (numeral_text t.0) (32 ∷ t.1) rest) in
    let first = number_reads t.0 behind k.0 refl in
    let second = column_reads t.1 rest j.1 stops.word in
    (ap item_follows grouped ∙ numeral_follows t.0 behind k.0, ap term_at grouped ∙ rw (first, second) refl, space_stops _)

-- Pieces

-- the node as it is opened is in the grammar
abbrev Opens : PredicateNode → Type 0
Opens (atom bound terms) = spec.is_predicate_node (atom bound terms) ≡ true
Opens (and_of c) = c ≡ 0
Opens (or_of c) = c ≡ 0

-- what may follow a piece
record Follows (rest : List ℕ) : Type 0 where
  stops : Stops rest
  no_item : item_follows rest ≡ false

piece_spells : (bs : List ℕ) (p : Part PredicateNode) (rest : List ℕ) → piece_at bs ≡ Some (p, rest) → bs ≡ part_text spec.head p ++ rest
unfolding piece_at
piece_spells bs p rest h = elim (which_read (after (codes ")") bs) end_at _ (p, rest) h) [
  | inl e ↦ after_spells (codes ")") bs e.0 e.1 ∙ end_spells e.0 p rest e.2
  | inr h ↦ elim (which_read (after (codes " (le ") bs) atom_at _ (p, rest) h) [
    | inl e ↦ after_spells (codes " (le ") bs e.0 e.1 ∙ atom_spells e.0 p rest e.2
    | inr h ↦ elim (which_read (after (codes " (and") bs) and_at _ (p, rest) h) [
      | inl e ↦ after_spells (codes " (and") bs e.0 e.1 ∙ and_spells e.0 p rest e.2
      | inr h ↦ elim (which_read (after (codes " (or") bs) or_at None (p, rest) h) [
        | inl e ↦ after_spells (codes " (or") bs e.0 e.1 ∙ or_spells e.0 p rest e.2
        | inr h ↦ absurd (let no : ⊥ = cc in no)
      ]
    ]
  ]
]
  where
    end_spells : (r : List ℕ) (p : Part PredicateNode) (rest : List ℕ) → end_at r ≡ Some (p, rest) → 41 ∷ r ≡ part_text spec.head p ++ rest
    end_spells r p rest e = let q = some_pair_parts closes p r rest e in ap (λ t. 41 ∷ t) q.1 ∙ ap (λ t. part_text spec.head t ++ rest) q.0

    and_spells : (r : List ℕ) (p : Part PredicateNode) (rest : List ℕ) → and_at r ≡ Some (p, rest) → codes " (and" ++ r ≡ part_text spec.head p ++ rest
    and_spells r p rest e = let q = some_pair_parts (opens (and_of 0)) p r rest e in ap (λ t. codes " (and" ++ t) q.1 ∙ ap (λ t. part_text spec.head t ++ rest) q.0

    or_spells : (r : List ℕ) (p : Part PredicateNode) (rest : List ℕ) → or_at r ≡ Some (p, rest) → codes " (or" ++ r ≡ part_text spec.head p ++ rest
    or_spells r p rest e = let q = some_pair_parts (opens (or_of 0)) p r rest e in ap (λ t. codes " (or" ++ t) q.1 ∙ ap (λ t. part_text spec.head t ++ rest) q.0

    atom_spells : (r : List ℕ) (p : Part PredicateNode) (rest : List ℕ) → atom_at r ≡ Some (p, rest) → codes " (le " ++ r ≡ part_text spec.head p ++ rest
    atom_spells r p rest e =
        let bound = number_at r in
        let ts = bind_some (terms_at bound.1) _ (p, rest) e in
        let q = some_pair_parts (opens (atom bound.0 ts.0.0)) p ts.0.1 rest ts.2 in
        let all = number_spells r ∙ ap (λ t. numeral_text bound.0 ++ t) (many_spell term_at item_follows spec.term_text term_spells (length bound.1) bound.1 ts.0.0 ts.0.1 ts.1)
        ∙ sym (append_assoc (numeral_text bound.0) (flat_map spec.term_text ts.0.0) ts.0.1) in
        ap (λ t. codes " (le " ++ t) all ∙ ap (λ t. part_text spec.head (opens (atom bound.0 ts.0.0)) ++ t) q.1 ∙ ap (λ t. part_text spec.head t ++ rest) q.0

no_number : (ts : List (Numeral × List ℕ)) (rest : List ℕ) → Stops rest → prefix_len is_number_byte (flat_map spec.term_text ts ++ rest) ≡ 0
no_number [] rest s = s.number
no_number (t ∷ ts) rest s = refl

atom_reads : (bound : Numeral) (ts : List (Numeral × List ℕ)) (rest : List ℕ) → spec.is_predicate_node (atom bound ts) ≡ true → Follows rest → atom_at ((numeral_text bound ++ flat_map spec.term_text ts) ++ rest) ≡ Some (opens (atom bound ts), rest)
atom_reads bound ts rest h f =
    let k = both_hold (is_numeral bound) _ h in
    let j = both_hold (is_some_list ts) _ k.1 in
    let behind = flat_map spec.term_text ts ++ rest in
    let read = (many_read term_at item_follows spec.term_text (λ t. spec.is_term t ≡ true) Stops (λ t r v s. term_reads t r v s)
    (length behind) ts rest (no_more_texts spec.term_text rest (λ t. omega arith) ts) (each_passes spec.is_term ts j.1) f.stops f.no_item).0 in
    let first = number_reads bound behind k.0 (no_number ts rest f.stops) in
    ap atom_at (append_assoc (numeral_text bound) (flat_map spec.term_text ts) rest) ∙ rw (first, read) refl

piece_reads : (p : Part PredicateNode) (rest : List ℕ) → PartIs spec.head spec.parts Opens p → Follows rest
    → (more_follow (part_text spec.head p ++ rest) ≡ true) × (piece_at (part_text spec.head p ++ rest) ≡ Some (p, rest)) × Follows (part_text spec.head p ++ rest)
unfolding piece_at
piece_reads closes rest v f = (refl, refl, record { stops = end_stops rest; no_item = refl })
piece_reads (opens (atom bound ts)) rest v f = (refl, rw (atom_reads bound ts rest v f) refl, record { stops = space_stops _; no_item = refl })
piece_reads (opens (and_of c)) rest v f = (refl, ap (λ (n : ℕ). Some (opens (and_of n), rest)) (sym v), record { stops = space_stops _; no_item = refl })
piece_reads (opens (or_of c)) rest v f = (refl, ap (λ (n : ℕ). Some (opens (or_of n), rest)) (sym v), record { stops = space_stops _; no_item = refl })

pieces_spell : (bs : List ℕ) (ps : List (Part PredicateNode)) → pieces_of bs ≡ Some ps → bs ≡ flat_map (part_text spec.head) ps
unfolding pieces_of
pieces_spell bs ps h =
    let x = bind_some (many piece_at more_follow (length bs) bs) all_read ps h in
    let all = many_spell piece_at more_follow (part_text spec.head) piece_spells (length bs) bs x.0.0 x.0.1 x.1 in
    let whole = all_was_read x.0.0 ps x.0.1 x.2 in
    all ∙ ap (λ r. flat_map (part_text spec.head) x.0.0 ++ r) whole.0 ∙ append-nil (flat_map (part_text spec.head) x.0.0) ∙ ap (flat_map (part_text spec.head)) whole.1

pieces_read : (ps : List (Part PredicateNode)) → AllByRecursion (PartIs spec.head spec.parts Opens) ps → pieces_of (flat_map (part_text spec.head) ps) ≡ Some ps
unfolding pieces_of
pieces_read ps v =
    let text = flat_map (part_text spec.head) ps in
    let r = many_read piece_at more_follow (part_text spec.head) (PartIs spec.head spec.parts Opens) Follows piece_reads (length text) ps []
    (no_more_texts_alone (part_text spec.head) some_text ps) v (record { stops = nothing_stops; no_item = refl }) refl in
    let whole = subst (λ bs. many piece_at more_follow (length text) bs ≡ Some (ps, [])) (append-nil text) r.0 in
    rw whole refl
  where
    some_text : (p : Part PredicateNode) → 0 < length (part_text spec.head p)
    some_text closes = omega arith
    some_text (opens (atom bound ts)) = omega arith
    some_text (opens (and_of n)) = omega arith
    some_text (opens (or_of n)) = omega arith

-- Predicates

sets : (n m : PredicateNode) (c : ℕ) → with_parts n c ≡ Some m → (spec.head m ≡ spec.head n) × (spec.parts m ≡ c)
sets (atom bound ts) m c h = let k = cond_some (nat_eq c 0) (atom bound ts) m h in (ap spec.head (sym k.1), ap spec.parts (sym k.1) ∙ sym (eqb-true c 0 k.0))
sets (and_of n) m c h = let e = same_Some (and_of c) m h in (ap spec.head (sym e), ap spec.parts (sym e))
sets (or_of n) m c h = let e = same_Some (or_of c) m h in (ap spec.head (sym e), ap spec.parts (sym e))

-- what is read is spelled so
pub predicate_spells : (bs : List ℕ) (ns : List PredicateNode) → predicate_of bs ≡ Some ns → bs ≡ spec.predicate_text ns
unfolding predicate_of
predicate_spells bs ns h =
    let ps = bind_some (pieces_of bs) (nodes_of with_parts) ns h in
    pieces_spell bs ps.0 ps.1 ∙ nodes_spell spec.head spec.parts with_parts sets ps.0 ns ps.2

node_opens : (n : PredicateNode) → spec.is_predicate_node n ≡ true → OpensAs spec.head spec.parts Opens with_parts n
node_opens (atom bound ts) h = record { bare = atom bound ts; is = h; counted = refl; head_is = refl; small = omega arith }
node_opens (and_of n) h = record { bare = and_of 0; is = refl; counted = refl; head_is = refl; small = ltb-true n (2 ^ 32) (both_hold (nat_le 2 n) _ h).1 }
node_opens (or_of n) h = record { bare = or_of 0; is = refl; counted = refl; head_is = refl; small = ltb-true n (2 ^ 32) (both_hold (nat_le 2 n) _ h).1 }

nodes_open : (ns : List PredicateNode) → list_all spec.is_predicate_node ns ≡ true → AllByRecursion (OpensAs spec.head spec.parts Opens with_parts) ns
nodes_open [] h = tt
nodes_open (n ∷ ns) h = let k = both_hold (spec.is_predicate_node n) _ h in (node_opens n k.0, nodes_open ns k.1)

-- what is spelled so is read
pub predicate_reads : (ns : List PredicateNode) → spec.is_predicate ns ≡ true → predicate_of (spec.predicate_text ns) ≡ Some ns
unfolding predicate_of
predicate_reads ns h =
    let k = both_hold (list_all spec.is_predicate_node ns) _ h in
    let w = tree_is_made spec.head spec.parts Opens with_parts ns (nodes_open ns k.0) (both_hold (is_tree spec.parts ns) _ k.1).0 in
    ap predicate_of (sym w.spelled) ∙ rw (pieces_read w.pieces w.are) w.made
