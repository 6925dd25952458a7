-- The predicate of a line, from its procedure and its nodes.
use Rattle.std.proofs.Common.{◌≡◌, ◌≢◌, ◌∙◌, ◌+◌, ◌<◌, ◌≤◌, ℕ, ◌&&◌, Bool, true, false, Option, None, Some, List, [], ◌∷◌, length, drop, get_or, refl, ap, sym, arith}
use Rattle.std.specs.Prelude.{ℤ, map, IsTrue, nat_eq, if◌then◌else◌}
use Rattle.std.specs.List.{list_all}
use Rattle.std.specs.Option.{option_map, option_and_then}
use Rattle.std.proofs.lemmas.Bool.{eqb-true}
use Rattle.std.proofs.lemmas.List.{drop_all, drop_more, append-nil}
use Rattle.lin_rows.specs.Rows.{LinearRow}
use Rattle.lin_rows.specs.Sums.{summed}
use Rattle.boogie_tree.specs.Names.{is_spelled}
use Rattle.letter_acts.specs.Frames.{Columns}
use Rattle.letter_acts.specs.Acts.{frame_of}
use Rattle.letter_acts.specs.Invariant.{Graph, alphabet_of}
use Rattle.triple_rows.specs.declared.predicates.PredNode.{PredNode}
use Rattle.triple_rows.specs.Predicates.{SpellsPredicate, IsAtom}
use Rattle.proof_form.specs.declared.numerals.Numeral.{Numeral}
use Rattle.proof_form.specs.declared.predicates.PNode.{PNode}
use Rattle.proof_form.specs.declared.lines.PredLine.{PredLine}
use Rattle.proof_form.specs.Predicates as form
use Rattle.proof_form.specs.Predicates.{PredicateNode, atom, and_of, or_of, is_term}
use Rattle.proof_form.specs.Refutations.{is_some_list}
use Rattle.proof_form.specs.Numerals.{is_numeral}
use Rattle.proof_form.specs.Lines as lines
use Rattle.proof_form.proofs.RunLaws.{both_hold}
use Rattle.proof_names.specs.Numbers.{number_in}
use Rattle.proof_names.specs.Options.{both, with_first, all_some}
use Rattle.proof_names.specs.Columns.{procedure_named}
use Rattle.proof_names.specs.Predicates.{term_named, scoped_of}
use Rattle.proof_names.proofs.AllLaws.{with_front, Found, mapped_twice}
use Rattle.proof_names.proofs.SpelledLaws.{NamesNodes, atom_of, some_terms, nodes_spell_so}
use Rattle.proof_reuse.specs.Found.{in_order, row_of_terms, row_found, node_found, scoped_found, pred_found}

-- ---- atoms

no_length : {X : Type 0} (xs : List X) → length xs ≡ 0 → xs ≡ []
no_length [] e = refl
no_length (x ∷ xs) e = absurd (omega arith)

ordered_atom : (d : Bool) (ts : List (ℕ × ℤ)) (b : Option ℤ) (row : LinearRow) → ts ≢ [] → nat_eq (length (summed ts)) (length ts) ≡ d →
    option_map row_of_terms (both (if d then Some (summed ts) else None) b) ≡ Some row → IsAtom row
ordered_atom false ts b row n e h = absurd (cc)
ordered_atom true ts None row n e h = absurd (cc)
ordered_atom true ts (Some z) row n e h =
    let k : row_of_terms (summed ts, z) ≡ row = cc in
    let l = eqb-true (length (summed ts)) (length ts) e in
    record {
      inequality = ap (λ (x : LinearRow). x.kind) (sym k);
      has_term = λ f. n (no_length ts (sym l ∙ ap length (ap (λ (x : LinearRow). x.terms) k ∙ f)));
    }

found_atom : (o : Option (List (ℕ × ℤ))) (b : Option ℤ) (row : LinearRow) → ((l : List (ℕ × ℤ)) → o ≡ Some l → l ≢ []) →
    option_map row_of_terms (both (option_and_then in_order o) b) ≡ Some row → IsAtom row
found_atom None b row h e = absurd (cc)
found_atom (Some ts) b row h e = ordered_atom (nat_eq (length (summed ts)) (length ts)) ts b row (h ts refl) refl e

names_nodes : (frame : Columns) → NamesNodes (node_found frame)
names_nodes frame = record {
  atoms = λ bound terms m g e.
      let i = both_hold (is_numeral bound) (is_some_list terms && list_all is_term terms) g in
      let j = both_hold (is_some_list terms) (list_all is_term terms) i.1 in
      atom_of (row_found frame bound terms) m
      (λ row r. found_atom (all_some (map (term_named frame) terms)) (number_in bound) row (λ l k. some_terms frame terms l j.0 k) r) e;
  ands = λ k m e. cc;
  ors = λ k m e. cc;
}

-- without a number there is no inequality
pub no_bound : (o : Option (List (ℕ × ℤ))) → None ≡ option_map row_of_terms (both o None)
no_bound None = refl
no_bound (Some ts) = refl

pub with_bound : (o : Option (List (ℕ × ℤ))) (bound : ℤ) → option_map (λ us. row_of_terms (us, bound)) o ≡ option_map row_of_terms (both o (Some bound))
with_bound None bound = refl
with_bound (Some ts) bound = refl

-- the inequality of an atom whose columns and bound are found
pub atom_found : (frame : Columns) (bound : Numeral) (terms : List (Numeral × List ℕ)) (ts : List (ℕ × ℤ)) (z : ℤ) (o : Option LinearRow) → Some ts ≡ all_some (map (term_named frame) terms) →
    Some z ≡ number_in bound → o ≡ option_map (λ us. row_of_terms (us, z)) (in_order ts) → o ≡ row_found frame bound terms
atom_found frame bound terms ts z o n k e =
    e ∙ with_bound (in_order ts) z ∙ ap (λ (q : Option (List (ℕ × ℤ))). option_map row_of_terms (both (option_and_then in_order q) (Some z))) n ∙
    ap (λ (q : Option ℤ). option_map row_of_terms (both (option_and_then in_order (all_some (map (term_named frame) terms))) q)) k

pub bound_lost : (frame : Columns) (bound : Numeral) (terms : List (Numeral × List ℕ)) → None ≡ number_in bound → None ≡ row_found frame bound terms
bound_lost frame bound terms k =
    no_bound (option_and_then in_order (all_some (map (term_named frame) terms))) ∙
    ap (λ (q : Option ℤ). option_map row_of_terms (both (option_and_then in_order (all_some (map (term_named frame) terms))) q)) k

pub terms_lost : (frame : Columns) (bound : Numeral) (terms : List (Numeral × List ℕ)) → None ≡ all_some (map (term_named frame) terms) → None ≡ row_found frame bound terms
terms_lost frame bound terms n =
    ap (λ (q : Option (List (ℕ × ℤ))). option_map row_of_terms (both (option_and_then in_order q) (number_in bound))) n

-- ---- values that are found one after another: at the start, at a member without one, and at the end

nothing_in_front : {X : Type 0} (o : Option (List X)) → o ≡ with_front [] o
nothing_in_front None = refl
nothing_in_front (Some xs) = refl

pub found_start : {X Y : Type 0} (f : X → Option Y) (xs : List X) (ys : List Y) → ys ≡ [] → Found f xs 0 ys
found_start f xs ys e = record {
  within = omega arith;
  all = nothing_in_front (all_some (map f xs)) ∙ ap (λ zs. with_front zs (all_some (map f xs))) (sym e);
}

pub found_none : {X Y : Type 0} (f : X → Option Y) (xs : List X) (i : ℕ) (ys : List Y) (x : X) → Found f xs i ys → i < length xs → x ≡ get_or xs i x →
    None ≡ f x → None ≡ all_some (map f xs)
found_none f xs i ys x h l e n =
    sym (h.all ∙ ap (λ zs. with_front ys (all_some (map f zs))) (drop_more xs i x l) ∙
    ap (λ z. with_front ys (with_first (f z) (all_some (map f (drop (i + 1) xs))))) (sym e) ∙
    ap (λ o. with_front ys (with_first o (all_some (map f (drop (i + 1) xs))))) (sym n))

pub found_end : {X Y : Type 0} (f : X → Option Y) (xs : List X) (i : ℕ) (ys : List Y) → Found f xs i ys → length xs ≤ i → Some ys ≡ all_some (map f xs)
found_end f xs i ys h l =
    sym (h.all ∙ ap (λ zs. with_front ys (all_some (map f zs))) (drop_all i xs l) ∙ ap Some (append-nil ys))

-- ---- lines

nodes_as : (frame : Columns) (ns : List PNode) (o : Option (List PredNode)) → o ≡ all_some (map (λ n. node_found frame (form.plain_predicate_node n)) ns) →
    o ≡ all_some (map (node_found frame) (map form.plain_predicate_node ns))
nodes_as frame ns o e = e ∙ ap all_some (sym (mapped_twice (node_found frame) form.plain_predicate_node ns))

pub found_as : (g : Graph) (line : PredLine) (p : ℕ) (o : Option (List PredNode)) → Some p ≡ procedure_named g line.proc →
    o ≡ all_some (map (λ n. node_found (frame_of (alphabet_of g) p) (form.plain_predicate_node n)) line.nodes.items) → option_map (scoped_of p) o ≡ pred_found g (lines.pred line)
found_as g line p o h e =
    ap (option_map (scoped_of p)) (nodes_as (frame_of (alphabet_of g) p) line.nodes.items o e) ∙ ap (scoped_found g (map form.plain_predicate_node line.nodes.items)) h

pub line_spells : (g : Graph) (line : PredLine) (p : ℕ) (nodes : List PredNode) → IsTrue (lines.is_pred (lines.pred line)) →
    Some nodes ≡ all_some (map (λ n. node_found (frame_of (alphabet_of g) p) (form.plain_predicate_node n)) line.nodes.items) → SpellsPredicate nodes
line_spells g line p nodes h e =
    let b = both_hold (is_spelled line.proc) (form.is_predicate (map form.plain_predicate_node line.nodes.items)) h in
    nodes_spell_so (node_found (frame_of (alphabet_of g) p)) (names_nodes (frame_of (alphabet_of g) p)) (map form.plain_predicate_node line.nodes.items) nodes b.1
    (sym (nodes_as (frame_of (alphabet_of g) p) line.nodes.items (Some nodes) e))

-- the nodes that were found over the columns and the nodes of the line
pub columns_are : {frame given : Columns} {ns items : List PNode} {o : Option (List PredNode)} → frame ≡ given → ns ≡ items →
    o ≡ all_some (map (λ n. node_found frame (form.plain_predicate_node n)) ns) → o ≡ all_some (map (λ n. node_found given (form.plain_predicate_node n)) items)
columns_are {frame} {given} {ns} {items} {o} e f h =
    h ∙ ap (λ (c : Columns). all_some (map (λ n. node_found c (form.plain_predicate_node n)) ns)) e ∙ ap (λ (l : List PNode). all_some (map (λ n. node_found given (form.plain_predicate_node n)) l)) f
