-- The predicate of a line, from its procedure and its nodes.
use Rattle.std.proofs.Common.{◌≡◌, ◌∙◌, ℕ, ◌&&◌, Bool, Option, Some, List, [], ◌∷◌, refl, inl, ap, sym}
use Rattle.std.specs.Prelude.{map, IsTrue}
use Rattle.std.specs.List.{list_all}
use Rattle.std.specs.Option.{option_map}
use Rattle.std.proofs.lemmas.List.Folds.{list_all-map}
use Rattle.boogie_tree.specs.Names.{is_spelled}
use Rattle.letter_acts.specs.Frames.{Columns}
use Rattle.letter_acts.specs.Acts.{frame_of}
use Rattle.letter_acts.specs.Invariant.{Graph, alphabet_of}
use Rattle.triple_rows.specs.declared.predicates.PredNode.{PredNode}
use Rattle.triple_rows.specs.declared.predicates.PredNode.TheVariants.{Truth}
use Rattle.triple_rows.specs.Predicates.{SpellsPredicate, truth}
use Rattle.proof_form.specs.declared.predicates.PNode.{PNode}
use Rattle.proof_form.specs.declared.lines.PredLine.{PredLine}
use Rattle.proof_form.specs.Predicates as form
use Rattle.proof_form.specs.Lines as lines
use Rattle.proof_form.specs.Trees.{is_tree}
use Rattle.proof_form.proofs.RunLaws.{both_hold}
use Rattle.proof_names.specs.Options.{all_some}
use Rattle.proof_names.specs.Columns.{procedure_named}
use Rattle.proof_names.specs.Predicates.{node_named, scoped_of, scoped_named, pred_named}
use Rattle.proof_names.proofs.AllLaws.{mapped_twice}
use Rattle.proof_names.proofs.SpelledLaws.{nodes_spell}

nodes_as : (frame : Columns) (ns : List PNode) (o : Option (List PredNode)) → o ≡ all_some (map (λ n. node_named frame (form.plain_predicate_node n)) ns) →
    o ≡ all_some (map (node_named frame) (map form.plain_predicate_node ns))
nodes_as frame ns o e = e ∙ ap all_some (sym (mapped_twice (node_named frame) form.plain_predicate_node ns))

pub named_as : (g : Graph) (line : PredLine) (p : ℕ) (o : Option (List PredNode)) → Some p ≡ procedure_named g line.proc →
    o ≡ all_some (map (λ n. node_named (frame_of (alphabet_of g) p) (form.plain_predicate_node n)) line.nodes.items) → option_map (scoped_of p) o ≡ pred_named g (lines.pred line)
named_as g line p o h e =
    ap (option_map (scoped_of p)) (nodes_as (frame_of (alphabet_of g) p) line.nodes.items o e) ∙ ap (scoped_named g (map form.plain_predicate_node line.nodes.items)) h

pub line_spells : (g : Graph) (line : PredLine) (p : ℕ) (nodes : List PredNode) → IsTrue (lines.is_pred (lines.pred line)) →
    Some nodes ≡ all_some (map (λ n. node_named (frame_of (alphabet_of g) p) (form.plain_predicate_node n)) line.nodes.items) → SpellsPredicate nodes
line_spells g line p nodes h e =
    let b = both_hold (is_spelled line.proc) (form.is_predicate (map form.plain_predicate_node line.nodes.items)) h in
    nodes_spell (frame_of (alphabet_of g) p) (map form.plain_predicate_node line.nodes.items) nodes b.1 (sym (nodes_as (frame_of (alphabet_of g) p) line.nodes.items (Some nodes) e))

pub nodes_hold : (line : PredLine) (ns : List PNode) → IsTrue (lines.is_pred (lines.pred line)) → ns ≡ line.nodes.items → IsTrue (list_all (λ n. form.is_predicate_node (form.plain_predicate_node n)) ns)
nodes_hold line ns h e =
    let b = both_hold (is_spelled line.proc) (form.is_predicate (map form.plain_predicate_node line.nodes.items)) h in
    let d = both_hold (list_all form.is_predicate_node (map form.plain_predicate_node line.nodes.items))
    (is_tree form.parts (map form.plain_predicate_node line.nodes.items) && form.are_low (map form.plain_predicate_node line.nodes.items)) b.1 in
    ap (list_all (λ n. form.is_predicate_node (form.plain_predicate_node n))) e ∙ sym (list_all-map form.is_predicate_node form.plain_predicate_node line.nodes.items) ∙ d.0

-- the nodes that were found over the columns and the nodes of the line
pub columns_are : {frame given : Columns} {ns items : List PNode} {o : Option (List PredNode)} → frame ≡ given → ns ≡ items →
    o ≡ all_some (map (λ n. node_named frame (form.plain_predicate_node n)) ns) → o ≡ all_some (map (λ n. node_named given (form.plain_predicate_node n)) items)
columns_are {frame} {given} {ns} {items} {o} e f h =
    h ∙ ap (λ (c : Columns). all_some (map (λ n. node_named c (form.plain_predicate_node n)) ns)) e ∙ ap (λ (l : List PNode). all_some (map (λ n. node_named given (form.plain_predicate_node n)) l)) f

pub truth_spells : (b : Bool) → SpellsPredicate (Truth b ∷ [])
truth_spells b = (truth b, refl, inl tt)
