-- What is read of the prefix list of a refutation of a word's rows is its tree.
use Rattle.std.proofs.Common.{◌≡◌, ◌∙◌, ℕ, List, [], ◌∷◌, map, sym, ap, subst}
use Rattle.std.proofs.lemmas.List.{append-nil}
use Rattle.farkas_check.specs.Nodes.{PlainNode}
use Rattle.farkas_check.specs.Refutes.{at_most, above}
use Rattle.farkas_check.specs.Trees.{Tree, leaf_tree, cut_tree, cases_tree, prefix_of, TreeRefutes}
use Rattle.nwa_base.specs.declared.letters.Letter.{Letter}
use Rattle.letter_acts.specs.Invariant.{Graph}
use Rattle.path_rows.specs.Paths.{path_of}
use Rattle.nested_itp.specs.NestedPredicates.Stamps.{stamps_of}
use Rattle.nested_itp.specs.NestedPredicates.Positions.{Position, positions_of}
use Rattle.nested_itp.specs.NestedPredicates.Sums.{Branch, root_of, with_cut}
use Rattle.nested_itp.specs.NestedPredicates.Interpolants.{RefutesRows}
use Rattle.nested_itp.specs.NestedPredicates.Tables.{row_of_node, table_along}
use Rattle.nested_itp.proofs.NestedPredicates.EndLaws.{rows_goal, tree_refutes}
use Rattle.nested_itp.specs.declared.triple_walks.trees.Tree as code
use Rattle.nested_itp.specs.TripleWalks.Spots.{HasNoCases, listed, node_of, seconds_of, IsTree}
use Rattle.nested_itp.proofs.TripleWalks.ListedLaws.{table_listed}

-- a tree that refutes rows without groups has no cases
uncased : (b : Branch) (t : Tree) → TreeRefutes t (rows_goal b) → HasNoCases t
uncased b (leaf_tree parts) h = tt
uncased b (cut_tree c k t u) h = (uncased (with_cut b 0 (at_most c k)) t h.2, uncased (with_cut b 0 (above c k)) u h.3)
uncased b (cases_tree ts) h = absurd h

pub refutation_uncased : (g : Graph) (w : List Letter) (t : Tree) → RefutesRows (prefix_of t) (path_of g w).rows → HasNoCases t
refutation_uncased g w t h = uncased (root_of g w) t (tree_refutes t g w h)

-- a tree whose table and second parts are those of a refutation of a word's rows
pub tree_is : (g : Graph) (w : List Letter) (t : Tree) (nodes : List PlainNode) (x : code.Tree) → RefutesRows nodes (path_of g w).rows → prefix_of t ≡ nodes →
    ((u : Tree) → HasNoCases u → prefix_of u ≡ nodes → x.seconds.items ≡ seconds_of 0 u) →
    map (λ r. r.items) x.table.items ≡ table_along (stamps_of g w).columns (positions_of g w) nodes (root_of g w ∷ []) →
    IsTree (stamps_of g w).columns (positions_of g w) (root_of g w) t nodes x
tree_is g w t nodes x refutes e seconds table =
    let columns : List ℕ = (stamps_of g w).columns in
    let qs : List Position = positions_of g w in
    let b : Branch = root_of g w in
    let un : HasNoCases t = refutation_uncased g w t (subst (λ (ns : List PlainNode). RefutesRows ns (path_of g w).rows) (sym e) refutes) in
    record {
      uncased = un;
      spelled = sym e;
      seconds = seconds t un e;
      rows = table ∙ ap (λ (ns : List PlainNode). table_along columns qs ns (b ∷ [])) (sym e ∙ sym (append-nil (prefix_of t))) ∙ table_listed columns qs 0 b t [] [] un ∙
          append-nil (listed (λ s. row_of_node columns qs (node_of s.tree) s.branch) columns 0 b t);
    }
