-- Nodes whose cuts are at columns below a count.
use Rattle.std.proofs.Common.{◌≡◌, ℕ, zero, suc, ◌+◌, ◌<◌, ◌≤◌, List, [], ◌∷◌, ◌++◌, length, take, get_or, sym, subst, arith}
use Rattle.std.specs.List.{AllByRecursion}
use Rattle.std.proofs.lemmas.List.{take_more, take_all}
use Rattle.farkas_check.specs.declared.refutations.Node.{Node}
use Rattle.farkas_check.specs.Nodes.{PlainNode, leaf, cut, cases, plain, plain_nodes}
use Rattle.farkas_check.specs.Trees.{Tree, leaf_tree, cut_tree, cases_tree, prefix_of, IsPrefixList}
use Rattle.lin_rows.specs.Rows.{LinearRow}
use Rattle.nwa_base.specs.declared.letters.Letter.{Letter}
use Rattle.letter_acts.specs.Invariant.{Graph}
use Rattle.path_rows.specs.Paths.{path_of}
use Rattle.nested_itp.specs.NestedPredicates.Stamps.{stamps_of}
use Rattle.nested_itp.specs.NestedPredicates.Interpolants.{RefutesRows}
use Rattle.nested_itp.specs.NestedRefutations.Numbers.{AreCutsAt}
use Rattle.triple_rows.specs.Cuts.{IsCutWithin}
use Rattle.nested_itp.specs.declared.triple_steps.columns.Columns.{Columns}
use Rattle.nested_itp.specs.TripleSteps.Steps.{FitColumns}
use Rattle.nested_itp.specs.TripleWalks.Spots.{HasNoCases}
use Rattle.nested_itp.specs.TripleWalks.Putting.{IsPlaced}
use Rattle.nested_itp.proofs.TripleWalks.TableLaws.{refutation_uncased}

-- ---- lists of nodes

nodes_append : (P : PlainNode → Type 0) (xs ys : List Node) → AllByRecursion P (plain_nodes xs) → AllByRecursion P (plain_nodes ys) → AllByRecursion P (plain_nodes (xs ++ ys))
nodes_append P [] ys h k = k
nodes_append P (x ∷ xs) ys h k = (h.0, nodes_append P xs ys h.1 k)

-- one node more
pub node_more : (P : PlainNode → Type 0) (nodes : List Node) (i : ℕ) (x : Node) → i < length nodes → x ≡ get_or nodes i x → P (plain x) →
    AllByRecursion P (plain_nodes (take i nodes)) → AllByRecursion P (plain_nodes (take (i + 1) nodes))
node_more P nodes i x l e k h =
    subst (λ (ns : List Node). AllByRecursion P (plain_nodes ns)) (sym (take_more nodes i x l))
    (nodes_append P (take i nodes) (get_or nodes i x ∷ []) h (subst (λ (y : Node). P (plain y)) e k, tt))

-- all of them
pub node_all : (P : PlainNode → Type 0) (nodes : List Node) (i : ℕ) → length nodes ≤ i → AllByRecursion P (plain_nodes (take i nodes)) → AllByRecursion P (plain_nodes nodes)
node_all P nodes i l h = subst (λ (ns : List Node). AllByRecursion P (plain_nodes ns)) (take_all i nodes l) h

-- one of them
pub node_at : (P : PlainNode → Type 0) (nodes : List Node) (i : ℕ) (x : Node) → i < length nodes → x ≡ get_or nodes i x → AllByRecursion P (plain_nodes nodes) → P (plain x)
node_at P [] i x l e h = absurd (omega arith)
node_at P (n ∷ ns) zero x l e h = subst (λ (y : Node). P (plain y)) (sym e) h.0
node_at P (n ∷ ns) (suc i) x l e h = node_at P ns i x (omega arith) e h.1

-- ---- trees

all_first : (P : PlainNode → Type 0) (xs ys : List PlainNode) → AllByRecursion P (xs ++ ys) → AllByRecursion P xs
all_first P [] ys h = tt
all_first P (x ∷ xs) ys h = (h.0, all_first P xs ys h.1)

all_second : (P : PlainNode → Type 0) (xs ys : List PlainNode) → AllByRecursion P (xs ++ ys) → AllByRecursion P ys
all_second P [] ys h = h
all_second P (x ∷ xs) ys h = all_second P xs ys h.1

all_joined : (P : PlainNode → Type 0) (xs ys : List PlainNode) → AllByRecursion P xs → AllByRecursion P ys → AllByRecursion P (xs ++ ys)
all_joined P [] ys h k = k
all_joined P (x ∷ xs) ys h k = (h.0, all_joined P xs ys h.1 k)

-- a tree whose nodes cut at columns below a count
pub tree_cuts : (n : ℕ) (t : Tree) → AllByRecursion (IsCutWithin n) (prefix_of t) → AreCutsAt n t
tree_cuts n (leaf_tree parts) h = tt
tree_cuts n (cut_tree c k t u) h = (
  h.0,
  tree_cuts n t (all_first (IsCutWithin n) (prefix_of t) (prefix_of u) h.1),
  tree_cuts n u (all_second (IsCutWithin n) (prefix_of t) (prefix_of u) h.1),
)
tree_cuts n (cases_tree ts) h = tt

-- and its nodes, where it has no cases
nodes_cut : (n : ℕ) (t : Tree) → HasNoCases t → AreCutsAt n t → AllByRecursion (IsCutWithin n) (prefix_of t)
nodes_cut n (leaf_tree parts) un h = (tt, tt)
nodes_cut n (cut_tree c k t u) un h = (h.0, all_joined (IsCutWithin n) (prefix_of t) (prefix_of u) (nodes_cut n t un.0 h.1) (nodes_cut n u un.1 h.2))
nodes_cut n (cases_tree ts) un h = absurd un

-- the nodes of a refutation of a word's rows whose cuts are at columns of the word
pub fit_cuts : (g : Graph) (w : List Letter) (nodes : List PlainNode) (rows : List LinearRow) → IsPrefixList nodes → rows ≡ (path_of g w).rows → RefutesRows nodes rows →
    ((t : Tree) → prefix_of t ≡ nodes → AreCutsAt (length (stamps_of g w).columns) t) → AllByRecursion (IsCutWithin (length (stamps_of g w).columns)) nodes
fit_cuts g w nodes rows t r refutes cuts =
    let n : ℕ = length (stamps_of g w).columns in
    let refuted : RefutesRows (prefix_of t.0) (path_of g w).rows = subst (λ (ns : List PlainNode). RefutesRows ns (path_of g w).rows) (sym t.1) (subst (RefutesRows nodes) r refutes) in
    subst (AllByRecursion (IsCutWithin n)) t.1 (nodes_cut n t.0 (refutation_uncased g w t.0 refuted) (cuts t.0 t.1))

-- another name of the count, and of the nodes
pub cuts_moved : (n m : ℕ) (xs ys : List PlainNode) → n ≡ m → xs ≡ ys → AllByRecursion (IsCutWithin n) xs → AllByRecursion (IsCutWithin m) ys
cuts_moved n m xs ys e f h = subst (AllByRecursion (IsCutWithin m)) f (subst (λ (k : ℕ). AllByRecursion (IsCutWithin k) xs) e h)

-- ---- columns of a triple's system

node_placed : (n : ℕ) (columns : Columns) → FitColumns n columns → (x : PlainNode) → IsCutWithin n x → IsPlaced columns x
node_placed n columns fit (leaf parts) h = tt
node_placed n columns fit (cut c k) h = fit c h
node_placed n columns fit (cases count) h = tt

pub nodes_placed : (n : ℕ) (columns : Columns) → FitColumns n columns → (nodes : List PlainNode) → AllByRecursion (IsCutWithin n) nodes → AllByRecursion (IsPlaced columns) nodes
nodes_placed n columns fit [] h = tt
nodes_placed n columns fit (x ∷ nodes) h = (node_placed n columns fit x h.0, nodes_placed n columns fit nodes h.1)
