-- Nodes that are put down one after another, each where the refutation has come to, are those of a tree that is put down.
use Rattle.std.proofs.Common.{◌≡◌, ◌∙◌, ℕ, ℤ, true, false, List, [], ◌∷◌, ◌++◌, refl, sym, ap, subst, append_assoc, append-nil, Option, Some}
use Rattle.farkas_check.specs.Nodes.{PlainNode, leaf, cut, cases}
use Rattle.farkas_check.specs.Trees.{Trees, leaf_tree, cut_tree, cases_tree, no_tree, one_more, prefix_of, prefixes_of}
use Rattle.nested_itp.specs.NestedPredicates.Sums.{Branch}
use Rattle.nested_itp.specs.NestedRefutations.Refutations.{TreeSpot, View, Gathered, Stop, at_leaf, at_cut, at_group, stops_at, with_own, opened, leaf_of}
use Rattle.nested_itp.specs.NestedRefutations.Walked.{AfterMembers, AreWalked, AreWalkedFrom, ComesTo}

-- no node yet, and the whole way is left
pub comes_first : (v : View) (g : Gathered) (stop : Stop) → ComesTo v g stop [] ((g, stop) ∷ [])
comes_first v g stop no_tree w = absurd w
comes_first v g stop (one_more t no_tree) w = record { tree = t; walked = w.0; listed = sym (append-nil (prefix_of t)) }
comes_first v g stop (one_more t (one_more u ts)) w = absurd w.1

-- nothing is left
pub comes_last : (v : View) (g : Gathered) (stop : Stop) (nodes : List PlainNode) → ComesTo v g stop nodes [] → AreWalkedFrom v g stop nodes
comes_last v g stop nodes f = subst (AreWalkedFrom v g stop) (append-nil nodes) (f no_tree tt)

-- a leaf
pub comes_leaf : (v : View) (g : Gathered) (stop : Stop) (nodes : List PlainNode) (h : Gathered) (n : ℕ) (b : Branch) (parts : List (ℕ × ℤ)) (left : List (Gathered × Stop)) →
    ComesTo v g stop nodes ((h, at_leaf n b parts) ∷ left) → ComesTo v g stop (nodes ++ leaf (leaf_of v h n b parts).parts ∷ []) left
comes_leaf v g stop nodes h n b parts left f ts w =
    let found : List (ℕ × ℤ) = (leaf_of v h n b parts).parts in
    subst (AreWalkedFrom v g stop) (sym (append_assoc nodes (leaf found ∷ []) (prefixes_of ts))) (f (one_more (leaf_tree found) ts) (refl, w))

-- two trees behind a node
beside : (nodes : List PlainNode) (n : PlainNode) (a b c : List PlainNode) → nodes ++ (n ∷ ((a ++ b) ++ c)) ≡ (nodes ++ n ∷ []) ++ (a ++ (b ++ c))
beside nodes n a b c = ap (λ (l : List PlainNode). nodes ++ n ∷ l) (append_assoc a b c) ∙ sym (append_assoc nodes (n ∷ []) (a ++ (b ++ c)))

-- an own cut
pub comes_cut : (v : View) (g : Gathered) (stop : Stop) (nodes : List PlainNode) (h : Gathered) (r col : ℕ) (k : ℤ) (low high : TreeSpot) (left : List (Gathered × Stop)) →
    ComesTo v g stop nodes ((h, at_cut r col k low high) ∷ left) →
    ComesTo v g stop (nodes ++ cut (v.column col) k ∷ []) ((with_own v r col k false h, stops_at v h.taken low) ∷ (with_own v r col k true h, stops_at v h.taken high) ∷ left)
comes_cut v g stop nodes h r col k low high left f no_tree w = absurd w
comes_cut v g stop nodes h r col k low high left f (one_more t no_tree) w = absurd w.1
comes_cut v g stop nodes h r col k low high left f (one_more t (one_more u ts)) w =
    subst (AreWalkedFrom v g stop) (beside nodes (cut (v.column col) k) (prefix_of t) (prefix_of u) (prefixes_of ts))
    (f (one_more (cut_tree (v.column col) k t u) ts) ((refl, refl, w.0, w.1.0), w.1.1))

-- a group that is opened
pub comes_cases : (v : View) (g : Gathered) (stop : Stop) (nodes : List PlainNode) (h : Gathered) (s : TreeSpot) (first second : Gathered) (left : List (Gathered × Stop)) →
    opened v false h h.groups ≡ Some first → opened v true h h.groups ≡ Some second →
    ComesTo v g stop nodes ((h, at_group s) ∷ left) →
    ComesTo v g stop (nodes ++ cases 2 ∷ []) ((first, stops_at v first.taken s) ∷ (second, stops_at v second.taken s) ∷ left)
comes_cases v g stop nodes h s first second left d e f no_tree w = absurd w
comes_cases v g stop nodes h s first second left d e f (one_more t no_tree) w = absurd w.1
comes_cases v g stop nodes h s first second left d e f (one_more t (one_more u ts)) w =
    let both : Trees = one_more t (one_more u no_tree) in
    let after : AfterMembers v s (opened v false h h.groups) (opened v true h h.groups) (AreWalked v both) =
    subst (λ (o : Option Gathered). AfterMembers v s o (opened v true h h.groups) (AreWalked v both)) (sym d)
    (subst (λ (o : Option Gathered). AfterMembers v s (Some first) o (AreWalked v both)) (sym e) (w.0, (w.1.0, tt))) in
    subst (AreWalkedFrom v g stop)
    (ap (λ (l : List PlainNode). nodes ++ (cases 2 ∷ ((prefix_of t ++ l) ++ prefixes_of ts))) (append-nil (prefix_of u)) ∙ beside nodes (cases 2) (prefix_of t) (prefix_of u) (prefixes_of ts))
    (f (one_more (cases_tree both) ts) (after, w.1.1))
