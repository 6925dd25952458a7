-- Trees that are joined without truth values in them, node by node.
use Rattle.std.proofs.Common.{◌≡◌, ◌∙◌, ℕ, suc, Bool, true, false, List, [], ◌∷◌, ◌++◌, length, map, take, append_assoc, refl, sym, ap, subst, arith}
use Rattle.std.specs.Prelude.{reverse, if◌then◌else◌}
use Rattle.std.proofs.lemmas.List.{reverse-append, reverse-reverse, length-reverse, append-nil, take_at, length-map}
use Rattle.triple_rows.specs.declared.predicates.PredNode.{PredNode}
use Rattle.triple_rows.specs.declared.predicates.PredNode.TheVariants.{Truth, Atom, And, Or}
use Rattle.triple_rows.specs.Predicates.{Formula, truth, atom, and_of, or_of, IsTruth, prefix_of, formulas}
use Rattle.nested_itp.specs.declared.nested_predicates.joins.Part.{Part}
use Rattle.nested_itp.specs.declared.nested_predicates.joins.Part.TheVariants as parts
use Rattle.nested_itp.specs.declared.nested_predicates.joins.Simplifier.{Simplifier}
use Rattle.nested_itp.specs.NestedPredicates.Joins.{simplified}
use Rattle.nested_itp.specs.NestedPredicates.Simplifying.{CanJoin, AreJoined, SpellsJoined, with_node, Spell, HasRead, FindsParts, Reads, joined_by, is_same, join_node, JoinsParts}

-- what is behind the first tree, where the nodes are cut back to as many
cut_back : (xs front rest : List PredNode) (n : ℕ) → reverse xs ≡ front ++ rest → length rest ≡ n → reverse (take n xs) ≡ rest
cut_back xs front rest n e l =
    let x : xs ≡ reverse rest ++ reverse front = sym (reverse-reverse xs) ∙ ap reverse e ∙ reverse-append front rest in
    let t : take n xs ≡ reverse rest = ap (take n) x ∙ take_at (reverse rest) (reverse front) n (length-reverse rest ∙ l) in
    ap reverse t ∙ reverse-reverse rest

-- a truth value that decides takes the place of the tree of nodes behind or before it
decide : (nodes new front rest : List PredNode) (from : ℕ) (v : Bool) (ps : List Part) (f : Formula) (fs : List Formula) →
    new ≡ take from nodes → reverse nodes ≡ front ++ rest → length rest ≡ from → f ≡ truth v → Spell rest ps fs → Spell (reverse new) (parts.Truth v ∷ ps) (f ∷ fs)
decide nodes new front rest from v ps f fs n e l t h =
    (t, subst (λ (r : List PredNode). Spell r ps fs) (sym (ap reverse n ∙ cut_back nodes front rest from e l)) h)

abbrev Joined : Bool → Part → Part → Part → List PredNode → List PredNode → Type 0
Joined by_or first second part nodes new = (ps : List Part) (a b : Formula) (fs : List Formula) → Spell (reverse nodes) (first ∷ second ∷ ps) (a ∷ b ∷ fs) →
    Spell (reverse new) (part ∷ ps) (joined_by by_or a b ∷ fs)

-- ---- a truth value first

truth_then : (by_or v : Bool) (b : Formula) → joined_by by_or (truth v) b ≡ (if is_same by_or v then truth v else b)
truth_then true true b = refl
truth_then true false b = refl
truth_then false true b = refl
truth_then false false b = refl

truth_and_nodes : (by_or v d : Bool) (from : ℕ) (nodes new : List PredNode) (part : Part) → d ≡ is_same by_or v → part ≡ (if d then parts.Truth v else parts.Nodes from) →
    new ≡ (if d then take from nodes else nodes) → Joined by_or (parts.Truth v) (parts.Nodes from) part nodes new
truth_and_nodes by_or v true from nodes new part e p n ps a b fs h =
    let f : joined_by by_or a b ≡ truth v = ap (λ (x : Formula). joined_by by_or x b) h.0 ∙ truth_then by_or v b ∙ ap (λ (x : Bool). if x then truth v else b) (sym e) in
    rw p (decide nodes new (prefix_of b) h.1.1.0 from v ps (joined_by by_or a b) fs n h.1.1.1 h.1.1.2 f h.1.1.3)
truth_and_nodes by_or v false from nodes new part e p n ps a b fs h =
    let f : joined_by by_or a b ≡ b = ap (λ (x : Formula). joined_by by_or x b) h.0 ∙ truth_then by_or v b ∙ ap (λ (x : Bool). if x then truth v else b) (sym e) in
    rw p (rw n (rw f h.1))

-- ---- nodes first

nodes_then : (by_or v : Bool) (a : Formula) → (IsTruth a → ⊥) → joined_by by_or a (truth v) ≡ (if is_same by_or v then truth v else a)
nodes_then by_or v (truth w) n = absurd (n tt)
nodes_then true true (atom r) n = refl
nodes_then true false (atom r) n = refl
nodes_then false true (atom r) n = refl
nodes_then false false (atom r) n = refl
nodes_then true true (and_of fs) n = refl
nodes_then true false (and_of fs) n = refl
nodes_then false true (and_of fs) n = refl
nodes_then false false (and_of fs) n = refl
nodes_then true true (or_of fs) n = refl
nodes_then true false (or_of fs) n = refl
nodes_then false true (or_of fs) n = refl
nodes_then false false (or_of fs) n = refl

nodes_and_truth : (by_or v d : Bool) (from : ℕ) (nodes new : List PredNode) (part : Part) → d ≡ is_same by_or v → part ≡ (if d then parts.Truth v else parts.Nodes from) →
    new ≡ (if d then take from nodes else nodes) → Joined by_or (parts.Nodes from) (parts.Truth v) part nodes new
nodes_and_truth by_or v true from nodes new part e p n ps a b fs h =
    let f : joined_by by_or a b ≡ truth v = ap (joined_by by_or a) h.1.3.0 ∙ nodes_then by_or v a h.0 ∙ ap (λ (x : Bool). if x then truth v else a) (sym e) in
    rw p (decide nodes new (prefix_of a) h.1.0 from v ps (joined_by by_or a b) fs n h.1.1 h.1.2 f h.1.3.1)
nodes_and_truth by_or v false from nodes new part e p n ps a b fs h =
    let f : joined_by by_or a b ≡ a = ap (joined_by by_or a) h.1.3.0 ∙ nodes_then by_or v a h.0 ∙ ap (λ (x : Bool). if x then truth v else a) (sym e) in
    rw p (rw n (rw f (h.0, (h.1.0, h.1.1, h.1.2, h.1.3.1))))

nodes_then_nodes : (by_or : Bool) (a b : Formula) → (IsTruth a → ⊥) → (IsTruth b → ⊥) →
    (prefix_of (joined_by by_or a b) ≡ join_node by_or ∷ (prefix_of a ++ (prefix_of b ++ []))) × (IsTruth (joined_by by_or a b) → ⊥)
nodes_then_nodes by_or (truth v) b n m = absurd (n tt)
nodes_then_nodes by_or (atom r) (truth v) n m = absurd (m tt)
nodes_then_nodes by_or (and_of fs) (truth v) n m = absurd (m tt)
nodes_then_nodes by_or (or_of fs) (truth v) n m = absurd (m tt)
nodes_then_nodes true (atom r) (atom s) n m = (refl, λ h. h)
nodes_then_nodes false (atom r) (atom s) n m = (refl, λ h. h)
nodes_then_nodes true (atom r) (and_of gs) n m = (refl, λ h. h)
nodes_then_nodes false (atom r) (and_of gs) n m = (refl, λ h. h)
nodes_then_nodes true (atom r) (or_of gs) n m = (refl, λ h. h)
nodes_then_nodes false (atom r) (or_of gs) n m = (refl, λ h. h)
nodes_then_nodes true (and_of fs) (atom s) n m = (refl, λ h. h)
nodes_then_nodes false (and_of fs) (atom s) n m = (refl, λ h. h)
nodes_then_nodes true (and_of fs) (and_of gs) n m = (refl, λ h. h)
nodes_then_nodes false (and_of fs) (and_of gs) n m = (refl, λ h. h)
nodes_then_nodes true (and_of fs) (or_of gs) n m = (refl, λ h. h)
nodes_then_nodes false (and_of fs) (or_of gs) n m = (refl, λ h. h)
nodes_then_nodes true (or_of fs) (atom s) n m = (refl, λ h. h)
nodes_then_nodes false (or_of fs) (atom s) n m = (refl, λ h. h)
nodes_then_nodes true (or_of fs) (and_of gs) n m = (refl, λ h. h)
nodes_then_nodes false (or_of fs) (and_of gs) n m = (refl, λ h. h)
nodes_then_nodes true (or_of fs) (or_of gs) n m = (refl, λ h. h)
nodes_then_nodes false (or_of fs) (or_of gs) n m = (refl, λ h. h)

nodes_and_nodes : (by_or : Bool) (from other : ℕ) (nodes new : List PredNode) (n : PredNode) → n ≡ join_node by_or → new ≡ nodes ++ n ∷ [] →
    Joined by_or (parts.Nodes from) (parts.Nodes other) (parts.Nodes other) nodes new
nodes_and_nodes by_or from other nodes new n e new_is ps a b fs h =
    let first : List PredNode = h.1.0 in
    let rest : List PredNode = h.1.3.1.0 in
    let j = nodes_then_nodes by_or a b h.0 h.1.3.0 in
    let r : reverse new ≡ n ∷ reverse nodes = ap reverse new_is ∙ reverse-append nodes (n ∷ []) in
    let s : reverse nodes ≡ prefix_of a ++ (prefix_of b ++ rest) = h.1.1 ∙ ap (λ (l : List PredNode). prefix_of a ++ l) h.1.3.1.1 in
    let t : (prefix_of a ++ (prefix_of b ++ [])) ++ rest ≡ prefix_of a ++ (prefix_of b ++ rest) =
    append_assoc (prefix_of a) (prefix_of b ++ []) rest ∙ ap (λ (l : List PredNode). prefix_of a ++ l) (ap (λ (l : List PredNode). l ++ rest) (append-nil (prefix_of b))) in
    let u : reverse new ≡ prefix_of (joined_by by_or a b) ++ rest =
    r ∙ ap (λ (m : PredNode). m ∷ reverse nodes) e ∙ ap (λ (l : List PredNode). join_node by_or ∷ l) (s ∙ sym t) ∙ ap (λ (l : List PredNode). l ++ rest) (sym j.0) in
    (j.1, (rest, u, h.1.3.1.2, h.1.3.1.3))

-- ---- parts of the simplifier

pub truth_beside : (by_or v : Bool) (from : ℕ) (part : Part) (old new : Simplifier) → new.parts.items ≡ old.parts.items →
    part ≡ (if is_same by_or v then parts.Truth v else parts.Nodes from) → new.nodes.items ≡ (if is_same by_or v then take from old.nodes.items else old.nodes.items) →
    JoinsParts by_or (parts.Truth v) (parts.Nodes from) part old new
truth_beside by_or v from part old new e p n = record {
  parts = e;
  spelled = truth_and_nodes by_or v (is_same by_or v) from old.nodes.items new.nodes.items part refl p n;
}

pub nodes_beside : (by_or v : Bool) (from : ℕ) (part : Part) (old new : Simplifier) → new.parts.items ≡ old.parts.items →
    part ≡ (if is_same by_or v then parts.Truth v else parts.Nodes from) → new.nodes.items ≡ (if is_same by_or v then take from old.nodes.items else old.nodes.items) →
    JoinsParts by_or (parts.Nodes from) (parts.Truth v) part old new
nodes_beside by_or v from part old new e p n = record {
  parts = e;
  spelled = nodes_and_truth by_or v (is_same by_or v) from old.nodes.items new.nodes.items part refl p n;
}

pub two_trees : (by_or : Bool) (from other : ℕ) (n : PredNode) (old new : Simplifier) → new.parts.items ≡ old.parts.items → n ≡ join_node by_or →
    new.nodes.items ≡ old.nodes.items ++ n ∷ [] → JoinsParts by_or (parts.Nodes from) (parts.Nodes other) (parts.Nodes other) old new
two_trees by_or from other n old new e j i = record {
  parts = e;
  spelled = nodes_and_nodes by_or from other old.nodes.items new.nodes.items n j i;
}

-- ---- two parts taken, one put back

-- ---- a node is read

spelled_count : (nodes : List PredNode) (ps : List Part) (fs : List Formula) → Spell nodes ps fs → length ps ≡ length fs
spelled_count nodes [] [] h = refl
spelled_count nodes [] (f ∷ fs) h = absurd h
spelled_count nodes (p ∷ ps) [] h = absurd h
spelled_count nodes (parts.Truth b ∷ ps) (f ∷ fs) h = ap suc (spelled_count nodes ps fs h.1)
spelled_count nodes (parts.Nodes from ∷ ps) (f ∷ fs) h = ap suc (spelled_count h.1.0 ps fs h.1.3)

pub read_count : (s : Simplifier) (fs : List Formula) → HasRead s fs → length s.parts.items ≡ length fs
read_count s fs h = sym (length-reverse s.parts.items) ∙ spelled_count (reverse s.nodes.items) (reverse s.parts.items) (map simplified fs) h ∙ length-map fs simplified

pub finds_parts : (n : PredNode) (s : Simplifier) (fs : List Formula) → HasRead s fs → CanJoin n fs → FindsParts n s
finds_parts (Truth b) s fs h j = tt
finds_parts (Atom r) s fs h j = tt
finds_parts (And k) s fs h j = let c : length s.parts.items ≡ length fs = read_count s fs h in omega (arith, c, j.1)
finds_parts (Or k) s fs h j = let c : length s.parts.items ≡ length fs = read_count s fs h in omega (arith, c, j.1)

-- ---- all nodes

-- some nodes are left, and those behind them are read
pub record NodesLeft (all left : List PredNode) (s : Simplifier) : Type 0 where
  pub done : List PredNode
  pub nodes : all ≡ left ++ done
  pub read : HasRead s (formulas done)

formulas_with : (n : PredNode) (ns : List PredNode) → formulas (n ∷ ns) ≡ with_node n (formulas ns)
formulas_with (Truth b) ns = refl
formulas_with (Atom r) ns = refl
formulas_with (And k) ns = refl
formulas_with (Or k) ns = refl

joined_behind : (left done : List PredNode) → AreJoined (left ++ done) → AreJoined done
joined_behind [] done h = h
joined_behind (n ∷ left) done h = joined_behind left done h.1

next_nodes : (all left rest done : List PredNode) (n : PredNode) → all ≡ left ++ done → left ≡ rest ++ n ∷ [] → all ≡ rest ++ (n ∷ done)
next_nodes all left rest done n e f = e ∙ ap (λ (l : List PredNode). l ++ done) f ∙ append_assoc rest (n ∷ []) done

pub can_join : (all left rest : List PredNode) (n : PredNode) (s : Simplifier) → SpellsJoined all → left ≡ rest ++ n ∷ [] → (h : NodesLeft all left s) → CanJoin n (formulas h.done)
can_join all left rest n s j e h = (joined_behind rest (n ∷ h.done) (subst AreJoined (next_nodes all left rest h.done n h.nodes e) j.joined)).0

pub node_finds : (all left rest : List PredNode) (n : PredNode) (s : Simplifier) → SpellsJoined all → left ≡ rest ++ n ∷ [] → NodesLeft all left s → FindsParts n s
node_finds all left rest n s j e h = finds_parts n s (formulas h.done) h.read (can_join all left rest n s j e h)

pub node_read : (all left rest : List PredNode) (n : PredNode) (old new : Simplifier) → SpellsJoined all → left ≡ rest ++ n ∷ [] → NodesLeft all left old → Reads n old new →
    NodesLeft all rest new
node_read all left rest n old new j e h r = record {
  done = n ∷ h.done;
  nodes = next_nodes all left rest h.done n h.nodes e;
  read = subst (HasRead new) (sym (formulas_with n h.done)) (r (formulas h.done) h.read (can_join all left rest n old j e h));
}

pub one_tree_left : (all left : List PredNode) (s : Simplifier) → SpellsJoined all → left ≡ [] → NodesLeft all left s → length s.parts.items ≡ 1
one_tree_left all left s j e h =
    let a : all ≡ h.done = h.nodes ∙ ap (λ (l : List PredNode). l ++ h.done) e in
    read_count s (formulas h.done) h.read ∙ ap (λ (l : List PredNode). length (formulas l)) (sym a) ∙ j.one
