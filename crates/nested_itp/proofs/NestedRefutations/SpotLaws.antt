-- The nodes of a word's tree by their numbers: each number is that of one node.
use Rattle.std.proofs.Common.{◌≡◌, ◌∙◌, ℕ, suc, ◌+◌, ◌<◌, ◌≤◌, ℤ, Bool, true, false, List, ◌++◌, length, refl, sym, ap, subst, arith, length-append, Option, None, Some}
use Rattle.std.specs.Prelude.{nat_eq, nat_lt, if◌then◌else◌}
use Rattle.std.proofs.lemmas.Bool.{eq-eqb, ne_eqb, lt-ltb, le-ltb, eqb-true}
use Rattle.farkas_check.specs.Trees.{Tree, leaf_tree, cut_tree, cases_tree, prefix_of}
use Rattle.nested_itp.specs.NestedPredicates.Sums.{Branch}
use Rattle.nested_itp.specs.NestedRefutations.Refutations.{TreeSpot, low_side, high_side}

abbrev pub spot : ℕ → Branch → Tree → TreeSpot
spot n b t = record { node = n; branch = b; tree = t }

abbrev pub size : Tree → ℕ
size t = length (prefix_of t)

-- the node with number m in the tree that stands at number n
abbrev pub node_in : List ℕ → ℕ → ℕ → Branch → Tree → Option TreeSpot
node_in columns m n b (leaf_tree parts) = if nat_eq m n then Some (spot n b (leaf_tree parts)) else None
node_in columns m n b (cut_tree c k t u) =
    let low = low_side columns n b c k t in
    let high = high_side columns n b c k t u in
    if nat_eq m n then Some (spot n b (cut_tree c k t u))
    else (if nat_lt m high.node then node_in columns m low.node low.branch t else node_in columns m high.node high.branch u)
node_in columns m n b (cases_tree ts) = None

-- it is a node of the tree that stands at number n
abbrev pub StandsIn : List ℕ → ℕ → Branch → Tree → TreeSpot → Type 0
StandsIn columns n b t s = node_in columns s.node n b t ≡ Some s

pub size_positive : (t : Tree) → 0 < size t
size_positive (leaf_tree parts) = omega arith
size_positive (cut_tree c k t u) = omega arith
size_positive (cases_tree ts) = omega arith

pub size_of_cut : (c : ℕ) (k : ℤ) (t u : Tree) → size (cut_tree c k t u) ≡ suc (size t + size u)
size_of_cut c k t u = let e : length (prefix_of t ++ prefix_of u) ≡ size t + size u = length-append (prefix_of t) (prefix_of u) in omega (arith, e)

pub leaf_stands : (columns : List ℕ) (n : ℕ) (b : Branch) (parts : List (ℕ × ℤ)) → StandsIn columns n b (leaf_tree parts) (spot n b (leaf_tree parts))
leaf_stands columns n b parts = rw (eq-eqb n n refl) refl

-- what is known of a node that is found
pub record IsWithin (m n : ℕ) (t : Tree) (s : TreeSpot) : Type 0 where
  pub number : s.node ≡ m
  pub from : n ≤ m
  pub upto : m + size s.tree ≤ n + size t

none_is : (s : TreeSpot) → None ≡ Some s → ⊥
none_is s e = absurd (cc)

some_same : (x y : TreeSpot) → Some x ≡ Some y → x ≡ y
some_same x y e = cc

found_in : (columns : List ℕ) (m n : ℕ) (b : Branch) (t : Tree) (s : TreeSpot) → node_in columns m n b t ≡ Some s → IsWithin m n t s
found_in columns m n b (leaf_tree parts) s e = at_leaf (nat_eq m n) refl e
  where
    at_leaf : (z : Bool) → nat_eq m n ≡ z → (if z then Some (spot n b (leaf_tree parts)) else None) ≡ Some s → IsWithin m n (leaf_tree parts) s
    at_leaf true q h =
        let f : spot n b (leaf_tree parts) ≡ s = some_same (spot n b (leaf_tree parts)) s h in
        let g : m ≡ n = eqb-true m n q in
        subst (λ (x : TreeSpot). IsWithin m n (leaf_tree parts) x) f (record { number = sym g; from = omega (arith, g); upto = omega (arith, g) })
    at_leaf false q h = absurd (none_is s h)
found_in columns m n b (cut_tree c k t u) s e =
    let low : TreeSpot = low_side columns n b c k t in
    let high : TreeSpot = high_side columns n b c k t u in
    at_cut low high (size_of_cut c k t u) (nat_eq m n) (nat_lt m high.node) refl refl (found_in columns m low.node low.branch t s) (found_in columns m high.node high.branch u s) e
  where
    at_cut : (low high : TreeSpot) → size (cut_tree c k t u) ≡ suc (size t + size u) → (z l : Bool) → nat_eq m n ≡ z → nat_lt m (suc n + size t) ≡ l →
        (node_in columns m (suc n) low.branch t ≡ Some s → IsWithin m (suc n) t s) →
        (node_in columns m (suc n + size t) high.branch u ≡ Some s → IsWithin m (suc n + size t) u s) →
        (if z then Some (spot n b (cut_tree c k t u)) else (if l then node_in columns m (suc n) low.branch t else node_in columns m (suc n + size t) high.branch u)) ≡ Some s →
        IsWithin m n (cut_tree c k t u) s
    at_cut low high sz true l q p f g h =
        let e : spot n b (cut_tree c k t u) ≡ s = some_same (spot n b (cut_tree c k t u)) s h in
        let g : m ≡ n = eqb-true m n q in
        subst (λ (x : TreeSpot). IsWithin m n (cut_tree c k t u) x) e (record { number = sym g; from = omega (arith, g); upto = omega (arith, g) })
    at_cut low high sz false true q p f g h = let i = f h in let x = i.from in let y = i.upto in record { number = i.number; from = omega (arith, x); upto = omega (arith, y, sz) }
    at_cut low high sz false false q p f g h = let i = g h in let x = i.from in let y = i.upto in record { number = i.number; from = omega (arith, x); upto = omega (arith, y, sz) }
found_in columns m n b (cases_tree ts) s e = absurd (none_is s e)

-- the sides of a cut that stands in a tree
pub record SidesStand (columns : List ℕ) (n : ℕ) (b : Branch) (t : Tree) (low high : TreeSpot) : Type 0 where
  pub low_stands : StandsIn columns n b t low
  pub high_stands : StandsIn columns n b t high

-- the tree has no cases
abbrev pub IsUncased : Tree → Type 0
IsUncased (leaf_tree parts) = Unit {0}
IsUncased (cut_tree c k t u) = IsUncased t × IsUncased u
IsUncased (cases_tree ts) = ⊥

pub uncased_stands : (columns : List ℕ) (n : ℕ) (b : Branch) (t : Tree) → IsUncased t → StandsIn columns n b t (spot n b t)
uncased_stands columns n b (leaf_tree parts) h = leaf_stands columns n b parts
uncased_stands columns n b (cut_tree c k t u) h = rw (eq-eqb n n refl) refl
uncased_stands columns n b (cases_tree ts) h = absurd h

-- into the low or the high side
into_low : (columns : List ℕ) (m n : ℕ) (b : Branch) (c : ℕ) (k : ℤ) (t u : Tree) → n < m → m < suc n + size t →
    node_in columns m n b (cut_tree c k t u) ≡ node_in columns m (suc n) (low_side columns n b c k t).branch t
into_low columns m n b c k t u l h = rw (ne_eqb m n (λ (e : m ≡ n). omega (arith, e, l))) (rw (lt-ltb m (suc n + size t) h) refl)

into_high : (columns : List ℕ) (m n : ℕ) (b : Branch) (c : ℕ) (k : ℤ) (t u : Tree) → suc n + size t ≤ m →
    node_in columns m n b (cut_tree c k t u) ≡ node_in columns m (suc n + size t) (high_side columns n b c k t u).branch u
into_high columns m n b c k t u h = rw (ne_eqb m n (λ (e : m ≡ n). omega (arith, e, h))) (rw (le-ltb m (suc n + size t) h) refl)

-- the sides of a node
abbrev low_in : List ℕ → ℕ → Branch → Tree → TreeSpot
low_in columns n b (leaf_tree parts) = spot n b (leaf_tree parts)
low_in columns n b (cut_tree c k x y) = low_side columns n b c k x
low_in columns n b (cases_tree ts) = spot n b (cases_tree ts)

abbrev high_in : List ℕ → ℕ → Branch → Tree → TreeSpot
high_in columns n b (leaf_tree parts) = spot n b (leaf_tree parts)
high_in columns n b (cut_tree c k x y) = high_side columns n b c k x y
high_in columns n b (cases_tree ts) = spot n b (cases_tree ts)

-- where a cut stands, so do its sides
pub sides_stand : (columns : List ℕ) (n : ℕ) (b : Branch) (t : Tree) → IsUncased t → (m : ℕ) (d : Branch) (c : ℕ) (k : ℤ) (x y : Tree) →
    StandsIn columns n b t (spot m d (cut_tree c k x y)) → SidesStand columns n b t (low_side columns m d c k x) (high_side columns m d c k x y)
sides_stand columns n b (leaf_tree parts) un m d c k x y e = at_leaf (nat_eq m n) e
  where
    at_leaf : (z : Bool) → (if z then Some (spot n b (leaf_tree parts)) else None) ≡ Some (spot m d (cut_tree c k x y)) →
        SidesStand columns n b (leaf_tree parts) (low_side columns m d c k x) (high_side columns m d c k x y)
    at_leaf true h = absurd (is_no_cut (ap (λ (s : TreeSpot). s.tree) (some_same (spot n b (leaf_tree parts)) (spot m d (cut_tree c k x y)) h)))
      where
        is_no_cut : leaf_tree parts ≡ cut_tree c k x y → ⊥
        is_no_cut q = absurd (cc)
    at_leaf false h = absurd (none_is (spot m d (cut_tree c k x y)) h)
sides_stand columns n b (cut_tree c0 k0 t u) un m d c k x y e =
    let low : TreeSpot = low_side columns n b c0 k0 t in
    let high : TreeSpot = high_side columns n b c0 k0 t u in
    at_cut low.branch high.branch refl refl (nat_eq m n) (nat_lt m high.node) refl refl
    (sides_stand columns low.node low.branch t un.0 m d c k x y) (sides_stand columns high.node high.branch u un.1 m d c k x y) e
  where
    here : spot n b (cut_tree c0 k0 t u) ≡ spot m d (cut_tree c k x y) →
        SidesStand columns n b (cut_tree c0 k0 t u) (low_side columns m d c k x) (high_side columns m d c k x y)
    here q =
        subst (λ (s : TreeSpot). SidesStand columns n b (cut_tree c0 k0 t u) (low_in columns s.node s.branch s.tree) (high_in columns s.node s.branch s.tree)) q
        (record {
          low_stands = into_low columns (suc n) n b c0 k0 t u (omega arith) (let p = size_positive t in omega (arith, p)) ∙
              uncased_stands columns (suc n) (low_side columns n b c0 k0 t).branch t un.0;
          high_stands = into_high columns (suc n + size t) n b c0 k0 t u (omega arith) ∙
              uncased_stands columns (suc n + size t) (high_side columns n b c0 k0 t u).branch u un.1;
        })

    at_cut : (b1 b2 : Branch) → (low_side columns n b c0 k0 t).branch ≡ b1 → (high_side columns n b c0 k0 t u).branch ≡ b2 → (z l : Bool) → nat_eq m n ≡ z → nat_lt m (suc n + size t) ≡ l →
        (StandsIn columns (suc n) b1 t (spot m d (cut_tree c k x y)) → SidesStand columns (suc n) b1 t (low_side columns m d c k x) (high_side columns m d c k x y)) →
        (StandsIn columns (suc n + size t) b2 u (spot m d (cut_tree c k x y)) → SidesStand columns (suc n + size t) b2 u (low_side columns m d c k x) (high_side columns m d c k x y)) →
        (if z then Some (spot n b (cut_tree c0 k0 t u)) else (if l then node_in columns m (suc n) b1 t else node_in columns m (suc n + size t) b2 u)) ≡ Some (spot m d (cut_tree c k x y)) →
        SidesStand columns n b (cut_tree c0 k0 t u) (low_side columns m d c k x) (high_side columns m d c k x y)
    at_cut b1 b2 e1 e2 true l q p f g h = here (some_same (spot n b (cut_tree c0 k0 t u)) (spot m d (cut_tree c k x y)) h)
    at_cut b1 b2 e1 e2 false true q p f g h =
        let i = f h in
        let w = found_in columns m (suc n) b1 t (spot m d (cut_tree c k x y)) h in
        let sz = size_of_cut c k x y in
        let px = size_positive x in
        let py = size_positive y in
        let a = w.from in
        let z = w.upto in
        record {
          low_stands = into_low columns (suc m) n b c0 k0 t u (omega (arith, a)) (omega (arith, z, sz, px, py)) ∙
              ap (λ (r : Branch). node_in columns (suc m) (suc n) r t) e1 ∙ i.low_stands;
          high_stands = into_low columns (suc m + size x) n b c0 k0 t u (omega (arith, a)) (omega (arith, z, sz, px, py)) ∙
              ap (λ (r : Branch). node_in columns (suc m + size x) (suc n) r t) e1 ∙ i.high_stands;
        }
    at_cut b1 b2 e1 e2 false false q p f g h =
        let i = g h in
        let w = found_in columns m (suc n + size t) b2 u (spot m d (cut_tree c k x y)) h in
        let a = w.from in
        record {
          low_stands = into_high columns (suc m) n b c0 k0 t u (omega (arith, a)) ∙ ap (λ (r : Branch). node_in columns (suc m) (suc n + size t) r u) e2 ∙ i.low_stands;
          high_stands = into_high columns (suc m + size x) n b c0 k0 t u (omega (arith, a)) ∙ ap (λ (r : Branch). node_in columns (suc m + size x) (suc n + size t) r u) e2 ∙ i.high_stands;
        }
sides_stand columns n b (cases_tree ts) un m d c k x y e = absurd un

-- two nodes with one number are one node
pub one_node : (columns : List ℕ) (n : ℕ) (b : Branch) (t : Tree) (x y : TreeSpot) → StandsIn columns n b t x → StandsIn columns n b t y → x.node ≡ y.node → x ≡ y
one_node columns n b t x y h k e = some_same x y (sym h ∙ ap (λ (m : ℕ). node_in columns m n b t) e ∙ k)
