-- Where the refutation of a triple goes on and where it stops.
use Rattle.std.proofs.Common.{◌≡◌, ◌∙◌, ℕ, zero, suc, ◌+◌, ◌-◌, ◌<◌, ℤ, Bool, true, false, List, [], ◌∷◌, ◌++◌, length, map, drop, reverse, get_or, length-append, refl, sym, ap, subst, arith, Option, None, Some}
use Rattle.std.specs.Prelude.{not, ◌&&◌, nat_eq, slice_get, if◌then◌else◌}
use Rattle.std.proofs.lemmas.List.{drop_more, at_drop_all, length-map, length-reverse, get_or-map, get_or-reverse}
use Rattle.farkas_check.specs.Nodes.{PlainNode}
use Rattle.farkas_check.specs.Refutes.{at_most, above}
use Rattle.farkas_check.specs.Trees as trees
use Rattle.farkas_check.specs.Trees.{leaf_tree, cut_tree, cases_tree}
use Rattle.lin_rows.specs.Rows.{LinearRow}
use Rattle.nested_itp.specs.NestedPredicates.Stamps.{column_stamp}
use Rattle.nested_itp.specs.NestedPredicates.Positions.{is_counted}
use Rattle.nested_itp.specs.NestedPredicates.Sums.{Branch}
use Rattle.nested_itp.specs.NestedRefutations.Refutations.{Claim, TreeSpot, low_side, high_side, truth_in, formula_at, Asked, one_part, both_parts, some_part, asked_at, View, Meeting, own_cut, told_by, meeting_of, taken_at, Stop, at_cut, followed, stop_at, stops, stops_at}
use Rattle.nested_itp.specs.TripleWalks.Spots.{node_in, is_counted_in, sides_in, with_second, second_of}
use Rattle.nested_itp.specs.TripleWalks.Telling.{Tells, AllTell, IsKnown}
use Rattle.nested_itp.specs.TripleWalks.Stops.{taken_of, IsPlace, IsStop, counted_by, teller, way_asked, way_by, way_told}
use Rattle.nested_itp.proofs.TripleWalks.TellingLaws.{spot, everywhere_here, known_low, known_high, told_at, counted_told, asked_told}
use Rattle.nested_itp.specs.declared.triple_walks.trees.Tree as code_trees
use Rattle.nested_itp.specs.declared.triple_walks.claims.Claim as code
use Rattle.nested_itp.specs.declared.triple_walks.stops.Spot as place
use Rattle.nested_itp.specs.declared.triple_walks.stops.Taken as member
use Rattle.nested_itp.specs.declared.triple_walks.stops.Stop as found
use Rattle.nested_itp.specs.declared.triple_walks.stops.Stop.TheVariants.{Leaf, Cut, Group}
use Rattle.nested_itp.specs.declared.triple_walks.stops.Way.{Way}
use Rattle.nested_itp.specs.declared.triple_walks.stops.Way.TheVariants.{Part, Own, NoMember}

-- ---- the claim that tells, of the code

counted_long : (x : code_trees.Tree) (node : ℕ) (ys : List code.Claim) → length (counted_by x node ys) ≡ length ys
counted_long x node [] = refl
counted_long x node (y ∷ ys) = ap suc (counted_long x node ys)

counted_at : (x : code_trees.Tree) (node : ℕ) (ys : List code.Claim) (i : ℕ) (y : code.Claim) → i < length ys → y ≡ get_or ys i y →
    get_or (counted_by x node ys) i false ≡ is_counted_in (node_in x node y.position)
counted_at x node [] i y l e = absurd (omega (arith, l))
counted_at x node (z ∷ ys) zero y l e = ap (λ (v : code.Claim). is_counted_in (node_in x node v.position)) (sym e)
counted_at x node (z ∷ ys) (suc i) y l e = counted_at x node ys i y (omega (arith, l)) e

opened : (returns : Bool) (bs : List Bool) (i : ℕ) (b : Bool) → suc i < length bs → get_or bs i false ≡ b →
    teller returns i (drop i bs) ≡ (if not returns && b then Some i else teller returns (suc i) (drop (i + 1) bs))
opened returns bs i b l e =
    let behind : drop (i + 1) bs ≡ get_or bs (i + 1) false ∷ drop (i + 1 + 1) bs = drop_more bs (i + 1) false (omega (arith, l)) in
    ap (λ (x : List Bool). teller returns i x)
    (drop_more bs i false (omega (arith, l)) ∙ ap (λ (y : Bool). y ∷ drop (i + 1) bs) e ∙ ap (λ (x : List Bool). b ∷ x) behind) ∙
    ap (λ (x : List Bool). if not returns && b then Some i else teller returns (suc i) x) (sym behind)

pub teller_passes : (returns : Bool) (x : code_trees.Tree) (node : ℕ) (ys : List code.Claim) (i : ℕ) (y : code.Claim) (first : Option ℕ) → suc i < length ys → y ≡ get_or ys i y →
    (not returns && is_counted_in (node_in x node y.position)) ≡ false → first ≡ teller returns i (drop i (counted_by x node ys)) →
    first ≡ teller returns (i + 1) (drop (i + 1) (counted_by x node ys))
teller_passes returns x node ys i y first l e f h =
    let k = counted_long x node ys in
    let bs : List Bool = counted_by x node ys in
    h ∙ opened returns bs i (is_counted_in (node_in x node y.position)) (omega (arith, k, l)) (counted_at x node ys i y (omega (arith, l)) e) ∙
    ap (λ (z : Bool). if z then Some i else teller returns (suc i) (drop (i + 1) bs)) f ∙
    ap (λ (m : ℕ). teller returns m (drop (i + 1) bs)) (let q : suc i ≡ i + 1 = omega arith in q)

pub teller_found : (returns : Bool) (x : code_trees.Tree) (node : ℕ) (ys : List code.Claim) (i : ℕ) (y : code.Claim) (first : Option ℕ) → suc i < length ys → y ≡ get_or ys i y →
    (not returns && is_counted_in (node_in x node y.position)) ≡ true → first ≡ teller returns i (drop i (counted_by x node ys)) → Some i ≡ first
teller_found returns x node ys i y first l e f h =
    let k = counted_long x node ys in
    let bs : List Bool = counted_by x node ys in
    sym
    (h ∙ opened returns bs i (is_counted_in (node_in x node y.position)) (omega (arith, k, l)) (counted_at x node ys i y (omega (arith, l)) e) ∙
    ap (λ (z : Bool). if z then Some i else teller returns (suc i) (drop (i + 1) bs)) f)

pub teller_last : (returns : Bool) (x : code_trees.Tree) (node : ℕ) (ys : List code.Claim) (i : ℕ) (y : code.Claim) (first : Option ℕ) → suc i ≡ length ys → y ≡ get_or ys i y →
    first ≡ teller returns i (drop i (counted_by x node ys)) → first ≡ (if is_counted_in (node_in x node y.position) then None else Some i)
teller_last returns x node ys i y first l e h =
    let k = counted_long x node ys in
    let bs : List Bool = counted_by x node ys in
    h ∙
    ap (λ (z : List Bool). teller returns i z)
    (drop_more bs i false (omega (arith, k, l)) ∙ ap (λ (z : Bool). z ∷ drop (i + 1) bs) (counted_at x node ys i y (omega (arith, l)) e) ∙
    at_drop_all (λ (z : List Bool). is_counted_in (node_in x node y.position) ∷ z) bs (i + 1) (omega (arith, k, l)))

pub teller_done : (returns : Bool) (x : code_trees.Tree) (node : ℕ) (ys : List code.Claim) (i target : ℕ) (y : code.Claim) (first : Option ℕ) → i ≡ target → suc target ≡ length ys → y ≡ get_or ys target y →
    first ≡ teller returns i (drop i (counted_by x node ys)) → first ≡ (if is_counted_in (node_in x node y.position) then None else Some target)
teller_done returns x node ys i target y first q l e h =
    teller_last returns x node ys target y first l e (h ∙ ap (λ (n : ℕ). teller returns n (drop n (counted_by x node ys))) q)

-- ---- the member that was taken, of the code

taken_next : (taken : List member.Taken) (i at : ℕ) (t d : member.Taken) → i < length taken → at ≡ length taken - 1 - i → t ≡ get_or taken at d →
    drop i (reverse (map taken_of taken)) ≡ taken_of t ∷ drop (i + 1) (reverse (map taken_of taken))
taken_next taken i at t d l a e =
    let ts : List (ℕ × ℕ × Bool) = map taken_of taken in
    let k : length ts ≡ length taken = length-map taken taken_of in
    let m : length (reverse ts) ≡ length ts = length-reverse ts in
    let q : length ts - 1 - i ≡ at = omega (arith, k, a) in
    drop_more (reverse ts) i (taken_of d) (omega (arith, k, m, l)) ∙
    ap (λ (v : ℕ × ℕ × Bool). v ∷ drop (i + 1) (reverse ts))
    (get_or-reverse ts i (taken_of d) (omega (arith, k, l)) ∙ ap (λ (n : ℕ). get_or ts n (taken_of d)) q ∙ get_or-map taken_of taken at d (taken_of d) (omega (arith, a, l)) ∙ ap taken_of (sym e))

pub taken_passes : (taken : List member.Taken) (i at claim node : ℕ) (t d : member.Taken) (first : Option Bool) → i < length taken → at ≡ length taken - 1 - i → t ≡ get_or taken at d →
    (nat_eq t.claim claim && nat_eq t.node node) ≡ false → first ≡ taken_at claim node (drop i (reverse (map taken_of taken))) → first ≡ taken_at claim node (drop (i + 1) (reverse (map taken_of taken)))
taken_passes taken i at claim node t d first l a e f h =
    h ∙ ap (λ (ts : List (ℕ × ℕ × Bool)). taken_at claim node ts) (taken_next taken i at t d l a e) ∙
    ap (λ (z : Bool). if z then Some t.second else taken_at claim node (drop (i + 1) (reverse (map taken_of taken)))) f

pub taken_found : (taken : List member.Taken) (i at claim node : ℕ) (t d : member.Taken) (first : Option Bool) → i < length taken → at ≡ length taken - 1 - i → t ≡ get_or taken at d →
    (nat_eq t.claim claim && nat_eq t.node node) ≡ true → first ≡ taken_at claim node (drop i (reverse (map taken_of taken))) → Some t.second ≡ first
taken_found taken i at claim node t d first l a e f h =
    sym
    (h ∙ ap (λ (ts : List (ℕ × ℕ × Bool)). taken_at claim node ts) (taken_next taken i at t d l a e) ∙
    ap (λ (z : Bool). if z then Some t.second else taken_at claim node (drop (i + 1) (reverse (map taken_of taken)))) f)

-- ---- the claim that tells, of the definition

-- the number of the claim that tells, if one does
abbrev pub number_told : Meeting → Option ℕ
number_told own_cut = None
number_told (told_by i c) = Some i

at_target : (z : Bool) (i : ℕ) (c : Claim) → number_told (if z then own_cut else told_by i c) ≡ (if z then None else Some i)
at_target true i c = refl
at_target false i c = refl

at_source : (z : Bool) (i : ℕ) (c : Claim) (m : Meeting) (o : Option ℕ) → number_told m ≡ o → number_told (if z then told_by i c else m) ≡ (if z then Some i else o)
at_source true i c m o e = refl
at_source false i c m o e = e

pub teller_is : (returns : Bool) (i : ℕ) (cs : List Claim) (stamp : ℕ) → number_told (meeting_of returns i cs stamp) ≡ teller returns i (map (λ c. is_counted c.position stamp) cs)
teller_is returns i [] stamp = refl
teller_is returns i (c ∷ []) stamp = at_target (is_counted c.position stamp) i c
teller_is returns i (c ∷ d ∷ cs) stamp =
    at_source (not returns && is_counted c.position stamp) i c (meeting_of returns (suc i) (d ∷ cs) stamp) (teller returns (suc i) (map (λ e. is_counted e.position stamp) (d ∷ cs)))
    (teller_is returns (suc i) (d ∷ cs) stamp)

-- the claim stands at its number, from number i on
abbrev IsIn : ℕ → List Claim → Meeting → Type 0
IsIn i cs own_cut = Unit {0}
IsIn i cs (told_by j c) = (p : ℕ) × (j ≡ i + p) × (slice_get cs p ≡ Some c)

in_target : (z : Bool) (i : ℕ) (c : Claim) → IsIn i (c ∷ []) (if z then own_cut else told_by i c)
in_target true i c = tt
in_target false i c = (0, (let e : i ≡ i + 0 = omega arith in e), refl)

further : (i : ℕ) (c : Claim) (cs : List Claim) (m : Meeting) → IsIn (suc i) cs m → IsIn i (c ∷ cs) m
further i c cs own_cut h = tt
further i c cs (told_by j d) h =
    let e : j ≡ suc i + h.0 = h.1 in (suc h.0, (let k : j ≡ i + suc h.0 = omega (arith, e) in k), h.2)

in_source : (z : Bool) (i : ℕ) (c : Claim) (cs : List Claim) (m : Meeting) → IsIn (suc i) cs m → IsIn i (c ∷ cs) (if z then told_by i c else m)
in_source true i c cs m h = (0, (let e : i ≡ i + 0 = omega arith in e), refl)
in_source false i c cs m h = further i c cs m h

told_in : (returns : Bool) (i : ℕ) (cs : List Claim) (stamp : ℕ) → IsIn i cs (meeting_of returns i cs stamp)
told_in returns i [] stamp = tt
told_in returns i (c ∷ []) stamp = in_target (is_counted c.position stamp) i c
told_in returns i (c ∷ d ∷ cs) stamp =
    in_source (not returns && is_counted c.position stamp) i c (d ∷ cs) (meeting_of returns (suc i) (d ∷ cs) stamp) (told_in returns (suc i) (d ∷ cs) stamp)

-- ---- at a cut

all_counted : (columns : List ℕ) (x : code_trees.Tree) (n : ℕ) (b : Branch) (col : ℕ) (k : ℤ) (t u : trees.Tree) (cs : List Claim) (ys : List code.Claim) →
    AllTell columns x (spot n b (cut_tree col k t u)) cs ys → counted_by x n ys ≡ map (λ c. is_counted c.position (column_stamp columns col)) cs
all_counted columns x n b col k t u [] [] h = refl
all_counted columns x n b col k t u [] (y ∷ ys) h = absurd h
all_counted columns x n b col k t u (c ∷ cs) [] h = absurd h
all_counted columns x n b col k t u (c ∷ cs) (y ∷ ys) h =
    ap (λ (z : Bool). z ∷ counted_by x n ys) (counted_told columns x n b col k t u c y h.0) ∙
    ap (λ (l : List Bool). is_counted c.position (column_stamp columns col) ∷ l) (all_counted columns x n b col k t u cs ys h.1)

-- the spot at which it goes on, from which it stops at the same
pub record GoesOn (v : View) (taken : List (ℕ × ℕ × Bool)) (nodes : List PlainNode) (x : code_trees.Tree) (ys : List code.Claim) (rows depth part : ℕ) (stop : Stop) : Type 0 where
  pub next : TreeSpot
  pub node : part ≡ next.node
  pub depth_is : length next.branch.rows ≡ rows + depth
  pub known : IsKnown v.columns nodes x v.claims ys next
  pub same : stop ≡ stops_at v taken next

-- the way is the one to where it stops
abbrev pub IsWay : View → List (ℕ × ℕ × Bool) → List PlainNode → code_trees.Tree → List code.Claim → ℕ → place.Spot → Stop → Way → Type 0
IsWay v taken nodes x ys rows p stop (Part part) = GoesOn v taken nodes x ys rows (p.depth + 1) part stop
IsWay v taken nodes x ys rows p stop Own = IsStop v.columns nodes x v.claims ys rows stop (Cut p)
IsWay v taken nodes x ys rows p stop NoMember = IsStop v.columns nodes x v.claims ys rows stop (Group p)

some_same : {X : Type 0} (v w : X) → Some v ≡ Some w → v ≡ w
some_same v w e = cc

none_some : {X : Type 0} (v : X) → None ≡ Some v → ⊥
none_some v e = absurd (cc)

one_longer : (rows : List LinearRow) (row : LinearRow) (n : ℕ) → length rows ≡ n → length (rows ++ row ∷ []) ≡ n + 1
one_longer rows row n e = let k : length (rows ++ row ∷ []) ≡ length rows + length (row ∷ []) = length-append rows (row ∷ []) in k ∙ (let m : length rows + length (row ∷ []) ≡ n + 1 = omega (arith, e) in m)

-- what is known at a cut to which the refutation has come
pub record IsHere (v : View) (nodes : List PlainNode) (x : code_trees.Tree) (ys : List code.Claim) (rows : ℕ) (b : Branch) (t : trees.Tree) (p : place.Spot) : Type 0 where
  pub depth_is : length b.rows ≡ rows + p.depth
  pub known : IsKnown v.columns nodes x v.claims ys (spot p.node b t)

module _ (v : View) (taken : List (ℕ × ℕ × Bool)) (nodes : List PlainNode) (x : code_trees.Tree) (ys : List code.Claim) (rows : ℕ) (p : place.Spot) (b : Branch) (col : ℕ) (k : ℤ) (t u : trees.Tree) where
  abbrev low : TreeSpot
  low = low_side v.columns p.node b col k t

  abbrev high : TreeSpot
  high = high_side v.columns p.node b col k t u

  abbrev here : TreeSpot
  here = spot p.node b (cut_tree col k t u)

  abbrev IsSo : Stop → Way → Type 0
  IsSo stop way = IsWay v taken nodes x ys rows p stop way

  goes_low : IsHere v nodes x ys rows b (cut_tree col k t u) p → GoesOn v taken nodes x ys rows (p.depth + 1) low.node (stops_at v taken low)
  goes_low h =
      let e : length low.branch.rows ≡ rows + p.depth + 1 = one_longer b.rows (at_most col k) (rows + p.depth) h.depth_is in
      record {
        next = low;
        node = refl;
        depth_is = omega (arith, e);
        known = known_low v.columns nodes x v.claims ys p.node b col k t u h.known;
        same = refl;
      }

  goes_high : IsHere v nodes x ys rows b (cut_tree col k t u) p → GoesOn v taken nodes x ys rows (p.depth + 1) high.node (stops_at v taken high)
  goes_high h =
      let e : length high.branch.rows ≡ rows + p.depth + 1 = one_longer b.rows (above col k) (rows + p.depth) h.depth_is in
      record {
        next = high;
        node = refl;
        depth_is = omega (arith, e);
        known = known_high v.columns nodes x v.claims ys p.node b col k t u h.known;
        same = refl;
      }

  is_place : IsHere v nodes x ys rows b (cut_tree col k t u) p → IsPlace v.columns nodes x v.claims ys rows here p
  is_place h = record { node = refl; depth = h.depth_is; known = h.known }

  by_asked : (asked : Asked) (member : Option Bool) → IsHere v nodes x ys rows b (cut_tree col k t u) p →
      IsSo (followed asked member here (stops_at v taken low) (stops_at v taken high)) (way_asked asked member (low.node, high.node))
  by_asked (one_part false) member h = goes_low h
  by_asked (one_part true) member h = goes_high h
  by_asked both_parts member h = goes_low h
  by_asked some_part None h = is_place h
  by_asked some_part (Some false) h = goes_low h
  by_asked some_part (Some true) h = goes_high h

  as_way : (stop : Stop) (w z : Way) → w ≡ z → IsSo stop z → IsSo stop w
  as_way stop w z e h = subst (λ (y : Way). IsSo stop y) (sym e) h

  by_claim : (j : ℕ) (c : Claim) (y : code.Claim) → slice_get ys j ≡ Some y → Tells v.columns x here c y → IsHere v nodes x ys rows b (cut_tree col k t u) p →
      IsSo
      (followed (asked_at c (column_stamp v.columns col) (truth_in (formula_at v.columns c low.branch t)) (truth_in (formula_at v.columns c high.branch u))) (taken_at j p.node taken) here
      (stops_at v taken low)
      (stops_at v taken high))
      (way_by x (slice_get ys j) (taken_at j p.node taken) p.node (low.node, high.node))
  by_claim j c y e told h =
      let asked : Asked = asked_at c (column_stamp v.columns col) (truth_in (formula_at v.columns c low.branch t)) (truth_in (formula_at v.columns c high.branch u)) in
      let member : Option Bool = taken_at j p.node taken in
      as_way (followed asked member here (stops_at v taken low) (stops_at v taken high)) (way_by x (slice_get ys j) member p.node (low.node, high.node)) (way_asked asked member (low.node, high.node))
      (ap (λ (o : Option code.Claim). way_by x o member p.node (low.node, high.node)) e ∙
      ap (λ (a : Asked). way_asked a member (low.node, high.node)) (asked_told v.columns x p.node b col k t u c y told))
      (by_asked asked member h)

  abbrev follow : ℕ → Claim → Stop
  follow i c =
      followed (asked_at c (column_stamp v.columns col) (truth_in (formula_at v.columns c low.branch t)) (truth_in (formula_at v.columns c high.branch u))) (taken_at i p.node taken) here
      (stops_at v taken low)
      (stops_at v taken high)

  by_meeting : (m : Meeting) → IsIn 0 v.claims m → IsHere v nodes x ys rows b (cut_tree col k t u) p →
      IsSo (stop_at m follow (at_cut (length b.rows) col k low high)) (way_told x ys taken (number_told m) p.node (low.node, high.node))
  by_meeting own_cut i h = record { branch = b; first = t; second = u; low_is = refl; high_is = refl; row = refl; here = is_place h }
  by_meeting (told_by j c) i h =
      let q : j ≡ 0 + i.0 = i.1 in
      let r : j ≡ i.0 = omega (arith, q) in
      let found = told_at v.columns x here v.claims ys j c h.known.claims (ap (λ (n : ℕ). slice_get v.claims n) r ∙ i.2) in by_claim j c found.0 found.1 found.2 h

  pub cut_way : (way : Way) → way ≡ way_told x ys taken (teller v.returns 0 (counted_by x p.node ys)) p.node (low.node, high.node) → IsHere v nodes x ys rows b (cut_tree col k t u) p →
      IsSo (stops v taken p.node b (cut_tree col k t u)) way
  cut_way way e h =
      let stamp : ℕ = column_stamp v.columns col in
      let m : Meeting = meeting_of v.returns 0 v.claims stamp in
      as_way (stop_at m follow (at_cut (length b.rows) col k low high)) way (way_told x ys taken (number_told m) p.node (low.node, high.node))
      (e ∙
      ap (λ (l : List Bool). way_told x ys taken (teller v.returns 0 l) p.node (low.node, high.node)) (all_counted v.columns x p.node b col k t u v.claims ys h.known.claims) ∙
      ap (λ (o : Option ℕ). way_told x ys taken o p.node (low.node, high.node)) (sym (teller_is v.returns 0 v.claims stamp)))
      (by_meeting m (told_in v.returns 0 v.claims stamp) h)

-- ---- at any node

module _ (v : View) (taken : List (ℕ × ℕ × Bool)) (nodes : List PlainNode) (x : code_trees.Tree) (ys : List code.Claim) (rows : ℕ) (p : place.Spot) where
  known_as : (s : TreeSpot) → IsPlace v.columns nodes x v.claims ys rows s p → IsHere v nodes x ys rows s.branch s.tree p
  known_as s h = record {
    depth_is = h.depth;
    known = subst (λ (n : ℕ). IsKnown v.columns nodes x v.claims ys (spot n s.branch s.tree)) (sym h.node)
        (record { spelled = h.known.spelled; sides = h.known.sides; claims = all_same s v.claims ys h.known.claims });
  }
    where
      all_same : (s : TreeSpot) (cs : List Claim) (zs : List code.Claim) → AllTell v.columns x s cs zs → AllTell v.columns x (spot s.node s.branch s.tree) cs zs
      all_same s cs zs a = a

  sides_here : (b : Branch) (t : trees.Tree) → IsHere v nodes x ys rows b t p → sides_in x p.node ≡ with_second p.node (second_of p.node t)
  sides_here b t h = everywhere_here (λ (z : TreeSpot). sides_in x z.node ≡ with_second z.node (second_of z.node z.tree)) v.columns p.node b t h.known.sides

  same_stop : (s : TreeSpot) → IsPlace v.columns nodes x v.claims ys rows s p → stops_at v taken s ≡ stops v taken p.node s.branch s.tree
  same_stop s h = ap (λ (n : ℕ). stops v taken n s.branch s.tree) (sym h.node)

  leaf_at : (b : Branch) (t : trees.Tree) → with_second p.node (second_of p.node t) ≡ None → IsHere v nodes x ys rows b t p →
      IsStop v.columns nodes x v.claims ys rows (stops v taken p.node b t) (Leaf p.node)
  leaf_at b (leaf_tree parts) e h = (refl, h.known)
  leaf_at b (cut_tree col k t u) e h = absurd (none_some _ (sym e))
  leaf_at b (cases_tree ts) e h = absurd h.known.spelled

  pub leaf_stop : (s : TreeSpot) → IsPlace v.columns nodes x v.claims ys rows s p → sides_in x p.node ≡ None → IsStop v.columns nodes x v.claims ys rows (stops_at v taken s) (Leaf p.node)
  leaf_stop s h e =
      let k : IsHere v nodes x ys rows s.branch s.tree p = known_as s h in
      subst (λ (z : Stop). IsStop v.columns nodes x v.claims ys rows z (Leaf p.node)) (sym (same_stop s h)) (leaf_at s.branch s.tree (sym (sides_here s.branch s.tree k) ∙ e) k)

  way_at_cut : (b : Branch) (t : trees.Tree) (sides : ℕ × ℕ) (way : Way) → with_second p.node (second_of p.node t) ≡ Some sides →
      way ≡ way_told x ys taken (teller v.returns 0 (counted_by x p.node ys)) p.node sides → IsHere v nodes x ys rows b t p → IsWay v taken nodes x ys rows p (stops v taken p.node b t) way
  way_at_cut b (leaf_tree parts) sides way e w h = absurd (none_some _ e)
  way_at_cut b (cut_tree col k t u) sides way e w h =
      let two : ((low_side v.columns p.node b col k t).node, (high_side v.columns p.node b col k t u).node) ≡ sides =
      some_same ((low_side v.columns p.node b col k t).node, (high_side v.columns p.node b col k t u).node) sides e in
      cut_way v taken nodes x ys rows p b col k t u way (w ∙ ap (λ (z : ℕ × ℕ). way_told x ys taken (teller v.returns 0 (counted_by x p.node ys)) p.node z) (sym two)) h
  way_at_cut b (cases_tree ts) sides way e w h = absurd h.known.spelled

  pub way_is : (s : TreeSpot) (sides : ℕ × ℕ) (way : Way) → IsPlace v.columns nodes x v.claims ys rows s p → sides_in x p.node ≡ Some sides →
      way ≡ way_told x ys taken (teller v.returns 0 (counted_by x p.node ys)) p.node sides → IsWay v taken nodes x ys rows p (stops_at v taken s) way
  way_is s sides way h e w =
      let k : IsHere v nodes x ys rows s.branch s.tree p = known_as s h in
      subst (λ (z : Stop). IsWay v taken nodes x ys rows p z way) (sym (same_stop s h)) (way_at_cut s.branch s.tree sides way (sym (sides_here s.branch s.tree k) ∙ e) w k)

-- ---- the loop along the tree

-- the place is that of a spot from which the refutation stops at the same
pub record IsOnWay (v : View) (taken : List (ℕ × ℕ × Bool)) (nodes : List PlainNode) (x : code_trees.Tree) (ys : List code.Claim) (rows : ℕ) (stop : Stop) (p : place.Spot) : Type 0 where
  pub at : TreeSpot
  pub place_is : IsPlace v.columns nodes x v.claims ys rows at p
  pub same : stop ≡ stops_at v taken at

pub on_way_next : (v : View) (taken : List (ℕ × ℕ × Bool)) (nodes : List PlainNode) (x : code_trees.Tree) (ys : List code.Claim) (rows : ℕ) (stop : Stop) (p q : place.Spot) (sides : ℕ × ℕ) (part : ℕ) →
    sides_in x p.node ≡ Some sides → Part part ≡ way_told x ys taken (teller v.returns 0 (counted_by x p.node ys)) p.node sides → q.node ≡ part → q.depth ≡ p.depth + 1 →
    IsOnWay v taken nodes x ys rows stop p → IsOnWay v taken nodes x ys rows stop q
on_way_next v taken nodes x ys rows stop p q sides part e w n d h =
    let g : GoesOn v taken nodes x ys rows (p.depth + 1) part (stops_at v taken h.at) = way_is v taken nodes x ys rows p h.at sides (Part part) h.place_is e w in
    record {
      at = g.next;
      place_is = record { node = n ∙ g.node; depth = g.depth_is ∙ ap (λ (m : ℕ). rows + m) (sym d); known = g.known };
      same = h.same ∙ g.same;
    }

pub on_way_leaf : (v : View) (taken : List (ℕ × ℕ × Bool)) (nodes : List PlainNode) (x : code_trees.Tree) (ys : List code.Claim) (rows : ℕ) (stop : Stop) (p : place.Spot) →
    sides_in x p.node ≡ None → IsOnWay v taken nodes x ys rows stop p → IsStop v.columns nodes x v.claims ys rows stop (Leaf p.node)
on_way_leaf v taken nodes x ys rows stop p e h =
    subst (λ (z : Stop). IsStop v.columns nodes x v.claims ys rows z (Leaf p.node)) (sym h.same) (leaf_stop v taken nodes x ys rows p h.at h.place_is e)

pub on_way_cut : (v : View) (taken : List (ℕ × ℕ × Bool)) (nodes : List PlainNode) (x : code_trees.Tree) (ys : List code.Claim) (rows : ℕ) (stop : Stop) (p : place.Spot) (sides : ℕ × ℕ) →
    sides_in x p.node ≡ Some sides → Own ≡ way_told x ys taken (teller v.returns 0 (counted_by x p.node ys)) p.node sides → IsOnWay v taken nodes x ys rows stop p →
    IsStop v.columns nodes x v.claims ys rows stop (Cut p)
on_way_cut v taken nodes x ys rows stop p sides e w h =
    subst (λ (z : Stop). IsStop v.columns nodes x v.claims ys rows z (Cut p)) (sym h.same) (way_is v taken nodes x ys rows p h.at sides Own h.place_is e w)

pub on_way_group : (v : View) (taken : List (ℕ × ℕ × Bool)) (nodes : List PlainNode) (x : code_trees.Tree) (ys : List code.Claim) (rows : ℕ) (stop : Stop) (p : place.Spot) (sides : ℕ × ℕ) →
    sides_in x p.node ≡ Some sides → NoMember ≡ way_told x ys taken (teller v.returns 0 (counted_by x p.node ys)) p.node sides → IsOnWay v taken nodes x ys rows stop p →
    IsStop v.columns nodes x v.claims ys rows stop (Group p)
on_way_group v taken nodes x ys rows stop p sides e w h =
    subst (λ (z : Stop). IsStop v.columns nodes x v.claims ys rows z (Group p)) (sym h.same) (way_is v taken nodes x ys rows p h.at sides NoMember h.place_is e w)
