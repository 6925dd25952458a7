-- The loop over a refutation's nodes.
use Rattle.std.proofs.Common.{◌≡◌, ◌∙◌, ℕ, zero, suc, ◌+◌, ◌*◌, ◌<◌, ◌≤◌, ℤ, List, [], ◌∷◌, ◌++◌, length, map, drop, take, get_or, reverse, append_assoc, length-append, refl, sym, ap, subst, arith, Option, None, Some}
use Rattle.std.specs.List.{AllByRecursion}
use Rattle.std.proofs.lemmas.List.{append-nil, reverse-append, length-map}
use Rattle.math_facts.specs.Fits.{Fits}
use Rattle.lin_rows.specs.Rows.{LinearRow, IsRow}
use Rattle.lin_rows.specs.Negating.{below_opposite}
use Rattle.lin_rows.specs.Combinations.{Contradicts}
use Rattle.std.specs.Prelude.{Result, Ok, Err, OnOk}
use Rattle.nwa_base.specs.declared.letters.Letter.{Letter}
use Rattle.letter_acts.specs.Acts.{Alphabet, act_of}
use Rattle.letter_acts.specs.Invariant.{Graph, alphabet_of}
use Rattle.path_rows.specs.Versions.{PathStage, part_of}
use Rattle.path_rows.specs.Paths.{start_frame, first_stage, path_of}
use Rattle.farkas_check.specs.Nodes.{PlainNode, leaf, cut, cases, plain, plain_nodes}
use Rattle.farkas_check.specs.declared.refutations.Node.{Node}
use Rattle.farkas_check.specs.Trees.{Tree, leaf_tree, cut_tree, cases_tree, prefix_of, TreeRefutes}
use Rattle.farkas_check.specs.Refutes.{Goal, at_most, above, Refute}
use Rattle.triple_rows.specs.declared.predicates.PredNode.{PredNode}
use Rattle.nested_itp.specs.declared.nested_predicates.branches.Branches.{Branches}
use Rattle.nested_itp.specs.NestedPredicates.Stamps.{stamps_of, column_stamp}
use Rattle.nested_itp.specs.declared.nested_predicates.branches.Waiting.{Waiting}
use Rattle.nested_itp.specs.declared.nested_predicates.spots.Spot.{Spot}
use Rattle.nested_itp.specs.NestedPredicates.Spots.{spot_at}
use Rattle.nested_itp.specs.NestedPredicates.Positions.{CallScope, scopes_after, Position, position_at, positions_along, start_scope, positions_of}
use Rattle.nested_itp.specs.NestedPredicates.Sums.{Branch, root_of, with_cut}
use Rattle.nested_itp.specs.NestedPredicates.Fitting.{SumsFit, NodeFits, NodesFit}
use Rattle.nested_itp.specs.NestedPredicates.Interpolants.{RefutesRows}
use Rattle.nested_itp.specs.NestedPredicates.Layouts.{HasStamps, leaf_node}
use Rattle.nested_itp.proofs.NestedPredicates.EndLaws.{tree_refutes}
use Rattle.nested_itp.proofs.NestedPredicates.StampLaws.{IsWithin, IsStamped, stamp_within, columns_of_word_within, root_stamped}
use Rattle.nested_itp.specs.NestedPredicates.Tables.{upto, entered, Wait, branch_of, HasNext, Await, CanTake, row_of_node, branches_after, IsGood, cut_nodes_from, cut_node_at, table_along}

-- what a branch has to refute
abbrev pub goal_at : Branch → Goal
goal_at b = record { rows = b.rows; groups = [] }

-- i nodes are read
pub record TableRead (g : Graph) (w : List Letter) (nodes : List PlainNode) (i : ℕ) (s : Branches) (table : List (List PredNode)) : Type 0 where
  pub branches : List Branch
  pub await : Await s branches
  pub good : AllByRecursion IsGood branches
  pub refutes : Refute (drop i nodes) (map goal_at branches)
  pub rest : (let columns = (stamps_of g w).columns in let qs = positions_of g w in
      table ++ table_along columns qs (drop i nodes) branches ≡ table_along columns qs nodes (root_of g w ∷ []))
  pub fits : (t : Tree) → prefix_of t ≡ nodes → SumsFit (stamps_of g w).columns (positions_of g w) (root_of g w) t →
      NodesFit (stamps_of g w).columns (positions_of g w) (drop i nodes) branches

-- ---- branches that wait

take_front : {X : Type 0} (n : ℕ) (xs ys : List X) → n ≤ length xs → take n (xs ++ ys) ≡ take n xs
take_front zero xs ys l = refl
take_front (suc n) [] ys l = absurd (omega (arith, l))
take_front (suc n) (x ∷ xs) ys l = ap (λ (zs : List _). x ∷ zs) (take_front n xs ys (omega (arith, l)))

taken_alike : {X Y : Type 0} (n : ℕ) (xs : List X) (ys : List Y) → length xs ≡ length ys → length (take n xs) ≡ length (take n ys)
taken_alike zero xs ys e = refl
taken_alike (suc n) [] [] e = refl
taken_alike (suc n) [] (y ∷ ys) e = absurd (omega (arith, e))
taken_alike (suc n) (x ∷ xs) [] e = absurd (omega (arith, e))
taken_alike (suc n) (x ∷ xs) (y ∷ ys) e = ap suc (taken_alike n xs ys (omega (arith, e)))

upto_more : (n : ℕ) (b : Branch) (stamp : ℕ) (row : LinearRow) → n ≤ length b.rows → length b.stamps ≡ length b.rows → upto n (with_cut b stamp row) ≡ upto n b
upto_more n b stamp row l e = λ i. record {
  rows = take_front n b.rows (row ∷ []) l i;
  stamps = take_front n b.stamps (stamp ∷ []) (omega (arith, l, e)) i;
}

wait_more : (b : Branch) (stamp : ℕ) (row : LinearRow) (ws : List Waiting) (xs : List Branch) → length b.stamps ≡ length b.rows → Wait b ws xs → Wait (with_cut b stamp row) ws xs
wait_more b stamp row [] [] e h = tt
wait_more b stamp row [] (x ∷ xs) e h = absurd h
wait_more b stamp row (w ∷ ws) [] e h = absurd h
wait_more b stamp row (w ∷ ws) (x ∷ xs) e h =
    let u : upto w.depth (with_cut b stamp row) ≡ upto w.depth b = upto_more w.depth b stamp row h.0 e in
    let n : length (b.rows ++ row ∷ []) ≡ length b.rows + 1 = length-append b.rows (row ∷ []) in (
      (let l = h.0 in omega (arith, l, n)),
      h.1 ∙ ap (λ (y : Branch). entered y w.side) (sym u),
      subst (λ (y : Branch). Wait y ws xs) (sym u) h.2,
    )

wait_entered : (b : Branch) (side : Option (LinearRow × ℕ)) (ws : List Waiting) (xs : List Branch) → length b.stamps ≡ length b.rows → Wait b ws xs →
    Wait (entered b side) ws xs × (length (entered b side).stamps ≡ length (entered b side).rows)
wait_entered b None ws xs e h = (h, e)
wait_entered b (Some s) ws xs e h = (
  wait_more b s.1 s.0 ws xs e h,
  (let x : length (b.rows ++ s.0 ∷ []) ≡ length b.rows + 1 = length-append b.rows (s.0 ∷ []) in
      let y : length (b.stamps ++ s.1 ∷ []) ≡ length b.stamps + 1 = length-append b.stamps (s.1 ∷ []) in omega (arith, x, y, e)),
)

pub next_entered : (s new : Branches) (w : Waiting) (front : List Waiting) (base : Branch) → s.waiting.items ≡ front ++ w ∷ [] → new.waiting.items ≡ front → base ≡ upto w.depth (branch_of s) →
    branch_of new ≡ entered base w.side → (b : Branch) (rest : List Branch) → Await s (b ∷ rest) → (branch_of new ≡ b) × Await new rest
next_entered s new w front base e f u now b rest h =
    let old : Branch = branch_of s in
    let cut : Branch = upto w.depth old in
    let back : reverse s.waiting.items ≡ w ∷ reverse front = ap reverse e ∙ reverse-append front (w ∷ []) in
    let k : Wait old (w ∷ reverse front) (b ∷ rest) = subst (λ (l : List Waiting). Wait old l (b ∷ rest)) back h.waiting in
    let same : length cut.stamps ≡ length cut.rows = taken_alike w.depth s.stamps.items s.rows.items h.as_many in
    let next : branch_of new ≡ entered cut w.side = now ∙ ap (λ (x : Branch). entered x w.side) u in
    let after = wait_entered cut w.side (reverse front) rest same k.2 in (
      next ∙ sym k.1,
      record {
        as_many = subst (λ (z : Branch). length z.stamps ≡ length z.rows) (sym next) after.1;
        waiting = subst (λ (l : List Waiting). Wait (branch_of new) (reverse l) rest) (sym f) (subst (λ (z : Branch). Wait z (reverse front) rest) (sym next) after.0);
      },
    )

some_items : (w : Waiting) (ws l : List Waiting) → reverse l ≡ w ∷ ws → 0 < length l
some_items w ws [] f = absurd (cc)
some_items w ws (v ∷ l) f = omega arith

pub some_waits : (s : Branches) (b : Branch) (rest : List Branch) → Await s (b ∷ rest) → HasNext s
some_waits s b rest h = by_waiting (reverse s.waiting.items) refl h.waiting
  where
    by_waiting : (ws : List Waiting) → reverse s.waiting.items ≡ ws → Wait (branch_of s) ws (b ∷ rest) → 0 < length s.waiting.items
    by_waiting [] e k = absurd k
    by_waiting (w ∷ ws) e k = some_items w ws s.waiting.items e

-- ---- cuts

cut_from : (al : Alphabet) (n stamp : ℕ) (p : PathStage) (scopes : List CallScope) (w : List Letter) →
    cut_nodes_from n stamp (map spot_at (positions_along al n p scopes w)) ≡ map (cut_node_at stamp) (positions_along al n p scopes w)
cut_from al n stamp p scopes [] = refl
cut_from al n stamp p scopes (a ∷ w) =
    let after : PathStage = (part_of al a p).after in
    ap (λ (l : List PredNode). cut_node_at stamp (position_at n p scopes) ∷ l)
    (cut_from al (suc n) stamp after (scopes_after al (suc n) a.kind (act_of al a) w after.here p.here scopes) w)

pub cut_is : (g : Graph) (w : List Letter) (columns stamps : List ℕ) (c stamp : ℕ) (k : ℤ) (b : Branch) (spots : List Spot) (row : List PredNode) → spots ≡ map spot_at (positions_of g w) →
    stamp ≡ column_stamp stamps c → stamps ≡ columns → row ≡ cut_nodes_from 0 stamp spots → row ≡ row_of_node columns (positions_of g w) (cut c k) b
cut_is g w columns stamps c stamp k b spots row e f h r =
    r ∙ ap (λ (l : List Spot). cut_nodes_from 0 stamp l) e ∙ cut_from (alphabet_of g) 0 stamp (first_stage (start_frame g)) (start_scope g ∷ []) w ∙
    ap (λ (s : ℕ). map (cut_node_at s) (positions_of g w)) (f ∙ ap (λ (l : List ℕ). column_stamp l c) h)

pub leaf_is : (columns : List ℕ) (qs : List Position) (b : Branch) (n : PlainNode) (rows : List LinearRow) (stamps : List ℕ) (parts ps : List (ℕ × ℤ)) (v : List PredNode) → rows ≡ b.rows → stamps ≡ b.stamps →
    parts ≡ ps → n ≡ leaf ps → v ≡ map (leaf_node (record { rows = rows; stamps = stamps }) parts) qs → v ≡ row_of_node columns qs n b
leaf_is columns qs b n rows stamps parts ps v e f h m r =
    r ∙
    ap (λ (x : List LinearRow). map (leaf_node (record { rows = x; stamps = stamps }) parts) qs) e ∙
    ap (λ (x : List ℕ). map (leaf_node (record { rows = b.rows; stamps = x }) parts) qs) f ∙
    ap (λ (x : List (ℕ × ℤ)). map (leaf_node b x) qs) h ∙
    ap (λ (x : PlainNode). row_of_node columns qs x b) (sym m)

pub leaf_contradicts : (b : Branch) (n : PlainNode) (rows : List LinearRow) (parts ps : List (ℕ × ℤ)) → rows ≡ b.rows → parts ≡ ps → n ≡ leaf ps → CanTake n b → Contradicts rows parts
leaf_contradicts b n rows parts ps e h m k =
    subst (λ (x : List LinearRow). Contradicts x parts) (sym e) (subst (λ (x : List (ℕ × ℤ)). Contradicts b.rows x) (sym h) (subst (λ (x : PlainNode). CanTake x b) m k))

pub good_stamps : (b : Branch) (rows : List LinearRow) (stamps : List ℕ) → rows ≡ b.rows → stamps ≡ b.stamps → HasStamps b → HasStamps (record { rows = rows; stamps = stamps })
good_stamps b rows stamps e f h =
    subst (λ (x : List LinearRow). HasStamps (record { rows = x; stamps = stamps })) (sym e) (subst (λ (x : List ℕ). HasStamps (record { rows = b.rows; stamps = x })) (sym f) h)

pub ok_anyway : {A E : Type 0} (P : Type 0) (r : Result A E) → P → OnOk r P
ok_anyway P (Ok a) h = h
ok_anyway P (Err e) h = tt

-- ---- the loop

-- the next node, with the branch at which it stands
pub record Next (g : Graph) (w : List Letter) (nodes : List PlainNode) (i : ℕ) (s : Branches) (table : List (List PredNode)) (n : PlainNode) : Type 0 where
  pub branch : Branch
  pub rest : List Branch
  pub await : Await s (branch ∷ rest)
  pub good : IsGood branch
  pub goods : AllByRecursion IsGood rest
  pub take : CanTake n branch
  pub refutes : Refute (drop (i + 1) nodes) (map goal_at (branches_after (stamps_of g w).columns n branch rest))
  pub row : (let columns = (stamps_of g w).columns in let qs = positions_of g w in
      table ++ row_of_node columns qs n branch ∷ table_along columns qs (drop (i + 1) nodes) (branches_after columns n branch rest) ≡ table_along columns qs nodes (root_of g w ∷ []))
  pub fits : (t : Tree) → prefix_of t ≡ nodes → SumsFit (stamps_of g w).columns (positions_of g w) (root_of g w) t →
      NodeFits (positions_of g w) n branch × NodesFit (stamps_of g w).columns (positions_of g w) (drop (i + 1) nodes) (branches_after (stamps_of g w).columns n branch rest)

taken : (columns : List ℕ) (n : PlainNode) (ns : List PlainNode) (b : Branch) (rest : List Branch) → Refute (n ∷ ns) (goal_at b ∷ map goal_at rest) →
    CanTake n b × Refute ns (map goal_at (branches_after columns n b rest))
taken columns (leaf parts) ns b rest r = (r.0, r.1)
taken columns (cut c k) ns b rest r = ((r.0, r.1), r.2)
taken columns (cases n) ns b rest r = absurd r

pub next_of : (g : Graph) (w : List Letter) (nodes : List PlainNode) (i : ℕ) (s : Branches) (table : List (List PredNode)) (n : PlainNode) → drop i nodes ≡ n ∷ drop (i + 1) nodes →
    TableRead g w nodes i s table → Next g w nodes i s table n
next_of g w nodes i s table n f h =
    by_branches h.branches h.await h.good (subst (λ (l : List PlainNode). Refute l (map goal_at h.branches)) f h.refutes)
    (subst (λ (l : List PlainNode). table ++ table_along (stamps_of g w).columns (positions_of g w) l h.branches ≡ table_along (stamps_of g w).columns (positions_of g w) nodes (root_of g w ∷ [])) f h.rest)
    (λ t e k. subst (λ (l : List PlainNode). NodesFit (stamps_of g w).columns (positions_of g w) l h.branches) f (h.fits t e k))
  where
    by_branches : (bs : List Branch) → Await s bs → AllByRecursion IsGood bs → Refute (n ∷ drop (i + 1) nodes) (map goal_at bs) →
        table ++ table_along (stamps_of g w).columns (positions_of g w) (n ∷ drop (i + 1) nodes) bs ≡ table_along (stamps_of g w).columns (positions_of g w) nodes (root_of g w ∷ []) →
        ((t : Tree) → prefix_of t ≡ nodes → SumsFit (stamps_of g w).columns (positions_of g w) (root_of g w) t → NodesFit (stamps_of g w).columns (positions_of g w) (n ∷ drop (i + 1) nodes) bs) →
        Next g w nodes i s table n
    by_branches [] a k r e fits = absurd r
    by_branches (b ∷ rest) a k r e fits =
        let x = taken (stamps_of g w).columns n (drop (i + 1) nodes) b rest r in
        record { branch = b; rest = rest; await = a; good = k.0; goods = k.1; take = x.0; refutes = x.1; row = e; fits = fits }

more : {X : Type 0} (P : X → Type 0) (xs : List X) (x : X) → AllByRecursion P xs → P x → AllByRecursion P (xs ++ x ∷ [])
more P [] x h p = (p, tt)
more P (y ∷ ys) x h p = (h.0, more P ys x h.1 p)

good_cut : (b : Branch) (stamp : ℕ) (row : LinearRow) → 2 ≤ stamp → IsRow row → IsGood b → IsGood (with_cut b stamp row)
good_cut b stamp row two r h = record {
  rows = more IsRow b.rows row h.rows r;
  stamps = record {
    as_many = (let x = length-append b.stamps (stamp ∷ []) in let y = length-append b.rows (row ∷ []) in let z = h.stamps.as_many in
        let x1 : length (b.stamps ++ stamp ∷ []) ≡ length b.stamps + 1 = x in let y1 : length (b.rows ++ row ∷ []) ≡ length b.rows + 1 = y in omega (arith, x1, y1, z));
    from_two = more (λ s. 2 ≤ s) b.stamps stamp h.stamps.from_two two;
  };
}

row_below : (c : ℕ) (k : ℤ) → Fits k → IsRow (at_most c k)
row_below c k f = record {
  ascends = (omega arith, tt);
  coefficients = (record { is_not_zero = λ e. absurd (cc); fits = omega arith }, tt);
  bound_fits = f;
}

row_above : (c : ℕ) (k : ℤ) → Fits (below_opposite k) → IsRow (above c k)
row_above c k f = record {
  ascends = (omega arith, tt);
  coefficients = (record { is_not_zero = λ e. absurd (cc); fits = omega arith }, tt);
  bound_fits = f;
}

goods_after : (columns : List ℕ) (n : PlainNode) (b : Branch) (rest : List Branch) → ((c : ℕ) → 2 ≤ column_stamp columns c) → IsGood b → CanTake n b → AllByRecursion IsGood rest →
    AllByRecursion IsGood (branches_after columns n b rest)
goods_after columns (leaf parts) b rest two h k r = r
goods_after columns (cut c k) b rest two h f r = (
  good_cut b (column_stamp columns c) (at_most c k) (two c) (row_below c k f.0) h,
  (good_cut b (column_stamp columns c) (above c k) (two c) (row_above c k f.1) h, r),
)
goods_after columns (cases n) b rest two h k r = r

from_two : (g : Graph) (w : List Letter) (c : ℕ) → 2 ≤ column_stamp (stamps_of g w).columns c
from_two g w c =
    let limit : ℕ = 2 * (1 + length w) + 1 in
    (stamp_within limit c (stamps_of g w).columns (omega arith) (columns_of_word_within limit g w (omega arith) (omega arith))).0

pub table_next : (g : Graph) (w : List Letter) (nodes : List PlainNode) (i : ℕ) (s new : Branches) (table more : List (List PredNode)) (row : List PredNode) (n : PlainNode) (h : Next g w nodes i s table n) →
    Await new (branches_after (stamps_of g w).columns n h.branch h.rest) → row ≡ row_of_node (stamps_of g w).columns (positions_of g w) n h.branch → more ≡ table ++ row ∷ [] →
    TableRead g w nodes (i + 1) new more
table_next g w nodes i s new table more row n h a e m =
    let columns : List ℕ = (stamps_of g w).columns in
    let qs : List Position = positions_of g w in
    let rest : List (List PredNode) = table_along columns qs (drop (i + 1) nodes) (branches_after columns n h.branch h.rest) in
    record {
      branches = branches_after columns n h.branch h.rest;
      await = a;
      good = goods_after columns n h.branch h.rest (from_two g w) h.good h.take h.goods;
      refutes = h.refutes;
      rest = ap (λ (l : List (List PredNode)). l ++ rest) m ∙ append_assoc table (row ∷ []) rest ∙ ap (λ (r : List PredNode). table ++ r ∷ rest) e ∙ h.row;
      fits = λ t f k. (h.fits t f k).1;
    }

-- the sums of the node at hand do not fit
pub table_past : (g : Graph) (w : List Letter) (nodes : List PlainNode) (i : ℕ) (s : Branches) (table : List (List PredNode)) (n : PlainNode) (b : Branch) (h : Next g w nodes i s table n) → b ≡ h.branch →
    (NodeFits (positions_of g w) n b → ⊥) → (t : Tree) → prefix_of t ≡ nodes → SumsFit (stamps_of g w).columns (positions_of g w) (root_of g w) t → ⊥
table_past g w nodes i s table n b h e past t f k = past (subst (NodeFits (positions_of g w) n) (sym e) (h.fits t f k).0)

pub root_good : (g : Graph) (w : List Letter) → AllByRecursion IsRow (root_of g w).rows → IsGood (root_of g w)
root_good g w h =
    let limit : ℕ = 2 * (1 + length w) + 1 in
    let s : IsStamped limit (root_of g w) = root_stamped limit g w (omega arith) (omega arith) in
    record { rows = h; stamps = record { as_many = s.as_many; from_two = first_half limit (root_of g w).stamps s.within } }
  where
    first_half : (limit : ℕ) (xs : List ℕ) → AllByRecursion (IsWithin limit) xs → AllByRecursion (λ s. 2 ≤ s) xs
    first_half limit [] h = tt
    first_half limit (x ∷ xs) h = (h.0.0, first_half limit xs h.1)

pub root_counts : (g : Graph) (w : List Letter) (rows : List LinearRow) (stamps : List ℕ) → rows ≡ (root_of g w).rows → stamps ≡ (root_of g w).stamps → length stamps ≡ length rows
root_counts g w rows stamps e f =
    let limit : ℕ = 2 * (1 + length w) + 1 in
    ap (λ (l : List ℕ). length l) f ∙ (root_stamped limit g w (omega arith) (omega arith)).as_many ∙ ap (λ (l : List LinearRow). length l) (sym e)

-- the nodes of a tree without cases
nodes_fit : (columns : List ℕ) (qs : List Position) (t : Tree) (b : Branch) (more : List PlainNode) (rest : List Branch) → TreeRefutes t (goal_at b) → SumsFit columns qs b t →
    NodesFit columns qs more rest → NodesFit columns qs (prefix_of t ++ more) (b ∷ rest)
nodes_fit columns qs (leaf_tree parts) b more rest r h k = (h, k)
nodes_fit columns qs (cut_tree c k t u) b more rest r h m =
    let low : Branch = with_cut b (column_stamp columns c) (at_most c k) in
    let high : Branch = with_cut b (column_stamp columns c) (above c k) in (
      tt,
      subst (λ (ns : List PlainNode). NodesFit columns qs ns (low ∷ high ∷ rest)) (sym (append_assoc (prefix_of t) (prefix_of u) more))
          (nodes_fit columns qs t low (prefix_of u ++ more) (high ∷ rest) r.2 h.0 (nodes_fit columns qs u high more rest r.3 h.1 m)),
    )
nodes_fit columns qs (cases_tree ts) b more rest r h k = absurd r

pub table_start : (g : Graph) (w : List Letter) (nodes : List PlainNode) (s : Branches) (table : List (List PredNode)) (rows path_rows : List LinearRow) (stamps : List ℕ) → rows ≡ (root_of g w).rows →
    stamps ≡ (root_of g w).stamps → AllByRecursion IsRow rows → Await s (record { rows = rows; stamps = stamps } ∷ []) → path_rows ≡ (path_of g w).rows → RefutesRows nodes path_rows → table ≡ [] →
    TableRead g w nodes 0 s table
table_start g w nodes s table rows path_rows stamps e f ok a p r m = record {
  branches = root_of g w ∷ [];
  await = subst (λ (b : Branch). Await s (b ∷ [])) (λ i. record { rows = e i; stamps = f i }) a;
  good = (root_good g w (subst (AllByRecursion IsRow) e ok), tt);
  refutes = subst (λ (l : List LinearRow). RefutesRows nodes l) p r;
  rest = ap (λ (l : List (List PredNode)). l ++ table_along (stamps_of g w).columns (positions_of g w) nodes (root_of g w ∷ [])) m;
  fits = λ t f k.
      let refuted : RefutesRows (prefix_of t) (path_of g w).rows = subst (λ (ns : List PlainNode). RefutesRows ns (path_of g w).rows) (sym f) (subst (λ (l : List LinearRow). RefutesRows nodes l) p r) in
      subst (λ (ns : List PlainNode). NodesFit (stamps_of g w).columns (positions_of g w) ns (root_of g w ∷ [])) (append-nil (prefix_of t) ∙ f)
      (nodes_fit (stamps_of g w).columns (positions_of g w) t (root_of g w) [] [] (tree_refutes t g w refuted) k tt);
}

pub node_front : (nodes : List Node) (i : ℕ) (n d : Node) → i < length nodes → n ≡ get_or nodes i d → drop i (plain_nodes nodes) ≡ plain n ∷ drop (i + 1) (plain_nodes nodes)
node_front [] i n d l e = absurd (omega (arith, l))
node_front (x ∷ xs) zero n d l e = ap (λ (y : Node). plain y ∷ plain_nodes xs) (sym e)
node_front (x ∷ xs) (suc i) n d l e =
    node_front xs i n d (omega (arith, l)) e ∙ ap (λ (k : ℕ). plain n ∷ drop k (plain_nodes (x ∷ xs))) (let k : suc (i + 1) ≡ suc i + 1 = omega arith in k)

pub table_done : (g : Graph) (w : List Letter) (nodes : List Node) (i : ℕ) (s : Branches) (table : List (List PredNode)) → length nodes ≤ i → TableRead g w (plain_nodes nodes) i s table →
    table ≡ table_along (stamps_of g w).columns (positions_of g w) (plain_nodes nodes) (root_of g w ∷ [])
table_done g w nodes i s table l h =
    let e : drop i (plain_nodes nodes) ≡ [] = dropped (plain_nodes nodes) i (let n : length (plain_nodes nodes) ≡ length nodes = length-map nodes plain in omega (arith, l, n)) in
    sym (append-nil table) ∙ subst (λ (ns : List PlainNode). table ++ table_along (stamps_of g w).columns (positions_of g w) ns h.branches ≡ table_along (stamps_of g w).columns (positions_of g w) (plain_nodes nodes) (root_of g w ∷ [])) e h.rest
  where
    dropped : (xs : List PlainNode) (k : ℕ) → length xs ≤ k → drop k xs ≡ []
    dropped [] zero l = refl
    dropped [] (suc k) l = refl
    dropped (x ∷ xs) zero l = absurd (omega (arith, l))
    dropped (x ∷ xs) (suc k) l = dropped xs k (omega (arith, l))
