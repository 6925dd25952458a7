-- The first prefix predicate is true, since nothing is counted there, and the last one false, since all is.
use Rattle.std.proofs.Common.{◌≡◌, ◌⊎◌, ◌∙◌, ℕ, suc, ◌+◌, ◌*◌, ◌≤◌, ◌<◌, ℤ, pos, negsuc, ◌<ℤ◌, Bool, true, false, cond, List, [], ◌∷◌, ◌++◌, length, map, append_assoc, refl, sym, ap, subst, inl, inr, arith, Option, None, Some}
use Rattle.std.specs.Prelude.{slice_index, nat_lt}
use Rattle.std.specs.List.{AllByRecursion}
use Rattle.std.proofs.lemmas.Bool.{lt-ltb, le-ltb}
use Rattle.std.proofs.lemmas.List.{append-nil}
use Rattle.std.proofs.lemmas.Int.{ints}
use Rattle.math_facts.specs.Terms.{coefficient}
use Rattle.lin_rows.specs.Rows.{LinearRow}
use Rattle.lin_rows.specs.Combinations.{IsPart, combined, Contradicts}
use Rattle.nwa_base.specs.declared.letters.Kind.{Kind}
use Rattle.nwa_base.specs.declared.letters.Kind.TheVariants.{Inside, Call, Back}
use Rattle.nwa_base.specs.declared.letters.Letter.{Letter}
use Rattle.letter_acts.specs.Acts.{PlainAct, Alphabet, act_of}
use Rattle.letter_acts.specs.Invariant.{Graph, alphabet_of}
use Rattle.path_rows.specs.Versions.{PathStage, part_of}
use Rattle.path_rows.specs.Paths.{start_frame, first_stage, path_of}
use Rattle.farkas_check.specs.Nodes.{PlainNode}
use Rattle.farkas_check.specs.Refutes.{Goal, at_most, above, Refute}
use Rattle.farkas_check.specs.Trees.{Tree, leaf_tree, cut_tree, cases_tree, prefix_of, TreeRefutes}
use Rattle.triple_rows.specs.declared.triples.Scoped.{Scoped}
use Rattle.triple_rows.specs.Predicates.{Formula, truth}
use Rattle.triple_rows.specs.Predicates as preds
use Rattle.nested_itp.specs.NestedPredicates.Stamps.{column_stamp, stamps_of}
use Rattle.nested_itp.specs.NestedPredicates.Positions.{CallScope, returned_by, has_return, scopes_after, Position, innermost, position_at, positions_along, start_scope, is_counted}
use Rattle.nested_itp.specs.NestedPredicates.Sums.{Branch, root_of, with_cut, parts_upto, column_upto, bound_upto, known_sum, column_sums, terms_from, is_not_negative, inequality, coefficients_at, bound_at, sum_at}
use Rattle.nested_itp.specs.NestedPredicates.Joins.{joined_formulas, joined_at, simplified, predicate_at}
use Rattle.nested_itp.specs.NestedPredicates.Interpolants.{RefutesRows, interpolant_at, prefix_predicates, BeginsTrue, EndsFalse}
use Rattle.nested_itp.proofs.NestedPredicates.StampLaws.{IsWithin, index_within, stamp_within, columns_of_word_within, IsStamped, root_stamped, cut_stamped}

-- ---- parts of which none or all are counted

filtered : (b : Bool) (t : ℕ × ℤ) (ts : List (ℕ × ℤ)) → b ≡ false → ts ≡ [] → cond b (t ∷ ts) ts ≡ []
filtered true t ts e h = absurd (cc)
filtered false t ts e h = h

kept : (b : Bool) (t : ℕ × ℤ) (rest ts : List (ℕ × ℤ)) → b ≡ true → rest ≡ ts → cond b (t ∷ rest) rest ≡ t ∷ ts
kept true t rest ts e h = ap (λ (l : List (ℕ × ℤ)). t ∷ l) h
kept false t rest ts e h = absurd (cc)

stamp_of_part : (limit : ℕ) (b : Branch) (t : ℕ × ℤ) → IsStamped limit b → IsPart b.rows t → IsWithin limit (slice_index b.stamps t.0)
stamp_of_part limit b t s p = index_within (IsWithin limit) b.stamps t.0 (omega (arith, s.as_many, p.exists)) s.within

none_counted : (limit s : ℕ) (b : Branch) (parts : List (ℕ × ℤ)) → s < 2 → IsStamped limit b → AllByRecursion (IsPart b.rows) parts → parts_upto b.stamps s parts ≡ []
none_counted limit s b [] l h each = refl
none_counted limit s b (t ∷ ts) l h each =
    let i : IsWithin limit (slice_index b.stamps t.0) = stamp_of_part limit b t h each.0 in
    filtered (nat_lt (slice_index b.stamps t.0) (suc s)) t (parts_upto b.stamps s ts) (le-ltb (slice_index b.stamps t.0) (suc s) (omega (arith, l, i.0)))
    (none_counted limit s b ts l h each.1)

all_counted : (limit s : ℕ) (b : Branch) (parts : List (ℕ × ℤ)) → limit ≤ suc s → IsStamped limit b → AllByRecursion (IsPart b.rows) parts → parts_upto b.stamps s parts ≡ parts
all_counted limit s b [] l h each = refl
all_counted limit s b (t ∷ ts) l h each =
    let i : IsWithin limit (slice_index b.stamps t.0) = stamp_of_part limit b t h each.0 in
    kept (nat_lt (slice_index b.stamps t.0) (suc s)) t (parts_upto b.stamps s ts) ts (lt-ltb (slice_index b.stamps t.0) (suc s) (omega (arith, l, i.1)))
    (all_counted limit s b ts l h each.1)

-- ---- sums whose columns are all 0

-- the numbers of all columns at a stamp are 0
abbrev AllVanish : Branch → List (ℕ × ℤ) → ℕ → Type 0
AllVanish b parts s = (v : ℕ) → column_upto b parts s v ≡ pos 0

known_vanishes : (b : Branch) (parts : List (ℕ × ℤ)) (own : ℕ) (k : Option ℕ) → AllVanish b parts own → known_sum b parts own k ≡ pos 0
known_vanishes b parts own None h = refl
known_vanishes b parts own (Some v) h = h v

sums_vanish : (b : Branch) (parts : List (ℕ × ℤ)) (own upto : ℕ) (here : List ℕ) (known : List (Option ℕ)) → AllVanish b parts own → AllVanish b parts upto →
    AllByRecursion (λ z. z ≡ pos 0) (column_sums b parts own upto here known)
sums_vanish b parts own upto [] known h k = tt
sums_vanish b parts own upto (v ∷ vs) [] h k = (k v, sums_vanish b parts own upto vs [] h k)
sums_vanish b parts own upto (v ∷ vs) (x ∷ xs) h k =
    (rw (k v) (rw (known_vanishes b parts own x h) refl), sums_vanish b parts own upto vs xs h k)

no_terms : (n : ℕ) (numbers : List ℤ) → AllByRecursion (λ z. z ≡ pos 0) numbers → terms_from n numbers ≡ []
no_terms n [] h = refl
no_terms n (a ∷ numbers) h = rw h.0 (no_terms (suc n) numbers h.1)

vanishing_sum : (b : Branch) (parts : List (ℕ × ℤ)) (q : Position) → AllVanish b parts q.scope.own → AllVanish b parts q.upto →
    sum_at b parts q ≡ truth (is_not_negative (bound_at b parts q))
vanishing_sum b parts q h k =
    ap (λ (ts : List (ℕ × ℤ)). inequality ts (bound_at b parts q))
    (no_terms 0 (coefficients_at b parts q) (sums_vanish b parts q.scope.own q.upto q.here q.scope.known h k))

-- where nothing is counted the sum is true
none_vanish : (limit s : ℕ) (b : Branch) (parts : List (ℕ × ℤ)) → s < 2 → IsStamped limit b → AllByRecursion (IsPart b.rows) parts → AllVanish b parts s
none_vanish limit s b parts l h each v = ap (combined (λ r. coefficient v r.terms) b.rows) (none_counted limit s b parts l h each)

first_sum : (limit : ℕ) (b : Branch) (parts : List (ℕ × ℤ)) (q : Position) → IsStamped limit b → AllByRecursion (IsPart b.rows) parts → q.scope.own < 2 → q.upto < 2 →
    sum_at b parts q ≡ truth true
first_sum limit b parts q h each own upto =
    let number : LinearRow → ℤ = λ r. r.bound in
    let x : bound_upto b parts q.upto ≡ pos 0 = ap (combined number b.rows) (none_counted limit q.upto b parts upto h each) in
    let y : bound_upto b parts q.scope.own ≡ pos 0 = ap (combined number b.rows) (none_counted limit q.scope.own b parts own h each) in
    let z : bound_at b parts q ≡ pos 0 = rw x (rw y refl) in
    vanishing_sum b parts q (none_vanish limit q.scope.own b parts own h each) (none_vanish limit q.upto b parts upto h each) ∙
    ap (λ (k : ℤ). truth (is_not_negative k)) z

negative_is : (z : ℤ) → z <ℤ pos 0 → is_not_negative z ≡ false
negative_is (pos n) l = absurd (omega (arith, ints, l))
negative_is (negsuc n) l = refl

-- where all is counted, and nothing is the caller's, it is false
last_sum : (limit : ℕ) (b : Branch) (parts : List (ℕ × ℤ)) (q : Position) → IsStamped limit b → Contradicts b.rows parts → q.scope.own < 2 → limit ≤ suc q.upto →
    sum_at b parts q ≡ truth false
last_sum limit b parts q h r own upto =
    let number : LinearRow → ℤ = λ r. r.bound in
    let all : parts_upto b.stamps q.upto parts ≡ parts = all_counted limit q.upto b parts upto h r.each in
    let x : bound_upto b parts q.upto ≡ combined number b.rows parts = ap (combined number b.rows) all in
    let y : bound_upto b parts q.scope.own ≡ pos 0 = ap (combined number b.rows) (none_counted limit q.scope.own b parts own h r.each) in
    let n : bound_at b parts q <ℤ pos 0 = rw x (rw y (let k : combined number b.rows parts <ℤ pos 0 = r.bound_negative in omega (arith, ints, k))) in
    vanishing_sum b parts q (none_vanish limit q.scope.own b parts own h r.each)
    (λ v. ap (combined (λ r. coefficient v r.terms) b.rows) all ∙ r.columns_vanish v) ∙
    ap truth (negative_is (bound_at b parts q) n)

-- ---- the tree of a refutation of rows

abbrev pub rows_goal : Branch → Goal
rows_goal b = record { rows = b.rows; groups = [] }

refutes_tree : (t : Tree) (ns : List PlainNode) (rows : List LinearRow) (gs : List Goal) → Refute (prefix_of t ++ ns) (record { rows = rows; groups = [] } ∷ gs) →
    TreeRefutes t (record { rows = rows; groups = [] }) × Refute ns gs
refutes_tree (leaf_tree parts) ns rows gs r = r
refutes_tree (cut_tree c k t u) ns rows gs r =
    let low : List LinearRow = rows ++ at_most c k ∷ [] in
    let high : List LinearRow = rows ++ above c k ∷ [] in
    let e : (prefix_of t ++ prefix_of u) ++ ns ≡ prefix_of t ++ (prefix_of u ++ ns) = append_assoc (prefix_of t) (prefix_of u) ns in
    let both : Refute (prefix_of t ++ (prefix_of u ++ ns)) (record { rows = low; groups = [] } ∷ record { rows = high; groups = [] } ∷ gs) =
    subst (λ (l : List PlainNode). Refute l (record { rows = low; groups = [] } ∷ record { rows = high; groups = [] } ∷ gs)) e r.2 in
    let first = refutes_tree t (prefix_of u ++ ns) low (record { rows = high; groups = [] } ∷ gs) both in
    let second = refutes_tree u ns high gs first.1 in
    ((r.0, r.1, first.0, second.0), second.1)
refutes_tree (cases_tree ts) ns rows gs r = absurd r

pub tree_refutes : (t : Tree) (g : Graph) (w : List Letter) → RefutesRows (prefix_of t) (path_of g w).rows → TreeRefutes t (rows_goal (root_of g w))
tree_refutes t g w r =
    (refutes_tree t [] (root_of g w).rows []
    (subst (λ (l : List PlainNode). Refute l (rows_goal (root_of g w) ∷ [])) (sym (append-nil (prefix_of t))) r)).0

-- ---- both ends

-- two parts that are one truth value are that truth value
joined_same : (c v : Bool) (a b : Formula) → simplified a ≡ truth v → simplified b ≡ truth v → simplified (joined_formulas c a b) ≡ truth v
joined_same true true a b e f = rw e refl
joined_same true false a b e f = rw e (rw f refl)
joined_same false true a b e f = rw e (rw f refl)
joined_same false false a b e f = rw e refl

-- the tree refutes rows, and each cut belongs to a letter
all_first : (limit : ℕ) (columns : List ℕ) (q : Position) (b : Branch) (t : Tree) → 2 < limit → AllByRecursion (IsWithin limit) columns → IsStamped limit b →
    q.scope.own < 2 → q.upto < 2 → TreeRefutes t (rows_goal b) → simplified (joined_at columns q b t) ≡ truth true
all_first limit columns q b (leaf_tree parts) two cs h own upto r = ap simplified (first_sum limit b parts q h r.each own upto)
all_first limit columns q b (cut_tree c k t u) two cs h own upto r =
    let stamp : ℕ = column_stamp columns c in
    let i : IsWithin limit stamp = stamp_within limit c columns two cs in
    joined_same (is_counted q stamp) true (joined_at columns q (with_cut b stamp (at_most c k)) t) (joined_at columns q (with_cut b stamp (above c k)) u)
    (all_first limit columns q (with_cut b stamp (at_most c k)) t two cs (cut_stamped limit b stamp (at_most c k) i h) own upto r.2)
    (all_first limit columns q (with_cut b stamp (above c k)) u two cs (cut_stamped limit b stamp (above c k) i h) own upto r.3)
all_first limit columns q b (cases_tree ts) two cs h own upto r = absurd r

all_last : (limit : ℕ) (columns : List ℕ) (q : Position) (b : Branch) (t : Tree) → 2 < limit → AllByRecursion (IsWithin limit) columns → IsStamped limit b →
    q.scope.own < 2 → limit ≤ suc q.upto → TreeRefutes t (rows_goal b) → simplified (joined_at columns q b t) ≡ truth false
all_last limit columns q b (leaf_tree parts) two cs h own upto r = ap simplified (last_sum limit b parts q h r own upto)
all_last limit columns q b (cut_tree c k t u) two cs h own upto r =
    let stamp : ℕ = column_stamp columns c in
    let i : IsWithin limit stamp = stamp_within limit c columns two cs in
    joined_same (is_counted q stamp) false (joined_at columns q (with_cut b stamp (at_most c k)) t) (joined_at columns q (with_cut b stamp (above c k)) u)
    (all_last limit columns q (with_cut b stamp (at_most c k)) t two cs (cut_stamped limit b stamp (at_most c k) i h) own upto r.2)
    (all_last limit columns q (with_cut b stamp (above c k)) u two cs (cut_stamped limit b stamp (above c k) i h) own upto r.3)
all_last limit columns q b (cases_tree ts) two cs h own upto r = absurd r

begins_with : (g : Graph) (w : List Letter) (t : Tree) (al : Alphabet) (n : ℕ) (p : PathStage) (scopes : List CallScope) (v : List Letter) →
    predicate_at g w t (position_at n p scopes) ≡ truth true → BeginsTrue (map (interpolant_at g w t) (positions_along al n p scopes v))
begins_with g w t al n p scopes [] e = ap preds.prefix_of e
begins_with g w t al n p scopes (a ∷ v) e = ap preds.prefix_of e

pub begins_true : (g : Graph) (w : List Letter) (t : Tree) → RefutesRows (prefix_of t) (path_of g w).rows → BeginsTrue (prefix_predicates g w t)
begins_true g w t r =
    let limit : ℕ = 2 * (1 + length w) + 1 in
    let q : Position = position_at 0 (first_stage (start_frame g)) (start_scope g ∷ []) in
    begins_with g w t (alphabet_of g) 0 (first_stage (start_frame g)) (start_scope g ∷ []) w
    (all_first limit (stamps_of g w).columns q (root_of g w) t (omega arith) (columns_of_word_within limit g w (omega arith) (omega arith))
    (root_stamped limit g w (omega arith) (omega arith)) (omega arith) (omega arith) (tree_refutes t g w r))

-- ---- at the last position no open call returns

-- each of the scopes, of which k are further in, is none of a call that returns, unless the test says that it does
abbrev ReturnWhere : (ℕ → Bool) → ℕ → List CallScope → Type 0
ReturnWhere test k [] = Unit {0}
ReturnWhere test k (s ∷ scopes) = ((s.own ≡ 0) ⊎ (test k ≡ true)) × ReturnWhere test (suc k) scopes

further_in : (test : ℕ → Bool) (k : ℕ) (scopes : List CallScope) → ReturnWhere (λ n. test (suc n)) k scopes → ReturnWhere test (suc k) scopes
further_in test k [] h = tt
further_in test k (s ∷ scopes) h = (h.0, further_in test (suc k) scopes h.1)

further_out : (test : ℕ → Bool) (k : ℕ) (scopes : List CallScope) → ReturnWhere (λ n. returned_by Back n test) (suc k) scopes → ReturnWhere test k scopes
further_out test k [] h = tt
further_out test k (s ∷ scopes) h = (h.0, further_out test (suc k) scopes h.1)

own_of_call : (b : Bool) (n : ℕ) → (cond b n 0 ≡ 0) ⊎ (b ≡ true)
own_of_call true n = inr refl
own_of_call false n = inl refl

returns_after : (kind : Kind) (al : Alphabet) (n : ℕ) (act : Option PlainAct) (rest : List Letter) (entry before : List ℕ) (scopes : List CallScope) →
    ReturnWhere (λ k. returned_by kind k (λ m. has_return m rest)) 0 scopes → ReturnWhere (λ k. has_return k rest) 0 (scopes_after al n kind act rest entry before scopes)
returns_after Inside al n act rest entry before scopes h = h
returns_after Call al n act rest entry before scopes h = (own_of_call (has_return 0 rest) (2 * n), further_in (λ k. has_return k rest) 0 scopes h)
returns_after Back al n act rest entry before [] h = tt
returns_after Back al n act rest entry before (s ∷ scopes) h = further_out (λ k. has_return k rest) 0 scopes h.1

ends_behind : (p : Scoped) (ps : List Scoped) → EndsFalse ps → EndsFalse (p ∷ ps)
ends_behind p [] h = absurd h
ends_behind p (q ∷ ps) h = h

own_at_end : (scopes : List CallScope) → ReturnWhere (λ k. has_return k []) 0 scopes → (innermost scopes).own ≡ 0
own_at_end [] h = refl
own_at_end (s ∷ scopes) (inl e, rest) = e
own_at_end (s ∷ scopes) (inr e, rest) = absurd (cc)

ends_with : (g : Graph) (w : List Letter) (t : Tree) (al : Alphabet) (n : ℕ) (p : PathStage) (scopes : List CallScope) (v : List Letter) →
    ReturnWhere (λ k. has_return k v) 0 scopes →
    ((q : Position) → q.scope.own ≡ 0 → q.upto ≡ suc (2 * (n + length v)) → predicate_at g w t q ≡ truth false) →
    EndsFalse (map (interpolant_at g w t) (positions_along al n p scopes v))
ends_with g w t al n p scopes [] h f = ap preds.prefix_of (f (position_at n p scopes) (own_at_end scopes h) (omega arith))
ends_with g w t al n p scopes (a ∷ v) h f =
    let after : PathStage = (part_of al a p).after in
    let next : List CallScope = scopes_after al (suc n) a.kind (act_of al a) v after.here p.here scopes in
    ends_behind (interpolant_at g w t (position_at n p scopes)) (map (interpolant_at g w t) (positions_along al (suc n) after next v))
    (ends_with g w t al (suc n) after next v (returns_after a.kind al (suc n) (act_of al a) v after.here p.here scopes h)
    (λ q own upto. f q own (omega (arith, upto))))

pub ends_false : (g : Graph) (a : Letter) (v : List Letter) (t : Tree) → RefutesRows (prefix_of t) (path_of g (a ∷ v)).rows → EndsFalse (prefix_predicates g (a ∷ v) t)
ends_false g a v t r =
    let w : List Letter = a ∷ v in
    let limit : ℕ = 2 * (1 + length w) in
    ends_with g w t (alphabet_of g) 0 (first_stage (start_frame g)) (start_scope g ∷ []) w (inl refl, tt)
    (λ q own upto. all_last limit (stamps_of g w).columns q (root_of g w) t (omega arith) (columns_of_word_within limit g w (omega arith) (omega arith))
    (root_stamped limit g w (omega arith) (omega arith)) (omega (arith, own)) (omega (arith, upto)) (tree_refutes t g w r))
