-- What is read at a leaf is what the definition says: numbers of pairs that ascend, sums of claims, atoms that stand again.
use Rattle.std.proofs.Common.{◌≡◌, ◌∙◌, ◌⊎◌, inl, inr, ℕ, zero, suc, ◌+◌, ◌-◌, ◌<◌, ◌≤◌, ℤ, pos, neg_ℤ, Bool, true, false, List, [], ◌∷◌, length, map, drop, set, replicate, reverse, get_or, refl, sym, ap, subst, arith, Option, None, Some}
use Rattle.std.specs.Prelude.{◌&&◌, ◌||◌, nat_eq, unwrap_or, slice_get, if◌then◌else◌}
use Rattle.std.proofs.lemmas.Bool.{cases_lt, cases_eq, eqb-true, eqb-false, eq-eqb, ne_eqb, and_right}
use Rattle.std.proofs.lemmas.List.{length-set, length-replicate, get_or-set_same, get_or-set_other, get_or-replicate, drop_more, drop_all}
use Rattle.std.proofs.lemmas.Option.{slice_get-get_or, slice_get_past}
use Rattle.math_facts.specs.Terms.{coefficient}
use Rattle.lin_rows.specs.Rows.{AscendsFrom}
use Rattle.lin_rows.specs.Sums.{led_by}
use Rattle.lin_rows.specs.Tightening.{content}
use Rattle.lin_rows.proofs.Ascending.{coefficient_below, coefficient_first, coefficient_rest}
use Rattle.farkas_check.specs.Trees.{leaf_tree}
use Rattle.nested_itp.specs.NestedPredicates.Bases.{node_of}
use Rattle.nested_itp.specs.NestedPredicates.Sums.{Branch, terms_from, inequality, coefficients_at, bound_at}
use Rattle.nested_itp.specs.NestedRefutations.Refutations.{Claim, Role, spare, atom_at, branch_row, View, last_of, sums_of, coefficient_of, multiplier, is_atom, stands, is_again, multipliers}
use Rattle.nested_itp.proofs.NestedRefutations.ColumnLaws.{number_in, coefficient_terms}
use Rattle.nested_itp.specs.TripleSteps.Sections.{tie_role}
use Rattle.nested_itp.specs.declared.triple_steps.sections.Tie.{Tie}
use Rattle.nested_itp.specs.declared.triple_steps.sections.Tie.TheVariants as ties
use Rattle.nested_itp.specs.TripleWalks.Leaves.{number_of_pair, terms_here, terms_in, claim_terms, tie_number, TellAt, IsSeen, is_met, with_met}
use Rattle.nested_itp.specs.TripleWalks.Telling.{AllTell}
use Rattle.nested_itp.specs.TripleWalks.Goals.{role_of}
use Rattle.nested_itp.specs.declared.triple_walks.trees.Tree as code
use Rattle.nested_itp.specs.declared.triple_walks.claims.Claim as claims
use Rattle.nested_itp.specs.declared.triple_walks.goals.Role as row
use Rattle.nested_itp.specs.declared.triple_walks.goals.Role.TheVariants as rows

-- ---- numbers of pairs that ascend

at_key : (key : ℕ) (t : ℕ × ℤ) (ts : List (ℕ × ℤ)) → AscendsFrom (t.0 + 1) ts → key ≤ t.0 → (z : Bool) → nat_eq t.0 key ≡ z → coefficient key (t ∷ ts) ≡ (if z then t.1 else pos 0)
at_key key t ts a l true e = coefficient_first key t ts a (eqb-true t.0 key e)
at_key key t ts a l false e =
    let n = eqb-false t.0 key e in
    coefficient_below t.0 key (t ∷ ts) ((let h : t.0 ≤ t.0 = omega arith in h), a) (omega (arith, l, n))

pub pointed : (low : ℕ) (pairs : List (ℕ × ℤ)) (key place : ℕ) → AscendsFrom low pairs → ((k : ℕ) (d : ℕ × ℤ) → k < place → k < length pairs → (get_or pairs k d).0 < key) →
    ((k : ℕ) (d : ℕ × ℤ) → place ≤ k → k < length pairs → key ≤ (get_or pairs k d).0) → coefficient key pairs ≡ number_of_pair key (slice_get pairs place)
pointed low [] key place a f g = refl
pointed low (t ∷ ts) key zero a f g =
    let l : key ≤ t.0 = g zero t (omega arith) (omega arith) in
    at_key key t ts a.1 l (nat_eq t.0 key) refl
pointed low (t ∷ ts) key (suc place) a f g =
    let l : t.0 < key = f zero t (omega arith) (omega arith) in
    coefficient_rest key t ts (λ (e : t.0 ≡ key). omega (arith, e, l)) ∙
    pointed (t.0 + 1) ts key place a.1 (λ k d m n. f (suc k) d (omega (arith, m)) (omega (arith, n))) (λ k d m n. g (suc k) d (omega (arith, m)) (omega (arith, n)))

pub ascends_sorted : (low : ℕ) (pairs : List (ℕ × ℤ)) → AscendsFrom low pairs → (i : ℕ) (d : ℕ × ℤ) → i < length pairs → low ≤ (get_or pairs i d).0
ascends_sorted low [] a i d l = absurd (omega (arith, l))
ascends_sorted low (t ∷ ts) a zero d l = a.0
ascends_sorted low (t ∷ ts) a (suc i) d l =
    let h = ascends_sorted (t.0 + 1) ts a.1 i d (omega (arith, l)) in
    let k = a.0 in omega (arith, h, k)

pub ascends_by : (low : ℕ) (pairs : List (ℕ × ℤ)) → AscendsFrom low pairs → (i j : ℕ) (d : ℕ × ℤ) → i ≤ j → j < length pairs → (get_or pairs i d).0 ≤ (get_or pairs j d).0
ascends_by low [] a i j d l m = absurd (omega (arith, m))
ascends_by low (t ∷ ts) a zero zero d l m = omega arith
ascends_by low (t ∷ ts) a zero (suc j) d l m =
    let h = ascends_sorted (t.0 + 1) ts a.1 j d (omega (arith, m)) in omega (arith, h)
ascends_by low (t ∷ ts) a (suc i) zero d l m = absurd (omega (arith, l))
ascends_by low (t ∷ ts) a (suc i) (suc j) d l m = ascends_by (t.0 + 1) ts a.1 i j d (omega (arith, l)) (omega (arith, m))

-- ---- sums of claims

-- the terms of an inequality, of which there may be none
terms_of : (ts : List (ℕ × ℤ)) (bound : ℤ) → terms_here (node_of (inequality ts bound)) ≡ ts
terms_of [] bound = refl
terms_of (t ∷ ts) bound = refl

told_terms : (columns : List ℕ) (x : code.Tree) (n : ℕ) (b : Branch) (parts : List (ℕ × ℤ)) (cs : List Claim) (ys : List claims.Claim) →
    AllTell columns x (record { node = n; branch = b; tree = leaf_tree parts }) cs ys → (i : ℕ) → claim_terms x n (slice_get ys i) ≡ terms_from 0 (sums_of b parts (slice_get cs i))
told_terms columns x n b parts [] [] h i = refl
told_terms columns x n b parts [] (y ∷ ys) h i = absurd h
told_terms columns x n b parts (c ∷ cs) [] h i = absurd h
told_terms columns x n b parts (c ∷ cs) (y ∷ ys) h zero =
    ap terms_in h.0.nodes.node ∙ terms_of (terms_from 0 (coefficients_at b parts c.position)) (bound_at b parts c.position)
told_terms columns x n b parts (c ∷ cs) (y ∷ ys) h (suc i) = told_terms columns x n b parts cs ys h.1 i

tell_length : (columns : List ℕ) (x : code.Tree) (n : ℕ) (b : Branch) (parts : List (ℕ × ℤ)) (cs : List Claim) (ys : List claims.Claim) →
    AllTell columns x (record { node = n; branch = b; tree = leaf_tree parts }) cs ys → length ys ≡ length cs
tell_length columns x n b parts [] [] h = refl
tell_length columns x n b parts [] (y ∷ ys) h = absurd h
tell_length columns x n b parts (c ∷ cs) [] h = absurd h
tell_length columns x n b parts (c ∷ cs) (y ∷ ys) h = ap suc (tell_length columns x n b parts cs ys h.1)

last_at : (cs : List Claim) → last_of cs ≡ slice_get cs (length cs - 1)
last_at [] = refl
last_at (c ∷ []) = refl
last_at (c ∷ d ∷ cs) =
    last_at (d ∷ cs) ∙ ap (slice_get (c ∷ d ∷ cs)) (let e : suc (length (d ∷ cs) - 1) ≡ length (c ∷ d ∷ cs) - 1 = omega arith in e)

last_terms : (v : View) (x : code.Tree) (ys : List claims.Claim) (n : ℕ) (b : Branch) (parts : List (ℕ × ℤ)) → TellAt v x ys n b parts →
    claim_terms x n (slice_get ys (length ys - 1)) ≡ terms_from 0 (sums_of b parts (last_of v.claims))
last_terms v x ys n b parts h =
    told_terms v.columns x n b parts v.claims ys h (length ys - 1) ∙
    ap (λ (o : Option Claim). terms_from 0 (sums_of b parts o))
    (ap (λ (k : ℕ). slice_get v.claims (k - 1)) (tell_length v.columns x n b parts v.claims ys h) ∙ sym (last_at v.claims))

number_at : (numbers : List ℤ) (c : ℕ) → number_in numbers c ≡ coefficient_of numbers c
number_at [] c = refl
number_at (a ∷ numbers) zero = refl
number_at (a ∷ numbers) (suc c) = number_at numbers c

coefficient_is : (ts : List (ℕ × ℤ)) (numbers : List ℤ) (c : ℕ) → ts ≡ terms_from 0 numbers → coefficient c ts ≡ coefficient_of numbers c
coefficient_is ts numbers c e =
    ap (coefficient c) e ∙ ap (λ (k : ℕ). coefficient k (terms_from 0 numbers)) (let q : c ≡ 0 + c = omega arith in q) ∙ coefficient_terms 0 numbers c ∙ number_at numbers c

pub tie_told : (v : View) (x : code.Tree) (ys : List claims.Claim) (n : ℕ) (b : Branch) (parts : List (ℕ × ℤ)) → TellAt v x ys n b parts → (tie : Tie) →
    tie_number (claim_terms x n (slice_get ys 0)) (claim_terms x n (slice_get ys (length ys - 1))) tie ≡ multiplier v n b parts (tie_role tie)
tie_told v x ys n b parts h (ties.Target c) = coefficient_is _ (sums_of b parts (last_of v.claims)) c (last_terms v x ys n b parts h)
tie_told v x ys n b parts h (ties.Opposite c) = ap neg_ℤ (coefficient_is _ (sums_of b parts (last_of v.claims)) c (last_terms v x ys n b parts h))
tie_told v x ys n b parts h (ties.Source c) =
    ap neg_ℤ (coefficient_is _ (sums_of b parts (slice_get v.claims 0)) c (told_terms v.columns x n b parts v.claims ys h 0))

pub atom_told : (v : View) (x : code.Tree) (ys : List claims.Claim) (n : ℕ) (b : Branch) (parts : List (ℕ × ℤ)) → TellAt v x ys n b parts → (i m : ℕ) →
    (if nat_eq m n then pos (content (claim_terms x n (slice_get ys i))) else pos 0) ≡ multiplier v n b parts (atom_at i m)
atom_told v x ys n b parts h i m =
    ap (λ (ts : List (ℕ × ℤ)). if nat_eq m n then pos (content ts) else pos 0) (told_terms v.columns x n b parts v.claims ys h i)

-- ---- atoms that stand again

either : (z : Bool) (a b : ℤ) → a ≡ pos 0 → b ≡ pos 0 → (if z then a else b) ≡ pos 0
either true a b e f = e
either false a b e f = f

-- an atom at another leaf is not taken
atom_elsewhere : (v : View) (n : ℕ) (b : Branch) (parts : List (ℕ × ℤ)) (i m : ℕ) → nat_eq m n ≡ false → multiplier v n b parts (atom_at i m) ≡ pos 0
atom_elsewhere v n b parts i m e = rw e refl

no_content : content [] ≡ 0
unfolding content
no_content = refl

-- nor is that of a claim that there is not
atom_past : (v : View) (n : ℕ) (b : Branch) (parts : List (ℕ × ℤ)) (i m : ℕ) → slice_get v.claims i ≡ None → multiplier v n b parts (atom_at i m) ≡ pos 0
atom_past v n b parts i m e = by_test (nat_eq m n) (ap (λ (o : Option Claim). pos (content (terms_from 0 (sums_of b parts o)))) e ∙ ap pos no_content)
  where
    by_test : (z : Bool) → pos (content (terms_from 0 (sums_of b parts (slice_get v.claims i)))) ≡ pos 0 →
        (if z then pos (content (terms_from 0 (sums_of b parts (slice_get v.claims i)))) else pos 0) ≡ pos 0
    by_test true f = f
    by_test false f = refl

no_atom : (z : Bool) (a : ℤ) → false ≡ z → (if z then pos 0 else a) ≡ a
no_atom true a e = absurd (cc)
no_atom false a e = refl

tie_met : (tie : Tie) (rs : List Role) → is_again (tie_role tie) rs ≡ false
tie_met (ties.Target c) rs = refl
tie_met (ties.Opposite c) rs = refl
tie_met (ties.Source c) rs = refl

atom_met : (v : View) (x : code.Tree) (ys : List claims.Claim) (n : ℕ) (b : Branch) (parts : List (ℕ × ℤ)) → TellAt v x ys n b parts → (rs : List Role) (seen : List Bool) → IsSeen (length ys) n rs seen → (i m : ℕ) →
    (z y : Bool) → nat_eq m n ≡ y → (y && unwrap_or (slice_get seen i) false) ≡ z →
    (if z then pos 0 else multiplier v n b parts (atom_at i m)) ≡ (if stands rs i m then pos 0 else multiplier v n b parts (atom_at i m))
atom_met v x ys n b parts h rs seen s i m z false e f =
    let q : multiplier v n b parts (atom_at i m) ≡ pos 0 = atom_elsewhere v n b parts i m e in
    either z (pos 0) (multiplier v n b parts (atom_at i m)) refl q ∙ sym (either (stands rs i m) (pos 0) (multiplier v n b parts (atom_at i m)) refl q)
atom_met v x ys n b parts h rs seen s i m z true e f = by_claim (cases_lt i (length ys))
  where
    by_claim : (i < length ys) ⊎ (length ys ≤ i) → (if z then pos 0 else multiplier v n b parts (atom_at i m)) ≡ (if stands rs i m then pos 0 else multiplier v n b parts (atom_at i m))
    by_claim (inl l) =
        let q : z ≡ stands rs i m =
        sym f ∙ ap (λ (o : Option Bool). unwrap_or o false) (s.each i l) ∙ ap (stands rs i) (sym (eqb-true m n e)) in
        ap (λ (t : Bool). if t then pos 0 else multiplier v n b parts (atom_at i m)) q
    by_claim (inr l) =
        let k : length ys ≡ length v.claims = tell_length v.columns x n b parts v.claims ys h in
        let q : multiplier v n b parts (atom_at i m) ≡ pos 0 = atom_past v n b parts i m (slice_get_past v.claims i (omega (arith, k, l))) in
        either z (pos 0) (multiplier v n b parts (atom_at i m)) refl q ∙ sym (either (stands rs i m) (pos 0) (multiplier v n b parts (atom_at i m)) refl q)

pub met_told : (v : View) (x : code.Tree) (ys : List claims.Claim) (n : ℕ) (b : Branch) (parts : List (ℕ × ℤ)) → TellAt v x ys n b parts → (rs : List Role) (seen : List Bool) → IsSeen (length ys) n rs seen → (r : row.Role) →
    (z : Bool) → is_met n seen r ≡ z →
    (if z then pos 0 else multiplier v n b parts (role_of r)) ≡ (if is_again (role_of r) rs then pos 0 else multiplier v n b parts (role_of r))
met_told v x ys n b parts h rs seen s rows.Spare z e = no_atom z (pos 0) e
met_told v x ys n b parts h rs seen s (rows.Atom i m) z e = atom_met v x ys n b parts h rs seen s i m z (nat_eq m n) refl e
met_told v x ys n b parts h rs seen s (rows.Word r) z e = no_atom z (coefficient r parts) e
met_told v x ys n b parts h rs seen s (rows.Tied tie) z e =
    no_atom z (multiplier v n b parts (tie_role tie)) e ∙
    ap (λ (t : Bool). if t then pos 0 else multiplier v n b parts (tie_role tie)) (sym (tie_met tie rs))

-- ---- what was seen

pub none_seen : (count n : ℕ) → IsSeen count n [] (replicate count false)
none_seen count n = record {
  as_many = length-replicate count false;
  each = λ i l.
      let k = length-replicate count false in
      slice_get-get_or (replicate count false) i false (omega (arith, k, l)) ∙ ap Some (get_or-replicate count i false false l);
}

set_here : (xs : List Bool) (i : ℕ) → i < length xs → slice_get (set xs i true) i ≡ Some true
set_here xs i l =
    let k = length-set xs i true in
    slice_get-get_or (set xs i true) i false (omega (arith, k, l)) ∙ ap Some (get_or-set_same xs i true false l)

set_elsewhere : (xs : List Bool) (i j : ℕ) → j < length xs → (j ≡ i → ⊥) → slice_get (set xs i true) j ≡ slice_get xs j
set_elsewhere xs i j l n =
    let k = length-set xs i true in
    slice_get-get_or (set xs i true) j false (omega (arith, k, l)) ∙ ap Some (get_or-set_other xs i j true false n) ∙ sym (slice_get-get_or xs j false l)

kept_seen : (count n : ℕ) (r : Role) (rs : List Role) (seen : List Bool) → ((i : ℕ) → is_atom r i n ≡ false) → IsSeen count n rs seen → IsSeen count n (r ∷ rs) seen
kept_seen count n r rs seen f s = record {
  as_many = s.as_many;
  each = λ i l. s.each i l ∙ ap (λ (z : Bool). Some (z || stands rs i n)) (sym (f i));
}

tie_no_atom : (tie : Tie) (i n : ℕ) → is_atom (tie_role tie) i n ≡ false
tie_no_atom (ties.Target c) i n = refl
tie_no_atom (ties.Opposite c) i n = refl
tie_no_atom (ties.Source c) i n = refl

atom_seen : (count n : ℕ) (i m : ℕ) (rs : List Role) (seen : List Bool) → IsSeen count n rs seen → (y : Bool) → nat_eq m n ≡ y →
    IsSeen count n (atom_at i m ∷ rs) (if y then set seen i true else seen)
atom_seen count n i m rs seen s true e = record {
  as_many = length-set seen i true ∙ s.as_many;
  each = λ j l. by_claim j l (cases_eq j i);
}
  where
    by_claim : (j : ℕ) → j < count → (j ≡ i) ⊎ (j ≡ i → ⊥) → slice_get (set seen i true) j ≡ Some ((nat_eq i j && nat_eq m n) || stands rs j n)
    by_claim j l (inl q) =
        let k = s.as_many in
        ap (slice_get (set seen i true)) q ∙ set_here seen i (omega (arith, k, l, q)) ∙
        sym (rw (eq-eqb i j (sym q)) (rw e refl))
    by_claim j l (inr q) =
        let k = s.as_many in
        set_elsewhere seen i j (omega (arith, k, l)) q ∙ s.each j l ∙
        sym (rw (ne_eqb i j (λ (u : i ≡ j). q (sym u))) refl)
atom_seen count n i m rs seen s false e =
    kept_seen count n (atom_at i m) rs seen (λ j. and_right (nat_eq i j) (nat_eq m n) e) s

pub row_seen : (count n : ℕ) (rs : List Role) (seen : List Bool) → IsSeen count n rs seen → (r : row.Role) → IsSeen count n (role_of r ∷ rs) (with_met n seen r)
row_seen count n rs seen s rows.Spare = kept_seen count n spare rs seen (λ i. refl) s
row_seen count n rs seen s (rows.Atom i m) = atom_seen count n i m rs seen s (nat_eq m n) refl
row_seen count n rs seen s (rows.Word r) = kept_seen count n (branch_row r) rs seen (λ i. refl) s
row_seen count n rs seen s (rows.Tied tie) = kept_seen count n (tie_role tie) rs seen (λ i. tie_no_atom tie i n) s

-- ---- from the last row back

-- so many of the last rows
abbrev pub rows_from : ℕ → List row.Role → List Role
rows_from k roles = map role_of (drop k roles)

rows_none : (roles : List row.Role) → rows_from (length roles - 0) roles ≡ []
rows_none roles = ap (map role_of) (drop_all (length roles - 0) roles (omega arith))

pub seen_first : (count n : ℕ) (roles : List row.Role) (seen : List Bool) → seen ≡ replicate count false → IsSeen count n (rows_from (length roles - 0) roles) seen
seen_first count n roles seen e =
    subst (λ (rs : List Role). IsSeen count n rs seen) (sym (rows_none roles)) (subst (λ (xs : List Bool). IsSeen count n [] xs) (sym e) (none_seen count n))

pub parts_first : (v : View) (n : ℕ) (b : Branch) (parts : List (ℕ × ℤ)) (roles : List row.Role) (k : ℕ) → [] ≡ terms_from k (multipliers v n b parts (rows_from (length roles - 0) roles))
parts_first v n b parts roles k = ap (λ (rs : List Role). terms_from k (multipliers v n b parts rs)) (sym (rows_none roles))

-- with the row before them
rows_more : (roles : List row.Role) (at k : ℕ) (d : row.Role) → at < length roles → k ≡ at + 1 → rows_from at roles ≡ role_of (get_or roles at d) ∷ rows_from k roles
rows_more roles at k d l e =
    ap (map role_of) (drop_more roles at d l) ∙ ap (λ (j : ℕ). role_of (get_or roles at d) ∷ rows_from j roles) (sym e)

pub seen_more : (count n : ℕ) (roles : List row.Role) (at next k : ℕ) (d : row.Role) (old new : List Bool) → at < length roles → next ≡ at → k ≡ at + 1 →
    ((rs : List Role) → IsSeen count n rs old → IsSeen count n (role_of (get_or roles at d) ∷ rs) new) → IsSeen count n (rows_from k roles) old → IsSeen count n (rows_from next roles) new
seen_more count n roles at next k d old new l q e f s =
    subst (λ (rs : List Role). IsSeen count n rs new) (sym (ap (λ (j : ℕ). rows_from j roles) q ∙ rows_more roles at k d l e)) (f (rows_from k roles) s)

pub parts_more : (v : View) (n : ℕ) (b : Branch) (parts : List (ℕ × ℤ)) (roles : List row.Role) (at next k : ℕ) (d : row.Role) (m : ℤ) (old new : List (ℕ × ℤ)) → at < length roles → next ≡ at → k ≡ at + 1 →
    m ≡ (if is_again (role_of (get_or roles at d)) (rows_from k roles) then pos 0 else multiplier v n b parts (role_of (get_or roles at d))) → reverse new ≡ led_by at m (reverse old) →
    reverse old ≡ terms_from k (multipliers v n b parts (rows_from k roles)) → reverse new ≡ terms_from next (multipliers v n b parts (rows_from next roles))
parts_more v n b parts roles at next k d m old new l q e g h p =
    h ∙ ap (λ (z : ℤ). led_by at z (reverse old)) g ∙
    ap (led_by at (if is_again (role_of (get_or roles at d)) (rows_from k roles) then pos 0 else multiplier v n b parts (role_of (get_or roles at d))))
    (p ∙ ap (λ (j : ℕ). terms_from j (multipliers v n b parts (rows_from k roles))) (let u : k ≡ suc at = omega (arith, e) in u)) ∙
    ap (λ (rs : List Role). terms_from at (multipliers v n b parts rs)) (sym (rows_more roles at k d l e)) ∙
    ap (λ (j : ℕ). terms_from j (multipliers v n b parts (rows_from j roles))) (sym q)

-- all of them
pub parts_all : (v : View) (n : ℕ) (b : Branch) (parts : List (ℕ × ℤ)) (roles : List row.Role) (k : ℕ) → k ≡ 0 →
    terms_from k (multipliers v n b parts (rows_from k roles)) ≡ terms_from 0 (multipliers v n b parts (map role_of roles))
parts_all v n b parts roles k e = ap (λ (j : ℕ). terms_from j (multipliers v n b parts (rows_from j roles))) e
