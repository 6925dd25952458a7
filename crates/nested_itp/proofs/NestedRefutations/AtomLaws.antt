-- The sum of a leaf's rows: those that are no atoms, and the atom of each claim that stands, once.
use Rattle.std.proofs.Common.{◌≡◌, ◌≢◌, ◌∙◌, ◌⊎◌, inl, inr, ℕ, zero, suc, ◌+◌, ◌<◌, ℤ, pos, negsuc, ◌+ℤ◌, ◌*ℤ◌, Bool, true, false, List, [], ◌∷◌, length, refl, sym, ap, subst, arith, Option, None, Some}
use Rattle.std.specs.Prelude.{◌&&◌, ◌||◌, nat_eq, slice_get, if◌then◌else◌}
use Rattle.std.specs.List.{AllByRecursion}
use Rattle.std.proofs.lemmas.Int.{ints}
use Rattle.std.proofs.lemmas.Bool.{eq-eqb, ne_eqb, eqb-true, cases_eq}
use Rattle.math_facts.specs.Terms.{coefficient}
use Rattle.lin_rows.specs.declared.types.RowKind.TheVariants.{Le, Eq}
use Rattle.lin_rows.specs.Rows.{LinearRow, AscendsFrom}
use Rattle.lin_rows.specs.Tightening.{content, tightened}
use Rattle.lin_rows.specs.Combinations.{row_at, Multiplies, IsPart, Contradicts}
use Rattle.lin_rows.proofs.Ascending.{coefficient_first, coefficient_rest}
use Rattle.farkas_check.specs.Trees.{Tree, leaf_tree, cut_tree, cases_tree}
use Rattle.nested_itp.specs.NestedPredicates.Sums.{Branch, terms_from, coefficients_at}
use Rattle.nested_itp.specs.NestedRefutations.Refutations.{Claim, TreeSpot, Role, spare, atom_at, branch_row, target_tie, source_tie, opposite_tie, View, sums_of, multiplier, stands, is_again, multipliers}
use Rattle.nested_itp.proofs.NestedRefutations.SpotLaws.{spot, one_node}
use Rattle.nested_itp.proofs.NestedRefutations.RowsLaws.{AllPairs, claim_row}
use Rattle.nested_itp.proofs.NestedRefutations.SumLaws.{weighed, MayTake}
use Rattle.nested_itp.proofs.NestedRefutations.StopLaws.{Stands}
use Rattle.nested_itp.proofs.NestedRefutations.WayLaws.{others, AtomFits, RoleFits}
use Rattle.nested_itp.proofs.NestedRefutations.ContentLaws.{tightened_le}

-- ---- the atoms of the claims at a leaf

-- how often a claim's atom is taken: the greatest common divisor of its coefficients
abbrev pub times : Branch → List (ℕ × ℤ) → Claim → ℤ
times b parts c = pos (content (terms_from 0 (coefficients_at b parts c.position)))

abbrev pub atom_term : Branch → List (ℕ × ℤ) → (LinearRow → ℤ) → Bool → Claim → ℤ
atom_term b parts number st c = if st then times b parts c *ℤ number (tightened (claim_row c b parts)) else pos 0

-- those that stand of the claims from number k on
abbrev pub atoms_sum : Branch → List (ℕ × ℤ) → (LinearRow → ℤ) → (ℕ → Bool) → ℕ → List Claim → ℤ
atoms_sum b parts number st k [] = pos 0
atoms_sum b parts number st k (c ∷ cs) = atom_term b parts number (st k) c +ℤ atoms_sum b parts number st (suc k) cs

atoms_same : (b : Branch) (parts : List (ℕ × ℤ)) (number : LinearRow → ℤ) (st su : ℕ → Bool) → ((j : ℕ) → st j ≡ su j) → (k : ℕ) (cs : List Claim) →
    atoms_sum b parts number st k cs ≡ atoms_sum b parts number su k cs
atoms_same b parts number st su f k [] = refl
atoms_same b parts number st su f k (c ∷ cs) =
    let h : atoms_sum b parts number st (suc k) cs ≡ atoms_sum b parts number su (suc k) cs = atoms_same b parts number st su f (suc k) cs in
    let e : atom_term b parts number (st k) c ≡ atom_term b parts number (su k) c = ap (λ (z : Bool). atom_term b parts number z c) (f k) in
    omega (arith, ints, h, e)

none_some : {X : Type 0} (x : X) → None ≡ Some x → ⊥
none_some x e = absurd (cc)

same_some : {X : Type 0} (x y : X) → Some x ≡ Some y → x ≡ y
same_some x y e = cc

-- one more stands
atoms_more : (b : Branch) (parts : List (ℕ × ℤ)) (number : LinearRow → ℤ) (st su : ℕ → Bool) (i : ℕ) → st i ≡ false → su i ≡ true → ((j : ℕ) → (j ≡ i → ⊥) → su j ≡ st j) →
    (k : ℕ) (cs : List Claim) (p : ℕ) (c : Claim) → slice_get cs p ≡ Some c → i ≡ k + p →
    atoms_sum b parts number su k cs ≡ atoms_sum b parts number st k cs +ℤ (times b parts c *ℤ number (tightened (claim_row c b parts)))
atoms_more b parts number st su i f t o k [] p c e q = absurd (none_some c e)
atoms_more b parts number st su i f t o k (x ∷ cs) zero c e q =
    let same : k ≡ i = omega (arith, q) in
    let h : atoms_sum b parts number su (suc k) cs ≡ atoms_sum b parts number st (suc k) cs = later (suc k) cs (omega (arith, same)) in
    let a : atom_term b parts number (su k) x ≡ times b parts c *ℤ number (tightened (claim_row c b parts)) =
    ap (λ (z : Bool). atom_term b parts number z x) (ap su same ∙ t) ∙ ap (λ (y : Claim). times b parts y *ℤ number (tightened (claim_row y b parts))) (same_some x c e) in
    let d : atom_term b parts number (st k) x ≡ pos 0 = ap (λ (z : Bool). atom_term b parts number z x) (ap st same ∙ f) in
    omega (arith, ints, h, a, d)
  where
    later : (m : ℕ) (ds : List Claim) → i < m → atoms_sum b parts number su m ds ≡ atoms_sum b parts number st m ds
    later m [] l = refl
    later m (y ∷ ds) l =
        let r : atoms_sum b parts number su (suc m) ds ≡ atoms_sum b parts number st (suc m) ds = later (suc m) ds (omega (arith, l)) in
        let w : atom_term b parts number (su m) y ≡ atom_term b parts number (st m) y = ap (λ (z : Bool). atom_term b parts number z y) (o m (λ (z : m ≡ i). omega (arith, l, z))) in
        omega (arith, ints, r, w)
atoms_more b parts number st su i f t o k (x ∷ cs) (suc p) c e q =
    let h : atoms_sum b parts number su (suc k) cs ≡ atoms_sum b parts number st (suc k) cs +ℤ (times b parts c *ℤ number (tightened (claim_row c b parts))) =
    atoms_more b parts number st su i f t o (suc k) cs p c e (omega (arith, q)) in
    let a : atom_term b parts number (su k) x ≡ atom_term b parts number (st k) x = ap (λ (z : Bool). atom_term b parts number z x) (o k (λ (z : k ≡ i). omega (arith, q, z))) in
    omega (arith, ints, h, a)

-- ---- the rows of a goal at a leaf

nothing : (z : ℤ) → pos 0 *ℤ z ≡ pos 0
nothing z = omega (arith, ints)

-- the claim's multiplier
claim_times : (v : View) (i n : ℕ) (b : Branch) (parts : List (ℕ × ℤ)) (c : Claim) → slice_get v.claims i ≡ Some c → multiplier v n b parts (atom_at i n) ≡ times b parts c
claim_times v i n b parts c e =
    let f : pos (content (terms_from 0 (sums_of b parts (slice_get v.claims i)))) ≡ times b parts c =
    ap (λ (o : Option Claim). pos (content (terms_from 0 (sums_of b parts o)))) e in
    by_test (nat_eq n n) (eq-eqb n n refl) f
  where
    by_test : (z : Bool) → z ≡ true → pos (content (terms_from 0 (sums_of b parts (slice_get v.claims i)))) ≡ times b parts c →
        (if z then pos (content (terms_from 0 (sums_of b parts (slice_get v.claims i)))) else pos 0) ≡ times b parts c
    by_test true q f = f
    by_test false q f = absurd (cc)

other_leaf : (v : View) (i m n : ℕ) (b : Branch) (parts : List (ℕ × ℤ)) → (m ≡ n → ⊥) → multiplier v n b parts (atom_at i m) ≡ pos 0
other_leaf v i m n b parts e = rw (ne_eqb m n e) refl

-- the parts of a leaf
abbrev parts_in : Tree → List (ℕ × ℤ)
parts_in (leaf_tree parts) = parts
parts_in (cut_tree c k t u) = []
parts_in (cases_tree ts) = []

-- the row of the atom of a claim at the leaf
row_here : (v : View) (root : TreeSpot) (i n : ℕ) (b : Branch) (parts : List (ℕ × ℤ)) (row : LinearRow) → Stands v root (spot n b (leaf_tree parts)) → (h : AtomFits v root i n row) →
    row ≡ tightened (claim_row h.claim b parts)
row_here v root i n b parts row st h =
    let e : spot n h.is_atom.branch (leaf_tree h.is_atom.parts) ≡ spot n b (leaf_tree parts) =
    one_node v.columns root.node root.branch root.tree (spot n h.is_atom.branch (leaf_tree h.is_atom.parts)) (spot n b (leaf_tree parts)) h.is_atom.stands st refl in
    h.row_is ∙ ap tightened (h.is_atom.row_is ∙ ap (λ (s : TreeSpot). claim_row h.claim s.branch (parts_in s.tree)) e)

-- with the atom of claim i at leaf m in front
abbrev with_atom : ℕ → ℕ → ℕ → List Role → ℕ → Bool
with_atom i m n roles j = (nat_eq i j && nat_eq m n) || stands roles j n

elsewhere : (i m n : ℕ) (roles : List Role) → (m ≡ n → ⊥) → (j : ℕ) → with_atom i m n roles j ≡ stands roles j n
elsewhere i m n roles ne j = by_test (nat_eq i j)
  where
    by_test : (z : Bool) → ((z && nat_eq m n) || stands roles j n) ≡ stands roles j n
    by_test true = rw (ne_eqb m n ne) refl
    by_test false = refl

again : (i m n : ℕ) (roles : List Role) → m ≡ n → stands roles i n ≡ true → (j : ℕ) → with_atom i m n roles j ≡ stands roles j n
again i m n roles e t j = by_test (nat_eq i j) refl
  where
    by_test : (z : Bool) → nat_eq i j ≡ z → ((z && nat_eq m n) || stands roles j n) ≡ stands roles j n
    by_test true q = rw (eq-eqb m n e) (sym (ap (λ (k : ℕ). stands roles k n) (sym (eqb-true i j q)) ∙ t))
    by_test false q = refl

zero_either : (z : Bool) (k : ℤ) → k ≡ pos 0 → (if z then pos 0 else k) ≡ pos 0
zero_either true k e = refl
zero_either false k e = e

atom_split : (v : View) (root : TreeSpot) (n : ℕ) (b : Branch) (parts : List (ℕ × ℤ)) → Stands v root (spot n b (leaf_tree parts)) → (number : LinearRow → ℤ) (x : LinearRow) (rows : List LinearRow)
    (i m : ℕ) (roles : List Role) → ((m ≡ n) ⊎ (m ≡ n → ⊥)) → AtomFits v root i m x →
    weighed number (multipliers v n b parts roles) rows ≡ others (multiplier v n b parts) number roles rows +ℤ atoms_sum b parts number (λ j. stands roles j n) 0 v.claims →
    ((if stands roles i m then pos 0 else multiplier v n b parts (atom_at i m)) *ℤ number x) +ℤ weighed number (multipliers v n b parts roles) rows ≡
    ((pos 0 *ℤ number x) +ℤ others (multiplier v n b parts) number roles rows) +ℤ atoms_sum b parts number (with_atom i m n roles) 0 v.claims
atom_split v root n b parts st number x rows i m roles (inr ne) fits r =
    let e : atoms_sum b parts number (with_atom i m n roles) 0 v.claims ≡ atoms_sum b parts number (λ j. stands roles j n) 0 v.claims =
    atoms_same b parts number (with_atom i m n roles) (λ j. stands roles j n) (elsewhere i m n roles ne) 0 v.claims in
    let z : (if stands roles i m then pos 0 else multiplier v n b parts (atom_at i m)) ≡ pos 0 = zero_either (stands roles i m) (multiplier v n b parts (atom_at i m)) (other_leaf v i m n b parts ne) in
    let y : (if stands roles i m then pos 0 else multiplier v n b parts (atom_at i m)) *ℤ number x ≡ pos 0 = ap (λ (k : ℤ). k *ℤ number x) z ∙ nothing (number x) in
    let w : pos 0 *ℤ number x ≡ pos 0 = nothing (number x) in
    omega (arith, ints, e, y, w, r)
atom_split v root n b parts st number x rows i m roles (inl same) fits r = by_test (stands roles i m) refl
  where
    now : with_atom i m n roles i ≡ true
    now = rw (eq-eqb i i refl) (rw (eq-eqb m n same) refl)

    later : (j : ℕ) → (j ≡ i → ⊥) → with_atom i m n roles j ≡ stands roles j n
    later j ne = rw (ne_eqb i j (λ (q : i ≡ j). ne (sym q))) refl

    by_test : (z : Bool) → stands roles i m ≡ z →
        ((if z then pos 0 else multiplier v n b parts (atom_at i m)) *ℤ number x) +ℤ weighed number (multipliers v n b parts roles) rows ≡
        ((pos 0 *ℤ number x) +ℤ others (multiplier v n b parts) number roles rows) +ℤ atoms_sum b parts number (with_atom i m n roles) 0 v.claims
    by_test true q =
        let e : atoms_sum b parts number (with_atom i m n roles) 0 v.claims ≡ atoms_sum b parts number (λ j. stands roles j n) 0 v.claims =
        atoms_same b parts number (with_atom i m n roles) (λ j. stands roles j n) (again i m n roles same (ap (λ (k : ℕ). stands roles i k) (sym same) ∙ q)) 0 v.claims in
        let w : pos 0 *ℤ number x ≡ pos 0 = nothing (number x) in
        omega (arith, ints, e, w, r)
    by_test false q =
        let here : AtomFits v root i n x = subst (λ (k : ℕ). AtomFits v root i k x) same fits in
        let fn : stands roles i n ≡ false = ap (λ (k : ℕ). stands roles i k) (sym same) ∙ q in
        let a : atoms_sum b parts number (with_atom i m n roles) 0 v.claims ≡
        atoms_sum b parts number (λ j. stands roles j n) 0 v.claims +ℤ (times b parts here.claim *ℤ number (tightened (claim_row here.claim b parts))) =
        atoms_more b parts number (λ j. stands roles j n) (with_atom i m n roles) i fn now later 0 v.claims i here.claim here.found (let p : i ≡ 0 + i = omega arith in p) in
        let mu : multiplier v n b parts (atom_at i m) ≡ times b parts here.claim = ap (λ (k : ℕ). multiplier v n b parts (atom_at i k)) same ∙ claim_times v i n b parts here.claim here.found in
        let mx : multiplier v n b parts (atom_at i m) *ℤ number x ≡ times b parts here.claim *ℤ number (tightened (claim_row here.claim b parts)) =
        ap (λ (k : ℤ). k *ℤ number x) mu ∙ ap (λ (row : LinearRow). times b parts here.claim *ℤ number row) (row_here v root i n b parts x st here) in
        let w : pos 0 *ℤ number x ≡ pos 0 = nothing (number x) in
        omega (arith, ints, a, mx, w, r)

-- the rows add up to those that are no atoms, and each atom that stands once
pub weights_split : (v : View) (root : TreeSpot) (n : ℕ) (b : Branch) (parts : List (ℕ × ℤ)) → Stands v root (spot n b (leaf_tree parts)) → (number : LinearRow → ℤ) (rows : List LinearRow)
    (bound : List LinearRow) (roles : List Role) → AllPairs (RoleFits v root bound) roles rows →
    weighed number (multipliers v n b parts roles) rows ≡ others (multiplier v n b parts) number roles rows +ℤ atoms_sum b parts number (λ i. stands roles i n) 0 v.claims
weights_split v root n b parts st number [] bound [] h = let z : atoms_sum b parts number (λ i. false) 0 v.claims ≡ pos 0 = none_stand 0 v.claims in omega (arith, ints, z)
  where
    none_stand : (k : ℕ) (cs : List Claim) → atoms_sum b parts number (λ i. false) k cs ≡ pos 0
    none_stand k [] = refl
    none_stand k (c ∷ cs) = let r : atoms_sum b parts number (λ i. false) (suc k) cs ≡ pos 0 = none_stand (suc k) cs in omega (arith, ints, r)
weights_split v root n b parts st number (x ∷ rows) bound [] h = absurd h
weights_split v root n b parts st number [] bound (r ∷ roles) h = absurd h
weights_split v root n b parts st number (x ∷ rows) bound (spare ∷ roles) h =
    let r = weights_split v root n b parts st number rows bound roles h.1 in omega (arith, ints, r)
weights_split v root n b parts st number (x ∷ rows) bound (branch_row k ∷ roles) h =
    let r = weights_split v root n b parts st number rows bound roles h.1 in omega (arith, ints, r)
weights_split v root n b parts st number (x ∷ rows) bound (target_tie k ∷ roles) h =
    let r = weights_split v root n b parts st number rows bound roles h.1 in omega (arith, ints, r)
weights_split v root n b parts st number (x ∷ rows) bound (source_tie k ∷ roles) h =
    let r = weights_split v root n b parts st number rows bound roles h.1 in omega (arith, ints, r)
weights_split v root n b parts st number (x ∷ rows) bound (opposite_tie k ∷ roles) h =
    let r = weights_split v root n b parts st number rows bound roles h.1 in omega (arith, ints, r)
weights_split v root n b parts st number (x ∷ rows) bound (atom_at i m ∷ roles) h =
    atom_split v root n b parts st number x rows i m roles (cases_eq m n) h.0 (weights_split v root n b parts st number rows bound roles h.1)

-- ---- how often a row may be taken

is_zero_or : (m : ℤ) → (m ≡ pos 0) ⊎ (m ≢ pos 0)
is_zero_or (pos zero) = inl refl
is_zero_or (pos (suc n)) = inr (λ (e : pos (suc n) ≡ pos 0). omega (arith, ints, e))
is_zero_or (negsuc n) = inr (λ (e : negsuc n ≡ pos 0). omega (arith, ints, e))

may_eq : (m : ℤ) (row : LinearRow) → row.kind ≡ Eq → MayTake m row
may_eq m row e = by_zero (is_zero_or m)
  where
    by_zero : (m ≡ pos 0) ⊎ (m ≢ pos 0) → MayTake m row
    by_zero (inl z) = inl z
    by_zero (inr n) = inr (subst (Multiplies m) (sym e) n)

may_le : (k : ℕ) (row : LinearRow) → row.kind ≡ Le → MayTake (pos k) row
may_le zero row e = inl refl
may_le (suc k) row e = inr (subst (Multiplies (pos (suc k))) (sym e) (omega (arith, ints)))

-- the multiplier of a row in ascending parts
part_may : (low : ℕ) (rows : List LinearRow) (parts : List (ℕ × ℤ)) → AscendsFrom low parts → AllByRecursion (IsPart rows) parts → (r : ℕ) (row : LinearRow) → row.kind ≡ (row_at rows r).kind →
    MayTake (coefficient r parts) row
part_may low rows [] up each r row e = inl refl
part_may low rows (t ∷ parts) up each r row e = by_number (cases_eq t.0 r) (part_may (t.0 + 1) rows parts up.1 each.1 r row e)
  where
    by_number : ((t.0 ≡ r) ⊎ (t.0 ≡ r → ⊥)) → MayTake (coefficient r parts) row → MayTake (coefficient r (t ∷ parts)) row
    by_number (inl q) h =
        subst (λ (m : ℤ). MayTake m row) (sym (coefficient_first r t parts up.1 q))
        (inr (subst (Multiplies t.1) (sym (e ∙ ap (λ (k : ℕ). (row_at rows k).kind) (sym q))) each.0.multiplies))
    by_number (inr q) h = subst (λ (m : ℤ). MayTake m row) (sym (coefficient_rest r t parts q)) h

either_kind : (d : Bool) (x y : LinearRow) → x.kind ≡ Le → y.kind ≡ Le → (if d then x else y).kind ≡ Le
either_kind true x y e f = e
either_kind false x y e f = f

pub claim_kind : (c : Claim) (b : Branch) (parts : List (ℕ × ℤ)) → (claim_row c b parts).kind ≡ Le
claim_kind c b parts = either_kind c.is_denied _ _ refl refl

atom_kind : (v : View) (root : TreeSpot) (i n : ℕ) (row : LinearRow) → AtomFits v root i n row → row.kind ≡ Le
atom_kind v root i n row h =
    ap (λ (x : LinearRow). x.kind) h.row_is ∙ tightened_le h.given (ap (λ (x : LinearRow). x.kind) h.is_atom.row_is ∙ claim_kind h.claim h.is_atom.branch h.is_atom.parts)

role_may : (v : View) (root : TreeSpot) (n : ℕ) (b : Branch) (parts : List (ℕ × ℤ)) → Contradicts b.rows parts → (role : Role) (row : LinearRow) → RoleFits v root b.rows role row →
    MayTake (multiplier v n b parts role) row
role_may v root n b parts con spare row h = inl refl
role_may v root n b parts con (atom_at i m) row h = by_test (nat_eq m n)
  where
    by_test : (z : Bool) → MayTake (if z then pos (content (terms_from 0 (sums_of b parts (slice_get v.claims i)))) else pos 0) row
    by_test true = may_le (content (terms_from 0 (sums_of b parts (slice_get v.claims i)))) row (atom_kind v root i m row h)
    by_test false = inl refl
role_may v root n b parts con (branch_row r) row h = part_may 0 b.rows parts con.ascends con.each r row h.1
role_may v root n b parts con (target_tie c) row h = may_eq (multiplier v n b parts (target_tie c)) row h
role_may v root n b parts con (source_tie c) row h = may_eq (multiplier v n b parts (source_tie c)) row h
role_may v root n b parts con (opposite_tie c) row h = may_eq (multiplier v n b parts (opposite_tie c)) row h

pub all_may : (v : View) (root : TreeSpot) (n : ℕ) (b : Branch) (parts : List (ℕ × ℤ)) → Contradicts b.rows parts → (roles : List Role) (rows : List LinearRow) → AllPairs (RoleFits v root b.rows) roles rows →
    AllPairs MayTake (multipliers v n b parts roles) rows
all_may v root n b parts con [] [] h = tt
all_may v root n b parts con [] (x ∷ rows) h = absurd h
all_may v root n b parts con (r ∷ roles) [] h = absurd h
all_may v root n b parts con (r ∷ roles) (x ∷ rows) h =
    (either (is_again r roles) (role_may v root n b parts con r x h.0), all_may v root n b parts con roles rows h.1)
  where
    either : (z : Bool) → MayTake (multiplier v n b parts r) x → MayTake (if z then pos 0 else multiplier v n b parts r) x
    either true h = inl refl
    either false h = h

pub multipliers_counted : (v : View) (n : ℕ) (b : Branch) (parts : List (ℕ × ℤ)) (roles : List Role) → length (multipliers v n b parts roles) ≡ length roles
multipliers_counted v n b parts [] = refl
multipliers_counted v n b parts (r ∷ roles) = ap suc (multipliers_counted v n b parts roles)
