-- The refutation of an inside letter's triple begins well, and its leaves contradict their rows.
use Rattle.std.proofs.Common.{◌≡◌, ◌∙◌, ◌⊎◌, inl, inr, ℕ, zero, suc, ◌+◌, ◌<◌, Bool, true, IsTrue, List, [], ◌++◌, length, map, refl, sym, ap, subst, arith, append_assoc, length-append, None, Some}
use Rattle.std.specs.Prelude.{slice_get, IfSome, if◌then◌else◌}
use Rattle.std.specs.List.{AllByRecursion}
use Rattle.std.proofs.lemmas.Bool.{eq-eqb, ne_eqb}
use Rattle.std.proofs.lemmas.List.{length-map}
use Rattle.lin_rows.specs.Rows.{LinearRow}
use Rattle.lin_rows.specs.Tightening.{tightened}
use Rattle.lin_rows.specs.Combinations.{Contradicts}
use Rattle.farkas_check.specs.Trees.{TreeRefutes}
use Rattle.letter_acts.specs.Invariant.{alphabet_of}
use Rattle.path_rows.specs.Paths.{start_frame}
use Rattle.triple_rows.specs.Systems.{PlainFits, after_column}
use Rattle.letter_acts.specs.FrameRows.Rows.{bounds, types_of}
use Rattle.triple_rows.specs.Triples.{system_of}
use Rattle.nested_itp.specs.NestedPredicates.Sums.{root_of}
use Rattle.nested_itp.proofs.NestedPredicates.EndLaws.{rows_goal}
use Rattle.nested_itp.specs.NestedRefutations.Refutations.{Claim, Role, stands, atom_roles, is_used, stops, leaf_from}
use Rattle.nested_itp.specs.NestedRefutations.Numbers.{branch_rows, spares, before_bounds, bounds_in, Reading, position_here, source, target, LeafNumbersFit, IsFalse, AreCutsAt}
use Rattle.nested_itp.specs.NestedRefutations.Waiting.{StepWaits}
use Rattle.nested_itp.proofs.NestedRefutations.SpotLaws.{uncased_stands}
use Rattle.nested_itp.proofs.NestedRefutations.HeldLaws.{Held}
use Rattle.nested_itp.proofs.NestedRefutations.RowsLaws.{AllPairs, pairs_joined, pairs_counted}
use Rattle.nested_itp.proofs.NestedRefutations.StopLaws.{AllHeld, refuted_uncased}
use Rattle.nested_itp.proofs.NestedRefutations.WayLaws.{RoleFits, stands_left, stands_right, stands_exposed}
use Rattle.nested_itp.proofs.NestedRefutations.LeafLaws.{BeginsHeld, groups_wait}
use Rattle.nested_itp.proofs.NestedRefutations.LeavesLaws.{leaves_refute}
use Rattle.nested_itp.proofs.NestedRefutations.BeginLaws.{begin_groups, begin_held, claim_pairs}
use Rattle.nested_itp.proofs.NestedRefutations.ViewLaws.{two_view}
use Rattle.nested_itp.proofs.NestedRefutations.PairLaws.{branch_pairs, spare_pairs}
use Rattle.nested_itp.proofs.NestedRefutations.MovingLaws.{kinds_moved, bounds_counted}
use Rattle.nested_itp.proofs.NestedRefutations.WordLaws.{HaveGlobals}
use Rattle.nested_itp.proofs.NestedRefutations.AlongLaws.{first_reading}
use Rattle.nested_itp.proofs.NestedRefutations.InsideAtLaws.{inside_to}
use Rattle.nested_itp.proofs.NestedRefutations.InsideColumnLaws.{InsideLetter, frame_in, names_in, step_in, view_in, root_in, first_in, two_in}
use Rattle.nested_itp.proofs.NestedRefutations.InsideSumLaws.{own_block, new_block, bounds_on, front_in, later_rows, root_rows, OpenClaims, source_rows, target_rows, source_leaves, target_leaves, first_rows, first_roles, RowsFit, rows_fit_in, SameRows, same_rows, names_apart}
use Rattle.nested_itp.proofs.NestedRefutations.InsideLeafLaws.{inside_adds_up, inside_told}

same_some : {X : Type 0} (x y : X) → Some x ≡ Some y → x ≡ y
same_some x y e = cc

none_some : {X : Type 0} (x : X) → None ≡ Some x → ⊥
none_some x e = absurd (cc)

kinds_same : (c : InsideLetter) → RowsFit c → SameRows c (λ r s. r.kind ≡ s.kind)
kinds_same c fits = same_rows c (λ r s. r.kind ≡ s.kind) fits (λ rows h k. kinds_moved (names_in c) (names_apart c) rows h k)

frame_pairs : (c : InsideLetter) → RowsFit c → AllPairs (RoleFits (view_in c) (root_in c) (root_of c.g c.w).rows) (before_bounds (suc c.r.letters) (frame_in c)) (map tightened (bounds 0 (types_of (frame_in c))))
frame_pairs c fits = by_begun c.at.begun
  where
    count : length (map tightened (bounds 0 (types_of (frame_in c)))) ≡ bounds_in (frame_in c)
    count = length-map (bounds 0 (types_of (frame_in c))) tightened ∙ bounds_counted 0 0 (types_of (frame_in c))

    by_begun : ((c.r ≡ first_reading c.g) × (frame_in c ≡ start_frame c.g)) ⊎ (0 < c.r.letters) →
        AllPairs (RoleFits (view_in c) (root_in c) (root_of c.g c.w).rows) (before_bounds (suc c.r.letters) (frame_in c)) (map tightened (bounds 0 (types_of (frame_in c))))
    by_begun (inl e) =
        let letters : suc c.r.letters ≡ 1 = ap (λ (x : Reading). suc x.letters) e.0 in
        let position_here : before_bounds (suc c.r.letters) (frame_in c) ≡ branch_rows 0 (bounds_in (frame_in c)) = ap (λ (z : Bool). if z then branch_rows 0 (bounds_in (frame_in c)) else spares (bounds_in (frame_in c))) (eq-eqb (suc c.r.letters) 1 letters) in
        let whole : before_bounds (suc c.r.letters) (frame_in c) ≡ branch_rows 0 (length (map tightened (bounds 0 (types_of (frame_in c))))) = position_here ∙ ap (branch_rows 0) (sym count) in
        subst (λ (l : List Role). AllPairs (RoleFits (view_in c) (root_in c) (root_of c.g c.w).rows) l (map tightened (bounds 0 (types_of (frame_in c))))) (sym whole)
        (branch_pairs (view_in c) (root_in c) (root_of c.g c.w).rows [] (map tightened (bounds 0 (types_of (frame_in c)))) (front_in c) ((own_block c ++ new_block c) ++ map tightened (later_rows c)) (root_rows c)
        ((kinds_same c fits).frame e.0 e.1))
    by_begun (inr l) =
        let position_here : before_bounds (suc c.r.letters) (frame_in c) ≡ spares (bounds_in (frame_in c)) =
        ap (λ (z : Bool). if z then branch_rows 0 (bounds_in (frame_in c)) else spares (bounds_in (frame_in c))) (ne_eqb (suc c.r.letters) 1 (λ (e : suc c.r.letters ≡ 1). omega (arith, l, e))) in
        subst (λ (l : List Role). AllPairs (RoleFits (view_in c) (root_in c) (root_of c.g c.w).rows) l (map tightened (bounds 0 (types_of (frame_in c))))) (sym (position_here ∙ ap spares (sym count)))
        (spare_pairs (view_in c) (root_in c) (root_of c.g c.w).rows 0 (map tightened (bounds 0 (types_of (frame_in c)))))

all_pairs : (c : InsideLetter) → OpenClaims c → RowsFit c → AllPairs (RoleFits (view_in c) (root_in c) (root_of c.g c.w).rows) (first_in c).roles (first_in c).rows
all_pairs c o fits =
    let P : Role → LinearRow → Type 0 = RoleFits (view_in c) (root_in c) (root_of c.g c.w).rows in
    let st = uncased_stands (view_in c).columns 0 (root_of c.g c.w) c.t o.uncased in
    let source_pairs = claim_pairs (view_in c) (root_in c) o.uncased st (root_of c.g c.w).rows 0 (source (position_here c.r) (λ x. x)) refl o.before in
    let target_pairs = claim_pairs (view_in c) (root_in c) o.uncased st (root_of c.g c.w).rows 1 (target (inside_to c.r c.written) (after_column 0 (length (frame_in c)) c.written)) refl o.after in
    let kinds = kinds_same c fits in
    let own_pairs = branch_pairs (view_in c) (root_in c) (root_of c.g c.w).rows (front_in c) (map tightened c.rows) (own_block c) (new_block c ++ map tightened (later_rows c))
    (root_rows c ∙ ap (λ (l : List LinearRow). front_in c ++ l) (append_assoc (own_block c) (new_block c) (map tightened (later_rows c)))) kinds.own in
    let behind : length (front_in c ++ own_block c) ≡ length (front_in c) + length (map tightened c.rows) =
    length-append (front_in c) (own_block c) ∙ ap (λ (n : ℕ). length (front_in c) + n) (sym (pairs_counted (λ r s. r.kind ≡ s.kind) (map tightened c.rows) (own_block c) kinds.own)) in
    let new_pairs = subst (λ (k : ℕ). AllPairs P (branch_rows k (length (map tightened (bounds_on c)))) (map tightened (bounds_on c))) behind
    (branch_pairs (view_in c) (root_in c) (root_of c.g c.w).rows (front_in c ++ own_block c) (map tightened (bounds_on c)) (new_block c) (map tightened (later_rows c))
    (root_rows c ∙ ap (λ (l : List LinearRow). front_in c ++ l) (append_assoc (own_block c) (new_block c) (map tightened (later_rows c))) ∙
    sym (append_assoc (front_in c) (own_block c) (new_block c ++ map tightened (later_rows c)))) kinds.new) in
    let a : List Role = atom_roles (is_used (view_in c) 0) 0 (source_leaves c) in
    let b : List Role = branch_rows (length (front_in c)) (length (map tightened c.rows)) in
    let d : List Role = atom_roles (is_used (view_in c) 1) 1 (target_leaves c) in
    let e : List Role = before_bounds (suc c.r.letters) (frame_in c) in
    let f : List Role = branch_rows (length (front_in c) + length (map tightened c.rows)) (length (map tightened (bounds_on c))) in
    let frame_rows : List LinearRow = map tightened (bounds 0 (types_of (frame_in c))) in
    let new_rows : List LinearRow = map tightened (bounds_on c) in
    let last = pairs_joined P e frame_rows f new_rows (frame_pairs c fits) new_pairs in
    let more = pairs_joined P d (target_rows c) (e ++ f) (frame_rows ++ new_rows) target_pairs last in
    let behind_source = pairs_joined P b (map tightened c.rows) (d ++ (e ++ f)) (target_rows c ++ (frame_rows ++ new_rows)) own_pairs more in
    let whole = pairs_joined P a (source_rows c) (b ++ (d ++ (e ++ f))) (map tightened c.rows ++ (target_rows c ++ (frame_rows ++ new_rows))) source_pairs behind_source in
    subst (λ (l : List Role). AllPairs P l (first_in c).rows) (sym (first_roles c))
    (subst (AllPairs P (a ++ (b ++ (d ++ (e ++ f))))) (sym (first_rows c)) whole)

-- each claim is held where the refutation begins
all_held : (c : InsideLetter) → OpenClaims c → AllHeld (view_in c) (first_in c) 0 (root_of c.g c.w) c.t
all_held c o i d found used = by_claim i found
  where
    stands_in : (roles : List Role) (j m : ℕ) → (first_in c).roles ≡ roles → IsTrue (stands roles j m) → IsTrue (stands (first_in c).roles j m)
    stands_in roles j m e h = subst (λ (l : List Role). IsTrue (stands l j m)) (sym e) h

    by_claim : (i : ℕ) → slice_get (view_in c).claims i ≡ Some d → Held (view_in c).columns i d (first_in c).roles (first_in c).groups (first_in c).taken 0 (root_of c.g c.w) c.t
    by_claim zero e =
        let s : Claim = source (position_here c.r) (λ x. x) in
        subst (λ (x : Claim). Held (view_in c).columns 0 x (first_in c).roles (first_in c).groups (first_in c).taken 0 (root_of c.g c.w) c.t) (same_some s d e)
        (begin_held c.g c.w c.t (view_in c) (first_in c) o.uncased refl 0 s refl o.before
        (λ m h. stands_in _ 0 m (first_roles c) (stands_left (atom_roles true 0 (source_leaves c)) _ 0 m (stands_exposed 0 (source_leaves c) m h))))
    by_claim (suc zero) e =
        let s : Claim = target (inside_to c.r c.written) (after_column 0 (length (frame_in c)) c.written) in
        subst (λ (x : Claim). Held (view_in c).columns 1 x (first_in c).roles (first_in c).groups (first_in c).taken 0 (root_of c.g c.w) c.t) (same_some s d e)
        (begin_held c.g c.w c.t (view_in c) (first_in c) o.uncased refl 1 s refl o.after
        (λ m h. stands_in _ 1 m (first_roles c) (stands_right (atom_roles true 0 (source_leaves c)) _ 1 m (stands_right (branch_rows (length (front_in c)) (length (map tightened c.rows))) _ 1 m
        (stands_left (atom_roles true 1 (target_leaves c)) _ 1 m (stands_exposed 1 (target_leaves c) m h))))))
    by_claim (suc (suc j)) e = absurd (none_some d e)

inside_held : (c : InsideLetter) → TreeRefutes c.t (rows_goal (root_of c.g c.w)) → OpenClaims c → BeginsHeld (view_in c) (root_in c) (first_in c)
inside_held c refuted o = record {
  view = two_view (view_in c) (two_in c);
  refuted = refuted;
  stands = uncased_stands (view_in c).columns 0 (root_of c.g c.w) c.t o.uncased;
  groups = begin_groups c.g c.w c.t (view_in c) o.uncased (uncased_stands (view_in c).columns 0 (root_of c.g c.w) c.t o.uncased) 0 (view_in c).claims
      (λ p d e. ap (slice_get (view_in c).claims) (let q : 0 + p ≡ p = omega arith in q) ∙ e);
  held = all_held c o;
  taken = refl;
}

claims_open : (c : InsideLetter) → TreeRefutes c.t (rows_goal (root_of c.g c.w)) → AllByRecursion (λ d. IsFalse c.g c.w c.t (view_in c) d → ⊥) (view_in c).claims → OpenClaims c
claims_open c refuted open_claims = record { uncased = refuted_uncased c.t (root_of c.g c.w) refuted; before = open_claims.0; after = open_claims.1.0 }

-- the leaves of the refutation of an inside letter's triple contradict their rows
pub inside_refutes : (c : InsideLetter) → HaveGlobals c.g c.globals → TreeRefutes c.t (rows_goal (root_of c.g c.w)) → AreCutsAt (length (view_in c).columns) c.t →
    PlainFits (system_of (alphabet_of c.g) (step_in c).triple) → AllByRecursion (λ d. IsFalse c.g c.w c.t (view_in c) d → ⊥) (view_in c).claims → (sides : List Bool) →
    IfSome (leaf_from (view_in c) sides (first_in c) (stops (view_in c) [] 0 (root_of c.g c.w) c.t)) (λ l. LeafNumbersFit l → Contradicts l.rows l.parts)
inside_refutes c have refuted cuts fits open_claims sides =
    let o : OpenClaims c = claims_open c refuted open_claims in
    let rows : RowsFit c = rows_fit_in c fits in
    leaves_refute (view_in c) (root_in c) (first_in c) (record { begins = inside_held c refuted o; pairs = all_pairs c o rows }) cuts ((λ i j l m e. e), (inside_told c, tt))
    (λ more late n b parts f. inside_adds_up c have o rows more late n b parts f) sides

-- where it stops at a group, one waits
pub inside_waits : (c : InsideLetter) → TreeRefutes c.t (rows_goal (root_of c.g c.w)) → StepWaits c.g c.w c.t (step_in c)
inside_waits c refuted open_claims = groups_wait (view_in c) (root_in c) (first_in c) (inside_held c refuted (claims_open c refuted open_claims))
