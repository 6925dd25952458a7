-- The refutation of a return's triple begins well, and its leaves contradict their rows.
use Rattle.std.proofs.Common.{◌≡◌, ◌∙◌, ◌⊎◌, inl, inr, ℕ, zero, suc, ◌+◌, ◌<◌, Bool, true, false, IsTrue, List, [], ◌∷◌, ◌++◌, length, map, refl, sym, ap, subst, arith, append_assoc, None, Some}
use Rattle.std.specs.Prelude.{slice_get, if◌then◌else◌}
use Rattle.std.specs.List.{AllByRecursion}
use Rattle.std.proofs.lemmas.Bool.{eq-eqb, ne_eqb}
use Rattle.std.proofs.lemmas.List.{length-map}
use Rattle.nwa_base.specs.declared.letters.Letter.{Letter}
use Rattle.lin_rows.specs.Rows.{LinearRow}
use Rattle.lin_rows.specs.Tightening.{tightened}
use Rattle.farkas_check.specs.Trees.{Tree, TreeRefutes}
use Rattle.letter_acts.specs.Frames.{Columns, constants_of, olds_of}
use Rattle.letter_acts.specs.Acts.{frame_of}
use Rattle.letter_acts.specs.Invariant.{Graph, IsGraph, alphabet_of, MayTarget}
use Rattle.path_rows.specs.Versions.{back_part}
use Rattle.path_rows.specs.Paths.{start_frame}
use Rattle.nested_itp.specs.NestedPredicates.Stamps.{stamps_of}
use Rattle.nested_itp.specs.NestedPredicates.Positions.{CallScope, callee_scope, Position, innermost, is_counted}
use Rattle.nested_itp.specs.NestedPredicates.Sums.{root_of}
use Rattle.nested_itp.proofs.NestedPredicates.EndLaws.{rows_goal}
use Rattle.nested_itp.specs.NestedPredicates.Simplifying.{is_same}
use Rattle.nested_itp.specs.NestedRefutations.Refutations.{Claim, rows_in, said_at, Role, target_tie, source_tie, stands}
use Rattle.nested_itp.specs.NestedRefutations.Numbers.{Step, branch_rows, spares, before_bounds, bounds_in, OpenCall, back_step, Reading, position_here, IsFalse, AreCutsAt}
use Rattle.nested_itp.specs.NestedRefutations.Refuting.{StepRefutes}
use Rattle.nested_itp.specs.NestedRefutations.Waiting.{StepWaits}
use Rattle.nested_itp.proofs.NestedRefutations.TruthLaws.{IsOpen}
use Rattle.nested_itp.proofs.NestedRefutations.SpotLaws.{spot, StandsIn, IsUncased, uncased_stands}
use Rattle.nested_itp.proofs.NestedRefutations.HeldLaws.{truth_at, Held, asks_each}
use Rattle.nested_itp.proofs.NestedRefutations.RowsLaws.{AllPairs, pairs_counted}
use Rattle.nested_itp.proofs.NestedRefutations.StopLaws.{AllHeld, IsView, refuted_uncased}
use Rattle.nested_itp.proofs.NestedRefutations.WayLaws.{RoleFits, stands_left, stands_right, stands_exposed}
use Rattle.nested_itp.proofs.NestedRefutations.LeafLaws.{BeginsHeld, groups_wait}
use Rattle.nested_itp.proofs.NestedRefutations.LeavesLaws.{leaves_refute}
use Rattle.nested_itp.proofs.NestedRefutations.BeginLaws.{begin_groups, begin_held, claim_pairs}
use Rattle.nested_itp.proofs.NestedRefutations.ViewLaws.{counted_is, is_counted_in}
use Rattle.nested_itp.proofs.NestedRefutations.PairLaws.{branch_pairs, spare_pairs}
use Rattle.nested_itp.proofs.NestedRefutations.TieLaws.{tie_pairs}
use Rattle.nested_itp.proofs.NestedRefutations.WordLaws.{HaveGlobals}
use Rattle.nested_itp.proofs.NestedRefutations.AlongLaws.{first_reading, KnowsWell, ScopesFit}
use Rattle.nested_itp.proofs.NestedRefutations.CallAtLaws.{entry_of, call_scope_proc}
use Rattle.nested_itp.proofs.NestedRefutations.CallColumnLaws.{caller_in, callee_in}
use Rattle.nested_itp.proofs.NestedRefutations.CallSumLaws.{own_block, entry_block, local_block, old_block, call_block, front_of, later_rows, call_root_rows}
use Rattle.nested_itp.proofs.NestedRefutations.QuietLaws.{Quiet, quiet_here}
use Rattle.nested_itp.proofs.NestedRefutations.BackAtLaws.{BackAt, back_to, back_part_is, back_step_at}
use Rattle.nested_itp.proofs.NestedRefutations.BackColumnLaws.{exit_scope, BackLetter, back_call, exit_position, after_position, m_of, after_of, exit_claim, before_claim, after_claim, back_step_in, back_view, back_root, back_first, call_earlier, caller_own}
use Rattle.nested_itp.proofs.NestedRefutations.BackRowLaws.{back_own_rows, back_frame, rows_kinds}
use Rattle.nested_itp.proofs.NestedRefutations.BackSumLaws.{eleven_pairs, exit_rows, before_rows, after_rows, kept_globals, taken_in, constant_ties, old_ties, global_ties, result_ties, exit_bounds, written_bounds, leaves_of, claim_roles, constant_roles, old_roles, own_roles, global_roles, result_roles, frame_roles, exit_spares, written_spares, back_first_rows, back_first_roles, BackOpens, own_counted, frame_counted, exit_counted, written_counted}
use Rattle.nested_itp.proofs.NestedRefutations.BackTieLaws.{exit_told, before_told, after_told, constants_tie, olds_tie, globals_tie, results_tie}
use Rattle.nested_itp.proofs.NestedRefutations.BackWholeLaws.{back_adds}

-- no claim is false
pub record BackOpenClaims (c : BackLetter) : Type 0 where
  pub uncased : IsUncased c.call.t
  pub exit : IsOpen false (truth_at (back_view c).columns (exit_claim c) (root_of c.call.g c.call.w) c.call.t)
  pub before : IsOpen false (truth_at (back_view c).columns (before_claim c) (root_of c.call.g c.call.w) c.call.t)
  pub after : IsOpen true (truth_at (back_view c).columns (after_claim c) (root_of c.call.g c.call.w) c.call.t)

abbrev Fits : BackLetter → Role → LinearRow → Type 0
Fits c = RoleFits (back_view c) (back_root c) (root_of c.call.g c.call.w).rows

root_stands : (c : BackLetter) → IsUncased c.call.t → StandsIn (back_view c).columns 0 (root_of c.call.g c.call.w) c.call.t (spot 0 (root_of c.call.g c.call.w) c.call.t)
root_stands c un = uncased_stands (back_view c).columns 0 (root_of c.call.g c.call.w) c.call.t un

claim_rows : (c : BackLetter) → IsUncased c.call.t → (i : ℕ) (d : Claim) → slice_get (back_view c).claims i ≡ Some d → IsOpen d.is_denied (truth_at (back_view c).columns d (root_of c.call.g c.call.w) c.call.t) →
    AllPairs (Fits c) (claim_roles c i d) (map tightened (rows_in (said_at (back_view c).columns d (back_root c))))
claim_rows c un i d e is_open = claim_pairs (back_view c) (back_root c) un (root_stands c un) (root_of c.call.g c.call.w).rows i d e is_open

back_opens : (c : BackLetter) → BackOpenClaims c → BackOpens c
back_opens c o = record {
  exit_count = pairs_counted (Fits c) (claim_roles c 0 (exit_claim c)) (exit_rows c) (claim_rows c o.uncased 0 (exit_claim c) refl o.exit);
  before_count = pairs_counted (Fits c) (claim_roles c 1 (before_claim c)) (before_rows c) (claim_rows c o.uncased 1 (before_claim c) refl o.before);
  after_count = pairs_counted (Fits c) (claim_roles c 2 (after_claim c)) (after_rows c) (claim_rows c o.uncased 2 (after_claim c) refl o.after);
}

-- ---- its view

not_both : (x : Bool) → x ≡ true → x ≡ false → ⊥
not_both true e f = absurd (cc)
not_both false e f = absurd (cc)

source_asks : (z : Bool) → is_same z false ≡ false → z ≡ true
source_asks true q = refl
source_asks false q = absurd (cc)

target_asks : (z : Bool) → is_same z true ≡ false → z ≡ false
target_asks true q = absurd (cc)
target_asks false q = refl

none_some : {X : Type 0} (x : X) → None ≡ Some x → ⊥
none_some x e = absurd (cc)

same_some : {X : Type 0} (x y : X) → Some x ≡ Some y → x ≡ y
same_some x y e = cc

-- the exit counts from the call on, the predicate before up to the call, and the target what both count
exit_before : (c : BackLetter) (s : ℕ) → asks_each (exit_claim c) s ≡ false → asks_each (before_claim c) s ≡ false → ⊥
exit_before c s e f =
    let a = (counted_is (exit_claim c).position s (source_asks (is_counted (exit_claim c).position s) e)).0 in
    let b = (counted_is (before_claim c).position s (source_asks (is_counted (before_claim c).position s) f)).1 in
    omega (arith, a, b)

exit_after : (c : BackLetter) (s : ℕ) → asks_each (exit_claim c) s ≡ false → asks_each (after_claim c) s ≡ false → ⊥
exit_after c s e f =
    let p = counted_is (exit_claim c).position s (source_asks (is_counted (exit_claim c).position s) e) in
    let a = p.0 in
    let b = p.1 in
    let o = caller_own c in
    not_both (is_counted (after_claim c).position s) (is_counted_in (after_claim c).position s (omega (arith, a, o)) (omega (arith, b))) (target_asks (is_counted (after_claim c).position s) f)

before_after : (c : BackLetter) (s : ℕ) → asks_each (before_claim c) s ≡ false → asks_each (after_claim c) s ≡ false → ⊥
before_after c s e f =
    let p = counted_is (before_claim c).position s (source_asks (is_counted (before_claim c).position s) e) in
    let a = p.0 in
    let b = p.1 in
    let l = call_earlier c in
    not_both (is_counted (after_claim c).position s) (is_counted_in (after_claim c).position s (omega (arith, a)) (omega (arith, b, l))) (target_asks (is_counted (after_claim c).position s) f)

back_is_view : (c : BackLetter) → IsView (back_view c)
back_is_view c = record {
  claims = (refl, (refl, refl));
  one_source = λ e. absurd (not_both false e refl);
  one_asks = λ s i j d e f h used also x y. one s i j d e f h x y;
}
  where
    asks : (s : ℕ) (d e : Claim) → Some d ≡ Some e → asks_each e s ≡ false → asks_each d s ≡ false
    asks s d e q x = ap (λ (k : Claim). asks_each k s) (same_some d e q) ∙ x

    one : (s i j : ℕ) (d e : Claim) → slice_get (exit_claim c ∷ before_claim c ∷ after_claim c ∷ []) i ≡ Some d → slice_get (exit_claim c ∷ before_claim c ∷ after_claim c ∷ []) j ≡ Some e →
        asks_each d s ≡ false → asks_each e s ≡ false → i ≡ j
    one s zero zero d e f h x y = refl
    one s zero (suc zero) d e f h x y = absurd (exit_before c s (asks s (exit_claim c) d f x) (asks s (before_claim c) e h y))
    one s zero (suc (suc zero)) d e f h x y = absurd (exit_after c s (asks s (exit_claim c) d f x) (asks s (after_claim c) e h y))
    one s zero (suc (suc (suc j))) d e f h x y = absurd (none_some e h)
    one s (suc zero) zero d e f h x y = absurd (exit_before c s (asks s (exit_claim c) e h y) (asks s (before_claim c) d f x))
    one s (suc zero) (suc zero) d e f h x y = refl
    one s (suc zero) (suc (suc zero)) d e f h x y = absurd (before_after c s (asks s (before_claim c) d f x) (asks s (after_claim c) e h y))
    one s (suc zero) (suc (suc (suc j))) d e f h x y = absurd (none_some e h)
    one s (suc (suc zero)) zero d e f h x y = absurd (exit_after c s (asks s (exit_claim c) e h y) (asks s (after_claim c) d f x))
    one s (suc (suc zero)) (suc zero) d e f h x y = absurd (before_after c s (asks s (before_claim c) e h y) (asks s (after_claim c) d f x))
    one s (suc (suc zero)) (suc (suc zero)) d e f h x y = refl
    one s (suc (suc zero)) (suc (suc (suc j))) d e f h x y = absurd (none_some e h)
    one s (suc (suc (suc i))) j d e f h x y = absurd (none_some d f)

-- ---- its rows

own_pairs : (c : BackLetter) → AllPairs (Fits c) (own_roles c) (back_own_rows c)
own_pairs c =
    let rows : c.call.r.rows ≡ length (front_of c.call) = sym c.call.at.along.read.row_count ∙ sym (length-map c.call.at.along.read.front tightened) in
    subst (λ (k : ℕ). AllPairs (Fits c) (branch_rows k (length c.call.rows)) (back_own_rows c)) (sym rows)
    (subst (λ (k : ℕ). AllPairs (Fits c) (branch_rows (length (front_of c.call)) k) (back_own_rows c)) (sym (own_counted c))
    (branch_pairs (back_view c) (back_root c) (root_of c.call.g c.call.w).rows (front_of c.call) (back_own_rows c) (own_block c.call)
    ((entry_block c.call ++ (local_block c.call ++ old_block c.call)) ++ map tightened (later_rows c.call))
    (call_root_rows c.call ∙ ap (λ (l : List LinearRow). front_of c.call ++ l) (append_assoc (own_block c.call) (entry_block c.call ++ (local_block c.call ++ old_block c.call)) (map tightened (later_rows c.call)))) (rows_kinds c).own))

frame_pairs : (c : BackLetter) → AllPairs (Fits c) (frame_roles c) (back_frame c)
frame_pairs c = by_begun c.call.at.begun
  where
    by_begun : ((c.call.r ≡ first_reading c.call.g) × (caller_in c.call ≡ start_frame c.call.g)) ⊎ (0 < c.call.r.letters) → AllPairs (Fits c) (before_bounds (suc c.call.r.letters) (caller_in c.call)) (back_frame c)
    by_begun (inl e) =
        let letters : suc c.call.r.letters ≡ 1 = ap (λ (x : Reading). suc x.letters) e.0 in
        let position_here : before_bounds (suc c.call.r.letters) (caller_in c.call) ≡ branch_rows 0 (bounds_in (caller_in c.call)) =
        ap (λ (z : Bool). if z then branch_rows 0 (bounds_in (caller_in c.call)) else spares (bounds_in (caller_in c.call))) (eq-eqb (suc c.call.r.letters) 1 letters) in
        subst (λ (l : List Role). AllPairs (Fits c) l (back_frame c)) (sym (position_here ∙ ap (branch_rows 0) (sym (frame_counted c))))
        (branch_pairs (back_view c) (back_root c) (root_of c.call.g c.call.w).rows [] (back_frame c) (front_of c.call) (call_block c.call ++ map tightened (later_rows c.call)) (call_root_rows c.call) ((rows_kinds c).frame e.0 e.1))
    by_begun (inr l) =
        let position_here : before_bounds (suc c.call.r.letters) (caller_in c.call) ≡ spares (bounds_in (caller_in c.call)) =
        ap (λ (z : Bool). if z then branch_rows 0 (bounds_in (caller_in c.call)) else spares (bounds_in (caller_in c.call))) (ne_eqb (suc c.call.r.letters) 1 (λ (e : suc c.call.r.letters ≡ 1). omega (arith, l, e))) in
        subst (λ (r : List Role). AllPairs (Fits c) r (back_frame c)) (sym (position_here ∙ ap spares (sym (frame_counted c)))) (spare_pairs (back_view c) (back_root c) (root_of c.call.g c.call.w).rows 0 (back_frame c))

spare_rows : (c : BackLetter) (k : ℕ) (rows : List LinearRow) → length rows ≡ k → AllPairs (Fits c) (spares k) rows
spare_rows c k rows e = subst (λ (n : ℕ). AllPairs (Fits c) (spares n) rows) e (spare_pairs (back_view c) (back_root c) (root_of c.call.g c.call.w).rows 0 rows)

all_pairs : (c : BackLetter) → BackOpenClaims c → AllPairs (Fits c) (back_first c).roles (back_first c).rows
all_pairs c o =
    let whole = eleven_pairs (Fits c) (claim_roles c 0 (exit_claim c)) (claim_roles c 1 (before_claim c)) (constant_roles c) (old_roles c) (own_roles c) (global_roles c) (result_roles c) (claim_roles c 2 (after_claim c))
    (exit_spares c) (frame_roles c) (written_spares c) (exit_rows c) (before_rows c) (constant_ties c) (old_ties c) (back_own_rows c) (global_ties c) (result_ties c) (after_rows c) (exit_bounds c) (back_frame c) (written_bounds c)
    (claim_rows c o.uncased 0 (exit_claim c) refl o.exit) (claim_rows c o.uncased 1 (before_claim c) refl o.before)
    (tie_pairs (back_view c) (back_root c) (root_of c.call.g c.call.w).rows source_tie (λ p row q. q) (λ x. x) (λ x. m_of c + x) (constants_of (callee_in c.call)) (constants_tie c))
    (tie_pairs (back_view c) (back_root c) (root_of c.call.g c.call.w).rows (λ p. source_tie p.0) (λ p row q. q) (λ p. p.0) (λ p. m_of c + p.1) (olds_of (callee_in c.call)) (olds_tie c))
    (own_pairs c)
    (tie_pairs (back_view c) (back_root c) (root_of c.call.g c.call.w).rows target_tie (λ p row q. q) (λ j. after_of c j) (λ j. j) (kept_globals c) (globals_tie c))
    (tie_pairs (back_view c) (back_root c) (root_of c.call.g c.call.w).rows (λ p. target_tie p.0) (λ p row q. q) (λ p. after_of c p.0) (λ p. p.1) (taken_in c) (results_tie c))
    (claim_rows c o.uncased 2 (after_claim c) refl o.after) (spare_rows c (bounds_in (callee_in c.call)) (exit_bounds c) (exit_counted c)) (frame_pairs c)
    (spare_rows c _ (written_bounds c) (written_counted c)) in
    subst (λ (l : List Role). AllPairs (Fits c) l (back_first c).rows) (sym (back_first_roles c)) (subst (AllPairs (Fits c) _) (sym (back_first_rows c)) whole)

-- ---- what is held

-- the roles behind the first claim's, and behind the second's
abbrev last_roles : BackLetter → List Role
last_roles c = claim_roles c 2 (after_claim c) ++ (exit_spares c ++ (frame_roles c ++ written_spares c))

abbrev rest_roles : BackLetter → List Role
rest_roles c = constant_roles c ++ (old_roles c ++ (own_roles c ++ (global_roles c ++ (result_roles c ++ last_roles c))))

all_held : (c : BackLetter) → BackOpenClaims c → AllHeld (back_view c) (back_first c) 0 (root_of c.call.g c.call.w) c.call.t
all_held c o i d found used = by_claim i found
  where
    whole : (j m : ℕ) → IsTrue (stands (claim_roles c 0 (exit_claim c) ++ (claim_roles c 1 (before_claim c) ++ rest_roles c)) j m) → IsTrue (stands (back_first c).roles j m)
    whole j m h = subst (λ (l : List Role). IsTrue (stands l j m)) (sym (back_first_roles c)) h

    behind : (m : ℕ) → IsTrue (stands (last_roles c) 2 m) → IsTrue (stands (rest_roles c) 2 m)
    behind m h =
        stands_right (constant_roles c) (old_roles c ++ (own_roles c ++ (global_roles c ++ (result_roles c ++ last_roles c)))) 2 m
        (stands_right (old_roles c) (own_roles c ++ (global_roles c ++ (result_roles c ++ last_roles c))) 2 m
        (stands_right (own_roles c) (global_roles c ++ (result_roles c ++ last_roles c)) 2 m
        (stands_right (global_roles c) (result_roles c ++ last_roles c) 2 m (stands_right (result_roles c) (last_roles c) 2 m h))))

    by_claim : (i : ℕ) → slice_get (back_view c).claims i ≡ Some d → Held (back_view c).columns i d (back_first c).roles (back_first c).groups (back_first c).taken 0 (root_of c.call.g c.call.w) c.call.t
    by_claim zero e =
        subst (λ (x : Claim). Held (back_view c).columns 0 x (back_first c).roles (back_first c).groups (back_first c).taken 0 (root_of c.call.g c.call.w) c.call.t) (same_some (exit_claim c) d e)
        (begin_held c.call.g c.call.w c.call.t (back_view c) (back_first c) o.uncased refl 0 (exit_claim c) refl o.exit
        (λ m h. whole 0 m (stands_left (claim_roles c 0 (exit_claim c)) (claim_roles c 1 (before_claim c) ++ rest_roles c) 0 m (stands_exposed 0 (leaves_of c (exit_claim c)) m h))))
    by_claim (suc zero) e =
        subst (λ (x : Claim). Held (back_view c).columns 1 x (back_first c).roles (back_first c).groups (back_first c).taken 0 (root_of c.call.g c.call.w) c.call.t) (same_some (before_claim c) d e)
        (begin_held c.call.g c.call.w c.call.t (back_view c) (back_first c) o.uncased refl 1 (before_claim c) refl o.before
        (λ m h. whole 1 m
        (stands_right (claim_roles c 0 (exit_claim c)) (claim_roles c 1 (before_claim c) ++ rest_roles c) 1 m
        (stands_left (claim_roles c 1 (before_claim c)) (rest_roles c) 1 m (stands_exposed 1 (leaves_of c (before_claim c)) m h)))))
    by_claim (suc (suc zero)) e =
        subst (λ (x : Claim). Held (back_view c).columns 2 x (back_first c).roles (back_first c).groups (back_first c).taken 0 (root_of c.call.g c.call.w) c.call.t) (same_some (after_claim c) d e)
        (begin_held c.call.g c.call.w c.call.t (back_view c) (back_first c) o.uncased refl 2 (after_claim c) refl o.after
        (λ m h. whole 2 m
        (stands_right (claim_roles c 0 (exit_claim c)) (claim_roles c 1 (before_claim c) ++ rest_roles c) 2 m
        (stands_right (claim_roles c 1 (before_claim c)) (rest_roles c) 2 m
        (behind m (stands_left (claim_roles c 2 (after_claim c)) (exit_spares c ++ (frame_roles c ++ written_spares c)) 2 m (stands_exposed 2 (leaves_of c (after_claim c)) m h)))))))
    by_claim (suc (suc (suc j))) e = absurd (none_some d e)

back_held : (c : BackLetter) → TreeRefutes c.call.t (rows_goal (root_of c.call.g c.call.w)) → BackOpenClaims c → BeginsHeld (back_view c) (back_root c) (back_first c)
back_held c refuted o = record {
  view = back_is_view c;
  refuted = refuted;
  stands = root_stands c o.uncased;
  groups = begin_groups c.call.g c.call.w c.call.t (back_view c) o.uncased (root_stands c o.uncased) 0 (back_view c).claims (λ p d e. ap (slice_get (back_view c).claims) (let q : 0 + p ≡ p = omega arith in q) ∙ e);
  held = all_held c o;
  taken = refl;
}

claims_open : (c : BackLetter) → TreeRefutes c.call.t (rows_goal (root_of c.call.g c.call.w)) → AllByRecursion (λ d. IsFalse c.call.g c.call.w c.call.t (back_view c) d → ⊥) (back_view c).claims → BackOpenClaims c
claims_open c refuted open_claims =
    record { uncased = refuted_uncased c.call.t (root_of c.call.g c.call.w) refuted; exit = open_claims.0; before = open_claims.1.0; after = open_claims.1.1.0 }

-- the leaves of the refutation of its triple contradict their rows
letter_refutes : (c : BackLetter) → TreeRefutes c.call.t (rows_goal (root_of c.call.g c.call.w)) → AreCutsAt (length (back_view c).columns) c.call.t → StepRefutes c.call.g c.call.w c.call.t (back_step_in c)
letter_refutes c refuted cuts fits open_claims sides =
    let o : BackOpenClaims c = claims_open c refuted open_claims in
    leaves_refute (back_view c) (back_root c) (back_first c) (record { begins = back_held c refuted o; pairs = all_pairs c o }) cuts (exit_told c, (before_told c, (after_told c, tt)))
    (λ more late n b parts f. back_adds c (back_opens c o) more late n b parts f) sides

-- where it stops at a group, one waits
letter_waits : (c : BackLetter) → TreeRefutes c.call.t (rows_goal (root_of c.call.g c.call.w)) → StepWaits c.call.g c.call.w c.call.t (back_step_in c)
letter_waits c refuted open_claims = groups_wait (back_view c) (back_root c) (back_first c) (back_held c refuted (claims_open c refuted open_claims))

-- ---- at a return of an accepted word

head_knows : (g : Graph) (places : List ℕ) (q : ℕ) (scopes : List CallScope) → ScopesFit g places q scopes → KnowsWell (frame_of (alphabet_of g) (innermost scopes).proc) (innermost scopes).known
head_knows g places q [] h = absurd h
head_knows g [] q (s ∷ scopes) h = h.1
head_knows g (p ∷ places) q (s ∷ scopes) h = h.1

back_letter_of : (g : Graph) → IsGraph g → (globals : ℕ) → HaveGlobals g globals → (w : List Letter) (t : Tree) (r : Reading) (a : Letter) (rest : List Letter) (targets : List ℕ) →
    BackAt g globals w r a rest targets → Quiet g globals w r → BackLetter
back_letter_of g ok globals have w t r a rest targets h quiet =
    let o = h.open_at in
    let al = alphabet_of g in
    let f1 : Columns = frame_of al o.caller in
    let f2 : Columns = frame_of al o.callee in
    record {
      call = record { g = g; globals = globals; w = w; t = t; r = o.reading; a = o.letter; rest = o.rest; caller = o.caller; callee = o.callee; helpers = o.helpers; rows = o.rows; at = o.at };
      have = have;
      r = r;
      a = a;
      rest = rest;
      targets = targets;
      along = h.along;
      returns = h.returns;
      there = h.there;
      call_there = h.call_there;
      act_is = h.act_is;
      part_is = back_part_is g globals w r a rest targets h ∙
          ap (λ (v : List ℕ). back_part f1 f2 targets r.stage.made r.stage.here (v ∷ h.saved)) o.before_is ∙
          ap (λ (s : List (List ℕ)). back_part f1 f2 targets r.stage.made r.stage.here (o.reading.stage.here ∷ s)) (sym h.outer_saved);
      acted = h.acted;
      versions = h.versions;
      kept = h.kept;
      scope_is = exit_scope g globals w r a rest targets h ∙ ap (callee_scope al (suc o.reading.letters) o.callee true (entry_of g o.reading o.callee o.helpers)) o.before_is;
      saved_is = h.saved_are ∙ ap (λ (v : List ℕ). v ∷ h.saved) o.before_is ∙ ap (λ (s : List (List ℕ)). o.reading.stage.here ∷ s) (sym h.outer_saved);
      unknown = λ j may. head_knows g o.at.along.placed.places o.at.along.placed.from o.reading.scopes o.at.along.placed.scopes j
          (subst (λ (p : ℕ). MayTarget (frame_of al p) j) (sym (call_scope_proc g ok globals w o.reading o.letter o.rest o.caller o.callee o.helpers o.rows o.at)) may);
      quiet = λ y m. quiet_here g globals w r a rest targets h quiet y m;
    }

abbrev position_with : ℕ → CallScope → List ℕ → Position
position_with upto s l = record { scope = s; here = l; upto = upto }

-- what each return's step has, the step of this return has
pub at_return : (P : Graph → List Letter → Tree → Step → Type 0) → ((c : BackLetter) → P c.call.g c.call.w c.call.t (back_step_in c)) →
    (g : Graph) → IsGraph g → (globals : ℕ) → HaveGlobals g globals → (w : List Letter) (t : Tree) (r : Reading) (a : Letter) (rest : List Letter) (targets : List ℕ) →
    (h : BackAt g globals w r a rest targets) → Quiet g globals w r →
    P g w t (back_step_at g w t r a h.call h.scopes h.open_at.caller h.open_at.callee h.open_at.helpers h.open_at.rows targets h.before)
unfolding back_letter_of
at_return P has g ok globals have w t r a rest targets h quiet =
    let c : BackLetter = back_letter_of g ok globals have w t r a rest targets h quiet in
    let o = h.open_at in
    let f1 : Columns = frame_of (alphabet_of g) o.caller in
    let f2 : Columns = frame_of (alphabet_of g) o.callee in
    let exit : position_here r ≡ exit_position c = ap (λ (s : CallScope). position_with (position_here r).upto s r.stage.here) c.scope_is in
    let to : back_to g r h.scopes o.caller o.callee targets h.before ≡ after_position c =
    ap (λ (s : List CallScope). back_to g r s o.caller o.callee targets h.before) (sym h.outer_scopes) ∙ ap (back_to g r o.reading.scopes o.caller o.callee targets) o.before_is in
    subst (λ (k : OpenCall). P g w t (back_step g w t a.id k (position_here r) (back_to g r h.scopes o.caller o.callee targets h.before) f1 f2 o.helpers o.rows targets)) (sym o.call_is)
    (subst (λ (q : Position). P g w t (back_step g w t a.id (back_call c) q (back_to g r h.scopes o.caller o.callee targets h.before) f1 f2 o.helpers o.rows targets)) (sym exit)
    (subst (λ (q : Position). P g w t (back_step g w t a.id (back_call c) (exit_position c) q f1 f2 o.helpers o.rows targets)) (sym to) (has c)))

pub back_refutes : (g : Graph) → IsGraph g → (globals : ℕ) → HaveGlobals g globals → (w : List Letter) (t : Tree) (r : Reading) (a : Letter) (rest : List Letter) (targets : List ℕ) →
    (h : BackAt g globals w r a rest targets) → Quiet g globals w r → TreeRefutes t (rows_goal (root_of g w)) → AreCutsAt (length (stamps_of g w).columns) t →
    StepRefutes g w t (back_step_at g w t r a h.call h.scopes h.open_at.caller h.open_at.callee h.open_at.helpers h.open_at.rows targets h.before)
back_refutes =
    at_return (λ g w t s. TreeRefutes t (rows_goal (root_of g w)) → AreCutsAt (length (stamps_of g w).columns) t → StepRefutes g w t s) letter_refutes

pub back_waits : (g : Graph) → IsGraph g → (globals : ℕ) → HaveGlobals g globals → (w : List Letter) (t : Tree) (r : Reading) (a : Letter) (rest : List Letter) (targets : List ℕ) →
    (h : BackAt g globals w r a rest targets) → Quiet g globals w r → TreeRefutes t (rows_goal (root_of g w)) →
    StepWaits g w t (back_step_at g w t r a h.call h.scopes h.open_at.caller h.open_at.callee h.open_at.helpers h.open_at.rows targets h.before)
back_waits = at_return (λ g w t s. TreeRefutes t (rows_goal (root_of g w)) → StepWaits g w t s) letter_waits
