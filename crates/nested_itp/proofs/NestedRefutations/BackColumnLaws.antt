-- The letter of a return with its open call: the versions of the columns after it, and its system's columns.
use Rattle.std.proofs.Common.{◌≡◌, ◌∙◌, ◌⊎◌, inl, inr, ℕ, suc, ◌+◌, ◌*◌, ◌<◌, ◌≤◌, Bool, true, List, [], ◌∷◌, ◌++◌, length, map, take, drop, refl, sym, ap, arith, None, Some}
use Rattle.std.specs.Prelude.{slice_get, slice_index, slice_set}
use Rattle.std.specs.List.{AllByRecursion}
use Rattle.std.proofs.lemmas.Bool.{lt-ltb, le-ltb}
use Rattle.nwa_base.specs.declared.letters.Letter.{Letter}
use Rattle.nwa_base.specs.Members.{Member}
use Rattle.letter_acts.specs.Frames.{Columns, globals_of, result_columns}
use Rattle.letter_acts.specs.Acts.{call_act, back_act, act_of}
use Rattle.letter_acts.specs.Reading.{taken}
use Rattle.letter_acts.specs.Invariant.{Graph, alphabet_of, AreDistinct, MayTarget, BackIsActed, written_by}
use Rattle.path_rows.specs.Versions.{written_over, returned, back_part, part_of}
use Rattle.path_rows.specs.Stages.{AreVersions}
use Rattle.path_rows.proofs.DifferLemmas.{index_taken, index_dropped}
use Rattle.triple_rows.specs.Systems.{after_column, call_column}
use Rattle.nested_itp.specs.NestedPredicates.Stamps.{stamp_of}
use Rattle.nested_itp.specs.NestedPredicates.Positions.{CallScope, has_return, callee_scope, Position, innermost}
use Rattle.nested_itp.specs.NestedPredicates.Sums.{root_of}
use Rattle.nested_itp.specs.NestedRefutations.Refutations.{Claim, TreeSpot, View, Gathered}
use Rattle.nested_itp.specs.NestedRefutations.Numbers.{OpenCall, Step, back_step, source, target, Reading, position_here, begins}
use Rattle.nested_itp.proofs.NestedRefutations.ContentLaws.{DiffersBelow}
use Rattle.nested_itp.proofs.NestedRefutations.ColumnLaws.{known_in}
use Rattle.nested_itp.proofs.NestedRefutations.VersionLaws.{index_left, index_right, split_at, set_same, set_count, written_absent}
use Rattle.nested_itp.proofs.NestedRefutations.WordLaws.{HaveGlobals}
use Rattle.nested_itp.proofs.NestedRefutations.AlongLaws.{Along}
use Rattle.nested_itp.proofs.NestedRefutations.InsideColumnLaws.{owns_innermost}
use Rattle.nested_itp.proofs.NestedRefutations.CallAtLaws.{entry_of}
use Rattle.nested_itp.proofs.NestedRefutations.CallColumnLaws.{CallLetter, caller_in, callee_in, take_short}
use Rattle.nested_itp.proofs.NestedRefutations.OpenLaws.{IsKept}
use Rattle.nested_itp.proofs.NestedRefutations.BackAtLaws.{BackAt}
use Rattle.nested_itp.proofs.NestedRefutations.QuietLaws.{IsQuiet}

-- ---- versions

all_set : (position_here cs : List ℕ) (d v : ℕ) → AllByRecursion (λ c. c < length position_here) cs → AllByRecursion (λ c. c < length (slice_set position_here d v)) cs
all_set position_here [] d v h = tt
all_set position_here (c ∷ cs) d v h = let n = set_count position_here d v in let l = h.0 in (omega (arith, l, n), all_set position_here cs d v h.1)

-- what is written in order has what was written in its place
written_taken : (position_here cs results : List ℕ) (f : ℕ → ℕ) → AreDistinct cs → AllByRecursion (λ c. c < length position_here) cs → (c r : ℕ) → Member (taken cs results) (c, r) →
    slice_index (written_over position_here cs (map f results)) c ≡ f r
written_taken position_here [] results f d l c r m = absurd m
written_taken position_here (t ∷ ts) [] f d l c r m = absurd m
written_taken position_here (t ∷ ts) (q ∷ results) f d l c r (inl e) =
    let column : t ≡ c = ap (λ (p : ℕ × ℕ). p.0) e in
    let result : q ≡ r = ap (λ (p : ℕ × ℕ). p.1) e in
    ap (slice_index (written_over (slice_set position_here t (f q)) ts (map f results))) (sym column) ∙ written_absent (slice_set position_here t (f q)) ts (map f results) t d.0 ∙ set_same position_here t (f q) l.0 ∙ ap f result
written_taken position_here (t ∷ ts) (q ∷ results) f d l c r (inr m) = written_taken (slice_set position_here t (f q)) ts results f d.1 (all_set position_here ts t (f q) l.1) c r m

-- a constant or global that is no target is that of the exit
pub returned_global : (caller callee : Columns) (targets exit before : List ℕ) → length (globals_of caller) ≤ length exit → (j : ℕ) → (Member targets j → ⊥) → j < length (globals_of caller) →
    slice_index (returned caller callee targets exit before) j ≡ slice_index exit j
returned_global caller callee targets exit before long j n l =
    let count : ℕ = length (globals_of caller) in
    let short = take_short count exit long in
    written_absent (take count exit ++ drop count before) targets (map (slice_index exit) (result_columns callee)) j n ∙
    index_left (take count exit) (drop count before) j (omega (arith, l, short)) ∙ index_taken count exit j l

-- a column behind the globals that is no target is as before the call
pub returned_behind : (caller callee : Columns) (targets exit before : List ℕ) → length (globals_of caller) ≤ length exit → (i : ℕ) → (Member targets (length (globals_of caller) + i) → ⊥) →
    slice_index (returned caller callee targets exit before) (length (globals_of caller) + i) ≡ slice_index before (length (globals_of caller) + i)
returned_behind caller callee targets exit before long i n =
    let count : ℕ = length (globals_of caller) in
    let short = take_short count exit long in
    written_absent (take count exit ++ drop count before) targets (map (slice_index exit) (result_columns callee)) (count + i) n ∙
    ap (λ (m : ℕ). slice_index (take count exit ++ drop count before) (m + i)) (sym short) ∙ index_right (take count exit) (drop count before) i ∙ index_dropped count before (count + i) i refl

-- a target has the callee's result in its place
pub returned_target : (caller callee : Columns) (targets exit before : List ℕ) → AreDistinct targets →
    AllByRecursion (λ c. c < length (take (length (globals_of caller)) exit ++ drop (length (globals_of caller)) before)) targets → (t r : ℕ) → Member (taken targets (result_columns callee)) (t, r) →
    slice_index (returned caller callee targets exit before) t ≡ slice_index exit r
returned_target caller callee targets exit before d l t r m =
    written_taken (take (length (globals_of caller)) exit ++ drop (length (globals_of caller)) before) targets (result_columns callee) (slice_index exit) d l t r m

-- ---- scopes

-- the scope at the exit is that of the entry
pub exit_scope : (g : Graph) (globals : ℕ) (w : List Letter) (r : Reading) (a : Letter) (rest : List Letter) (targets : List ℕ) (h : BackAt g globals w r a rest targets) →
    innermost r.scopes ≡ callee_scope (alphabet_of g) (suc h.open_at.reading.letters) h.open_at.callee true (entry_of g h.open_at.reading h.open_at.callee h.open_at.helpers) h.before
exit_scope g globals w r a rest targets h =
    let o : Reading = h.open_at.reading in
    let entry : List ℕ = entry_of g o h.open_at.callee h.open_at.helpers in
    ap innermost h.scopes_are ∙ h.open_at.scope_is ∙
    ap (λ (b : Bool). callee_scope (alphabet_of g) (suc o.letters) h.open_at.callee b entry o.stage.here) h.returns ∙
    ap (callee_scope (alphabet_of g) (suc o.letters) h.open_at.callee true entry) (sym h.open_at.before_is)

-- ---- the letter

-- a return of an accepted word with the call that it returns from
pub record BackLetter : Type 0 where
  pub call : CallLetter
  pub have : HaveGlobals call.g call.globals
  pub r : Reading
  pub a : Letter
  pub rest : List Letter
  pub targets : List ℕ
  pub along : Along call.g call.globals call.w r (a ∷ rest)
  pub returns : has_return 0 call.rest ≡ true
  pub there : slice_get call.g.acts a.id ≡ Some (back_act a.call targets)
  pub call_there : slice_get call.g.acts a.call ≡ Some (call_act call.caller call.callee call.helpers call.rows)
  pub act_is : act_of (alphabet_of call.g) a ≡ Some (back_act a.call targets)
  pub part_is : part_of (alphabet_of call.g) a r.stage ≡ back_part (caller_in call) (callee_in call) targets r.stage.made r.stage.here (call.r.stage.here ∷ call.r.stage.saved)
  pub acted : BackIsActed (caller_in call) (callee_in call) call.helpers targets
  pub versions : AreVersions r.stage.made (callee_in call) r.stage.here
  pub kept : IsKept (callee_in call) (entry_of call.g call.r call.callee call.helpers) r.stage.here
  pub scope_is : innermost r.scopes ≡ callee_scope (alphabet_of call.g) (suc call.r.letters) call.callee true (entry_of call.g call.r call.callee call.helpers) call.r.stage.here
  pub saved_is : r.stage.saved ≡ call.r.stage.here ∷ call.r.stage.saved
  -- the caller's own sum speaks of no column that may be a target
  pub unknown : (j : ℕ) → MayTarget (caller_in call) j → known_in (innermost call.r.scopes).known j ≡ None
  pub quiet : (y : ℕ) → Member (drop call.globals call.r.stage.here) y → IsQuiet call.g call.w (suc call.r.letters) r.letters y

abbrev pub back_call : BackLetter → OpenCall
back_call c = record { number = suc c.call.r.letters; rows = c.call.r.rows; made = c.call.r.stage.made; before = position_here c.call.r }

-- the position at its exit
abbrev pub exit_position : BackLetter → Position
exit_position c = record {
  scope = callee_scope (alphabet_of c.call.g) (suc c.call.r.letters) c.call.callee true (entry_of c.call.g c.call.r c.call.callee c.call.helpers) c.call.r.stage.here;
  here = c.r.stage.here;
  upto = suc (stamp_of c.r.letters);
}

-- and that after it
abbrev pub after_position : BackLetter → Position
after_position c = record {
  scope = innermost c.call.r.scopes;
  here = returned (caller_in c.call) (callee_in c.call) c.targets c.r.stage.here c.call.r.stage.here;
  upto = suc (stamp_of (suc c.r.letters));
}

abbrev pub back_written : BackLetter → List ℕ
back_written c = written_by (caller_in c.call) c.targets

-- how many columns of the callee, of the caller, and written ones its system has
abbrev pub m_of : BackLetter → ℕ
m_of c = length (callee_in c.call)

abbrev pub n_of : BackLetter → ℕ
n_of c = length (caller_in c.call)

abbrev pub w_of : BackLetter → ℕ
w_of c = length (back_written c)

-- where a column of the frame after it stands, and one of the call letter's rows
abbrev pub after_of : BackLetter → ℕ → ℕ
after_of c = after_column (m_of c) (m_of c + n_of c) (back_written c)

abbrev pub moved_to : BackLetter → ℕ → ℕ
moved_to c = call_column (m_of c) (n_of c) (w_of c)

abbrev pub exit_claim : BackLetter → Claim
exit_claim c = source (exit_position c) (λ x. x)

abbrev pub before_claim : BackLetter → Claim
before_claim c = source (position_here c.call.r) (λ x. m_of c + x)

abbrev pub after_claim : BackLetter → Claim
after_claim c = target (after_position c) (after_of c)

abbrev pub back_step_in : BackLetter → Step
back_step_in c = back_step c.call.g c.call.w c.call.t c.a.id (back_call c) (exit_position c) (after_position c) (caller_in c.call) (callee_in c.call) c.call.helpers c.call.rows c.targets

abbrev pub back_view : BackLetter → View
back_view c = (back_step_in c).view

abbrev pub back_root : BackLetter → TreeSpot
back_root c = record { node = 0; branch = root_of c.call.g c.call.w; tree = c.call.t }

abbrev pub back_first : BackLetter → Gathered
back_first c = begins c.call.g c.call.w c.call.t (back_step_in c)

-- the call comes before it
pub call_earlier : (c : BackLetter) → suc c.call.r.letters ≤ c.r.letters
call_earlier c =
    let o : (innermost c.r.scopes).own ≤ 2 * c.r.letters = owns_innermost c.r.letters c.r.scopes c.along.placed.owns in
    let e : (innermost c.r.scopes).own ≡ 2 * suc c.call.r.letters = ap (λ (s : CallScope). s.own) c.scope_is in
    omega (arith, o, e)

-- the caller's own call is open before it
pub caller_own : (c : BackLetter) → (innermost c.call.r.scopes).own ≤ 2 * c.call.r.letters
caller_own c = owns_innermost c.call.r.letters c.call.r.scopes c.call.at.along.placed.owns

pub exit_long : (c : BackLetter) → length c.r.stage.here ≡ m_of c
exit_long c = c.versions.long

-- ---- the columns of the call letter's rows

-- the caller's, the callee's and the helpers
pub data ColumnCase (m n w x : ℕ) : Type 0 where
  in_caller : x < n → call_column m n w x ≡ m + x → ColumnCase m n w x
  in_callee : (i : ℕ) → i < m → x ≡ n + i → call_column m n w x ≡ i → ColumnCase m n w x
  in_helper : (i : ℕ) → x ≡ n + (m + i) → call_column m n w x ≡ m + n + w + i → ColumnCase m n w x

pub caller_at : (m n w x : ℕ) → x < n → call_column m n w x ≡ m + x
caller_at m n w x l = rw (lt-ltb x n l) refl

pub callee_at : (m n w x i : ℕ) → x ≡ n + i → i < m → call_column m n w x ≡ i
callee_at m n w x i e l = rw (le-ltb x n (omega (arith, e))) (rw (lt-ltb x (n + m) (omega (arith, e, l))) (omega (arith, e)))

pub helper_at : (m n w x i : ℕ) → x ≡ n + (m + i) → call_column m n w x ≡ m + n + w + i
helper_at m n w x i e = rw (le-ltb x n (omega (arith, e))) (rw (le-ltb x (n + m) (omega (arith, e))) (omega (arith, e)))

pub column_case : (m n w x : ℕ) → ColumnCase m n w x
column_case m n w x = by_caller (split_at n x)
  where
    by_callee : (k : ℕ) → x ≡ n + k → (k < m) ⊎ ((i : ℕ) × (k ≡ m + i)) → ColumnCase m n w x
    by_callee k e (inl l) = in_callee k l e (callee_at m n w x k e l)
    by_callee k e (inr h) = let q : x ≡ n + (m + h.0) = e ∙ ap (λ (j : ℕ). n + j) h.1 in in_helper h.0 q (helper_at m n w x h.0 q)

    by_caller : (x < n) ⊎ ((k : ℕ) × (x ≡ n + k)) → ColumnCase m n w x
    by_caller (inl l) = in_caller l (caller_at m n w x l)
    by_caller (inr h) = by_callee h.0 h.1 (split_at m h.0)

-- they are told apart
pub columns_differ : (m n w k : ℕ) → DiffersBelow k (call_column m n w)
columns_differ m n w k i j l b e = by_cases (column_case m n w i) (column_case m n w j)
  where
    by_cases : ColumnCase m n w i → ColumnCase m n w j → i ≡ j
    by_cases (in_caller p q) (in_caller r s) = omega (arith, q, s, e)
    by_cases (in_caller p q) (in_callee y r f s) = absurd (omega (arith, q, s, e, r))
    by_cases (in_caller p q) (in_helper y f s) = absurd (omega (arith, q, s, e, p))
    by_cases (in_callee x p d q) (in_caller r s) = absurd (omega (arith, q, s, e, p))
    by_cases (in_callee x p d q) (in_callee y r f s) = omega (arith, q, s, e, d, f)
    by_cases (in_callee x p d q) (in_helper y f s) = absurd (omega (arith, q, s, e, p))
    by_cases (in_helper x d q) (in_caller r s) = absurd (omega (arith, q, s, e, r))
    by_cases (in_helper x d q) (in_callee y r f s) = absurd (omega (arith, q, s, e, r))
    by_cases (in_helper x d q) (in_helper y f s) = omega (arith, q, s, e, d, f)
