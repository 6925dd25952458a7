-- A run that stands at a call without body, and comes to a configuration that is no part of the call, goes through the whole call.
use Rattle.std.proofs.Common.{◌≡◌, ◌∙◌, ℕ, zero, suc, ◌+◌, ◌-◌, ◌<◌, ◌≤◌, ℤ, Bool, true, false, List, [], ◌∷◌, ◌++◌, length, drop, Option, None, Some, slice_get, refl, sym, ap, subst, arith, append_assoc, if◌then◌else◌}
use Rattle.std.specs.List.{AllByRecursion}
use Rattle.std.proofs.lemmas.Bool.{false≢true}
use Rattle.math_facts.specs.Optional.{or_zero}
use Rattle.boogie_tree.specs.declared.tree.Ty.{Ty}
use Rattle.boogie_tree.specs.declared.tree.Ty.TheVariants as types
use Rattle.boogie_tree.specs.declared.tree.Column.{Column}
use Rattle.boogie_tree.specs.declared.tree.Column.TheVariants as columns
use Rattle.boogie_tree.specs.declared.tree.VarInfo.{VarInfo}
use Rattle.typed_tree.specs.TypedTree.{TypedExpression, TypedInvariant, TypedProcedure, TypedProgram}
use Rattle.typed_tree.specs.Values.{value}
use Rattle.boogie_run.specs.BoogiePoints.Points.{Point, settled, past_first}
use Rattle.boogie_run.specs.BoogiePoints.Actions as actions
use Rattle.boogie_run.specs.BoogiePoints.Actions.{Action, next_part, ensured_conditions, chosen_columns, results_from, unseen_action, action_at}
use Rattle.boogie_run.specs.BoogiePoints.Starts.{targets_at}
use Rattle.boogie_run.specs.Configurations.{Config}
use Rattle.boogie_run.specs.Needs.{need_of_type, need_of, need_of_column, need_of_action, is_taken, locals_if_any, locals_at}
use Rattle.boogie_run.specs.Steps.{Outcome, Went, Blocked, Refused, written, all_written, moved_to, kept_on, kept_to, granted_state, finished, is_true, act, all_put, modifies_of}
use Rattle.boogie_run.specs.Runs.{then_goes_on, run}
use Rattle.lowered_graph.specs.LoweredSteps.Moves.{IsGood}
use Rattle.lowered_graph.specs.LoweredImports.Imports.{later, IsKnownImport, IsImport, keeping}
use Rattle.lowered_graph.specs.LoweredImports.KnownPoints.{IsPointOf}
use Rattle.lowered_graph.proofs.LoweredImports.Phases.{IsFull, AreTakenBy, step_acts, phase, first_phase, AreParted, taken_parts, taken_results}
use Rattle.lowered_graph.proofs.LoweredImports.ImportRuns.{full_of_good}

append_none : {X : Type 0} (xs : List X) → xs ++ [] ≡ xs
append_none [] = refl
append_none {X} (x ∷ xs) = ap (λ (ys : List X). x ∷ ys) (append_none xs)

get_past : {X : Type 0} (xs : List X) (n : ℕ) → length xs ≤ n → slice_get xs n ≡ None
get_past [] n h = refl
get_past (x ∷ xs) zero h = absurd (omega arith)
get_past (x ∷ xs) (suc n) h = get_past xs n (omega arith)

-- a column takes no want of a value
none_of_type : (ty : Ty) → is_taken (need_of_type ty) None ≡ true → ⊥
none_of_type types.Int h = false≢true h
none_of_type types.Bool h = false≢true h

none_of : (o : Option VarInfo) → is_taken (need_of o) None ≡ true → ⊥
none_of None h = false≢true h
none_of (Some v) h = none_of_type v.ty h

none_taken : (gs ls : List VarInfo) (c : Column) → is_taken (need_of_column gs ls c) None ≡ true → ⊥
none_taken gs ls (columns.Global n) h = none_of (slice_get gs n) h
none_taken gs ls (columns.Old n) h = none_of (slice_get gs n) h
none_taken gs ls (columns.Local n) h = none_of (slice_get ls n) h

-- where a run goes on, its first choice is taken
taken_back : (t : TypedProgram) (c e : Config) (choice : Option ℤ) (choices : List (Option ℤ)) (a : Action) → IsFull t c → action_at t c.top.proc c.top.point ≡ a →
    run t c (choice ∷ choices) ≡ Went e →
    (is_taken (need_of_action t c.top.proc a) choice ≡ true) × (then_goes_on (act t c (or_zero choice) a) (λ d. run t d choices) ≡ Went e)
taken_back t c e choice choices a f is h =
    by_test (is_taken (need_of_action t c.top.proc a) choice) refl (sym (ap (λ (o : Outcome). then_goes_on o (λ x. run t x choices)) (step_acts t c choice a f is)) ∙ h)
  where
    by_test : (b : Bool) → is_taken (need_of_action t c.top.proc a) choice ≡ b → then_goes_on (if b then act t c (or_zero choice) a else Refused) (λ d. run t d choices) ≡ Went e →
        (is_taken (need_of_action t c.top.proc a) choice ≡ true) × (then_goes_on (act t c (or_zero choice) a) (λ d. run t d choices) ≡ Went e)
    by_test true k g = (k, g)
    by_test false k g = absurd (cc)

-- ---- phases

phase_is : (c : Config) (m n : ℕ) (ys zs : List ℤ) → m ≡ n → ys ≡ zs → phase c m ys ≡ phase c n zs
phase_is c m n ys zs e g = λ i. phase c (e i) (g i)

next_phase : (c : Config) (m : ℕ) (ys : List ℤ) (z : ℤ) → kept_to (phase c m ys) z (next_part (later c.top.point m)) ≡ phase c (suc m) (ys ++ z ∷ [])
next_phase c m ys z =
    let e : c.top.point.part + m + 1 ≡ c.top.point.part + suc m = omega arith in
    λ i. record c { top = record c.top { point = record c.top.point { part = e i }; kept = ys ++ z ∷ [] } }

next_granted : (c : Config) (m : ℕ) (ys : List ℤ) → kept_on (phase c m ys) (next_part (later c.top.point m)) ≡ phase c (suc m) ys
next_granted c m ys =
    let e : c.top.point.part + m + 1 ≡ c.top.point.part + suc m = omega arith in
    λ i. record c { top = record c.top { point = record c.top.point { part = e i }; kept = ys } }

-- what is written does not depend on the point
moved_written : (c : Config) (p : Point) (ks : List ℤ) (xs : List Column) (zs : List ℤ) (q : Point) →
    moved_to (all_written (record c { top = record c.top { point = p; kept = ks } }) xs zs) q ≡ moved_to (all_written c xs zs) q
moved_written c p ks [] zs q = refl
moved_written c p ks (x ∷ xs) [] q = refl
moved_written c p ks (columns.Global n ∷ xs) (z ∷ zs) q = moved_written (written c (columns.Global n) z) p ks xs zs q
moved_written c p ks (columns.Old n ∷ xs) (z ∷ zs) q = moved_written c p ks xs zs q
moved_written c p ks (columns.Local n ∷ xs) (z ∷ zs) q = moved_written (written c (columns.Local n) z) p ks xs zs q

same_config : (c d : Config) → Went c ≡ Went d → c ≡ d
same_config c d e = cc

module _ (t : TypedProgram) (c : Config) (f : ℕ) (args : List TypedExpression) (k : IsKnownImport t c.top.proc c.top.point f args) (full : IsFull t c) (e : Config)
    (stuck : (m : ℕ) (ys : List ℤ) → 1 ≤ m → phase c m ys ≡ e → ⊥) where
  abbrev chosen : List Column
  chosen = chosen_columns k.procedure

  abbrev ensured : List TypedInvariant
  ensured = ensured_conditions k.procedure.specs

  abbrev targets : List Column
  targets = targets_at c.top.point.todo

  abbrev behind : Point
  behind = settled (past_first t.procs c.top.point.todo)

  abbrev part_action : ℕ → Option Column → Option TypedInvariant → Action
  part_action m o i = unseen_action o i f targets args (later c.top.point m) behind

  full_at : (m : ℕ) (ys : List ℤ) → IsFull t (phase c m ys)
  full_at m ys = record { globals = full.globals; locals = full.locals }

  keep_at : (m : ℕ) (x : Column) → slice_get chosen m ≡ Some x → action_at t c.top.proc (later c.top.point m) ≡ actions.Keep f args x (next_part (later c.top.point m))
  keep_at m x h = k.acts m ∙ ap (λ (o : Option Column). part_action m o (slice_get ensured (m - length chosen))) h

  none_chosen : (j : ℕ) → action_at t c.top.proc (later c.top.point (length chosen + j)) ≡ part_action (length chosen + j) None (slice_get ensured j)
  none_chosen j =
      let a : slice_get chosen (length chosen + j) ≡ None = get_past chosen (length chosen + j) (omega arith) in
      let b : (length chosen + j) - length chosen ≡ j = omega arith in
      k.acts (length chosen + j) ∙ ap (λ (o : Option Column). part_action (length chosen + j) o (slice_get ensured ((length chosen + j) - length chosen))) a
      ∙ ap (λ (m : ℕ). part_action (length chosen + j) None (slice_get ensured m)) b

  grant_at : (j : ℕ) (i : TypedInvariant) → slice_get ensured j ≡ Some i →
      action_at t c.top.proc (later c.top.point (length chosen + j)) ≡ actions.Grant f args i.cond (next_part (later c.top.point (length chosen + j)))
  grant_at j i h = none_chosen j ∙ ap (λ (o : Option TypedInvariant). part_action (length chosen + j) None o) h

  finish_at : action_at t c.top.proc (later c.top.point (length chosen + length ensured)) ≡ actions.Finish f args targets behind
  finish_at =
      let a : slice_get ensured (length ensured) ≡ None = get_past ensured (length ensured) (omega arith) in
      none_chosen (length ensured) ∙ ap (λ (o : Option TypedInvariant). part_action (length chosen + length ensured) None o) a

  abbrev written_base : List ℤ → Config
  written_base news = record (keeping c news) { globals = all_put c.globals (modifies_of (slice_get t.procs f)) news }

  finished_same : (m : ℕ) (news : List ℤ) → moved_to (finished t (phase c m news) f targets) behind ≡ moved_to (finished t (keeping c news) f targets) behind
  finished_same m news = moved_written (written_base news) (later c.top.point m) news targets (drop (length (modifies_of (slice_get t.procs f))) news) behind

  -- the values that the run keeps for these columns
  record KeptBack (cs : List Column) (m : ℕ) (ys : List ℤ) (choices : List (Option ℤ)) : Type 0 where
    kept : List ℤ
    taken : AreTakenBy t.globals (locals_at t f) cs kept
    rest : List (Option ℤ)
    count : length choices ≡ length cs + length rest
    goes : run t (phase c (m + length cs) (ys ++ kept)) rest ≡ Went e

  keeps_back : (cs : List Column) (m : ℕ) (ys : List ℤ) (choices : List (Option ℤ)) → ((n : ℕ) → slice_get chosen (m + n) ≡ slice_get cs n) → 1 ≤ m + length choices →
      run t (phase c m ys) choices ≡ Went e → KeptBack cs m ys choices
  keeps_back [] m ys choices stands some h =
      let none : m + 0 ≡ m = omega arith in
      record { kept = []; taken = tt; rest = choices; count = omega arith; goes = ap (λ (x : Config). run t x choices) (phase_is c (m + 0) m (ys ++ []) ys none (append_none ys)) ∙ h }
  keeps_back (x ∷ cs) m ys [] stands some h = absurd (stuck m ys (omega arith) (same_config (phase c m ys) e h))
  keeps_back (x ∷ cs) m ys (choice ∷ choices) stands some h =
      let none : m ≡ m + 0 = omega arith in
      let here : slice_get chosen m ≡ Some x = ap (slice_get chosen) none ∙ stands 0 in
      let r = taken_back t (phase c m ys) e choice choices (actions.Keep f args x (next_part (later c.top.point m))) (full_at m ys) (keep_at m x here) h in
      let more : (n : ℕ) → slice_get chosen (suc m + n) ≡ slice_get cs n = (λ n. let same : suc m + n ≡ m + suc n = omega arith in ap (slice_get chosen) same ∙ stands (suc n)) in
      by_choice choice (λ z g. keeps_back cs (suc m) (ys ++ z ∷ []) choices more (omega arith) g) r.0 r.1
    where
      by_choice : (choice : Option ℤ) → ((z : ℤ) → run t (phase c (suc m) (ys ++ z ∷ [])) choices ≡ Went e → KeptBack cs (suc m) (ys ++ z ∷ []) choices) → is_taken (need_of_column t.globals (locals_at t f) x) choice ≡ true →
          run t (kept_to (phase c m ys) (or_zero choice) (next_part (later c.top.point m))) choices ≡ Went e → KeptBack (x ∷ cs) m ys (choice ∷ choices)
      by_choice None again is g = absurd (none_taken t.globals (locals_at t f) x is)
      by_choice (Some z) again is g =
          let r : KeptBack cs (suc m) (ys ++ z ∷ []) choices = again z (ap (λ (x : Config). run t x choices) (sym (next_phase c m ys z)) ∙ g) in
          let counted : m + suc (length cs) ≡ suc m + length cs = omega arith in
          let count : length choices ≡ length cs + length r.rest = r.count in
          record {
            kept = z ∷ r.kept;
            taken = (is, r.taken);
            rest = r.rest;
            count = omega arith;
            goes = ap (λ (x : Config). run t x r.rest)
                (phase_is c (m + suc (length cs)) (suc m + length cs) (ys ++ z ∷ r.kept) ((ys ++ z ∷ []) ++ r.kept) counted (sym (append_assoc ys (z ∷ []) r.kept))) ∙ r.goes;
          }

  record GrantedBack (is : List TypedInvariant) (j : ℕ) (news : List ℤ) (choices : List (Option ℤ)) : Type 0 where
    granted : AllByRecursion (λ i. is_true (value (granted_state t (keeping c news) f args) i.cond) ≡ true) is
    rest : List (Option ℤ)
    count : length choices ≡ length is + length rest
    goes : run t (phase c (length chosen + (j + length is)) news) rest ≡ Went e

  grants_back : (is : List TypedInvariant) (j : ℕ) (news : List ℤ) (choices : List (Option ℤ)) → ((n : ℕ) → slice_get ensured (j + n) ≡ slice_get is n) → 1 ≤ length chosen + j + length choices →
      run t (phase c (length chosen + j) news) choices ≡ Went e → GrantedBack is j news choices
  grants_back [] j news choices stands some h =
      let same : length chosen + (j + 0) ≡ length chosen + j = omega arith in
      record { granted = tt; rest = choices; count = omega arith; goes = ap (λ (x : Config). run t x choices) (phase_is c (length chosen + (j + 0)) (length chosen + j) news news same refl) ∙ h }
  grants_back (i ∷ is) j news [] stands some h = absurd (stuck (length chosen + j) news (omega arith) (same_config (phase c (length chosen + j) news) e h))
  grants_back (i ∷ is) j news (choice ∷ choices) stands some h =
      let m : ℕ = length chosen + j in
      let none : j ≡ j + 0 = omega arith in
      let here : slice_get ensured j ≡ Some i = ap (slice_get ensured) none ∙ stands 0 in
      let r = taken_back t (phase c m news) e choice choices (actions.Grant f args i.cond (next_part (later c.top.point m))) (full_at m news) (grant_at j i here) h in
      let more : (n : ℕ) → slice_get ensured (suc j + n) ≡ slice_get is n = (λ n. let same : suc j + n ≡ j + suc n = omega arith in ap (slice_get ensured) same ∙ stands (suc n)) in
      by_truth (is_true (value (granted_state t (keeping c news) f args) i.cond)) (λ g. grants_back is (suc j) news choices more (omega arith) g) refl r.1
    where
      by_truth : (b : Bool) → (run t (phase c (length chosen + suc j) news) choices ≡ Went e → GrantedBack is (suc j) news choices) → is_true (value (granted_state t (keeping c news) f args) i.cond) ≡ b →
          then_goes_on (if b then Went (kept_on (phase c (length chosen + j) news) (next_part (later c.top.point (length chosen + j)))) else Blocked) (λ d. run t d choices) ≡ Went e →
          GrantedBack (i ∷ is) j news (choice ∷ choices)
      by_truth false again v g = absurd (cc)
      by_truth true again v g =
          let m : ℕ = length chosen + j in
          let next : length chosen + suc j ≡ suc m = omega arith in
          let r : GrantedBack is (suc j) news choices =
          again (ap (λ (x : Config). run t x choices) (phase_is c (length chosen + suc j) (suc m) news news next refl ∙ sym (next_granted c m news)) ∙ g) in
          let counted : length chosen + (j + suc (length is)) ≡ length chosen + (suc j + length is) = omega arith in
          let count : length choices ≡ length is + length r.rest = r.count in
          record {
            granted = (v, r.granted);
            rest = r.rest;
            count = omega arith;
            goes = ap (λ (x : Config). run t x r.rest) (phase_is c (length chosen + (j + suc (length is))) (length chosen + (suc j + length is)) news news counted refl) ∙ r.goes;
          }

  finish_back : (news : List ℤ) (choices : List (Option ℤ)) → 1 ≤ length chosen + length ensured + length choices → run t (phase c (length chosen + length ensured) news) choices ≡ Went e →
      (rest : List (Option ℤ)) × (length rest < length choices) × (run t (moved_to (finished t (keeping c news) f targets) behind) rest ≡ Went e)
  finish_back news [] some h = absurd (stuck (length chosen + length ensured) news (omega arith) (same_config (phase c (length chosen + length ensured) news) e h))
  finish_back news (choice ∷ choices) some h =
      let m : ℕ = length chosen + length ensured in
      let r = taken_back t (phase c m news) e choice choices (actions.Finish f args targets behind) (full_at m news) finish_at h in
      (choices, omega arith, ap (λ (x : Config). run t x choices) (sym (finished_same m news)) ∙ r.1)

-- the run goes through a whole call, and on from behind it in fewer steps
pub record GoesThrough (t : TypedProgram) (c e : Config) (choices : List (Option ℤ)) : Type 0 where
  pub after : Config
  pub import : IsImport t c after
  pub rest : List (Option ℤ)
  pub fewer : length rest < length choices
  pub goes : run t after rest ≡ Went e

pub goes_through : (t : TypedProgram) (c e : Config) (f : ℕ) (args : List TypedExpression) (choices : List (Option ℤ)) → IsGood t (IsPointOf t) c → IsKnownImport t c.top.proc c.top.point f args →
    ((m : ℕ) (ys : List ℤ) → 1 ≤ m → phase c m ys ≡ e → ⊥) → 1 ≤ length choices → run t c choices ≡ Went e → GoesThrough t c e choices
goes_through t c e f args choices g k stuck some h =
    let full : IsFull t c = full_of_good t (IsPointOf t) c g in
    let q : TypedProcedure = k.procedure in
    let columns_kept : List Column = chosen_columns q in
    let conditions : List TypedInvariant = ensured_conditions q.specs in
    let a = keeps_back t c f args k full e stuck columns_kept 0 [] choices (λ n. let z : 0 + n ≡ n = omega arith in ap (slice_get columns_kept) z) (omega arith)
    (ap (λ (x : Config). run t x choices) (first_phase c g.top.nothing_kept) ∙ h) in
    let a_count : length choices ≡ length columns_kept + length a.rest = a.count in
    let zero_parts : length columns_kept + 0 ≡ 0 + length columns_kept = omega arith in
    let b = grants_back t c f args k full e stuck conditions 0 a.kept a.rest (λ n. let z : 0 + n ≡ n = omega arith in ap (slice_get conditions) z) (omega arith)
    (ap (λ (m : ℕ). run t (phase c m a.kept) a.rest) zero_parts ∙ a.goes) in
    let b_count : length a.rest ≡ length conditions + length b.rest = b.count in
    let all_parts : length columns_kept + length conditions ≡ length columns_kept + (0 + length conditions) = omega arith in
    let r = finish_back t c f args k full e stuck a.kept b.rest (omega arith) (ap (λ (m : ℕ). run t (phase c m a.kept) b.rest) all_parts ∙ b.goes) in
    let own : locals_at t f ≡ q.locals = ap locals_if_any k.is in
    let taken : AreTakenBy t.globals q.locals columns_kept a.kept = subst (λ (ls : List VarInfo). AreTakenBy t.globals ls columns_kept a.kept) own a.taken in
    let p : AreParted t.globals q.locals q.modifies (results_from q.params q.results) a.kept = taken_parts t q.locals q.modifies (results_from q.params q.results) a.kept k.modified taken in
    let whole : IsImport t c (moved_to (finished t (keeping c a.kept) f (targets_at c.top.point.todo)) (settled (past_first t.procs c.top.point.todo))) = record {
      callee = f;
      args = args;
      known = k;
      held = p.held;
      held_typed = p.typed;
      results = p.rest;
      results_typed = taken_results t.globals q.locals q.params q.results p.rest k.enough p.taken;
      granted = subst (λ (zs : List ℤ). AllByRecursion (λ i. is_true (value (granted_state t (keeping c zs) f args) i.cond) ≡ true) conditions) {y = p.held ++ p.rest} p.parts b.granted;
      done = ap (λ (zs : List ℤ). moved_to (finished t (keeping c zs) f (targets_at c.top.point.todo)) (settled (past_first t.procs c.top.point.todo))) {y = p.held ++ p.rest} p.parts;
    } in
    let less : length r.0 < length b.rest = r.1 in
    record {
      after = moved_to (finished t (keeping c a.kept) f (targets_at c.top.point.todo)) (settled (past_first t.procs c.top.point.todo));
      import = whole;
      rest = r.0;
      fewer = omega arith;
      goes = r.2;
    }
