-- Returns: the ensures, one after another, and the return to the caller.
use Rattle.std.proofs.Common.{◌≡◌, ◌⊎◌, inl, inr, ℕ, suc, ◌+◌, ◌≤◌, ℤ, pos, Bool, true, false, List, [], ◌∷◌, take, drop, length, Option, None, refl, ap, sym, ◌∙◌, subst, arith}
use Rattle.boogie_tree.specs.declared.tree.Column.{Column}
use Rattle.typed_tree.specs.TypedTree.{TypedInvariant, TypedBlock, TypedProcedure, TypedProgram}
use Rattle.typed_tree.specs.TypingRules.Counts.{block_assertions, plain_invariants}
use Rattle.boogie_run.specs.BoogiePoints.Points.{Todo, Point, at_exit, settled, past_first}
use Rattle.boogie_run.specs.BoogiePoints.Actions.{Leave, next_part, checked, ensured_conditions, exit_action, first_assertion}
use Rattle.boogie_run.specs.BoogiePoints.Starts.{targets_at}
use Rattle.boogie_run.specs.Configurations.{Frame, Config, state_of}
use Rattle.boogie_run.specs.Needs.{need}
use Rattle.boogie_run.specs.Steps.{Went, Ended, Failed, moved_to, all_written, results_left, left, act, step}
use Rattle.boogie_run.specs.Runs.{run}
use Rattle.boogie_run.specs.RunRules.Moments.{OpenBlock, Activation, Moment, with_values}
use Rattle.boogie_run.specs.RunRules.Conditions.{AreMet, Breaks}
use Rattle.boogie_run.specs.RunRules.Steps.{procedure_numbered, statements_of, BlocksLead, FailsBy}
use Rattle.boogie_run.specs.RunRules.Ties.Mirrors.{pendings, moment_of, HasBody, IsFull, Waits, WaitAll, Mirrors}
use Rattle.boogie_run.specs.RunRules.Ties.Stretches.{outcome_of, ConditionsFollow, FailsFrom, Reaches}
use Rattle.boogie_run.specs.RunRules.Ties.Scenes.{ReachesMirror, GoesOnWhere, ReturnAgrees}
use Rattle.boogie_run.proofs.RunRules.Stretches.{nothing_taken, reaches_more, one_step, step_sound, outcome_sound, conditions_met, conditions_break, conditions_sound_most}
use Rattle.boogie_run.proofs.RunRules.Scenes.{exit_point, procedure_there, exit_action_at, exit_need, exit_step}
use Rattle.boogie_run.proofs.RunRules.Writing.{written_mirrors}
use Rattle.boogie_run.proofs.RunRules.Calls.{statements_are, none_at_end}

-- ---- the ensures

-- what becomes of a condition that is checked
checked_outcome : (t : TypedProgram) (c : Config) (i : TypedInvariant) (free : Bool) (id m : ℕ) (next : Point) → i.free ≡ free → id ≡ m →
    act t c (pos 0) (checked free id i.span i.cond next) ≡ outcome_of (state_of c) i m (moved_to c next)
checked_outcome t c i true id m next e same = rw e
checked_outcome t c i false id m next e same = rw (e, same)

-- The ensures are next, one after another.
ensures_here : (t : TypedProgram) (v : Config) (full : IsFull t v) →
    ConditionsFollow t (λ k. moved_to v (exit_point k)) (state_of v) (ensured_conditions full.body.procedure.specs)
    (first_assertion t.procs v.top.proc + block_assertions t.procs full.body.body)
ensures_here t v full k i e =
    let is : List TypedInvariant = ensured_conditions full.body.procedure.specs in
    let first : ℕ = first_assertion t.procs v.top.proc in
    let count : ℕ = block_assertions t.procs full.body.body in
    let past : ℕ = plain_invariants (take k is) in
    let c : Config = moved_to v (exit_point k) in
    let acts : exit_action_at t v.top.proc full.body k ≡ checked i.free (first + (count + past)) i.span i.cond (next_part (exit_point k)) =
    ap (λ (o : Option TypedInvariant). exit_action o (first + (count + past)) (exit_point k)) e in (
      exit_step t v k full ∙ ap (act t c (pos 0)) acts
          ∙ checked_outcome t c i i.free (first + (count + past)) (first + count + past) (next_part (exit_point k)) refl (omega arith),
      λ choice h. nothing_taken (need t c) choice (exit_need t v k full) h,
    )

-- the ensures of the procedure that runs, and the number of the first, as the rules have them
abbrev ensures_of : TypedProgram → Config → List TypedInvariant
ensures_of t v = ensured_conditions (procedure_numbered t v.top.proc).specs

abbrev first_ensured : TypedProgram → Config → ℕ
first_ensured t v = first_assertion t.procs v.top.proc + block_assertions t.procs (statements_of (procedure_numbered t v.top.proc))

-- The same of the ensures as the rules have them.
ensures_follow : (t : TypedProgram) (v : Config) (full : IsFull t v) →
    ConditionsFollow t (λ k. moved_to v (exit_point k)) (state_of v) (ensures_of t v) (first_ensured t v)
ensures_follow t v full =
    subst (λ (b : TypedBlock). ConditionsFollow t (λ k. moved_to v (exit_point k)) (state_of v) (ensures_of t v) (first_assertion t.procs v.top.proc + block_assertions t.procs b))
    (sym (statements_are t v.top.proc full.body))
    (subst (λ (q : TypedProcedure). ConditionsFollow t (λ k. moved_to v (exit_point k)) (state_of v) (ensured_conditions q.specs)
    (first_assertion t.procs v.top.proc + block_assertions t.procs full.body.body)) (sym (procedure_there t v.top.proc full.body)) (ensures_here t v full))

-- ---- the return

-- behind the ensures
abbrev last_at : TypedProgram → Config → Config
last_at t v = moved_to v (exit_point (length (ensures_of t v)))

-- there the procedure is left
leave_step : (t : TypedProgram) (v : Config) (full : IsFull t v) → step t (last_at t v) None ≡ left t (last_at t v) v.below
leave_step t v full =
    let is : List TypedInvariant = ensured_conditions full.body.procedure.specs in
    let k : ℕ = length (ensures_of t v) in
    let same : length is ≡ k = ap (λ (q : TypedProcedure). length (ensured_conditions q.specs)) (sym (procedure_there t v.top.proc full.body)) in
    let acts : exit_action_at t v.top.proc full.body k ≡ Leave =
    ap (λ (o : Option TypedInvariant). exit_action o (first_assertion t.procs v.top.proc + (block_assertions t.procs full.body.body + plain_invariants (take k is))) (exit_point k))
    (none_at_end is k (omega arith)) in
    exit_step t v k full ∙ ap (act t (last_at t v) (pos 0)) acts

-- the caller with its columns
abbrev caller_of : Config → Frame → List Frame → Config
caller_of v f fs = record { globals = v.globals; top = f; below = fs }

-- the caller goes on with the results
abbrev returned_to : TypedProgram → Config → Frame → List Frame → Config
returned_to t v f fs = moved_to (all_written (caller_of v f fs) (targets_at f.point.todo) (results_left t v.top)) (settled (past_first t.procs f.point.todo))

-- the results that the machine and the rules find
results_are : (t : TypedProgram) (v : Config) → HasBody t v.top.proc →
    results_left t v.top ≡ take (procedure_numbered t v.top.proc).results (drop (procedure_numbered t v.top.proc).params v.top.locals)
results_are t v h = rw h.there

-- An activation whose parts are these.
same_activation : (proc : ℕ) (locals entry : List ℤ) (ps : List OpenBlock) (a : Activation) → proc ≡ a.proc → locals ≡ a.locals → entry ≡ a.entry → ps ≡ a.pending →
    record { proc = proc; locals = locals; entry = entry; pending = ps; targets = a.targets } ≡ a
same_activation proc locals entry ps a p l e q = rw (p, l, e, q)

-- the moment behind a return
abbrev behind_return : TypedProgram → Config → List Column → Activation → List Activation → Moment
behind_return t v targets a more =
    with_values (record { globals = v.globals; top = a; below = more }) targets
    (take (procedure_numbered t v.top.proc).results (drop (procedure_numbered t v.top.proc).params v.top.locals))

-- the caller that waits is the activation of the moment
caller_moment : (t : TypedProgram) (v : Config) (f : Frame) (fs : List Frame) (targets : List Column) (a : Activation) (more : List Activation) → Waits t f targets a →
    moment_of (caller_of v f fs) a.targets more (pendings (past_first t.procs f.point.todo)) ≡ record { globals = v.globals; top = a; below = more }
caller_moment t v f fs targets a more waits =
    ap (λ (x : Activation). record { globals = v.globals; top = x; below = more })
    (same_activation f.proc f.locals f.entry (pendings (past_first t.procs f.point.todo)) a waits.proc waits.locals waits.entry waits.pending)

-- behind a return the moment is mirrored
returned_mirrors : (t : TypedProgram) (v : Config) (f : Frame) (fs : List Frame) (targets : List Column) (a : Activation) (more : List Activation) → IsFull t v →
    Waits t f targets a → WaitAll t fs a.targets more → Mirrors t (returned_to t v f fs) (behind_return t v targets a more)
returned_mirrors t v f fs targets a more full waits rest =
    let todo : List Todo = past_first t.procs f.point.todo in
    let caller_full : IsFull t (caller_of v f fs) = record { all_globals = full.all_globals; all_locals = waits.all_locals; body = waits.body } in
    let mirrors = written_mirrors t (caller_of v f fs) a.targets more todo (targets_at f.point.todo) (results_left t v.top) rest caller_full in
    let same : with_values (moment_of (caller_of v f fs) a.targets more (pendings todo)) (targets_at f.point.todo) (results_left t v.top) ≡ behind_return t v targets a more =
    ap (λ (m : Moment). with_values m (targets_at f.point.todo) (results_left t v.top)) (caller_moment t v f fs targets a more waits)
    ∙ ap (λ (cs : List Column). with_values (record { globals = v.globals; top = a; below = more }) cs (results_left t v.top)) waits.targets_are
    ∙ ap (with_values (record { globals = v.globals; top = a; below = more }) targets) (results_are t v full.body) in
    subst (Mirrors t (returned_to t v f fs)) same mirrors

-- ---- a return agrees

-- where the rules lead the machine goes
return_leads : (t : TypedProgram) (v : Config) (fs : List Frame) (targets : List Column) (below : List Activation) → v.below ≡ fs → WaitAll t fs targets below → IsFull t v →
    (d : Moment) → BlocksLead t (moment_of v targets below []) [] d → ReachesMirror t (moved_to v at_exit) d
return_leads t v [] targets [] e waits full d goes = absurd goes
return_leads t v [] targets (a ∷ more) e waits full d goes = absurd waits
return_leads t v (f ∷ fs) targets [] e waits full d goes = absurd waits
return_leads t v (f ∷ fs) targets (a ∷ more) e waits full d goes =
    let asked : Reaches t (moved_to v at_exit) (last_at t v) =
    conditions_met t (λ k. moved_to v (exit_point k)) (state_of v) (ensures_of t v) (first_ensured t v) (ensures_follow t v full) goes.0 in
    let leaves : step t (last_at t v) None ≡ Went (returned_to t v f fs) = leave_step t v full ∙ ap (left t (last_at t v)) e in (
      returned_to t v f fs,
      reaches_more t (moved_to v at_exit) (last_at t v) (returned_to t v f fs) asked (one_step t (last_at t v) (returned_to t v f fs) None leaves),
      subst (Mirrors t (returned_to t v f fs)) (sym goes.1) (returned_mirrors t v f fs targets a more full waits.0 waits.1),
    )

-- a failed run behind the ensures goes on at the caller; the first frame only ends
last_sound : (t : TypedProgram) (v : Config) (fs : List Frame) (targets : List Column) (below : List Activation) → v.below ≡ fs → WaitAll t fs targets below → IsFull t v →
    (n bound : ℕ) → AreMet (state_of v) (ensures_of t v) → FailsFrom t (last_at t v) n (suc bound) → GoesOnWhere t (BlocksLead t (moment_of v targets below []) []) n bound
last_sound t v [] targets [] e waits full n bound met fails =
    ended (outcome_sound t (last_at t v) Ended fails.choices n bound (exit_need t v (length (ensures_of t v)) full) (leave_step t v full ∙ ap (left t (last_at t v)) e) fails.most fails.fails)
  where
    ended : ((Ended ≡ Failed n) ⊎ ((d : Config) × (Ended ≡ Went d) × FailsFrom t d n bound)) → GoesOnWhere t (BlocksLead t (moment_of v targets [] []) []) n bound
    ended (inl h) = absurd (cc)
    ended (inr h) = let h : Ended ≡ Went h.0 = h.1 in absurd (cc)
last_sound t v [] targets (a ∷ more) e waits full n bound met fails = absurd waits
last_sound t v (f ∷ fs) targets [] e waits full n bound met fails = absurd waits
last_sound t v (f ∷ fs) targets (a ∷ more) e waits full n bound met fails =
    record {
      moment = behind_return t v targets a more;
      config = returned_to t v f fs;
      leads = (met, refl);
      mirrors = returned_mirrors t v f fs targets a more full waits.0 waits.1;
      fails =
          step_sound t (last_at t v) (returned_to t v f fs) fails.choices n bound (exit_need t v (length (ensures_of t v)) full)
          (leave_step t v full ∙ ap (left t (last_at t v)) e) fails.most fails.fails;
    }

-- where the machine fails the rules fail, or lead to where it goes on
return_sound : (t : TypedProgram) (v : Config) (targets : List Column) (below : List Activation) → WaitAll t v.below targets below → IsFull t v →
    (n bound : ℕ) (choices : List (Option ℤ)) → length choices ≤ suc bound → run t (moved_to v at_exit) choices ≡ Failed n →
    FailsBy t (moment_of v targets below []) [] n ⊎ GoesOnWhere t (BlocksLead t (moment_of v targets below []) []) n bound
return_sound t v targets below waits full n bound choices most fails =
    by_ensures
    (conditions_sound_most t (λ k. moved_to v (exit_point k)) (state_of v) (ensures_of t v) (first_ensured t v) choices n (suc bound) (ensures_follow t v full) most fails)
  where
    by_ensures : (Breaks (state_of v) (ensures_of t v) (first_ensured t v) n ⊎ (AreMet (state_of v) (ensures_of t v) × FailsFrom t (last_at t v) n (suc bound))) →
        FailsBy t (moment_of v targets below []) [] n ⊎ GoesOnWhere t (BlocksLead t (moment_of v targets below []) []) n bound
    by_ensures (inl breaks) = inl breaks
    by_ensures (inr goes) = inr (last_sound t v v.below targets below refl waits full n bound goes.0 goes.1)

-- A return agrees.
pub returns : (t : TypedProgram) (v : Config) (targets : List Column) (below : List Activation) → WaitAll t v.below targets below → IsFull t v → ReturnAgrees t v targets below
returns t v targets below waits full =
    record {
      sound = return_sound t v targets below waits full;
      leads = return_leads t v v.below targets below refl waits full;
      fails = λ n breaks. conditions_break t (λ k. moved_to v (exit_point k)) (state_of v) (ensures_of t v) (first_ensured t v) n (ensures_follow t v full) breaks;
    }
