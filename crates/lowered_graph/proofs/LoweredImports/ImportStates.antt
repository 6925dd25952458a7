-- The configuration behind a call without body: what it shows, and that it keeps what configurations keep.
use Rattle.std.proofs.Common.{◌≡◌, ℕ, zero, suc, ◌+◌, ◌-◌, ℤ, List, [], ◌∷◌, ◌++◌, map, length, drop, Option, None, Some, refl, sym, ◌∙◌, ap, subst, arith}
use Rattle.std.specs.Prelude.{slice_get}
use Rattle.std.specs.List.{AllByRecursion}
use Rattle.boogie_tree.specs.declared.tree.Column.{Column}
use Rattle.boogie_tree.specs.declared.tree.Column.TheVariants as columns
use Rattle.boogie_tree.specs.declared.tree.VarInfo.{VarInfo}
use Rattle.typed_tree.specs.TypedTree.{TypedExpression, TypedInvariant, TypedProcedure, TypedProgram}
use Rattle.typed_tree.specs.Values.{State}
use Rattle.letter_acts.specs.Frames.{IsValue}
use Rattle.letter_acts.specs.Values.{put_all}
use Rattle.boogie_run.specs.BoogiePoints.Points.{Point, settled, past_first}
use Rattle.boogie_run.specs.BoogiePoints.Actions as actions
use Rattle.boogie_run.specs.BoogiePoints.Actions.{Action, action_at, unseen_action, called_action, chosen_columns, ensured_conditions}
use Rattle.boogie_run.specs.BoogiePoints.Starts.{targets_at}
use Rattle.boogie_run.specs.BoogiePlaces.Places.{onward}
use Rattle.boogie_run.specs.Configurations.{Config, state_of}
use Rattle.boogie_run.specs.Steps.{moved_to, all_written, all_put, modifies_of, finished}
use Rattle.lowered_graph.specs.LoweredSteps.ProgramFrames.{frame_at, shown}
use Rattle.lowered_graph.specs.LoweredSteps.Edges.{At, inside_edges, import_edges, numbers_in, local_count}
use Rattle.lowered_graph.specs.LoweredSteps.Stacks.{Stack}
use Rattle.lowered_graph.specs.LoweredSteps.Moves.{HasTypes, FrameKeeps, AreTargets, IsGood, KnowsPoints, shown_stack, shown_below}
use Rattle.typed_tree.specs.TypingRules.Rules.{results_of}
use Rattle.lowered_graph.proofs.LoweredSteps.Places.{all_state_written, all_written_shown, state_written}
use Rattle.lowered_graph.proofs.LoweredSteps.Writes.{AreTaken, keeps_all_written, taken_there, is_long, all_written_is, stack_of_written}
use Rattle.lowered_graph.proofs.LoweredSteps.Goodness.{below_moved, written_good}
use Rattle.lowered_graph.specs.LoweredImports.Imports.{IsModified, IsKnownImport, AreGlobalValues, later, keeping}
use Rattle.lowered_graph.proofs.LoweredImports.ImportLists.{number_of_global}

-- ---- the action of such a call

later_none : (p : Point) → later p 0 ≡ p
later_none p = let e : p.part + 0 ≡ p.part = omega arith in λ i. record p { part = e i }

-- what an action at a call without body is: its edges are those of the whole call, and it leads behind the call
pub record IsImportAction (t : TypedProgram) (n : ℕ) (p : Point) (f : ℕ) (args : List TypedExpression) (a : Action) : Type 0 where
  pub edges : inside_edges t n p a ≡ import_edges (frame_at t n) (local_count t n) t.globals (slice_get t.procs f) args (numbers_in (frame_at t n) (targets_at p.todo)) (settled (past_first t.procs p.todo))
  pub onward_is : onward t.procs p a ≡ settled (past_first t.procs p.todo) ∷ []
  pub no_entry : (g : ℕ) (es : List TypedExpression) → a ≡ actions.Enter g es → ⊥
  pub no_return : a ≡ actions.Leave → ⊥

unseen_is : (t : TypedProgram) (n : ℕ) (p : Point) (f : ℕ) (targets : List Column) (args : List TypedExpression) (here next : Point) (o : Option Column) (e : Option TypedInvariant) →
    IsImportAction t n p f args (unseen_action o e f targets args here next)
unseen_is t n p f targets args here next (Some x) e = record { edges = refl; onward_is = refl; no_entry = λ g es h. cc; no_return = λ h. cc }
unseen_is t n p f targets args here next None (Some i) = record { edges = refl; onward_is = refl; no_entry = λ g es h. cc; no_return = λ h. cc }
unseen_is t n p f targets args here next None None = record { edges = refl; onward_is = refl; no_entry = λ g es h. cc; no_return = λ h. cc }

pub import_action : (t : TypedProgram) (n : ℕ) (p : Point) (f : ℕ) (args : List TypedExpression) → (k : IsKnownImport t n p f args) → IsImportAction t n p f args (action_at t n p)
import_action t n p f args k =
    let q : TypedProcedure = k.procedure in
    let next : Point = settled (past_first t.procs p.todo) in
    let acts : action_at t n p ≡ called_action f q None (targets_at p.todo) args 0 (later p 0) next = ap (action_at t n) (sym (later_none p)) ∙ k.acts 0 in
    subst (IsImportAction t n p f args) (sym acts)
    (unseen_is t n p f (targets_at p.todo) args (later p 0) next (slice_get (chosen_columns q) 0) (slice_get (ensured_conditions q.specs) (0 - length (chosen_columns q))))

-- ---- the modified globals

-- the state with these globals changed
abbrev pub changed : State → List ℕ → List ℤ → State
changed s ns vs = record s { globals = all_put s.globals ns vs }

changed_is : (s : State) (ns : List ℕ) (vs : List ℤ) → all_state_written s (map columns.Global ns) vs ≡ changed s ns vs
changed_is s [] vs = refl
changed_is s (n ∷ ns) [] = refl
changed_is s (n ∷ ns) (v ∷ vs) = changed_is (state_written s (columns.Global n) v) ns vs

pub globals_numbers : (t : TypedProgram) (n : ℕ) (ns : List ℕ) → AllByRecursion (IsModified t) ns → numbers_in (frame_at t n) (map columns.Global ns) ≡ ns
globals_numbers t n [] h = refl
globals_numbers t n (m ∷ ms) h = λ i. number_of_global t n m h.0.info h.0.is i ∷ globals_numbers t n ms h.1 i

globals_taken : (t : TypedProgram) (n : ℕ) (ns : List ℕ) (vs : List ℤ) → AllByRecursion (IsModified t) ns → AreGlobalValues t.globals ns vs → AreTaken t n (map columns.Global ns) vs
globals_taken t n [] [] h k = tt
globals_taken t n [] (v ∷ vs) h k = absurd k
globals_taken t n (m ∷ ms) [] h k = absurd k
globals_taken t n (m ∷ ms) (v ∷ vs) h k =
    let same : k.0.0 ≡ h.0.info = (let a : slice_get t.globals m ≡ Some k.0.0 = k.0.1 in let b : slice_get t.globals m ≡ Some h.0.info = h.0.is in cc) in
    ((h.0.info.ty, record { info = h.0.info; is = h.0.is; type = refl; varies = h.0.varies }, subst (λ (w : VarInfo). IsValue w.ty v) same k.0.2), globals_taken t n ms vs h.1 k.1)

pub changed_keeps : (t : TypedProgram) (n : ℕ) (s : State) (ns : List ℕ) (vs : List ℤ) → FrameKeeps t n s → AllByRecursion (IsModified t) ns → AreGlobalValues t.globals ns vs → FrameKeeps t n (changed s ns vs)
changed_keeps t n s ns vs k h g = subst (FrameKeeps t n) (changed_is s ns vs) (keeps_all_written t n s (map columns.Global ns) vs k (globals_taken t n ns vs h g))

pub changed_shown : (t : TypedProgram) (n : ℕ) (s : State) (ns : List ℕ) (vs : List ℤ) → FrameKeeps t n s → AllByRecursion (IsModified t) ns → AreGlobalValues t.globals ns vs →
    put_all (shown t s) ns vs ≡ shown t (changed s ns vs)
changed_shown t n s ns vs k h g =
    ap (λ (ms : List ℕ). put_all (shown t s) ms vs) (sym (globals_numbers t n ns h))
    ∙ all_written_shown t n s (map columns.Global ns) vs (is_long t n s k) (taken_there t n (map columns.Global ns) vs (globals_taken t n ns vs h g))
    ∙ ap (shown t) (changed_is s ns vs)

pub global_values_length : (globals : List VarInfo) (ns : List ℕ) (vs : List ℤ) → AreGlobalValues globals ns vs → length vs ≡ length ns
global_values_length globals [] [] h = refl
global_values_length globals [] (v ∷ vs) h = absurd h
global_values_length globals (n ∷ ns) [] h = absurd h
global_values_length globals (n ∷ ns) (v ∷ vs) h = ap suc (global_values_length globals ns vs h.1)

-- ---- what was kept

pub put_kept : (zs : List ℤ) (ns : List ℕ) (vs more : List ℤ) → length vs ≡ length ns → all_put zs ns (vs ++ more) ≡ all_put zs ns vs
put_kept zs [] [] more e = put_none zs more
  where
    put_none : (zs more : List ℤ) → all_put zs [] more ≡ zs
    put_none zs more = refl
put_kept zs [] (v ∷ vs) more e = absurd (omega arith)
put_kept zs (n ∷ ns) [] more e = absurd (omega arith)
put_kept zs (n ∷ ns) (v ∷ vs) more e = put_kept (put_one zs n v) ns vs more (omega arith)
  where
    put_one : List ℤ → ℕ → ℤ → List ℤ
    put_one zs n v = all_put zs (n ∷ []) (v ∷ [])

pub drop_kept : (vs more : List ℤ) (n : ℕ) → length vs ≡ n → drop n (vs ++ more) ≡ more
drop_kept [] more zero e = refl
drop_kept [] more (suc n) e = absurd (omega arith)
drop_kept (v ∷ vs) more zero e = absurd (omega arith)
drop_kept (v ∷ vs) more (suc n) e = drop_kept vs more n (omega arith)

-- ---- behind the call

targets_taken : (t : TypedProgram) (n : ℕ) (vs : List VarInfo) (cs : List Column) (zs : List ℤ) → AreTargets t n vs cs → HasTypes vs zs → AreTaken t n cs zs
targets_taken t n [] [] [] a h = tt
targets_taken t n [] [] (z ∷ zs) a h = absurd h
targets_taken t n [] (c ∷ cs) zs a h = absurd a
targets_taken t n (v ∷ vs) [] zs a h = absurd a
targets_taken t n (v ∷ vs) (c ∷ cs) [] a h = absurd h
targets_taken t n (v ∷ vs) (c ∷ cs) (z ∷ zs) a h = ((v.ty, a.0, h.0), targets_taken t n vs cs zs a.1 h.1)

-- the configuration with the modified globals changed, before the targets are written
abbrev pub chosen : Config → List ℕ → List ℤ → List ℤ → Config
chosen c ns held results = record c { globals = all_put c.globals ns held; top = record c.top { kept = held ++ results } }

-- behind the whole call
abbrev pub behind : TypedProgram → Config → List ℕ → List ℤ → List ℤ → Config
behind t c ns held results = moved_to (all_written (chosen c ns held results) (targets_at c.top.point.todo) results) (settled (past_first t.procs c.top.point.todo))

pub finished_is : (t : TypedProgram) (c : Config) (f : ℕ) (q : TypedProcedure) (held results : List ℤ) → slice_get t.procs f ≡ Some q → length held ≡ length q.modifies →
    moved_to (finished t (keeping c (held ++ results)) f (targets_at c.top.point.todo)) (settled (past_first t.procs c.top.point.todo)) ≡ behind t c q.modifies held results
finished_is t c f q held results e l =
    let next : Point = settled (past_first t.procs c.top.point.todo) in
    let targets : List Column = targets_at c.top.point.todo in
    let put : all_put c.globals q.modifies (held ++ results) ≡ all_put c.globals q.modifies held = put_kept c.globals q.modifies held results l in
    let dropped : drop (length q.modifies) (held ++ results) ≡ results = drop_kept held results (length q.modifies) l in
    ap (λ (o : Option TypedProcedure). moved_to (all_written (record (keeping c (held ++ results)) { globals = all_put c.globals (modifies_of o) (held ++ results) }) targets
    (drop (length (modifies_of o)) (held ++ results))) next) e
    ∙ (λ i. moved_to (all_written (record (keeping c (held ++ results)) { globals = put i }) targets (dropped i)) next)

module _ (t : TypedProgram) (Known : ℕ → Point → Type 0) (know : KnowsPoints t Known) (c : Config) (f : ℕ) (args : List TypedExpression) (g : IsGood t Known c) (k : IsKnownImport t c.top.proc c.top.point f args)
    (held results : List ℤ) (held_typed : AreGlobalValues t.globals k.procedure.modifies held) (results_typed : HasTypes (results_of k.procedure) results) where
  chosen_keeps : FrameKeeps t c.top.proc (changed (state_of c) k.procedure.modifies held)
  chosen_keeps = changed_keeps t c.top.proc (state_of c) k.procedure.modifies held g.top.keeps k.modified held_typed

  chosen_taken : AreTaken t c.top.proc (targets_at c.top.point.todo) results
  chosen_taken = targets_taken t c.top.proc (results_of k.procedure) (targets_at c.top.point.todo) results k.targets results_typed

  pub behind_good : IsGood t Known (behind t c k.procedure.modifies held results)
  behind_good =
      let r : Config = chosen c k.procedure.modifies held results in
      let leads : AllByRecursion (Known c.top.proc) (settled (past_first t.procs c.top.point.todo) ∷ []) =
      subst (AllByRecursion (Known c.top.proc)) (import_action t c.top.proc c.top.point f args k).onward_is (know.onward c.top.proc c.top.point g.top.known) in
      written_good t Known r (targets_at c.top.point.todo) results (settled (past_first t.procs c.top.point.todo)) chosen_keeps
      (below_moved t Known c.top c.below c.top.point (held ++ results) g.below) chosen_taken leads.0

  -- the stack that it shows
  pub behind_shown : (let x : Stack = record {
    proc = c.top.proc;
    spot = At (settled (past_first t.procs c.top.point.todo));
    values = put_all (put_all (shown t (state_of c)) k.procedure.modifies held) (numbers_in (frame_at t c.top.proc) (targets_at c.top.point.todo)) results;
    below = shown_below t c.top.entry c.below;
  } in x) ≡ shown_stack t (behind t c k.procedure.modifies held results)
  behind_shown =
      let n : ℕ = c.top.proc in
      let r : Config = chosen c k.procedure.modifies held results in
      let targets : List Column = targets_at c.top.point.todo in
      let next : Point = settled (past_first t.procs c.top.point.todo) in
      let s : State = changed (state_of c) k.procedure.modifies held in
      let values : put_all (put_all (shown t (state_of c)) k.procedure.modifies held) (numbers_in (frame_at t n) targets) results ≡ shown t (all_state_written s targets results) =
      ap (λ (zs : List ℤ). put_all zs (numbers_in (frame_at t n) targets) results) (changed_shown t n (state_of c) k.procedure.modifies held g.top.keeps k.modified held_typed)
      ∙ all_written_shown t n s targets results (is_long t n s chosen_keeps) (taken_there t n targets results chosen_taken) in
      (λ i. record { proc = n; spot = At next; values = values i; below = shown_below t c.top.entry c.below })
      ∙ stack_of_written t r (all_written r targets results) (all_state_written s targets results) next (all_written_is r targets results)
