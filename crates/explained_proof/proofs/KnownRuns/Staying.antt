-- What the frame that runs keeps where it moves on: its procedure, its entry, its parameters and the calls that are open.
use Rattle.std.proofs.Common.{◌≡◌, ◌∙◌, ◌⊎◌, ℕ, zero, suc, ◌<◌, ◌≤◌, true, false, ℤ, List, [], ◌∷◌, ◌++◌, length, take, drop, Option, None, Some, inl, inr, refl, sym, ap, subst, arith, IsTrue, if◌then◌else◌}
use Rattle.std.specs.Prelude.{slice_get, unsigned_abs}
use Rattle.std.specs.List.{AllByRecursion}
use Rattle.std.proofs.lemmas.Bool.{cases_lt, false≢true}
use Rattle.math_facts.specs.Optional.{or_zero}
use Rattle.boogie_tree.specs.declared.tree.Ty.{Ty}
use Rattle.boogie_tree.specs.declared.tree.Column.{Column}
use Rattle.boogie_tree.specs.declared.tree.Column.TheVariants as columns
use Rattle.boogie_tree.specs.declared.tree.VarInfo.{VarInfo}
use Rattle.typed_tree.specs.TypedTree.{TypedExpression, TypedProcedure, TypedProgram}
use Rattle.typed_tree.specs.Values.{value}
use Rattle.typed_tree.specs.TypingRules.ValidProgram.{is_valid}
use Rattle.typed_tree.specs.TypingRules.Rules.{results_of}
use Rattle.boogie_run.specs.BoogiePoints.Points.{Point, settled, past_first}
use Rattle.boogie_run.specs.BoogiePoints.Actions as actions
use Rattle.boogie_run.specs.BoogiePoints.Actions.{Action, action_at}
use Rattle.boogie_run.specs.BoogiePoints.Starts.{targets_at}
use Rattle.boogie_run.specs.Configurations.{Frame, Config, state_of}
use Rattle.boogie_run.specs.Needs.{locals_if_any}
use Rattle.boogie_run.specs.Steps.{Went, Blocked, Failed, act, put, written, all_written, moved_to, values, passed_state, is_true, all_put, modifies_of, left, results_left, entered}
use Rattle.lowered_graph.specs.LoweredSteps.Moves.{IsTarget, IsTypedAction, AreAssigned, AreTargets, HasParameters, Awaits, BelowIsGood, IsGood, IsMove, IsNoImport, filled}
use Rattle.lowered_graph.proofs.LoweredSteps.Places.{all_state_written}
use Rattle.lowered_graph.proofs.LoweredSteps.Writes.{all_written_is, IsWritten}
use Rattle.lowered_graph.proofs.LoweredSteps.Goodness.{done_is}
use Rattle.lowered_graph.proofs.LoweredSteps.Returns.{resumed}
use Rattle.lowered_graph.specs.LoweredImports.Imports.{IsImport, keeping}
use Rattle.lowered_graph.specs.LoweredImports.KnownPoints.{IsPointOf}
use Rattle.lowered_graph.proofs.LoweredImports.ValidParts.{has_parameters}
use Rattle.lowered_graph.proofs.LoweredImports.PointLaws.{knows_points}
use Rattle.lowered_graph.proofs.LoweredRuns.Taken.{went_if_true, went_way}
use Rattle.lowered_graph.proofs.LoweredRuns.Forward.{IsOwn, Follows, move_own}
use Rattle.explained_proof.specs.KnownRuns.Reached.{params_of}

-- how many parameters procedure n has
abbrev pub params : TypedProgram → ℕ → ℕ
params t n = params_of (slice_get t.procs n)

pub record Stays (t : TypedProgram) (c d : Config) : Type 0 where
  pub proc : d.top.proc ≡ c.top.proc
  pub entry : d.top.entry ≡ c.top.entry
  pub below : d.below ≡ c.below
  pub params : take (params_of (slice_get t.procs c.top.proc)) d.top.locals ≡ take (params_of (slice_get t.procs c.top.proc)) c.top.locals

pub moved_stays : (t : TypedProgram) (c : Config) (p : Point) → Stays t c (moved_to c p)
moved_stays t c p = record { proc = refl; entry = refl; below = refl; params = refl }

-- ---- writing behind the parameters

put_same : (k l : ℕ) (zs : List ℤ) (z : ℤ) → k ≤ l → take k (put zs l z) ≡ take k zs
put_same zero l zs z m = refl
put_same (suc k) l [] z m = refl
put_same (suc k) zero (x ∷ xs) z m = absurd (omega arith)
put_same (suc k) (suc l) (x ∷ xs) z m = ap (λ (ys : List ℤ). x ∷ ys) (put_same k l xs z (omega arith))

among_first : (vs : List VarInfo) (n l : ℕ) (v : VarInfo) → AllByRecursion (λ w. w.constant ≡ true) (take n vs) → slice_get vs l ≡ Some v → l < n → v.constant ≡ true
among_first [] n l v h e m = absurd (cc)
among_first (w ∷ ws) zero l v h e m = absurd (omega arith)
among_first (w ∷ ws) (suc n) zero v h e m = let i : w ≡ v = cc in ap (λ (x : VarInfo). x.constant) (sym i) ∙ h.0
among_first (w ∷ ws) (suc n) (suc l) v h e m = among_first ws n l v h.1 e (omega arith)

-- a column that may be written
abbrev IsTargetIn : TypedProgram → ℕ → Column → Type 0
IsTargetIn t n x = (ty : Ty) × IsTarget t n ty x

-- the action neither calls nor returns
abbrev pub IsSteady : Action → Type 0
IsSteady (actions.Enter f args) = ⊥
IsSteady (actions.Keep f args c next) = ⊥
IsSteady (actions.Grant f args e next) = ⊥
IsSteady (actions.Finish f args targets next) = ⊥
IsSteady actions.Leave = ⊥
IsSteady a = Unit {0}

module _ (t : TypedProgram) (valid : IsTrue (is_valid t)) where
  late_in : (n l : ℕ) (v : VarInfo) (o : Option TypedProcedure) → slice_get t.procs n ≡ o → slice_get (locals_if_any o) l ≡ Some v → v.constant ≡ false → params_of o ≤ l
  late_in n l v None e is varies = omega arith
  late_in n l v (Some q) e is varies =
      let h : HasParameters q = has_parameters t valid n q e in
      elim (cases_lt l q.params) [ inl less ↦ absurd (false≢true (sym varies ∙ among_first q.locals q.params l v h.constant is less)) | inr more ↦ more ]

  -- a local that is written is no parameter
  late : (n l : ℕ) (ty : Ty) → IsTarget t n ty (columns.Local l) → params t n ≤ l
  late n l ty h = late_in n l h.info (slice_get t.procs n) refl h.is h.varies

  all_params : (n : ℕ) (c : Config) (cs : List Column) (zs : List ℤ) → AllByRecursion (IsTargetIn t n) cs → take (params t n) (all_written c cs zs).top.locals ≡ take (params t n) c.top.locals
  all_params n c [] zs h = refl
  all_params n c (x ∷ xs) [] h = refl
  all_params n c (columns.Global g ∷ xs) (z ∷ zs) h = all_params n (written c (columns.Global g) z) xs zs h.1
  all_params n c (columns.Old g ∷ xs) (z ∷ zs) h = all_params n (written c (columns.Old g) z) xs zs h.1
  all_params n c (columns.Local l ∷ xs) (z ∷ zs) h = all_params n (written c (columns.Local l) z) xs zs h.1 ∙ put_same (params t n) l c.top.locals z (late n l h.0.0 h.0.1)

  written_stays : (c : Config) (cs : List Column) (zs : List ℤ) (p : Point) → AllByRecursion (IsTargetIn t c.top.proc) cs → Stays t c (moved_to (all_written c cs zs) p)
  written_stays c cs zs p h =
      let w : IsWritten c (all_written c cs zs) (all_state_written (state_of c) cs zs) = all_written_is c cs zs in
      record { proc = sym w.proc; entry = sym w.entry; below = sym w.below; params = all_params c.top.proc c cs zs h }

  assigned_targets : (n : ℕ) (cs : List Column) (es : List TypedExpression) → AreAssigned t n cs es → AllByRecursion (IsTargetIn t n) cs
  assigned_targets n [] es h = tt
  assigned_targets n (c ∷ cs) [] h = absurd h
  assigned_targets n (c ∷ cs) (e ∷ es) h = ((h.0.type, h.0.target), assigned_targets n cs es h.1)

  result_targets : (n : ℕ) (vs : List VarInfo) (cs : List Column) → AreTargets t n vs cs → AllByRecursion (IsTargetIn t n) cs
  result_targets n vs [] h = tt
  result_targets n [] (c ∷ cs) h = absurd h
  result_targets n (v ∷ vs) (c ∷ cs) h = ((v.ty, h.0), result_targets n vs cs h.1)

  -- ---- actions of the frame itself

  pub act_stays : (c mid : Config) (v : ℤ) (a : Action) → IsSteady a → IsTypedAction t c.top.proc a → act t c v a ≡ Went mid → Stays t c mid
  act_stays c mid v (actions.Check id at e next) steady typed went =
      let h = went_if_true (is_true (value (state_of c) e)) (moved_to c next) mid (Failed id) (λ x. cc) went in
      subst (Stays t c) h.same (moved_stays t c next)
  act_stays c mid v (actions.Suppose e next) steady typed went =
      let h = went_if_true (is_true (value (state_of c) e)) (moved_to c next) mid Blocked (λ x. cc) went in
      subst (Stays t c) h.same (moved_stays t c next)
  act_stays c mid v (actions.Demand id at e args next) steady typed went =
      let h = went_if_true (is_true (value (passed_state (state_of c) args) e)) (moved_to c next) mid (Failed id) (λ x. cc) went in
      subst (Stays t c) h.same (moved_stays t c next)
  act_stays c mid v (actions.Write cs es next) steady typed went =
      let same : moved_to (all_written c cs (values (state_of c) es)) next ≡ mid = cc in
      subst (Stays t c) same (written_stays c cs (values (state_of c) es) next (assigned_targets c.top.proc cs es typed))
  act_stays c mid v (actions.Guess x next) steady typed went =
      let same : moved_to (written c x v) next ≡ mid = cc in
      subst (Stays t c) same (written_stays c (x ∷ []) (v ∷ []) next (typed, tt))
  act_stays c mid v (actions.Test e hit miss) steady typed went =
      let same : moved_to c (if is_true (value (state_of c) e) then hit else miss) ≡ mid = cc in
      subst (Stays t c) same (moved_stays t c (if is_true (value (state_of c) e) then hit else miss))
  act_stays c mid v (actions.Pick ways) steady typed went =
      let h = went_way (slice_get ways (unsigned_abs v)) c mid went in
      subst (Stays t c) h.same (moved_stays t c h.way)
  act_stays c mid v (actions.Jump next) steady typed went =
      let same : moved_to c next ≡ mid = cc in
      subst (Stays t c) same (moved_stays t c next)
  act_stays c mid v (actions.Enter f args) steady typed went = absurd steady
  act_stays c mid v (actions.Keep f args x next) steady typed went = absurd steady
  act_stays c mid v (actions.Grant f args e next) steady typed went = absurd steady
  act_stays c mid v (actions.Finish f args targets next) steady typed went = absurd steady
  act_stays c mid v actions.Leave steady typed went = absurd steady

  -- a whole call without body
  pub import_stays : (c d : Config) → IsImport t c d → Stays t c d
  import_stays c d i =
      let x : Config = keeping c (i.held ++ i.results) in
      let base : Config = record x { globals = all_put c.globals (modifies_of (slice_get t.procs i.callee)) (i.held ++ i.results) } in
      let zs : List ℤ = drop (length (modifies_of (slice_get t.procs i.callee))) (i.held ++ i.results) in
      let s : Stays t base (moved_to (all_written base (targets_at c.top.point.todo) zs) (settled (past_first t.procs c.top.point.todo))) =
      written_stays base (targets_at c.top.point.todo) zs (settled (past_first t.procs c.top.point.todo)) (result_targets c.top.proc (results_of i.known.procedure) (targets_at c.top.point.todo) i.known.targets) in
      subst (Stays t c) (sym i.done) (record { proc = s.proc; entry = s.entry; below = s.below; params = s.params })

  -- ---- moves

  -- a return, from the frame below
  pub record Leaves (c d : Config) : Type 0 where
    pub waits : Frame
    pub rest : List Frame
    pub opened : c.below ≡ waits ∷ rest
    pub action : action_at t c.top.proc c.top.point ≡ actions.Leave
    pub back : Stays t (resumed c waits rest) d
    pub point : d.top.point ≡ settled (past_first t.procs waits.point.todo)

  -- an action of the frame itself
  pub record Acts (c d : Config) : Type 0 where
    pub choice : ℤ
    pub steady : IsSteady (action_at t c.top.proc c.top.point)
    pub went : act t c choice (action_at t c.top.proc c.top.point) ≡ Went d
    pub stays : Stays t c d

  -- a call of a procedure with a body
  pub record Enters (c d : Config) : Type 0 where
    pub callee : ℕ
    pub args : List TypedExpression
    pub more : List ℤ
    pub action : action_at t c.top.proc c.top.point ≡ actions.Enter callee args
    pub done : d ≡ filled (entered t c callee (values (state_of c) args)) more

  kind_of : (a : Action) → IsNoImport a → IsSteady a ⊎ (((f : ℕ) × (args : List TypedExpression) × (a ≡ actions.Enter f args)) ⊎ (a ≡ actions.Leave))
  kind_of (actions.Check id at e next) p = inl tt
  kind_of (actions.Suppose e next) p = inl tt
  kind_of (actions.Demand id at e args next) p = inl tt
  kind_of (actions.Write cs es next) p = inl tt
  kind_of (actions.Guess x next) p = inl tt
  kind_of (actions.Test e hit miss) p = inl tt
  kind_of (actions.Pick ways) p = inl tt
  kind_of (actions.Jump next) p = inl tt
  kind_of (actions.Enter f args) p = inr (inl (f, args, refl))
  kind_of (actions.Keep f args x next) p = absurd p
  kind_of (actions.Grant f args e next) p = absurd p
  kind_of (actions.Finish f args targets next) p = absurd p
  kind_of actions.Leave p = inr (inr refl)

  steady_own : (a : Action) → IsSteady a → IsOwn a
  steady_own (actions.Check id at e next) p = tt
  steady_own (actions.Suppose e next) p = tt
  steady_own (actions.Demand id at e args next) p = tt
  steady_own (actions.Write cs es next) p = tt
  steady_own (actions.Guess x next) p = tt
  steady_own (actions.Test e hit miss) p = tt
  steady_own (actions.Pick ways) p = tt
  steady_own (actions.Jump next) p = tt
  steady_own (actions.Enter f args) p = absurd p
  steady_own (actions.Keep f args x next) p = absurd p
  steady_own (actions.Grant f args e next) p = absurd p
  steady_own (actions.Finish f args targets next) p = absurd p
  steady_own actions.Leave p = absurd p

  leave_own : (a : Action) → a ≡ actions.Leave → IsOwn a
  leave_own a e = subst IsOwn (sym e) tt

  -- where no local is missing behind an action, the move is the action
  own_done : (c d : Config) (m : IsMove t c d) → IsGood t (IsPointOf t) c → IsOwn (action_at t c.top.proc c.top.point) → d ≡ m.mid
  own_done c d m g own =
      let f : Follows t (IsPointOf t) (knows_points t valid) c m.mid = move_own t (IsPointOf t) (knows_points t valid) c m.choice m.mid g own m.taken m.went in
      done_is t m.mid d m.more f.good.top.keeps.locals m.typed m.done

  left_back : (c mid : Config) (fs : List Frame) → action_at t c.top.proc c.top.point ≡ actions.Leave → c.below ≡ fs → BelowIsGood t (IsPointOf t) c.top fs → left t c fs ≡ Went mid → Leaves c mid
  left_back c mid [] leave opened g went = absurd (cc)
  left_back c mid (b ∷ rest) leave opened g went =
      let waits : Awaits t c.top b = g.1 in
      let next : Point = settled (past_first t.procs b.point.todo) in
      let s = written_stays (resumed c b rest) (targets_at b.point.todo) (results_left t c.top) next (result_targets b.proc (results_of waits.procedure) (targets_at b.point.todo) waits.targets) in
      let same : moved_to (all_written (resumed c b rest) (targets_at b.point.todo) (results_left t c.top)) next ≡ mid = cc in
      record { waits = b; rest = rest; opened = opened; action = leave; back = subst (Stays t (resumed c b rest)) same s; point = ap (λ (x : Config). x.top.point) (sym same) }

  pub kinds_of_moves : (c d : Config) → IsGood t (IsPointOf t) c → IsMove t c d → Acts c d ⊎ (Enters c d ⊎ Leaves c d)
  kinds_of_moves c d g m = elim (kind_of (action_at t c.top.proc c.top.point) m.plain) [
    | inl steady ↦ (let same : d ≡ m.mid = own_done c d m g (steady_own (action_at t c.top.proc c.top.point) steady) in
        let stays : Stays t c m.mid =
        act_stays c m.mid (or_zero m.choice) (action_at t c.top.proc c.top.point) steady ((knows_points t valid).typed c.top.proc c.top.point g.top.known) m.went in
        inl (record { choice = or_zero m.choice; steady = steady; went = m.went ∙ ap Went (sym same); stays = subst (Stays t c) (sym same) stays }))
    | inr (inl call) ↦ (let went : act t c (or_zero m.choice) (actions.Enter call.0 call.1) ≡ Went m.mid = subst (λ (a : Action). act t c (or_zero m.choice) a ≡ Went m.mid) call.2 m.went in
        let mid_is : m.mid ≡ entered t c call.0 (values (state_of c) call.1) = cc in
        inr (inl (record { callee = call.0; args = call.1; more = m.more; action = call.2; done = m.done ∙ ap (λ (x : Config). filled x m.more) mid_is })))
    | inr (inr leave) ↦ (let same : d ≡ m.mid = own_done c d m g (leave_own (action_at t c.top.proc c.top.point) leave) in
        let went : left t c c.below ≡ Went m.mid = subst (λ (a : Action). act t c (or_zero m.choice) a ≡ Went m.mid) leave m.went in
        inr (inr (subst (Leaves c) (sym same) (left_back c m.mid c.below leave refl g.below went))))
  ]
