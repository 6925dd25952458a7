-- In a run of a valid program no step takes a default.
use Rattle.std.proofs.Common.{◌≡◌, ℕ, ◌+◌, ◌<◌, ℤ, Bool, true, false, nat_lt, IsTrue, IsSome, MatchBool, List, [], ◌∷◌, ◌++◌, length, length-append, drop, refl, ap, sym, ◌∙◌, subst, Option, Some, slice_get, arith}
use Rattle.std.specs.List.{AllByRecursion}
use Rattle.std.proofs.lemmas.List.{length-map, length-drop}
use Rattle.boogie_tree.specs.declared.tree.Column.{Column}
use Rattle.boogie_tree.specs.declared.tree.Column.TheVariants as columns
use Rattle.boogie_tree.specs.declared.tree.VarInfo.{VarInfo}
use Rattle.typed_tree.specs.Values.{State, value}
use Rattle.typed_tree.specs.TypedTree.{TypedExpression, TypedBlock, TypedProcedure, TypedProgram}
use Rattle.typed_tree.specs.TypingRules.ValidProgram.{is_valid}
use Rattle.boogie_run.specs.BoogiePoints.Actions as actions
use Rattle.boogie_run.specs.BoogiePoints.Actions.{Action, action_at}
use Rattle.boogie_run.specs.BoogiePoints.Starts.{targets_at}
use Rattle.boogie_run.specs.Configurations.{Frame, Config, state_of}
use Rattle.boogie_run.specs.Needs.{locals_at, locals_if_any}
use Rattle.boogie_run.specs.Steps.{Went, values, passed_state, granted_state, modifies_of, results_left, results_if_any, start}
use Rattle.boogie_run.specs.Runs.{run}
use Rattle.boogie_run.specs.RunDefaults.Reading.{Reads}
use Rattle.boogie_run.specs.RunDefaults.Acting.{CanWrite, IsVariable, Passes, Receives, HasChosen, Returns, ActsOnWhatIs}
use Rattle.boogie_run.specs.RunDefaults.Defaults.{AreComplete, NextIsThere, TakesNoDefault}
use Rattle.boogie_run.proofs.RunDefaults.Parts.{all_more, some_and, there, below_of, most_of}
use Rattle.boogie_run.proofs.RunDefaults.Columns.{ColumnIn, ReadsIn, reads, all_read}
use Rattle.boogie_run.proofs.RunDefaults.Lengths.{length-all_put}
use Rattle.boogie_run.proofs.RunDefaults.Valid.{modified, results_length}
use Rattle.boogie_run.proofs.RunDefaults.Actions.{CallKnown, IsDone, ActionKnown, targets_known}
use Rattle.boogie_run.proofs.RunDefaults.Runs.{Waits, Calling, Fits, top_known, reached_fits}

-- a column of so many globals and locals, in lists of these lengths
writes : (c : Config) (g l : ℕ) (x : Column) → length c.globals ≡ g → length c.top.locals ≡ l → ColumnIn g l x → CanWrite c x
writes c g l (columns.Global n) a b h = omega (arith, a, h)
writes c g l (columns.Old n) a b h = absurd h
writes c g l (columns.Local n) a b h = omega (arith, b, h)

is_variable : (gs ls : List VarInfo) (x : Column) → ColumnIn (length gs) (length ls) x → IsVariable gs ls x
is_variable gs ls (columns.Global n) h = there gs n h
is_variable gs ls (columns.Old n) h = absurd h
is_variable gs ls (columns.Local n) h = there ls n h

all_write : (c : Config) (g l : ℕ) (xs : List Column) → length c.globals ≡ g → length c.top.locals ≡ l → AllByRecursion (ColumnIn g l) xs → AllByRecursion (CanWrite c) xs
all_write c g l xs a b h = all_more (ColumnIn g l) (CanWrite c) xs (λ x w. writes c g l x a b w) h

by_test : (b : Bool) (P Q : Type 0) → (b ≡ true → P) → (b ≡ false → Q) → MatchBool b P Q
by_test true P Q h k = h refl
by_test false P Q h k = k refl

module _ (t : TypedProgram) (valid : IsTrue (is_valid t)) where
  -- how many locals a procedure has
  declared : (n : ℕ) (q : TypedProcedure) → slice_get t.procs n ≡ Some q → length (locals_at t n) ≡ length q.locals
  declared n q e = ap (λ (o : Option TypedProcedure). length (locals_if_any o)) e

  -- ---- calls without body

  chosen : (c : Config) (p : TypedProcedure) (f : ℕ) → slice_get t.procs f ≡ Some p → length c.globals ≡ length t.globals → IsDone p (length c.top.kept) → HasChosen c p
  chosen c p f e g done = (
    done,
    all_more (λ (m : ℕ). m < length t.globals) (λ (m : ℕ). m < length c.globals) p.modifies (λ m less. omega (arith, g, less)) (modified t valid f p e),
  )

  granted_locals : (s : State) (args : List TypedExpression) (kept : List ℤ) (ns : List ℕ) (p : TypedProcedure) → ns ≡ p.modifies → length args ≡ p.params → IsDone p (length kept) →
      length (values s args ++ drop (length ns) kept) ≡ p.params + p.results
  granted_locals s args kept ns p e count done =
      omega (arith, length-append (values s args) (drop (length ns) kept), length-map args (value s), length-drop (length ns) kept, ap length e, count, done)

  granted_reads : (c : Config) (f : ℕ) (args : List TypedExpression) (p : TypedProcedure) (e : TypedExpression) → slice_get t.procs f ≡ Some p → length args ≡ p.params →
      length c.globals ≡ length t.globals → IsDone p (length c.top.kept) → ReadsIn (length t.globals) (p.params + p.results) e → Reads (granted_state t c f args) e
  granted_reads c f args p e found count g done h =
      let ns : List ℕ = modifies_of (slice_get t.procs f) in
      let listed : ns ≡ p.modifies = ap modifies_of found in
      reads (granted_state t c f args) (length t.globals) (p.params + p.results) e h (omega (arith, g, length-all_put c.globals ns c.top.kept)) (omega (arith, g))
      (omega (arith, granted_locals (state_of c) args c.top.kept ns p listed count done))

  -- ---- returns

  results_there : (c : Config) (p : TypedProcedure) → slice_get t.procs c.top.proc ≡ Some p → length c.top.locals ≡ length (locals_at t c.top.proc) → length (results_left t c.top) ≡ p.results
  results_there c p e l =
      ap (λ (o : Option TypedProcedure). length (results_if_any o c.top.locals)) e
      ∙ results_length t valid c.top.proc p e c.top.locals (l ∙ declared c.top.proc p e)

  returns : (c : Config) (fs : List Frame) → Fits t valid c → AreComplete t c → AllByRecursion (Waits t valid) fs → Calling t valid c.top.proc fs → Returns t c fs
  returns c [] r full w k = tt
  returns c (f ∷ fs) r full w k =
      let p : TypedProcedure = r.top.procedure in
      let q : TypedProcedure = w.0.frame.procedure in
      let found : slice_get t.procs f.proc ≡ Some q = w.0.frame.found in
      let targets = targets_known t valid f.proc q w.0.frame.body found w.0.frame.has f.point.todo c.top.proc p w.0.frame.keeps.nested r.top.found k.0 in
      let d : Config = record { globals = c.globals; top = f; below = fs } in (
        k.0,
        some_and
            (λ (x : TypedProcedure). (length (results_left t c.top) ≡ x.results) × Receives d (targets_at f.point.todo) x)
            (slice_get t.procs c.top.proc) p r.top.found (
              results_there c p r.top.found full.locals,
              (targets.0, all_write d (length t.globals) (length q.locals) (targets_at f.point.todo) full.globals (w.0.locals ∙ declared f.proc q found) targets.1),
            ),
      )

  -- ---- actions

  module _ (c : Config) (r : Fits t valid c) (full : AreComplete t c) where
    locals_there : length c.top.locals ≡ length r.top.procedure.locals
    locals_there = full.locals ∙ declared c.top.proc r.top.procedure r.top.found

    read_here : (e : TypedExpression) → ReadsIn (length t.globals) (length r.top.procedure.locals) e → Reads (state_of c) e
    read_here e h =
        reads (state_of c) (length t.globals) (length r.top.procedure.locals) e h (omega (arith, full.globals)) (omega (arith, full.entry)) (omega (arith, locals_there))

    all_read_here : (es : List TypedExpression) → AllByRecursion (ReadsIn (length t.globals) (length r.top.procedure.locals)) es → AllByRecursion (Reads (state_of c)) es
    all_read_here es h =
        all_read (state_of c) (length t.globals) (length r.top.procedure.locals) es h (omega (arith, full.globals)) (omega (arith, full.entry)) (omega (arith, locals_there))

    all_write_here : (xs : List Column) → AllByRecursion (ColumnIn (length t.globals) (length r.top.procedure.locals)) xs → AllByRecursion (CanWrite c) xs
    all_write_here xs h = all_write c (length t.globals) (length r.top.procedure.locals) xs full.globals locals_there h

    passes : (f : ℕ) (args : List TypedExpression) (k : CallKnown t (length r.top.procedure.locals) f args) → Passes c args k.procedure
    passes f args k = (k.count, all_read_here args k.reads)

    demanded : (args : List TypedExpression) (e : TypedExpression) → ReadsIn (length t.globals) (length args) e → Reads (passed_state (state_of c) args) e
    demanded args e h =
        reads (passed_state (state_of c) args) (length t.globals) (length args) e h (omega (arith, full.globals)) (omega (arith, full.entry))
        (omega (arith, length-map args (value (state_of c))))

    acts : (a : Action) → ActionKnown t c.top.proc r.top.procedure r.top.body c.top.point a → ActsOnWhatIs t c a
    acts (actions.Check id at e p) h = read_here e h.0
    acts (actions.Suppose e p) h = read_here e h.0
    acts (actions.Demand id at e args p) h = (all_read_here args h.0, demanded args e h.1)
    acts (actions.Write cs es p) h = (h.0, all_write_here cs h.1, all_read_here es h.2)
    acts (actions.Guess x p) h = (
      writes c (length t.globals) (length r.top.procedure.locals) x full.globals locals_there h.0,
      subst (λ (ls : List VarInfo). IsVariable t.globals ls x) (sym (ap locals_if_any r.top.found)) (is_variable t.globals r.top.procedure.locals x h.0),
    )
    acts (actions.Test e hit miss) h = read_here e h.0
    acts (actions.Pick ways) h = h.0
    acts (actions.Jump p) h = tt
    acts (actions.Enter f args) h =
        let k : CallKnown t (length r.top.procedure.locals) f args = h.0 in
        some_and (λ (x : TypedProcedure). IsSome x.body × Passes c args x) (slice_get t.procs f) k.procedure k.found
        (subst (λ (o : Option TypedBlock). IsSome o) (sym h.2) refl, passes f args k)
    acts (actions.Keep f args x p) h =
        let k : CallKnown t (length r.top.procedure.locals) f args = h.0 in
        some_and (λ (y : TypedProcedure). Passes c args y × IsVariable t.globals y.locals x) (slice_get t.procs f) k.procedure k.found (passes f args k, h.1)
    acts (actions.Grant f args e p) h =
        let k : CallKnown t (length r.top.procedure.locals) f args = h.0 in
        let done : IsDone k.procedure (length c.top.kept) = (h.2 (length c.top.kept) r.top.keeps.kept).0 in
        some_and (λ (x : TypedProcedure). Passes c args x × HasChosen c x × Reads (granted_state t c f args) e) (slice_get t.procs f) k.procedure k.found
        (passes f args k, chosen c k.procedure f k.found full.globals done, granted_reads c f args k.procedure e k.found k.count full.globals done h.1)
    acts (actions.Finish f args targets p) h =
        let k : CallKnown t (length r.top.procedure.locals) f args = h.0 in
        let done : IsDone k.procedure (length c.top.kept) = h.1 (length c.top.kept) r.top.keeps.kept in
        some_and (λ (x : TypedProcedure). Passes c args x × HasChosen c x × Receives c targets x) (slice_get t.procs f) k.procedure k.found
        (passes f args k, chosen c k.procedure f k.found full.globals done, (h.2, all_write_here targets h.3))
    acts actions.Leave h = returns c c.below r full r.below r.calls

  -- ---- steps

  next_there : (c : Config) → Fits t valid c → NextIsThere t c
  next_there c r =
      by_test (nat_lt (length c.globals) (length t.globals)) _ _ (λ less. there t.globals (length c.globals) (below_of (length c.globals) (length t.globals) less))
      (λ enough_globals.
      by_test (nat_lt (length c.top.locals) (length (locals_at t c.top.proc))) _ _
      (λ less. there (locals_at t c.top.proc) (length c.top.locals) (below_of (length c.top.locals) (length (locals_at t c.top.proc)) less))
      (λ enough_locals.
      let globals = most_of (length c.globals) (length t.globals) enough_globals in
      let locals = most_of (length c.top.locals) (length (locals_at t c.top.proc)) enough_locals in
      let full : AreComplete t c =
      record { globals = omega (arith, globals, r.globals); entry = omega (arith, globals, r.globals, r.entry); locals = omega (arith, locals, r.locals) } in
      (full, acts c r full (action_at t c.top.proc c.top.point) (top_known t valid c r))))

  pub no_default_is_taken : (choices : List (Option ℤ)) (c : Config) → run t (start t) choices ≡ Went c → TakesNoDefault t c
  no_default_is_taken choices c e =
      let r = reached_fits t valid choices c e in
      record { procedure = r.top.procedure; body = r.top.body; found = r.top.found; has = r.top.has; stands = r.top.keeps.stands; next = next_there c r }
