-- A frame by itself, as a configuration of its part; and what a run keeps from which no assertion fails.
use Rattle.std.proofs.Common.{◌≡◌, inl, inr, ℕ, suc, ◌<◌, ℤ, true, List, [], ◌∷◌, Some, slice_get, IsTrue, refl, sym, ap, subst, ◌∙◌, arith}
use Rattle.std.proofs.lemmas.Bool.{cases_lt, false≢true}
use Rattle.boogie_tree.specs.declared.tree.Column.{Column}
use Rattle.boogie_tree.specs.declared.tree.Column.TheVariants as columns
use Rattle.typed_tree.specs.TypedTree.{TypedInvariant, TypedProcedure, TypedProgram}
use Rattle.typed_tree.specs.Values.{State, value}
use Rattle.typed_tree.specs.TypingRules.Rules.{is_member}
use Rattle.typed_tree.specs.TypingRules.ValidProgram.{is_valid}
use Rattle.boogie_run.specs.BoogiePoints.Points.{Point}
use Rattle.boogie_run.specs.BoogiePoints.Actions.{next_part}
use Rattle.boogie_run.specs.Configurations.{Frame, Config, state_of}
use Rattle.boogie_run.specs.Steps.{written, all_written, is_true}
use Rattle.lowered_graph.specs.LoweredSteps.Moves.{IsGood, IsMove}
use Rattle.lowered_graph.proofs.LoweredSteps.Places.{state_written, all_state_written}
use Rattle.lowered_graph.specs.LoweredImports.Imports.{IsImport}
use Rattle.lowered_graph.specs.LoweredImports.KnownPoints.{IsPointOf}
use Rattle.lowered_graph.proofs.LoweredImports.PointLaws.{knows_points}
use Rattle.lowered_graph.proofs.LoweredRuns.Breaks.{Breaks}
use Rattle.lowered_graph.proofs.LoweredRuns.Forward.{forward}
use Rattle.lowered_graph.proofs.LoweredRuns.Imports.{ImportsAreSteps}
use Rattle.lowered_graph.proofs.LoweredRuns.MachineLaws.{imports_are_steps}
use Rattle.modular_cut.proofs.SameActions.{claims, claim_state, GoesOn, Leaves, IsWithin}
use Rattle.modular_cut.proofs.ChosenGlobals.{DifferIn, put_elsewhere}

-- ---- a frame alone

-- at that point, with these constants and globals
abbrev pub alone : List ℤ → Frame → Point → Config
alone gs f p = record { globals = gs; top = record { proc = f.proc; locals = f.locals; entry = f.entry; point = p; kept = f.kept }; below = [] }

-- the configuration with the globals and locals of that state
abbrev pub changed : Config → State → Config
changed c s =
    record { globals = s.globals; top = record { proc = c.top.proc; locals = s.locals; entry = c.top.entry; point = c.top.point; kept = c.top.kept }; below = c.below }

pub written_changes : (c : Config) (cs : List Column) (zs : List ℤ) → all_written c cs zs ≡ changed c (all_state_written (state_of c) cs zs)
written_changes c [] zs = refl
written_changes c (x ∷ xs) [] = refl
written_changes c (columns.Global n ∷ xs) (z ∷ zs) = written_changes (written c (columns.Global n) z) xs zs
written_changes c (columns.Old n ∷ xs) (z ∷ zs) = written_changes c xs zs
written_changes c (columns.Local n ∷ xs) (z ∷ zs) = written_changes (written c (columns.Local n) z) xs zs

-- only what the procedure modifies is written
pub written_within : (q : TypedProcedure) (s : State) (cs : List Column) (zs : List ℤ) → IsWithin q cs → DifferIn q.modifies s.globals (all_state_written s cs zs).globals
written_within q s [] zs w m none = refl
written_within q s (x ∷ xs) [] w m none = refl
written_within q s (columns.Global n ∷ xs) (z ∷ zs) w m none =
    let other : m ≡ n → ⊥ = λ same. false≢true (sym none ∙ ap (λ (k : ℕ). is_member k q.modifies) same ∙ w.0) in
    written_within q (state_written s (columns.Global n) z) xs zs w.1 m none ∙ put_elsewhere s.globals n m z other
written_within q s (columns.Old n ∷ xs) (z ∷ zs) w m none = written_within q s xs zs w.1 m none
written_within q s (columns.Local n ∷ xs) (z ∷ zs) w m none = written_within q (state_written s (columns.Local n) z) xs zs w.1 m none

-- ---- what was shown at a point

-- the claims of the parts that are done are true
abbrev pub HeldAt : List TypedProcedure → TypedProcedure → Point → State → Type 0
HeldAt procs q p s = (j : ℕ) (i : TypedInvariant) → j < p.part → slice_get (claims procs q p) j ≡ Some i → is_true (value (claim_state p s) i.cond) ≡ true

pub none_held : (procs : List TypedProcedure) (q : TypedProcedure) (p : Point) (s : State) → p.part ≡ 0 → HeldAt procs q p s
none_held procs q p s z j i l found = absurd (omega arith)

pub held_on : (procs : List TypedProcedure) (q : TypedProcedure) (here p : Point) (v : State → ℤ) (s : State) → GoesOn procs q here p v → is_true (v s) ≡ true → HeldAt procs q here s → HeldAt procs q p s
held_on procs q here p v s (inl z) true_is h = none_held procs q p s z
held_on procs q here p v s (inr (e, same)) true_is h = subst (λ (x : Point). HeldAt procs q x s) (sym e) more
  where
    more : HeldAt procs q (next_part here) s
    more j i l found = elim (cases_lt j here.part) [
      | inl less ↦ h j i less found
      | inr most ↦ (let last : j ≡ here.part = omega arith in
          ap is_true (same i s (sym (ap (slice_get (claims procs q here)) last) ∙ found)) ∙ true_is)
    ]

pub held_left : (procs : List TypedProcedure) (q : TypedProcedure) (here p : Point) (s : State) → Leaves procs q here p → HeldAt procs q p s
held_left procs q here p s (inl z) = none_held procs q p s z
held_left procs q here p s (inr (e, none)) = subst (λ (x : Point). HeldAt procs q x s) (sym e) nothing
  where
    nothing : HeldAt procs q (next_part here) s
    nothing j i l found = let at_none : slice_get [] j ≡ Some i = sym (ap (λ (xs : List TypedInvariant). slice_get xs j) none) ∙ found in absurd (cc)

-- ---- runs in which no assertion fails

-- The configuration is one that a run keeps, and no moves lead to the failing of an assertion.
pub record Fine (u : TypedProgram) (c : Config) : Type 0 where
  pub good : IsGood u (IsPointOf u) c
  pub unbroken : (i k : ℕ) → Breaks u (IsImport u) i k c → ⊥

pub fine_move : (u : TypedProgram) (c d : Config) → IsTrue (is_valid u) → Fine u c → IsMove u c d → Fine u d
fine_move u c d valid f m = record {
  good = (forward u (IsPointOf u) (knows_points u valid) c d f.good m).good;
  unbroken = λ i k b. f.unbroken i (suc k) (d, inl m, b);
}

pub fine_import : (u : TypedProgram) (c d : Config) → IsTrue (is_valid u) → Fine u c → IsImport u c d → Fine u d
fine_import u c d valid f m =
    let steps : ImportsAreSteps u (IsPointOf u) (IsImport u) = imports_are_steps u valid in
    record { good = steps.good c d f.good m; unbroken = λ i k b. f.unbroken i (suc k) (d, inr m, b) }
