-- Where a procedure was called and begins, what is told as its requires is true.
use Rattle.std.proofs.Common.{◌≡◌, ◌≢◌, ◌∙◌, inl, inr, ℕ, ℤ, Bool, true, false, List, [], ◌∷◌, ◌++◌, map, length, take, Option, None, Some, refl, sym, ap, IsTrue}
use Rattle.std.specs.Prelude.{◌||◌, nat_lt, slice_get}
use Rattle.std.specs.List.{list_any}
use Rattle.std.proofs.lemmas.Bool.{or_right}
use Rattle.nwa_base.specs.Members.{Member}
use Rattle.boogie_tree.specs.declared.tree.Column.{Column}
use Rattle.boogie_tree.specs.declared.tree.Column.TheVariants.{Global, Old, Local}
use Rattle.boogie_tree.specs.declared.tree.VarInfo.{VarInfo}
use Rattle.typed_tree.specs.TypedTree.{TypedProcedure, TypedProgram}
use Rattle.typed_tree.specs.Values.{State}
use Rattle.typed_tree.specs.Laws.{IsTruth}
use Rattle.typed_tree.specs.Scope.{Scope, requires_scope}
use Rattle.typed_tree.specs.TypingRules.ValidProgram.{is_valid}
use Rattle.boogie_run.specs.Configurations.{Config}
use Rattle.lin_rows.specs.Points.{point_of}
use Rattle.lowered_graph.specs.LoweredSteps.ProgramFrames.{shown}
use Rattle.lowered_graph.specs.Lowered.{lowered}
use Rattle.proof_form.specs.Annotations.{Content}
use Rattle.proof_names.specs.Outlines.{Sketch}
use Rattle.explained_proof.specs.KnownRuns.Reached.{at_entry}
use Rattle.explained_proof.specs.KnownRuns.Followed.{IsProofOf, Begins}
use Rattle.explained_proof.specs.KnownRuns.Laws.{IsEntered}
use Rattle.explained_proof.proofs.KnownRuns.Describing.{frames_are_entered}
use Rattle.explained_proof.specs.declared.row_expressions.scopes.Position.TheVariants.{Requires}
use Rattle.explained_proof.specs.RowExpressions.Scopes.{ClauseScope, entry_named, entry_column}
use Rattle.explained_proof.specs.FactExpressions.Worth.{IsAt}
use Rattle.explained_proof.specs.Clauses.{KnownProcedure, scope, required}
use Rattle.explained_proof.specs.Explained.{Told, entered, starts, called, entries, known_procedure}
use Rattle.explained_proof.specs.Worth.{is_known}
use Rattle.explained_proof.proofs.ReadingWorth.{values_are_readings}
use Rattle.explained_proof.proofs.ClauseWorth.{requirements_true}
use Rattle.explained_proof.specs.ExplainedRuns.Laws.{told, AreTrue, RequiresHold}
use Rattle.explained_proof.proofs.ExplainedRuns.Conditions.{OfColumns, required_are}
use Rattle.explained_proof.proofs.ExplainedRuns.Reading.{are_truths, meaning, worth_in, holds_in}
use Rattle.explained_proof.proofs.ExplainedRuns.Naming.{Means, names_mean}
use Rattle.explained_proof.proofs.ExplainedRuns.Saying.{Tells, has_columns, of_columns}
use Rattle.explained_proof.proofs.ExplainedRuns.Nodes.{any_member, known_if}
use Rattle.explained_proof.proofs.ExplainedRuns.Following.{member_called}
use Rattle.explained_proof.proofs.ExplainedRuns.Holding.{are_true, taken_seen, own_seen, frame_same, olds, names, now_state, then_state, then_keeps, values_of, typed_of, parameters, said}
use Rattle.explained_proof.proofs.ExplainedRuns.Beginning.{IsAtEntry, at_entry as entry_of}

-- ---- lists

any_behind : {X : Type 0} (f : X → Bool) (xs ys : List X) → list_any f ys ≡ true → list_any f (xs ++ ys) ≡ true
any_behind f [] ys h = h
any_behind f (x ∷ xs) ys h = or_right (f x) (list_any f (xs ++ ys)) (any_behind f xs ys h)

any_mapped : {X Y : Type 0} (f : Y → Bool) (g : X → Y) (xs : List X) → list_any (λ x. f (g x)) xs ≡ true → list_any f (map g xs) ≡ true
any_mapped f g xs h = sym (same f g xs) ∙ h
  where
    same : {X Y : Type 0} (f : Y → Bool) (g : X → Y) (xs : List X) → list_any (λ x. f (g x)) xs ≡ list_any f (map g xs)
    same f g [] = refl
    same f g (x ∷ xs) = ap (λ (b : Bool). f (g x) || b) (same f g xs)

module _ (t : TypedProgram) (a : Content) (s : Sketch) (valid : IsTrue (is_valid t)) (proof : IsProofOf t a s) (c : Config) (q : TypedProcedure) (at : slice_get t.procs c.top.proc ≡ Some q)
    (e : IsEntered t a s c) (called_so : c.top.proc ≢ t.entry) (same : c.globals ≡ c.top.entry) where
  abbrev d : Told
  d = told t a s

  abbrev known : KnownProcedure
  known = known_procedure d c.top.proc q

  abbrev then_is : State
  then_is = then_state t a s valid proof c q at e

  abbrev now_is : State
  now_is = now_state t a s valid proof c q at e

  abbrev point : ℕ → ℤ
  point = point_of (shown t then_is)

  abbrev sc : Scope
  sc = requires_scope t.globals (take q.params q.locals)

  abbrev here : ClauseScope
  here = scope known Requires false

  means : Means here sc
  means =
      names_mean t c.top.proc here (take q.params q.locals) false (frame_same t a s valid proof c q at e) (names t a s valid proof c q at e)
      (own_seen t c.top.proc q here (take q.params q.locals) at (taken_seen here q.locals q.params (λ n name. refl)))

  tells : Tells here now_is then_is
  tells = record {
    globals = same;
    old = refl;
    locals = λ k n v stands sees stays. parameters t a s valid proof c q at e n sees;
    entry = λ h. same;
  }

  entry_values : (n : ℕ) → point (entry_column here n) ≡ point n
  entry_values n = by (slice_get known.frame n) refl
    where
      by : (o : Option (Column × VarInfo)) → slice_get known.frame n ≡ o → point (entry_named n o) ≡ point n
      by None h = refl
      by (Some (Global g, v)) h = refl
      by (Some (Local l, v)) h = refl
      by (Some (Old g, v)) h =
          said t a s valid proof c q at e then_is g (Global g, v) (then_keeps t a s valid proof c q at e) (olds t a s valid proof c q at e n g v h)
          ∙ sym (said t a s valid proof c q at e then_is n (Old g, v) (then_keeps t a s valid proof c q at e) h)

  is_at : IsAt (worth_in sc now_is) (holds_in sc now_is) here point
  is_at = record {
    reading = values_are_readings (meaning sc) now_is;
    columns = has_columns here sc means (olds t a s valid proof c q at e) now_is then_is tells (shown t then_is) (values_of t a s valid proof c q at e then_is (then_keeps t a s valid proof c q at e))
        (typed_of t a s valid proof c q at e then_is (then_keeps t a s valid proof c q at e));
    entry = λ h n. entry_values n;
  }

  truths : OfColumns (λ x. IsTruth (worth_in sc now_is x)) here
  truths =
      of_columns here sc means (olds t a s valid proof c q at e) now_is then_is tells (shown t then_is) (values_of t a s valid proof c q at e then_is (then_keeps t a s valid proof c q at e))
      (typed_of t a s valid proof c q at e then_is (then_keeps t a s valid proof c q at e))

  -- the node at which the frame was entered is one of those that are told
  entered_known : list_any (λ x. is_known known.known point x.node) (entries d c.top.proc) ≡ true
  entered_known = by e.begins
    where
      known_here : is_known d.known point e.number ≡ true
      known_here = known_if (lowered t) a s proof.form proof.names proof.graph e.number e.node (at_entry t c e.locals) e.stands e.held

      by : Begins t c.top.proc e.number e.node → list_any (λ x. is_known known.known point x.node) (entries d c.top.proc) ≡ true
      by (inl b) = absurd (called_so b.0)
      by (inr b) =
          let p : ℕ = c.top.proc in
          let m : Member (called d p) e.number = member_called t a s p e.number e.node (at_entry t c e.locals) e.stands b e.held in
          let premise : Bool = nat_lt 0 (length (starts d p)) || nat_lt 1 (length (called d p)) in
          any_behind (λ x. is_known known.known point x.node) (map (entered false) (starts d p)) (map (entered premise) (called d p))
          (any_mapped (λ x. is_known known.known point x.node) (entered premise) (called d p) (any_member (is_known d.known point) (called d p) e.number m known_here))

  pub requires_are_true : AreTrue sc c (required known)
  requires_are_true =
      are_true sc c (required known) (requirements_true (worth_in sc now_is) (holds_in sc now_is) known point is_at entered_known)
      (required_are (λ x. IsTruth (worth_in sc now_is x)) (are_truths (meaning sc) now_is) known truths)

pub requires_hold : RequiresHold
requires_hold t a s c q valid proof begun at called_so =
    let b : IsAtEntry t c = entry_of t valid c begun in
    let e : IsEntered t a s c = frames_are_entered t a s c valid proof b.reached b.behind in
    requires_are_true t a s valid proof c q at e called_so b.entry
