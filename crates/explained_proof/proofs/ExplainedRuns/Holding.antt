-- Where a run comes to, the clauses that are told hold.
use Rattle.std.proofs.Common.{◌≡◌, ◌≢◌, ◌∙◌, ℕ, zero, suc, ◌+◌, ◌<◌, ℤ, Bool, true, false, not, List, [], ◌∷◌, map, take, Option, Some, refl, sym, ap, subst, arith, IsTrue}
use Rattle.std.specs.Prelude.{nat_lt, if◌then◌else◌, slice_get, unwrap_or}
use Rattle.std.specs.List.{list_all, AllByRecursion}
use Rattle.std.proofs.lemmas.Bool.{false≢true, and_parts, ltb-true, lt-ltb}
use Rattle.std.proofs.lemmas.Option.{same_Some}
use Rattle.boogie_tree.specs.declared.tree.Column.{Column}
use Rattle.boogie_tree.specs.declared.tree.Column.TheVariants.{Global, Old, Local}
use Rattle.boogie_tree.specs.declared.tree.VarInfo.{VarInfo}
use Rattle.boogie_tree.specs.Tree.{Expression}
use Rattle.typed_tree.specs.TypedTree.{TypedProcedure, TypedProgram}
use Rattle.typed_tree.specs.Values.{State, member, column_value, value}
use Rattle.typed_tree.specs.Values as values
use Rattle.typed_tree.specs.Laws.{IsTruth}
use Rattle.typed_tree.specs.Scope.{Scope, body_scope}
use Rattle.typed_tree.specs.TypingRules.ValidProgram.{is_valid}
use Rattle.boogie_run.specs.BoogiePoints.Points.{Stage, Start, Exit}
use Rattle.boogie_run.specs.Configurations.{Config, state_of}
use Rattle.boogie_run.specs.Needs.{locals_if_any, locals_at}
use Rattle.lin_rows.specs.Points.{point_of}
use Rattle.letter_acts.specs.Frames.{Columns, IsFrame, IsState}
use Rattle.letter_acts.specs.Invariant.{HasNames}
use Rattle.letter_acts.proofs.KnownLemmas.{frames_laid_out}
use Rattle.triple_rows.proofs.ListLaws.{something_at}
use Rattle.lowered_graph.specs.LoweredSteps.ProgramFrames.{frame_at, shown}
use Rattle.lowered_graph.specs.LoweredSteps.Moves.{FrameKeeps}
use Rattle.lowered_graph.proofs.LoweredSteps.FrameColumns.{HaveValues, value_at, global_of_frame, shown_state, shown_values}
use Rattle.lowered_graph.specs.Lowered.{lowered}
use Rattle.lowered_graph.proofs.Alphabet.{frame_is, proc_exists}
use Rattle.proof_form.specs.Annotations.{Content}
use Rattle.proof_names.specs.Outlines.{Sketch}
use Rattle.explained_proof.specs.KnownRuns.Reached.{IsReached, params_of}
use Rattle.explained_proof.specs.KnownRuns.Followed.{IsProofOf}
use Rattle.explained_proof.specs.KnownRuns.Laws.{IsEntered}
use Rattle.explained_proof.proofs.KnownRuns.Describing.{frames_are_entered}
use Rattle.explained_proof.specs.declared.row_expressions.scopes.Position.{Position}
use Rattle.explained_proof.specs.declared.row_expressions.scopes.Position.TheVariants.{Ensures, Body}
use Rattle.explained_proof.specs.RowExpressions.Scopes.{ClauseScope, is_hidden_name, sees, is_requires}
use Rattle.explained_proof.specs.Clauses.{KnownProcedure, scope, holding}
use Rattle.explained_proof.specs.Explained.{known_procedure}
use Rattle.explained_proof.specs.Worth as worths
use Rattle.explained_proof.specs.Worth.{is_kept, IsEntryOf}
use Rattle.explained_proof.proofs.FrameWorth.{olds_of_globals}
use Rattle.explained_proof.proofs.KnownWorth.{known_is_shallow}
use Rattle.explained_proof.proofs.ReadingWorth.{values_are_readings}
use Rattle.explained_proof.proofs.ClauseWorth.{clauses_true}
use Rattle.explained_proof.specs.ExplainedRuns.Laws.{told, AreTrue, place_at, text_local, text_locals, BodiesHold, EnsuresHold}
use Rattle.explained_proof.proofs.ExplainedRuns.Conditions.{OfColumns, holding_are}
use Rattle.explained_proof.proofs.ExplainedRuns.Reading.{are_truths, one_is, meaning, worth_in, holds_in, named_worth}
use Rattle.explained_proof.proofs.ExplainedRuns.Naming.{all_at, IsSeen, Means, names_mean}
use Rattle.explained_proof.proofs.ExplainedRuns.Saying.{Tells, has_columns, of_columns}
use Rattle.explained_proof.proofs.ExplainedRuns.Following.{all_follow}

-- ---- clauses that hold are true

pub are_true : (sc : Scope) (c : Config) (es : List Expression) → list_all (holds_in sc (state_of c)) es ≡ true → AllByRecursion (λ e. IsTruth (worth_in sc (state_of c) e)) es → AreTrue sc c es
are_true sc c [] h b = tt
are_true sc c (e ∷ es) h b =
    let p = and_parts (holds_in sc (state_of c) e) (list_all (holds_in sc (state_of c)) es) h in
    ((λ x n. sym (named_worth sc (state_of c) e x n) ∙ one_is (worth_in sc (state_of c) e) b.0 p.0), are_true sc c es p.1 b.1)

-- ---- lists

taken : {X : Type 0} (k : ℕ) (xs : List X) (n : ℕ) (x : X) → slice_get (take k xs) n ≡ Some x → (slice_get xs n ≡ Some x) × (n < k)
taken zero xs n x e = absurd (cc)
taken (suc k) [] n x e = absurd (cc)
taken (suc k) (y ∷ ys) zero x e = (e, omega arith)
taken (suc k) (y ∷ ys) (suc n) x e = let r = taken k ys n x e in let l : n < k = r.1 in (r.0, omega arith)

took : {X : Type 0} (k : ℕ) (xs : List X) (n : ℕ) (x : X) → slice_get xs n ≡ Some x → n < k → slice_get (take k xs) n ≡ Some x
took zero xs n x e l = absurd (omega arith)
took (suc k) [] n x e l = absurd (cc)
took (suc k) (y ∷ ys) zero x e l = e
took (suc k) (y ∷ ys) (suc n) x e l = took k ys n x e (omega arith)

mapped : {X Y : Type 0} (f : X → Y) (xs : List X) (n : ℕ) (y : Y) → slice_get (map f xs) n ≡ Some y → (x : X) × (slice_get xs n ≡ Some x) × (f x ≡ y)
mapped f [] n y e = absurd (cc)
mapped f (x ∷ xs) zero y e = (x, refl, same_Some (f x) y e)
mapped f (x ∷ xs) (suc n) y e = mapped f xs n y e

map_at : {X Y : Type 0} (f : X → Y) (xs : List X) (n : ℕ) (x : X) → slice_get xs n ≡ Some x → slice_get (map f xs) n ≡ Some (f x)
map_at f [] n x e = absurd (cc)
map_at f (y ∷ ys) zero x e = ap Some (ap f (same_Some y x e))
map_at f (y ∷ ys) (suc n) x e = map_at f ys n x e

member_taken : (k : ℕ) (xs ys : List ℤ) (n : ℕ) → n < k → take k xs ≡ take k ys → member xs n ≡ member ys n
member_taken k xs ys n l e = sym (same k xs n l) ∙ ap (λ (zs : List ℤ). member zs n) e ∙ same k ys n l
  where
    same : (k : ℕ) (xs : List ℤ) (n : ℕ) → n < k → member (take k xs) n ≡ member xs n
    same zero xs n l = absurd (omega arith)
    same (suc k) [] n l = refl
    same (suc k) (x ∷ xs) zero l = refl
    same (suc k) (x ∷ xs) (suc n) l = same k xs n (omega arith)

-- ---- the locals of a scope

pub taken_seen : (s : ClauseScope) (own : List VarInfo) (k : ℕ) → ((n : ℕ) (name : List ℕ) → sees s n name ≡ nat_lt n k) → IsSeen s own (take k own)
taken_seen s own k is = record {
  shows = λ n v e h. took k own n v e (ltb-true n k (sym (is n v.name) ∙ h));
  only = λ n w e proper. let r = taken k own n w e in (r.0, is n w.name ∙ lt-ltb n k r.1);
}

text_seen : (s : ClauseScope) (own : List VarInfo) → ((n : ℕ) (name : List ℕ) → sees s n name ≡ not (is_hidden_name name)) → IsSeen s own (text_locals own)
text_seen s own is = record {
  shows = λ n v e h. map_at text_local own n v e ∙ ap Some (shown_as v (is_hidden_name v.name) (sym (is n v.name) ∙ h));
  only = λ n w e proper. let r = mapped text_local own n w e in by n w proper r.0 r.1 (is_hidden_name r.0.name) refl r.2;
}
  where
    shown_as : (v : VarInfo) (b : Bool) → not b ≡ true → (if b then record v { name = [] } else v) ≡ v
    shown_as v true h = absurd (false≢true h)
    shown_as v false h = refl

    by : (n : ℕ) (w : VarInfo) → w.name ≢ [] → (v : VarInfo) → slice_get own n ≡ Some v → (b : Bool) → is_hidden_name v.name ≡ b → (if b then record v { name = [] } else v) ≡ w →
        (slice_get own n ≡ Some w) × (sees s n w.name ≡ true)
    by n w proper v e true g h = absurd (proper (sym (ap (λ (x : VarInfo). x.name) h)))
    by n w proper v e false g h = (e ∙ ap Some h, is n w.name ∙ ap not (ap (λ (x : VarInfo). is_hidden_name x.name) (sym h) ∙ g))

-- ---- a frame where a run comes to

module _ (t : TypedProgram) (a : Content) (s : Sketch) (valid : IsTrue (is_valid t)) (proof : IsProofOf t a s) (c : Config) (q : TypedProcedure) (at : slice_get t.procs c.top.proc ≡ Some q)
    (e : IsEntered t a s c) where
  abbrev known : KnownProcedure
  known = known_procedure (told t a s) c.top.proc q

  abbrev frame : Columns
  frame = frame_at t c.top.proc

  pub frame_same : known.frame ≡ frame
  frame_same = frame_is t c.top.proc q at

  laid_out : (globals : List VarInfo) × IsFrame globals known.frame
  laid_out = let w = frames_laid_out (lowered t) proof.graph in (w.0, w.1 c.top.proc (proc_exists t c.top.proc q at))

  pub olds : (k g : ℕ) (v : VarInfo) → slice_get known.frame k ≡ Some (Old g, v) → slice_get known.frame g ≡ Some (Global g, v)
  olds = olds_of_globals laid_out.0 known.frame laid_out.1

  pub names : HasNames frame
  names =
      let w = something_at (lowered t).frames c.top.proc (proc_exists t c.top.proc q at) in
      let same : w.0 ≡ frame = ap (λ (o : Option Columns). unwrap_or o []) (sym w.1) ∙ frame_same in
      subst HasNames same (all_at HasNames (lowered t).frames c.top.proc w.0 w.1 proof.graph.names.columns)

  own_locals : locals_at t c.top.proc ≡ q.locals
  own_locals = ap locals_if_any at

  -- the states now and where the frame was entered
  abbrev pub now_state : State
  now_state = state_of c

  abbrev pub then_state : State
  then_state = record { globals = c.top.entry; old = c.top.entry; locals = e.locals }

  pub then_keeps : FrameKeeps t c.top.proc then_state
  then_keeps = record { globals = e.keeps.old; old = e.keeps.old; locals = e.may.typed; constants = λ g v at k. refl }

  pub values_of : (u : State) → FrameKeeps t c.top.proc u → HaveValues (column_value u) known.frame (shown t u)
  values_of u k = subst (λ (x : Columns). HaveValues (column_value u) x (shown t u)) (sym frame_same) (shown_values t c.top.proc u k)

  pub typed_of : (u : State) → FrameKeeps t c.top.proc u → IsState known.frame (shown t u)
  typed_of u k = subst (λ (x : Columns). IsState x (shown t u)) (sym frame_same) (shown_state t c.top.proc u k)

  pub parameters : (n : ℕ) → nat_lt n q.params ≡ true → member c.top.locals n ≡ member e.locals n
  parameters n l =
      let same : take q.params e.locals ≡ take q.params c.top.locals = subst (λ (o : Option TypedProcedure). take (params_of o) e.locals ≡ take (params_of o) c.top.locals) at e.may.same in
      member_taken q.params c.top.locals e.locals n (ltb-true n q.params l) (sym same)

  -- what the point says of a column
  pub said : (u : State) (n : ℕ) (d : Column × VarInfo) → FrameKeeps t c.top.proc u → slice_get known.frame n ≡ Some d → point_of (shown t u) n ≡ column_value u d.0
  said u n d k stands = value_at (column_value u) known.frame (shown t u) n d (values_of u k) stands

  -- ---- clauses of bodies and ensures

  module _ (reached : IsReached t c) (behind : c.top.point.stage ≡ Start → ⊥) (position : Position) (ls : List VarInfo) (where_told : is_requires position ≡ false)
      (seen_so : (b : Bool) → IsSeen (scope known position b) (locals_at t c.top.proc) ls) where
    abbrev sc : Scope
    sc = body_scope t.globals ls

    abbrev now : ℕ → ℤ
    now = point_of (shown t now_state)

    abbrev was : ℕ → ℤ
    was = point_of (shown t then_state)

    means : (b : Bool) → Means (scope known position b) sc
    means b = names_mean t c.top.proc (scope known position b) ls true frame_same names (seen_so b)

    now_tells : Tells (scope known position false) now_state now_state
    now_tells = record {
      globals = refl;
      old = refl;
      locals = λ k n v stands h stay. refl;
      entry = λ h. absurd (false≢true (sym where_told ∙ h));
    }

    then_tells : Tells (scope known position true) (values.at_entry now_state) then_state
    then_tells = record {
      globals = refl;
      old = refl;
      locals = λ k n v stands h stay. parameters n stay;
      entry = λ h. refl;
    }

    kept : (n : ℕ) (d : Column × VarInfo) → slice_get known.frame n ≡ Some d → is_kept q.params d ≡ true → was n ≡ now n
    kept n (Global g, v) stands k =
        let own : slice_get t.globals g ≡ Some v = (global_of_frame t c.top.proc n g v (ap (λ (x : Columns). slice_get x n) (sym frame_same) ∙ stands)).1 in
        said then_state n (Global g, v) then_keeps stands ∙ e.keeps.constants g v own k ∙ sym (said now_state n (Global g, v) e.keeps stands)
    kept n (Old g, v) stands k = said then_state n (Old g, v) then_keeps stands ∙ sym (said now_state n (Old g, v) e.keeps stands)
    kept n (Local l, v) stands k = said then_state n (Local l, v) then_keeps stands ∙ sym (parameters l k) ∙ sym (said now_state n (Local l, v) e.keeps stands)

    entered : worths.IsEntryOf known now was
    entered = record {
      kept = kept;
      globals = λ n g v stands. said then_state g (Global g, v) then_keeps (olds n g v stands) ∙ sym (said now_state n (Old g, v) e.keeps stands);
    }

    state : worths.IsState (worth_in sc now_state) (holds_in sc now_state) (worth_in sc (values.at_entry now_state)) (holds_in sc (values.at_entry now_state)) known position now was
    state = record {
      reading = values_are_readings (meaning sc) now_state;
      old_reading = values_are_readings (meaning sc) (values.at_entry now_state);
      olds = λ x. refl;
      columns = has_columns (scope known position false) sc (means false) olds now_state now_state now_tells (shown t now_state) (values_of now_state e.keeps) (typed_of now_state e.keeps);
      old_columns = has_columns (scope known position true) sc (means true) olds (values.at_entry now_state) then_state then_tells (shown t then_state) (values_of then_state then_keeps) (typed_of then_state then_keeps);
      entered = entered;
    }

    all_hold : list_all (holds_in sc now_state) (holding known position (place_at t c)) ≡ true
    all_hold =
        clauses_true (worth_in sc now_state) (holds_in sc now_state) (worth_in sc (values.at_entry now_state)) (holds_in sc (values.at_entry now_state)) laid_out.0 known position (place_at t c) now was laid_out.1
        (known_is_shallow (lowered t) a s.nodes proof.form) where_told state (all_follow t a s valid proof c reached behind e)

    truths : OfColumns (λ x. IsTruth (worth_in sc now_state x)) (scope known position false)
    truths = of_columns (scope known position false) sc (means false) olds now_state now_state now_tells (shown t now_state) (values_of now_state e.keeps) (typed_of now_state e.keeps)

    pub clauses_are_true : AreTrue sc c (holding known position (place_at t c))
    clauses_are_true =
        are_true sc c (holding known position (place_at t c)) all_hold
        (holding_are (λ x. IsTruth (worth_in sc now_state x)) (are_truths (meaning sc) now_state) known position (place_at t c) truths)

-- ---- the laws

pub own_seen : (t : TypedProgram) (n : ℕ) (q : TypedProcedure) (s : ClauseScope) (ls : List VarInfo) → slice_get t.procs n ≡ Some q → IsSeen s q.locals ls → IsSeen s (locals_at t n) ls
own_seen t n q s ls at h = subst (λ (vs : List VarInfo). IsSeen s vs ls) (sym (ap locals_if_any at)) h

pub bodies_hold : BodiesHold
bodies_hold t a s c q valid proof reached at behind =
    let e : IsEntered t a s c = frames_are_entered t a s c valid proof reached behind in
    let k : KnownProcedure = known_procedure (told t a s) c.top.proc q in
    clauses_are_true t a s valid proof c q at e reached behind Body (text_locals q.locals) refl
    (λ b. own_seen t c.top.proc q (scope k Body b) (text_locals q.locals) at (text_seen (scope k Body b) q.locals (λ n name. refl)))

return_is_behind : (x : Stage) → x ≡ Exit → x ≡ Start → ⊥
return_is_behind x e f = let g : Exit ≡ Start = sym e ∙ f in let no : ⊥ = cc in no

pub ensures_hold : EnsuresHold
ensures_hold t a s c q valid proof reached at point =
    let behind : c.top.point.stage ≡ Start → ⊥ = return_is_behind c.top.point.stage (ap (λ p. p.stage) point) in
    let e : IsEntered t a s c = frames_are_entered t a s c valid proof reached behind in
    let k : KnownProcedure = known_procedure (told t a s) c.top.proc q in
    clauses_are_true t a s valid proof c q at e reached behind Ensures (take (q.params + q.results) q.locals) refl
    (λ b. own_seen t c.top.proc q (scope k Ensures b) (take (q.params + q.results) q.locals) at (taken_seen (scope k Ensures b) q.locals (q.params + q.results) (λ n name. refl)))
