-- What a point of a valid program does is typed: conditions, targets, arguments, and the calls.
use Rattle.std.proofs.Common.{◌≡◌, ℕ, zero, suc, ◌+◌, ◌-◌, ◌≤◌, Bool, true, false, not, ◌&&◌, IsTrue, List, [], ◌∷◌, map, length, take, Option, None, Some, slice_get, refl, sym, ap, subst, ◌∙◌, arith}
use Rattle.std.specs.List.{AllByRecursion, list_all}
use Rattle.std.proofs.lemmas.Bool.{and_parts, false≢true}
use Rattle.boogie_tree.specs.declared.span.Span.{Span}
use Rattle.boogie_tree.specs.declared.tree.Ty.{Ty}
use Rattle.boogie_tree.specs.declared.tree.Ty.TheVariants as types
use Rattle.boogie_tree.specs.declared.tree.Column.{Column}
use Rattle.boogie_tree.specs.declared.tree.Column.TheVariants as columns
use Rattle.boogie_tree.specs.declared.tree.VarInfo.{VarInfo}
use Rattle.typed_tree.specs.AffineForm.{is_empty}
use Rattle.typed_tree.specs.Typing.{same_type}
use Rattle.typed_tree.specs.KeptRules.{is_right}
use Rattle.typed_tree.specs.Scope.{Scope, axiom_scope, requires_scope, body_scope, variable_at}
use Rattle.typed_tree.specs.TypedTree.{TypedExpression, Lit, Truth, Var, Old, Not, Neg, Bin, TypedGuard, Any, Cond, TypedInvariant, TypedStatement, Assert, Assume, Havoc, Assign, Call, If, While, Break, Goto, Return, Label, TypedBlock, Empty, Then, TypedProcedure, TypedProgram}
use Rattle.typed_tree.specs.TypingRules.Counts.{plain_requires, checked_at_call}
use Rattle.typed_tree.specs.TypingRules.Rules.{Context, all_differ, same_column, is_member, meets, is_condition, is_guard, is_invariant, is_writable, are_targets, column_has, values_agree, arguments_agree, results_agree, params_of, results_of, is_call, is_statement, is_block, within, looped}
use Rattle.typed_tree.specs.TypingRules.Shape.{is_simple, is_argument, are_arguments, params_if_any, is_shaped, is_shaped_block}
use Rattle.typed_tree.specs.TypingRules.ValidProgram.{is_valid}
use Rattle.letter_acts.specs.Invariant.{AreDistinct}
use Rattle.cond_jumps.specs.Frames.{frame_environment}
use Rattle.cond_jumps.specs.FreeProducts.FrameLaws.{IsDividedCondition}
use Rattle.cond_jumps.specs.Passing.{passed, standing_environment}
use Rattle.boogie_run.specs.BoogiePoints.Points.{Todo, Stage, Start, Entry, Body, Exit, Point, settled, past}
use Rattle.boogie_run.specs.BoogiePoints.Actions as actions
use Rattle.boogie_run.specs.BoogiePoints.Actions.{Action, next_part, guarded, checked, plain_conditions, free_conditions, ensured_conditions, chosen_columns, unseen_action, called_action, call_action, call_if_any, head_action, one_of, ways_to, havoc_action, statement_action, block_action, body_action, entry_action, exit_action, start_conditions, start_action, stage_action, body_or_leave, procedure_action, action_at}
use Rattle.boogie_run.proofs.BoogiePlaces.Closed.{all_append, plain_count}
use Rattle.boogie_run.proofs.TypedPoints.{IsInside}
use Rattle.boogie_run.specs.Needs.{locals_if_any, locals_at}
use Rattle.lowered_graph.specs.LoweredSteps.ProgramFrames.{frame_at}
use Rattle.lowered_graph.specs.LoweredSteps.Edges.{numbers_in}
use Rattle.lowered_graph.proofs.LoweredSteps.Parameters.{arguments_divided}
use Rattle.lowered_graph.specs.LoweredSteps.Moves.{IsTarget, AreAssigned, IsPassed, IsSimple, AreArguments, AreTargets, IsTypedAction, IsKnownCall}
use Rattle.lowered_graph.specs.LoweredImports.Imports.{ensures_environment, IsEnsured, later, IsKnownImport}
use Rattle.lowered_graph.proofs.LoweredImports.SeenTypes.{IsScope, same_types, right_typed, right_divided, unhidden, frame_sees, passed_sees, import_sees}
use Rattle.lowered_graph.proofs.LoweredImports.ValidParts.{all_at, all_get, meets_some, not_of, distinct_of, column_itself, plain_right, free_right, ensured_right, IsRequired, IsEnsuring, axioms_right, specifications_right, enough_locals, has_parameters, modified_right}
use Rattle.lowered_graph.proofs.LoweredImports.RightPoints.{IsRight, PartRight, FirstRight, StageRight, PointRight}

-- a call of a procedure with a body
pub record IsBodyCall (t : TypedProgram) (n : ℕ) (p : Point) (f : ℕ) (args : List TypedExpression) : Type 0 where
  pub call : IsKnownCall t n p f args
  pub body : TypedBlock
  pub has : call.procedure.body ≡ Some body

-- what is known of the action at a point
abbrev pub IsKnownAction : TypedProgram → ℕ → Point → Action → Type 0
IsKnownAction t n p (actions.Check id at e next) = IsDividedCondition (frame_environment (frame_at t n)) e
IsKnownAction t n p (actions.Suppose e next) = IsDividedCondition (frame_environment (frame_at t n)) e
IsKnownAction t n p (actions.Demand id at e args next) = IsPassed (frame_at t n) args e
IsKnownAction t n p (actions.Write cs es next) = AreAssigned t n cs es
IsKnownAction t n p (actions.Guess c next) = (ty : Ty) × IsTarget t n ty c
IsKnownAction t n p (actions.Test e hit miss) = IsDividedCondition (frame_environment (frame_at t n)) e
IsKnownAction t n p (actions.Pick ways) = Unit {0}
IsKnownAction t n p (actions.Jump next) = Unit {0}
IsKnownAction t n p (actions.Enter f args) = IsBodyCall t n p f args
IsKnownAction t n p (actions.Keep f args c next) = IsKnownImport t n p f args
IsKnownAction t n p (actions.Grant f args e next) = IsKnownImport t n p f args
IsKnownAction t n p (actions.Finish f args targets next) = IsKnownImport t n p f args
IsKnownAction t n p actions.Leave = Unit {0}

pub typed_of_known : (t : TypedProgram) (n : ℕ) (p : Point) (a : Action) → IsKnownAction t n p a → IsTypedAction t n a
typed_of_known t n p (actions.Check id at e next) h = h
typed_of_known t n p (actions.Suppose e next) h = h
typed_of_known t n p (actions.Demand id at e args next) h = h
typed_of_known t n p (actions.Write cs es next) h = h
typed_of_known t n p (actions.Guess c next) h = h
typed_of_known t n p (actions.Test e hit miss) h = h
typed_of_known t n p (actions.Pick ways) h = tt
typed_of_known t n p (actions.Jump next) h = tt
typed_of_known t n p (actions.Enter f args) h = tt
typed_of_known t n p (actions.Keep f args c next) h = tt
typed_of_known t n p (actions.Grant f args e next) h = tt
typed_of_known t n p (actions.Finish f args targets next) h = tt
typed_of_known t n p actions.Leave h = tt

-- ---- simple arguments

simple_of : (e : TypedExpression) → is_simple e ≡ true → IsSimple e
simple_of (Lit at n) h = tt
simple_of (Truth at b) h = tt
simple_of (Var at c) h = tt
simple_of (Old at e) h = absurd (false≢true h)
simple_of (Not at (Lit at2 n)) h = absurd (false≢true h)
simple_of (Not at (Truth at2 b)) h = absurd (false≢true h)
simple_of (Not at (Var at2 c)) h = tt
simple_of (Not at (Old at2 e)) h = absurd (false≢true h)
simple_of (Not at (Not at2 e)) h = absurd (false≢true h)
simple_of (Not at (Neg at2 e)) h = absurd (false≢true h)
simple_of (Not at (Bin at2 op a b)) h = absurd (false≢true h)
simple_of (Neg at e) h = absurd (false≢true h)
simple_of (Bin at op a b) h = absurd (false≢true h)

if_boolean : (ty : Ty) (e : TypedExpression) → is_argument ty e ≡ true → ty ≡ types.Bool → IsSimple e
if_boolean types.Int e h b = absurd (cc)
if_boolean types.Bool e h b = simple_of e h

-- no member stands there, so the list is no longer
past_end : {X : Type 0} (xs : List X) (n : ℕ) → slice_get xs n ≡ None → length xs ≤ n
past_end [] n h = omega arith
past_end (x ∷ xs) zero h = absurd (cc)
past_end {X} (x ∷ xs) (suc n) h = let r = past_end {X = X} xs n h in omega arith

none_past : {X : Type 0} (xs : List X) (n : ℕ) → length xs ≤ n → slice_get xs n ≡ None
none_past [] n h = refl
none_past (x ∷ xs) zero h = absurd (omega arith)
none_past (x ∷ xs) (suc n) h = none_past xs n (omega arith)

-- a member of the first ones is a member
among_first : (n : ℕ) (vs : List VarInfo) (l : ℕ) (x : VarInfo) → slice_get (take n vs) l ≡ Some x → slice_get vs l ≡ Some x
among_first zero vs l x h = absurd (cc)
among_first (suc n) [] l x h = absurd (cc)
among_first (suc n) (v ∷ vs) zero x h = h
among_first (suc n) (v ∷ vs) (suc l) x h = among_first n vs l x h

module _ (t : TypedProgram) (valid : IsTrue (is_valid t)) (n : ℕ) (q : TypedProcedure) (found : slice_get t.procs n ≡ Some q) where
  own_locals : q.locals ≡ locals_at t n
  own_locals = sym (ap locals_if_any found)

  own_scope : (s : Scope) → s ≡ body_scope t.globals q.locals → IsScope t (locals_at t n) s
  own_scope s e = record {
    globals = ap (λ (x : Scope). x.globals) e;
    locals = λ l x h. ap (λ (vs : List VarInfo). slice_get vs l) (sym own_locals) ∙ ap (λ (y : Scope). slice_get y.locals l) (sym e) ∙ h;
  }

  -- a condition in a scope whose locals are those of the procedure
  condition_in : (s : Scope) (e : TypedExpression) → IsScope t (locals_at t n) s → is_condition s e ≡ true → IsDividedCondition (frame_environment (frame_at t n)) e
  condition_in s e i h = record {
    typed = right_typed s (frame_environment (frame_at t n)) types.Bool e (frame_sees t n s i) h;
    divided = right_divided s types.Bool e h;
  }

  -- ---- statements of the body

  module _ (k : Context) (inside : IsInside t q k) where
    scope_is : IsScope t (locals_at t n) k.scope
    scope_is = own_scope k.scope inside.scope

    condition : (e : TypedExpression) → is_condition k.scope e ≡ true → IsDividedCondition (frame_environment (frame_at t n)) e
    condition e h = condition_in k.scope e scope_is h

    target : (c : Column) → is_writable k c ≡ true → (ty : Ty) × IsTarget t n ty c
    target (columns.Global g) h =
        let parts = and_parts (meets (λ v. not v.constant) (slice_get k.scope.globals g)) (is_member g k.modifies) h in
        let v = meets_some (λ (w : VarInfo). not w.constant) (slice_get k.scope.globals g) parts.0 in
        (v.0.ty, record { info = v.0; is = ap (λ (vs : List VarInfo). slice_get vs g) (sym scope_is.globals) ∙ v.1; type = refl; varies = not_of v.0.constant v.2 })
    target (columns.Old g) h = absurd (false≢true h)
    target (columns.Local l) h =
        let v = meets_some (λ (w : VarInfo). not w.constant) (slice_get k.scope.locals l) h in
        (v.0.ty, record { info = v.0; is = scope_is.locals l v.0 v.1; type = refl; varies = not_of v.0.constant v.2 })

    -- the type of a target is that of the variable that is seen
    target_as : (c : Column) (v : VarInfo) (ty : Ty) → IsTarget t n ty c → variable_at k.scope c ≡ Some v → IsTarget t n v.ty c
    target_as (columns.Global g) v ty h e =
        let at : slice_get t.globals g ≡ Some v = ap (λ (vs : List VarInfo). slice_get vs g) (sym scope_is.globals) ∙ unhidden k.scope.variables (slice_get k.scope.globals g) v e in
        let is : slice_get t.globals g ≡ Some h.info = h.is in
        let same : h.info ≡ v = cc in
        record { info = h.info; is = h.is; type = ap (λ (x : VarInfo). x.ty) same; varies = h.varies }
    target_as (columns.Old g) v ty h e = absurd h
    target_as (columns.Local l) v ty h e =
        let at : slice_get (locals_at t n) l ≡ Some v = scope_is.locals l v e in
        let is : slice_get (locals_at t n) l ≡ Some h.info = h.is in
        let same : h.info ≡ v = cc in
        record { info = h.info; is = h.is; type = ap (λ (x : VarInfo). x.ty) same; varies = h.varies }

    assigned : (cs : List Column) (es : List TypedExpression) → list_all (is_writable k) cs ≡ true → values_agree k.scope cs es ≡ true → AreAssigned t n cs es
    assigned [] [] w h = tt
    assigned [] (e ∷ es) w h = absurd (false≢true h)
    assigned (c ∷ cs) [] w h = absurd (false≢true h)
    assigned (c ∷ cs) (e ∷ es) w h =
        let writable = and_parts (is_writable k c) (list_all (is_writable k) cs) w in
        let parts = and_parts (meets (λ v. is_right k.scope v.ty e) (variable_at k.scope c)) (values_agree k.scope cs es) h in
        let v = meets_some (λ (x : VarInfo). is_right k.scope x.ty e) (variable_at k.scope c) parts.0 in
        let to = target c writable.0 in (
          record {
            type = v.0.ty;
            target = target_as c v.0 to.0 to.1 v.1;
            typed = right_typed k.scope (frame_environment (frame_at t n)) v.0.ty e (frame_sees t n k.scope scope_is) v.2;
            divided = right_divided k.scope v.0.ty e v.2;
          },
          assigned cs es writable.1 parts.1,
        )

    arguments : (vs : List VarInfo) (es : List TypedExpression) → arguments_agree k.scope vs es ≡ true → are_arguments vs es ≡ true → AreArguments (frame_at t n) vs es
    arguments [] [] h a = tt
    arguments [] (e ∷ es) h a = absurd (false≢true h)
    arguments (v ∷ vs) [] h a = absurd (false≢true h)
    arguments (v ∷ vs) (e ∷ es) h a =
        let parts = and_parts (is_right k.scope v.ty e) (arguments_agree k.scope vs es) h in
        let simple = and_parts (is_argument v.ty e) (are_arguments vs es) a in (
          record {
            typed = right_typed k.scope (frame_environment (frame_at t n)) v.ty e (frame_sees t n k.scope scope_is) parts.0;
            divided = right_divided k.scope v.ty e parts.0;
            simple = if_boolean v.ty e simple.0;
          },
          arguments vs es parts.1 simple.1,
        )

    targets : (vs : List VarInfo) (cs : List Column) → list_all (is_writable k) cs ≡ true → results_agree k.scope vs cs ≡ true → AreTargets t n vs cs
    targets [] [] w h = tt
    targets [] (c ∷ cs) w h = absurd (false≢true h)
    targets (v ∷ vs) [] w h = absurd (false≢true h)
    targets (v ∷ vs) (c ∷ cs) w h =
        let writable = and_parts (is_writable k c) (list_all (is_writable k) cs) w in
        let parts = and_parts (column_has k.scope v.ty c) (results_agree k.scope vs cs) h in
        let x = meets_some (λ (y : VarInfo). same_type v.ty y.ty) (variable_at k.scope c) parts.0 in
        let to = target c writable.0 in
        let seen : IsTarget t n x.0.ty c = target_as c x.0 to.0 to.1 x.1 in
        (subst (λ (ty : Ty). IsTarget t n ty c) (sym (same_types v.ty x.0.ty x.2)) seen, targets vs cs writable.1 parts.1)

    pub one_target : (cs : List Column) (m : ℕ) (c : Column) → are_targets k cs ≡ true → slice_get cs m ≡ Some c → (ty : Ty) × IsTarget t n ty c
    one_target cs m c h e = target c (all_at (is_writable k) cs m c (and_parts (list_all (is_writable k) cs) (all_differ same_column cs) h).0 e)

    -- ---- a call

    pub record CallParts (cs : List Column) (f : ℕ) (es : List TypedExpression) : Type 0 where
      pub procedure : TypedProcedure
      pub is : slice_get t.procs f ≡ Some procedure
      pub arguments : AreArguments (frame_at t n) (take procedure.params procedure.locals) es
      pub targets : AreTargets t n (results_of procedure) cs
      pub differ : AreDistinct cs

    pub call_parts : (at : Span) (cs : List Column) (f : ℕ) (es : List TypedExpression) → is_statement k (Call at cs f es) ≡ true → is_shaped t.procs (Call at cs f es) ≡ true → CallParts cs f es
    call_parts at cs f es h s =
        let a = and_parts (are_targets k cs) (meets (is_call k cs es) (slice_get k.procs f)) h in
        let w = and_parts (list_all (is_writable k) cs) (all_differ same_column cs) a.0 in
        let p = meets_some (is_call k cs es) (slice_get k.procs f) a.1 in
        let is : slice_get t.procs f ≡ Some p.0 = ap (λ (ps : List TypedProcedure). slice_get ps f) (sym inside.procs) ∙ p.1 in
        let b = and_parts (arguments_agree k.scope (params_of p.0) es) (results_agree k.scope (results_of p.0) cs && list_all (λ m. is_member m k.modifies) p.0.modifies) p.2 in
        let r = and_parts (results_agree k.scope (results_of p.0) cs) (list_all (λ m. is_member m k.modifies) p.0.modifies) b.1 in
        let simple : are_arguments (params_of p.0) es ≡ true = ap (λ (o : Option TypedProcedure). are_arguments (params_if_any o) es) (sym is) ∙ s in
        record {
          procedure = p.0;
          is = is;
          arguments = arguments (params_of p.0) es b.0 simple;
          targets = targets (results_of p.0) cs w.0 r.0;
          differ = distinct_of same_column column_itself cs w.1;
        }

  ensured_all : (p : TypedProcedure) (cs : List Column) (es : List TypedExpression) → AreArguments (frame_at t n) (take p.params p.locals) es → AreTargets t n (results_of p) cs → (is : List TypedInvariant) →
      AllByRecursion (IsEnsuring t.globals p) is → AllByRecursion (λ i. IsEnsured (frame_at t n) t.globals p es (numbers_in (frame_at t n) cs) i.cond) is
  ensured_all p cs es a b [] h = tt
  ensured_all p cs es a b (i ∷ is) h =
      let s : Scope = body_scope t.globals (take (p.params + p.results) p.locals) in (
        record {
          typed = right_typed s (ensures_environment (frame_at t n) t.globals p es (numbers_in (frame_at t n) cs)) types.Bool i.cond
              (import_sees t n s p es cs (record { globals = refl; locals = λ l x g. g }) a b) h.0;
          divided = right_divided s types.Bool i.cond h.0;
        },
        ensured_all p cs es a b is h.1,
      )

  module _ (b : TypedBlock) (has : q.body ≡ Some b) where
    -- a point at a call, with so many parts done
    abbrev at_call : Span → List Column → ℕ → List TypedExpression → TypedBlock → Bool → ℕ → ℕ → List Todo → ℕ → Point
    at_call at cs f es r l id place ts m = record { stage = Body; todo = record { rest = Then (Call at cs f es) r; of_loop = l; id = id; at = place } ∷ ts; part = m }

    module _ (at : Span) (cs : List Column) (f : ℕ) (es : List TypedExpression) (r : TypedBlock) (l : Bool) (id place : ℕ) (ts : List Todo) (m : ℕ)
        (p : TypedProcedure) (is : slice_get t.procs f ≡ Some p) (args : AreArguments (frame_at t n) (take p.params p.locals) es) (to : AreTargets t n (results_of p) cs) (differ : AreDistinct cs)
        (few : m ≤ checked_at_call (slice_get t.procs f)) where
      abbrev here : Point
      here = at_call at cs f es r l id place ts m

      abbrev behind : Point
      behind = settled (past t.procs (Call at cs f es) r l id place ∷ ts)

      required : (i : TypedInvariant) → slice_get (plain_conditions p.specs) m ≡ Some i → IsPassed (frame_at t n) es i.cond
      required i e =
          let s : Scope = requires_scope t.globals (params_of p) in
          let h : is_condition s i.cond ≡ true = all_get (IsRequired t.globals p) (plain_conditions p.specs) m i (plain_right t.globals p p.specs (specifications_right t valid f p is)) e in
          record {
            condition = record {
              typed = right_typed s (standing_environment (frame_environment (frame_at t n)) (passed es)) types.Bool i.cond
                  (passed_sees t n s (params_of p) es (record { globals = refl; locals = λ j x g. g }) args) h;
              divided = right_divided s types.Bool i.cond h;
            };
            arguments = arguments_divided (frame_at t n) (take p.params p.locals) es args;
          }

      entered : (c : TypedBlock) → p.body ≡ Some c → IsBodyCall t n here f es
      entered c e = record {
        call = record { procedure = p; is = is; enough = enough_locals t valid f p is; shape = has_parameters t valid f p is; arguments = args; targets = to };
        body = c;
        has = e;
      }

      -- the actions of the parts behind the requires
      part_acts : length (plain_conditions p.specs) ≡ m → p.body ≡ None → (j : ℕ) → action_at t n (later here j) ≡ called_action f p None cs es j (later here j) behind
      part_acts e unseen j =
          let none : slice_get (plain_conditions p.specs) (m + j) ≡ None = none_past (plain_conditions p.specs) (m + j) (omega arith) in
          let done : (m + j) - length (plain_conditions p.specs) ≡ j = omega arith in
          ap (λ (o : Option TypedProcedure). procedure_action t n o (later here j)) found
          ∙ ap (λ (o : Option TypedBlock). body_or_leave t n q o (later here j)) has
          ∙ ap (λ (o : Option TypedProcedure). call_if_any o id f at cs es (later here j) behind) is
          ∙ ap (λ (o : Option TypedInvariant). call_action o (id + (m + j)) f p at cs es ((m + j) - length (plain_conditions p.specs)) (later here j) behind) none
          ∙ ap (λ (o : Option TypedBlock). called_action f p o cs es ((m + j) - length (plain_conditions p.specs)) (later here j) behind) unseen
          ∙ ap (λ (i : ℕ). called_action f p None cs es i (later here j) behind) done

      imported : slice_get (plain_conditions p.specs) m ≡ None → p.body ≡ None → IsKnownImport t n here f es
      imported none unseen =
          let long : length (plain_conditions p.specs) ≤ m = past_end (plain_conditions p.specs) m none in
          let counted : length (plain_conditions p.specs) ≡ plain_requires p.specs = plain_count p.specs in
          let most : checked_at_call (slice_get t.procs f) ≡ plain_requires p.specs = ap checked_at_call is in
          let first : length (plain_conditions p.specs) ≡ m = omega arith in
          let modified = modified_right t valid f p is in
          record {
            procedure = p;
            is = is;
            unseen = unseen;
            first = sym first;
            acts = part_acts first unseen;
            enough = enough_locals t valid f p is;
            modified = modified.0;
            modified_differ = modified.1;
            arguments = args;
            targets = to;
            targets_differ = differ;
            ensured = ensured_all p cs es args to (ensured_conditions p.specs) (ensured_right t.globals p p.specs (specifications_right t valid f p is));
          }

      unseen_known : (o : Option Column) (i : Option TypedInvariant) → IsKnownImport t n here f es → IsKnownAction t n here (unseen_action o i f cs es here behind)
      unseen_known (Some c) i h = h
      unseen_known None (Some i) h = h
      unseen_known None None h = h

      called_known : (o : Option TypedBlock) (done : ℕ) → p.body ≡ o → slice_get (plain_conditions p.specs) m ≡ None → IsKnownAction t n here (called_action f p o cs es done here behind)
      called_known None done e none = unseen_known (slice_get (chosen_columns p) done) (slice_get (ensured_conditions p.specs) (done - length (chosen_columns p))) (imported none e)
      called_known (Some c) done e none = entered c e

      requires_known : (o : Option TypedInvariant) → slice_get (plain_conditions p.specs) m ≡ o →
          IsKnownAction t n here (call_action o (id + m) f p at cs es (m - length (plain_conditions p.specs)) here behind)
      requires_known (Some i) e = required i e
      requires_known None e = called_known p.body (m - length (plain_conditions p.specs)) refl e

      pub call_known : IsKnownAction t n here (call_if_any (slice_get t.procs f) id f at cs es here behind)
      call_known =
          subst (λ (o : Option TypedProcedure). IsKnownAction t n here (call_if_any o id f at cs es here behind)) (sym is)
          (requires_known (slice_get (plain_conditions p.specs) m) refl)

    -- ---- the other statements

    checked_known : (free : Bool) (p : Point) (id : ℕ) (at : Span) (e : TypedExpression) (next : Point) → IsDividedCondition (frame_environment (frame_at t n)) e → IsKnownAction t n p (checked free id at e next)
    checked_known true p id at e next h = h
    checked_known false p id at e next h = h

    guarded_known : (k : Context) → IsInside t q k → (p : Point) (g : TypedGuard) (hit miss : Point) → is_guard k.scope g ≡ true → IsKnownAction t n p (guarded g hit miss)
    guarded_known k inside p Any hit miss h = tt
    guarded_known k inside p (Cond e) hit miss h = condition k inside e h

    havoc_known : (k : Context) → IsInside t q k → (p : Point) (cs : List Column) (m : ℕ) (o d : Option Column) (there after : Point) → slice_get cs m ≡ o → are_targets k cs ≡ true →
        IsKnownAction t n p (havoc_action o d there after)
    havoc_known k inside p cs m None d there after e h = tt
    havoc_known k inside p cs m (Some c) None there after e h = one_target k inside cs m c h e
    havoc_known k inside p cs m (Some c) (Some d) there after e h = one_target k inside cs m c h e

    head_known : (k : Context) → IsInside t q k → (p : Point) (is : List TypedInvariant) (m id : ℕ) (o : Option TypedInvariant) (guard : Action) → slice_get is m ≡ o →
        list_all (is_invariant k.scope) is ≡ true → IsKnownAction t n p guard → IsKnownAction t n p (head_action o id p guard)
    head_known k inside p is m id None guard e h g = g
    head_known k inside p is m id (Some i) guard e h g =
        checked_known i.free p id i.span i.cond (next_part p) (condition k inside i.cond (all_at (is_invariant k.scope) is m i h e))

    ways_known : (p : Point) (ps : List Point) → IsKnownAction t n p (one_of ps)
    ways_known p [] = tt
    ways_known p (x ∷ []) = tt
    ways_known p (x ∷ y ∷ ps) = tt

    first_known : (s : TypedStatement) (r : TypedBlock) (l : Bool) (id place : ℕ) (ts : List Todo) (m first start : ℕ) → IsRight t q (Then s r) → PartRight t q (Then s r) m →
        IsKnownAction t n (record { stage = Body; todo = record { rest = Then s r; of_loop = l; id = id; at = place } ∷ ts; part = m })
        (statement_action t.procs b first start s r l id place ts (record { stage = Body; todo = record { rest = Then s r; of_loop = l; id = id; at = place } ∷ ts; part = m }))
    first_known (Assert at e) r l id place ts m first start h few =
        condition h.kept.context h.kept.inside e (and_parts (is_statement h.kept.context (Assert at e)) (is_block h.kept.context r) h.kept.kept).0
    first_known (Assume at e) r l id place ts m first start h few =
        condition h.kept.context h.kept.inside e (and_parts (is_statement h.kept.context (Assume at e)) (is_block h.kept.context r) h.kept.kept).0
    first_known (Havoc at cs) r l id place ts m first start h few =
        let k : Context = h.kept.context in
        let whole = (and_parts (is_statement k (Havoc at cs)) (is_block k r) h.kept.kept).0 in
        havoc_known k h.kept.inside _ cs m (slice_get cs m) (slice_get cs (m + 1)) _ _ refl (and_parts (not (is_empty cs)) (are_targets k cs) whole).1
    first_known (Assign at cs es) r l id place ts m first start h few =
        let k : Context = h.kept.context in
        let whole = (and_parts (is_statement k (Assign at cs es)) (is_block k r) h.kept.kept).0 in
        let both = (and_parts (not (is_empty cs)) (are_targets k cs && values_agree k.scope cs es) whole).1 in
        let parts = and_parts (are_targets k cs) (values_agree k.scope cs es) both in
        assigned k h.kept.inside cs es (and_parts (list_all (is_writable k) cs) (all_differ same_column cs) parts.0).0 parts.1
    first_known (Call at cs f es) r l id place ts m first start h few =
        let k : Context = h.kept.context in
        let whole = (and_parts (is_statement k (Call at cs f es)) (is_block k r) h.kept.kept).0 in
        let shaped = (and_parts (is_shaped t.procs (Call at cs f es)) (is_shaped_block t.procs r) h.shaped).0 in
        let c : CallParts k h.kept.inside cs f es = call_parts k h.kept.inside at cs f es whole shaped in
        call_known at cs f es r l id place ts m c.procedure c.is c.arguments c.targets c.differ few
    first_known (If at g x y) r l id place ts m first start h few =
        let k : Context = h.kept.context in
        let whole = (and_parts (is_statement k (If at g x y)) (is_block k r) h.kept.kept).0 in
        guarded_known k h.kept.inside _ g _ _ (and_parts (is_guard k.scope g) (is_block (within k x) x && is_block (within k y) y) whole).0
    first_known (While at g is x) r l id place ts m first start h few =
        let k : Context = h.kept.context in
        let whole = (and_parts (is_statement k (While at g is x)) (is_block k r) h.kept.kept).0 in
        let parts = and_parts (is_guard k.scope g) (list_all (is_invariant k.scope) is && is_block (within (looped k) x) x) whole in
        let invariants = (and_parts (list_all (is_invariant k.scope) is) (is_block (within (looped k) x) x) parts.1).0 in
        head_known k h.kept.inside _ is m _ (slice_get is m) _ refl invariants (guarded_known k h.kept.inside _ g _ _ parts.0)
    first_known (Break at j) r l id place ts m first start h few = tt
    first_known (Goto at ks) r l id place ts m first start h few = ways_known _ (ways_to t.procs b first start ks)
    first_known (Return at) r l id place ts m first start h few = tt
    first_known (Label j) r l id place ts m first start h few = tt

    block_known : (r : TypedBlock) (l : Bool) (id place : ℕ) (ts : List Todo) (m first start : ℕ) → IsRight t q r → PartRight t q r m →
        IsKnownAction t n (record { stage = Body; todo = record { rest = r; of_loop = l; id = id; at = place } ∷ ts; part = m })
        (block_action t.procs b first start r l id place ts (record { stage = Body; todo = record { rest = r; of_loop = l; id = id; at = place } ∷ ts; part = m }))
    block_known Empty l id place ts m first start h few = tt
    block_known (Then s r) l id place ts m first start h few = first_known s r l id place ts m first start h few

    todo_known : (ds : List Todo) (m first start : ℕ) → FirstRight t q ds m →
        IsKnownAction t n (record { stage = Body; todo = ds; part = m }) (body_action t.procs b first start ds (record { stage = Body; todo = ds; part = m }))
    todo_known [] m first start h = tt
    todo_known (d ∷ ds) m first start h = block_known d.rest d.of_loop d.id d.at ds m first start h.0 h.1

    -- ---- the stages

    params_scope : IsScope t (locals_at t n) (requires_scope t.globals (params_of q))
    params_scope = record { globals = refl; locals = λ l x h. ap (λ (vs : List VarInfo). slice_get vs l) (sym own_locals) ∙ among_first q.params q.locals l x h }

    results_scope : IsScope t (locals_at t n) (body_scope t.globals (take (q.params + q.results) q.locals))
    results_scope = record { globals = refl; locals = λ l x h. ap (λ (vs : List VarInfo). slice_get vs l) (sym own_locals) ∙ among_first (q.params + q.results) q.locals l x h }

    entry_known : (p : Point) (m : ℕ) (o d : Option TypedInvariant) (there : Point) → slice_get (free_conditions q.specs) m ≡ o → IsKnownAction t n p (entry_action o d there)
    entry_known p m None d there e = tt
    entry_known p m (Some i) d there e = by_more d
      where
        is : IsDividedCondition (frame_environment (frame_at t n)) i.cond
        is = condition_in (requires_scope t.globals (params_of q)) i.cond params_scope
            (all_get (IsRequired t.globals q) (free_conditions q.specs) m i (free_right t.globals q q.specs (specifications_right t valid n q found)) e)

        by_more : (d : Option TypedInvariant) → IsKnownAction t n p (entry_action (Some i) d there)
        by_more None = is
        by_more (Some j) = is

    exit_known : (p : Point) (m id : ℕ) (o : Option TypedInvariant) → slice_get (ensured_conditions q.specs) m ≡ o → IsKnownAction t n p (exit_action o id p)
    exit_known p m id None e = tt
    exit_known p m id (Some i) e =
        checked_known i.free p id i.span i.cond (next_part p)
        (condition_in (body_scope t.globals (take (q.params + q.results) q.locals)) i.cond results_scope
        (all_get (IsEnsuring t.globals q) (ensured_conditions q.specs) m i (ensured_right t.globals q q.specs (specifications_right t valid n q found)) e))

    axioms_known : (es : List TypedExpression) → list_all (is_condition (axiom_scope t.globals)) es ≡ true → AllByRecursion (IsDividedCondition (frame_environment (frame_at t n))) es
    axioms_known [] h = tt
    axioms_known (e ∷ es) h =
        let parts = and_parts (is_condition (axiom_scope t.globals) e) (list_all (is_condition (axiom_scope t.globals)) es) h in
        (condition_in (axiom_scope t.globals) e (record { globals = refl; locals = λ l x g. absurd (cc) }) parts.0, axioms_known es parts.1)

    required_known : (is : List TypedInvariant) → AllByRecursion (IsRequired t.globals q) is → AllByRecursion (IsDividedCondition (frame_environment (frame_at t n))) (map (λ i. i.cond) is)
    required_known [] h = tt
    required_known (i ∷ is) h = (condition_in (requires_scope t.globals (params_of q)) i.cond params_scope h.0, required_known is h.1)

    starts_known : AllByRecursion (IsDividedCondition (frame_environment (frame_at t n))) (start_conditions t q)
    starts_known =
        all_append (IsDividedCondition (frame_environment (frame_at t n))) t.axioms (map (λ i. i.cond) (plain_conditions q.specs)) (axioms_known t.axioms (axioms_right t valid))
        (required_known (plain_conditions q.specs) (plain_right t.globals q q.specs (specifications_right t valid n q found)))

    start_known : (p : Point) (m : ℕ) (o d : Option TypedExpression) (there first : Point) → slice_get (start_conditions t q) m ≡ o → IsKnownAction t n p (start_action o d there first)
    start_known p m None d there first e = tt
    start_known p m (Some c) None there first e = all_get (IsDividedCondition (frame_environment (frame_at t n))) (start_conditions t q) m c starts_known e
    start_known p m (Some c) (Some d) there first e = all_get (IsDividedCondition (frame_environment (frame_at t n))) (start_conditions t q) m c starts_known e

    stage_known : (s : Stage) (ds : List Todo) (m : ℕ) → StageRight t q s ds m →
        IsKnownAction t n (record { stage = s; todo = ds; part = m }) (stage_action t n q b s (record { stage = s; todo = ds; part = m }))
    stage_known Start ds m h = start_known _ m (slice_get (start_conditions t q) m) (slice_get (start_conditions t q) (m + 1)) _ _ refl
    stage_known Entry ds m h = entry_known _ m (slice_get (free_conditions q.specs) m) (slice_get (free_conditions q.specs) (m + 1)) _ refl
    stage_known Body ds m h = todo_known ds m _ _ h
    stage_known Exit ds m h = exit_known _ m _ (slice_get (ensured_conditions q.specs) m) refl

    pub action_known : (p : Point) → PointRight t q p → IsKnownAction t n p (action_at t n p)
    action_known p h =
        let is : action_at t n p ≡ stage_action t n q b p.stage p =
        ap (λ (o : Option TypedProcedure). procedure_action t n o p) found ∙ ap (λ (o : Option TypedBlock). body_or_leave t n q o p) has in
        subst (IsKnownAction t n p) (sym is) (stage_known p.stage p.todo p.part h)
