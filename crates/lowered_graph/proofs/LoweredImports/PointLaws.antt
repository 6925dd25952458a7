-- What is known of the points of a valid program.
use Rattle.std.proofs.Common.{◌≡◌, ◌⊎◌, inl, inr, ℕ, IsTrue, List, [], ◌∷◌, ◌++◌, length, Option, None, Some, slice_get, refl, sym, ap, subst, ◌∙◌}
use Rattle.std.specs.List.{AllByRecursion}
use Rattle.typed_tree.specs.TypedTree.{TypedExpression, TypedBlock, TypedProcedure, TypedProgram}
use Rattle.typed_tree.specs.TypingRules.ValidProgram.{is_valid}
use Rattle.typed_tree.proofs.TypingRules.ValidLaws as valid_laws
use Rattle.letter_acts.specs.Frames.{ConstantsFirst}
use Rattle.boogie_run.specs.BoogiePoints.Points.{Start, Point}
use Rattle.boogie_run.specs.BoogiePoints.Actions as actions
use Rattle.boogie_run.specs.BoogiePoints.Actions.{Action, first_point, first_assertion, first_place, start_conditions, action_at}
use Rattle.boogie_run.specs.BoogiePoints.Starts.{point_of_procedure, point_of_call, unless_none, start_point_of}
use Rattle.boogie_run.specs.BoogiePlaces.Places.{parts_from, points_of_body, start_points, onward, IsOneOf}
use Rattle.boogie_run.proofs.BoogiePlaces.PlaceLaws.{first_is_listed, leads_to_points, starts_lead_to_points}
use Rattle.boogie_run.proofs.BoogiePlaces.Closed.{each_part}
use Rattle.boogie_run.proofs.Constants.{bodies_kept}
use Rattle.boogie_run.specs.Needs.{locals_if_any, locals_at}
use Rattle.lowered_graph.specs.LoweredSteps.Moves.{HasParameters, IsNoImport, KnowsPoints}
use Rattle.lowered_graph.specs.LoweredImports.KnownPoints.{IsPointOf, StandsAtImport}
use Rattle.lowered_graph.proofs.LoweredImports.ValidParts.{constants_first, has_parameters, body_shaped}
use Rattle.lowered_graph.proofs.LoweredImports.RightPoints.{PointRight, body_right, one_of_all}
use Rattle.lowered_graph.proofs.LoweredImports.KnownActions.{IsBodyCall, IsKnownAction, typed_of_known, action_known}

each_listed : (ps : List Point) (A : Point → Type 0) → ((p : Point) → IsOneOf ps p → A p) → AllByRecursion A ps
each_listed [] A h = tt
each_listed (q ∷ qs) A h = (h q (inl refl), each_listed qs A (λ p i. h p (inr i)))

one_of_either : (ps qs : List Point) (p : Point) → IsOneOf (ps ++ qs) p → IsOneOf ps p ⊎ IsOneOf qs p
one_of_either [] qs p i = inr i
one_of_either (x ∷ xs) qs p (inl e) = inl (inl e)
one_of_either (x ∷ xs) qs p (inr i) = elim (one_of_either xs qs p i) [ inl h ↦ inl (inr h) | inr h ↦ inr h ]

module _ (t : TypedProgram) (valid : IsTrue (is_valid t)) where
  -- the statement that stands first at a point keeps the typing rules
  pub point_right : (n : ℕ) (p : Point) → (k : IsPointOf t n p) → PointRight t k.procedure p
  point_right n p k = by_listed k.among
    where
      by_listed : IsOneOf (points_of_body t n k.procedure k.body) p ⊎ ((n ≡ t.entry) × IsOneOf (start_points t k.procedure) p) → PointRight t k.procedure p
      by_listed (inl i) =
          one_of_all (PointRight t k.procedure) (points_of_body t n k.procedure k.body) p
          (body_right t k.procedure n k.body (record { kept = bodies_kept t valid n k.procedure k.is k.body k.has; shaped = body_shaped t valid n k.procedure k.body k.is k.has })) i
      by_listed (inr (e, i)) =
          one_of_all (PointRight t k.procedure) (start_points t k.procedure) p
          (each_part (PointRight t k.procedure) (record { stage = Start; todo = []; part = 0 }) 0 (length (start_conditions t k.procedure)) (λ j l. tt)) i

  pub known_action : (n : ℕ) (p : Point) → IsPointOf t n p → IsKnownAction t n p (action_at t n p)
  known_action n p k = action_known t valid n k.procedure k.is k.body k.has p (point_right n p k)

  -- a body begins at a point
  first_known : (n : ℕ) (q : TypedProcedure) (b : TypedBlock) → slice_get t.procs n ≡ Some q → q.body ≡ Some b → IsPointOf t n (point_of_procedure t n q q.body)
  first_known n q b e h =
      subst (λ (o : Option TypedBlock). IsPointOf t n (point_of_procedure t n q o)) (sym h)
      (record { procedure = q; body = b; is = e; has = h; among = inl (first_is_listed t n q b valid e h) })

  -- the start of a run is a point of the entry
  starts_at : (q : TypedProcedure) (b : TypedBlock) → slice_get t.procs t.entry ≡ Some q → q.body ≡ Some b → (es : List TypedExpression) → start_conditions t q ≡ es →
      IsPointOf t t.entry (unless_none es (point_of_procedure t t.entry q q.body))
  starts_at q b e h [] same = first_known t.entry q b e h
  starts_at q b e h (c ∷ cs) same =
      let start : Point = record { stage = Start; todo = []; part = 0 } in
      record {
        procedure = q;
        body = b;
        is = e;
        has = h;
        among = inr (refl, subst (λ (es : List TypedExpression). IsOneOf (parts_from start 0 (length es)) start) (sym same) (inl refl));
      }

  start_known : IsPointOf t t.entry (start_point_of t (slice_get t.procs t.entry))
  start_known =
      let entry = valid_laws.entry t valid in
      subst (λ (o : Option TypedProcedure). IsPointOf t t.entry (start_point_of t o)) (sym entry.2) (starts_at entry.0 entry.1 entry.2 entry.3 (start_conditions t entry.0) refl)

  onward_known : (n : ℕ) (p : Point) → IsPointOf t n p → AllByRecursion (IsPointOf t n) (onward t.procs p (action_at t n p))
  onward_known n p k = each_listed (onward t.procs p (action_at t n p)) (IsPointOf t n) (λ r i. by_listed k.among r i)
    where
      at_entry : (m : ℕ) → m ≡ t.entry → slice_get t.procs m ≡ Some k.procedure → IsOneOf (start_points t k.procedure) p → (r : Point) → IsOneOf (onward t.procs p (action_at t m p)) r →
          IsOneOf (start_points t k.procedure ++ points_of_body t t.entry k.procedure k.body) r
      at_entry m e s i r j =
          starts_lead_to_points t k.procedure k.body valid (ap (slice_get t.procs) (sym e) ∙ s) k.has p r i
          (subst (λ (x : ℕ). IsOneOf (onward t.procs p (action_at t x p)) r) e j)

      by_listed : IsOneOf (points_of_body t n k.procedure k.body) p ⊎ ((n ≡ t.entry) × IsOneOf (start_points t k.procedure) p) → (r : Point) → IsOneOf (onward t.procs p (action_at t n p)) r →
          IsPointOf t n r
      by_listed (inl i) r j = record { procedure = k.procedure; body = k.body; is = k.is; has = k.has; among = inl (leads_to_points t n k.procedure k.body valid k.is k.has p r i j) }
      by_listed (inr (e, i)) r j =
          elim (one_of_either (start_points t k.procedure) (points_of_body t t.entry k.procedure k.body) r (at_entry n e k.is i r j)) [
            | inl h ↦ record { procedure = k.procedure; body = k.body; is = k.is; has = k.has; among = inr (e, h) }
            | inr h ↦ record {
              procedure = k.procedure;
              body = k.body;
              is = k.is;
              has = k.has;
              among = inl (subst (λ (x : ℕ). IsOneOf (points_of_body t x k.procedure k.body) r) (sym e) h);
            }
          ]

  body_call : (n : ℕ) (p : Point) (f : ℕ) (args : List TypedExpression) → IsPointOf t n p → action_at t n p ≡ actions.Enter f args → IsBodyCall t n p f args
  body_call n p f args k e = subst (IsKnownAction t n p) e (known_action n p k)

  entries_known : (n : ℕ) (p : Point) (f : ℕ) (args : List TypedExpression) → IsPointOf t n p → action_at t n p ≡ actions.Enter f args → IsPointOf t f (point_of_call t f (slice_get t.procs f))
  entries_known n p f args k e =
      let c : IsBodyCall t n p f args = body_call n p f args k e in
      subst (λ (o : Option TypedProcedure). IsPointOf t f (point_of_call t f o)) (sym c.call.is) (first_known f c.call.procedure c.body c.call.is c.has)

  locals_ordered : (n : ℕ) → ConstantsFirst (locals_at t n)
  locals_ordered n = by_procedure (slice_get t.procs n) refl
    where
      by_procedure : (o : Option TypedProcedure) → slice_get t.procs n ≡ o → ConstantsFirst (locals_if_any o)
      by_procedure None e = tt
      by_procedure (Some q) e = let h : HasParameters q = has_parameters t valid n q e in constants_first q.params q.locals h.constant h.vary

  pub knows_points : KnowsPoints t (IsPointOf t)
  knows_points = record {
    starts = start_known;
    typed = λ n p k. typed_of_known t n p (action_at t n p) (known_action n p k);
    onward = onward_known;
    entries = entries_known;
    calls = λ n p f args k e. (body_call n p f args k e).call;
    constants_first = locals_ordered;
  }

  -- ---- calls without body

  of_import : (n : ℕ) (p : Point) (a : Action) → (IsNoImport a → ⊥) → IsKnownAction t n p a → StandsAtImport t n p
  of_import n p (actions.Check id at e next) at_call h = absurd (at_call tt)
  of_import n p (actions.Suppose e next) at_call h = absurd (at_call tt)
  of_import n p (actions.Demand id at e args next) at_call h = absurd (at_call tt)
  of_import n p (actions.Write cs es next) at_call h = absurd (at_call tt)
  of_import n p (actions.Guess c next) at_call h = absurd (at_call tt)
  of_import n p (actions.Test e hit miss) at_call h = absurd (at_call tt)
  of_import n p (actions.Pick ways) at_call h = absurd (at_call tt)
  of_import n p (actions.Jump next) at_call h = absurd (at_call tt)
  of_import n p (actions.Enter f args) at_call h = absurd (at_call tt)
  of_import n p (actions.Keep f args c next) at_call h = record { callee = f; args = args; known = h }
  of_import n p (actions.Grant f args e next) at_call h = record { callee = f; args = args; known = h }
  of_import n p (actions.Finish f args targets next) at_call h = record { callee = f; args = args; known = h }
  of_import n p actions.Leave at_call h = absurd (at_call tt)

  pub imports_known : (n : ℕ) (p : Point) → IsPointOf t n p → (IsNoImport (action_at t n p) → ⊥) → StandsAtImport t n p
  imports_known n p k at_call = of_import n p (action_at t n p) at_call (known_action n p k)
