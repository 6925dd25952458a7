-- What is kept along a run of a program: each frame stands where a run of its part can be, from which no assertion fails.
use Rattle.std.proofs.Common.{◌≡◌, ℕ, zero, suc, ◌+◌, ℤ, Bool, true, false, ◌&&◌, List, [], ◌∷◌, ◌++◌, take, if◌then◌else◌, Some, slice_get, IsTrue, refl, sym, ap, subst, ◌∙◌}
use Rattle.std.specs.List.{AllByRecursion, list_all}
use Rattle.std.proofs.lemmas.Bool.{and_parts}
use Rattle.math_facts.specs.Optional.{or_zero}
use Rattle.boogie_tree.specs.declared.tree.VarInfo.{VarInfo}
use Rattle.typed_tree.specs.TypedTree.{TypedExpression, TypedBlock, TypedSpecification, Requires, Ensures, TypedProcedure, TypedProgram}
use Rattle.typed_tree.specs.Scope.{axiom_scope, requires_scope, body_scope}
use Rattle.typed_tree.specs.Values.{State, member, value}
use Rattle.typed_tree.specs.TypingRules.Rules.{is_condition, is_specification, is_body_if_any, context_of, params_of, procedure_keeps_rules, keeps_typing}
use Rattle.typed_tree.specs.TypingRules.Shape.{has_shape}
use Rattle.typed_tree.specs.TypingRules.Counts.{numbers_fit}
use Rattle.typed_tree.specs.TypingRules.ValidProgram.{has_entry, is_typed, is_valid}
use Rattle.boogie_run.specs.BoogiePoints.Points.{Point}
use Rattle.boogie_run.specs.BoogiePoints.Actions as actions
use Rattle.boogie_run.specs.BoogiePoints.Actions.{Action, action_at, plain_conditions, ensured_conditions}
use Rattle.boogie_run.specs.Configurations.{Frame, Config, state_of}
use Rattle.boogie_run.specs.Needs.{Need, locals_if_any, locals_at, is_taken}
use Rattle.boogie_run.specs.Runs.{NoChoicesFail}
use Rattle.boogie_run.specs.Steps.{is_true, moved_to}
use Rattle.lowered_graph.specs.LoweredSteps.Moves.{HasTypes, IsGood, IsMove, filled}
use Rattle.lowered_graph.proofs.LoweredSteps.Goodness.{append_none, done_is}
use Rattle.lowered_graph.specs.LoweredImports.KnownPoints.{IsPointOf}
use Rattle.lowered_graph.proofs.LoweredImports.RightPoints.{PointRight}
use Rattle.lowered_graph.proofs.LoweredImports.PointLaws.{knows_points, point_right}
use Rattle.lowered_graph.proofs.LoweredRuns.Forward.{IsOwn, Follows, move_own}
use Rattle.modular_cut.specs.Parts.{own_procedure, procedure_part}
use Rattle.modular_cut.proofs.Called.{Renumbers, calls, part_procs, procs_are, own_is, renumbered, part_program}
use Rattle.modular_cut.proofs.SamePoints.{SamePoint}
use Rattle.modular_cut.proofs.SameActions.{SameStep, step_same}
use Rattle.modular_cut.proofs.SeenValues.{condition_value, axiom_sees}
use Rattle.modular_cut.proofs.ChosenGlobals.{DifferIn}
use Rattle.modular_cut.proofs.Fine.{alone, changed, HeldAt, Fine, fine_move}
use Rattle.modular_cut.proofs.PartMoves.{StaysInside, Acted, acted, need_same}

-- the part of procedure n, which is valid and safe
pub record PartFor (t : TypedProgram) (n : ℕ) : Type 0 where
  pub procedure : TypedProcedure
  pub body : TypedBlock
  pub is : slice_get t.procs n ≡ Some procedure
  pub has : procedure.body ≡ Some body
  pub parts : List TypedProcedure
  pub r : ℕ → ℕ
  pub own : slice_get parts n ≡ Some (own_procedure r procedure)
  pub calls : Renumbers t.procs parts r
  pub valid : IsTrue (is_valid (part_program t n parts))
  pub safe : NoChoicesFail (part_program t n parts)

abbrev pub part_for : (t : TypedProgram) (n : ℕ) (q : TypedProcedure) (b : TypedBlock) → slice_get t.procs n ≡ Some q → q.body ≡ Some b → IsTrue (is_valid (procedure_part t n)) × NoChoicesFail (procedure_part t n) → PartFor t n
part_for t n q b is has good =
    let same : procedure_part t n ≡ part_program t n (part_procs t n q is) = ap (part_program t n) (procs_are t n q is) in
    record {
      procedure = q;
      body = b;
      is = is;
      has = has;
      parts = part_procs t n q is;
      r = calls t n q is;
      own = own_is t n q is;
      calls = renumbered t n q is;
      valid = subst (λ (u : TypedProgram). IsTrue (is_valid u)) same good.0;
      safe = subst NoChoicesFail same good.1;
    }

pub locals_same : (t : TypedProgram) (n : ℕ) (p : PartFor t n) → locals_at (part_program t n p.parts) n ≡ locals_at t n
locals_same t n p = ap locals_if_any p.own ∙ sym (ap locals_if_any p.is)

-- The frame stands where a run of its part can be, from which no assertion fails; and the globals that its procedure may not modify are as at its entry.
pub record Stands (t : TypedProgram) (gs : List ℤ) (f : Frame) : Type 0 where
  pub part : PartFor t f.proc
  pub point : Point
  pub same : SamePoint part.r f.point point
  pub fine : Fine (part_program t f.proc part.parts) (alone gs f point)
  pub modified : DifferIn part.procedure.modifies f.entry gs

-- the frames below another, which was entered with these constants and globals
abbrev pub BelowStands : TypedProgram → List ℤ → List Frame → Type 0
BelowStands t gs [] = Unit {0}
BelowStands t gs (b ∷ bs) = Stands t gs b × BelowStands t b.entry bs

-- the axioms are true
abbrev pub AxiomsHold : TypedProgram → List ℤ → Type 0
AxiomsHold t gs = AllByRecursion (λ e. is_true (value (record { globals = gs; old = gs; locals = [] }) e) ≡ true) t.axioms

pub record Covered (t : TypedProgram) (c : Config) : Type 0 where
  pub good : IsGood t (IsPointOf t) c
  pub top : Stands t c.globals c.top
  pub held : HeldAt t.procs top.part.procedure c.top.point (state_of c)
  pub below : BelowStands t c.top.entry c.below
  pub axioms : AxiomsHold t c.globals

-- ---- typing

pub passes_at : {X : Type 0} (a : X → Bool) (xs : List X) (n : ℕ) (x : X) → list_all a xs ≡ true → slice_get xs n ≡ Some x → a x ≡ true
passes_at a [] n x h e = absurd (cc)
passes_at a (y ∷ ys) zero x h e = let same : y ≡ x = cc in sym (ap a same) ∙ (and_parts (a y) (list_all a ys) h).0
passes_at a (y ∷ ys) (suc n) x h e = passes_at a ys n x (and_parts (a y) (list_all a ys) h).1 e

requires_of : (globals : List VarInfo) (p : TypedProcedure) (ss : List TypedSpecification) → list_all (is_specification globals p) ss ≡ true →
    AllByRecursion (λ i. is_condition (requires_scope globals (params_of p)) i.cond ≡ true) (plain_conditions ss)
requires_of globals p [] h = tt
requires_of globals p (Requires i ∷ ss) h =
    let both = and_parts (is_condition (requires_scope globals (params_of p)) i.cond) (list_all (is_specification globals p) ss) h in by_free i.free both.0 (requires_of globals p ss both.1)
  where
    by_free : (b : Bool) → is_condition (requires_scope globals (params_of p)) i.cond ≡ true →
        AllByRecursion (λ j. is_condition (requires_scope globals (params_of p)) j.cond ≡ true) (plain_conditions ss) →
        AllByRecursion (λ j. is_condition (requires_scope globals (params_of p)) j.cond ≡ true) (if b then plain_conditions ss else i ∷ plain_conditions ss)
    by_free true e k = k
    by_free false e k = (e, k)
requires_of globals p (Ensures i ∷ ss) h = requires_of globals p ss (and_parts (is_specification globals p (Ensures i)) (list_all (is_specification globals p) ss) h).1

ensures_of : (globals : List VarInfo) (p : TypedProcedure) (ss : List TypedSpecification) → list_all (is_specification globals p) ss ≡ true →
    AllByRecursion (λ i. is_condition (body_scope globals (take (p.params + p.results) p.locals)) i.cond ≡ true) (ensured_conditions ss)
ensures_of globals p [] h = tt
ensures_of globals p (Requires i ∷ ss) h = ensures_of globals p ss (and_parts (is_specification globals p (Requires i)) (list_all (is_specification globals p) ss) h).1
ensures_of globals p (Ensures i ∷ ss) h =
    let both = and_parts (is_condition (body_scope globals (take (p.params + p.results) p.locals)) i.cond) (list_all (is_specification globals p) ss) h in (both.0, ensures_of globals p ss both.1)

module _ (t : TypedProgram) (valid : IsTrue (is_valid t)) where
  keeps : keeps_typing t ≡ true
  keeps = (and_parts (keeps_typing t) (has_entry t) (and_parts (has_shape t) (keeps_typing t && has_entry t) (and_parts (is_typed t) (numbers_fit t) valid).0).1).0

  rules : (list_all (is_condition (axiom_scope t.globals)) t.axioms ≡ true) × (list_all (procedure_keeps_rules t.globals t.procs) t.procs ≡ true)
  rules = and_parts (list_all (is_condition (axiom_scope t.globals)) t.axioms) (list_all (procedure_keeps_rules t.globals t.procs) t.procs) keeps

  specifications_typed : (n : ℕ) (p : TypedProcedure) → slice_get t.procs n ≡ Some p → list_all (is_specification t.globals p) p.specs ≡ true
  specifications_typed n p e =
      (and_parts (list_all (is_specification t.globals p) p.specs) (is_body_if_any (context_of t.globals t.procs p) p.body) (passes_at (procedure_keeps_rules t.globals t.procs) t.procs n p rules.1 e)).0

  pub requires_typed : (n : ℕ) (p : TypedProcedure) → slice_get t.procs n ≡ Some p → AllByRecursion (λ i. is_condition (requires_scope t.globals (params_of p)) i.cond ≡ true) (plain_conditions p.specs)
  requires_typed n p e = requires_of t.globals p p.specs (specifications_typed n p e)

  pub ensures_typed : (n : ℕ) (p : TypedProcedure) → slice_get t.procs n ≡ Some p → AllByRecursion (λ i. is_condition (body_scope t.globals (take (p.params + p.results) p.locals)) i.cond ≡ true) (ensured_conditions p.specs)
  ensures_typed n p e = ensures_of t.globals p p.specs (specifications_typed n p e)

  -- axioms stay true where constants stay
  pub axioms_at : (a b : State) → ((n : ℕ) (v : VarInfo) → slice_get t.globals n ≡ Some v → v.constant ≡ true → member a.globals n ≡ member b.globals n) →
      (es : List TypedExpression) → list_all (is_condition (axiom_scope t.globals)) es ≡ true → AllByRecursion (λ e. is_true (value a e) ≡ true) es → AllByRecursion (λ e. is_true (value b e) ≡ true) es
  axioms_at a b h [] k trues = tt
  axioms_at a b h (e ∷ es) k trues =
      let both = and_parts (is_condition (axiom_scope t.globals) e) (list_all (is_condition (axiom_scope t.globals)) es) k in
      (sym (ap is_true (condition_value (axiom_scope t.globals) e a b both.0 (axiom_sees t.globals a b h))) ∙ trues.0, axioms_at a b h es both.1 trues.1)

  pub axioms_typed : list_all (is_condition (axiom_scope t.globals)) t.axioms ≡ true
  axioms_typed = rules.0

  -- the statement that stands first at the point keeps the typing rules of its procedure
  pub right_at : (n : ℕ) (p : Point) (q : TypedProcedure) → IsPointOf t n p → slice_get t.procs n ≡ Some q → PointRight t q p
  right_at n p q k e =
      let one : Some k.procedure ≡ Some q = sym k.is ∙ e in
      let same : k.procedure ≡ q = cc in
      subst (λ (x : TypedProcedure). PointRight t x p) same (point_right t valid n p k)

  -- the action of the frame and that of its part
  pub step_of : (gs : List ℤ) (f : Frame) (s : Stands t gs f) → IsPointOf t f.proc f.point →
      SameStep t.procs s.part.procedure s.part.r f.point (action_at t f.proc f.point) (action_at (part_program t f.proc s.part.parts) f.proc s.point)
  step_of gs f s known =
      let p : PartFor t f.proc = s.part in
      step_same t f.proc p.procedure p.body p.parts p.r p.calls p.is p.has p.own f.point s.point s.same (right_at f.proc f.point p.procedure known p.is)

  -- ---- an action of the frame itself

  own_of : (a : Action) → StaysInside a → IsOwn a
  own_of (actions.Check id at e next) h = h
  own_of (actions.Suppose e next) h = h
  own_of (actions.Demand id at e args next) h = h
  own_of (actions.Write cs es next) h = h
  own_of (actions.Guess c next) h = h
  own_of (actions.Test e hit miss) h = h
  own_of (actions.Pick ways) h = h
  own_of (actions.Jump next) h = h
  own_of (actions.Enter f args) h = h
  own_of (actions.Keep f args c next) h = h
  own_of (actions.Grant f args e next) h = h
  own_of (actions.Finish f args targets next) h = h
  own_of actions.Leave h = absurd h

  pub own_covered : (c d : Config) → Covered t c → IsMove t c d → StaysInside (action_at t c.top.proc c.top.point) → Covered t d
  own_covered c d v m inside =
      let n : ℕ = c.top.proc in
      let p : PartFor t n = v.top.part in
      let u : TypedProgram = part_program t n p.parts in
      let a1 : Action = action_at t n c.top.point in
      let a2 : Action = action_at u n v.top.point in
      let step : SameStep t.procs p.procedure p.r c.top.point a1 a2 = step_of c.globals c.top v.top v.good.top.known in
      let a : Acted t u p.procedure p.r refl c v.top.point (or_zero m.choice) m.mid a2 = acted t u p.procedure p.r refl c v.top.point (or_zero m.choice) m.mid a1 a2 step inside v.held m.went in
      let f : Follows t (IsPointOf t) (knows_points t valid) c m.mid = move_own t (IsPointOf t) (knows_points t valid) c m.choice m.mid v.good (own_of a1 inside) m.taken m.went in
      let x : Config = moved_to (changed c a.state) a.point in
      let d_is : d ≡ x = done_is t m.mid d m.more f.good.top.keeps.locals m.typed m.done ∙ a.is in
      let good : IsGood t (IsPointOf t) x = subst (IsGood t (IsPointOf t)) a.is f.good in
      let c2 : Config = alone c.globals c.top v.top.point in
      let x2 : Config = alone x.globals x.top a.point2 in
      let full : x2 ≡ filled x2 [] = λ i. record x2 { top = record x2.top { locals = sym (append_none x2.top.locals) i } } in
      let typed : HasTypes (locals_at u n) (x2.top.locals ++ []) = subst (HasTypes (locals_at u n)) (sym (append_none x2.top.locals)) (subst (λ (vs : List VarInfo). HasTypes vs x2.top.locals) (sym (locals_same t n p)) good.top.keeps.locals) in
      let move : IsMove u c2 x2 = record {
        plain = a.plain;
        choice = m.choice;
        taken = ap (λ (need : Need). is_taken need m.choice) (need_same t u p.procedure p.r refl n c.top.point a1 a2 (locals_same t n p) step inside) ∙ m.taken;
        mid = x2;
        went = a.went;
        more = [];
        typed = typed;
        done = full;
      } in
      subst (Covered t) (sym d_is) (record {
        good = good;
        top = record {
          part = p;
          point = a.point2;
          same = a.same;
          fine = fine_move u c2 x2 p.valid v.top.fine move;
          modified = λ k none. a.modified k none ∙ v.top.modified k none;
        };
        held = a.held;
        below = v.below;
        axioms = axioms_at (record { globals = c.globals; old = c.globals; locals = [] }) (record { globals = x.globals; old = x.globals; locals = [] })
            (λ k w e const. sym (v.good.top.keeps.constants k w e const) ∙ good.top.keeps.constants k w e const) t.axioms axioms_typed v.axioms;
      })
