-- Where a procedure begins its part does, behind the conditions that it assumes at its start.
use Rattle.std.proofs.Common.{◌≡◌, ℕ, zero, suc, ◌+◌, ◌<◌, ℤ, Bool, true, List, [], ◌∷◌, ◌++◌, map, length, take, Option, None, Some, slice_get, IsTrue, refl, sym, ap, subst, ◌∙◌, arith, if◌then◌else◌}
use Rattle.std.specs.List.{AllByRecursion}
use Rattle.std.specs.Option.{option_map}
use Rattle.std.proofs.lemmas.Option.{slice_get_within}
use Rattle.std.proofs.lemmas.List.{length-map}
use Rattle.math_facts.specs.Optional.{or_zero}
use Rattle.boogie_tree.specs.declared.tree.Column.{Column}
use Rattle.boogie_tree.specs.declared.tree.VarInfo.{VarInfo}
use Rattle.typed_tree.specs.TypedTree.{TypedExpression, TypedInvariant, TypedBlock, TypedProcedure, TypedProgram}
use Rattle.typed_tree.specs.Scope.{requires_scope}
use Rattle.typed_tree.specs.Values.{State, member, value}
use Rattle.typed_tree.specs.TypingRules.Rules.{is_condition, params_of}
use Rattle.typed_tree.specs.TypingRules.ValidProgram.{is_valid}
use Rattle.boogie_run.specs.BoogiePoints.Points.{Start, Point}
use Rattle.boogie_run.specs.BoogiePoints.Actions as actions
use Rattle.boogie_run.specs.BoogiePoints.Actions.{Action, action_at, plain_conditions, unseen_action, start_conditions, start_action, first_point, first_assertion, first_place, stage_action, body_or_leave, procedure_action, next_part}
use Rattle.boogie_run.specs.BoogiePoints.Starts.{point_of_procedure, point_of_call, unless_none, start_point_of}
use Rattle.boogie_run.specs.Configurations.{Config, state_of}
use Rattle.boogie_run.specs.Needs.{locals_at, need_of_action, is_taken}
use Rattle.boogie_run.specs.Runs.{NoChoicesFail}
use Rattle.boogie_run.specs.Steps.{Went, Blocked, values, is_true, moved_to, passed_state, entered, start, act}
use Rattle.lowered_graph.specs.LoweredSteps.ProgramFrames.{frame_at}
use Rattle.lowered_graph.specs.LoweredSteps.Moves.{HasTypes, IsGood, IsMove, IsNoImport, IsKnownCall, KnowsPoints, filled}
use Rattle.lowered_graph.proofs.LoweredSteps.Goodness.{append_none, arguments_length}
use Rattle.lowered_graph.specs.LoweredImports.Imports.{IsImport}
use Rattle.lowered_graph.specs.LoweredImports.KnownPoints.{IsPointOf}
use Rattle.lowered_graph.proofs.LoweredImports.PointLaws.{knows_points}
use Rattle.lowered_graph.proofs.LoweredRuns.Forward.{Follows, enter_follows}
use Rattle.lowered_graph.proofs.LoweredRuns.Machine.{start_runs}
use Rattle.lowered_graph.proofs.LoweredRuns.MachineLaws.{imports_are_steps}
use Rattle.lowered_graph.proofs.LoweredRuns.MovesOfRuns.{breaks_run}
use Rattle.lowered_graph.proofs.LoweredRuns.Taken.{all_at}
use Rattle.modular_cut.specs.Parts.{recalled_block, own_procedure, procedure_part}
use Rattle.modular_cut.proofs.Called.{part_program}
use Rattle.modular_cut.proofs.SamePoints.{SamePoint}
use Rattle.modular_cut.proofs.SameActions.{claim_state, IsAtCall, SameStep, check, suppose, demand, write, guess, test, pick, jump, enter, import, leave, first_points_same, first_point_part}
use Rattle.modular_cut.proofs.SeenValues.{condition_value, requires_sees, member_front}
use Rattle.modular_cut.proofs.Fine.{alone, HeldAt, none_held, Fine, fine_move}
use Rattle.modular_cut.proofs.Frames.{PartFor, part_for, locals_same, Covered, requires_typed, axioms_at, axioms_typed, step_of}

-- ---- lists

all_append : {X : Type 0} (P : X → Type 0) (xs ys : List X) → AllByRecursion P xs → AllByRecursion P ys → AllByRecursion P (xs ++ ys)
all_append P [] ys h k = k
all_append P (x ∷ xs) ys h k = (h.0, all_append P xs ys h.1 k)

all_map : {X Y : Type 0} (P : Y → Type 0) (h : X → Y) (xs : List X) → AllByRecursion (λ x. P (h x)) xs → AllByRecursion P (map h xs)
all_map P h [] k = tt
all_map P h (x ∷ xs) k = (k.0, all_map P h xs k.1)

-- ---- a condition that is assumed

pub suppose_move : (u : TypedProgram) (c : Config) (e : TypedExpression) (next : Point) → action_at u c.top.proc c.top.point ≡ actions.Suppose e next → is_true (value (state_of c) e) ≡ true → HasTypes (locals_at u c.top.proc) c.top.locals →
    IsMove u c (moved_to c next)
suppose_move u c e next is true_is typed =
    let to : Action → Type 0 = λ a. act u c (or_zero None) a ≡ Went (moved_to c next) in
    let went : to (actions.Suppose e next) = ap (λ (b : Bool). if b then Went (moved_to c next) else Blocked) true_is in
    let x : Config = moved_to c next in
    record {
      plain = subst IsNoImport (sym is) tt;
      choice = None;
      taken = ap (λ (a : Action). is_taken (need_of_action u c.top.proc a) None) is;
      mid = x;
      went = subst to (sym is) went;
      more = [];
      typed = subst (HasTypes (locals_at u c.top.proc)) (sym (append_none c.top.locals)) typed;
      done = λ i. record x { top = record x.top { locals = sym (append_none c.top.locals) i } };
    }

-- ---- the start of a part

module _ (t : TypedProgram) (n : ℕ) (p : PartFor t n) where
  abbrev pub program : TypedProgram
  program = part_program t n p.parts

  -- what is assumed at the start
  abbrev pub assumed : List TypedExpression
  assumed = start_conditions t p.procedure

  -- the first point of the body, in the program and in the part
  abbrev pub own_first : Point
  own_first = first_point p.procedure p.body (first_assertion t.procs n) (first_place t n)

  abbrev pub part_first : Point
  part_first = first_point (own_procedure p.r p.procedure) (recalled_block p.r p.body) (first_assertion p.parts n) (first_place program n)

  pub firsts_same : SamePoint p.r own_first part_first
  firsts_same = first_points_same t n p.procedure p.body p.parts p.r p.calls

  pub own_first_part : own_first.part ≡ 0
  own_first_part = first_point_part t n p.procedure p.body p.parts p.r p.calls

  abbrev at_start : ℕ → Point
  at_start k = record { stage = Start; todo = []; part = k }

  start_acts : (k : ℕ) → action_at program n (at_start k) ≡ start_action (slice_get assumed k) (slice_get assumed (k + 1)) (at_start k) part_first
  start_acts k =
      ap (λ (o : Option TypedProcedure). procedure_action program n o (at_start k)) p.own
      ∙ ap (λ (o : Option TypedBlock). body_or_leave program n (own_procedure p.r p.procedure) (option_map (recalled_block p.r) o) (at_start k)) p.has

  -- with these constants, globals and locals
  abbrev part_at : List ℤ → List ℤ → Point → Config
  part_at gs ls x = record { globals = gs; top = record { proc = n; locals = ls; entry = gs; point = x; kept = [] }; below = [] }

  walk : (gs ls : List ℤ) (es : List TypedExpression) (e : TypedExpression) (k : ℕ) → ((j : ℕ) → slice_get (e ∷ es) j ≡ slice_get assumed (k + j)) →
      AllByRecursion (λ x. is_true (value (record { globals = gs; old = gs; locals = ls }) x) ≡ true) (e ∷ es) → Fine program (part_at gs ls (at_start k)) → Fine program (part_at gs ls part_first)
  walk gs ls [] e k at trues f =
      let here : slice_get assumed k ≡ Some e = (let z : k + 0 ≡ k = omega arith in sym (ap (slice_get assumed) z) ∙ sym (at 0)) in
      let none : slice_get assumed (k + 1) ≡ None = sym (at 1) in
      let is : action_at program n (at_start k) ≡ actions.Suppose e part_first = start_acts k ∙ (λ i. start_action (here i) (none i) (at_start k) part_first) in
      fine_move program (part_at gs ls (at_start k)) (part_at gs ls part_first) p.valid f (suppose_move program (part_at gs ls (at_start k)) e part_first is trues.0 f.good.top.keeps.locals)
  walk gs ls (d ∷ es) e k at trues f =
      let here : slice_get assumed k ≡ Some e = (let z : k + 0 ≡ k = omega arith in sym (ap (slice_get assumed) z) ∙ sym (at 0)) in
      let more : slice_get assumed (k + 1) ≡ Some d = sym (at 1) in
      let is : action_at program n (at_start k) ≡ actions.Suppose e (next_part (at_start k)) = start_acts k ∙ (λ i. start_action (here i) (more i) (at_start k) part_first) in
      let g : Fine program (part_at gs ls (at_start (k + 1))) =
      fine_move program (part_at gs ls (at_start k)) (part_at gs ls (at_start (k + 1))) p.valid f (suppose_move program (part_at gs ls (at_start k)) e (next_part (at_start k)) is trues.0 f.good.top.keeps.locals) in
      walk gs ls es d (k + 1) (λ j. let z : k + suc j ≡ k + 1 + j = omega arith in at (suc j) ∙ ap (slice_get assumed) z) trues.1 g

  -- the first configuration, from which no assertion fails since the part is safe
  begins : (gs ls : List ℤ) → HasTypes t.globals gs → HasTypes (locals_at program n) ls → Fine program (part_at gs ls (start_point_of program (slice_get p.parts n)))
  begins gs ls g l =
      let know : KnowsPoints program (IsPointOf program) = knows_points program p.valid in
      let c : Config = part_at gs ls (start_point_of program (slice_get p.parts n)) in
      let good : IsGood program (IsPointOf program) c = record {
        top = record { keeps = record { globals = g; old = g; locals = l; constants = λ m v e k. refl }; known = know.starts; nothing_kept = refl };
        below = tt;
      } in
      record {
        good = good;
        unbroken = λ i k b.
            let steps = imports_are_steps program p.valid in
            let r = breaks_run program (IsPointOf program) know (IsImport program) steps i k c good b in
            p.safe i (map Some gs ++ (map Some ls ++ r.0), start_runs program (IsPointOf program) know (IsImport program) steps i gs ls r.0 g l ∙ r.1);
      }

  start_point_is : start_point_of program (slice_get p.parts n) ≡ unless_none assumed part_first
  start_point_is =
      ap (start_point_of program) p.own
      ∙ ap (λ (o : Option TypedBlock). unless_none assumed (point_of_procedure program n (own_procedure p.r p.procedure) (option_map (recalled_block p.r) o))) p.has

  pub part_begins : (gs ls : List ℤ) → HasTypes t.globals gs → HasTypes (locals_at t n) ls →
      AllByRecursion (λ x. is_true (value (record { globals = gs; old = gs; locals = ls }) x) ≡ true) assumed → Fine program (part_at gs ls part_first)
  part_begins gs ls g l trues =
      by_list assumed (λ j. refl) trues (subst (λ (x : Point). Fine program (part_at gs ls x)) start_point_is (begins gs ls g (subst (λ (vs : List VarInfo). HasTypes vs ls) (sym (locals_same t n p)) l)))
    where
      by_list : (es : List TypedExpression) → ((j : ℕ) → slice_get es j ≡ slice_get assumed j) → AllByRecursion (λ x. is_true (value (record { globals = gs; old = gs; locals = ls }) x) ≡ true) es →
          Fine program (part_at gs ls (unless_none es part_first)) → Fine program (part_at gs ls part_first)
      by_list [] at k f = f
      by_list (e ∷ es) at k f = walk gs ls es e 0 (λ j. let z : j ≡ 0 + j = omega arith in at j ∙ ap (slice_get assumed) z) k f

-- ---- a call

-- what the part does where a procedure with a body is entered
pub record IsEnter (procs : List TypedProcedure) (q : TypedProcedure) (r : ℕ → ℕ) (here : Point) (f : ℕ) (args : List TypedExpression) (a2 : Action) : Type 0 where
  pub call : IsAtCall procs q here f args
  pub body : TypedBlock
  pub has : call.callee.body ≡ Some body
  pub column : Option Column
  pub ensured : Option TypedInvariant
  pub targets : List Column
  pub at : Point
  pub next : Point
  pub is : a2 ≡ unseen_action column ensured (r f) targets args at next

pub enters : (procs : List TypedProcedure) (q : TypedProcedure) (r : ℕ → ℕ) (here : Point) (f : ℕ) (args : List TypedExpression) (a a2 : Action) → SameStep procs q r here a a2 → a ≡ actions.Enter f args → IsEnter procs q r here f args a2
enters procs q r here f args a a2 (check i j at e p o same goes) is = absurd (cc)
enters procs q r here f args a a2 (suppose e p o same goes) is = absurd (cc)
enters procs q r here f args a a2 (demand i j at e xs p o same goes) is = absurd (cc)
enters procs q r here f args a a2 (write cs es p o same goes within) is = absurd (cc)
enters procs q r here f args a a2 (guess x p o same goes within) is = absurd (cc)
enters procs q r here f args a a2 (test e hit miss hit2 miss2 same same2 start start2) is = absurd (cc)
enters procs q r here f args a a2 (pick ps qs same start) is = absurd (cc)
enters procs q r here f args a a2 (jump p o same start) is = absurd (cc)
enters procs q r here f args a a2 (enter g xs k body has o e targets h nx) is =
    let same : g ≡ f = cc in
    let alike : xs ≡ args = cc in
    let one : IsEnter procs q r here g xs (unseen_action o e (r g) targets xs h nx) = record { call = k; body = body; has = has; column = o; ensured = e; targets = targets; at = h; next = nx; is = refl } in
    subst (λ (ys : List TypedExpression). IsEnter procs q r here f ys (unseen_action o e (r g) targets xs h nx)) alike (subst (λ (y : ℕ). IsEnter procs q r here y xs (unseen_action o e (r g) targets xs h nx)) same one)
enters procs q r here f args a a2 (import g xs k o e targets h nx h2 nx2) is = absurd (by_part o e is)
  where
    by_part : (o : Option Column) (e : Option TypedInvariant) → unseen_action o e g targets xs h nx ≡ actions.Enter f args → ⊥
    by_part (Some x) e is = cc
    by_part None (Some y) is = cc
    by_part None None is = cc
enters procs q r here f args a a2 (leave claims_are state_is done) is = absurd (cc)

-- ---- the frame that is entered

pub all_from : {X : Type 0} (P : X → Type 0) (xs : List X) → ((j : ℕ) (x : X) → slice_get xs j ≡ Some x → P x) → AllByRecursion P xs
all_from P [] h = tt
all_from P (x ∷ xs) h = (h 0 x refl, all_from P xs (λ j y e. h (suc j) y e))

pub before_none : {X : Type 0} (xs : List X) (j k : ℕ) (x : X) → slice_get xs k ≡ None → slice_get xs j ≡ Some x → j < k
before_none [] j k x n e = absurd (cc)
before_none (y ∷ ys) j zero x n e = absurd (cc)
before_none (y ∷ ys) zero (suc k) x n e = omega arith
before_none (y ∷ ys) (suc j) (suc k) x n e = let h = before_none ys j k x n e in omega arith

-- the parts are valid and safe
abbrev pub AreSafe : TypedProgram → Type 0
AreSafe t = (n : ℕ) (q : TypedProcedure) (b : TypedBlock) → slice_get t.procs n ≡ Some q → q.body ≡ Some b → IsTrue (is_valid (procedure_part t n)) × NoChoicesFail (procedure_part t n)

module _ (t : TypedProgram) (valid : IsTrue (is_valid t)) (every : AreSafe t) where
  -- what was shown at the call is true at the entry
  requires_true : (c : Config) (f : ℕ) (args : List TypedExpression) (more : List ℤ) (q : TypedProcedure) → (call : IsAtCall t.procs q c.top.point f args) → HeldAt t.procs q c.top.point (state_of c) →
      length args ≡ length (params_of call.callee) →
      AllByRecursion (λ i. is_true (value (record { globals = c.globals; old = c.globals; locals = values (state_of c) args ++ more }) i.cond) ≡ true) (plain_conditions call.callee.specs)
  requires_true c f args more q call held many =
      let p : TypedProcedure = call.callee in
      let zs : List ℤ = values (state_of c) args in
      let before : State = passed_state (state_of c) args in
      let after : State = record { globals = c.globals; old = c.globals; locals = zs ++ more } in
      let as_many : length zs ≡ length args = length-map args (value (state_of c)) in
      let own : (m : ℕ) (v : VarInfo) → slice_get (params_of p) m ≡ Some v → member zs m ≡ member (zs ++ more) m =
      λ m v e. let l : m < length (params_of p) = slice_get_within (params_of p) m v e in sym (ap (λ (ys : List ℤ). member ys m) (append_none zs)) ∙ member_front zs [] more m (omega arith) in
      all_from (λ i. is_true (value after i.cond) ≡ true) (plain_conditions p.specs)
      (λ j i found.
      let l : j < c.top.point.part = before_none (plain_conditions p.specs) j c.top.point.part i call.done found in
      let told : is_true (value (claim_state c.top.point (state_of c)) i.cond) ≡ true = held j i l (ap (λ (xs : List TypedInvariant). slice_get xs j) call.claims_are ∙ found) in
      let typed : is_condition (requires_scope t.globals (params_of p)) i.cond ≡ true = all_at (λ y. is_condition (requires_scope t.globals (params_of p)) y.cond ≡ true) (plain_conditions p.specs) j i (requires_typed t valid f p call.is) found in
      sym (ap is_true (condition_value (requires_scope t.globals (params_of p)) i.cond before after typed (requires_sees t.globals (params_of p) before after refl own)))
      ∙ sym (ap (λ (s : State). is_true (value s i.cond)) (call.state_is (state_of c))) ∙ told)

  arguments_many : (n f : ℕ) (here : Point) (args : List TypedExpression) (p : TypedProcedure) → IsPointOf t n here → action_at t n here ≡ actions.Enter f args → slice_get t.procs f ≡ Some p → length args ≡ length (params_of p)
  arguments_many n f here args p known is e =
      let k : IsKnownCall t n here f args = (knows_points t valid).calls n here f args known is in
      let one : Some k.procedure ≡ Some p = sym k.is ∙ e in
      let same : k.procedure ≡ p = cc in
      arguments_length (frame_at t n) (take k.procedure.params k.procedure.locals) args k.arguments ∙ ap (λ (x : TypedProcedure). length (params_of x)) same

  pub enter_covered : (c d : Config) (f : ℕ) (args : List TypedExpression) → Covered t c → IsMove t c d → action_at t c.top.proc c.top.point ≡ actions.Enter f args → Covered t d
  enter_covered c d f args v m is =
      let n : ℕ = c.top.proc in
      let p : PartFor t n = v.top.part in
      let a2 : Action = action_at (part_program t n p.parts) n v.top.point in
      let e : IsEnter t.procs p.procedure p.r c.top.point f args a2 = enters t.procs p.procedure p.r c.top.point f args (action_at t n c.top.point) a2 (step_of t valid c.globals c.top v.top v.good.top.known) is in
      let q : TypedProcedure = e.call.callee in
      let pf : PartFor t f = part_for t f q e.body e.call.is e.has (every f q e.body e.call.is e.has) in
      let zs : List ℤ = values (state_of c) args in
      let went : act t c (or_zero m.choice) (actions.Enter f args) ≡ Went m.mid = subst (λ (a : Action). act t c (or_zero m.choice) a ≡ Went m.mid) is m.went in
      let mid_is : m.mid ≡ entered t c f zs = cc in
      let typed : HasTypes (locals_at t f) (zs ++ m.more) = subst (λ (y : Config). HasTypes (locals_at t y.top.proc) (y.top.locals ++ m.more)) mid_is m.typed in
      let x : Config = filled (entered t c f zs) m.more in
      let d_is : d ≡ x = m.done ∙ ap (λ (y : Config). filled y m.more) mid_is in
      let follows : Follows t (IsPointOf t) (knows_points t valid) c x = enter_follows t (IsPointOf t) (knows_points t valid) c f args m.more v.good is typed in
      let after : State = record { globals = c.globals; old = c.globals; locals = zs ++ m.more } in
      let axioms : AllByRecursion (λ y. is_true (value after y) ≡ true) t.axioms =
      axioms_at t valid (record { globals = c.globals; old = c.globals; locals = [] }) after (λ k w o const. refl) t.axioms (axioms_typed t valid) v.axioms in
      let requires : AllByRecursion (λ i. is_true (value after i.cond) ≡ true) (plain_conditions q.specs) =
      requires_true c f args m.more p.procedure e.call v.held (arguments_many n f c.top.point args q v.good.top.known is e.call.is) in
      let trues : AllByRecursion (λ y. is_true (value after y) ≡ true) (assumed t f pf) =
      all_append (λ y. is_true (value after y) ≡ true) t.axioms (map (λ i. i.cond) (plain_conditions q.specs)) axioms (all_map (λ y. is_true (value after y) ≡ true) (λ i. i.cond) (plain_conditions q.specs) requires) in
      let fine : Fine (program t f pf) (alone x.globals x.top (part_first t f pf)) = part_begins t f pf c.globals (zs ++ m.more) v.good.top.keeps.globals typed trues in
      let point_is : x.top.point ≡ own_first t f pf = ap (point_of_call t f) e.call.is ∙ ap (λ (o : Option TypedBlock). point_of_procedure t f q o) e.has in
      subst (Covered t) (sym d_is) (record {
        good = follows.good;
        top = record {
          part = pf;
          point = part_first t f pf;
          same = subst (λ (y : Point). SamePoint pf.r y (part_first t f pf)) (sym point_is) (firsts_same t f pf);
          fine = fine;
          modified = λ k none. refl;
        };
        held = none_held t.procs q x.top.point (state_of x) (ap (λ (y : Point). y.part) point_is ∙ own_first_part t f pf);
        below = (v.top, v.below);
        axioms = v.axioms;
      })
