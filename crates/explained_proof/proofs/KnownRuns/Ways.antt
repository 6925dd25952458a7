-- A run that comes to a whole configuration is one of moves and whole calls without body, behind the choices of the start.
use Rattle.std.proofs.Common.{◌≡◌, ◌∙◌, ◌⊎◌, ℕ, zero, suc, ◌+◌, ◌<◌, ◌≤◌, Bool, true, false, ℤ, List, [], ◌∷◌, ◌++◌, length, take, Option, None, Some, inl, inr, refl, sym, ap, subst, arith, append_assoc, IsTrue, if◌then◌else◌}
use Rattle.std.specs.Prelude.{slice_get, nat_lt}
use Rattle.std.proofs.lemmas.Bool.{cases_lt}
use Rattle.std.proofs.lemmas.Bool.Decides.{nat_tests}
use Rattle.math_facts.specs.Optional.{or_zero}
use Rattle.boogie_tree.specs.declared.tree.Column.{Column}
use Rattle.boogie_tree.specs.declared.tree.VarInfo.{VarInfo}
use Rattle.typed_tree.specs.TypedTree.{TypedExpression, TypedInvariant, TypedProcedure, TypedProgram}
use Rattle.typed_tree.specs.Values.{State}
use Rattle.typed_tree.specs.TypingRules.ValidProgram.{is_valid}
use Rattle.letter_acts.specs.Frames.{IsValue}
use Rattle.boogie_run.specs.BoogiePoints.Points.{Point, settled, past_first}
use Rattle.boogie_run.specs.BoogiePoints.Actions as actions
use Rattle.boogie_run.specs.BoogiePoints.Actions.{Action, action_at, unseen_action, called_action, chosen_columns, ensured_conditions, plain_conditions}
use Rattle.boogie_run.specs.BoogiePoints.Starts.{targets_at}
use Rattle.boogie_run.specs.BoogiePlaces.Places.{IsPlaceIn, program_places}
use Rattle.boogie_run.specs.Configurations.{Config, state_of}
use Rattle.boogie_run.specs.Needs.{need_of, need_of_action, is_taken, locals_if_any, locals_at}
use Rattle.boogie_run.specs.Steps.{Outcome, Went, Blocked, Failed, Ended, Refused, act, values, entered, with_global, with_local, start, step}
use Rattle.boogie_run.specs.Runs.{then_goes_on, run}
use Rattle.lowered_graph.specs.LoweredSteps.ProgramFrames.{frame_at}
use Rattle.lowered_graph.specs.LoweredSteps.Moves.{HasTypes, FrameKeeps, AreArguments, IsGood, IsMove, IsNoImport, IsKnownCall, filled}
use Rattle.lowered_graph.proofs.LoweredSteps.FrameColumns.{types_length}
use Rattle.lowered_graph.proofs.LoweredSteps.Goodness.{append_none}
use Rattle.lowered_graph.proofs.LoweredSteps.Writes.{value_of_type}
use Rattle.lowered_graph.specs.LoweredImports.Imports.{later, IsKnownImport, IsImport}
use Rattle.lowered_graph.specs.LoweredImports.KnownPoints.{IsPointOf, StandsAtImport}
use Rattle.lowered_graph.proofs.LoweredImports.Phases.{phase}
use Rattle.lowered_graph.proofs.LoweredImports.PointLaws.{knows_points, imports_known}
use Rattle.lowered_graph.proofs.LoweredImports.ImportLaws.{imports_go}
use Rattle.lowered_graph.proofs.LoweredRuns.Taken.{taken_value, taken_by_need}
use Rattle.lowered_graph.proofs.LoweredRuns.Forward.{Follows, own_or_call, move_own, forward}
use Rattle.lowered_graph.proofs.LoweredRuns.Backward.{import_or_not}
use Rattle.lowered_graph.proofs.LoweredRuns.Filling.{TypesSoFar, none_so_far, all_so_far, first_so_far, so_far_all, so_far_more, IsMember, member_below, action_step, filled_none, filled_more, begun}
use Rattle.lowered_graph.proofs.KnownPlaces.{IsKnown, place_known}
use Rattle.explained_proof.specs.KnownRuns.Reached.{IsWhole}
use Rattle.explained_proof.proofs.KnownRuns.ImportWays.{GoesThrough, goes_through}

-- ---- a part of a call without body is no place

-- of an action of a call without body, the procedure that is called
abbrev callee_of : Action → ℕ
callee_of (actions.Keep f args c next) = f
callee_of (actions.Grant f args e next) = f
callee_of (actions.Finish f args targets next) = f
callee_of a = 0

unseen_callee : (o : Option Column) (i : Option TypedInvariant) (f : ℕ) (targets : List Column) (args : List TypedExpression) (here next : Point) → callee_of (unseen_action o i f targets args here next) ≡ f
unseen_callee (Some c) i f targets args here next = refl
unseen_callee None (Some i) f targets args here next = refl
unseen_callee None None f targets args here next = refl

unseen_import : (o : Option Column) (i : Option TypedInvariant) (f : ℕ) (targets : List Column) (args : List TypedExpression) (here next : Point) → IsNoImport (unseen_action o i f targets args here next) → ⊥
unseen_import (Some c) i f targets args here next h = h
unseen_import None (Some i) f targets args here next h = h
unseen_import None None f targets args here next h = h

later_none : (p : Point) → later p 0 ≡ p
later_none p = let e : p.part + 0 ≡ p.part = omega arith in λ i. record p { part = e i }

-- the action of a part of such a call
part_callee : (t : TypedProgram) (n m : ℕ) (p : Point) (f : ℕ) (args : List TypedExpression) → IsKnownImport t n p f args → callee_of (action_at t n (later p m)) ≡ f
part_callee t n m p f args k = ap callee_of (k.acts m) ∙ unseen_callee _ _ f (targets_at p.todo) args (later p m) (settled (past_first t.procs p.todo))

pub part_import : (t : TypedProgram) (n m : ℕ) (p : Point) (f : ℕ) (args : List TypedExpression) → IsKnownImport t n p f args → IsNoImport (action_at t n (later p m)) → ⊥
part_import t n m p f args k h = unseen_import _ _ f (targets_at p.todo) args (later p m) (settled (past_first t.procs p.todo)) (subst IsNoImport (k.acts m) h)

part_zero : (t : TypedProgram) → IsTrue (is_valid t) → (n m : ℕ) (p : Point) (f : ℕ) (args : List TypedExpression) → IsKnownImport t n p f args → IsPointOf t n (later p m) → m ≡ 0
part_zero t valid n m p f args k at =
    let s : StandsAtImport t n (later p m) = imports_known t valid n (later p m) at (part_import t n m p f args k) in
    let other : callee_of (action_at t n (later p m)) ≡ s.callee = ap (λ (r : Point). callee_of (action_at t n r)) (sym (later_none (later p m))) ∙ part_callee t n 0 (later p m) s.callee s.args s.known in
    let one : f ≡ s.callee = sym (part_callee t n m p f args k) ∙ other in
    let found : Some k.procedure ≡ Some s.known.procedure = sym k.is ∙ ap (slice_get t.procs) one ∙ s.known.is in
    let same : k.procedure ≡ s.known.procedure = cc in
    let count : length (plain_conditions k.procedure.specs) ≡ length (plain_conditions s.known.procedure.specs) = ap (λ (q : TypedProcedure). length (plain_conditions q.specs)) same in
    let first : p.part ≡ length (plain_conditions k.procedure.specs) = k.first in
    let second : p.part + m ≡ length (plain_conditions s.known.procedure.specs) = s.known.first in
    omega arith

pub point_of_place : (t : TypedProgram) → IsTrue (is_valid t) → (n : ℕ) (p : Point) → IsPlaceIn (program_places t) (record { proc = n; point = p }) → IsPointOf t n p
point_of_place t valid n p i =
    let k : IsKnown t n p = place_known t valid n p i in
    record { procedure = k.procedure; body = k.body; is = k.is; has = k.has_body; among = elim k.stands [ inl h ↦ inr h | inr h ↦ inl h ] }

not_in_call : (t : TypedProgram) → IsTrue (is_valid t) → (c e : Config) (f : ℕ) (args : List TypedExpression) → IsKnownImport t c.top.proc c.top.point f args → IsWhole t e →
    (m : ℕ) (ys : List ℤ) → 1 ≤ m → phase c m ys ≡ e → ⊥
not_in_call t valid c e f args k whole m ys some same =
    let at : IsPlaceIn (program_places t) (record { proc = c.top.proc; point = later c.top.point m }) =
    subst (λ (x : Config). IsPlaceIn (program_places t) (record { proc = x.top.proc; point = x.top.point })) (sym same) whole.at in
    let none : m ≡ 0 = part_zero t valid c.top.proc m c.top.point f args k (point_of_place t valid c.top.proc (later c.top.point m) at) in
    omega arith

same_config : (c d : Config) → Went c ≡ Went d → c ≡ d
same_config c d e = cc

arguments_typed : (t : TypedProgram) (n : ℕ) (s : State) (vs : List VarInfo) (es : List TypedExpression) → FrameKeeps t n s → AreArguments (frame_at t n) vs es → HasTypes vs (values s es)
arguments_typed t n s [] [] k a = tt
arguments_typed t n s [] (e ∷ es) k a = absurd a
arguments_typed t n s (v ∷ vs) [] k a = absurd a
arguments_typed t n s (v ∷ vs) (e ∷ es) k a = (value_of_type t n s e v.ty k a.0.typed a.0.divided, arguments_typed t n s vs es k a.1)

-- ---- choices

below : (a b : ℕ) → a < b → nat_lt a b ≡ true
below a b h = grind (arith, nat_tests)

not_below : (a b : ℕ) → b ≤ a → nat_lt a b ≡ false
not_below a b h = grind (arith, nat_tests)

global_step : (t : TypedProgram) (c : Config) (choice : Option ℤ) → length c.globals < length t.globals →
    step t c choice ≡ (if is_taken (need_of (slice_get t.globals (length c.globals))) choice then Went (with_global c (or_zero choice)) else Refused)
global_step t c choice g = rw (below (length c.globals) (length t.globals) g)

local_step : (t : TypedProgram) (c : Config) (choice : Option ℤ) → length t.globals ≤ length c.globals → length c.top.locals < length (locals_at t c.top.proc) →
    step t c choice ≡ (if is_taken (need_of (slice_get (locals_at t c.top.proc) (length c.top.locals))) choice then Went (with_local c (or_zero choice)) else Refused)
local_step t c choice g l = rw (not_below (length c.globals) (length t.globals) g, below (length c.top.locals) (length (locals_at t c.top.proc)) l)

-- the globals are complete, and the locals begun
record HasPart (t : TypedProgram) (c : Config) : Type 0 where
  globals : HasTypes t.globals c.globals
  locals : TypesSoFar (locals_at t c.top.proc) c.top.locals

pub first_good : (t : TypedProgram) → IsTrue (is_valid t) → (gs ls : List ℤ) → HasTypes t.globals gs → HasTypes (locals_at t t.entry) ls → IsGood t (IsPointOf t) (filled (begun t gs) ls)
first_good t valid gs ls g l = record {
  top = record {
    keeps = record { globals = g; old = g; locals = l; constants = λ n v at c. refl };
    known = (knows_points t valid).starts;
    nothing_kept = refl;
  };
  below = tt;
}

module _ (t : TypedProgram) (valid : IsTrue (is_valid t)) (e : Config) (whole : IsWhole t e) where
  -- ---- locals

  -- the choices of the missing locals, and the others
  record Filled (c : Config) (choices : List (Option ℤ)) : Type 0 where
    more : List ℤ
    typed : HasTypes (locals_at t c.top.proc) (c.top.locals ++ more)
    rest : List (Option ℤ)
    shorter : length rest ≤ length choices
    goes : run t (filled c more) rest ≡ Went e

  none_to_fill : (choices : List (Option ℤ)) (c : Config) → HasTypes (locals_at t c.top.proc) c.top.locals → run t c choices ≡ Went e → Filled c choices
  none_to_fill choices c h f = record {
    more = [];
    typed = subst (HasTypes (locals_at t c.top.proc)) (sym (append_none c.top.locals)) h;
    rest = choices;
    shorter = omega arith;
    goes = ap (λ (d : Config). run t d choices) (filled_none c) ∙ f;
  }

  one_to_fill : (ch : Option ℤ) (chs : List (Option ℤ)) (c : Config) (b : Bool) → TypesSoFar (locals_at t c.top.proc) c.top.locals →
      length c.top.locals < length (locals_at t c.top.proc) → is_taken (need_of (slice_get (locals_at t c.top.proc) (length c.top.locals))) ch ≡ b →
      ((d : Config) → d.globals ≡ c.globals → TypesSoFar (locals_at t d.top.proc) d.top.locals → run t d chs ≡ Went e → Filled d chs) →
      then_goes_on (if b then Went (with_local c (or_zero ch)) else Refused) (λ d. run t d chs) ≡ Went e → Filled c (ch ∷ chs)
  one_to_fill ch chs c true h less taken later f =
      let vs : List VarInfo = locals_at t c.top.proc in
      let z : ℤ = or_zero ch in
      let m : IsMember vs (length c.top.locals) = member_below vs (length c.top.locals) less in
      let val : IsValue m.info.ty z = taken_value m.info.ty ch (taken_by_need (slice_get vs (length c.top.locals)) m.info ch m.is taken) in
      let r : Filled (with_local c z) chs = later (with_local c z) refl (so_far_more vs c.top.locals m.info z h m.is val) f in
      record {
        more = z ∷ r.more;
        typed = subst (HasTypes vs) (append_assoc c.top.locals (z ∷ []) r.more) r.typed;
        rest = r.rest;
        shorter = (let l : length r.rest ≤ length chs = r.shorter in omega arith);
        goes = ap (λ (d : Config). run t d r.rest) (sym (filled_more c z r.more)) ∙ r.goes;
      }
  one_to_fill ch chs c false h less taken later f = absurd (cc)

  filled_by : (choices : List (Option ℤ)) (c : Config) → HasTypes t.globals c.globals → TypesSoFar (locals_at t c.top.proc) c.top.locals → run t c choices ≡ Went e → Filled c choices
  filled_by [] c g h f =
      let same : c ≡ e = same_config c e f in
      let many : length c.top.locals ≡ length (locals_at t c.top.proc) = subst (λ (x : Config). length x.top.locals ≡ length (locals_at t x.top.proc)) (sym same) whole.locals in
      none_to_fill [] c (so_far_all (locals_at t c.top.proc) c.top.locals h (omega arith)) f
  filled_by (ch ∷ chs) c g h f = elim (cases_lt (length c.top.locals) (length (locals_at t c.top.proc))) [
    | inl less ↦ (let full : length c.globals ≡ length t.globals = types_length t.globals c.globals g in
        one_to_fill ch chs c (is_taken (need_of (slice_get (locals_at t c.top.proc) (length c.top.locals))) ch) h less refl
        (λ d same k r. filled_by chs d (subst (HasTypes t.globals) (sym same) g) k r)
        (ap (λ (o : Outcome). then_goes_on o (λ d. run t d chs)) (sym (local_step t c ch (omega arith) less)) ∙ f))
    | inr more ↦ none_to_fill (ch ∷ chs) c (so_far_all (locals_at t c.top.proc) c.top.locals h more) f
  ]

  -- ---- constants and globals

  record Begun : Type 0 where
    globals : List ℤ
    typed : HasTypes t.globals globals
    rest : List (Option ℤ)
    goes : run t (begun t globals) rest ≡ Went e

  one_to_begin : (ch : Option ℤ) (chs : List (Option ℤ)) (zs : List ℤ) (b : Bool) → TypesSoFar t.globals zs → length zs < length t.globals →
      is_taken (need_of (slice_get t.globals (length zs))) ch ≡ b → ((ys : List ℤ) → TypesSoFar t.globals ys → run t (begun t ys) chs ≡ Went e → Begun) →
      then_goes_on (if b then Went (begun t (zs ++ or_zero ch ∷ [])) else Refused) (λ d. run t d chs) ≡ Went e → Begun
  one_to_begin ch chs zs true h less taken later f =
      let z : ℤ = or_zero ch in
      let m : IsMember t.globals (length zs) = member_below t.globals (length zs) less in
      let val : IsValue m.info.ty z = taken_value m.info.ty ch (taken_by_need (slice_get t.globals (length zs)) m.info ch m.is taken) in
      later (zs ++ z ∷ []) (so_far_more t.globals zs m.info z h m.is val) f
  one_to_begin ch chs zs false h less taken later f = absurd (cc)

  begun_by : (choices : List (Option ℤ)) (zs : List ℤ) → TypesSoFar t.globals zs → run t (begun t zs) choices ≡ Went e → Begun
  begun_by [] zs h f =
      let many : length zs ≡ length t.globals = subst (λ (x : Config). length x.globals ≡ length t.globals) (sym (same_config (begun t zs) e f)) whole.globals in
      record { globals = zs; typed = so_far_all t.globals zs h (omega arith); rest = []; goes = f }
  begun_by (ch ∷ chs) zs h f = elim (cases_lt (length zs) (length t.globals)) [
    | inl less ↦ one_to_begin ch chs zs (is_taken (need_of (slice_get t.globals (length zs))) ch) h less refl (λ ys k r. begun_by chs ys k r)
        (ap (λ (o : Outcome). then_goes_on o (λ d. run t d chs)) (sym (global_step t (begun t zs) ch less)) ∙ f)
    | inr more ↦ record { globals = zs; typed = so_far_all t.globals zs h more; rest = ch ∷ chs; goes = f }
  ]

  -- ---- moves

  -- so many moves and whole calls without body lead there
  abbrev pub Way : ℕ → Config → Type 0
  Way zero c = c ≡ e
  Way (suc k) c = (d : Config) × (IsMove t c d ⊎ IsImport t c d) × Way k d

  ready : (c : Config) (choice : Option ℤ) → IsGood t (IsPointOf t) c →
      step t c choice ≡
      (if is_taken (need_of_action t c.top.proc (action_at t c.top.proc c.top.point)) choice then act t c (or_zero choice) (action_at t c.top.proc c.top.point) else Refused)
  ready c choice g =
      let a : length c.globals ≡ length t.globals = types_length t.globals c.globals g.top.keeps.globals in
      let b : length c.top.locals ≡ length (locals_at t c.top.proc) = types_length (locals_at t c.top.proc) c.top.locals g.top.keeps.locals in
      action_step t c choice (omega arith) (omega arith)

  entered_part : (c : Config) (choice : Option ℤ) (mid : Config) (f : ℕ) (args : List TypedExpression) → IsGood t (IsPointOf t) c → action_at t c.top.proc c.top.point ≡ actions.Enter f args →
      act t c (or_zero choice) (action_at t c.top.proc c.top.point) ≡ Went mid → HasPart t mid
  entered_part c choice mid f args g is went =
      let n : ℕ = c.top.proc in
      let enters : Went (entered t c f (values (state_of c) args)) ≡ Went mid = sym (ap (act t c (or_zero choice)) is) ∙ went in
      let same : entered t c f (values (state_of c) args) ≡ mid = cc in
      let q : IsKnownCall t n c.top.point f args = (knows_points t valid).calls n c.top.point f args g.top.known is in
      let firsts : List VarInfo = take q.procedure.params q.procedure.locals in
      let typed : HasTypes firsts (values (state_of c) args) = arguments_typed t n (state_of c) firsts args g.top.keeps q.arguments in
      let so_far : TypesSoFar q.procedure.locals (values (state_of c) args) = first_so_far q.procedure.params q.procedure.locals (values (state_of c) args) typed in
      let own : locals_at t f ≡ q.procedure.locals = ap locals_if_any q.is in
      subst (HasPart t) same (record { globals = g.top.keeps.globals; locals = subst (λ (vs : List VarInfo). TypesSoFar vs (values (state_of c) args)) (sym own) so_far })

  action_part : (c : Config) (choice : Option ℤ) (mid : Config) → IsGood t (IsPointOf t) c → IsNoImport (action_at t c.top.proc c.top.point) →
      is_taken (need_of_action t c.top.proc (action_at t c.top.proc c.top.point)) choice ≡ true → act t c (or_zero choice) (action_at t c.top.proc c.top.point) ≡ Went mid → HasPart t mid
  action_part c choice mid g plain taken went = elim (own_or_call t (IsPointOf t) (knows_points t valid) (action_at t c.top.proc c.top.point) plain) [
    | inl own ↦ (let f : Follows t (IsPointOf t) (knows_points t valid) c mid = move_own t (IsPointOf t) (knows_points t valid) c choice mid g own taken went in
        record { globals = f.good.top.keeps.globals; locals = all_so_far (locals_at t mid.top.proc) mid.top.locals f.good.top.keeps.locals })
    | inr x ↦ entered_part c choice mid x.0 x.1 g x.2 went
  ]

  -- what is left of the run comes there
  abbrev Later : ℕ → Type 0
  Later n = (d : Config) (choices : List (Option ℤ)) → length choices ≤ n → IsGood t (IsPointOf t) d → run t d choices ≡ Went e → (k : ℕ) × Way k d

  went_way : (n : ℕ) (c : Config) (ch : Option ℤ) (chs : List (Option ℤ)) (mid : Config) → length chs ≤ n → IsGood t (IsPointOf t) c → IsNoImport (action_at t c.top.proc c.top.point) →
      is_taken (need_of_action t c.top.proc (action_at t c.top.proc c.top.point)) ch ≡ true → act t c (or_zero ch) (action_at t c.top.proc c.top.point) ≡ Went mid → Later n →
      run t mid chs ≡ Went e → (k : ℕ) × Way k c
  went_way n c ch chs mid l g plain taken went later goes =
      let p : HasPart t mid = action_part c ch mid g plain taken went in
      let r : Filled mid chs = filled_by chs mid p.globals p.locals goes in
      let s : length r.rest ≤ length chs = r.shorter in
      let m : IsMove t c (filled mid r.more) = record { plain = plain; choice = ch; taken = taken; mid = mid; went = went; more = r.more; typed = r.typed; done = refl } in
      let f : Follows t (IsPointOf t) (knows_points t valid) c (filled mid r.more) = forward t (IsPointOf t) (knows_points t valid) c (filled mid r.more) g m in
      let b = later (filled mid r.more) r.rest (omega arith) f.good r.goes in
      (suc b.0, (filled mid r.more, inl m, b.1))

  act_way : (n : ℕ) (c : Config) (ch : Option ℤ) (chs : List (Option ℤ)) (o : Outcome) → length chs ≤ n → IsGood t (IsPointOf t) c → IsNoImport (action_at t c.top.proc c.top.point) →
      is_taken (need_of_action t c.top.proc (action_at t c.top.proc c.top.point)) ch ≡ true → act t c (or_zero ch) (action_at t c.top.proc c.top.point) ≡ o → Later n →
      then_goes_on o (λ d. run t d chs) ≡ Went e → (k : ℕ) × Way k c
  act_way n c ch chs (Went mid) l g plain taken went later goes = went_way n c ch chs mid l g plain taken went later goes
  act_way n c ch chs Blocked l g plain taken went later goes = absurd (cc)
  act_way n c ch chs (Failed j) l g plain taken went later goes = absurd (cc)
  act_way n c ch chs Ended l g plain taken went later goes = absurd (cc)
  act_way n c ch chs Refused l g plain taken went later goes = absurd (cc)

  step_way : (n : ℕ) (c : Config) (ch : Option ℤ) (chs : List (Option ℤ)) (b : Bool) → length chs ≤ n → IsGood t (IsPointOf t) c → IsNoImport (action_at t c.top.proc c.top.point) →
      is_taken (need_of_action t c.top.proc (action_at t c.top.proc c.top.point)) ch ≡ b → Later n →
      then_goes_on (if b then act t c (or_zero ch) (action_at t c.top.proc c.top.point) else Refused) (λ d. run t d chs) ≡ Went e → (k : ℕ) × Way k c
  step_way n c ch chs true l g plain taken later goes = act_way n c ch chs (act t c (or_zero ch) (action_at t c.top.proc c.top.point)) l g plain taken refl later goes
  step_way n c ch chs false l g plain taken later goes = absurd (cc)

  call_way : (n : ℕ) (c : Config) (choices : List (Option ℤ)) → 1 ≤ length choices → length choices ≤ suc n → IsGood t (IsPointOf t) c → (IsNoImport (action_at t c.top.proc c.top.point) → ⊥) → Later n →
      run t c choices ≡ Went e → (k : ℕ) × Way k c
  call_way n c choices some l g at_call later goes =
      let s : StandsAtImport t c.top.proc c.top.point = imports_known t valid c.top.proc c.top.point g.top.known at_call in
      let r : GoesThrough t c e choices = goes_through t c e s.callee s.args choices g s.known (not_in_call t valid c e s.callee s.args s.known whole) some goes in
      let less : length r.rest < length choices = r.fewer in
      let b = later r.after r.rest (omega arith) (imports_go t c r.after valid g r.import).1 r.goes in
      (suc b.0, (r.after, inr r.import, b.1))

  pub run_way : (n : ℕ) → Later n
  run_way n c [] l g f = (0, same_config c e f)
  run_way zero c (ch ∷ chs) l g f = absurd (omega arith)
  run_way (suc n) c (ch ∷ chs) l g f = elim (import_or_not (action_at t c.top.proc c.top.point)) [
    | inl plain ↦ step_way n c ch chs (is_taken (need_of_action t c.top.proc (action_at t c.top.proc c.top.point)) ch) (omega arith) g plain refl (λ d cs m h r. run_way n d cs m h r)
        (ap (λ (o : Outcome). then_goes_on o (λ d. run t d chs)) (sym (ready c ch g)) ∙ f)
    | inr at_call ↦ call_way n c (ch ∷ chs) (omega arith) l g at_call (λ d cs m h r. run_way n d cs m h r) f
  ]

  -- the first configuration, and what leads on from it
  pub record Comes : Type 0 where
    pub globals : List ℤ
    pub typed : HasTypes t.globals globals
    pub locals : List ℤ
    pub locals_typed : HasTypes (locals_at t t.entry) locals
    pub steps : ℕ
    pub way : Way steps (filled (begun t globals) locals)

  pub comes : (choices : List (Option ℤ)) → run t (start t) choices ≡ Went e → Comes
  comes choices f =
      let b : Begun = begun_by choices [] (none_so_far t.globals) f in
      let r : Filled (begun t b.globals) b.rest = filled_by b.rest (begun t b.globals) b.typed (none_so_far (locals_at t t.entry)) b.goes in
      let c : Config = filled (begun t b.globals) r.more in
      let g : IsGood t (IsPointOf t) c = first_good t valid b.globals r.more b.typed r.typed in
      let w = run_way (length r.rest) c r.rest (omega arith) g r.goes in
      record { globals = b.globals; typed = b.typed; locals = r.more; locals_typed = r.typed; steps = w.0; way = w.1 }
