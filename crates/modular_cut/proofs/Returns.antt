-- A return: the caller's part takes the whole call, with the globals and the results that the callee leaves.
use Rattle.std.proofs.Common.{◌≡◌, ℕ, zero, suc, ◌+◌, ◌<◌, ◌≤◌, ℤ, true, List, [], ◌∷◌, ◌++◌, map, length, take, drop, Option, None, Some, slice_get, IsTrue, refl, sym, ap, subst, ◌∙◌, arith}
use Rattle.std.specs.List.{AllByRecursion}
use Rattle.std.proofs.lemmas.Option.{slice_get_within}
use Rattle.std.proofs.lemmas.List.{length-map, length-take-le}
use Rattle.math_facts.specs.Optional.{or_zero}
use Rattle.boogie_tree.specs.declared.tree.Column.{Column}
use Rattle.boogie_tree.specs.declared.tree.VarInfo.{VarInfo}
use Rattle.typed_tree.specs.TypedTree.{TypedInvariant, TypedProcedure, TypedProgram}
use Rattle.typed_tree.specs.Scope.{body_scope}
use Rattle.typed_tree.specs.Values.{State, member, value}
use Rattle.letter_acts.specs.Frames.{IsValue}
use Rattle.typed_tree.specs.TypingRules.Rules.{is_condition, results_of}
use Rattle.typed_tree.specs.TypingRules.ValidProgram.{is_valid}
use Rattle.boogie_run.specs.BoogiePoints.Points.{Point, settled, past_first}
use Rattle.boogie_run.specs.BoogiePoints.Actions as actions
use Rattle.boogie_run.specs.BoogiePoints.Actions.{Action, action_at, ensured_conditions, unseen_action}
use Rattle.boogie_run.specs.BoogiePoints.Starts.{targets_at}
use Rattle.boogie_run.specs.Configurations.{Frame, Config, state_of}
use Rattle.boogie_run.specs.Needs.{locals_if_any}
use Rattle.boogie_run.specs.Steps.{Went, values, all_put, all_written, results_if_any, results_left, left, moved_to, is_true, act}
use Rattle.lowered_graph.specs.LoweredSteps.ProgramFrames.{frame_at}
use Rattle.lowered_graph.specs.LoweredSteps.Moves.{HasTypes, FrameIsGood, BelowIsGood, IsGood, Awaits, IsMove}
use Rattle.lowered_graph.proofs.LoweredSteps.FrameColumns.{types_length}
use Rattle.lowered_graph.proofs.LoweredSteps.Goodness.{arguments_length, take_at_most, done_is}
use Rattle.lowered_graph.proofs.LoweredSteps.Places.{all_state_written}
use Rattle.lowered_graph.specs.LoweredImports.Imports.{IsModified, AreGlobalValues, IsImport}
use Rattle.lowered_graph.specs.LoweredImports.KnownPoints.{IsPointOf}
use Rattle.lowered_graph.proofs.LoweredImports.PointLaws.{knows_points}
use Rattle.lowered_graph.proofs.LoweredRuns.Forward.{IsOwn, Follows, move_own}
use Rattle.lowered_graph.proofs.LoweredRuns.Taken.{all_at}
use Rattle.modular_cut.proofs.Called.{named_like, IsCallee, part_program}
use Rattle.modular_cut.proofs.SamePoints.{settled_part}
use Rattle.modular_cut.proofs.SameActions.{claims, claim_state, SameStep, check, suppose, demand, write, guess, test, pick, jump, enter, import, leave}
use Rattle.modular_cut.proofs.SeenValues.{condition_value, ensures_sees}
use Rattle.modular_cut.proofs.ChosenGlobals.{DifferIn, all_put_new, drop_chosen}
use Rattle.modular_cut.proofs.Fine.{alone, changed, written_changes, written_within, HeldAt, none_held, fine_import}
use Rattle.modular_cut.proofs.Frames.{PartFor, Stands, BelowStands, Covered, ensures_typed, axioms_at, axioms_typed, step_of}
use Rattle.modular_cut.proofs.Enters.{IsEnter, enters, all_from, before_none}
use Rattle.modular_cut.proofs.PartCalls.{IsKnownAs, known_as, whole, granted, call_whole, targets_same, behind_same, not_among}

-- ---- lists

drop_front : (zs later : List ℤ) → drop (length zs) (zs ++ later) ≡ later
drop_front [] later = refl
drop_front (z ∷ zs) later = drop_front zs later

member_taken : (later : List ℤ) (r m : ℕ) → m < r → member later m ≡ member (take r later) m
member_taken later zero m h = absurd (omega arith)
member_taken [] (suc r) m h = refl
member_taken (z ∷ later) (suc r) zero h = refl
member_taken (z ∷ later) (suc r) (suc m) h = member_taken later r m (omega arith)

-- the values in front, and then as many of the later ones
members_taken : (zs later : List ℤ) (r m : ℕ) → m < length zs + r → member (zs ++ later) m ≡ member (zs ++ take r later) m
members_taken [] later r m h = member_taken later r m (omega arith)
members_taken (z ∷ zs) later r zero h = refl
members_taken (z ∷ zs) later r (suc m) h = members_taken zs later r m (omega arith)

types_drop : (n : ℕ) (vs : List VarInfo) (zs : List ℤ) → HasTypes vs zs → HasTypes (drop n vs) (drop n zs)
types_drop zero vs zs h = h
types_drop (suc n) [] [] h = h
types_drop (suc n) [] (z ∷ zs) h = absurd h
types_drop (suc n) (v ∷ vs) [] h = absurd h
types_drop (suc n) (v ∷ vs) (z ∷ zs) h = types_drop n vs zs h.1

types_take : (n : ℕ) (vs : List VarInfo) (zs : List ℤ) → HasTypes vs zs → HasTypes (take n vs) (take n zs)
types_take zero vs zs h = tt
types_take (suc n) [] [] h = tt
types_take (suc n) [] (z ∷ zs) h = absurd h
types_take (suc n) (v ∷ vs) [] h = absurd h
types_take (suc n) (v ∷ vs) (z ∷ zs) h = (h.0, types_take n vs zs h.1)

type_at : (vs : List VarInfo) (zs : List ℤ) (n : ℕ) (v : VarInfo) → HasTypes vs zs → slice_get vs n ≡ Some v → IsValue v.ty (member zs n)
type_at [] zs n v h e = absurd (cc)
type_at (w ∷ ws) [] n v h e = absurd h
type_at (w ∷ ws) (z ∷ zs) zero v h e = let same : w ≡ v = cc in subst (λ (x : VarInfo). IsValue x.ty z) same h.0
type_at (w ∷ ws) (z ∷ zs) (suc n) v h e = type_at ws zs n v h.1 e

-- the values of the modified globals
held_values : (t : TypedProgram) (gs : List ℤ) (ns : List ℕ) → HasTypes t.globals gs → AllByRecursion (IsModified t) ns → AreGlobalValues t.globals ns (map (member gs) ns)
held_values t gs [] h k = tt
held_values t gs (n ∷ ns) h k = ((k.0.info, k.0.is, type_at t.globals gs n k.0.info h k.0.is), held_values t gs ns h k.1)

-- ---- the frame that leaves

-- behind all ensures
record IsLeft (procs : List TypedProcedure) (q : TypedProcedure) (here : Point) : Type 0 where
  claims_are : claims procs q here ≡ ensured_conditions q.specs
  state_is : (s : State) → claim_state here s ≡ s
  done : slice_get (ensured_conditions q.specs) here.part ≡ None

leaves : (procs : List TypedProcedure) (q : TypedProcedure) (r : ℕ → ℕ) (here : Point) (a a2 : Action) → SameStep procs q r here a a2 → a ≡ actions.Leave → IsLeft procs q here
leaves procs q r here a a2 (check i j at e p o same goes) is = absurd (cc)
leaves procs q r here a a2 (suppose e p o same goes) is = absurd (cc)
leaves procs q r here a a2 (demand i j at e xs p o same goes) is = absurd (cc)
leaves procs q r here a a2 (write cs es p o same goes within) is = absurd (cc)
leaves procs q r here a a2 (guess x p o same goes within) is = absurd (cc)
leaves procs q r here a a2 (test e hit miss hit2 miss2 same same2 start start2) is = absurd (cc)
leaves procs q r here a a2 (pick ps qs same start) is = absurd (cc)
leaves procs q r here a a2 (jump p o same start) is = absurd (cc)
leaves procs q r here a a2 (enter g xs k body has o e targets h nx) is = absurd (cc)
leaves procs q r here a a2 (import g xs k o e targets h nx h2 nx2) is = absurd (by_part o e is)
  where
    by_part : (o : Option Column) (e : Option TypedInvariant) → unseen_action o e g targets xs h nx ≡ actions.Leave → ⊥
    by_part (Some x) e is = cc
    by_part None (Some y) is = cc
    by_part None None is = cc
leaves procs q r here a a2 (leave claims_are state_is done) is = record { claims_are = claims_are; state_is = state_is; done = done }

module _ (t : TypedProgram) (valid : IsTrue (is_valid t)) where
  -- the ensures are true in the state that the caller sees: its arguments and the results
  ensures_true : (c : Config) (q : TypedProcedure) → slice_get t.procs c.top.proc ≡ Some q → IsLeft t.procs q c.top.point → HeldAt t.procs q c.top.point (state_of c) → (zs later : List ℤ) → c.top.locals ≡ zs ++ later →
      length zs ≡ q.params → AllByRecursion (λ i. is_true (value (record { globals = c.globals; old = c.top.entry; locals = zs ++ take q.results later }) i.cond) ≡ true) (ensured_conditions q.specs)
  ensures_true c q is at held zs later e many =
      let after : State = record { globals = c.globals; old = c.top.entry; locals = zs ++ take q.results later } in
      let seen : List VarInfo = take (q.params + q.results) q.locals in
      let own : (m : ℕ) (v : VarInfo) → slice_get seen m ≡ Some v → member c.top.locals m ≡ member (zs ++ take q.results later) m =
      λ m v found. let inside : m < length seen = slice_get_within seen m v found in let few : length seen ≤ q.params + q.results = take_at_most (q.params + q.results) q.locals in
      ap (λ (xs : List ℤ). member xs m) e ∙ members_taken zs later q.results m (omega arith) in
      all_from (λ i. is_true (value after i.cond) ≡ true) (ensured_conditions q.specs)
      (λ j i found.
      let l : j < c.top.point.part = before_none (ensured_conditions q.specs) j c.top.point.part i at.done found in
      let told : is_true (value (claim_state c.top.point (state_of c)) i.cond) ≡ true = held j i l (ap (λ (xs : List TypedInvariant). slice_get xs j) at.claims_are ∙ found) in
      let typed : is_condition (body_scope t.globals seen) i.cond ≡ true = all_at (λ y. is_condition (body_scope t.globals seen) y.cond ≡ true) (ensured_conditions q.specs) j i (ensures_typed t valid c.top.proc q is) found in
      sym (ap is_true (condition_value (body_scope t.globals seen) i.cond (state_of c) after typed (ensures_sees t.globals seen (state_of c) after refl refl own)))
      ∙ sym (ap (λ (s : State). is_true (value s i.cond)) (at.state_is (state_of c))) ∙ told)

  -- the frame that waits goes on behind its call
  resumed_covered : (c x : Config) (b : Frame) (rest : List Frame) → (v : Covered t c) → BelowIsGood t (IsPointOf t) c.top (b ∷ rest) → BelowStands t c.top.entry (b ∷ rest) → action_at t c.top.proc c.top.point ≡ actions.Leave →
      IsGood t (IsPointOf t) x →
      x ≡ moved_to (changed (record { globals = c.globals; top = b; below = rest }) (all_state_written (record { globals = c.globals; old = b.entry; locals = b.locals }) (targets_at b.point.todo) (results_left t c.top)))
      (settled (past_first t.procs b.point.todo)) → Covered t x
  resumed_covered c x b rest v below stands is good x_is =
      let sb : Stands t c.top.entry b = stands.0 in
      let waits : Awaits t c.top b = below.1 in
      let frame : FrameIsGood t (IsPointOf t) c.top.entry b = below.0 in
      let pt : PartFor t c.top.proc = v.top.part in
      let pb : PartFor t b.proc = sb.part in
      let u : TypedProgram = part_program t b.proc pb.parts in
      let a2 : Action = action_at u b.proc sb.point in
      let e : IsEnter t.procs pb.procedure pb.r b.point c.top.proc waits.args a2 =
      enters t.procs pb.procedure pb.r b.point c.top.proc waits.args (action_at t b.proc b.point) a2 (step_of t valid c.top.entry b sb frame.known) waits.calls in
      let q : TypedProcedure = e.call.callee in
      let one : Some pt.procedure ≡ Some q = sym pt.is ∙ e.call.is in
      let q_is : pt.procedure ≡ q = cc in
      let two : Some waits.procedure ≡ Some q = sym waits.is ∙ e.call.is in
      let w_is : waits.procedure ≡ q = cc in
      let left_at : IsLeft t.procs pt.procedure c.top.point =
      leaves t.procs pt.procedure pt.r c.top.point (action_at t c.top.proc c.top.point) (action_at (part_program t c.top.proc pt.parts) c.top.proc v.top.point) (step_of t valid c.globals c.top v.top v.good.top.known) is in
      let before : State = record { globals = c.top.entry; old = b.entry; locals = b.locals } in
      let zs : List ℤ = values before waits.args in
      let later : List ℤ = waits.later in
      let as_many : length zs ≡ length waits.args = length-map waits.args (value before) in
      let params : List VarInfo = take waits.procedure.params waits.procedure.locals in
      let many : length waits.args ≡ length params = arguments_length (frame_at t b.proc) params waits.args waits.arguments in
      let enough : waits.procedure.params + waits.procedure.results ≤ length waits.procedure.locals = waits.enough in
      let count : length params ≡ waits.procedure.params = length-take-le waits.procedure.params waits.procedure.locals (omega arith) in
      let params_are : length zs ≡ q.params = as_many ∙ many ∙ count ∙ ap (λ (y : TypedProcedure). y.params) w_is in
      let trues : AllByRecursion (λ i. is_true (value (record { globals = c.globals; old = c.top.entry; locals = zs ++ take q.results later }) i.cond) ≡ true) (ensured_conditions q.specs) =
      ensures_true c q e.call.is (subst (λ (y : TypedProcedure). IsLeft t.procs y c.top.point) q_is left_at) (subst (λ (y : TypedProcedure). HeldAt t.procs y c.top.point (state_of c)) q_is v.held) zs later waits.passed params_are in
      let ns : List ℕ = q.modifies in
      let new : List ℤ = map (member c.globals) ns in
      let res : List ℤ = results_left t c.top in
      let res_own : res ≡ take q.results (drop q.params c.top.locals) = ap (λ (o : Option TypedProcedure). results_if_any o c.top.locals) e.call.is in
      let res_is : res ≡ take q.results later =
      res_own ∙ ap (λ (ys : List ℤ). take q.results (drop q.params ys)) waits.passed ∙ ap (λ (m : ℕ). take q.results (drop m (zs ++ later))) (sym params_are) ∙ ap (take q.results) (drop_front zs later) in
      let own : HasTypes q.locals c.top.locals = subst (λ (vs : List VarInfo). HasTypes vs c.top.locals) (ap locals_if_any e.call.is) v.good.top.keeps.locals in
      let results_typed : HasTypes (results_of q) res =
      subst (HasTypes (results_of q)) (sym res_own) (types_take q.results (drop q.params q.locals) (drop q.params c.top.locals) (types_drop q.params q.locals c.top.locals own)) in
      let differ : DifferIn ns c.top.entry c.globals = subst (λ (y : TypedProcedure). DifferIn y.modifies c.top.entry c.globals) q_is v.top.modified in
      let long : length c.top.entry ≡ length c.globals = types_length t.globals c.top.entry v.good.top.keeps.old ∙ sym (types_length t.globals c.globals v.good.top.keeps.globals) in
      let put_is : all_put c.top.entry ns (new ++ res) ≡ c.globals = all_put_new ns c.top.entry c.globals res long differ in
      let drop_is : drop (length ns) (new ++ res) ≡ res = drop_chosen ns c.globals res in
      let c2 : Config = alone c.top.entry b sb.point in
      let found : IsCallee pb.parts (pb.r c.top.proc) q = pb.calls c.top.proc q e.call.is in
      let q2 : TypedProcedure = named_like q found.name in
      let k : IsKnownAs u b.proc sb.point (pb.r c.top.proc) waits.args q2 =
      known_as u pb.valid b.proc sb.point (pb.r c.top.proc) waits.args q2 e.column e.ensured e.targets e.at e.next sb.fine.good.top.known e.is found.is in
      let held_typed : AreGlobalValues t.globals ns new = held_values u c.globals ns v.good.top.keeps.globals (subst (λ (y : TypedProcedure). AllByRecursion (IsModified u) y.modifies) k.same k.known.modified) in
      let after : State = record { globals = c.globals; old = c.top.entry; locals = zs ++ take q.results later } in
      let state_is : granted c2 q2 waits.args new res ≡ after = λ j. record { globals = put_is j; old = c.top.entry; locals = zs ++ (drop_is ∙ res_is) j } in
      let granted_there : AllByRecursion (λ i. is_true (value (granted c2 q2 waits.args new res) i.cond) ≡ true) (ensured_conditions q.specs) =
      subst (λ (s : State). AllByRecursion (λ i. is_true (value s i.cond) ≡ true) (ensured_conditions q.specs)) (sym state_is) trues in
      let targets : List Column = targets_at b.point.todo in
      let next : Point = settled (past_first t.procs b.point.todo) in
      let next2 : Point = settled (past_first pb.parts sb.point.todo) in
      let part_import : IsImport u c2 (whole c2 ns new res (targets_at sb.point.todo) next2) = call_whole u c2 (pb.r c.top.proc) waits.args q2 k new res held_typed results_typed granted_there in
      let back : Config = record { globals = c.globals; top = b; below = rest } in
      let y : Config = moved_to (changed back (all_state_written (state_of back) targets res)) next in
      let y2 : Config = alone y.globals y.top next2 in
      let whole_is : whole c2 ns new res (targets_at sb.point.todo) next2 ≡ y2 =
      ap (λ (cs : List Column). whole c2 ns new res cs next2) (targets_same pb.r b.point sb.point sb.same)
      ∙ (λ j. moved_to (changed c2 (all_state_written (record { globals = put_is j; old = b.entry; locals = b.locals }) targets (drop_is j))) next2) in
      let good_there : IsGood t (IsPointOf t) y = subst (IsGood t (IsPointOf t)) x_is good in
      let constants : (g : ℕ) (w : VarInfo) → slice_get t.globals g ≡ Some w → w.constant ≡ true → member c.globals g ≡ member y.globals g =
      λ g w o const. sym (v.good.top.keeps.constants g w o const) ∙ sym (frame.keeps.constants g w o const) ∙ good_there.top.keeps.constants g w o const in
      subst (Covered t) (sym x_is) (record {
        good = good_there;
        top = record {
          part = pb;
          point = next2;
          same = behind_same pb.r t.procs pb.parts b.point sb.point sb.same;
          fine = fine_import u c2 y2 pb.valid sb.fine (subst (IsImport u c2) whole_is part_import);
          modified = λ j none. written_within pb.procedure (state_of back) targets res e.call.within j none ∙ differ j (not_among pb.procedure.modifies ns j e.call.modified none) ∙ sb.modified j none;
        };
        held = none_held t.procs pb.procedure next (state_of y) (settled_part (past_first t.procs b.point.todo));
        below = stands.1;
        axioms = axioms_at t valid (record { globals = c.globals; old = c.globals; locals = [] }) (record { globals = y.globals; old = y.globals; locals = [] }) constants t.axioms (axioms_typed t valid) v.axioms;
      })

  by_below : (c d mid : Config) (fs : List Frame) → c.below ≡ fs → Covered t c → action_at t c.top.proc c.top.point ≡ actions.Leave → IsGood t (IsPointOf t) mid → d ≡ mid → left t c fs ≡ Went mid → Covered t d
  by_below c d mid [] opened v is good same went = absurd (cc)
  by_below c d mid (b ∷ rest) opened v is good same went =
      let back : Config = record { globals = c.globals; top = b; below = rest } in
      let next : Point = settled (past_first t.procs b.point.todo) in
      let mid_is : moved_to (all_written back (targets_at b.point.todo) (results_left t c.top)) next ≡ mid = cc in
      let x_is : mid ≡ moved_to (changed back (all_state_written (state_of back) (targets_at b.point.todo) (results_left t c.top))) next =
      sym mid_is ∙ ap (λ (y : Config). moved_to y next) (written_changes back (targets_at b.point.todo) (results_left t c.top)) in
      subst (Covered t) (sym same)
      (resumed_covered c mid b rest v (subst (BelowIsGood t (IsPointOf t) c.top) opened v.good.below) (subst (BelowStands t c.top.entry) opened v.below) is good x_is)

  pub leave_covered : (c d : Config) → Covered t c → IsMove t c d → action_at t c.top.proc c.top.point ≡ actions.Leave → Covered t d
  leave_covered c d v m is =
      let f : Follows t (IsPointOf t) (knows_points t valid) c m.mid = move_own t (IsPointOf t) (knows_points t valid) c m.choice m.mid v.good (subst IsOwn (sym is) tt) m.taken m.went in
      let went : left t c c.below ≡ Went m.mid = subst (λ (a : Action). act t c (or_zero m.choice) a ≡ Went m.mid) is m.went in
      by_below c d m.mid c.below refl v is f.good (done_is t m.mid d m.more f.good.top.keeps.locals m.typed m.done) went
