-- That the machine and the rules agree about a call whose procedure has no body, or is not there.
use Rattle.std.proofs.Common.{◌≡◌, ◌⊎◌, inl, inr, ⊎_elim, ℕ, suc, ◌+◌, ◌-◌, ◌≤◌, ℤ, pos, true, List, [], ◌∷◌, ◌++◌, map, length, take, drop, Option, None, Some, slice_get, slice_set, unwrap_or, refl, ap, sym, ◌∙◌, subst, arith}
use Rattle.std.proofs.lemmas.Bool.{false≢true}
use Rattle.std.proofs.lemmas.List.{length-map, length_push}
use Rattle.std.proofs.lemmas.Option.{slice_get_past}
use Rattle.boogie_tree.specs.declared.span.Span.{Span}
use Rattle.boogie_tree.specs.declared.tree.Ty.{Ty}
use Rattle.boogie_tree.specs.declared.tree.Column.{Column}
use Rattle.boogie_tree.specs.declared.tree.Column.TheVariants as columns
use Rattle.typed_tree.specs.TypedTree.{TypedExpression, TypedInvariant, TypedStatement, Call, TypedBlock, TypedProcedure, TypedProgram}
use Rattle.typed_tree.specs.Values.{State, value}
use Rattle.typed_tree.specs.TypingRules.Counts.{plain_invariants}
use Rattle.boogie_run.specs.BoogiePoints.Points.{Todo, Body, Point, settled, past}
use Rattle.boogie_run.specs.BoogiePoints.Actions.{Action, Keep, Grant, Finish, Jump, next_part, plain_conditions, ensured_conditions, free_conditions, chosen_columns, unseen_action, first_assertion, first_place}
use Rattle.boogie_run.specs.Configurations.{Config, state_of}
use Rattle.boogie_run.specs.Needs.{Need, Nothing, need, need_of_type, need_of_action, is_taken}
use Rattle.boogie_run.specs.Steps.{Went, Failed, all_put, all_written, moved_to, granted_state, act, step}
use Rattle.boogie_run.specs.Runs.{run}
use Rattle.boogie_run.proofs.RunDefaults.Lengths.{length-all_put}
use Rattle.boogie_run.specs.RunRules.Moments.{OpenBlock, Moment, seen, going_on, with_values}
use Rattle.boogie_run.specs.RunRules.Conditions.{AreMet, Breaks, AreOfTypes, column_type}
use Rattle.boogie_run.specs.RunRules.Steps.{procedure_numbered, with_parameters, granted, modified, CalledLeads}
use Rattle.boogie_run.specs.RunRules.Ties.Mirrors.{Mirrors}
use Rattle.boogie_run.specs.RunRules.Ties.Scenes.{ReachesMirror, GoesOnWhere, Scene, SceneHolds, todo_at, config_at, moment_at, after_at, StatementGoes, StatementAgrees}
use Rattle.boogie_run.specs.RunRules.Ties.Stretches.{outcome_of, ConditionsFollow, ChoicesFollow, FailsFrom, Reaches, ReachesFailure}
use Rattle.boogie_run.proofs.RunRules.Stretches.{reaches_same, reaches_more, one_step, step_sound, conditions_met, conditions_break, conditions_sound_most, choices_made, choices_sound_most, takes_nothing, nothing_taken, of_types_length}
use Rattle.boogie_run.proofs.RunRules.Scenes.{point_at, part_at, kept_at, action_in, scene_need, scene_step}
use Rattle.boogie_run.proofs.RunRules.Calls.{requires_follow, behind_requires}
use Rattle.boogie_run.proofs.RunRules.Loops.{made_of, column_need}
use Rattle.boogie_run.proofs.RunRules.Writing.{put_is_set, same_full, written_mirrors}

-- ---- conditions that are assumed

-- a condition that is assumed
abbrev assumed : TypedInvariant → TypedInvariant
assumed i = record i { free = true }

-- met is met, whether it is assumed or asserted
assumed_met : (s : State) (is : List TypedInvariant) → AreMet s is → AreMet s (map assumed is)
assumed_met s [] h = tt
assumed_met s (i ∷ is) h = (h.0, assumed_met s is h.1)

-- and the other way round
met_assumed : (s : State) (is : List TypedInvariant) → AreMet s (map assumed is) → AreMet s is
met_assumed s [] h = tt
met_assumed s (i ∷ is) h = (h.0, met_assumed s is h.1)

-- none of those is broken as an assertion
assumed_breaks : (s : State) (is : List TypedInvariant) (id n : ℕ) → Breaks s (map assumed is) id n → ⊥
assumed_breaks s [] id n h = h
assumed_breaks s (i ∷ is) id n (inl h) = absurd (false≢true (sym h.1))
assumed_breaks s (i ∷ is) id n (inr h) = assumed_breaks s is _ n h.1

-- ---- what the rules say, for a procedure

-- the modified globals have the first of the values
written_globals : (m : Moment) (ns : List ℕ) (vs : List ℤ) → with_values m (map columns.Global ns) vs ≡ record m { globals = all_put m.globals ns vs }
written_globals m [] vs = refl
written_globals m (n ∷ ns) [] = refl
written_globals m (n ∷ ns) (v ∷ vs) =
    rw (put_is_set m.globals n v) (written_globals (record m { globals = slice_set m.globals n v }) ns vs)

-- without values nothing is written
none_written : (m : Moment) (cs : List Column) → with_values m cs [] ≡ m
none_written m [] = refl
none_written m (c ∷ cs) = refl

-- the procedure that stands for one that is not there
abbrev missing : TypedProcedure
missing = record { name = []; params = 0; results = 0; locals = []; modifies = []; specs = []; body = None }

-- what the ensures of procedure q read
abbrev ensured_state : Config → TypedProcedure → List TypedExpression → List ℤ → State
ensured_state v q es chosen =
    record { globals = all_put v.globals q.modifies chosen; old = v.globals; locals = map (value (state_of v)) es ++ drop (length q.modifies) chosen }

-- where a call of procedure q leads, which has no body
abbrev CallOf : TypedProgram → TypedProcedure → Config → Moment → List Column → List TypedExpression → Moment → Type 0
CallOf t q v behind_statement cs es d =
    (chosen : List ℤ) × AreOfTypes (map (column_type t.globals q.locals) (chosen_columns q)) chosen × AreMet (ensured_state v q es chosen) (ensured_conditions q.specs)
    × (d ≡ with_values (record behind_statement { globals = all_put v.globals q.modifies chosen }) cs (drop (length q.modifies) chosen))

-- the state that the ensures read, by the machine's own writing of the globals
granted_is : (t : TypedProgram) (m : Moment) (f : ℕ) (args chosen : List ℤ) →
    granted t m f args chosen ≡ record { globals = all_put m.globals (procedure_numbered t f).modifies chosen; old = m.globals; locals = args ++ drop (length (procedure_numbered t f).modifies) chosen }
granted_is t m f args chosen =
    ap (λ (x : Moment). let s : State = record { globals = x.globals; old = m.globals; locals = args ++ drop (length (procedure_numbered t f).modifies) chosen } in s)
    (written_globals m (procedure_numbered t f).modifies chosen)

-- the moment behind the call, before the targets are written
behind_is : (t : TypedProgram) (m : Moment) (f : ℕ) (after : List OpenBlock) (chosen : List ℤ) →
    going_on (modified t m f chosen) after ≡ record (going_on m after) { globals = all_put m.globals (procedure_numbered t f).modifies chosen }
behind_is t m f after chosen = ap (λ (x : Moment). going_on x after) (written_globals m (procedure_numbered t f).modifies chosen)

-- ---- the same in a scene

module _ (t : TypedProgram) (sc : Scene) (at : Span) (cs : List Column) (f : ℕ) (es : List TypedExpression) (b : TypedBlock) where
  -- the call
  abbrev call : TypedStatement
  call = Call at cs f es

  -- what the requires read
  abbrev passed_here : State
  passed_here = with_parameters (seen (moment_at sc call b)) es

  -- behind the call
  abbrev behind_statement : Moment
  behind_statement = going_on (moment_at sc call b) (after_at t sc call b)

  -- what is to do behind it
  abbrev after_todo : List Todo
  after_todo = past t.procs call b sc.of_loop sc.id sc.place ∷ sc.under

  -- a call of procedure q, which has no body, leads to d
  abbrev Goes : TypedProcedure → Moment → Type 0
  Goes q d = AreMet passed_here (plain_conditions q.specs) × CallOf t q sc.values behind_statement cs es d

  -- that is what the rules say
  goes_by_rules : (d : Moment) → (procedure_numbered t f).body ≡ None → Goes (procedure_numbered t f) d → StatementGoes t sc call b d
  goes_by_rules d none h =
      let m : Moment = moment_at sc call b in
      let after : List OpenBlock = after_at t sc call b in
      let chosen : List ℤ = h.1.0 in
      let there : CalledLeads t m f None cs es after d = (
        chosen,
        h.1.1,
        subst (λ (s : State). AreMet s (ensured_conditions (procedure_numbered t f).specs)) (sym (granted_is t m f (map (value (seen m)) es) chosen)) h.1.2,
        h.1.3 ∙ sym (ap (λ (x : Moment). with_values x cs (drop (length (procedure_numbered t f).modifies) chosen)) (behind_is t m f after chosen)),
      ) in
      (h.0, subst (λ (o : Option TypedBlock). CalledLeads t m f o cs es after d) (sym none) there)

  -- and the rules say that
  rules_go : (d : Moment) → (procedure_numbered t f).body ≡ None → StatementGoes t sc call b d → Goes (procedure_numbered t f) d
  rules_go d none h =
      let m : Moment = moment_at sc call b in
      let after : List OpenBlock = after_at t sc call b in
      let there : CalledLeads t m f None cs es after d = subst (λ (o : Option TypedBlock). CalledLeads t m f o cs es after d) none h.1 in
      let chosen : List ℤ = there.0 in (
        h.0,
        (
          chosen,
          there.1,
          subst (λ (s : State). AreMet s (ensured_conditions (procedure_numbered t f).specs)) (granted_is t m f (map (value (seen m)) es) chosen) there.2,
          there.3 ∙ ap (λ (x : Moment). with_values x cs (drop (length (procedure_numbered t f).modifies) chosen)) (behind_is t m f after chosen),
        ),
      )

  -- ---- where the procedure is there

  module _ (holds : SceneHolds t sc) (q : TypedProcedure) (found : slice_get t.procs f ≡ Some q) (no_body : q.body ≡ None) where
    -- the types of the values that are chosen
    abbrev types_chosen : List Ty
    types_chosen = map (column_type t.globals q.locals) (chosen_columns q)

    -- the ensures, as conditions that are assumed, and what they read
    abbrev ensures : List TypedInvariant
    ensures = ensured_conditions q.specs

    abbrev ensured : List TypedInvariant
    ensured = map assumed ensures

    abbrev state_with : List ℤ → State
    state_with vs = ensured_state sc.values q es vs

    -- the numbers of the requires and of the choices
    abbrev required : ℕ
    required = length (plain_conditions q.specs)

    abbrev chosen_count : ℕ
    chosen_count = length (chosen_columns q)

    -- with so many parts done, and these values chosen
    abbrev unseen_at : ℕ → List ℤ → Config
    unseen_at part chosen = kept_at sc.values (point_at sc call b part) chosen

    -- where the next value is chosen
    abbrev choosing : List ℤ → Config
    choosing vs = unseen_at (required + length vs) vs

    -- where so many of the ensures are assumed
    abbrev assuming : List ℤ → ℕ → Config
    assuming vs k = unseen_at (required + (chosen_count + k)) vs

    -- the action with so many parts done, and what an action needs
    abbrev action_with : ℕ → Action
    action_with part = action_in t sc holds.full.body call b part

    abbrev needs_by : Action → Need
    needs_by a = need_of_action t sc.values.top.proc a

    -- what the call does behind its requires
    does : (done : ℕ) →
        action_with (required + done) ≡
        unseen_action (slice_get (chosen_columns q) done) (slice_get ensures (done - chosen_count)) f cs es (point_at sc call b (required + done)) (settled after_todo)
    does done =
        behind_requires t.procs holds.full.body.body (first_assertion t.procs sc.values.top.proc)
        (first_place t sc.values.top.proc + length (free_conditions holds.full.body.procedure.specs)) at cs f es b sc.of_loop sc.id sc.place sc.under
        (todo_at sc call b ∷ sc.under) Body q done found
        ∙ rw no_body

    -- first the values are chosen,
    keeps : (done : ℕ) (c : Column) → slice_get (chosen_columns q) done ≡ Some c →
        action_with (required + done) ≡ Keep f es c (next_part (point_at sc call b (required + done)))
    keeps done c e = does done ∙ rw e

    -- then the ensures are assumed,
    grants : (k : ℕ) (i : TypedInvariant) → slice_get ensures k ≡ Some i →
        action_with (required + (chosen_count + k)) ≡ Grant f es i.cond (next_part (point_at sc call b (required + (chosen_count + k))))
    grants k i e =
        let left : chosen_count + k - chosen_count ≡ k = omega arith in
        does (chosen_count + k) ∙ rw (slice_get_past (chosen_columns q) (chosen_count + k) (omega arith), left, e)

    -- and then all is written
    finishes : (k : ℕ) → length ensures ≤ k → action_with (required + (chosen_count + k)) ≡ Finish f es cs (settled after_todo)
    finishes k h =
        let left : chosen_count + k - chosen_count ≡ k = omega arith in
        does (chosen_count + k) ∙ rw (slice_get_past (chosen_columns q) (chosen_count + k) (omega arith), left, slice_get_past ensures k h)

    -- the values of the modified globals and the results are chosen
    keep_need : (c : Column) (p : Point) → needs_by (Keep f es c p) ≡ need_of_type (column_type t.globals q.locals c)
    keep_need c p = column_need t f c ∙ ap (λ (r : TypedProcedure). need_of_type (column_type t.globals r.locals c)) (ap (λ (o : Option TypedProcedure). unwrap_or o missing) found)

    choices_follow : ChoicesFollow t choosing types_chosen
    choices_follow vs ty e =
        let x = made_of (column_type t.globals q.locals) (chosen_columns q) (length vs) ty e in
        let p : Point = point_at sc call b (required + length vs) in
        let needs : needs_by (action_with (required + length vs)) ≡ need_of_type ty =
        ap needs_by (keeps (length vs) x.0 x.1) ∙ keep_need x.0 (next_part p) ∙ ap need_of_type x.2 in (
          scene_need t sc call b (required + length vs) vs holds ∙ needs,
          λ v taken.
              scene_step t sc call b (required + length vs) vs (Some v) holds (ap (λ n. is_taken n (Some v)) needs ∙ taken)
              ∙ ap (act t (choosing vs) v) (keeps (length vs) x.0 x.1)
              ∙ ap (λ (k : ℕ). Went (unseen_at k (vs ++ v ∷ []))) (omega (arith, length_push vs v)),
        )

    -- the state of the ensures
    ensured_is : (part : ℕ) (vs : List ℤ) → granted_state t (unseen_at part vs) f es ≡ state_with vs
    ensured_is part vs = rw found

    -- the ensures are assumed
    grants_follow : (vs : List ℤ) (id : ℕ) →
        ConditionsFollow t (assuming vs) (state_with vs) ensured id
    grants_follow vs id k i e =
        let x = made_of assumed ensures k i e in
        let part : ℕ = required + (chosen_count + k) in
        let needs : needs_by (action_with part) ≡ Nothing = ap needs_by (grants k x.0 x.1) in
        let one_on : part + 1 ≡ required + (chosen_count + (k + 1)) = omega arith in (
          scene_step t sc call b part vs None holds (takes_nothing _ needs)
              ∙ ap (act t (unseen_at part vs) (pos 0)) (grants k x.0 x.1)
              ∙ ap (λ (s : State). outcome_of s (assumed x.0) id (unseen_at (part + 1) vs)) (ensured_is part vs)
              ∙ ap (λ (n : ℕ). outcome_of (state_with vs) (assumed x.0) id (unseen_at n vs)) one_on
              ∙ ap (λ (j : TypedInvariant). outcome_of (state_with vs) j (id + plain_invariants (take k ensured)) (assuming vs (k + 1))) x.2,
          λ choice taken. nothing_taken _ choice (scene_need t sc call b part vs holds ∙ needs) taken,
        )

    -- behind the writing
    abbrev granted_at : ℕ → List ℤ → Config
    granted_at k vs = record (assuming vs k) { globals = all_put sc.values.globals q.modifies vs }

    abbrev finished_at : ℕ → List ℤ → Config
    finished_at k vs = moved_to (all_written (granted_at k vs) cs (drop (length q.modifies) vs)) (settled after_todo)

    -- the last step takes nothing, and goes on
    finish_need : (k : ℕ) (vs : List ℤ) → length ensures ≤ k → need t (assuming vs k) ≡ Nothing
    finish_need k vs h =
        scene_need t sc call b (required + (chosen_count + k)) vs holds ∙ ap needs_by (finishes k h)

    finish_step : (k : ℕ) (vs : List ℤ) → length ensures ≤ k → step t (assuming vs k) None ≡ Went (finished_at k vs)
    finish_step k vs h =
        scene_step t sc call b (required + (chosen_count + k)) vs None holds (takes_nothing _ (ap needs_by (finishes k h)))
        ∙ ap (act t (assuming vs k) (pos 0)) (finishes k h)
        ∙ rw found

    -- the moment behind the call
    abbrev finished_moment : List ℤ → Moment
    finished_moment vs = with_values (record behind_statement { globals = all_put sc.values.globals q.modifies vs }) cs (drop (length q.modifies) vs)

    -- that is the moment where the machine stands then
    finish_mirrors : (k : ℕ) (vs : List ℤ) → Mirrors t (finished_at k vs) (finished_moment vs)
    finish_mirrors k vs =
        written_mirrors t (granted_at k vs) sc.targets sc.below after_todo cs (drop (length q.modifies) vs) holds.waits
        (same_full t sc.values (granted_at k vs)
        (record { globals = length-all_put sc.values.globals q.modifies vs; locals = refl; entry = refl; proc = refl; below = refl }) holds.full)

    -- where the stretches meet
    first_choice : unseen_at required [] ≡ unseen_at (required + 0) []
    first_choice = ap (λ (k : ℕ). unseen_at k []) (omega arith)

    first_grant : (vs : List ℤ) → AreOfTypes types_chosen vs → choosing vs ≡ assuming vs 0
    first_grant vs h =
        ap (λ (k : ℕ). unseen_at k vs)
        (omega (arith, of_types_length types_chosen vs h, length-map (chosen_columns q) (column_type t.globals q.locals)))

    -- all the ensures
    enough : length ensures ≤ length ensured
    enough = omega (arith, length-map ensures assumed)

    module _ (follow : ConditionsFollow t (part_at sc call b) passed_here (plain_conditions q.specs) sc.id) where
      -- what the rules do the machine does
      goes_leads : (d : Moment) → Goes q d → ReachesMirror t (config_at sc call b) d
      goes_leads d h =
          let vs : List ℤ = h.1.0 in
          let last : ℕ = length ensured in
          let c1 : Config = unseen_at required [] in
          let c2 : Config = choosing vs in
          let c3 : Config = assuming vs last in
          let demanded : Reaches t (config_at sc call b) c1 =
          conditions_met t (part_at sc call b) passed_here (plain_conditions q.specs) sc.id follow h.0 in
          let chosen : Reaches t c1 c2 =
          reaches_more t c1 (unseen_at (required + 0) []) c2 (reaches_same t c1 (unseen_at (required + 0) []) first_choice)
          (choices_made t choosing types_chosen vs choices_follow h.1.1) in
          let supposed : Reaches t c2 c3 =
          reaches_more t c2 (assuming vs 0) c3 (reaches_same t c2 (assuming vs 0) (first_grant vs h.1.1))
          (conditions_met t (assuming vs) (state_with vs) ensured 0 (grants_follow vs 0)
          (assumed_met (state_with vs) ensures h.1.2)) in
          let end : Reaches t c3 (finished_at last vs) = one_step t c3 (finished_at last vs) None (finish_step last vs enough) in (
            finished_at last vs,
            reaches_more t _ c3 _ (reaches_more t _ c2 _ (reaches_more t _ c1 _ demanded chosen) supposed) end,
            subst (Mirrors t (finished_at last vs)) (sym h.1.3) (finish_mirrors last vs),
          )

      -- so it is with a failure
      goes_fails : (n : ℕ) → Breaks passed_here (plain_conditions q.specs) sc.id n →
          ReachesFailure t (config_at sc call b) n
      goes_fails n h =
          conditions_break t (part_at sc call b) passed_here (plain_conditions q.specs) sc.id n follow h

      module _ (n bound : ℕ) (met : AreMet passed_here (plain_conditions q.specs)) where
        -- behind the ensures
        finish_sound : (vs : List ℤ) → AreOfTypes types_chosen vs → AreMet (state_with vs) ensures →
            FailsFrom t (assuming vs (length ensured)) n (suc bound) → GoesOnWhere t (Goes q) n bound
        finish_sound vs of granted h =
            record {
              moment = finished_moment vs;
              config = finished_at (length ensured) vs;
              leads = (met, (vs, of, granted, refl));
              mirrors = finish_mirrors (length ensured) vs;
              fails =
                  step_sound t (assuming vs (length ensured)) (finished_at (length ensured) vs) h.choices n bound
                  (finish_need (length ensured) vs enough) (finish_step (length ensured) vs enough) h.most h.fails;
            }

        -- behind the choices
        grant_sound : (vs : List ℤ) → AreOfTypes types_chosen vs →
            FailsFrom t (choosing vs) n (suc bound) → GoesOnWhere t (Goes q) n bound
        grant_sound vs of h =
            let s : State = state_with vs in
            ⊎_elim (λ broken. absurd (assumed_breaks s ensures 0 n broken))
            (λ rest. finish_sound vs of (met_assumed s ensures rest.0) rest.1)
            (conditions_sound_most t (assuming vs) s ensured 0 h.choices n (suc bound) (grants_follow vs 0) h.most
            (subst (λ (c : Config). run t c h.choices ≡ Failed n) (first_grant vs of) h.fails))

        -- behind the requires
        choice_sound : FailsFrom t (unseen_at required []) n (suc bound) → GoesOnWhere t (Goes q) n bound
        choice_sound h =
            let r =
            choices_sound_most t choosing types_chosen h.choices n (suc bound)
            choices_follow h.most (subst (λ (c : Config). run t c h.choices ≡ Failed n) first_choice h.fails) in
            grant_sound r.0 r.1 r.2

      -- what the machine does the rules do
      goes_sound : (n bound : ℕ) (choices : List (Option ℤ)) → length choices ≤ suc bound → run t (config_at sc call b) choices ≡ Failed n →
          Breaks passed_here (plain_conditions q.specs) sc.id n ⊎ GoesOnWhere t (Goes q) n bound
      goes_sound n bound choices most h =
          ⊎_elim (λ broken. inl broken) (λ rest. inr (choice_sound n bound rest.0 rest.1))
          (conditions_sound_most t (part_at sc call b) passed_here (plain_conditions q.specs) sc.id choices n (suc bound)
          follow most h)

  -- ---- where it is not there

  module _ (holds : SceneHolds t sc) (none : slice_get t.procs f ≡ None) where
    -- the machine goes on behind the call
    jumps : action_in t sc holds.full.body call b 0 ≡ Jump (settled after_todo)
    jumps = rw none

    jump_need : need t (config_at sc call b) ≡ Nothing
    jump_need = scene_need t sc call b 0 [] holds ∙ ap (need_of_action t sc.values.top.proc) jumps

    jump_step : step t (config_at sc call b) None ≡ Went (moved_to sc.values (settled after_todo))
    jump_step =
        scene_step t sc call b 0 [] None holds (takes_nothing _ (ap (need_of_action t sc.values.top.proc) jumps))
        ∙ ap (act t (config_at sc call b) (pos 0)) jumps

    -- it mirrors the moment behind the call
    jump_mirrors : Mirrors t (moved_to sc.values (settled after_todo)) behind_statement
    jump_mirrors =
        record {
          values = sc.values;
          todo = after_todo;
          targets = sc.targets;
          below = sc.below;
          config = refl;
          moment = refl;
          waits = holds.waits;
          full = holds.full;
        }

    -- nothing is chosen, and so nothing is written
    jump_goes : (d : Moment) → Goes missing d → d ≡ behind_statement
    jump_goes d h = go h.1.0 h.1.1 h.1.3 where
      go : (chosen : List ℤ) → AreOfTypes [] chosen → d ≡ with_values behind_statement cs chosen → d ≡ behind_statement
      go [] of e = e ∙ none_written behind_statement cs
      go (v ∷ vs) of e = absurd of

    -- the two directions
    jump_leads : (d : Moment) → Goes missing d → ReachesMirror t (config_at sc call b) d
    jump_leads d h = (
      moved_to sc.values (settled after_todo),
      one_step t (config_at sc call b) (moved_to sc.values (settled after_todo)) None jump_step,
      subst (Mirrors t (moved_to sc.values (settled after_todo))) (sym (jump_goes d h)) jump_mirrors,
    )

    jump_sound : (n bound : ℕ) (choices : List (Option ℤ)) → length choices ≤ suc bound → run t (config_at sc call b) choices ≡ Failed n →
        GoesOnWhere t (Goes missing) n bound
    jump_sound n bound choices most h =
        record {
          moment = behind_statement;
          config = moved_to sc.values (settled after_todo);
          leads = (tt, ([], tt, tt, sym (none_written behind_statement cs)));
          mirrors = jump_mirrors;
          fails = step_sound t (config_at sc call b) (moved_to sc.values (settled after_todo)) choices n bound jump_need jump_step most h;
        }

-- what holds of the moment may say less
goes_where : (t : TypedProgram) (P Q : Moment → Type 0) (n bound : ℕ) → ((d : Moment) → P d → Q d) → GoesOnWhere t P n bound → GoesOnWhere t Q n bound
goes_where t P Q n bound more h = record { moment = h.moment; config = h.config; leads = more h.moment h.leads; mirrors = h.mirrors; fails = h.fails }

-- the machine and the rules agree about a call of a procedure that is there and has no body
there_agrees : (t : TypedProgram) (sc : Scene) (at : Span) (cs : List Column) (f : ℕ) (es : List TypedExpression) (b : TypedBlock) → SceneHolds t sc →
    (procedure_numbered t f).body ≡ None → slice_get t.procs f ≡ Some (procedure_numbered t f) → StatementAgrees t sc (Call at cs f es) b
there_agrees t sc at cs f es b holds no_body found =
    let follow = requires_follow t sc at cs f es b holds in
    record {
      sound = λ n bound choices most h.
          ⊎_elim (λ broken. inl broken)
          (λ goes. inr (goes_where t (Goes t sc at cs f es b (procedure_numbered t f)) (StatementGoes t sc (Call at cs f es) b) n bound (λ d g. goes_by_rules t sc at cs f es b d no_body g) goes))
          (goes_sound t sc at cs f es b holds (procedure_numbered t f) found no_body follow n bound choices most h);
      leads = λ d h. goes_leads t sc at cs f es b holds (procedure_numbered t f) found no_body follow d (rules_go t sc at cs f es b d no_body h);
      fails = λ n h. goes_fails t sc at cs f es b holds (procedure_numbered t f) found no_body follow n h;
    }

-- the same of one that is not there
missing_agrees : (t : TypedProgram) (sc : Scene) (at : Span) (cs : List Column) (f : ℕ) (es : List TypedExpression) (b : TypedBlock) → SceneHolds t sc →
    slice_get t.procs f ≡ None → StatementAgrees t sc (Call at cs f es) b
missing_agrees t sc at cs f es b holds none =
    let same : procedure_numbered t f ≡ missing = ap (λ (o : Option TypedProcedure). unwrap_or o missing) none in
    let no_body : (procedure_numbered t f).body ≡ None = ap (λ (p : TypedProcedure). p.body) same in
    record {
      sound = λ n bound choices most h.
          inr (goes_where t (Goes t sc at cs f es b missing) (StatementGoes t sc (Call at cs f es) b) n bound
          (λ d g. goes_by_rules t sc at cs f es b d no_body (subst (λ (p : TypedProcedure). Goes t sc at cs f es b p d) (sym same) g))
          (jump_sound t sc at cs f es b holds none n bound choices most h));
      leads = λ d h.
          jump_leads t sc at cs f es b holds none d (subst (λ (p : TypedProcedure). Goes t sc at cs f es b p d) same (rules_go t sc at cs f es b d no_body h));
      fails = λ n h.
          absurd (subst (λ (p : TypedProcedure). Breaks (with_parameters (seen (moment_at sc (Call at cs f es) b)) es) (plain_conditions p.specs) sc.id n) same h);
    }

-- What the machine does of a call without body the rules do, and the other way round.
pub unseen_agrees : (t : TypedProgram) (sc : Scene) (at : Span) (cs : List Column) (f : ℕ) (es : List TypedExpression) (b : TypedBlock) → SceneHolds t sc →
    (procedure_numbered t f).body ≡ None → StatementAgrees t sc (Call at cs f es) b
unseen_agrees t sc at cs f es b holds no_body = by_look (slice_get t.procs f) refl where
  by_look : (o : Option TypedProcedure) → slice_get t.procs f ≡ o → StatementAgrees t sc (Call at cs f es) b
  by_look None e = missing_agrees t sc at cs f es b holds e
  by_look (Some q) e =
      let same : procedure_numbered t f ≡ q = ap (λ (o : Option TypedProcedure). unwrap_or o missing) e in
      there_agrees t sc at cs f es b holds no_body (e ∙ ap (λ (p : TypedProcedure). Some p) (sym same))
