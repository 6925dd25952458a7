-- What the machine does of a statement that takes one step the rules do, and the other way round.
use Rattle.std.proofs.Common.{◌≡◌, ℕ, zero, suc, ◌+◌, ◌<◌, ℤ, pos, unsigned_abs, Bool, true, false, not, nat_lt, List, [], ◌∷◌, map, length, Option, None, Some, slice_get, option_map, unwrap_or, refl, ap, sym, ◌∙◌, subst, if◌then◌else◌, arith}
use Rattle.std.proofs.lemmas.Bool.Decides.{nat_tests}
use Rattle.std.proofs.lemmas.Option.{none-some, same_Some}
use Rattle.math_facts.specs.Optional.{or_zero}
use Rattle.boogie_tree.specs.declared.span.Span.{Span}
use Rattle.boogie_tree.specs.declared.tree.Column.{Column}
use Rattle.typed_tree.specs.TypedTree.{TypedExpression, TypedGuard, Any, Cond, TypedStatement, Assert, Assume, Assign, If, Break, Goto, Return, TypedBlock, TypedProcedure, TypedProgram}
use Rattle.typed_tree.specs.TypingRules.Counts.{block_assertions, block_points}
use Rattle.typed_tree.specs.Values.{State, value, value_is_zero}
use Rattle.boogie_run.specs.BoogiePoints.Points.{Todo, Point, settled, past, broken, found_block}
use Rattle.boogie_run.specs.BoogiePoints.Actions.{Action, Jump, free_conditions, point_behind, ways_to, first_assertion, first_place}
use Rattle.boogie_run.specs.Configurations.{Config}
use Rattle.boogie_run.specs.Needs.{is_taken, need_of_action, Below}
use Rattle.boogie_run.specs.Steps.{Went, Failed, act, moved_to, all_written, is_true, went_if}
use Rattle.boogie_run.specs.RunRules.Moments.{OpenBlock, Moment, seen, going_on, with_values}
use Rattle.boogie_run.specs.RunRules.Conditions.{Lets}
use Rattle.boogie_run.specs.RunRules.Steps.{StatementFails, at_label}
use Rattle.boogie_run.specs.RunRules.Ties.Mirrors.{pending_of, pendings, moment_of, HasBody, IsFull, Mirrors}
use Rattle.boogie_run.specs.RunRules.Ties.Scenes.{Scene, SceneHolds, config_at, moment_at, after_at, todo_at, StatementGoes, StatementAgrees}
use Rattle.boogie_run.proofs.RunRules.Control.{pendings_broken, pendings_found, pendings_or_none}
use Rattle.boogie_run.proofs.RunRules.Acting.{ActsBy, failed_test, blocked_test, went_test, went_supposing, not_true, not_false, went_by, failed_by, steps_by, scene_action, scene_acts, sound_by_step, leads_by_step, fails_by_step, scene_mirrors}
use Rattle.boogie_run.proofs.RunRules.Writing.{written_moment, written_mirrors}

-- ---- assert and assume

pub assert_agrees : (t : TypedProgram) (sc : Scene) (span : Span) (e : TypedExpression) (b : TypedBlock) → SceneHolds t sc → StatementAgrees t sc (Assert span e) b
assert_agrees t sc span e b holds =
    let s : TypedStatement = Assert span e in
    let c : Config = config_at sc s b in
    let m : Moment = moment_at sc s b in
    let a : Action = scene_action t sc s b holds in
    let z : ℤ = value (seen m) e in
    let todo : List Todo = past t.procs s b sc.of_loop sc.id sc.place ∷ sc.under in
    let next : Config = moved_to sc.values (settled todo) in
    let after : Moment = going_on m (after_at t sc s b) in
    let by : ActsBy t c a = scene_acts t sc s b holds in
    let there : Mirrors t next after = scene_mirrors t sc todo holds in
    record {
      sound = λ n bound choices most fails.
          sound_by_step t c n bound (StatementFails t m s sc.id n) (StatementGoes t sc s b) choices most fails
          (λ choice h. let k = failed_test (is_true z) next sc.id n (failed_by t c a choice n by h).1 in (not_false (value_is_zero z) k.0, k.1))
          (λ choice d h.
          let k = went_test (is_true z) next d sc.id (went_by t c a choice d by h).1 in
          (after, (not_true (value_is_zero z) k.0, refl), subst (λ (x : Config). Mirrors t x after) k.1 there));
      leads = λ d h. leads_by_step t c next d None (steps_by t c a None (Went next) by refl (rw h.0)) (subst (Mirrors t next) (sym h.1) there);
      fails = λ n h. fails_by_step t c n None (steps_by t c a None (Failed n) by refl (rw (h.0, h.1)));
    }

pub assume_agrees : (t : TypedProgram) (sc : Scene) (span : Span) (e : TypedExpression) (b : TypedBlock) → SceneHolds t sc → StatementAgrees t sc (Assume span e) b
assume_agrees t sc span e b holds =
    let s : TypedStatement = Assume span e in
    let c : Config = config_at sc s b in
    let m : Moment = moment_at sc s b in
    let a : Action = scene_action t sc s b holds in
    let z : ℤ = value (seen m) e in
    let todo : List Todo = past t.procs s b sc.of_loop sc.id sc.place ∷ sc.under in
    let next : Config = moved_to sc.values (settled todo) in
    let after : Moment = going_on m (after_at t sc s b) in
    let by : ActsBy t c a = scene_acts t sc s b holds in
    let there : Mirrors t next after = scene_mirrors t sc todo holds in
    record {
      sound = λ n bound choices most fails.
          sound_by_step t c n bound ⊥ (StatementGoes t sc s b) choices most fails
          (λ choice h. blocked_test (is_true z) next n (failed_by t c a choice n by h).1)
          (λ choice d h.
          let k = went_supposing (is_true z) next d (went_by t c a choice d by h).1 in
          (after, (not_true (value_is_zero z) k.0, refl), subst (λ (x : Config). Mirrors t x after) k.1 there));
      leads = λ d h. leads_by_step t c next d None (steps_by t c a None (Went next) by refl (rw h.0)) (subst (Mirrors t next) (sym h.1) there);
      fails = λ n h. absurd h;
    }

-- ---- what goes on in one way alone

goes_no_other : (d e : Config) → Went d ≡ Went e → d ≡ e
goes_no_other d e h = cc

never_fails : (d : Config) (n : ℕ) → Went d ≡ Failed n → ⊥
never_fails d n h = cc

-- a statement whose action goes on to one configuration, which mirrors the moment that the rules lead to
one_way_agrees : (t : TypedProgram) (sc : Scene) (s : TypedStatement) (b : TypedBlock) (a : Action) (next : Config) (after : Moment) → ActsBy t (config_at sc s b) a →
    is_taken (need_of_action t sc.values.top.proc a) None ≡ true → ((v : ℤ) → act t (config_at sc s b) v a ≡ Went next) → Mirrors t next after → StatementGoes t sc s b after →
    ((d : Moment) → StatementGoes t sc s b d → d ≡ after) → ((n : ℕ) → StatementFails t (moment_at sc s b) s sc.id n → ⊥) → StatementAgrees t sc s b
one_way_agrees t sc s b a next after by taken acts there goes only never =
    let c : Config = config_at sc s b in
    record {
      sound = λ n bound choices most fails.
          sound_by_step t c n bound (StatementFails t (moment_at sc s b) s sc.id n) (StatementGoes t sc s b) choices most fails
          (λ choice h. absurd (never_fails next n (sym (acts (or_zero choice)) ∙ (failed_by t c a choice n by h).1)))
          (λ choice d h.
          (after, goes, subst (λ (x : Config). Mirrors t x after) (goes_no_other next d (sym (acts (or_zero choice)) ∙ (went_by t c a choice d by h).1)) there));
      leads = λ d h. leads_by_step t c next d None (steps_by t c a None (Went next) by taken (acts (pos 0))) (subst (Mirrors t next) (sym (only d h)) there);
      fails = λ n h. absurd (never n h);
    }

pub assign_agrees : (t : TypedProgram) (sc : Scene) (span : Span) (cs : List Column) (es : List TypedExpression) (b : TypedBlock) → SceneHolds t sc →
    StatementAgrees t sc (Assign span cs es) b
assign_agrees t sc span cs es b holds =
    let s : TypedStatement = Assign span cs es in
    let c : Config = config_at sc s b in
    let m : Moment = moment_at sc s b in
    let todo : List Todo = past t.procs s b sc.of_loop sc.id sc.place ∷ sc.under in
    let zs : List ℤ = map (value (seen m)) es in
    let full : IsFull t c = record { all_globals = holds.full.all_globals; all_locals = holds.full.all_locals; body = holds.full.body } in
    let after : Moment = going_on (with_values m cs zs) (pendings todo) in
    let same : with_values (moment_of c sc.targets sc.below (pendings todo)) cs zs ≡ after =
    sym (written_moment c sc.targets sc.below (pendings todo) cs zs)
    ∙ ap (λ (x : Moment). going_on x (pendings todo)) (written_moment c sc.targets sc.below (pendings (todo_at sc s b ∷ sc.under)) cs zs) in
    let next : Config = moved_to (all_written c cs zs) (settled todo) in
    one_way_agrees t sc s b (scene_action t sc s b holds) next after (scene_acts t sc s b holds) refl (λ v. refl)
    (subst (Mirrors t next) same (written_mirrors t c sc.targets sc.below todo cs zs holds.waits full)) refl (λ d h. h) (λ n h. h)

-- a statement that jumps to these blocks
jump_agrees : (t : TypedProgram) (sc : Scene) (s : TypedStatement) (b : TypedBlock) (holds : SceneHolds t sc) (todo : List Todo) (ps : List OpenBlock) →
    scene_action t sc s b holds ≡ Jump (settled todo) → pendings todo ≡ ps → StatementGoes t sc s b (going_on (moment_at sc s b) ps) →
    ((d : Moment) → StatementGoes t sc s b d → d ≡ going_on (moment_at sc s b) ps) → ((n : ℕ) → StatementFails t (moment_at sc s b) s sc.id n → ⊥) → StatementAgrees t sc s b
jump_agrees t sc s b holds todo ps jumps same goes only never =
    one_way_agrees t sc s b (Jump (settled todo)) (moved_to sc.values (settled todo)) (going_on (moment_at sc s b) ps)
    (subst (ActsBy t (config_at sc s b)) jumps (scene_acts t sc s b holds)) refl (λ v. refl)
    (subst (λ (qs : List OpenBlock). Mirrors t (moved_to sc.values (settled todo)) (going_on (moment_at sc s b) qs)) same (scene_mirrors t sc todo holds)) goes only never

pub break_agrees : (t : TypedProgram) (sc : Scene) (span : Span) (k : ℕ) (b : TypedBlock) → SceneHolds t sc → StatementAgrees t sc (Break span k) b
break_agrees t sc span k b holds =
    let here : List Todo = todo_at sc (Break span k) b ∷ sc.under in
    jump_agrees t sc (Break span k) b holds (broken t.procs k here) _ refl (pendings_broken t.procs k here) refl (λ d h. h) (λ n h. h)

pub return_agrees : (t : TypedProgram) (sc : Scene) (span : Span) (b : TypedBlock) → SceneHolds t sc → StatementAgrees t sc (Return span) b
return_agrees t sc span b holds = jump_agrees t sc (Return span) b holds [] [] refl refl refl (λ d h. h) (λ n h. h)

-- ---- if

-- the point and the blocks of one of two ways
branch_mirrors : (t : TypedProgram) (sc : Scene) (w : Bool) (x y : Todo) (under : List Todo) → SceneHolds t sc →
    Mirrors t (moved_to sc.values (if w then settled (x ∷ under) else settled (y ∷ under)))
    (moment_of sc.values sc.targets sc.below ((if w then pending_of x else pending_of y) ∷ pendings under))
branch_mirrors t sc true x y under holds = scene_mirrors t sc (x ∷ under) holds
branch_mirrors t sc false x y under holds = scene_mirrors t sc (y ∷ under) holds

-- a condition lets a run go in where it is true
pub lets_where : (s : State) (e : TypedExpression) (w : Bool) → is_true (value s e) ≡ w → Lets s (Cond e) w
lets_where s e true h = not_true (value_is_zero (value s e)) h
lets_where s e false h = not_false (value_is_zero (value s e)) h

pub where_lets : (s : State) (e : TypedExpression) (w : Bool) → Lets s (Cond e) w → is_true (value s e) ≡ w
where_lets s e true h = ap not h
where_lets s e false h = ap not h

pub never_goes_and_fails : (o : Option Point) (c : Config) (n : ℕ) → went_if o c ≡ Failed n → ⊥
never_goes_and_fails None c n h = cc
never_goes_and_fails (Some p) c n h = cc

-- one of two ways is chosen by its number
pub two_ways : (p q : Point) (i : ℕ) (c d : Config) → went_if (slice_get (p ∷ q ∷ []) i) c ≡ Went d → (w : Bool) × (moved_to c (if w then p else q) ≡ d)
two_ways p q zero c d h = (true, cc)
two_ways p q (suc zero) c d h = (false, cc)
two_ways p q (suc (suc i)) c d h = absurd (cc)

abbrev pub number_of_way : Bool → ℤ
number_of_way w = if w then pos 0 else pos 1

pub taken_way : (w : Bool) → is_taken (Below 2) (Some (number_of_way w)) ≡ true
taken_way true = refl
taken_way false = refl

pub chosen_way : (w : Bool) (p q : Point) (c : Config) → went_if (slice_get (p ∷ q ∷ []) (unsigned_abs (number_of_way w))) c ≡ Went (moved_to c (if w then p else q))
chosen_way true p q c = refl
chosen_way false p q c = refl

pub if_agrees : (t : TypedProgram) (sc : Scene) (span : Span) (g : TypedGuard) (x y b : TypedBlock) → SceneHolds t sc → StatementAgrees t sc (If span g x y) b
if_agrees t sc span Any x y b holds =
    let s : TypedStatement = If span Any x y in
    let c : Config = config_at sc s b in
    let a : Action = scene_action t sc s b holds in
    let under : List Todo = past t.procs s b sc.of_loop sc.id sc.place ∷ sc.under in
    let u : Todo = record { rest = x; of_loop = false; id = sc.id; at = sc.place + 1 } in
    let v : Todo = record { rest = y; of_loop = false; id = sc.id + block_assertions t.procs x; at = sc.place + 1 + block_points t.procs x } in
    let hit : Point = settled (u ∷ under) in
    let miss : Point = settled (v ∷ under) in
    let after = λ (w : Bool). moment_of sc.values sc.targets sc.below ((if w then pending_of u else pending_of v) ∷ pendings under) in
    let by : ActsBy t c a = scene_acts t sc s b holds in
    record {
      sound = λ n bound choices most fails.
          sound_by_step t c n bound ⊥ (StatementGoes t sc s b) choices most fails
          (λ choice h. never_goes_and_fails (slice_get (hit ∷ miss ∷ []) (unsigned_abs (or_zero choice))) c n (failed_by t c a choice n by h).1)
          (λ choice d h.
          let k = two_ways hit miss (unsigned_abs (or_zero choice)) c d (went_by t c a choice d by h).1 in
          (after k.0, (k.0, tt, refl), subst (λ (z : Config). Mirrors t z (after k.0)) k.1 (branch_mirrors t sc k.0 u v under holds)));
      leads = λ d h.
          let next : Config = moved_to c (if h.0 then hit else miss) in
          leads_by_step t c next d (Some (number_of_way h.0)) (steps_by t c a (Some (number_of_way h.0)) (Went next) by (taken_way h.0) (chosen_way h.0 hit miss c))
          (subst (Mirrors t next) (sym h.2) (branch_mirrors t sc h.0 u v under holds));
      fails = λ n h. absurd h;
    }
if_agrees t sc span (Cond e) x y b holds =
    let s : TypedStatement = If span (Cond e) x y in
    let c : Config = config_at sc s b in
    let under : List Todo = past t.procs s b sc.of_loop sc.id sc.place ∷ sc.under in
    let u : Todo = record { rest = x; of_loop = false; id = sc.id; at = sc.place + 1 } in
    let v : Todo = record { rest = y; of_loop = false; id = sc.id + block_assertions t.procs x; at = sc.place + 1 + block_points t.procs x } in
    let w : Bool = is_true (value (seen (moment_at sc s b)) e) in
    let after = λ (w : Bool). moment_of sc.values sc.targets sc.below ((if w then pending_of u else pending_of v) ∷ pendings under) in
    one_way_agrees t sc s b (scene_action t sc s b holds) (moved_to c (if w then settled (u ∷ under) else settled (v ∷ under))) (after w) (scene_acts t sc s b holds) refl
    (λ z. refl) (branch_mirrors t sc w u v under holds) (w, lets_where (seen (moment_at sc s b)) e w refl, refl)
    (λ d h. h.2 ∙ ap after (sym (where_lets (seen (moment_at sc s b)) e h.0 h.1))) (λ n h. h)

-- ---- goto

-- a way to each label
point_at_label : (o : Option (List Todo)) → point_behind o ≡ settled (unwrap_or o [])
point_at_label None = refl
point_at_label (Some todo) = refl

ways_get : (procs : List TypedProcedure) (body : TypedBlock) (id place : ℕ) (ks : List ℕ) (n : ℕ) →
    slice_get (ways_to procs body id place ks) n ≡ option_map (λ k. settled (unwrap_or (found_block procs k body false id place []) [])) (slice_get ks n)
ways_get procs body id place [] n = refl
ways_get procs body id place (k ∷ ks) zero = ap Some (point_at_label (found_block procs k body false id place []))
ways_get procs body id place (k ∷ ks) (suc n) = ways_get procs body id place ks n

less_ways : (procs : List TypedProcedure) (body : TypedBlock) (id place : ℕ) (ks : List ℕ) (n k : ℕ) → slice_get ks n ≡ Some k → n < length (ways_to procs body id place ks)
less_ways procs body id place [] n k h = absurd (none-some k h)
less_ways procs body id place (l ∷ ks) zero k h = omega arith
less_ways procs body id place (l ∷ ks) (suc n) k h = let less : n < length (ways_to procs body id place ks) = less_ways procs body id place ks n k h in omega arith

is_less : (a b : ℕ) → a < b → nat_lt a b ≡ true
is_less a b h = grind (arith, nat_tests)

went_way : (f : ℕ → Point) (o : Option ℕ) (c d : Config) → went_if (option_map f o) c ≡ Went d → (k : ℕ) × (o ≡ Some k) × (moved_to c (f k) ≡ d)
went_way f None c d h = absurd (cc)
went_way f (Some k) c d h = (k, refl, cc)

-- where a goto leads the machine, the rules lead too
label_same : (t : TypedProgram) (m : Moment) (h : HasBody t m.top.proc) (k place : ℕ) →
    pendings (unwrap_or (found_block t.procs k h.body false (first_assertion t.procs m.top.proc) place []) []) ≡ at_label t m k
label_same t m h k place =
    rw (h.there, h.has_body)
    (pendings_or_none (found_block t.procs k h.body false (first_assertion t.procs m.top.proc) place [])
    ∙ ap (λ (o : Option (List OpenBlock)). unwrap_or o []) (pendings_found t.procs k h.body false (first_assertion t.procs m.top.proc) place []))

only_label : (l n k : ℕ) → slice_get (l ∷ []) n ≡ Some k → k ≡ l
only_label l zero k h = sym (same_Some l k h)
only_label l (suc n) k h = absurd (none-some k h)

pub goto_agrees : (t : TypedProgram) (sc : Scene) (span : Span) (ks : List ℕ) (b : TypedBlock) → SceneHolds t sc → StatementAgrees t sc (Goto span ks) b
goto_agrees t sc span [] b holds = jump_agrees t sc (Goto span []) b holds [] [] refl refl refl (λ d h. h) (λ n h. h)
goto_agrees t sc span (l ∷ []) b holds =
    let m : Moment = moment_at sc (Goto span (l ∷ [])) b in
    let place : ℕ = first_place t sc.values.top.proc + length (free_conditions holds.full.body.procedure.specs) in
    let found : Option (List Todo) = found_block t.procs l holds.full.body.body false (first_assertion t.procs sc.values.top.proc) place [] in
    jump_agrees t sc (Goto span (l ∷ [])) b holds (unwrap_or found []) (at_label t m l) (ap Jump (point_at_label found)) (label_same t m holds.full.body l place)
    (0, l, refl, refl) (λ d h. h.3 ∙ ap (λ (k : ℕ). going_on m (at_label t m k)) (only_label l h.0 h.1 h.2)) (λ n h. h)
goto_agrees t sc span (l ∷ l' ∷ ls) b holds =
    let s : TypedStatement = Goto span (l ∷ l' ∷ ls) in
    let c : Config = config_at sc s b in
    let m : Moment = moment_at sc s b in
    let a : Action = scene_action t sc s b holds in
    let ks : List ℕ = l ∷ l' ∷ ls in
    let body : TypedBlock = holds.full.body.body in
    let first : ℕ = first_assertion t.procs sc.values.top.proc in
    let place : ℕ = first_place t sc.values.top.proc + length (free_conditions holds.full.body.procedure.specs) in
    let blocks = λ (k : ℕ). unwrap_or (found_block t.procs k body false first place []) [] in
    let by : ActsBy t c a = scene_acts t sc s b holds in
    let there = λ (k : ℕ).
    subst (λ (qs : List OpenBlock). Mirrors t (moved_to c (settled (blocks k))) (going_on m qs)) (label_same t m holds.full.body k place) (scene_mirrors t sc (blocks k) holds) in
    record {
      sound = λ n bound choices most fails.
          sound_by_step t c n bound ⊥ (StatementGoes t sc s b) choices most fails
          (λ choice h. never_goes_and_fails (slice_get (ways_to t.procs body first place ks) (unsigned_abs (or_zero choice))) c n (failed_by t c a choice n by h).1)
          (λ choice d h.
          let i : ℕ = unsigned_abs (or_zero choice) in
          let k = went_way (λ k. settled (blocks k)) (slice_get ks i) c d
          (ap (λ (o : Option Point). went_if o c) (sym (ways_get t.procs body first place ks i)) ∙ (went_by t c a choice d by h).1) in
          (going_on m (at_label t m k.0), (i, k.0, k.1, refl), subst (λ (x : Config). Mirrors t x (going_on m (at_label t m k.0))) k.2 (there k.0)));
      leads = λ d h.
          let next : Config = moved_to c (settled (blocks h.1)) in
          leads_by_step t c next d (Some (pos h.0))
          (steps_by t c a (Some (pos h.0)) (Went next) by (is_less h.0 (length (ways_to t.procs body first place ks)) (less_ways t.procs body first place ks h.0 h.1 h.2))
          (ap (λ (o : Option Point). went_if o c) (ways_get t.procs body first place ks h.0 ∙ ap (option_map (λ k. settled (blocks k))) h.2)))
          (subst (Mirrors t next) (sym h.3) (there h.1));
      fails = λ n h. absurd h;
    }
