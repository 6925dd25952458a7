-- The choices that are told of a step make its move.
use Rattle.std.proofs.Common.{◌≡◌, ℕ, zero, suc, ◌+◌, ◌<◌, Bool, true, false, nat_eq, ℤ, pos, List, [], ◌∷◌, ◌++◌, map, length, drop, Option, None, Some, inl, inr, refl, sym, ap, subst, ◌∙◌, arith, if◌then◌else◌, eq-eqb}
use Rattle.std.specs.Prelude.{slice_get, unsigned_abs, nat_lt}
use Rattle.std.specs.List.{AllByRecursion}
use Rattle.std.proofs.lemmas.List.{length-append, length-map}
use Rattle.std.proofs.lemmas.Option.{slice_get_within}
use Rattle.std.proofs.lemmas.Bool.{false≢true}
use Rattle.std.proofs.lemmas.Bool.Decides.{nat_tests}
use Rattle.boogie_tree.specs.declared.tree.Ty.{Ty}
use Rattle.boogie_tree.specs.declared.tree.Column.{Column}
use Rattle.boogie_tree.specs.declared.tree.Column.TheVariants as columns
use Rattle.typed_tree.specs.TypedTree.{TypedExpression, TypedProgram}
use Rattle.typed_tree.specs.Values.{State, value, member, column_value}
use Rattle.lin_rows.specs.Points.{point_of}
use Rattle.letter_acts.specs.Frames.{old_columns}
use Rattle.cond_jumps.specs.Frames.{column_place_in}
use Rattle.cond_jumps.proofs.FrameLemmas.{placed}
use Rattle.boogie_run.specs.BoogiePoints.Points.{Point}
use Rattle.boogie_run.specs.BoogiePoints.Actions as actions
use Rattle.boogie_run.specs.BoogiePoints.Actions.{Action, action_at}
use Rattle.boogie_run.specs.BoogiePlaces.Places.{number_of, onward}
use Rattle.boogie_run.specs.Configurations.{Config, state_of}
use Rattle.boogie_run.specs.Needs.{Need, Nothing, need_of_column, need_of_action, is_taken, locals_at}
use Rattle.math_facts.specs.Optional.{or_zero as number_chosen}
use Rattle.boogie_run.specs.Steps.{Went, act, put, moved_to, written, values, entered, went_if}
use Rattle.lowered_graph.specs.LoweredSteps.ProgramFrames.{frame_at, shown, variable_values, column_number, column_number_if_any}
use Rattle.lowered_graph.specs.LoweredSteps.Edges.{Spot, At, columns_before_locals}
use Rattle.lowered_graph.specs.LoweredSteps.Moves.{FrameKeeps, IsTarget, IsTypedAction, IsGood, IsMove, KnowsPoints, shown_stack, filled}
use Rattle.lowered_graph.proofs.LoweredSteps.FrameColumns.{types_length, shown_is_shown}
use Rattle.lowered_graph.proofs.LoweredSteps.Places.{IsThere, global_place, local_place, before_locals, olds_length}
use Rattle.lowered_graph.proofs.LoweredSteps.Writes.{target_there}
use Rattle.lowered_graph.proofs.LoweredSteps.Goodness.{done_is, none_missing}
use Rattle.lowered_graph.specs.LoweredRuns.Choices.{spot_place_number, way_to, choices_of}
use Rattle.lowered_graph.proofs.LoweredRuns.Taken.{WentWay, went_way, some_taken, taken_by_need, all_at}
use Rattle.lowered_graph.proofs.LoweredRuns.Forward.{IsOwn, Follows, own_or_call, move_own}

-- ---- the value of a column that was written

-- a column of a frame that is shown has its value
column_read : (t : TypedProgram) (n : ℕ) (s : State) (x : Column) → FrameKeeps t n s → IsThere t n x → point_of (shown t s) (column_number (frame_at t n) x) ≡ column_value s x
column_read t n s (columns.Global g) k h =
    let e : column_place_in (frame_at t n) (columns.Global g) ≡ Some (g, h.0) = global_place t n g h.0 h.1 in
    let at : column_number (frame_at t n) (columns.Global g) ≡ g = ap column_number_if_any e in
    ap (point_of (shown t s)) at ∙ (placed (frame_at t n) s (shown t s) (columns.Global g) (g, h.0) (shown_is_shown t n s k) e).value_is
column_read t n s (columns.Old g) k h = absurd h
column_read t n s (columns.Local l) k h =
    let e : column_place_in (frame_at t n) (columns.Local l) ≡ Some (before_locals t + l, h.0) = local_place t n l h.0 h.1 in
    let at : column_number (frame_at t n) (columns.Local l) ≡ before_locals t + l = ap column_number_if_any e in
    ap (point_of (shown t s)) at ∙ (placed (frame_at t n) s (shown t s) (columns.Local l) (before_locals t + l, h.0) (shown_is_shown t n s k) e).value_is

member_put : (zs : List ℤ) (n : ℕ) (z : ℤ) → n < length zs → member (put zs n z) n ≡ z
member_put [] n z l = absurd (omega arith)
member_put (y ∷ ys) zero z l = refl
member_put (y ∷ ys) (suc n) z l = member_put ys n z (omega arith)

written_value : (t : TypedProgram) (c : Config) (x : Column) (z : ℤ) → FrameKeeps t c.top.proc (state_of c) → IsThere t c.top.proc x → column_value (state_of (written c x z)) x ≡ z
written_value t c (columns.Global g) z k h =
    let many : length c.globals ≡ length t.globals = types_length t.globals c.globals k.globals in
    let inside : g < length t.globals = slice_get_within t.globals g h.0 h.1 in
    member_put c.globals g z (omega arith)
written_value t c (columns.Old g) z k h = absurd h
written_value t c (columns.Local l) z k h =
    let many : length c.top.locals ≡ length (locals_at t c.top.proc) = types_length (locals_at t c.top.proc) c.top.locals k.locals in
    let inside : l < length (locals_at t c.top.proc) = slice_get_within (locals_at t c.top.proc) l h.0 h.1 in
    member_put c.top.locals l z (omega arith)

-- a choice for a target is some value
some_for_target : (t : TypedProgram) (n : ℕ) (ty : Ty) (x : Column) (choice : Option ℤ) → IsTarget t n ty x → is_taken (need_of_column t.globals (locals_at t n) x) choice ≡ true → choice ≡ Some (number_chosen choice)
some_for_target t n ty (columns.Global g) choice h e = some_taken h.info.ty choice (taken_by_need (slice_get t.globals g) h.info choice h.is e)
some_for_target t n ty (columns.Old g) choice h e = absurd h
some_for_target t n ty (columns.Local l) choice h e = some_taken h.info.ty choice (taken_by_need (slice_get (locals_at t n) l) h.info choice h.is e)

-- ---- the way that was taken

same_number : (n : ℕ) → nat_eq n n ≡ true
same_number n = eq-eqb n n refl

number_is : (m n : ℕ) → nat_eq m n ≡ true → m ≡ n
number_is m n e = grind (arith, nat_tests)

way_found : (t : TypedProgram) (n : ℕ) (P : Point → Type 0) (ways : List Point) (k : ℕ) (p : Point) →
    ((q : Point) → P q → number_of t (record { proc = n; point = q }) ≡ number_of t (record { proc = n; point = p }) → q ≡ p) → AllByRecursion P ways → slice_get ways k ≡ Some p →
    slice_get ways (way_to t n (number_of t (record { proc = n; point = p })) ways) ≡ Some p
way_found t n P [] k p same h e = absurd (cc)
way_found t n P (w ∷ ws) k p same h e =
    by_test (nat_eq (number_of t (record { proc = n; point = w })) (number_of t (record { proc = n; point = p }))) refl k e (λ m f. way_found t n P ws m p same h.1 f)
  where
    by_test : (b : Bool) → nat_eq (number_of t (record { proc = n; point = w })) (number_of t (record { proc = n; point = p })) ≡ b → (k : ℕ) → slice_get (w ∷ ws) k ≡ Some p →
        ((m : ℕ) → slice_get ws m ≡ Some p → slice_get ws (way_to t n (number_of t (record { proc = n; point = p })) ws) ≡ Some p) →
        slice_get (w ∷ ws) (if b then 0 else suc (way_to t n (number_of t (record { proc = n; point = p })) ws)) ≡ Some p
    by_test true f k e later = ap Some (same w h.0 (number_is (number_of t (record { proc = n; point = w })) (number_of t (record { proc = n; point = p })) f))
    by_test false f zero e later =
        let i : w ≡ p = cc in
        let g : nat_eq (number_of t (record { proc = n; point = w })) (number_of t (record { proc = n; point = p })) ≡ true =
        ap (λ (q : Point). nat_eq (number_of t (record { proc = n; point = w })) (number_of t (record { proc = n; point = q }))) (sym i) ∙ same_number (number_of t (record { proc = n; point = w })) in
        absurd (false≢true (sym f ∙ g))
    by_test false f (suc k) e later = later k e

below_is : (m n : ℕ) → m < n → nat_lt m n ≡ true
below_is m n l = grind (arith, nat_tests)

none_for_nothing : (n : Need) (choice : Option ℤ) → n ≡ Nothing → is_taken n choice ≡ true → choice ≡ None
none_for_nothing n None e h = refl
none_for_nothing n (Some z) e h = let g : is_taken n (Some z) ≡ false = ap (λ (m : Need). is_taken m (Some z)) e in absurd (cc)

pub drop_behind : (xs ys : List ℤ) (n : ℕ) → length xs ≡ n → drop n (xs ++ ys) ≡ ys
drop_behind [] ys zero e = refl
drop_behind [] ys (suc n) e = absurd (omega arith)
drop_behind (x ∷ xs) ys zero e = absurd (omega arith)
drop_behind (x ∷ xs) ys (suc n) e = drop_behind xs ys n (omega arith)

module _ (t : TypedProgram) (Known : ℕ → Point → Type 0) (know : KnowsPoints t Known)
    (differ : (n : ℕ) (p q : Point) → Known n p → Known n q → number_of t (record { proc = n; point = p }) ≡ number_of t (record { proc = n; point = q }) → p ≡ q) where
  -- a move by the choices that are told, whatever the helpers
  pub record IsToldMove (c d : Config) : Type 0 where
    pub move : IsMove t c d
    pub told : (helpers : List ℤ) → choices_of t c.top.proc c.top.point (action_at t c.top.proc c.top.point) helpers (shown_stack t d) ≡ move.choice ∷ map Some move.more

  -- an action that chooses nothing
  plain_told : (c d : Config) (m : IsMove t c d) → need_of_action t c.top.proc (action_at t c.top.proc c.top.point) ≡ Nothing → m.more ≡ [] →
      ((helpers : List ℤ) → choices_of t c.top.proc c.top.point (action_at t c.top.proc c.top.point) helpers (shown_stack t d) ≡ None ∷ []) → IsToldMove c d
  plain_told c d m nothing none is =
      let choice : m.choice ≡ None = none_for_nothing (need_of_action t c.top.proc (action_at t c.top.proc c.top.point)) m.choice nothing m.taken in
      record { move = m; told = λ helpers. is helpers ∙ (λ i. sym choice i ∷ map Some (sym none i)) }

  guess_told : (c d : Config) (m : IsMove t c d) (x : Column) (next : Point) → IsGood t Known c → IsGood t Known d → action_at t c.top.proc c.top.point ≡ actions.Guess x next → d ≡ m.mid → m.more ≡ [] →
      IsToldMove c d
  guess_told c d m x next g h is same none =
      let n : ℕ = c.top.proc in
      let typed : IsTypedAction t n (actions.Guess x next) = subst (IsTypedAction t n) is (know.typed n c.top.point g.top.known) in
      let taken : is_taken (need_of_action t n (actions.Guess x next)) m.choice ≡ true = subst (λ (a : Action). is_taken (need_of_action t n a) m.choice ≡ true) is m.taken in
      let z : ℤ = number_chosen m.choice in
      let some : m.choice ≡ Some z = some_for_target t n typed.0 x m.choice typed.1 taken in
      let went : act t c z (actions.Guess x next) ≡ Went m.mid = subst (λ (a : Action). act t c z a ≡ Went m.mid) is m.went in
      let mid_is : m.mid ≡ moved_to (written c x z) next = cc in
      let d_is : d ≡ moved_to (written c x z) next = same ∙ mid_is in
      let there : IsThere t n x = target_there t n typed.0 x typed.1 in
      let keeps : FrameKeeps t n (state_of (written c x z)) = written_keeps c x z next (subst (IsGood t Known) d_is h) in
      let read : point_of (shown t (state_of (written c x z))) (column_number (frame_at t n) x) ≡ z =
      column_read t n (state_of (written c x z)) x keeps there ∙ written_value t c x z g.top.keeps there in
      let shown_is : point_of (shown t (state_of d)) (column_number (frame_at t n) x) ≡ z = ap (λ (e : Config). point_of (shown t (state_of e)) (column_number (frame_at t n) x)) d_is ∙ read in
      record {
        move = m;
        told = λ helpers. ap (λ (a : Action). choices_of t n c.top.point a helpers (shown_stack t d)) is ∙ (λ i. Some (shown_is i) ∷ []) ∙ (λ i. sym some i ∷ map Some (sym none i));
      }
    where
      written_keeps : (c : Config) (x : Column) (z : ℤ) (next : Point) → IsGood t Known (moved_to (written c x z) next) → FrameKeeps t c.top.proc (state_of (written c x z))
      written_keeps c (columns.Global g) z next h = h.top.keeps
      written_keeps c (columns.Old g) z next h = h.top.keeps
      written_keeps c (columns.Local l) z next h = h.top.keeps

  pick_told : (c d : Config) (m : IsMove t c d) (ways : List Point) → IsGood t Known c → action_at t c.top.proc c.top.point ≡ actions.Pick ways → d ≡ m.mid → m.more ≡ [] → IsToldMove c d
  pick_told c d m ways g is same none =
      let n : ℕ = c.top.proc in
      let went : act t c (number_chosen m.choice) (actions.Pick ways) ≡ Went m.mid = subst (λ (a : Action). act t c (number_chosen m.choice) a ≡ Went m.mid) is m.went in
      let w : WentWay (slice_get ways (unsigned_abs (number_chosen m.choice))) c m.mid = went_way (slice_get ways (unsigned_abs (number_chosen m.choice))) c m.mid went in
      let p : Point = w.way in
      let k : ℕ = way_to t n (number_of t (record { proc = n; point = p })) ways in
      let known : AllByRecursion (Known n) ways = subst (λ (a : Action). AllByRecursion (Known n) (onward t.procs c.top.point a)) is (know.onward n c.top.point g.top.known) in
      let here : Known n p = all_at (Known n) ways (unsigned_abs (number_chosen m.choice)) p known w.is in
      let found : slice_get ways k ≡ Some p = way_found t n (Known n) ways (unsigned_abs (number_chosen m.choice)) p (λ q a e. differ n q p a here e) known w.is in
      let inside : k < length ways = slice_get_within ways k p found in
      let taken : is_taken (need_of_action t n (actions.Pick ways)) (Some (pos k)) ≡ true = below_is k (length ways) inside in
      let goes : act t c (pos k) (actions.Pick ways) ≡ Went m.mid = ap (λ (o : Option Point). went_if o c) found ∙ ap Went w.same in
      let spot : (shown_stack t d).spot ≡ At p = ap (λ (e : Config). At e.top.point) (same ∙ sym w.same) in
      let number : way_to t n (spot_place_number t n (shown_stack t d).spot) ways ≡ k = ap (λ (x : Spot). way_to t n (spot_place_number t n x) ways) spot in
      record {
        move = record {
          plain = m.plain;
          choice = Some (pos k);
          taken = subst (λ (a : Action). is_taken (need_of_action t n a) (Some (pos k)) ≡ true) (sym is) taken;
          mid = m.mid;
          went = subst (λ (a : Action). act t c (pos k) a ≡ Went m.mid) (sym is) goes;
          more = m.more;
          typed = m.typed;
          done = m.done;
        };
        told = λ helpers. ap (λ (a : Action). choices_of t n c.top.point a helpers (shown_stack t d)) is ∙ (λ i. Some (pos (number i)) ∷ map Some (sym none i));
      }

  call_told : (c d : Config) (m : IsMove t c d) (f : ℕ) (args : List TypedExpression) → IsGood t Known c → action_at t c.top.proc c.top.point ≡ actions.Enter f args → IsToldMove c d
  call_told c d m f args g is =
      let n : ℕ = c.top.proc in
      let zs : List ℤ = values (state_of c) args in
      let olds : List ℤ = variable_values t.globals c.globals in
      let taken : is_taken (need_of_action t n (actions.Enter f args)) m.choice ≡ true = subst (λ (a : Action). is_taken (need_of_action t n a) m.choice ≡ true) is m.taken in
      let choice : m.choice ≡ None = none_for_nothing (need_of_action t n (actions.Enter f args)) m.choice refl taken in
      let went : act t c (number_chosen m.choice) (actions.Enter f args) ≡ Went m.mid = subst (λ (a : Action). act t c (number_chosen m.choice) a ≡ Went m.mid) is m.went in
      let mid_is : m.mid ≡ entered t c f zs = cc in
      let d_is : d ≡ filled (entered t c f zs) m.more = m.done ∙ ap (λ (x : Config). filled x m.more) mid_is in
      let many : length c.globals ≡ length t.globals = types_length t.globals c.globals g.top.keeps.globals in
      let old : length olds ≡ length (old_columns 0 t.globals) = olds_length 0 t.globals c.globals many in
      let as_many : length zs ≡ length args = length-map args (value (state_of c)) in
      let front : List ℤ = c.globals ++ (olds ++ zs) in
      let a : length front ≡ length c.globals + length (olds ++ zs) = length-append c.globals (olds ++ zs) in
      let b : length (olds ++ zs) ≡ length olds + length zs = length-append olds zs in
      let whole : c.globals ++ (olds ++ (zs ++ m.more)) ≡ front ++ m.more =
      ap (λ (xs : List ℤ). c.globals ++ xs) (sym (append_three olds zs m.more)) ∙ sym (append_three c.globals (olds ++ zs) m.more) in
      let dropped : drop (columns_before_locals t + length args) (c.globals ++ (olds ++ (zs ++ m.more))) ≡ m.more =
      ap (drop (columns_before_locals t + length args)) whole ∙ drop_behind front m.more (columns_before_locals t + length args) (omega arith) in
      let read : drop (columns_before_locals t + length args) (shown t (state_of d)) ≡ m.more = ap (λ (e : Config). drop (columns_before_locals t + length args) (shown t (state_of e))) d_is ∙ dropped in
      record {
        move = m;
        told = λ helpers. ap (λ (a : Action). choices_of t n c.top.point a helpers (shown_stack t d)) is ∙ (λ i. sym choice i ∷ map Some (read i));
      }
    where
      append_three : (xs ys zs : List ℤ) → (xs ++ ys) ++ zs ≡ xs ++ (ys ++ zs)
      append_three [] ys zs = refl
      append_three (x ∷ xs) ys zs = ap (λ (ws : List ℤ). x ∷ ws) (append_three xs ys zs)

  own_told : (c d : Config) (m : IsMove t c d) (a : Action) → IsGood t Known c → IsGood t Known d → action_at t c.top.proc c.top.point ≡ a → IsOwn a → d ≡ m.mid → m.more ≡ [] → IsToldMove c d
  own_told c d m (actions.Check id at e next) g h is own same none =
      plain_told c d m (ap (need_of_action t c.top.proc) is) none (λ helpers. ap (λ (a : Action). choices_of t c.top.proc c.top.point a helpers (shown_stack t d)) is)
  own_told c d m (actions.Suppose e next) g h is own same none =
      plain_told c d m (ap (need_of_action t c.top.proc) is) none (λ helpers. ap (λ (a : Action). choices_of t c.top.proc c.top.point a helpers (shown_stack t d)) is)
  own_told c d m (actions.Demand id at e args next) g h is own same none =
      plain_told c d m (ap (need_of_action t c.top.proc) is) none (λ helpers. ap (λ (a : Action). choices_of t c.top.proc c.top.point a helpers (shown_stack t d)) is)
  own_told c d m (actions.Write cs es next) g h is own same none =
      plain_told c d m (ap (need_of_action t c.top.proc) is) none (λ helpers. ap (λ (a : Action). choices_of t c.top.proc c.top.point a helpers (shown_stack t d)) is)
  own_told c d m (actions.Guess x next) g h is own same none = guess_told c d m x next g h is same none
  own_told c d m (actions.Test e hit miss) g h is own same none =
      plain_told c d m (ap (need_of_action t c.top.proc) is) none (λ helpers. ap (λ (a : Action). choices_of t c.top.proc c.top.point a helpers (shown_stack t d)) is)
  own_told c d m (actions.Pick ways) g h is own same none = pick_told c d m ways g is same none
  own_told c d m (actions.Jump next) g h is own same none =
      plain_told c d m (ap (need_of_action t c.top.proc) is) none (λ helpers. ap (λ (a : Action). choices_of t c.top.proc c.top.point a helpers (shown_stack t d)) is)
  own_told c d m (actions.Enter f args) g h is own same none = absurd own
  own_told c d m (actions.Keep f args x next) g h is own same none = absurd own
  own_told c d m (actions.Grant f args e next) g h is own same none = absurd own
  own_told c d m (actions.Finish f args targets next) g h is own same none = absurd own
  own_told c d m actions.Leave g h is own same none =
      plain_told c d m (ap (need_of_action t c.top.proc) is) none (λ helpers. ap (λ (a : Action). choices_of t c.top.proc c.top.point a helpers (shown_stack t d)) is)

  pub told_move : (c d : Config) → IsGood t Known c → IsMove t c d → IsToldMove c d
  told_move c d g m = elim (own_or_call t Known know (action_at t c.top.proc c.top.point) m.plain) [
    | inl own ↦ (let f : Follows t Known know c m.mid = move_own t Known know c m.choice m.mid g own m.taken m.went in
        let same : d ≡ m.mid = done_is t m.mid d m.more f.good.top.keeps.locals m.typed m.done in
        let none : m.more ≡ [] = none_missing (locals_at t m.mid.top.proc) m.mid.top.locals m.more f.good.top.keeps.locals m.typed in
        own_told c d m (action_at t c.top.proc c.top.point) g (subst (IsGood t Known) (sym same) f.good) refl own same none)
    | inr x ↦ call_told c d m x.0 x.1 g x.2
  ]
