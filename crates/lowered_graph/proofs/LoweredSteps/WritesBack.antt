-- The other way round, for jumps, choices of ways, assignments and havocs.
use Rattle.std.proofs.Common.{◌≡◌, ℕ, zero, suc, ◌<◌, true, false, ℤ, pos, List, [], ◌∷◌, ◌++◌, length, Option, None, Some, inl, inr, refl, sym, ap, subst, ◌∙◌, arith}
use Rattle.std.specs.Prelude.{slice_get, nat_lt}
use Rattle.std.proofs.lemmas.List.{length-map}
use Rattle.std.proofs.lemmas.Option.{slice_get_within}
use Rattle.std.proofs.lemmas.Bool.Decides.{nat_tests}
use Rattle.boogie_tree.specs.declared.tree.Ty.{Ty}
use Rattle.boogie_tree.specs.declared.tree.Ty.TheVariants as types
use Rattle.boogie_tree.specs.declared.tree.Column.{Column}
use Rattle.boogie_tree.specs.declared.tree.Column.TheVariants as columns
use Rattle.boogie_tree.specs.declared.tree.VarInfo.{VarInfo}
use Rattle.typed_tree.specs.TypedTree.{TypedExpression, TypedProgram}
use Rattle.typed_tree.specs.Values.{State, value}
use Rattle.letter_acts.specs.Frames.{Columns, IsState, IsValue, globals_from, old_columns, locals_from}
use Rattle.letter_acts.specs.Values.{put_all}
use Rattle.letter_acts.specs.Meaning.{InsideLeads}
use Rattle.cond_jumps.specs.FreeProducts.Letters.{MarkedConjunction}
use Rattle.cond_jumps.specs.FreeProducts.FrameLetters.{assign_letters}
use Rattle.cond_jumps.specs.FreeProducts.FrameLaws.{Marks}
use Rattle.boogie_run.specs.BoogiePoints.Points.{Point}
use Rattle.boogie_run.specs.BoogiePoints.Actions as actions
use Rattle.boogie_run.specs.BoogiePoints.Actions.{Action}
use Rattle.boogie_run.specs.Configurations.{Config, state_of}
use Rattle.boogie_run.specs.Needs.{Truth, need_of_type, need_of, need_of_column, is_taken, locals_at}
use Rattle.boogie_run.specs.Steps.{put, moved_to, written, all_written, values, went_if}
use Rattle.lowered_graph.specs.LoweredSteps.ProgramFrames.{frame_at, shown, variable_values, column_number}
use Rattle.lowered_graph.specs.LoweredSteps.Edges.{Spot, At, Edge, inside_edges, skips, numbers_in, no_rows, local_count}
use Rattle.lowered_graph.specs.LoweredSteps.Stacks.{Stack, IsAmong}
use Rattle.lowered_graph.specs.LoweredSteps.Moves.{HasTypes, FrameKeeps, IsTarget, AreAssigned, shown_stack, shown_below}
use Rattle.lowered_graph.proofs.LoweredSteps.FrameColumns.{types_length}
use Rattle.lowered_graph.proofs.LoweredSteps.FrameMarks.{assignment_marks}
use Rattle.lowered_graph.proofs.LoweredSteps.Places.{state_written, all_state_written, all_written_shown, put_length, olds_length, IsThere}
use Rattle.lowered_graph.proofs.LoweredSteps.ListSteps.{exactly_met, letter_of_edge, among_led, condition_led, IsLed}
use Rattle.lowered_graph.proofs.LoweredSteps.Writes.{AreTaken, assigned_taken, taken_there, taken_length, is_long, all_written_is, stack_of_written, assigned_sound, IsWritten, target_there}
use Rattle.lowered_graph.proofs.LoweredSteps.InsideBack.{GoesTo, stays}

-- ---- ways

pub record IsWay (ways : List Point) (e : Edge) : Type 0 where
  pub number : ℕ
  pub point : Point
  pub at : slice_get ways number ≡ Some point
  pub to : e.to ≡ At point
  pub written : e.written ≡ []
  pub helpers : e.rows.helpers ≡ 0
  pub rows : e.rows.rows ≡ []

way_of_edge : (ways : List Point) (e : Edge) → IsAmong (skips ways) e → IsWay ways e
way_of_edge [] e i = absurd i
way_of_edge (w ∷ ws) e (inl is) = record {
  number = 0;
  point = w;
  at = refl;
  to = sym (ap (λ (x : Edge). x.to) is);
  written = sym (ap (λ (x : Edge). x.written) is);
  helpers = sym (ap (λ (x : Edge). x.rows.helpers) is);
  rows = sym (ap (λ (x : Edge). x.rows.rows) is);
}
way_of_edge (w ∷ ws) e (inr i) =
    let h = way_of_edge ws e i in
    record { number = suc h.number; point = h.point; at = h.at; to = h.to; written = h.written; helpers = h.helpers; rows = h.rows }

-- nothing is written by such an edge
way_stays : (t : TypedProgram) (n : ℕ) (s : State) (ways : List Point) (e : Edge) (after : List ℤ) → IsWay ways e →
    InsideLeads (frame_at t n) e.written e.rows.helpers e.rows.rows (shown t s) after → after ≡ shown t s
way_stays t n s ways e after w h =
    (condition_led (frame_at t n) (shown t s) after e.rows (subst (λ (x : List ℕ). InsideLeads (frame_at t n) x e.rows.helpers e.rows.rows (shown t s) after) w.written h)).0

below_is : (m n : ℕ) → m < n → nat_lt m n ≡ true
below_is m n l = grind (arith, nat_tests)

pub pick_back : (t : TypedProgram) (c : Config) (ways : List Point) (x : Edge) (after : List ℤ) → FrameKeeps t c.top.proc (state_of c) →
    IsAmong (inside_edges t c.top.proc c.top.point (actions.Pick ways)) x → InsideLeads (frame_at t c.top.proc) x.written x.rows.helpers x.rows.rows (shown t (state_of c)) after →
    GoesTo t c (actions.Pick ways) x.to after
pick_back t c ways x after k i h =
    let w : IsWay ways x = way_of_edge ways x i in
    record {
      choice = Some (pos w.number);
      taken = below_is w.number (length ways) (slice_get_within ways w.number w.point w.at);
      next = moved_to c w.point;
      went = ap (λ (o : Option Point). went_if o c) w.at;
      shown = stays t c x.to after w.point w.to (way_stays t c.top.proc (state_of c) ways x after w h);
    }

pub jump_back : (t : TypedProgram) (c : Config) (next : Point) (x : Edge) (after : List ℤ) → FrameKeeps t c.top.proc (state_of c) →
    IsAmong (inside_edges t c.top.proc c.top.point (actions.Jump next)) x → InsideLeads (frame_at t c.top.proc) x.written x.rows.helpers x.rows.rows (shown t (state_of c)) after →
    GoesTo t c (actions.Jump next) x.to after
jump_back t c next x after k (inl is) h =
    let w : IsWay (next ∷ []) x = way_of_edge (next ∷ []) x (inl is) in
    record {
      choice = None;
      taken = refl;
      next = moved_to c next;
      went = refl;
      shown = stays t c x.to after next (sym (ap (λ (y : Edge). y.to) is)) (way_stays t c.top.proc (state_of c) (next ∷ []) x after w h);
    }
jump_back t c next x after k (inr i) h = absurd i

-- ---- an assignment

one_way : (t : TypedProgram) (c d : Config) (s : State) (to : Spot) (after : List ℤ) (next : Point) → to ≡ At next → after ≡ shown t s → IsWritten c d s →
    (let x : Stack = record { proc = c.top.proc; spot = to; values = after; below = shown_below t c.top.entry c.below } in x) ≡ shown_stack t (moved_to d next)
one_way t c d s to after next e f h =
    (λ i. record { proc = c.top.proc; spot = e i; values = f i; below = shown_below t c.top.entry c.below }) ∙ stack_of_written t c d s next h

pub write_back : (t : TypedProgram) (c : Config) (cs : List Column) (es : List TypedExpression) (next : Point) (x : Edge) (after : List ℤ) → FrameKeeps t c.top.proc (state_of c) →
    AreAssigned t c.top.proc cs es → IsAmong (inside_edges t c.top.proc c.top.point (actions.Write cs es next)) x → x.coarse ≡ false →
    InsideLeads (frame_at t c.top.proc) x.written x.rows.helpers x.rows.rows (shown t (state_of c)) after → GoesTo t c (actions.Write cs es next) x.to after
write_back t c cs es next x after k typed i exact h =
    let n : ℕ = c.top.proc in
    let frame : Columns = frame_at t n in
    let s : State = state_of c in
    let zs : List ℤ = values s es in
    let w : List ℕ = numbers_in frame cs in
    let list : List MarkedConjunction = assign_letters frame (local_count t n) (length es) es in
    let l : IsLed w list (At next) x = among_led w list (At next) x i in
    let led : InsideLeads frame w x.rows.helpers x.rows.rows (shown t s) after = subst (λ (y : List ℕ). InsideLeads frame y x.rows.helpers x.rows.rows (shown t s) after) l.written_is h in
    let taken : AreTaken t n cs zs = assigned_taken t n s cs es k typed in
    let as_many : length led.news ≡ length es = led.as_many ∙ length-map cs (column_number frame) ∙ sym (taken_length t n cs zs taken) ∙ length-map es (value s) in
    let marks : Marks (shown t s ++ led.news) list (led.news ≡ zs) = assignment_marks t n s led.news es k (assigned_sound t n cs es typed) as_many in
    let news : led.news ≡ zs = marks.lead (exactly_met (shown t s ++ led.news) list (letter_of_edge x) l.member exact led.rows_hold) in
    let put : after ≡ shown t (all_state_written s cs zs) =
    led.put ∙ ap (λ (ys : List ℤ). put_all (shown t s) w ys) news ∙ all_written_shown t n s cs zs (is_long t n s k) (taken_there t n cs zs taken) in
    record {
      choice = None;
      taken = refl;
      next = moved_to (all_written c cs zs) next;
      went = refl;
      shown = one_way t c (all_written c cs zs) (all_state_written s cs zs) x.to after next l.to_is put (all_written_is c cs zs);
    }

-- ---- a havoc

pub globals_length : (n : ℕ) (vs : List VarInfo) → length (globals_from n vs) ≡ length vs
globals_length n [] = refl
globals_length n (v ∷ vs) = ap suc (globals_length (suc n) vs)

pub state_parts : (a b : Columns) (xs ys : List ℤ) → length xs ≡ length a → IsState (a ++ b) (xs ++ ys) → IsState a xs × IsState b ys
state_parts [] b [] ys e h = (tt, h)
state_parts [] b (x ∷ xs) ys e h = absurd (omega arith)
state_parts (c ∷ cs) b [] ys e h = absurd (omega arith)
state_parts (c ∷ cs) b (x ∷ xs) ys e h = let r = state_parts cs b xs ys (omega arith) h.1 in ((h.0, r.0), r.1)

pub globals_typed : (n : ℕ) (vs : List VarInfo) (zs : List ℤ) → IsState (globals_from n vs) zs → HasTypes vs zs
globals_typed n [] [] h = tt
globals_typed n [] (z ∷ zs) h = absurd h
globals_typed n (v ∷ vs) [] h = absurd h
globals_typed n (v ∷ vs) (z ∷ zs) h = (h.0, globals_typed (suc n) vs zs h.1)

pub locals_typed : (n : ℕ) (vs : List VarInfo) (zs : List ℤ) → IsState (locals_from n vs) zs → HasTypes vs zs
locals_typed n [] [] h = tt
locals_typed n [] (z ∷ zs) h = absurd h
locals_typed n (v ∷ vs) [] h = absurd h
locals_typed n (v ∷ vs) (z ∷ zs) h = (h.0, locals_typed (suc n) vs zs h.1)

put_typed : (vs : List VarInfo) (zs : List ℤ) (n : ℕ) (v : VarInfo) (z : ℤ) → length zs ≡ length vs → HasTypes vs (put zs n z) → slice_get vs n ≡ Some v → IsValue v.ty z
put_typed [] zs n v z l h e = absurd (cc)
put_typed (w ∷ ws) [] n v z l h e = absurd (omega arith)
put_typed (w ∷ ws) (y ∷ ys) zero v z l h e =
    let i : w ≡ v = cc in
    subst (λ (x : VarInfo). IsValue x.ty z) i h.0
put_typed (w ∷ ws) (y ∷ ys) (suc n) v z l h e = put_typed ws ys n v z (omega arith) h.1 e

written_typed : (t : TypedProgram) (n : ℕ) (s : State) (ty : Ty) (x : Column) (z : ℤ) → FrameKeeps t n s → IsTarget t n ty x → IsState (frame_at t n) (shown t (state_written s x z)) → IsValue ty z
written_typed t n s ty (columns.Global g) z k target h =
    let rest : Columns = old_columns 0 t.globals ++ locals_from 0 (locals_at t n) in
    let count : length (put s.globals g z) ≡ length (globals_from 0 t.globals) = put_length s.globals g z ∙ types_length t.globals s.globals k.globals ∙ sym (globals_length 0 t.globals) in
    let parts = state_parts (globals_from 0 t.globals) rest (put s.globals g z) (variable_values t.globals s.old ++ s.locals) count h in
    let typed : IsValue target.info.ty z = put_typed t.globals s.globals g target.info z (types_length t.globals s.globals k.globals) (globals_typed 0 t.globals (put s.globals g z) parts.0) target.is in
    subst (λ (x : Ty). IsValue x z) target.type typed
written_typed t n s ty (columns.Old g) z k target h = absurd target
written_typed t n s ty (columns.Local l) z k target h =
    let olds : Columns = old_columns 0 t.globals in
    let locals : Columns = locals_from 0 (locals_at t n) in
    let count : length s.globals ≡ length (globals_from 0 t.globals) = types_length t.globals s.globals k.globals ∙ sym (globals_length 0 t.globals) in
    let behind = state_parts (globals_from 0 t.globals) (olds ++ locals) s.globals (variable_values t.globals s.old ++ put s.locals l z) count h in
    let parts = state_parts olds locals (variable_values t.globals s.old) (put s.locals l z) (olds_length 0 t.globals s.old (types_length t.globals s.old k.old)) behind.1 in
    let typed : IsValue target.info.ty z =
    put_typed (locals_at t n) s.locals l target.info z (types_length (locals_at t n) s.locals k.locals) (locals_typed 0 (locals_at t n) (put s.locals l z) parts.1) target.is in
    subst (λ (x : Ty). IsValue x z) target.type typed

pub taken_by_type : (ty : Ty) (z : ℤ) → IsValue ty z → is_taken (need_of_type ty) (Some z) ≡ true
taken_by_type types.Int z h = refl
taken_by_type types.Bool z (inl e) = ap (λ (x : ℤ). is_taken Truth (Some x)) e
taken_by_type types.Bool z (inr e) = ap (λ (x : ℤ). is_taken Truth (Some x)) e

taken_by_target : (t : TypedProgram) (n : ℕ) (ty : Ty) (x : Column) (z : ℤ) → IsTarget t n ty x → IsValue ty z → is_taken (need_of_column t.globals (locals_at t n) x) (Some z) ≡ true
taken_by_target t n ty (columns.Global g) z h v =
    ap (λ (o : Option VarInfo). is_taken (need_of o) (Some z)) h.is ∙ ap (λ (y : Ty). is_taken (need_of_type y) (Some z)) h.type ∙ taken_by_type ty z v
taken_by_target t n ty (columns.Old g) z h v = absurd h
taken_by_target t n ty (columns.Local l) z h v =
    ap (λ (o : Option VarInfo). is_taken (need_of o) (Some z)) h.is ∙ ap (λ (y : Ty). is_taken (need_of_type y) (Some z)) h.type ∙ taken_by_type ty z v

-- the new value of a column that is written alone
record IsOne (news : List ℤ) : Type 0 where
  value : ℤ
  is : news ≡ value ∷ []

one_new : (news : List ℤ) → length news ≡ 1 → IsOne news
one_new [] e = absurd (omega arith)
one_new (z ∷ []) e = record { value = z; is = refl }
one_new (z ∷ y ∷ more) e = absurd (omega arith)

pub guess_back : (t : TypedProgram) (c : Config) (y : Column) (ty : Ty) (next : Point) (x : Edge) (after : List ℤ) → FrameKeeps t c.top.proc (state_of c) → IsTarget t c.top.proc ty y →
    IsAmong (inside_edges t c.top.proc c.top.point (actions.Guess y next)) x → InsideLeads (frame_at t c.top.proc) x.written x.rows.helpers x.rows.rows (shown t (state_of c)) after →
    GoesTo t c (actions.Guess y next) x.to after
guess_back t c y ty next x after k target i h =
    let n : ℕ = c.top.proc in
    let frame : Columns = frame_at t n in
    let s : State = state_of c in
    let w : List ℕ = column_number frame y ∷ [] in
    let l : IsLed w no_rows (At next) x = among_led w no_rows (At next) x i in
    let led : InsideLeads frame w x.rows.helpers x.rows.rows (shown t s) after = subst (λ (ys : List ℕ). InsideLeads frame ys x.rows.helpers x.rows.rows (shown t s) after) l.written_is h in
    let one = one_new led.news led.as_many in
    let z : ℤ = one.value in
    let there : IsThere t n y = target_there t n ty y target in
    let put : after ≡ shown t (state_written s y z) =
    led.put ∙ ap (λ (zs : List ℤ). put_all (shown t s) w zs) one.is ∙ all_written_shown t n s (y ∷ []) (z ∷ []) (is_long t n s k) (there, tt) in
    let typed : IsValue ty z = written_typed t n s ty y z k target (subst (IsState frame) put led.after) in
    record {
      choice = Some z;
      taken = taken_by_target t n ty y z target typed;
      next = moved_to (written c y z) next;
      went = refl;
      shown = one_way t c (written c y z) (state_written s y z) x.to after next l.to_is put (all_written_is c (y ∷ []) (z ∷ []));
    }
