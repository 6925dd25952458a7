-- Assignments and havocs: what is written is of its type, and the written configuration is shown by a step of the stack.
use Rattle.std.proofs.Common.{◌≡◌, ℕ, zero, suc, true, false, ℤ, List, [], ◌∷◌, ◌++◌, map, length, Some, inl, refl, sym, ap, subst, ◌∙◌}
use Rattle.std.specs.List.{AllByRecursion}
use Rattle.std.specs.Prelude.{slice_get}
use Rattle.std.proofs.lemmas.List.{length-map}
use Rattle.std.proofs.lemmas.Bool.{false≢true}
use Rattle.boogie_tree.specs.declared.tree.Ty.{Ty}
use Rattle.boogie_tree.specs.declared.tree.Ty.TheVariants as types
use Rattle.boogie_tree.specs.declared.tree.Column.{Column}
use Rattle.boogie_tree.specs.declared.tree.Column.TheVariants as columns
use Rattle.boogie_tree.specs.declared.tree.VarInfo.{VarInfo}
use Rattle.typed_tree.specs.TypedTree.{TypedExpression, TypedProgram}
use Rattle.typed_tree.specs.Values.{State, value, member}
use Rattle.letter_acts.specs.Frames.{Columns, IsState, IsValue}
use Rattle.letter_acts.specs.Values.{put_all}
use Rattle.letter_acts.specs.Meaning.{InsideLeads}
use Rattle.cond_jumps.specs.Environments.{type_in}
use Rattle.typed_tree.specs.Divided.{is_divided}
use Rattle.cond_jumps.specs.Conjunctions.{Conjunction}
use Rattle.cond_jumps.specs.Frames.{frame_environment}
use Rattle.cond_jumps.specs.FreeProducts.Letters.{MarkedConjunction}
use Rattle.cond_jumps.specs.FreeProducts.FrameLetters.{assign_letters}
use Rattle.cond_jumps.specs.FreeProducts.FrameLaws.{IsDividedValue, Marks}
use Rattle.boogie_run.specs.BoogiePoints.Points.{Point}
use Rattle.boogie_run.specs.BoogiePoints.Actions as actions
use Rattle.boogie_run.specs.BoogiePoints.Actions.{Action, action_at}
use Rattle.boogie_run.specs.Configurations.{Config, state_of}
use Rattle.boogie_run.specs.Needs.{locals_at}
use Rattle.boogie_run.specs.Steps.{put, written, all_written, moved_to, values}
use Rattle.lowered_graph.specs.LoweredSteps.ProgramFrames.{frame_at, shown, column_number}
use Rattle.lowered_graph.specs.LoweredSteps.Edges.{At, Edge, numbers_in, local_count}
use Rattle.lowered_graph.specs.LoweredSteps.Stacks.{Stack, IsStep}
use Rattle.lowered_graph.specs.LoweredSteps.Moves.{HasTypes, FrameKeeps, IsTarget, AreAssigned, shown_stack, shown_below}
use Rattle.lowered_graph.proofs.LoweredSteps.FrameColumns.{types_length, shown_state}
use Rattle.lowered_graph.proofs.LoweredSteps.FrameMarks.{condition_truth, assignment_marks}
use Rattle.lowered_graph.proofs.LoweredSteps.Places.{state_written, all_state_written, IsThere, IsLong, all_written_shown}
use Rattle.lowered_graph.proofs.LoweredSteps.ListSteps.{MetLetter, letter_met, edge_of, edge_among, assignment_leads, no_rows_met}
use Rattle.lowered_graph.proofs.LoweredSteps.InsideSteps.{by_edge}

-- ---- values of their types

types_put : (vs : List VarInfo) (zs : List ℤ) (n : ℕ) (v : VarInfo) (z : ℤ) → HasTypes vs zs → slice_get vs n ≡ Some v → IsValue v.ty z → HasTypes vs (put zs n z)
types_put [] [] n v z h e k = h
types_put [] (y ∷ ys) n v z h e k = absurd h
types_put (w ∷ ws) [] n v z h e k = absurd h
types_put (w ∷ ws) (y ∷ ys) zero v z h e k =
    let i : w ≡ v = cc in
    (subst (λ (x : VarInfo). IsValue x.ty z) (sym i) k, h.1)
types_put (w ∷ ws) (y ∷ ys) (suc n) v z h e k = (h.0, types_put ws ys n v z h.1 e k)

other_member : (zs : List ℤ) (n m : ℕ) (z : ℤ) → (n ≡ m → ⊥) → member (put zs n z) m ≡ member zs m
other_member [] n m z d = refl
other_member (y ∷ ys) zero zero z d = absurd (d refl)
other_member (y ∷ ys) zero (suc m) z d = refl
other_member (y ∷ ys) (suc n) zero z d = refl
other_member (y ∷ ys) (suc n) (suc m) z d = other_member ys n m z (λ e. d (ap suc e))

pub keeps_written : (t : TypedProgram) (n : ℕ) (s : State) (ty : Ty) (c : Column) (z : ℤ) → FrameKeeps t n s → IsTarget t n ty c → IsValue ty z → FrameKeeps t n (state_written s c z)
keeps_written t n s ty (columns.Global g) z k h v = record {
  globals = types_put t.globals s.globals g h.info z k.globals h.is (subst (λ (x : Ty). IsValue x z) (sym h.type) v);
  old = k.old;
  locals = k.locals;
  constants = λ m w e c. k.constants m w e c ∙ sym (other_member s.globals g m z (λ same. differs m w e c same));
}
  where
    differs : (m : ℕ) (w : VarInfo) → slice_get t.globals m ≡ Some w → w.constant ≡ true → g ≡ m → ⊥
    differs m w e c same =
        let at : slice_get t.globals g ≡ Some w = ap (slice_get t.globals) same ∙ e in
        let is : slice_get t.globals g ≡ Some h.info = h.is in
        let one : h.info ≡ w = cc in
        let varies : h.info.constant ≡ false = h.varies in
        let two : h.info.constant ≡ w.constant = ap (λ (x : VarInfo). x.constant) one in
        false≢true (sym varies ∙ two ∙ c)
keeps_written t n s ty (columns.Old g) z k h v = absurd h
keeps_written t n s ty (columns.Local l) z k h v = record {
  globals = k.globals;
  old = k.old;
  locals = types_put (locals_at t n) s.locals l h.info z k.locals h.is (subst (λ (x : Ty). IsValue x z) (sym h.type) v);
  constants = k.constants;
}

pub target_there : (t : TypedProgram) (n : ℕ) (ty : Ty) (c : Column) → IsTarget t n ty c → IsThere t n c
target_there t n ty (columns.Global g) h = (h.info, h.is)
target_there t n ty (columns.Old g) h = h
target_there t n ty (columns.Local l) h = (h.info, h.is)

-- each column takes a value of its type
abbrev pub AreTaken : TypedProgram → ℕ → List Column → List ℤ → Type 0
AreTaken t n [] [] = Unit {0}
AreTaken t n [] (z ∷ zs) = ⊥
AreTaken t n (c ∷ cs) [] = ⊥
AreTaken t n (c ∷ cs) (z ∷ zs) = ((ty : Ty) × IsTarget t n ty c × IsValue ty z) × AreTaken t n cs zs

pub keeps_all_written : (t : TypedProgram) (n : ℕ) (s : State) (cs : List Column) (zs : List ℤ) → FrameKeeps t n s → AreTaken t n cs zs → FrameKeeps t n (all_state_written s cs zs)
keeps_all_written t n s [] zs k h = k
keeps_all_written t n s (c ∷ cs) [] k h = k
keeps_all_written t n s (c ∷ cs) (z ∷ zs) k h = keeps_all_written t n (state_written s c z) cs zs (keeps_written t n s h.0.0 c z k h.0.1 h.0.2) h.1

pub taken_there : (t : TypedProgram) (n : ℕ) (cs : List Column) (zs : List ℤ) → AreTaken t n cs zs → AllByRecursion (IsThere t n) cs
taken_there t n [] zs h = tt
taken_there t n (c ∷ cs) [] h = absurd h
taken_there t n (c ∷ cs) (z ∷ zs) h = (target_there t n h.0.0 c h.0.1, taken_there t n cs zs h.1)

pub taken_length : (t : TypedProgram) (n : ℕ) (cs : List Column) (zs : List ℤ) → AreTaken t n cs zs → length zs ≡ length cs
taken_length t n [] [] h = refl
taken_length t n [] (z ∷ zs) h = absurd h
taken_length t n (c ∷ cs) [] h = absurd h
taken_length t n (c ∷ cs) (z ∷ zs) h = ap suc (taken_length t n cs zs h.1)

pub is_long : (t : TypedProgram) (n : ℕ) (s : State) → FrameKeeps t n s → IsLong t s
is_long t n s k = record { globals = types_length t.globals s.globals k.globals; old = types_length t.globals s.old k.old }

pub value_of_type : (t : TypedProgram) (n : ℕ) (s : State) (e : TypedExpression) (ty : Ty) → FrameKeeps t n s → type_in (frame_environment (frame_at t n)) false e ≡ Some ty → is_divided e ≡ true → IsValue ty (value s e)
value_of_type t n s e types.Int k typed divided = tt
value_of_type t n s e types.Bool k typed divided = condition_truth t n s e k (record { typed = typed; divided = divided })

pub assigned_taken : (t : TypedProgram) (n : ℕ) (s : State) (cs : List Column) (es : List TypedExpression) → FrameKeeps t n s → AreAssigned t n cs es → AreTaken t n cs (values s es)
assigned_taken t n s [] [] k h = tt
assigned_taken t n s [] (e ∷ es) k h = absurd h
assigned_taken t n s (c ∷ cs) [] k h = absurd h
assigned_taken t n s (c ∷ cs) (e ∷ es) k h = ((h.0.type, h.0.target, value_of_type t n s e h.0.type k h.0.typed h.0.divided), assigned_taken t n s cs es k h.1)

pub assigned_sound : (t : TypedProgram) (n : ℕ) (cs : List Column) (es : List TypedExpression) → AreAssigned t n cs es → AllByRecursion (IsDividedValue (frame_environment (frame_at t n))) es
assigned_sound t n [] [] h = tt
assigned_sound t n [] (e ∷ es) h = absurd h
assigned_sound t n (c ∷ cs) [] h = absurd h
assigned_sound t n (c ∷ cs) (e ∷ es) h = (record { type = h.0.type; typed = h.0.typed; divided = h.0.divided }, assigned_sound t n cs es h.1)

-- ---- configurations

-- the configuration has this state, and else is the other
pub record IsWritten (c d : Config) (s : State) : Type 0 where
  pub proc : c.top.proc ≡ d.top.proc
  pub entry : c.top.entry ≡ d.top.entry
  pub below : c.below ≡ d.below
  pub state : s ≡ state_of d

pub all_written_is : (c : Config) (cs : List Column) (zs : List ℤ) → IsWritten c (all_written c cs zs) (all_state_written (state_of c) cs zs)
all_written_is c [] zs = record { proc = refl; entry = refl; below = refl; state = refl }
all_written_is c (x ∷ xs) [] = record { proc = refl; entry = refl; below = refl; state = refl }
all_written_is c (columns.Global g ∷ xs) (z ∷ zs) = let h = all_written_is (written c (columns.Global g) z) xs zs in record { proc = h.proc; entry = h.entry; below = h.below; state = h.state }
all_written_is c (columns.Old g ∷ xs) (z ∷ zs) = let h = all_written_is (written c (columns.Old g) z) xs zs in record { proc = h.proc; entry = h.entry; below = h.below; state = h.state }
all_written_is c (columns.Local l ∷ xs) (z ∷ zs) = let h = all_written_is (written c (columns.Local l) z) xs zs in record { proc = h.proc; entry = h.entry; below = h.below; state = h.state }

pub stack_of_written : (t : TypedProgram) (c d : Config) (s : State) (next : Point) → IsWritten c d s →
    (let x : Stack = record { proc = c.top.proc; spot = At next; values = shown t s; below = shown_below t c.top.entry c.below } in x) ≡ shown_stack t (moved_to d next)
stack_of_written t c d s next h = λ i. record { proc = h.proc i; spot = At next; values = shown t (h.state i); below = shown_below t (h.entry i) (h.below i) }

-- ---- an assignment

pub write_goes : (t : TypedProgram) (c : Config) (cs : List Column) (es : List TypedExpression) (next : Point) → action_at t c.top.proc c.top.point ≡ actions.Write cs es next →
    FrameKeeps t c.top.proc (state_of c) → AreAssigned t c.top.proc cs es →
    IsStep t (shown_stack t c) (shown_stack t (moved_to (all_written c cs (values (state_of c) es)) next))
write_goes t c cs es next is k h =
    let n : ℕ = c.top.proc in
    let frame : Columns = frame_at t n in
    let s : State = state_of c in
    let zs : List ℤ = values s es in
    let w : List ℕ = numbers_in frame cs in
    let list : List MarkedConjunction = assign_letters frame (local_count t n) (length es) es in
    let taken : AreTaken t n cs zs = assigned_taken t n s cs es k h in
    let marks : Marks (shown t s ++ zs) list (zs ≡ map (value s) es) = assignment_marks t n s zs es k (assigned_sound t n cs es h) (length-map es (value s)) in
    let m : MetLetter (shown t s ++ zs) list = letter_met (shown t s ++ zs) list (marks.follow refl) in
    let after : put_all (shown t s) w zs ≡ shown t (all_state_written s cs zs) = all_written_shown t n s cs zs (is_long t n s k) (taken_there t n cs zs taken) in
    let state_after : IsState frame (shown t (all_state_written s cs zs)) = shown_state t n (all_state_written s cs zs) (keeps_all_written t n s cs zs k taken) in
    let count : length zs ≡ length w = taken_length t n cs zs taken ∙ sym (length-map cs (column_number frame)) in
    let led = assignment_leads frame w (shown t s) zs m.letter.plain (shown_state t n s k) (subst (IsState frame) (sym after) state_after) count m.met in
    let e : Edge = edge_of w (At next) m.letter in
    subst (IsStep t (shown_stack t c)) (stack_of_written t c (all_written c cs zs) (all_state_written s cs zs) next (all_written_is c cs zs))
    (by_edge t c (actions.Write cs es next) e (shown t (all_state_written s cs zs)) is (edge_among w list (At next) m.letter m.among)
    (subst (λ (ys : List ℤ). InsideLeads frame w m.letter.plain.helpers m.letter.plain.rows (shown t s) ys) after led))

-- ---- a havoc

-- any value of its type is written
pub guess_goes : (t : TypedProgram) (c : Config) (x : Column) (ty : Ty) (z : ℤ) (next : Point) → action_at t c.top.proc c.top.point ≡ actions.Guess x next →
    FrameKeeps t c.top.proc (state_of c) → IsTarget t c.top.proc ty x → IsValue ty z → IsStep t (shown_stack t c) (shown_stack t (moved_to (written c x z) next))
guess_goes t c x ty z next is k h v =
    let n : ℕ = c.top.proc in
    let frame : Columns = frame_at t n in
    let s : State = state_of c in
    let w : List ℕ = column_number frame x ∷ [] in
    let none : Conjunction = record { rows = []; helpers = 0 } in
    let taken : AreTaken t n (x ∷ []) (z ∷ []) = ((ty, h, v), tt) in
    let after : put_all (shown t s) w (z ∷ []) ≡ shown t (state_written s x z) = all_written_shown t n s (x ∷ []) (z ∷ []) (is_long t n s k) (taken_there t n (x ∷ []) (z ∷ []) taken) in
    let state_after : IsState frame (shown t (state_written s x z)) = shown_state t n (state_written s x z) (keeps_written t n s ty x z k h v) in
    let led = assignment_leads frame w (shown t s) (z ∷ []) none (shown_state t n s k) (subst (IsState frame) (sym after) state_after) refl (no_rows_met (shown t s ++ z ∷ [])) in
    let e : Edge = record { to = At next; written = w; rows = none; coarse = false } in
    subst (IsStep t (shown_stack t c)) (stack_of_written t c (written c x z) (state_written s x z) next (all_written_is c (x ∷ []) (z ∷ [])))
    (by_edge t c (actions.Guess x next) e (shown t (state_written s x z)) is (inl refl) (subst (λ (ys : List ℤ). InsideLeads frame w 0 [] (shown t s) ys) after led))
