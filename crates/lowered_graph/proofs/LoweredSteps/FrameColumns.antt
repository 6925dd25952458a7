-- The columns of a program's frames, and that the state of a frame that is shown has their values.
use Rattle.std.proofs.Common.{◌≡◌, ℕ, zero, suc, ◌+◌, Bool, true, false, not, ℤ, List, [], ◌∷◌, ◌++◌, length, Some, inl, inr, ◌⊎◌, refl, sym, ap, subst, ◌∙◌, arith}
use Rattle.std.specs.Prelude.{slice_get}
use Rattle.std.proofs.lemmas.List.{length-append}
use Rattle.std.proofs.Common.{append_assoc}
use Rattle.boogie_tree.specs.declared.tree.Column.{Column}
use Rattle.boogie_tree.specs.declared.tree.Column.TheVariants as columns
use Rattle.boogie_tree.specs.declared.tree.VarInfo.{VarInfo}
use Rattle.typed_tree.specs.TypedTree.{TypedProgram}
use Rattle.typed_tree.specs.Values.{State, column_value, member}
use Rattle.lin_rows.specs.Points.{point_of}
use Rattle.letter_acts.specs.Frames.{Columns, IsState, IsValue, added, globals_from, old_columns, locals_from}
use Rattle.cond_jumps.specs.Frames.{IsShown}
use Rattle.boogie_run.specs.Needs.{locals_at}
use Rattle.lowered_graph.specs.LoweredSteps.ProgramFrames.{frame_at, variable_values, shown}
use Rattle.lowered_graph.specs.LoweredSteps.Moves.{HasTypes, FrameKeeps}

-- ---- values of variables

pub types_length : (vs : List VarInfo) (zs : List ℤ) → HasTypes vs zs → length zs ≡ length vs
types_length [] [] h = refl
types_length [] (z ∷ zs) h = absurd h
types_length (v ∷ vs) [] h = absurd h
types_length (v ∷ vs) (z ∷ zs) h = ap suc (types_length vs zs h.1)

pub state_append : (a b : Columns) (xs ys : List ℤ) → IsState a xs → IsState b ys → IsState (a ++ b) (xs ++ ys)
state_append [] b [] ys h k = k
state_append [] b (x ∷ xs) ys h k = absurd h
state_append (c ∷ cs) b [] ys h k = absurd h
state_append (c ∷ cs) b (x ∷ xs) ys h k = (h.0, state_append cs b xs ys h.1 k)

pub globals_state : (n : ℕ) (vs : List VarInfo) (zs : List ℤ) → HasTypes vs zs → IsState (globals_from n vs) zs
globals_state n [] [] h = tt
globals_state n [] (z ∷ zs) h = absurd h
globals_state n (v ∷ vs) [] h = absurd h
globals_state n (v ∷ vs) (z ∷ zs) h = (h.0, globals_state (suc n) vs zs h.1)

pub locals_state : (n : ℕ) (vs : List VarInfo) (zs : List ℤ) → HasTypes vs zs → IsState (locals_from n vs) zs
locals_state n [] [] h = tt
locals_state n [] (z ∷ zs) h = absurd h
locals_state n (v ∷ vs) [] h = absurd h
locals_state n (v ∷ vs) (z ∷ zs) h = (h.0, locals_state (suc n) vs zs h.1)

if_variable : (b : Bool) (n : ℕ) (v : VarInfo) (z : ℤ) (cs : Columns) (zs : List ℤ) → IsValue v.ty z → IsState cs zs → IsState (added b (columns.Old n, v) cs) (added b z zs)
if_variable true n v z cs zs h k = (h, k)
if_variable false n v z cs zs h k = k

pub olds_state : (n : ℕ) (vs : List VarInfo) (zs : List ℤ) → HasTypes vs zs → IsState (old_columns n vs) (variable_values vs zs)
olds_state n [] [] h = tt
olds_state n [] (z ∷ zs) h = absurd h
olds_state n (v ∷ vs) [] h = absurd h
olds_state n (v ∷ vs) (z ∷ zs) h = if_variable (not v.constant) n v z (old_columns (suc n) vs) (variable_values vs zs) h.0 (olds_state (suc n) vs zs h.1)

-- ---- the columns of a frame, one after the other

-- each column of a list of columns has the value that a function gives it
abbrev pub HaveValues : (Column → ℤ) → Columns → List ℤ → Type 0
HaveValues f [] [] = Unit {0}
HaveValues f [] (z ∷ zs) = ⊥
HaveValues f (c ∷ cs) [] = ⊥
HaveValues f (c ∷ cs) (z ∷ zs) = (z ≡ f c.0) × HaveValues f cs zs

pub values_append : (f : Column → ℤ) (a b : Columns) (xs ys : List ℤ) → HaveValues f a xs → HaveValues f b ys → HaveValues f (a ++ b) (xs ++ ys)
values_append f [] b [] ys h k = k
values_append f [] b (x ∷ xs) ys h k = absurd h
values_append f (c ∷ cs) b [] ys h k = absurd h
values_append f (c ∷ cs) b (x ∷ xs) ys h k = (h.0, values_append f cs b xs ys h.1 k)

pub value_at : (f : Column → ℤ) (cs : Columns) (zs : List ℤ) (n : ℕ) (d : Column × VarInfo) → HaveValues f cs zs → slice_get cs n ≡ Some d → point_of zs n ≡ f d.0
value_at f [] [] n d h e = absurd (cc)
value_at f [] (z ∷ zs) n d h e = absurd h
value_at f (c ∷ cs) [] n d h e = absurd h
value_at f (c ∷ cs) (z ∷ zs) zero d h e =
    let g : c ≡ d = cc in
    h.0 ∙ ap (λ (x : Column × VarInfo). f x.0) g
value_at f (c ∷ cs) (z ∷ zs) (suc n) d h e = value_at f cs zs n d h.1 e

-- the member of a list behind others
pub member_behind : (front zs : List ℤ) (z : ℤ) → member (front ++ z ∷ zs) (length front) ≡ z
member_behind [] zs z = refl
member_behind (x ∷ xs) zs z = member_behind xs zs z

globals_values : (s : State) (front zs : List ℤ) (vs : List VarInfo) → s.globals ≡ front ++ zs → length zs ≡ length vs → HaveValues (column_value s) (globals_from (length front) vs) zs
globals_values s front [] [] e l = tt
globals_values s front [] (v ∷ vs) e l = absurd (omega arith)
globals_values s front (z ∷ zs) [] e l = absurd (omega arith)
globals_values s front (z ∷ zs) (v ∷ vs) e l =
    let first : z ≡ member s.globals (length front) = sym (ap (λ (xs : List ℤ). member xs (length front)) e ∙ member_behind front zs z) in
    let more : s.globals ≡ (front ++ z ∷ []) ++ zs = e ∙ sym (append_assoc front (z ∷ []) zs) in
    let count : length (front ++ z ∷ []) ≡ suc (length front) = length-append front (z ∷ []) ∙ omega arith in
    (first, rw count at (globals_values s (front ++ z ∷ []) zs vs more (omega arith)))

if_old : (b : Bool) (f : Column → ℤ) (n : ℕ) (v : VarInfo) (z : ℤ) (cs : Columns) (zs : List ℤ) → z ≡ f (columns.Old n) → HaveValues f cs zs → HaveValues f (added b (columns.Old n, v) cs) (added b z zs)
if_old true f n v z cs zs e h = (e, h)
if_old false f n v z cs zs e h = h

olds_values : (s : State) (front zs : List ℤ) (vs : List VarInfo) → s.old ≡ front ++ zs → length zs ≡ length vs → HaveValues (column_value s) (old_columns (length front) vs) (variable_values vs zs)
olds_values s front [] [] e l = tt
olds_values s front [] (v ∷ vs) e l = absurd (omega arith)
olds_values s front (z ∷ zs) [] e l = absurd (omega arith)
olds_values s front (z ∷ zs) (v ∷ vs) e l =
    let first : z ≡ member s.old (length front) = sym (ap (λ (xs : List ℤ). member xs (length front)) e ∙ member_behind front zs z) in
    let more : s.old ≡ (front ++ z ∷ []) ++ zs = e ∙ sym (append_assoc front (z ∷ []) zs) in
    let count : length (front ++ z ∷ []) ≡ suc (length front) = length-append front (z ∷ []) ∙ omega arith in
    if_old (not v.constant) (column_value s) (length front) v z (old_columns (suc (length front)) vs) (variable_values vs zs) first
    (rw count at (olds_values s (front ++ z ∷ []) zs vs more (omega arith)))

locals_values : (s : State) (front zs : List ℤ) (vs : List VarInfo) → s.locals ≡ front ++ zs → length zs ≡ length vs → HaveValues (column_value s) (locals_from (length front) vs) zs
locals_values s front [] [] e l = tt
locals_values s front [] (v ∷ vs) e l = absurd (omega arith)
locals_values s front (z ∷ zs) [] e l = absurd (omega arith)
locals_values s front (z ∷ zs) (v ∷ vs) e l =
    let first : z ≡ member s.locals (length front) = sym (ap (λ (xs : List ℤ). member xs (length front)) e ∙ member_behind front zs z) in
    let more : s.locals ≡ (front ++ z ∷ []) ++ zs = e ∙ sym (append_assoc front (z ∷ []) zs) in
    let count : length (front ++ z ∷ []) ≡ suc (length front) = length-append front (z ∷ []) ∙ omega arith in
    (first, rw count at (locals_values s (front ++ z ∷ []) zs vs more (omega arith)))

-- ---- which columns stand where

pub record IsLater {X : Type 0} (n : ℕ) (xs ys : List X) (d : X) : Type 0 where
  pub index : ℕ
  pub at : n ≡ length xs + index
  pub stands : slice_get ys index ≡ Some d

pub slice_of_both : {X : Type 0} (xs ys : List X) (n : ℕ) (d : X) → slice_get (xs ++ ys) n ≡ Some d → (slice_get xs n ≡ Some d) ⊎ IsLater n xs ys d
slice_of_both [] ys n d e = inr (record { index = n; at = omega arith; stands = e })
slice_of_both (x ∷ xs) ys zero d e = inl e
slice_of_both (x ∷ xs) ys (suc n) d e = elim (slice_of_both xs ys n d e) [
  | inl h ↦ inl h
  | inr l ↦ inr (record { index = l.index; at = (let g : n ≡ length xs + l.index = l.at in omega arith); stands = l.stands })
]

global_stands : (k : ℕ) (vs : List VarInfo) (n : ℕ) (c : Column) (v : VarInfo) → slice_get (globals_from k vs) n ≡ Some (c, v) → (c ≡ columns.Global (k + n)) × (slice_get vs n ≡ Some v)
global_stands k [] n c v e = absurd (cc)
global_stands k (w ∷ ws) zero c v e =
    let p : (columns.Global k, w) ≡ (c, v) = cc in
    let i : columns.Global k ≡ c = ap (λ (x : Column × VarInfo). x.0) p in
    let j : w ≡ v = ap (λ (x : Column × VarInfo). x.1) p in
    let z : k + 0 ≡ k = omega arith in
    (rw z (sym i), ap Some j)
global_stands k (w ∷ ws) (suc n) c v e =
    let h = global_stands (suc k) ws n c v e in
    let z : k + suc n ≡ suc k + n = omega arith in
    (rw z h.0, h.1)

abbrev IsNoGlobal : Column → Type 0
IsNoGlobal (columns.Global n) = ⊥
IsNoGlobal (columns.Old n) = Unit {0}
IsNoGlobal (columns.Local n) = Unit {0}

abbrev NoGlobals : Columns → Type 0
NoGlobals cs = (n : ℕ) (c : Column) (v : VarInfo) → slice_get cs n ≡ Some (c, v) → IsNoGlobal c

locals_no_globals : (k : ℕ) (vs : List VarInfo) → NoGlobals (locals_from k vs)
locals_no_globals k [] n c v e = absurd (cc)
locals_no_globals k (w ∷ ws) zero c v e =
    let p : (columns.Local k, w) ≡ (c, v) = cc in
    subst IsNoGlobal (ap (λ (x : Column × VarInfo). x.0) p) tt
locals_no_globals k (w ∷ ws) (suc n) c v e = locals_no_globals (suc k) ws n c v e

no_globals_added : (b : Bool) (k : ℕ) (w : VarInfo) (cs : Columns) → NoGlobals cs → NoGlobals (added b (columns.Old k, w) cs)
no_globals_added true k w cs h zero c v e =
    let p : (columns.Old k, w) ≡ (c, v) = cc in
    subst IsNoGlobal (ap (λ (x : Column × VarInfo). x.0) p) tt
no_globals_added true k w cs h (suc n) c v e = h n c v e
no_globals_added false k w cs h n c v e = h n c v e

olds_no_globals : (k : ℕ) (vs : List VarInfo) → NoGlobals (old_columns k vs)
olds_no_globals k [] n c v e = absurd (cc)
olds_no_globals k (w ∷ ws) n c v e = no_globals_added (not w.constant) k w (old_columns (suc k) ws) (olds_no_globals (suc k) ws) n c v e

-- a constant or global of a frame is that of the program
pub global_of_frame : (t : TypedProgram) (p n g : ℕ) (v : VarInfo) → slice_get (frame_at t p) n ≡ Some (columns.Global g, v) → (n ≡ g) × (slice_get t.globals g ≡ Some v)
global_of_frame t p n g v e =
    elim (slice_of_both (globals_from 0 t.globals) (old_columns 0 t.globals ++ locals_from 0 (locals_at t p)) n (columns.Global g, v) e) [
      | inl f ↦ (let h = global_stands 0 t.globals n (columns.Global g) v f in
          let z : 0 + n ≡ n = omega arith in
          let same : g ≡ 0 + n = global_number g (0 + n) h.0 in
          let i : n ≡ g = omega arith in
          (i, subst (λ (m : ℕ). slice_get t.globals m ≡ Some v) i h.1))
      | inr l ↦ (elim (slice_of_both (old_columns 0 t.globals) (locals_from 0 (locals_at t p)) l.index (columns.Global g, v) l.stands) [
        | inl f ↦ absurd (olds_no_globals 0 t.globals l.index (columns.Global g) v f)
        | inr m ↦ absurd (locals_no_globals 0 (locals_at t p) m.index (columns.Global g) v m.stands)
      ])
    ]
  where
    global_number : (a b : ℕ) → columns.Global a ≡ columns.Global b → a ≡ b
    global_number a b e = cc

-- ---- a frame that is shown

pub shown_state : (t : TypedProgram) (n : ℕ) (s : State) → FrameKeeps t n s → IsState (frame_at t n) (shown t s)
shown_state t n s h =
    state_append (globals_from 0 t.globals) (old_columns 0 t.globals ++ locals_from 0 (locals_at t n)) s.globals (variable_values t.globals s.old ++ s.locals) (globals_state 0 t.globals s.globals h.globals)
    (state_append (old_columns 0 t.globals) (locals_from 0 (locals_at t n)) (variable_values t.globals s.old) s.locals (olds_state 0 t.globals s.old h.old) (locals_state 0 (locals_at t n) s.locals h.locals))

pub shown_values : (t : TypedProgram) (n : ℕ) (s : State) → FrameKeeps t n s → HaveValues (column_value s) (frame_at t n) (shown t s)
shown_values t n s h =
    values_append (column_value s) (globals_from 0 t.globals) (old_columns 0 t.globals ++ locals_from 0 (locals_at t n)) s.globals (variable_values t.globals s.old ++ s.locals)
    (globals_values s [] s.globals t.globals refl (types_length t.globals s.globals h.globals))
    (values_append (column_value s) (old_columns 0 t.globals) (locals_from 0 (locals_at t n)) (variable_values t.globals s.old) s.locals
    (olds_values s [] s.old t.globals refl (types_length t.globals s.old h.old)) (locals_values s [] s.locals (locals_at t n) refl (types_length (locals_at t n) s.locals h.locals)))

pub shown_is_shown : (t : TypedProgram) (n : ℕ) (s : State) → FrameKeeps t n s → IsShown (frame_at t n) s (shown t s)
shown_is_shown t n s h = record {
  state = shown_state t n s h;
  present = λ k d e. value_at (column_value s) (frame_at t n) (shown t s) k d (shown_values t n s h) e;
  constants = λ k g v e c. h.constants g v (global_of_frame t n k g v e).1 c;
}
