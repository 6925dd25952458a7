-- What is picked out of a frame that is shown: the variables among its globals, the constants, the old values, and the parameters.
use Rattle.std.proofs.Common.{◌≡◌, ℕ, zero, suc, ◌≤◌, Bool, true, false, not, ℤ, List, [], ◌∷◌, ◌++◌, length, take, drop, refl, sym, ap, ◌∙◌, arith, append_assoc}
use Rattle.std.proofs.lemmas.List.{length-append}
use Rattle.boogie_tree.specs.declared.tree.VarInfo.{VarInfo}
use Rattle.typed_tree.specs.TypedTree.{TypedProgram}
use Rattle.typed_tree.specs.Values.{State}
use Rattle.lin_rows.specs.Points.{point_of}
use Rattle.letter_acts.specs.Frames.{IsFrame, ConstantsFirst, added, globals_from, is_variable, is_fixed_column, places, globals_of, variables_of, constants_of}
use Rattle.letter_acts.specs.Values.{picked}
use Rattle.letter_acts.proofs.FrameLemmas.{global_count, variables_are, constants_are}
use Rattle.cond_jumps.specs.Worth.{Read}
use Rattle.boogie_run.specs.Needs.{locals_at}
use Rattle.lowered_graph.specs.LoweredSteps.ProgramFrames.{frame_at, variable_values, shown}

pub frame_is : (t : TypedProgram) (n : ℕ) → ConstantsFirst (locals_at t n) → IsFrame t.globals (frame_at t n)
frame_is t n h = record { locals = locals_at t n; columns = refl; parameters_first = h }

-- of values of the constants and globals those of the constants
abbrev pub constant_values : List VarInfo → List ℤ → List ℤ
constant_values [] zs = []
constant_values (v ∷ vs) [] = []
constant_values (v ∷ vs) (z ∷ zs) = added v.constant z (constant_values vs zs)

point_behind : (front rest : List ℤ) (z : ℤ) → point_of (front ++ z ∷ rest) (length front) ≡ z
point_behind [] rest z = refl
point_behind (x ∷ xs) rest z = point_behind xs rest z

picked_added : (values : List ℤ) (b : Bool) (n : ℕ) (ns : List ℕ) (z : ℤ) (zs : List ℤ) → point_of values n ≡ z → picked values ns ≡ zs → picked values (added b n ns) ≡ added b z zs
picked_added values true n ns z zs e f = λ i. e i ∷ f i
picked_added values false n ns z zs e f = f

variables_picked : (values front zs rest : List ℤ) (j : ℕ) (vs : List VarInfo) → values ≡ front ++ (zs ++ rest) → length zs ≡ length vs →
    picked values (places is_variable (length front) (globals_from j vs)) ≡ variable_values vs zs
variables_picked values front [] rest j [] e l = refl
variables_picked values front [] rest j (v ∷ vs) e l = absurd (omega arith)
variables_picked values front (z ∷ zs) rest j [] e l = absurd (omega arith)
variables_picked values front (z ∷ zs) rest j (v ∷ vs) e l =
    let more : values ≡ (front ++ z ∷ []) ++ (zs ++ rest) = e ∙ sym (append_assoc front (z ∷ []) (zs ++ rest)) in
    let count : length (front ++ z ∷ []) ≡ suc (length front) = length-append front (z ∷ []) ∙ omega arith in
    let here : point_of values (length front) ≡ z = ap (λ (xs : List ℤ). point_of xs (length front)) e ∙ point_behind front (zs ++ rest) z in
    picked_added values (not v.constant) (length front) (places is_variable (suc (length front)) (globals_from (suc j) vs)) z (variable_values vs zs) here
    (rw count at (variables_picked values (front ++ z ∷ []) zs rest (suc j) vs more (omega arith)))

constants_picked : (values front zs rest : List ℤ) (j : ℕ) (vs : List VarInfo) → values ≡ front ++ (zs ++ rest) → length zs ≡ length vs →
    picked values (places is_fixed_column (length front) (globals_from j vs)) ≡ constant_values vs zs
constants_picked values front [] rest j [] e l = refl
constants_picked values front [] rest j (v ∷ vs) e l = absurd (omega arith)
constants_picked values front (z ∷ zs) rest j [] e l = absurd (omega arith)
constants_picked values front (z ∷ zs) rest j (v ∷ vs) e l =
    let more : values ≡ (front ++ z ∷ []) ++ (zs ++ rest) = e ∙ sym (append_assoc front (z ∷ []) (zs ++ rest)) in
    let count : length (front ++ z ∷ []) ≡ suc (length front) = length-append front (z ∷ []) ∙ omega arith in
    let here : point_of values (length front) ≡ z = ap (λ (xs : List ℤ). point_of xs (length front)) e ∙ point_behind front (zs ++ rest) z in
    picked_added values v.constant (length front) (places is_fixed_column (suc (length front)) (globals_from (suc j) vs)) z (constant_values vs zs) here
    (rw count at (constants_picked values (front ++ z ∷ []) zs rest (suc j) vs more (omega arith)))

pub shown_variables : (t : TypedProgram) (n : ℕ) (s : State) → ConstantsFirst (locals_at t n) → length s.globals ≡ length t.globals → picked (shown t s) (variables_of (frame_at t n)) ≡ variable_values t.globals s.globals
shown_variables t n s h l =
    ap (picked (shown t s)) (variables_are t.globals (frame_at t n) (frame_is t n h))
    ∙ variables_picked (shown t s) [] s.globals (variable_values t.globals s.old ++ s.locals) 0 t.globals refl l

pub shown_constants : (t : TypedProgram) (n : ℕ) (s : State) → ConstantsFirst (locals_at t n) → length s.globals ≡ length t.globals → picked (shown t s) (constants_of (frame_at t n)) ≡ constant_values t.globals s.globals
shown_constants t n s h l =
    ap (picked (shown t s)) (constants_are t.globals (frame_at t n) (frame_is t n h))
    ∙ constants_picked (shown t s) [] s.globals (variable_values t.globals s.old ++ s.locals) 0 t.globals refl l

take_front : (xs ys : List ℤ) (n : ℕ) → length xs ≡ n → take n (xs ++ ys) ≡ xs
take_front [] ys zero e = refl
take_front [] ys (suc n) e = absurd (omega arith)
take_front (x ∷ xs) ys zero e = absurd (omega arith)
take_front (x ∷ xs) ys (suc n) e = ap (λ (zs : List ℤ). x ∷ zs) (take_front xs ys n (omega arith))

drop_front : (xs ys : List ℤ) (n : ℕ) → length xs ≡ n → drop n (xs ++ ys) ≡ ys
drop_front [] ys zero e = refl
drop_front [] ys (suc n) e = absurd (omega arith)
drop_front (x ∷ xs) ys zero e = absurd (omega arith)
drop_front (x ∷ xs) ys (suc n) e = drop_front xs ys n (omega arith)

pub shown_globals : (t : TypedProgram) (n : ℕ) (s : State) → ConstantsFirst (locals_at t n) → length s.globals ≡ length t.globals → take (length (globals_of (frame_at t n))) (shown t s) ≡ s.globals
shown_globals t n s h l =
    take_front s.globals (variable_values t.globals s.old ++ s.locals) (length (globals_of (frame_at t n))) (l ∙ sym (global_count t.globals (frame_at t n) (frame_is t n h)))

pub shown_rest : (t : TypedProgram) (n : ℕ) (s : State) → ConstantsFirst (locals_at t n) → length s.globals ≡ length t.globals →
    drop (length (globals_of (frame_at t n))) (shown t s) ≡ variable_values t.globals s.old ++ s.locals
shown_rest t n s h l =
    drop_front s.globals (variable_values t.globals s.old ++ s.locals) (length (globals_of (frame_at t n))) (l ∙ sym (global_count t.globals (frame_at t n) (frame_is t n h)))

-- ---- values that stand one after the other

pub read_front : (values front zs rest : List ℤ) → values ≡ front ++ (zs ++ rest) → Read (point_of values) (length front) zs
read_front values front [] rest e = tt
read_front values front (z ∷ zs) rest e =
    let more : values ≡ (front ++ z ∷ []) ++ (zs ++ rest) = e ∙ sym (append_assoc front (z ∷ []) (zs ++ rest)) in
    let count : length (front ++ z ∷ []) ≡ suc (length front) = length-append front (z ∷ []) ∙ omega arith in
    (ap (λ (xs : List ℤ). point_of xs (length front)) e ∙ point_behind front (zs ++ rest) z, rw count at (read_front values (front ++ z ∷ []) zs rest more))

-- and the other way round
pub front_read : (values front zs rest : List ℤ) → values ≡ front ++ rest → length zs ≤ length rest → Read (point_of values) (length front) zs → take (length zs) rest ≡ zs
front_read values front [] rest e l h = refl
front_read values front (z ∷ zs) [] e l h = absurd (omega arith)
front_read values front (z ∷ zs) (y ∷ ys) e l h =
    let more : values ≡ (front ++ y ∷ []) ++ ys = e ∙ sym (append_assoc front (y ∷ []) ys) in
    let count : length (front ++ y ∷ []) ≡ suc (length front) = length-append front (y ∷ []) ∙ omega arith in
    let here : y ≡ z = sym (ap (λ (xs : List ℤ). point_of xs (length front)) e ∙ point_behind front ys y) ∙ h.0 in
    let later : Read (point_of values) (length (front ++ y ∷ [])) zs = rw count h.1 in
    let rest_is : take (length zs) ys ≡ zs = front_read values (front ++ y ∷ []) zs ys more (omega arith) later in
    λ i. here i ∷ rest_is i
