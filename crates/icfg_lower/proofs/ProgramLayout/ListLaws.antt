-- The numbers and frames of the procedures of a program, read one after the other and each by its number.
use Rattle.std.proofs.Common.{◌≡◌, ℕ, zero, suc, ◌+◌, ◌-◌, ◌<◌, ◌^◌, List, [], ◌∷◌, map, length, Option, None, Some, slice_get, refl, sym, ap, ◌∙◌, arith, get_or}
use Rattle.std.specs.Prelude.{IfSome}
use Rattle.std.specs.Option.{option_map}
use Rattle.typed_tree.specs.declared.types.TProc.{TProc}
use Rattle.typed_tree.specs.TypedView as view
use Rattle.typed_tree.specs.TypedTree.{TypedProcedure, TypedProgram}
use Rattle.typed_tree.specs.TypingRules.Counts.{body_assertions, body_points, checked_at_call}
use Rattle.boogie_run.specs.BoogiePoints.Actions.{first_assertion, first_place, assertions_before, points_before}
use Rattle.boogie_tree.specs.declared.tree.VarInfo.{VarInfo}
use Rattle.letter_acts.specs.Frames.{Columns}
use Rattle.boogie_run.specs.Needs.{locals_if_any}
use Rattle.lowered_graph.specs.LoweredSteps.ProgramFrames.{frame_at}
use Rattle.lowered_graph.specs.Arcs.{first_error}
use Rattle.lowered_graph.specs.Lowered.{counted_procs, program_sites}
use Rattle.icfg_lower.specs.declared.program_layout.marks.Marks.{Marks}
use Rattle.icfg_lower.specs.ProgramLayout.Layouts.{frame_with, marks_with, marks_from, marks_of}

marks_numbered : (procs : List TypedProcedure) (A P : ℕ → ℕ) (ps : List TypedProcedure) (n first entry : ℕ) →
    ((k : ℕ) → A (n + k) ≡ first + assertions_before procs ps k) → ((k : ℕ) → P (n + k) ≡ entry + points_before procs ps k) →
    marks_from procs first entry ps ≡ map (λ q. marks_with procs q.1 (A q.0) (P q.0) q.1.body) (counted_procs n ps)
marks_numbered procs A P [] n first entry a b = refl
marks_numbered procs A P (q ∷ qs) n first entry a b =
    let z : n ≡ n + 0 = omega arith in
    let f : first + 0 ≡ first = omega arith in
    let g : entry + 0 ≡ entry = omega arith in
    let i : A n ≡ first = ap A z ∙ a 0 ∙ f in
    let j : P n ≡ entry = ap P z ∙ b 0 ∙ g in
    let s : (k : ℕ) → suc n + k ≡ n + suc k = λ k. omega arith in
    let c : (k : ℕ) → first + (body_assertions procs q.specs q.body + assertions_before procs qs k) ≡ (first + body_assertions procs q.specs q.body) + assertions_before procs qs k = λ k. omega arith in
    let d : (k : ℕ) → entry + (body_points procs q.specs q.body + points_before procs qs k) ≡ (entry + body_points procs q.specs q.body) + points_before procs qs k = λ k. omega arith in
    let rest : marks_from procs (first + body_assertions procs q.specs q.body) (entry + body_points procs q.specs q.body) qs ≡ map (λ q. marks_with procs q.1 (A q.0) (P q.0) q.1.body) (counted_procs (suc n) qs) =
    marks_numbered procs A P qs (suc n) (first + body_assertions procs q.specs q.body) (entry + body_points procs q.specs q.body)
    (λ k. ap A (s k) ∙ a (suc k) ∙ c k) (λ k. ap P (s k) ∙ b (suc k) ∙ d k) in
    let here : marks_with procs q first entry q.body ≡ marks_with procs q (A n) (P n) q.body =
    ap (λ (m : ℕ). marks_with procs q m entry q.body) (sym i) ∙ ap (λ (m : ℕ). marks_with procs q (A n) m q.body) (sym j) in
    ap (λ (m : Marks). m ∷ marks_from procs (first + body_assertions procs q.specs q.body) (entry + body_points procs q.specs q.body) qs) here
    ∙ ap (λ (ms : List Marks). marks_with procs q (A n) (P n) q.body ∷ ms) rest

-- the marks that are counted from one procedure to the next are those of each procedure
pub marks_are : (t : TypedProgram) (first : ℕ) → first ≡ 1 + (length t.axioms + checked_at_call (slice_get t.procs t.entry)) →
    marks_from t.procs 1 first t.procs ≡ map (marks_of t) (counted_procs 0 t.procs)
marks_are t first e =
    let z : (k : ℕ) → 0 + k ≡ k = λ k. omega arith in
    let d : (k : ℕ) → 1 + (length t.axioms + (checked_at_call (slice_get t.procs t.entry) + points_before t.procs t.procs k)) ≡ first + points_before t.procs t.procs k = λ k. omega arith in
    marks_numbered t.procs (first_assertion t.procs) (first_place t) t.procs 0 1 first
    (λ k. ap (first_assertion t.procs) (z k)) (λ k. ap (first_place t) (z k) ∙ d k)

counted_map : {X : Type 0} (F : ℕ → X) (G : TypedProcedure → X) (ps : List TypedProcedure) (n : ℕ) → ((k : ℕ) (q : TypedProcedure) → slice_get ps k ≡ Some q → F (n + k) ≡ G q) →
    map G ps ≡ map (λ q. F q.0) (counted_procs n ps)
counted_map F G [] n h = refl
counted_map {X = X} F G (q ∷ qs) n h =
    let z : n ≡ n + 0 = omega arith in
    let s : (k : ℕ) → suc n + k ≡ n + suc k = λ k. omega arith in
    let here : F n ≡ G q = ap F z ∙ h 0 q refl in
    let rest : map G qs ≡ map (λ q. F q.0) (counted_procs (suc n) qs) = counted_map F G qs (suc n) (λ k p e. ap F (s k) ∙ h (suc k) p e) in
    ap (λ (x : X). x ∷ map G qs) (sym here) ∙ ap (λ (xs : List X). F n ∷ xs) rest

pub frames_are : (t : TypedProgram) → map (λ q. frame_with t.globals q.locals) t.procs ≡ map (λ q. frame_at t q.0) (counted_procs 0 t.procs)
frames_are t =
    let z : (k : ℕ) → 0 + k ≡ k = λ k. omega arith in
    counted_map (frame_at t) (λ q. frame_with t.globals q.locals) t.procs 0
    (λ k q e. ap (frame_at t) (z k) ∙ ap (λ (o : Option TypedProcedure). frame_with t.globals (locals_if_any o)) e)

get_counted : {X : Type 0} (f : ℕ × TypedProcedure → X) (ps : List TypedProcedure) (n k : ℕ) → slice_get (map f (counted_procs n ps)) k ≡ option_map (λ q. f (n + k, q)) (slice_get ps k)
get_counted f [] n k = refl
get_counted f (q ∷ qs) n zero =
    let z : n ≡ n + 0 = omega arith in
    ap (λ (m : ℕ). Some (f (m, q))) z
get_counted f (q ∷ qs) n (suc k) =
    let s : suc n + k ≡ n + suc k = omega arith in
    get_counted f qs (suc n) k ∙ ap (λ (m : ℕ). option_map (λ p. f (m, p)) (slice_get qs k)) s

pub get_marks : (t : TypedProgram) (k : ℕ) (xs : List Marks) → xs ≡ map (marks_of t) (counted_procs 0 t.procs) →
    slice_get xs k ≡ option_map (λ q. marks_of t (k, q)) (slice_get t.procs k)
get_marks t k xs e =
    let z : 0 + k ≡ k = omega arith in
    ap (λ (ms : List Marks). slice_get ms k) e ∙ get_counted (marks_of t) t.procs 0 k ∙ ap (λ (m : ℕ). option_map (λ q. marks_of t (m, q)) (slice_get t.procs k)) z

pub get_frame : (t : TypedProgram) (k : ℕ) (frames : List Columns) → frames ≡ map (λ q. frame_at t q.0) (counted_procs 0 t.procs) →
    slice_get frames k ≡ option_map (λ q. frame_at t k) (slice_get t.procs k)
get_frame t k frames e =
    let z : 0 + k ≡ k = omega arith in
    ap (λ (fs : List Columns). slice_get fs k) e
    ∙ get_counted (λ q. frame_at t q.0) t.procs 0 k ∙ ap (λ (m : ℕ). option_map (λ q. frame_at t m) (slice_get t.procs k)) z

-- a procedure of a list has few enough locals where each has
pub item_fits : (ps : List TProc) (n : ℕ) (p : TProc) → n < length ps → p ≡ get_or ps n p → ((k : ℕ) → IfSome (slice_get (map view.procedure ps) k) (λ q. length q.locals < 2 ^ 32)) →
    length p.locals.items < 2 ^ 32
item_fits [] n p l e h = absurd (omega arith)
item_fits (x ∷ xs) zero p l e h =
    let same : length p.locals.items ≡ length x.locals.items = ap (λ (y : TProc). length y.locals.items) e in
    omega (arith, h 0)
item_fits (x ∷ xs) (suc n) p l e h = item_fits xs n p (omega arith) e (λ k. h (suc k))

-- ---- what is laid out

pub laid_frames : (t : TypedProgram) (globals : List VarInfo) (ps : List TypedProcedure) (frames : List Columns) → globals ≡ t.globals → ps ≡ t.procs →
    frames ≡ map (λ q. frame_with globals q.locals) ps → frames ≡ map (λ q. frame_at t q.0) (counted_procs 0 t.procs)
laid_frames t globals ps frames e f h =
    h ∙ ap (λ (vs : List VarInfo). map (λ q. frame_with vs q.locals) ps) e ∙ ap (λ (qs : List TypedProcedure). map (λ q. frame_with t.globals q.locals) qs) f ∙ frames_are t

pub laid_marks : (t : TypedProgram) (ps : List TypedProcedure) (first : ℕ) (marks : List Marks) → ps ≡ t.procs → first ≡ 1 + (length t.axioms + checked_at_call (slice_get t.procs t.entry)) →
    marks ≡ marks_from ps 1 first ps → marks ≡ map (marks_of t) (counted_procs 0 t.procs)
laid_marks t ps first marks e f h = h ∙ ap (λ (qs : List TypedProcedure). marks_from qs 1 first qs) e ∙ marks_are t first f

pub laid_error : (t : TypedProgram) (ps : List TypedProcedure) (k first place : ℕ) → ps ≡ t.procs → k ≡ length ps → first ≡ 1 + (length t.axioms + checked_at_call (slice_get t.procs t.entry)) →
    first_error t ≡ first_place t (length t.procs) → place ≡ first + points_before ps ps k → place ≡ first_error t
laid_error t ps k first place e m f g h =
    let same : points_before ps ps k ≡ points_before t.procs t.procs (length t.procs) =
    ap (points_before ps ps) m ∙ ap (λ (qs : List TypedProcedure). points_before qs qs (length qs)) e in
    omega arith

pub laid_count : (t : TypedProgram) (ps : List TypedProcedure) (k assertion : ℕ) → ps ≡ t.procs → k ≡ length ps →
    1 + length (program_sites t) ≡ first_assertion t.procs (length t.procs) → assertion ≡ 1 + assertions_before ps ps k → assertion - 1 ≡ length (program_sites t)
laid_count t ps k assertion e m g h =
    let same : assertions_before ps ps k ≡ assertions_before t.procs t.procs (length t.procs) =
    ap (assertions_before ps ps) m ∙ ap (λ (qs : List TypedProcedure). assertions_before qs qs (length qs)) e in
    omega arith

-- the locals of a procedure that is there
pub locals_counted : (o : Option TypedProcedure) → option_map (λ q. length q.locals) o ≡ option_map (λ q. length (locals_if_any o)) o
locals_counted None = refl
locals_counted (Some q) = refl
