-- What a configuration keeps stays where its frame moves on and writes.
use Rattle.std.proofs.Common.{◌≡◌, ℕ, zero, suc, ◌+◌, ◌<◌, ◌≤◌, true, ℤ, List, [], ◌∷◌, ◌++◌, length, take, Some, inl, inr, refl, sym, ap, subst, ◌∙◌, arith}
use Rattle.std.specs.Prelude.{slice_get}
use Rattle.std.specs.List.{AllByRecursion}
use Rattle.std.proofs.lemmas.List.{length-append, length-map}
use Rattle.std.proofs.lemmas.Bool.{cases_lt, false≢true}
use Rattle.boogie_tree.specs.declared.tree.Ty.{Ty}
use Rattle.boogie_tree.specs.declared.tree.Column.{Column}
use Rattle.boogie_tree.specs.declared.tree.Column.TheVariants as columns
use Rattle.boogie_tree.specs.declared.tree.VarInfo.{VarInfo}
use Rattle.typed_tree.specs.TypedTree.{TypedExpression, TypedProgram}
use Rattle.typed_tree.specs.Values.{State, value}
use Rattle.letter_acts.specs.Frames.{Columns}
use Rattle.boogie_run.specs.BoogiePoints.Points.{Point}
use Rattle.boogie_run.specs.Configurations.{Frame, Config, state_of}
use Rattle.boogie_run.specs.Needs.{locals_at, locals_if_any}
use Rattle.boogie_run.specs.Steps.{put, moved_to, written, all_written, values}
use Rattle.lowered_graph.specs.LoweredSteps.ProgramFrames.{frame_at}
use Rattle.lowered_graph.specs.LoweredSteps.Moves.{HasTypes, FrameKeeps, IsTarget, AreArguments, Awaits, FrameIsGood, BelowIsGood, IsGood, filled}
use Rattle.lowered_graph.proofs.LoweredSteps.FrameColumns.{types_length}
use Rattle.lowered_graph.proofs.LoweredSteps.Places.{all_state_written}
use Rattle.lowered_graph.proofs.LoweredSteps.Writes.{AreTaken, keeps_all_written, all_written_is, IsWritten}

pub append_none : (xs : List ℤ) → xs ++ [] ≡ xs
append_none [] = refl
append_none (x ∷ xs) = ap (λ (ys : List ℤ). x ∷ ys) (append_none xs)

pub none_missing : (vs : List VarInfo) (zs more : List ℤ) → HasTypes vs zs → HasTypes vs (zs ++ more) → more ≡ []
none_missing vs zs [] h k = refl
none_missing vs zs (m ∷ ms) h k =
    let a : length zs ≡ length vs = types_length vs zs h in
    let b : length (zs ++ m ∷ ms) ≡ length vs = types_length vs (zs ++ m ∷ ms) k in
    let c : length (zs ++ m ∷ ms) ≡ length zs + suc (length ms) = length-append zs (m ∷ ms) in
    absurd (omega arith)

-- where no local is missing, a move is its action
pub done_is : (t : TypedProgram) (mid d : Config) (more : List ℤ) → HasTypes (locals_at t mid.top.proc) mid.top.locals → HasTypes (locals_at t mid.top.proc) (mid.top.locals ++ more) → d ≡ filled mid more → d ≡ mid
done_is t mid d more h k e =
    let none : more ≡ [] = none_missing (locals_at t mid.top.proc) mid.top.locals more h k in
    let same : filled mid more ≡ mid = (λ i. record mid { top = record mid.top { locals = (ap (λ (xs : List ℤ). mid.top.locals ++ xs) none ∙ append_none mid.top.locals) i } }) in
    e ∙ same

-- ---- the frame above a call that is open may move on, and write what is no parameter

awaits_moved : (t : TypedProgram) (f b : Frame) (p : Point) (ks ls later : List ℤ) → (w : Awaits t f b) → ls ≡ values (record { globals = f.entry; old = b.entry; locals = b.locals }) w.args ++ later →
    Awaits t (record f { point = p; kept = ks; locals = ls }) b
awaits_moved t f b p ks ls later w e = record {
  args = w.args;
  calls = w.calls;
  procedure = w.procedure;
  is = w.is;
  enough = w.enough;
  shape = w.shape;
  arguments = w.arguments;
  later = later;
  passed = e;
  targets = w.targets;
}

pub arguments_length : (frame : Columns) (vs : List VarInfo) (es : List TypedExpression) → AreArguments frame vs es → length es ≡ length vs
arguments_length frame [] [] a = refl
arguments_length frame [] (e ∷ es) a = absurd a
arguments_length frame (v ∷ vs) [] a = absurd a
arguments_length frame (v ∷ vs) (e ∷ es) a = ap suc (arguments_length frame vs es a.1)

pub take_at_most : {X : Type 0} (n : ℕ) (xs : List X) → length (take n xs) ≤ n
take_at_most zero xs = omega arith
take_at_most (suc n) [] = omega arith
take_at_most {X} (suc n) (x ∷ xs) = let h = take_at_most {X = X} n xs in omega arith

-- a member before the n-th is among the first n
among_first : (vs : List VarInfo) (n l : ℕ) (v : VarInfo) → AllByRecursion (λ w. w.constant ≡ true) (take n vs) → slice_get vs l ≡ Some v → l < n → v.constant ≡ true
among_first [] n l v h e m = absurd (cc)
among_first (w ∷ ws) zero l v h e m = absurd (omega arith)
among_first (w ∷ ws) (suc n) zero v h e m = let i : w ≡ v = cc in ap (λ (x : VarInfo). x.constant) (sym i) ∙ h.0
among_first (w ∷ ws) (suc n) (suc l) v h e m = among_first ws n l v h.1 e (omega arith)

-- what is written behind the front of a list leaves the front
put_later : (zs later : List ℤ) (l : ℕ) (z : ℤ) → length zs ≤ l → (ys : List ℤ) × (put (zs ++ later) l z ≡ zs ++ ys)
put_later [] later l z m = (put later l z, refl)
put_later (x ∷ xs) later zero z m = absurd (omega arith)
put_later (x ∷ xs) later (suc l) z m = let h = put_later xs later l z (omega arith) in (h.0, ap (λ (ys : List ℤ). x ∷ ys) h.1)

-- a local that is written is no parameter
written_passed : (t : TypedProgram) (f b : Frame) (ty : Ty) (l : ℕ) (z : ℤ) → (w : Awaits t f b) → IsTarget t f.proc ty (columns.Local l) →
    (later : List ℤ) × (put f.locals l z ≡ values (record { globals = f.entry; old = b.entry; locals = b.locals }) w.args ++ later)
written_passed t f b ty l z w h =
    let s : State = record { globals = f.entry; old = b.entry; locals = b.locals } in
    let zs : List ℤ = values s w.args in
    let own : locals_at t f.proc ≡ w.procedure.locals = ap locals_if_any w.is in
    let at : slice_get w.procedure.locals l ≡ Some h.info = ap (λ (vs : List VarInfo). slice_get vs l) (sym own) ∙ h.is in
    let as_many : length zs ≡ length w.args = length-map w.args (value s) in
    let many : length w.args ≡ length (take w.procedure.params w.procedure.locals) = arguments_length (frame_at t b.proc) (take w.procedure.params w.procedure.locals) w.args w.arguments in
    let few : length (take w.procedure.params w.procedure.locals) ≤ w.procedure.params = take_at_most w.procedure.params w.procedure.locals in
    let behind : length zs ≤ l = elim (cases_lt l w.procedure.params) [
      | inl less ↦ absurd (false≢true (sym h.varies ∙ among_first w.procedure.locals w.procedure.params l h.info w.shape.constant at less))
      | inr more ↦ omega arith
    ] in
    let r = put_later zs w.later l z behind in
    (r.0, ap (λ (ys : List ℤ). put ys l z) w.passed ∙ r.1)

awaits_written : (t : TypedProgram) (c : Config) (b : Frame) (ty : Ty) (x : Column) (z : ℤ) → Awaits t c.top b → IsTarget t c.top.proc ty x → Awaits t (written c x z).top b
awaits_written t c b ty (columns.Global g) z w h = w
awaits_written t c b ty (columns.Old g) z w h = absurd h
awaits_written t c b ty (columns.Local l) z w h = let r = written_passed t c.top b ty l z w h in awaits_moved t c.top b c.top.point c.top.kept (put c.top.locals l z) r.0 w r.1

awaits_all_written : (t : TypedProgram) (c : Config) (b : Frame) (cs : List Column) (zs : List ℤ) → Awaits t c.top b → AreTaken t c.top.proc cs zs → Awaits t (all_written c cs zs).top b
awaits_all_written t c b [] zs w h = w
awaits_all_written t c b (x ∷ xs) [] w h = w
awaits_all_written t c b (columns.Global g ∷ xs) (z ∷ zs) w h = awaits_all_written t (written c (columns.Global g) z) b xs zs w h.1
awaits_all_written t c b (columns.Old g ∷ xs) (z ∷ zs) w h = absurd h.0.1
awaits_all_written t c b (columns.Local l ∷ xs) (z ∷ zs) w h =
    awaits_all_written t (written c (columns.Local l) z) b xs zs (awaits_written t c b h.0.0 (columns.Local l) z w h.0.1) h.1

-- the calls that are open stay as they are
pub below_moved : (t : TypedProgram) (Known : ℕ → Point → Type 0) (f : Frame) (bs : List Frame) (p : Point) (ks : List ℤ) → BelowIsGood t Known f bs → BelowIsGood t Known (record f { point = p; kept = ks }) bs
below_moved t Known f [] p ks h = tt
below_moved t Known f (b ∷ bs) p ks h = (h.0, awaits_moved t f b p ks f.locals h.1.later h.1 h.1.passed, h.2)

pub below_written : (t : TypedProgram) (Known : ℕ → Point → Type 0) (c : Config) (cs : List Column) (zs : List ℤ) → BelowIsGood t Known c.top c.below → AreTaken t c.top.proc cs zs →
    BelowIsGood t Known (all_written c cs zs).top (all_written c cs zs).below
below_written t Known c cs zs h taken = by_below c.below refl h
  where
    wr : IsWritten c (all_written c cs zs) (all_state_written (state_of c) cs zs)
    wr = all_written_is c cs zs

    by_below : (bs : List Frame) → c.below ≡ bs → BelowIsGood t Known c.top bs → BelowIsGood t Known (all_written c cs zs).top (all_written c cs zs).below
    by_below [] e g = subst (BelowIsGood t Known (all_written c cs zs).top) (sym e ∙ wr.below) tt
    by_below (b ∷ bs) e g =
        let first : FrameIsGood t Known (all_written c cs zs).top.entry b = subst (λ (es : List ℤ). FrameIsGood t Known es b) wr.entry g.0 in
        let waits : Awaits t (all_written c cs zs).top b = awaits_all_written t c b cs zs g.1 taken in
        subst (BelowIsGood t Known (all_written c cs zs).top) (sym e ∙ wr.below) (first, waits, g.2)

-- on to a point with the values as they are
pub stays_good : (t : TypedProgram) (Known : ℕ → Point → Type 0) (c : Config) (next : Point) → IsGood t Known c → Known c.top.proc next → IsGood t Known (moved_to c next)
stays_good t Known c next g k = record { top = record { keeps = g.top.keeps; known = k; nothing_kept = refl }; below = below_moved t Known c.top c.below next [] g.below }

-- on to a point, with values written that are of their types
pub written_good : (t : TypedProgram) (Known : ℕ → Point → Type 0) (c : Config) (cs : List Column) (zs : List ℤ) (next : Point) → FrameKeeps t c.top.proc (state_of c) → BelowIsGood t Known c.top c.below →
    AreTaken t c.top.proc cs zs → Known c.top.proc next → IsGood t Known (moved_to (all_written c cs zs) next)
written_good t Known c cs zs next k b h n =
    let wr : IsWritten c (all_written c cs zs) (all_state_written (state_of c) cs zs) = all_written_is c cs zs in
    let kept : FrameKeeps t c.top.proc (all_state_written (state_of c) cs zs) = keeps_all_written t c.top.proc (state_of c) cs zs k h in
    let own : FrameKeeps t (all_written c cs zs).top.proc (state_of (all_written c cs zs)) =
    subst (λ (m : ℕ). FrameKeeps t m (state_of (all_written c cs zs))) wr.proc (subst (FrameKeeps t c.top.proc) wr.state kept) in
    record {
      top = record { keeps = own; known = subst (λ (m : ℕ). Known m next) wr.proc n; nothing_kept = refl };
      below = below_moved t Known (all_written c cs zs).top (all_written c cs zs).below next [] (below_written t Known c cs zs b h);
    }
