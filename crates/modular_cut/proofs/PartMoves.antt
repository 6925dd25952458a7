-- What a frame does itself its part does too, and an assertion that fails in the program fails in the part.
use Rattle.std.proofs.Common.{◌≡◌, ℕ, zero, suc, ℤ, pos, Bool, true, false, List, [], ◌∷◌, length, Option, None, Some, slice_get, refl, sym, ap, subst, ◌∙◌, if◌then◌else◌}
use Rattle.std.specs.Prelude.{unsigned_abs}
use Rattle.boogie_tree.specs.declared.tree.Column.{Column}
use Rattle.typed_tree.specs.TypedTree.{TypedInvariant, TypedProcedure, TypedProgram}
use Rattle.typed_tree.specs.Values.{State, value}
use Rattle.boogie_run.specs.BoogiePoints.Points.{Point}
use Rattle.boogie_run.specs.BoogiePoints.Actions as actions
use Rattle.boogie_run.specs.BoogiePoints.Actions.{Action, unseen_action}
use Rattle.boogie_run.specs.Configurations.{Frame, Config, state_of}
use Rattle.boogie_run.specs.Needs.{Below, need_of_column, need_of_action, locals_at}
use Rattle.boogie_run.specs.Steps.{Went, Blocked, Failed, values, all_written, moved_to, passed_state, granted_state, is_true, went_if, left, act}
use Rattle.lowered_graph.specs.LoweredSteps.Moves.{IsNoImport}
use Rattle.lowered_graph.proofs.LoweredSteps.Places.{all_state_written}
use Rattle.lowered_graph.proofs.LoweredRuns.Forward.{IsOwn}
use Rattle.lowered_graph.proofs.LoweredRuns.Taken.{went_if_true, WentWay, went_way}
use Rattle.modular_cut.proofs.SamePoints.{SamePoint, SamePoints, AreAtStart}
use Rattle.modular_cut.proofs.SameActions.{SameStep, check, suppose, demand, write, guess, test, pick, jump, enter, import, leave}
use Rattle.modular_cut.proofs.ChosenGlobals.{DifferIn}
use Rattle.modular_cut.proofs.Fine.{alone, changed, written_changes, written_within, HeldAt, none_held, held_on, held_left}

-- the action neither enters nor leaves a procedure, and is none of a call without body
abbrev pub StaysInside : Action → Type 0
StaysInside actions.Leave = ⊥
StaysInside a = IsOwn a

-- one of several ways, and the same one of the part
record IsSameWay (r : ℕ → ℕ) (ps qs : List Point) (n : ℕ) (p : Point) : Type 0 where
  point : Point
  is : slice_get qs n ≡ Some point
  same : SamePoint r p point
  start : p.part ≡ 0

same_way : (r : ℕ → ℕ) (ps qs : List Point) (n : ℕ) (p : Point) → SamePoints r ps qs → AreAtStart ps → slice_get ps n ≡ Some p → IsSameWay r ps qs n p
same_way r [] qs n p h a e = absurd (cc)
same_way r (x ∷ xs) [] n p h a e = absurd h
same_way r (x ∷ xs) (y ∷ ys) zero p h a e =
    let same : x ≡ p = cc in
    record { point = y; is = refl; same = subst (λ (z : Point). SamePoint r z y) same h.0; start = subst (λ (z : Point). z.part ≡ 0) same a.0 }
same_way r (x ∷ xs) (y ∷ ys) (suc n) p h a e = let w : IsSameWay r xs ys n p = same_way r xs ys n p h.1 a.1 e in record { point = w.point; is = w.is; same = w.same; start = w.start }

same_count : (r : ℕ → ℕ) (ps qs : List Point) → SamePoints r ps qs → length ps ≡ length qs
same_count r [] [] h = refl
same_count r [] (y ∷ ys) h = absurd h
same_count r (x ∷ xs) [] h = absurd h
same_count r (x ∷ xs) (y ∷ ys) h = ap suc (same_count r xs ys h.1)

if_true : {A : Type 0} (b : Bool) (x y : A) → b ≡ true → (if b then x else y) ≡ x
if_true b x y e = ap (λ (c : Bool). if c then x else y) e

module _ (t u : TypedProgram) (q : TypedProcedure) (r : ℕ → ℕ) (globals_are : u.globals ≡ t.globals) where
  -- The action led on in the program, and the same one leads on in the part: with the same values, to points that are the same.
  pub record Acted (c : Config) (p2 : Point) (v : ℤ) (mid : Config) (a2 : Action) : Type 0 where
    pub state : State
    pub point : Point
    pub point2 : Point
    pub same : SamePoint r point point2
    pub is : mid ≡ moved_to (changed c state) point
    pub went : act u (alone c.globals c.top p2) v a2 ≡ Went (moved_to (changed (alone c.globals c.top p2) state) point2)
    pub held : HeldAt t.procs q point (record { globals = state.globals; old = c.top.entry; locals = state.locals })
    pub modified : DifferIn q.modifies c.globals state.globals
    pub plain : IsNoImport a2

  -- with the values as they are
  stayed : (c : Config) (p2 : Point) (v : ℤ) (mid : Config) (a2 : Action) (point point2 : Point) → SamePoint r point point2 → moved_to c point ≡ mid →
      act u (alone c.globals c.top p2) v a2 ≡ Went (moved_to (alone c.globals c.top p2) point2) → HeldAt t.procs q point (state_of c) → IsNoImport a2 → Acted c p2 v mid a2
  stayed c p2 v mid a2 point point2 same is went held plain =
      record { state = state_of c; point = point; point2 = point2; same = same; is = sym is; went = went; held = held; modified = λ m none. refl; plain = plain }

  pub acted : (c : Config) (p2 : Point) (v : ℤ) (mid : Config) (a a2 : Action) → SameStep t.procs q r c.top.point a a2 → StaysInside a → HeldAt t.procs q c.top.point (state_of c) → act t c v a ≡ Went mid →
      Acted c p2 v mid a2
  acted c p2 v mid a a2 (check i j at e p o same goes) own held went =
      let h = went_if_true (is_true (value (state_of c) e)) (moved_to c p) mid (Failed i) (λ x. cc) went in
      stayed c p2 v mid a2 p o same h.same (if_true (is_true (value (state_of c) e)) _ _ h.true_is) (held_on t.procs q c.top.point p (λ s. value s e) (state_of c) goes h.true_is held) tt
  acted c p2 v mid a a2 (suppose e p o same goes) own held went =
      let h = went_if_true (is_true (value (state_of c) e)) (moved_to c p) mid Blocked (λ x. cc) went in
      stayed c p2 v mid a2 p o same h.same (if_true (is_true (value (state_of c) e)) _ _ h.true_is) (held_on t.procs q c.top.point p (λ s. value s e) (state_of c) goes h.true_is held) tt
  acted c p2 v mid a a2 (demand i j at e args p o same goes) own held went =
      let h = went_if_true (is_true (value (passed_state (state_of c) args) e)) (moved_to c p) mid (Failed i) (λ x. cc) went in
      stayed c p2 v mid a2 p o same h.same (if_true (is_true (value (passed_state (state_of c) args) e)) _ _ h.true_is)
      (held_on t.procs q c.top.point p (λ s. value (passed_state s args) e) (state_of c) goes h.true_is held) tt
  acted c p2 v mid a a2 (write cs es p o same goes within) own held went =
      let zs : List ℤ = values (state_of c) es in
      let s : State = all_state_written (state_of c) cs zs in
      let is : moved_to (all_written c cs zs) p ≡ mid = cc in
      record {
        state = s;
        point = p;
        point2 = o;
        same = same;
        is = sym is ∙ ap (λ (x : Config). moved_to x p) (written_changes c cs zs);
        went = ap (λ (x : Config). Went (moved_to x o)) (written_changes (alone c.globals c.top p2) cs zs);
        held = held_left t.procs q c.top.point p _ goes;
        modified = written_within q (state_of c) cs zs within;
        plain = tt;
      }
  acted c p2 v mid a a2 (guess x p o same goes within) own held went =
      let s : State = all_state_written (state_of c) (x ∷ []) (v ∷ []) in
      let is : moved_to (all_written c (x ∷ []) (v ∷ [])) p ≡ mid = cc in
      record {
        state = s;
        point = p;
        point2 = o;
        same = same;
        is = sym is ∙ ap (λ (y : Config). moved_to y p) (written_changes c (x ∷ []) (v ∷ []));
        went = ap (λ (y : Config). Went (moved_to y o)) (written_changes (alone c.globals c.top p2) (x ∷ []) (v ∷ []));
        held = held_left t.procs q c.top.point p _ goes;
        modified = written_within q (state_of c) (x ∷ []) (v ∷ []) (within, tt);
        plain = tt;
      }
  acted c p2 v mid a a2 (test e hit miss hit2 miss2 same same2 start start2) own held went =
      let is : moved_to c (if is_true (value (state_of c) e) then hit else miss) ≡ mid = cc in by_test (is_true (value (state_of c) e)) is refl
    where
      by_test : (b : Bool) → moved_to c (if b then hit else miss) ≡ mid → is_true (value (state_of c) e) ≡ b → Acted c p2 v mid (actions.Test e hit2 miss2)
      by_test true is h =
          stayed c p2 v mid (actions.Test e hit2 miss2) hit hit2 same is (ap (λ (b : Bool). Went (moved_to (alone c.globals c.top p2) (if b then hit2 else miss2))) h) (none_held t.procs q hit (state_of c) start) tt
      by_test false is h =
          stayed c p2 v mid (actions.Test e hit2 miss2) miss miss2 same2 is (ap (λ (b : Bool). Went (moved_to (alone c.globals c.top p2) (if b then hit2 else miss2))) h) (none_held t.procs q miss (state_of c) start2) tt
  acted c p2 v mid a a2 (pick ps qs same start) own held went =
      let h : WentWay (slice_get ps (unsigned_abs v)) c mid = went_way (slice_get ps (unsigned_abs v)) c mid went in
      let w : IsSameWay r ps qs (unsigned_abs v) h.way = same_way r ps qs (unsigned_abs v) h.way same start h.is in
      stayed c p2 v mid (actions.Pick qs) h.way w.point w.same h.same (ap (λ (o : Option Point). went_if o (alone c.globals c.top p2)) w.is) (none_held t.procs q h.way (state_of c) w.start) tt
  acted c p2 v mid a a2 (jump p o same start) own held went =
      let is : moved_to c p ≡ mid = cc in stayed c p2 v mid a2 p o same is refl (none_held t.procs q p (state_of c) start) tt
  acted c p2 v mid a a2 (enter f args k body has o e targets h nx) own held went = absurd own
  acted c p2 v mid a a2 (import f args k o e targets h nx h2 nx2) own held went = absurd (no_import o e own)
    where
      no_import : (o : Option Column) (e : Option TypedInvariant) → StaysInside (unseen_action o e f targets args h nx) → ⊥
      no_import (Some x) e own = own
      no_import None (Some i) own = own
      no_import None None own = own
  acted c p2 v mid a a2 (leave claims_are state_is done) own held went = absurd own

  -- what it takes is the same
  pub need_same : (n : ℕ) (here : Point) (a a2 : Action) → locals_at u n ≡ locals_at t n → SameStep t.procs q r here a a2 → StaysInside a → need_of_action u n a2 ≡ need_of_action t n a
  need_same n here a a2 l (check i j at e p o same goes) own = refl
  need_same n here a a2 l (suppose e p o same goes) own = refl
  need_same n here a a2 l (demand i j at e args p o same goes) own = refl
  need_same n here a a2 l (write cs es p o same goes within) own = refl
  need_same n here a a2 l (guess x p o same goes within) own = λ i. need_of_column (globals_are i) (l i) x
  need_same n here a a2 l (test e hit miss hit2 miss2 same same2 start start2) own = refl
  need_same n here a a2 l (pick ps qs same start) own = ap Below (sym (same_count r ps qs same))
  need_same n here a a2 l (jump p o same start) own = refl
  need_same n here a a2 l (enter f args k body has o e targets h nx) own = absurd own
  need_same n here a a2 l (import f args k o e targets h nx h2 nx2) own = absurd (no_import o e own)
    where
      no_import : (o : Option Column) (e : Option TypedInvariant) → StaysInside (unseen_action o e f targets args h nx) → ⊥
      no_import (Some x) e own = own
      no_import None (Some i) own = own
      no_import None None own = own
  need_same n here a a2 l (leave claims_are state_is done) own = absurd own

  -- ---- failing

  fails_if : (b : Bool) (x y : Config) (i j k : ℕ) → (if b then Went x else Failed i) ≡ Failed k → (if b then Went y else Failed j) ≡ Failed j
  fails_if true x y i j k f = absurd (cc)
  fails_if false x y i j k f = refl

  blocks_if : (b : Bool) (x : Config) (k : ℕ) → (if b then Went x else Blocked) ≡ Failed k → ⊥
  blocks_if true x k f = cc
  blocks_if false x k f = cc

  pub failed : (c : Config) (p2 : Point) (a a2 : Action) (i : ℕ) → SameStep t.procs q r c.top.point a a2 → act t c (pos 0) a ≡ Failed i → (j : ℕ) × (act u (alone c.globals c.top p2) (pos 0) a2 ≡ Failed j)
  failed c p2 a a2 i (check k j at e p o same goes) f = (j, fails_if (is_true (value (state_of c) e)) _ _ k j i f)
  failed c p2 a a2 i (suppose e p o same goes) f = absurd (blocks_if (is_true (value (state_of c) e)) _ i f)
  failed c p2 a a2 i (demand k j at e args p o same goes) f = (j, fails_if (is_true (value (passed_state (state_of c) args) e)) _ _ k j i f)
  failed c p2 a a2 i (write cs es p o same goes within) f = absurd (cc)
  failed c p2 a a2 i (guess x p o same goes within) f = absurd (cc)
  failed c p2 a a2 i (test e hit miss hit2 miss2 same same2 start start2) f = absurd (cc)
  failed c p2 a a2 i (pick ps qs same start) f = absurd (by_way (slice_get ps (unsigned_abs (pos 0))) f)
    where
      by_way : (o : Option Point) → went_if o c ≡ Failed i → ⊥
      by_way None f = cc
      by_way (Some p) f = cc
  failed c p2 a a2 i (jump p o same start) f = absurd (cc)
  failed c p2 a a2 i (enter g args k body has o e targets h nx) f = absurd (cc)
  failed c p2 a a2 i (import g args k o e targets h nx h2 nx2) f = absurd (by_part o e f)
    where
      by_part : (o : Option Column) (e : Option TypedInvariant) → act t c (pos 0) (unseen_action o e g targets args h nx) ≡ Failed i → ⊥
      by_part (Some x) e f = cc
      by_part None (Some y) f = blocks_if (is_true (value (granted_state t c g args) y.cond)) _ i f
      by_part None None f = cc
  failed c p2 a a2 i (leave claims_are state_is done) f = absurd (by_frames c.below f)
    where
      by_frames : (fs : List Frame) → left t c fs ≡ Failed i → ⊥
      by_frames [] f = cc
      by_frames (b ∷ rest) f = cc
