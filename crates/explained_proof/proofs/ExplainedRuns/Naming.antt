-- Which columns of a frame names mean where a clause stands.
use Rattle.std.proofs.Common.{◌≡◌, ◌≢◌, ◌∙◌, inl, inr, ℕ, zero, suc, ◌+◌, Bool, true, false, not, List, [], ◌∷◌, ◌++◌, map, length, filter, Option, None, Some, refl, sym, ap, subst, arith, IsTrue}
use Rattle.std.specs.Prelude.{◌&&◌, if◌then◌else◌, slice_get, option_and_then}
use Rattle.std.specs.List.{list_any, AllByRecursion}
use Rattle.std.specs.Option.{option_map, option_or}
use Rattle.std.specs.Str.{bytes_eq}
use Rattle.std.proofs.lemmas.Bool.{false≢true, or_parts, and_from}
use Rattle.std.proofs.lemmas.Option.{same_Some}
use Rattle.std.proofs.lemmas.Slice.Eq.{bytes_eq-Decides}
use Rattle.nwa_base.specs.Members.{Member}
use Rattle.boogie_tree.specs.declared.tree.Column.{Column}
use Rattle.boogie_tree.specs.declared.tree.Column.TheVariants.{Global, Old, Local}
use Rattle.boogie_tree.specs.declared.tree.VarInfo.{VarInfo}
use Rattle.boogie_tree.specs.Names.{is_spelled}
use Rattle.typed_tree.specs.TypedTree.{TypedProgram}
use Rattle.typed_tree.specs.Scope.{Scope, unless_hidden}
use Rattle.boogie_types.specs.Meanings.{number_from, if_visible, column_of}
use Rattle.boogie_run.specs.Needs.{locals_at}
use Rattle.letter_acts.specs.Frames.{Columns, added, globals_from, old_columns, locals_from, is_global, is_local}
use Rattle.letter_acts.specs.Invariant.{AreDistinct, HasNames}
use Rattle.lowered_graph.specs.LoweredSteps.ProgramFrames.{frame_at}
use Rattle.lowered_graph.proofs.LoweredSteps.FrameColumns.{slice_of_both, global_of_frame}
use Rattle.explained_proof.specs.RowExpressions.Scopes.{ClauseScope, sees, is_seen_local, hides}

-- ---- lists

pub all_at : {X : Type 0} (P : X → Type 0) (xs : List X) (k : ℕ) (x : X) → slice_get xs k ≡ Some x → AllByRecursion P xs → P x
all_at P [] k x e h = absurd (cc)
all_at P (y ∷ ys) zero x e h = subst P (same_Some y x e) h.0
all_at P (y ∷ ys) (suc k) x e h = all_at P ys k x e h.1

none_at : {X : Type 0} (f : X → Bool) (xs : List X) (k : ℕ) (x : X) → list_any f xs ≡ false → slice_get xs k ≡ Some x → f x ≡ false
none_at f [] k x n e = absurd (cc)
none_at f (y ∷ ys) zero x n e = subst (λ (z : _). f z ≡ false) (same_Some y x e) (or_parts (f y) (list_any f ys) n).0
none_at f (y ∷ ys) (suc k) x n e = none_at f ys k x (or_parts (f y) (list_any f ys) n).1 e

behind : {X : Type 0} (xs ys : List X) (n : ℕ) → slice_get (xs ++ ys) (length xs + n) ≡ slice_get ys n
behind [] ys n = let z : 0 + n ≡ n = omega arith in ap (slice_get ys) z
behind (x ∷ xs) ys n =
    let e : suc (length xs) + n ≡ suc (length xs + n) = omega arith in
    ap (slice_get (x ∷ (xs ++ ys))) e ∙ behind xs ys n

-- the names of the members that pass a test differ
not_listed : {X : Type 0} (f : X → List ℕ) (p : X → Bool) (xs : List X) (k : ℕ) (x : X) → slice_get xs k ≡ Some x → p x ≡ true → Member (map f (filter p xs)) (f x)
not_listed f p [] k x e h = absurd (cc)
not_listed f p (y ∷ ys) zero x e h =
    let one : y ≡ x = same_Some y x e in
    by (p y) (ap p one ∙ h) (ap f one)
  where
    by : (b : Bool) → b ≡ true → f y ≡ f x → Member (map f (if b then y ∷ filter p ys else filter p ys)) (f x)
    by true b g = inl g
    by false b g = absurd (false≢true b)
not_listed f p (y ∷ ys) (suc k) x e h = by (p y) (not_listed f p ys k x e h)
  where
    by : (b : Bool) → Member (map f (filter p ys)) (f x) → Member (map f (if b then y ∷ filter p ys else filter p ys)) (f x)
    by true m = inr m
    by false m = m

pub distinct_at : {X : Type 0} (f : X → List ℕ) (p : X → Bool) (xs : List X) → AreDistinct (map f (filter p xs)) → (i j : ℕ) (x y : X) → slice_get xs i ≡ Some x → slice_get xs j ≡ Some y → p x ≡ true → p y ≡ true →
    f x ≡ f y → i ≡ j
distinct_at f p [] d i j x y a b g h e = absurd (cc)
distinct_at f p (z ∷ zs) d zero zero x y a b g h e = refl
distinct_at f p (z ∷ zs) d zero (suc j) x y a b g h e =
    let one : z ≡ x = same_Some z x a in
    by (p z) (ap p one ∙ g) d (subst (Member (map f (filter p zs))) (sym e ∙ ap f (sym one)) (not_listed f p zs j y b h))
  where
    by : (b : Bool) → b ≡ true → AreDistinct (map f (if b then z ∷ filter p zs else filter p zs)) → Member (map f (filter p zs)) (f z) → 0 ≡ suc j
    by true b d m = absurd (d.0 m)
    by false b d m = absurd (false≢true b)
distinct_at f p (z ∷ zs) d (suc i) zero x y a b g h e =
    let one : z ≡ y = same_Some z y b in
    by (p z) (ap p one ∙ h) d (subst (Member (map f (filter p zs))) (e ∙ ap f (sym one)) (not_listed f p zs i x a g))
  where
    by : (b : Bool) → b ≡ true → AreDistinct (map f (if b then z ∷ filter p zs else filter p zs)) → Member (map f (filter p zs)) (f z) → suc i ≡ 0
    by true b d m = absurd (d.0 m)
    by false b d m = absurd (false≢true b)
distinct_at f p (z ∷ zs) d (suc i) (suc j) x y a b g h e = ap suc (distinct_at f p zs (by (p z) d) i j x y a b g h e)
  where
    by : (b : Bool) → AreDistinct (map f (if b then z ∷ filter p zs else filter p zs)) → AreDistinct (map f (filter p zs))
    by true d = d.1
    by false d = d

-- ---- numbers of names

first_named : (k : ℕ) (name : List ℕ) (vs : List VarInfo) (n : ℕ) (v : VarInfo) → slice_get vs n ≡ Some v → v.name ≡ name → ((m : ℕ) (w : VarInfo) → slice_get vs m ≡ Some w → w.name ≡ name → m ≡ n) →
    number_from k name vs ≡ Some (k + n)
first_named k name [] n v e h once = absurd (cc)
first_named k name (w ∷ ws) zero v e h once =
    let same : bytes_eq name w.name ≡ true = (bytes_eq-Decides name w.name).1 (sym h ∙ ap (λ (x : VarInfo). x.name) (sym (same_Some w v e))) in
    let z : k ≡ k + 0 = omega arith in
    ap (λ (b : Bool). if b then Some k else number_from (k + 1) name ws) same ∙ ap Some z
first_named k name (w ∷ ws) (suc n) v e h once = by (bytes_eq name w.name) refl (first_named (k + 1) name ws n v e h (λ m x f g. suc_same m n (once (suc m) x f g)))
  where
    suc_same : (a b : ℕ) → suc a ≡ suc b → a ≡ b
    suc_same a b g = omega arith

    by : (b : Bool) → bytes_eq name w.name ≡ b → number_from (k + 1) name ws ≡ Some (k + 1 + n) → (if b then Some k else number_from (k + 1) name ws) ≡ Some (k + suc n)
    by true b r = let no : 0 ≡ suc n = once 0 w refl (sym ((bytes_eq-Decides name w.name).0 b)) in absurd (omega arith)
    by false b r = let z : k + 1 + n ≡ k + suc n = omega arith in r ∙ ap Some z

none_named : (k : ℕ) (name : List ℕ) (vs : List VarInfo) → ((m : ℕ) (w : VarInfo) → slice_get vs m ≡ Some w → w.name ≡ name → ⊥) → number_from k name vs ≡ None
none_named k name [] none = refl
none_named k name (w ∷ ws) none = by (bytes_eq name w.name) refl (none_named (k + 1) name ws (λ m x f g. none (suc m) x f g))
  where
    by : (b : Bool) → bytes_eq name w.name ≡ b → number_from (k + 1) name ws ≡ None → (if b then Some k else number_from (k + 1) name ws) ≡ None
    by true b r = absurd (none 0 w refl (sym ((bytes_eq-Decides name w.name).0 b)))
    by false b r = r

-- ---- columns of a frame

pub global_back : (t : TypedProgram) (p g : ℕ) (v : VarInfo) → slice_get t.globals g ≡ Some v → slice_get (frame_at t p) g ≡ Some (Global g, v)
global_back t p g v e = let z : 0 + g ≡ g = omega arith in from_here 0 t.globals g e ∙ ap (λ (m : ℕ). Some (Global m, v)) z
  where
    rest : Columns
    rest = old_columns 0 t.globals ++ locals_from 0 (locals_at t p)

    from_here : (k : ℕ) (vs : List VarInfo) (j : ℕ) → slice_get vs j ≡ Some v → slice_get (globals_from k vs ++ rest) j ≡ Some (Global (k + j), v)
    from_here k [] j h = absurd (cc)
    from_here k (w ∷ ws) zero h =
        let one : w ≡ v = same_Some w v h in
        let z : k ≡ k + 0 = omega arith in
        (λ i. Some (Global (z i), one i))
    from_here k (w ∷ ws) (suc j) h = let z : suc k + j ≡ k + suc j = omega arith in from_here (suc k) ws j h ∙ ap (λ (m : ℕ). Some (Global m, v)) z

-- how many columns stand before the locals
abbrev base : TypedProgram → ℕ
base t = length (globals_from 0 t.globals) + length (old_columns 0 t.globals)

pub local_back : (t : TypedProgram) (p n : ℕ) (v : VarInfo) → slice_get (locals_at t p) n ≡ Some v → slice_get (frame_at t p) (base t + n) ≡ Some (Local n, v)
local_back t p n v e =
    let front : Columns = globals_from 0 t.globals in
    let olds : Columns = old_columns 0 t.globals in
    let rest : Columns = locals_from 0 (locals_at t p) in
    let z : base t + n ≡ length front + (length olds + n) = omega arith in
    let y : 0 + n ≡ n = omega arith in
    ap (slice_get (frame_at t p)) z ∙ behind front (olds ++ rest) (length olds + n) ∙ behind olds rest n ∙ from_here 0 (locals_at t p) n e ∙ ap (λ (m : ℕ). Some (Local m, v)) y
  where
    from_here : (k : ℕ) (vs : List VarInfo) (j : ℕ) → slice_get vs j ≡ Some v → slice_get (locals_from k vs) j ≡ Some (Local (k + j), v)
    from_here k [] j h = absurd (cc)
    from_here k (w ∷ ws) zero h =
        let one : w ≡ v = same_Some w v h in
        let z : k ≡ k + 0 = omega arith in
        (λ i. Some (Local (z i), one i))
    from_here k (w ∷ ws) (suc j) h = let z : suc k + j ≡ k + suc j = omega arith in from_here (suc k) ws j h ∙ ap (λ (m : ℕ). Some (Local m, v)) z

-- the column is a local of that number
abbrev IsOf : List VarInfo → ℕ → VarInfo → Type 0
IsOf vs n v = slice_get vs n ≡ Some v

pub local_at : (t : TypedProgram) (p k n : ℕ) (v : VarInfo) → slice_get (frame_at t p) k ≡ Some (Local n, v) → IsOf (locals_at t p) n v
local_at t p k n v e = elim (slice_of_both (globals_from 0 t.globals) (old_columns 0 t.globals ++ locals_from 0 (locals_at t p)) k (Local n, v) e) [
  | inl f ↦ absurd (no_global 0 t.globals k f)
  | inr l ↦ (elim (slice_of_both (old_columns 0 t.globals) (locals_from 0 (locals_at t p)) l.index (Local n, v) l.stands) [
    | inl f ↦ absurd (no_old 0 t.globals l.index f)
    | inr m ↦ from_here 0 (locals_at t p) m.index m.stands refl
  ])
]
  where
    apart : (a b : Column) (x : VarInfo) → ◌≡◌ {A = Option (Column × VarInfo)} (Some (a, x)) (Some (b, v)) → a ≡ b
    apart a b x h = ap (λ (y : Column × VarInfo). y.0) (same_Some {A = Column × VarInfo} (a, x) (b, v) h)

    no_global : (j : ℕ) (vs : List VarInfo) (i : ℕ) → slice_get (globals_from j vs) i ≡ Some (Local n, v) → ⊥
    no_global j [] i h = let no : ⊥ = cc in no
    no_global j (w ∷ ws) zero h = let g : Global j ≡ Local n = apart (Global j) (Local n) w h in let no : ⊥ = cc in no
    no_global j (w ∷ ws) (suc i) h = no_global (suc j) ws i h

    no_added : (b : Bool) (j : ℕ) (w : VarInfo) (cs : Columns) (i : ℕ) → ((i : ℕ) → slice_get cs i ≡ Some (Local n, v) → ⊥) → slice_get (added b (Old j, w) cs) i ≡ Some (Local n, v) → ⊥
    no_added true j w cs zero none h = let g : Old j ≡ Local n = apart (Old j) (Local n) w h in let no : ⊥ = cc in no
    no_added true j w cs (suc i) none h = none i h
    no_added false j w cs i none h = none i h

    no_old : (j : ℕ) (vs : List VarInfo) (i : ℕ) → slice_get (old_columns j vs) i ≡ Some (Local n, v) → ⊥
    no_old j [] i h = let no : ⊥ = cc in no
    no_old j (w ∷ ws) i h = no_added (not w.constant) j w (old_columns (suc j) ws) i (λ m g. no_old (suc j) ws m g) h

    same_local : (a b : ℕ) → Local a ≡ Local b → a ≡ b
    same_local a b h = cc

    numbered : (j : ℕ) (vs : List VarInfo) (i : ℕ) → slice_get (locals_from j vs) i ≡ Some (Local n, v) → (n ≡ j + i) × IsOf vs i v
    numbered j [] i h = absurd (cc)
    numbered j (w ∷ ws) zero h =
        let one : ◌≡◌ {A = Column × VarInfo} (Local j, w) (Local n, v) = same_Some {A = Column × VarInfo} (Local j, w) (Local n, v) h in
        let g : j ≡ n = same_local j n (ap (λ (y : Column × VarInfo). y.0) one) in
        (omega arith, ap (λ (y : Column × VarInfo). Some y.1) one)
    numbered j (w ∷ ws) (suc i) h = let r = numbered (suc j) ws i h in let g : n ≡ suc j + i = r.0 in (omega arith, r.1)

    from_here : (j : ℕ) (vs : List VarInfo) (i : ℕ) → slice_get (locals_from j vs) i ≡ Some (Local n, v) → j ≡ 0 → IsOf vs n v
    from_here j vs i h z = let r = numbered j vs i h in let g : n ≡ j + i = r.0 in let y : i ≡ n = omega arith in subst (λ (m : ℕ). IsOf vs m v) y r.1

-- ---- what names mean

-- The locals of a scope are those that a clause sees, by their numbers; others have no name there.
pub record IsSeen (s : ClauseScope) (own ls : List VarInfo) : Type 0 where
  pub shows : (n : ℕ) (v : VarInfo) → slice_get own n ≡ Some v → sees s n v.name ≡ true → slice_get ls n ≡ Some v
  pub only : (n : ℕ) (w : VarInfo) → slice_get ls n ≡ Some w → w.name ≢ [] → (slice_get own n ≡ Some w) × (sees s n w.name ≡ true)

pub record Means (s : ClauseScope) (c : Scope) : Type 0 where
  pub locals : (k n : ℕ) (v : VarInfo) → slice_get s.frame k ≡ Some (Local n, v) → sees s n v.name ≡ true → column_of c v.name ≡ Some (Local n)
  pub globals : (k g : ℕ) (v : VarInfo) → slice_get s.frame k ≡ Some (Global g, v) → hides s v.name ≡ false → column_of c v.name ≡ Some (Global g)
  pub none : (b : ℕ) (bs : List ℕ) → is_spelled (b ∷ bs) ≡ false → column_of c (b ∷ bs) ≡ None

module _ (t : TypedProgram) (p : ℕ) (s : ClauseScope) (ls : List VarInfo) (old : Bool) (frame : s.frame ≡ frame_at t p) (names : HasNames (frame_at t p)) (seen : IsSeen s (locals_at t p) ls) where
  abbrev place : Scope
  place = record { globals = t.globals; variables = true; locals = ls; old = old }

  abbrev own : List VarInfo
  own = locals_at t p

  spelled : (k : ℕ) (c : Column × VarInfo) → slice_get (frame_at t p) k ≡ Some c → is_spelled c.1.name ≡ true
  spelled k c e = all_at (λ x. IsTrue (is_spelled x.1.name)) (frame_at t p) k c e names.spelled

  no_blank : (name : List ℕ) → is_spelled name ≡ true → name ≢ []
  no_blank name h e = false≢true (sym (ap is_spelled e) ∙ h)

  one_local : (m n : ℕ) (v w : VarInfo) → slice_get own m ≡ Some v → slice_get own n ≡ Some w → v.name ≡ w.name → m ≡ n
  one_local m n v w e f g =
      let h : base t + m ≡ base t + n =
      distinct_at (λ c. c.1.name) is_local (frame_at t p) names.locals (base t + m) (base t + n) (Local m, v) (Local n, w) (local_back t p m v e) (local_back t p n w f) refl refl g in
      omega arith

  one_global : (m n : ℕ) (v w : VarInfo) → slice_get t.globals m ≡ Some v → slice_get t.globals n ≡ Some w → v.name ≡ w.name → m ≡ n
  one_global m n v w e f g = distinct_at (λ c. c.1.name) is_global (frame_at t p) names.globals m n (Global m, v) (Global n, w) (global_back t p m v e) (global_back t p n w f) refl refl g

  local_means : (k n : ℕ) (v : VarInfo) → slice_get (frame_at t p) k ≡ Some (Local n, v) → sees s n v.name ≡ true → column_of place v.name ≡ Some (Local n)
  local_means k n v e h =
      let at : slice_get own n ≡ Some v = local_at t p k n v e in
      let proper : v.name ≢ [] = no_blank v.name (spelled k (Local n, v) e) in
      let z : 0 + n ≡ n = omega arith in
      let number : number_from 0 v.name ls ≡ Some (0 + n) =
      first_named 0 v.name ls n v (seen.shows n v at h) refl (λ m w f g. one_local m n w v (seen.only m w f (λ b. proper (sym g ∙ b))).0 at g) in
      ap (λ (o : Option ℕ). option_or (option_map Local o) (option_and_then (if_visible place) (number_from 0 v.name t.globals))) (number ∙ ap Some z)

  unseen : (g k : ℕ) (v : VarInfo) → slice_get (frame_at t p) k ≡ Some (Global g, v) → hides s v.name ≡ false → number_from 0 v.name ls ≡ None
  unseen g k v e h =
      none_named 0 v.name ls
      (λ m w f n.
      let proper : v.name ≢ [] = no_blank v.name (spelled k (Global g, v) e) in
      let r = seen.only m w f (λ b. proper (sym n ∙ b)) in
      let miss : (bytes_eq w.name v.name && sees s m v.name) ≡ false =
      none_at (is_seen_local s v.name) s.frame (base t + m) (Local m, w) h (ap (λ (x : Columns). slice_get x (base t + m)) frame ∙ local_back t p m w r.0) in
      let hit : (bytes_eq w.name v.name && sees s m v.name) ≡ true =
      and_from (bytes_eq w.name v.name) (sees s m v.name) ((bytes_eq-Decides w.name v.name).1 n) (ap (sees s m) (sym n) ∙ r.1) in
      false≢true (sym miss ∙ hit))

  global_means : (k g : ℕ) (v : VarInfo) → slice_get (frame_at t p) k ≡ Some (Global g, v) → hides s v.name ≡ false → column_of place v.name ≡ Some (Global g)
  global_means k g v e h =
      let at : slice_get t.globals g ≡ Some v = (global_of_frame t p k g v e).1 in
      let z : 0 + g ≡ g = omega arith in
      let number : number_from 0 v.name t.globals ≡ Some (0 + g) = first_named 0 v.name t.globals g v at refl (λ m w f n. one_global m g w v f at n) in
      let visible : if_visible place g ≡ Some (Global g) = ap (λ (o : Option VarInfo). option_map (λ v. Global g) (option_and_then (unless_hidden true) o)) at in
      ap (λ (o : Option ℕ). option_or (option_map Local o) (option_and_then (if_visible place) (number_from 0 v.name t.globals))) (unseen g k v e h)
      ∙ ap (option_and_then (if_visible place)) (number ∙ ap Some z) ∙ visible

  none_means : (b : ℕ) (bs : List ℕ) → is_spelled (b ∷ bs) ≡ false → column_of place (b ∷ bs) ≡ None
  none_means b bs h =
      let local : number_from 0 (b ∷ bs) ls ≡ None = none_named 0 (b ∷ bs) ls (λ m w f n.
      let r = seen.only m w f (λ x. no_cons (sym n ∙ x)) in
      false≢true (sym h ∙ ap is_spelled (sym n) ∙ spelled (base t + m) (Local m, w) (local_back t p m w r.0))) in
      let global : number_from 0 (b ∷ bs) t.globals ≡ None = none_named 0 (b ∷ bs) t.globals (λ m w f n. false≢true (sym h ∙ ap is_spelled (sym n) ∙ spelled m (Global m, w) (global_back t p m w f))) in
      ap (λ (o : Option ℕ). option_or (option_map Local o) (option_and_then (if_visible place) (number_from 0 (b ∷ bs) t.globals))) local ∙ ap (option_and_then (if_visible place)) global
    where
      no_cons : b ∷ bs ≡ [] → ⊥
      no_cons e = let no : ⊥ = cc in no

  pub names_mean : Means s place
  names_mean = record {
    locals = λ k n v e h. local_means k n v (ap (λ (x : Columns). slice_get x k) (sym frame) ∙ e) h;
    globals = λ k g v e h. global_means k g v (ap (λ (x : Columns). slice_get x k) (sym frame) ∙ e) h;
    none = none_means;
  }
