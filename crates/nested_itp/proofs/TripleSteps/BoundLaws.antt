-- The rows that bound columns.
use Rattle.std.proofs.Common.{◌≡◌, ◌≢◌, ◌∙◌, ℕ, ◌+◌, ◌<◌, ◌≤◌, Bool, true, false, cond, List, [], ◌∷◌, ◌++◌, length, drop, get_or, append_assoc, refl, sym, ap, subst, arith}
use Rattle.std.specs.Prelude.{filter, nat_eq, not, if◌then◌else◌}
use Rattle.std.proofs.lemmas.Bool.{eqb-true}
use Rattle.std.proofs.lemmas.List.{append-nil, drop_more, drop_all}
use Rattle.std.proofs.lemmas.List.Filters.{length-filter_both}
use Rattle.boogie_tree.specs.declared.tree.VarInfo.{VarInfo}
use Rattle.boogie_tree.specs.declared.tree.Column.{Column}
use Rattle.boogie_tree.specs.declared.tree.Column.TheVariants.{Global, Old, Local}
use Rattle.nwa_base.specs.declared.letters.Letter.{Letter}
use Rattle.letter_acts.specs.Frames.{Columns, is_local}
use Rattle.letter_acts.specs.Invariant.{Graph}
use Rattle.letter_acts.specs.FrameRows.Rows.{bounds, types_at}
use Rattle.letter_acts.specs.FrameRows.Frames.{is_old}
use Rattle.farkas_check.specs.Trees.{Tree}
use Rattle.nested_itp.specs.NestedPredicates.Walking.{is_bool, is_bool_at}
use Rattle.nested_itp.proofs.NestedPredicates.StampCounts.{types_counted, types_counted_at}
use Rattle.nested_itp.specs.NestedRefutations.Refutations.{Role, View}
use Rattle.nested_itp.specs.NestedRefutations.Numbers.{spares, branch_rows, bounds_in, before_bounds, callee_bounds}
use Rattle.nested_itp.specs.declared.triple_steps.sections.Section.{Section}
use Rattle.nested_itp.specs.TripleSteps.Sections.{section_roles, roles_in, AddsNoClaim, AddsRoles}
use Rattle.nested_itp.proofs.TripleSteps.RoleLaws.{roles_pushed, adds_more}

-- no more are chosen than there are
pub few_chosen : {X : Type 0} (p : X → Bool) (xs : List X) → length (filter p xs) ≤ length xs
few_chosen p xs = let e = length-filter_both p (λ x. not (p x)) (λ x. refl) xs in omega (arith, e)

pub few_bounds : (p : (Column × VarInfo) → Bool) (frame : Columns) → bounds_in (filter p frame) ≤ length frame + length frame
few_bounds p frame =
    let t : bounds_in (filter p frame) ≡ length (filter is_bool (filter p frame)) + length (filter is_bool (filter p frame)) = types_counted 0 (filter p frame) in
    let b = few_chosen is_bool (filter p frame) in
    let l = few_chosen p frame in
    omega (arith, t, b, l)

pub bounds_twice : (frame : Columns) (b n : ℕ) → b ≡ length (filter is_bool frame) → n ≡ b + b → n ≡ bounds_in frame
bounds_twice frame b n e f = let t : bounds_in frame ≡ length (filter is_bool frame) + length (filter is_bool frame) = types_counted 0 frame in omega (arith, e, f, t)

pub bounds_twice_at : (frame : Columns) (columns : List ℕ) (b n : ℕ) → b ≡ length (filter (is_bool_at frame) columns) → n ≡ b + b → n ≡ length (bounds 0 (types_at frame columns))
bounds_twice_at frame columns b n e f =
    let t : length (bounds 0 (types_at frame columns)) ≡ length (filter (is_bool_at frame) columns) + length (filter (is_bool_at frame) columns) = types_counted_at 0 frame columns in omega (arith, e, f, t)

pub before_first : (frame : Columns) (number count : ℕ) → number ≡ 1 → count ≡ bounds_in frame → branch_rows 0 count ≡ before_bounds number frame
before_first frame number count e f = ap (branch_rows 0) f ∙ ap (λ (n : ℕ). before_bounds n frame) (sym e)

pub before_other : (frame : Columns) (number count : ℕ) → number ≢ 1 → count ≡ bounds_in frame → spares count ≡ before_bounds number frame
before_other frame number count n f = ap spares f ∙ by_test (nat_eq number 1) refl
  where
    by_test : (b : Bool) → nat_eq number 1 ≡ b → spares (bounds_in frame) ≡ cond b (branch_rows 0 (bounds_in frame)) (spares (bounds_in frame))
    by_test true e = absurd (n (eqb-true number 1 e))
    by_test false e = refl

-- ---- a callee's bounds

abbrev chosen : Bool → Bool → Bool → List Role → List Role → List Role → List Role → List Role
chosen b l o none local old other = if not b then none else (if l then local else (if o then old else other))

abbrev Adds : List Section → List Section → ℕ → ℕ → ℕ → ℕ → (Column × VarInfo) → Type 0
Adds old new local next_local before next_old c =
    (g : Graph) (w : List Letter) (t : Tree) (v : View) (rest : Columns) →
    roles_in g w t v new ++ callee_bounds next_local next_old rest ≡ roles_in g w t v old ++ callee_bounds local before (c ∷ rest)

-- of any other, by what it is
pub bound_one : (old new : List Section) (s : Section) (local next_local before next_old : ℕ) (c : Column × VarInfo) (roles : List Role) → new ≡ old ++ s ∷ [] → is_bool c ≡ true →
    ((g : Graph) (w : List Letter) (t : Tree) (v : View) → section_roles g w t v s ≡ roles) →
    ((rest : Columns) → roles ++ callee_bounds next_local next_old rest ≡ chosen true (is_local c) (is_old c) (callee_bounds local before rest)
    (branch_rows local 2 ++ callee_bounds (local + 2) before rest) (branch_rows before 2 ++ callee_bounds local (before + 2) rest) (spares 2 ++ callee_bounds local before rest)) →
    Adds old new local next_local before next_old c
bound_one old new s local next_local before next_old c roles e f h k =
    λ g w t v rest.
    ap (λ (l : List Role). l ++ callee_bounds next_local next_old rest) (roles_pushed g w t v old new s e ∙ ap (λ (l : List Role). roles_in g w t v old ++ l) (h g w t v)) ∙
    append_assoc (roles_in g w t v old) roles (callee_bounds next_local next_old rest) ∙
    ap (λ (l : List Role). roles_in g w t v old ++ l) (k rest) ∙
    ap (λ (b : Bool). roles_in g w t v old ++
    chosen b (is_local c) (is_old c) (callee_bounds local before rest) (branch_rows local 2 ++ callee_bounds (local + 2) before rest) (branch_rows before 2 ++ callee_bounds local (before + 2) rest)
    (spares 2 ++ callee_bounds local before rest)) (sym f)

pub bound_local : (old new : List Section) (s : Section) (local next_local before : ℕ) (c : Column × VarInfo) (n : ℕ) → new ≡ old ++ s ∷ [] → is_bool c ≡ true → c.0 ≡ Local n →
    ((g : Graph) (w : List Letter) (t : Tree) (v : View) → section_roles g w t v s ≡ branch_rows local 2) → next_local ≡ local + 2 → Adds old new local next_local before before c
bound_local old new s local next_local before c n e f k h m =
    bound_one old new s local next_local before before c (branch_rows local 2) e f h
    (λ rest. ap (λ (x : ℕ). branch_rows local 2 ++ callee_bounds x before rest) m ∙
    ap (λ (x : Column). chosen true (is_local (x, c.1)) (is_old (x, c.1)) (callee_bounds local before rest)
    (branch_rows local 2 ++ callee_bounds (local + 2) before rest) (branch_rows before 2 ++ callee_bounds local (before + 2) rest) (spares 2 ++ callee_bounds local before rest)) (sym k))

pub bound_old : (old new : List Section) (s : Section) (local before next_old : ℕ) (c : Column × VarInfo) (n : ℕ) → new ≡ old ++ s ∷ [] → is_bool c ≡ true → c.0 ≡ Old n →
    ((g : Graph) (w : List Letter) (t : Tree) (v : View) → section_roles g w t v s ≡ branch_rows before 2) → next_old ≡ before + 2 → Adds old new local local before next_old c
bound_old old new s local before next_old c n e f k h m =
    bound_one old new s local local before next_old c (branch_rows before 2) e f h
    (λ rest. ap (λ (x : ℕ). branch_rows before 2 ++ callee_bounds local x rest) m ∙
    ap (λ (x : Column). chosen true (is_local (x, c.1)) (is_old (x, c.1)) (callee_bounds local before rest)
    (branch_rows local 2 ++ callee_bounds (local + 2) before rest) (branch_rows before 2 ++ callee_bounds local (before + 2) rest) (spares 2 ++ callee_bounds local before rest)) (sym k))

pub bound_global : (old new : List Section) (s : Section) (local before : ℕ) (c : Column × VarInfo) (n : ℕ) → new ≡ old ++ s ∷ [] → is_bool c ≡ true → c.0 ≡ Global n →
    ((g : Graph) (w : List Letter) (t : Tree) (v : View) → section_roles g w t v s ≡ spares 2) → Adds old new local local before before c
bound_global old new s local before c n e f k h =
    bound_one old new s local local before before c (spares 2) e f h
    (λ rest.
    ap (λ (x : Column). chosen true (is_local (x, c.1)) (is_old (x, c.1)) (callee_bounds local before rest)
    (branch_rows local 2 ++ callee_bounds (local + 2) before rest) (branch_rows before 2 ++ callee_bounds local (before + 2) rest) (spares 2 ++ callee_bounds local before rest)) (sym k))

-- so many columns are read
pub record BoundsRead (start : List Section) (local old : ℕ) (callee : Columns) (i : ℕ) (now : List Section) (next_local next_old : ℕ) : Type 0 where
  pub roles : (g : Graph) (w : List Letter) (t : Tree) (v : View) →
      roles_in g w t v now ++ callee_bounds next_local next_old (drop i callee) ≡ roles_in g w t v start ++ callee_bounds local old callee
  pub plain : AddsNoClaim start now

pub bounds_next : (start now new : List Section) (local old : ℕ) (callee : Columns) (i : ℕ) (d : Column × VarInfo) (l o next_local next_old : ℕ) → i < length callee →
    BoundsRead start local old callee i now l o →
    ((g : Graph) (w : List Letter) (t : Tree) (v : View) (rest : Columns) → roles_in g w t v new ++ callee_bounds next_local next_old rest ≡ roles_in g w t v now ++ callee_bounds l o (get_or callee i d ∷ rest)) →
    AddsNoClaim now new → BoundsRead start local old callee (i + 1) new next_local next_old
bounds_next start now new local old callee i d l o next_local next_old k h a p = record {
  roles = λ g w t v.
      a g w t v (drop (i + 1) callee) ∙
      subst (λ (cs : Columns). roles_in g w t v now ++ callee_bounds l o cs ≡ roles_in g w t v start ++ callee_bounds local old callee) (drop_more callee i d k) (h.roles g w t v);
  plain = adds_more start now new h.plain p;
}

pub bounds_done : (start now : List Section) (local old : ℕ) (callee : Columns) (i l o : ℕ) → length callee ≤ i → BoundsRead start local old callee i now l o → AddsRoles start now (callee_bounds local old callee)
bounds_done start now local old callee i l o k h = record {
  plain = h.plain;
  roles = λ g w t v.
      sym (append-nil (roles_in g w t v now)) ∙
      subst (λ (cs : Columns). roles_in g w t v now ++ callee_bounds l o cs ≡ roles_in g w t v start ++ callee_bounds local old callee) (drop_all i callee k) (h.roles g w t v);
}
