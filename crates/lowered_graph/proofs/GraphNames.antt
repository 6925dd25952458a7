-- The names of procedures and columns differ and are spelled as names.
use Rattle.std.proofs.Common.{◌≡◌, ◌∙◌, ℕ, suc, ◌+◌, Bool, true, false, not, ◌&&◌, ◌||◌, List, [], ◌∷◌, ◌++◌, map, Some, inl, inr, refl, sym, ap, subst, arith, IsTrue}
use Rattle.std.specs.Prelude.{slice_get}
use Rattle.std.specs.List.{AllByRecursion, list_all, list_any}
use Rattle.std.specs.Str.{bytes_eq}
use Rattle.std.proofs.lemmas.Bool.{and_parts, false≢true}
use Rattle.std.proofs.lemmas.Slice.Eq.{bytes_eq-Decides}
use Rattle.boogie_tree.specs.declared.tree.Column.{Column}
use Rattle.boogie_tree.specs.declared.tree.Column.TheVariants.{Old}
use Rattle.boogie_tree.specs.declared.tree.VarInfo.{VarInfo}
use Rattle.boogie_tree.specs.Names as names
use Rattle.typed_tree.specs.TypedTree.{TypedProcedure, TypedProgram}
use Rattle.typed_tree.specs.TypingRules.Rules.{all_differ, keeps_typing}
use Rattle.typed_tree.specs.TypingRules.Shape.{are_names, are_locals, are_modified, is_body_shaped, is_procedure_shaped, has_shape}
use Rattle.typed_tree.specs.TypingRules.Counts.{numbers_fit}
use Rattle.typed_tree.specs.TypingRules.ValidProgram.{has_entry, is_typed, is_valid}
use Rattle.typed_tree.proofs.TypingRules.ValidLaws.{all_member}
use Rattle.nwa_base.specs.Members.{Member}
use Rattle.letter_acts.specs.Frames.{Columns, added, globals_from, old_columns, locals_from, is_global, is_local}
use Rattle.letter_acts.specs.Invariant.{AreDistinct, names_where, HasNames, AreNamed}
use Rattle.boogie_run.specs.Needs.{locals_at, locals_if_any}
use Rattle.lowered_graph.specs.LoweredSteps.ProgramFrames.{frame_at}
use Rattle.lowered_graph.specs.Lowered.{counted_procs, lowered}
use Rattle.lowered_graph.proofs.Lists.{contained, not_both, or_right}
use Rattle.letter_acts.proofs.ListLemmas.{all_append}

-- ---- lists of names

or_left : (a b : Bool) → a ≡ true → (a || b) ≡ true
or_left true b e = refl
or_left false b e = absurd (false≢true e)

any_of : (x : List ℕ) (xs : List (List ℕ)) → Member xs x → list_any (bytes_eq x) xs ≡ true
any_of x [] m = absurd m
any_of x (y ∷ xs) (inl e) = or_left (bytes_eq x y) (list_any (bytes_eq x) xs) ((bytes_eq-Decides x y).1 (sym e))
any_of x (y ∷ xs) (inr m) = or_right (bytes_eq x y) (list_any (bytes_eq x) xs) (any_of x xs m)

differ_so : (xs : List (List ℕ)) → all_differ bytes_eq xs ≡ true → AreDistinct xs
differ_so [] e = tt
differ_so (x ∷ xs) e =
    let parts = and_parts (not (list_any (bytes_eq x) xs)) (all_differ bytes_eq xs) e in
    (λ m. not_both (list_any (bytes_eq x) xs) (any_of x xs m) parts.0, differ_so xs parts.1)

-- differing names, each spelled as one
pub record NamesAreRight (xs : List (List ℕ)) : Type 0 where
  pub differ : AreDistinct xs
  pub spelled : AllByRecursion (λ n. IsTrue (names.is_spelled n)) xs

all_spelled : (xs : List (List ℕ)) → list_all names.is_spelled xs ≡ true → AllByRecursion (λ n. IsTrue (names.is_spelled n)) xs
all_spelled [] e = tt
all_spelled (x ∷ xs) e =
    let parts = and_parts (names.is_spelled x) (list_all names.is_spelled xs) e in
    (parts.0, all_spelled xs parts.1)

names_so : (xs : List (List ℕ)) → are_names xs ≡ true → NamesAreRight xs
names_so xs e =
    let parts = and_parts (list_all names.is_spelled xs) (all_differ bytes_eq xs) e in
    record { differ = differ_so xs parts.1; spelled = all_spelled xs parts.0 }

-- ---- the names of a program

shape_of : (t : TypedProgram) → IsTrue (is_valid t) → has_shape t ≡ true
shape_of t v = (and_parts (has_shape t) (keeps_typing t && has_entry t) (and_parts (is_typed t) (numbers_fit t) v).0).0

global_names : (t : TypedProgram) → IsTrue (is_valid t) → NamesAreRight (map (λ v. v.name) t.globals)
global_names t v =
    names_so (map (λ v. v.name) t.globals)
    (and_parts (are_names (map (λ v. v.name) t.globals)) (are_names (map (λ p. p.name) t.procs) && list_all (is_procedure_shaped t.globals t.procs) t.procs) (shape_of t v)).0

procs_part : (t : TypedProgram) → IsTrue (is_valid t) → (are_names (map (λ p. p.name) t.procs) && list_all (is_procedure_shaped t.globals t.procs) t.procs) ≡ true
procs_part t v = (and_parts (are_names (map (λ v. v.name) t.globals)) (are_names (map (λ p. p.name) t.procs) && list_all (is_procedure_shaped t.globals t.procs) t.procs) (shape_of t v)).1

procedure_names : (t : TypedProgram) → IsTrue (is_valid t) → NamesAreRight (map (λ p. p.name) t.procs)
procedure_names t v = names_so (map (λ p. p.name) t.procs) (and_parts (are_names (map (λ p. p.name) t.procs)) (list_all (is_procedure_shaped t.globals t.procs) t.procs) (procs_part t v)).0

local_names : (t : TypedProgram) → IsTrue (is_valid t) → (n : ℕ) (q : TypedProcedure) → slice_get t.procs n ≡ Some q → NamesAreRight (map (λ v. v.name) (locals_at t n))
local_names t v n q e =
    let shaped : is_procedure_shaped t.globals t.procs q ≡ true =
    all_member (is_procedure_shaped t.globals t.procs) t.procs q (contained t.procs n q e) (and_parts (are_names (map (λ p. p.name) t.procs)) (list_all (is_procedure_shaped t.globals t.procs) t.procs) (procs_part t v)).1 in
    let own : NamesAreRight (map (λ v. v.name) q.locals) =
    names_so (map (λ v. v.name) q.locals) (and_parts (are_names (map (λ v. v.name) q.locals)) (are_locals q && (are_modified t.globals q.modifies && is_body_shaped t.procs q.body)) shaped).0 in
    subst (λ (vs : List VarInfo). NamesAreRight (map (λ v. v.name) vs)) (sym (ap locals_if_any e)) own

-- ---- the names of a frame

locals_no_global : (m : ℕ) (locals : List VarInfo) → names_where is_global (locals_from m locals) ≡ []
locals_no_global m [] = refl
locals_no_global m (l ∷ ls) = locals_no_global (suc m) ls

olds_no_global : (n m : ℕ) (vs locals : List VarInfo) → names_where is_global (old_columns n vs ++ locals_from m locals) ≡ []
olds_no_global n m [] locals = locals_no_global m locals
olds_no_global n m (v ∷ vs) locals = by_test (not v.constant) (olds_no_global (suc n) m vs locals)
  where
    by_test : (b : Bool) → names_where is_global (old_columns (suc n) vs ++ locals_from m locals) ≡ [] → names_where is_global (added b (Old n, v) (old_columns (suc n) vs) ++ locals_from m locals) ≡ []
    by_test true k = k
    by_test false k = k

globals_named : (n : ℕ) (vs : List VarInfo) (rest : Columns) → names_where is_global rest ≡ [] → names_where is_global (globals_from n vs ++ rest) ≡ map (λ v. v.name) vs
globals_named n [] rest e = e
globals_named n (v ∷ vs) rest e = ap (λ (xs : List (List ℕ)). v.name ∷ xs) (globals_named (suc n) vs rest e)

locals_named : (m : ℕ) (locals : List VarInfo) → names_where is_local (locals_from m locals) ≡ map (λ v. v.name) locals
locals_named m [] = refl
locals_named m (l ∷ ls) = ap (λ (xs : List (List ℕ)). l.name ∷ xs) (locals_named (suc m) ls)

olds_no_local : (n : ℕ) (vs : List VarInfo) (rest : Columns) → names_where is_local (old_columns n vs ++ rest) ≡ names_where is_local rest
olds_no_local n [] rest = refl
olds_no_local n (v ∷ vs) rest = by_test (not v.constant) (olds_no_local (suc n) vs rest)
  where
    by_test : (b : Bool) → names_where is_local (old_columns (suc n) vs ++ rest) ≡ names_where is_local rest → names_where is_local (added b (Old n, v) (old_columns (suc n) vs) ++ rest) ≡ names_where is_local rest
    by_test true k = k
    by_test false k = k

globals_no_local : (n : ℕ) (vs : List VarInfo) (rest : Columns) → names_where is_local (globals_from n vs ++ rest) ≡ names_where is_local rest
globals_no_local n [] rest = refl
globals_no_local n (v ∷ vs) rest = globals_no_local (suc n) vs rest

abbrev Spelled : Column × VarInfo → Type 0
Spelled c = IsTrue (names.is_spelled c.1.name)

globals_spelled : (n : ℕ) (vs : List VarInfo) → AllByRecursion (λ x. IsTrue (names.is_spelled x)) (map (λ v. v.name) vs) → AllByRecursion Spelled (globals_from n vs)
globals_spelled n [] h = tt
globals_spelled n (v ∷ vs) h = (h.0, globals_spelled (suc n) vs h.1)

olds_spelled : (n : ℕ) (vs : List VarInfo) → AllByRecursion (λ x. IsTrue (names.is_spelled x)) (map (λ v. v.name) vs) → AllByRecursion Spelled (old_columns n vs)
olds_spelled n [] h = tt
olds_spelled n (v ∷ vs) h = by_test (not v.constant) (olds_spelled (suc n) vs h.1)
  where
    by_test : (b : Bool) → AllByRecursion Spelled (old_columns (suc n) vs) → AllByRecursion Spelled (added b (Old n, v) (old_columns (suc n) vs))
    by_test true k = (h.0, k)
    by_test false k = k

locals_spelled : (n : ℕ) (vs : List VarInfo) → AllByRecursion (λ x. IsTrue (names.is_spelled x)) (map (λ v. v.name) vs) → AllByRecursion Spelled (locals_from n vs)
locals_spelled n [] h = tt
locals_spelled n (v ∷ vs) h = (h.0, locals_spelled (suc n) vs h.1)

has_names : (t : TypedProgram) → IsTrue (is_valid t) → (n : ℕ) (q : TypedProcedure) → slice_get t.procs n ≡ Some q → HasNames (frame_at t n)
has_names t v n q e =
    let globals : NamesAreRight (map (λ v. v.name) t.globals) = global_names t v in
    let locals : NamesAreRight (map (λ v. v.name) (locals_at t n)) = local_names t v n q e in
    let front : Columns = globals_from 0 t.globals in
    let olds : Columns = old_columns 0 t.globals in
    let rest : Columns = locals_from 0 (locals_at t n) in
    let global_is : names_where is_global (frame_at t n) ≡ map (λ v. v.name) t.globals = globals_named 0 t.globals (olds ++ rest) (olds_no_global 0 0 t.globals (locals_at t n)) in
    let local_is : names_where is_local (frame_at t n) ≡ map (λ v. v.name) (locals_at t n) = globals_no_local 0 t.globals (olds ++ rest) ∙ olds_no_local 0 t.globals rest ∙ locals_named 0 (locals_at t n) in
    record {
      globals = subst (λ (xs : List (List ℕ)). AreDistinct xs) (sym global_is) globals.differ;
      locals = subst (λ (xs : List (List ℕ)). AreDistinct xs) (sym local_is) locals.differ;
      spelled = all_append Spelled front (olds ++ rest) (globals_spelled 0 t.globals globals.spelled) (all_append Spelled olds rest (olds_spelled 0 t.globals globals.spelled) (locals_spelled 0 (locals_at t n) locals.spelled));
    }

frames_named : (t : TypedProgram) → IsTrue (is_valid t) → (k : ℕ) (qs : List TypedProcedure) → ((i : ℕ) (q : TypedProcedure) → slice_get qs i ≡ Some q → slice_get t.procs (k + i) ≡ Some q) →
    AllByRecursion HasNames (map (λ q. frame_at t q.0) (counted_procs k qs))
frames_named t v k [] h = tt
frames_named t v k (q ∷ qs) h =
    let here : k + 0 ≡ k = omega arith in (
      has_names t v k q (subst (λ (m : ℕ). slice_get t.procs m ≡ Some q) here (h 0 q refl)),
      frames_named t v (suc k) qs (λ i r e. subst (λ (m : ℕ). slice_get t.procs m ≡ Some r) (let s : k + suc i ≡ suc k + i = omega arith in s) (h (suc i) r e)),
    )

pub are_named : (t : TypedProgram) → IsTrue (is_valid t) → AreNamed (lowered t)
are_named t v =
    let procs : NamesAreRight (map (λ p. p.name) t.procs) = procedure_names t v in
    record {
      differ = procs.differ;
      spelled = procs.spelled;
      columns = frames_named t v 0 t.procs (λ i q e. subst (λ (m : ℕ). slice_get t.procs m ≡ Some q) (let z : i ≡ 0 + i = omega arith in z) e);
    }
