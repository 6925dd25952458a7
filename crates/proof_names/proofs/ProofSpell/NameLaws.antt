-- Names: no two columns of a frame and no two procedures are named alike, and each name is in the grammar.
use Rattle.std.proofs.Common.{◌≡◌, ◌∙◌, ◌⊎◌, ℕ, zero, suc, ◌+◌, ◌^◌, ◌<◌, Bool, true, false, not, cond, List, [], ◌∷◌, ◌++◌, length, Option, None, Some, refl, sym, ap, subst, inl, inr, arith}
use Rattle.std.specs.Prelude.{map, slice_get, bytes_eq, position, unwrap_or, IsTrue}
use Rattle.std.specs.List.{AllByRecursion, prefix_len}
use Rattle.std.specs.Option.{option_and_then}
use Rattle.std.proofs.lemmas.Bool.{lt-ltb, false≢true}
use Rattle.std.proofs.lemmas.List.{append-nil}
use Rattle.std.proofs.lemmas.Slice.Eq.{bytes_eq-Decides}
use Rattle.boogie_tree.specs.declared.tree.Column.{Column}
use Rattle.boogie_tree.specs.declared.tree.Column.TheVariants.{Global, Old, Local}
use Rattle.boogie_tree.specs.declared.tree.VarInfo.{VarInfo}
use Rattle.boogie_tree.specs.Names.{is_spelled}
use Rattle.nwa_base.specs.Members.{Member}
use Rattle.letter_acts.specs.Frames.{Columns, added, globals_from, old_columns, locals_from, is_global, is_local, IsFrame}
use Rattle.letter_acts.specs.Acts.{frame_of}
use Rattle.letter_acts.specs.Invariant.{Graph, alphabet_of, AreDistinct, names_where, HasNames}
use Rattle.letter_acts.specs.Kept.{Keeps}
use Rattle.triple_rows.proofs.ListLaws.{within, all_at}
use Rattle.proof_form.specs.Names.{is_column}
use Rattle.proof_names.specs.Numbers.{if_below}
use Rattle.proof_names.specs.Columns.{mark, column_text, column_named, is_some_entry, with_body, procedure_named}
use Rattle.proof_names.specs.ProofSpell.Nodes.{IsReadable}

-- ---- the place of a text among texts that differ

member_map : {X : Type 0} (f : X → List ℕ) (xs : List X) (k : ℕ) (x : X) → slice_get xs k ≡ Some x → Member (map f xs) (f x)
member_map f [] k x e = absurd (cc)
member_map f (y ∷ xs) zero x e = let h : y ≡ x = cc in inl (ap f h)
member_map f (y ∷ xs) (suc k) x e = inr (member_map f xs k x e)

first_len : (b : Bool) (n k : ℕ) → b ≡ false → n ≡ k → cond (not b) (1 + n) 0 ≡ suc k
first_len true n k h e = absurd (false≢true (sym h))
first_len false n k h e = omega arith

differ_test : (s t : List ℕ) → (s ≡ t → ⊥) → bytes_eq s t ≡ false
differ_test s t h = by_test (bytes_eq s t) refl
  where
    by_test : (b : Bool) → bytes_eq s t ≡ b → bytes_eq s t ≡ false
    by_test true e = absurd (h ((bytes_eq-Decides s t).0 e))
    by_test false e = e

before_it : {X : Type 0} (f : X → List ℕ) (xs : List X) (k : ℕ) (x : X) → AreDistinct (map f xs) → slice_get xs k ≡ Some x →
    prefix_len (λ y. not (bytes_eq (f y) (f x))) xs ≡ k
before_it f [] k x d e = absurd (cc)
before_it f (y ∷ xs) zero x d e =
    let h : y ≡ x = cc in
    ap (λ (b : Bool). cond (not b) (1 + prefix_len (λ z. not (bytes_eq (f z) (f x))) xs) 0) ((bytes_eq-Decides (f y) (f x)).1 (ap f h))
before_it f (y ∷ xs) (suc k) x d e =
    first_len (bytes_eq (f y) (f x)) (prefix_len (λ z. not (bytes_eq (f z) (f x))) xs) k
    (differ_test (f y) (f x) (λ s. d.0 (subst (λ (t : List ℕ). Member (map f xs) t) (sym s) (member_map f xs k x e)))) (before_it f xs k x d.1 e)

pub position_is : {X : Type 0} (f : X → List ℕ) (xs : List X) (k : ℕ) (x : X) → AreDistinct (map f xs) → slice_get xs k ≡ Some x →
    position (λ y. bytes_eq (f y) (f x)) xs ≡ Some k
position_is f xs k x d e =
    let l = within xs k x e in
    rw (before_it f xs k x d e, lt-ltb k (length xs) l) refl

-- ---- lists that differ

not_in_joined : {X : Type 0} (xs ys : List X) (x : X) → (Member xs x → ⊥) → (Member ys x → ⊥) → Member (xs ++ ys) x → ⊥
not_in_joined [] ys x a b m = b m
not_in_joined (z ∷ xs) ys x a b (inl e) = a (inl e)
not_in_joined (z ∷ xs) ys x a b (inr m) = not_in_joined xs ys x (λ n. a (inr n)) b m

differ_joined : (xs ys : List (List ℕ)) → AreDistinct xs → AreDistinct ys → ((x : List ℕ) → Member xs x → Member ys x → ⊥) → AreDistinct (xs ++ ys)
differ_joined [] ys a b h = b
differ_joined (x ∷ xs) ys a b h =
    (not_in_joined xs ys x a.0 (λ m. h x (inl refl) m), differ_joined xs ys a.1 b (λ y m n. h y (inr m) n))

map_joined : {X Y : Type 0} (f : X → Y) (xs ys : List X) → map f (xs ++ ys) ≡ map f xs ++ map f ys
map_joined f [] ys = refl
map_joined f (x ∷ xs) ys = ap (λ l. f x ∷ l) (map_joined f xs ys)

-- ---- columns

abbrev info_names : List VarInfo → List (List ℕ)
info_names vs = map (λ v. v.name) vs

abbrev first_of_text : List ℕ → ℕ
first_of_text [] = 0
first_of_text (a ∷ rest) = a

-- the columns of a frame are named after its constants and globals, and after its locals

global_member : (n : ℕ) (vs : List VarInfo) (t : List ℕ) → Member (map column_text (globals_from n vs)) (103 ∷ 58 ∷ t) → Member (info_names vs) t
global_member n [] t m = m
global_member n (v ∷ vs) t (inl e) = inl (cc)
global_member n (v ∷ vs) t (inr m) = inr (global_member (suc n) vs t m)

local_member : (n : ℕ) (vs : List VarInfo) (t : List ℕ) → Member (map column_text (locals_from n vs)) (108 ∷ 58 ∷ t) → Member (info_names vs) t
local_member n [] t m = m
local_member n (v ∷ vs) t (inl e) = inl (cc)
local_member n (v ∷ vs) t (inr m) = inr (local_member (suc n) vs t m)

old_member : (n : ℕ) (vs : List VarInfo) (t : List ℕ) → Member (map column_text (old_columns n vs)) (111 ∷ 58 ∷ t) → Member (info_names vs) t
old_member n [] t m = m
old_member n (v ∷ vs) t m = by_test (not v.constant) m (λ k. old_member (suc n) vs t k)
  where
    by_test : (b : Bool) → Member (map column_text (added b (Old n, v) (old_columns (suc n) vs))) (111 ∷ 58 ∷ t) →
        (Member (map column_text (old_columns (suc n) vs)) (111 ∷ 58 ∷ t) → Member (info_names vs) t) → Member (info_names (v ∷ vs)) t
    by_test true (inl e) h = inl (cc)
    by_test true (inr k) h = inr (h k)
    by_test false k h = inr (h k)

globals_differ : (n : ℕ) (vs : List VarInfo) → AreDistinct (info_names vs) → AreDistinct (map column_text (globals_from n vs))
globals_differ n [] d = tt
globals_differ n (v ∷ vs) d = (λ m. d.0 (global_member (suc n) vs v.name m), globals_differ (suc n) vs d.1)

locals_differ : (n : ℕ) (vs : List VarInfo) → AreDistinct (info_names vs) → AreDistinct (map column_text (locals_from n vs))
locals_differ n [] d = tt
locals_differ n (v ∷ vs) d = (λ m. d.0 (local_member (suc n) vs v.name m), locals_differ (suc n) vs d.1)

olds_differ : (n : ℕ) (vs : List VarInfo) → AreDistinct (info_names vs) → AreDistinct (map column_text (old_columns n vs))
olds_differ n [] d = tt
olds_differ n (v ∷ vs) d = by_test (not v.constant) (λ m. d.0 (old_member (suc n) vs v.name m)) (olds_differ (suc n) vs d.1)
  where
    by_test : (b : Bool) → (Member (map column_text (old_columns (suc n) vs)) (111 ∷ 58 ∷ v.name) → ⊥) → AreDistinct (map column_text (old_columns (suc n) vs)) →
        AreDistinct (map column_text (added b (Old n, v) (old_columns (suc n) vs)))
    by_test true h k = (h, k)
    by_test false h k = k

global_mark : (n : ℕ) (vs : List VarInfo) (t : List ℕ) → Member (map column_text (globals_from n vs)) t → first_of_text t ≡ 103
global_mark n [] t m = absurd m
global_mark n (v ∷ vs) t (inl e) = sym (ap first_of_text e)
global_mark n (v ∷ vs) t (inr m) = global_mark (suc n) vs t m

local_mark : (n : ℕ) (vs : List VarInfo) (t : List ℕ) → Member (map column_text (locals_from n vs)) t → first_of_text t ≡ 108
local_mark n [] t m = absurd m
local_mark n (v ∷ vs) t (inl e) = sym (ap first_of_text e)
local_mark n (v ∷ vs) t (inr m) = local_mark (suc n) vs t m

old_mark : (n : ℕ) (vs : List VarInfo) (t : List ℕ) → Member (map column_text (old_columns n vs)) t → first_of_text t ≡ 111
old_mark n [] t m = absurd m
old_mark n (v ∷ vs) t m = by_test (not v.constant) m (λ k. old_mark (suc n) vs t k)
  where
    by_test : (b : Bool) → Member (map column_text (added b (Old n, v) (old_columns (suc n) vs))) t → (Member (map column_text (old_columns (suc n) vs)) t → first_of_text t ≡ 111) →
        first_of_text t ≡ 111
    by_test true (inl e) h = sym (ap first_of_text e)
    by_test true (inr k) h = h k
    by_test false k h = h k

-- the names of globals and of locals in a frame

globals_named : (n : ℕ) (vs : List VarInfo) (rest : Columns) → names_where is_global (globals_from n vs ++ rest) ≡ info_names vs ++ names_where is_global rest
globals_named n [] rest = refl
globals_named n (v ∷ vs) rest = ap (λ l. v.name ∷ l) (globals_named (suc n) vs rest)

no_locals : (n : ℕ) (vs : List VarInfo) (rest : Columns) → names_where is_local (globals_from n vs ++ rest) ≡ names_where is_local rest
no_locals n [] rest = refl
no_locals n (v ∷ vs) rest = no_locals (suc n) vs rest

olds_skipped : (test : Column × VarInfo → Bool) → ((n : ℕ) (v : VarInfo) → test (Old n, v) ≡ false) → (n : ℕ) (vs : List VarInfo) (rest : Columns) →
    names_where test (old_columns n vs ++ rest) ≡ names_where test rest
olds_skipped test none n [] rest = refl
olds_skipped test none n (v ∷ vs) rest = by_test (not v.constant) (olds_skipped test none (suc n) vs rest)
  where
    by_test : (b : Bool) → names_where test (old_columns (suc n) vs ++ rest) ≡ names_where test rest →
        names_where test (added b (Old n, v) (old_columns (suc n) vs) ++ rest) ≡ names_where test rest
    by_test true h = rw (none n v) h
    by_test false h = h

locals_named : (n : ℕ) (vs : List VarInfo) → names_where is_local (locals_from n vs) ≡ info_names vs
locals_named n [] = refl
locals_named n (v ∷ vs) = ap (λ l. v.name ∷ l) (locals_named (suc n) vs)

no_globals : (n : ℕ) (vs : List VarInfo) → names_where is_global (locals_from n vs) ≡ []
no_globals n [] = refl
no_globals n (v ∷ vs) = no_globals (suc n) vs

differ_parts : (gs ls : List VarInfo) → AreDistinct (names_where is_global (globals_from 0 gs ++ (old_columns 0 gs ++ locals_from 0 ls))) →
    AreDistinct (names_where is_local (globals_from 0 gs ++ (old_columns 0 gs ++ locals_from 0 ls))) →
    AreDistinct (map column_text (globals_from 0 gs ++ (old_columns 0 gs ++ locals_from 0 ls)))
differ_parts gs ls a b =
    let g : names_where is_global (globals_from 0 gs ++ (old_columns 0 gs ++ locals_from 0 ls)) ≡ info_names gs =
    globals_named 0 gs (old_columns 0 gs ++ locals_from 0 ls) ∙
    ap (λ l. info_names gs ++ l) (olds_skipped is_global (λ n v. refl) 0 gs (locals_from 0 ls) ∙ no_globals 0 ls) ∙ append-nil (info_names gs) in
    let l : names_where is_local (globals_from 0 gs ++ (old_columns 0 gs ++ locals_from 0 ls)) ≡ info_names ls =
    no_locals 0 gs (old_columns 0 gs ++ locals_from 0 ls) ∙ olds_skipped is_local (λ n v. refl) 0 gs (locals_from 0 ls) ∙ locals_named 0 ls in
    let dg : AreDistinct (info_names gs) = subst (λ (x : List (List ℕ)). AreDistinct x) g a in
    let dl : AreDistinct (info_names ls) = subst (λ (x : List (List ℕ)). AreDistinct x) l b in
    let rest : AreDistinct (map column_text (old_columns 0 gs ++ locals_from 0 ls)) =
    subst (λ (x : List (List ℕ)). AreDistinct x) (sym (map_joined column_text (old_columns 0 gs) (locals_from 0 ls)))
    (differ_joined (map column_text (old_columns 0 gs)) (map column_text (locals_from 0 ls)) (olds_differ 0 gs dg) (locals_differ 0 ls dl)
    (λ t m n. let p = old_mark 0 gs t m in let q = local_mark 0 ls t n in omega (arith, p, q))) in
    subst (λ (x : List (List ℕ)). AreDistinct x) (sym (map_joined column_text (globals_from 0 gs) (old_columns 0 gs ++ locals_from 0 ls)))
    (differ_joined (map column_text (globals_from 0 gs)) (map column_text (old_columns 0 gs ++ locals_from 0 ls)) (globals_differ 0 gs dg) rest
    (λ t m n. let p = global_mark 0 gs t m in let q = other_mark t (subst (λ (x : List (List ℕ)). Member x t) (map_joined column_text (old_columns 0 gs) (locals_from 0 ls)) n) in
    elim q [ inl e ↦ omega (arith, p, e) | inr e ↦ omega (arith, p, e) ]))
  where
    either : (xs ys : List (List ℕ)) (t : List ℕ) → Member (xs ++ ys) t → Member xs t ⊎ Member ys t
    either [] ys t m = inr m
    either (x ∷ xs) ys t (inl e) = inl (inl e)
    either (x ∷ xs) ys t (inr m) = elim (either xs ys t m) [ inl k ↦ inl (inr k) | inr k ↦ inr k ]

    other_mark : (t : List ℕ) → Member (map column_text (old_columns 0 gs) ++ map column_text (locals_from 0 ls)) t → (first_of_text t ≡ 111) ⊎ (first_of_text t ≡ 108)
    other_mark t m = elim (either (map column_text (old_columns 0 gs)) (map column_text (locals_from 0 ls)) t m) [
      | inl k ↦ inl (old_mark 0 gs t k)
      | inr k ↦ inr (local_mark 0 ls t k)
    ]

-- ---- names of the grammar

column_valid : (c : Column × VarInfo) → is_spelled c.1.name ≡ true → is_column (column_text c) ≡ true
column_valid c h = by_column c.0
  where
    by_column : (k : Column) → is_column (mark k ++ c.1.name) ≡ true
    by_column (Global n) = h
    by_column (Old n) = h
    by_column (Local n) = h

columns_valid : (frame : Columns) → AllByRecursion (λ c. IsTrue (is_spelled c.1.name)) frame → AllByRecursion (λ c. IsTrue (is_column (column_text c))) frame
columns_valid [] h = tt
columns_valid (c ∷ cs) h = (column_valid c h.0, columns_valid cs h.1)

-- ---- what a graph keeps

frame_readable : (gs : List VarInfo) (frame : Columns) → IsFrame gs frame → HasNames frame → IsReadable frame
frame_readable gs frame f n = record {
  differ = subst (λ (x : Columns). AreDistinct (map column_text x)) (sym f.columns)
      (differ_parts gs f.locals (subst (λ (x : Columns). AreDistinct (names_where is_global x)) f.columns n.globals)
      (subst (λ (x : Columns). AreDistinct (names_where is_local x)) f.columns n.locals));
  valid = columns_valid frame n.spelled;
}

no_columns : IsReadable []
no_columns = record { differ = tt; valid = tt }

-- the frame of each procedure is readable, and so is that of none
pub readable : (g : Graph) (p : ℕ) → Keeps g → IsReadable (frame_of (alphabet_of g) p)
unfolding Keeps
readable g p k = by_frame (slice_get g.frames p) refl
  where
    by_frame : (o : Option Columns) → slice_get g.frames p ≡ o → IsReadable (unwrap_or o [])
    by_frame None e = no_columns
    by_frame (Some frame) e = frame_readable k.frames.globals frame (all_at (IsFrame k.frames.globals) g.frames p frame e k.frames.laid_out) (all_at HasNames g.frames p frame e k.names.columns)

below_is : (limit n : ℕ) → n < limit → if_below limit n ≡ Some n
below_is limit n l = rw (lt-ltb n limit l) refl

-- the text of a column names it
pub column_found : (frame : Columns) (k : ℕ) (c : Column × VarInfo) → IsReadable frame → slice_get frame k ≡ Some c → k < 2 ^ 32 → column_named frame (column_text c) ≡ Some k
column_found frame k c r e l = ap (option_and_then (if_below (2 ^ 32))) (position_is column_text frame k c r.differ e) ∙ below_is (2 ^ 32) k l

mapped_same : (xs : List (List ℕ)) → map (λ (x : List ℕ). x) xs ≡ xs
mapped_same [] = refl
mapped_same (x ∷ xs) = ap (λ l. x ∷ l) (mapped_same xs)

-- the name of a procedure with a body names it
pub procedure_found : (g : Graph) (p : ℕ) (name : List ℕ) → Keeps g → is_some_entry (slice_get g.entries p) ≡ true → slice_get g.names p ≡ Some name → p < 2 ^ 32 →
    procedure_named g name ≡ Some p
unfolding Keeps
procedure_found g p name k h e l =
    ap (option_and_then (with_body g.entries)) (position_is (λ (x : List ℕ). x) g.names p name (subst (λ (x : List (List ℕ)). AreDistinct x) (sym (mapped_same g.names)) k.names.differ) e) ∙
    rw h (below_is (2 ^ 32) p l)

pub procedure_valid : (g : Graph) (p : ℕ) (name : List ℕ) → Keeps g → slice_get g.names p ≡ Some name → is_spelled name ≡ true
unfolding Keeps
procedure_valid g p name k e = all_at (λ n. IsTrue (is_spelled n)) g.names p name e k.names.spelled

entry_exists : (o : Option (Option ℕ)) → is_some_entry o ≡ true → (x : Option ℕ) × (o ≡ Some x)
entry_exists None h = absurd (false≢true h)
entry_exists (Some x) h = (x, refl)

-- a procedure with a body has a name
pub name_exists : (g : Graph) (p : ℕ) → Keeps g → is_some_entry (slice_get g.entries p) ≡ true → p < length g.names
unfolding Keeps
name_exists g p k h =
    let x = entry_exists (slice_get g.entries p) h in
    let l = within g.entries p x.0 x.1 in
    let a = k.procedures.names in
    let b = k.procedures.entries in
    omega (arith, l, a, b)
