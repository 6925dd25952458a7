-- The rows of a call's system and those of the word, part by part.
use Rattle.std.proofs.Common.{◌≡◌, ◌∙◌, ◌⊎◌, inl, inr, ℕ, zero, suc, ◌+◌, ◌-◌, ◌<◌, ◌≤◌, ℤ, pos, negsuc, ◌+ℤ◌, Bool, true, false, List, [], ◌∷◌, ◌++◌, length, map, refl, sym, ap, subst, arith, Option, None, Some}
use Rattle.std.specs.Prelude.{not, nat_eq, slice_index, if◌then◌else◌}
use Rattle.std.specs.List.{AllByRecursion}
use Rattle.std.proofs.lemmas.Int.{ints}
use Rattle.std.proofs.lemmas.Bool.{eq-eqb, ne_eqb, cases_eq}
use Rattle.std.proofs.lemmas.List.{map-append, length-map}
use Rattle.math_facts.specs.Terms.{coefficient, IsBelow}
use Rattle.boogie_tree.specs.declared.tree.Column.{Column}
use Rattle.boogie_tree.specs.declared.tree.Column.TheVariants as columns
use Rattle.boogie_tree.specs.declared.tree.VarInfo.{VarInfo}
use Rattle.boogie_tree.specs.declared.tree.Ty.{Ty}
use Rattle.boogie_tree.specs.declared.tree.Ty.TheVariants as types
use Rattle.nwa_base.specs.Members.{Member}
use Rattle.lin_rows.specs.declared.types.RowKind.TheVariants.{Le}
use Rattle.lin_rows.specs.Rows.{LinearRow}
use Rattle.lin_rows.specs.Sums.{row_of}
use Rattle.lin_rows.specs.Tightening.{tightened}
use Rattle.letter_acts.specs.Frames.{Columns, globals_from, is_local, variables_of, olds_of}
use Rattle.letter_acts.specs.Invariant.{MayName}
use Rattle.letter_acts.proofs.FrameLemmas.{IsConsecutive, olds_consecutive, olds_of_variables, variable_below}
use Rattle.path_rows.specs.Versions.{local_columns, old_part, entry_rows}
use Rattle.letter_acts.specs.FrameRows.Rows.{columns_from, renamed, equal_row, types_of, bounds}
use Rattle.letter_acts.specs.FrameRows.Frames.{is_old}
use Rattle.path_rows.proofs.CallLaws.{call_below}
use Rattle.path_rows.proofs.LayoutLemmas.{LaidOut, laid_out, length-globals_from}
use Rattle.nested_itp.specs.NestedPredicates.Walking.{is_boolean, is_bool}
use Rattle.nested_itp.specs.NestedRefutations.Refutations.{Role, spare, branch_row}
use Rattle.nested_itp.specs.NestedRefutations.Numbers.{spares, branch_rows, bounds_in, callee_bounds}
use Rattle.nested_itp.proofs.NestedRefutations.ContentLaws.{DiffersBelow, moved}
use Rattle.nested_itp.proofs.NestedRefutations.VersionLaws.{index_left, index_right, columns_at}
use Rattle.nested_itp.proofs.NestedRefutations.MovingLaws.{bounds_renamed, bounds_below}
use Rattle.nested_itp.proofs.NestedRefutations.LayoutLaws.{filtered, parameter_behind}
use Rattle.nested_itp.proofs.NestedRefutations.TieLaws.{equal_coefficient}
use Rattle.nested_itp.proofs.NestedRefutations.CallAtLaws.{entry_of}
use Rattle.nested_itp.proofs.NestedRefutations.CallColumnLaws.{CallLetter, caller_in, callee_in, width, heads, olds, locals, made, call_names, lay, caller_long, callee_long, call_names_count, name_caller, name_old, name_local, name_helper, CallPlace, of_caller, of_global, of_old, of_local, of_helper, call_place, entry_long, entry_local, heads_within}

-- ---- the call's own rows

-- the names that the word gives their columns
abbrev pub spec_names : CallLetter → List ℕ
spec_names c = c.r.stage.here ++ (entry_of c.g c.r c.callee c.helpers ++ columns_from (made c + locals c) c.helpers)

-- of the callee's columns they name parameters alone
name_same : (c : CallLetter) (x : ℕ) → MayName (caller_in c) (callee_in c) c.helpers x → slice_index (spec_names c) x ≡ slice_index (call_names c) x
name_same c x may = by_place (call_place c x (let n = call_names_count c in let w = may.within in let a = caller_long c in let b = callee_long c in omega (arith, n, w, a, b)))
  where
    no_front : (i : ℕ) → x ≡ width c + i → i < heads c + olds c → ⊥
    no_front i e l =
        let a = caller_long c in
        let b = callee_long c in
        let p = may.parameter (omega (arith, e, a)) (omega (arith, e, a, b, l)) in
        let q = parameter_behind c.at.infos (callee_in c) c.at.to_frame (x - length (caller_in c)) p in
        omega (arith, q, e, a, l)

    behind : (j : ℕ) → x ≡ width c + j → slice_index (spec_names c) x ≡ slice_index (entry_of c.g c.r c.callee c.helpers ++ columns_from (made c + locals c) c.helpers) j
    behind j e = ap (slice_index (spec_names c)) e ∙ index_right c.r.stage.here (entry_of c.g c.r c.callee c.helpers ++ columns_from (made c + locals c) c.helpers) j

    by_place : CallPlace c x → slice_index (spec_names c) x ≡ slice_index (call_names c) x
    by_place (of_caller l) = index_left c.r.stage.here (entry_of c.g c.r c.callee c.helpers ++ columns_from (made c + locals c) c.helpers) x l ∙ sym (name_caller c x l)
    by_place (of_global i l e) = absurd (no_front i e (omega (arith, l)))
    by_place (of_old i l e) = absurd (no_front (heads c + i) e (omega (arith, l)))
    by_place (of_local i l e) =
        let a = entry_long c in
        let b = callee_long c in
        behind (heads c + (olds c + i)) e ∙
        index_left (entry_of c.g c.r c.callee c.helpers) (columns_from (made c + locals c) c.helpers) (heads c + (olds c + i)) (omega (arith, a, b, l)) ∙
        entry_local c (heads c + (olds c + i)) i refl l ∙ sym (name_local c x i e l)
    by_place (of_helper i l e) =
        let a = entry_long c in
        let b = callee_long c in
        behind (heads c + (olds c + locals c) + i) e ∙
        ap (slice_index (entry_of c.g c.r c.callee c.helpers ++ columns_from (made c + locals c) c.helpers))
        (let k : heads c + (olds c + locals c) + i ≡ length (entry_of c.g c.r c.callee c.helpers) + i = omega (arith, a, b) in k) ∙
        index_right (entry_of c.g c.r c.callee c.helpers) (columns_from (made c + locals c) c.helpers) i ∙ columns_at (made c + locals c) c.helpers i l ∙ sym (name_helper c x i e l)

terms_same : (f g : ℕ → ℕ) (ts : List (ℕ × ℤ)) → AllByRecursion (λ t. f t.0 ≡ g t.0) ts → moved f ts ≡ moved g ts
terms_same f g [] h = refl
terms_same f g (t ∷ ts) h = ap (λ (x : ℕ). (x, t.1) ∷ moved f ts) h.0 ∙ ap (λ (l : List (ℕ × ℤ)). (g t.0, t.1) ∷ l) (terms_same f g ts h.1)

all_weaker : {X : Type 0} (P Q : X → Type 0) → ((x : X) → P x → Q x) → (xs : List X) → AllByRecursion P xs → AllByRecursion Q xs
all_weaker P Q f [] h = tt
all_weaker P Q f (x ∷ xs) h = (f x h.0, all_weaker P Q f xs h.1)

rows_same : (f g : ℕ → ℕ) (rows : List LinearRow) → AllByRecursion (λ r. AllByRecursion (λ t. f t.0 ≡ g t.0) r.terms) rows → map (renamed f) rows ≡ map (renamed g) rows
rows_same f g [] h = refl
rows_same f g (r ∷ rows) h =
    ap (λ (ts : List (ℕ × ℤ)). row_of ts r.kind r.bound ∷ map (renamed f) rows) (terms_same f g r.terms h.0) ∙ ap (λ (l : List LinearRow). renamed g r ∷ l) (rows_same f g rows h.1)

pub own_rows_are : (c : CallLetter) → map (renamed (slice_index (spec_names c))) c.rows ≡ map (renamed (slice_index (call_names c))) c.rows
own_rows_are c =
    rows_same (slice_index (spec_names c)) (slice_index (call_names c)) c.rows
    (all_weaker (λ r. AllByRecursion (λ t. MayName (caller_in c) (callee_in c) c.helpers t.0) r.terms) (λ r. AllByRecursion (λ t. slice_index (spec_names c) t.0 ≡ slice_index (call_names c) t.0) r.terms)
    (λ r h. all_weaker (λ t. MayName (caller_in c) (callee_in c) c.helpers t.0) (λ t. slice_index (spec_names c) t.0 ≡ slice_index (call_names c) t.0) (λ t m. name_same c t.0 m) r.terms h) c.rows c.at.acted.may_name)

pub own_rows_below : (c : CallLetter) → AllByRecursion (λ r. IsBelow (length (call_names c)) r.terms) c.rows
own_rows_below c =
    let n = call_names_count c in
    let a = caller_long c in
    let b = callee_long c in
    subst (λ (k : ℕ). AllByRecursion (λ r. IsBelow k r.terms) c.rows) (let e : length (caller_in c) + length (callee_in c) + c.helpers ≡ length (call_names c) = omega (arith, n, a, b) in e)
    (call_below (caller_in c) (callee_in c) c.helpers c.rows c.at.acted.may_name)

pub none_named : (c : CallLetter) (x : ℕ) → ((t : ℕ) → MayName (caller_in c) (callee_in c) c.helpers t → t ≡ x → ⊥) → (ts : List (ℕ × ℤ)) →
    AllByRecursion (λ t. MayName (caller_in c) (callee_in c) c.helpers t.0) ts → coefficient x ts ≡ pos 0
none_named c x f [] h = refl
none_named c x f (t ∷ ts) h = let m : coefficient x ts ≡ pos 0 = none_named c x f ts h.1 in rw (ne_eqb t.0 x (f t.0 h.0)) (omega (arith, ints, m))

-- none names a global of the callee
pub own_rows_off : (c : CallLetter) (i : ℕ) → i < heads c → AllByRecursion (λ r. coefficient (width c + i) r.terms ≡ pos 0) c.rows
own_rows_off c i l =
    all_weaker (λ r. AllByRecursion (λ t. MayName (caller_in c) (callee_in c) c.helpers t.0) r.terms) (λ r. coefficient (width c + i) r.terms ≡ pos 0) (λ r h. none_named c (width c + i) (λ t m e. off t m e) r.terms h) c.rows c.at.acted.may_name
  where
    off : (t : ℕ) → MayName (caller_in c) (callee_in c) c.helpers t → t ≡ width c + i → ⊥
    off t may e =
        let a = caller_long c in
        let b = callee_long c in
        let p = may.parameter (omega (arith, e, a)) (omega (arith, e, a, b, l)) in
        let q = parameter_behind c.at.infos (callee_in c) c.at.to_frame (t - length (caller_in c)) p in
        omega (arith, q, e, a, l)

-- ---- the entry rows

-- an old column of the callee, which is its i-th, and the global that it is of
pub record IsOldAt (c : CallLetter) (o : ℕ × ℕ) : Type 0 where
  pub place : ℕ
  pub within : place < olds c
  pub column : o.0 ≡ heads c + place
  pub global : o.1 < heads c

-- the row of the word for it, over the names of its columns
abbrev pub named_tie : CallLetter → ℕ × ℕ → LinearRow
named_tie c o = equal_row (slice_index (call_names c) (width c + o.0)) (slice_index (call_names c) o.1)

pub entry_tie : (c : CallLetter) (o : ℕ × ℕ) → (h : IsOldAt c o) → (slice_index (call_names c) (width c + o.0) ≡ made c + locals c + c.helpers + h.place) × (slice_index (call_names c) o.1 ≡ slice_index c.r.stage.here o.1)
entry_tie c o h =
    let e = h.column in
    let l = h.global in
    let w = heads_within c in
    (name_old c (width c + o.0) h.place (omega (arith, e)) h.within, name_caller c o.1 (omega (arith, l, w)))

all_at : (c : CallLetter) (i : ℕ) (os : List (ℕ × ℕ)) → IsConsecutive (heads c + i) os → i + length os ≤ olds c → AllByRecursion (λ o. o.1 < heads c) os → AllByRecursion (IsOldAt c) os
all_at c i [] k l h = tt
all_at c i (o ∷ os) k l h = (
  record { place = i; within = omega (arith, l); column = k.0; global = h.0 },
  all_at c (suc i) os (subst (λ (n : ℕ). IsConsecutive n os) (let e : suc (heads c + i) ≡ heads c + suc i = omega arith in e) k.1) (omega (arith, l)) h.1,
)

pub olds_number : (c : CallLetter) → length (olds_of (callee_in c)) ≡ olds c
olds_number c =
    sym (length-map (olds_of (callee_in c)) (λ (o : ℕ × ℕ). o.1)) ∙ ap (λ (l : List ℕ). length l) (olds_of_variables c.at.infos (callee_in c) c.at.to_frame) ∙ (laid c).variable_count
  where
    laid : (c : CallLetter) → LaidOut c.at.infos (callee_in c)
    laid c = laid_out c.at.infos (callee_in c) c.at.to_frame

pub olds_at : (c : CallLetter) → AllByRecursion (IsOldAt c) (olds_of (callee_in c))
olds_at c =
    all_at c 0 (olds_of (callee_in c)) (subst (λ (n : ℕ). IsConsecutive n (olds_of (callee_in c))) (let e : heads c ≡ heads c + 0 = omega arith in e) (olds_consecutive c.at.infos (callee_in c) c.at.to_frame))
    (let k = olds_number c in omega (arith, k))
    (globals_below (olds_of (callee_in c)) (λ x m. variable_below c.at.infos (callee_in c) c.at.to_frame x (subst (λ (l : List ℕ). Member l x) (olds_of_variables c.at.infos (callee_in c) c.at.to_frame) m)))
  where
    globals_below : (os : List (ℕ × ℕ)) → ((x : ℕ) → Member (map (λ o. o.1) os) x → x < heads c) → AllByRecursion (λ o. o.1 < heads c) os
    globals_below [] f = tt
    globals_below (o ∷ os) f = (f o.1 (inl refl), globals_below os (λ x m. f x (inr m)))

entries_from : (c : CallLetter) (i : ℕ) (os : List (ℕ × ℕ)) → IsConsecutive (heads c + i) os → i + length os ≤ olds c → AllByRecursion (λ o. o.1 < heads c) os →
    entry_rows (made c + locals c + c.helpers + i) (map (slice_index c.r.stage.here) (map (λ o. o.1) os)) ≡ map (named_tie c) os
entries_from c i [] k l h = refl
entries_from c i (o ∷ os) k l h =
    let at : IsOldAt c o = record { place = i; within = omega (arith, l); column = k.0; global = h.0 } in
    let e = entry_tie c o at in
    ap (λ (x : ℕ). equal_row x (slice_index c.r.stage.here o.1) ∷ entry_rows (suc (made c + locals c + c.helpers + i)) (map (slice_index c.r.stage.here) (map (λ o. o.1) os))) (sym e.0) ∙
    ap (λ (x : ℕ). equal_row (slice_index (call_names c) (width c + o.0)) x ∷ entry_rows (suc (made c + locals c + c.helpers + i)) (map (slice_index c.r.stage.here) (map (λ o. o.1) os))) (sym e.1) ∙
    ap (λ (n : ℕ). named_tie c o ∷ entry_rows n (map (slice_index c.r.stage.here) (map (λ o. o.1) os))) (let q : suc (made c + locals c + c.helpers + i) ≡ made c + locals c + c.helpers + suc i = omega arith in q) ∙
    ap (λ (l : List LinearRow). named_tie c o ∷ l)
    (entries_from c (suc i) os (subst (λ (n : ℕ). IsConsecutive n os) (let e : suc (heads c + i) ≡ heads c + suc i = omega arith in e) k.1) (omega (arith, l)) h.1)

pub entries_are : (c : CallLetter) → entry_rows (made c + locals c + c.helpers) (map (slice_index c.r.stage.here) (variables_of (callee_in c))) ≡ map (named_tie c) (olds_of (callee_in c))
entries_are c =
    let infos = c.at.infos in
    ap (λ (l : List ℕ). entry_rows (made c + locals c + c.helpers) (map (slice_index c.r.stage.here) l)) (sym (olds_of_variables infos (callee_in c) c.at.to_frame)) ∙
    ap (λ (n : ℕ). entry_rows n (map (slice_index c.r.stage.here) (map (λ o. o.1) (olds_of (callee_in c))))) (let e : made c + locals c + c.helpers ≡ made c + locals c + c.helpers + 0 = omega arith in e) ∙
    entries_from c 0 (olds_of (callee_in c)) (subst (λ (n : ℕ). IsConsecutive n (olds_of (callee_in c))) (let e : heads c ≡ heads c + 0 = omega arith in e) (olds_consecutive infos (callee_in c) c.at.to_frame))
    (let k = olds_number c in omega (arith, k))
    (globals_below (olds_of (callee_in c)) (λ x m. variable_below infos (callee_in c) c.at.to_frame x (subst (λ (l : List ℕ). Member l x) (olds_of_variables infos (callee_in c) c.at.to_frame) m)))
  where
    globals_below : (os : List (ℕ × ℕ)) → ((x : ℕ) → Member (map (λ o. o.1) os) x → x < heads c) → AllByRecursion (λ o. o.1 < heads c) os
    globals_below [] f = tt
    globals_below (o ∷ os) f = (f o.1 (inl refl), globals_below os (λ x m. f x (inr m)))

-- a row that ties two columns over other names
pub tie_moved : (names : List ℕ) → DiffersBelow (length names) (slice_index names) → (a b x : ℕ) → a < length names → b < length names → x < length names → (a ≡ b → ⊥) →
    coefficient x (tightened (equal_row a b)).terms ≡ coefficient (slice_index names x) (tightened (equal_row (slice_index names a) (slice_index names b))).terms
tie_moved names differ a b x l m k n =
    equal_coefficient a b x n ∙ same (nat_eq a x) (nat_eq b x) (nat_eq (slice_index names a) (slice_index names x)) (nat_eq (slice_index names b) (slice_index names x)) (same_test a l) (same_test b m) ∙
    sym (equal_coefficient (slice_index names a) (slice_index names b) (slice_index names x) (λ e. n (differ a b l m e)))
  where
    same_test : (y : ℕ) → y < length names → nat_eq y x ≡ nat_eq (slice_index names y) (slice_index names x)
    same_test y p = by_cases (cases_eq y x)
      where
        by_cases : (y ≡ x) ⊎ (y ≡ x → ⊥) → nat_eq y x ≡ nat_eq (slice_index names y) (slice_index names x)
        by_cases (inl e) = eq-eqb y x e ∙ sym (eq-eqb (slice_index names y) (slice_index names x) (ap (slice_index names) e))
        by_cases (inr q) = ne_eqb y x q ∙ sym (ne_eqb (slice_index names y) (slice_index names x) (λ (e : slice_index names y ≡ slice_index names x). q (differ y x p k e)))

    same : (p q u v : Bool) → p ≡ u → q ≡ v →
        (if p then pos 1 else pos 0) +ℤ ((if q then negsuc 0 else pos 0) +ℤ pos 0) ≡ (if u then pos 1 else pos 0) +ℤ ((if v then negsuc 0 else pos 0) +ℤ pos 0)
    same p q u v e f = ap (λ (z : Bool). (if z then pos 1 else pos 0) +ℤ ((if q then negsuc 0 else pos 0) +ℤ pos 0)) e ∙ ap (λ (z : Bool). (if u then pos 1 else pos 0) +ℤ ((if z then negsuc 0 else pos 0) +ℤ pos 0)) f

-- ---- the bounds of the callee's columns

abbrev type_of : (Column × VarInfo) → Option Ty
type_of v = Some v.1.ty

bounds_joined : (n : ℕ) (ts us : List (Option Ty)) → bounds n (ts ++ us) ≡ bounds n ts ++ bounds (n + length ts) us
bounds_joined n [] us = ap (λ (k : ℕ). bounds k us) (let e : n ≡ n + 0 = omega arith in e)
bounds_joined n (None ∷ ts) us = bounds_joined (suc n) ts us ∙ ap (λ (k : ℕ). bounds (suc n) ts ++ bounds k us) (let e : suc n + length ts ≡ n + suc (length ts) = omega arith in e)
bounds_joined n (Some types.Int ∷ ts) us = bounds_joined (suc n) ts us ∙ ap (λ (k : ℕ). bounds (suc n) ts ++ bounds k us) (let e : suc n + length ts ≡ n + suc (length ts) = omega arith in e)
bounds_joined n (Some types.Bool ∷ ts) us =
    ap (λ (l : List LinearRow). row_of ((n, negsuc 0) ∷ []) Le (pos 0) ∷ row_of ((n, pos 1) ∷ []) Le (pos 1) ∷ l)
    (bounds_joined (suc n) ts us ∙ ap (λ (k : ℕ). bounds (suc n) ts ++ bounds k us) (let e : suc n + length ts ≡ n + suc (length ts) = omega arith in e))

pub length_types : (frame : Columns) → length (types_of frame) ≡ length frame
length_types [] = refl
length_types (d ∷ frame) = ap suc (length_types frame)

abbrev pub old_bounds : CallLetter → List LinearRow
old_bounds c = bounds (length (caller_in c) + heads c) (types_of (old_part (callee_in c)))

abbrev pub local_bounds : CallLetter → List LinearRow
local_bounds c = bounds (length (caller_in c) + (heads c + olds c)) (types_of (local_columns (callee_in c)))

abbrev pub global_bounds : CallLetter → List LinearRow
global_bounds c = bounds (length (caller_in c)) (types_of (globals_from 0 c.at.infos))

pub callee_bounds_rows : (c : CallLetter) → bounds (length (caller_in c)) (types_of (callee_in c)) ≡ global_bounds c ++ (old_bounds c ++ local_bounds c)
callee_bounds_rows c =
    let n : ℕ = length (caller_in c) in
    let front : Columns = globals_from 0 c.at.infos in
    let o : Columns = old_part (callee_in c) in
    let l : Columns = local_columns (callee_in c) in
    let k : length (types_of front) ≡ heads c = length_types front ∙ length-globals_from 0 c.at.infos in
    ap (λ (x : Columns). bounds n (types_of x)) (lay c).parts ∙
    ap (bounds n) (map-append type_of front (o ++ l)) ∙ bounds_joined n (types_of front) (types_of (o ++ l)) ∙
    ap (λ (m : ℕ). bounds n (types_of front) ++ bounds (n + m) (types_of (o ++ l))) k ∙
    ap (λ (x : List LinearRow). bounds n (types_of front) ++ x)
    (ap (bounds (n + heads c)) (map-append type_of o l) ∙ bounds_joined (n + heads c) (types_of o) (types_of l) ∙
    ap (λ (m : ℕ). bounds (n + heads c) (types_of o) ++ bounds m (types_of l)) (let q = length_types o in let e : n + heads c + length (types_of o) ≡ n + (heads c + olds c) = omega (arith, q) in e))

pub old_bounds_are : (c : CallLetter) → map (renamed (slice_index (call_names c))) (old_bounds c) ≡ bounds (made c + locals c + c.helpers) (types_of (old_part (callee_in c)))
old_bounds_are c =
    bounds_renamed (slice_index (call_names c)) (length (caller_in c) + heads c) (made c + locals c + c.helpers) (types_of (old_part (callee_in c)))
    (λ i l. (let a = caller_long c in let m = length_types (old_part (callee_in c)) in name_old c (length (caller_in c) + heads c + i) i (omega (arith, a)) (omega (arith, l, m))))

pub local_bounds_are : (c : CallLetter) → map (renamed (slice_index (call_names c))) (local_bounds c) ≡ bounds (made c) (types_of (local_columns (callee_in c)))
local_bounds_are c =
    bounds_renamed (slice_index (call_names c)) (length (caller_in c) + (heads c + olds c)) (made c) (types_of (local_columns (callee_in c)))
    (λ i l. (let a = caller_long c in let m = length_types (local_columns (callee_in c)) in name_local c (length (caller_in c) + (heads c + olds c) + i) i (omega (arith, a)) (omega (arith, l, m))))

pub old_bounds_below : (c : CallLetter) → AllByRecursion (λ r. IsBelow (length (call_names c)) r.terms) (old_bounds c)
old_bounds_below c =
    let n = call_names_count c in
    let a = caller_long c in
    let m = length_types (old_part (callee_in c)) in
    bounds_below (length (call_names c)) (length (caller_in c) + heads c) (types_of (old_part (callee_in c))) (omega (arith, n, a, m))

pub local_bounds_below : (c : CallLetter) → AllByRecursion (λ r. IsBelow (length (call_names c)) r.terms) (local_bounds c)
local_bounds_below c =
    let n = call_names_count c in
    let a = caller_long c in
    let m = length_types (local_columns (callee_in c)) in
    bounds_below (length (call_names c)) (length (caller_in c) + (heads c + olds c)) (types_of (local_columns (callee_in c))) (omega (arith, n, a, m))

-- bounds from a column on do not name earlier ones
pub bounds_above : (n x : ℕ) (ts : List (Option Ty)) → x < n → AllByRecursion (λ r. coefficient x r.terms ≡ pos 0) (bounds n ts)
bounds_above n x [] l = tt
bounds_above n x (None ∷ ts) l = bounds_above (suc n) x ts (omega (arith, l))
bounds_above n x (Some types.Int ∷ ts) l = bounds_above (suc n) x ts (omega (arith, l))
bounds_above n x (Some types.Bool ∷ ts) l = (one (negsuc 0), (one (pos 1), bounds_above (suc n) x ts (omega (arith, l))))
  where
    one : (a : ℤ) → coefficient x ((n, a) ∷ []) ≡ pos 0
    one a = rw (ne_eqb n x (λ (e : n ≡ x). omega (arith, l, e))) (omega (arith, ints))

pub old_bounds_off : (c : CallLetter) (i : ℕ) → i < heads c → AllByRecursion (λ r. coefficient (width c + i) r.terms ≡ pos 0) (old_bounds c)
old_bounds_off c i l = let a = caller_long c in bounds_above (length (caller_in c) + heads c) (width c + i) (types_of (old_part (callee_in c))) (omega (arith, a, l))

pub local_bounds_off : (c : CallLetter) (i : ℕ) → i < heads c → AllByRecursion (λ r. coefficient (width c + i) r.terms ≡ pos 0) (local_bounds c)
local_bounds_off c i l = let a = caller_long c in bounds_above (length (caller_in c) + (heads c + olds c)) (width c + i) (types_of (local_columns (callee_in c))) (omega (arith, a, l))

-- ---- their roles

counted_same : (n m : ℕ) (ts : List (Option Ty)) → length (bounds n ts) ≡ length (bounds m ts)
counted_same n m [] = refl
counted_same n m (None ∷ ts) = counted_same (suc n) (suc m) ts
counted_same n m (Some types.Int ∷ ts) = counted_same (suc n) (suc m) ts
counted_same n m (Some types.Bool ∷ ts) = ap (λ (k : ℕ). suc (suc k)) (counted_same (suc n) (suc m) ts)

bounds_next : (t : Ty) (ts : List (Option Ty)) → length (bounds 0 (Some t ∷ ts)) ≡ (if is_boolean (Some t) then suc (suc (length (bounds 0 ts))) else length (bounds 0 ts))
bounds_next types.Int ts = counted_same 1 0 ts
bounds_next types.Bool ts = ap (λ (k : ℕ). suc (suc k)) (counted_same 1 0 ts)

bounds_in_next : (d : Column × VarInfo) (frame : Columns) → bounds_in (d ∷ frame) ≡ (if is_bool d then suc (suc (bounds_in frame)) else bounds_in frame)
bounds_in_next d frame = bounds_next d.1.ty (types_of frame)

spares_any : (k n : ℕ) → map (λ r. spare) (columns_from k n) ≡ spares n
spares_any k zero = refl
spares_any k (suc n) = ap (λ (l : List Role). spare ∷ l) (spares_any (suc k) n ∙ sym (spares_any 1 n))

spare_globals : (local old n : ℕ) (vs : List VarInfo) (rest : Columns) → callee_bounds local old (globals_from n vs ++ rest) ≡ spares (bounds_in (globals_from n vs)) ++ callee_bounds local old rest
spare_globals local old n [] rest = refl
spare_globals local old n (v ∷ vs) rest =
    by_bool (is_boolean (Some v.ty)) (bounds_next v.ty (types_of (globals_from (suc n) vs))) (spare_globals local old (suc n) vs rest)
  where
    by_bool : (z : Bool) → bounds_in (globals_from n (v ∷ vs)) ≡ (if z then suc (suc (bounds_in (globals_from (suc n) vs))) else bounds_in (globals_from (suc n) vs)) →
        callee_bounds local old (globals_from (suc n) vs ++ rest) ≡ spares (bounds_in (globals_from (suc n) vs)) ++ callee_bounds local old rest →
        (if not z then callee_bounds local old (globals_from (suc n) vs ++ rest) else spares 2 ++ callee_bounds local old (globals_from (suc n) vs ++ rest)) ≡
        spares (bounds_in (globals_from n (v ∷ vs))) ++ callee_bounds local old rest
    by_bool true e h =
        ap (λ (l : List Role). spare ∷ spare ∷ l) h ∙ ap (λ (l : List Role). spare ∷ spare ∷ (l ++ callee_bounds local old rest)) (sym (spares_any 2 (bounds_in (globals_from (suc n) vs)))) ∙
        ap (λ (k : ℕ). spares k ++ callee_bounds local old rest) (sym e)
    by_bool false e h = h ∙ ap (λ (k : ℕ). spares k ++ callee_bounds local old rest) (sym e)

old_no_local : (d : Column × VarInfo) → is_old d ≡ true → is_local d ≡ false
old_no_local (d, v) e = by_column d e
  where
    by_column : (d : Column) → is_old (d, v) ≡ true → is_local (d, v) ≡ false
    by_column (columns.Global n) e = refl
    by_column (columns.Old n) e = refl
    by_column (columns.Local n) e = absurd (cc)

old_roles : (local old : ℕ) (xs rest : Columns) → AllByRecursion (λ d. is_old d ≡ true) xs →
    callee_bounds local old (xs ++ rest) ≡ branch_rows old (bounds_in xs) ++ callee_bounds local (old + bounds_in xs) rest
old_roles local old [] rest h = ap (λ (n : ℕ). callee_bounds local n rest) (let e : old ≡ old + 0 = omega arith in e)
old_roles local old (d ∷ xs) rest h =
    by_bool (is_bool d) (is_local d) (is_old d) (old_no_local d h.0) h.0 (bounds_in_next d xs) (old_roles local old xs rest h.1) (old_roles local (old + 2) xs rest h.1)
  where
    by_bool : (z l o : Bool) → l ≡ false → o ≡ true → bounds_in (d ∷ xs) ≡ (if z then suc (suc (bounds_in xs)) else bounds_in xs) →
        callee_bounds local old (xs ++ rest) ≡ branch_rows old (bounds_in xs) ++ callee_bounds local (old + bounds_in xs) rest →
        callee_bounds local (old + 2) (xs ++ rest) ≡ branch_rows (old + 2) (bounds_in xs) ++ callee_bounds local (old + 2 + bounds_in xs) rest →
        (if not z then callee_bounds local old (xs ++ rest)
        else (if l then branch_rows local 2 ++ callee_bounds (local + 2) old (xs ++ rest)
        else (if o then branch_rows old 2 ++ callee_bounds local (old + 2) (xs ++ rest) else spares 2 ++ callee_bounds local old (xs ++ rest)))) ≡
        branch_rows old (bounds_in (d ∷ xs)) ++ callee_bounds local (old + bounds_in (d ∷ xs)) rest
    by_bool true true o e f q h g = absurd (cc)
    by_bool true false false e f q h g = absurd (cc)
    by_bool true false true e f q h g =
        ap (λ (l : List Role). branch_row old ∷ branch_row (suc old) ∷ l) g ∙
        ap (λ (n : ℕ). branch_row old ∷ branch_row (suc old) ∷ (branch_rows n (bounds_in xs) ++ callee_bounds local (old + 2 + bounds_in xs) rest)) (let k : old + 2 ≡ suc (suc old) = omega arith in k) ∙
        ap (λ (n : ℕ). branch_rows old (suc (suc (bounds_in xs))) ++ callee_bounds local n rest) (let k : old + 2 + bounds_in xs ≡ old + suc (suc (bounds_in xs)) = omega arith in k) ∙
        ap (λ (n : ℕ). branch_rows old n ++ callee_bounds local (old + n) rest) (sym q)
    by_bool false l o e f q h g = h ∙ ap (λ (n : ℕ). branch_rows old n ++ callee_bounds local (old + n) rest) (sym q)

local_roles : (local old : ℕ) (xs : Columns) → AllByRecursion (λ d. is_local d ≡ true) xs → callee_bounds local old xs ≡ branch_rows local (bounds_in xs)
local_roles local old [] h = refl
local_roles local old (d ∷ xs) h = by_bool (is_bool d) (is_local d) (is_old d) h.0 (bounds_in_next d xs) (local_roles local old xs h.1) (local_roles (local + 2) old xs h.1)
  where
    by_bool : (z l o : Bool) → l ≡ true → bounds_in (d ∷ xs) ≡ (if z then suc (suc (bounds_in xs)) else bounds_in xs) → callee_bounds local old xs ≡ branch_rows local (bounds_in xs) →
        callee_bounds (local + 2) old xs ≡ branch_rows (local + 2) (bounds_in xs) →
        (if not z then callee_bounds local old xs
        else (if l then branch_rows local 2 ++ callee_bounds (local + 2) old xs
        else (if o then branch_rows old 2 ++ callee_bounds local (old + 2) xs else spares 2 ++ callee_bounds local old xs))) ≡ branch_rows local (bounds_in (d ∷ xs))
    by_bool true false o e q h g = absurd (cc)
    by_bool true true o e q h g =
        ap (λ (l : List Role). branch_row local ∷ branch_row (suc local) ∷ l) g ∙
        ap (λ (n : ℕ). branch_row local ∷ branch_row (suc local) ∷ branch_rows n (bounds_in xs)) (let k : local + 2 ≡ suc (suc local) = omega arith in k) ∙ ap (branch_rows local) (sym q)
    by_bool false l o e q h g = h ∙ ap (branch_rows local) (sym q)

-- the roles of the callee's bounds
pub callee_roles : (c : CallLetter) (local old : ℕ) → callee_bounds local old (callee_in c) ≡
    spares (bounds_in (globals_from 0 c.at.infos)) ++ (branch_rows old (bounds_in (old_part (callee_in c))) ++ branch_rows local (bounds_in (local_columns (callee_in c))))
callee_roles c local old =
    ap (callee_bounds local old) (lay c).parts ∙ spare_globals local old 0 c.at.infos (old_part (callee_in c) ++ local_columns (callee_in c)) ∙
    ap (λ (l : List Role). spares (bounds_in (globals_from 0 c.at.infos)) ++ l)
    (old_roles local old (old_part (callee_in c)) (local_columns (callee_in c)) (filtered is_old (callee_in c)) ∙
    ap (λ (l : List Role). branch_rows old (bounds_in (old_part (callee_in c))) ++ l) (local_roles local (old + bounds_in (old_part (callee_in c))) (local_columns (callee_in c)) (filtered is_local (callee_in c))))
