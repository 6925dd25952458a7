-- The columns of a call's system and those of the word, and at which of them its own cuts are.
use Rattle.std.proofs.Common.{◌≡◌, ◌∙◌, ◌⊎◌, inl, inr, ℕ, zero, suc, ◌+◌, ◌<◌, ◌≤◌, List, [], ◌∷◌, ◌++◌, length, take, refl, sym, ap, arith, length-append}
use Rattle.std.specs.Prelude.{slice_index}
use Rattle.lin_rows.specs.Rows.{LinearRow}
use Rattle.farkas_check.specs.Trees.{Tree}
use Rattle.nwa_base.specs.declared.letters.Letter.{Letter}
use Rattle.nwa_base.specs.Members.{Member}
use Rattle.letter_acts.specs.Frames.{Columns, globals_of}
use Rattle.letter_acts.specs.Acts.{frame_of}
use Rattle.letter_acts.specs.Invariant.{Graph, alphabet_of, AreDistinct}
use Rattle.path_rows.specs.Versions.{local_columns, old_part}
use Rattle.letter_acts.specs.FrameRows.Rows.{columns_from}
use Rattle.path_rows.proofs.DifferLemmas.{distinct_joined, columns_distinct}
use Rattle.nested_itp.specs.NestedPredicates.Sums.{root_of}
use Rattle.nested_itp.specs.NestedRefutations.Refutations.{TreeSpot, View, Gathered}
use Rattle.nested_itp.specs.NestedRefutations.Numbers.{Step, Reading, begins}
use Rattle.nested_itp.proofs.NestedRefutations.ContentLaws.{DiffersBelow}
use Rattle.nested_itp.proofs.NestedRefutations.NamesLaws.{member_joined, columns_bounds}
use Rattle.nested_itp.proofs.NestedRefutations.VersionLaws.{index_left, index_right, columns_at, columns_count, places_differ, split_at}
use Rattle.nested_itp.proofs.NestedRefutations.LayoutLaws.{Layout, layout_of}
use Rattle.nested_itp.proofs.NestedRefutations.GoneLaws.{member_below}
use Rattle.nested_itp.proofs.NestedRefutations.CallAtLaws.{CallAt, entry_of, call_step_at}

-- a call of an accepted word, and a tree that refutes the word's rows
pub record CallLetter : Type 0 where
  pub g : Graph
  pub globals : ℕ
  pub w : List Letter
  pub t : Tree
  pub r : Reading
  pub a : Letter
  pub rest : List Letter
  pub caller : ℕ
  pub callee : ℕ
  pub helpers : ℕ
  pub rows : List LinearRow
  pub at : CallAt g globals w r a rest caller callee helpers rows

abbrev pub caller_in : CallLetter → Columns
caller_in c = frame_of (alphabet_of c.g) c.caller

abbrev pub callee_in : CallLetter → Columns
callee_in c = frame_of (alphabet_of c.g) c.callee

-- how many columns the frame before has, and how many globals, old columns and locals the callee
abbrev pub width : CallLetter → ℕ
width c = length c.r.stage.here

abbrev pub heads : CallLetter → ℕ
heads c = length c.at.infos

abbrev pub olds : CallLetter → ℕ
olds c = length (old_part (callee_in c))

abbrev pub locals : CallLetter → ℕ
locals c = length (local_columns (callee_in c))

-- the first column that it makes, and how many
abbrev pub made : CallLetter → ℕ
made c = c.r.stage.made

abbrev pub made_count : CallLetter → ℕ
made_count c = locals c + c.helpers + olds c

-- the versions of the callee's old columns and locals
abbrev pub new_in_callee : CallLetter → List ℕ
new_in_callee c = columns_from (made c + locals c + c.helpers) (olds c) ++ columns_from (made c) (locals c)

-- the versions of the columns of its system; those of the callee's globals, which no row names but ties, are told apart from the caller's
abbrev pub call_names : CallLetter → List ℕ
call_names c = c.r.stage.here ++ ((columns_from (made c + made_count c) (heads c) ++ new_in_callee c) ++ columns_from (made c + locals c) c.helpers)

abbrev pub call_step_in : CallLetter → Step
call_step_in c = call_step_at c.g c.w c.t c.r c.a c.rest c.caller c.callee c.helpers c.rows

abbrev pub call_view : CallLetter → View
call_view c = (call_step_in c).view

abbrev pub call_root : CallLetter → TreeSpot
call_root c = record { node = 0; branch = root_of c.g c.w; tree = c.t }

abbrev pub call_first : CallLetter → Gathered
call_first c = begins c.g c.w c.t (call_step_in c)

pub lay : (c : CallLetter) → Layout c.at.infos (callee_in c)
lay c = layout_of c.at.infos (callee_in c) c.at.to_frame

pub caller_long : (c : CallLetter) → width c ≡ length (caller_in c)
caller_long c = c.at.versions.long

-- ---- the names

pub mid_count : (c : CallLetter) → length (columns_from (made c + made_count c) (heads c) ++ new_in_callee c) ≡ heads c + (olds c + locals c)
mid_count c =
    let a = length-append (columns_from (made c + made_count c) (heads c)) (new_in_callee c) in
    let b = length-append (columns_from (made c + locals c + c.helpers) (olds c)) (columns_from (made c) (locals c)) in
    let d = columns_count (made c + made_count c) (heads c) in
    let e = columns_count (made c + locals c + c.helpers) (olds c) in
    let f = columns_count (made c) (locals c) in
    omega (arith, a, b, d, e, f)

pub call_names_count : (c : CallLetter) → length (call_names c) ≡ width c + (heads c + (olds c + locals c) + c.helpers)
call_names_count c =
    let mid : List ℕ = columns_from (made c + made_count c) (heads c) ++ new_in_callee c in
    let a = length-append c.r.stage.here (mid ++ columns_from (made c + locals c) c.helpers) in
    let b = length-append mid (columns_from (made c + locals c) c.helpers) in
    let d = columns_count (made c + locals c) c.helpers in
    let e = mid_count c in
    omega (arith, a, b, d, e)

pub callee_long : (c : CallLetter) → length (callee_in c) ≡ heads c + (olds c + locals c)
callee_long c = (lay c).count

pub name_caller : (c : CallLetter) (x : ℕ) → x < width c → slice_index (call_names c) x ≡ slice_index c.r.stage.here x
name_caller c x l = index_left c.r.stage.here ((columns_from (made c + made_count c) (heads c) ++ new_in_callee c) ++ columns_from (made c + locals c) c.helpers) x l

name_mid : (c : CallLetter) (x j : ℕ) → x ≡ width c + j → j < heads c + (olds c + locals c) →
    slice_index (call_names c) x ≡ slice_index (columns_from (made c + made_count c) (heads c) ++ new_in_callee c) j
name_mid c x j e l =
    let m = mid_count c in
    ap (slice_index (call_names c)) e ∙
    index_right c.r.stage.here ((columns_from (made c + made_count c) (heads c) ++ new_in_callee c) ++ columns_from (made c + locals c) c.helpers) j ∙
    index_left (columns_from (made c + made_count c) (heads c) ++ new_in_callee c) (columns_from (made c + locals c) c.helpers) j (omega (arith, l, m))

name_new : (c : CallLetter) (x j : ℕ) → x ≡ width c + (heads c + j) → j < olds c + locals c → slice_index (call_names c) x ≡ slice_index (new_in_callee c) j
name_new c x j e l =
    name_mid c x (heads c + j) e (omega (arith, l)) ∙
    ap (λ (n : ℕ). slice_index (columns_from (made c + made_count c) (heads c) ++ new_in_callee c) (n + j)) (sym (columns_count (made c + made_count c) (heads c))) ∙
    index_right (columns_from (made c + made_count c) (heads c)) (new_in_callee c) j

new_old : (c : CallLetter) (i : ℕ) → i < olds c → slice_index (new_in_callee c) i ≡ made c + locals c + c.helpers + i
new_old c i l =
    let k = columns_count (made c + locals c + c.helpers) (olds c) in
    index_left (columns_from (made c + locals c + c.helpers) (olds c)) (columns_from (made c) (locals c)) i (omega (arith, l, k)) ∙ columns_at (made c + locals c + c.helpers) (olds c) i l

new_local : (c : CallLetter) (i : ℕ) → i < locals c → slice_index (new_in_callee c) (olds c + i) ≡ made c + i
new_local c i l =
    ap (λ (n : ℕ). slice_index (new_in_callee c) (n + i)) (sym (columns_count (made c + locals c + c.helpers) (olds c))) ∙
    index_right (columns_from (made c + locals c + c.helpers) (olds c)) (columns_from (made c) (locals c)) i ∙ columns_at (made c) (locals c) i l

pub name_old : (c : CallLetter) (x i : ℕ) → x ≡ width c + (heads c + i) → i < olds c → slice_index (call_names c) x ≡ made c + locals c + c.helpers + i
name_old c x i e l = name_new c x i e (omega (arith, l)) ∙ new_old c i l

pub name_local : (c : CallLetter) (x i : ℕ) → x ≡ width c + (heads c + (olds c + i)) → i < locals c → slice_index (call_names c) x ≡ made c + i
name_local c x i e l = name_new c x (olds c + i) e (omega (arith, l)) ∙ new_local c i l

pub name_helper : (c : CallLetter) (x i : ℕ) → x ≡ width c + (heads c + (olds c + locals c) + i) → i < c.helpers → slice_index (call_names c) x ≡ made c + locals c + i
name_helper c x i e l =
    let mid : List ℕ = columns_from (made c + made_count c) (heads c) ++ new_in_callee c in
    ap (slice_index (call_names c)) e ∙ index_right c.r.stage.here (mid ++ columns_from (made c + locals c) c.helpers) (heads c + (olds c + locals c) + i) ∙
    ap (λ (n : ℕ). slice_index (mid ++ columns_from (made c + locals c) c.helpers) (n + i)) (sym (mid_count c)) ∙
    index_right mid (columns_from (made c + locals c) c.helpers) i ∙ columns_at (made c + locals c) c.helpers i l

-- where a column of the system stands
pub data CallPlace (c : CallLetter) (x : ℕ) : Type 0 where
  of_caller : x < width c → CallPlace c x
  of_global : (i : ℕ) → i < heads c → x ≡ width c + i → CallPlace c x
  of_old : (i : ℕ) → i < olds c → x ≡ width c + (heads c + i) → CallPlace c x
  of_local : (i : ℕ) → i < locals c → x ≡ width c + (heads c + (olds c + i)) → CallPlace c x
  of_helper : (i : ℕ) → i < c.helpers → x ≡ width c + (heads c + (olds c + locals c) + i) → CallPlace c x

pub call_place : (c : CallLetter) (x : ℕ) → x < length (call_names c) → CallPlace c x
call_place c x l = by_caller (split_at (width c) x)
  where
    by_local : (k : ℕ) → x ≡ width c + (heads c + (olds c + k)) → (k < locals c) ⊎ ((i : ℕ) × (k ≡ locals c + i)) → CallPlace c x
    by_local k e (inl b) = of_local k b e
    by_local k e (inr h) = let i = h.1 in let n = call_names_count c in of_helper h.0 (omega (arith, e, i, n, l)) (omega (arith, e, i))

    by_old : (k : ℕ) → x ≡ width c + (heads c + k) → (k < olds c) ⊎ ((i : ℕ) × (k ≡ olds c + i)) → CallPlace c x
    by_old k e (inl b) = of_old k b e
    by_old k e (inr h) = let i = h.1 in by_local h.0 (omega (arith, e, i)) (split_at (locals c) h.0)

    by_global : (k : ℕ) → x ≡ width c + k → (k < heads c) ⊎ ((i : ℕ) × (k ≡ heads c + i)) → CallPlace c x
    by_global k e (inl b) = of_global k b e
    by_global k e (inr h) = let i = h.1 in by_old h.0 (omega (arith, e, i)) (split_at (olds c) h.0)

    by_caller : (x < width c) ⊎ ((k : ℕ) × (x ≡ width c + k)) → CallPlace c x
    by_caller (inl b) = of_caller b
    by_caller (inr h) = by_global h.0 h.1 (split_at (heads c) h.0)

-- the names are told apart
pub call_names_differ : (c : CallLetter) → DiffersBelow (length (call_names c)) (slice_index (call_names c))
call_names_differ c = places_differ (call_names c) distinct
  where
    in_new : (x : ℕ) → Member (new_in_callee c) x → ((made c ≤ x) × (x < made c + locals c)) ⊎ ((made c + locals c + c.helpers ≤ x) × (x < made c + made_count c))
    in_new x m = by_part (member_joined (columns_from (made c + locals c + c.helpers) (olds c)) (columns_from (made c) (locals c)) x m)
      where
        by_part : Member (columns_from (made c + locals c + c.helpers) (olds c)) x ⊎ Member (columns_from (made c) (locals c)) x →
            ((made c ≤ x) × (x < made c + locals c)) ⊎ ((made c + locals c + c.helpers ≤ x) × (x < made c + made_count c))
        by_part (inl k) = let h = columns_bounds (made c + locals c + c.helpers) (olds c) x k in let a = h.0 in let b = h.1 in inr (a, omega (arith, b))
        by_part (inr k) = inl (columns_bounds (made c) (locals c) x k)

    new_apart : AreDistinct (new_in_callee c)
    new_apart =
        distinct_joined (columns_from (made c + locals c + c.helpers) (olds c)) (columns_from (made c) (locals c)) (columns_distinct (made c + locals c + c.helpers) (olds c)) (columns_distinct (made c) (locals c))
        (λ x a b. (let p = (columns_bounds (made c + locals c + c.helpers) (olds c) x a).0 in let q = (columns_bounds (made c) (locals c) x b).1 in omega (arith, p, q)))

    mid_apart : AreDistinct (columns_from (made c + made_count c) (heads c) ++ new_in_callee c)
    mid_apart =
        distinct_joined (columns_from (made c + made_count c) (heads c)) (new_in_callee c) (columns_distinct (made c + made_count c) (heads c)) new_apart
        (λ x a b. (let p = (columns_bounds (made c + made_count c) (heads c) x a).0 in below p (in_new x b)))
      where
        below : {x : ℕ} → made c + made_count c ≤ x → ((made c ≤ x) × (x < made c + locals c)) ⊎ ((made c + locals c + c.helpers ≤ x) × (x < made c + made_count c)) → ⊥
        below p (inl h) = let q = h.1 in omega (arith, p, q)
        below p (inr h) = let q = h.1 in omega (arith, p, q)

    in_mid : (x : ℕ) → Member (columns_from (made c + made_count c) (heads c) ++ new_in_callee c) x → (made c ≤ x) × ((x < made c + locals c) ⊎ (made c + locals c + c.helpers ≤ x))
    in_mid x m = by_part (member_joined (columns_from (made c + made_count c) (heads c)) (new_in_callee c) x m)
      where
        by_new : ((made c ≤ x) × (x < made c + locals c)) ⊎ ((made c + locals c + c.helpers ≤ x) × (x < made c + made_count c)) → (made c ≤ x) × ((x < made c + locals c) ⊎ (made c + locals c + c.helpers ≤ x))
        by_new (inl h) = (h.0, inl h.1)
        by_new (inr h) = let a = h.0 in (omega (arith, a), inr h.0)

        by_part : Member (columns_from (made c + made_count c) (heads c)) x ⊎ Member (new_in_callee c) x → (made c ≤ x) × ((x < made c + locals c) ⊎ (made c + locals c + c.helpers ≤ x))
        by_part (inl k) = let h = (columns_bounds (made c + made_count c) (heads c) x k).0 in (omega (arith, h), inr (omega (arith, h)))
        by_part (inr k) = by_new (in_new x k)

    rest_apart : AreDistinct ((columns_from (made c + made_count c) (heads c) ++ new_in_callee c) ++ columns_from (made c + locals c) c.helpers)
    rest_apart =
        distinct_joined (columns_from (made c + made_count c) (heads c) ++ new_in_callee c) (columns_from (made c + locals c) c.helpers) mid_apart (columns_distinct (made c + locals c) c.helpers)
        (λ x a b. (let h = columns_bounds (made c + locals c) c.helpers x b in let p = h.0 in let q = h.1 in clash p q (in_mid x a).1))
      where
        clash : {x : ℕ} → made c + locals c ≤ x → x < made c + locals c + c.helpers → (x < made c + locals c) ⊎ (made c + locals c + c.helpers ≤ x) → ⊥
        clash p q (inl k) = omega (arith, p, k)
        clash p q (inr k) = omega (arith, q, k)

    in_rest : (x : ℕ) → Member ((columns_from (made c + made_count c) (heads c) ++ new_in_callee c) ++ columns_from (made c + locals c) c.helpers) x → made c ≤ x
    in_rest x m = by_part (member_joined (columns_from (made c + made_count c) (heads c) ++ new_in_callee c) (columns_from (made c + locals c) c.helpers) x m)
      where
        by_part : Member (columns_from (made c + made_count c) (heads c) ++ new_in_callee c) x ⊎ Member (columns_from (made c + locals c) c.helpers) x → made c ≤ x
        by_part (inl k) = (in_mid x k).0
        by_part (inr k) = let h = (columns_bounds (made c + locals c) c.helpers x k).0 in omega (arith, h)

    distinct : AreDistinct (call_names c)
    distinct =
        distinct_joined c.r.stage.here ((columns_from (made c + made_count c) (heads c) ++ new_in_callee c) ++ columns_from (made c + locals c) c.helpers) c.at.versions.differ rest_apart
        (λ x a b. (let p = member_below (made c) c.r.stage.here x c.at.versions.below a in let q = in_rest x b in omega (arith, p, q)))

-- ---- the entry

pub take_short : (n : ℕ) (xs : List ℕ) → n ≤ length xs → length (take n xs) ≡ n
take_short zero xs l = refl
take_short (suc n) [] l = absurd (omega (arith, l))
take_short (suc n) (x ∷ xs) l = ap suc (take_short n xs (omega (arith, l)))

pub heads_within : (c : CallLetter) → heads c ≤ width c
heads_within c =
    let a = (layout_of c.at.infos (caller_in c) c.at.from_frame).count in
    let b = caller_long c in
    omega (arith, a, b)

pub heads_are : (c : CallLetter) → length (globals_of (callee_in c)) ≡ heads c
heads_are c = ap (λ (l : List ℕ). length l) (lay c).globals ∙ columns_count 0 (heads c)

heads_taken : (c : CallLetter) → length (take (length (globals_of (callee_in c))) c.r.stage.here) ≡ heads c
heads_taken c =
    let a = heads_are c in
    let b = heads_within c in
    take_short (length (globals_of (callee_in c))) c.r.stage.here (omega (arith, a, b)) ∙ a

pub entry_long : (c : CallLetter) → length (entry_of c.g c.r c.callee c.helpers) ≡ length (callee_in c)
entry_long c =
    let a = length-append (take (length (globals_of (callee_in c))) c.r.stage.here) (new_in_callee c) in
    let b = heads_taken c in
    let d = length-append (columns_from (made c + locals c + c.helpers) (olds c)) (columns_from (made c) (locals c)) in
    let e = columns_count (made c + locals c + c.helpers) (olds c) in
    let f = columns_count (made c) (locals c) in
    let h = callee_long c in
    omega (arith, a, b, d, e, f, h)

index_taken : (n : ℕ) (xs : List ℕ) (j : ℕ) → j < n → slice_index (take n xs) j ≡ slice_index xs j
index_taken zero xs j l = absurd (omega (arith, l))
index_taken (suc n) [] j l = refl
index_taken (suc n) (x ∷ xs) zero l = refl
index_taken (suc n) (x ∷ xs) (suc j) l = index_taken n xs j (omega (arith, l))

pub entry_global : (c : CallLetter) (j : ℕ) → j < heads c → slice_index (entry_of c.g c.r c.callee c.helpers) j ≡ slice_index c.r.stage.here j
entry_global c j l =
    let a = heads_taken c in
    let b = heads_are c in
    index_left (take (length (globals_of (callee_in c))) c.r.stage.here) (new_in_callee c) j (omega (arith, a, l)) ∙ index_taken (length (globals_of (callee_in c))) c.r.stage.here j (omega (arith, b, l))

entry_new : (c : CallLetter) (j i : ℕ) → j ≡ heads c + i → slice_index (entry_of c.g c.r c.callee c.helpers) j ≡ slice_index (new_in_callee c) i
entry_new c j i e =
    ap (slice_index (entry_of c.g c.r c.callee c.helpers)) (e ∙ ap (λ (n : ℕ). n + i) (sym (heads_taken c))) ∙
    index_right (take (length (globals_of (callee_in c))) c.r.stage.here) (new_in_callee c) i

pub entry_old : (c : CallLetter) (j i : ℕ) → j ≡ heads c + i → i < olds c → slice_index (entry_of c.g c.r c.callee c.helpers) j ≡ made c + locals c + c.helpers + i
entry_old c j i e l = entry_new c j i e ∙ new_old c i l

pub entry_local : (c : CallLetter) (j i : ℕ) → j ≡ heads c + (olds c + i) → i < locals c → slice_index (entry_of c.g c.r c.callee c.helpers) j ≡ made c + i
entry_local c j i e l = entry_new c j (olds c + i) e ∙ new_local c i l
