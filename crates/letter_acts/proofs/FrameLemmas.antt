-- Where the columns of frames stand: frames with the same globals have their constants, globals and old columns at the same places.
use Rattle.std.proofs.Common.{◌≡◌, ◌∙◌, ◌⊎◌, ℕ, suc, ◌+◌, ◌<◌, ◌≤◌, Bool, true, false, List, [], ◌∷◌, ◌++◌, length, refl, sym, ap, subst, inl, inr, arith, length-append, append-nil}
use Rattle.std.specs.Prelude.{map, not}
use Rattle.std.specs.List.{AllByRecursion}
use Rattle.boogie_tree.specs.declared.tree.Column.{Column}
use Rattle.boogie_tree.specs.declared.tree.Column.TheVariants.{Global, Old, Local}
use Rattle.boogie_tree.specs.declared.tree.VarInfo.{VarInfo}
use Rattle.nwa_base.specs.Members.{Member}
use Rattle.letter_acts.specs.Frames.{Columns, IsFrame, added, globals_from, old_columns, locals_from, is_global, is_fixed_column, is_variable, places, globals_of, constants_of, variables_of, old_at, olds_from, olds_of}
use Rattle.letter_acts.proofs.ListLemmas.{all_append, places-append, places_none, counted_up, length-counted_up, counted_up_member, counted_up_below}

-- a test that old columns and locals fail
pub record OfGlobals (test : Column × VarInfo → Bool) : Type 0 where
  pub olds : (n : ℕ) (v : VarInfo) → test (Old n, v) ≡ false
  pub locals : (n : ℕ) (v : VarInfo) → test (Local n, v) ≡ false

added_all : {X : Type 0} (P : X → Type 0) (b : Bool) (x : X) (xs : List X) → P x → AllByRecursion P xs → AllByRecursion P (added b x xs)
added_all P true x xs h g = (h, g)
added_all P false x xs h g = g

olds_fail : (test : Column × VarInfo → Bool) → OfGlobals test → (n : ℕ) (vs : List VarInfo) → AllByRecursion (λ c. test c ≡ false) (old_columns n vs)
olds_fail test t n [] = tt
olds_fail test t n (v ∷ vs) = added_all (λ c. test c ≡ false) (not v.constant) (Old n, v) (old_columns (suc n) vs) (t.olds n v) (olds_fail test t (suc n) vs)

locals_fail : (test : Column × VarInfo → Bool) → OfGlobals test → (n : ℕ) (vs : List VarInfo) → AllByRecursion (λ c. test c ≡ false) (locals_from n vs)
locals_fail test t n [] = tt
locals_fail test t n (v ∷ vs) = (t.locals n v, locals_fail test t (suc n) vs)

-- the places of globals that pass a test are the same in each frame
pub places_of_globals : (test : Column × VarInfo → Bool) → OfGlobals test → (globals : List VarInfo) (frame : Columns) → IsFrame globals frame →
    places test 0 frame ≡ places test 0 (globals_from 0 globals)
places_of_globals test t globals frame f =
    let rest : Columns = old_columns 0 globals ++ locals_from 0 f.locals in
    let m : ℕ = 0 + length (globals_from 0 globals) in
    ap (places test 0) f.columns ∙
    places-append test (globals_from 0 globals) rest 0 m refl ∙
    ap (λ (l : List ℕ). places test 0 (globals_from 0 globals) ++ l)
    (places_none test rest m (all_append (λ c. test c ≡ false) (old_columns 0 globals) (locals_from 0 f.locals) (olds_fail test t 0 globals) (locals_fail test t 0 f.locals))) ∙
    append-nil (places test 0 (globals_from 0 globals))

of_global : OfGlobals is_global
of_global = record { olds = λ n v. refl; locals = λ n v. refl }

of_constant : OfGlobals is_fixed_column
of_constant = record { olds = λ n v. refl; locals = λ n v. refl }

of_variable : OfGlobals is_variable
of_variable = record { olds = λ n v. refl; locals = λ n v. refl }

globals_counted : (n : ℕ) (vs : List VarInfo) → places is_global n (globals_from n vs) ≡ counted_up n (length vs)
globals_counted n [] = refl
globals_counted n (v ∷ vs) = ap (λ (l : List ℕ). n ∷ l) (globals_counted (suc n) vs)

-- the constants and globals are the first columns
pub globals_are : (globals : List VarInfo) (frame : Columns) → IsFrame globals frame → globals_of frame ≡ counted_up 0 (length globals)
globals_are globals frame f = places_of_globals is_global of_global globals frame f ∙ globals_counted 0 globals

pub global_count : (globals : List VarInfo) (frame : Columns) → IsFrame globals frame → length (globals_of frame) ≡ length globals
global_count globals frame f = ap length (globals_are globals frame f) ∙ length-counted_up 0 (length globals)

pub variables_are : (globals : List VarInfo) (frame : Columns) → IsFrame globals frame → variables_of frame ≡ places is_variable 0 (globals_from 0 globals)
variables_are globals frame f = places_of_globals is_variable of_variable globals frame f

pub constants_are : (globals : List VarInfo) (frame : Columns) → IsFrame globals frame → constants_of frame ≡ places is_fixed_column 0 (globals_from 0 globals)
constants_are globals frame f = places_of_globals is_fixed_column of_constant globals frame f

added_member : (b : Bool) (x : ℕ) (xs : List ℕ) (c : ℕ) → Member xs c → Member (added b x xs) c
added_member true x xs c m = inr m
added_member false x xs c m = m

member_added : (b : Bool) (x : ℕ) (xs : List ℕ) (c : ℕ) → Member (added b x xs) c → (x ≡ c) ⊎ Member xs c
member_added true x xs c m = m
member_added false x xs c m = inr m

-- each of the first columns is a global that may change, or a constant
either_here : (b : Bool) (n c : ℕ) (xs ys : List ℕ) → n ≡ c → Member (added (not b) n xs) c ⊎ Member (added b n ys) c
either_here true n c xs ys e = inr (inl e)
either_here false n c xs ys e = inl (inl e)

either_from : (n : ℕ) (vs : List VarInfo) (c : ℕ) → Member (counted_up n (length vs)) c →
    Member (places is_variable n (globals_from n vs)) c ⊎ Member (places is_fixed_column n (globals_from n vs)) c
either_from n [] c m = absurd m
either_from n (v ∷ vs) c m = elim m [
  | inl e ↦ either_here v.constant n c (places is_variable (suc n) (globals_from (suc n) vs)) (places is_fixed_column (suc n) (globals_from (suc n) vs)) e
  | inr h ↦
      elim (either_from (suc n) vs c h) [
        | inl i ↦ inl (added_member (not v.constant) n (places is_variable (suc n) (globals_from (suc n) vs)) c i)
        | inr i ↦ inr (added_member v.constant n (places is_fixed_column (suc n) (globals_from (suc n) vs)) c i)
      ]
]

pub variable_or_constant : (globals : List VarInfo) (frame other : Columns) → IsFrame globals frame → IsFrame globals other → (c : ℕ) → c < length globals →
    Member (variables_of frame) c ⊎ Member (constants_of other) c
variable_or_constant globals frame other f o c l =
    elim (either_from 0 globals c (counted_up_member 0 (length globals) c (omega arith) (omega arith))) [
      | inl h ↦ inl (subst (λ (xs : List ℕ). Member xs c) (sym (variables_are globals frame f)) h)
      | inr h ↦ inr (subst (λ (xs : List ℕ). Member xs c) (sym (constants_are globals other o)) h)
    ]

variable_counted : (n : ℕ) (vs : List VarInfo) (c : ℕ) → Member (places is_variable n (globals_from n vs)) c → Member (counted_up n (length vs)) c
variable_counted n [] c m = absurd m
variable_counted n (v ∷ vs) c m = elim (member_added (not v.constant) n (places is_variable (suc n) (globals_from (suc n) vs)) c m) [
  | inl e ↦ inl e
  | inr h ↦ inr (variable_counted (suc n) vs c h)
]

pub variable_below : (globals : List VarInfo) (frame : Columns) → IsFrame globals frame → (c : ℕ) → Member (variables_of frame) c → c < length globals
variable_below globals frame f c m =
    let h = variable_counted 0 globals c (subst (λ (xs : List ℕ). Member xs c) (variables_are globals frame f) m) in
    let b = counted_up_below 0 (length globals) c h in
    omega (arith, b)

-- old columns stand one after the other, from n on
abbrev pub IsConsecutive : ℕ → List (ℕ × ℕ) → Type 0
IsConsecutive n [] = Unit {0}
IsConsecutive n (o ∷ os) = (o.0 ≡ n) × IsConsecutive (suc n) os

old_at-append : (c : Column) (n : ℕ) (xs ys : List (ℕ × ℕ)) → old_at c n (xs ++ ys) ≡ old_at c n xs ++ ys
old_at-append (Global g) n xs ys = refl
old_at-append (Old g) n xs ys = refl
old_at-append (Local l) n xs ys = refl

olds_from-append : (xs ys : Columns) (n m : ℕ) → m ≡ n + length xs → olds_from n (xs ++ ys) ≡ olds_from n xs ++ olds_from m ys
olds_from-append [] ys n m e = ap (λ (k : ℕ). olds_from k ys) (let i : n ≡ m = omega (arith, e) in i)
olds_from-append (c ∷ xs) ys n m e =
    ap (old_at c.0 n) (olds_from-append xs ys (suc n) m (omega (arith, e))) ∙ old_at-append c.0 n (olds_from (suc n) xs) (olds_from m ys)

no_global_olds : (n k : ℕ) (vs : List VarInfo) → olds_from n (globals_from k vs) ≡ []
no_global_olds n k [] = refl
no_global_olds n k (v ∷ vs) = no_global_olds (suc n) (suc k) vs

no_local_olds : (n k : ℕ) (vs : List VarInfo) → olds_from n (locals_from k vs) ≡ []
no_local_olds n k [] = refl
no_local_olds n k (v ∷ vs) = no_local_olds (suc n) (suc k) vs

length-globals_from : (n : ℕ) (vs : List VarInfo) → length (globals_from n vs) ≡ length vs
length-globals_from n [] = refl
length-globals_from n (v ∷ vs) = ap suc (length-globals_from (suc n) vs)

-- the old columns of a frame are those of its old part, which stands after the globals
pub olds_are : (globals : List VarInfo) (frame : Columns) → IsFrame globals frame → olds_of frame ≡ olds_from (length globals) (old_columns 0 globals)
olds_are globals frame f =
    let n : ℕ = length globals in
    let front : Columns = globals_from 0 globals in
    let olds : Columns = old_columns 0 globals in
    let m : ℕ = n + length olds in
    let at : n ≡ 0 + length front = let e = length-globals_from 0 globals in omega (arith, e) in
    ap (olds_from 0) f.columns ∙
    olds_from-append front (olds ++ locals_from 0 f.locals) 0 n at ∙
    ap (λ (l : List (ℕ × ℕ)). l ++ olds_from n (olds ++ locals_from 0 f.locals)) (no_global_olds 0 0 globals) ∙
    olds_from-append olds (locals_from 0 f.locals) n m refl ∙
    ap (λ (l : List (ℕ × ℕ)). olds_from n olds ++ l) (no_local_olds m 0 f.locals) ∙
    append-nil (olds_from n olds)

old_part_next : (b : Bool) (n k : ℕ) (v : VarInfo) (rest : Columns) → IsConsecutive n (olds_from n rest) → IsConsecutive (suc n) (olds_from (suc n) rest) →
    IsConsecutive n (olds_from n (added b (Old k, v) rest))
old_part_next true n k v rest h g = (refl, g)
old_part_next false n k v rest h g = h

old_part_consecutive : (n k : ℕ) (vs : List VarInfo) → IsConsecutive n (olds_from n (old_columns k vs))
old_part_consecutive n k [] = tt
old_part_consecutive n k (v ∷ vs) =
    old_part_next (not v.constant) n k v (old_columns (suc k) vs) (old_part_consecutive n (suc k) vs) (old_part_consecutive (suc n) (suc k) vs)

pub olds_consecutive : (globals : List VarInfo) (frame : Columns) → IsFrame globals frame → IsConsecutive (length globals) (olds_of frame)
olds_consecutive globals frame f = subst (IsConsecutive (length globals)) (sym (olds_are globals frame f)) (old_part_consecutive (length globals) 0 globals)

variables_next : (b : Bool) (n k : ℕ) (v : VarInfo) (rest : Columns) (xs : List ℕ) →
    map (λ o. o.1) (olds_from n rest) ≡ xs → map (λ o. o.1) (olds_from (suc n) rest) ≡ xs → map (λ o. o.1) (olds_from n (added b (Old k, v) rest)) ≡ added b k xs
variables_next true n k v rest xs h g = ap (λ (l : List ℕ). k ∷ l) g
variables_next false n k v rest xs h g = h

olds_variables : (n k : ℕ) (vs : List VarInfo) → map (λ o. o.1) (olds_from n (old_columns k vs)) ≡ places is_variable k (globals_from k vs)
olds_variables n k [] = refl
olds_variables n k (v ∷ vs) =
    variables_next (not v.constant) n k v (old_columns (suc k) vs) (places is_variable (suc k) (globals_from (suc k) vs))
    (olds_variables n (suc k) vs) (olds_variables (suc n) (suc k) vs)

-- the globals of the old columns are those that may change
pub olds_of_variables : (globals : List VarInfo) (frame : Columns) → IsFrame globals frame → map (λ o. o.1) (olds_of frame) ≡ variables_of frame
olds_of_variables globals frame f =
    ap (λ (l : List (ℕ × ℕ)). map (λ o. o.1) l) (olds_are globals frame f) ∙ olds_variables (length globals) 0 globals ∙ sym (variables_are globals frame f)

length_next : (b : Bool) (n k : ℕ) (v : VarInfo) (rest : Columns) → length (olds_from n rest) ≡ length rest → length (olds_from (suc n) rest) ≡ length rest →
    length (olds_from n (added b (Old k, v) rest)) ≡ length (added b (Old k, v) rest)
length_next true n k v rest h g = ap suc g
length_next false n k v rest h g = h

length-olds : (n k : ℕ) (vs : List VarInfo) → length (olds_from n (old_columns k vs)) ≡ length (old_columns k vs)
length-olds n k [] = refl
length-olds n k (v ∷ vs) = length_next (not v.constant) n k v (old_columns (suc k) vs) (length-olds n (suc k) vs) (length-olds (suc n) (suc k) vs)

-- globals and old columns are within the frame
pub olds_within : (globals : List VarInfo) (frame : Columns) → IsFrame globals frame → length globals + length (olds_of frame) ≤ length frame
olds_within globals frame f =
    let a = ap length f.columns in
    let b = length-append (globals_from 0 globals) (old_columns 0 globals ++ locals_from 0 f.locals) in
    let d = length-append (old_columns 0 globals) (locals_from 0 f.locals) in
    let e = length-globals_from 0 globals in
    let g = ap length (olds_are globals frame f) in
    let h = length-olds (length globals) 0 globals in
    omega (arith, a, b, d, e, g, h)
