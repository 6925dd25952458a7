-- Which versions the rows of a word name: those of the frame, of frames that are returned to, and new ones.
use Rattle.std.proofs.Common.{◌≡◌, ◌∙◌, ◌⊎◌, inl, inr, ℕ, zero, suc, ◌+◌, ◌<◌, ◌≤◌, ℤ, pos, negsuc, List, [], ◌∷◌, ◌++◌, length, map, take, drop, refl, subst, arith, Option, None, Some}
use Rattle.std.specs.Prelude.{slice_index, slice_set}
use Rattle.std.specs.List.{AllByRecursion}
use Rattle.std.proofs.lemmas.Int.{ints}
use Rattle.std.proofs.lemmas.Bool.{ne_eqb}
use Rattle.math_facts.specs.Terms.{coefficient, IsBelow}
use Rattle.boogie_tree.specs.declared.tree.Ty.{Ty}
use Rattle.boogie_tree.specs.declared.tree.Ty.TheVariants as types
use Rattle.lin_rows.specs.Rows.{LinearRow}
use Rattle.lin_rows.proofs.SummedLaws.{coefficient-summed}
use Rattle.nwa_base.specs.Members.{Member}
use Rattle.letter_acts.specs.FrameRows.Rows.{renamed, equal_row, bounds_of, bounds, columns_from}
use Rattle.path_rows.specs.Versions.{written_over, entry_rows}
use Rattle.nested_itp.proofs.NestedRefutations.ContentLaws.{renamed_off}

-- columns without the property have the coefficient 0
abbrev pub NamesOnly : (ℕ → Type 0) → LinearRow → Type 0
NamesOnly P row = (x : ℕ) → (P x → ⊥) → coefficient x row.terms ≡ pos 0

pub names_weaker : (P Q : ℕ → Type 0) → ((x : ℕ) → P x → Q x) → (rows : List LinearRow) → AllByRecursion (NamesOnly P) rows → AllByRecursion (NamesOnly Q) rows
names_weaker P Q f [] h = tt
names_weaker P Q f (r ∷ rows) h = (λ x n. h.0 x (λ p. n (f x p)), names_weaker P Q f rows h.1)

pub all_joined : {X : Type 0} (P : X → Type 0) (xs ys : List X) → AllByRecursion P xs → AllByRecursion P ys → AllByRecursion P (xs ++ ys)
all_joined P [] ys h k = k
all_joined P (x ∷ xs) ys h k = (h.0, all_joined P xs ys h.1 k)

pub index_member : (xs : List ℕ) (j : ℕ) → j < length xs → Member xs (slice_index xs j)
index_member [] j l = absurd (omega (arith, l))
index_member (x ∷ xs) zero l = inl refl
index_member (x ∷ xs) (suc j) l = inr (index_member xs j (omega (arith, l)))

-- rows over names
pub renamed_named : (names : List ℕ) (rows : List LinearRow) → AllByRecursion (λ r. IsBelow (length names) r.terms) rows → AllByRecursion (NamesOnly (Member names)) (map (renamed (slice_index names)) rows)
renamed_named names [] h = tt
renamed_named names (r ∷ rows) h =
    (λ x n. renamed_off (length names) (slice_index names) x (λ j l e. n (subst (Member names) e (index_member names j l))) r h.0, renamed_named names rows h.1)

one_term : (c x : ℕ) (a : ℤ) → (c ≡ x → ⊥) → coefficient x ((c, a) ∷ []) ≡ pos 0
one_term c x a n = rw (ne_eqb c x n) (omega (arith, ints))

-- a row that ties two columns
pub equal_named : (a b : ℕ) → NamesOnly (λ x. (a ≡ x) ⊎ (b ≡ x)) (equal_row a b)
equal_named a b x n =
    coefficient-summed x ((a, pos 1) ∷ (b, negsuc 0) ∷ []) ∙
    rw (ne_eqb a x (λ (e : a ≡ x). n (inl e))) (rw (ne_eqb b x (λ (e : b ≡ x). n (inr e))) (omega (arith, ints)))

bounds_of_named : (c : ℕ) (t : Option Ty) → AllByRecursion (NamesOnly (λ x. c ≡ x)) (bounds_of c t)
bounds_of_named c None = tt
bounds_of_named c (Some types.Int) = tt
bounds_of_named c (Some types.Bool) = (
  λ x n. coefficient-summed x ((c, negsuc 0) ∷ []) ∙ one_term c x (negsuc 0) n,
  (λ x n. coefficient-summed x ((c, pos 1) ∷ []) ∙ one_term c x (pos 1) n, tt),
)

-- the bounds of columns from n on
pub bounds_named : (n : ℕ) (ts : List (Option Ty)) → AllByRecursion (NamesOnly (λ x. (n ≤ x) × (x < n + length ts))) (bounds n ts)
bounds_named n [] = tt
bounds_named n (t ∷ ts) =
    all_joined (NamesOnly (λ x. (n ≤ x) × (x < n + suc (length ts)))) (bounds_of n t) (bounds (suc n) ts)
    (names_weaker (λ x. n ≡ x) (λ x. (n ≤ x) × (x < n + suc (length ts))) (λ x e. (omega (arith, e), omega (arith, e))) (bounds_of n t) (bounds_of_named n t))
    (names_weaker (λ x. (suc n ≤ x) × (x < suc n + length ts)) (λ x. (n ≤ x) × (x < n + suc (length ts)))
    (λ x h. (let a = h.0 in let b = h.1 in (omega (arith, a), omega (arith, b)))) (bounds (suc n) ts) (bounds_named (suc n) ts))

-- entry rows name the columns from n on and those which these equal
pub entries_named : (n : ℕ) (gs : List ℕ) → AllByRecursion (NamesOnly (λ x. ((n ≤ x) × (x < n + length gs)) ⊎ Member gs x)) (entry_rows n gs)
entries_named n [] = tt
entries_named n (g ∷ gs) = (
  λ x h. equal_named n g x (by_either x h),
  names_weaker (λ x. ((suc n ≤ x) × (x < suc n + length gs)) ⊎ Member gs x) (λ x. ((n ≤ x) × (x < n + suc (length gs))) ⊎ Member (g ∷ gs) x) later (entry_rows (suc n) gs) (entries_named (suc n) gs),
)
  where
    by_either : (x : ℕ) → (((n ≤ x) × (x < n + suc (length gs))) ⊎ Member (g ∷ gs) x → ⊥) → (n ≡ x) ⊎ (g ≡ x) → ⊥
    by_either x h (inl e) = h (inl (omega (arith, e), omega (arith, e)))
    by_either x h (inr e) = h (inr (inl e))

    later : (x : ℕ) → ((suc n ≤ x) × (x < suc n + length gs)) ⊎ Member gs x → ((n ≤ x) × (x < n + suc (length gs))) ⊎ Member (g ∷ gs) x
    later x (inl p) = let a = p.0 in let b = p.1 in inl (omega (arith, a), omega (arith, b))
    later x (inr m) = inr (inr m)

-- ---- members of lists of versions

pub columns_bounds : (n k x : ℕ) → Member (columns_from n k) x → (n ≤ x) × (x < n + k)
columns_bounds n zero x h = absurd h
columns_bounds n (suc k) x (inl e) = (omega (arith, e), omega (arith, e))
columns_bounds n (suc k) x (inr m) = let h = columns_bounds (suc n) k x m in let a = h.0 in let b = h.1 in (omega (arith, a), omega (arith, b))

pub member_joined : (xs ys : List ℕ) (x : ℕ) → Member (xs ++ ys) x → Member xs x ⊎ Member ys x
member_joined [] ys x h = inr h
member_joined (z ∷ xs) ys x (inl e) = inl (inl e)
member_joined (z ∷ xs) ys x (inr m) = by_either (member_joined xs ys x m)
  where
    by_either : Member xs x ⊎ Member ys x → Member (z ∷ xs) x ⊎ Member ys x
    by_either (inl h) = inl (inr h)
    by_either (inr h) = inr h

pub member_taken : (n : ℕ) (xs : List ℕ) (x : ℕ) → Member (take n xs) x → Member xs x
member_taken zero xs x h = absurd h
member_taken (suc n) [] x h = absurd h
member_taken (suc n) (z ∷ xs) x (inl e) = inl e
member_taken (suc n) (z ∷ xs) x (inr m) = inr (member_taken n xs x m)

pub member_dropped : (n : ℕ) (xs : List ℕ) (x : ℕ) → Member (drop n xs) x → Member xs x
member_dropped zero xs x h = h
member_dropped (suc n) [] x h = absurd h
member_dropped (suc n) (z ∷ xs) x h = inr (member_dropped n xs x h)

member_set : (xs : List ℕ) (c v x : ℕ) → Member (slice_set xs c v) x → (v ≡ x) ⊎ Member xs x
member_set [] c v x h = absurd h
member_set (z ∷ xs) zero v x (inl e) = inl e
member_set (z ∷ xs) zero v x (inr m) = inr (inr m)
member_set (z ∷ xs) (suc c) v x (inl e) = inr (inl e)
member_set (z ∷ xs) (suc c) v x (inr m) = by_either (member_set xs c v x m)
  where
    by_either : (v ≡ x) ⊎ Member xs x → (v ≡ x) ⊎ Member (z ∷ xs) x
    by_either (inl e) = inl e
    by_either (inr h) = inr (inr h)

pub member_written : (here cs news : List ℕ) (x : ℕ) → Member (written_over here cs news) x → Member here x ⊎ Member news x
member_written here [] news x h = inl h
member_written here (c ∷ cs) [] x h = inl h
member_written here (c ∷ cs) (v ∷ news) x h = by_either (member_written (slice_set here c v) cs news x h)
  where
    at_set : (v ≡ x) ⊎ Member here x → Member here x ⊎ Member (v ∷ news) x
    at_set (inl e) = inr (inl e)
    at_set (inr m) = inl m

    by_either : Member (slice_set here c v) x ⊎ Member news x → Member here x ⊎ Member (v ∷ news) x
    by_either (inl m) = at_set (member_set here c v x m)
    by_either (inr m) = inr (inr m)
