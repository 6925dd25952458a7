-- Rows that tie two columns: their numbers, and what they add with their multipliers.
use Rattle.std.proofs.Common.{◌≡◌, ◌∙◌, inl, inr, ℕ, suc, ℤ, pos, negsuc, neg_ℤ, ◌*ℤ◌, Bool, true, false, List, [], ◌∷◌, length, map, refl, sym, ap, subst, arith}
use Rattle.std.specs.Prelude.{nat_eq, nat_lt, unsigned_abs, if◌then◌else◌}
use Rattle.std.specs.List.{AllByRecursion}
use Rattle.std.proofs.lemmas.Int.{ints}
use Rattle.std.proofs.lemmas.Bool.{eq-eqb, ne_eqb}
use Rattle.math_facts.specs.Terms.{coefficient}
use Rattle.nwa_base.specs.Members.{Member}
use Rattle.lin_rows.specs.declared.types.RowKind.TheVariants.{Eq}
use Rattle.lin_rows.specs.Rows.{LinearRow}
use Rattle.lin_rows.specs.Tightening.{all_divisible, greatest, content, divided, tightened}
use Rattle.lin_rows.proofs.SummedLaws.{coefficient-summed}
use Rattle.lin_rows.proofs.TighteningLaw.{all_divisible_one, tightened_as}
use Rattle.letter_acts.specs.Invariant.{AreDistinct}
use Rattle.letter_acts.specs.FrameRows.Rows.{equal_row}
use Rattle.nested_itp.specs.NestedRefutations.Refutations.{TreeSpot, Role, View}
use Rattle.nested_itp.proofs.NestedRefutations.RowsLaws.{AllPairs}
use Rattle.nested_itp.proofs.NestedRefutations.WayLaws.{other_of, others, RoleFits}
use Rattle.nested_itp.proofs.NestedRefutations.ContentLaws.{divided_back}

-- ---- one row

-- a row whose first coefficient is 1 or -1 has no greater divisor
content_one : (t : ℕ × ℤ) (ts : List (ℕ × ℤ)) → unsigned_abs t.1 ≡ 1 → content (t ∷ ts) ≡ 1
unfolding content
content_one t ts e =
    ap (greatest (λ g. all_divisible g (t ∷ ts))) e ∙
    ap (λ (z : Bool). if z then 1 else 0) (all_divisible_one (t ∷ ts))

equal_content : (a b : ℕ) → (a ≡ b → ⊥) → content (equal_row a b).terms ≡ 1
equal_content a b n = by_order (nat_lt a b) (ne_eqb a b n)
  where
    by_order : (z : Bool) → nat_eq a b ≡ false →
        content (if z then (a, pos 1) ∷ (b, negsuc 0) ∷ [] else (if nat_eq a b then [] else (b, negsuc 0) ∷ (a, pos 1) ∷ [])) ≡ 1
    by_order true e = content_one (a, pos 1) ((b, negsuc 0) ∷ []) refl
    by_order false e =
        ap (λ (y : Bool). content (if y then [] else (b, negsuc 0) ∷ (a, pos 1) ∷ [])) e ∙ content_one (b, negsuc 0) ((a, pos 1) ∷ []) refl

equal_tight : (a b : ℕ) → (a ≡ b → ⊥) → tightened (equal_row a b) ≡ record { terms = divided 1 (equal_row a b).terms; kind = Eq; bound = pos 0 }
equal_tight a b n = tightened_as (equal_row a b) 1 (equal_content a b n)

pub equal_coefficient : (a b x : ℕ) → (a ≡ b → ⊥) → coefficient x (tightened (equal_row a b)).terms ≡ coefficient x ((a, pos 1) ∷ (b, negsuc 0) ∷ [])
equal_coefficient a b x n =
    let d = divided_back x 1 (equal_row a b).terms (omega arith) (all_divisible_one (equal_row a b).terms) in
    let e : coefficient x (divided 1 (equal_row a b).terms) ≡ coefficient x (equal_row a b).terms = omega (arith, ints, d) in
    ap (λ (r : LinearRow). coefficient x r.terms) (equal_tight a b n) ∙ e ∙ coefficient-summed x ((a, pos 1) ∷ (b, negsuc 0) ∷ [])

pub equal_bound : (a b : ℕ) → (a ≡ b → ⊥) → (tightened (equal_row a b)).bound ≡ pos 0
equal_bound a b n = ap (λ (r : LinearRow). r.bound) (equal_tight a b n)

pub equal_kind : (a b : ℕ) → (a ≡ b → ⊥) → (tightened (equal_row a b)).kind ≡ Eq
equal_kind a b n = ap (λ (r : LinearRow). r.kind) (equal_tight a b n)

pub first_coefficient : (a b : ℕ) → (a ≡ b → ⊥) → coefficient a (tightened (equal_row a b)).terms ≡ pos 1
first_coefficient a b n =
    equal_coefficient a b a n ∙ rw (eq-eqb a a refl) (rw (ne_eqb b a (λ (e : b ≡ a). n (sym e))) refl)

pub second_coefficient : (a b : ℕ) → (a ≡ b → ⊥) → coefficient b (tightened (equal_row a b)).terms ≡ negsuc 0
second_coefficient a b n =
    equal_coefficient a b b n ∙ rw (ne_eqb a b n) (rw (eq-eqb b b refl) refl)

pub other_coefficient : (a b x : ℕ) → (a ≡ b → ⊥) → (a ≡ x → ⊥) → (b ≡ x → ⊥) → coefficient x (tightened (equal_row a b)).terms ≡ pos 0
other_coefficient a b x n p q =
    equal_coefficient a b x n ∙ rw (ne_eqb a x p) (rw (ne_eqb b x q) refl)

-- ---- rows with multipliers

-- rows that tie two columns each, with the multipliers of these roles
abbrev pub tie_rows : {X : Type 0} → (X → ℕ) → (X → ℕ) → List X → List LinearRow
tie_rows first second xs = map tightened (map (λ x. equal_row (first x) (second x)) xs)

-- no row ties a column to itself
abbrev pub AreTies : {X : Type 0} → (X → ℕ) → (X → ℕ) → List X → Type 0
AreTies first second xs = AllByRecursion (λ x. first x ≡ second x → ⊥) xs

nothing_added : (m : ℤ) → m *ℤ pos 0 ≡ pos 0
nothing_added m = omega (arith, ints)

once_added : (m : ℤ) → m *ℤ pos 1 ≡ m
once_added m = omega (arith, ints)

once_taken : (m : ℤ) → m *ℤ negsuc 0 ≡ neg_ℤ m
once_taken m = omega (arith, ints)

-- where the column is in none of the rows
pub ties_off : {X : Type 0} (val : Role → ℤ) (role : X → Role) (first second : X → ℕ) (y : ℕ) (xs : List X) → AreTies first second xs →
    AllByRecursion (λ x. (first x ≡ y → ⊥) × (second x ≡ y → ⊥)) xs → others val (λ r. coefficient y r.terms) (map role xs) (tie_rows first second xs) ≡ pos 0
ties_off val role first second y [] t h = refl
ties_off val role first second y (x ∷ xs) t h =
    let m : others val (λ r. coefficient y r.terms) (map role xs) (tie_rows first second xs) ≡ pos 0 = ties_off val role first second y xs t.1 h.1 in
    let e : other_of val (role x) *ℤ coefficient y (tightened (equal_row (first x) (second x))).terms ≡ pos 0 =
    ap (λ (z : ℤ). other_of val (role x) *ℤ z) (other_coefficient (first x) (second x) y t.0 h.0.0 h.0.1) ∙ nothing_added (other_of val (role x)) in
    omega (arith, ints, m, e)

-- where it is the first column of one row
pub ties_first : {X : Type 0} (val : Role → ℤ) (role : X → Role) (first second : X → ℕ) (z : X) (xs : List X) → AreTies first second xs → Member xs z → AreDistinct (map first xs) →
    AllByRecursion (λ x. second x ≡ first z → ⊥) xs → others val (λ r. coefficient (first z) r.terms) (map role xs) (tie_rows first second xs) ≡ other_of val (role z)
ties_first val role first second z [] t m d h = absurd m
ties_first {X = X} val role first second z (x ∷ xs) t (inl e) d h =
    let off = ties_off val role first second (first z) xs t.1 (all_off xs (λ q. d.0 (subst (Member (map first xs)) (sym (ap first e)) q)) h.1) in
    let one : other_of val (role x) *ℤ coefficient (first z) (tightened (equal_row (first x) (second x))).terms ≡ other_of val (role z) =
    ap (λ (u : ℕ). other_of val (role x) *ℤ coefficient u (tightened (equal_row (first x) (second x))).terms) (sym (ap first e)) ∙
    ap (λ (c : ℤ). other_of val (role x) *ℤ c) (first_coefficient (first x) (second x) t.0) ∙ once_added (other_of val (role x)) ∙ ap (λ (u : X). other_of val (role u)) e in
    omega (arith, ints, off, one)
  where
    all_off : (ys : List X) → (Member (map first ys) (first z) → ⊥) → AllByRecursion (λ y. second y ≡ first z → ⊥) ys → AllByRecursion (λ y. (first y ≡ first z → ⊥) × (second y ≡ first z → ⊥)) ys
    all_off [] n k = tt
    all_off (y ∷ ys) n k = (((λ q. n (inl q)), k.0), all_off ys (λ q. n (inr q)) k.1)
ties_first {X = X} val role first second z (x ∷ xs) t (inr m) d h =
    let rest = ties_first val role first second z xs t.1 m d.1 h.1 in
    let one : other_of val (role x) *ℤ coefficient (first z) (tightened (equal_row (first x) (second x))).terms ≡ pos 0 =
    ap (λ (c : ℤ). other_of val (role x) *ℤ c)
    (other_coefficient (first x) (second x) (first z) t.0 (λ q. d.0 (subst (Member (map first xs)) (sym q) (mapped xs m))) h.0) ∙ nothing_added (other_of val (role x)) in
    omega (arith, ints, rest, one)
  where
    mapped : (ys : List X) → Member ys z → Member (map first ys) (first z)
    mapped [] k = absurd k
    mapped (y ∷ ys) (inl e) = inl (ap first e)
    mapped (y ∷ ys) (inr k) = inr (mapped ys k)

-- where it is the second column of one row
pub ties_second : {X : Type 0} (val : Role → ℤ) (role : X → Role) (first second : X → ℕ) (z : X) (xs : List X) → AreTies first second xs → Member xs z → AreDistinct (map second xs) →
    AllByRecursion (λ x. first x ≡ second z → ⊥) xs → others val (λ r. coefficient (second z) r.terms) (map role xs) (tie_rows first second xs) ≡ neg_ℤ (other_of val (role z))
ties_second val role first second z [] t m d h = absurd m
ties_second {X = X} val role first second z (x ∷ xs) t (inl e) d h =
    let off = ties_off val role first second (second z) xs t.1 (all_off xs (λ q. d.0 (subst (Member (map second xs)) (sym (ap second e)) q)) h.1) in
    let one : other_of val (role x) *ℤ coefficient (second z) (tightened (equal_row (first x) (second x))).terms ≡ neg_ℤ (other_of val (role z)) =
    ap (λ (u : ℕ). other_of val (role x) *ℤ coefficient u (tightened (equal_row (first x) (second x))).terms) (sym (ap second e)) ∙
    ap (λ (c : ℤ). other_of val (role x) *ℤ c) (second_coefficient (first x) (second x) t.0) ∙ once_taken (other_of val (role x)) ∙ ap (λ (u : X). neg_ℤ (other_of val (role u))) e in
    omega (arith, ints, off, one)
  where
    all_off : (ys : List X) → (Member (map second ys) (second z) → ⊥) → AllByRecursion (λ y. first y ≡ second z → ⊥) ys → AllByRecursion (λ y. (first y ≡ second z → ⊥) × (second y ≡ second z → ⊥)) ys
    all_off [] n k = tt
    all_off (y ∷ ys) n k = ((k.0, (λ q. n (inl q))), all_off ys (λ q. n (inr q)) k.1)
ties_second {X = X} val role first second z (x ∷ xs) t (inr m) d h =
    let rest = ties_second val role first second z xs t.1 m d.1 h.1 in
    let one : other_of val (role x) *ℤ coefficient (second z) (tightened (equal_row (first x) (second x))).terms ≡ pos 0 =
    ap (λ (c : ℤ). other_of val (role x) *ℤ c)
    (other_coefficient (first x) (second x) (second z) t.0 h.0 (λ q. d.0 (subst (Member (map second xs)) (sym q) (mapped xs m)))) ∙ nothing_added (other_of val (role x)) in
    omega (arith, ints, rest, one)
  where
    mapped : (ys : List X) → Member ys z → Member (map second ys) (second z)
    mapped [] k = absurd k
    mapped (y ∷ ys) (inl e) = inl (ap second e)
    mapped (y ∷ ys) (inr k) = inr (mapped ys k)

-- they have the bound 0
pub ties_bound : {X : Type 0} (val : Role → ℤ) (role : X → Role) (first second : X → ℕ) (xs : List X) → AreTies first second xs → others val (λ r. r.bound) (map role xs) (tie_rows first second xs) ≡ pos 0
ties_bound val role first second [] t = refl
ties_bound val role first second (x ∷ xs) t =
    let m : others val (λ r. r.bound) (map role xs) (tie_rows first second xs) ≡ pos 0 = ties_bound val role first second xs t.1 in
    let e : other_of val (role x) *ℤ (tightened (equal_row (first x) (second x))).bound ≡ pos 0 =
    ap (λ (z : ℤ). other_of val (role x) *ℤ z) (equal_bound (first x) (second x) t.0) ∙ nothing_added (other_of val (role x)) in
    omega (arith, ints, m, e)

-- and are equalities
pub tie_pairs : {X : Type 0} (v : View) (root : TreeSpot) (all : List LinearRow) (role : X → Role) → ((x : X) (row : LinearRow) → row.kind ≡ Eq → RoleFits v root all (role x) row) →
    (first second : X → ℕ) (xs : List X) → AreTies first second xs → AllPairs (RoleFits v root all) (map role xs) (tie_rows first second xs)
tie_pairs v root all role f first second [] t = tt
tie_pairs v root all role f first second (x ∷ xs) t = (f x (tightened (equal_row (first x) (second x))) (equal_kind (first x) (second x) t.0), tie_pairs v root all role f first second xs t.1)

pub ties_counted : {X : Type 0} (role : X → Role) (first second : X → ℕ) (xs : List X) → length (map role xs) ≡ length (tie_rows first second xs)
ties_counted role first second [] = refl
ties_counted role first second (x ∷ xs) = ap suc (ties_counted role first second xs)
