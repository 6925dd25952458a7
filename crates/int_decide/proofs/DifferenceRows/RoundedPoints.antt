-- A rational point of difference rows, each value rounded down, is a point of them again; so the picked one is whole.
use Rattle.std.proofs.Common.{◌≡◌, ℕ, zero, suc, ℤ, pos, ◌<ℤ◌, List, [], ◌∷◌, ◌++◌, map, refl, sym, ap, ◌∙◌, subst, append_assoc, arith}
use Rattle.std.specs.List.{AllByRecursion}
use Rattle.std.proofs.lemmas.Int.{ints}
use Rattle.std.proofs.lemmas.List.{length-map}
use Rattle.math_facts.proofs.Division.{multiple_floor}
use Rattle.math_facts.proofs.Whole.{product_one_left}
use Rattle.frac.specs.Fractions.{Fraction, IsLowest, IsRatio}
use Rattle.lin_rows.specs.Rows.{LinearRow}
use Rattle.fm_elim.specs.Quotients.{whole, floor}
use Rattle.fm_elim.specs.Values.{value_at}
use Rattle.fm_elim.specs.Worth.{HoldsAt}
use Rattle.fm_elim.specs.Slices.{InSlice, IsPicked, IsPoint}
use Rattle.fm_elim.proofs.Slicing.{whole_lowest}
use Rattle.int_decide.specs.DifferenceRows.Differences.{IsDifference}
use Rattle.int_decide.proofs.DifferenceRows.Rounding.{IsRounded, floor_rounds, rounded_holds}

-- ---- values rounded down

abbrev round_down : Fraction → Fraction
round_down f = whole (floor f)

abbrev rounded : List Fraction → List Fraction
rounded values = map round_down values

floor_of_whole : (z : ℤ) → floor (whole z) ≡ z
floor_of_whole z = multiple_floor 1 z z (omega arith) (product_one_left z)

value_rounded : (values : List Fraction) (c : ℕ) → value_at (rounded values) c ≡ round_down (value_at values c)
value_rounded [] c = ap whole (sym (floor_of_whole (pos 0)))
value_rounded (x ∷ values) zero = refl
value_rounded (x ∷ values) (suc c) = value_rounded values c

all_lowest : (values : List Fraction) → AllByRecursion IsLowest (rounded values)
all_lowest [] = tt
all_lowest (x ∷ values) = (whole_lowest (floor x), all_lowest values)

den_positive : (values : List Fraction) (c : ℕ) → AllByRecursion IsLowest values → pos 0 <ℤ (value_at values c).den
den_positive [] c h = omega (arith, ints)
den_positive (x ∷ values) zero h = h.0.positive
den_positive (x ∷ values) (suc c) h = den_positive values c h.1

all_hold : (d : ℤ) (point low : ℕ → ℤ) (rows : List LinearRow) → pos 0 <ℤ d → ((c : ℕ) → IsRounded d (point c) (low c)) → AllByRecursion IsDifference rows →
    AllByRecursion (HoldsAt d point) rows → AllByRecursion (HoldsAt (pos 1) low) rows
all_hold d point low [] p r a h = tt
all_hold d point low (x ∷ rows) p r a h = (rounded_holds d point low p r x a.0 h.0, all_hold d point low rows p r a.1 h.1)

point_rounded : (n : ℕ) (rows : List LinearRow) (values : List Fraction) → AllByRecursion IsDifference rows → IsPoint n rows values → IsPoint n rows (rounded values)
point_rounded n rows values a i =
    let low : ℕ → ℤ = λ c. floor (value_at values c) in
    record {
      lowest = all_lowest values;
      meets = record {
        columns = length-map values round_down ∙ i.meets.columns;
        d = pos 1;
        p = low;
        positive = omega (arith, ints);
        values_are = λ c. subst (λ (f : Fraction). IsRatio f (low c) (pos 1)) (sym (value_rounded values c)) refl;
        holds = all_hold i.meets.d i.meets.p low rows i.meets.positive
            (λ c. floor_rounds (value_at values c).num (value_at values c).den (i.meets.p c) i.meets.d (den_positive values c i.lowest) i.meets.positive (i.meets.values_are c)) a i.meets.holds;
      };
    }

-- ---- the picked point

-- a value that is whole
abbrev pub IsWholeValue : Fraction → Type 0
IsWholeValue f = (z : ℤ) × (f ≡ whole z)

rounded_middle : (before rest : List Fraction) (v : Fraction) → AllByRecursion IsWholeValue before → rounded (before ++ v ∷ rest) ≡ before ++ round_down v ∷ rounded rest
rounded_middle [] rest v h = refl
rounded_middle (x ∷ before) rest v h =
    let e : round_down x ≡ x = ap round_down h.0.1 ∙ ap whole (floor_of_whole h.0.0) ∙ sym h.0.1 in
    ap (λ (y : Fraction). y ∷ rounded (before ++ v ∷ rest)) e ∙ ap (λ (ys : List Fraction). x ∷ ys) (rounded_middle before rest v h.1)

whole_more : (before : List Fraction) (v : Fraction) → AllByRecursion IsWholeValue before → IsWholeValue v → AllByRecursion IsWholeValue (before ++ v ∷ [])
whole_more [] v h i = (i, tt)
whole_more (x ∷ before) v h i = (h.0, whole_more before v h.1 i)

whole_from : (n : ℕ) (rows : List LinearRow) (values before rest : List Fraction) → AllByRecursion IsDifference rows → IsPicked (IsPoint n rows) values →
    values ≡ before ++ rest → AllByRecursion IsWholeValue before → AllByRecursion IsWholeValue rest
whole_from n rows values before [] a picked e h = tt
whole_from n rows values before (v ∷ rest) a picked e h =
    let slice : InSlice (IsPoint n rows) before (round_down v) = (
      rounded rest,
      subst (IsPoint n rows) (rounded_middle before rest v h)
          (point_rounded n rows (before ++ v ∷ rest) a (subst (IsPoint n rows) e picked.one)),
    ) in
    let near = (picked.picks before v rest e).nearest (floor v) slice in
    let here : IsWholeValue v = (near.0, near.1.0) in
    (here, whole_from n rows values (before ++ v ∷ []) rest a picked (e ∙ sym (append_assoc before (v ∷ []) rest)) (whole_more before v h here))

pub picked_is_whole : (n : ℕ) (rows : List LinearRow) (values : List Fraction) → AllByRecursion IsDifference rows → IsPicked (IsPoint n rows) values →
    AllByRecursion IsWholeValue values
picked_is_whole n rows values a picked = whole_from n rows values [] values a picked refl tt
