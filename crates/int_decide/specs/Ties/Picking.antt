-- A point that is shown to have the values which the elimination picks, up to the first that is not whole.
use Rattle.std.specs.Prelude.{◌<ℤ◌, ℕ, suc, ℤ, pos, ◌-ℤ◌, Bool, true, false, List, [], ◌∷◌, ◌++◌, nat_eq, unsigned_abs}
use Rattle.std.specs.List.{AllByRecursion}
use Rattle.frac.specs.Fractions.{Fraction, IsLowest, IsRatio}
use Rattle.lin_rows.specs.declared.types.RowKind.TheVariants.{Eq}
use Rattle.lin_rows.specs.Rows.{LinearRow}
use Rattle.farkas_check.specs.Refutes.{at_most, above}
use Rattle.fm_elim.specs.Worth.{HoldsAt, IsSolvable}
use Rattle.fm_elim.specs.Quotients.{floor}

-- each rational point that meets the rows meets the row
abbrev pub Implies : List LinearRow → LinearRow → Type 0
Implies rows r = (d : ℤ) (p : ℕ → ℤ) → AllByRecursion (HoldsAt d p) rows → HoldsAt d p r

-- the row `c = k`
abbrev pub fixed : ℕ → ℤ → LinearRow
fixed c k = record { terms = (c, pos 1) ∷ []; kind = Eq; bound = k }

-- no rational point that meets the rows has a whole value nearer to 0 than k in the column, or beyond 0
pub record IsNearest (rows : List LinearRow) (c : ℕ) (k : ℤ) : Type 0 where
  pub not_less : pos 0 <ℤ k → IsSolvable (rows ++ at_most c (k -ℤ pos 1) ∷ []) → ⊥
  pub not_more : k <ℤ pos 0 → IsSolvable (rows ++ above c k ∷ []) → ⊥

-- none has a value up to k there, nor one from k + 1 on
pub record IsApart (rows : List LinearRow) (c : ℕ) (k : ℤ) : Type 0 where
  pub not_below : IsSolvable (rows ++ at_most c k ∷ []) → ⊥
  pub not_above : IsSolvable (rows ++ above c k ∷ []) → ⊥

abbrev pub IfWhole : Bool → Type 0 → Type 0 → Type 0
IfWhole true P Q = P
IfWhole false P Q = Q

-- Up to the first value that is not whole, each is nearest where those before it stand; that one lies apart from the whole numbers.
-- The columns are counted from c.
abbrev pub ArePicked : List LinearRow → ℕ → List Fraction → Type 0
ArePicked rows c [] = Unit {0}
ArePicked rows c (f ∷ fs) =
    IfWhole (nat_eq (unsigned_abs f.den) 1)
    (IsNearest rows c f.num × ArePicked (rows ++ fixed c f.num ∷ []) (suc c) fs)
    (IsApart rows c (floor f))

-- p is the numerator of the fraction over d
pub record IsOver (d : ℤ) (f : Fraction) (p : ℤ) : Type 0 where
  pub lowest : IsLowest f
  pub ratio : IsRatio f p d

-- so it is for each fraction
abbrev pub AreOver : ℤ → List Fraction → List ℤ → Type 0
AreOver d [] [] = Unit {0}
AreOver d [] (p ∷ ps) = ⊥
AreOver d (f ∷ fs) [] = ⊥
AreOver d (f ∷ fs) (p ∷ ps) = IsOver d f p × AreOver d fs ps
