-- Cases of the truth values of boolean columns.
use Rattle.std.specs.Prelude.{ℕ, zero, suc, ◌^◌, ℤ, ◌-ℤ◌, unsigned_abs, nat_lt, Bool, true, false, List, [], ◌∷◌, ◌++◌, map, Option, None, Some, if◌then◌else◌}
use Rattle.std.specs.Option.{option_map, option_and_then}
use Rattle.boogie_tree.specs.declared.tree.Op.TheVariants as ops
use Rattle.boogie_tree.specs.Tree.{Expression, Not}
use Rattle.explained_proof.specs.BuiltExpressions.Building.{operation, chained, not_of}
use Rattle.explained_proof.specs.RowExpressions.Options.{in_front}
use Rattle.explained_proof.specs.RowExpressions.Scopes.{ClauseScope, said}

-- the cases of so many truth values: true first, the last one changing first
abbrev pub cases : ℕ → List (List Bool)
cases zero = [] ∷ []
cases (suc n) = map (λ c. true ∷ c) (cases n) ++ map (λ c. false ∷ c) (cases n)

-- the number, if it fits
abbrev pub fit : ℤ → Option ℤ
fit z = if nat_lt (unsigned_abs z) (2 ^ 127) then Some z else None

-- What is left of a bound for the whole numbers, behind the coefficients of the columns that are true in a case; none where a number does not fit.
abbrev pub rest : ℤ → List (ℕ × ℤ) → List Bool → Option ℤ
rest b [] c = Some b
rest b (t ∷ ts) [] = Some b
rest b (t ∷ ts) (true ∷ c) = option_and_then (λ r. rest r ts c) (fit (b -ℤ t.1))
rest b (t ∷ ts) (false ∷ c) = rest b ts c

-- a boolean column or its negation
abbrev pub as_is : Bool → Expression → Expression
as_is true e = e
as_is false e = not_of e

abbrev pub condition_said : ClauseScope → ℕ → Bool → Option Expression
condition_said s n b = option_map (as_is b) (said s n)

-- the columns as they are in a case
abbrev pub conditions : ClauseScope → List (ℕ × ℤ) → List Bool → Option (List Expression)
conditions s [] c = Some []
conditions s (t ∷ ts) [] = Some []
conditions s (t ∷ ts) (b ∷ c) = in_front (condition_said s t.0 b) (conditions s ts c)

abbrev pub under : Option Expression → Expression → Expression
under None e = e
under (Some p) e = operation ops.Implies p e

-- the conclusion where the conditions hold
abbrev pub implied : List Expression → Expression → Expression
implied ps e = under (chained ops.And ps) e

-- the opposite, without a second `!`
abbrev pub opposite_of : Expression → Expression
opposite_of (Not at e) = e
opposite_of e = not_of e

-- That the conditions do not hold together: the opposite of the last where the others hold, which the first list begins with.
abbrev pub excluded_from : List Expression → List Expression → Option Expression
excluded_from ps [] = None
excluded_from ps (e ∷ []) = Some (implied ps (opposite_of e))
excluded_from ps (e ∷ (f ∷ fs)) = excluded_from (ps ++ e ∷ []) (f ∷ fs)

abbrev pub excluded : List Expression → Option Expression
excluded es = excluded_from [] es
