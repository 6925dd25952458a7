-- Rows as members of conjunctions, by cases of their boolean columns.
use mathlib.Core.Bool.{beq}
use Rattle.std.specs.Prelude.{ℕ, ℤ, pos, Bool, true, false, ◌&&◌, int_le, nat_le, nat_eq, List, [], ◌∷◌, ◌++◌, filter, length, Option, None, Some, if◌then◌else◌}
use Rattle.std.specs.List.{list_all}
use Rattle.std.specs.Option.{option_map, option_and_then}
use Rattle.std.specs.Ordering.{int_eq}
use Rattle.boogie_tree.specs.Tree.{Expression}
use Rattle.lin_rows.specs.Rows.{LinearRow}
use Rattle.explained_proof.specs.BuiltExpressions.Members.{Conjuncts, always, denied}
use Rattle.explained_proof.specs.RowExpressions.Scopes.{ClauseScope, is_truth, can_say}
use Rattle.explained_proof.specs.RowExpressions.Sums.{sum_said}
use Rattle.explained_proof.specs.RowExpressions.Cases.{cases, rest, conditions, implied, excluded}

-- the terms of a row, its boolean columns apart where they are three at most
pub record ByTruths : Type 0 where
  pub numbers : List (ℕ × ℤ)
  pub truths : List (ℕ × ℤ)

-- the terms of boolean columns, or of the others
abbrev pub terms_of : ClauseScope → Bool → List (ℕ × ℤ) → List (ℕ × ℤ)
terms_of s b ts = filter (λ t. beq b (is_truth s t.0)) ts

abbrev pub apart : ClauseScope → List (ℕ × ℤ) → ByTruths
apart s ts =
    if nat_le (length (terms_of s true ts)) 3
    then record { numbers = terms_of s false ts; truths = terms_of s true ts }
    else record { numbers = ts; truths = [] }

-- whether the row, an equality or an inequality, is true where its whole numbers are none
abbrev pub stands : Bool → ℤ → Bool
stands true b = int_eq b (pos 0)
stands false b = int_le (pos 0) b

abbrev pub is_equal_to : Bool → Option Bool → Bool
is_equal_to b None = false
is_equal_to b (Some c) = beq b c

-- the row has no whole numbers, and is so in each case
abbrev pub is_constant : ByTruths → Bool → ℤ → Bool → Bool
is_constant t equal bound b =
    nat_eq (length t.numbers) 0 && list_all (λ c. is_equal_to b (option_map (stands equal) (rest bound t.truths c))) (cases (length t.truths))

abbrev pub alone : Expression → List Expression
alone e = e ∷ []

abbrev pub concluded : Option (List Expression) → Option Expression → Option (List Expression)
concluded None e = None
concluded (Some ps) None = None
concluded (Some ps) (Some e) = Some (implied ps e ∷ [])

-- what a row says under conditions, where that bound is left for the whole numbers
abbrev pub said_under : ClauseScope → Bool → List (ℕ × ℤ) → Option (List Expression) → ℤ → Option (List Expression)
said_under s equal [] ps b = if stands equal b then Some [] else option_map alone (option_and_then excluded ps)
said_under s equal (t ∷ ts) ps b = concluded ps (sum_said s equal (t ∷ ts) b)

-- what a row says in one case: nothing where it is true; none where it cannot be said
abbrev pub case_said : ClauseScope → ByTruths → Bool → ℤ → List Bool → Option (List Expression)
case_said s t equal bound c = option_and_then (said_under s equal t.numbers (conditions s t.truths c)) (rest bound t.truths c)

abbrev pub both_said : Option (List Expression) → Option (List Expression) → Option (List Expression)
both_said None o = None
both_said (Some es) None = None
both_said (Some es) (Some fs) = Some (es ++ fs)

-- what it says in several cases
abbrev pub cases_said : ClauseScope → ByTruths → Bool → ℤ → List (List Bool) → Option (List Expression)
cases_said s t equal bound [] = Some []
cases_said s t equal bound (c ∷ cs) = both_said (case_said s t equal bound c) (cases_said s t equal bound cs)

-- what cannot be said is false in a premise, and elsewhere true
abbrev pub or_missing : ClauseScope → Option (List Expression) → Conjuncts
or_missing s None = if s.premise then denied else always
or_missing s (Some es) = record { never = false; said = es }

abbrev pub can_say_all : ClauseScope → List (ℕ × ℤ) → Bool
can_say_all s ts = list_all (λ t. can_say s t.0) ts

abbrev pub if_sayable : ClauseScope → LinearRow → ByTruths → Bool → Option (List Expression)
if_sayable s r t equal = if can_say_all s r.terms then cases_said s t equal r.bound (cases (length t.truths)) else None

abbrev pub split_said : ClauseScope → LinearRow → ByTruths → Bool → Conjuncts
split_said s r t equal =
    if is_constant t equal r.bound true then always else (if is_constant t equal r.bound false then denied else or_missing s (if_sayable s r t equal))

-- what a row says, as an equality or an inequality
abbrev pub row_said : ClauseScope → LinearRow → Bool → Conjuncts
row_said s r equal = split_said s r (apart s r.terms) equal
