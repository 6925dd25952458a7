-- What conjunctions and disjunctions of facts say.
use Rattle.std.specs.Prelude.{ℕ, zero, suc, Bool, true, false, ◌||◌, List, [], ◌∷◌, map, Option, None, Some}
use Rattle.std.specs.List.{list_any, flat_map}
use Rattle.lin_rows.specs.Rows.{LinearRow}
use Rattle.triple_rows.specs.Predicates.{Formula, Formulas, or_of, no_formula, one_more}
use Rattle.explained_proof.specs.BuiltExpressions.Members.{Conjuncts, always, denied, with_members, one_of}
use Rattle.explained_proof.specs.RowExpressions.Scopes.{ClauseScope}
use Rattle.explained_proof.specs.RowExpressions.Options.{passes}
use Rattle.explained_proof.specs.FactExpressions.Facts.{Facts, no_facts, gathered}
use Rattle.explained_proof.specs.FactExpressions.Disjunctions.{Alternatives, either_of_all}
use Rattle.explained_proof.specs.FactExpressions.EntryRows.{cover_all, told_rows}

-- the row that is all a fact says, if it is one
abbrev pub only_row : Bool → List Formula → List LinearRow → Option LinearRow
only_row false [] (r ∷ []) = Some r
only_row b fs rs = None

abbrev pub row_alone : Facts → Option LinearRow
row_alone c = only_row c.never c.cases c.rows

abbrev pub covers_rest : List Facts → LinearRow → Bool
covers_rest cs r = list_any (λ c. passes (cover_all r) (row_alone c)) cs

-- the first fact is a row, and one of the facts is a row that covers all that it does not
abbrev pub first_is_covered : List Facts → Bool
first_is_covered [] = false
first_is_covered (c ∷ cs) = passes (covers_rest (c ∷ cs)) (row_alone c)

-- one of the facts holds anywhere, as two of them are rows that leave nothing between them
abbrev pub are_all : List Facts → Bool
are_all [] = false
are_all (c ∷ cs) = first_is_covered (c ∷ cs) || are_all cs

abbrev pub formula_list : Formulas → List Formula
formula_list no_formula = []
formula_list (one_more f fs) = f ∷ formula_list fs

-- the parts of a predicate with cases, each as a fact
abbrev pub parts_of : Formula → List Formula
parts_of (or_of fs) = formula_list fs
parts_of f = []

abbrev pub part_facts : Formula → List Facts
part_facts f = map (λ g. gathered g no_facts) (parts_of f)

abbrev pub never_or : Bool → Conjuncts → Conjuncts
never_or true m = denied
never_or false m = m

abbrev pub all_of : List Conjuncts → Conjuncts
all_of [] = always
all_of (m ∷ ms) = with_members m (all_of ms)

-- What a conjunction and a disjunction say, where it is told what predicates with cases say.
abbrev pub facts_with : (Formula → Conjuncts) → ClauseScope → Facts → Conjuncts
facts_with case_said s c = never_or c.never (with_members (told_rows s c.rows) (all_of (map case_said c.cases)))

abbrev pub unless_all : Bool → Conjuncts → Conjuncts
unless_all true m = always
unless_all false m = m

-- the predicate with cases that is all a fact says, if it is one
abbrev pub only_cases : Bool → List LinearRow → List Formula → Option Formula
only_cases false [] (f ∷ []) = Some f
only_cases b rs fs = None

abbrev pub cases_alone : Facts → Option Formula
cases_alone c = only_cases c.never c.rows c.cases

abbrev pub parts_or_whole : Facts → Option Formula → List Facts
parts_or_whole c None = c ∷ []
parts_or_whole c (Some f) = part_facts f

-- what is left of one fact: where that is a predicate with cases alone, its parts stand beside the others
abbrev pub rest_parts : Facts → List Facts
rest_parts c = parts_or_whole c (cases_alone c)

abbrev pub alternatives_with : (Formula → Conjuncts) → ClauseScope → Alternatives → Conjuncts
alternatives_with case_said s d =
    with_members (facts_with case_said s d.shared) (unless_all (are_all d.rests) (one_of (map (facts_with case_said s) (flat_map rest_parts d.rests))))

-- What a predicate with cases says: the disjunction of its parts. The number bounds how deep predicates stand within each other.
unfoldable pub cases_said : ℕ → ClauseScope → Formula → Conjuncts
cases_said zero s f = always
cases_said (suc n) s f = alternatives_with (cases_said n s) s (either_of_all (part_facts f))

-- An annotation has no more than 200 predicates within each other.
abbrev pub facts_said : ClauseScope → Facts → Conjuncts
facts_said s c = facts_with (cases_said 201 s) s c

abbrev pub alternatives_said : ClauseScope → Alternatives → Conjuncts
alternatives_said s d = alternatives_with (cases_said 201 s) s d
