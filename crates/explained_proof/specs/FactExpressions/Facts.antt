-- What is known at a node: a conjunction of rows and of predicates with cases.
use Rattle.std.specs.Prelude.{Bool, true, false, ◌&&◌, ◌||◌, not, int_lt, int_le, List, [], ◌∷◌, ◌++◌, if◌then◌else◌}
use Rattle.std.specs.List.{list_any, list_all}
use Rattle.std.specs.Ordering.{int_eq}
use Rattle.lin_rows.specs.Rows.{LinearRow}
use Rattle.triple_rows.specs.Predicates.{Formula, Formulas, truth, atom, and_of, or_of, no_formula, one_more}
use Rattle.explained_proof.specs.FactExpressions.Trees.{same_terms, same_formula}

pub record Facts : Type 0 where
  -- of which no two have equal terms
  pub rows : List LinearRow
  -- predicates that begin with `or`
  pub cases : List Formula
  -- whether false is among its parts
  pub never : Bool

abbrev pub no_facts : Facts
no_facts = record { rows = []; cases = []; never = false }

abbrev pub lesser : LinearRow → LinearRow → LinearRow
lesser r s = if int_lt r.bound s.bound then r else s

-- one row more; of rows with equal terms that with the least bound stays, where the first stands
abbrev pub with_row : LinearRow → List LinearRow → List LinearRow
with_row r [] = r ∷ []
with_row r (s ∷ rs) = if same_terms s r then lesser r s ∷ rs else s ∷ with_row r rs

-- one predicate with cases more, unless it is there
abbrev pub has_cases : List Formula → Formula → Bool
has_cases fs f = list_any (λ g. same_formula g f) fs

abbrev pub with_cases : Formula → List Formula → List Formula
with_cases f fs = if has_cases fs f then fs else fs ++ f ∷ []

abbrev mutual
  -- a predicate more; the parts of an `and` are parts of the conjunction
  pub gathered : Formula → Facts → Facts
  gathered (truth true) c = c
  gathered (truth false) c = record c { never = true }
  gathered (atom r) c = record c { rows = with_row r c.rows }
  gathered (and_of fs) c = all_gathered fs c
  gathered (or_of fs) c = record c { cases = with_cases (or_of fs) c.cases }

  pub all_gathered : Formulas → Facts → Facts
  all_gathered no_formula c = c
  all_gathered (one_more f fs) c = all_gathered fs (gathered f c)

-- several predicates together
abbrev pub facts_from : List Formula → Facts → Facts
facts_from [] c = c
facts_from (f ∷ fs) c = facts_from fs (gathered f c)

-- the second row says the first, or more
abbrev pub says : LinearRow → LinearRow → Bool
says r s = same_terms s r && int_le s.bound r.bound

abbrev pub is_equal : LinearRow → LinearRow → Bool
is_equal r s = same_terms s r && int_eq s.bound r.bound

-- one of the rows says this row, or more
abbrev pub says_row : List LinearRow → LinearRow → Bool
says_row rs r = list_any (says r) rs

-- the row is one of these
abbrev pub is_row : List LinearRow → LinearRow → Bool
is_row rs r = list_any (is_equal r) rs

-- the first implies the second, part by part
abbrev pub implies : Facts → Facts → Bool
implies c d = c.never || (list_all (says_row c.rows) d.rows && (list_all (has_cases c.cases) d.cases && not d.never))
