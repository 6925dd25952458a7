-- The predicate of a refutation at a position: the sums of its leaves, joined at its cuts.
use Rattle.std.specs.Prelude.{ℕ, Bool, true, false, List}
use Rattle.nwa_base.specs.declared.letters.Letter.{Letter}
use Rattle.letter_acts.specs.Invariant.{Graph}
use Rattle.farkas_check.specs.Refutes.{at_most, above}
use Rattle.farkas_check.specs.Trees.{Tree, leaf_tree, cut_tree, cases_tree}
use Rattle.triple_rows.specs.Predicates.{Formula, Formulas, truth, atom, and_of, or_of, no_formula, one_more}
use Rattle.nested_itp.specs.NestedPredicates.Stamps.{column_stamp, stamps_of}
use Rattle.nested_itp.specs.NestedPredicates.Positions.{Position, is_counted}
use Rattle.nested_itp.specs.NestedPredicates.Sums.{Branch, root_of, with_cut, sum_at}

abbrev pub both_of : Formula → Formula → Formulas
both_of a b = one_more a (one_more b no_formula)

-- by `or` where the cut is counted, else by `and`
abbrev pub joined_formulas : Bool → Formula → Formula → Formula
joined_formulas true a b = or_of (both_of a b)
joined_formulas false a b = and_of (both_of a b)

-- The sums of the leaves, joined at the cuts. A refutation of a word's rows, which have no groups, has no cases.
abbrev pub joined_at : List ℕ → Position → Branch → Tree → Formula
joined_at columns q b (leaf_tree parts) = sum_at b parts q
joined_at columns q b (cut_tree c k t u) =
    let stamp = column_stamp columns c in
    joined_formulas (is_counted q stamp)
    (joined_at columns q (with_cut b stamp (at_most c k)) t)
    (joined_at columns q (with_cut b stamp (above c k)) u)
joined_at columns q b (cases_tree ts) = truth false

-- ---- truth values are simplified away

-- a and b, where a is no truth value
abbrev pub and_before : Formula → Formula → Formula
and_before a (truth true) = a
and_before a (truth false) = truth false
and_before a (atom r) = and_of (both_of a (atom r))
and_before a (and_of fs) = and_of (both_of a (and_of fs))
and_before a (or_of fs) = and_of (both_of a (or_of fs))

-- a and b
abbrev pub and_joined : Formula → Formula → Formula
and_joined (truth true) b = b
and_joined (truth false) b = truth false
and_joined (atom r) b = and_before (atom r) b
and_joined (and_of fs) b = and_before (and_of fs) b
and_joined (or_of fs) b = and_before (or_of fs) b

-- a or b, where a is no truth value
abbrev pub or_before : Formula → Formula → Formula
or_before a (truth true) = truth true
or_before a (truth false) = a
or_before a (atom r) = or_of (both_of a (atom r))
or_before a (and_of fs) = or_of (both_of a (and_of fs))
or_before a (or_of fs) = or_of (both_of a (or_of fs))

-- a or b
abbrev pub or_joined : Formula → Formula → Formula
or_joined (truth true) b = truth true
or_joined (truth false) b = b
or_joined (atom r) b = or_before (atom r) b
or_joined (and_of fs) b = or_before (and_of fs) b
or_joined (or_of fs) b = or_before (or_of fs) b

-- the formula without truth values in it, or one alone
abbrev mutual
  pub simplified : Formula → Formula
  simplified (truth b) = truth b
  simplified (atom r) = atom r
  simplified (and_of fs) = all_simplified fs
  simplified (or_of fs) = some_simplified fs

  pub all_simplified : Formulas → Formula
  all_simplified no_formula = truth true
  all_simplified (one_more f fs) = and_joined (simplified f) (all_simplified fs)

  pub some_simplified : Formulas → Formula
  some_simplified no_formula = truth false
  some_simplified (one_more f fs) = or_joined (simplified f) (some_simplified fs)

-- the prefix predicate of a word at a position
abbrev pub predicate_at : Graph → List Letter → Tree → Position → Formula
predicate_at g w t q = simplified (joined_at (stamps_of g w).columns q (root_of g w) t)
