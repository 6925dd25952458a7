-- Conjunctions of expressions, and disjunctions of them.
use Rattle.std.specs.Prelude.{Bool, true, false, nat_le, List, [], ◌∷◌, ◌++◌, length, Option, None, Some, if◌then◌else◌}
use Rattle.boogie_tree.specs.declared.tree.Op.TheVariants as ops
use Rattle.boogie_tree.specs.Tree.{Expression}
use Rattle.explained_proof.specs.BuiltExpressions.Building.{truth, chained}

-- never true, or the members
pub record Conjuncts : Type 0 where
  pub never : Bool
  pub said : List Expression

abbrev pub always : Conjuncts
always = record { never = false; said = [] }

abbrev pub denied : Conjuncts
denied = record { never = true; said = [] }

abbrev pub just : Expression → Conjuncts
just e = record { never = false; said = e ∷ [] }

abbrev pub with_members : Conjuncts → Conjuncts → Conjuncts
with_members m n = if m.never then denied else (if n.never then denied else record { never = false; said = m.said ++ n.said })

abbrev pub or_truth : Bool → Option Expression → Expression
or_truth b None = truth b
or_truth b (Some e) = e

-- in one expression
abbrev pub joined : Conjuncts → Expression
joined m = if m.never then truth false else or_truth true (chained ops.And m.said)

-- as clauses of their own
abbrev pub clauses_of : Conjuncts → List Expression
clauses_of m = if m.never then truth false ∷ [] else m.said

abbrev pub is_always : Conjuncts → Bool
is_always m = if m.never then false else nat_le (length m.said) 0

abbrev pub may_be : List Conjuncts → List Expression
may_be [] = []
may_be (m ∷ ms) = if m.never then may_be ms else joined m ∷ may_be ms

abbrev pub just_or_denied : Option Expression → Conjuncts
just_or_denied None = denied
just_or_denied (Some e) = just e

-- that one of several expressions is true; none stands for one that is always true
abbrev pub either_of : Option (List Expression) → Conjuncts
either_of None = always
either_of (Some es) = just_or_denied (chained ops.Or es)

-- that one of several conjunctions is true; the first list has all of them
abbrev pub either : List Conjuncts → List Conjuncts → Conjuncts
either all [] = either_of (Some (may_be all))
either all (m ∷ ms) = if is_always m then always else either all ms

abbrev pub one_of : List Conjuncts → Conjuncts
one_of ms = either ms ms
