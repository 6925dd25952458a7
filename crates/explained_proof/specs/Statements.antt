-- Statements with invariants at their loops and assertions behind their labels.
use Rattle.std.specs.Prelude.{ℕ, ◌+◌, Bool, true, false, ◌&&◌, not, List, [], ◌∷◌, ◌++◌, map, length, Option, None, Some, if◌then◌else◌}
use Rattle.boogie_tree.specs.declared.span.Span.{Span}
use Rattle.boogie_tree.specs.Apart.{nowhere}
use Rattle.boogie_tree.specs.Tree.{Expression, Guard, Invariant, Statement, Assert, Call, If, While, Label, Block, Empty, Then}
use Rattle.typed_tree.specs.TypedTree as typed
use Rattle.typed_tree.specs.TypedTree.{TypedStatement, TypedBlock, TypedProcedure}
use Rattle.typed_tree.specs.TypingRules.Counts.{points, block_points}
use Rattle.explained_proof.specs.declared.row_expressions.scopes.Position.TheVariants.{Body}
use Rattle.explained_proof.specs.Clauses.{KnownProcedure, holding}
use Rattle.explained_proof.specs.Backwards.{breaks_to}

-- the procedure whose body it is, all procedures, and the labels of the body to which a goto behind them leads
pub record Setting : Type 0 where
  pub procs : List TypedProcedure
  pub procedure : KnownProcedure
  pub backwards : ℕ → Bool

-- what is left of a list of statements whose names are replaced, and the number of its first place
pub record Left : Type 0 where
  pub rest : TypedBlock
  pub at : ℕ

abbrev pub left : TypedBlock → ℕ → Left
left b n = record { rest = b; at = n }

-- behind the first statement
abbrev pub past_in : List TypedProcedure → TypedBlock → ℕ → Left
past_in procs typed.Empty n = left typed.Empty n
past_in procs (typed.Then s b) n = left b (n + points procs s)

abbrev pub past : List TypedProcedure → Left → Left
past procs l = past_in procs l.rest l.at

abbrev pub is_assignment : TypedStatement → Bool
is_assignment (typed.Assign at cs es) = true
is_assignment s = false

-- behind the assignments to hidden locals before a call
abbrev pub past_hidden_in : TypedBlock → ℕ → Left
past_hidden_in typed.Empty n = left typed.Empty n
past_hidden_in (typed.Then s b) n = if is_assignment s then past_hidden_in b (n + 1) else left (typed.Then s b) n

abbrev pub past_hidden : Left → Left
past_hidden l = past_hidden_in l.rest l.at

abbrev pub nothing_at : ℕ → Left
nothing_at n = left typed.Empty n

-- the first and the second branch of a branch, and the body of a loop behind its invariants and its guard
abbrev pub then_of : TypedStatement → ℕ → Left
then_of (typed.If at g x y) n = left x (n + 1)
then_of s n = nothing_at n

abbrev pub otherwise_of : List TypedProcedure → TypedStatement → ℕ → Left
otherwise_of procs (typed.If at g x y) n = left y ((n + 1) + block_points procs x)
otherwise_of procs s n = nothing_at n

abbrev pub body_of : TypedStatement → ℕ → Left
body_of (typed.While at g is x) n = left x ((n + length is) + 1)
body_of s n = nothing_at n

-- the same of the first statement that is left
abbrev pub in_first : (TypedStatement → ℕ → Left) → TypedBlock → ℕ → Left
in_first part typed.Empty n = nothing_at n
in_first part (typed.Then s b) n = part s n

abbrev pub first_branch : Left → Left
first_branch l = in_first then_of l.rest l.at

abbrev pub second_branch : List TypedProcedure → Left → Left
second_branch procs l = in_first (otherwise_of procs) l.rest l.at

abbrev pub loop_body : Left → Left
loop_body l = in_first body_of l.rest l.at

abbrev pub condition : Expression → Invariant
condition e = record { span = nowhere; free = false; cond = e }

-- what holds at a place
abbrev pub held : Setting → ℕ → List Expression
held w place = holding w.procedure Body place

abbrev pub asserted : Expression → Statement
asserted e = Assert nowhere e

-- statements in front of others
abbrev pub before : List Statement → Block → Block
before [] b = b
before (s ∷ ss) b = Then s (before ss b)

abbrev pub is_among : (ℕ → Bool) → TypedStatement → Bool
is_among backwards (typed.Label n) = backwards n
is_among backwards s = false

-- a label to which a goto behind it leads stands first
abbrev pub leads_backwards : (ℕ → Bool) → TypedBlock → Bool
leads_backwards backwards typed.Empty = false
leads_backwards backwards (typed.Then s b) = is_among backwards s

abbrev pub first_breaks_to : List ℕ → Block → Bool
first_breaks_to name Empty = false
first_breaks_to name (Then s b) = breaks_to name s

-- a break in the loop behind the label names it, for which the loop has to stand there
abbrev pub is_left : Statement → Block → Bool
is_left (Label x) b = first_breaks_to x.text b
is_left s b = false

abbrev pub left_labels : Block → List Bool
left_labels Empty = []
left_labels (Then s b) = is_left s b ∷ left_labels b

abbrev pub flag : Option Bool → Bool
flag None = false
flag (Some b) = b

-- The assertions behind a label: what holds there, where a goto behind it leads there and no break names it.
abbrev pub assertions_behind : Setting → Bool → Left → List Expression
assertions_behind w is_left l = if leads_backwards w.backwards l.rest && not is_left then held w l.at else []

-- what is left behind a statement
abbrev pub behind : List TypedProcedure → Statement → Left → Left
behind procs (Call at xs f es) l = past procs (past_hidden l)
behind procs s l = past procs l

abbrev pub branched : Span → Guard → Block → Block → Statement
branched at g a b = If at g a b

abbrev pub looped : Span → Guard → List Invariant → Block → Statement
looped at g is b = While at g is b

abbrev mutual
  -- the statements of a list, along what is left of the same list with names replaced
  pub explained_block : Setting → Block → Left → Block
  explained_block w Empty l = Empty
  explained_block w (Then s b) l =
      Then (explained_statement w s l) (before (map asserted (assertions_behind w (is_left s b) l)) (explained_block w b (behind w.procs s l)))

  pub explained_statement : Setting → Statement → Left → Statement
  explained_statement w (If at g a b) l =
      If at g (explained_block w a (first_branch l)) (explained_block w b (second_branch w.procs l))
  explained_statement w (While at g is b) l =
      While at g (map condition (held w l.at) ++ is) (explained_block w b (loop_body l))
  explained_statement w s l = s
