-- Expressions and statements with their names replaced. The rules on types are not asked here.
use Rattle.std.specs.Prelude.{ℕ, ◌+◌, Bool, true, false, List, [], ◌∷◌, ◌++◌, length, Option, None, Some, if◌then◌else◌, option_and_then, slice_get}
use Rattle.std.specs.Option.{option_map}
use Rattle.std.specs.List.{position_from}
use Rattle.std.specs.Str.{bytes_eq}
use Rattle.boogie_tree.specs.declared.span.Span.{Span}
use Rattle.boogie_tree.specs.declared.tree.Name.{Name}
use Rattle.boogie_tree.specs.declared.tree.Ty.{Ty}
use Rattle.boogie_tree.specs.declared.tree.Ty.TheVariants as types
use Rattle.boogie_tree.specs.declared.tree.Vary.{Vary}
use Rattle.boogie_tree.specs.Tree as tree
use Rattle.boogie_tree.specs.declared.tree.Column.{Column}
use Rattle.boogie_tree.specs.declared.tree.Column.TheVariants as columns
use Rattle.typed_tree.specs.TypedTree as typed
use Rattle.typed_tree.specs.TypedTree.{TypedExpression, TypedGuard, TypedInvariant, TypedStatement, TypedBlock}
use Rattle.typed_tree.specs.Scope.{Scope}
use Rattle.typed_tree.specs.TypingRules.Rules.{all_differ}
use Rattle.boogie_types.specs.Meanings.{column_of}

-- each of them, where there is one for each
abbrev pub each : {X Y : Type 0} → (X → Option Y) → List X → Option (List Y)
each f [] = Some []
each f (x ∷ xs) = option_and_then (λ y. option_map (λ ys. y ∷ ys) (each f xs)) (f x)

-- where an expression stands
abbrev pub expression_span : tree.Expression → Span
expression_span (tree.Lit at n) = at
expression_span (tree.Truth at b) = at
expression_span (tree.Var at x) = at
expression_span (tree.Old at e) = at
expression_span (tree.Not at e) = at
expression_span (tree.Neg at e) = at
expression_span (tree.Bin at op a b) = at

-- what two parts make, where both are there
abbrev pub from_both : {X Y Z : Type 0} → (X → Y → Z) → Option X → Option Y → Option Z
from_both f x y = option_and_then (λ a. option_map (f a) y) x

-- an expression with its names replaced; none where a name is unknown
abbrev pub named : Scope → tree.Expression → Option TypedExpression
named s (tree.Lit at n) = Some (typed.Lit at n)
named s (tree.Truth at b) = Some (typed.Truth at b)
named s (tree.Var at x) = option_map (typed.Var at) (column_of s x.text)
named s (tree.Old at e) = option_map (typed.Old at) (named s e)
named s (tree.Not at e) = option_map (typed.Not at) (named s e)
named s (tree.Neg at e) = option_map (typed.Neg at) (named s e)
named s (tree.Bin at op a b) = from_both (typed.Bin at op) (named s a) (named s b)

-- What the names of a statement may mean: the scope, the procedures, the number of locals that are not hidden, the labels of the body in text order, and for each loop around the statement the label directly before it.
pub record NamingPlace : Type 0 where
  pub scope : Scope
  pub procs : List tree.Procedure
  pub declared : ℕ
  pub labels : List (List ℕ)
  pub loops : List (Option (List ℕ))

abbrev pub named_guard : Scope → tree.Guard → Option TypedGuard
named_guard s tree.Any = Some typed.Any
named_guard s (tree.Cond e) = option_map typed.Cond (named s e)

abbrev pub named_invariant : Scope → tree.Invariant → Option TypedInvariant
named_invariant s i = option_map (λ e. record { span = i.span; free = i.free; cond = e }) (named s i.cond)

abbrev pub columns_of : Scope → List Name → Option (List Column)
columns_of s xs = each (λ x. column_of s x.text) xs

-- the columns of targets, of which no two have one name
abbrev pub targets_of : Scope → List Name → Option (List Column)
targets_of s xs = if all_differ (λ x y. bytes_eq x.text y.text) xs then columns_of s xs else None

abbrev pub label_number : NamingPlace → Name → Option ℕ
label_number p x = position_from (bytes_eq x.text) 0 p.labels

abbrev pub is_before_loop : List ℕ → Option (List ℕ) → Bool
is_before_loop name None = false
is_before_loop name (Some label) = bytes_eq name label

-- how many of these loops, innermost first, a break leaves beyond the innermost
abbrev pub levels_in : List (Option (List ℕ)) → Option Name → Option ℕ
levels_in loops None = Some 0
levels_in loops (Some x) = position_from (is_before_loop x.text) 0 loops

-- how many loops a break leaves beyond the innermost
abbrev pub levels : NamingPlace → Option Name → Option ℕ
levels p x = levels_in p.loops x

abbrev pub procedure_number : NamingPlace → Name → Option ℕ
procedure_number p f = position_from (λ q. bytes_eq f.text q.name.text) 0 p.procs

abbrev pub params_if_any : Option tree.Procedure → List Vary
params_if_any None = []
params_if_any (Some q) = q.params

-- the parameters of a procedure; none of one that does not exist
abbrev pub params_named : NamingPlace → Name → List Vary
params_named p f = params_if_any (option_and_then (slice_get p.procs) (procedure_number p f))

-- a literal, a name, or `!` before a name
abbrev pub is_simple : tree.Expression → Bool
is_simple (tree.Lit at n) = true
is_simple (tree.Truth at b) = true
is_simple (tree.Var at x) = true
is_simple (tree.Not at (tree.Var at1 x)) = true
is_simple e = false

-- an argument for that parameter is put into a hidden local: it is boolean and not simple
abbrev pub is_hidden : Ty → tree.Expression → Bool
is_hidden types.Int e = false
is_hidden types.Bool e = if is_simple e then false else true

-- the arguments that are put into hidden locals, in order
abbrev pub hidden_arguments : List Vary → List tree.Expression → List tree.Expression
hidden_arguments (v ∷ vs) (e ∷ es) = if is_hidden v.ty e then e ∷ hidden_arguments vs es else hidden_arguments vs es
hidden_arguments vs es = []

abbrev mutual
  -- how many hidden locals a statement needs
  pub hidden_in : NamingPlace → tree.Statement → ℕ
  hidden_in p (tree.Call at xs f es) = length (hidden_arguments (params_named p f) es)
  hidden_in p (tree.If at g a b) = hidden_in_block p a + hidden_in_block p b
  hidden_in p (tree.While at g is b) = hidden_in_block p b
  hidden_in p s = 0

  pub hidden_in_block : NamingPlace → tree.Block → ℕ
  hidden_in_block p tree.Empty = 0
  hidden_in_block p (tree.Then s b) = hidden_in p s + hidden_in_block p b

-- the hidden local number n, counted from 0
abbrev pub hidden_column : NamingPlace → ℕ → Column
hidden_column p n = columns.Local (p.declared + n)

-- an assignment to each hidden local from number n on, where the call stands
abbrev pub put_aside : NamingPlace → ℕ → Span → List tree.Expression → Option (List TypedStatement)
put_aside p n at [] = Some []
put_aside p n at (e ∷ es) =
    from_both (λ t ts. typed.Assign at (hidden_column p n ∷ []) (t ∷ []) ∷ ts) (named p.scope e) (put_aside p (n + 1) at es)

-- the arguments of a call, the hidden locals from number n on in place of those that are put aside
abbrev pub named_arguments : NamingPlace → ℕ → List Vary → List tree.Expression → Option (List TypedExpression)
named_arguments p n vs [] = Some []
named_arguments p n [] (e ∷ es) = each (named p.scope) (e ∷ es)
named_arguments p n (v ∷ vs) (e ∷ es) =
    if is_hidden v.ty e
    then option_map (λ ts. typed.Var (expression_span e) (hidden_column p n) ∷ ts) (named_arguments p (n + 1) vs es)
    else from_both (λ t ts. t ∷ ts) (named p.scope e) (named_arguments p n vs es)

-- a call: the assignments to hidden locals, from number n on, directly before it
abbrev pub named_call : NamingPlace → ℕ → Span → List Name → Name → List tree.Expression → Option (List TypedStatement)
named_call p n at xs f es =
    from_both (λ before call. before ++ (call ∷ [])) (put_aside p n at (hidden_arguments (params_named p f) es))
    (option_and_then (λ cs. from_both (typed.Call at cs) (procedure_number p f) (named_arguments p n (params_named p f) es))
    (targets_of p.scope xs))

-- the label that a statement is
abbrev pub label_of : tree.Statement → Option (List ℕ)
label_of (tree.Label x) = Some x.text
label_of s = None

-- inside a loop with that label directly before it
abbrev pub in_loop : NamingPlace → Option (List ℕ) → NamingPlace
in_loop p label = record p { loops = label ∷ p.loops }

abbrev pub alone : Option TypedStatement → Option (List TypedStatement)
alone s = option_map (λ t. t ∷ []) s

-- statements in front of a list
abbrev pub in_front : List TypedStatement → TypedBlock → TypedBlock
in_front [] b = b
in_front (s ∷ ss) b = typed.Then s (in_front ss b)

abbrev mutual
  -- A statement with its names replaced: the label directly before it and the number of hidden locals before it are told.
  pub named_statement : NamingPlace → Option (List ℕ) → ℕ → tree.Statement → Option (List TypedStatement)
  named_statement p before n (tree.Assert at e) = alone (option_map (typed.Assert at) (named p.scope e))
  named_statement p before n (tree.Assume at e) = alone (option_map (typed.Assume at) (named p.scope e))
  named_statement p before n (tree.Havoc at xs) = alone (option_map (typed.Havoc at) (targets_of p.scope xs))
  named_statement p before n (tree.Assign at xs es) =
      alone (from_both (typed.Assign at) (targets_of p.scope xs) (each (named p.scope) es))
  named_statement p before n (tree.Call at xs f es) = named_call p n at xs f es
  named_statement p before n (tree.If at g a b) =
      alone (option_and_then
      (λ guard. from_both (typed.If at guard) (named_block p None n a) (named_block p None (n + hidden_in_block p a) b))
      (named_guard p.scope g))
  named_statement p before n (tree.While at g is b) =
      alone (option_and_then
      (λ guard. from_both (typed.While at guard) (each (named_invariant p.scope) is) (named_block (in_loop p before) None n b))
      (named_guard p.scope g))
  named_statement p before n (tree.Break at x) = alone (option_map (typed.Break at) (levels p x))
  named_statement p before n (tree.Goto at xs) = alone (option_map (typed.Goto at) (each (label_number p) xs))
  named_statement p before n (tree.Return at) = Some (typed.Return at ∷ [])
  named_statement p before n (tree.Label x) = alone (option_map typed.Label (label_number p x))

  pub named_block : NamingPlace → Option (List ℕ) → ℕ → tree.Block → Option TypedBlock
  named_block p before n tree.Empty = Some typed.Empty
  named_block p before n (tree.Then s b) =
      from_both in_front (named_statement p before n s) (named_block p (label_of s) (n + hidden_in p s) b)
