-- The shape of a typed program: what holds of each program whose names were replaced, beside the typing rules.
use Rattle.std.specs.Prelude.{ℕ, ◌+◌, Bool, true, false, not, ◌&&◌, nat_le, nat_eq, List, [], ◌∷◌, ◌++◌, map, drop, length, Option, None, Some, slice_get}
use Rattle.std.specs.List.{list_all}
use Rattle.std.specs.Str.{bytes_eq}
use Rattle.boogie_tree.specs.declared.tree.Ty.{Ty}
use Rattle.boogie_tree.specs.declared.tree.Ty.TheVariants as types
use Rattle.boogie_tree.specs.declared.tree.VarInfo.{VarInfo}
use Rattle.typed_tree.specs.TypedTree.{TypedExpression, Lit, Truth, Var, Not, TypedStatement, Call, If, While, Label, TypedBlock, Empty, Then, TypedProcedure, TypedProgram}
use Rattle.boogie_tree.specs.Names.{is_spelled}
use Rattle.typed_tree.specs.TypingRules.Rules.{all_differ, meets, params_of}

-- a literal, a variable, or `!` before a variable
abbrev pub is_simple : TypedExpression → Bool
is_simple (Lit at n) = true
is_simple (Truth at b) = true
is_simple (Var at c) = true
is_simple (Not at (Var at1 c)) = true
is_simple e = false

-- an argument of that type: of the type bool, a simple one
abbrev pub is_argument : Ty → TypedExpression → Bool
is_argument types.Int e = true
is_argument types.Bool e = is_simple e

-- the arguments for boolean parameters are simple
abbrev pub are_arguments : List VarInfo → List TypedExpression → Bool
are_arguments [] es = true
are_arguments (v ∷ vs) [] = true
are_arguments (v ∷ vs) (e ∷ es) = is_argument v.ty e && are_arguments vs es

abbrev pub params_if_any : Option TypedProcedure → List VarInfo
params_if_any None = []
params_if_any (Some p) = params_of p

abbrev mutual
  -- the boolean arguments of each call are simple
  pub is_shaped : List TypedProcedure → TypedStatement → Bool
  is_shaped procs (Call at cs f es) = are_arguments (params_if_any (slice_get procs f)) es
  is_shaped procs (If at g a b) = is_shaped_block procs a && is_shaped_block procs b
  is_shaped procs (While at g is b) = is_shaped_block procs b
  is_shaped procs s = true

  pub is_shaped_block : List TypedProcedure → TypedBlock → Bool
  is_shaped_block procs Empty = true
  is_shaped_block procs (Then s b) = is_shaped procs s && is_shaped_block procs b

abbrev mutual
  -- all labels, in text order
  pub statement_labels : TypedStatement → List ℕ
  statement_labels (If at g a b) = block_labels a ++ block_labels b
  statement_labels (While at g is b) = block_labels b
  statement_labels (Label n) = n ∷ []
  statement_labels s = []

  pub block_labels : TypedBlock → List ℕ
  block_labels Empty = []
  block_labels (Then s b) = statement_labels s ++ block_labels b

-- the numbers count up by one from n
abbrev pub counts_from : ℕ → List ℕ → Bool
counts_from n [] = true
counts_from n (m ∷ ms) = nat_eq n m && counts_from (n + 1) ms

-- the labels of a body count from 0
abbrev pub is_body_shaped : List TypedProcedure → Option TypedBlock → Bool
is_body_shaped procs None = true
is_body_shaped procs (Some b) = counts_from 0 (block_labels b) && is_shaped_block procs b

-- the modified globals exist, are no constants, and stand once
abbrev pub are_modified : List VarInfo → List ℕ → Bool
are_modified globals ns =
    list_all (λ n. meets (λ v. not v.constant) (slice_get globals n)) ns && all_differ nat_eq ns

-- names that differ, each spelled as a name may be
abbrev pub are_names : List (List ℕ) → Bool
are_names ns = list_all is_spelled ns && all_differ bytes_eq ns

-- the parameters are constant, and no other local is
abbrev pub are_locals : TypedProcedure → Bool
are_locals p =
    nat_le (p.params + p.results) (length p.locals)
    && (list_all (λ v. v.constant) (params_of p) && list_all (λ v. not v.constant) (drop p.params p.locals))

-- the names of the locals, the modified globals and the body are as they have to be
abbrev pub is_procedure_shaped : List VarInfo → List TypedProcedure → TypedProcedure → Bool
is_procedure_shaped globals procs p =
    are_names (map (λ v. v.name) p.locals)
    && (are_locals p && (are_modified globals p.modifies && is_body_shaped procs p.body))

-- the names and each procedure are as they have to be
abbrev pub has_shape : TypedProgram → Bool
has_shape t =
    are_names (map (λ v. v.name) t.globals)
    && (are_names (map (λ p. p.name) t.procs) && list_all (is_procedure_shaped t.globals t.procs) t.procs)
