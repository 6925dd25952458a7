-- The typing rules of statements, procedures and programs whose names are replaced.
use Rattle.std.specs.Prelude.{ℕ, ◌+◌, Bool, true, false, not, ◌&&◌, nat_lt, nat_eq, List, [], ◌∷◌, ◌++◌, take, drop, Option, None, Some, slice_get}
use Rattle.std.specs.List.{list_all, list_any}
use Rattle.boogie_tree.specs.declared.tree.Ty.{Ty}
use Rattle.boogie_tree.specs.declared.tree.Ty.TheVariants as types
use Rattle.boogie_tree.specs.declared.tree.Column.{Column}
use Rattle.boogie_tree.specs.declared.tree.Column.TheVariants as columns
use Rattle.boogie_tree.specs.declared.tree.VarInfo.{VarInfo}
use Rattle.typed_tree.specs.TypedTree.{TypedExpression, TypedGuard, Any, Cond, TypedInvariant, TypedStatement, Assert, Assume, Havoc, Assign, Call, If, While, Break, Goto, Return, Label, TypedBlock, Empty, Then, TypedSpecification, Requires, Ensures, TypedProcedure, TypedProgram}
use Rattle.typed_tree.specs.Scope.{Scope, axiom_scope, requires_scope, body_scope, variable_at}
use Rattle.typed_tree.specs.Typing.{same_type}
use Rattle.typed_tree.specs.AffineForm.{is_empty}
use Rattle.typed_tree.specs.KeptRules.{is_right}

-- no two are the same by that test
abbrev pub all_differ : {X : Type 0} → (X → X → Bool) → List X → Bool
all_differ same [] = true
all_differ same (x ∷ xs) = not (list_any (same x) xs) && all_differ same xs

abbrev pub is_member : ℕ → List ℕ → Bool
is_member n ns = list_any (nat_eq n) ns

abbrev pub same_column : Column → Column → Bool
same_column (columns.Global a) (columns.Global b) = nat_eq a b
same_column (columns.Old a) (columns.Old b) = nat_eq a b
same_column (columns.Local a) (columns.Local b) = nat_eq a b
same_column a b = false

abbrev pub meets : {X : Type 0} → (X → Bool) → Option X → Bool
meets test None = false
meets test (Some x) = test x

-- What a statement stands under: what is seen, the procedures, the globals that may be written, the labels that a goto may name, and the number of loops around it.
pub record Context : Type 0 where
  pub scope : Scope
  pub procs : List TypedProcedure
  pub modifies : List ℕ
  pub labels : List ℕ
  pub loops : ℕ

-- a boolean expression that keeps the rules
abbrev pub is_condition : Scope → TypedExpression → Bool
is_condition s e = is_right s types.Bool e

abbrev pub is_guard : Scope → TypedGuard → Bool
is_guard s Any = true
is_guard s (Cond e) = is_condition s e

abbrev pub is_invariant : Scope → TypedInvariant → Bool
is_invariant s i = is_condition s i.cond

-- a global that may be modified, or a local that is no parameter
abbrev pub is_writable : Context → Column → Bool
is_writable k (columns.Global n) = meets (λ v. not v.constant) (slice_get k.scope.globals n) && is_member n k.modifies
is_writable k (columns.Old n) = false
is_writable k (columns.Local n) = meets (λ v. not v.constant) (slice_get k.scope.locals n)

-- columns that may be written, none twice
abbrev pub are_targets : Context → List Column → Bool
are_targets k cs = list_all (is_writable k) cs && all_differ same_column cs

abbrev pub column_has : Scope → Ty → Column → Bool
column_has s t c = meets (λ v. same_type t v.ty) (variable_at s c)

-- one value for each target, of its type
abbrev pub values_agree : Scope → List Column → List TypedExpression → Bool
values_agree s [] [] = true
values_agree s [] (e ∷ es) = false
values_agree s (c ∷ cs) [] = false
values_agree s (c ∷ cs) (e ∷ es) = meets (λ v. is_right s v.ty e) (variable_at s c) && values_agree s cs es

-- one argument for each parameter, of its type
abbrev pub arguments_agree : Scope → List VarInfo → List TypedExpression → Bool
arguments_agree s [] [] = true
arguments_agree s [] (e ∷ es) = false
arguments_agree s (v ∷ vs) [] = false
arguments_agree s (v ∷ vs) (e ∷ es) = is_right s v.ty e && arguments_agree s vs es

-- one target for each result, of its type
abbrev pub results_agree : Scope → List VarInfo → List Column → Bool
results_agree s [] [] = true
results_agree s [] (c ∷ cs) = false
results_agree s (v ∷ vs) [] = false
results_agree s (v ∷ vs) (c ∷ cs) = column_has s v.ty c && results_agree s vs cs

abbrev pub params_of : TypedProcedure → List VarInfo
params_of p = take p.params p.locals

abbrev pub results_of : TypedProcedure → List VarInfo
results_of p = take p.results (drop p.params p.locals)

-- Arguments and targets agree with the callee, and what it modifies the caller modifies.
abbrev pub is_call : Context → List Column → List TypedExpression → TypedProcedure → Bool
is_call k cs es f =
    arguments_agree k.scope (params_of f) es
    && (results_agree k.scope (results_of f) cs && list_all (λ n. is_member n k.modifies) f.modifies)

-- the labels of a list, without those of the lists inside it
abbrev pub own_labels : TypedBlock → List ℕ
own_labels Empty = []
own_labels (Then (Label n) b) = n ∷ own_labels b
own_labels (Then s b) = own_labels b

-- inside one more list, whose labels a goto there may name
abbrev pub within : Context → TypedBlock → Context
within k b = record k { labels = own_labels b ++ k.labels }

-- inside one more loop
abbrev pub looped : Context → Context
looped k = record k { loops = k.loops + 1 }

abbrev mutual
  -- the typing rules of a statement
  pub is_statement : Context → TypedStatement → Bool
  is_statement k (Assert at e) = is_condition k.scope e
  is_statement k (Assume at e) = is_condition k.scope e
  is_statement k (Havoc at cs) = not (is_empty cs) && are_targets k cs
  is_statement k (Assign at cs es) = not (is_empty cs) && (are_targets k cs && values_agree k.scope cs es)
  is_statement k (Call at cs f es) = are_targets k cs && meets (is_call k cs es) (slice_get k.procs f)
  is_statement k (If at g a b) = is_guard k.scope g && (is_block (within k a) a && is_block (within k b) b)
  is_statement k (While at g is b) =
      is_guard k.scope g && (list_all (is_invariant k.scope) is && is_block (within (looped k) b) b)
  is_statement k (Break at n) = nat_lt n k.loops
  is_statement k (Goto at ns) = not (is_empty ns) && list_all (λ n. is_member n k.labels) ns
  is_statement k (Return at) = true
  is_statement k (Label n) = true

  -- the typing rules of each statement of a list
  pub is_block : Context → TypedBlock → Bool
  is_block k Empty = true
  is_block k (Then s b) = is_statement k s && is_block k b

abbrev pub context_of : List VarInfo → List TypedProcedure → TypedProcedure → Context
context_of globals procs p =
    record { scope = body_scope globals p.locals; procs = procs; modifies = p.modifies; labels = []; loops = 0 }

-- each statement of a body keeps the rules
abbrev pub is_body : Context → TypedBlock → Bool
is_body k b = is_block (within k b) b

abbrev pub is_body_if_any : Context → Option TypedBlock → Bool
is_body_if_any k None = true
is_body_if_any k (Some b) = is_body k b

-- requires see the parameters; ensures see the results too
abbrev pub is_specification : List VarInfo → TypedProcedure → TypedSpecification → Bool
is_specification globals p (Requires i) = is_invariant (requires_scope globals (params_of p)) i
is_specification globals p (Ensures i) = is_invariant (body_scope globals (take (p.params + p.results) p.locals)) i

-- the typing rules of a procedure
abbrev pub procedure_keeps_rules : List VarInfo → List TypedProcedure → TypedProcedure → Bool
procedure_keeps_rules globals procs p =
    list_all (is_specification globals p) p.specs && is_body_if_any (context_of globals procs p) p.body

-- the typing rules of a program
abbrev pub keeps_typing : TypedProgram → Bool
keeps_typing t =
    list_all (is_condition (axiom_scope t.globals)) t.axioms && list_all (procedure_keeps_rules t.globals t.procs) t.procs
