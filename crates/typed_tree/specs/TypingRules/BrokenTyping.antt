-- Which typing rule a program breaks, and where.
use Rattle.std.specs.Prelude.{◌≡◌, ℕ, true, false, List, [], None, Some, Contains, slice_get, length, nat_eq, nat_lt}
use Rattle.std.specs.List.{list_all, zip}
use Rattle.boogie_tree.specs.declared.span.Span.{Span}
use Rattle.boogie_tree.specs.declared.tree.Ty.{Ty}
use Rattle.boogie_tree.specs.declared.tree.Ty.TheVariants as types
use Rattle.boogie_tree.specs.declared.tree.Column.{Column}
use Rattle.boogie_tree.specs.declared.tree.Column.TheVariants as columns
use Rattle.boogie_tree.specs.declared.tree.VarInfo.{VarInfo}
use Rattle.typed_tree.specs.declared.fault.TypeFault.{TypeFault}
use Rattle.typed_tree.specs.declared.fault.TypeFault.TheVariants as fault
use Rattle.typed_tree.specs.TypedTree.{TypedExpression, TypedGuard, Cond, TypedInvariant, TypedStatement, Assert, Assume, Havoc, Assign, Call, If, While, Break, Goto, TypedBlock, Then, TypedSpecification, Requires, Ensures, TypedProcedure, TypedProgram}
use Rattle.typed_tree.specs.Scope.{Scope, axiom_scope, requires_scope, body_scope, variable_at}
use Rattle.typed_tree.specs.Typing.{type_of, same_type}
use Rattle.typed_tree.specs.BrokenRules.{IsBroken, expression_span}
use Rattle.std.specs.Prelude.{take, ◌+◌}
use Rattle.typed_tree.specs.TypingRules.Rules.{Context, all_differ, is_member, same_column, column_has, params_of, results_of, within, looped, context_of}

-- a value that is to have that type
pub data IsValueBroken (s : Scope) (t : Ty) : TypedExpression → TypeFault → Type 0 where
  inside : (e : TypedExpression) (f : TypeFault) → IsBroken s false e f → IsValueBroken s t e f
  of_other_type : (e : TypedExpression) (u : Ty) → type_of s e ≡ Some u → same_type t u ≡ false → IsValueBroken s t e (fault.Mismatch (expression_span e))

abbrev pub IsConditionBroken : Scope → TypedExpression → TypeFault → Type 0
IsConditionBroken s e f = IsValueBroken s types.Bool e f

-- what a statement at that place writes
pub data IsTargetBroken (k : Context) (at : Span) : Column → TypeFault → Type 0 where
  unseen : (c : Column) → variable_at k.scope c ≡ None → IsTargetBroken k at c (fault.Unknown at)
  constant : (c : Column) (v : VarInfo) → variable_at k.scope c ≡ Some v → v.constant ≡ true → IsTargetBroken k at c (fault.NotAssignable at)
  unlisted : (n : ℕ) (v : VarInfo) → variable_at k.scope (columns.Global n) ≡ Some v → is_member n k.modifies ≡ false → IsTargetBroken k at (columns.Global n) (fault.NotModified at)

-- the columns that a statement at that place writes
pub data AreTargetsBroken (k : Context) (at : Span) : List Column → TypeFault → Type 0 where
  at_target : (cs : List Column) (c : Column) (f : TypeFault) → Contains cs c → IsTargetBroken k at c f → AreTargetsBroken k at cs f
  repeated : (cs : List Column) → all_differ same_column cs ≡ false → AreTargetsBroken k at cs (fault.Twice at)

-- the guard of a branch or a loop
pub data IsGuardBroken (s : Scope) : TypedGuard → TypeFault → Type 0 where
  decided : (e : TypedExpression) (f : TypeFault) → IsConditionBroken s e f → IsGuardBroken s (Cond e) f

-- arguments, targets and what may be modified, against the callee
pub data IsCallBroken (k : Context) (at : Span) : List Column → List TypedExpression → TypedProcedure → TypeFault → Type 0 where
  argument : (cs : List Column) (es : List TypedExpression) (p : TypedProcedure) (v : VarInfo) (e : TypedExpression) (f : TypeFault) → Contains (zip (params_of p) es) (v, e) → IsValueBroken k.scope v.ty e f → IsCallBroken k at cs es p f
  argument_count : (cs : List Column) (es : List TypedExpression) (p : TypedProcedure) → nat_eq (length (params_of p)) (length es) ≡ false → IsCallBroken k at cs es p (fault.Mismatch at)
  result : (cs : List Column) (es : List TypedExpression) (p : TypedProcedure) (v : VarInfo) (c : Column) → Contains (zip (results_of p) cs) (v, c) → column_has k.scope v.ty c ≡ false → IsCallBroken k at cs es p (fault.Mismatch at)
  result_count : (cs : List Column) (es : List TypedExpression) (p : TypedProcedure) → nat_eq (length (results_of p)) (length cs) ≡ false → IsCallBroken k at cs es p (fault.Mismatch at)
  modifies_more : (cs : List Column) (es : List TypedExpression) (p : TypedProcedure) → list_all (λ n. is_member n k.modifies) p.modifies ≡ false → IsCallBroken k at cs es p (fault.NotModified at)

mutual
  -- a statement, or one inside it
  pub data IsStatementBroken : Context → TypedStatement → TypeFault → Type 0 where
    asserted : (k : Context) (at : Span) (e : TypedExpression) (f : TypeFault) → IsConditionBroken k.scope e f → IsStatementBroken k (Assert at e) f
    assumed : (k : Context) (at : Span) (e : TypedExpression) (f : TypeFault) → IsConditionBroken k.scope e f → IsStatementBroken k (Assume at e) f
    nothing_chosen : (k : Context) (at : Span) → IsStatementBroken k (Havoc at []) (fault.Mismatch at)
    chosen : (k : Context) (at : Span) (cs : List Column) (f : TypeFault) → AreTargetsBroken k at cs f → IsStatementBroken k (Havoc at cs) f
    nothing_assigned : (k : Context) (at : Span) (es : List TypedExpression) → IsStatementBroken k (Assign at [] es) (fault.Mismatch at)
    assigned : (k : Context) (at : Span) (cs : List Column) (es : List TypedExpression) (f : TypeFault) → AreTargetsBroken k at cs f → IsStatementBroken k (Assign at cs es) f
    value_count : (k : Context) (at : Span) (cs : List Column) (es : List TypedExpression) → nat_eq (length cs) (length es) ≡ false → IsStatementBroken k (Assign at cs es) (fault.Mismatch at)
    value : (k : Context) (at : Span) (cs : List Column) (es : List TypedExpression) (c : Column) (e : TypedExpression) (v : VarInfo) (f : TypeFault) → Contains (zip cs es) (c, e) → variable_at k.scope c ≡ Some v → IsValueBroken k.scope v.ty e f → IsStatementBroken k (Assign at cs es) f
    unknown_callee : (k : Context) (at : Span) (cs : List Column) (n : ℕ) (es : List TypedExpression) → slice_get k.procs n ≡ None → IsStatementBroken k (Call at cs n es) (fault.Unknown at)
    returned : (k : Context) (at : Span) (cs : List Column) (n : ℕ) (es : List TypedExpression) (f : TypeFault) → AreTargetsBroken k at cs f → IsStatementBroken k (Call at cs n es) f
    called : (k : Context) (at : Span) (cs : List Column) (n : ℕ) (es : List TypedExpression) (p : TypedProcedure) (f : TypeFault) → slice_get k.procs n ≡ Some p → IsCallBroken k at cs es p f → IsStatementBroken k (Call at cs n es) f
    branched : (k : Context) (at : Span) (g : TypedGuard) (a b : TypedBlock) (f : TypeFault) → IsGuardBroken k.scope g f → IsStatementBroken k (If at g a b) f
    in_then : (k : Context) (at : Span) (g : TypedGuard) (a b : TypedBlock) (f : TypeFault) → IsBlockBroken (within k a) a f → IsStatementBroken k (If at g a b) f
    in_else : (k : Context) (at : Span) (g : TypedGuard) (a b : TypedBlock) (f : TypeFault) → IsBlockBroken (within k b) b f → IsStatementBroken k (If at g a b) f
    looping : (k : Context) (at : Span) (g : TypedGuard) (is : List TypedInvariant) (b : TypedBlock) (f : TypeFault) → IsGuardBroken k.scope g f → IsStatementBroken k (While at g is b) f
    in_invariant : (k : Context) (at : Span) (g : TypedGuard) (is : List TypedInvariant) (b : TypedBlock) (i : TypedInvariant) (f : TypeFault) → Contains is i → IsConditionBroken k.scope i.cond f → IsStatementBroken k (While at g is b) f
    in_loop : (k : Context) (at : Span) (g : TypedGuard) (is : List TypedInvariant) (b : TypedBlock) (f : TypeFault) → IsBlockBroken (within (looped k) b) b f → IsStatementBroken k (While at g is b) f
    no_loop : (k : Context) (at : Span) (n : ℕ) → nat_lt n k.loops ≡ false → IsStatementBroken k (Break at n) (fault.BadGoto at)
    nowhere : (k : Context) (at : Span) → IsStatementBroken k (Goto at []) (fault.BadGoto at)
    unreachable : (k : Context) (at : Span) (ns : List ℕ) → list_all (λ n. is_member n k.labels) ns ≡ false → IsStatementBroken k (Goto at ns) (fault.BadGoto at)

  -- a statement of a list, or one inside it
  pub data IsBlockBroken : Context → TypedBlock → TypeFault → Type 0 where
    first : (k : Context) (s : TypedStatement) (b : TypedBlock) (f : TypeFault) → IsStatementBroken k s f → IsBlockBroken k (Then s b) f
    later : (k : Context) (s : TypedStatement) (b : TypedBlock) (f : TypeFault) → IsBlockBroken k b f → IsBlockBroken k (Then s b) f

-- a specification of a procedure
pub data IsSpecificationBroken (globals : List VarInfo) (p : TypedProcedure) : TypedSpecification → TypeFault → Type 0 where
  required : (i : TypedInvariant) (f : TypeFault) → IsConditionBroken (requires_scope globals (params_of p)) i.cond f → IsSpecificationBroken globals p (Requires i) f
  ensured : (i : TypedInvariant) (f : TypeFault) → IsConditionBroken (body_scope globals (take (p.params + p.results) p.locals)) i.cond f → IsSpecificationBroken globals p (Ensures i) f

-- a procedure: a specification, or a statement of its body
pub data IsProcedureBroken (globals : List VarInfo) (procs : List TypedProcedure) : TypedProcedure → TypeFault → Type 0 where
  specified : (p : TypedProcedure) (s : TypedSpecification) (f : TypeFault) → Contains p.specs s → IsSpecificationBroken globals p s f → IsProcedureBroken globals procs p f
  in_body : (p : TypedProcedure) (b : TypedBlock) (f : TypeFault) → p.body ≡ Some b → IsBlockBroken (within (context_of globals procs p) b) b f → IsProcedureBroken globals procs p f

-- a program: an axiom or a procedure
pub data IsProgramBroken (t : TypedProgram) : TypeFault → Type 0 where
  axiomatic : (e : TypedExpression) (f : TypeFault) → Contains t.axioms e → IsConditionBroken (axiom_scope t.globals) e f → IsProgramBroken t f
  in_procedure : (p : TypedProcedure) (f : TypeFault) → Contains t.procs p → IsProcedureBroken t.globals t.procs p f → IsProgramBroken t f

-- The fault of a program: a broken rule, or want of memory.
abbrev pub IsTypingFault : TypedProgram → TypeFault → Type 0
IsTypingFault t fault.Memory = Unit {0}
IsTypingFault t f = IsProgramBroken t f
