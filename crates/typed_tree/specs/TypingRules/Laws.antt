-- What holds of every typed program.
use Rattle.std.specs.Prelude.{◌≡◌, ◌+◌, ◌≤◌, ◌<◌, ◌^◌, ◌⊎◌, ℕ, IsTrue, true, false, List, [], ◌∷◌, ◌++◌, length, Some, slice_get, Contains}
use Rattle.std.specs.List.{list_all}
use Rattle.boogie_tree.specs.declared.span.Span.{Span}
use Rattle.boogie_tree.specs.declared.tree.Ty.{Ty}
use Rattle.boogie_tree.specs.declared.tree.Column.{Column}
use Rattle.boogie_tree.specs.declared.tree.Column.TheVariants as columns
use Rattle.boogie_tree.specs.declared.tree.VarInfo.{VarInfo}
use Rattle.typed_tree.specs.TypedTree.{TypedExpression, Lit, Truth, Var, Old, Not, Neg, Bin, TypedGuard, TypedInvariant, TypedStatement, Havoc, Call, If, While, Goto, TypedBlock, Then, TypedSpecification, TypedProcedure, TypedProgram}
use Rattle.typed_tree.specs.Scope.{Scope, axiom_scope, body_scope, variable_at, fixed}
use Rattle.typed_tree.specs.Typing.{type_of}
use Rattle.typed_tree.specs.KeptRules.{is_right, is_arithmetic}
use Rattle.typed_tree.specs.TypingRules.Counts.{places}
use Rattle.typed_tree.specs.TypingRules.Rules.{Context, all_differ, same_column, is_member, is_condition, is_writable, is_statement, is_specification, arguments_agree, results_agree, params_of, results_of, within, looped, context_of}
use Rattle.typed_tree.specs.TypingRules.Shape.{are_arguments, is_shaped, block_labels, counts_from}
use Rattle.typed_tree.specs.TypingRules.ValidProgram.{is_valid}

-- The statement stands in the list, or in a list inside it, under that context; the list itself stands under the first.
pub data StandsIn : Context → TypedBlock → Context → TypedStatement → Type 0 where
  here : (k : Context) (s : TypedStatement) (b : TypedBlock) → StandsIn k (Then s b) k s
  after : (k j : Context) (s x : TypedStatement) (b : TypedBlock) → StandsIn k b j x → StandsIn k (Then s b) j x
  in_then : (k j : Context) (at : Span) (g : TypedGuard) (a e b : TypedBlock) (x : TypedStatement) → StandsIn (within k a) a j x → StandsIn k (Then (If at g a e) b) j x
  in_else : (k j : Context) (at : Span) (g : TypedGuard) (a e b : TypedBlock) (x : TypedStatement) → StandsIn (within k e) e j x → StandsIn k (Then (If at g a e) b) j x
  in_loop : (k j : Context) (at : Span) (g : TypedGuard) (is : List TypedInvariant) (a b : TypedBlock) (x : TypedStatement) → StandsIn (within (looped k) a) a j x → StandsIn k (Then (While at g is a) b) j x

-- The statement stands in the body of the procedure, under that context.
pub data IsStatementOf (t : TypedProgram) (p : TypedProcedure) (k : Context) (s : TypedStatement) : Type 0 where
  in_body : (b : TypedBlock) → Contains t.procs p → p.body ≡ Some b → StandsIn (within (context_of t.globals t.procs p) b) b k s → IsStatementOf t p k s

-- the columns that an expression reads
abbrev pub columns_of : TypedExpression → List Column
columns_of (Lit at n) = []
columns_of (Truth at b) = []
columns_of (Var at c) = c ∷ []
columns_of (Old at e) = columns_of e
columns_of (Not at e) = columns_of e
columns_of (Neg at e) = columns_of e
columns_of (Bin at op a b) = columns_of a ++ columns_of b

-- Each statement of a body keeps the typing rules of its place, and its boolean arguments are simple.
abbrev pub StatementsAreTyped : Type 0
StatementsAreTyped = (t : TypedProgram) (p : TypedProcedure) (k : Context) (s : TypedStatement) → IsTrue (is_valid t) → IsStatementOf t p k s →
    (is_statement k s ≡ true) × (is_shaped t.procs s ≡ true)

-- A statement sees the globals and all locals of its procedure, and may write what the procedure modifies.
abbrev pub StatementsSeeLocals : Type 0
StatementsSeeLocals = (t : TypedProgram) (p : TypedProcedure) (k : Context) (s : TypedStatement) → IsStatementOf t p k s →
    (k.scope ≡ body_scope t.globals p.locals) × (k.procs ≡ t.procs) × (k.modifies ≡ p.modifies)

-- Each axiom is a condition over the constants.
abbrev pub AxiomsAreTyped : Type 0
AxiomsAreTyped = (t : TypedProgram) (e : TypedExpression) → IsTrue (is_valid t) → Contains t.axioms e → is_condition (axiom_scope t.globals) e ≡ true

-- Each specification is a condition in its scope.
abbrev pub SpecificationsAreTyped : Type 0
SpecificationsAreTyped = (t : TypedProgram) (p : TypedProcedure) (s : TypedSpecification) → IsTrue (is_valid t) → Contains t.procs p → Contains p.specs s →
    is_specification t.globals p s ≡ true

-- An expression that is right has its type and keeps the rules of arithmetic.
abbrev pub RightOnesHaveTypes : Type 0
RightOnesHaveTypes = (s : Scope) (ty : Ty) (e : TypedExpression) → is_right s ty e ≡ true → (type_of s e ≡ Some ty) × (is_arithmetic (fixed s) false e ≡ true)

-- Each column that an expression with a type reads is one that is seen.
abbrev pub ColumnsAreSeen : Type 0
ColumnsAreSeen = (s : Scope) (ty : Ty) (e : TypedExpression) (c : Column) → type_of s e ≡ Some ty → Contains (columns_of e) c → (v : VarInfo) × (variable_at s c ≡ Some v)

-- An expression with a type reads no old column: `old` stands for these.
abbrev pub NoOldColumns : Type 0
NoOldColumns = (s : Scope) (ty : Ty) (e : TypedExpression) (n : ℕ) → type_of s e ≡ Some ty → Contains (columns_of e) (columns.Old n) → ⊥

-- A column that may be written is a variable that the procedure modifies, or a local after the parameters.
abbrev pub TargetsVary : Type 0
TargetsVary = (t : TypedProgram) (p : TypedProcedure) (k : Context) (s : TypedStatement) (c : Column) → IsTrue (is_valid t) → IsStatementOf t p k s → is_writable k c ≡ true →
    ((n : ℕ) × (v : VarInfo) × (c ≡ columns.Global n) × (slice_get t.globals n ≡ Some v) × (v.constant ≡ false) × (is_member n p.modifies ≡ true))
    ⊎ ((n : ℕ) × (v : VarInfo) × (c ≡ columns.Local n) × (slice_get p.locals n ≡ Some v) × (v.constant ≡ false) × (p.params ≤ n))

-- A call names a procedure; it has an argument for each parameter and a target for each result, of their types, and its targets differ.
abbrev pub CallsAgree : Type 0
CallsAgree = (t : TypedProgram) (p : TypedProcedure) (k : Context) (at : Span) (cs : List Column) (f : ℕ) (es : List TypedExpression) →
    IsTrue (is_valid t) → IsStatementOf t p k (Call at cs f es) →
    (q : TypedProcedure) × (slice_get t.procs f ≡ Some q) × (length es ≡ q.params) × (length cs ≡ q.results)
    × (arguments_agree k.scope (params_of q) es ≡ true) × (results_agree k.scope (results_of q) cs ≡ true)
    × (all_differ same_column cs ≡ true) × (list_all (λ n. is_member n p.modifies) q.modifies ≡ true) × (are_arguments (params_of q) es ≡ true)

-- A havoc has a variable.
abbrev pub HavocsChoose : Type 0
HavocsChoose = (t : TypedProgram) (p : TypedProcedure) (k : Context) (at : Span) (cs : List Column) → IsTrue (is_valid t) → IsStatementOf t p k (Havoc at cs) → 1 ≤ length cs

-- A procedure has its parameters and results among its locals.
abbrev pub LocalsAreEnough : Type 0
LocalsAreEnough = (t : TypedProgram) (p : TypedProcedure) → IsTrue (is_valid t) → Contains t.procs p → p.params + p.results ≤ length p.locals

-- A goto names labels of its body.
abbrev pub GotosNameLabels : Type 0
GotosNameLabels = (t : TypedProgram) (p : TypedProcedure) (k : Context) (at : Span) (ns : List ℕ) (n : ℕ) → IsTrue (is_valid t) → IsStatementOf t p k (Goto at ns) → Contains ns n →
    (b : TypedBlock) × (p.body ≡ Some b) × (is_member n (block_labels b) ≡ true)

-- The labels of a body count up from 0.
abbrev pub LabelsCount : Type 0
LabelsCount = (t : TypedProgram) (p : TypedProcedure) (b : TypedBlock) → IsTrue (is_valid t) → Contains t.procs p → p.body ≡ Some b → counts_from 0 (block_labels b) ≡ true

-- The entry is a procedure with a body.
abbrev pub EntryHasBody : Type 0
EntryHasBody = (t : TypedProgram) → IsTrue (is_valid t) → (p : TypedProcedure) × (b : TypedBlock) × (slice_get t.procs t.entry ≡ Some p) × (p.body ≡ Some b)

-- Places, procedures and columns have numbers of 32 bits.
abbrev pub NumbersFit : Type 0
NumbersFit = (t : TypedProgram) → IsTrue (is_valid t) → (places t < 2 ^ 32) × (length t.procs < 2 ^ 32)
    × ((p : TypedProcedure) → Contains t.procs p → length t.globals + (length t.globals + length p.locals) < 2 ^ 32)
