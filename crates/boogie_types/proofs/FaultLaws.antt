-- Faults of parts are faults of the whole.
use Rattle.std.proofs.Common.{◌≡◌, ℕ, ◌<◌, List, Option, None, Some, subst, map, length, get_or, Contains, ap, sym, ◌∙◌, arith}
use Rattle.boogie_tree.specs.declared.span.Span.{Span}
use Rattle.boogie_tree.specs.declared.tree.Name.{Name}
use Rattle.boogie_tree.specs.declared.tree.Op.{Op}
use Rattle.boogie_tree.specs.declared.tree.Expr.{Expr}
use Rattle.boogie_tree.specs.declared.tree.Inv.{Inv}
use Rattle.boogie_tree.specs.View as view
use Rattle.boogie_tree.specs.Tree.{Expression, Var, Old, Not, Neg, Bin, Guard, Cond, Invariant, Assert, Assume, Havoc, Assign, Call, If, While, Break, Goto, Label, Block}
use Rattle.boogie_types.specs.Naming.{NamingPlace, in_loop, procedure_number}
use Rattle.typed_tree.specs.declared.fault.TypeFault.{TypeFault}
use Rattle.typed_tree.specs.declared.fault.TypeFault.TheVariants as fault
use Rattle.std.proofs.lemmas.List.{length-map}
use Rattle.std.proofs.Math.ListN.{get_or-map}
use Rattle.typed_tree.specs.Scope.{Scope}
use Rattle.boogie_types.specs.Meanings.{column_of}
use Rattle.boogie_types.specs.Ties.Numbers.{number_of_name, IsLabelsFault}
use Rattle.boogie_types.specs.BrokenNames.{unknown, in_old, in_not, in_neg, in_left, in_right, one_of, unknown_target, in_guard, IsMisnamed, asserted, assumed, chosen, assigned, valued, unknown_callee, returned, passed, branched, in_then, in_else, looping, in_invariant, in_loop_body, no_such_loop, no_such_label, unlisted_label}
use Rattle.boogie_types.specs.Ties.NamingFaults.{OrMemory, IsExpressionFault, AreExpressionsFault, IsTargetsFault, IsGuardFault, IsInvariantsFault, IsStatementFault, IsBlockFault, IsLeavingFault, IsCallFault, IsCallUnknown, callee, target, argument}

-- what follows from a broken rule
pub or_memory_to : (f : TypeFault) {A B : Type 0} → (A → B) → OrMemory f A → OrMemory f B
or_memory_to (fault.Unknown s) g a = g a
or_memory_to (fault.Twice s) g a = g a
or_memory_to (fault.Mismatch s) g a = g a
or_memory_to (fault.NotAssignable s) g a = g a
or_memory_to (fault.NotModified s) g a = g a
or_memory_to fault.NoEntry g a = g a
or_memory_to (fault.ZeroDivisor s) g a = g a
or_memory_to (fault.NonLinear s) g a = g a
or_memory_to (fault.BadGoto s) g a = g a
or_memory_to (fault.TooBig s) g a = g a
or_memory_to fault.Memory g a = tt

pub fault_in_old : (s : Scope) (at : Span) (e : Expression) (f : TypeFault) → IsExpressionFault s e f → IsExpressionFault s (Old at e) f
fault_in_old s at e f = or_memory_to f (in_old at e f)

pub fault_in_not : (s : Scope) (at : Span) (e : Expression) (f : TypeFault) → IsExpressionFault s e f → IsExpressionFault s (Not at e) f
fault_in_not s at e f = or_memory_to f (in_not at e f)

pub fault_in_neg : (s : Scope) (at : Span) (e : Expression) (f : TypeFault) → IsExpressionFault s e f → IsExpressionFault s (Neg at e) f
fault_in_neg s at e f = or_memory_to f (in_neg at e f)

pub fault_in_left : (s : Scope) (at : Span) (op : Op) (a b : Expression) (f : TypeFault) → IsExpressionFault s a f → IsExpressionFault s (Bin at op a b) f
fault_in_left s at op a b f = or_memory_to f (in_left at op a b f)

pub fault_in_right : (s : Scope) (at : Span) (op : Op) (a b : Expression) (f : TypeFault) → IsExpressionFault s b f → IsExpressionFault s (Bin at op a b) f
fault_in_right s at op a b f = or_memory_to f (in_right at op a b f)

pub fault_here : (s : Scope) (at : Span) (x : Name) → column_of s x.text ≡ None → IsExpressionFault s (Var at x) (fault.Unknown at)
fault_here s at x e = unknown at x e

-- ---- lists

contains_map : {X Y : Type 0} (g : X → Y) (xs : List X) (i : ℕ) (x : X) → i < length xs → x ≡ get_or xs i x → Contains (map g xs) (g x)
contains_map g xs i x l e =
    let n = length-map xs g in
    let below : i < length (map g xs) = omega (arith, n) in
    (i, below, get_or-map g xs i x ∙ ap g (sym e))

pub fault_of_member : (s : Scope) (es : List Expr) (i : ℕ) (e : Expr) (f : TypeFault) → i < length es → e ≡ get_or es i e →
    IsExpressionFault s (view.expression e) f → AreExpressionsFault s (map view.expression es) f
fault_of_member s es i e f l h = or_memory_to f (one_of (map view.expression es) (view.expression e) f (contains_map view.expression es i e l h))

pub fault_of_invariant : (s : Scope) (is : List Inv) (i : ℕ) (x : Inv) (f : TypeFault) → i < length is → x ≡ get_or is i x →
    IsExpressionFault s (view.invariant x).cond f → IsInvariantsFault s (map view.invariant is) f
fault_of_invariant s is i x f l h = or_memory_to f (λ b. (view.invariant x, contains_map view.invariant is i x l h, b))

pub fault_of_target : (s : Scope) (xs : List Name) (i : ℕ) (x : Name) → i < length xs → x ≡ get_or xs i x →
    column_of s x.text ≡ None → IsTargetsFault s xs (fault.Unknown x.span)
fault_of_target s xs i x l h n = unknown_target xs x (i, l, sym h) n

pub fault_in_guard : (s : Scope) (e : Expression) (f : TypeFault) → IsExpressionFault s e f → IsGuardFault s (Cond e) f
fault_in_guard s e f = or_memory_to f (in_guard e f)

-- ---- statements

misnamed_call : (p : NamingPlace) (before : Option (List ℕ)) (at : Span) (xs : List Name) (g : Name) (es : List Expression) (f : TypeFault) → IsCallUnknown p xs g es f → IsMisnamed p before (Call at xs g es) f
misnamed_call p before at xs g es _ (callee e) = unknown_callee p before at xs g es e
misnamed_call p before at xs g es _ (target f e) = returned p before at xs g es f e
misnamed_call p before at xs g es _ (argument f e) = passed p before at xs g es f e

module _ (p : NamingPlace) (before : Option (List ℕ)) (at : Span) where
  pub fault_in_assert : (e : Expression) (f : TypeFault) → IsExpressionFault p.scope e f → IsStatementFault p before (Assert at e) f
  fault_in_assert e f = or_memory_to f (asserted p before at e f)

  pub fault_in_assume : (e : Expression) (f : TypeFault) → IsExpressionFault p.scope e f → IsStatementFault p before (Assume at e) f
  fault_in_assume e f = or_memory_to f (assumed p before at e f)

  pub fault_in_havoc : (xs : List Name) (f : TypeFault) → IsTargetsFault p.scope xs f → IsStatementFault p before (Havoc at xs) f
  fault_in_havoc xs f = or_memory_to f (chosen p before at xs f)

  pub fault_in_assigned : (xs : List Name) (es : List Expression) (f : TypeFault) → IsTargetsFault p.scope xs f → IsStatementFault p before (Assign at xs es) f
  fault_in_assigned xs es f = or_memory_to f (assigned p before at xs es f)

  pub fault_in_value : (xs : List Name) (es : List Expression) (f : TypeFault) → AreExpressionsFault p.scope es f → IsStatementFault p before (Assign at xs es) f
  fault_in_value xs es f = or_memory_to f (valued p before at xs es f)

  pub fault_in_call : (xs : List Name) (g : Name) (es : List Expression) (f : TypeFault) → IsCallFault p xs g es f → IsStatementFault p before (Call at xs g es) f
  fault_in_call xs g es f = or_memory_to f (misnamed_call p before at xs g es f)

  pub fault_in_branch : (g : Guard) (a b : Block) (f : TypeFault) → IsGuardFault p.scope g f → IsStatementFault p before (If at g a b) f
  fault_in_branch g a b f = or_memory_to f (branched p before at g a b f)

  pub fault_in_then : (g : Guard) (a b : Block) (f : TypeFault) → IsBlockFault p None a f → IsStatementFault p before (If at g a b) f
  fault_in_then g a b f = or_memory_to f (in_then p before at g a b f)

  pub fault_in_else : (g : Guard) (a b : Block) (f : TypeFault) → IsBlockFault p None b f → IsStatementFault p before (If at g a b) f
  fault_in_else g a b f = or_memory_to f (in_else p before at g a b f)

  pub fault_in_loop : (g : Guard) (is : List Invariant) (b : Block) (f : TypeFault) → IsGuardFault p.scope g f → IsStatementFault p before (While at g is b) f
  fault_in_loop g is b f = or_memory_to f (looping p before at g is b f)

  pub fault_in_invariant : (g : Guard) (is : List Invariant) (b : Block) (f : TypeFault) → IsInvariantsFault p.scope is f → IsStatementFault p before (While at g is b) f
  fault_in_invariant g is b f = or_memory_to f (λ i. in_invariant p before at g is b i.0 f i.1 i.2)

  pub fault_in_body : (g : Guard) (is : List Invariant) (b : Block) (f : TypeFault) → IsBlockFault (in_loop p before) None b f → IsStatementFault p before (While at g is b) f
  fault_in_body g is b f = or_memory_to f (in_loop_body p before at g is b f)

  pub fault_in_break : (x : Option Name) (f : TypeFault) → IsLeavingFault p.loops x f → IsStatementFault p before (Break at x) f
  fault_in_break None f = or_memory_to f (λ b. absurd b)
  fault_in_break (Some x) f = or_memory_to f (λ b. subst (λ g. IsMisnamed p before (Break at (Some x)) g) (sym b.1) (no_such_loop p before at x b.0))

pub fault_in_goto : (p : NamingPlace) (before : Option (List ℕ)) (at : Span) (xs : List Name) (f : TypeFault) → IsLabelsFault p.labels xs f → IsStatementFault p before (Goto at xs) f
fault_in_goto p before at xs (fault.BadGoto s) b = subst (λ t. IsMisnamed p before (Goto at xs) (fault.BadGoto t)) (sym b.3) (no_such_label p before at xs b.0 b.1 b.2)
fault_in_goto p before at xs fault.Memory b = tt
fault_in_goto p before at xs (fault.Unknown s) b = absurd b
fault_in_goto p before at xs (fault.Twice s) b = absurd b
fault_in_goto p before at xs (fault.Mismatch s) b = absurd b
fault_in_goto p before at xs (fault.NotAssignable s) b = absurd b
fault_in_goto p before at xs (fault.NotModified s) b = absurd b
fault_in_goto p before at xs fault.NoEntry b = absurd b
fault_in_goto p before at xs (fault.ZeroDivisor s) b = absurd b
fault_in_goto p before at xs (fault.NonLinear s) b = absurd b
fault_in_goto p before at xs (fault.TooBig s) b = absurd b

pub fault_in_label : (p : NamingPlace) (before : Option (List ℕ)) (x : Name) → number_of_name p.labels x.text ≡ None → IsStatementFault p before (Label x) (fault.BadGoto x.span)
fault_in_label p before x e = unlisted_label p before x e

-- ---- calls

module _ (p : NamingPlace) (xs : List Name) (g : Name) (es : List Expression) where
  pub call_unknown : procedure_number p g ≡ None → IsCallFault p xs g es (fault.Unknown g.span)
  call_unknown e = callee e

  pub call_target : (f : TypeFault) → IsTargetsFault p.scope xs f → IsCallFault p xs g es f
  call_target f = or_memory_to f (target f)

  pub call_argument : (f : TypeFault) → AreExpressionsFault p.scope es f → IsCallFault p xs g es f
  call_argument f = or_memory_to f (argument f)
