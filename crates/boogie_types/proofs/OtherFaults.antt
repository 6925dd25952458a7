-- A broken rule other than that on the entry has another fault.
use Rattle.std.proofs.Common.{◌≡◌, ℕ, Bool, true, false, List, Option, refl}
use Rattle.boogie_tree.specs.declared.span.Span.{Span}
use Rattle.boogie_tree.specs.declared.tree.Name.{Name}
use Rattle.boogie_tree.specs.declared.tree.Ty.{Ty}
use Rattle.boogie_tree.specs.declared.tree.Column.{Column}
use Rattle.boogie_tree.specs.declared.tree.VarInfo.{VarInfo}
use Rattle.boogie_tree.specs.Tree.{Expression, Guard, Statement, Block, Procedure, Declaration}
use Rattle.typed_tree.specs.declared.fault.TypeFault.{TypeFault}
use Rattle.typed_tree.specs.declared.fault.TypeFault.TheVariants as fault
use Rattle.typed_tree.specs.TypedTree.{TypedExpression, TypedGuard, TypedStatement, TypedBlock, TypedSpecification, TypedProcedure, TypedProgram}
use Rattle.typed_tree.specs.Scope.{Scope}
use Rattle.typed_tree.specs.BrokenRules as rules_of
use Rattle.typed_tree.specs.TypingRules.Rules.{Context}
use Rattle.typed_tree.specs.TypingRules.BrokenTyping as typing
use Rattle.boogie_types.specs.BrokenNames as names
use Rattle.boogie_types.specs.Naming.{NamingPlace}
use Rattle.boogie_types.specs.Ties.ProcedureFaults as procedures

-- the fault is that on the entry
abbrev pub is_entry : TypeFault → Bool
is_entry fault.NoEntry = true
is_entry f = false

-- ---- names

unknown_other : (s : Scope) (e : Expression) (f : TypeFault) → names.IsUnknownIn s e f → is_entry f ≡ false
unknown_other s _ _ (names.unknown at x h) = refl
unknown_other s _ _ (names.in_old at e f h) = unknown_other s e f h
unknown_other s _ _ (names.in_not at e f h) = unknown_other s e f h
unknown_other s _ _ (names.in_neg at e f h) = unknown_other s e f h
unknown_other s _ _ (names.in_left at op a b f h) = unknown_other s a f h
unknown_other s _ _ (names.in_right at op a b f h) = unknown_other s b f h

pub unknowns_other : (s : Scope) (es : List Expression) (f : TypeFault) → names.AreUnknownIn s es f → is_entry f ≡ false
unknowns_other s _ _ (names.one_of es e f c h) = unknown_other s e f h

target_other : (s : Scope) (xs : List Name) (f : TypeFault) → names.IsTargetWrong s xs f → is_entry f ≡ false
target_other s _ _ (names.unknown_target xs x c h) = refl
target_other s _ _ (names.second_target xs x h) = refl

guard_other : (s : Scope) (g : Guard) (f : TypeFault) → names.IsGuardUnknown s g f → is_entry f ≡ false
guard_other s _ _ (names.in_guard e f h) = unknown_other s e f h

mutual
  misnamed_other : (p : NamingPlace) (before : Option (List ℕ)) (s : Statement) (f : TypeFault) → names.IsMisnamed p before s f → is_entry f ≡ false
  misnamed_other _ _ _ _ (names.asserted p l at e f h) = unknown_other p.scope e f h
  misnamed_other _ _ _ _ (names.assumed p l at e f h) = unknown_other p.scope e f h
  misnamed_other _ _ _ _ (names.chosen p l at xs f h) = target_other p.scope xs f h
  misnamed_other _ _ _ _ (names.assigned p l at xs es f h) = target_other p.scope xs f h
  misnamed_other _ _ _ _ (names.valued p l at xs es f h) = unknowns_other p.scope es f h
  misnamed_other _ _ _ _ (names.unknown_callee p l at xs g es h) = refl
  misnamed_other _ _ _ _ (names.returned p l at xs g es f h) = target_other p.scope xs f h
  misnamed_other _ _ _ _ (names.passed p l at xs g es f h) = unknowns_other p.scope es f h
  misnamed_other _ _ _ _ (names.branched p l at g a b f h) = guard_other p.scope g f h
  misnamed_other _ _ _ _ (names.in_then p l at g a b f h) = misnamed_block_other _ _ a f h
  misnamed_other _ _ _ _ (names.in_else p l at g a b f h) = misnamed_block_other _ _ b f h
  misnamed_other _ _ _ _ (names.looping p l at g is b f h) = guard_other p.scope g f h
  misnamed_other _ _ _ _ (names.in_invariant p l at g is b i f c h) = unknown_other p.scope i.cond f h
  misnamed_other _ _ _ _ (names.in_loop_body p l at g is b f h) = misnamed_block_other _ _ b f h
  misnamed_other _ _ _ _ (names.no_such_loop p l at x h) = refl
  misnamed_other _ _ _ _ (names.no_such_label p l at xs x c h) = refl
  misnamed_other _ _ _ _ (names.unlisted_label p l x h) = refl

  misnamed_block_other : (p : NamingPlace) (before : Option (List ℕ)) (b : Block) (f : TypeFault) → names.IsMisnamedIn p before b f → is_entry f ≡ false
  misnamed_block_other _ _ _ _ (names.first p l s b f h) = misnamed_other p l s f h
  misnamed_block_other _ _ _ _ (names.later p l s b f h) = misnamed_block_other _ _ b f h

misnamed_procedure_other : (ds : List Declaration) (p : Procedure) (f : TypeFault) → names.IsProcedureMisnamed ds p f → is_entry f ≡ false
misnamed_procedure_other ds p _ (names.unknown_modified x c h) = refl
misnamed_procedure_other ds p _ (names.constant_modified x n c h m) = refl
misnamed_procedure_other ds p _ (names.required i f c h) = unknown_other _ i.cond f h
misnamed_procedure_other ds p _ (names.ensured i f c h) = unknown_other _ i.cond f h
misnamed_procedure_other ds p _ (names.in_body b f e h) = misnamed_block_other _ _ b.stmts f h

pub procedure_other : (ds : List Declaration) (p : Procedure) (f : TypeFault) → procedures.IsProcedureBroken ds p f → is_entry f ≡ false
procedure_other ds p _ (procedures.second_variable x h) = refl
procedure_other ds p _ (procedures.second_label x h) = refl
procedure_other ds p _ (procedures.misnamed f h) = misnamed_procedure_other ds p f h

-- ---- types

broken_other : (s : Scope) (old : Bool) (e : TypedExpression) (f : TypeFault) → rules_of.IsBroken s old e f → is_entry f ≡ false
broken_other s _ _ _ (rules_of.in_old old at e f h) = broken_other s true e f h
broken_other s _ _ _ (rules_of.in_not old at e f h) = broken_other s old e f h
broken_other s _ _ _ (rules_of.in_neg old at e f h) = broken_other s old e f h
broken_other s _ _ _ (rules_of.in_left old at op a b f h) = broken_other s old a f h
broken_other s _ _ _ (rules_of.in_right old at op a b f h) = broken_other s old b f h
broken_other s _ _ _ (rules_of.unseen old at c h) = refl
broken_other s _ _ _ (rules_of.misplaced old at e h) = refl
broken_other s _ _ _ (rules_of.no_truth old at e h) = refl
broken_other s _ _ _ (rules_of.no_number old at e h) = refl
broken_other s _ _ _ (rules_of.ill_typed old at op a b t u h i j) = refl
broken_other s _ _ _ (rules_of.zero_divisor old at op a b k h i j) = refl
broken_other s _ _ _ (rules_of.no_literal old at op a b h i) = refl
broken_other s _ _ _ (rules_of.big_literal old at n h) = refl
broken_other s _ _ _ (rules_of.big_opposite old at e h) = refl
broken_other s _ _ _ (rules_of.big_operation old at op a b h) = refl

value_other : (s : Scope) (t : Ty) (e : TypedExpression) (f : TypeFault) → typing.IsValueBroken s t e f → is_entry f ≡ false
value_other s t _ _ (typing.inside e f h) = broken_other s false e f h
value_other s t _ _ (typing.of_other_type e u h i) = refl

written_other : (k : Context) (at : Span) (c : Column) (f : TypeFault) → typing.IsTargetBroken k at c f → is_entry f ≡ false
written_other k at _ _ (typing.unseen c h) = refl
written_other k at _ _ (typing.constant c v h i) = refl
written_other k at _ _ (typing.unlisted n v h i) = refl

targets_other : (k : Context) (at : Span) (cs : List Column) (f : TypeFault) → typing.AreTargetsBroken k at cs f → is_entry f ≡ false
targets_other k at _ _ (typing.at_target cs c f m h) = written_other k at c f h
targets_other k at _ _ (typing.repeated cs h) = refl

decided_other : (s : Scope) (g : TypedGuard) (f : TypeFault) → typing.IsGuardBroken s g f → is_entry f ≡ false
decided_other s _ _ (typing.decided e f h) = value_other s _ e f h

call_other : (k : Context) (at : Span) (cs : List Column) (es : List TypedExpression) (p : TypedProcedure) (f : TypeFault) → typing.IsCallBroken k at cs es p f → is_entry f ≡ false
call_other k at _ _ _ _ (typing.argument cs es p v e f c h) = value_other _ _ e f h
call_other k at _ _ _ _ (typing.argument_count cs es p h) = refl
call_other k at _ _ _ _ (typing.result cs es p v c m h) = refl
call_other k at _ _ _ _ (typing.result_count cs es p h) = refl
call_other k at _ _ _ _ (typing.modifies_more cs es p h) = refl

mutual
  statement_other : (k : Context) (s : TypedStatement) (f : TypeFault) → typing.IsStatementBroken k s f → is_entry f ≡ false
  statement_other _ _ _ (typing.asserted k at e f h) = value_other _ _ e f h
  statement_other _ _ _ (typing.assumed k at e f h) = value_other _ _ e f h
  statement_other _ _ _ (typing.nothing_chosen k at) = refl
  statement_other _ _ _ (typing.chosen k at cs f h) = targets_other k at cs f h
  statement_other _ _ _ (typing.nothing_assigned k at es) = refl
  statement_other _ _ _ (typing.assigned k at cs es f h) = targets_other k at cs f h
  statement_other _ _ _ (typing.value_count k at cs es h) = refl
  statement_other _ _ _ (typing.value k at cs es c e v f m i h) = value_other _ _ e f h
  statement_other _ _ _ (typing.unknown_callee k at cs n es h) = refl
  statement_other _ _ _ (typing.returned k at cs n es f h) = targets_other k at cs f h
  statement_other _ _ _ (typing.called k at cs n es p f i h) = call_other k at cs es p f h
  statement_other _ _ _ (typing.branched k at g a b f h) = decided_other _ g f h
  statement_other _ _ _ (typing.in_then k at g a b f h) = block_other _ a f h
  statement_other _ _ _ (typing.in_else k at g a b f h) = block_other _ b f h
  statement_other _ _ _ (typing.looping k at g is b f h) = decided_other _ g f h
  statement_other _ _ _ (typing.in_invariant k at g is b i f m h) = value_other _ _ i.cond f h
  statement_other _ _ _ (typing.in_loop k at g is b f h) = block_other _ b f h
  statement_other _ _ _ (typing.no_loop k at n h) = refl
  statement_other _ _ _ (typing.nowhere k at) = refl
  statement_other _ _ _ (typing.unreachable k at ns h) = refl

  block_other : (k : Context) (b : TypedBlock) (f : TypeFault) → typing.IsBlockBroken k b f → is_entry f ≡ false
  block_other _ _ _ (typing.first k s b f h) = statement_other k s f h
  block_other _ _ _ (typing.later k s b f h) = block_other k b f h

specification_other : (globals : List VarInfo) (p : TypedProcedure) (s : TypedSpecification) (f : TypeFault) → typing.IsSpecificationBroken globals p s f → is_entry f ≡ false
specification_other globals p _ _ (typing.required i f h) = value_other _ _ i.cond f h
specification_other globals p _ _ (typing.ensured i f h) = value_other _ _ i.cond f h

typed_procedure_other : (globals : List VarInfo) (procs : List TypedProcedure) (p : TypedProcedure) (f : TypeFault) → typing.IsProcedureBroken globals procs p f → is_entry f ≡ false
typed_procedure_other globals procs _ _ (typing.specified p s f c h) = specification_other globals p s f h
typed_procedure_other globals procs _ _ (typing.in_body p b f e h) = block_other _ b f h

pub typing_other : (t : TypedProgram) (f : TypeFault) → typing.IsProgramBroken t f → is_entry f ≡ false
typing_other t _ (typing.axiomatic e f c h) = value_other _ _ e f h
typing_other t _ (typing.in_procedure p f c h) = typed_procedure_other _ _ p f h
