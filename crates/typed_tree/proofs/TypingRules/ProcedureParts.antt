-- Procedures and programs, from their parts.
use Rattle.std.proofs.Common.{◌≡◌, Bool, true, ◌&&◌, List, Option, Some, take, ◌+◌, ap, sym, ◌∙◌, subst, inl, inr, Result, Ok, Err}
use Rattle.std.specs.List.{list_all}
use Rattle.boogie_tree.specs.declared.tree.VarInfo.{VarInfo}
use Rattle.typed_tree.specs.declared.fault.TypeFault.{TypeFault}
use Rattle.typed_tree.specs.TypedTree.{TypedInvariant, TypedBlock, TypedSpecification, Requires, Ensures, TypedProcedure, TypedProgram}
use Rattle.typed_tree.specs.Scope.{Scope, axiom_scope, requires_scope, body_scope}
use Rattle.typed_tree.specs.TypingRules.Rules.{Context, is_condition, params_of, is_specification, is_block, within, is_body_if_any, procedure_keeps_rules, context_of, keeps_typing}
use Rattle.typed_tree.specs.TypingRules.BrokenTyping.{IsConditionBroken, IsSpecificationBroken, required, ensured, IsBlockBroken, IsProcedureBroken, specified, in_body, IsProgramBroken, axiomatic, in_procedure}
use Rattle.typed_tree.specs.TypingRules.Ties.Judged.{IsFaultOf, Judges, IsOneBroken, one}

pub required_judged : {T : Type 0} (r : Result T TypeFault) (globals : List VarInfo) (p : TypedProcedure) (s : TypedSpecification) (i : TypedInvariant) (seen : Scope) →
    s ≡ Requires i → seen ≡ requires_scope globals (params_of p) → Judges r (is_condition seen i.cond) (IsConditionBroken seen i.cond) →
    Judges r (is_specification globals p s) (IsSpecificationBroken globals p s)
required_judged r globals p s i seen e f h =
    subst (λ (x : TypedSpecification). Judges r (is_specification globals p x) (IsSpecificationBroken globals p x)) (sym e)
    (go r (subst (λ (x : Scope). Judges r (is_condition x i.cond) (IsConditionBroken x i.cond)) f h))
  where
    go : {T : Type 0} (r : Result T TypeFault) → Judges r (is_condition (requires_scope globals (params_of p)) i.cond) (IsConditionBroken (requires_scope globals (params_of p)) i.cond) →
        Judges r (is_specification globals p (Requires i)) (IsSpecificationBroken globals p (Requires i))
    go (Ok x) h = h
    go (Err f) (inl m) = inl m
    go (Err f) (inr b) = inr (required i f b)

pub ensured_judged : {T : Type 0} (r : Result T TypeFault) (globals : List VarInfo) (p : TypedProcedure) (s : TypedSpecification) (i : TypedInvariant) (seen : Scope) →
    s ≡ Ensures i → seen ≡ body_scope globals (take (p.params + p.results) p.locals) → Judges r (is_condition seen i.cond) (IsConditionBroken seen i.cond) →
    Judges r (is_specification globals p s) (IsSpecificationBroken globals p s)
ensured_judged r globals p s i seen e f h =
    subst (λ (x : TypedSpecification). Judges r (is_specification globals p x) (IsSpecificationBroken globals p x)) (sym e)
    (go r (subst (λ (x : Scope). Judges r (is_condition x i.cond) (IsConditionBroken x i.cond)) f h))
  where
    go : {T : Type 0} (r : Result T TypeFault) → Judges r (is_condition (body_scope globals (take (p.params + p.results) p.locals)) i.cond) (IsConditionBroken (body_scope globals (take (p.params + p.results) p.locals)) i.cond) →
        Judges r (is_specification globals p (Ensures i)) (IsSpecificationBroken globals p (Ensures i))
    go (Ok x) h = h
    go (Err f) (inl m) = inl m
    go (Err f) (inr b) = inr (ensured i f b)

pub body_kept : (c k : Context) (o : Option TypedBlock) (b seen_b : TypedBlock) → k ≡ c → o ≡ Some b → seen_b ≡ b →
    is_block (within k seen_b) seen_b ≡ true → is_body_if_any c o ≡ true
body_kept c k o b seen_b e s j h =
    ap (is_body_if_any c) s ∙ subst (λ (x : Context). is_block (within x b) b ≡ true) e (subst (λ (x : TypedBlock). is_block (within k x) x ≡ true) j h)

pub body_fault : (globals : List VarInfo) (procs : List TypedProcedure) (p : TypedProcedure) (k : Context) (b seen_b : TypedBlock) (f : TypeFault) →
    k ≡ context_of globals procs p → p.body ≡ Some b → seen_b ≡ b →
    IsFaultOf (IsBlockBroken (within k seen_b) seen_b) f → IsFaultOf (IsProcedureBroken globals procs p) f
body_fault globals procs p k b seen_b f e s j h =
    go (subst (λ (x : Context). IsFaultOf (IsBlockBroken (within x b) b) f) e (subst (λ (x : TypedBlock). IsFaultOf (IsBlockBroken (within k x) x) f) j h))
  where
    go : IsFaultOf (IsBlockBroken (within (context_of globals procs p) b) b) f → IsFaultOf (IsProcedureBroken globals procs p) f
    go (inl m) = inl m
    go (inr x) = inr (in_body p b f s x)

pub specified_fault : (globals : List VarInfo) (procs : List TypedProcedure) (p : TypedProcedure) (f : TypeFault) →
    IsFaultOf (IsOneBroken p.specs (IsSpecificationBroken globals p)) f → IsFaultOf (IsProcedureBroken globals procs p) f
specified_fault globals procs p f (inl m) = inl m
specified_fault globals procs p f (inr (one s g m b)) = inr (specified p s g m b)

pub procedure_judged : {T : Type 0} (r : Result T TypeFault) (globals : List VarInfo) (procs : List TypedProcedure) (p : TypedProcedure) →
    list_all (is_specification globals p) p.specs ≡ true →
    Judges r (is_body_if_any (context_of globals procs p) p.body) (IsProcedureBroken globals procs p) →
    Judges r (procedure_keeps_rules globals procs p) (IsProcedureBroken globals procs p)
procedure_judged (Ok x) globals procs p s h = ap (λ (b : Bool). b && is_body_if_any (context_of globals procs p) p.body) s ∙ h
procedure_judged (Err f) globals procs p s h = h

pub axiom_fault : (t : TypedProgram) (seen : Scope) (f : TypeFault) → seen ≡ axiom_scope t.globals →
    IsFaultOf (IsOneBroken t.axioms (IsConditionBroken seen)) f → IsFaultOf (IsProgramBroken t) f
axiom_fault t seen f e h = go (subst (λ (x : Scope). IsFaultOf (IsOneBroken t.axioms (IsConditionBroken x)) f) e h)
  where
    go : IsFaultOf (IsOneBroken t.axioms (IsConditionBroken (axiom_scope t.globals))) f → IsFaultOf (IsProgramBroken t) f
    go (inl m) = inl m
    go (inr (one x g m b)) = inr (axiomatic x g m b)

pub program_judged : {T : Type 0} (r : Result T TypeFault) (t : TypedProgram) (seen : Scope) → seen ≡ axiom_scope t.globals →
    list_all (is_condition seen) t.axioms ≡ true →
    Judges r (list_all (procedure_keeps_rules t.globals t.procs) t.procs) (IsOneBroken t.procs (IsProcedureBroken t.globals t.procs)) →
    Judges r (keeps_typing t) (IsProgramBroken t)
program_judged (Ok x) t seen e a h =
    ap (λ (b : Bool). b && list_all (procedure_keeps_rules t.globals t.procs) t.procs) (ap (λ (s : Scope). list_all (is_condition s) t.axioms) (sym e) ∙ a) ∙ h
program_judged (Err f) t seen e a (inl m) = inl m
program_judged (Err f) t seen e a (inr (one p g m b)) = inr (in_procedure p g m b)
