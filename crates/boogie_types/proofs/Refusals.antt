-- Faults of the parts of a program are faults of the program.
use Rattle.std.proofs.Common.{◌≡◌, ℕ, ◌+◌, ◌<◌, Bool, true, false, ◌&&◌, List, map, length, drop, get_or, Some, Contains, ap, sym, ◌∙◌, subst, arith}
use Rattle.std.specs.Borrow.{Bor}
use Rattle.std.specs.List.{list_all}
use Rattle.std.proofs.lemmas.Bool.{false≢true}
use Rattle.std.proofs.lemmas.List.{length-map, drop_more}
use Rattle.std.proofs.Math.ListN.{get_or-map}
use Rattle.boogie_tree.specs.declared.tree.Name.{Name}
use Rattle.boogie_tree.specs.declared.tree.Expr.{Expr}
use Rattle.boogie_tree.specs.declared.tree.Proc.{Proc}
use Rattle.boogie_tree.specs.declared.tree.VarInfo.{VarInfo}
use Rattle.boogie_tree.specs.Tree.{Expression, Procedure, Declaration}
use Rattle.boogie_tree.specs.View as view
use Rattle.typed_tree.specs.declared.fault.TypeFault.{TypeFault}
use Rattle.typed_tree.specs.declared.fault.TypeFault.TheVariants as fault
use Rattle.typed_tree.specs.TypedTree.{TypedProgram}
use Rattle.typed_tree.specs.Scope.{Scope, axiom_scope}
use Rattle.typed_tree.specs.TypingRules.BrokenTyping.{IsProgramBroken, IsTypingFault}
use Rattle.boogie_types.specs.BrokenNames as broken
use Rattle.boogie_types.specs.BrokenNames.{one_of, IsSecond, IsRuleBroken, in_typing}
use Rattle.boogie_types.specs.Ties.DeclarationFaults.{IsImplementationBroken, no_procedure, other_body, other_variables, AreImplementationsBroken, AreProceduresRefused, IsRefused}
use Rattle.boogie_types.specs.Ties.NamingFaults.{OrMemory, IsExpressionFault, AreExpressionsFault}
use Rattle.boogie_types.specs.Ties.Numbers.{IsTwiceFault}
use Rattle.boogie_types.specs.Ties.ProcedureFaults.{IsProcedureBroken, second_variable, second_label, misnamed, IsProcedureRefused}
use Rattle.boogie_types.specs.Ties.Referred.{expressions_by, procedures_by}
use Rattle.boogie_types.specs.Resolved.{named_program}
use Rattle.boogie_types.specs.Sorted.{declared_globals, axioms_of, procedures_of, implementations_of}
use Rattle.boogie_types.proofs.FaultLaws.{or_memory_to}
use Rattle.boogie_types.proofs.OtherFaults.{is_entry, unknowns_other, procedure_other, typing_other}

-- ---- members behind references

contains_map : {X Y : Type 0} (g : X → Y) (xs : List X) (i : ℕ) (x : X) → i < length xs → x ≡ get_or xs i x → Contains (map g xs) (g x)
contains_map g xs i x l e =
    let n = length-map xs g in
    let below : i < length (map g xs) = omega (arith, n) in
    (i, below, get_or-map g xs i x ∙ ap g (sym e))

pub fault_of_axiom : (s : Scope) (es : List (Bor Expr)) (i : ℕ) (e : Bor Expr) (f : TypeFault) → i < length es → e ≡ get_or es i e →
    IsExpressionFault s (view.expression e.now) f → AreExpressionsFault s (expressions_by es) f
fault_of_axiom s es i e f l h =
    or_memory_to f (one_of (expressions_by es) (view.expression e.now) f (contains_map (λ (x : Bor Expr). view.expression x.now) es i e l h))

pub fault_of_procedure : (ds : List Declaration) (ps : List (Bor Proc)) (i : ℕ) (p : Bor Proc) (f : TypeFault) → i < length ps → p ≡ get_or ps i p →
    IsProcedureRefused ds (view.procedure p.now) f → AreProceduresRefused ds (procedures_by ps) f
fault_of_procedure ds ps i p f l h =
    or_memory_to f (λ (b : IsProcedureBroken ds (view.procedure p.now) f). (view.procedure p.now, contains_map (λ (x : Bor Proc). view.procedure x.now) ps i p l h, b))

-- all pass a test as far as a loop has come
pub all_turn : (t : Procedure → Bool) (ps : List (Bor Proc)) (i : ℕ) (p : Bor Proc) (whole : Bool) → i < length ps → p ≡ get_or ps i p →
    t (view.procedure p.now) ≡ true → list_all t (procedures_by (drop i ps)) ≡ whole → list_all t (procedures_by (drop (i + 1) ps)) ≡ whole
all_turn t ps i p whole l h e w =
    let rest = list_all t (procedures_by (drop (i + 1) ps)) in
    sym
    (sym w ∙ ap (λ (qs : List (Bor Proc)). list_all t (procedures_by qs)) (drop_more ps i p l)
    ∙ ap (λ (q : Bor Proc). t (view.procedure q.now) && rest) (sym h) ∙ ap (λ (b : Bool). b && rest) e)

-- ---- the whole program

refused_by : (ds : List Declaration) (f : TypeFault) {A : Type 0} → (A → IsRuleBroken ds f) → (A → is_entry f ≡ false) → OrMemory f A → IsRefused ds f
refused_by ds (fault.Unknown s) g h a = g a
refused_by ds (fault.Twice s) g h a = g a
refused_by ds (fault.Mismatch s) g h a = g a
refused_by ds (fault.NotAssignable s) g h a = g a
refused_by ds (fault.NotModified s) g h a = g a
refused_by ds fault.NoEntry g h a = absurd (false≢true (sym (h a)))
refused_by ds (fault.ZeroDivisor s) g h a = g a
refused_by ds (fault.NonLinear s) g h a = g a
refused_by ds (fault.BadGoto s) g h a = g a
refused_by ds (fault.TooBig s) g h a = g a
refused_by ds fault.Memory g h a = tt

module _ (ds : List Declaration) where
  pub twice_refused : (xs : List Name) → ((x : Name) → IsSecond xs x → IsRuleBroken ds (fault.Twice x.span)) → (f : TypeFault) → IsTwiceFault xs f → IsRefused ds f
  twice_refused xs g (fault.Twice s) (x, h, e) = subst (λ t. IsRuleBroken ds (fault.Twice t)) (sym e) (g x h)
  twice_refused xs g fault.Memory h = tt
  twice_refused xs g (fault.Unknown s) h = absurd h
  twice_refused xs g (fault.Mismatch s) h = absurd h
  twice_refused xs g (fault.NotAssignable s) h = absurd h
  twice_refused xs g (fault.NotModified s) h = absurd h
  twice_refused xs g fault.NoEntry h = absurd h
  twice_refused xs g (fault.ZeroDivisor s) h = absurd h
  twice_refused xs g (fault.NonLinear s) h = absurd h
  twice_refused xs g (fault.BadGoto s) h = absurd h
  twice_refused xs g (fault.TooBig s) h = absurd h

  implementation_refused : (i : Procedure) → Contains (implementations_of ds) i → (f : TypeFault) → IsImplementationBroken (procedures_of ds) i f → IsRefused ds f
  implementation_refused i c _ (no_procedure e) = broken.unknown_implemented i c e
  implementation_refused i c _ (other_body p e h) = broken.second_body i p c e h
  implementation_refused i c _ (other_variables p e h) = broken.not_repeated i p c e h

  pub implementations_refused : (ps is : List Procedure) → ps ≡ procedures_of ds → is ≡ implementations_of ds → (f : TypeFault) → AreImplementationsBroken ps is f → IsRefused ds f
  implementations_refused ps is e d f (i, c, h) =
      implementation_refused i (subst (λ (qs : List Procedure). Contains qs i) d c) f (subst (λ (qs : List Procedure). IsImplementationBroken qs i f) e h)

  axiom_refused : (f : TypeFault) → AreExpressionsFault (axiom_scope (declared_globals ds)) (axioms_of ds) f → IsRefused ds f
  axiom_refused f = refused_by ds f unknown_axiom (unknowns_other (axiom_scope (declared_globals ds)) (axioms_of ds) f)
    where
      unknown_axiom : broken.AreUnknownIn (axiom_scope (declared_globals ds)) (axioms_of ds) f → IsRuleBroken ds f
      unknown_axiom (one_of es e g c h) = broken.in_axiom e g c h

  pub axioms_refused : (globals : List VarInfo) (es : List Expression) → globals ≡ declared_globals ds → es ≡ axioms_of ds →
      (f : TypeFault) → AreExpressionsFault (axiom_scope globals) es f → IsRefused ds f
  axioms_refused globals es e d f h =
      axiom_refused f
      (subst (λ (xs : List Expression). AreExpressionsFault (axiom_scope (declared_globals ds)) xs f) d
      (subst (λ (vs : List VarInfo). AreExpressionsFault (axiom_scope vs) es f) e h))

  procedure_broken : (p : Procedure) (f : TypeFault) → Contains (procedures_of ds) p → IsProcedureBroken ds p f → IsRuleBroken ds f
  procedure_broken p _ c (second_variable x h) = broken.second_variable p x c h
  procedure_broken p _ c (second_label x h) = broken.second_label p x c h
  procedure_broken p _ c (misnamed f h) = broken.in_procedure p f c h

  pub procedures_refused : (ps : List Procedure) → ps ≡ procedures_of ds → (f : TypeFault) → AreProceduresRefused ds ps f → IsRefused ds f
  procedures_refused ps e f h =
      refused_by ds f (λ (p, c, b). procedure_broken p f c b) (λ (p, c, b). procedure_other ds p f b)
      (subst (λ (qs : List Procedure). AreProceduresRefused ds qs f) e h)

  pub typing_refused : (t : TypedProgram) → named_program ds ≡ Some t → (f : TypeFault) → IsTypingFault t f → IsRefused ds f
  typing_refused t e f h = refused_by ds f (in_typing t f e) (typing_other t f) (or_memory f h)
    where
      or_memory : (g : TypeFault) → IsTypingFault t g → OrMemory g (IsProgramBroken t g)
      or_memory (fault.Unknown s) a = a
      or_memory (fault.Twice s) a = a
      or_memory (fault.Mismatch s) a = a
      or_memory (fault.NotAssignable s) a = a
      or_memory (fault.NotModified s) a = a
      or_memory fault.NoEntry a = a
      or_memory (fault.ZeroDivisor s) a = a
      or_memory (fault.NonLinear s) a = a
      or_memory (fault.BadGoto s) a = a
      or_memory (fault.TooBig s) a = a
      or_memory fault.Memory a = tt
