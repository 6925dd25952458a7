-- The faults of the parts of a procedure are faults of the procedure.
use Rattle.std.proofs.Common.{◌≡◌, ℕ, true, List, map, Option, None, ap₂, sym, ◌∙◌, subst}
use Rattle.boogie_tree.specs.declared.tree.VarInfo.{VarInfo}
use Rattle.boogie_tree.specs.Tree.{Declaration, Procedure, ProcedureBody}
use Rattle.typed_tree.specs.declared.fault.TypeFault.{TypeFault}
use Rattle.typed_tree.specs.declared.fault.TypeFault.TheVariants as fault
use Rattle.typed_tree.specs.Scope.{Scope, requires_scope, body_scope}
use Rattle.typed_tree.specs.TypedTree.{TypedSpecification}
use Rattle.boogie_types.specs.Meanings.{variable_info}
use Rattle.boogie_types.specs.Ties.Numbers.{texts, IsTwiceFault}
use Rattle.boogie_types.specs.Sorted.{declared_globals, procedures_of, body_of, declared_locals, variable_names, labels_if_any, modified_in}
use Rattle.boogie_types.specs.BrokenNames.{IsMisnamedIn, IsProcedureMisnamed, unknown_modified, constant_modified, in_body}
use Rattle.boogie_types.specs.Ties.NamingFaults.{IsProcedureFault}
use Rattle.boogie_types.specs.Resolved.{named_specifications}
use Rattle.boogie_types.specs.Ties.Modified.{AreModifiedWrong, unknown_name, constant_name, AreModifiedFault}
use Rattle.boogie_types.specs.Ties.Specifications.{specifications_in, AreSpecificationsFault}
use Rattle.boogie_types.specs.Ties.Bodies.{place_among, first_place, IsBodyFault}
use Rattle.boogie_types.specs.Ties.ProcedureFaults.{IsProcedureBroken, second_variable, second_label, misnamed, IsProcedureRefused}
use Rattle.boogie_types.proofs.FaultLaws.{or_memory_to}
use Rattle.boogie_types.proofs.SpecificationLaws.{before_of, after_of, specifications_are, fault_of_specifications}

module _ (ds : List Declaration) (p : Procedure) where
  -- ---- modifies lists

  wrong_modified : (f : TypeFault) → AreModifiedWrong (declared_globals ds) (modified_in p.specs) f → IsProcedureMisnamed ds p f
  wrong_modified _ (unknown_name x m e) = unknown_modified x m e
  wrong_modified _ (constant_name x n m e g) = constant_modified x n m e g

  pub modifies_fault : (globals : List VarInfo) (f : TypeFault) → globals ≡ declared_globals ds → AreModifiedFault globals (modified_in p.specs) f → IsProcedureFault ds p f
  modifies_fault globals f e h =
      or_memory_to f (wrong_modified f) (subst (λ (vs : List VarInfo). AreModifiedFault vs (modified_in p.specs) f) e h)

  -- ---- specifications, by what they see

  module _ (before after : Scope) (globals params locals : List VarInfo) (known : globals ≡ declared_globals ds)
      (first : params ≡ map (variable_info true) p.params) (second : locals ≡ declared_locals p None)
      (sees : before ≡ requires_scope globals params) (sees_more : after ≡ body_scope globals locals) where
    before_is : before ≡ before_of ds p
    before_is = sees ∙ ap₂ requires_scope known first

    after_is : after ≡ after_of ds p
    after_is = sees_more ∙ ap₂ body_scope known second

    pub specifications_seen : (o : Option (List TypedSpecification)) → specifications_in before after p.specs ≡ o → named_specifications ds p p.specs ≡ o
    specifications_seen o h =
        specifications_are ds p p.specs ∙ ap₂ (λ (b a : Scope). specifications_in b a p.specs) (sym before_is) (sym after_is) ∙ h

    pub specifications_fault : (f : TypeFault) → AreSpecificationsFault before after p.specs f → IsProcedureFault ds p f
    specifications_fault f h =
        fault_of_specifications ds p f
        (subst (λ (b : Scope). AreSpecificationsFault b (after_of ds p) p.specs f) before_is
        (subst (λ (a : Scope). AreSpecificationsFault before a p.specs f) after_is h))

  -- ---- the body, at its place

  fault_here : (b : Option ProcedureBody) (f : TypeFault) → b ≡ body_of ds p → IsBodyFault (first_place ds p b) b f → IsProcedureFault ds p f
  fault_here b f e =
      or_memory_to f
      (λ m. in_body m.0 f (sym e ∙ m.1) (subst (λ (o : Option ProcedureBody). IsMisnamedIn (first_place ds p o) None m.0.stmts f) m.1 m.2))

  module _ (b : Option ProcedureBody) (globals : List VarInfo) (procs : List Procedure) (locals : List VarInfo) (labels : List (List ℕ)) (known : globals ≡ declared_globals ds)
      (procs_are : procs ≡ procedures_of ds) (locals_are : locals ≡ declared_locals p b) (labels_are : labels ≡ texts (labels_if_any b)) where
    place_is : place_among globals procs locals labels ≡ first_place ds p b
    place_is =
        ap₂ (λ (gs : List VarInfo) (ps : List Procedure). place_among gs ps locals labels) known procs_are
        ∙ ap₂ (place_among (declared_globals ds) (procedures_of ds)) locals_are labels_are

    pub body_fault : (f : TypeFault) → b ≡ body_of ds p → IsBodyFault (place_among globals procs locals labels) b f → IsProcedureFault ds p f
    body_fault f e h = fault_here b f e (subst (λ q. IsBodyFault q b f) place_is h)

  -- ---- faults

  twice_variable : (f : TypeFault) → IsTwiceFault (variable_names p (body_of ds p)) f → IsProcedureRefused ds p f
  twice_variable (fault.Twice s) (x, second, at) = subst (λ t. IsProcedureBroken ds p (fault.Twice t)) (sym at) (second_variable x second)
  twice_variable fault.Memory h = tt
  twice_variable (fault.Unknown s) h = absurd h
  twice_variable (fault.Mismatch s) h = absurd h
  twice_variable (fault.NotAssignable s) h = absurd h
  twice_variable (fault.NotModified s) h = absurd h
  twice_variable fault.NoEntry h = absurd h
  twice_variable (fault.ZeroDivisor s) h = absurd h
  twice_variable (fault.NonLinear s) h = absurd h
  twice_variable (fault.BadGoto s) h = absurd h
  twice_variable (fault.TooBig s) h = absurd h

  twice_label : (f : TypeFault) → IsTwiceFault (labels_if_any (body_of ds p)) f → IsProcedureRefused ds p f
  twice_label (fault.Twice s) (x, second, at) = subst (λ t. IsProcedureBroken ds p (fault.Twice t)) (sym at) (second_label x second)
  twice_label fault.Memory h = tt
  twice_label (fault.Unknown s) h = absurd h
  twice_label (fault.Mismatch s) h = absurd h
  twice_label (fault.NotAssignable s) h = absurd h
  twice_label (fault.NotModified s) h = absurd h
  twice_label fault.NoEntry h = absurd h
  twice_label (fault.ZeroDivisor s) h = absurd h
  twice_label (fault.NonLinear s) h = absurd h
  twice_label (fault.BadGoto s) h = absurd h
  twice_label (fault.TooBig s) h = absurd h

  pub refused_variable : (b : Option ProcedureBody) (f : TypeFault) → b ≡ body_of ds p → IsTwiceFault (variable_names p b) f → IsProcedureRefused ds p f
  refused_variable b f e h = twice_variable f (subst (λ (o : Option ProcedureBody). IsTwiceFault (variable_names p o) f) e h)

  pub refused_label : (b : Option ProcedureBody) (f : TypeFault) → b ≡ body_of ds p → IsTwiceFault (labels_if_any b) f → IsProcedureRefused ds p f
  refused_label b f e h = twice_label f (subst (λ (o : Option ProcedureBody). IsTwiceFault (labels_if_any o) f) e h)

  pub refused_part : (f : TypeFault) → IsProcedureFault ds p f → IsProcedureRefused ds p f
  refused_part f = or_memory_to f (misnamed f)
