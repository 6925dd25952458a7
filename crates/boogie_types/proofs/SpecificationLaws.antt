-- Specifications that are made one by one.
use Rattle.std.proofs.Common.{◌≡◌, ℕ, ◌+◌, ◌<◌, false, true, List, [], ◌∷◌, ◌++◌, map, length, drop, get_or, Option, None, Some, Contains, ⊎_elim, refl, ap, sym, ◌∙◌, subst, append_assoc, append-nil, arith}
use Rattle.std.proofs.Math.ListN.{get_or-map}
use Rattle.std.proofs.lemmas.List.{drop_more, length-map}
use Rattle.std.proofs.lemmas.Bool.{false≢true}
use Rattle.std.proofs.lemmas.Option.{same_Some}
use Rattle.boogie_tree.specs.declared.tree.Spec.{Spec}
use Rattle.boogie_tree.specs.Tree as tree
use Rattle.boogie_tree.specs.Tree.{Invariant, Specification, Declaration, Procedure}
use Rattle.boogie_tree.specs.View as view
use Rattle.typed_tree.specs.declared.fault.TypeFault.{TypeFault}
use Rattle.typed_tree.specs.Scope.{Scope, requires_scope, body_scope}
use Rattle.typed_tree.specs.TypedTree as typed
use Rattle.typed_tree.specs.TypedTree.{TypedSpecification}
use Rattle.boogie_types.specs.Ties.Making.{made}
use Rattle.boogie_types.specs.Meanings.{variable_info}
use Rattle.boogie_types.specs.Naming.{from_both, named_invariant}
use Rattle.boogie_types.specs.Sorted.{declared_globals, declared_locals}
use Rattle.boogie_types.specs.Resolved.{named_specifications}
use Rattle.boogie_types.specs.BrokenNames.{IsProcedureMisnamed, required, ensured}
use Rattle.boogie_types.specs.Ties.NamingFaults.{IsExpressionFault, IsProcedureFault}
use Rattle.boogie_types.specs.Ties.Specifications.{specifications_in, AreSpecificationsUnknown, in_requires, in_ensures, AreSpecificationsFault}
use Rattle.boogie_types.proofs.FaultLaws.{or_memory_to}
use Rattle.boogie_types.proofs.ExcludedLists.{no_member, member_cases}

-- one member more is made
one_made : {X Y : Type 0} (f : X → Y) (o : Option X) (rest : Option (List Y)) (done new : List Y) → made done (from_both (λ t ts. f t ∷ ts) o (Some [])) ≡ Some new →
    made done (from_both (λ t ts. f t ∷ ts) o rest) ≡ made new rest
one_made f None rest done new e = absurd (false≢true (let x : false ≡ true = cc in x))
one_made f (Some x) None done new e = refl
one_made {X} {Y} f (Some x) (Some ys) done new e =
    let n : done ++ f x ∷ [] ≡ new = same_Some (done ++ f x ∷ []) new e in
    ap (λ (zs : List Y). Some zs) (sym (append_assoc done (f x ∷ []) ys) ∙ ap (λ (zs : List Y). zs ++ ys) n)

module _ (before after : Scope) where
  -- one specification more is made
  spec_made : (s : Specification) (rest : List Specification) (done new : List TypedSpecification) → made done (specifications_in before after (s ∷ [])) ≡ Some new →
      made done (specifications_in before after (s ∷ rest)) ≡ made new (specifications_in before after rest)
  spec_made (tree.Requires i) rest done new e = one_made typed.Requires (named_invariant before i) (specifications_in before after rest) done new e
  spec_made (tree.Ensures i) rest done new e = one_made typed.Ensures (named_invariant after i) (specifications_in before after rest) done new e
  spec_made (tree.Modifies xs) rest done new e =
      let n : done ++ [] ≡ new = same_Some (done ++ []) new e in
      ap (λ (ys : List TypedSpecification). made ys (specifications_in before after rest)) (sym (append-nil done) ∙ n)

  -- the same as a loop over the specifications goes on
  pub spec_turn : (ss : List Spec) (i : ℕ) (s : Spec) (done new : List TypedSpecification) (whole : Option (List TypedSpecification)) → i < length ss → s ≡ get_or ss i s →
      made done (specifications_in before after (view.specification s ∷ [])) ≡ Some new →
      made done (specifications_in before after (map view.specification (drop i ss))) ≡ whole →
      made new (specifications_in before after (map view.specification (drop (i + 1) ss))) ≡ whole
  spec_turn ss i s done new whole l here e w =
      sym (spec_made (view.specification s) (map view.specification (drop (i + 1) ss)) done new e)
      ∙ ap (λ (t : Spec). made done (specifications_in before after (view.specification t ∷ map view.specification (drop (i + 1) ss)))) here
      ∙ ap (λ (ts : List Spec). made done (specifications_in before after (map view.specification ts))) (sym (drop_more ss i s l)) ∙ w

  -- ---- faults

  pub fault_in_requires : (i : Invariant) (f : TypeFault) → IsExpressionFault before i.cond f → AreSpecificationsFault before after (tree.Requires i ∷ []) f
  fault_in_requires i f = or_memory_to f (in_requires i f (0, omega arith, refl))

  pub fault_in_ensures : (i : Invariant) (f : TypeFault) → IsExpressionFault after i.cond f → AreSpecificationsFault before after (tree.Ensures i ∷ []) f
  fault_in_ensures i f = or_memory_to f (in_ensures i f (0, omega arith, refl))

  unknown_more : (ss ts : List Specification) → ((s : Specification) → Contains ss s → Contains ts s) → (f : TypeFault) →
      AreSpecificationsUnknown before after ss f → AreSpecificationsUnknown before after ts f
  unknown_more ss ts h f (in_requires i _ m e) = in_requires i f (h (tree.Requires i) m) e
  unknown_more ss ts h f (in_ensures i _ m e) = in_ensures i f (h (tree.Ensures i) m) e

  member_at : (ss : List Spec) (i : ℕ) (s : Spec) → i < length ss → s ≡ get_or ss i s → Contains (map view.specification ss) (view.specification s)
  member_at ss i s l here =
      let n = length-map ss view.specification in
      let below : i < length (map view.specification ss) = omega (arith, n) in
      (i, below, get_or-map view.specification ss i s ∙ ap view.specification (sym here))

  -- a fault of the specification at a place is one of all
  pub fault_of_spec : (ss : List Spec) (i : ℕ) (s : Spec) (f : TypeFault) → i < length ss → s ≡ get_or ss i s →
      AreSpecificationsFault before after (view.specification s ∷ []) f → AreSpecificationsFault before after (map view.specification ss) f
  fault_of_spec ss i s f l here =
      or_memory_to f
      (unknown_more (view.specification s ∷ []) (map view.specification ss)
      (λ t m.
      ⊎_elim
      (λ (same : view.specification s ≡ t). subst (λ (u : Specification). Contains (map view.specification ss) u) same (member_at ss i s l here))
      (λ (other : Contains [] t). no_member t other)
      (member_cases (view.specification s) [] t m))
      f)

-- ---- the specifications of a procedure

module _ (ds : List Declaration) (p : Procedure) where
  -- what requires see, and what ensures see
  abbrev pub before_of : Scope
  before_of = requires_scope (declared_globals ds) (map (variable_info true) p.params)

  abbrev pub after_of : Scope
  after_of = body_scope (declared_globals ds) (declared_locals p None)

  pub specifications_are : (ss : List Specification) → named_specifications ds p ss ≡ specifications_in before_of after_of ss
  specifications_are [] = refl
  specifications_are (tree.Requires i ∷ ss) =
      ap (from_both (λ t ts. typed.Requires t ∷ ts) (named_invariant before_of i)) (specifications_are ss)
  specifications_are (tree.Ensures i ∷ ss) =
      ap (from_both (λ t ts. typed.Ensures t ∷ ts) (named_invariant after_of i)) (specifications_are ss)
  specifications_are (tree.Modifies xs ∷ ss) = specifications_are ss

  misnamed_by : (f : TypeFault) → AreSpecificationsUnknown before_of after_of p.specs f → IsProcedureMisnamed ds p f
  misnamed_by f (in_requires i _ m e) = required i f m e
  misnamed_by f (in_ensures i _ m e) = ensured i f m e

  pub fault_of_specifications : (f : TypeFault) → AreSpecificationsFault before_of after_of p.specs f → IsProcedureFault ds p f
  fault_of_specifications f = or_memory_to f (misnamed_by f)
