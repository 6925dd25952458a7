-- The form of each part of what a program reads fits.
use Rattle.std.specs.Prelude.{◌≡◌, false, true, List}
use Rattle.std.specs.List.{AllByRecursion}
use Rattle.typed_tree.specs.TypedTree.{TypedExpression, TypedGuard, Any, Cond, TypedInvariant, TypedSpecification, Requires, Ensures, TypedProgram}
use Rattle.typed_tree.specs.AffineForm.{forms_fit}
use Rattle.typed_tree.specs.Scope.{is_constant_column}

-- of an expression that is read now
abbrev pub FormsFit : TypedProgram → TypedExpression → Type 0
FormsFit t e = forms_fit (is_constant_column t.globals) false e ≡ true

-- of expressions
abbrev pub AllFormsFit : TypedProgram → List TypedExpression → Type 0
AllFormsFit t es = AllByRecursion (FormsFit t) es

-- of a guard
abbrev pub GuardFits : TypedProgram → TypedGuard → Type 0
GuardFits t Any = Unit {0}
GuardFits t (Cond e) = FormsFit t e

-- of the invariants of a loop
abbrev pub InvariantsFit : TypedProgram → List TypedInvariant → Type 0
InvariantsFit t is = AllByRecursion (λ i. FormsFit t i.cond) is

-- of the conditions that a procedure requires and ensures
abbrev pub SpecificationFits : TypedProgram → TypedSpecification → Type 0
SpecificationFits t (Requires i) = FormsFit t i.cond
SpecificationFits t (Ensures i) = FormsFit t i.cond

abbrev pub SpecificationsFit : TypedProgram → List TypedSpecification → Type 0
SpecificationsFit t ss = AllByRecursion (SpecificationFits t) ss
