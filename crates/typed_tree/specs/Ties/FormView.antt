-- The forms of the code, and the typed parts of expressions, as contracts see them.
use Rattle.std.specs.Prelude.{◌≡◌, Bool, true, false, Some, ◌⊎◌, Result, MatchResult, Box}
use Rattle.std.specs.declared.alloc.Global.{Global}
use Rattle.boogie_tree.specs.declared.tree.Ty.{Ty}
use Rattle.boogie_tree.specs.declared.tree.Column.{Column}
use Rattle.typed_tree.specs.declared.form.Form as code
use Rattle.typed_tree.specs.declared.fault.AffineFault.{AffineFault}
use Rattle.typed_tree.specs.declared.fault.AffineFault.TheVariants as affine
use Rattle.typed_tree.specs.declared.fault.TypeFault.{TypeFault}
use Rattle.typed_tree.specs.declared.fault.TypeFault.TheVariants as fault
use Rattle.typed_tree.specs.declared.typing.Part.{Part}
use Rattle.boogie_tree.specs.declared.span.Span.{Span}
use Rattle.boogie_tree.specs.declared.tree.Op.{Op}
use Rattle.typed_tree.specs.TypedTree.{TypedExpression, Not, Neg, Bin}
use Rattle.typed_tree.specs.Scope.{Scope, fixed}
use Rattle.typed_tree.specs.Typing.{type_of}
use Rattle.typed_tree.specs.AffineForm.{Form, form, forms_fit}
use Rattle.typed_tree.specs.Divided.{is_divided}
use Rattle.typed_tree.specs.BrokenRules.{IsBroken}

abbrev pub form_of : code.Form → Form
form_of a = record { terms = a.terms.items; quotients = a.quotients.items; constant = a.constant }

-- the type and the form of an expression that keeps the rules
pub record IsPart (s : Scope) (old : Bool) (e : TypedExpression) (p : Part) : Type 0 where
  pub typed : type_of s e ≡ Some p.ty
  pub divided : is_divided e ≡ true
  pub fit : forms_fit (fixed s) old e ≡ true
  pub seen : form_of p.form ≡ form (fixed s) old e

-- a broken rule of the expression, read at the procedure's entry or now, or want of memory
abbrev pub IsPartFault : Scope → Bool → TypedExpression → TypeFault → Type 0
IsPartFault s old e f = (f ≡ fault.Memory) ⊎ IsBroken s old e f

-- what is answered for an expression: its part, or a fault
abbrev pub IsAnswer : Scope → Bool → TypedExpression → Result (Box Part Global) TypeFault → Type 0
IsAnswer s old e r = MatchResult r (λ p. IsPart s old e p.value) (IsPartFault s old e)

-- The same for `!`, `-` and the other operators, given the parts of the operands, whatever expressions these are.
abbrev pub IsNotAnswer : Span → Part → Result (Box Part Global) TypeFault → Type 0
IsNotAnswer at p r = (s : Scope) (old : Bool) (e : TypedExpression) → IsPart s old e p → IsAnswer s old (Not at e) r

abbrev pub IsNegAnswer : Span → Part → Result (Box Part Global) TypeFault → Type 0
IsNegAnswer at p r = (s : Scope) (old : Bool) (e : TypedExpression) → IsPart s old e p → IsAnswer s old (Neg at e) r

abbrev pub IsOperationAnswer : Span → Op → TypedExpression → Part → Part → Result (Box Part Global) TypeFault → Type 0
IsOperationAnswer at op b p q r =
    (s : Scope) (old : Bool) (a : TypedExpression) → IsPart s old a p → IsPart s old b q → IsAnswer s old (Bin at op a b) r

-- the form of an expression each part of which fits
pub record IsForm (fixed : Column → Bool) (old : Bool) (e : TypedExpression) (f : code.Form) : Type 0 where
  pub seen : form_of f ≡ form fixed old e
  pub fit : forms_fit fixed old e ≡ true

-- the form, or the fault that a part does not fit
abbrev pub IsFormAnswer : (Column → Bool) → Bool → TypedExpression → Result code.Form AffineFault → Type 0
IsFormAnswer fixed old e r = MatchResult r (IsForm fixed old e) (λ f. f ≡ affine.TooBig → forms_fit fixed old e ≡ false)
