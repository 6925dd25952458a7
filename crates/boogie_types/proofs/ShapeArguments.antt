-- The arguments of a call with its names replaced: simple where the parameter is boolean.
use Rattle.std.proofs.Common.{◌≡◌, ℕ, ◌+◌, Bool, true, false, List, [], ◌∷◌, map, Option, Some, option_map, if◌then◌else◌, refl, subst}
use Rattle.std.proofs.lemmas.Bool.{and_from, cond_both, true≢false, false≢true}
use Rattle.boogie_tree.specs.declared.span.Span.{Span}
use Rattle.boogie_tree.specs.declared.tree.Ty.{Ty}
use Rattle.boogie_tree.specs.declared.tree.Ty.TheVariants as types
use Rattle.boogie_tree.specs.declared.tree.Column.{Column}
use Rattle.boogie_tree.specs.declared.tree.Vary.{Vary}
use Rattle.boogie_tree.specs.Tree as tree
use Rattle.typed_tree.specs.TypedTree as typed
use Rattle.typed_tree.specs.TypedTree.{TypedExpression}
use Rattle.typed_tree.specs.Scope.{Scope}
use Rattle.typed_tree.specs.TypingRules.Shape.{is_simple, is_argument, are_arguments}
use Rattle.boogie_types.specs.Meanings.{variable_info, column_of}
use Rattle.boogie_types.specs.Naming as naming
use Rattle.boogie_types.specs.Naming.{from_both, named, named_arguments, is_hidden, hidden_column, expression_span, NamingPlace}
use Rattle.boogie_types.proofs.ShapeLists.{option_map_some, both_some}

-- a simple expression is simple when its names are replaced
simple_kept : (s : Scope) (e : tree.Expression) (t : TypedExpression) → named s e ≡ Some t → naming.is_simple e ≡ true → is_simple t ≡ true
simple_kept s (tree.Lit at n) t e h = let f : t ≡ typed.Lit at n = cc in rw f refl
simple_kept s (tree.Truth at b) t e h = let f : t ≡ typed.Truth at b = cc in rw f refl
simple_kept s (tree.Var at x) t e h =
    let a = option_map_some (typed.Var at) (column_of s x.text) t e in
    subst (λ (u : TypedExpression). is_simple u ≡ true) a.2 refl
simple_kept s (tree.Not at (tree.Var at1 x)) t e h =
    let a = option_map_some (typed.Not at) (option_map (typed.Var at1) (column_of s x.text)) t e in
    let b = option_map_some (typed.Var at1) (column_of s x.text) a.0 a.1 in
    let inner : is_simple (typed.Not at a.0) ≡ true = subst (λ (u : TypedExpression). is_simple (typed.Not at u) ≡ true) b.2 refl in
    subst (λ (u : TypedExpression). is_simple u ≡ true) a.2 inner
simple_kept s (tree.Not at x) t e h = absurd (false≢true h)
simple_kept s (tree.Old at x) t e h = absurd (false≢true h)
simple_kept s (tree.Neg at x) t e h = absurd (false≢true h)
simple_kept s (tree.Bin at op x y) t e h = absurd (false≢true h)

-- an argument that is not put aside
argument_kept : (s : Scope) (ty : Ty) (e : tree.Expression) (t : TypedExpression) → named s e ≡ Some t → is_hidden ty e ≡ false → is_argument ty t ≡ true
argument_kept s types.Int e t eq h = refl
argument_kept s types.Bool e t eq h = simple_kept s e t eq (by (naming.is_simple e) h)
  where
    by : (b : Bool) → (if b then false else true) ≡ false → b ≡ true
    by true k = refl
    by false k = absurd (true≢false k)

-- a hidden variable in its place
argument_hidden : (ty : Ty) (at : Span) (c : Column) → is_argument ty (typed.Var at c) ≡ true
argument_hidden types.Int at c = refl
argument_hidden types.Bool at c = refl

no_arguments : (vs : List Vary) → are_arguments (map (variable_info true) vs) [] ≡ true
no_arguments [] = refl
no_arguments (v ∷ vs) = refl

pub arguments_shaped : (p : NamingPlace) (n : ℕ) (vs : List Vary) (es : List tree.Expression) (ts : List TypedExpression) → named_arguments p n vs es ≡ Some ts →
    are_arguments (map (variable_info true) vs) ts ≡ true
arguments_shaped p n vs [] ts e = let f : ts ≡ [] = cc in rw f (no_arguments vs)
arguments_shaped p n [] (x ∷ es) ts e = refl
arguments_shaped p n (v ∷ vs) (x ∷ es) ts e =
    cond_both (is_hidden v.ty x) aside (from_both (λ t us. t ∷ us) (named p.scope x) (named_arguments p n vs es))
    (λ o. o ≡ Some ts → are_arguments (map (variable_info true) (v ∷ vs)) ts ≡ true)
    (λ is g.
    let a = option_map_some (λ us. typed.Var (expression_span x) (hidden_column p n) ∷ us) (named_arguments p (n + 1) vs es) ts g in
    subst (λ (us : List TypedExpression). are_arguments (map (variable_info true) (v ∷ vs)) us ≡ true) a.2
    (and_from (is_argument v.ty (typed.Var (expression_span x) (hidden_column p n))) (are_arguments (map (variable_info true) vs) a.0)
    (argument_hidden v.ty (expression_span x) (hidden_column p n)) (arguments_shaped p (n + 1) vs es a.0 a.1)))
    (λ is g.
    let a = both_some (λ t us. t ∷ us) (named p.scope x) (named_arguments p n vs es) ts g in
    subst (λ (us : List TypedExpression). are_arguments (map (variable_info true) (v ∷ vs)) us ≡ true) a.4
    (and_from (is_argument v.ty a.0) (are_arguments (map (variable_info true) vs) a.1)
    (argument_kept p.scope v.ty x a.0 a.2 is) (arguments_shaped p n vs es a.1 a.3)))
    e
  where
    aside : Option (List TypedExpression)
    aside = option_map (λ us. typed.Var (expression_span x) (hidden_column p n) ∷ us) (named_arguments p (n + 1) vs es)
