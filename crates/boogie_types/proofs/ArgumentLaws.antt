-- Arguments of a call one by one.
use Rattle.std.proofs.Common.{◌≡◌, ℕ, ◌+◌, Bool, true, false, List, [], ◌∷◌, ◌++◌, length, Option, None, Some, if◌then◌else◌, refl, ap, sym, ◌∙◌, arith}
use Rattle.std.specs.Option.{option_map}
use Rattle.boogie_tree.specs.declared.span.Span.{Span}
use Rattle.boogie_tree.specs.declared.tree.Vary.{Vary}
use Rattle.boogie_tree.specs.Tree as tree
use Rattle.typed_tree.specs.TypedTree as typed
use Rattle.typed_tree.specs.TypedTree.{TypedExpression, TypedStatement}
use Rattle.boogie_types.specs.Naming.{NamingPlace, each, from_both, named, is_hidden, hidden_arguments, hidden_column, put_aside, named_arguments, expression_span}

-- the first parameter, if there is one, and those behind it
abbrev pub front : List Vary → List Vary
front [] = []
front (v ∷ vs) = v ∷ []

abbrev pub behind : List Vary → List Vary
behind [] = []
behind (v ∷ vs) = vs

-- two lists that are made, one behind the other
abbrev pub together : {X : Type 0} → Option (List X) → Option (List X) → Option (List X)
together a b = from_both (λ xs ys. xs ++ ys) a b

-- how many hidden locals the first argument needs
abbrev pub needed : List Vary → tree.Expression → ℕ
needed vs e = length (hidden_arguments (front vs) (e ∷ []))

none_left : {X : Type 0} (o : Option (List X)) → together (Some []) o ≡ o
none_left None = refl
none_left (Some xs) = refl

one_left : {X : Type 0} (x : X) (o : Option (List X)) → together (Some (x ∷ [])) o ≡ option_map (λ xs. x ∷ xs) o
one_left x None = refl
one_left x (Some xs) = refl

made_left : {X Y : Type 0} (g : Y → X) (y : Option Y) (o : Option (List X)) →
    from_both (λ a xs. g a ∷ xs) y o ≡ together (from_both (λ a xs. g a ∷ xs) y (Some [])) o
made_left g None o = refl
made_left g (Some y) None = refl
made_left g (Some y) (Some xs) = refl

plain_arguments : (p : NamingPlace) (n : ℕ) (es : List tree.Expression) → named_arguments p n [] es ≡ each (named p.scope) es
plain_arguments p n [] = refl
plain_arguments p n (e ∷ es) = refl

each_left : {X Y : Type 0} (f : X → Option Y) (x : X) (xs : List X) → each f (x ∷ xs) ≡ together (each f (x ∷ [])) (each f xs)
each_left f x xs = by_first (f x) (each f xs)
  where
    by_first : {Y : Type 0} (o : Option Y) (r : Option (List Y)) → from_both (λ y ys. y ∷ ys) o r ≡ together (from_both (λ y ys. y ∷ ys) o (Some [])) r
    by_first None r = refl
    by_first (Some y) None = refl
    by_first (Some y) (Some ys) = refl

-- the arguments are the first and those behind it
pub arguments_turn : (p : NamingPlace) (n : ℕ) (vs : List Vary) (e : tree.Expression) (es : List tree.Expression) →
    named_arguments p n vs (e ∷ es) ≡ together (named_arguments p n (front vs) (e ∷ [])) (named_arguments p (n + needed vs e) (behind vs) es)
arguments_turn p n [] e es =
    each_left (named p.scope) e es ∙ ap (together (each (named p.scope) (e ∷ []))) (sym (plain_arguments p (n + 0) es))
arguments_turn p n (v ∷ vs) e es = by_hidden (is_hidden v.ty e)
  where
    by_hidden : (b : Bool) →
        (if b then option_map (λ ts. typed.Var (expression_span e) (hidden_column p n) ∷ ts) (named_arguments p (n + 1) vs es)
        else from_both (λ t ts. t ∷ ts) (named p.scope e) (named_arguments p n vs es))
        ≡ together
        (if b then option_map (λ ts. typed.Var (expression_span e) (hidden_column p n) ∷ ts) (Some []) else from_both (λ t ts. t ∷ ts) (named p.scope e) (Some []))
        (named_arguments p (n + length (if b then e ∷ [] else [])) vs es)
    by_hidden true = sym (one_left (typed.Var (expression_span e) (hidden_column p n)) (named_arguments p (n + 1) vs es))
    by_hidden false =
        made_left (λ t. t) (named p.scope e) (named_arguments p n vs es)
        ∙ ap (λ (k : ℕ). together (from_both (λ t ts. t ∷ ts) (named p.scope e) (Some [])) (named_arguments p k vs es)) (omega arith)

-- the same of what is put aside
pub aside_turn : (p : NamingPlace) (n : ℕ) (at : Span) (vs : List Vary) (e : tree.Expression) (es : List tree.Expression) →
    put_aside p n at (hidden_arguments vs (e ∷ es))
    ≡ together (put_aside p n at (hidden_arguments (front vs) (e ∷ []))) (put_aside p (n + needed vs e) at (hidden_arguments (behind vs) es))
aside_turn p n at [] e es = refl
aside_turn p n at (v ∷ vs) e es = by_hidden (is_hidden v.ty e)
  where
    by_hidden : (b : Bool) →
        put_aside p n at (if b then e ∷ hidden_arguments vs es else hidden_arguments vs es)
        ≡ together (put_aside p n at (if b then e ∷ [] else [])) (put_aside p (n + length (if b then e ∷ [] else [])) at (hidden_arguments vs es))
    by_hidden true =
        made_left (λ t. typed.Assign at (hidden_column p n ∷ []) (t ∷ [])) (named p.scope e) (put_aside p (n + 1) at (hidden_arguments vs es))
    by_hidden false =
        sym (none_left (put_aside p n at (hidden_arguments vs es)))
        ∙ ap (λ (k : ℕ). together (Some []) (put_aside p k at (hidden_arguments vs es))) (omega arith)

-- and of their count
pub count_turn : (vs : List Vary) (e : tree.Expression) (es : List tree.Expression) →
    length (hidden_arguments vs (e ∷ es)) ≡ needed vs e + length (hidden_arguments (behind vs) es)
count_turn [] e es = refl
count_turn (v ∷ vs) e es = by_hidden (is_hidden v.ty e)
  where
    by_hidden : (b : Bool) → length (if b then e ∷ hidden_arguments vs es else hidden_arguments vs es) ≡ length (if b then e ∷ [] else []) + length (hidden_arguments vs es)
    by_hidden true = omega arith
    by_hidden false = omega arith
