-- Where conditions stand.
use Rattle.std.proofs.Common.{◌≡◌, ℕ, zero, suc, ◌-◌, ◌<◌, ◌≤◌, List, [], ◌∷◌, ◌++◌, length, map, None, Some, refl, ap, sym, ◌∙◌, arith}
use Rattle.std.specs.Prelude.{slice_get, slice_index_or}
use Rattle.std.specs.Option.{option_map, option_or}
use Rattle.std.proofs.lemmas.List.{length-map}
use Rattle.std.proofs.lemmas.Option.{slice_get-map}
use Rattle.boogie_tree.specs.declared.span.Span.{Span}
use Rattle.typed_tree.specs.declared.types.TExpr.{TExpr}
use Rattle.typed_tree.specs.declared.types.TExprKind.{TExprKind}
use Rattle.typed_tree.specs.declared.types.TExprKind.TheVariants as kinds
use Rattle.typed_tree.specs.TypedTree.{TypedInvariant, TypedProcedure}
use Rattle.typed_tree.specs.TypedView.{expression, kind_view}
use Rattle.typed_tree.specs.BrokenRules.{expression_span}
use Rattle.boogie_run.specs.BoogiePoints.Actions.{plain_conditions, ensured_conditions, chosen_columns}
use Rattle.boogie_run.specs.BoogiePoints.Sites.{invariant_span, clause_of}
use Rattle.boogie_run.proofs.BoogiePoints.ChoiceLaws.{get_left, get_right}

-- an expression stands where it is seen to
span_seen : (s : Span) (k : TExprKind) → s ≡ expression_span (kind_view s k)
span_seen s (kinds.Lit n) = refl
span_seen s (kinds.Truth b) = refl
span_seen s (kinds.Var c) = refl
span_seen s (kinds.Old' p s1 k) = refl
span_seen s (kinds.Not' p s1 k) = refl
span_seen s (kinds.Neg' p s1 k) = refl
span_seen s (kinds.Bin' op p s1 a q s2 b) = refl

axiom_there : (es : List TExpr) (n : ℕ) (e : TExpr) → n < length es → e ≡ slice_index_or es n e → slice_get (map expression_span (map expression es)) n ≡ Some e.span
axiom_there [] n e h k = absurd (omega arith)
axiom_there (x ∷ es) zero e h k = ap Some (sym (span_seen x.span x.kind)) ∙ ap (λ (y : TExpr). Some y.span) (sym k)
axiom_there (x ∷ es) (suc n) e h k = axiom_there es n e (omega arith) k

pub axiom_span : (es : List TExpr) (ys : List Span) (n : ℕ) (e : TExpr) → n < length es → e ≡ slice_index_or es n e → Some e.span ≡ slice_get (map expression_span (map expression es) ++ ys) n
axiom_span es ys n e h k = sym (get_left (map expression_span (map expression es)) ys n e.span (axiom_there es n e h k))

pub condition_behind : (es : List TExpr) (is : List TypedInvariant) (n : ℕ) → length es ≤ n →
    option_map invariant_span (slice_get is (n - length es)) ≡ slice_get (map expression_span (map expression es) ++ map invariant_span is) n
condition_behind es is n h =
    let count : length (map expression_span (map expression es)) ≡ length es = length-map (map expression es) expression_span ∙ length-map es expression in
    sym (slice_get-map invariant_span is (n - length es))
    ∙ ap (λ (k : ℕ). slice_get (map invariant_span is) (n - k)) (sym count)
    ∙ sym (get_right (map expression_span (map expression es)) (map invariant_span is) n (omega (arith, count, h)))

-- behind the requires of a call its ensures
pub clause_behind : (q : TypedProcedure) (part : ℕ) → None ≡ slice_get (plain_conditions q.specs) part →
    slice_get (ensured_conditions q.specs) ((part - length (plain_conditions q.specs)) - length (chosen_columns q)) ≡ clause_of q part
clause_behind q part none = ap (λ o. option_or o (slice_get (ensured_conditions q.specs) ((part - length (plain_conditions q.specs)) - length (chosen_columns q)))) none
