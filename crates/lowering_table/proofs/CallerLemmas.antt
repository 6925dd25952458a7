-- What a caller needs: its frame's constants, and that the forms of its call's ensures fit.
use Rattle.std.proofs.Common.{◌≡◌, ℕ, suc, ◌+◌, ◌<◌, List, [], ◌∷◌, map, length, drop, get_or, Option, None, Some, sym, ◌∙◌, ap, subst, arith}
use Rattle.std.specs.Option.{option_map}
use Rattle.std.specs.List.{AllByRecursion}
use Rattle.std.proofs.Math.Seq.{drop-cons}
use Rattle.typed_tree.specs.declared.types.TSpec.{TSpec}
use Rattle.typed_tree.specs.TypedTree.{TypedExpression, TypedSpecification, Requires, Ensures}
use Rattle.typed_tree.specs.TypedView.{specification}
use Rattle.icfg_lower.specs.CallJumps.CallLists.{ensured}

-- what is known of what was found
pub of_found : {X Y Z : Type 0} (f : X → Z) (z : Z) (o : Option X) (p : Option Y) (x : X) → option_map f o ≡ option_map (λ y. z) p → o ≡ Some x → f x ≡ z
of_found f z o None x e h = let k : Some (f x) ≡ None = sym (ap (option_map f) h) ∙ e in absurd (cc)
of_found f z o (Some y) x e h = let k : Some (f x) ≡ Some z = sym (ap (option_map f) h) ∙ e in cc

behind_one : (P : TypedExpression → Type 0) (s : TypedSpecification) (ss : List TypedSpecification) → AllByRecursion P (ensured (s ∷ [])) → AllByRecursion P (ensured ss) → AllByRecursion P (ensured (s ∷ ss))
behind_one P (Requires i) ss h k = k
behind_one P (Ensures i) ss h k = (h.0, k)

-- one more specification before those behind it
pub one_before : (P : TypedExpression → Type 0) (specs : List TSpec) (n : ℕ) (x : TSpec) → n < length specs → x ≡ get_or specs n x → AllByRecursion P (ensured (specification x ∷ [])) →
    AllByRecursion P (ensured (map specification (drop (n + 1) specs))) → AllByRecursion P (ensured (map specification (drop n specs)))
one_before P specs n x l e h k =
    let i : suc n ≡ n + 1 = omega arith in
    let d : drop n specs ≡ x ∷ drop (n + 1) specs = drop-cons specs n x l ∙ (λ j. sym e j ∷ drop (i j) specs) in
    subst (λ (ss : List TSpec). AllByRecursion P (ensured (map specification ss))) (sym d) (behind_one P (specification x) (map specification (drop (n + 1) specs)) h k)
