-- The ensures of a procedure, one after the other.
use Rattle.std.proofs.Common.{◌≡◌, ℕ, zero, suc, ◌+◌, ◌<◌, Bool, true, false, List, [], ◌∷◌, ◌++◌, map, length, get_or, take, refl, sym, ◌∙◌, ap, subst, append_assoc, arith}
use Rattle.std.specs.List.{AllByRecursion}
use Rattle.boogie_tree.specs.declared.tree.Column.{Column}
use Rattle.typed_tree.specs.declared.types.TSpec.{TSpec}
use Rattle.typed_tree.specs.TypedTree.{TypedExpression, TypedSpecification, Requires, Ensures}
use Rattle.typed_tree.specs.TypedView.{specification}
use Rattle.typed_tree.specs.AffineForm.{forms_fit}
use Rattle.cond_jumps.proofs.MovingLemmas.{map_append}
use Rattle.cond_jumps.specs.FreeProducts.FreeProducts.{free_products, all_free_products}
use Rattle.cond_jumps.specs.FreeProducts.FrameLetters.{told_condition}
use Rattle.cond_jumps.proofs.FreeProducts.FreedLemmas.{length_append}
use Rattle.icfg_lower.specs.CallJumps.CallLists.{ensured}
use Rattle.icfg_lower.proofs.CallJumps.LetterLemmas.{told_fits}

ensured_append : (xs ys : List TypedSpecification) → ensured (xs ++ ys) ≡ ensured xs ++ ensured ys
ensured_append [] ys = refl
ensured_append (Requires i ∷ xs) ys = ensured_append xs ys
ensured_append (Ensures i ∷ xs) ys = ap (λ (l : List TypedExpression). i.cond ∷ l) (ensured_append xs ys)

one_more : (specs : List TSpec) (n : ℕ) (x : TSpec) → n < length specs → x ≡ get_or specs n x → map specification (take (n + 1) specs) ≡ map specification (take n specs) ++ specification x ∷ []
one_more [] n x l e = absurd (omega arith)
one_more (s ∷ ss) zero x l e = λ j. specification (sym e j) ∷ []
one_more (s ∷ ss) (suc n) x l e =
    let i : suc n + 1 ≡ suc (n + 1) = omega arith in
    (λ j. map specification (take (i j) (s ∷ ss))) ∙ ap (λ (l : List TypedSpecification). specification s ∷ l) (one_more ss n x (omega arith) e)

one_ensured : (specs : List TSpec) (n : ℕ) (x : TSpec) → n < length specs → x ≡ get_or specs n x →
    ensured (map specification (take (n + 1) specs)) ≡ ensured (map specification (take n specs)) ++ ensured (specification x ∷ [])
one_ensured specs n x l e = ap ensured (one_more specs n x l e) ∙ ensured_append (map specification (take n specs)) (specification x ∷ [])

pub ensures_step : (read : TypedExpression → TypedExpression) (specs : List TSpec) (n : ℕ) (x : TSpec) (old new : List TypedExpression) → n < length specs → x ≡ get_or specs n x →
    old ≡ map read (ensured (map specification (take n specs))) →
    new ≡ old ++ map read (ensured (specification x ∷ [])) →
    new ≡ map read (ensured (map specification (take (n + 1) specs)))
ensures_step read specs n x old new l e h k =
    k ∙ (λ j. h j ++ map read (ensured (specification x ∷ [])))
    ∙ sym (map_append read (ensured (map specification (take n specs))) (ensured (specification x ∷ [])))
    ∙ ap (map read) (sym (one_ensured specs n x l e))

-- ---- what holds of each

pub at_ensured : (P : TypedExpression → Type 0) (specs : List TSpec) (n : ℕ) (x : TSpec) → n < length specs → x ≡ get_or specs n x → AllByRecursion P (ensured (map specification specs)) →
    AllByRecursion P (ensured (specification x ∷ []))
at_ensured P [] n x l e h = absurd (omega arith)
at_ensured P (s ∷ ss) zero x l e h = subst (λ (y : TSpec). AllByRecursion P (ensured (specification y ∷ []))) (sym e) (first (specification s) h)
  where
    first : (t : TypedSpecification) → AllByRecursion P (ensured (t ∷ map specification ss)) → AllByRecursion P (ensured (t ∷ []))
    first (Requires i) k = tt
    first (Ensures i) k = (k.0, tt)
at_ensured P (s ∷ ss) (suc n) x l e h = at_ensured P ss n x (omega arith) e (rest (specification s) h)
  where
    rest : (t : TypedSpecification) → AllByRecursion P (ensured (t ∷ map specification ss)) → AllByRecursion P (ensured (map specification ss))
    rest (Requires i) k = k
    rest (Ensures i) k = k.1

-- ---- their products

all_products_append : (g : Column → Bool) (xs ys : List TypedExpression) → all_free_products g (xs ++ ys) ≡ all_free_products g xs ++ all_free_products g ys
all_products_append g [] ys = refl
all_products_append g (x ∷ xs) ys =
    ap (λ (l : List TypedExpression). free_products g false x ++ l) (all_products_append g xs ys) ∙ sym (append_assoc (free_products g false x) (all_free_products g xs) (all_free_products g ys))

pub count_step : (g : Column → Bool) (specs : List TSpec) (n : ℕ) (x : TSpec) (old one new : ℕ) → n < length specs → x ≡ get_or specs n x →
    old ≡ length (all_free_products g (ensured (map specification (take n specs)))) → one ≡ length (all_free_products g (ensured (specification x ∷ []))) → new ≡ old + one →
    new ≡ length (all_free_products g (ensured (map specification (take (n + 1) specs))))
count_step g specs n x old one new l e h k m =
    let xs : List TypedExpression = ensured (map specification (take n specs)) in
    let ys : List TypedExpression = ensured (specification x ∷ []) in
    m ∙ (λ j. h j + k j) ∙ sym (length_append (all_free_products g xs) (all_free_products g ys)) ∙ ap length (sym (all_products_append g xs ys))
    ∙ (λ j. length (all_free_products g (sym (one_ensured specs n x l e) j)))

-- as they are told they fit
pub all_told_fit : (g : Column → Bool) (args es : List TypedExpression) → AllByRecursion (λ e. forms_fit g false e ≡ true) es → AllByRecursion (λ e. forms_fit g false e ≡ true) (map (told_condition g args) es)
all_told_fit g args [] h = tt
all_told_fit g args (e ∷ es) h = (told_fits g args e h.0, all_told_fit g args es h.1)
