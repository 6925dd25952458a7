-- The labels that gotos name.
use Rattle.std.proofs.Common.{◌≡◌, ℕ, ◌⊎◌, inl, inr, ⊎_elim, true, not, List, [], ◌++◌, nat_eq, sym, ◌∙◌}
use Rattle.std.specs.List.{list_all}
use Rattle.std.proofs.lemmas.Bool.{and_parts, or_cases, or_left, or_right, false≢true}
use Rattle.std.proofs.lemmas.List.Folds.{list_any-append}
use Rattle.typed_tree.specs.TypedTree.{TypedStatement, Goto, Label, TypedBlock, Empty, Then}
use Rattle.typed_tree.specs.AffineForm.{is_empty}
use Rattle.typed_tree.specs.TypingRules.Rules.{Context, is_member, own_labels, within, looped, context_of}
use Rattle.typed_tree.specs.TypingRules.Shape.{statement_labels, block_labels}
use Rattle.typed_tree.specs.TypingRules.Laws as law
use Rattle.typed_tree.proofs.TypingRules.ValidLaws.{all_member, statements}

in_left : (n : ℕ) (xs ys : List ℕ) → is_member n xs ≡ true → is_member n (xs ++ ys) ≡ true
in_left n xs ys h = list_any-append (nat_eq n) xs ys ∙ or_left (is_member n xs) (is_member n ys) h

in_right : (n : ℕ) (xs ys : List ℕ) → is_member n ys ≡ true → is_member n (xs ++ ys) ≡ true
in_right n xs ys h = list_any-append (nat_eq n) xs ys ∙ or_right (is_member n xs) (is_member n ys) h

in_either : (n : ℕ) (xs ys : List ℕ) → is_member n (xs ++ ys) ≡ true → (is_member n xs ≡ true) ⊎ (is_member n ys ≡ true)
in_either n xs ys h = or_cases (is_member n xs) (is_member n ys) (sym (list_any-append (nat_eq n) xs ys) ∙ h)

-- the labels of a list are among all those of the body
own_in : (n : ℕ) (b : TypedBlock) → is_member n (own_labels b) ≡ true → is_member n (block_labels b) ≡ true
own_in n Empty h = h
own_in n (Then (Label m) b) h =
    ⊎_elim (λ e. or_left (nat_eq n m) (is_member n (block_labels b)) e) (λ e. or_right (nat_eq n m) (is_member n (block_labels b)) (own_in n b e))
    (or_cases (nat_eq n m) (is_member n (own_labels b)) h)
own_in n (Then s b) h = in_right n (statement_labels s) (block_labels b) (own_in n b h)

-- what was found in a list inside is found in the whole
inner : (n : ℕ) (k : Context) (a : TypedBlock) (xs ys : List ℕ) → (is_member n (block_labels a) ≡ true → is_member n xs ≡ true) →
    (is_member n (own_labels a ++ k.labels) ≡ true) ⊎ (is_member n (block_labels a) ≡ true) → (is_member n k.labels ≡ true) ⊎ (is_member n (xs ++ ys) ≡ true)
inner n k a xs ys into (inl h) =
    ⊎_elim (λ e. inr (in_left n xs ys (into (own_in n a e)))) (λ e. inl e) (in_either n (own_labels a) k.labels h)
inner n k a xs ys into (inr h) = inr (in_left n xs ys (into h))

-- a label that may be named under an inner context may be so under the outer one, or stands in the list
labels_stand : (n : ℕ) (k : Context) (b : TypedBlock) (j : Context) (x : TypedStatement) → law.StandsIn k b j x → is_member n j.labels ≡ true →
    (is_member n k.labels ≡ true) ⊎ (is_member n (block_labels b) ≡ true)
labels_stand n _ _ _ _ (law.here k s b) h = inl h
labels_stand n _ _ _ _ (law.after k j s x b d) h =
    ⊎_elim (λ e. inl e) (λ e. inr (in_right n (statement_labels s) (block_labels b) e)) (labels_stand n k b j x d h)
labels_stand n _ _ _ _ (law.in_then k j at g a e b x d) h =
    inner n k a (block_labels a ++ block_labels e) (block_labels b) (λ i. in_left n (block_labels a) (block_labels e) i) (labels_stand n (within k a) a j x d h)
labels_stand n _ _ _ _ (law.in_else k j at g a e b x d) h =
    inner n k e (block_labels a ++ block_labels e) (block_labels b) (λ i. in_right n (block_labels a) (block_labels e) i) (labels_stand n (within k e) e j x d h)
labels_stand n _ _ _ _ (law.in_loop k j at g is a b x d) h =
    inner n k a (block_labels a) (block_labels b) (λ i. i) (labels_stand n (within (looped k) a) a j x d h)

pub gotos : law.GotosNameLabels
gotos t p k at ns n v (law.in_body b m e d) c =
    let kept = (statements t p k (Goto at ns) v (law.in_body b m e d)).0 in
    let named : is_member n k.labels ≡ true =
    all_member (λ l. is_member l k.labels) ns n c (and_parts (not (is_empty ns)) (list_all (λ l. is_member l k.labels) ns) kept).1 in (
      b,
      e,
      ⊎_elim
          (λ h. ⊎_elim (λ i. own_in n b i) (λ i. absurd (false≢true i)) (in_either n (own_labels b) [] h)) (λ h. h)
          (labels_stand n (within (context_of t.globals t.procs p) b) b k (Goto at ns) d named),
    )
