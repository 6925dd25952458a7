-- Labels that count up, one list after the other.
use Rattle.std.proofs.Common.{◌≡◌, ℕ, ◌+◌, ◌<◌, Bool, true, false, ◌&&◌, List, [], ◌∷◌, ◌++◌, length, drop, get_or, nat_eq, Option, None, Some, is_some, if◌then◌else◌, refl, ap, sym, ◌∙◌}
use Rattle.std.proofs.lemmas.List.{drop_more}
use Rattle.std.proofs.lemmas.Option.{none-some}
use Rattle.typed_tree.specs.declared.types.TStmt.{TStmt}
use Rattle.typed_tree.specs.TypedTree.{TypedStatement, TypedGuard, TypedBlock, If}
use Rattle.boogie_tree.specs.declared.span.Span.{Span}
use Rattle.typed_tree.specs.TypedView as view
use Rattle.typed_tree.specs.TypingRules.Ties.LabelOrder.{counted_to}
use Rattle.typed_tree.specs.TypingRules.Shape.{statement_labels, block_labels, counts_from}

pub counted_after : (n m : ℕ) (xs ys : List ℕ) → Some m ≡ counted_to n xs → counted_to n (xs ++ ys) ≡ counted_to m ys
counted_after n m [] ys h = ap (λ (o : Option ℕ). counted_from o) (sym h)
  where
    counted_from : Option ℕ → Option ℕ
    counted_from None = None
    counted_from (Some k) = counted_to k ys
counted_after n m (x ∷ xs) ys h = by_head (nat_eq n x) (λ k. counted_after (n + 1) m xs ys k) h
  where
    by_head : (b : Bool) → (Some m ≡ counted_to (n + 1) xs → counted_to (n + 1) (xs ++ ys) ≡ counted_to m ys) →
        Some m ≡ (if b then counted_to (n + 1) xs else None) → (if b then counted_to (n + 1) (xs ++ ys) else None) ≡ counted_to m ys
    by_head true rest k = rest k
    by_head false rest k = absurd (none-some m (sym k))

pub counted_none : (n : ℕ) (xs ys : List ℕ) → None ≡ counted_to n xs → counted_to n (xs ++ ys) ≡ None
counted_none n [] ys h = absurd (none-some n h)
counted_none n (x ∷ xs) ys h = by_head (nat_eq n x) (λ k. counted_none (n + 1) xs ys k) h
  where
    by_head : (b : Bool) → (None ≡ counted_to (n + 1) xs → counted_to (n + 1) (xs ++ ys) ≡ None) →
        None ≡ (if b then counted_to (n + 1) xs else None) → (if b then counted_to (n + 1) (xs ++ ys) else None) ≡ None
    by_head true rest k = rest k
    by_head false rest k = refl

-- the labels count up where there is a number after the last
pub counts_some : (n : ℕ) (xs : List ℕ) → is_some (counted_to n xs) ≡ counts_from n xs
counts_some n [] = refl
counts_some n (x ∷ xs) = by_head (nat_eq n x) (counts_some (n + 1) xs)
  where
    by_head : (b : Bool) → is_some (counted_to (n + 1) xs) ≡ counts_from (n + 1) xs →
        is_some (if b then counted_to (n + 1) xs else None) ≡ (b && counts_from (n + 1) xs)
    by_head true rest = rest
    by_head false rest = refl

-- ---- one statement after the other

module _ (listed : List TStmt) (i : ℕ) (x : TStmt) (l : i < length listed) (here : x ≡ get_or listed i x) where
  labels_front : block_labels (view.statements (drop i listed)) ≡ statement_labels (view.statement x) ++ block_labels (view.statements (drop (i + 1) listed))
  labels_front =
      ap (λ (ss : List TStmt). block_labels (view.statements ss)) (drop_more listed i x l ∙ ap (λ (y : TStmt). y ∷ drop (i + 1) listed) (sym here))

  pub each_counted : (n m : ℕ) (o : Option ℕ) → counted_to n (block_labels (view.statements (drop i listed))) ≡ o →
      Some m ≡ counted_to n (statement_labels (view.statement x)) → counted_to m (block_labels (view.statements (drop (i + 1) listed))) ≡ o
  each_counted n m o h e =
      sym (counted_after n m (statement_labels (view.statement x)) (block_labels (view.statements (drop (i + 1) listed))) e)
      ∙ sym (ap (counted_to n) labels_front) ∙ h

  pub each_uncounted : (n : ℕ) (r o : Option ℕ) → counted_to n (block_labels (view.statements (drop i listed))) ≡ o →
      None ≡ counted_to n (statement_labels (view.statement x)) → r ≡ None → r ≡ o
  each_uncounted n r o h e f =
      f ∙ sym (counted_none n (statement_labels (view.statement x)) (block_labels (view.statements (drop (i + 1) listed))) e)
      ∙ sym (ap (counted_to n) labels_front) ∙ h

-- ---- both lists of a branch

pub branch_counted : (s : TypedStatement) (at : Span) (g : TypedGuard) (a seen_a b seen_b : TypedBlock) (n m : ℕ) (r : Option ℕ) → s ≡ If at g a b → seen_a ≡ a → seen_b ≡ b →
    Some m ≡ counted_to n (block_labels seen_a) → r ≡ counted_to m (block_labels seen_b) → r ≡ counted_to n (statement_labels s)
branch_counted s at g a seen_a b seen_b n m r i ja jb h e =
    e ∙ sym (counted_after n m (block_labels seen_a) (block_labels seen_b) h)
    ∙ ap (λ (x : TypedBlock). counted_to n (block_labels x ++ block_labels seen_b)) ja
    ∙ ap (λ (x : TypedBlock). counted_to n (block_labels a ++ block_labels x)) jb
    ∙ ap (λ (x : TypedStatement). counted_to n (statement_labels x)) (sym i)

pub branch_uncounted : (s : TypedStatement) (at : Span) (g : TypedGuard) (a seen_a b : TypedBlock) (n : ℕ) (r : Option ℕ) → s ≡ If at g a b → seen_a ≡ a →
    None ≡ counted_to n (block_labels seen_a) → r ≡ None → r ≡ counted_to n (statement_labels s)
branch_uncounted s at g a seen_a b n r i ja h e =
    e ∙ sym (counted_none n (block_labels seen_a) (block_labels b) h)
    ∙ ap (λ (x : TypedBlock). counted_to n (block_labels x ++ block_labels b)) ja
    ∙ ap (λ (x : TypedStatement). counted_to n (statement_labels x)) (sym i)
