-- Lists that are read member by member, the first place of a number in one, and operations by their kind.
use Rattle.std.proofs.Common.{◌≡◌, ℕ, suc, ◌+◌, ◌<◌, ◌≤◌, Bool, true, false, nat_eq, Option, None, Some, if◌then◌else◌, List, [], ◌∷◌, ◌++◌, map, length, get_or, take, drop, drop-cons, append-nil, pos, ◌⊎◌, inl, inr, refl, sym, ◌∙◌, ap, subst, arith, rules}
use Rattle.boogie_tree.specs.declared.span.Span.{Span}
use Rattle.boogie_tree.specs.declared.tree.Op.{Op}
use Rattle.boogie_tree.specs.declared.tree.Op.TheVariants.{Add, Sub, Mul}
use Rattle.typed_tree.specs.TypedTree.{TypedExpression, Lit, Bin}
use Rattle.cond_jumps.proofs.MovingLemmas.{map_append}
use Rattle.icfg_lower.specs.CallJumps.Ties.Reading.{constant_operation}
use Rattle.letter_acts.specs.Frames.{Columns, olds_from}
use Rattle.lowered_graph.specs.LoweredSteps.Edges.{found_from}
use Rattle.icfg_lower.proofs.AutomatonParts.{drop_past}
use Rattle.icfg_lower.proofs.PlaceEdges.LeadLemmas.{one_more}

-- one member more
pub read_next : {X Y Z W : Type 0} (see : X → Y) (f : Y → Z) (of : W → Z) (xs : List X) (i : ℕ) (x : X) (old new : List W) (w : W) → i < length xs → x ≡ get_or xs i x →
    map of old ≡ map f (map see (take i xs)) → new ≡ old ++ w ∷ [] → of w ≡ f (see x) → map of new ≡ map f (map see (take (i + 1) xs))
read_next {X} {Y} {Z} {W} see f of xs i x old new w l e h n s =
    ap (map of) n ∙ map_append of old (w ∷ []) ∙ (λ j. h j ++ s j ∷ []) ∙ (λ j. map f (map see (take i xs)) ++ f (see (e j)) ∷ [])
    ∙ sym (map_append f (map see (take i xs)) (see (get_or xs i x) ∷ [])) ∙ ap (map f) (sym (one_more see xs i x l))

-- the constant of a sum, a difference or a product
pub kept_operation : (at : Span) (op : Op) (a b : TypedExpression) → (op ≡ Add) ⊎ ((op ≡ Sub) ⊎ (op ≡ Mul)) → constant_operation at op a b ≡ Bin at op a b
kept_operation at op a b (inl h) = subst (λ o. constant_operation at o a b ≡ Bin at o a b) (sym h) refl
kept_operation at op a b (inr (inl h)) = subst (λ o. constant_operation at o a b ≡ Bin at o a b) (sym h) refl
kept_operation at op a b (inr (inr h)) = subst (λ o. constant_operation at o a b ≡ Bin at o a b) (sym h) refl

-- and of another operation
pub other_operation : (at : Span) (op : Op) (a b : TypedExpression) → (op ≡ Add → ⊥) → (op ≡ Sub → ⊥) → (op ≡ Mul → ⊥) → constant_operation at op a b ≡ Lit at (pos 0)
other_operation at Add a b h k l = absurd (h refl)
other_operation at Sub a b h k l = absurd (k refl)
other_operation at Mul a b h k l = absurd (l refl)
other_operation at op a b h k l = refl

-- ---- the first place of a number

is_same : (m n : ℕ) → m ≡ n → nat_eq m n ≡ true
is_same m n h = search rules

is_other : (m n : ℕ) → (m ≡ n → ⊥) → nat_eq m n ≡ false
is_other m n h = search rules

found_turn : (i : ℕ) (xs : List ℕ) (n : ℕ) (b : Bool) → i < length xs → nat_eq (get_or xs i 0) n ≡ b → found_from i (drop i xs) n ≡ (if b then Some i else found_from (suc i) (drop (suc i) xs) n)
found_turn i xs n b l e = ap (λ (ys : List ℕ). found_from i ys n) (drop-cons xs i 0 l) ∙ (λ j. if e j then Some i else found_from (suc i) (drop (suc i) xs) n)

pub found_here : (i : ℕ) (xs : List ℕ) (n : ℕ) (o : Option ℕ) → i < length xs → get_or xs i 0 ≡ n → found_from i (drop i xs) n ≡ o → Some i ≡ o
found_here i xs n o l e h = sym (found_turn i xs n true l (is_same (get_or xs i 0) n e)) ∙ h

pub found_behind : (i : ℕ) (xs : List ℕ) (n : ℕ) (o : Option ℕ) → i < length xs → (get_or xs i 0 ≡ n → ⊥) → found_from i (drop i xs) n ≡ o → found_from (i + 1) (drop (i + 1) xs) n ≡ o
found_behind i xs n o l e h =
    let s : i + 1 ≡ suc i = omega arith in
    (λ j. found_from (s j) (drop (s j) xs) n) ∙ sym (found_turn i xs n false l (is_other (get_or xs i 0) n e)) ∙ h

pub found_nowhere : (i : ℕ) (xs : List ℕ) (n : ℕ) (o : Option ℕ) → length xs ≤ i → found_from i (drop i xs) n ≡ o → None ≡ o
found_nowhere i xs n o l h = sym (ap (λ (ys : List ℕ). found_from i ys n) (drop_past xs i l)) ∙ h

-- ---- the old columns of a frame

pub all_old : (xs ys : Columns) (i : ℕ) (old all : List (ℕ × ℕ)) → ys ≡ xs → length ys ≤ i → old ++ olds_from i (drop i xs) ≡ all → old ≡ all
all_old xs ys i old all v l h =
    sym (append-nil old) ∙ (λ j. old ++ olds_from i (sym (drop_past xs i (subst (λ (zs : Columns). length zs ≤ i) v l)) j)) ∙ h
