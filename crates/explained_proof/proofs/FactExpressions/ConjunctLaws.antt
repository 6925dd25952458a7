-- Conjunctions joined in a row, and rows said along a list.
use Rattle.std.proofs.Common.{◌≡◌, ◌∙◌, ℕ, ◌+◌, ◌<◌, ◌≤◌, Bool, true, false, List, [], ◌∷◌, ◌++◌, map, length, take, drop, get_or, refl, sym, ap, append_assoc, arith}
use Rattle.std.proofs.lemmas.List.{take_more, drop_more, drop_all}
use Rattle.boogie_tree.specs.Tree.{Expression}
use Rattle.lin_rows.specs.Rows.{LinearRow}
use Rattle.explained_proof.specs.BuiltExpressions.Members.{Conjuncts, with_members}
use Rattle.explained_proof.specs.BuiltExpressions.Views.{seen}
use Rattle.explained_proof.proofs.BuiltExpressions.Conjunctions.{with_none}
use Rattle.explained_proof.specs.RowExpressions.Scopes.{ClauseScope}
use Rattle.explained_proof.specs.FactExpressions.EntryRows.{row_said_at, rows_said}
use Rattle.explained_proof.specs.FactExpressions.Conclusions.{all_of}

abbrev made : Bool → List Expression → Conjuncts
made b es = record { never = b; said = es }

joined_on : (a b c : Bool) (xs ys zs : List Expression) →
    with_members (with_members (made a xs) (made b ys)) (made c zs) ≡ with_members (made a xs) (with_members (made b ys) (made c zs))
joined_on true b c xs ys zs = refl
joined_on false true c xs ys zs = refl
joined_on false false true xs ys zs = refl
joined_on false false false xs ys zs = ap (made false) (append_assoc xs ys zs)

pub with_assoc : (a b c : Conjuncts) → with_members (with_members a b) c ≡ with_members a (with_members b c)
with_assoc a b c = joined_on a.never b.never c.never a.said b.said c.said

next_on : (s : ClauseScope) (rs : List LinearRow) (i : ℕ) (d : LinearRow) → i < length rs →
    rows_said s (take i rs) (drop i rs) ≡ with_members (row_said_at s (take i rs) (drop i rs)) (rows_said s (take (i + 1) rs) (drop (i + 1) rs))
next_on s rs i d l =
    let r = get_or rs i d in
    let e : drop i rs ≡ r ∷ drop (i + 1) rs = drop_more rs i d l in
    ap (rows_said s (take i rs)) e ∙ ap (λ xs. with_members (row_said_at s (take i rs) xs) (rows_said s (take i rs ++ r ∷ []) (drop (i + 1) rs))) (sym e) ∙
    ap (λ ys. with_members (row_said_at s (take i rs) (drop i rs)) (rows_said s ys (drop (i + 1) rs))) (sym (take_more rs i d l))

-- what the row at a place says, behind those before it
rows_next : (s : ClauseScope) (rs : List LinearRow) (i : ℕ) → i < length rs →
    rows_said s (take i rs) (drop i rs) ≡ with_members (row_said_at s (take i rs) (drop i rs)) (rows_said s (take (i + 1) rs) (drop (i + 1) rs))
rows_next s [] i l = absurd (omega (arith, l))
rows_next s (r ∷ rs) i l = next_on s (r ∷ rs) i r l

pub rows_on : (s : ClauseScope) (rs : List LinearRow) (i : ℕ) (start now new : Conjuncts) → i < length rs →
    with_members now (rows_said s (take i rs) (drop i rs)) ≡ with_members start (rows_said s [] rs) → new ≡ with_members now (row_said_at s (take i rs) (drop i rs)) →
    with_members new (rows_said s (take (i + 1) rs) (drop (i + 1) rs)) ≡ with_members start (rows_said s [] rs)
rows_on s rs i start now new l h e =
    let B = rows_said s (take (i + 1) rs) (drop (i + 1) rs) in
    ap (λ m. with_members m B) e ∙ with_assoc now (row_said_at s (take i rs) (drop i rs)) B ∙ ap (with_members now) (sym (rows_next s rs i l)) ∙ h

-- conjunctions of what the elements of a list say, along the list
pub all_on : {X : Type 0} (f : X → Conjuncts) (xs : List X) (i : ℕ) (d : X) (start now new : Conjuncts) → i < length xs → d ≡ get_or xs i d →
    with_members now (all_of (map f (drop i xs))) ≡ start → new ≡ with_members now (f d) → with_members new (all_of (map f (drop (i + 1) xs))) ≡ start
all_on f xs i d start now new l h was e =
    let B = all_of (map f (drop (i + 1) xs)) in
    ap (λ m. with_members m B) e ∙ with_assoc now (f d) B ∙ ap (λ x. with_members now (with_members (f x) B)) h ∙ ap (λ ys. with_members now (all_of (map f ys))) (sym (drop_more xs i d l)) ∙ was

pub all_done : {X : Type 0} (f : X → Conjuncts) (xs : List X) (i : ℕ) (b : Bool) (es : List Expression) (whole : Conjuncts) → length xs ≤ i →
    with_members (seen b es) (all_of (map f (drop i xs))) ≡ whole → seen b es ≡ whole
all_done f xs i b es whole l h = sym (with_none b es) ∙ ap (λ ys. with_members (seen b es) (all_of (map f ys))) (sym (drop_all i xs l)) ∙ h
