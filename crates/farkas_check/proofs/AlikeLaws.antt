-- Systems that say the same have the same refutations: the goals that a list of nodes has to refute stay alike.
use Rattle.std.proofs.Common.{◌≡◌, ◌↔◌, ℕ, suc, List, [], ◌∷◌, ◌++◌, length, map, ap, refl, sym, ◌∙◌, subst}
use Rattle.lin_rows.specs.declared.systems.System.{System}
use Rattle.lin_rows.specs.Rows.{LinearRow}
use Rattle.lin_rows.specs.Tightening.{tightened}
use Rattle.lin_rows.specs.Combinations.{Contradicts}
use Rattle.lin_rows.specs.Systems.{rows_of, groups_of, RelatedInPairs, SaysSame}
use Rattle.lin_rows.proofs.SystemLaws.{same_open}
use Rattle.farkas_check.specs.Nodes.{PlainNode, leaf, cut, cases}
use Rattle.farkas_check.specs.Refutes.{Goal, at_most, above, with_row, goal_with_member, goal_of, CasesRefute, Refute, Refutes}

-- two goals have the same rows, and groups whose members say the same
record AreAlike (g h : Goal) : Type 0 where
  same_rows : g.rows ≡ h.rows
  same_groups : RelatedInPairs (RelatedInPairs SaysSame) g.groups h.groups

pairs_joined : {X Y : Type 0} (R : X → Y → Type 0) (xs : List X) (ys : List Y) (us : List X) (vs : List Y) →
    RelatedInPairs R xs ys → RelatedInPairs R us vs → RelatedInPairs R (xs ++ us) (ys ++ vs)
pairs_joined R [] [] us vs h k = k
pairs_joined R [] (y ∷ ys) us vs h k = absurd h
pairs_joined R (x ∷ xs) [] us vs h k = absurd h
pairs_joined R (x ∷ xs) (y ∷ ys) us vs h k = (h.0, pairs_joined R xs ys us vs h.1 k)

pairs_are_as_many : {X Y : Type 0} (R : X → Y → Type 0) (xs : List X) (ys : List Y) → RelatedInPairs R xs ys → length xs ≡ length ys
pairs_are_as_many R [] [] h = refl
pairs_are_as_many R [] (y ∷ ys) h = absurd h
pairs_are_as_many R (x ∷ xs) [] h = absurd h
pairs_are_as_many R (x ∷ xs) (y ∷ ys) h = ap (λ (n : ℕ). suc n) (pairs_are_as_many R xs ys h.1)

-- ---- what is added to goals

alike_with_row : (g h : Goal) (r : LinearRow) → AreAlike g h → AreAlike (with_row g r) (with_row h r)
alike_with_row g h r a = record {
  same_rows = ap (λ (rows : List LinearRow). rows ++ r ∷ []) a.same_rows;
  same_groups = a.same_groups;
}

alike_with_member : (g h : Goal) (s t : System) → AreAlike g h → SaysSame s t → AreAlike (goal_with_member g s) (goal_with_member h t)
alike_with_member g h s t a e =
    let o = same_open s t e in
    record {
      same_rows =
          ap (λ (rows : List LinearRow). rows ++ map tightened (rows_of s)) a.same_rows ∙
          ap (λ (rows : List LinearRow). h.rows ++ map tightened rows) o.0;
      same_groups = pairs_joined (RelatedInPairs SaysSame) g.groups h.groups (groups_of s) (groups_of t) a.same_groups o.1;
    }

alike_with_members : (g h : Goal) (ss ts : List System) → AreAlike g h → RelatedInPairs SaysSame ss ts →
    RelatedInPairs AreAlike (map (goal_with_member g) ss) (map (goal_with_member h) ts)
alike_with_members g h [] [] a e = tt
alike_with_members g h [] (t ∷ ts) a e = absurd e
alike_with_members g h (s ∷ ss) [] a e = absurd e
alike_with_members g h (s ∷ ss) (t ∷ ts) a e = (alike_with_member g h s t a e.0, alike_with_members g h ss ts a e.1)

-- ---- the law

cases_alike : (refute refute' : List Goal → Type 0) (n : ℕ) (rows rows' : List LinearRow) (groups groups' : List (List System)) →
    rows ≡ rows' → RelatedInPairs (RelatedInPairs SaysSame) groups groups' →
    ((gs hs : List Goal) → RelatedInPairs AreAlike gs hs → refute gs ↔ refute' hs) →
    CasesRefute refute n rows groups ↔ CasesRefute refute' n rows' groups'
cases_alike refute refute' n rows rows' [] [] e k f = (λ r. r, λ r. r)
cases_alike refute refute' n rows rows' [] (t ∷ ts) e k f = absurd k
cases_alike refute refute' n rows rows' (s ∷ ss) [] e k f = absurd k
cases_alike refute refute' n rows rows' (s ∷ ss) (t ∷ ts) e k f =
    let g : Goal = record { rows = rows; groups = ss } in
    let h : Goal = record { rows = rows'; groups = ts } in
    let a : AreAlike g h = record { same_rows = e; same_groups = k.1 } in
    let l : length s ≡ length t = pairs_are_as_many SaysSame s t k.0 in
    let m = f (map (goal_with_member g) s) (map (goal_with_member h) t) (alike_with_members g h s t a k.0) in
    (λ r. (r.0 ∙ l, m.0 r.1), λ r. (r.0 ∙ sym l, m.1 r.1))

goals_alike : (ns : List PlainNode) (gs hs : List Goal) → RelatedInPairs AreAlike gs hs → Refute ns gs ↔ Refute ns hs
goals_alike [] [] [] a = (λ r. r, λ r. r)
goals_alike ns [] (h ∷ hs) a = absurd a
goals_alike ns (g ∷ gs) [] a = absurd a
goals_alike [] (g ∷ gs) (h ∷ hs) a = (λ r. r, λ r. r)
goals_alike (n ∷ ns) [] [] a = (λ r. r, λ r. r)
goals_alike (leaf parts ∷ ns) (g ∷ gs) (h ∷ hs) a =
    let m = goals_alike ns gs hs a.1 in (
      λ r. (subst (λ (rows : List LinearRow). Contradicts rows parts) a.0.same_rows r.0, m.0 r.1),
      λ r. (subst (λ (rows : List LinearRow). Contradicts rows parts) (sym a.0.same_rows) r.0, m.1 r.1),
    )
goals_alike (cut c k ∷ ns) (g ∷ gs) (h ∷ hs) a =
    let m = goals_alike ns (with_row g (at_most c k) ∷ with_row g (above c k) ∷ gs) (with_row h (at_most c k) ∷ with_row h (above c k) ∷ hs)
    (alike_with_row g h (at_most c k) a.0, (alike_with_row g h (above c k) a.0, a.1)) in
    (λ r. (r.0, r.1, m.0 r.2), λ r. (r.0, r.1, m.1 r.2))
goals_alike (cases n ∷ ns) (g ∷ gs) (h ∷ hs) a =
    cases_alike (λ goals. Refute ns (goals ++ gs)) (λ goals. Refute ns (goals ++ hs)) n g.rows h.rows g.groups h.groups a.0.same_rows a.0.same_groups
    (λ ps qs b. goals_alike ns (ps ++ gs) (qs ++ hs) (pairs_joined AreAlike ps qs gs hs b a.1))

-- systems that say the same have the same refutations
pub refuted_alike : (nodes : List PlainNode) (a b : System) → SaysSame a b → Refutes nodes a ↔ Refutes nodes b
refuted_alike nodes a b e =
    let o = same_open a b e in
    goals_alike nodes (goal_of a ∷ []) (goal_of b ∷ [])
    (record { same_rows = ap (map tightened) o.0; same_groups = o.1 }, tt)
