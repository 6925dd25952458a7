-- Lists of places that grow procedure by procedure.
use Rattle.std.proofs.Common.{◌≡◌, ◌∙◌, ℕ, zero, suc, ◌+◌, ◌≤◌, List, [], ◌∷◌, ◌++◌, length, drop, Some, refl, sym, ap, arith, append_assoc, append-nil, ◌<◌, get_or}
use Rattle.std.specs.Prelude.{slice_get}
use Rattle.std.proofs.lemmas.List.{drop_more}
use Rattle.boogie_tree.specs.declared.span.Span.{Span}
use Rattle.typed_tree.specs.declared.types.TExprKind.{TExprKind}
use Rattle.typed_tree.specs.declared.types.TExprKind.TheVariants as kinds
use Rattle.typed_tree.specs.TypedView.{kind_view}
use Rattle.typed_tree.specs.BrokenRules.{expression_span}
use Rattle.typed_tree.specs.TypedTree.{TypedProcedure, TypedProgram}
use Rattle.explain_top.specs.TraceStory.Ties.PlaceSites.{PlaceSite, body_sites, sites_from, program_sites}

pub two_steps : {X : Type 0} (a b c xs ys : List X) → b ≡ a ++ xs → c ≡ b ++ ys → c ≡ a ++ (xs ++ ys)
two_steps a b c xs ys e f = f ∙ ap (λ l. l ++ ys) e ∙ append_assoc a xs ys

-- an expression stands where it is seen to
pub span_seen : (s : Span) (k : TExprKind) → s ≡ expression_span (kind_view s k)
span_seen s (kinds.Lit n) = refl
span_seen s (kinds.Truth b) = refl
span_seen s (kinds.Var c) = refl
span_seen s (kinds.Old' p s1 k) = refl
span_seen s (kinds.Not' p s1 k) = refl
span_seen s (kinds.Neg' p s1 k) = refl
span_seen s (kinds.Bin' op p s1 a q s2 b) = refl

-- one turn of a loop that makes a list from another one
pub turn : {X Y : Type 0} (F : List X → List Y) (xs : List X) (i : ℕ) (d : X) (done new whole front : List Y) → i < length xs →
    F (get_or xs i d ∷ drop (i + 1) xs) ≡ front ++ F (drop (i + 1) xs) → new ≡ done ++ front → done ++ F (drop i xs) ≡ whole → new ++ F (drop (i + 1) xs) ≡ whole
turn F xs i d done new whole front l step e w =
    (λ j. e j ++ F (drop (i + 1) xs)) ∙ append_assoc done front (F (drop (i + 1) xs)) ∙ (λ j. done ++ sym step j) ∙ (λ j. done ++ F (sym (drop_more xs i d l) j)) ∙ w

pub drop_here : {X : Type 0} (xs : List X) (n : ℕ) (x : X) → slice_get xs n ≡ Some x → drop n xs ≡ x ∷ drop (n + 1) xs
drop_here [] n x e = absurd (cc)
drop_here (y ∷ ys) zero x e = let same : y ≡ x = cc in ap (λ z. z ∷ ys) same
drop_here (y ∷ ys) (suc n) x e =
    let s : suc n + 1 ≡ suc (n + 1) = omega arith in
    drop_here ys n x e ∙ ap (λ (m : ℕ). x ∷ drop m (y ∷ ys)) (sym s)

pub drop_past : {X : Type 0} (xs : List X) (n : ℕ) → length xs ≤ n → drop n xs ≡ []
drop_past [] zero h = refl
drop_past [] (suc n) h = refl
drop_past (x ∷ xs) zero h = absurd (omega arith)
drop_past (x ∷ xs) (suc n) h = drop_past xs n (omega arith)

pub sites_step : (t : TypedProgram) (n : ℕ) (q : TypedProcedure) (old new : List PlaceSite) → slice_get t.procs n ≡ Some q → new ≡ old ++ body_sites t.procs n q q.body →
    new ++ sites_from t.procs (n + 1) (drop (n + 1) t.procs) ≡ old ++ sites_from t.procs n (drop n t.procs)
sites_step t n q old new e h =
    ap (λ (l : List PlaceSite). l ++ sites_from t.procs (n + 1) (drop (n + 1) t.procs)) h ∙ append_assoc old (body_sites t.procs n q q.body) (sites_from t.procs (n + 1) (drop (n + 1) t.procs))
    ∙ ap (λ (qs : List TypedProcedure). old ++ sites_from t.procs n qs) (sym (drop_here t.procs n q e))

pub sites_done : (t : TypedProgram) (n : ℕ) (ks : List PlaceSite) → length t.procs ≤ n → ks ++ sites_from t.procs n (drop n t.procs) ≡ program_sites t → ks ≡ program_sites t
sites_done t n ks less e = sym (append-nil ks) ∙ ap (λ (qs : List TypedProcedure). ks ++ sites_from t.procs n qs) (sym (drop_past t.procs n less)) ∙ e
