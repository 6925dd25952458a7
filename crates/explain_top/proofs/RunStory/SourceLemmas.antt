-- Where sources stand, and the ways that lead on.
use Rattle.std.proofs.Common.{◌≡◌, ℕ, zero, suc, ◌+◌, ◌-◌, ◌<◌, ◌≤◌, List, [], ◌∷◌, ◌++◌, length, map, Option, None, Some, get_or, refl, ap, sym, ◌∙◌, subst, arith, length-append}
use Rattle.std.specs.Prelude.{codes, slice_get}
use Rattle.std.specs.Option.{option_map, option_or}
use Rattle.std.proofs.lemmas.List.{length-map}
use Rattle.std.proofs.lemmas.Option.{slice_get-map, slice_get_read}
use Rattle.boogie_tree.specs.declared.span.Span.{Span}
use Rattle.boogie_tree.specs.declared.tree.ExprKind.{ExprKind}
use Rattle.boogie_tree.specs.declared.tree.ExprKind.TheVariants as kinds
use Rattle.boogie_tree.specs.declared.tree.Name.{Name}
use Rattle.boogie_tree.specs.declared.tree.Vary.{Vary}
use Rattle.boogie_tree.specs.Tree.{Procedure}
use Rattle.boogie_tree.specs.View.{kind_view}
use Rattle.boogie_run.proofs.BoogiePoints.ChoiceLaws.{get_left, get_right}
use Rattle.explain_top.specs.RunStory.Items.{Item, expression_at, variable_item, head_item, local_items, heading_with}
use Rattle.explain_top.specs.RunStory.Sites.{or_nowhere, local_site}
use Rattle.explain_top.specs.RunStory.Notes.{way_taken}

-- an axiom stands where its expression is seen to
pub axiom_stands : (s : Span) (k : ExprKind) → s ≡ expression_at (kind_view s k)
axiom_stands s (kinds.Lit n) = refl
axiom_stands s (kinds.Truth b) = refl
axiom_stands s (kinds.Var x) = refl
axiom_stands s (kinds.Old' p s1 k) = refl
axiom_stands s (kinds.Not' p s1 k) = refl
axiom_stands s (kinds.Neg' p s1 k) = refl
axiom_stands s (kinds.Bin' op p s1 a q s2 b) = refl

-- the way to a label that is there
pub way_there : (names : List Name) (n : ℕ) (x : Name) → n < length names → x ≡ get_or names n x →
    (codes "to " ++ x.text) ∷ [] ≡ way_taken (slice_get (map (λ (y : Name). codes "to " ++ y.text) names) n)
way_there names n x h e =
    sym (ap way_taken (slice_get-map (λ (y : Name). codes "to " ++ y.text) names n ∙ ap (option_map (λ (y : Name). codes "to " ++ y.text)) (slice_get_read names (length names) n x refl h e)))

-- ---- locals

abbrev in_head : Procedure → Vary → Item
in_head p v = head_item v.name.span p

read_in : (f : Vary → Item) (vs : List Vary) (n : ℕ) (x : Vary) → slice_get vs n ≡ Some x → slice_get (map f vs) n ≡ Some (f x)
read_in f vs n x e = slice_get-map f vs n ∙ ap (option_map f) e

site_in : (p : Procedure) (locals : List Vary) (n : ℕ) (i : Item) → slice_get (local_items p locals) n ≡ Some i → i ≡ local_site (Some (heading_with p locals)) n
site_in p locals n i e = ap (λ (o : Option Item). or_nowhere (option_or o (Some (head_item p.span p)))) (sym e)

module _ (p : Procedure) (locals : List Vary) (n : ℕ) (x : Vary) where
  pub param_site : n < length p.params → x ≡ get_or p.params n x → head_item x.name.span p ≡ local_site (Some (heading_with p locals)) n
  param_site h e =
      site_in p locals n (in_head p x)
      (get_left (map (in_head p) (p.params ++ p.results)) (map (variable_item (codes "var")) locals) n (in_head p x)
      (read_in (in_head p) (p.params ++ p.results) n x (get_left p.params p.results n x (slice_get_read p.params (length p.params) n x refl h e))))

  pub result_site : length p.params ≤ n → n - length p.params < length p.results → x ≡ get_or p.results (n - length p.params) x →
      head_item x.name.span p ≡ local_site (Some (heading_with p locals)) n
  result_site k h e =
      site_in p locals n (in_head p x)
      (get_left (map (in_head p) (p.params ++ p.results)) (map (variable_item (codes "var")) locals) n (in_head p x)
      (read_in (in_head p) (p.params ++ p.results) n x
      (get_right p.params p.results n k ∙ slice_get_read p.results (length p.results) (n - length p.params) x refl h e)))

behind_head : (p : Procedure) (locals : List Vary) (n : ℕ) → length p.params ≤ n → length p.results ≤ n - length p.params →
    slice_get (local_items p locals) n ≡ slice_get (map (variable_item (codes "var")) locals) ((n - length p.params) - length p.results)
behind_head p locals n k l =
    let count : length (map (in_head p) (p.params ++ p.results)) ≡ length p.params + length p.results =
    length-map (p.params ++ p.results) (in_head p) ∙ length-append p.params p.results in
    let from : n - length (map (in_head p) (p.params ++ p.results)) ≡ (n - length p.params) - length p.results = omega (arith, count) in
    get_right (map (in_head p) (p.params ++ p.results)) (map (variable_item (codes "var")) locals) n (omega (arith, count))
    ∙ ap (slice_get (map (variable_item (codes "var")) locals)) from

pub declared_site : (p : Procedure) (locals : List Vary) (n : ℕ) (x : Vary) → length p.params ≤ n → length p.results ≤ n - length p.params →
    (n - length p.params) - length p.results < length locals → x ≡ get_or locals ((n - length p.params) - length p.results) x →
    variable_item (codes "var") x ≡ local_site (Some (heading_with p locals)) n
declared_site p locals n x k l h e =
    let m = (n - length p.params) - length p.results in
    site_in p locals n (variable_item (codes "var") x)
    (behind_head p locals n k l ∙ read_in (variable_item (codes "var")) locals m x (slice_get_read locals (length locals) m x refl h e))

none_past : (vs : List Item) (n : ℕ) → length vs ≤ n → slice_get vs n ≡ None
none_past [] n h = refl
none_past (v ∷ vs) zero h = absurd (omega arith)
none_past (v ∷ vs) (suc n) h = none_past vs n (omega arith)

pub hidden_site : (p : Procedure) (locals : List Vary) (n : ℕ) → length p.params ≤ n → length p.results ≤ n - length p.params →
    length locals ≤ (n - length p.params) - length p.results → head_item p.span p ≡ local_site (Some (heading_with p locals)) n
hidden_site p locals n k l h =
    let m = (n - length p.params) - length p.results in
    ap (λ (o : Option Item). or_nowhere (option_or o (Some (head_item p.span p))))
    (sym (behind_head p locals n k l ∙ none_past (map (variable_item (codes "var")) locals) m (omega (arith, length-map locals (variable_item (codes "var"))))))

-- ---- the same, by lists that are those of the procedure

pub result_at : (p : Procedure) (locals : List Vary) (n m : ℕ) (x : Vary) (ps rs : List Vary) → ps ≡ p.params → rs ≡ p.results → m ≡ n - length p.params →
    length ps ≤ n → m < length rs → x ≡ get_or rs m x → head_item x.name.span p ≡ local_site (Some (heading_with p locals)) n
result_at p locals n m x ps rs a b count k h e =
    result_site p locals n x (omega (arith, ap length a)) (omega (arith, ap length b, count))
    (subst (λ (i : ℕ). x ≡ get_or p.results i x) count (subst (λ (vs : List Vary). x ≡ get_or vs m x) b e))

pub declared_at : (p : Procedure) (locals : List Vary) (n m k : ℕ) (x : Vary) (ps rs ls : List Vary) → ps ≡ p.params → rs ≡ p.results → ls ≡ locals →
    m ≡ n - length p.params → k ≡ m - length p.results → length ps ≤ n → length rs ≤ m → k < length ls → x ≡ get_or ls k x →
    variable_item (codes "var") x ≡ local_site (Some (heading_with p locals)) n
declared_at p locals n m k x ps rs ls a b c count rest f g h e =
    let from : k ≡ (n - length p.params) - length p.results = rest ∙ ap (λ (i : ℕ). i - length p.results) count in
    declared_site p locals n x (omega (arith, ap length a)) (omega (arith, ap length b, count)) (omega (arith, ap length c, from))
    (subst (λ (i : ℕ). x ≡ get_or locals i x) from (subst (λ (vs : List Vary). x ≡ get_or vs k x) c e))

pub hidden_at : (p : Procedure) (locals : List Vary) (n m k : ℕ) (ps rs ls : List Vary) → ps ≡ p.params → rs ≡ p.results → ls ≡ locals →
    m ≡ n - length p.params → k ≡ m - length p.results → length ps ≤ n → length rs ≤ m → length ls ≤ k → head_item p.span p ≡ local_site (Some (heading_with p locals)) n
hidden_at p locals n m k ps rs ls a b c count rest f g h =
    let from : k ≡ (n - length p.params) - length p.results = rest ∙ ap (λ (i : ℕ). i - length p.results) count in
    hidden_site p locals n (omega (arith, ap length a)) (omega (arith, ap length b, count)) (omega (arith, ap length c, from))
