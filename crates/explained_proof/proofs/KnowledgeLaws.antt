-- What is known by numbers, along lists of lines and of nodes.
use Rattle.std.proofs.Common.{◌≡◌, ◌∙◌, ℕ, zero, suc, ◌+◌, ◌<◌, ◌≤◌, Bool, true, false, not, cond, List, [], ◌∷◌, ◌++◌, map, length, drop, get_or, Option, refl, sym, ap, append_assoc}
use Rattle.std.specs.Prelude.{◌&&◌, slice_get}
use Rattle.std.specs.List.{list_all}
use Rattle.std.specs.Option.{option_and_then}
use Rattle.std.proofs.lemmas.List.{drop_more, drop_all}
use Rattle.letter_acts.specs.Invariant.{Graph}
use Rattle.triple_rows.specs.Predicates.{Formula}
use Rattle.proof_form.specs.declared.lines.PredLine.{PredLine}
use Rattle.proof_form.specs.Lines as form
use Rattle.proof_form.specs.Lines.{Pred}
use Rattle.proof_form.specs.Annotations.{Content, is_annotation}
use Rattle.proof_names.specs.declared.outlines.NamedNode.{NamedNode}
use Rattle.proof_names.specs.Items.{pred_at}
use Rattle.proof_names.specs.Outlines.{OutlineNode, node}
use Rattle.proof_names.specs.Predicates.{pred_named}
use Rattle.explained_proof.specs.FactExpressions.Facts.{Facts, gathered, facts_from}
use Rattle.explained_proof.specs.declared.tightening.Tightened.{Tightened}
use Rattle.explained_proof.specs.Known.{Known, formula_in, predicate, is_false, nodes_from}
use Rattle.explained_proof.specs.Ties.Views.{tightened, line_said, predicate_said}

-- ---- predicates

lines_from : (g : Graph) (ts : List (Option Tightened)) (ps : List Pred) → map tightened ts ≡ map (λ p. formula_in (pred_named g p)) ps → (k : ℕ) →
    line_said (slice_get ts k) ≡ formula_in (option_and_then (pred_named g) (slice_get ps k))
lines_from g [] [] h k = refl
lines_from g [] (p ∷ ps) h k = absurd (let no : ⊥ = cc in no)
lines_from g (t ∷ ts) [] h k = absurd (let no : ⊥ = cc in no)
lines_from g (t ∷ ts) (p ∷ ps) h zero = let e : tightened t ≡ formula_in (pred_named g p) = cc in e
lines_from g (t ∷ ts) (p ∷ ps) h (suc k) = let e : map tightened ts ≡ map (λ q. formula_in (pred_named g q)) ps = cc in lines_from g ts ps e k

map_twice : (g : Graph) (ls : List PredLine) → map (λ line. formula_in (pred_named g (form.pred line))) ls ≡ map (λ p. formula_in (pred_named g p)) (map form.pred ls)
map_twice g [] = refl
map_twice g (l ∷ ls) = ap (λ fs. formula_in (pred_named g (form.pred l)) ∷ fs) (map_twice g ls)

-- the predicates of the lines of an annotation
pub lines_said : (g : Graph) (a : Content) (ts : List (Option Tightened)) (ls : List PredLine) → map tightened ts ≡ map (λ line. formula_in (pred_named g (form.pred line))) ls →
    map form.pred ls ≡ a.preds → (k : ℕ) → line_said (slice_get ts k) ≡ formula_in (pred_at g a k)
lines_said g a ts ls h e k =
    lines_from g ts a.preds (h ∙ map_twice g ls ∙ ap (map (λ p. formula_in (pred_named g p))) e) k

first_holds : (a b : Bool) → (a && b) ≡ true → a ≡ true
first_holds true b h = refl
first_holds false b h = h

-- the lines of an annotation are well formed
pub lines_valid : (a : Content) → is_annotation a ≡ true → list_all form.is_pred a.preds ≡ true
lines_valid a h = first_holds (list_all form.is_pred a.preds) _ h

pub predicates_same : (g : Graph) (a : Content) (ts : List (Option Tightened)) → ((k : ℕ) → line_said (slice_get ts k) ≡ formula_in (pred_at g a k)) → (n : ℕ) → predicate_said ts n ≡ predicate g a n
predicates_same g a ts h zero = refl
predicates_same g a ts h (suc zero) = refl
predicates_same g a ts h (suc (suc k)) = h k

pub known_same : (a b : Known) → ((n : ℕ) → a.predicate n ≡ b.predicate n) → ((n : ℕ) → a.preds n ≡ b.preds n) → ((p : ℕ) → a.entered p ≡ b.entered p) →
    ((p e : ℕ) → a.standing p e ≡ b.standing p e) → a ≡ b
known_same a b predicates preds entered standing = λ i. record {
  predicate = λ n. predicates n i;
  preds = λ n. preds n i;
  entered = λ p. entered p i;
  standing = λ p e. standing p e i;
}

-- ---- nodes

nodes_step : (test : ℕ → OutlineNode → Bool) (x : OutlineNode) (i : ℕ) (xs : List OutlineNode) (old new all : List ℕ) (b : Bool) →
    (test i x && not (is_false x)) ≡ b → new ≡ cond b (old ++ i ∷ []) old → old ++ nodes_from i test (x ∷ xs) ≡ all → new ++ nodes_from (i + 1) test xs ≡ all
nodes_step test x i xs old new all true e n h =
    let rest = nodes_from (i + 1) test xs in
    ap (λ ys. ys ++ rest) n ∙ append_assoc old (i ∷ []) rest ∙ ap (λ c. old ++ cond c (i ∷ rest) rest) (sym e) ∙ h
nodes_step test x i xs old new all false e n h =
    let rest = nodes_from (i + 1) test xs in
    ap (λ ys. ys ++ rest) n ∙ ap (λ c. old ++ cond c (i ∷ rest) rest) (sym e) ∙ h

-- one node more
pub nodes_on : (test : ℕ → OutlineNode → Bool) (xs : List NamedNode) (i : ℕ) (x : NamedNode) (old new all : List ℕ) (b : Bool) → i < length xs → x ≡ get_or xs i x →
    (test i (node x) && not (is_false (node x))) ≡ b → new ≡ cond b (old ++ i ∷ []) old → old ++ nodes_from i test (map node (drop i xs)) ≡ all →
    new ++ nodes_from (i + 1) test (map node (drop (i + 1) xs)) ≡ all
nodes_on test xs i x old new all b l h e n was =
    let from : drop i xs ≡ x ∷ drop (i + 1) xs = drop_more xs i x l ∙ ap (λ y. y ∷ drop (i + 1) xs) (sym h) in
    nodes_step test (node x) i (map node (drop (i + 1) xs)) old new all b e n (ap (λ ys. old ++ nodes_from i test (map node ys)) (sym from) ∙ was)

pub nodes_end : (test : ℕ → OutlineNode → Bool) (xs : List NamedNode) (i : ℕ) (now all : List ℕ) → length xs ≤ i →
    now ++ nodes_from i test (map node (drop i xs)) ≡ all → now ++ [] ≡ all
nodes_end test xs i now all l h = ap (λ ys. now ++ nodes_from i test (map node ys)) (sym (drop_all i xs l)) ∙ h

pub and_not_true : (a b : Bool) → true ≡ b → (a && not b) ≡ false
and_not_true true b h = ap not (sym h)
and_not_true false b h = refl

pub and_not_false : (a b : Bool) → false ≡ b → (a && not b) ≡ a
and_not_false true b h = ap not (sym h)
and_not_false false b h = refl

pub first_false : (a b c : Bool) → a ≡ false → ((a && b) && c) ≡ false
first_false true b c h = let no : ⊥ = cc in absurd no
first_false false b c h = refl

pub first_true : (a b c : Bool) → a ≡ true → false ≡ c → ((a && b) && not c) ≡ b
first_true true b c h f = and_not_false b c f
first_true false b c h f = let no : ⊥ = cc in absurd no

-- ---- facts

-- one predicate more
pub facts_on : (P : ℕ → Formula) (ns : List ℕ) (i : ℕ) (now new whole : Facts) → i < length ns → facts_from (map P (drop i ns)) now ≡ whole → new ≡ gathered (P (get_or ns i 0)) now →
    facts_from (map P (drop (i + 1) ns)) new ≡ whole
facts_on P ns i now new whole l was e =
    ap (facts_from (map P (drop (i + 1) ns))) e ∙ ap (λ ms. facts_from (map P ms) now) (sym (drop_more ns i 0 l)) ∙ was

pub facts_end : (P : ℕ → Formula) (ns : List ℕ) (i : ℕ) (now whole : Facts) → length ns ≤ i → facts_from (map P (drop i ns)) now ≡ whole → now ≡ whole
facts_end P ns i now whole l h = ap (λ ms. facts_from (map P ms) now) (sym (drop_all i ns l)) ∙ h
