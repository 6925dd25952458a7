-- Prefix lists: what is read from them, and that no two trees share one.
use Rattle.std.proofs.Common.{◌≡◌, ◌∙◌, List, [], ◌∷◌, ◌++◌, take, drop, refl, sym, ap, append_assoc}
use Rattle.std.proofs.lemmas.List.{append-nil}
use Rattle.triple_rows.specs.declared.predicates.PredNode.{PredNode}
use Rattle.triple_rows.specs.Predicates.{Formula, Formulas, truth, atom, and_of, or_of, no_formula, one_more, formula_count, prefix_of, prefixes_of, bundled, formulas, formula_of}

-- parts as a list
abbrev pub listed : Formulas → List Formula
listed no_formula = []
listed (one_more f fs) = f ∷ listed fs

bundled-listed : (fs : Formulas) → bundled (listed fs) ≡ fs
bundled-listed no_formula = refl
bundled-listed (one_more f fs) = ap (one_more f) (bundled-listed fs)

take_listed : (fs : Formulas) (gs : List Formula) → take (formula_count fs) (listed fs ++ gs) ≡ listed fs
take_listed no_formula gs = refl
take_listed (one_more f fs) gs = ap (λ (l : List Formula). f ∷ l) (take_listed fs gs)

drop_listed : (fs : Formulas) (gs : List Formula) → drop (formula_count fs) (listed fs ++ gs) ≡ gs
drop_listed no_formula gs = refl
drop_listed (one_more f fs) gs = drop_listed fs gs

taken_parts : (fs : Formulas) (gs : List Formula) → bundled (take (formula_count fs) (listed fs ++ gs)) ≡ fs
taken_parts fs gs = ap bundled (take_listed fs gs) ∙ bundled-listed fs

mutual
  pub formula_read : (f : Formula) (ns : List PredNode) → formulas (prefix_of f ++ ns) ≡ f ∷ formulas ns
  formula_read (truth b) ns = refl
  formula_read (atom r) ns = refl
  formula_read (and_of fs) ns =
      let e = formulas_read fs ns in
      let a : bundled (take (formula_count fs) (formulas (prefixes_of fs ++ ns))) ≡ fs = ap (λ (l : List Formula). bundled (take (formula_count fs) l)) e ∙ taken_parts fs (formulas ns) in
      let d : drop (formula_count fs) (formulas (prefixes_of fs ++ ns)) ≡ formulas ns = ap (λ (l : List Formula). drop (formula_count fs) l) e ∙ drop_listed fs (formulas ns) in
      cc
  formula_read (or_of fs) ns =
      let e = formulas_read fs ns in
      let a : bundled (take (formula_count fs) (formulas (prefixes_of fs ++ ns))) ≡ fs = ap (λ (l : List Formula). bundled (take (formula_count fs) l)) e ∙ taken_parts fs (formulas ns) in
      let d : drop (formula_count fs) (formulas (prefixes_of fs ++ ns)) ≡ formulas ns = ap (λ (l : List Formula). drop (formula_count fs) l) e ∙ drop_listed fs (formulas ns) in
      cc

  pub formulas_read : (fs : Formulas) (ns : List PredNode) → formulas (prefixes_of fs ++ ns) ≡ listed fs ++ formulas ns
  formulas_read no_formula ns = refl
  formulas_read (one_more f fs) ns =
      ap formulas (append_assoc (prefix_of f) (prefixes_of fs) ns) ∙ formula_read f (prefixes_of fs ++ ns) ∙
      ap (λ (l : List Formula). f ∷ l) (formulas_read fs ns)

-- the tree that a prefix list spells
pub prefix_read : (f : Formula) → formula_of (prefix_of f) ≡ f
prefix_read f = ap formula_of (sym (append-nil (prefix_of f))) ∙ first (formula_read f [])
  where
    first : formulas (prefix_of f ++ []) ≡ f ∷ [] → formula_of (prefix_of f ++ []) ≡ f
    first e = cc
