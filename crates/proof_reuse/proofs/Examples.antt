-- The definitions at work: `x := 1; assert x == 1;` with its earlier annotation, and what is found where names have changed.
use Rattle.std.proofs.Common.{◌≡◌, ℕ, suc, true, false, List, [], ◌∷◌, None, Some, codes, refl, sym, ap, subst, inl, inr, lit<}
use Rattle.std.specs.Prelude.{ℤ, pos, negsuc, Bool}
use Rattle.boogie_tree.specs.declared.tree.Column.{Column}
use Rattle.boogie_tree.specs.declared.tree.Column.TheVariants.{Local}
use Rattle.boogie_tree.specs.declared.tree.VarInfo.{VarInfo}
use Rattle.boogie_tree.specs.declared.tree.Ty.TheVariants.{Int}
use Rattle.math_facts.specs.Terms.{IsBelow}
use Rattle.lin_rows.specs.declared.types.RowKind.TheVariants.{Le}
use Rattle.lin_rows.specs.Rows.{LinearRow}
use Rattle.nwa_base.specs.Automata.{Automaton}
use Rattle.letter_acts.specs.Frames.{Columns}
use Rattle.letter_acts.specs.Acts.{PlainAct, inside_act}
use Rattle.letter_acts.specs.Invariant.{Graph, alphabet_of}
use Rattle.triple_rows.specs.declared.predicates.PredNode.TheVariants.{Truth, Atom}
use Rattle.triple_rows.specs.declared.triples.Scoped.{Scoped}
use Rattle.triple_rows.specs.declared.triples.Triple.TheVariants.{Inside}
use Rattle.triple_rows.specs.Triples.{IsScoped, truth_of}
use Rattle.proof_form.specs.declared.numerals.Numeral.{Numeral}
use Rattle.proof_form.specs.Predicates.{atom}
use Rattle.proof_form.specs.Lines as form
use Rattle.proof_form.specs.Lines.{Pred, inside_triple}
use Rattle.proof_form.specs.Annotations.{Content}
use Rattle.proof_reuse.specs.Found.{pred_found, found_preds}
use Rattle.proof_reuse.specs.Candidates.{IsRenewed, RenewsLine, IsCandidate}

-- ---- a program with one procedure, and its acts by number: enter, `x := 1`, `assume x == 1`, `x < 1`, `x > 1`

abbrev column : ℕ → List ℕ → Column × VarInfo
column n name = (Local n, record { name = name; ty = Int; constant = false })

abbrev row : List (ℕ × ℤ) → ℤ → LinearRow
row terms bound = record { terms = terms; kind = Le; bound = bound }

-- over x before the step and, where it is written, x after it
abbrev acts : List PlainAct
acts =
    inside_act 0 [] 0 [] ∷ inside_act 0 (0 ∷ []) 0 (row ((1, pos 1) ∷ []) (pos 1) ∷ row ((1, negsuc 0) ∷ []) (negsuc 0) ∷ []) ∷
    inside_act 0 [] 0 (row ((0, pos 1) ∷ []) (pos 1) ∷ row ((0, negsuc 0) ∷ []) (negsuc 0) ∷ []) ∷
    inside_act 0 [] 0 (row ((0, pos 1) ∷ []) (pos 0) ∷ []) ∷ inside_act 0 [] 0 (row ((0, negsuc 0) ∷ []) (negsuc 1) ∷ []) ∷ []

module _ (m : Automaton) where
  abbrev graph : List (List ℕ) → Columns → Graph
  graph names frame = record {
    automaton = m;
    acts = acts;
    marks = [];
    frames = frame ∷ [];
    names = names;
    place_procs = 0 ∷ [];
    entries = Some 0 ∷ [];
    exits = Some 0 ∷ [];
    sites = [];
  }

-- ---- the earlier annotation: `pred 2 main (le -1 -1 l:x)`, `pred 3 main (le 1 1 l:x)` and four triples

abbrev numeral : List ℕ → Numeral
numeral digits = record { negative = false; digits = digits }

abbrev minus : List ℕ → Numeral
minus digits = record { negative = true; digits = digits }

abbrev pred : List ℕ → Numeral → List (Numeral × List ℕ) → Pred
pred proc bound terms = record { proc = proc; nodes = atom bound terms ∷ [] }

abbrev old : Content
old = record {
  preds =
      pred (codes "main") (minus (codes "1")) ((minus (codes "1"), codes "l:x") ∷ []) ∷
      pred (codes "main") (numeral (codes "1")) ((numeral (codes "1"), codes "l:x") ∷ []) ∷ [];
  triples =
      inside_triple (numeral (codes "0")) (numeral (codes "1")) (numeral (codes "2")) [] ∷
      inside_triple (numeral (codes "0")) (numeral (codes "1")) (numeral (codes "3")) [] ∷
      inside_triple (numeral (codes "2")) (numeral (codes "3")) (numeral (codes "1")) [] ∷
      inside_triple (numeral (codes "3")) (numeral (codes "4")) (numeral (codes "1")) [] ∷ [];
  nodes = [];
  steps = [];
}

abbrev frame : Columns
frame = column 0 (codes "x") ∷ []

abbrev scoped : LinearRow → Scoped
scoped r = record { proc = 0; pred = Atom r ∷ [] }

abbrev at_least : Scoped
at_least = scoped (row ((0, negsuc 0) ∷ []) (negsuc 0))

abbrev at_most : Scoped
at_most = scoped (row ((0, pos 1) ∷ []) (pos 1))

-- a row is no truth value
apart : (r : LinearRow) (b : Bool) → Some (scoped r) ≡ Some (truth_of 0 b) → ⊥
apart r b e = let f : scoped r ≡ truth_of 0 b = cc in let k : Atom r ∷ [] ≡ Truth b ∷ [] = ap (λ (s : Scoped). s.pred) f in cc

not_zero : (n : ℕ) → Some (suc n) ≡ Some 0 → ⊥
not_zero n e = cc

module _ (m : Automaton) where
  abbrev main : Graph
  main = graph m (codes "main" ∷ []) frame

  -- both are found
  both_found : found_preds main old ≡ at_least ∷ at_most ∷ []
  both_found = refl

  -- in a program without x none is
  none_found : found_preds (graph m (codes "main" ∷ []) []) old ≡ []
  none_found = refl

  -- nor where the procedure has another name
  renamed : found_preds (graph m (codes "other" ∷ []) frame) old ≡ []
  renamed = refl

  in_main : (r : LinearRow) → IsBelow 1 r.terms → IsScoped (alphabet_of main) 0 (scoped r)
  in_main r h = record { proc = refl; exists = lit< tt; over = h }

  in_main_truth : IsScoped (alphabet_of main) 0 (truth_of 0 false)
  in_main_truth = record { proc = refl; exists = lit< tt; over = tt }

  -- the third triple by another letter than its own
  by_another_letter : IsCandidate main old (Inside at_least 4 (truth_of 0 false))
  by_another_letter = record {
    agrees = (in_main _ (lit< tt, tt), in_main_truth);
    origin = inl (_, inr (inr (inl refl)), (inl refl, refl));
  }

  -- the first with its source, which is true, replaced
  from_another_source : IsCandidate main old (Inside at_most 1 at_least)
  from_another_source = record {
    agrees = (in_main _ (lit< tt, tt), in_main _ (lit< tt, tt));
    origin = inl (_, inl refl, (inr (refl, inr (inl refl)), refl));
  }

  -- false stays by each letter
  false_stays : IsCandidate main old (Inside (truth_of 0 false) 0 (truth_of 0 false))
  false_stays = record { agrees = (in_main_truth, in_main_truth); origin = inr (inr (inl (refl, refl))) }

  -- no line leads from true to false
  abbrev Renewed : form.Triple → Type 0
  Renewed line = IsRenewed main old line (Inside (truth_of 0 true) 3 (truth_of 0 false))

  not_first : Renewed (inside_triple (numeral (codes "0")) (numeral (codes "1")) (numeral (codes "2")) []) → ⊥
  not_first h = apart _ false h.1

  not_second : Renewed (inside_triple (numeral (codes "0")) (numeral (codes "1")) (numeral (codes "3")) []) → ⊥
  not_second h = apart _ false h.1

  not_third : Renewed (inside_triple (numeral (codes "2")) (numeral (codes "3")) (numeral (codes "1")) []) → ⊥
  not_third (inl e, k) = apart _ true e
  not_third (inr e, k) = not_zero 1 e.0

  not_fourth : Renewed (inside_triple (numeral (codes "3")) (numeral (codes "4")) (numeral (codes "1")) []) → ⊥
  not_fourth (inl e, k) = apart _ true e
  not_fourth (inr e, k) = not_zero 2 e.0

  not_from_true : RenewsLine main old (Inside (truth_of 0 true) 3 (truth_of 0 false)) → ⊥
  not_from_true (line, inl e, h) = not_first (subst Renewed (sym e) h)
  not_from_true (line, inr (inl e), h) = not_second (subst Renewed (sym e) h)
  not_from_true (line, inr (inr (inl e)), h) = not_third (subst Renewed (sym e) h)
  not_from_true (line, inr (inr (inr (inl e))), h) = not_fourth (subst Renewed (sym e) h)
  not_from_true (line, inr (inr (inr (inr none))), h) = none

-- ---- names and orders

module _ (m : Automaton) where
  abbrev two : Columns → Graph
  two columns = graph m (codes "main" ∷ []) columns

  -- `(le 7 2 l:x 3 l:y)`
  abbrev sum : Pred
  sum = pred (codes "main") (numeral (codes "7")) ((numeral (codes "2"), codes "l:x") ∷ (numeral (codes "3"), codes "l:y") ∷ [])

  in_their_order : pred_found (two (column 0 (codes "x") ∷ column 1 (codes "y") ∷ [])) sum ≡ Some (scoped (row ((0, pos 2) ∷ (1, pos 3) ∷ []) (pos 7)))
  in_their_order = refl

  -- columns that changed places
  in_the_other_order : pred_found (two (column 0 (codes "y") ∷ column 1 (codes "x") ∷ [])) sum ≡ Some (scoped (row ((0, pos 3) ∷ (1, pos 2) ∷ []) (pos 7)))
  in_the_other_order = refl

  -- one of two columns is lost
  one_lost : pred_found (two (column 0 (codes "x") ∷ [])) sum ≡ None
  one_lost = refl

  -- a column that is named twice
  named_twice : pred_found (two frame) (pred (codes "main") (numeral (codes "7")) ((numeral (codes "2"), codes "l:x") ∷ (numeral (codes "3"), codes "l:x") ∷ [])) ≡ None
  named_twice = refl

  -- 2^127 does not fit
  too_large : pred_found (two frame) (pred (codes "main") (numeral (codes "170141183460469231731687303715884105728")) ((numeral (codes "1"), codes "l:x") ∷ [])) ≡ None
  too_large = refl
