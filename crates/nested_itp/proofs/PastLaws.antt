-- Where no number is past, the tree that is put down for a letter's triple is a proof of it.
use Rattle.std.proofs.Common.{◌≡◌, ◌∙◌, ℕ, zero, suc, ◌<◌, IsTrue, List, [], ◌∷◌, ◌++◌, length, get_or, length-append, refl, sym, ap, subst, arith, Some}
use Rattle.std.specs.Prelude.{slice_get}
use Rattle.std.specs.List.{AllByRecursion}
use Rattle.std.proofs.lemmas.List.{length-map}
use Rattle.lin_rows.specs.Rows.{LinearRow}
use Rattle.lin_rows.specs.Tightening.{tightened}
use Rattle.farkas_check.specs.Nodes.{PlainNode, is_tree}
use Rattle.farkas_check.specs.Refutes.{Refutes}
use Rattle.farkas_check.specs.Trees.{Tree, prefix_of}
use Rattle.farkas_check.proofs.TreeLaws.{is_tree_is}
use Rattle.nwa_base.specs.declared.letters.Letter.{Letter}
use Rattle.nwa_base.specs.Automata.{IsAutomaton}
use Rattle.nwa_base.specs.Acceptance.{Accepts}
use Rattle.letter_acts.specs.Frames.{Columns}
use Rattle.letter_acts.specs.Acts.{Alphabet}
use Rattle.letter_acts.specs.Invariant.{Graph, IsGraph, alphabet_of}
use Rattle.letter_acts.specs.FrameRows.Rows.{bounds, types_of}
use Rattle.path_rows.specs.Versions.{PathStage, part_rows, part_of}
use Rattle.path_rows.specs.Paths.{Path, repeated, start_frame, first_stage, path_along, path_of}
use Rattle.triple_rows.specs.declared.triples.Triple.{Triple}
use Rattle.triple_rows.specs.Triples.{Agrees, IsUnrefuted}
use Rattle.hoare_check.specs.Decided.{AreCutsWithin}
use Rattle.nested_itp.specs.NestedPredicates.Stamps.{stamps_of}
use Rattle.nested_itp.specs.NestedPredicates.Positions.{positions_of}
use Rattle.nested_itp.specs.NestedPredicates.Sums.{root_of}
use Rattle.nested_itp.specs.NestedPredicates.Interpolants.{RefutesRows}
use Rattle.nested_itp.specs.NestedRefutations.Numbers.{Step, StepNumbersFit, steps_of, AreCutsAt}
use Rattle.nested_itp.specs.NestedRefutations.Walked.{WalkedRefutes}
use Rattle.nested_itp.specs.NestedRefutations.Cuts.{WalkedCuts}
use Rattle.triple_rows.specs.Cuts.{IsCutWithin}
use Rattle.nested_itp.specs.NestedRefutations.Waiting.{StepWaits}
use Rattle.nested_itp.proofs.NestedRefutations.InsideColumnLaws.{length-repeated}
use Rattle.nested_itp.proofs.NestedRefutations.StepLaws.{steps_wait}
use Rattle.nested_itp.proofs.NestedRefutations.TripleLaws.{steps_walked}
use Rattle.nested_itp.proofs.NestedRefutations.WalkedCutLaws.{steps_cut}
use Rattle.nested_itp.specs.declared.triple_steps.making.Step as found
use Rattle.nested_itp.specs.TripleSteps.Steps.{IsStep, AreSteps}
use Rattle.nested_itp.specs.declared.triple_walks.trees.Tree as code
use Rattle.nested_itp.specs.TripleWalks.Spots.{IsTree}
use Rattle.nested_itp.specs.TripleWalks.Putting.{IsPutFor}
use Rattle.nested_itp.specs.Ties.Proofs.{AreTriplesOf, IsNoProof}
use Rattle.nested_itp.proofs.AgreeingLaws.{triples_agree}
use Rattle.nested_itp.proofs.CutLaws.{tree_cuts}
use Rattle.nested_itp.proofs.TripleLaws.{triples_in, steps_triples}

-- ---- the step of a letter

-- a step of the definition at a place of the word, with what is found there
pub record StepAt (g : Graph) (w : List Letter) (t : Tree) (steps : List Step) (i : ℕ) (f : found.Step) (triple : Triple) : Type 0 where
  pub step : Step
  pub there : slice_get steps i ≡ Some step
  pub is_step : IsStep g w t step f
  pub triple_is : step.triple ≡ triple

pub step_at : (g : Graph) (w : List Letter) (t : Tree) (steps : List Step) (found_steps : List found.Step) (triples : List Triple) (i : ℕ) (f : found.Step) (triple : Triple) →
    AreSteps g w t steps found_steps → triples_in steps ≡ triples → f ≡ get_or found_steps i f → triple ≡ get_or triples i triple → i < length triples → StepAt g w t steps i f triple
step_at g w t [] fs [] i f x h e p q l = absurd (omega (arith, l))
step_at g w t [] fs (y ∷ triples) i f x h e p q l = absurd (let n : 0 ≡ suc (length triples) = ap length e in omega (arith, n))
step_at g w t (s ∷ steps) [] triples i f x h e p q l = absurd h
step_at g w t (s ∷ steps) (y ∷ fs) [] i f x h e p q l = absurd (omega (arith, l))
step_at g w t (s ∷ steps) (y ∷ fs) (z ∷ triples) zero f x h e p q l = record {
  step = s;
  there = refl;
  is_step = subst (IsStep g w t s) (sym p) h.0;
  triple_is = (let k : s.triple ≡ z = cc in k) ∙ sym q;
}
step_at g w t (s ∷ steps) (y ∷ fs) (z ∷ triples) (suc i) f x h e p q l =
    let k = step_at g w t steps fs triples i f x h.1 (let k : triples_in steps ≡ triples = cc in k) p q (omega (arith, l)) in
    record { step = k.step; there = k.there; is_step = k.is_step; triple_is = k.triple_is }

pub steps_counted : (g : Graph) (w : List Letter) (t : Tree) (steps : List Step) (found_steps : List found.Step) (triples : List Triple) → AreSteps g w t steps found_steps → triples_in steps ≡ triples →
    length found_steps ≡ length triples
steps_counted g w t [] [] triples h e = ap length e
steps_counted g w t [] (f ∷ fs) triples h e = absurd h
steps_counted g w t (s ∷ steps) [] triples h e = absurd h
steps_counted g w t (s ∷ steps) (f ∷ fs) [] h e = absurd (cc)
steps_counted g w t (s ∷ steps) (f ∷ fs) (x ∷ triples) h e = ap suc (steps_counted g w t steps fs triples h.1 (let k : triples_in steps ≡ triples = cc in k))

-- that of a letter of an accepted word
pub letter_step : (g : Graph) (w : List Letter) → IsGraph g → Accepts g.automaton w → (nodes : List PlainNode) (found_steps : List found.Step) (triples : List Triple) →
    ((u : Tree) → AreSteps g w u (steps_of g w u) found_steps) → (h : AreTriplesOf g w nodes triples) → (i : ℕ) (f : found.Step) (triple : Triple) →
    f ≡ get_or found_steps i f → triple ≡ get_or triples i triple → i < length triples → StepAt g w h.tree (steps_of g w h.tree) i f triple
letter_step g w ok acc nodes fs triples steps h i f triple p q l =
    step_at g w h.tree (steps_of g w h.tree) fs triples i f triple (steps h.tree) (steps_triples g w h.tree ok acc ∙ sym h.triples_are) p q l

pub letters_counted : (g : Graph) (w : List Letter) → IsGraph g → Accepts g.automaton w → (nodes : List PlainNode) (found_steps : List found.Step) (triples : List Triple) →
    ((u : Tree) → AreSteps g w u (steps_of g w u) found_steps) → AreTriplesOf g w nodes triples → length found_steps ≡ length triples
letters_counted g w ok acc nodes fs triples steps h =
    steps_counted g w h.tree (steps_of g w h.tree) fs triples (steps h.tree) (steps_triples g w h.tree ok acc ∙ sym h.triples_are)

-- they agree with their letters
pub letters_agree : (g : Graph) (w : List Letter) → IsGraph g → Accepts g.automaton w → (nodes : List PlainNode) (triples : List Triple) → AreTriplesOf g w nodes triples →
    AllByRecursion (Agrees (alphabet_of g)) triples
letters_agree g w ok acc nodes triples h = subst (AllByRecursion (Agrees (alphabet_of g))) (sym h.triples_are) (triples_agree g w h.tree ok acc)

-- ---- one of a list

all_at : {X : Type 0} (P : X → Type 0) (xs : List X) (i : ℕ) (x : X) → slice_get xs i ≡ Some x → AllByRecursion P xs → P x
all_at P [] i x e h = absurd (cc)
all_at P (y ∷ xs) zero x e h = subst P (let k : y ≡ x = cc in k) h.0
all_at P (y ∷ xs) (suc i) x e h = all_at P xs i x e h.1

pub item_at : {X : Type 0} (P : X → Type 0) (xs : List X) (i : ℕ) (x : X) → i < length xs → x ≡ get_or xs i x → AllByRecursion P xs → P x
item_at P [] i x l e h = absurd (omega (arith, l))
item_at P (y ∷ xs) zero x l e h = subst P (sym e) h.0
item_at P (y ∷ xs) (suc i) x l e h = item_at P xs i x (omega (arith, l)) e h.1

-- ---- the rows of a word

as_many : (n : ℕ) (rows : List LinearRow) (rest : Path) → length rest.row_at ≡ length rest.rows → length (repeated n (length rows) ++ rest.row_at) ≡ length (rows ++ rest.rows)
as_many n rows rest e =
    let x = length-append (repeated n (length rows)) rest.row_at in
    let y = length-append rows rest.rows in
    let z = length-repeated n (length rows) in
    omega (arith, x, y, z, e)

rows_along : (al : Alphabet) (n : ℕ) (p : PathStage) (w : List Letter) → length (path_along al n p w).row_at ≡ length (path_along al n p w).rows
rows_along al n p [] = refl
rows_along al n p (a ∷ w) =
    let rows : List LinearRow = part_rows (part_of al a p) in
    let rest : Path = path_along al (suc n) (part_of al a p).after w in
    as_many n rows rest (rows_along al (suc n) (part_of al a p).after w)

rows_counted : (g : Graph) (w : List Letter) → length (path_of g w).row_at ≡ length (root_of g w).rows
rows_counted g w =
    let frame : Columns = start_frame g in
    as_many 0 (bounds 0 (types_of frame)) (path_along (alphabet_of g) 1 (first_stage frame) w) (rows_along (alphabet_of g) 1 (first_stage frame) w) ∙
    sym (length-map (path_of g w).rows tightened)

-- ---- past

-- what is put down for a step is a proof of its triple, where the step's numbers fit
step_proved : (g : Graph) (w : List Letter) (t : Tree) → IsGraph g → IsAutomaton g.automaton → Accepts g.automaton w → RefutesRows (prefix_of t) (path_of g w).rows →
    AreCutsAt (length (stamps_of g w).columns) t → AllByRecursion (StepNumbersFit g w t) (steps_of g w t) → (i : ℕ) (s : Step) → slice_get (steps_of g w t) i ≡ Some s → (nodes : List PlainNode) →
    IsPutFor g w t s nodes → IsNoProof (alphabet_of g) s.triple nodes → ⊥
step_proved g w t ok m acc refutes cuts fit i s there nodes put no_proof =
    let fits : StepNumbersFit g w t s = all_at (StepNumbersFit g w t) (steps_of g w t) i s there fit in
    let walked : WalkedRefutes g w t s = all_at (WalkedRefutes g w t) (steps_of g w t) i s there (steps_walked g w t ok m acc refutes cuts) in
    let cut : WalkedCuts g w t s = all_at (WalkedCuts g w t) (steps_of g w t) i s there (steps_cut g w t ok m acc cuts) in
    let within : AreCutsWithin (alphabet_of g) s.triple nodes = subst (AreCutsWithin (alphabet_of g) s.triple) put.listed (cut put.tree put.put) in
    let missed : IsUnrefuted (alphabet_of g) s.triple nodes = no_proof within fits.system in
    missed.unrefuted (subst (λ (ns : List PlainNode). Refutes ns missed.system) put.listed (walked fits put.tree put.put missed.system missed.is_system))

-- the rows are refuted by the tree with these nodes
refuted_by : (g : Graph) (w : List Letter) (nodes : List PlainNode) (rows : List LinearRow) → rows ≡ (path_of g w).rows → RefutesRows nodes rows → (t : Tree) → prefix_of t ≡ nodes →
    RefutesRows (prefix_of t) (path_of g w).rows
refuted_by g w nodes rows r refutes t e = subst (λ (ns : List PlainNode). RefutesRows ns (path_of g w).rows) (sym e) (subst (RefutesRows nodes) r refutes)

-- wherever the refutation of a letter's triple stops at a group, one waits
pub letters_wait : (g : Graph) (w : List Letter) → IsGraph g → IsAutomaton g.automaton → Accepts g.automaton w → (nodes : List PlainNode) (rows : List LinearRow) → rows ≡ (path_of g w).rows →
    RefutesRows nodes rows → (t : Tree) → prefix_of t ≡ nodes → AllByRecursion (StepWaits g w t) (steps_of g w t)
letters_wait g w ok m acc nodes rows r refutes t e = steps_wait g w t ok m acc (refuted_by g w nodes rows r refutes t e)

-- what is put down for a letter along the tree that is read
pub record LetterPut (g : Graph) (w : List Letter) (t : Tree) (i : ℕ) (triple : Triple) (nodes : List PlainNode) : Type 0 where
  pub step : Step
  pub there : slice_get (steps_of g w t) i ≡ Some step
  pub triple_is : step.triple ≡ triple
  pub put : IsPutFor g w t step nodes

pub letter_put : (g : Graph) (w : List Letter) (t : Tree) (nodes given put : List PlainNode) (tree : code.Tree) (i : ℕ) (f : found.Step) (triple : Triple) (rows : ℕ) (row_at : List ℕ) →
    StepAt g w t (steps_of g w t) i f triple → IsTree (stamps_of g w).columns (positions_of g w) (root_of g w) t nodes tree → given ≡ nodes → rows ≡ length row_at → row_at ≡ (path_of g w).row_at →
    AllByRecursion (StepWaits g w t) (steps_of g w t) →
    ((g : Graph) (w : List Letter) (t : Tree) (s : Step) → IsTree (stamps_of g w).columns (positions_of g w) (root_of g w) t given tree → IsStep g w t s f → StepWaits g w t s →
    rows ≡ length (root_of g w).rows → IsPutFor g w t s put) → LetterPut g w t i triple put
letter_put g w t nodes given put tree i f triple rows row_at h is e n r wait run = record {
  step = h.step;
  there = h.there;
  triple_is = h.triple_is;
  put = run g w t h.step (subst (λ (ns : List PlainNode). IsTree (stamps_of g w).columns (positions_of g w) (root_of g w) t ns tree) (sym e) is) h.is_step
      (all_at (StepWaits g w t) (steps_of g w t) i h.step h.there wait) (n ∙ ap length r ∙ rows_counted g w);
}

-- it is one tree
pub put_whole : (g : Graph) (w : List Letter) (t : Tree) (i : ℕ) (triple : Triple) (nodes : List PlainNode) → LetterPut g w t i triple nodes → IsTrue (is_tree nodes)
put_whole g w t i triple nodes h = (is_tree_is nodes).1 (h.put.tree, h.put.listed)

-- and a proof of the letter's triple, where the numbers of the steps fit
pub put_proved : (g : Graph) (w : List Letter) → IsGraph g → IsAutomaton g.automaton → Accepts g.automaton w → (nodes : List PlainNode) (rows : List LinearRow) → rows ≡ (path_of g w).rows →
    RefutesRows nodes rows → AllByRecursion (IsCutWithin (length (stamps_of g w).columns)) nodes → (t : Tree) → prefix_of t ≡ nodes → (i : ℕ) (triple : Triple) (put : List PlainNode) →
    LetterPut g w t i triple put → IsNoProof (alphabet_of g) triple put → AllByRecursion (StepNumbersFit g w t) (steps_of g w t) → ⊥
put_proved g w ok m acc nodes rows r refutes cuts t e i triple put h no_proof fit =
    let refuted : RefutesRows (prefix_of t) (path_of g w).rows = refuted_by g w nodes rows r refutes t e in
    let at : AreCutsAt (length (stamps_of g w).columns) t = tree_cuts (length (stamps_of g w).columns) t (subst (AllByRecursion (IsCutWithin (length (stamps_of g w).columns))) (sym e) cuts) in
    step_proved g w t ok m acc refuted at fit i h.step h.there put h.put (subst (λ (x : Triple). IsNoProof (alphabet_of g) x put) (sym h.triple_is) no_proof)
