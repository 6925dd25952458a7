-- The steps of a word's letters: what the system of each letter's triple says of which predicates, what its rows are, and where
-- the word's columns stand in it.
use Rattle.std.specs.Prelude.{◌≡◌, ℕ, ◌^◌, ◌<◌, true, false, List, [], ◌∷◌, ◌++◌, map, length, Some, slice_get}
use Rattle.nwa_base.specs.declared.letters.Letter.{Letter}
use Rattle.letter_acts.specs.Invariant.{Graph, alphabet_of}
use Rattle.letter_acts.specs.FrameRows.Rows.{columns_from}
use Rattle.farkas_check.specs.Trees.{Tree}
use Rattle.nested_itp.specs.NestedPredicates.Stamps.{stamps_of}
use Rattle.nested_itp.specs.NestedPredicates.Positions.{positions_of}
use Rattle.nested_itp.specs.NestedRefutations.Numbers.{Step, column_in}
use Rattle.nested_itp.specs.NestedRefutations.Walked.{gaps_of}
use Rattle.nested_itp.specs.declared.triple_steps.columns.Columns.{Columns}
use Rattle.nested_itp.specs.declared.triple_steps.making.Step as found
use Rattle.nested_itp.specs.TripleSteps.Sections.{roles_in, gaps_in, claims_in}

-- the column in the system of a column of the word
abbrev pub column_place : Columns → ℕ → ℕ
column_place columns c = column_in columns.at columns.first columns.made.items c

-- each of so many columns of the word has a column in the system, whose number fits
abbrev pub FitColumns : ℕ → Columns → Type 0
FitColumns count columns = (c : ℕ) → c < count → column_place columns c < 2 ^ 32

-- The step is that of the definition: the same claims, at positions of the word by number, the target last; the same rows, those of
-- the claims in order; and the same columns.
pub record IsStep (g : Graph) (w : List Letter) (t : Tree) (s : Step) (f : found.Step) : Type 0 where
  pub positions : map (λ c. Some c.position) s.view.claims ≡ map (slice_get (positions_of g w)) (f.sources.items ++ f.target ∷ [])
  pub denied : map (λ c. c.is_denied) s.view.claims ≡ map (λ p. false) f.sources.items ++ true ∷ []
  pub stamps : s.view.columns ≡ (stamps_of g w).columns
  pub returns : s.view.returns ≡ f.returns
  pub roles : s.roles ≡ roles_in g w t s.view f.sections.items
  pub order : claims_in f.sections.items ≡ columns_from 0 (length s.view.claims)
  pub gaps : gaps_in 0 f.sections.items ≡ gaps_of (alphabet_of g) s.triple
  pub column : (c : ℕ) → s.view.column c ≡ column_place f.columns c

-- one after the other
abbrev pub AreSteps : Graph → List Letter → Tree → List Step → List found.Step → Type 0
AreSteps g w t [] [] = Unit {0}
AreSteps g w t [] (f ∷ fs) = ⊥
AreSteps g w t (s ∷ ss) [] = ⊥
AreSteps g w t (s ∷ ss) (f ∷ fs) = IsStep g w t s f × AreSteps g w t ss fs
