-- Lassos of a graph: a stem from place 0, and a loop that leads from the end of the stem back to it.
use Rattle.std.specs.Prelude.{◌≡◌, ◌⊎◌, ℕ, List, [], ◌++◌, unwrap_or, slice_get}
use Rattle.nwa_base.specs.Automata.{Automaton}
use Rattle.nwa_base.specs.Acceptance.{Moves}
use Rattle.letter_acts.specs.Invariant.{Graph, alphabet_of}
use Rattle.rank_lasso.specs.declared.lasso_ranks.lassos.Lasso.{Lasso}
use Rattle.rank_lasso.specs.declared.lasso_ranks.lassos.LassoFault.{LassoFault}
use Rattle.rank_lasso.specs.declared.lasso_ranks.lassos.LassoFault.TheVariants.{Syntax, BadName, BadStep, Memory}
use Rattle.rank_lasso.specs.LassoTurns.Turns.{inside_letters, AreInside, Turn, turn_of}

-- a lasso as contracts see it: the numbers of the letters of its stem and of its loop
pub record PlainLasso : Type 0 where
  pub stem : List ℕ
  pub loop : List ℕ

abbrev pub plain_lasso : Lasso → PlainLasso
plain_lasso l = record { stem = l.stem.items; loop = l.turn.items }

-- the procedure of place 0, where the program starts
abbrev pub entry_proc : Graph → ℕ
entry_proc g = unwrap_or (slice_get g.place_procs 0) 0

-- edges by the inside letters with these numbers, one after the other, lead from place q to place e
abbrev pub LeadsBy : Automaton → ℕ → List ℕ → ℕ → Type 0
LeadsBy m q ns e = Moves m [] q (inside_letters ns) [] e

-- these letters are inside letters of the procedure of place 0
abbrev pub AreOfEntry : Graph → List ℕ → Type 0
AreOfEntry g ns = AreInside (alphabet_of g) (entry_proc g) ns

-- the letters are inside letters of the procedure of place 0; the stem leads from place 0 to some place, and the loop from there to there
pub record IsLassoOf (g : Graph) (l : PlainLasso) : Type 0 where
  pub stem : AreOfEntry g l.stem
  pub loop : AreOfEntry g l.loop
  pub place : ℕ
  pub enters : LeadsBy g.automaton 0 l.stem place
  pub returns : LeadsBy g.automaton place l.loop place

-- the turn of its loop
abbrev pub loop_turn : Graph → PlainLasso → Turn
loop_turn g l = turn_of (alphabet_of g) (entry_proc g) l.loop

-- the turn of its stem and, behind it, one turn of its loop
abbrev pub whole_turn : Graph → PlainLasso → Turn
whole_turn g l = turn_of (alphabet_of g) (entry_proc g) (l.stem ++ l.loop)

-- ---- what is none: the stem stands in line 2 of a lasso's text, the loop in line 3

-- the first line with a letter that is no inside letter of the procedure of place 0
abbrev pub IsBadNameAt : Graph → PlainLasso → ℕ → Type 0
IsBadNameAt g l line =
    ((line ≡ 2) × (AreOfEntry g l.stem → ⊥)) ⊎ ((line ≡ 3) × AreOfEntry g l.stem × (AreOfEntry g l.loop → ⊥))

-- no way from place 0 has the letters of the stem
abbrev pub HasNoStem : Graph → PlainLasso → Type 0
HasNoStem g l = (place : ℕ) → LeadsBy g.automaton 0 l.stem place → ⊥

-- one has, and from no place to which one leads do the letters of the loop lead back to it
abbrev pub HasNoLoop : Graph → PlainLasso → Type 0
HasNoLoop g l =
    ((place : ℕ) × LeadsBy g.automaton 0 l.stem place) ×
    ((place : ℕ) → LeadsBy g.automaton 0 l.stem place → LeadsBy g.automaton place l.loop place → ⊥)

-- all letters are such, and the line says which of the two has no way
abbrev pub IsBadStepAt : Graph → PlainLasso → ℕ → Type 0
IsBadStepAt g l line =
    AreOfEntry g l.stem × AreOfEntry g l.loop × (((line ≡ 2) × HasNoStem g l) ⊎ ((line ≡ 3) × HasNoLoop g l))

-- why letters, whatever they are, make no lasso of the graph
abbrev pub IsNoLassoBy : Graph → PlainLasso → LassoFault → Type 0
IsNoLassoBy g l (Syntax line) = ⊥
IsNoLassoBy g l (BadName line) = IsBadNameAt g l line
IsNoLassoBy g l (BadStep line) = IsBadStepAt g l line
IsNoLassoBy g l Memory = Unit {0}
