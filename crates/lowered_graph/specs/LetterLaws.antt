-- What holds of letters by first occurrence.
use Rattle.std.specs.Prelude.{◌≡◌, ◌↔◌, ℕ, IsTrue, List, ◌++◌, Some, slice_get}
use Rattle.nwa_base.specs.declared.letters.Letter.{Letter}
use Rattle.nwa_base.specs.Members.{Member}
use Rattle.letter_acts.specs.Acts.{back_act, letter_of}
use Rattle.letter_acts.specs.Invariant.{AreDistinct}
use Rattle.letter_acts.specs.LetterTable.Letters.{MarkedAct, exact_act, Arc, inside_arc, call_arc, same_marked, Lettered, with_arcs, lettered}

-- The test of two acts with their marks passes exactly where they are one.
abbrev pub SameActDecides : Type 0
SameActDecides = (a b : MarkedAct) → IsTrue (same_marked a b) ↔ (a ≡ b)

-- Further arcs only append acts.
abbrev pub ActsAreAppended : Type 0
ActsAreAppended = (d : Lettered) (arcs : List Arc) → (more : List MarkedAct) × ((with_arcs d arcs).acts ≡ d.acts ++ more)

-- No act with its mark has two letters.
abbrev pub ActsDiffer : Type 0
ActsDiffer = (arcs : List Arc) → AreDistinct (lettered arcs).acts

-- the letter of an act of the list
abbrev pub IsLetterOf : List MarkedAct → MarkedAct → Letter → Type 0
IsLetterOf acts a x = (slice_get acts x.id ≡ Some a) × (x ≡ letter_of x.id a.act)

-- an inside arc leads from q to e by the act of this letter
pub record InsideOf (arcs : List Arc) (acts : List MarkedAct) (q : ℕ) (x : Letter) (e : ℕ) : Type 0 where
  pub act : MarkedAct
  pub arc : Member arcs (inside_arc q act e)
  pub letter : IsLetterOf acts act x

-- a call does so
pub record CallOf (arcs : List Arc) (acts : List MarkedAct) (q : ℕ) (x : Letter) (e : ℕ) : Type 0 where
  pub act : MarkedAct
  pub from : ℕ
  pub targets : List ℕ
  pub behind : ℕ
  pub arc : Member arcs (call_arc q act e from targets behind)
  pub letter : IsLetterOf acts act x

-- the return of a call from q leads from f to e, by the letter whose act names the letter of the call
pub record BackOf (arcs : List Arc) (acts : List MarkedAct) (f q : ℕ) (x : Letter) (e : ℕ) : Type 0 where
  pub act : MarkedAct
  pub to : ℕ
  pub targets : List ℕ
  pub call : ℕ
  pub arc : Member arcs (call_arc q act to f targets e)
  pub called : slice_get acts call ≡ Some act
  pub letter : IsLetterOf acts (exact_act (back_act call targets)) x

-- The edges by letters are exactly those of the arcs, each by the letter of its act.
abbrev pub InsidesAreArcs : Type 0
InsidesAreArcs = (arcs : List Arc) (q e : ℕ) (x : Letter) → Member (lettered arcs).insides (q, x, e) ↔ InsideOf arcs (lettered arcs).acts q x e

abbrev pub CallsAreArcs : Type 0
CallsAreArcs = (arcs : List Arc) (q e : ℕ) (x : Letter) → Member (lettered arcs).calls (q, x, e) ↔ CallOf arcs (lettered arcs).acts q x e

abbrev pub BacksAreArcs : Type 0
BacksAreArcs = (arcs : List Arc) (f q e : ℕ) (x : Letter) → Member (lettered arcs).backs (f, q, x, e) ↔ BackOf arcs (lettered arcs).acts f q x e
