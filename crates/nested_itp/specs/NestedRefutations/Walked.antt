-- A tree that is put down along the word's tree for a triple, as its refutation goes there, and what it means that the tree refutes.
use Rattle.std.specs.Prelude.{◌≡◌, ℕ, ◌+◌, ℤ, pos, Bool, true, false, not, List, [], ◌∷◌, ◌++◌, filter, length, Option, None, Some, slice_get, if◌then◌else◌}
use Rattle.lin_rows.specs.declared.systems.System.{System}
use Rattle.farkas_check.specs.Nodes.{PlainNode}
use Rattle.farkas_check.specs.Refutes.{Refutes}
use Rattle.farkas_check.specs.Trees.{Tree, Trees, leaf_tree, cut_tree, cases_tree, no_tree, one_more, prefix_of, prefixes_of}
use Rattle.nwa_base.specs.declared.letters.Letter.{Letter}
use Rattle.letter_acts.specs.Frames.{globals_of, constants_of, variables_of, result_columns, olds_of}
use Rattle.letter_acts.specs.Acts.{PlainAct, inside_act, call_act, back_act, Alphabet, frame_of}
use Rattle.letter_acts.specs.Reading.{taken, is_listed}
use Rattle.letter_acts.specs.Invariant.{Graph, alphabet_of}
use Rattle.triple_rows.specs.declared.triples.Triple.{Triple}
use Rattle.triple_rows.specs.declared.triples.Triple.TheVariants.{Inside, Call, Back}
use Rattle.triple_rows.specs.Systems.{IsSystem}
use Rattle.triple_rows.specs.Triples.{system_of}
use Rattle.nested_itp.specs.NestedPredicates.Sums.{root_of}
use Rattle.nested_itp.specs.NestedPredicates.Simplifying.{is_same}
use Rattle.nested_itp.specs.NestedRefutations.Refutations.{Claim, TreeSpot, truth_in, formula_at, exposed, View, Gathered, Stop, at_leaf, at_cut, at_group, nowhere, stops, stops_at, with_own, opened, leaf_of}
use Rattle.nested_itp.specs.NestedRefutations.Numbers.{Step, StepNumbersFit, begins}

-- ---- a tree that is put down

-- at a leaf: its parts
abbrev pub IsLeafOf : View → Gathered → Stop → List (ℕ × ℤ) → Type 0
IsLeafOf v g (at_leaf n b parts) found = found ≡ (leaf_of v g n b parts).parts
IsLeafOf v g (at_cut r col k low high) found = ⊥
IsLeafOf v g (at_group s) found = ⊥
IsLeafOf v g nowhere found = ⊥

-- at an own cut: a cut at the same number, of which each side is put down from that side on
abbrev pub IsCutOf : View → Gathered → Stop → ℕ → ℤ → (Gathered → Stop → Type 0) → (Gathered → Stop → Type 0) → Type 0
IsCutOf v g (at_leaf n b parts) c j first second = ⊥
IsCutOf v g (at_cut r col k low high) c j first second =
    (c ≡ v.column col) × (j ≡ k) ×
    first (with_own v r col k false g) (stops_at v g.taken low) × second (with_own v r col k true g) (stops_at v g.taken high)
IsCutOf v g (at_group s) c j first second = ⊥
IsCutOf v g nowhere c j first second = ⊥

-- from a node on, after each of two members that are taken
abbrev pub AfterMembers : View → TreeSpot → Option Gathered → Option Gathered → (List (Gathered × Stop) → Type 0) → Type 0
AfterMembers v s None second cases = ⊥
AfterMembers v s (Some g) None cases = ⊥
AfterMembers v s (Some g) (Some h) cases = cases ((g, stops_at v g.taken s) ∷ (h, stops_at v h.taken s) ∷ [])

-- at a group: the group that waits first is opened, and a case for each of its members is put down from the node on
abbrev pub AreCasesOf : View → Gathered → Stop → (List (Gathered × Stop) → Type 0) → Type 0
AreCasesOf v g (at_leaf n b parts) cases = ⊥
AreCasesOf v g (at_cut r col k low high) cases = ⊥
AreCasesOf v g (at_group s) cases = AfterMembers v s (opened v false g g.groups) (opened v true g g.groups) cases
AreCasesOf v g nowhere cases = ⊥

-- The tree is what is put down from where the refutation stops.
abbrev mutual
  pub IsWalked : View → Tree → Gathered → Stop → Type 0
  IsWalked v (leaf_tree parts) g stop = IsLeafOf v g stop parts
  IsWalked v (cut_tree c k t u) g stop = IsCutOf v g stop c k (IsWalked v t) (IsWalked v u)
  IsWalked v (cases_tree ts) g stop = AreCasesOf v g stop (AreWalked v ts)

  pub AreWalked : View → Trees → List (Gathered × Stop) → Type 0
  AreWalked v no_tree [] = Unit {0}
  AreWalked v no_tree (p ∷ ps) = ⊥
  AreWalked v (one_more t ts) [] = ⊥
  AreWalked v (one_more t ts) (p ∷ ps) = IsWalked v t p.0 p.1 × AreWalked v ts ps

-- ---- one node after another

-- the nodes are those of a tree that is put down from there on
pub record AreWalkedFrom (v : View) (g : Gathered) (stop : Stop) (nodes : List PlainNode) : Type 0 where
  pub tree : Tree
  pub walked : IsWalked v tree g stop
  pub listed : prefix_of tree ≡ nodes

-- Whatever trees are put down from where it still has to go on: the nodes so far, and then theirs, are those of a tree that is put
-- down from the start on.
abbrev pub ComesTo : View → Gathered → Stop → List PlainNode → List (Gathered × Stop) → Type 0
ComesTo v g stop nodes left = (ts : Trees) → AreWalked v ts left → AreWalkedFrom v g stop (nodes ++ prefixes_of ts)

-- ---- where a claim is false

-- how many rows of the system of an inside triple, whose letter has this act, stand before those of each claim, from those of the
-- claim before on
abbrev pub inside_gaps : Option PlainAct → List ℕ
inside_gaps None = []
inside_gaps (Some (inside_act q written helpers rows)) = 0 ∷ length rows ∷ []
inside_gaps (Some (call_act caller callee helpers rows)) = []
inside_gaps (Some (back_act c targets)) = []

-- of a call triple
abbrev pub call_gaps : Alphabet → Option PlainAct → List ℕ
call_gaps al None = []
call_gaps al (Some (inside_act q written helpers rows)) = []
call_gaps al (Some (call_act caller callee helpers rows)) =
    0 ∷ (length (globals_of (frame_of al callee)) + length (olds_of (frame_of al callee)) + length rows) ∷ []
call_gaps al (Some (back_act c targets)) = []

-- of a return triple with these targets, from a call with this act
abbrev pub return_gaps : Alphabet → List ℕ → Option PlainAct → List ℕ
return_gaps al targets None = []
return_gaps al targets (Some (inside_act q written helpers rows)) = []
return_gaps al targets (Some (call_act caller callee helpers rows)) =
    let kept = filter (λ c. not (is_listed targets c)) (variables_of (frame_of al caller)) in
    let results = taken targets (result_columns (frame_of al callee)) in
    0 ∷ 0 ∷ (length (constants_of (frame_of al callee)) + length (olds_of (frame_of al callee)) + length rows + length kept + length results) ∷ []
return_gaps al targets (Some (back_act c more)) = []

abbrev pub back_gaps : Alphabet → Option PlainAct → List ℕ
back_gaps al None = []
back_gaps al (Some (inside_act q written helpers rows)) = []
back_gaps al (Some (call_act caller callee helpers rows)) = []
back_gaps al (Some (back_act c targets)) = return_gaps al targets (slice_get al.acts c)

abbrev pub gaps_of : Alphabet → Triple → List ℕ
gaps_of al (Inside from letter to) = inside_gaps (slice_get al.acts letter)
gaps_of al (Call from letter to) = call_gaps al (slice_get al.acts letter)
gaps_of al (Back exit before letter to) = back_gaps al (slice_get al.acts letter)

-- the claim's predicate is left as this truth value
abbrev pub is_truth : Option Bool → Bool → Bool
is_truth None b = false
is_truth (Some v) b = is_same v b

-- The number of the row `0 <= -1` of the first claim that is false, where so many rows stand before the first, and these between
-- them. A claim before it has a row for each of its atoms.
abbrev pub false_row : Graph → List Letter → Tree → View → ℕ → List ℕ → List Claim → Option ℕ
false_row g w t v k [] cs = None
false_row g w t v k (n ∷ gaps) [] = None
false_row g w t v k (n ∷ gaps) (c ∷ cs) =
    if is_truth (truth_in (formula_at v.columns c (root_of g w) t)) c.is_denied then Some (k + n)
    else false_row g w t v (k + n + length (exposed v.columns c 0 (root_of g w) t).leaves) gaps cs

-- ---- what is put down

-- one leaf that takes this row, if there is one
abbrev pub TakesOr : Option ℕ → Tree → Type 0 → Type 0
TakesOr None found walked = walked
TakesOr (Some k) found walked = found ≡ leaf_tree ((k, pos 1) ∷ [])

-- The tree is put down for the step's triple: where a claim is false it takes the row `0 <= -1` of the first, else it is put down
-- from the root on.
abbrev pub IsPutDown : Graph → List Letter → Tree → Step → Tree → Type 0
IsPutDown g w t s found =
    TakesOr (false_row g w t s.view 0 (gaps_of (alphabet_of g) s.triple) s.view.claims) found
    (IsWalked s.view found (begins g w t s) (stops s.view [] 0 (root_of g w) t))

-- it refutes each system that has the rows and groups of the triple's
abbrev pub RefutesTriple : Graph → Step → Tree → Type 0
RefutesTriple g s found = (system : System) → IsSystem (system_of (alphabet_of g) s.triple) system → Refutes (prefix_of found) system

-- Where the numbers of the step fit, a tree that is put down for its triple refutes the triple's system.
abbrev pub WalkedRefutes : Graph → List Letter → Tree → Step → Type 0
WalkedRefutes g w t s = StepNumbersFit g w t s → (found : Tree) → IsPutDown g w t s found → RefutesTriple g s found
