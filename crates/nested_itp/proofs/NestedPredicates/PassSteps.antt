-- The passes over a word that sum a leaf, step by step.
use Rattle.std.proofs.Common.{◌≡◌, ◌∙◌, ℕ, ◌+◌, ◌*◌, ◌<◌, ℤ, pos, ◌-ℤ◌, Bool, List, [], ◌∷◌, ◌++◌, length, drop, get_or, reverse, refl, sym, ap, subst}
use Rattle.std.specs.Prelude.{slice_get, Some}
use Rattle.std.specs.Global.{Vec}
use Rattle.std.specs.List.{AllByRecursion}
use Rattle.lin_rows.specs.Combinations.{IsPart}
use Rattle.nwa_base.specs.declared.letters.Letter.{Letter}
use Rattle.letter_acts.specs.Acts.{act_of, frame_of}
use Rattle.letter_acts.specs.Invariant.{Graph, alphabet_of}
use Rattle.path_rows.specs.Paths.{path_of}
use Rattle.triple_rows.specs.declared.predicates.PredNode.{PredNode}
use Rattle.nested_itp.specs.declared.nested_predicates.running.Running.{Running}
use Rattle.nested_itp.specs.declared.nested_predicates.bases.Base.{Base}
use Rattle.nested_itp.specs.declared.nested_predicates.passes.Pass.{Pass}
use Rattle.nested_itp.specs.NestedPredicates.Wides.{value_of}
use Rattle.nested_itp.specs.NestedPredicates.Positions.{positions_of, has_return, known_columns, callee_of}
use Rattle.nested_itp.specs.NestedPredicates.Sums.{Branch, inequality, terms_from}
use Rattle.nested_itp.specs.NestedPredicates.Runnings.{value_at, AreCounted, AddsParts, differences, parts_at}
use Rattle.nested_itp.specs.NestedPredicates.Bases.{AreMade, CanRead, IsNothing, Enters, first_columns, first_bound, node_of}
use Rattle.nested_itp.specs.NestedPredicates.Fitting.{SumNumbersFit}
use Rattle.nested_itp.specs.NestedPredicates.Layouts.{HasStamps}
use Rattle.nested_itp.proofs.NestedPredicates.LeafLaws.{AllMade, SumsRead, IsPast, summed_first, sums_start, sums_next, past_start, past_next, made_at, made_wider}

-- the node of the sum over a frame with these versions
abbrev pub node_over : Running → List Base → List ℕ → PredNode
node_over running frames here =
    node_of (inequality (terms_from 0 (differences running.columns.items (first_columns (reverse frames)) here)) (value_of running.bound -ℤ first_bound (reverse frames)))

-- nothing is summed yet
pub record IsFresh (g : Graph) (w : List Letter) (p : Pass) : Type 0 where
  pub made : AllMade p.running.columns.items (path_of g w).states
  pub columns : (v : ℕ) → value_at p.running.columns.items v ≡ pos 0
  pub bound : value_of p.running.bound ≡ pos 0
  pub counted : AreCounted p.running
  pub frames : (x : Base) × IsNothing x × (p.frames.items ≡ x ∷ [])
  pub sums : p.sums.items ≡ []

pub sums_begun : (g : Graph) (w : List Letter) (b : Branch) (parts : List (ℕ × ℤ)) (old new : Pass) (here : List ℕ) → HasStamps b → AllByRecursion (IsPart b.rows) parts → IsFresh g w old →
    slice_get (path_of g w).states 0 ≡ Some here → new.running ≡ old.running → new.frames ≡ old.frames →
    new.sums.items ≡ old.sums.items ++ node_over old.running old.frames.items here ∷ [] → SumsRead g w 0 b parts new.running new.frames.items new.sums.items
sums_begun g w b parts old new here stamps each fresh k er ef s =
    let node : PredNode = node_over old.running old.frames.items here in
    subst (λ (r : Running). SumsRead g w 0 b parts r new.frames.items new.sums.items) (sym er)
    (subst (λ (f : Vec Base). SumsRead g w 0 b parts old.running f.items new.sums.items) (sym ef)
    (sums_start g w b parts old.running old.frames.items fresh.frames.0 new.sums.items node here stamps each
    (summed_first b parts old.running stamps each fresh.columns fresh.bound fresh.counted) fresh.made fresh.frames.1 fresh.frames.2 k
    (made_at old.running.columns.items (path_of g w).states 0 here k fresh.made) refl (s ∙ ap (λ (l : List PredNode). l ++ node ∷ []) fresh.sums)))

pub past_begun : (g : Graph) (w : List Letter) (b : Branch) (parts : List (ℕ × ℤ)) (old : Pass) (here : List ℕ) → HasStamps b → AllByRecursion (IsPart b.rows) parts → IsFresh g w old →
    slice_get (path_of g w).states 0 ≡ Some here → IsPast old.running old.frames.items here → AllByRecursion (SumNumbersFit b parts) (positions_of g w) → ⊥
past_begun g w b parts old here stamps each fresh k past =
    past_start g w b parts old.running old.frames.items fresh.frames.0 here stamps each
    (summed_first b parts old.running stamps each fresh.columns fresh.bound fresh.counted) fresh.frames.1 fresh.frames.2 k
    (made_at old.running.columns.items (path_of g w).states 0 here k fresh.made) past

-- letter i leads from one pass to the next, which has come to a position with these versions
pub record StepsBy (g : Graph) (w : List Letter) (i : ℕ) (a : Letter) (b : Branch) (parts ps qs : List (ℕ × ℤ)) (old mid new : Pass) (returns : Bool) (before entry : List ℕ) : Type 0 where
  pub within : i < length w
  pub at_before : slice_get (path_of g w).states i ≡ Some before
  pub at_entry : slice_get (path_of g w).states (i + 1) ≡ Some entry
  pub returning : returns ≡ has_return 0 (drop (i + 1) w)
  pub at_call : ps ≡ parts_at b.stamps (2 * (i + 1)) parts
  pub adds : AddsParts b.rows ps old.running mid.running
  pub behind : qs ≡ parts_at b.stamps (2 * (i + 1) + 1) parts
  pub adds_more : AddsParts b.rows qs mid.running new.running
  pub enters : Enters a.kind returns (known_columns (frame_of (alphabet_of g) (callee_of (act_of (alphabet_of g) a))) entry before) mid.running (reverse old.frames.items) (reverse mid.frames.items)

pub sums_gone_on : (g : Graph) (w : List Letter) (i : ℕ) (a d : Letter) (b : Branch) (parts ps qs : List (ℕ × ℤ)) (old mid new : Pass) (returns : Bool) (before entry : List ℕ) →
    HasStamps b → AllByRecursion (IsPart b.rows) parts → a ≡ get_or w i d → SumsRead g w i b parts old.running old.frames.items old.sums.items →
    StepsBy g w i a b parts ps qs old mid new returns before entry → AllByRecursion CanRead mid.frames.items → mid.sums ≡ old.sums → new.frames ≡ mid.frames →
    new.sums.items ≡ mid.sums.items ++ node_over new.running mid.frames.items entry ∷ [] → SumsRead g w (i + 1) b parts new.running new.frames.items new.sums.items
sums_gone_on g w i a d b parts ps qs old mid new returns before entry stamps each e h s rooms es ef n =
    let states : List (List ℕ) = (path_of g w).states in
    let node : PredNode = node_over new.running mid.frames.items entry in
    let mb : AreMade mid.running.columns.items before =
    made_wider old.running.columns.items mid.running.columns.items before s.adds.width (made_at old.running.columns.items states i before s.at_before h.made) in
    let me : AreMade mid.running.columns.items entry =
    made_wider old.running.columns.items mid.running.columns.items entry s.adds.width (made_at old.running.columns.items states (i + 1) entry s.at_entry h.made) in
    subst (λ (f : Vec Base). SumsRead g w (i + 1) b parts new.running f.items new.sums.items) (sym ef)
    (sums_next g w i a d b parts ps qs old.running mid.running new.running old.frames.items mid.frames.items old.sums.items new.sums.items node returns before entry stamps each s.within e
    s.at_before s.at_entry mb me (made_wider mid.running.columns.items new.running.columns.items entry s.adds_more.width me) s.returning h s.at_call s.adds s.behind s.adds_more s.enters rooms refl
    (n ∙ ap (λ (v : Vec PredNode). v.items ++ node ∷ []) es))

pub past_gone_on : (g : Graph) (w : List Letter) (i : ℕ) (a d : Letter) (b : Branch) (parts ps qs : List (ℕ × ℤ)) (old mid new : Pass) (returns : Bool) (before entry : List ℕ) →
    HasStamps b → AllByRecursion (IsPart b.rows) parts → a ≡ get_or w i d → SumsRead g w i b parts old.running old.frames.items old.sums.items →
    StepsBy g w i a b parts ps qs old mid new returns before entry → IsPast new.running mid.frames.items entry → AllByRecursion (SumNumbersFit b parts) (positions_of g w) → ⊥
past_gone_on g w i a d b parts ps qs old mid new returns before entry stamps each e h s past =
    let states : List (List ℕ) = (path_of g w).states in
    let mb : AreMade mid.running.columns.items before =
    made_wider old.running.columns.items mid.running.columns.items before s.adds.width (made_at old.running.columns.items states i before s.at_before h.made) in
    let me : AreMade mid.running.columns.items entry =
    made_wider old.running.columns.items mid.running.columns.items entry s.adds.width (made_at old.running.columns.items states (i + 1) entry s.at_entry h.made) in
    past_next g w i a d b parts ps qs old.running mid.running new.running old.frames.items mid.frames.items old.sums.items returns before entry stamps each s.within e
    s.at_before s.at_entry mb me (made_wider mid.running.columns.items new.running.columns.items entry s.adds_more.width me) s.returning h s.at_call s.adds s.behind s.adds_more s.enters past
