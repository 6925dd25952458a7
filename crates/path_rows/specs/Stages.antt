-- What is known where a path has come to: the versions of frames are made, and differ.
use Rattle.std.specs.Prelude.{◌≡◌, ◌⊎◌, ℕ, ◌+◌, ◌<◌, ◌≤◌, ◌^◌, List, [], ◌∷◌, ◌++◌, length, slice_index, Option, None, Some}
use Rattle.std.specs.List.{AllByRecursion}
use Rattle.lin_rows.specs.Rows.{LinearRow}
use Rattle.nwa_base.specs.declared.letters.Letter.{Letter}
use Rattle.nwa_base.specs.Acceptance.{Follows}
use Rattle.letter_acts.specs.Frames.{Columns, globals_of, variables_of, result_columns}
use Rattle.letter_acts.specs.Acts.{PlainAct, inside_act, call_act, back_act, Alphabet, frame_of}
use Rattle.letter_acts.specs.Invariant.{Graph, alphabet_of, IsPlaceOf, AreDistinct}
use Rattle.path_rows.specs.Versions.{PathStage, entered_versions, returned, local_columns, old_part}
use Rattle.letter_acts.specs.FrameRows.Rows.{columns_from, RowsAreNamed}

-- a version for each column of the frame: they are made, and no two are equal
pub record AreVersions (made : ℕ) (frame : Columns) (here : List ℕ) : Type 0 where
  pub long : length here ≡ length frame
  pub below : AllByRecursion (λ c. c < made) here
  pub differ : AreDistinct here

-- the versions of the frame of the procedure that a place belongs to
pub record VersionsAt (g : Graph) (q : ℕ) (made : ℕ) (here : List ℕ) : Type 0 where
  pub proc : ℕ
  pub place : IsPlaceOf g.place_procs proc q
  pub exists : proc < length g.frames
  pub versions : AreVersions made (frame_of (alphabet_of g) proc) here

-- each version was made after the first so many, or is that of the same constant or global before the call
abbrev pub AreApart : ℕ → ℕ → List ℕ → List ℕ → Type 0
AreApart made globals here before =
    (j : ℕ) → j < length here → (made ≤ slice_index here j) ⊎ ((j < globals) × (slice_index here j ≡ slice_index before j))

-- the versions before the open calls, innermost first, with the places there: each frame's own, and apart from those of its callee
abbrev pub AreSaved : Graph → ℕ → List ℕ → List (List ℕ) → List ℕ → Type 0
AreSaved g made [] [] here = Unit {0}
AreSaved g made [] (v ∷ saved) here = ⊥
AreSaved g made (p ∷ places) [] here = ⊥
AreSaved g made (p ∷ places) (v ∷ saved) here =
    (m : ℕ) × (m ≤ made) × (s : VersionsAt g p m v) × AreApart m (length (globals_of (frame_of (alphabet_of g) s.proc))) here v × AreSaved g m places saved v

-- the path has come to a place of the automaton, with these places before the open calls
pub record ComesTo (g : Graph) (places : List ℕ) (q : ℕ) (p : PathStage) : Type 0 where
  pub here : VersionsAt g q p.made p.here
  pub saved : AreSaved g p.made places p.saved p.here

-- the automaton goes on by the letter from where the path has come to
pub record GoesOnBy (g : Graph) (a : Letter) (p : PathStage) : Type 0 where
  pub places : List ℕ
  pub from : ℕ
  pub to : ℕ
  pub comes : ComesTo g places from p
  pub follows : Follows g.automaton a.kind a places from to (λ rest. Unit {0})

-- ---- what the functions of letters ask

-- an inside letter may be read where the path has made so many columns and the frame has these versions
pub record InsideFits (written : List ℕ) (helpers : ℕ) (rows : List LinearRow) (made : ℕ) (here : List ℕ) : Type 0 where
  pub within : AllByRecursion (λ c. c < length here) written
  pub counted : length written + helpers ≤ 2 ^ 32
  pub named : RowsAreNamed (here ++ columns_from made (length written + helpers)) rows

-- the same of a call
pub record CallFits (callee : Columns) (helpers : ℕ) (rows : List LinearRow) (made : ℕ) (here : List ℕ) : Type 0 where
  pub globals : length (globals_of callee) ≤ length here
  pub variables : AllByRecursion (λ c. c < length here) (variables_of callee)
  pub variable_count : length (variables_of callee) ≡ length (old_part callee)
  pub counted : length callee + helpers ≤ 2 ^ 32
  pub part_count : length (local_columns callee) + length (old_part callee) ≤ length callee
  pub named : RowsAreNamed
      (here ++ (entered_versions callee made (made + length (local_columns callee) + helpers) here ++ columns_from (made + length (local_columns callee)) helpers)) rows

-- the same of a return
pub record BackFits (caller callee : Columns) (targets exit before : List ℕ) : Type 0 where
  pub caller_count : length caller ≤ 2 ^ 32
  pub callee_count : length callee ≤ 2 ^ 32
  pub in_exit : length (globals_of caller) ≤ length exit
  pub in_before : length (globals_of caller) ≤ length before
  pub results_in : AllByRecursion (λ c. c < length exit) (result_columns callee)
  pub targets_in : AllByRecursion (λ c. c < length before) targets

-- of a return with these targets, whose call has this act
abbrev pub BackFitsFrom : Alphabet → List ℕ → Option PlainAct → List ℕ → List ℕ → Type 0
BackFitsFrom al targets None exit before = ⊥
BackFitsFrom al targets (Some (inside_act q written helpers rows)) exit before = ⊥
BackFitsFrom al targets (Some (call_act caller callee helpers rows)) exit before =
    (caller < length al.frames) × (callee < length al.frames) × BackFits (frame_of al caller) (frame_of al callee) targets exit before
BackFitsFrom al targets (Some (back_act c more)) exit before = ⊥

-- and the versions after it
abbrev pub returned_from : Alphabet → List ℕ → Option PlainAct → List ℕ → List ℕ → List ℕ
returned_from al targets None exit before = exit
returned_from al targets (Some (inside_act q written helpers rows)) exit before = exit
returned_from al targets (Some (call_act caller callee helpers rows)) exit before = returned (frame_of al caller) (frame_of al callee) targets exit before
returned_from al targets (Some (back_act c more)) exit before = exit

-- the versions before the innermost call, of which there is one, fit
abbrev pub FitsBefore : Alphabet → List ℕ → Option PlainAct → List ℕ → List (List ℕ) → Type 0
FitsBefore al targets o exit [] = ⊥
FitsBefore al targets o exit (before ∷ saved) = BackFitsFrom al targets o exit before

abbrev pub BackReady : Alphabet → List ℕ → Option PlainAct → PathStage → Type 0
BackReady al targets o p = FitsBefore al targets o p.here p.saved
