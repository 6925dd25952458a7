-- What a whole point says of a word: a state of the frame at each position, and helpers for each letter.
use Rattle.std.specs.Prelude.{◌≡◌, ℕ, ◌+◌, ℤ, List, [], ◌∷◌, map, length, Option, None, Some, slice_get}
use Rattle.std.specs.List.{AllByRecursion}
use Rattle.lin_rows.specs.Rows.{LinearRow, Holds}
use Rattle.nwa_base.specs.declared.letters.Letter.{Letter}
use Rattle.letter_acts.specs.Frames.{Columns, IsState}
use Rattle.letter_acts.specs.Acts.{PlainAct, inside_act, call_act, back_act, Alphabet, frame_of, act_of}
use Rattle.letter_acts.specs.Meaning.{Situation, InsideLeads, CallLeads, BackLeads}
use Rattle.letter_acts.specs.Feasible.{Obeys}
use Rattle.letter_acts.specs.Invariant.{Graph, alphabet_of}
use Rattle.path_rows.specs.Versions.{PathStage, local_columns, inside_part, call_part, back_part, part_of}
use Rattle.letter_acts.specs.FrameRows.Rows.{columns_from}
use Rattle.path_rows.specs.Paths.{start_frame, first_stage, path_of}

-- the values that the point has at these columns
abbrev pub read : (ℕ → ℤ) → List ℕ → List ℤ
read point columns = map point columns

-- an inside act leads from the state that the point has to the next, with the values and helpers that the point has at the
-- columns that the letter makes
pub record InsideObeyed (point : ℕ → ℤ) (frame : Columns) (written : List ℕ) (helpers : ℕ) (rows : List LinearRow) (p : PathStage) : Type 0 where
  pub leads : InsideLeads frame written helpers rows (read point p.here) (read point (inside_part frame written helpers rows p).after.here)
  pub news : leads.news ≡ read point (columns_from p.made (length written))
  pub helped : leads.rows_hold.helpers ≡ read point (columns_from (p.made + length written) helpers)

-- a call leads from the state that the point has in the caller to that in the callee, with the point's helpers
pub record CallObeyed (point : ℕ → ℤ) (caller callee : Columns) (helpers : ℕ) (rows : List LinearRow) (p : PathStage) : Type 0 where
  pub leads : CallLeads caller callee helpers rows (read point p.here) (read point (call_part callee helpers rows p).after.here)
  pub helped : leads.rows_hold.helpers ≡ read point (columns_from (p.made + length (local_columns callee)) helpers)

-- a return leads from the states that the point has at the exit and before the call to the state that it has after
abbrev pub BackObeyed : (ℕ → ℤ) → Columns → Columns → ℕ → List LinearRow → List ℕ → ℕ → List ℕ → List (List ℕ) → Type 0
BackObeyed point caller callee helpers rows targets made exit [] = ⊥
BackObeyed point caller callee helpers rows targets made exit (before ∷ saved) =
    BackLeads caller callee helpers rows targets (read point exit) (read point before)
    (read point (back_part caller callee targets made exit (before ∷ saved)).after.here)

abbrev pub ReturnObeyed : (ℕ → ℤ) → Alphabet → List ℕ → Option PlainAct → PathStage → Type 0
ReturnObeyed point al targets None p = ⊥
ReturnObeyed point al targets (Some (inside_act q written helpers rows)) p = ⊥
ReturnObeyed point al targets (Some (call_act caller callee helpers rows)) p =
    BackObeyed point (frame_of al caller) (frame_of al callee) helpers rows targets p.made p.here p.saved
ReturnObeyed point al targets (Some (back_act c more)) p = ⊥

-- a letter with this act leads as the point says
abbrev pub ActObeyed : (ℕ → ℤ) → Alphabet → Option PlainAct → PathStage → Type 0
ActObeyed point al None p = ⊥
ActObeyed point al (Some (inside_act q written helpers rows)) p = InsideObeyed point (frame_of al q) written helpers rows p
ActObeyed point al (Some (call_act caller callee helpers rows)) p = CallObeyed point (frame_of al caller) (frame_of al callee) helpers rows p
ActObeyed point al (Some (back_act c targets)) p = ReturnObeyed point al targets (slice_get al.acts c) p

-- each letter does
abbrev pub ObeyedAlong : (ℕ → ℤ) → Alphabet → PathStage → List Letter → Type 0
ObeyedAlong point al p [] = Unit {0}
ObeyedAlong point al p (a ∷ w) = ActObeyed point al (act_of al a) p × ObeyedAlong point al (part_of al a p).after w

-- the point has a state at the start, and leads by each letter to the next
pub record Solves (point : ℕ → ℤ) (g : Graph) (w : List Letter) : Type 0 where
  pub begins : IsState (start_frame g) (read point (first_stage (start_frame g)).here)
  pub along : ObeyedAlong point (alphabet_of g) (first_stage (start_frame g)) w

-- the situations, one for each position, have the values that the point has at the frame's versions there
abbrev pub AreReadOff : (ℕ → ℤ) → Graph → List Letter → List Situation → Type 0
AreReadOff point g w situations = map (λ s. s.values) situations ≡ map (read point) (path_of g w).states

-- frame states that obey the word, read off the point
pub record ReadOff (point : ℕ → ℤ) (g : Graph) (w : List Letter) : Type 0 where
  pub first : Situation
  pub more : List Situation
  pub obey : Obeys (alphabet_of g) w first more
  pub read_off : AreReadOff point g w (first ∷ more)

-- a point that meets the rows of the word and has these frame states
pub record SolvedBy (g : Graph) (w : List Letter) (situations : List Situation) : Type 0 where
  pub point : ℕ → ℤ
  pub meets : AllByRecursion (Holds point) (path_of g w).rows
  pub read_off : AreReadOff point g w situations
