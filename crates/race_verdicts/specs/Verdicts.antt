-- What is said of a race that has ended.
use Rattle.std.specs.Prelude.{◌≡◌, ℕ, ℤ, List, length, Some, IsTrue}
use Rattle.std.specs.declared.vec.Vec.{Vec}
use Rattle.std.specs.declared.alloc.Global.{Global}
use Rattle.nwa_base.specs.declared.letters.Letter.{Letter}
use Rattle.typed_tree.specs.TypedTree.{TypedProgram}
use Rattle.lowered_graph.specs.Lowered.{lowered}
use Rattle.proof_form.specs.Annotations.{is_annotation}
use Rattle.proof_names.specs.CoarseLines.CoarseLetters.{coarse_letters}
use Rattle.proof_check.specs.Proves.{Proves}
use Rattle.trace_replay.specs.declared.failure.Failure.{Failure}
use Rattle.trace_replay.specs.FailureText.{IsInBounds, numbers, plain}
use Rattle.trace_replay.specs.Replays.{IsReplayed}
use Rattle.race_core.specs.declared.ends.End.TheVariants as ends
use Rattle.race_core.specs.Races.{Race}
use Rattle.itp_automaton.specs.Certified.{Certificate}
use Rattle.race_verdicts.specs.declared.verdicts.Verdict.{Verdict}
use Rattle.race_verdicts.specs.declared.verdicts.Verdict.TheVariants.{Safe, Unsafe, Unknown}

-- A failure of the program that was found after so many rounds: these values lead to it within so many steps. Its numbers have the bits of
-- their lines, and its values fit.
pub record IsFailureBy (t : TypedProgram) (rounds steps : ℕ) (values : List ℤ) (f : Failure) : Type 0 where
  pub rounds_are : f.rounds ≡ rounds
  pub steps_are : f.trail.steps ≡ steps
  pub values_are : numbers f.trail.choices.items ≡ values
  pub replays : IsReplayed t steps values f.id
  pub bounds : IsInBounds (plain f)

-- the race ended at a word with a run of so many steps, which takes these choices, and that run replays
pub record IsFailureOf (t : TypedProgram) (r : Race Certificate) (f : Failure) : Type 0 where
  pub word : List Letter
  pub choices : Vec ℤ Global
  pub end : r.end ≡ Some (ends.Unsafe word f.trail.steps choices)
  pub failure : IsFailureBy t (length r.history) f.trail.steps choices.items f

-- The race ended so: no word is left, the annotation, each line of which is in the grammar, proves the program, and the letters are the coarse
-- ones that its triples name; a run fails; or nothing is known of a word.
abbrev pub IsVerdict : TypedProgram → Race Certificate → Verdict → Type 0
IsVerdict t r (Safe coarse a) =
    (r.end ≡ Some ends.Safe) × Proves (lowered t) a × IsTrue (is_annotation a) × (coarse.items ≡ coarse_letters (lowered t) a)
IsVerdict t r (Unsafe f) = IsFailureOf t r f
IsVerdict t r (Unknown cause w) = r.end ≡ Some (ends.Unknown cause w)
