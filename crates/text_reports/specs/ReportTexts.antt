-- What is answered: bytes, a status, and the race of a verdict; the answers to a text that is too long, to an annotation and to a failure.
use Rattle.std.specs.Prelude.{ℕ, ◌+◌, List, [], ◌∷◌, ◌++◌, codes}
use Rattle.std.specs.Fmt.{decimal}
use Rattle.boogie_run.specs.declared.types.AssertId.{AssertId}
use Rattle.proof_check.specs.declared.rejects.RejectCause.{RejectCause}
use Rattle.proof_check.specs.declared.rejects.RejectCause.TheVariants as rejects
use Rattle.trace_replay.specs.declared.causes.ReplayCause.{ReplayCause}
use Rattle.trace_replay.specs.declared.causes.ReplayCause.TheVariants as causes
use Rattle.race_core.specs.Races.{Race}
use Rattle.itp_automaton.specs.Certified.{Certificate}

-- the bytes that are written, the status, and the races that are closed
pub record Answer : Type 0 where
  pub bytes : List ℕ
  pub status : ℕ
  pub races : List (Race Certificate)

-- an answer without a race
abbrev pub answer : List ℕ → ℕ → Answer
answer bytes status = record { bytes = bytes; status = status; races = [] }

-- ---- to a text that is past its limit

abbrev pub too_long_answer : Answer
too_long_answer = answer (codes "refused TooLong\n") 3

-- ---- to a second text

abbrev pub rejected_line : ℕ → List ℕ → List ℕ
rejected_line line cause = codes "rejected " ++ decimal line ++ 32 ∷ (cause ++ 10 ∷ [])

-- the second text is not in its grammar: its first wrong line
abbrev pub syntax_answer : ℕ → Answer
syntax_answer line = answer (rejected_line line (codes "Syntax")) 1

-- the annotation proves the program
abbrev pub accepted_answer : Answer
accepted_answer = answer (codes "accepted\n") 0

abbrev pub reject_name : RejectCause → List ℕ
reject_name rejects.BadTriple = codes "BadTriple"
reject_name rejects.NoStart = codes "NoStart"
reject_name rejects.OpenError = codes "OpenError"
reject_name rejects.MissingStep = codes "MissingStep"
reject_name rejects.BadStep = codes "BadStep"
reject_name rejects.BadName = codes "BadName"

-- a check of the annotation fails at this line
abbrev pub failed_answer : ℕ → RejectCause → Answer
failed_answer line cause = answer (rejected_line line (reject_name cause)) 1

-- A check of the annotation fails at this item, before which stand so many lines of coarse letters. Without them item 0 stands on line 4. The
-- number of all items stands for the line `end`.
abbrev pub rejected_answer : ℕ → ℕ → RejectCause → Answer
rejected_answer count item cause = failed_answer (item + (count + 4)) cause

abbrev pub stop_name : ReplayCause → List ℕ
stop_name causes.Blocked = codes "Blocked"
stop_name causes.Ended = codes "Ended"
stop_name causes.Short = codes "Short"
stop_name causes.Number = codes "Number"
stop_name causes.BadChoice = codes "BadChoice"
stop_name causes.Product = codes "Product"

-- an assertion fails as the values say
abbrev pub replayed_answer : AssertId → Answer
replayed_answer id = answer (codes "replayed assertion " ++ (decimal id.number ++ (codes " line " ++ (decimal id.line ++ 10 ∷ [])))) 0

-- the values do not lead to a failure
abbrev pub stopped_answer : ℕ → ReplayCause → Answer
stopped_answer step cause = answer (rejected_line step (stop_name cause)) 1
