-- How many columns the system of a triple has.
use Rattle.std.proofs.Common.{◌≡◌, ℕ, ◌+◌, List, length, length-append, Some, sym}
use Rattle.std.specs.Prelude.{slice_get}
use Rattle.letter_acts.specs.Frames.{Columns, variables_of}
use Rattle.letter_acts.specs.Acts.{PlainAct}
use Rattle.letter_acts.specs.Invariant.{Graph, alphabet_of, written_by, IsActed}
use Rattle.letter_acts.specs.Checks.{local_targets}
use Rattle.letter_acts.specs.Kept.{Keeps}
use Rattle.triple_rows.proofs.ListLaws.{all_at}

pub written_counted : (frame : Columns) (targets : List ℕ) → length (variables_of frame) + length (local_targets frame targets) ≡ length (written_by frame targets)
written_counted frame targets = sym (length-append (variables_of frame) (local_targets frame targets))

-- what the act of a letter keeps
pub acted_at : (g : Graph) (l : ℕ) (a : PlainAct) → Keeps g → slice_get g.acts l ≡ Some a → IsActed (alphabet_of g) a
unfolding Keeps
acted_at g l a k e = all_at (IsActed (alphabet_of g)) g.acts l a e k.acts
