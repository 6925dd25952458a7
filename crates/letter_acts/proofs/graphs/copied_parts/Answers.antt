use Rattle.std.proofs.Common.{◌∙◌}
use Rattle.letter_acts.proofs.GraphLemmas.{same_graph}
use Rattle.letter_acts.proofs.graphs.copied_parts.Goals as goal

pub returns : goal.returns
returns c =
    same_graph _ _
    (c.in_ok-copy_letters.ensures.automaton ∙ c.in_ok-nwa.ensures)
    c.in_ok-copy_letters.ensures.acts
    c.in_ok-copy_letters.ensures.marks
    c.in_ok-copy_letters.ensures.frames
    c.in_ok-copy_letters.ensures.names
    c.in_ok-copy_letters.ensures.place_procs
    c.in_ok-copy_letters.ensures.entries
    c.in_ok-copy_letters.ensures.exits
    c.in_ok-copy_letters.ensures.sites
