use Rattle.std.proofs.Common.{◌≡◌, take}
use Rattle.letter_acts.specs.Acts.{plain_acts, marks_of}
use Rattle.letter_acts.proofs.graphs.copied_acts.Given as goal

abbrev pub invariant-loop-act : goal.invariant-loop-act
invariant-loop-act l =
    (plain_acts l.copies.items ≡ plain_acts (take l.act-index l.acts.items)) × (marks_of l.copies.items ≡ marks_of (take l.act-index l.acts.items))
