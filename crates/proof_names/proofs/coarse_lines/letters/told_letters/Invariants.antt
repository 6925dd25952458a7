use Rattle.std.proofs.Common.{map, take}
use Rattle.proof_form.specs.Lines.{triple}
use Rattle.proof_names.proofs.CoarseLines.MarkLaws.{IsTold}
use Rattle.proof_names.proofs.coarse_lines.letters.told_letters.Given as goal

abbrev pub invariant-loop-triple : goal.invariant-loop-triple
invariant-loop-triple l = IsTold l.icfg l.told.items (map triple (take l.triple-index l.triples))
