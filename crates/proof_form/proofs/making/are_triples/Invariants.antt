use Rattle.std.proofs.Common.{◌≡◌, drop, map}
use Rattle.std.specs.List.{list_all}
use Rattle.proof_form.specs.Lines.{triple, is_triple}
use Rattle.proof_form.proofs.making.are_triples.Given as goal

abbrev pub invariant-loop-triple : goal.invariant-loop-triple
invariant-loop-triple l = list_all is_triple (map triple (drop l.triple-index l.triples)) ≡ list_all is_triple (map triple l.triples)
