use Rattle.std.proofs.Common.{◌≡◌, ◌++◌}
use Rattle.std.specs.List.{flat_map}
use Rattle.proof_form.specs.Annotations.{ended}
use Rattle.proof_form.specs.Lines.{triple, triple_text}
use Rattle.proof_form.proofs.WritingLaws.{with_rest}
use Rattle.proof_form.proofs.text_writing.push_triples.Given as goal

abbrev pub invariant-loop-triple : goal.invariant-loop-triple
invariant-loop-triple l =
    with_rest (λ t. ended (triple_text (triple t))) l.out.items l.triples l.triple-index ≡ l.fn.out.items ++ flat_map (λ t. ended (triple_text (triple t))) l.triples
