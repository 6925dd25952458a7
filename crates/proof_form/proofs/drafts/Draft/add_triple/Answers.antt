use Rattle.proof_form.specs.TextReading.{content_of}
use Rattle.proof_form.proofs.DraftLaws.{triple_too_late}
use Rattle.proof_form.proofs.drafts.Draft.add_triple.Goals as goal

pub returns-then-not-takes_triples : goal.returns-then-not-takes_triples
returns-then-not-takes_triples c = triple_too_late (content_of c.args.self.now) c.args.line.now c.if-not-takes_triples.ensures
