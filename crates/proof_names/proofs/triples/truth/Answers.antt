use Rattle.std.proofs.Common.{◌≡◌, ◌∙◌, ◌++◌, List, [], ◌∷◌, Some, sym, subst, ap}
use Rattle.triple_rows.specs.declared.predicates.PredNode.{PredNode}
use Rattle.triple_rows.specs.declared.predicates.PredNode.TheVariants.{Truth}
use Rattle.triple_rows.specs.Predicates.{SpellsPredicate}
use Rattle.proof_names.proofs.AllLaws.{found_where}
use Rattle.proof_names.proofs.PredLaws.{truth_spells}
use Rattle.proof_names.proofs.triples.truth.Goals as goal

pub returns-in-None : goal.returns-in-None
returns-in-None c =
    let e : c.push.new.self.items ≡ Truth c.args.value ∷ [] = c.in_ok-push.ensures.items ∙ ap (λ (l : List PredNode). l ++ Truth c.args.value ∷ []) c.new-nodes.ensures.items in
    let s : SpellsPredicate c.push.new.self.items = subst (λ (l : List PredNode). SpellsPredicate l) (sym e) (truth_spells c.args.value) in
    let k : c.pred.result ≡ Some c.push.new.self.items = found_where (SpellsPredicate c.push.new.self.items) c.pred.result c.push.new.self.items s c.pred.ensures.found c.pred.ensures.value in
    absurd (let n = c.in-None.is in cc)
