use Rattle.std.proofs.Common.{◌≡◌, ◌∙◌, ◌∷◌, ◌++◌, [], Bool, rules, ap}
use Rattle.std.proofs.lemmas.List.{nil_from_length}
use Rattle.explained_proof.proofs.StatementLaws.{labels_on, labels_end}
use Rattle.explained_proof.proofs.statements.left_labels.Goals as goal

pub loop-first-preserved : goal.loop-first-preserved
loop-first-preserved c =
    let e : c.loop-first.left.now ≡ c.in-Some.first.now ∷ c.in-Some.rest.now = search rules in
    labels_on c.loop-first.left.now c.in-Some.first.now c.in-Some.rest.now c.loop-first.list.items c.push.new.self.items _ e c.loop-first.invariant
    (c.in_ok-push.ensures.items ∙ ap (λ (b : Bool). c.loop-first.list.items ++ b ∷ []) c.is_left.ensures)

pub returns : goal.returns
returns c =
    let e : c.loop-first.left.now ≡ [] = nil_from_length _ (search rules) in
    labels_end c.loop-first.left.now c.loop-first.list.items _ e c.loop-first.invariant
