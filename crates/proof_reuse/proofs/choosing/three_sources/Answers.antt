use Rattle.std.proofs.Common.{◌∙◌, ℕ, List, map, ap}
use Rattle.std.specs.List.{flat_map}
use Rattle.std.proofs.lemmas.Result.{IfOk-weaker}
use Rattle.proof_reuse.specs.Ties.Choices.{sources}
use Rattle.proof_reuse.proofs.choosing.three_sources.Goals as goal

pub returns : goal.returns
returns c = IfOk-weaker c.with_exits.result _ _ (λ v e.
    e ∙
    ap (λ (befores : List ℕ). flat_map (λ (x : ℕ). map (λ (b : ℕ). (x, b, c.args.three.2)) befores) c.in_ok-at_exit.at_exit.items) (c.deref.ensures.value ∙ c.in_ok-before.ensures) ∙
    ap (λ (exits : List ℕ). flat_map (λ (x : ℕ). map (λ (b : ℕ). (x, b, c.args.three.2)) (sources c.args.befores.now c.args.three.1)) exits) c.in_ok-at_exit.ensures) c.with_exits.ensures
