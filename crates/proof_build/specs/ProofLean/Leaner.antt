-- How large annotations are.
use Rattle.std.specs.Prelude.{ℕ, ◌≤◌, length, sum_by}
use Rattle.proof_form.specs.Annotations.{Content}

-- how many predicates its nodes have together
abbrev pub fact_count : Content → ℕ
fact_count a = sum_by (λ x. length x.preds) a.nodes

-- it has no more predicates, triples, nodes, predicates at nodes, and steps than the other
pub record IsNoLarger (other a : Content) : Type 0 where
  pub preds : length a.preds ≤ length other.preds
  pub triples : length a.triples ≤ length other.triples
  pub nodes : length a.nodes ≤ length other.nodes
  pub facts : fact_count a ≤ fact_count other
  pub steps : length a.steps ≤ length other.steps
