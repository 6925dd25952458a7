-- What a refutation that the check accepts is worth, where Decide refutes.
use Rattle.std.proofs.Common.{◌≡◌, ℕ, List, [], ◌∷◌, Result, Ok, Err, sym, subst}
use Rattle.std.specs.Prelude.{IfOk, OnOk}
use Rattle.lin_rows.specs.declared.systems.System.{System}
use Rattle.farkas_check.specs.Nodes.{PlainNode}
use Rattle.farkas_check.specs.Refutes.{goal_of, Refutes}
use Rattle.int_decide.specs.declared.types.Answer.{Answer}
use Rattle.int_decide.specs.declared.types.Answer.TheVariants.{Refuted, Whole}
use Rattle.int_decide.specs.declared.types.DecideFault.{DecideFault}
use Rattle.int_decide.specs.Answers.{decision_of, IsWorthOf}
use Rattle.int_decide.specs.Decisions.{Decision, refuted, WhereRefuted}
use Rattle.int_decide.specs.Decide.{decide}
use Rattle.int_decide.specs.Numbers.{LeavesFit, DecideFits}
use Rattle.int_decide.specs.Ties.Searching.{EliminationsFit, IsClosed}
use Rattle.int_decide.proofs.FewCuts.{decided_is_tree}
use Rattle.int_decide.proofs.Refuting.{refuted_fits}

answer_worth : (n d : ℕ) (s : System) (ns : List PlainNode) (a : Answer) → decision_of a ≡ refuted ns → Refutes ns s → decide n d s ≡ refuted ns → IsWorthOf n d s a
answer_worth n d s ns (Whole values) e r q = absurd (cc)
answer_worth n d s ns (Refuted nodes) e r q =
    let same : ns ≡ nodes = cc in
    (subst (λ (ms : List PlainNode). Refutes ms s) same r, decided_is_tree n d s nodes (cc))

pub closed_worth : (n d : ℕ) (s : System) (ns : List PlainNode) (result : Result Answer DecideFault) → IfOk result (λ a. decision_of a ≡ refuted ns) → OnOk result (Refutes ns s) →
    IsClosed n d s ns → IfOk result (IsWorthOf n d s)
closed_worth n d s ns (Ok a) v r h = answer_worth n d s ns a v r h.decided
closed_worth n d s ns (Err e) v r h = tt

pub closed_fits : (n d : ℕ) (s : System) (ns : List PlainNode) (result : Result Answer DecideFault) → OnOk result (Refutes ns s) → EliminationsFit n d s → IsClosed n d s ns →
    OnOk result (DecideFits n d s)
closed_fits n d s ns (Ok a) r f h = record {
  eliminations = f;
  leaves = subst (λ (x : Decision). WhereRefuted x (λ ms. LeavesFit ms (goal_of s ∷ []))) (sym h.decided) (refuted_fits ns (goal_of s ∷ []) r);
}
closed_fits n d s ns (Err e) r f h = tt
