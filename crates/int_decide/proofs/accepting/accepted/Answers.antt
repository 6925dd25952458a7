use Rattle.std.proofs.Common.{rules, ◌≡◌, ◌∙◌, true, [], ◌∷◌, List, ap, sym, subst}
use Rattle.std.proofs.lemmas.Bool.{false≢true}
use Rattle.farkas_check.specs.declared.refutations.Node.{Node}
use Rattle.farkas_check.specs.Nodes.{PlainNode, plain_nodes}
use Rattle.farkas_check.specs.Refutes.{Refutes}
use Rattle.farkas_check.specs.Trees.{IsPrefixList}
use Rattle.int_decide.specs.Answers.{RefutesWithin}
use Rattle.int_decide.specs.Ties.CutCounts.{have_few_cuts}
use Rattle.int_decide.proofs.CutLaws.{refutes_within, counted_within}
use Rattle.int_decide.proofs.accepting.accepted.Goals as goal

pub returns-then-not-branch : goal.returns-then-not-branch
returns-then-not-branch c = record {
  exact = λ r.
      let few = counted_within c.args.depth c.args.system.now (plain_nodes c.args.nodes.items) r in
      let same = ap (λ (ns : List Node). have_few_cuts (c.args.depth ∷ []) (plain_nodes ns)) c.deref.ensures.value in
      false≢true (sym c.if-not-branch.true ∙ c.in_ok-have_few_cuts.ensures ∙ same ∙ few);
  refutes = tt;
}

pub returns-in_default : goal.returns-in_default
returns-in_default c = record { exact = λ r. false≢true (c.in_default.ensures.whole.1 (r.tree.tree, r.tree.prefix)); refutes = tt }

pub returns-then-branch : goal.returns-then-branch
returns-then-branch c =
    let few : have_few_cuts (c.args.depth ∷ []) c.in-Some.proof ≡ true = search rules in
    let whole : IsPrefixList c.in-Some.proof = search rules in
    let refutes : Refutes c.in-Some.proof c.args.system.now = search rules in
    let within = refutes_within c.args.depth c.args.system.now c.in-Some.proof few whole refutes in
    let same : c.in-Some.proof ≡ plain_nodes c.args.nodes.items = c.in-Some.ensures.value in
    record { exact = (subst (RefutesWithin c.args.depth c.args.system.now) same within, same); refutes = within }

pub returns-else-branch : goal.returns-else-branch
returns-else-branch c = record {
  exact = λ r.
      let same : c.in-Some.proof ≡ plain_nodes c.args.nodes.items = c.in-Some.ensures.value in
      let yes = c.in_ok-check.ensures.exact.1 (subst (λ (ns : List PlainNode). Refutes ns c.args.system.now) (sym same) r.refutes) in
      false≢true (sym c.if-branch.false ∙ yes);
  refutes = tt;
}
