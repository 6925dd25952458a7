use Rattle.std.proofs.Common.{◌≡◌, ◌∙◌, ◌+◌, ◌∷◌, ◌++◌, [], List, Bool, drop, length, map, rules, sym, ap, arith}
use Rattle.std.specs.Prelude.{slice_get}
use Rattle.std.proofs.lemmas.List.{map-append, nil_from_length}
use Rattle.boogie_tree.proofs.Seen.{if_seen}
use Rattle.boogie_tree.specs.declared.tree.Stmt.{Stmt}
use Rattle.boogie_tree.specs.Tree.{Statement, Block}
use Rattle.boogie_tree.specs.View as tree
use Rattle.explained_proof.specs.Statements as spec
use Rattle.explained_proof.specs.Statements.{Left}
use Rattle.explained_proof.specs.Ties.Views as view
use Rattle.explained_proof.proofs.StatementLaws.{block_before, drop_head, flag_here, explained_on, branch_explained}
use Rattle.explained_proof.proofs.statements.Walk.+explained_statements.Goals as goal

pub statement-returns-in_ok-otherwise-in-If : goal.statement-returns-in_ok-otherwise-in-If
statement-returns-in_ok-otherwise-in-If t c =
    branch_explained (view.setting c.args.self.now) (tree.statement c.args.given) c.in-If.span (tree.guard c.in-If.guard) (tree.statements c.in-If.then.items) (tree.statements c.in-If.otherwise.items)
    (tree.statements c.in_ok-then-in-If.then.items) (tree.statements c.in_ok-otherwise-in-If.otherwise.items) (view.left c.args.left) (view.left c.first_branch.result) (view.left c.second_branch.result)
    (tree.statement c.branched.result) (ap tree.statement c.in-If.is ∙ if_seen c.in-If.span c.in-If.guard c.in-If.then c.in-If.otherwise) c.first_branch.ensures.value c.second_branch.ensures.value
    c.in_ok-then-in-If.ensures c.in_ok-otherwise-in-If.ensures c.branched.ensures

pub statements-loop-statement-init : goal.statements-loop-statement-init
statements-loop-statement-init t c =
    let w = view.setting c.args.self.now in
    let l : Left = view.left c.args.left in
    let all = c.into_iter-statement-iterator.ensures.into_iter_gives.0 in
    record {
      value = ap (λ (ss : List Stmt). spec.before (map tree.statement ss) (spec.explained_block w (tree.statements c.into_iter-statement-iterator.result.rest.items) l)) c.in_ok-out.ensures.items ∙
          ap (λ (ss : List Stmt). spec.explained_block w (tree.statements ss) l) all;
      labels = c.in_ok-left_labels.ensures ∙ ap (λ (ss : List Stmt). spec.left_labels (tree.statements ss)) (c.deref.ensures.value ∙ sym all);
      counted = search rules;
      fits = c.requires;
    }

pub statements-loop-statement-preserved : goal.statements-loop-statement-preserved
statements-loop-statement-preserved t c =
    let w = view.setting c.args.self.now in
    let l : Left = view.left c.loop-statement.left in
    let s = c.in-Some.statement in
    let rest = c.next.new.self.rest.items in
    let b : Block = tree.statements rest in
    let taken = c.in-Some.ensures.steps.0 in
    let labels = c.loop-statement.invariant.labels ∙ ap (λ (ss : List Stmt). spec.left_labels (tree.statements ss)) taken in
    let head = drop_head c.in_ok-left_labels.left_labels.items c.loop-statement.number (spec.is_left (tree.statement s) b) (spec.left_labels b) labels in
    let counted = c.loop-statement.invariant.counted in
    let next : c.saturating_add-number.result ≡ c.loop-statement.number + 1 = search rules in
    record {
      value = ap (λ (m : Left). spec.before (map tree.statement c.add_assertions.new.out.items) (spec.explained_block w b m)) c.behind-next.ensures.value ∙
          explained_on w (tree.statement s) b l c.flag_at-is_left.result (map tree.statement c.loop-statement.out.items) (map tree.statement c.push.new.self.items)
          (map tree.statement c.add_assertions.new.out.items) _ (c.flag_at-is_left.ensures ∙ ap (λ (fs : List Bool). spec.flag (slice_get fs c.loop-statement.number)) c.deref-in-loop-statement.ensures.value ∙
          flag_here c.in_ok-left_labels.left_labels.items c.loop-statement.number (spec.is_left (tree.statement s) b) (spec.left_labels b) labels)
          (ap (map tree.statement) c.in_ok-push.ensures.items ∙ map-append tree.statement c.loop-statement.out.items (c.in_ok-statement.field-0 ∷ []) ∙
          ap (λ (x : Statement). map tree.statement c.loop-statement.out.items ++ x ∷ []) c.in_ok-statement.ensures)
          c.in_ok-add_assertions.ensures
          (sym (ap (λ (ss : List Stmt). spec.before (map tree.statement c.loop-statement.out.items) (spec.explained_block w (tree.statements ss) l)) taken) ∙ c.loop-statement.invariant.value);
      labels = ap (λ n. drop n c.in_ok-left_labels.left_labels.items) next ∙ head.1;
      counted = omega (arith, next, counted, ap length taken);
      fits = c.behind-next.ensures.fits;
    }

pub statements-returns : goal.statements-returns
statements-returns t c =
    let none : c.loop-statement.statement-iterator.rest.items ≡ [] = nil_from_length _ (search rules) in
    block_before (map tree.statement c.loop-statement.out.items) ∙
    sym (ap (λ (ss : List Stmt). spec.before (map tree.statement c.loop-statement.out.items) (spec.explained_block (view.setting c.args.self.now) (tree.statements ss) (view.left c.loop-statement.left))) none) ∙
    c.loop-statement.invariant.value
