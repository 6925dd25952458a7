use Rattle.std.proofs.Common.{ℕ, Bool, List, ◌≡◌, map, IfOk, refl, ap, subst, ◌∙◌}
use Rattle.std.specs.Borrow.{Bor}
use Rattle.typed_tree.specs.declared.types.TProc.{TProc}
use Rattle.typed_tree.specs.TypedTree.{TypedProcedure}
use Rattle.typed_tree.specs.TypedView as view
use Rattle.typed_tree.specs.TypingRules.Shape.{are_names}
use Rattle.typed_tree.specs.TypingRules.Ties.Texts.{texts}
use Rattle.typed_tree.proofs.TypingRules.LoopLaws.{seen_step, seen_end}
use Rattle.typed_tree.proofs.typing_rules.names.procedures_named.Goals as goal

pub loop-listed-preserved : goal.loop-listed-preserved
loop-listed-preserved c =
    seen_step (λ (name : Bor (List ℕ)). name.now) (λ (xs : List TProc). map (λ (p : TypedProcedure). p.name) (map view.procedure xs)) c.listed-item.result.name c.args.procs.now c.loop-listed.listed-index
    c.listed-item.result c.bytes.result c.loop-listed.names.items c.push.new.self.items _ c.loop-listed-test.true c.listed-item.is (λ rest. refl) c.bytes.ensures c.in_ok-push.ensures.items
    c.loop-listed.invariant

pub returns : goal.returns
returns c =
    subst (λ (ns : List (List ℕ)). IfOk c.named.result (λ (named : Bool). named ≡ are_names ns))
    (ap texts c.deref.ensures.value
    ∙ seen_end (λ (name : Bor (List ℕ)). name.now) (λ (xs : List TProc). map (λ (p : TypedProcedure). p.name) (map view.procedure xs)) c.args.procs.now c.loop-listed.listed-index c.loop-listed.names.items _
    c.loop-listed-test.false refl c.loop-listed.invariant)
    c.named.ensures
