use Rattle.std.proofs.Common.{ℕ, Bool, List, ◌≡◌, map, IfOk, refl, ap, subst, ◌∙◌}
use Rattle.std.specs.Borrow.{Bor}
use Rattle.boogie_tree.specs.declared.tree.VarInfo.{VarInfo}
use Rattle.typed_tree.specs.TypingRules.Shape.{are_names}
use Rattle.typed_tree.specs.TypingRules.Ties.Texts.{texts}
use Rattle.typed_tree.proofs.TypingRules.LoopLaws.{seen_step, seen_end}
use Rattle.typed_tree.proofs.typing_rules.names.variables_named.Goals as goal

pub loop-variable-preserved : goal.loop-variable-preserved
loop-variable-preserved c =
    seen_step (λ (name : Bor (List ℕ)). name.now) (λ (xs : List VarInfo). map (λ (v : VarInfo). v.name) xs) c.variable-item.result.name c.args.variables.now c.loop-variable.variable-index
    c.variable-item.result c.bytes.result c.loop-variable.names.items c.push.new.self.items _ c.loop-variable-test.true c.variable-item.is (λ rest. refl) c.bytes.ensures c.in_ok-push.ensures.items
    c.loop-variable.invariant

pub returns : goal.returns
returns c =
    subst (λ (ns : List (List ℕ)). IfOk c.named.result (λ (named : Bool). named ≡ are_names ns))
    (ap texts c.deref.ensures.value
    ∙ seen_end (λ (name : Bor (List ℕ)). name.now) (λ (xs : List VarInfo). map (λ (v : VarInfo). v.name) xs) c.args.variables.now c.loop-variable.variable-index c.loop-variable.names.items _
    c.loop-variable-test.false refl c.loop-variable.invariant)
    c.named.ensures
