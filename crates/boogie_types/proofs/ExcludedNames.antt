-- An expression or a statement with a name that means nothing is not named.
use Rattle.std.proofs.Common.{◌≡◌, ◌∙◌, ap, Bool, false, List, None, if◌then◌else◌}
use Rattle.boogie_tree.specs.declared.tree.Name.{Name}
use Rattle.boogie_tree.specs.Tree.{Expression, Guard, Invariant}
use Rattle.typed_tree.specs.declared.fault.TypeFault.{TypeFault}
use Rattle.typed_tree.specs.TypedTree as typed
use Rattle.typed_tree.specs.TypedTree.{TypedExpression, TypedInvariant}
use Rattle.typed_tree.specs.Scope.{Scope}
use Rattle.boogie_types.specs.Meanings.{column_of}
use Rattle.boogie_types.specs.Naming.{each, named, named_guard, named_invariant, columns_of, targets_of}
use Rattle.boogie_types.specs.BrokenNames.{IsUnknownIn, unknown, in_old, in_not, in_neg, in_left, in_right, AreUnknownIn, one_of, IsTargetWrong, unknown_target, second_target, IsSecond, IsGuardUnknown, in_guard}
use Rattle.std.specs.Str.{bytes_eq}
use Rattle.typed_tree.specs.TypingRules.Rules.{all_differ}
use Rattle.boogie_types.proofs.Differ.{all_differ_repeat}
use Rattle.boogie_types.proofs.NameLaws.{bytes_eq_turns}
use Rattle.boogie_types.proofs.ExcludedLists.{any_of_member, if_none, option_map_none, both_left_none, both_right_none, each_none}

pub unknown_is_unnamed : (s : Scope) (e : Expression) (f : TypeFault) → IsUnknownIn s e f → named s e ≡ None
unknown_is_unnamed s e f (unknown at x h) = option_map_none (typed.Var at) (column_of s x.text) h
unknown_is_unnamed s e f (in_old at a g h) = option_map_none (typed.Old at) (named s a) (unknown_is_unnamed s a g h)
unknown_is_unnamed s e f (in_not at a g h) = option_map_none (typed.Not at) (named s a) (unknown_is_unnamed s a g h)
unknown_is_unnamed s e f (in_neg at a g h) = option_map_none (typed.Neg at) (named s a) (unknown_is_unnamed s a g h)
unknown_is_unnamed s e f (in_left at op a b g h) = both_left_none (typed.Bin at op) (named s a) (named s b) (unknown_is_unnamed s a g h)
unknown_is_unnamed s e f (in_right at op a b g h) = both_right_none (typed.Bin at op) (named s a) (named s b) (unknown_is_unnamed s b g h)

pub unknown_are_unnamed : (s : Scope) (es : List Expression) (f : TypeFault) → AreUnknownIn s es f → each (named s) es ≡ None
unknown_are_unnamed s es f (one_of ds e g c h) = each_none (named s) ds e c (unknown_is_unnamed s e g h)

-- names of which one stands a second time are no set
pub second_is_none : (xs : List Name) (x : Name) → IsSecond xs x → all_differ (λ (v w : Name). bytes_eq v.text w.text) xs ≡ false
second_is_none xs x (before, after, y, split, c, same) =
    ap (all_differ (λ (v w : Name). bytes_eq v.text w.text)) split
    ∙ all_differ_repeat (λ (v w : Name). bytes_eq v.text w.text) (λ (v w : Name). bytes_eq_turns v.text w.text) before x after
    (any_of_member (λ (w : Name). bytes_eq x.text w.text) before y c same)

pub wrong_have_no_targets : (s : Scope) (xs : List Name) (f : TypeFault) → IsTargetWrong s xs f → targets_of s xs ≡ None
wrong_have_no_targets s xs f (unknown_target ys x c h) =
    if_none (all_differ (λ (v w : Name). bytes_eq v.text w.text) ys) (columns_of s ys) (each_none (λ (y : Name). column_of s y.text) ys x c h)
wrong_have_no_targets s xs f (second_target ys x h) =
    ap (λ (b : Bool). if b then columns_of s ys else None) (second_is_none ys x h)

pub guard_is_unnamed : (s : Scope) (g : Guard) (f : TypeFault) → IsGuardUnknown s g f → named_guard s g ≡ None
guard_is_unnamed s g f (in_guard e k h) = option_map_none typed.Cond (named s e) (unknown_is_unnamed s e k h)

pub invariant_is_unnamed : (s : Scope) (i : Invariant) (f : TypeFault) → IsUnknownIn s i.cond f → named_invariant s i ≡ None
invariant_is_unnamed s i f h =
    option_map_none (λ (e : TypedExpression). record { span = i.span; free = i.free; cond = e }) (named s i.cond) (unknown_is_unnamed s i.cond f h)
