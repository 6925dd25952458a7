-- What the code answers of a part of a program: that it keeps a rule, or a fault of it.
use Rattle.std.specs.Prelude.{◌≡◌, Bool, true, List, map, ◌⊎◌, Result, MatchResult, Contains, ◌&&◌}
use Rattle.std.specs.List.{list_all}
use Rattle.typed_tree.specs.declared.fault.TypeFault.{TypeFault}
use Rattle.typed_tree.specs.declared.fault.TypeFault.TheVariants as fault
use Rattle.typed_tree.specs.TypedTree.{TypedGuard, TypedInvariant, TypedStatement, If, While}
use Rattle.typed_tree.specs.Scope.{Scope, seen}
use Rattle.typed_tree.specs.TypedView as view
use Rattle.typed_tree.specs.declared.typing_rules.frame.Frame.{Frame}
use Rattle.typed_tree.specs.TypingRules.Rules.{Context, is_guard, is_invariant, is_statement}
use Rattle.typed_tree.specs.TypingRules.BrokenTyping.{IsConditionBroken, IsGuardBroken}

-- want of memory, or a fault of that kind
abbrev pub IsFaultOf : (TypeFault → Type 0) → TypeFault → Type 0
IsFaultOf Broken f = (f ≡ fault.Memory) ⊎ Broken f

-- Ok where the test holds, and a fault of that kind
abbrev pub Judges : {T : Type 0} → Result T TypeFault → Bool → (TypeFault → Type 0) → Type 0
Judges r kept Broken = MatchResult r (λ x. kept ≡ true) (IsFaultOf Broken)

-- a fault of one of the list
pub data IsOneBroken {X : Type 0} (xs : List X) (Broken : X → TypeFault → Type 0) : TypeFault → Type 0 where
  one : (x : X) (f : TypeFault) → Contains xs x → Broken x f → IsOneBroken xs Broken f

abbrev pub IsInvariantBroken : Scope → TypedInvariant → TypeFault → Type 0
IsInvariantBroken s i f = IsConditionBroken s i.cond f

-- the guard of a loop, or an invariant
abbrev pub IsLoopHeadBroken : Scope → TypedGuard → List TypedInvariant → TypeFault → Type 0
IsLoopHeadBroken s g is f = IsGuardBroken s g f ⊎ IsOneBroken is (IsInvariantBroken s) f

-- what a statement stands under, as the code keeps it
abbrev pub context : Frame → Context
context k =
    record { scope = seen k.scope; procs = map view.procedure k.procs.now; modifies = k.modifies; labels = k.labels; loops = k.loops }

-- Ok with the frame as it was, and then as it is, where the test holds, and a fault of that kind
abbrev pub JudgesIn : {T : Type 0} → Frame → Frame → Result T TypeFault → Bool → (TypeFault → Type 0) → Type 0
JudgesIn k j r kept Broken = MatchResult r (λ x. (j ≡ k) × (kept ≡ true)) (IsFaultOf Broken)

-- the rules of a statement, the lists inside it left out
abbrev pub is_head : Context → TypedStatement → Bool
is_head k (If at g a b) = is_guard k.scope g
is_head k (While at g is b) = is_guard k.scope g && list_all (is_invariant k.scope) is
is_head k s = is_statement k s
