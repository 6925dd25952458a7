-- What is printed step by step.
use Rattle.std.proofs.Common.{◌≡◌, ◌++◌, ℕ, zero, suc, [], ◌+◌, codes, refl, ap, add-one, append_assoc, append-nil, List, Result, OnOk, ◌≤◌, length, ◌∷◌, arith}
use Rattle.std.proofs.lemmas.Result.{on_ok_weaker}
use Rattle.boogie_tree.specs.declared.tree.Stmt.{Stmt}
use Rattle.boogie_tree.specs.View as view
use Rattle.boogie_tree.specs.Printing.{indent, line, else_text}

pub indent-suc : (n : ℕ) → indent (suc n) ≡ indent n ++ codes "  "
indent-suc zero = refl
indent-suc (suc n) = ap (λ t. codes "  " ++ t) (indent-suc n)

-- one block more is indented
pub indented : (n : ℕ) (before out after : List ℕ) → out ≡ before ++ indent n → after ≡ out ++ codes "  " → after ≡ before ++ indent (n + 1)
indented n before out after e f = rw (f, e, add-one, indent-suc n, append_assoc) refl

pub two_appended : {T E : Type 0} (r : Result T E) (before first second a b : List ℕ)
    → first ≡ before ++ a → OnOk r (second ≡ first ++ b) → OnOk r (second ≡ before ++ (a ++ b))
two_appended r before first second a b e = on_ok_weaker r (λ f. rw (f, e, append_assoc) refl)

pub three_appended : {T E : Type 0} (r : Result T E) (before first second third a b c : List ℕ)
    → first ≡ before ++ a → second ≡ first ++ b → OnOk r (third ≡ second ++ c) → OnOk r (third ≡ before ++ (a ++ b ++ c))
three_appended r before first second third a b c e f = on_ok_weaker r (λ g. rw (g, f, e) (simp append_assoc))

-- the line of an else part that is there
pub else_there : {T E : Type 0} (r : Result T E) (before after : List ℕ) (n : ℕ) (ss : List Stmt) → 1 ≤ length ss
    → OnOk r (after ≡ before ++ line n (codes "} else {")) → OnOk r (after ≡ before ++ else_text n (view.statements ss) [])
else_there r before after n [] some = absurd (omega arith)
else_there r before after n (s ∷ ss) some = on_ok_weaker r (λ e. rw (e, append-nil) refl)
