-- Branches and loops are printed part by part.
use Rattle.std.proofs.Common.{◌≡◌, ◌++◌, ℕ, suc, List, [], Result, OnOk, codes, refl, sym, ap, append_assoc, append-nil}
use Rattle.std.proofs.lemmas.Result.{on_ok_weaker}
use Rattle.boogie_tree.specs.declared.span.Span.{Span}
use Rattle.boogie_tree.specs.Tree.{Guard, Invariant, Statement, If, While, Block, Empty, Then}
use Rattle.boogie_tree.specs.Printing.{line, guard_text, invariants_text, else_text, block_text, statement_text}

-- an else part is its line, if it has one, and then its statements
else_parts : (n m : ℕ) (b : Block) → else_text n b (block_text m b) ≡ else_text n b [] ++ block_text m b
else_parts n m Empty = refl
else_parts n m (Then s b) = ap (λ t. t ++ block_text m (Then s b)) (sym (append-nil (line n (codes "} else {"))))

pub conditional_printed : {T E : Type 0} (r : Result T E) (n inner : ℕ) (tree : Statement) (s : Span) (g : Guard) (a b seen_a seen_b also_b : Block) (before one two three four five : List ℕ)
    → tree ≡ If s g a b
    → inner ≡ suc n
    → one ≡ before ++ line n (codes "if (" ++ guard_text g ++ codes ") {")
    → seen_a ≡ a
    → two ≡ one ++ block_text inner seen_a
    → seen_b ≡ b
    → three ≡ two ++ else_text n seen_b []
    → also_b ≡ b
    → four ≡ three ++ block_text inner also_b
    → OnOk r (five ≡ four ++ line n (codes "}"))
    → OnOk r (five ≡ before ++ statement_text n tree)
conditional_printed r n inner tree s g a b seen_a seen_b also_b before one two three four five t i e1 sa e2 sb e3 ab e4 =
    on_ok_weaker r (λ e5. rw (e5, e4, e3, e2, e1, t, i, sa, sb, ab) (rw (else_parts n (suc n) b) (simp append_assoc)))

pub loop_printed : {T E : Type 0} (r : Result T E) (n inner : ℕ) (tree : Statement) (s : Span) (g : Guard) (is seen_is : List Invariant) (b seen_b : Block) (before one two three : List ℕ)
    → tree ≡ While s g is b
    → inner ≡ suc n
    → seen_is ≡ is
    → one ≡ before ++ (line n (codes "while (" ++ guard_text g ++ codes ")") ++ invariants_text (suc n) seen_is ++ line n (codes "{"))
    → seen_b ≡ b
    → two ≡ one ++ block_text inner seen_b
    → OnOk r (three ≡ two ++ line n (codes "}"))
    → OnOk r (three ≡ before ++ statement_text n tree)
loop_printed r n inner tree s g is seen_is b seen_b before one two three t i si e1 sb e2 =
    on_ok_weaker r (λ e3. rw (e3, e2, e1, t, i, si, sb) (simp append_assoc))
