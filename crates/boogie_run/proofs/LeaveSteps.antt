-- Leaving one block after the other, up to the body of a loop.
use Rattle.std.proofs.Common.{◌≡◌, ◌∙◌, ◌<◌, ℕ, zero, suc, ◌-◌, true, false, List, [], ◌∷◌, length, ap, sym, subst, refl, arith}
use Rattle.std.specs.List.{AllByRecursion}
use Rattle.typed_tree.specs.TypedTree.{TypedProcedure}
use Rattle.boogie_run.specs.BoogiePoints.Points.{Todo, past_first, broken}
use Rattle.boogie_run.specs.BoogiePoints.Room.{HasRoom}
use Rattle.boogie_run.specs.BoogiePoints.Stacks.{without_top}

stays : (procs : List TypedProcedure) (n : ℕ) (t : Todo) (ts : List Todo) → t.of_loop ≡ false → broken procs n (t ∷ ts) ≡ broken procs n ts
stays procs zero t ts e = rw e refl
stays procs (suc n) t ts e = rw e refl

goes : (procs : List TypedProcedure) (n : ℕ) (t : Todo) (ts : List Todo) → t.of_loop ≡ true → 0 < n → broken procs n (t ∷ ts) ≡ broken procs (n - 1) ts
goes procs zero t ts e l = absurd (omega arith)
goes procs (suc n) t ts e l = let less : n ≡ suc n - 1 = omega arith in rw e (ap (λ (k : ℕ). broken procs k ts) less)

ends : (procs : List TypedProcedure) (n : ℕ) (t : Todo) (ts : List Todo) → t.of_loop ≡ true → n ≡ 0 → broken procs n (t ∷ ts) ≡ past_first procs ts
ends procs n t ts e z = rw (z, e) refl

over : (procs : List TypedProcedure) (n : ℕ) → broken procs n [] ≡ []
over procs zero = refl
over procs (suc n) = refl

-- what is left behind the innermost block
pub under_top : (before after under : List Todo) (t : Todo) → before ≡ t ∷ under → after ≡ without_top before → after ≡ under
under_top before after under t b a = a ∙ ap without_top b

-- it is no body of a loop
pub left_block : (procs : List TypedProcedure) (n : ℕ) (before after under whole : List Todo) (t : Todo) → before ≡ t ∷ under → after ≡ without_top before → t.of_loop ≡ false →
    broken procs n before ≡ whole → broken procs n after ≡ whole
left_block procs n before after under whole t b a e so_far =
    ap (broken procs n) (under_top before after under t b a) ∙ sym (stays procs n t under e) ∙ sym (ap (broken procs n) b) ∙ so_far

-- it is the body of a loop, and one further out is to be left
pub left_loop : (procs : List TypedProcedure) (n : ℕ) (before after under whole : List Todo) (t : Todo) → before ≡ t ∷ under → after ≡ without_top before → t.of_loop ≡ true → 0 < n →
    broken procs n before ≡ whole → broken procs (n - 1) after ≡ whole
left_loop procs n before after under whole t b a e l so_far =
    ap (broken procs (n - 1)) (under_top before after under t b a) ∙ sym (goes procs n t under e l) ∙ sym (ap (broken procs n) b) ∙ so_far

-- it is the last one
pub left_last : (procs : List TypedProcedure) (n : ℕ) (before after under new whole : List Todo) (t : Todo) → before ≡ t ∷ under → after ≡ without_top before → t.of_loop ≡ true → n ≡ 0 →
    new ≡ past_first procs after → broken procs n before ≡ whole → new ≡ whole
left_last procs n before after under new whole t b a e z p so_far =
    p ∙ ap (past_first procs) (under_top before after under t b a) ∙ sym (ends procs n t under e z) ∙ sym (ap (broken procs n) b) ∙ so_far

-- no block is left
pub left_all : (procs : List TypedProcedure) (n : ℕ) (before whole : List Todo) → before ≡ [] → broken procs n before ≡ whole → before ≡ whole
left_all procs n before whole b so_far = b ∙ sym (over procs n) ∙ sym (ap (broken procs n) b) ∙ so_far

pub room_left : (procs : List TypedProcedure) (before after under : List Todo) (t : Todo) → before ≡ t ∷ under → after ≡ without_top before →
    AllByRecursion (HasRoom procs) before → AllByRecursion (HasRoom procs) after
room_left procs before after under t b a room =
    let inside : AllByRecursion (HasRoom procs) (t ∷ under) = subst (AllByRecursion (HasRoom procs)) b room in
    subst (AllByRecursion (HasRoom procs)) (sym (under_top before after under t b a)) inside.1

pub fewer : (before after under : List Todo) (t : Todo) → before ≡ t ∷ under → after ≡ without_top before → length after < length before
fewer before after under t b a = omega (arith, ap length b, ap length (under_top before after under t b a))
