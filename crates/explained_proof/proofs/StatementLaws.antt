-- Lists of statements along their places, and lists that are put together statement by statement.
use Rattle.std.proofs.Common.{◌≡◌, ◌∙◌, ℕ, zero, suc, ◌+◌, ◌<◌, ◌^◌, true, false, List, [], ◌∷◌, ◌++◌, map, drop, Bool, Some, refl, sym, ap, subst, append_assoc, arith}
use Rattle.std.specs.Prelude.{slice_get}
use Rattle.std.proofs.lemmas.List.{append-nil}
use Rattle.boogie_tree.specs.declared.span.Span.{Span}
use Rattle.boogie_tree.specs.Tree as tree
use Rattle.boogie_tree.specs.declared.tree.Stmt.{Stmt}
use Rattle.boogie_tree.specs.View.{block}
use Rattle.boogie_tree.specs.View as seen
use Rattle.typed_tree.specs.declared.types.TStmt.{TStmt}
use Rattle.typed_tree.specs.TypedTree.{TypedStatement, Assert, Assume, Havoc, Assign, Call, If, While, Break, Goto, Return, Label, TypedBlock, Empty, Then, TypedProcedure}
use Rattle.typed_tree.specs.TypedView as typed
use Rattle.typed_tree.specs.TypingRules.Counts.{points}
use Rattle.explained_proof.specs.Ties.Fitting.{HasPlaces, StatementFits}
use Rattle.explained_proof.specs.Statements.{Left, left, past_in, past_hidden_in, is_assignment, body_of, in_first, before, Setting, asserted, assertions_behind, behind, is_left, left_labels, flag, explained_block, explained_statement, first_branch, second_branch}

-- ---- places

module _ (procs : List TypedProcedure) where
  pub there_fits : (ss : List TStmt) (s : TStmt) (rest : List TStmt) (n : ℕ) → ss ≡ s ∷ rest → HasPlaces procs (left (typed.statements ss) n) →
      HasPlaces procs (left (Then (typed.statement s) (typed.statements rest)) n)
  there_fits ss s rest n e h = subst (λ (ts : List TStmt). HasPlaces procs (left (typed.statements ts) n)) e h

  pub first_fits : (s : TypedStatement) (b : TypedBlock) (n : ℕ) → HasPlaces procs (left (Then s b) n) → StatementFits procs s n
  first_fits s b n h = let c = h.count in let m = h.numbers in record { count = omega arith; numbers = omega arith }

  pub behind_fits : (s : TypedStatement) (b : TypedBlock) (n k : ℕ) → k ≡ points procs s → HasPlaces procs (left (Then s b) n) → HasPlaces procs (left b (n + k))
  behind_fits s b n k e h = let c = h.count in let m = h.numbers in record { count = omega arith; numbers = omega arith }

  pub nothing_fits : (s : TypedStatement) (n : ℕ) → StatementFits procs s n → HasPlaces procs (left Empty n)
  nothing_fits s n h = let m = h.numbers in record { count = omega arith; numbers = omega arith }

  pub body_fits : (s : TypedStatement) (n : ℕ) → StatementFits procs s n → HasPlaces procs (body_of s n)
  body_fits (While at g is x) n h = let c = h.count in let m = h.numbers in record { count = omega arith; numbers = omega arith }
  body_fits s n h = nothing_fits s n h

  pub past_there : (ss : List TStmt) (s : TStmt) (rest : List TStmt) (n k : ℕ) → ss ≡ s ∷ rest → k ≡ points procs (typed.statement s) →
      left (typed.statements rest) (n + k) ≡ past_in procs (typed.statements ss) n
  past_there ss s rest n k e p =
      ap (λ (m : ℕ). left (typed.statements rest) (n + m)) p ∙ ap (λ (ts : List TStmt). past_in procs (typed.statements ts) n) (sym e)

  assignment_points : (s : TypedStatement) → is_assignment s ≡ true → points procs s ≡ 1
  assignment_points (Assign at cs es) h = refl
  assignment_points (Assert at e) h = cc
  assignment_points (Assume at e) h = cc
  assignment_points (Havoc at cs) h = cc
  assignment_points (Call at cs f es) h = cc
  assignment_points (If at g x y) h = cc
  assignment_points (While at g is x) h = cc
  assignment_points (Break at n) h = cc
  assignment_points (Goto at ns) h = cc
  assignment_points (Return at) h = cc
  assignment_points (Label n) h = cc

  -- the number behind an assignment fits
  pub assignment_room : (s : TypedStatement) (b : TypedBlock) (n : ℕ) → is_assignment s ≡ true → HasPlaces procs (left (Then s b) n) → n + 1 < 2 ^ 64
  assignment_room s b n h f = let m = f.numbers in let e = assignment_points s h in omega arith

  -- nothing is left, whatever was
  pub nothing_there : (b : TypedBlock) (n : ℕ) → HasPlaces procs (left b n) → HasPlaces procs (left Empty n)
  nothing_there b n h = let m = h.numbers in record { count = omega arith; numbers = omega arith }

  pub assignment_fits : (s : TypedStatement) (b : TypedBlock) (n : ℕ) → is_assignment s ≡ true → HasPlaces procs (left (Then s b) n) → HasPlaces procs (left b (n + 1))
  assignment_fits s b n h f = behind_fits s b n 1 (sym (assignment_points s h)) f

pub first_there : (part : TypedStatement → ℕ → Left) (ss : List TStmt) (s : TStmt) (rest : List TStmt) (n : ℕ) → ss ≡ s ∷ rest →
    part (typed.statement s) n ≡ in_first part (typed.statements ss) n
first_there part ss s rest n e = ap (λ (ts : List TStmt). in_first part (typed.statements ts) n) (sym e)

pub hidden_next : (ss : List TStmt) (s : TStmt) (rest : List TStmt) (n : ℕ) → ss ≡ s ∷ rest → is_assignment (typed.statement s) ≡ true →
    past_hidden_in (typed.statements rest) (n + 1) ≡ past_hidden_in (typed.statements ss) n
hidden_next ss s rest n e h =
    sym (ap (λ (ts : List TStmt). past_hidden_in (typed.statements ts) n) e ∙ rw h refl)

pub hidden_ends : (ss : List TStmt) (s : TStmt) (rest : List TStmt) (n : ℕ) → ss ≡ s ∷ rest → is_assignment (typed.statement s) ≡ false →
    left (typed.statements ss) n ≡ past_hidden_in (typed.statements ss) n
hidden_ends ss s rest n e h =
    ap (λ (ts : List TStmt). left (typed.statements ts) n) e ∙ sym (ap (λ (ts : List TStmt). past_hidden_in (typed.statements ts) n) e ∙ rw h refl)

-- behind the last statement
pub hidden_past : (ss : List TStmt) (n : ℕ) → ss ≡ [] → left (typed.statements ss) n ≡ past_hidden_in (typed.statements ss) n
hidden_past ss n e = ap (λ (ts : List TStmt). left (typed.statements ts) n) e ∙ sym (ap (λ (ts : List TStmt). past_hidden_in (typed.statements ts) n) e)

-- ---- statements in front of others

pub before-append : (ss ts : List tree.Statement) (b : tree.Block) → before (ss ++ ts) b ≡ before ss (before ts b)
before-append [] ts b = refl
before-append (s ∷ ss) ts b = ap (λ c. tree.Then s c) (before-append ss ts b)

-- a list is the statements in front of nothing
pub block_before : (ss : List tree.Statement) → block ss ≡ before ss tree.Empty
block_before [] = refl
block_before (s ∷ ss) = ap (λ b. tree.Then s b) (block_before ss)

-- one statement more, with those behind it
pub statements_on : (done now more : List tree.Statement) (s : tree.Statement) (ts : List tree.Statement) (b whole : tree.Block) → now ≡ done ++ s ∷ [] → more ≡ now ++ ts →
    before done (tree.Then s (before ts b)) ≡ whole → before more b ≡ whole
statements_on done now more s ts b whole p q h =
    ap (λ ys. before ys b) (q ∙ ap (λ ys. ys ++ ts) p) ∙ before-append (done ++ s ∷ []) ts b ∙ before-append done (s ∷ []) (before ts b) ∙ h

-- ---- flags along a list

pub drop_head : {X : Type 0} (xs : List X) (n : ℕ) (y : X) (ys : List X) → drop n xs ≡ y ∷ ys → (slice_get xs n ≡ Some y) × (drop (n + 1) xs ≡ ys)
drop_head [] zero y ys h = let no : ⊥ = cc in absurd no
drop_head [] (suc n) y ys h = let no : ⊥ = cc in absurd no
drop_head (x ∷ xs) zero y ys h = (let e : x ≡ y = cc in ap Some e, let e : xs ≡ ys = cc in e)
drop_head (x ∷ xs) (suc n) y ys h =
    let r = drop_head xs n y ys h in
    let e : suc n + 1 ≡ suc (n + 1) = omega arith in
    (r.0, ap (λ m. drop m (x ∷ xs)) e ∙ r.1)

pub flag_here : (xs : List Bool) (n : ℕ) (y : Bool) (ys : List Bool) → drop n xs ≡ y ∷ ys → flag (slice_get xs n) ≡ y
flag_here xs n y ys h = ap flag (drop_head xs n y ys h).0

-- ---- lists with what holds at their loops and behind their labels

-- one statement more, with what holds behind it
pub explained_on : (w : Setting) (s : tree.Statement) (b : tree.Block) (l : Left) (left_here : Bool) (done now new : List tree.Statement) (whole : tree.Block) → left_here ≡ is_left s b →
    now ≡ done ++ explained_statement w s l ∷ [] → new ≡ now ++ map asserted (assertions_behind w left_here l) → before done (explained_block w (tree.Then s b) l) ≡ whole →
    before new (explained_block w b (behind w.procs s l)) ≡ whole
explained_on w s b l left_here done now new whole f m n h =
    statements_on done now new (explained_statement w s l) (map asserted (assertions_behind w (is_left s b) l)) (explained_block w b (behind w.procs s l)) whole m
    (n ∙ ap (λ g. now ++ map asserted (assertions_behind w g l)) f) h

-- one flag more
pub labels_on : (ss : List Stmt) (s : Stmt) (rest : List Stmt) (now new whole : List Bool) → ss ≡ s ∷ rest → now ++ left_labels (seen.statements ss) ≡ whole →
    new ≡ now ++ is_left (seen.statement s) (seen.statements rest) ∷ [] → new ++ left_labels (seen.statements rest) ≡ whole
labels_on ss s rest now new whole e was n =
    ap (λ ys. ys ++ left_labels (seen.statements rest)) n ∙ append_assoc now (is_left (seen.statement s) (seen.statements rest) ∷ []) (left_labels (seen.statements rest)) ∙
    ap (λ (ts : List Stmt). now ++ left_labels (seen.statements ts)) (sym e) ∙ was

pub labels_end : (ss : List Stmt) (now whole : List Bool) → ss ≡ [] → now ++ left_labels (seen.statements ss) ≡ whole → now ≡ whole
labels_end ss now whole e was = sym (append-nil now) ∙ ap (λ (ts : List Stmt). now ++ left_labels (seen.statements ts)) (sym e) ∙ was

-- a branch whose branches are explained
pub branch_explained : (w : Setting) (s : tree.Statement) (at : Span) (g : tree.Guard) (a b c d : tree.Block) (l first second : Left) (r : tree.Statement) → s ≡ tree.If at g a b →
    first ≡ first_branch l → second ≡ second_branch w.procs l → c ≡ explained_block w a first → d ≡ explained_block w b second → r ≡ tree.If at g c d → r ≡ explained_statement w s l
branch_explained w s at g a b c d l first second r e f k p q h =
    h ∙ ap (λ (x : tree.Block). tree.If at g x d) (p ∙ ap (explained_block w a) f) ∙ ap (λ (y : tree.Block). tree.If at g (explained_block w a (first_branch l)) y) (q ∙ ap (explained_block w b) k) ∙
    ap (λ (t : tree.Statement). explained_statement w t l) (sym e)
