-- Blocks that are made statement by statement.
use Rattle.std.proofs.Common.{◌≡◌, ℕ, ◌+◌, ◌<◌, List, [], ◌∷◌, ◌++◌, length, drop, get_or, Option, None, Some, false, true, refl, ap, sym, subst, ◌∙◌, arith}
use Rattle.std.proofs.lemmas.List.{drop_more}
use Rattle.std.proofs.lemmas.Bool.{false≢true}
use Rattle.boogie_tree.specs.declared.tree.Stmt.{Stmt}
use Rattle.boogie_tree.specs.Tree as tree
use Rattle.boogie_tree.specs.View as view
use Rattle.typed_tree.specs.declared.fault.TypeFault.{TypeFault}
use Rattle.typed_tree.specs.TypedTree.{TypedStatement, TypedBlock, Empty, Then}
use Rattle.typed_tree.specs.TypedView as typed
use Rattle.boogie_types.specs.Naming.{NamingPlace, named_statement, named_block, hidden_in, hidden_in_block, label_of, from_both, in_front}
use Rattle.boogie_types.specs.Ties.Making.{made, block_made}
use Rattle.boogie_types.specs.BrokenNames.{IsMisnamed, IsMisnamedIn, first, later}

in_front-append : (xs ys : List TypedStatement) (b : TypedBlock) → in_front (xs ++ ys) b ≡ in_front xs (in_front ys b)
in_front-append [] ys b = refl
in_front-append (x ∷ xs) ys b = ap (Then x) (in_front-append xs ys b)

in_front-block : (xs : List TypedStatement) → in_front xs Empty ≡ typed.block xs
in_front-block [] = refl
in_front-block (x ∷ xs) = ap (Then x) (in_front-block xs)

-- nothing is left to be made
pub block_end : (done : List TypedStatement) → block_made done (Some Empty) ≡ Some (typed.block done)
block_end done = ap (λ (b : TypedBlock). Some b) (in_front-block done)

-- one statement more is made
joined : (done new : List TypedStatement) (o : Option (List TypedStatement)) (rest : Option TypedBlock) → made done o ≡ Some new →
    block_made done (from_both in_front o rest) ≡ block_made new rest
joined done new None rest e = absurd (false≢true (let x : false ≡ true = cc in x))
joined done new (Some ss) None e = refl
joined done new (Some ss) (Some b) e =
    let n : done ++ ss ≡ new = cc in
    ap (λ (c : TypedBlock). Some c) (sym (in_front-append done ss b) ∙ ap (λ (xs : List TypedStatement). in_front xs b) n)

-- the statements from a place on
statements-drop : (stmts : List Stmt) (i : ℕ) (x : Stmt) → i < length stmts → x ≡ get_or stmts i x →
    view.statements (drop i stmts) ≡ tree.Then (view.statement x) (view.statements (drop (i + 1) stmts))
statements-drop stmts i x l e =
    ap view.statements (drop_more stmts i x l) ∙ ap (λ y. tree.Then (view.statement y) (view.statements (drop (i + 1) stmts))) (sym e)

module _ (p : NamingPlace) (stmts : List Stmt) (i : ℕ) (x : Stmt) (l : i < length stmts) (here : x ≡ get_or stmts i x) where
  -- what is made and what is still to be made stay the whole
  pub block_turn : (before next : Option (List ℕ)) (n m : ℕ) (done new : List TypedStatement) (whole : Option TypedBlock) →
      made done (named_statement p before n (view.statement x)) ≡ Some new → m ≡ n + hidden_in p (view.statement x) → next ≡ label_of (view.statement x) →
      block_made done (named_block p before n (view.statements (drop i stmts))) ≡ whole →
      block_made new (named_block p next m (view.statements (drop (i + 1) stmts))) ≡ whole
  block_turn before next n m done new whole e h b w =
      ap (λ (k : ℕ). block_made new (named_block p next k (view.statements (drop (i + 1) stmts)))) h
      ∙ ap (λ (o : Option (List ℕ)). block_made new (named_block p o (n + hidden_in p (view.statement x)) (view.statements (drop (i + 1) stmts)))) b
      ∙ sym (joined done new (named_statement p before n (view.statement x)) (named_block p (label_of (view.statement x)) (n + hidden_in p (view.statement x)) (view.statements (drop (i + 1) stmts))) e)
      ∙ ap (λ c. block_made done (named_block p before n c)) (sym (statements-drop stmts i x l here)) ∙ w

  -- the hidden locals used and still to be used stay the whole
  pub hidden_turn : (n m whole : ℕ) → m ≡ n + hidden_in p (view.statement x) →
      n + hidden_in_block p (view.statements (drop i stmts)) ≡ whole → m + hidden_in_block p (view.statements (drop (i + 1) stmts)) ≡ whole
  hidden_turn n m whole h w =
      let s : hidden_in_block p (view.statements (drop i stmts)) ≡ hidden_in p (view.statement x) + hidden_in_block p (view.statements (drop (i + 1) stmts)) =
      ap (hidden_in_block p) (statements-drop stmts i x l here) in omega arith

  -- a broken rule further on is one of the whole
  pub faults_turn : (before next : Option (List ℕ)) (whole : TypeFault → Type 0) → next ≡ label_of (view.statement x) →
      ((f : TypeFault) → IsMisnamedIn p before (view.statements (drop i stmts)) f → whole f) →
      (f : TypeFault) → IsMisnamedIn p next (view.statements (drop (i + 1) stmts)) f → whole f
  faults_turn before next whole e w f h =
      w f (subst (λ c. IsMisnamedIn p before c f) (sym (statements-drop stmts i x l here))
      (later p before (view.statement x) (view.statements (drop (i + 1) stmts)) f (subst (λ o. IsMisnamedIn p o (view.statements (drop (i + 1) stmts)) f) e h)))

  -- a broken rule of the statement is one of the whole
  pub fault_turn : (before : Option (List ℕ)) (whole : TypeFault → Type 0) →
      ((f : TypeFault) → IsMisnamedIn p before (view.statements (drop i stmts)) f → whole f) →
      (f : TypeFault) → IsMisnamed p before (view.statement x) f → whole f
  fault_turn before whole w f h =
      w f (subst (λ c. IsMisnamedIn p before c f) (sym (statements-drop stmts i x l here)) (first p before (view.statement x) (view.statements (drop (i + 1) stmts)) f h))

-- how many hidden locals are needed does not depend on the loops around
module _ (p : NamingPlace) (loops : List (Option (List ℕ))) where
  mutual
    pub hidden_anywhere : (s : tree.Statement) → hidden_in (record p { loops = loops }) s ≡ hidden_in p s
    hidden_anywhere (tree.Assert at e) = refl
    hidden_anywhere (tree.Assume at e) = refl
    hidden_anywhere (tree.Havoc at xs) = refl
    hidden_anywhere (tree.Assign at xs es) = refl
    hidden_anywhere (tree.Call at xs f es) = refl
    hidden_anywhere (tree.If at g a b) =
        let x = block_anywhere a in let y = block_anywhere b in omega arith
    hidden_anywhere (tree.While at g is b) = block_anywhere b
    hidden_anywhere (tree.Break at x) = refl
    hidden_anywhere (tree.Goto at xs) = refl
    hidden_anywhere (tree.Return at) = refl
    hidden_anywhere (tree.Label x) = refl

    pub block_anywhere : (b : tree.Block) → hidden_in_block (record p { loops = loops }) b ≡ hidden_in_block p b
    block_anywhere tree.Empty = refl
    block_anywhere (tree.Then s b) =
        let x = hidden_anywhere s in let y = block_anywhere b in omega arith
