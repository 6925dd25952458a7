-- Reading statements, step by step as the code does it. `reads` reads expressions, and is given how many parentheses may be open in one at once;
-- `p` is how many may be open at once in a statement.
use Rattle.std.specs.Prelude.{ℕ, zero, suc, List, [], ◌∷◌, length, Option, None, Some, Ok, Err}
use Rattle.boogie_tree.specs.declared.span.Span.{Span}
use Rattle.boogie_tree.specs.declared.tree.Name.{Name}
use Rattle.boogie_tree.specs.Tree.{Expression, Guard, Statement, Assert, Assume, Havoc, Assign, Call, If, While, Break, Goto, Return, Label, Block, Empty, Then}
use Rattle.boogie_tree.specs.View.{block}
use Rattle.boogie_parse.specs.declared.fault.Which.TheVariants as which
use Rattle.boogie_parse.specs.declared.symbols.Fixed.TheVariants as fixed
use Rattle.boogie_parse.specs.declared.symbols.Sign.{Sign}
use Rattle.boogie_parse.specs.declared.symbols.Sign.TheVariants as signs
use Rattle.boogie_parse.specs.declared.symbols.Symbol.{Symbol}
use Rattle.boogie_parse.specs.Reading.Outcomes.{Read, ReadResult, limit_fault}
use Rattle.boogie_parse.specs.Reading.ListReading.{◌>>=◌, read, Possible, there, one_there, repeated, seen, behind, name_at, names_at, listed_names, expressions_at, arguments_at, guard_at, claim_at, invariants_at}

-- How to read what opens a block: a block, and the branch of an `else if`, from behind that `if` on.
pub record Inside : Type 0 where
  pub block : List Symbol → ReadResult Block
  pub branch : Span → List Symbol → ReadResult Statement

-- what stands behind `else`
abbrev pub other_by : Inside → List Symbol → Option (Read Span) → ReadResult Block
other_by inside ts (Some word) = do
  s ← inside.branch word.value word.rest
  read (Then s.value Empty) s.rest
other_by inside ts None = inside.block ts

abbrev pub else_by : Inside → Span → Guard → Block → List Symbol → Option (Read Span) → ReadResult Statement
else_by inside here g a ts None = read (If here g a Empty) ts
else_by inside here g a ts (Some word) = do
  b ← other_by inside word.rest (seen fixed.If word.rest)
  read (If here g a b.value) b.rest

abbrev pub break_by : Span → Span → List Symbol → Option (Read Span) → ReadResult Statement
break_by end here ts (Some semicolon) = read (Break here None) semicolon.rest
break_by end here ts None = do
  x ← name_at end ts
  semicolon ← behind end fixed.Semicolon x.rest
  read (Break here (Some x.value)) semicolon.rest

-- a statement, behind its first word, which stands `here`
unfoldable pub break_at : Span → Span → List Symbol → ReadResult Statement
break_at end here ts = break_by end here ts (seen fixed.Semicolon ts)

unfoldable pub return_at : Span → Span → List Symbol → ReadResult Statement
return_at end here ts = do
  semicolon ← behind end fixed.Semicolon ts
  read (Return here) semicolon.rest

unfoldable pub havoc_at : Span → Span → List Symbol → ReadResult Statement
havoc_at end here ts = do
  xs ← listed_names end ts
  read (Havoc here xs.value) xs.rest

unfoldable pub goto_at : Span → Span → List Symbol → ReadResult Statement
goto_at end here ts = do
  xs ← listed_names end ts
  read (Goto here xs.value) xs.rest

module _ (reads : ℕ → List Symbol → ReadResult Expression) (end : Span) (p : ℕ) where
  unfoldable pub assert_at : Span → List Symbol → ReadResult Statement
  assert_at here ts = do
    e ← claim_at reads end p ts
    read (Assert here e.value) e.rest

  unfoldable pub assume_at : Span → List Symbol → ReadResult Statement
  assume_at here ts = do
    e ← claim_at reads end p ts
    read (Assume here e.value) e.rest

  -- an assignment, from its first target on, which stands `here`
  unfoldable pub assign_at : Span → List Symbol → ReadResult Statement
  assign_at here ts = do
    xs ← names_at end (length ts) ts
    becomes ← behind end fixed.Becomes xs.rest
    es ← expressions_at reads end p becomes.rest
    semicolon ← behind end fixed.Semicolon es.rest
    read (Assign here xs.value es.value) semicolon.rest

  -- a call, behind the procedure's name
  unfoldable pub called_at : Span → List Name → Name → List Symbol → ReadResult Statement
  called_at here xs f ts = do
    es ← arguments_at reads end p ts
    semicolon ← behind end fixed.Semicolon es.rest
    read (Call here xs f es.value) semicolon.rest

  unfoldable pub call_into : Span → List Symbol → ReadResult Statement
  call_into here ts = do
    xs ← names_at end (length ts) ts
    becomes ← behind end fixed.Becomes xs.rest
    f ← name_at end becomes.rest
    called_at here xs.value f.value f.rest

  abbrev pub call_by : Span → List Symbol → Read Name → Option (Read Span) → ReadResult Statement
  call_by here ts f (Some parenthesis) = called_at here [] f.value f.rest
  call_by here ts f None = call_into here ts

  unfoldable pub call_at : Span → List Symbol → ReadResult Statement
  call_at here ts = do
    f ← name_at end ts
    call_by here ts f (seen fixed.OpenParenthesis f.rest)

  abbrev pub named_by : Name → List Symbol → Option (Read Span) → ReadResult Statement
  named_by x ts (Some colon) = read (Label x) colon.rest
  named_by x ts None = assign_at x.span ts

  -- a label or an assignment, whose name stands there with ts behind it
  unfoldable pub named_at : Name → List Symbol → List Symbol → ReadResult Statement
  named_at x ts rest = named_by x ts (seen fixed.Colon rest)

  unfoldable pub loop_at : (List Symbol → ReadResult Block) → Span → List Symbol → ReadResult Statement
  loop_at block_at here ts = do
    g ← guard_at reads end p ts
    is ← invariants_at reads end p g.rest
    b ← block_at is.rest
    read (While here g.value is.value b.value) b.rest

  -- a branch, behind its `if`
  unfoldable pub branch_by : Inside → Span → List Symbol → ReadResult Statement
  branch_by inside here ts = do
    g ← guard_at reads end p ts
    a ← inside.block g.rest
    else_by inside here g.value a.value a.rest (seen fixed.Else a.rest)

  abbrev pub statement_by : Inside → Symbol → List Symbol → Sign → Possible Statement
  statement_by inside t ts (signs.Fixed fixed.Assert) = there (assert_at t.span ts)
  statement_by inside t ts (signs.Fixed fixed.Assume) = there (assume_at t.span ts)
  statement_by inside t ts (signs.Fixed fixed.Havoc) = there (havoc_at end t.span ts)
  statement_by inside t ts (signs.Fixed fixed.Call) = there (call_at t.span ts)
  statement_by inside t ts (signs.Fixed fixed.If) = there (branch_by inside t.span ts)
  statement_by inside t ts (signs.Fixed fixed.While) = there (loop_at inside.block t.span ts)
  statement_by inside t ts (signs.Fixed fixed.Break) = there (break_at end t.span ts)
  statement_by inside t ts (signs.Fixed fixed.Goto) = there (goto_at end t.span ts)
  statement_by inside t ts (signs.Fixed fixed.Return) = there (return_at end t.span ts)
  statement_by inside t ts (signs.Name x) = there (named_at (record { span = t.span; text = x }) (t ∷ ts) ts)
  statement_by inside t ts sign = Ok None

  -- a statement, if one stands there
  unfoldable pub statement_at : Inside → List Symbol → Possible Statement
  statement_at inside [] = Ok None
  statement_at inside (t ∷ ts) = statement_by inside t ts t.sign

  abbrev pub statement_item : Inside → ℕ → List Symbol → Possible (List Statement)
  statement_item inside room ts = one_there (statement_at inside ts)

  -- the statements that stand there
  unfoldable pub list_at : Inside → List Symbol → ReadResult (List Statement)
  list_at inside ts = repeated (statement_item inside) length 0 (length ts) ts

  -- statements in braces, where no block may be opened
  unfoldable pub no_block : List Symbol → ReadResult Block
  no_block ts = do
    brace ← behind end fixed.OpenBrace ts
    Err (limit_fault which.Nesting brace.value)

  -- statements in braces
  unfoldable pub block_by : Inside → List Symbol → ReadResult Block
  block_by inside ts = do
    brace ← behind end fixed.OpenBrace ts
    ss ← list_at inside brace.rest
    closing ← behind end fixed.CloseBrace ss.rest
    read (block ss.value) closing.rest

  -- a branch inside a block, where no block may be opened
  unfoldable pub no_branch : Span → List Symbol → ReadResult Statement
  no_branch here ts = Err (limit_fault which.Nesting here)

  abbrev pub deeper : Inside → Inside
  deeper inside = record { block = block_by inside; branch = branch_by inside }

  -- what opens a block, where so many blocks may be opened
  unfoldable pub inside_at : ℕ → Inside
  inside_at zero = record { block = no_block; branch = no_branch }
  inside_at (suc b) = deeper (inside_at b)
