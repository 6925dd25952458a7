-- What is read as statements is so by the grammar, and within the limits.
use Rattle.std.proofs.Common.{◌≡◌, ℕ, zero, suc, List, [], ◌∷◌, ◌++◌, length, Option, None, Some, IfOk, IfSome, refl, sym, subst}
use Rattle.boogie_tree.specs.declared.span.Span.{Span}
use Rattle.boogie_tree.specs.declared.tree.Name.{Name}
use Rattle.boogie_tree.specs.Tree.{Expression, Guard, Invariant, Statement, Call, If, Block, Empty, Then}
use Rattle.boogie_tree.specs.View.{block}
use Rattle.boogie_parse.specs.declared.symbols.Fixed.TheVariants as fixed
use Rattle.boogie_parse.specs.declared.symbols.Sign.{Sign}
use Rattle.boogie_parse.specs.declared.symbols.Sign.TheVariants as signs
use Rattle.boogie_parse.specs.declared.symbols.Symbol.{Symbol}
use Rattle.boogie_parse.specs.Reading.Outcomes.{Read, ReadResult}
use Rattle.boogie_parse.specs.Rules.Grammar.{Is, symbols_place}
use Rattle.boogie_parse.specs.Rules.GrammarLists.{ReadsNames}
use Rattle.boogie_parse.specs.Rules.GrammarStatements as grammar
use Rattle.boogie_parse.specs.Rules.GrammarStatements.{ReadsStatement, ReadsIf, ReadsBlock, ReadsList}
use Rattle.boogie_parse.specs.Rules.GrammarLimits.{IsShallowStatement, IsShallowBlock}
use Rattle.boogie_parse.specs.Reading.ListReading.{seen, behind, name_at, names_at, listed_names, expressions_at, arguments_at, guard_at, claim_at, invariants_at}
use Rattle.boogie_parse.specs.Reading.StatementReading.{Inside, break_by, break_at, return_at, havoc_at, goto_at, other_by, else_by, assert_at, assume_at, assign_at, called_at, call_into, call_by, call_at, named_by, named_at, loop_at, branch_by, statement_by, statement_at, statement_item, list_at, no_block, block_by, no_branch, inside_at}
use Rattle.boogie_parse.proofs.Rules.ListSound.{then, weaker, Stands, seen-sound, behind-sound, Named, name-sound, AreNames, names-sound, Before, before, listed_names-sound}
use Rattle.boogie_parse.proofs.Rules.ConditionSound.{IfThere, there-sound, repeated-sound, Alone, one_there-sound, IsExpressionRead, AreExpressions, AreArguments, IsGuardRead, AreInvariants, expressions-sound, arguments-sound, guard-sound, claim-sound, invariants-sound}

abbrev pub IsStatementRead : ℕ → ℕ → List Symbol → Statement → List Symbol → Type 0
IsStatementRead p b ts s r = ReadsStatement p b ts s r × IsShallowStatement s

abbrev pub IsBlockRead : ℕ → ℕ → List Symbol → Block → List Symbol → Type 0
IsBlockRead p b ts x r = ReadsBlock p b ts x r × IsShallowBlock x

abbrev pub IsIfRead : ℕ → ℕ → List Symbol → Statement → List Symbol → Type 0
IsIfRead p b ts s r = ReadsIf p b ts s r × IsShallowStatement s

-- statements by the grammar, as a list
abbrev pub AreStatements : ℕ → ℕ → List Symbol → List Statement → List Symbol → Type 0
AreStatements p b ts ss r = ReadsList p b ts (block ss) r × IsShallowBlock (block ss)

-- the arguments of a call and its semicolon
record Called (p : ℕ) (xs : List Name) (f : Name) (here : Span) (ts : List Symbol) (x : Read Statement) : Type 0 where
  es : List Expression
  semicolon : Symbol
  is : Is semicolon fixed.Semicolon
  pub spelled : AreArguments p ts es (semicolon ∷ x.rest)
  call : x.value ≡ Call here xs f es

-- what opens a block is read soundly
pub record IsInside (p : ℕ) (inside : Inside) (b : ℕ) : Type 0 where
  pub block_read : (ts : List Symbol) → IfOk (inside.block ts) (λ x. IsBlockRead p b ts x.value x.rest)
  pub branch_read : (t : Symbol) (ts : List Symbol) → Is t fixed.If → IfOk (inside.branch t.span ts) (λ x. (a : ℕ) × (b ≡ suc a) × IsIfRead p a (t ∷ ts) x.value x.rest)

-- what stands behind `else`
data Other (p b : ℕ) (ts : List Symbol) (x : Read Block) : Type 0 where
  a_block : IsBlockRead p b ts x.value x.rest → Other p b ts x
  a_branch : (a : ℕ) (s : Statement) → b ≡ suc a → x.value ≡ Then s Empty → IsIfRead p a ts s x.rest → Other p b ts x

module _ (reads : ℕ → List Symbol → ReadResult Expression) (end : Span) (p : ℕ)
    (reads-sound : (p : ℕ) (ts : List Symbol) → IfOk (reads p ts) (λ x. IsExpressionRead p ts x.value x.rest)) where
  assert-sound : (b : ℕ) (t : Symbol) (ts : List Symbol) → Is t fixed.Assert → IfOk (assert_at reads end p t.span ts) (λ x. IsStatementRead p b (t ∷ ts) x.value x.rest)
  unfolding assert_at
  assert-sound b t ts is =
      then (Before (IsExpressionRead p ts) fixed.Semicolon) (λ x. IsStatementRead p b (t ∷ ts) x.value x.rest) (claim_at reads end p ts) _ (claim-sound reads end reads-sound p ts) (λ e c.
      (grammar.asserts t c.symbol is c.spelled.0 c.is, c.spelled.1))

  assume-sound : (b : ℕ) (t : Symbol) (ts : List Symbol) → Is t fixed.Assume → IfOk (assume_at reads end p t.span ts) (λ x. IsStatementRead p b (t ∷ ts) x.value x.rest)
  unfolding assume_at
  assume-sound b t ts is =
      then (Before (IsExpressionRead p ts) fixed.Semicolon) (λ x. IsStatementRead p b (t ∷ ts) x.value x.rest) (claim_at reads end p ts) _ (claim-sound reads end reads-sound p ts) (λ e c.
      (grammar.assumes t c.symbol is c.spelled.0 c.is, c.spelled.1))

  havoc-sound : (b : ℕ) (t : Symbol) (ts : List Symbol) → Is t fixed.Havoc → IfOk (havoc_at end t.span ts) (λ x. IsStatementRead p b (t ∷ ts) x.value x.rest)
  unfolding havoc_at
  havoc-sound b t ts is =
      then (Before (ReadsNames ts) fixed.Semicolon) (λ x. IsStatementRead p b (t ∷ ts) x.value x.rest) (listed_names end ts) _ (listed_names-sound end ts) (λ xs c.
      (grammar.havocs t c.symbol is c.spelled c.is, tt))

  goto-sound : (b : ℕ) (t : Symbol) (ts : List Symbol) → Is t fixed.Goto → IfOk (goto_at end t.span ts) (λ x. IsStatementRead p b (t ∷ ts) x.value x.rest)
  unfolding goto_at
  goto-sound b t ts is =
      then (Before (ReadsNames ts) fixed.Semicolon) (λ x. IsStatementRead p b (t ∷ ts) x.value x.rest) (listed_names end ts) _ (listed_names-sound end ts) (λ xs c.
      (grammar.goes_to t c.symbol is c.spelled c.is, tt))

  return-sound : (b : ℕ) (t : Symbol) (ts : List Symbol) → Is t fixed.Return → IfOk (return_at end t.span ts) (λ x. IsStatementRead p b (t ∷ ts) x.value x.rest)
  unfolding return_at
  return-sound b t ts is =
      then (Stands fixed.Semicolon ts) (λ x. IsStatementRead p b (t ∷ ts) x.value x.rest) (behind end fixed.Semicolon ts) _ (behind-sound end fixed.Semicolon ts) (λ r s.
      (rw s.all (grammar.returns t s.symbol is s.is), tt))

  break_by-sound : (b : ℕ) (t : Symbol) (ts : List Symbol) (o : Option (Read Span)) → Is t fixed.Break → IfSome o (Stands fixed.Semicolon ts)
      → IfOk (break_by end t.span ts o) (λ x. IsStatementRead p b (t ∷ ts) x.value x.rest)
  break_by-sound b t ts (Some r) is s = (rw s.all (grammar.breaks t s.symbol is s.is), tt)
  break_by-sound b t ts None is s =
      then (Named ts) (λ x. IsStatementRead p b (t ∷ ts) x.value x.rest) (name_at end ts) _ (name-sound end ts) (λ x n.
      then (Stands fixed.Semicolon x.rest) (λ x. IsStatementRead p b (t ∷ ts) x.value x.rest) (behind end fixed.Semicolon x.rest) _ (behind-sound end fixed.Semicolon x.rest) (λ r c.
      (rw (n.all, c.all) (grammar.breaks_from t n.symbol c.symbol is n.is c.is), tt)))

  break-sound : (b : ℕ) (t : Symbol) (ts : List Symbol) → Is t fixed.Break → IfOk (break_at end t.span ts) (λ x. IsStatementRead p b (t ∷ ts) x.value x.rest)
  unfolding break_at
  break-sound b t ts is = break_by-sound b t ts (seen fixed.Semicolon ts) is (seen-sound fixed.Semicolon ts)

  assign-sound : (b : ℕ) (ts : List Symbol) → IfOk (assign_at reads end p (symbols_place ts) ts) (λ x. IsStatementRead p b ts x.value x.rest)
  unfolding assign_at
  assign-sound b ts =
      then (λ (x : Read (List Name)). AreNames (length ts) ts x.value x.rest) (λ x. IsStatementRead p b ts x.value x.rest) (names_at end (length ts) ts) _ (names-sound end (length ts) ts) (λ xs n.
      then (Stands fixed.Becomes xs.rest) (λ x. IsStatementRead p b ts x.value x.rest) (behind end fixed.Becomes xs.rest) _ (behind-sound end fixed.Becomes xs.rest) (λ becomes s.
      then (λ (x : Read (List Expression)). AreExpressions p becomes.rest x.value x.rest) (λ x. IsStatementRead p b ts x.value x.rest) (expressions_at reads end p becomes.rest) _ (expressions-sound reads end reads-sound p becomes.rest) (λ es h.
      then (Stands fixed.Semicolon es.rest) (λ x. IsStatementRead p b ts x.value x.rest) (behind end fixed.Semicolon es.rest) _ (behind-sound end fixed.Semicolon es.rest) (λ r c.
      let c' = before (AreExpressions p becomes.rest) fixed.Semicolon es.value es.rest r h c in
      let n' = before (ReadsNames ts) fixed.Becomes xs.value xs.rest becomes n.0 s in
      (grammar.assigns n'.symbol c'.symbol n'.spelled n'.is c'.spelled.0 c'.is, c'.spelled.1)))))

  called-sound : (xs : List Name) (f : Name) (here : Span) (ts : List Symbol) → IfOk (called_at reads end p here xs f ts) (Called p xs f here ts)
  unfolding called_at
  called-sound xs f here ts =
      then (λ (x : Read (List Expression)). AreArguments p ts x.value x.rest) (Called p xs f here ts) (arguments_at reads end p ts) _ (arguments-sound reads end reads-sound p ts) (λ es h.
      then (Stands fixed.Semicolon es.rest) (Called p xs f here ts) (behind end fixed.Semicolon es.rest) _ (behind-sound end fixed.Semicolon es.rest) (λ r c.
      let c' = before (AreArguments p ts) fixed.Semicolon es.value es.rest r h c in
      record { es = es.value; semicolon = c'.symbol; is = c'.is; spelled = c'.spelled; call = refl }))

  call_to : (b : ℕ) (t : Symbol) (ts : List Symbol) (f : Read Name) (x : Read Statement) → Is t fixed.Call → Named ts f → Called p [] f.value t.span f.rest x → IsStatementRead p b (t ∷ ts) x.value x.rest
  call_to b t ts f x is n c = rw (c.call, n.all) (grammar.calls t n.symbol c.semicolon is n.is c.spelled.0 c.is, c.spelled.1)

  call_with : (b : ℕ) (t : Symbol) (ts m : List Symbol) (xs : List Name) (becomes : Read Span) (f : Read Name) (x : Read Statement) → Is t fixed.Call → ReadsNames ts xs m → Stands fixed.Becomes m becomes
      → Named becomes.rest f → Called p xs f.value t.span f.rest x → IsStatementRead p b (t ∷ ts) x.value x.rest
  call_with b t ts m xs becomes f x is ns s n c =
      let spelled : ReadsNames ts xs (s.symbol ∷ n.symbol ∷ f.rest) = subst (λ us. ReadsNames ts xs (s.symbol ∷ us)) n.all (subst (ReadsNames ts xs) s.all ns) in
      rw c.call (grammar.calls_into t s.symbol n.symbol c.semicolon is spelled s.is n.is c.spelled.0 c.is, c.spelled.1)

  call_into-sound : (b : ℕ) (t : Symbol) (ts : List Symbol) → Is t fixed.Call → IfOk (call_into reads end p t.span ts) (λ x. IsStatementRead p b (t ∷ ts) x.value x.rest)
  unfolding call_into
  call_into-sound b t ts is =
      then (λ (x : Read (List Name)). AreNames (length ts) ts x.value x.rest) (λ x. IsStatementRead p b (t ∷ ts) x.value x.rest) (names_at end (length ts) ts) _ (names-sound end (length ts) ts) (λ xs ns.
      then (Stands fixed.Becomes xs.rest) (λ x. IsStatementRead p b (t ∷ ts) x.value x.rest) (behind end fixed.Becomes xs.rest) _ (behind-sound end fixed.Becomes xs.rest) (λ becomes s.
      then (Named becomes.rest) (λ x. IsStatementRead p b (t ∷ ts) x.value x.rest) (name_at end becomes.rest) _ (name-sound end becomes.rest) (λ f n.
      weaker (Called p xs.value f.value t.span f.rest) (λ x. IsStatementRead p b (t ∷ ts) x.value x.rest) (called_at reads end p t.span xs.value f.value f.rest) (called-sound xs.value f.value t.span f.rest) (λ x c.
      call_with b t ts xs.rest xs.value becomes f x is ns.0 s n c))))

  call_by-sound : (b : ℕ) (t : Symbol) (ts : List Symbol) (f : Read Name) (o : Option (Read Span)) → Is t fixed.Call → Named ts f
      → IfOk (call_by reads end p t.span ts f o) (λ x. IsStatementRead p b (t ∷ ts) x.value x.rest)
  call_by-sound b t ts f (Some parenthesis) is n =
      weaker (Called p [] f.value t.span f.rest) (λ x. IsStatementRead p b (t ∷ ts) x.value x.rest) (called_at reads end p t.span [] f.value f.rest) (called-sound [] f.value t.span f.rest) (λ x c. call_to b t ts f x is n c)
  call_by-sound b t ts f None is n = call_into-sound b t ts is

  call-sound : (b : ℕ) (t : Symbol) (ts : List Symbol) → Is t fixed.Call → IfOk (call_at reads end p t.span ts) (λ x. IsStatementRead p b (t ∷ ts) x.value x.rest)
  unfolding call_at
  call-sound b t ts is =
      then (Named ts) (λ x. IsStatementRead p b (t ∷ ts) x.value x.rest) (name_at end ts) _ (name-sound end ts) (λ f n. call_by-sound b t ts f (seen fixed.OpenParenthesis f.rest) is n)

  named_by-sound : (b : ℕ) (t : Symbol) (ts : List Symbol) (x : List ℕ) (o : Option (Read Span)) → t.sign ≡ signs.Name x → IfSome o (Stands fixed.Colon ts)
      → IfOk (named_by reads end p (record { span = t.span; text = x }) (t ∷ ts) o) (λ x. IsStatementRead p b (t ∷ ts) x.value x.rest)
  named_by-sound b t ts x (Some colon) is s = (rw s.all (grammar.labels t s.symbol (record { sign = is; span = refl }) s.is), tt)
  named_by-sound b t ts x None is s = assign-sound b (t ∷ ts)

  named-sound : (b : ℕ) (t : Symbol) (ts : List Symbol) (x : List ℕ) → t.sign ≡ signs.Name x
      → IfOk (named_at reads end p (record { span = t.span; text = x }) (t ∷ ts) ts) (λ x. IsStatementRead p b (t ∷ ts) x.value x.rest)
  unfolding named_at
  named-sound b t ts x is = named_by-sound b t ts x (seen fixed.Colon ts) is (seen-sound fixed.Colon ts)

  loop-sound : (inside : Inside) (b : ℕ) → IsInside p inside b → (t : Symbol) (ts : List Symbol) → Is t fixed.While → IfOk (loop_at reads end p inside.block t.span ts) (λ x. IsStatementRead p b (t ∷ ts) x.value x.rest)
  unfolding loop_at
  loop-sound inside b i t ts is =
      then (λ (x : Read Guard). IsGuardRead p ts x.value x.rest) (λ x. IsStatementRead p b (t ∷ ts) x.value x.rest) (guard_at reads end p ts) _ (guard-sound reads end reads-sound p ts) (λ g guard.
      then (λ (x : Read (List Invariant)). AreInvariants p g.rest x.value x.rest) (λ x. IsStatementRead p b (t ∷ ts) x.value x.rest) (invariants_at reads end p g.rest) _ (invariants-sound reads end reads-sound p g.rest) (λ is' invariants.
      then (λ (x : Read Block). IsBlockRead p b is'.rest x.value x.rest) (λ x. IsStatementRead p b (t ∷ ts) x.value x.rest) (inside.block is'.rest) _ (i.block_read is'.rest) (λ x body.
      (grammar.loops t is guard.0 invariants.0 body.0, (guard.1, invariants.1, body.1)))))

  other_branch : (b a : ℕ) (ts : List Symbol) (word : Read Span) (s : Read Statement) (w : Stands fixed.If ts word) → b ≡ suc a → IsIfRead p a (w.symbol ∷ word.rest) s.value s.rest
      → Other p b ts (record { value = Then s.value Empty; rest = s.rest })
  other_branch b a ts word s w e h = a_branch a s.value e refl (subst (λ us. IsIfRead p a us s.value s.rest) (sym w.all) h)

  other-sound : (inside : Inside) (b : ℕ) → IsInside p inside b → (ts : List Symbol) (o : Option (Read Span)) → IfSome o (Stands fixed.If ts) → IfOk (other_by inside ts o) (Other p b ts)
  other-sound inside b i ts None w =
      weaker (λ (x : Read Block). IsBlockRead p b ts x.value x.rest) (Other p b ts) (inside.block ts) (i.block_read ts) (λ x h. a_block h)
  other-sound inside b i ts (Some word) w =
      then (λ (x : Read Statement). (a : ℕ) × (b ≡ suc a) × IsIfRead p a (w.symbol ∷ word.rest) x.value x.rest) (Other p b ts) (inside.branch word.value word.rest) _
      (subst (λ (h : Span). IfOk (inside.branch h word.rest) (λ x. (a : ℕ) × (b ≡ suc a) × IsIfRead p a (w.symbol ∷ word.rest) x.value x.rest)) w.here (i.branch_read w.symbol word.rest w.is))
      (λ s h. other_branch b h.0 ts word s w h.1 h.2)

  with_other : (b : ℕ) (t : Symbol) (ts m n : List Symbol) (g : Guard) (x : Block) (word : Read Span) (y : Read Block) → Is t fixed.If → IsGuardRead p ts g m → IsBlockRead p b m x n
      → Stands fixed.Else n word → Other p b word.rest y → IsIfRead p b (t ∷ ts) (If t.span g x y.value) y.rest
  with_other b t ts m n g x word y is guard body w (a_block h) =
      let spelled : ReadsBlock p b m x (w.symbol ∷ word.rest) = subst (ReadsBlock p b m x) w.all body.0 in
      (grammar.with_else t w.symbol is guard.0 spelled w.is h.0, (guard.1, body.1, h.1))
  with_other b t ts m n g x word y is guard body w (a_branch a s e v h) =
      let spelled : ReadsBlock p b m x (w.symbol ∷ word.rest) = subst (ReadsBlock p b m x) w.all body.0 in
      let deep : ReadsBlock p (suc a) m x (w.symbol ∷ word.rest) = subst (λ k. ReadsBlock p k m x (w.symbol ∷ word.rest)) e spelled in
      rw (e, v) (grammar.with_else_if t w.symbol is guard.0 deep w.is h.0, (guard.1, body.1, (h.1, tt)))

  else-sound : (inside : Inside) (b : ℕ) → IsInside p inside b → (t : Symbol) (ts m n : List Symbol) (g : Guard) (x : Block) (o : Option (Read Span)) → Is t fixed.If → IsGuardRead p ts g m → IsBlockRead p b m x n
      → IfSome o (Stands fixed.Else n) → IfOk (else_by inside t.span g x n o) (λ y. IsIfRead p b (t ∷ ts) y.value y.rest)
  else-sound inside b i t ts m n g x None is guard body w = (grammar.without_else t is guard.0 body.0, (guard.1, body.1, tt))
  else-sound inside b i t ts m n g x (Some word) is guard body w =
      then (Other p b word.rest) (λ y. IsIfRead p b (t ∷ ts) y.value y.rest) (other_by inside word.rest (seen fixed.If word.rest)) _ (other-sound inside b i word.rest (seen fixed.If word.rest) (seen-sound fixed.If word.rest)) (λ y o.
      with_other b t ts m n g x word y is guard body w o)

  branch-sound : (inside : Inside) (b : ℕ) → IsInside p inside b → (t : Symbol) (ts : List Symbol) → Is t fixed.If → IfOk (branch_by reads end p inside t.span ts) (λ y. IsIfRead p b (t ∷ ts) y.value y.rest)
  unfolding branch_by
  branch-sound inside b i t ts is =
      then (λ (x : Read Guard). IsGuardRead p ts x.value x.rest) (λ y. IsIfRead p b (t ∷ ts) y.value y.rest) (guard_at reads end p ts) _ (guard-sound reads end reads-sound p ts) (λ g guard.
      then (λ (x : Read Block). IsBlockRead p b g.rest x.value x.rest) (λ y. IsIfRead p b (t ∷ ts) y.value y.rest) (inside.block g.rest) _ (i.block_read g.rest) (λ x body.
      else-sound inside b i t ts g.rest x.rest g.value x.value (seen fixed.Else x.rest) is guard body (seen-sound fixed.Else x.rest)))

  statement_by-sound : (inside : Inside) (b : ℕ) → IsInside p inside b → (t : Symbol) (ts : List Symbol) (k : Sign) → t.sign ≡ k
      → IfThere (statement_by reads end p inside t ts k) (λ x. IsStatementRead p b (t ∷ ts) x.value x.rest)
  statement_by-sound inside b i t ts (signs.Fixed fixed.Assert) e = there-sound (λ x. IsStatementRead p b (t ∷ ts) x.value x.rest) _ (assert-sound b t ts e)
  statement_by-sound inside b i t ts (signs.Fixed fixed.Assume) e = there-sound (λ x. IsStatementRead p b (t ∷ ts) x.value x.rest) _ (assume-sound b t ts e)
  statement_by-sound inside b i t ts (signs.Fixed fixed.Havoc) e = there-sound (λ x. IsStatementRead p b (t ∷ ts) x.value x.rest) _ (havoc-sound b t ts e)
  statement_by-sound inside b i t ts (signs.Fixed fixed.Call) e = there-sound (λ x. IsStatementRead p b (t ∷ ts) x.value x.rest) _ (call-sound b t ts e)
  statement_by-sound inside b i t ts (signs.Fixed fixed.If) e =
      there-sound (λ x. IsStatementRead p b (t ∷ ts) x.value x.rest) _ (weaker (λ y. IsIfRead p b (t ∷ ts) y.value y.rest) (λ x. IsStatementRead p b (t ∷ ts) x.value x.rest) _ (branch-sound inside b i t ts e) (λ x h. (grammar.branches h.0, h.1)))
  statement_by-sound inside b i t ts (signs.Fixed fixed.While) e = there-sound (λ x. IsStatementRead p b (t ∷ ts) x.value x.rest) _ (loop-sound inside b i t ts e)
  statement_by-sound inside b i t ts (signs.Fixed fixed.Break) e = there-sound (λ x. IsStatementRead p b (t ∷ ts) x.value x.rest) _ (break-sound b t ts e)
  statement_by-sound inside b i t ts (signs.Fixed fixed.Goto) e = there-sound (λ x. IsStatementRead p b (t ∷ ts) x.value x.rest) _ (goto-sound b t ts e)
  statement_by-sound inside b i t ts (signs.Fixed fixed.Return) e = there-sound (λ x. IsStatementRead p b (t ∷ ts) x.value x.rest) _ (return-sound b t ts e)
  statement_by-sound inside b i t ts (signs.Name x) e = there-sound (λ x. IsStatementRead p b (t ∷ ts) x.value x.rest) _ (named-sound b t ts x e)
  statement_by-sound inside b i t ts k e = tt

  pub statement-sound : (inside : Inside) (b : ℕ) → IsInside p inside b → (ts : List Symbol) → IfThere (statement_at reads end p inside ts) (λ x. IsStatementRead p b ts x.value x.rest)
  unfolding statement_at
  statement-sound inside b i [] = tt
  statement-sound inside b i (t ∷ ts) = statement_by-sound inside b i t ts t.sign refl

  next_of_list : (b n : ℕ) (ts : List Symbol) (xs : List Statement) (m : List Symbol) (ys : List Statement) (r : List Symbol)
      → Alone (IsStatementRead p b ts) xs m → AreStatements p b m ys r → AreStatements p b ts (xs ++ ys) r
  next_of_list b n ts xs m ys r i h = rw i.list (grammar.next_statement i.holds.0 h.0, (i.holds.1, h.1))

  list_of-sound : (inside : Inside) (b : ℕ) → IsInside p inside b → (ts : List Symbol) → IfOk (list_at reads end p inside ts) (λ x. AreStatements p b ts x.value x.rest)
  unfolding list_at
  list_of-sound inside b i ts =
      repeated-sound (statement_item reads end p inside) length (λ n us. Alone (IsStatementRead p b us)) (λ n. AreStatements p b) (λ n us. (grammar.no_statement, tt)) (next_of_list b)
      (λ n us. one_there-sound (IsStatementRead p b us) (statement_at reads end p inside us) (statement-sound inside b i us)) (length ts) 0 ts

  braced : (b : ℕ) (ts : List Symbol) (brace : Read Span) (ss : Read (List Statement)) (closing : Read Span) → Stands fixed.OpenBrace ts brace → AreStatements p b brace.rest ss.value ss.rest → Stands fixed.CloseBrace ss.rest closing
      → IsBlockRead p (suc b) ts (block ss.value) closing.rest
  braced b ts brace ss closing s h c =
      let spelled : ReadsList p b brace.rest (block ss.value) (c.symbol ∷ closing.rest) = subst (ReadsList p b brace.rest (block ss.value)) c.all h.0 in
      (rw s.all (grammar.block s.symbol c.symbol s.is spelled c.is), h.1)

  pub block-sound : (inside : Inside) (b : ℕ) → IsInside p inside b → (ts : List Symbol) → IfOk (block_by reads end p inside ts) (λ x. IsBlockRead p (suc b) ts x.value x.rest)
  unfolding block_by
  block-sound inside b i ts =
      then (Stands fixed.OpenBrace ts) (λ x. IsBlockRead p (suc b) ts x.value x.rest) (behind end fixed.OpenBrace ts) _ (behind-sound end fixed.OpenBrace ts) (λ brace s.
      then (λ (x : Read (List Statement)). AreStatements p b brace.rest x.value x.rest) (λ x. IsBlockRead p (suc b) ts x.value x.rest) (list_at reads end p inside brace.rest) _ (list_of-sound inside b i brace.rest) (λ ss h.
      then (Stands fixed.CloseBrace ss.rest) (λ x. IsBlockRead p (suc b) ts x.value x.rest) (behind end fixed.CloseBrace ss.rest) _ (behind-sound end fixed.CloseBrace ss.rest) (λ closing c.
      braced b ts brace ss closing s h c)))

  no_block-sound : (ts : List Symbol) → IfOk (no_block reads end p ts) (λ x. IsBlockRead p zero ts x.value x.rest)
  unfolding no_block
  no_block-sound ts = then (Stands fixed.OpenBrace ts) (λ x. IsBlockRead p zero ts x.value x.rest) (behind end fixed.OpenBrace ts) _ (behind-sound end fixed.OpenBrace ts) (λ brace s. tt)

  no_branch-sound : (t : Symbol) (ts : List Symbol) → IfOk (no_branch reads end p t.span ts) (λ x. (a : ℕ) × (zero ≡ suc a) × IsIfRead p a (t ∷ ts) x.value x.rest)
  unfolding no_branch
  no_branch-sound t ts = tt

  pub inside-sound : (b : ℕ) → IsInside p (inside_at reads end p b) b
  unfolding inside_at
  inside-sound zero = record { block_read = no_block-sound; branch_read = λ t ts is. no_branch-sound t ts }
  inside-sound (suc b) =
      let i = inside-sound b in
      record {
        block_read = block-sound (inside_at reads end p b) b i;
        branch_read = λ t ts is. weaker (λ y. IsIfRead p b (t ∷ ts) y.value y.rest) (λ x. (a : ℕ) × (suc b ≡ suc a) × IsIfRead p a (t ∷ ts) x.value x.rest) _ (branch-sound (inside_at reads end p b) b i t ts is) (λ x h. (b, refl, h));
      }

  pub list-sound : (b : ℕ) (ts : List Symbol) → IfOk (list_at reads end p (inside_at reads end p b) ts) (λ x. AreStatements p b ts x.value x.rest)
  list-sound b ts = list_of-sound (inside_at reads end p b) b (inside-sound b) ts
