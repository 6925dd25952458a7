-- Statements that hold others, by the word that they begin with.
use Rattle.std.proofs.Common.{◌≡◌, ℕ, List, Some, IfSome, Result, Ok, Err, refl, ap, subst}
use Rattle.std.specs.Borrow.{Bor}
use Rattle.boogie_tree.specs.declared.span.Span.{Span}
use Rattle.boogie_tree.specs.declared.tree.Stmt.{Stmt}
use Rattle.boogie_tree.specs.Tree.{Expression, Statement}
use Rattle.boogie_parse.specs.declared.fault.Fault.{Fault}
use Rattle.boogie_parse.specs.declared.symbols.Fixed.{Fixed}
use Rattle.boogie_parse.specs.declared.symbols.Fixed.TheVariants as fixed
use Rattle.boogie_parse.specs.declared.symbols.Symbol.{Symbol}
use Rattle.boogie_parse.specs.Reading.Outcomes.{Read, ReadResult}
use Rattle.boogie_parse.specs.Reading.ListReading.{seen, there, is_there}
use Rattle.boogie_parse.specs.Reading.StatementReading.{Inside, branch_by, loop_at, statement_at}
use Rattle.boogie_parse.specs.Ties.StatementViews.{Adds, AddsIf}
use Rattle.boogie_parse.proofs.Rules.ListSound.{Stands, seen-sound}

-- the word that is seen stands there
stands : (f : Fixed) (ts : List Symbol) (s : Read Span) → seen f ts ≡ Some s → Stands f ts s
stands f ts s e = subst (λ o. IfSome o (Stands f ts)) e (seen-sound f ts)

module _ (reads : ℕ → List Symbol → ReadResult Expression) (end : Span) (p : ℕ) (i : Inside) (ts : List Symbol) (s : Read Span) where
  -- a branch
  pub statement_if : seen fixed.If ts ≡ Some s → statement_at reads end p i ts ≡ there (branch_by reads end p i s.value s.rest)
  unfolding statement_at
  statement_if e = let h = stands fixed.If ts s e in rw (h.all, h.is, h.here) refl

  -- a loop
  pub statement_while : seen fixed.While ts ≡ Some s → statement_at reads end p i ts ≡ there (loop_at reads end p i.block s.value s.rest)
  unfolding statement_at
  statement_while e = let h = stands fixed.While ts s e in rw (h.all, h.is, h.here) refl

-- a statement that was added stands there
pub added_there : (old new : List Stmt) (r : Result (Bor (List Symbol)) Fault) (x : ReadResult Statement) → Adds old new r x → AddsIf old new (is_there r) (there x)
added_there old new (Ok rest) x h = (h.0, h.1, ap there h.2)
added_there old new (Err e) x h = λ m. ap there (h m)
