-- What opens a block, in one step for every number of blocks that may be opened.
use Rattle.std.proofs.Common.{◌≡◌, ◌≢◌, ℕ, zero, suc, ◌-◌, List, Err, refl, ap, ◌∙◌, arith}
use Rattle.boogie_tree.specs.declared.span.Span.{Span}
use Rattle.boogie_tree.specs.View.{block}
use Rattle.boogie_parse.specs.declared.fault.Fault.{Fault}
use Rattle.boogie_parse.specs.declared.fault.Which.TheVariants.{Nesting}
use Rattle.boogie_parse.specs.declared.symbols.Fixed.TheVariants as fixed
use Rattle.boogie_parse.specs.declared.symbols.Symbol.{Symbol}
use Rattle.boogie_parse.specs.Reading.Outcomes.{limit_fault}
use Rattle.boogie_parse.specs.Reading.ListReading.{◌>>=◌, read, behind, expression_at}
use Rattle.boogie_parse.specs.Reading.StatementReading.{list_at, no_block, block_by, no_branch, branch_by, inside_at}
use Rattle.boogie_parse.specs.Ties.StatementViews.{inside}

-- no brace
pub block_unopened : (end : Span) (b : ℕ) (ts : List Symbol) (f : Fault) → behind end fixed.OpenBrace ts ≡ Err f → (inside end b).block ts ≡ Err f
unfolding inside_at no_block block_by
block_unopened end zero ts f h = rw h refl
block_unopened end (suc b) ts f h = rw h refl

-- a brace, where no block may be opened
pub block_full : (end : Span) (b : ℕ) (ts : List Symbol) (here : Span) (rest : List Symbol) (f : Fault)
    → behind end fixed.OpenBrace ts ≡ read here rest → b ≡ 0 → f ≡ limit_fault Nesting here → (inside end b).block ts ≡ Err f
unfolding inside_at no_block
block_full end b ts here rest f h none e = rw (none, h, e) refl

-- a brace, where a block may be opened
pub block_opened : (end : Span) (b : ℕ) (ts : List Symbol) (here : Span) (rest : List Symbol) → behind end fixed.OpenBrace ts ≡ read here rest → b ≢ 0
    → (inside end b).block ts ≡ (list_at (expression_at end) end 200 (inside end (b - 1)) rest >>= λ ss. behind end fixed.CloseBrace ss.rest >>= λ closing. read (block ss.value) closing.rest)
unfolding inside_at block_by
block_opened end zero ts here rest h some = absurd (some refl)
block_opened end (suc b) ts here rest h some = let less : suc b - 1 ≡ b = omega arith in rw (h, less) refl

pub block_fails : (end : Span) (b : ℕ) (ts : List Symbol) (here : Span) (rest : List Symbol) (f : Fault) → behind end fixed.OpenBrace ts ≡ read here rest → b ≢ 0
    → list_at (expression_at end) end 200 (inside end (b - 1)) rest ≡ Err f → (inside end b).block ts ≡ Err f
block_fails end b ts here rest f h some e =
    block_opened end b ts here rest h some ∙ ap (λ o. o >>= λ ss. behind end fixed.CloseBrace ss.rest >>= λ closing. read (block ss.value) closing.rest) e

-- a branch inside a block
pub branch_full : (end : Span) (b : ℕ) (here : Span) (ts : List Symbol) (f : Fault) → b ≡ 0 → f ≡ limit_fault Nesting here → (inside end b).branch here ts ≡ Err f
unfolding inside_at no_branch
branch_full end b here ts f none e = rw (none, e) refl

pub branch_goes : (end : Span) (b : ℕ) (here : Span) (ts : List Symbol) → b ≢ 0
    → (inside end b).branch here ts ≡ branch_by (expression_at end) end 200 (inside end (b - 1)) here ts
unfolding inside_at
branch_goes end zero here ts some = absurd (some refl)
branch_goes end (suc b) here ts some = let less : suc b - 1 ≡ b = omega arith in rw less refl
