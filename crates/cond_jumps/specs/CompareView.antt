-- Comparisons and lists of the code as contracts see them.
use Rattle.std.specs.Prelude.{◌≡◌, ◌+◌, ℤ, ◌+ℤ◌, ◌-ℤ◌, true, false, List, [], ◌∷◌, ◌++◌, Result, MatchResult}
use Rattle.lin_rows.specs.declared.types.RowKind.{RowKind}
use Rattle.lin_rows.specs.Rows.{LinearRow}
use Rattle.cond_jumps.specs.declared.conj.Conj.{Conj}
use Rattle.cond_jumps.specs.declared.refusal.Refusal.{Refusal}
use Rattle.cond_jumps.specs.declared.refusal.Refusal.TheVariants.{TooBig}
use Rattle.std.specs.Prelude.{Vec}
use Rattle.std.specs.Global.{Global}
use Rattle.cond_jumps.specs.Conjunctions.{Conjunction, list_fits}
use Rattle.math_facts.specs.Terms.{opposite}
use Rattle.lin_rows.specs.Sums.{row_of}
use Rattle.cond_jumps.specs.Forms.{Linear}
use Rattle.cond_jumps.specs.Conjs.{conjunctions}

-- the list, whose numbers fit, or the refusal that one does not fit
abbrev pub IsListAnswer : List Conjunction → Result (Vec Conj Global) Refusal → Type 0
IsListAnswer cs r = MatchResult r (λ v. (conjunctions v.items ≡ cs) × (list_fits cs ≡ true)) (λ f. f ≡ TooBig → list_fits cs ≡ false)

-- the row `x - y <= k` or `x - y = k`, constants to the right
abbrev pub compared_row : RowKind → ℤ → Linear → Linear → LinearRow
compared_row kind k x y = row_of (x.terms ++ opposite y.terms) kind ((k -ℤ x.constant) +ℤ y.constant)

-- the conjunction of the helpers of two sums and a row
abbrev pub compared_list : LinearRow → Linear → Linear → List Conjunction
compared_list r x y = record { rows = (x.rows ++ y.rows) ++ r ∷ []; helpers = x.helpers + y.helpers } ∷ []
