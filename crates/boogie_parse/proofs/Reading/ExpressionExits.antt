-- What reading gives where a step of an expression fails, goes too deep or is the last.
use Rattle.std.proofs.Common.{◌≡◌, ◌≢◌, ℕ, zero, suc, ◌-◌, ◌<◌, ◌≤◌, true, false, List, None, Some, Result, Err, refl, sym, ap, ◌∙◌, subst, arith}
use Rattle.std.specs.Prelude.{nat_le, nat_eq}
use Rattle.std.proofs.lemmas.Bool.Decides.{nat_tests}
use Rattle.boogie_tree.specs.declared.span.Span.{Span}
use Rattle.boogie_tree.specs.declared.level.Level.{Level}
use Rattle.boogie_tree.specs.declared.level.Level.TheVariants.{Implication, Comparison, Disjunction}
use Rattle.boogie_tree.specs.Tree.{Expression, Bin, Old}
use Rattle.boogie_parse.specs.declared.fault.Fault.{Fault}
use Rattle.boogie_parse.specs.declared.fault.Which.TheVariants.{Nesting}
use Rattle.boogie_parse.specs.declared.symbols.Symbol.{Symbol}
use Rattle.boogie_parse.specs.declared.grammar.found.Found.{Found}
use Rattle.boogie_parse.specs.declared.grammar.expressions.operators.Chain.{Chain}
use Rattle.boogie_parse.specs.declared.grammar.expressions.operators.Chain.TheVariants as chains
use Rattle.boogie_parse.specs.Rules.GrammarLimits.{depth}
use Rattle.boogie_parse.specs.Reading.Outcomes.{ReadResult, place_or, syntax_fault, limit_fault, and_then}
use Rattle.boogie_parse.specs.Ties.ExpressionViews.{Gives}
use Rattle.boogie_parse.specs.Reading.ExpressionReading.{Reader, done, unless_deep, Infix, infix_at, unless_alone, binary_operation, level_of_chain, chain_behind, opens, closes, behind_sign, prefix_at, primary, unary, factor_chain, sum, comparison, junction_by, implication, equivalence, old_value, inside}
use Rattle.boogie_parse.proofs.Reading.ExpressionSteps.{unary_step, implication_step, inside_step, chain_stops}

-- what was read is no fault
pub never_fails : (a : Expression) (r : List Symbol) (f : Fault) (whole : ReadResult Expression) → done a r ≡ Err f → whole ≡ Err f
never_fails a r f whole h = absurd (let no : ⊥ = cc in no)

-- a loop over a chain ends where no operator follows
pub turn_stops : (c : Chain) (operand : Reader) (here : Span) (d k : ℕ) (a : Expression) (r : List Symbol) (whole : ReadResult Expression) (l : Level)
    → chain_behind c operand here d k a r ≡ whole → l ≡ level_of_chain c → None ≡ infix_at l r → whole ≡ done a r
turn_stops c operand here d k a r whole l now level none =
    sym now ∙ chain_stops c operand here d k a r (sym (none ∙ ap (λ m. infix_at m r) level))

-- a first operand, and at most one operation on it
abbrev pub joined : ReadResult Expression → Level → (List Symbol → ReadResult Expression) → Span → ℕ → ReadResult Expression
joined first level next here d = and_then first (λ a r. unless_alone a r (λ o at m. unless_deep (nat_le d (depth a)) at (binary_operation here o a (next m))) (infix_at level r))

module _ (first : ReadResult Expression) (level : Level) (next : List Symbol → ReadResult Expression) (here : Span) (d : ℕ) where
  pub first_fails : (f : Fault) → first ≡ Err f → joined first level next here d ≡ Err f
  first_fails f h = rw h refl

  pub stays_alone : (a : Expression) (r : List Symbol) → first ≡ done a r → None ≡ infix_at level r → joined first level next here d ≡ done a r
  stays_alone a r h none = rw (h, ← none) refl

  pub goes_too_deep : (a : Expression) (r : List Symbol) (x : Infix) (h : ℕ) (f : Fault)
      → first ≡ done a r → Some x ≡ infix_at level r → h ≡ depth a → d ≤ h → f ≡ limit_fault Nesting x.1 → joined first level next here d ≡ Err f
  goes_too_deep a r x h f is seen height deep e =
      let low : d ≤ depth a = omega arith in
      let test : nat_le d (depth a) ≡ true = grind (arith, nat_tests) in rw (is, ← seen, test, e) refl

  pub next_fails : (a : Expression) (r : List Symbol) (x : Infix) (h : ℕ) (f : Fault)
      → first ≡ done a r → Some x ≡ infix_at level r → h ≡ depth a → h < d → next x.2 ≡ Err f → joined first level next here d ≡ Err f
  next_fails a r x h f is seen height low e =
      let high : depth a < d = omega arith in
      let test : nat_le d (depth a) ≡ false = grind (arith, nat_tests) in rw (is, ← seen, test, e) refl

  pub next_gives : (a : Expression) (r : List Symbol) (x : Infix) (h : ℕ) (b : Expression) (m : List Symbol)
      → first ≡ done a r → Some x ≡ infix_at level r → h ≡ depth a → h < d → next x.2 ≡ done b m → joined first level next here d ≡ done (Bin here x.0 a b) m
  next_gives a r x h b m is seen height low e =
      let high : depth a < d = omega arith in
      let test : nat_le d (depth a) ≡ false = grind (arith, nat_tests) in rw (is, ← seen, test, e) refl

  pub operation_gives : (result : Result Found Fault) (place : Span) (a : Expression) (r : List Symbol) (x : Infix) (h : ℕ) (b : Expression) (m : List Symbol)
      → first ≡ done a r → Some x ≡ infix_at level r → h ≡ depth a → h < d → next x.2 ≡ done b m → place ≡ here → Gives result (done (Bin place x.0 a b) m)
      → Gives result (joined first level next here d)
  operation_gives result place a r x h b m is seen height low e at g =
      subst (λ o. Gives result o) (sym (next_gives a r x h b m is seen height low e)) (subst (λ s. Gives result (done (Bin s x.0 a b) m)) at g)

-- A comparison and an operand of a chain of `<=>`, from the operand that stands first, level by level. `here` is their place.
module _ (end : Span) (inner : Reader) (d : ℕ) (ts : List Symbol) (here : Span) (at : here ≡ place_or end ts) where
  -- what is behind the first operand of each level
  abbrev pub products : Expression → List Symbol → ReadResult Expression
  products = chain_behind chains.Product (unary end inner) here d d

  abbrev pub sums : Expression → List Symbol → ReadResult Expression
  sums = chain_behind chains.Sum (factor_chain end inner) here d d

  abbrev pub compares : Expression → List Symbol → ReadResult Expression
  compares a r = unless_alone a r (λ o m_at m. unless_deep (nat_le d (depth a)) m_at (binary_operation here o a (sum end inner (d - 1) m))) (infix_at Comparison r)

  abbrev pub joins_on : Expression → List Symbol → ReadResult Expression
  joins_on a r = chain_behind (junction_by (infix_at Disjunction r)) (comparison end inner) here d d a r

  abbrev pub implies : Expression → List Symbol → ReadResult Expression
  implies a r = unless_alone a r (λ o m_at m. unless_deep (nat_le d (depth a)) m_at (binary_operation here o a (implication end inner (d - 1) m))) (infix_at Implication r)

  pub comparison_first_fails : (f : Fault) → unary end inner d ts ≡ Err f → comparison end inner d ts ≡ Err f
  unfolding comparison
  comparison_first_fails f e = rw e refl

  pub comparison_product_fails : (a : Expression) (r : List Symbol) (f : Fault) → unary end inner d ts ≡ done a r → products a r ≡ Err f → comparison end inner d ts ≡ Err f
  unfolding comparison
  comparison_product_fails a r f first e = rw (first, ← at, e) refl

  pub comparison_sum_fails : (a : Expression) (r : List Symbol) (b : Expression) (s : List Symbol) (f : Fault)
      → unary end inner d ts ≡ done a r → products a r ≡ done b s → sums b s ≡ Err f → comparison end inner d ts ≡ Err f
  unfolding comparison
  comparison_sum_fails a r b s f first factor_chain e = rw (first, ← at, factor_chain, e) refl

  pub comparison_goes : (a : Expression) (r : List Symbol) (b : Expression) (s : List Symbol) (g : Expression) (t : List Symbol)
      → unary end inner d ts ≡ done a r → products a r ≡ done b s → sums b s ≡ done g t → comparison end inner d ts ≡ compares g t
  unfolding comparison
  comparison_goes a r b s g t first factor_chain sum = rw (first, ← at, factor_chain, sum) refl

  pub implication_comparison_fails : (f : Fault) → comparison end inner d ts ≡ Err f → implication end inner d ts ≡ Err f
  implication_comparison_fails f e = rw (implication_step end inner d ts, e) refl

  pub implication_junction_fails : (a : Expression) (r : List Symbol) (f : Fault) → comparison end inner d ts ≡ done a r → joins_on a r ≡ Err f → implication end inner d ts ≡ Err f
  implication_junction_fails a r f first e = rw (implication_step end inner d ts, first, ← at, e) refl

  pub implication_goes : (a : Expression) (r : List Symbol) (b : Expression) (s : List Symbol)
      → comparison end inner d ts ≡ done a r → joins_on a r ≡ done b s → implication end inner d ts ≡ implies b s
  implication_goes a r b s first junction = rw (implication_step end inner d ts, first, ← at, junction) refl

-- a whole chain of `<=>`
module _ (end : Span) (inner : Reader) (d : ℕ) (ts : List Symbol) (here : Span) (at : here ≡ place_or end ts) where
  pub equivalence_fails : (f : Fault) → implication end inner d ts ≡ Err f → equivalence end inner d ts ≡ Err f
  equivalence_fails f e = rw e refl

  pub equivalence_goes : (a : Expression) (r : List Symbol) → implication end inner d ts ≡ done a r
      → equivalence end inner d ts ≡ chain_behind chains.Equivalence (implication end inner) here d d a r
  equivalence_goes a r first = rw (first, ← at) refl

-- `!` and unary `-`
module _ (end : Span) (inner : Reader) (d : ℕ) (ts : List Symbol) where
  pub unary_plain : None ≡ prefix_at ts → unary end inner d ts ≡ primary end inner d ts
  unary_plain none = rw (unary_step end inner d ts, ← none) refl

-- an operator before its operand
module _ (d : ℕ) (at : Span) (x : ReadResult Expression) where
  pub prefix_deep : (f : Fault) → d ≡ 0 → f ≡ limit_fault Nesting at → unless_deep (nat_eq d 0) at x ≡ Err f
  prefix_deep f none e = let test : nat_eq d 0 ≡ true = grind (arith, nat_tests) in rw (test, e) refl

  pub prefix_goes : d ≢ 0 → unless_deep (nat_eq d 0) at x ≡ x
  prefix_goes some = let test : nat_eq d 0 ≡ false = grind (arith, nat_tests) in rw test refl

-- what stands behind `old`
old_step : (inner : Reader) (here : Span) (d : ℕ) (ts : List Symbol) → d ≢ 0 → old_value inner here d ts ≡ and_then (inner (d - 1) ts) (λ e r. done (Old here e) r)
old_step inner here zero ts some = absurd (some refl)
old_step inner here (suc d) ts some = let less : suc d - 1 ≡ d = omega arith in rw less refl

module _ (inner : Reader) (here : Span) (d : ℕ) (ts : List Symbol) where
  pub old_deep : (f : Fault) → d ≡ 0 → f ≡ limit_fault Nesting here → old_value inner here d ts ≡ Err f
  old_deep f none e = rw (none, e) refl

  pub old_fails : (f : Fault) → d ≢ 0 → inner (d - 1) ts ≡ Err f → old_value inner here d ts ≡ Err f
  old_fails f some e = rw (old_step inner here d ts some, e) refl

  pub old_gives : (e : Expression) (r : List Symbol) → d ≢ 0 → inner (d - 1) ts ≡ done e r → old_value inner here d ts ≡ done (Old here e) r
  old_gives e r some h = rw (old_step inner here d ts some, h) refl

-- an expression in parentheses
module _ (end : Span) (p d : ℕ) (ts : List Symbol) where
  pub unopened : (f : Fault) → None ≡ behind_sign opens ts → f ≡ syntax_fault (place_or end ts) → inside end p d ts ≡ Err f
  unopened f none e = rw (inside_step end p d ts, ← none, e) refl

  pub too_many : (m : List Symbol) (here : Span) (f : Fault) → Some m ≡ behind_sign opens ts → p ≡ 0 → here ≡ place_or end ts → f ≡ limit_fault Nesting here → inside end p d ts ≡ Err f
  too_many m here f seen none at e = let test : nat_eq p 0 ≡ true = grind (arith, nat_tests) in rw (inside_step end p d ts, ← seen, test, e, at) refl

  pub inner_fails : (m : List Symbol) (f : Fault) → Some m ≡ behind_sign opens ts → p ≢ 0 → equivalence end (inside end (p - 1)) d m ≡ Err f → inside end p d ts ≡ Err f
  inner_fails m f seen some e = let test : nat_eq p 0 ≡ false = grind (arith, nat_tests) in rw (inside_step end p d ts, ← seen, test, e) refl

  pub unclosed : (m : List Symbol) (e : Expression) (r : List Symbol) (f : Fault) → Some m ≡ behind_sign opens ts → p ≢ 0 → equivalence end (inside end (p - 1)) d m ≡ done e r
      → None ≡ behind_sign closes r → f ≡ syntax_fault (place_or end r) → inside end p d ts ≡ Err f
  unclosed m e r f seen some h none is = let test : nat_eq p 0 ≡ false = grind (arith, nat_tests) in rw (inside_step end p d ts, ← seen, test, h, ← none, is) refl

  pub closed_again : (m : List Symbol) (e : Expression) (r n : List Symbol) → Some m ≡ behind_sign opens ts → p ≢ 0 → equivalence end (inside end (p - 1)) d m ≡ done e r
      → Some n ≡ behind_sign closes r → inside end p d ts ≡ done e n
  closed_again m e r n seen some h close = let test : nat_eq p 0 ≡ false = grind (arith, nat_tests) in rw (inside_step end p d ts, ← seen, test, h, ← close) refl
