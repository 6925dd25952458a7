-- The reading functions that go down by one depth or one parenthesis, in one step for every number.
use Rattle.std.proofs.Common.{◌≡◌, ◌≢◌, ℕ, zero, suc, ◌-◌, ◌<◌, ◌≤◌, true, false, List, None, Some, Ok, Err, refl, sym, ap, ◌∙◌, arith}
use Rattle.std.specs.Prelude.{nat_le, nat_eq}
use Rattle.std.proofs.lemmas.Bool.Decides.{nat_tests}
use Rattle.std.proofs.Math.Dec.{leb-zero}
use Rattle.boogie_tree.specs.declared.span.Span.{Span}
use Rattle.boogie_tree.specs.declared.level.Level.{Level}
use Rattle.boogie_tree.specs.declared.level.Level.TheVariants.{Implication}
use Rattle.boogie_parse.specs.declared.fault.Fault.{Fault}
use Rattle.boogie_parse.specs.declared.fault.Fault.TheVariants.{Memory}
use Rattle.boogie_parse.specs.declared.fault.Which.TheVariants.{Nesting}
use Rattle.boogie_parse.specs.declared.symbols.Symbol.{Symbol}
use Rattle.boogie_parse.specs.Reading.Outcomes.{Read, ReadResult, place_or, limit_fault, and_then}
use Rattle.boogie_parse.specs.Rules.GrammarLimits.{depth}
use Rattle.boogie_tree.specs.Tree.{Expression, Bin}
use Rattle.boogie_parse.specs.declared.grammar.expressions.operators.Chain.{Chain}
use Rattle.boogie_parse.specs.Reading.ExpressionReading.{Reader, done, too_deep, unless_deep, Infix, infix_at, unless_alone, binary_operation, level_of_chain, chain_behind, opens, behind_sign, expected, closed, prefix_at, if_prefixed, over, primary, unary, junction, implication, equivalence, inside}

pub unary_step : (end : Span) (inner : Reader) (d : ℕ) (ts : List Symbol) →
    unary end inner d ts ≡ if_prefixed (primary end inner d ts) (λ o at m. unless_deep (nat_eq d 0) at (over o at (unary end inner (d - 1) m))) (prefix_at ts)
unfolding unary
unary_step end inner zero ts = refl
unary_step end inner (suc d) ts =
    let positive : nat_eq (suc d) 0 ≡ false = grind (arith, nat_tests) in
    let less : suc d - 1 ≡ d = omega arith in
    simp (positive, less) refl

pub implication_step : (end : Span) (inner : Reader) (d : ℕ) (ts : List Symbol) →
    implication end inner d ts ≡
    and_then (junction end inner d ts) (λ a r.
    unless_alone a r (λ o at m. unless_deep (nat_le d (depth a)) at (binary_operation (place_or end ts) o a (implication end inner (d - 1) m))) (infix_at Implication r))
unfolding implication
implication_step end inner zero ts = simp leb-zero refl
implication_step end inner (suc d) ts = let less : suc d - 1 ≡ d = omega arith in rw less refl

pub inside_step : (end : Span) (p d : ℕ) (ts : List Symbol) →
    inside end p d ts ≡
    expected end ts (λ m. unless_deep (nat_eq p 0) (place_or end ts) (and_then (equivalence end (inside end (p - 1)) d m) (closed end))) (behind_sign opens ts)
unfolding inside
inside_step end zero d ts = refl
inside_step end (suc p) d ts =
    let positive : nat_eq (suc p) 0 ≡ false = grind (arith, nat_tests) in
    let less : suc p - 1 ≡ p = omega arith in
    simp (positive, less) refl

pub same_read : {x y : Read Expression} → ◌≡◌ {A = ReadResult Expression} (Ok x) (Ok y) → x ≡ y
same_read e = cc

pub same_done : {a b : Expression} {r s : List Symbol} → done a r ≡ done b s → (a ≡ b) × (r ≡ s)
same_done e = (ap (λ x. x.value) (same_read e), ap (λ x. x.rest) (same_read e))

-- a chain's turns
module _ (c : Chain) (operand : Reader) (here : Span) (d k : ℕ) (a : Expression) (r : List Symbol) where
  pub chain_stops : infix_at (level_of_chain c) r ≡ None → chain_behind c operand here d k a r ≡ done a r
  unfolding chain_behind
  chain_stops e = elim k as (λ k. chain_behind c operand here d k a r ≡ done a r) [ zero ↦ rw e refl | suc j ↦ rw e refl ]

  pub chain_deep : (x : Infix) → infix_at (level_of_chain c) r ≡ Some x → d ≤ depth a → chain_behind c operand here d k a r ≡ too_deep x.1
  unfolding chain_behind
  chain_deep x e h =
      let deep : nat_le d (depth a) ≡ true = grind (arith, nat_tests) in
      elim k as (λ k. chain_behind c operand here d k a r ≡ too_deep x.1) [ zero ↦ rw e refl | suc j ↦ rw (e, deep) refl ]

  pub chain_full : (x : Infix) → infix_at (level_of_chain c) r ≡ Some x → k ≡ 0 → chain_behind c operand here d k a r ≡ too_deep x.1
  unfolding chain_behind
  chain_full x e s = rw (s, e) refl

  pub chain_goes : (j : ℕ) (x : Infix) → infix_at (level_of_chain c) r ≡ Some x → depth a < d → k ≡ suc j →
      chain_behind c operand here d k a r ≡ and_then (operand (d - 1) x.2) (λ b m. chain_behind c operand here d j (Bin here x.0 a b) m)
  unfolding chain_behind
  chain_goes j x e h s =
      let shallow : nat_le d (depth a) ≡ false = grind (arith, nat_tests) in
      rw (s, e, shallow) refl

-- a turn of the loop over a chain, where `whole` is what the chain gives
module _ (c : Chain) (operand : Reader) (here : Span) (d k : ℕ) (a : Expression) (r : List Symbol) (whole : ReadResult Expression) (l : Level) (x : Infix) (h : ℕ)
    (now : chain_behind c operand here d k a r ≡ whole) (level : l ≡ level_of_chain c) (seen : Some x ≡ infix_at l r) (height : h ≡ depth a) where
  pub turn_deep : (f : Fault) → d ≤ h → f ≡ limit_fault Nesting x.1 → whole ≡ Err f
  turn_deep f deep e =
      let s : infix_at (level_of_chain c) r ≡ Some x = cc in
      let low : d ≤ depth a = omega arith in
      let step : chain_behind c operand here d k a r ≡ too_deep x.1 = chain_deep c operand here d k a r x s low in
      cc

  pub turn_fails : (j : ℕ) (f : Fault) → h < d → k ≡ suc j → (f ≢ Memory → operand (d - 1) x.2 ≡ Err f) → f ≢ Memory → whole ≡ Err f
  turn_fails j f low turns fails ne =
      let s : infix_at (level_of_chain c) r ≡ Some x = cc in
      let shallow : depth a < d = omega arith in
      let step = chain_goes c operand here d k a r j x s shallow turns in
      let failed : operand (d - 1) x.2 ≡ Err f = fails ne in
      sym now ∙ rw failed at step

  pub turn_goes : (j : ℕ) (b e : Expression) (m n : List Symbol) → h < d → k ≡ suc j → operand (d - 1) x.2 ≡ done b m →
      done (Bin here x.0 a b) m ≡ done e n → chain_behind c operand here d j e n ≡ whole
  turn_goes j b e m n low turns right left =
      let s : infix_at (level_of_chain c) r ≡ Some x = cc in
      let shallow : depth a < d = omega arith in
      let step = chain_goes c operand here d k a r j x s shallow turns in
      let full : chain_behind c operand here d k a r ≡ chain_behind c operand here d j (Bin here x.0 a b) m = rw right at step in
      let tree : Bin here x.0 a b ≡ e = (same_done left).0 in
      let rest : m ≡ n = (same_done left).1 in
      cc

  pub turn_full : (f : Fault) → k ≡ 0 → f ≡ limit_fault Nesting x.1 → whole ≡ Err f
  turn_full f none e =
      let s : infix_at (level_of_chain c) r ≡ Some x = cc in
      let step : chain_behind c operand here d k a r ≡ too_deep x.1 = chain_full c operand here d k a r x s none in
      cc
