-- An expression's limit stands at a symbol, and is the same whatever follows this one.
use Rattle.std.proofs.Common.{◌≡◌, ℕ, zero, suc, ◌-◌, Bool, true, false, List, [], ◌∷◌, Option, None, Some, refl, ap}
use Rattle.std.specs.Prelude.{nat_le}
use Rattle.boogie_tree.specs.declared.span.Span.{Span}
use Rattle.boogie_tree.specs.declared.level.Level.{Level}
use Rattle.boogie_tree.specs.declared.level.Level.TheVariants.{Implication, Disjunction, Comparison}
use Rattle.boogie_tree.specs.declared.tree.Op.{Op}
use Rattle.boogie_tree.specs.Tree.{Expression, Lit, Truth, Var, Bin, Old}
use Rattle.boogie_parse.specs.declared.fault.Which.TheVariants.{Nesting}
use Rattle.boogie_parse.specs.declared.symbols.Fixed.{Fixed}
use Rattle.boogie_parse.specs.declared.symbols.Fixed.TheVariants as fixed
use Rattle.boogie_parse.specs.declared.symbols.Sign.{Sign}
use Rattle.boogie_parse.specs.declared.symbols.Sign.TheVariants as signs
use Rattle.boogie_parse.specs.declared.symbols.Symbol.{Symbol}
use Rattle.boogie_parse.specs.declared.grammar.expressions.operators.Chain.{Chain}
use Rattle.boogie_parse.specs.declared.grammar.expressions.operators.Chain.TheVariants as chains
use Rattle.boogie_parse.specs.declared.grammar.expressions.operators.Prefix.{Prefix}
use Rattle.boogie_parse.specs.Reading.Outcomes.{ReadResult, place_or, refused, and_then}
use Rattle.boogie_parse.specs.Rules.GrammarLimits.{depth}
use Rattle.boogie_parse.specs.Reading.ExpressionReading as reading
use Rattle.boogie_parse.specs.Reading.ExpressionReading.{linked, Reader, done, too_deep, unless_deep, sign_joins, Infix, infix_of, infix_at, unless_alone, binary_operation, level_of_chain, chain_behind, chained, opens, closes, behind_if, behind_sign, expected, closed, prefix_of, prefix_by, prefix_at, prefixed, if_prefixed, over, old_value, word_value, sign_value, primary, unary, factor_chain, comparison, junction_by, junction, implication, equivalence, inside, expression}
use Rattle.boogie_parse.proofs.Faults.SettledTools.{Steady, tail, steady_tail, weaker, by_head, by_limit, by_none, taken_none, first_and}

abbrev pub IsReader : Reader → Type 0
IsReader x = (d : ℕ) (ts : List Symbol) → Steady 1 (x d) ts

-- what an operator leads to, from the operator on
abbrev FromInfix : (Op → Span → List Symbol → ReadResult Expression) → Type 0
FromInfix go = (o : Op) (t : Symbol) (r : List Symbol) → Steady 1 (tail (go o t.span)) (t ∷ r)

pub steady_followed : (level : Level) (a : Expression) (go : Op → Span → List Symbol → ReadResult Expression) (ts : List Symbol) → FromInfix go → Steady 0 (λ us. unless_alone a us go (infix_at level us)) ts
steady_followed level a go [] h = by_none 0 (done a) (λ us. unless_alone a us go (infix_at level us)) refl (taken_none a [])
steady_followed level a go (t ∷ r) h = by (sign_joins level t.sign) refl
  where
    S : List Symbol → ReadResult Expression
    S us = unless_alone a us go (infix_at level us)

    by : (o : Option Op) → sign_joins level t.sign ≡ o → Steady 0 S (t ∷ r)
    by None e = by_head 0 (λ us. done a us) S t r (λ us. ap (λ o. unless_alone a (t ∷ us) go (infix_of t.span us o)) e) (taken_none a (t ∷ r))
    by (Some o) e = by_head 0 (tail (go o t.span)) S t r (λ us. ap (λ o. unless_alone a (t ∷ us) go (infix_of t.span us o)) e) (weaker (tail (go o t.span)) (t ∷ r) (h o t r))

pub steady_deep : (b : Bool) (t : Symbol) (r : List Symbol) (Q : List Symbol → ReadResult Expression) → Steady 0 Q r → Steady 1 (tail (λ us. unless_deep b t.span (Q us))) (t ∷ r)
steady_deep true t r Q h = by_limit 1 (tail (λ us. too_deep t.span)) t r Nesting (λ us. refl)
steady_deep false t r Q h = steady_tail Q t r h

too_deep_steady : FromInfix (λ o at m. too_deep at)
too_deep_steady o t r = by_limit 1 (tail (λ us. too_deep t.span)) t r Nesting (λ us. refl)

pub steady_linked : (x : Reader) → IsReader x → (here : Span) (d : ℕ) (next : Expression → List Symbol → ReadResult Expression) (a : Expression) → ((b : Expression) (r : List Symbol) → Steady 0 (next b) r) → FromInfix (linked x here d next a)
steady_linked x reads here d next a h o t r =
    steady_deep (nat_le d (depth a)) t r (λ us. and_then (x (d - 1) us) (λ b m. next (Bin here o a b) m))
    (weaker (λ us. and_then (x (d - 1) us) (λ b m. next (Bin here o a b) m)) r (first_and (x (d - 1)) (λ b m. next (Bin here o a b) m) r (reads (d - 1) r) (λ b m. h (Bin here o a b) m)))

pub steady_chain : (c : Chain) (x : Reader) → IsReader x → (here : Span) (d k : ℕ) (a : Expression) (ts : List Symbol) → Steady 0 (chain_behind c x here d k a) ts
unfolding chain_behind
steady_chain c x reads here d zero a ts = steady_followed (level_of_chain c) a (λ o at m. too_deep at) ts too_deep_steady
steady_chain c x reads here d (suc k) a ts =
    steady_followed (level_of_chain c) a (linked x here d (chain_behind c x here d k) a) ts (steady_linked x reads here d (chain_behind c x here d k) a (λ b m. steady_chain c x reads here d k b m))

-- the place of the first symbol is the same before whatever follows it
from_place : (end : Span) (S : Span → List Symbol → ReadResult Expression) (ts : List Symbol) → ((here : Span) → Steady 1 (S here) ts) → Steady 1 (λ us. S (place_or end us) us) ts
from_place end S [] h = by_none 1 (S end) (λ us. S (place_or end us) us) refl (h end)
from_place end S (t ∷ r) h = by_head 1 (S t.span) (λ us. S (place_or end us) us) t r (λ us. refl) (h t.span)

pub steady_chained : (end : Span) (c : Chain) (x : Reader) → IsReader x → IsReader (chained end c x)
steady_chained end c x reads d ts =
    from_place end (λ here us. and_then (x d us) (chain_behind c x here d d)) ts (λ here. first_and (x d) (chain_behind c x here d d) ts (reads d ts) (λ a r. steady_chain c x reads here d d a r))

pub steady_old : (x : Reader) → IsReader x → (d : ℕ) (t : Symbol) (r : List Symbol) → Steady 1 (tail (old_value x t.span d)) (t ∷ r)
steady_old x reads zero t r = by_limit 1 (tail (old_value x t.span zero)) t r Nesting (λ us. refl)
steady_old x reads (suc d) t r =
    steady_tail (old_value x t.span (suc d)) t r
    (weaker (old_value x t.span (suc d)) r (first_and (x d) (λ e m. done (Old t.span e) m) r (reads d r) (λ e m. taken_none (Old t.span e) m)))

pub steady_word : (x : Reader) → IsReader x → (d : ℕ) (t : Symbol) (r : List Symbol) (w : Fixed) → Steady 1 (tail (λ us. word_value x d t us w)) (t ∷ r)
steady_word x reads d t r fixed.True = steady_tail (λ us. done (Truth t.span true) us) t r (taken_none (Truth t.span true) r)
steady_word x reads d t r fixed.False = steady_tail (λ us. done (Truth t.span false) us) t r (taken_none (Truth t.span false) r)
steady_word x reads d t r fixed.Old = steady_old x reads d t r
steady_word x reads d t r fixed.OpenParenthesis = by_head 1 (x d) (tail (λ us. x d (t ∷ us))) t r (λ us. refl) (reads d (t ∷ r))
steady_word x reads d t r w = tt

pub steady_sign : (x : Reader) → IsReader x → (d : ℕ) (t : Symbol) (r : List Symbol) (s : Sign) → Steady 1 (tail (λ us. sign_value x d t us s)) (t ∷ r)
steady_sign x reads d t r (signs.Fixed w) = steady_word x reads d t r w
steady_sign x reads d t r (signs.Number n) = steady_tail (λ us. done (Lit t.span n) us) t r (taken_none (Lit t.span n) r)
steady_sign x reads d t r (signs.Name n) = steady_tail (λ us. done (Var t.span (record { span = t.span; text = n })) us) t r (taken_none (Var t.span (record { span = t.span; text = n })) r)

pub steady_primary : (end : Span) (x : Reader) → IsReader x → IsReader (primary end x)
steady_primary end x reads d [] = tt
steady_primary end x reads d (t ∷ r) = by_head 1 (tail (λ us. sign_value x d t us t.sign)) (primary end x d) t r (λ us. refl) (steady_sign x reads d t r t.sign)

-- an operator before its operand, or none
pub steady_signed : (plain : List Symbol → ReadResult Expression) (go : Prefix → Span → List Symbol → ReadResult Expression) (ts : List Symbol) → Steady 1 plain ts →
    ((o : Prefix) (t : Symbol) (r : List Symbol) → Steady 1 (tail (go o t.span)) (t ∷ r)) → Steady 1 (λ us. if_prefixed (plain us) go (prefix_at us)) ts
steady_signed plain go [] h k = by_none 1 plain (λ us. if_prefixed (plain us) go (prefix_at us)) refl h
steady_signed plain go (t ∷ r) h k = by (prefix_of t.sign) refl
  where
    S : List Symbol → ReadResult Expression
    S us = if_prefixed (plain us) go (prefix_at us)

    by : (o : Option Prefix) → prefix_of t.sign ≡ o → Steady 1 S (t ∷ r)
    by None e = by_head 1 plain S t r (λ us. ap (λ o. if_prefixed (plain (t ∷ us)) go (prefix_by t.span us o)) e) h
    by (Some o) e = by_head 1 (tail (go o t.span)) S t r (λ us. ap (λ o. if_prefixed (plain (t ∷ us)) go (prefix_by t.span us o)) e) (k o t r)

pub steady_unary : (end : Span) (x : Reader) → IsReader (primary end x) → IsReader (unary end x)
unfolding unary
steady_unary end x reads zero ts = steady_signed (primary end x zero) (λ o at m. too_deep at) ts (reads zero ts) (λ o t r. by_limit 1 (tail (λ us. too_deep t.span)) t r Nesting (λ us. refl))
steady_unary end x reads (suc d) ts =
    steady_signed (primary end x (suc d)) (λ o at m. over o at (unary end x d m)) ts (reads (suc d) ts)
    (λ o t r.
    steady_tail (λ us. over o t.span (unary end x d us)) t r
    (weaker (λ us. over o t.span (unary end x d us)) r
    (first_and (unary end x d) (λ e m. done (prefixed o t.span e) m) r (steady_unary end x reads d r) (λ e m. taken_none (prefixed o t.span e) m))))

-- one more operation, whose right operand is read
pub steady_operation : (y : List Symbol → ReadResult Expression) (here : Span) (o : Op) (a : Expression) (r : List Symbol) → Steady 1 y r → Steady 0 (λ us. binary_operation here o a (y us)) r
steady_operation y here o a r h =
    weaker (λ us. binary_operation here o a (y us)) r (first_and y (λ b m. done (Bin here o a b) m) r h (λ b m. taken_none (Bin here o a b) m))

pub steady_comparison : (end : Span) (x : Reader) → IsReader (reading.sum end x) → IsReader (comparison end x)
unfolding comparison
steady_comparison end x reads d ts =
    let right : Span → Expression → Op → Span → List Symbol → ReadResult Expression =
    λ here a o at m. unless_deep (nat_le d (depth a)) at (binary_operation here o a (reading.sum end x (d - 1) m)) in
    from_place end (λ here us. and_then (reading.sum end x d us) (λ a m. unless_alone a m (right here a) (infix_at Comparison m))) ts
    (λ here.
    first_and (reading.sum end x d) (λ a m. unless_alone a m (right here a) (infix_at Comparison m)) ts (reads d ts)
    (λ a m.
    steady_followed Comparison a (right here a) m
    (λ o t r. steady_deep (nat_le d (depth a)) t r (λ us. binary_operation here o a (reading.sum end x (d - 1) us)) (steady_operation (reading.sum end x (d - 1)) here o a r (reads (d - 1) r)))))

-- the chain is chosen by its first operator
pub steady_choice : (x : Reader) → IsReader x → (here : Span) (d : ℕ) (a : Expression) (ts : List Symbol) → Steady 0 (λ us. chain_behind (junction_by (infix_at Disjunction us)) x here d d a us) ts
steady_choice x reads here d a [] =
    by_none 0 (chain_behind chains.Conjunction x here d d a) (λ us. chain_behind (junction_by (infix_at Disjunction us)) x here d d a us) refl (steady_chain chains.Conjunction x reads here d d a [])
steady_choice x reads here d a (t ∷ r) = by (sign_joins Disjunction t.sign) refl
  where
    S : List Symbol → ReadResult Expression
    S us = chain_behind (junction_by (infix_at Disjunction us)) x here d d a us

    by : (o : Option Op) → sign_joins Disjunction t.sign ≡ o → Steady 0 S (t ∷ r)
    by None e = by_head 0 (chain_behind chains.Conjunction x here d d a) S t r (λ us. ap (λ o. chain_behind (junction_by (infix_of t.span us o)) x here d d a (t ∷ us)) e) (steady_chain chains.Conjunction x reads here d d a (t ∷ r))
    by (Some o) e = by_head 0 (chain_behind chains.Disjunction x here d d a) S t r (λ us. ap (λ o. chain_behind (junction_by (infix_of t.span us o)) x here d d a (t ∷ us)) e) (steady_chain chains.Disjunction x reads here d d a (t ∷ r))

pub steady_junction : (end : Span) (x : Reader) → IsReader (comparison end x) → IsReader (junction end x)
steady_junction end x reads d ts =
    from_place end (λ here us. and_then (comparison end x d us) (λ a m. chain_behind (junction_by (infix_at Disjunction m)) (comparison end x) here d d a m)) ts
    (λ here.
    first_and (comparison end x d) (λ a m. chain_behind (junction_by (infix_at Disjunction m)) (comparison end x) here d d a m) ts (reads d ts)
    (λ a m. steady_choice (comparison end x) reads here d a m))

pub steady_implication : (end : Span) (x : Reader) → IsReader (junction end x) → IsReader (implication end x)
unfolding implication
steady_implication end x reads zero ts =
    first_and (junction end x zero) (λ a m. unless_alone a m (λ o at n. too_deep at) (infix_at Implication m)) ts (reads zero ts) (λ a m. steady_followed Implication a (λ o at n. too_deep at) m too_deep_steady)
steady_implication end x reads (suc d) ts =
    let right : Span → Expression → Op → Span → List Symbol → ReadResult Expression =
    λ here a o at m. unless_deep (nat_le (suc d) (depth a)) at (binary_operation here o a (implication end x d m)) in
    from_place end (λ here us. and_then (junction end x (suc d) us) (λ a m. unless_alone a m (right here a) (infix_at Implication m))) ts
    (λ here.
    first_and (junction end x (suc d)) (λ a m. unless_alone a m (right here a) (infix_at Implication m)) ts (reads (suc d) ts)
    (λ a m.
    steady_followed Implication a (right here a) m
    (λ o t r. steady_deep (nat_le (suc d) (depth a)) t r (λ us. binary_operation here o a (implication end x d us)) (steady_operation (implication end x d) here o a r (steady_implication end x reads d r)))))

pub steady_equivalence : (end : Span) (x : Reader) → IsReader x → IsReader (equivalence end x)
steady_equivalence end x reads =
    let unaries = steady_unary end x (steady_primary end x reads) in
    let products = steady_chained end chains.Product (unary end x) unaries in
    let sums = steady_chained end chains.Sum (factor_chain end x) products in
    let junctions = steady_junction end x (steady_comparison end x sums) in
    steady_chained end chains.Equivalence (implication end x) (steady_implication end x junctions)

-- what must stand there, behind which `go` reads on
pub steady_expected : (end : Span) (test : Sign → Bool) (go : List Symbol → ReadResult Expression) (ts : List Symbol) →
    ((t : Symbol) (r : List Symbol) → Steady 1 (tail go) (t ∷ r)) → Steady 1 (λ us. expected end us go (behind_sign test us)) ts
steady_expected end test go [] h = tt
steady_expected end test go (t ∷ r) h = by (test t.sign) refl
  where
    S : List Symbol → ReadResult Expression
    S us = expected end us go (behind_sign test us)

    by : (b : Bool) → test t.sign ≡ b → Steady 1 S (t ∷ r)
    by true e = by_head 1 (tail go) S t r (λ us. ap (λ b. expected end (t ∷ us) go (behind_if b us)) e) (h t r)
    by false e = by_head 1 (λ us. refused end us) S t r (λ us. ap (λ b. expected end (t ∷ us) go (behind_if b us)) e) tt

pub steady_closed : (end : Span) (e : Expression) (ts : List Symbol) → Steady 0 (closed end e) ts
steady_closed end e ts = weaker (closed end e) ts (steady_expected end closes (done e) ts (λ t r. steady_tail (done e) t r (taken_none e r)))

pub steady_inside : (end : Span) (p : ℕ) → IsReader (inside end p)
unfolding inside
steady_inside end zero d [] = tt
steady_inside end zero d (t ∷ r) =
    by_head 1 (λ us. expected end us (λ m. too_deep t.span) (behind_sign opens us)) (λ us. expected end us (λ m. too_deep (place_or end us)) (behind_sign opens us)) t r (λ us. refl) (by (opens t.sign) refl)
  where
    S : List Symbol → ReadResult Expression
    S us = expected end us (λ m. too_deep t.span) (behind_sign opens us)

    by : (b : Bool) → opens t.sign ≡ b → Steady 1 S (t ∷ r)
    by true e = by_limit 1 S t r Nesting (λ us. ap (λ b. expected end (t ∷ us) (λ m. too_deep t.span) (behind_if b us)) e)
    by false e = by_head 1 (λ us. refused end us) S t r (λ us. ap (λ b. expected end (t ∷ us) (λ m. too_deep t.span) (behind_if b us)) e) tt
steady_inside end (suc p) d ts =
    let inner : List Symbol → ReadResult Expression = λ m. and_then (equivalence end (inside end p) d m) (closed end) in
    steady_expected end opens inner ts
    (λ t r.
    steady_tail inner t r
    (weaker inner r (first_and (equivalence end (inside end p) d) (closed end) r (steady_equivalence end (inside end p) (steady_inside end p) d r) (λ e m. steady_closed end e m))))

pub expression_steady : (end : Span) (p d : ℕ) (ts : List Symbol) → Steady 1 (expression end p d) ts
expression_steady end p d ts = steady_equivalence end (inside end p) (steady_inside end p) d ts

-- ---- no expression in no symbols

none_unary : (end : Span) (x : Reader) (d : ℕ) → unary end x d [] ≡ refused end []
unfolding unary
none_unary end x zero = refl
none_unary end x (suc d) = refl

none_chained : (end : Span) (c : Chain) (x : Reader) → ((d : ℕ) → x d [] ≡ refused end []) → (d : ℕ) → chained end c x d [] ≡ refused end []
none_chained end c x h d = ap (λ z. and_then z (chain_behind c x (place_or end []) d d)) (h d)

none_comparison : (end : Span) (x : Reader) (d : ℕ) → comparison end x d [] ≡ refused end []
unfolding comparison
none_comparison end x d =
    ap (λ z. and_then z (λ a r. unless_alone a r (λ o at m. unless_deep (nat_le d (depth a)) at (binary_operation end o a (reading.sum end x (d - 1) m))) (infix_at Comparison r)))
    (none_chained end chains.Sum (factor_chain end x) (none_chained end chains.Product (unary end x) (none_unary end x)) d)

none_junction : (end : Span) (x : Reader) (d : ℕ) → junction end x d [] ≡ refused end []
none_junction end x d = ap (λ z. and_then z (λ a r. chain_behind (junction_by (infix_at Disjunction r)) (comparison end x) end d d a r)) (none_comparison end x d)

none_implication : (end : Span) (x : Reader) (d : ℕ) → implication end x d [] ≡ refused end []
unfolding implication
none_implication end x zero = ap (λ z. and_then z (λ a r. unless_alone a r (λ o at m. too_deep at) (infix_at Implication r))) (none_junction end x zero)
none_implication end x (suc d) =
    ap (λ z. and_then z (λ a r. unless_alone a r (λ o at m. unless_deep (nat_le (suc d) (depth a)) at (binary_operation end o a (implication end x d m))) (infix_at Implication r))) (none_junction end x (suc d))

pub no_expression : (end : Span) (p d : ℕ) → expression end p d [] ≡ refused end []
no_expression end p d = none_chained end chains.Equivalence (implication end (inside end p)) (none_implication end (inside end p)) d
