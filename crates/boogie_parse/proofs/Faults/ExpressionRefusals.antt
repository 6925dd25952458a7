-- An expression that is not read is no syntax, or past the limit of nesting: nothing else is wrong with it.
use Rattle.std.proofs.Common.{ℕ, zero, suc, ◌-◌, Bool, true, false, List, [], ◌∷◌, Option, None, Some, Ok, Err, IfErr}
use Rattle.std.specs.Prelude.{nat_le}
use Rattle.boogie_tree.specs.declared.span.Span.{Span}
use Rattle.boogie_tree.specs.declared.level.Level.TheVariants.{Implication, Disjunction, Comparison}
use Rattle.boogie_tree.specs.declared.tree.Op.{Op}
use Rattle.boogie_tree.specs.Tree.{Expression, Bin, Old}
use Rattle.boogie_parse.specs.declared.fault.Fault.{Fault}
use Rattle.boogie_parse.specs.declared.fault.Fault.TheVariants as faults
use Rattle.boogie_parse.specs.declared.fault.Which.{Which}
use Rattle.boogie_parse.specs.declared.fault.Which.TheVariants as limits
use Rattle.boogie_parse.specs.declared.symbols.Fixed.{Fixed}
use Rattle.boogie_parse.specs.declared.symbols.Fixed.TheVariants as fixed
use Rattle.boogie_parse.specs.declared.symbols.Sign.{Sign}
use Rattle.boogie_parse.specs.declared.symbols.Sign.TheVariants as signs
use Rattle.boogie_parse.specs.declared.symbols.Symbol.{Symbol}
use Rattle.boogie_parse.specs.declared.grammar.expressions.operators.Chain.{Chain}
use Rattle.boogie_parse.specs.declared.grammar.expressions.operators.Chain.TheVariants as chains
use Rattle.boogie_parse.specs.declared.grammar.expressions.operators.Prefix.{Prefix}
use Rattle.boogie_parse.specs.Reading.Outcomes.{ReadResult, place_or, and_then}
use Rattle.boogie_parse.specs.Rules.GrammarLimits.{depth}
use Rattle.boogie_parse.specs.Reading.ExpressionReading as reading
use Rattle.boogie_parse.specs.Reading.ExpressionReading.{linked, Reader, done, too_deep, unless_deep, Infix, infix_at, unless_alone, binary_operation, level_of_chain, chain_behind, chained, opens, closes, behind_sign, expected, closed, prefix_at, prefixed, if_prefixed, over, old_value, word_value, sign_value, primary, unary, factor_chain, comparison, junction_by, junction, implication, equivalence, inside, expression}

-- what is no syntax, or past a limit of such a kind
abbrev pub IsRefusal : (Which → Type 0) → Fault → Type 0
IsRefusal IsKind (faults.Syntax line col) = Unit {0}
IsRefusal IsKind (faults.Limit which line col) = IsKind which
IsRefusal IsKind (faults.Unsupported what line col) = ⊥
IsRefusal IsKind faults.Memory = ⊥

-- expressions have one limit
abbrev pub IsOfExpressions : Which → Type 0
IsOfExpressions limits.Literal = ⊥
IsOfExpressions limits.Nesting = Unit {0}
IsOfExpressions limits.Procedures = ⊥
IsOfExpressions limits.Variables = ⊥

-- where it is not read, it is refused so
abbrev Refuses : {X : Type 0} → ReadResult X → Type 0
Refuses x = IfErr x (IsRefusal IsOfExpressions)

abbrev IsReader : Reader → Type 0
IsReader x = (d : ℕ) (ts : List Symbol) → Refuses (x d ts)

refuse_then : {X Y : Type 0} (x : ReadResult X) (f : X → List Symbol → ReadResult Y) → Refuses x → ((a : X) (r : List Symbol) → Refuses (f a r)) → Refuses (and_then x f)
refuse_then (Ok a) f h k = k a.value a.rest
refuse_then (Err e) f h k = h

refuse_deep : (b : Bool) (here : Span) (x : ReadResult Expression) → Refuses x → Refuses (unless_deep b here x)
refuse_deep true here x h = tt
refuse_deep false here x h = h

refuse_followed : (a : Expression) (r : List Symbol) (f : Op → Span → List Symbol → ReadResult Expression) (o : Option Infix) →
    ((p : Op) (at : Span) (m : List Symbol) → Refuses (f p at m)) → Refuses (unless_alone a r f o)
refuse_followed a r f None h = tt
refuse_followed a r f (Some x) h = h x.0 x.1 x.2

refuse_signed : (x : ReadResult Expression) (f : Prefix → Span → List Symbol → ReadResult Expression) (o : Option (Prefix × Span × List Symbol)) →
    Refuses x → ((p : Prefix) (at : Span) (m : List Symbol) → Refuses (f p at m)) → Refuses (if_prefixed x f o)
refuse_signed x f None h k = h
refuse_signed x f (Some z) h k = k z.0 z.1 z.2

refuse_expected : (end : Span) (ts : List Symbol) (f : List Symbol → ReadResult Expression) (o : Option (List Symbol)) → ((m : List Symbol) → Refuses (f m)) → Refuses (expected end ts f o)
refuse_expected end ts f None h = tt
refuse_expected end ts f (Some m) h = h m

refuse_linked : (x : Reader) → IsReader x → (here : Span) (d : ℕ) (next : Expression → List Symbol → ReadResult Expression) (a : Expression) →
    ((b : Expression) (r : List Symbol) → Refuses (next b r)) → (o : Op) (at : Span) (m : List Symbol) → Refuses (linked x here d next a o at m)
refuse_linked x reads here d next a h o at m =
    refuse_deep (nat_le d (depth a)) at (and_then (x (d - 1) m) (λ b r. next (Bin here o a b) r))
    (refuse_then (x (d - 1) m) (λ b r. next (Bin here o a b) r) (reads (d - 1) m) (λ b r. h (Bin here o a b) r))

refuse_chain : (c : Chain) (x : Reader) → IsReader x → (here : Span) (d k : ℕ) (a : Expression) (r : List Symbol) → Refuses (chain_behind c x here d k a r)
unfolding chain_behind
refuse_chain c x reads here d zero a r = refuse_followed a r (λ o at m. too_deep at) (infix_at (level_of_chain c) r) (λ o at m. tt)
refuse_chain c x reads here d (suc k) a r =
    refuse_followed a r (linked x here d (chain_behind c x here d k) a) (infix_at (level_of_chain c) r) (refuse_linked x reads here d (chain_behind c x here d k) a (λ b m. refuse_chain c x reads here d k b m))

refuse_chained : (end : Span) (c : Chain) (x : Reader) → IsReader x → IsReader (chained end c x)
refuse_chained end c x reads d ts = refuse_then (x d ts) (chain_behind c x (place_or end ts) d d) (reads d ts) (λ a r. refuse_chain c x reads (place_or end ts) d d a r)

refuse_old : (x : Reader) → IsReader x → (here : Span) → IsReader (old_value x here)
refuse_old x reads here zero ts = tt
refuse_old x reads here (suc d) ts = refuse_then (x d ts) (λ e r. done (Old here e) r) (reads d ts) (λ e r. tt)

refuse_word : (x : Reader) → IsReader x → (d : ℕ) (t : Symbol) (ts : List Symbol) (w : Fixed) → Refuses (word_value x d t ts w)
refuse_word x reads d t ts fixed.Old = refuse_old x reads t.span d ts
refuse_word x reads d t ts fixed.OpenParenthesis = reads d (t ∷ ts)
refuse_word x reads d t ts w = tt

refuse_sign : (x : Reader) → IsReader x → (d : ℕ) (t : Symbol) (ts : List Symbol) (s : Sign) → Refuses (sign_value x d t ts s)
refuse_sign x reads d t ts (signs.Fixed w) = refuse_word x reads d t ts w
refuse_sign x reads d t ts (signs.Number n) = tt
refuse_sign x reads d t ts (signs.Name n) = tt

refuse_primary : (end : Span) (x : Reader) → IsReader x → IsReader (primary end x)
refuse_primary end x reads d [] = tt
refuse_primary end x reads d (t ∷ ts) = refuse_sign x reads d t ts t.sign

refuse_unary : (end : Span) (x : Reader) → IsReader (primary end x) → IsReader (unary end x)
unfolding unary
refuse_unary end x reads zero ts = refuse_signed (primary end x zero ts) (λ o at m. too_deep at) (prefix_at ts) (reads zero ts) (λ o at m. tt)
refuse_unary end x reads (suc d) ts =
    refuse_signed (primary end x (suc d) ts) (λ o at m. over o at (unary end x d m)) (prefix_at ts) (reads (suc d) ts)
    (λ o at m. refuse_then (unary end x d m) (λ e r. done (prefixed o at e) r) (refuse_unary end x reads d m) (λ e r. tt))

refuse_comparison : (end : Span) (x : Reader) → IsReader (reading.sum end x) → IsReader (comparison end x)
unfolding comparison
refuse_comparison end x reads d ts =
    let right : Expression → Op → Span → List Symbol → ReadResult Expression =
    λ a o at m. unless_deep (nat_le d (depth a)) at (binary_operation (place_or end ts) o a (reading.sum end x (d - 1) m)) in
    refuse_then (reading.sum end x d ts) (λ a r. unless_alone a r (right a) (infix_at Comparison r)) (reads d ts)
    (λ a r.
    refuse_followed a r (right a) (infix_at Comparison r)
    (λ o at m.
    refuse_deep (nat_le d (depth a)) at (binary_operation (place_or end ts) o a (reading.sum end x (d - 1) m))
    (refuse_then (reading.sum end x (d - 1) m) (λ b n. done (Bin (place_or end ts) o a b) n) (reads (d - 1) m) (λ b n. tt))))

refuse_junction : (end : Span) (x : Reader) → IsReader (comparison end x) → IsReader (junction end x)
refuse_junction end x reads d ts =
    refuse_then (comparison end x d ts) (λ a r. chain_behind (junction_by (infix_at Disjunction r)) (comparison end x) (place_or end ts) d d a r) (reads d ts)
    (λ a r. refuse_chain (junction_by (infix_at Disjunction r)) (comparison end x) reads (place_or end ts) d d a r)

refuse_implication : (end : Span) (x : Reader) → IsReader (junction end x) → IsReader (implication end x)
unfolding implication
refuse_implication end x reads zero ts =
    refuse_then (junction end x zero ts) (λ a r. unless_alone a r (λ o at m. too_deep at) (infix_at Implication r)) (reads zero ts)
    (λ a r. refuse_followed a r (λ o at m. too_deep at) (infix_at Implication r) (λ o at m. tt))
refuse_implication end x reads (suc d) ts =
    let right : Expression → Op → Span → List Symbol → ReadResult Expression =
    λ a o at m. unless_deep (nat_le (suc d) (depth a)) at (binary_operation (place_or end ts) o a (implication end x d m)) in
    refuse_then (junction end x (suc d) ts) (λ a r. unless_alone a r (right a) (infix_at Implication r)) (reads (suc d) ts)
    (λ a r.
    refuse_followed a r (right a) (infix_at Implication r)
    (λ o at m.
    refuse_deep (nat_le (suc d) (depth a)) at (binary_operation (place_or end ts) o a (implication end x d m))
    (refuse_then (implication end x d m) (λ b n. done (Bin (place_or end ts) o a b) n) (refuse_implication end x reads d m) (λ b n. tt))))

refuse_equivalence : (end : Span) (x : Reader) → IsReader x → IsReader (equivalence end x)
refuse_equivalence end x reads =
    let unaries = refuse_unary end x (refuse_primary end x reads) in
    let products = refuse_chained end chains.Product (unary end x) unaries in
    let sums = refuse_chained end chains.Sum (factor_chain end x) products in
    let junctions = refuse_junction end x (refuse_comparison end x sums) in
    refuse_chained end chains.Equivalence (implication end x) (refuse_implication end x junctions)

refuse_inside : (end : Span) (p : ℕ) → IsReader (inside end p)
unfolding inside
refuse_inside end zero d ts = refuse_expected end ts (λ m. too_deep (place_or end ts)) (behind_sign opens ts) (λ m. tt)
refuse_inside end (suc p) d ts =
    refuse_expected end ts (λ m. and_then (equivalence end (inside end p) d m) (closed end)) (behind_sign opens ts)
    (λ m.
    refuse_then (equivalence end (inside end p) d m) (closed end) (refuse_equivalence end (inside end p) (refuse_inside end p) d m)
    (λ e r. refuse_expected end r (done e) (behind_sign closes r) (λ m. tt)))

pub expression_refusals : (end : Span) (p d : ℕ) (ts : List Symbol) → IfErr (expression end p d ts) (IsRefusal IsOfExpressions)
expression_refusals end p d ts = refuse_equivalence end (inside end p) (refuse_inside end p) d ts
