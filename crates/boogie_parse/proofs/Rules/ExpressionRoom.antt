-- What is read, or refused as no syntax, is so with more parentheses and more depth allowed. So one list of symbols is one expression at most.
use Rattle.std.proofs.Common.{◌≡◌, ℕ, zero, suc, ◌-◌, ◌≤◌, max, Bool, true, false, List, [], ◌∷◌, Option, None, Some, Ok, Err, refl, sym, ap, subst, ◌∙◌, arith}
use Rattle.std.specs.Prelude.{nat_le}
use Rattle.std.proofs.lemmas.Bool.Decides.{nat_tests}
use Rattle.boogie_tree.specs.declared.span.Span.{Span}
use Rattle.boogie_tree.specs.declared.level.Level.{Level}
use Rattle.boogie_tree.specs.declared.level.Level.TheVariants.{Equivalence, Implication, Disjunction, Comparison}
use Rattle.boogie_tree.specs.declared.tree.Op.{Op}
use Rattle.boogie_tree.specs.Tree.{Expression, Bin, Old}
use Rattle.boogie_parse.specs.declared.fault.Fault.{Fault}
use Rattle.boogie_parse.specs.declared.fault.Fault.TheVariants as faults
use Rattle.boogie_parse.specs.declared.symbols.Fixed.{Fixed}
use Rattle.boogie_parse.specs.declared.symbols.Fixed.TheVariants as fixed
use Rattle.boogie_parse.specs.declared.symbols.Sign.{Sign}
use Rattle.boogie_parse.specs.declared.symbols.Sign.TheVariants as signs
use Rattle.boogie_parse.specs.declared.symbols.Symbol.{Symbol}
use Rattle.boogie_parse.specs.declared.grammar.expressions.operators.Chain.{Chain}
use Rattle.boogie_parse.specs.declared.grammar.expressions.operators.Chain.TheVariants as chains
use Rattle.boogie_parse.specs.declared.grammar.expressions.operators.Prefix.{Prefix}
use Rattle.boogie_parse.specs.Reading.Outcomes.{Read, ReadResult, place_or, and_then}
use Rattle.boogie_parse.specs.Rules.Grammar
use Rattle.boogie_parse.specs.Rules.Grammar.{Reads}
use Rattle.boogie_parse.specs.Rules.GrammarLimits.{depth}
use Rattle.boogie_parse.specs.Reading.ExpressionReading as reading
use Rattle.boogie_parse.specs.Reading.ExpressionReading.{linked, Reader, done, too_deep, unless_deep, Infix, infix_at, unless_alone, binary_operation, level_of_chain, chain_behind, chained, opens, behind_sign, expected, closed, prefix_at, prefixed, if_prefixed, over, old_value, word_value, sign_value, primary, unary, factor_chain, comparison, junction_by, junction, implication, equivalence, inside, expression}
use Rattle.boogie_parse.specs.Ties.ExpressionLaws.{Ends, Grows}
use Rattle.boogie_parse.proofs.Reading.ExpressionSteps.{same_done}
use Rattle.boogie_parse.proofs.Rules.ExpressionComplete.{complete}

same_fault : (X : Type 0) (f : Fault) → Grows {X = X} (Err f) (Err f)
same_fault X (faults.Syntax line col) = refl
same_fault X f = tt

same : {X : Type 0} (x : ReadResult X) → Grows x x
same (Ok x) = refl
same {X} (Err f) = same_fault X f

pub grow_fault : {X Y : Type 0} (f : Fault) (y : ReadResult X) (g : X → List Symbol → ReadResult Y) → Grows (Err f) y → Grows (Err f) (and_then y g)
grow_fault (faults.Syntax line col) y g e = ap (λ z. and_then z g) e
grow_fault f y g e = tt

pub grow_then : {X Y : Type 0} (x y : ReadResult X) (f g : X → List Symbol → ReadResult Y) → Grows x y → ((a : X) (r : List Symbol) → Grows (f a r) (g a r)) → Grows (and_then x f) (and_then y g)
grow_then (Ok a) y f g e h = subst (λ z. Grows (f a.value a.rest) (and_then z g)) (sym e) (h a.value a.rest)
grow_then (Err fault) y f g e h = grow_fault fault y g e

grow_deep_by : (b c : Bool) (here : Span) (x y : ReadResult Expression) → (b ≡ false → (c ≡ false) × Grows x y) → Grows (unless_deep b here x) (unless_deep c here y)
grow_deep_by true c here x y h = tt
grow_deep_by false c here x y h = let w = h refl in subst (λ c. Grows x (unless_deep c here y)) (sym w.0) w.1

grow_deep : (d f h : ℕ) (here : Span) (x y : ReadResult Expression) → d ≤ f → Grows x y → Grows (unless_deep (nat_le d h) here x) (unless_deep (nat_le f h) here y)
grow_deep d f h here x y low grows = grow_deep_by (nat_le d h) (nat_le f h) here x y (λ shallow. (let e : nat_le f h ≡ false = grind (arith, nat_tests) in e, grows))

grow_followed : (a : Expression) (r : List Symbol) (f g : Op → Span → List Symbol → ReadResult Expression) (o : Option Infix) →
    ((p : Op) (at : Span) (m : List Symbol) → Grows (f p at m) (g p at m)) → Grows (unless_alone a r f o) (unless_alone a r g o)
grow_followed a r f g None h = refl
grow_followed a r f g (Some x) h = h x.0 x.1 x.2

grow_signed : (x y : ReadResult Expression) (f g : Prefix → Span → List Symbol → ReadResult Expression) (o : Option (Prefix × Span × List Symbol)) →
    Grows x y → ((p : Prefix) (at : Span) (m : List Symbol) → Grows (f p at m) (g p at m)) → Grows (if_prefixed x f o) (if_prefixed y g o)
grow_signed x y f g None grows h = grows
grow_signed x y f g (Some z) grows h = h z.0 z.1 z.2

grow_expected : (end : Span) (ts : List Symbol) (f g : List Symbol → ReadResult Expression) (o : Option (List Symbol)) → ((m : List Symbol) → Grows (f m) (g m)) → Grows (expected end ts f o) (expected end ts g o)
grow_expected end ts f g None h = refl
grow_expected end ts f g (Some m) h = h m

-- the second reader has more room
abbrev IsRoomier : Reader → Reader → Type 0
IsRoomier x y = (d f : ℕ) (ts : List Symbol) → d ≤ f → Grows (x d ts) (y f ts)

grow_linked : (x y : Reader) → IsRoomier x y → (here : Span) (d f : ℕ) (next more : Expression → List Symbol → ReadResult Expression) (a : Expression) → d ≤ f →
    ((b : Expression) (r : List Symbol) → Grows (next b r) (more b r)) → (o : Op) (at : Span) (m : List Symbol) → Grows (linked x here d next a o at m) (linked y here f more a o at m)
grow_linked x y room here d f next more a low h o at m =
    grow_deep d f (depth a) at (and_then (x (d - 1) m) (λ b r. next (Bin here o a b) r)) (and_then (y (f - 1) m) (λ b r. more (Bin here o a b) r)) low
    (grow_then (x (d - 1) m) (y (f - 1) m) (λ b r. next (Bin here o a b) r) (λ b r. more (Bin here o a b) r) (room (d - 1) (f - 1) m (omega arith)) (λ b r. h (Bin here o a b) r))

grow_chain : (c : Chain) (x y : Reader) → IsRoomier x y → (here : Span) (d f : ℕ) → d ≤ f → (k j : ℕ) → k ≤ j → (a : Expression) (r : List Symbol) →
    Grows (chain_behind c x here d k a r) (chain_behind c y here f j a r)
unfolding chain_behind
grow_chain c x y room here d f low zero zero turns a r =
    grow_followed a r (λ o at m. too_deep at) (λ o at m. too_deep at) (infix_at (level_of_chain c) r) (λ o at m. tt)
grow_chain c x y room here d f low zero (suc j) turns a r =
    grow_followed a r (λ o at m. too_deep at) (linked y here f (chain_behind c y here f j) a) (infix_at (level_of_chain c) r) (λ o at m. tt)
grow_chain c x y room here d f low (suc k) zero turns a r = absurd (omega arith)
grow_chain c x y room here d f low (suc k) (suc j) turns a r =
    let fewer : k ≤ j = omega arith in
    grow_followed a r (linked x here d (chain_behind c x here d k) a) (linked y here f (chain_behind c y here f j) a) (infix_at (level_of_chain c) r)
    (grow_linked x y room here d f (chain_behind c x here d k) (chain_behind c y here f j) a low (λ b m. grow_chain c x y room here d f low k j fewer b m))

grow_chained : (end : Span) (c : Chain) (x y : Reader) → IsRoomier x y → IsRoomier (chained end c x) (chained end c y)
grow_chained end c x y room d f ts low =
    grow_then (x d ts) (y f ts) (chain_behind c x (place_or end ts) d d) (chain_behind c y (place_or end ts) f f) (room d f ts low) (λ a r. grow_chain c x y room (place_or end ts) d f low d f low a r)

grow_old : (x y : Reader) → IsRoomier x y → (here : Span) → IsRoomier (old_value x here) (old_value y here)
grow_old x y room here zero f ts low = tt
grow_old x y room here (suc d) zero ts low = absurd (omega arith)
grow_old x y room here (suc d) (suc f) ts low =
    let lower : d ≤ f = omega arith in
    grow_then (x d ts) (y f ts) (λ e r. done (Old here e) r) (λ e r. done (Old here e) r) (room d f ts lower) (λ e r. refl)

grow_word : (x y : Reader) → IsRoomier x y → (d f : ℕ) → d ≤ f → (t : Symbol) (ts : List Symbol) (w : Fixed) → Grows (word_value x d t ts w) (word_value y f t ts w)
grow_word x y room d f low t ts fixed.Old = grow_old x y room t.span d f ts low
grow_word x y room d f low t ts fixed.OpenParenthesis = room d f (t ∷ ts) low
grow_word x y room d f low t ts w = refl

grow_sign : (x y : Reader) → IsRoomier x y → (d f : ℕ) → d ≤ f → (t : Symbol) (ts : List Symbol) (s : Sign) → Grows (sign_value x d t ts s) (sign_value y f t ts s)
grow_sign x y room d f low t ts (signs.Fixed w) = grow_word x y room d f low t ts w
grow_sign x y room d f low t ts (signs.Number n) = refl
grow_sign x y room d f low t ts (signs.Name n) = refl

grow_primary : (end : Span) (x y : Reader) → IsRoomier x y → IsRoomier (primary end x) (primary end y)
grow_primary end x y room d f [] low = refl
grow_primary end x y room d f (t ∷ ts) low = grow_sign x y room d f low t ts t.sign

grow_unary : (end : Span) (x y : Reader) → IsRoomier (primary end x) (primary end y) → IsRoomier (unary end x) (unary end y)
unfolding unary
grow_unary end x y room zero zero ts low =
    grow_signed (primary end x zero ts) (primary end y zero ts) (λ o at m. too_deep at) (λ o at m. too_deep at) (prefix_at ts) (room zero zero ts low) (λ o at m. tt)
grow_unary end x y room zero (suc f) ts low =
    grow_signed (primary end x zero ts) (primary end y (suc f) ts) (λ o at m. too_deep at) (λ o at m. over o at (unary end y f m)) (prefix_at ts) (room zero (suc f) ts low) (λ o at m. tt)
grow_unary end x y room (suc d) zero ts low = absurd (omega arith)
grow_unary end x y room (suc d) (suc f) ts low =
    let lower : d ≤ f = omega arith in
    grow_signed (primary end x (suc d) ts) (primary end y (suc f) ts) (λ o at m. over o at (unary end x d m)) (λ o at m. over o at (unary end y f m)) (prefix_at ts) (room (suc d) (suc f) ts low)
    (λ o at m.
    grow_then (unary end x d m) (unary end y f m) (λ e r. done (prefixed o at e) r) (λ e r. done (prefixed o at e) r) (grow_unary end x y room d f m lower) (λ e r. refl))

grow_comparison : (end : Span) (x y : Reader) → IsRoomier (reading.sum end x) (reading.sum end y) → IsRoomier (comparison end x) (comparison end y)
unfolding comparison
grow_comparison end x y room d f ts low =
    let right : Reader → ℕ → Expression → Op → Span → List Symbol → ReadResult Expression =
    λ z h a o at m. unless_deep (nat_le h (depth a)) at (binary_operation (place_or end ts) o a (reading.sum end z (h - 1) m)) in
    grow_then (reading.sum end x d ts) (reading.sum end y f ts) (λ a r. unless_alone a r (right x d a) (infix_at Comparison r)) (λ a r. unless_alone a r (right y f a) (infix_at Comparison r)) (room d f ts low)
    (λ a r.
    grow_followed a r (right x d a) (right y f a) (infix_at Comparison r)
    (λ o at m.
    grow_deep d f (depth a) at (binary_operation (place_or end ts) o a (reading.sum end x (d - 1) m)) (binary_operation (place_or end ts) o a (reading.sum end y (f - 1) m)) low
    (grow_then (reading.sum end x (d - 1) m) (reading.sum end y (f - 1) m) (λ b n. done (Bin (place_or end ts) o a b) n) (λ b n. done (Bin (place_or end ts) o a b) n)
    (room (d - 1) (f - 1) m (omega arith)) (λ b n. refl))))

grow_junction : (end : Span) (x y : Reader) → IsRoomier (comparison end x) (comparison end y) → IsRoomier (junction end x) (junction end y)
grow_junction end x y room d f ts low =
    grow_then (comparison end x d ts) (comparison end y f ts)
    (λ a r. chain_behind (junction_by (infix_at Disjunction r)) (comparison end x) (place_or end ts) d d a r)
    (λ a r. chain_behind (junction_by (infix_at Disjunction r)) (comparison end y) (place_or end ts) f f a r)
    (room d f ts low)
    (λ a r. grow_chain (junction_by (infix_at Disjunction r)) (comparison end x) (comparison end y) room (place_or end ts) d f low d f low a r)

grow_implication : (end : Span) (x y : Reader) → IsRoomier (junction end x) (junction end y) → IsRoomier (implication end x) (implication end y)
unfolding implication
grow_implication end x y room zero zero ts low =
    grow_then (junction end x zero ts) (junction end y zero ts)
    (λ a r. unless_alone a r (λ o at m. too_deep at) (infix_at Implication r)) (λ a r. unless_alone a r (λ o at m. too_deep at) (infix_at Implication r))
    (room zero zero ts low) (λ a r. same (unless_alone a r (λ o at m. too_deep at) (infix_at Implication r)))
grow_implication end x y room zero (suc f) ts low =
    let right : Expression → Op → Span → List Symbol → ReadResult Expression =
    λ a o at m. unless_deep (nat_le (suc f) (depth a)) at (binary_operation (place_or end ts) o a (implication end y f m)) in
    grow_then (junction end x zero ts) (junction end y (suc f) ts)
    (λ a r. unless_alone a r (λ o at m. too_deep at) (infix_at Implication r)) (λ a r. unless_alone a r (right a) (infix_at Implication r))
    (room zero (suc f) ts low) (λ a r. grow_followed a r (λ o at m. too_deep at) (right a) (infix_at Implication r) (λ o at m. tt))
grow_implication end x y room (suc d) zero ts low = absurd (omega arith)
grow_implication end x y room (suc d) (suc f) ts low =
    let lower : d ≤ f = omega arith in
    let right : Reader → ℕ → Expression → Op → Span → List Symbol → ReadResult Expression =
    λ z h a o at m. unless_deep (nat_le (suc h) (depth a)) at (binary_operation (place_or end ts) o a (implication end z h m)) in
    grow_then (junction end x (suc d) ts) (junction end y (suc f) ts)
    (λ a r. unless_alone a r (right x d a) (infix_at Implication r)) (λ a r. unless_alone a r (right y f a) (infix_at Implication r))
    (room (suc d) (suc f) ts low)
    (λ a r.
    grow_followed a r (right x d a) (right y f a) (infix_at Implication r)
    (λ o at m.
    grow_deep (suc d) (suc f) (depth a) at (binary_operation (place_or end ts) o a (implication end x d m)) (binary_operation (place_or end ts) o a (implication end y f m)) low
    (grow_then (implication end x d m) (implication end y f m) (λ b n. done (Bin (place_or end ts) o a b) n) (λ b n. done (Bin (place_or end ts) o a b) n)
    (grow_implication end x y room d f m lower) (λ b n. refl))))

grow_equivalence : (end : Span) (x y : Reader) → IsRoomier x y → IsRoomier (equivalence end x) (equivalence end y)
grow_equivalence end x y room =
    let unaries = grow_unary end x y (grow_primary end x y room) in
    let products = grow_chained end chains.Product (unary end x) (unary end y) unaries in
    let sums = grow_chained end chains.Sum (factor_chain end x) (factor_chain end y) products in
    let junctions = grow_junction end x y (grow_comparison end x y sums) in
    grow_chained end chains.Equivalence (implication end x) (implication end y) (grow_implication end x y junctions)

grow_inside : (end : Span) (p q : ℕ) → p ≤ q → IsRoomier (inside end p) (inside end q)
unfolding inside
grow_inside end zero zero more d f ts low = same (inside end zero d ts)
grow_inside end zero (suc q) more d f ts low =
    grow_expected end ts (λ m. too_deep (place_or end ts)) (λ m. and_then (equivalence end (inside end q) f m) (closed end)) (behind_sign opens ts) (λ m. tt)
grow_inside end (suc p) zero more d f ts low = absurd (omega arith)
grow_inside end (suc p) (suc q) more d f ts low =
    let fewer : p ≤ q = omega arith in
    grow_expected end ts (λ m. and_then (equivalence end (inside end p) d m) (closed end)) (λ m. and_then (equivalence end (inside end q) f m) (closed end)) (behind_sign opens ts)
    (λ m.
    grow_then (equivalence end (inside end p) d m) (equivalence end (inside end q) f m) (closed end) (closed end)
    (grow_equivalence end (inside end p) (inside end q) (grow_inside end p q fewer) d f m low) (λ e r. same (closed end e r)))

pub more_room : (end : Span) (p q d f : ℕ) (ts : List Symbol) → p ≤ q → d ≤ f → Grows (expression end p d ts) (expression end q f ts)
more_room end p q d f ts more low = grow_equivalence end (inside end p) (inside end q) (grow_inside end p q more) d f ts low

-- an expression with fewer parentheses is one where more are allowed
pub loosen : {p : ℕ} {l : Level} {ts r : List Symbol} {e : Expression} (q : ℕ) → p ≤ q → Reads p l ts e r → Reads q l ts e r
loosen q low (Grammar.one c h) = Grammar.one c (loosen q low h)
loosen q low (Grammar.more t h is k g) = Grammar.more t (loosen q low h) is k (loosen q low g)
loosen q low (Grammar.unimplied h) = Grammar.unimplied (loosen q low h)
loosen q low (Grammar.implied t h is g) = Grammar.implied t (loosen q low h) is (loosen q low g)
loosen q low (Grammar.conjoined h) = Grammar.conjoined (loosen q low h)
loosen q low (Grammar.disjoined h) = Grammar.disjoined (loosen q low h)
loosen q low (Grammar.uncompared h) = Grammar.uncompared (loosen q low h)
loosen q low (Grammar.compared t h is k g) = Grammar.compared t (loosen q low h) is k (loosen q low g)
loosen q low (Grammar.unsigned h) = Grammar.unsigned (loosen q low h)
loosen q low (Grammar.negated t is h) = Grammar.negated t is (loosen q low h)
loosen q low (Grammar.denied t is h) = Grammar.denied t is (loosen q low h)
loosen q low (Grammar.number t is) = Grammar.number t is
loosen q low (Grammar.true_word t is) = Grammar.true_word t is
loosen q low (Grammar.false_word t is) = Grammar.false_word t is
loosen q low (Grammar.name t is) = Grammar.name t is
loosen zero low (Grammar.old_value t u v a b h c) = absurd (omega arith)
loosen (suc q) low (Grammar.old_value t u v a b h c) = Grammar.old_value t u v a b (loosen q (omega arith) h) c
loosen zero low (Grammar.grouped u v a h b) = absurd (omega arith)
loosen (suc q) low (Grammar.grouped u v a h b) = Grammar.grouped u v a (loosen q (omega arith) h) b

-- symbols begin with one expression at most
pub one_expression : (p q : ℕ) (ts : List Symbol) (a b : Expression) (r s : List Symbol) →
    Reads p Equivalence ts a r → Reads q Equivalence ts b s → Ends Equivalence r → Ends Equivalence s → (a ≡ b) × (r ≡ s)
one_expression p q ts a b r s h g ends_r ends_s =
    let end : Span = record { line = 1; col = 1 } in
    let left = complete end (max p q) (max (depth a) (depth b)) ts a r (loosen (max p q) (omega arith) h) (omega arith) ends_r in
    let right = complete end (max p q) (max (depth a) (depth b)) ts b s (loosen (max p q) (omega arith) g) (omega arith) ends_s in
    same_done (sym left ∙ right)

no_fault : {f : Fault} {y : Read Expression} → ◌≡◌ {A = ReadResult Expression} (Err f) (Ok y) → ⊥
no_fault e = cc

-- symbols that are refused as no syntax begin with no expression, whatever is allowed
pub no_expression : (end : Span) (p d line col : ℕ) (ts : List Symbol) → expression end p d ts ≡ Err (faults.Syntax line col) →
    (q : ℕ) (e : Expression) (r : List Symbol) → Reads q Equivalence ts e r → Ends Equivalence r → ⊥
no_expression end p d line col ts refused q e r h ends =
    let read = complete end (max p q) (max d (depth e)) ts e r (loosen (max p q) (omega arith) h) (omega arith) ends in
    let grown = more_room end p (max p q) d (max d (depth e)) ts (omega arith) (omega arith) in
    let still : expression end (max p q) (max d (depth e)) ts ≡ Err (faults.Syntax line col) = subst (λ x. Grows x (expression end (max p q) (max d (depth e)) ts)) refused grown in
    no_fault (sym still ∙ read)
