-- A limit in an expression stands at a symbol up to which an expression begins.
use Rattle.std.proofs.Common.{◌≡◌, ℕ, zero, suc, ◌-◌, Bool, true, false, List, [], ◌∷◌, Option, None, Some, Ok, Err, IfOk, pos, refl, sym, ◌∙◌, subst}
use Rattle.std.specs.Prelude.{nat_le}
use Rattle.boogie_tree.specs.declared.span.Span.{Span}
use Rattle.boogie_tree.specs.declared.level.Level.{Level}
use Rattle.boogie_tree.specs.declared.level.Level.TheVariants.{Equivalence, Implication, Junction, Disjunction, Comparison, Sum, Product, Unary, Primary}
use Rattle.boogie_tree.specs.declared.tree.Op.{Op}
use Rattle.boogie_tree.specs.Levels.{right_of}
use Rattle.boogie_tree.specs.Tree.{Expression, Lit, Old, Bin}
use Rattle.boogie_tree.specs.Places.{beginning}
use Rattle.boogie_parse.specs.declared.fault.Which.TheVariants.{Nesting}
use Rattle.boogie_parse.specs.declared.symbols.Fixed.{Fixed}
use Rattle.boogie_parse.specs.declared.symbols.Fixed.TheVariants as fixed
use Rattle.boogie_parse.specs.declared.symbols.Sign.{Sign}
use Rattle.boogie_parse.specs.declared.symbols.Sign.TheVariants as signs
use Rattle.boogie_parse.specs.declared.symbols.Symbol.{Symbol}
use Rattle.boogie_parse.specs.declared.grammar.expressions.operators.Chain.{Chain}
use Rattle.boogie_parse.specs.declared.grammar.expressions.operators.Chain.TheVariants as chains
use Rattle.boogie_parse.specs.declared.grammar.expressions.operators.Prefix.{Prefix}
use Rattle.boogie_parse.specs.Reading.Outcomes.{ReadResult, place_or, and_then}
use Rattle.boogie_parse.specs.Rules.Grammar
use Rattle.boogie_parse.specs.Rules.Grammar.{Is, Reads, links}
use Rattle.boogie_parse.specs.Rules.GrammarLimits.{depth}
use Rattle.boogie_parse.specs.Reading.ExpressionReading as reading
use Rattle.boogie_parse.specs.Reading.ExpressionReading.{linked, Reader, done, too_deep, unless_deep, joins, Infix, infix_at, unless_alone, binary_operation, level_of_chain, chain_behind, chained, opens, closes, behind_sign, expected, closed, prefix_at, prefixed, if_prefixed, over, old_value, word_value, sign_value, primary, unary, factor_chain, comparison, junction_by, junction, implication, equivalence, inside, expression}
use Rattle.boogie_parse.proofs.Faults.SettledExpressions.{IsReader, steady_chained, steady_primary, steady_unary, steady_comparison, steady_junction, steady_implication, steady_equivalence, steady_inside}
use Rattle.boogie_parse.proofs.Rules.ExpressionSound as sounds
use Rattle.boogie_parse.proofs.Rules.ExpressionSound.{IsSound, IsSoundGroup, InParentheses, in_parentheses}
use Rattle.boogie_parse.proofs.Rules.WeakerRoom.{weak}
use Rattle.boogie_parse.proofs.Faults.BegunTools.{Relation, BegunIf, begun_at, begun_map, begun_behind, begun_and, a_mark}

-- an expression of that level, with one more parenthesis than so many
abbrev pub Spells : ℕ → Level → Relation
Spells p l ts r = (e : Expression) × Reads (suc p) l ts e r

-- an expression in parentheses
abbrev Grouped : ℕ → Relation
Grouped p ts r = (e : Expression) × InParentheses (suc p) ts e r

-- what carries an expression of one level on to one of another level
abbrev Carries : ℕ → Level → Level → Relation
Carries p l m ts r = (us : List Symbol) (e : Expression) → Reads (suc p) l us e ts → Spells p m us r

abbrev pub a_number : Symbol
a_number = record { span = beginning; sign = signs.Number (pos 0) }

at_primary : (q : ℕ) (r : List Symbol) → Reads q Primary (a_number ∷ r) (Lit beginning (pos 0)) r
at_primary q r = Grammar.number a_number refl

at_unary : (q : ℕ) (r : List Symbol) → Reads q Unary (a_number ∷ r) (Lit beginning (pos 0)) r
at_unary q r = Grammar.unsigned (at_primary q r)

at_product : (q : ℕ) (r : List Symbol) → Reads q Product (a_number ∷ r) (Lit beginning (pos 0)) r
at_product q r = Grammar.one refl (at_unary q r)

at_sum : (q : ℕ) (r : List Symbol) → Reads q Sum (a_number ∷ r) (Lit beginning (pos 0)) r
at_sum q r = Grammar.one refl (at_product q r)

at_comparison : (q : ℕ) (r : List Symbol) → Reads q Comparison (a_number ∷ r) (Lit beginning (pos 0)) r
at_comparison q r = Grammar.uncompared (at_sum q r)

at_implication : (q : ℕ) (r : List Symbol) → Reads q Implication (a_number ∷ r) (Lit beginning (pos 0)) r
at_implication q r = Grammar.unimplied (Grammar.conjoined (Grammar.one refl (at_comparison q r)))

pub at_equivalence : (q : ℕ) (r : List Symbol) → Reads q Equivalence (a_number ∷ r) (Lit beginning (pos 0)) r
at_equivalence q r = Grammar.one refl (at_implication q r)

at_right : (c : Chain) (q : ℕ) (r : List Symbol) → Reads q (right_of (level_of_chain c)) (a_number ∷ r) (Lit beginning (pos 0)) r
at_right chains.Equivalence q r = at_implication q r
at_right chains.Conjunction q r = at_comparison q r
at_right chains.Disjunction q r = at_comparison q r
at_right chains.Sum q r = at_product q r
at_right chains.Product q r = at_unary q r

abbrev IsBegun : ℕ → Level → Reader → Type 0
IsBegun p l x = (d : ℕ) (ts : List Symbol) → BegunIf (Spells p l) ts (x d ts)

-- what is read as such an expression is one
spells : (p : ℕ) (l : Level) (x : Reader) → IsSound p l x → (d : ℕ) (us : List Symbol) → IfOk (x d us) (λ a. Spells p l us a.rest)
spells p l x sound d us = by (x d us) refl
  where
    by : (o : ReadResult Expression) → x d us ≡ o → IfOk o (λ a. Spells p l us a.rest)
    by (Ok a) e = let g = sound d us a e in (a.value, weak g.reads)
    by (Err f) e = tt

-- ---- an operator and its right operand

by_followed : (K : Relation) (level : Level) (a : Expression) (go : Op → Span → List Symbol → ReadResult Expression) (ts : List Symbol) →
    ((t : Symbol) (f : Fixed) (o : Op) (r : List Symbol) → Is t f → joins level f ≡ Some o → BegunIf K (t ∷ r) (go o t.span r)) → BegunIf K ts (unless_alone a ts go (infix_at level ts))
by_followed K level a go [] h = tt
by_followed K level a go (t ∷ r) h = by t.sign refl
  where
    of_word : (f : Fixed) → t.sign ≡ signs.Fixed f → (o : Option Op) → joins level f ≡ o → BegunIf K (t ∷ r) (unless_alone a (t ∷ r) go (reading.infix_of t.span r o))
    of_word f is None e = tt
    of_word f is (Some o) e = h t f o r is e

    by : (s : Sign) → t.sign ≡ s → BegunIf K (t ∷ r) (unless_alone a (t ∷ r) go (reading.infix_of t.span r (reading.sign_joins level s)))
    by (signs.Fixed f) is = of_word f is (joins level f) refl
    by (signs.Number n) is = tt
    by (signs.Name n) is = tt

by_deep : (K : Relation) (b : Bool) (t : Symbol) (r : List Symbol) (go : ReadResult Expression) → BegunIf K (t ∷ r) (too_deep t.span) → BegunIf K (t ∷ r) go → BegunIf K (t ∷ r) (unless_deep b t.span go)
by_deep K true t r go deep h = deep
by_deep K false t r go deep h = h

-- an operator that is too deep
deep_at : (K : Relation) (t : Symbol) (r : List Symbol) → ((m : List Symbol) → K (t ∷ a_number ∷ m) m) → BegunIf K (t ∷ r) (too_deep t.span)
deep_at K t r h = begun_at K t r Nesting (λ m. a_number ∷ m) h

-- ---- chains

abbrev Tail : ℕ → Chain → Relation
Tail p c = Carries p (level_of_chain c) (level_of_chain c)

-- one more operand
carried : (p : ℕ) (c : Chain) (t : Symbol) (f : Fixed) (o : Op) (n m : List Symbol) → Is t f → joins (level_of_chain c) f ≡ Some o → Spells p (right_of (level_of_chain c)) n m → Tail p c (t ∷ n) m
carried p c t f o n m is spelled right us e left = (Bin (Grammar.symbols_place us) o e right.0, Grammar.more t left is (sym (sounds.joins_links c f) ∙ spelled) right.1)

begun_chain : (p : ℕ) (c : Chain) (x : Reader) → IsReader x → IsSound p (right_of (level_of_chain c)) x → IsBegun p (right_of (level_of_chain c)) x → (here : Span) (d k : ℕ) (a : Expression) (ts : List Symbol) →
    BegunIf (Tail p c) ts (chain_behind c x here d k a ts)
unfolding chain_behind
begun_chain p c x steady sound begun here d zero a ts =
    by_followed (Tail p c) (level_of_chain c) a (λ o at m. too_deep at) ts
    (λ t f o r is spelled. deep_at (Tail p c) t r (λ m. carried p c t f o (a_number ∷ m) m is spelled (Lit beginning (pos 0), at_right c (suc p) m)))
begun_chain p c x steady sound begun here d (suc k) a ts =
    by_followed (Tail p c) (level_of_chain c) a (linked x here d (chain_behind c x here d k) a) ts
    (λ t f o r is spelled.
    by_deep (Tail p c) (nat_le d (depth a)) t r (and_then (x (d - 1) r) (λ b m. chain_behind c x here d k (Bin here o a b) m))
    (deep_at (Tail p c) t r (λ m. carried p c t f o (a_number ∷ m) m is spelled (Lit beginning (pos 0), at_right c (suc p) m)))
    (begun_behind (λ n m. Tail p c (t ∷ n) m) (Tail p c) t r (and_then (x (d - 1) r) (λ b m. chain_behind c x here d k (Bin here o a b) m)) (λ n m h. h)
    (begun_and 1 (x (d - 1)) (λ b m. chain_behind c x here d k (Bin here o a b) m) (Spells p (right_of (level_of_chain c))) (Tail p c) (λ n m. Tail p c (t ∷ n) m) r (steady (d - 1) r)
    (spells p (right_of (level_of_chain c)) x sound (d - 1))
    (λ n m k right rest us e left. let w = carried p c t f o n m is spelled right us e left in rest us w.0 w.1)
    (record { symbols = λ m. m; fills = λ m us e left. (e, left) }) (begun (d - 1) r) (λ b m. begun_chain p c x steady sound begun here d k (Bin here o a b) m))))

begun_chained : (p : ℕ) (end : Span) (c : Chain) (x : Reader) → IsReader x → IsSound p (right_of (level_of_chain c)) x → IsBegun p (right_of (level_of_chain c)) x → IsBegun p (level_of_chain c) (chained end c x)
begun_chained p end c x steady sound begun d ts =
    begun_and 1 (x d) (chain_behind c x (place_or end ts) d d) (Spells p (right_of (level_of_chain c))) (Tail p c) (Spells p (level_of_chain c)) ts (steady d ts)
    (spells p (right_of (level_of_chain c)) x sound d) (λ n m r first rest. rest n first.0 (Grammar.one (sounds.level_is_chain c) first.1))
    (record { symbols = λ m. m; fills = λ m us e left. (e, left) }) (begun d ts) (λ a r. begun_chain p c x steady sound begun (place_or end ts) d d a r)

-- ---- signs before an operand

prefixed_number : (p : ℕ) (o : Prefix) (t : Symbol) (m : List Symbol) → Is t (sounds.spelling o) → Spells p Unary (t ∷ a_number ∷ m) m
prefixed_number p o t m is = (prefixed o t.span (Lit beginning (pos 0)), sounds.prefix_reads o t is (at_unary (suc p) m))

by_signed : (K : Relation) (plain : ReadResult Expression) (go : Prefix → Span → List Symbol → ReadResult Expression) (ts : List Symbol) → BegunIf K ts plain →
    ((o : Prefix) (t : Symbol) (r : List Symbol) → Is t (sounds.spelling o) → BegunIf K (t ∷ r) (go o t.span r)) → BegunIf K ts (if_prefixed plain go (prefix_at ts))
by_signed K plain go [] h k = h
by_signed K plain go (t ∷ r) h k = by (reading.prefix_of t.sign) refl
  where
    by : (o : Option Prefix) → reading.prefix_of t.sign ≡ o → BegunIf K (t ∷ r) (if_prefixed plain go (reading.prefix_by t.span r o))
    by None e = h
    by (Some o) e = k o t r (sounds.prefix_spelled t.sign o e)

by_over : (K : Relation) (o : Prefix) (here : Span) (ts : List Symbol) (x : ReadResult Expression) → BegunIf K ts x → BegunIf K ts (over o here x)
by_over K o here ts (Ok a) h = tt
by_over K o here ts (Err f) h = h

begun_unary : (p : ℕ) (end : Span) (inner : Reader) → IsBegun p Primary (primary end inner) → IsBegun p Unary (unary end inner)
unfolding unary
begun_unary p end inner begun zero ts =
    by_signed (Spells p Unary) (primary end inner zero ts) (λ o at m. too_deep at) ts (begun_map (Spells p Primary) (Spells p Unary) ts (primary end inner zero ts) (λ n r g. (g.0, Grammar.unsigned g.1)) (begun zero ts))
    (λ o t r is. deep_at (Spells p Unary) t r (λ m. prefixed_number p o t m is))
begun_unary p end inner begun (suc d) ts =
    by_signed (Spells p Unary) (primary end inner (suc d) ts) (λ o at m. over o at (unary end inner d m)) ts
    (begun_map (Spells p Primary) (Spells p Unary) ts (primary end inner (suc d) ts) (λ n r g. (g.0, Grammar.unsigned g.1)) (begun (suc d) ts))
    (λ o t r is.
    begun_behind (Spells p Unary) (Spells p Unary) t r (over o t.span (unary end inner d r)) (λ n m g. (prefixed o t.span g.0, sounds.prefix_reads o t is g.1))
    (by_over (Spells p Unary) o t.span r (unary end inner d r) (begun_unary p end inner begun d r)))

-- ---- the smallest parts

abbrev IsBegunGroup : ℕ → Reader → Type 0
IsBegunGroup p x = (d : ℕ) (ts : List Symbol) → BegunIf (Grouped p) ts (x d ts)

grouped_number : (p : ℕ) (t : Symbol) (m : List Symbol) → Is t fixed.OpenParenthesis → Grouped p (t ∷ a_number ∷ a_mark fixed.CloseParenthesis ∷ m) m
grouped_number p t m is = (Lit beginning (pos 0), in_parentheses t (a_mark fixed.CloseParenthesis) is (at_equivalence p (a_mark fixed.CloseParenthesis ∷ m)) refl)

by_old : (p : ℕ) (inner : Reader) → IsBegunGroup p inner → (d : ℕ) (t : Symbol) (ts : List Symbol) → Is t fixed.Old → BegunIf (Spells p Primary) (t ∷ ts) (old_value inner t.span d ts)
by_old p inner begun zero t ts is =
    begun_at (Spells p Primary) t ts Nesting (λ m. a_mark fixed.OpenParenthesis ∷ a_number ∷ a_mark fixed.CloseParenthesis ∷ m)
    (λ m. let g = grouped_number p (a_mark fixed.OpenParenthesis) m refl in (Old t.span g.0, sounds.old_reads t is g.1))
by_old p inner begun (suc d) t ts is =
    begun_behind (Grouped p) (Spells p Primary) t ts (and_then (inner d ts) (λ e r. done (Old t.span e) r)) (λ n m g. (Old t.span g.0, sounds.old_reads t is g.1)) (by (inner d ts) (begun d ts))
  where
    by : (o : ReadResult Expression) → BegunIf (Grouped p) ts o → BegunIf (Grouped p) ts (and_then o (λ e r. done (Old t.span e) r))
    by (Ok a) h = tt
    by (Err f) h = h

by_word : (p : ℕ) (inner : Reader) → IsBegunGroup p inner → (d : ℕ) (t : Symbol) (ts : List Symbol) (w : Fixed) → Is t w → BegunIf (Spells p Primary) (t ∷ ts) (word_value inner d t ts w)
by_word p inner begun d t ts fixed.True is = tt
by_word p inner begun d t ts fixed.False is = tt
by_word p inner begun d t ts fixed.Old is = by_old p inner begun d t ts is
by_word p inner begun d t ts fixed.OpenParenthesis is = begun_map (Grouped p) (Spells p Primary) (t ∷ ts) (inner d (t ∷ ts)) (λ n r g. (g.0, sounds.group_reads g.1)) (begun d (t ∷ ts))
by_word p inner begun d t ts w is = tt

by_sign : (p : ℕ) (inner : Reader) → IsBegunGroup p inner → (d : ℕ) (t : Symbol) (ts : List Symbol) (s : Sign) → t.sign ≡ s → BegunIf (Spells p Primary) (t ∷ ts) (sign_value inner d t ts s)
by_sign p inner begun d t ts (signs.Fixed w) is = by_word p inner begun d t ts w is
by_sign p inner begun d t ts (signs.Number n) is = tt
by_sign p inner begun d t ts (signs.Name n) is = tt

begun_primary : (p : ℕ) (end : Span) (inner : Reader) → IsBegunGroup p inner → IsBegun p Primary (primary end inner)
begun_primary p end inner begun d [] = tt
begun_primary p end inner begun d (t ∷ ts) = by_sign p inner begun d t ts t.sign refl

-- ---- comparisons, junctions and implications

by_operation : (K : Relation) (here : Span) (o : Op) (a : Expression) (ts : List Symbol) (x : ReadResult Expression) → BegunIf K ts x → BegunIf K ts (binary_operation here o a x)
by_operation K here o a ts (Ok b) h = tt
by_operation K here o a ts (Err f) h = h

begun_comparison : (p : ℕ) (end : Span) (inner : Reader) → IsReader (reading.sum end inner) → IsSound p Sum (reading.sum end inner) → IsBegun p Sum (reading.sum end inner) → IsBegun p Comparison (comparison end inner)
unfolding comparison
begun_comparison p end inner steady sound begun d ts =
    let K : Relation = Carries p Sum Comparison in
    let right : Expression → Op → Span → List Symbol → ReadResult Expression = λ a o at m. unless_deep (nat_le d (depth a)) at (binary_operation (place_or end ts) o a (reading.sum end inner (d - 1) m)) in
    begun_and 1 (reading.sum end inner d) (λ a m. unless_alone a m (right a) (infix_at Comparison m)) (Spells p Sum) K (Spells p Comparison) ts (steady d ts) (spells p Sum (reading.sum end inner) sound d)
    (λ n m r first rest. rest n first.0 first.1) (record { symbols = λ m. m; fills = λ m us e left. (e, Grammar.uncompared left) }) (begun d ts)
    (λ a m.
    by_followed K Comparison a (right a) m
    (λ t f o r is spelled.
    by_deep K (nat_le d (depth a)) t r (binary_operation (place_or end ts) o a (reading.sum end inner (d - 1) r))
    (deep_at K t r (λ m us e left. (Bin (Grammar.symbols_place us) o e (Lit beginning (pos 0)), Grammar.compared t left is spelled (at_sum (suc p) m))))
    (begun_behind (Spells p Sum) K t r (binary_operation (place_or end ts) o a (reading.sum end inner (d - 1) r)) (λ n m g us e left. (Bin (Grammar.symbols_place us) o e g.0, Grammar.compared t left is spelled g.1))
    (by_operation (Spells p Sum) (place_or end ts) o a r (reading.sum end inner (d - 1) r) (begun (d - 1) r)))))

by_junction : (p : ℕ) (x : Reader) → IsReader x → IsSound p Comparison x → IsBegun p Comparison x → (here : Span) (d : ℕ) (a : Expression) (ts : List Symbol) (o : Option Infix) →
    BegunIf (Carries p Comparison Junction) ts (chain_behind (junction_by o) x here d d a ts)
by_junction p x steady sound begun here d a ts None =
    begun_map (Tail p chains.Conjunction) (Carries p Comparison Junction) ts (chain_behind chains.Conjunction x here d d a ts)
    (λ n r h us e left. let w = h us e (Grammar.one refl left) in (w.0, Grammar.conjoined w.1)) (begun_chain p chains.Conjunction x steady sound begun here d d a ts)
by_junction p x steady sound begun here d a ts (Some z) =
    begun_map (Tail p chains.Disjunction) (Carries p Comparison Junction) ts (chain_behind chains.Disjunction x here d d a ts)
    (λ n r h us e left. let w = h us e (Grammar.one refl left) in (w.0, Grammar.disjoined w.1)) (begun_chain p chains.Disjunction x steady sound begun here d d a ts)

begun_junction : (p : ℕ) (end : Span) (inner : Reader) → IsReader (comparison end inner) → IsSound p Comparison (comparison end inner) → IsBegun p Comparison (comparison end inner) → IsBegun p Junction (junction end inner)
begun_junction p end inner steady sound begun d ts =
    begun_and 1 (comparison end inner d) (λ a r. chain_behind (junction_by (infix_at Disjunction r)) (comparison end inner) (place_or end ts) d d a r) (Spells p Comparison) (Carries p Comparison Junction) (Spells p Junction) ts (steady d ts)
    (spells p Comparison (comparison end inner) sound d) (λ n m r first rest. rest n first.0 first.1)
    (record { symbols = λ m. m; fills = λ m us e left. (e, Grammar.conjoined (Grammar.one refl left)) }) (begun d ts)
    (λ a r. by_junction p (comparison end inner) steady sound begun (place_or end ts) d a r (infix_at Disjunction r))

implies : (p : ℕ) (t : Symbol) (f : Fixed) (o : Op) (n m : List Symbol) → Is t f → joins Implication f ≡ Some o → Spells p Implication n m → Carries p Junction Implication (t ∷ n) m
implies p t f o n m is spelled g us e left = (Bin (Grammar.symbols_place us) o e g.0, sounds.implied_reads t is spelled left g.1)

begun_implication : (p : ℕ) (end : Span) (inner : Reader) → IsReader (junction end inner) → IsSound p Junction (junction end inner) → IsBegun p Junction (junction end inner) → IsBegun p Implication (implication end inner)
unfolding implication
begun_implication p end inner steady sound begun zero ts =
    let K : Relation = Carries p Junction Implication in
    begun_and 1 (junction end inner zero) (λ a m. unless_alone a m (λ o at n. too_deep at) (infix_at Implication m)) (Spells p Junction) K (Spells p Implication) ts (steady zero ts) (spells p Junction (junction end inner) sound zero)
    (λ n m r first rest. rest n first.0 first.1) (record { symbols = λ m. m; fills = λ m us e left. (e, Grammar.unimplied left) }) (begun zero ts)
    (λ a m.
    by_followed K Implication a (λ o at n. too_deep at) m
    (λ t f o r is spelled. deep_at K t r (λ m. implies p t f o (a_number ∷ m) m is spelled (Lit beginning (pos 0), at_implication (suc p) m))))
begun_implication p end inner steady sound begun (suc d) ts =
    let K : Relation = Carries p Junction Implication in
    let right : Expression → Op → Span → List Symbol → ReadResult Expression = λ a o at m. unless_deep (nat_le (suc d) (depth a)) at (binary_operation (place_or end ts) o a (implication end inner d m)) in
    begun_and 1 (junction end inner (suc d)) (λ a m. unless_alone a m (right a) (infix_at Implication m)) (Spells p Junction) K (Spells p Implication) ts (steady (suc d) ts) (spells p Junction (junction end inner) sound (suc d))
    (λ n m r first rest. rest n first.0 first.1) (record { symbols = λ m. m; fills = λ m us e left. (e, Grammar.unimplied left) }) (begun (suc d) ts)
    (λ a m.
    by_followed K Implication a (right a) m
    (λ t f o r is spelled.
    by_deep K (nat_le (suc d) (depth a)) t r (binary_operation (place_or end ts) o a (implication end inner d r))
    (deep_at K t r (λ m. implies p t f o (a_number ∷ m) m is spelled (Lit beginning (pos 0), at_implication (suc p) m)))
    (begun_behind (Spells p Implication) K t r (binary_operation (place_or end ts) o a (implication end inner d r)) (λ n m g. implies p t f o n m is spelled g)
    (by_operation (Spells p Implication) (place_or end ts) o a r (implication end inner d r) (begun_implication p end inner steady sound begun d r)))))

begun_equivalence : (p : ℕ) (end : Span) (x : Reader) → IsReader x → IsSoundGroup p x → IsBegunGroup p x → IsBegun p Equivalence (equivalence end x)
begun_equivalence p end x steady sound begun =
    let t_unary : IsReader (unary end x) = steady_unary end x (steady_primary end x steady) in
    let t_product : IsReader (factor_chain end x) = steady_chained end chains.Product (unary end x) t_unary in
    let t_sum : IsReader (reading.sum end x) = steady_chained end chains.Sum (factor_chain end x) t_product in
    let t_comparison : IsReader (comparison end x) = steady_comparison end x t_sum in
    let t_junction : IsReader (junction end x) = steady_junction end x t_comparison in
    let t_implication : IsReader (implication end x) = steady_implication end x t_junction in
    let s_unary : IsSound p Unary (unary end x) = sounds.sound_unary p end x (sounds.sound_primary p end x sound) in
    let s_product : IsSound p Product (factor_chain end x) = sounds.sound_chained p end chains.Product (unary end x) s_unary in
    let s_sum : IsSound p Sum (reading.sum end x) = sounds.sound_chained p end chains.Sum (factor_chain end x) s_product in
    let s_comparison : IsSound p Comparison (comparison end x) = sounds.sound_comparison p end x s_sum in
    let s_junction : IsSound p Junction (junction end x) = sounds.sound_junction p end x s_comparison in
    let s_implication : IsSound p Implication (implication end x) = sounds.sound_implication p end x s_junction in
    let b_unary : IsBegun p Unary (unary end x) = begun_unary p end x (begun_primary p end x begun) in
    let b_product : IsBegun p Product (factor_chain end x) = begun_chained p end chains.Product (unary end x) t_unary s_unary b_unary in
    let b_sum : IsBegun p Sum (reading.sum end x) = begun_chained p end chains.Sum (factor_chain end x) t_product s_product b_product in
    let b_comparison : IsBegun p Comparison (comparison end x) = begun_comparison p end x t_sum s_sum b_sum in
    let b_junction : IsBegun p Junction (junction end x) = begun_junction p end x t_comparison s_comparison b_comparison in
    let b_implication : IsBegun p Implication (implication end x) = begun_implication p end x t_junction s_junction b_junction in
    begun_chained p end chains.Equivalence (implication end x) t_implication s_implication b_implication

-- ---- parentheses

by_expected : (K : Relation) (end : Span) (go : List Symbol → ReadResult Expression) (ts : List Symbol) → ((t : Symbol) (r : List Symbol) → Is t fixed.OpenParenthesis → BegunIf K (t ∷ r) (go r)) →
    BegunIf K ts (expected end ts go (behind_sign opens ts))
by_expected K end go [] h = tt
by_expected K end go (t ∷ r) h = by (opens t.sign) refl
  where
    by : (b : Bool) → opens t.sign ≡ b → BegunIf K (t ∷ r) (expected end (t ∷ r) go (reading.behind_if b r))
    by true e = h t r (sounds.opens_is t.sign e)
    by false e = tt

by_closed : (K : Relation) (end : Span) (e : Expression) (ts : List Symbol) → BegunIf K ts (closed end e ts)
by_closed K end e [] = tt
by_closed K end e (t ∷ r) = by (closes t.sign)
  where
    by : (b : Bool) → BegunIf K (t ∷ r) (expected end (t ∷ r) (done e) (reading.behind_if b r))
    by true = tt
    by false = tt

-- the closing parenthesis
abbrev Closing : Relation
Closing n r = (v : Symbol) × ((n ≡ v ∷ r) × Is v fixed.CloseParenthesis)

begun_inside : (end : Span) (p : ℕ) → IsBegunGroup p (inside end p)
unfolding inside
begun_inside end zero d [] = tt
begun_inside end zero d (t ∷ ts) = by (opens t.sign) refl
  where
    by : (b : Bool) → opens t.sign ≡ b → BegunIf (Grouped zero) (t ∷ ts) (expected end (t ∷ ts) (λ m. too_deep t.span) (reading.behind_if b ts))
    by true e = begun_at (Grouped zero) t ts Nesting (λ m. a_number ∷ a_mark fixed.CloseParenthesis ∷ m) (λ m. grouped_number zero t m (sounds.opens_is t.sign e))
    by false e = tt
begun_inside end (suc p) d ts =
    let K : Relation = Grouped (suc p) in
    by_expected K end (λ m. and_then (equivalence end (inside end p) d m) (closed end)) ts
    (λ t r is.
    begun_behind (λ n m. K (t ∷ n) m) K t r (and_then (equivalence end (inside end p) d r) (closed end)) (λ n m h. h)
    (begun_and 1 (equivalence end (inside end p) d) (closed end) (Spells p Equivalence) Closing (λ n m. K (t ∷ n) m) r (steady_equivalence end (inside end p) (steady_inside end p) d r)
    (spells p Equivalence (equivalence end (inside end p)) (sounds.sound_equivalence p end (inside end p) (sounds.sound_inside end p)) d)
    (λ n m k g c. (g.0, in_parentheses t c.0 is (subst (λ x. Reads (suc p) Equivalence n g.0 x) c.1.0 g.1) c.1.1))
    (record { symbols = λ m. a_mark fixed.CloseParenthesis ∷ m; fills = λ m. (a_mark fixed.CloseParenthesis, (refl, refl)) })
    (begun_equivalence p end (inside end p) (steady_inside end p) (sounds.sound_inside end p) (begun_inside end p) d r) (λ e m. by_closed Closing end e m)))

pub expression_begun : (end : Span) (p d : ℕ) (ts : List Symbol) → BegunIf (Spells p Equivalence) ts (expression end p d ts)
expression_begun end p d ts = begun_equivalence p end (inside end p) (steady_inside end p) (sounds.sound_inside end p) (begun_inside end p) d ts

pub expression_spells : (end : Span) (p d : ℕ) (us : List Symbol) → IfOk (expression end p d us) (λ a. Spells p Equivalence us a.rest)
expression_spells end p d us = spells p Equivalence (expression end p) (sounds.sound_equivalence p end (inside end p) (sounds.sound_inside end p)) d us
