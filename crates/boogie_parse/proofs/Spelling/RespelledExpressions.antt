-- The signs of an expression are read as it, with no more parentheses open than where it was read.
use Rattle.std.proofs.Common.{◌≡◌, ℕ, suc, ℤ, pos, negsuc, Bool, true, false, List, [], ◌∷◌, ◌++◌, None, Some, refl, sym, ap, subst, ◌∙◌, append_assoc}
use Rattle.boogie_tree.specs.declared.span.Span.{Span}
use Rattle.boogie_tree.specs.declared.level.Level.{Level}
use Rattle.boogie_tree.specs.declared.level.Level.TheVariants.{Equivalence, Implication, Junction, Conjunction, Disjunction, Comparison, Sum, Product, Unary, Primary}
use Rattle.boogie_tree.specs.declared.tree.Op.{Op}
use Rattle.boogie_tree.specs.declared.tree.Op.TheVariants as op
use Rattle.boogie_tree.specs.Levels.{may_stand, left_of, right_of, level_of, level_of_operator}
use Rattle.boogie_tree.specs.Tree.{Expression, Lit, Truth, Var, Old, Not, Neg, Bin}
use Rattle.boogie_tree.specs.Apart.{nowhere, bare}
use Rattle.boogie_parse.specs.declared.symbols.Fixed.{Fixed}
use Rattle.boogie_parse.specs.declared.symbols.Fixed.TheVariants as fixed
use Rattle.boogie_parse.specs.declared.symbols.Sign.{Sign}
use Rattle.boogie_parse.specs.declared.symbols.Sign.TheVariants as signs
use Rattle.boogie_parse.specs.declared.symbols.Symbol.{Symbol}
use Rattle.boogie_parse.specs.Rules.Grammar
use Rattle.boogie_parse.specs.Rules.Grammar.{Is, Reads, symbols_place, links, compares, is_chain}
use Rattle.boogie_parse.specs.Spelling.Spelled.{led, grouped_signs, expression_signs, operator_sign}
use Rattle.boogie_parse.specs.Spelling.Respelled.{IsUnsigned, AreUnsigned}
use Rattle.boogie_parse.proofs.Spelling.RespelledTools.{ReadsAgain, Respells, led_by, led_after, up_to}
use Rattle.boogie_parse.proofs.Spelling.RespelledRest.{expression-rest}

-- what is read is read where one parenthesis more may be open
pub one_more : {p : ℕ} {l : Level} {ts r : List Symbol} {e : Expression} → Reads p l ts e r → Reads (suc p) l ts e r
one_more (Grammar.one c h) = Grammar.one c (one_more h)
one_more (Grammar.more t h is k g) = Grammar.more t (one_more h) is k (one_more g)
one_more (Grammar.unimplied h) = Grammar.unimplied (one_more h)
one_more (Grammar.implied t h is g) = Grammar.implied t (one_more h) is (one_more g)
one_more (Grammar.conjoined h) = Grammar.conjoined (one_more h)
one_more (Grammar.disjoined h) = Grammar.disjoined (one_more h)
one_more (Grammar.uncompared h) = Grammar.uncompared (one_more h)
one_more (Grammar.compared t h is k g) = Grammar.compared t (one_more h) is k (one_more g)
one_more (Grammar.unsigned h) = Grammar.unsigned (one_more h)
one_more (Grammar.negated t is h) = Grammar.negated t is (one_more h)
one_more (Grammar.denied t is h) = Grammar.denied t is (one_more h)
one_more (Grammar.number t is) = Grammar.number t is
one_more (Grammar.true_word t is) = Grammar.true_word t is
one_more (Grammar.false_word t is) = Grammar.false_word t is
one_more (Grammar.name t is) = Grammar.name t is
one_more (Grammar.old_value t u v a b h c) = Grammar.old_value t u v a b (one_more h) c
one_more (Grammar.grouped u v b h c) = Grammar.grouped u v b (one_more h) c

no_truth : {A : Type 0} → false ≡ true → A
no_truth e = absurd (let f : false ≡ true = e in cc)

-- What may stand where a level is asked for is read at that level.
module _ {p : ℕ} {ts r : List Symbol} {e : Expression} where
  up_primary : (k : Level) → may_stand Primary k ≡ true → Reads p k ts e r → Reads p Primary ts e r
  up_primary Primary c h = h
  up_primary k c h = no_truth c

  up_unary : (k : Level) → may_stand Unary k ≡ true → Reads p k ts e r → Reads p Unary ts e r
  up_unary Unary c h = h
  up_unary k c h = Grammar.unsigned (up_primary k c h)

  up_product : (k : Level) → may_stand Product k ≡ true → Reads p k ts e r → Reads p Product ts e r
  up_product Product c h = h
  up_product k c h = Grammar.one refl (up_unary k c h)

  up_sum : (k : Level) → may_stand Sum k ≡ true → Reads p k ts e r → Reads p Sum ts e r
  up_sum Sum c h = h
  up_sum k c h = Grammar.one refl (up_product k c h)

  up_comparison : (k : Level) → may_stand Comparison k ≡ true → Reads p k ts e r → Reads p Comparison ts e r
  up_comparison Comparison c h = h
  up_comparison k c h = Grammar.uncompared (up_sum k c h)

  up_conjunction : (k : Level) → may_stand Conjunction k ≡ true → Reads p k ts e r → Reads p Conjunction ts e r
  up_conjunction Conjunction c h = h
  up_conjunction k c h = Grammar.one refl (up_comparison k c h)

  up_disjunction : (k : Level) → may_stand Disjunction k ≡ true → Reads p k ts e r → Reads p Disjunction ts e r
  up_disjunction Disjunction c h = h
  up_disjunction k c h = Grammar.one refl (up_comparison k c h)

  up_junction : (k : Level) → may_stand Junction k ≡ true → Reads p k ts e r → Reads p Junction ts e r
  up_junction Junction c h = h
  up_junction Conjunction c h = Grammar.conjoined h
  up_junction Disjunction c h = Grammar.disjoined h
  up_junction k c h = Grammar.conjoined (up_conjunction k c h)

  up_implication : (k : Level) → may_stand Implication k ≡ true → Reads p k ts e r → Reads p Implication ts e r
  up_implication Implication c h = h
  up_implication k c h = Grammar.unimplied (up_junction k c h)

  up_equivalence : (k : Level) → may_stand Equivalence k ≡ true → Reads p k ts e r → Reads p Equivalence ts e r
  up_equivalence Equivalence c h = h
  up_equivalence k c h = Grammar.one refl (up_implication k c h)

  rises : (l k : Level) → may_stand l k ≡ true → Reads p k ts e r → Reads p l ts e r
  rises Equivalence = up_equivalence
  rises Implication = up_implication
  rises Junction = up_junction
  rises Conjunction = up_conjunction
  rises Disjunction = up_disjunction
  rises Comparison = up_comparison
  rises Sum = up_sum
  rises Product = up_product
  rises Unary = up_unary
  rises Primary = up_primary

pub stands_itself : (l : Level) → may_stand l l ≡ true
stands_itself Equivalence = refl
stands_itself Implication = refl
stands_itself Junction = refl
stands_itself Conjunction = refl
stands_itself Disjunction = refl
stands_itself Comparison = refl
stands_itself Sum = refl
stands_itself Product = refl
stands_itself Unary = refl
stands_itself Primary = refl

primary_stands : (l : Level) → may_stand l Primary ≡ true
primary_stands Equivalence = refl
primary_stands Implication = refl
primary_stands Junction = refl
primary_stands Conjunction = refl
primary_stands Disjunction = refl
primary_stands Comparison = refl
primary_stands Sum = refl
primary_stands Product = refl
primary_stands Unary = refl
primary_stands Primary = refl

pub each_stands : (k : Level) → may_stand Equivalence k ≡ true
each_stands Equivalence = refl
each_stands k = refl

-- what may stand at a level may stand at the one above it
pub stands_unary : (k : Level) → may_stand Primary k ≡ true → may_stand Unary k ≡ true
stands_unary Primary c = refl
stands_unary k c = no_truth c

pub stands_comparison : (k : Level) → may_stand Sum k ≡ true → may_stand Comparison k ≡ true
stands_comparison Sum c = refl
stands_comparison Product c = refl
stands_comparison Unary c = refl
stands_comparison Primary c = refl
stands_comparison k c = no_truth c

pub stands_implication : (k : Level) → may_stand Junction k ≡ true → may_stand Implication k ≡ true
stands_implication Equivalence c = no_truth c
stands_implication k c = refl

pub stands_conjoined : (k : Level) → may_stand Conjunction k ≡ true → may_stand Junction k ≡ true
stands_conjoined Equivalence c = no_truth c
stands_conjoined Implication c = no_truth c
stands_conjoined k c = refl

pub stands_disjoined : (k : Level) → may_stand Disjunction k ≡ true → may_stand Junction k ≡ true
stands_disjoined Equivalence c = no_truth c
stands_disjoined Implication c = no_truth c
stands_disjoined k c = refl

pub stands_product : (k : Level) → may_stand Unary k ≡ true → may_stand Product k ≡ true
stands_product Unary c = refl
stands_product Primary c = refl
stands_product k c = no_truth c

pub stands_sum : (k : Level) → may_stand Product k ≡ true → may_stand Sum k ≡ true
stands_sum Product c = refl
stands_sum Unary c = refl
stands_sum Primary c = refl
stands_sum k c = no_truth c

pub stands_conjunction : (k : Level) → may_stand Comparison k ≡ true → may_stand Conjunction k ≡ true
stands_conjunction Equivalence c = no_truth c
stands_conjunction Implication c = no_truth c
stands_conjunction Junction c = no_truth c
stands_conjunction Conjunction c = no_truth c
stands_conjunction Disjunction c = no_truth c
stands_conjunction k c = refl

pub stands_disjunction : (k : Level) → may_stand Comparison k ≡ true → may_stand Disjunction k ≡ true
stands_disjunction Equivalence c = no_truth c
stands_disjunction Implication c = no_truth c
stands_disjunction Junction c = no_truth c
stands_disjunction Conjunction c = no_truth c
stands_disjunction Disjunction c = no_truth c
stands_disjunction k c = refl

pub stands_chain : (l k : Level) → is_chain l ≡ true → may_stand (right_of l) k ≡ true → may_stand l k ≡ true
stands_chain Equivalence k c h = each_stands k
stands_chain Conjunction k c h = stands_conjunction k h
stands_chain Disjunction k c h = stands_disjunction k h
stands_chain Sum k c h = stands_sum k h
stands_chain Product k c h = stands_product k h
stands_chain l k c h = no_truth c

-- the operators of a chain
pub record IsOfChain (l : Level) (o : Op) : Type 0 where
  pub level : level_of_operator o ≡ l
  pub left : left_of l ≡ l

pub chain_operator : (l : Level) (f : Fixed) (o : Op) → links l f ≡ Some o → IsOfChain l o
chain_operator Equivalence fixed.Iff o e = let s : op.Iff ≡ o = cc in record { level = ap level_of_operator (sym s); left = refl }
chain_operator Conjunction fixed.And o e = let s : op.And ≡ o = cc in record { level = ap level_of_operator (sym s); left = refl }
chain_operator Disjunction fixed.Or o e = let s : op.Or ≡ o = cc in record { level = ap level_of_operator (sym s); left = refl }
chain_operator Sum fixed.Plus o e = let s : op.Add ≡ o = cc in record { level = ap level_of_operator (sym s); left = refl }
chain_operator Sum fixed.Minus o e = let s : op.Sub ≡ o = cc in record { level = ap level_of_operator (sym s); left = refl }
chain_operator Product fixed.Star o e = let s : op.Mul ≡ o = cc in record { level = ap level_of_operator (sym s); left = refl }
chain_operator Product fixed.Div o e = let s : op.Div ≡ o = cc in record { level = ap level_of_operator (sym s); left = refl }
chain_operator Product fixed.Mod o e = let s : op.Mod ≡ o = cc in record { level = ap level_of_operator (sym s); left = refl }
chain_operator l f o e = absurd (let n : None ≡ Some o = e in cc)

pub comparison_operator : (f : Fixed) (o : Op) → compares f ≡ Some o → level_of_operator o ≡ Comparison
comparison_operator fixed.Equal o e = let s : op.Eq ≡ o = cc in ap level_of_operator (sym s)
comparison_operator fixed.Unequal o e = let s : op.Ne ≡ o = cc in ap level_of_operator (sym s)
comparison_operator fixed.Less o e = let s : op.Lt ≡ o = cc in ap level_of_operator (sym s)
comparison_operator fixed.AtMost o e = let s : op.Le ≡ o = cc in ap level_of_operator (sym s)
comparison_operator fixed.Greater o e = let s : op.Gt ≡ o = cc in ap level_of_operator (sym s)
comparison_operator fixed.AtLeast o e = let s : op.Ge ≡ o = cc in ap level_of_operator (sym s)
comparison_operator f o e = absurd (let n : None ≡ Some o = e in cc)

-- two operands at the levels that the operator asks for
operation_reads : {p : ℕ} {ts m r : List Symbol} {a b : Expression} (o : Op) (t : Symbol) → Reads p (left_of (level_of_operator o)) ts a (t ∷ m) → Is t (operator_sign o) →
    Reads p (right_of (level_of_operator o)) m b r → Reads p (level_of_operator o) ts (Bin (symbols_place ts) o a b) r
operation_reads op.Iff t h is g = Grammar.more t h is refl g
operation_reads op.Implies t h is g = Grammar.implied t h is g
operation_reads op.And t h is g = Grammar.more t h is refl g
operation_reads op.Or t h is g = Grammar.more t h is refl g
operation_reads op.Eq t h is g = Grammar.compared t h is refl g
operation_reads op.Ne t h is g = Grammar.compared t h is refl g
operation_reads op.Lt t h is g = Grammar.compared t h is refl g
operation_reads op.Le t h is g = Grammar.compared t h is refl g
operation_reads op.Gt t h is g = Grammar.compared t h is refl g
operation_reads op.Ge t h is g = Grammar.compared t h is refl g
operation_reads op.Add t h is g = Grammar.more t h is refl g
operation_reads op.Sub t h is g = Grammar.more t h is refl g
operation_reads op.Mul t h is g = Grammar.more t h is refl g
operation_reads op.Div t h is g = Grammar.more t h is refl g
operation_reads op.Mod t h is g = Grammar.more t h is refl g

-- its signs are read at its own level
abbrev IsPlain : ℕ → Expression → Type 0
IsPlain p e = Respells (Reads p (level_of e)) bare (expression_signs e) e

-- its signs are read where a level is asked for, in parentheses if it needs them
abbrev IsPlaced : ℕ → Level → Expression → Type 0
IsPlaced p l e = Respells (Reads p l) bare (grouped_signs (may_stand l (level_of e)) (expression_signs e)) e

-- it may stand where the level is asked for, or one parenthesis fewer is open in it
data Stands : ℕ → Level → Expression → Type 0 where
  alone : {p : ℕ} {l : Level} {e : Expression} → may_stand l (level_of e) ≡ true → IsPlain p e → Stands p l e
  within : {p : ℕ} {l : Level} {e : Expression} → IsPlain p e → Stands (suc p) l e

plain_more : {p : ℕ} (e : Expression) → IsPlain p e → IsPlain (suc p) e
plain_more e h us behind s = let a = h us behind s in record { value = a.value; rest = a.rest; reads = one_more a.reads; like = a.like; follows = a.follows }

plain : {p : ℕ} {l : Level} {e : Expression} → Stands p l e → IsPlain p e
plain (alone c h) = h
plain (within {e = e} h) = plain_more e h

stands_up : {p : ℕ} {l k : Level} {e : Expression} → (may_stand k (level_of e) ≡ true → may_stand l (level_of e) ≡ true) → Stands p k e → Stands p l e
stands_up f (alone c h) = alone (f c) h
stands_up f (within h) = within h

raised : {p : ℕ} {l k : Level} {IsLike : Expression → Type 0} {us : List Symbol} {behind : List Sign} → may_stand l k ≡ true → ReadsAgain (Reads p k) IsLike us behind → ReadsAgain (Reads p l) IsLike us behind
raised {l = l} {k} c a = record { value = a.value; rest = a.rest; reads = rises l k c a.reads; like = a.like; follows = a.follows }

-- at the weakest level nothing needs parentheses
pub whole : {p : ℕ} (e : Expression) → IsPlain p e → Respells (Reads p Equivalence) bare (expression_signs e) e
whole e h us behind s = raised (each_stands (level_of e)) (h us behind s)

enclosed : {p : ℕ} {l : Level} (e : Expression) → IsPlain p e → Respells (Reads (suc p) l) bare (grouped_signs false (expression_signs e)) e
enclosed {l = l} e h us behind s =
    led_by us s (λ u m is n.
    let a = up_to (whole e h m (led fixed.CloseParenthesis behind) (n ∙ append_assoc (expression_signs e) (led fixed.CloseParenthesis []) behind)) in
    record { value = a.value; rest = a.rest; reads = rises l Primary (primary_stands l) (Grammar.grouped u a.next is a.reads a.is); like = a.like; follows = a.follows })

placed_by : {p : ℕ} {l : Level} (e : Expression) (c : Bool) → may_stand l (level_of e) ≡ c → Stands p l e → Respells (Reads p l) bare (grouped_signs c (expression_signs e)) e
placed_by e true stands h us behind s = raised stands (plain h us behind s)
placed_by e false stands (alone c h) us behind s = no_truth (sym stands ∙ c)
placed_by e false stands (within h) us behind s = enclosed e h us behind s

placed : {p : ℕ} {l : Level} (e : Expression) → Stands p l e → IsPlaced p l e
placed {l = l} e h = placed_by e (may_stand l (level_of e)) refl h

same_operation : (o : Op) (a b c d : Expression) → bare a ≡ bare c → bare b ≡ bare d → Bin nowhere o (bare a) (bare b) ≡ Bin nowhere o (bare c) (bare d)
same_operation o a b c d x y = ap (λ z. Bin nowhere o z (bare b)) x ∙ ap (λ z. Bin nowhere o (bare c) z) y

operation_plain : {p : ℕ} (s : Span) (o : Op) (a b : Expression) → IsPlaced p (left_of (level_of_operator o)) a → IsPlaced p (right_of (level_of_operator o)) b → IsPlain p (Bin s o a b)
operation_plain s o a b h g us behind e =
    let front : List Sign = grouped_signs (may_stand (left_of (level_of_operator o)) (level_of a)) (expression_signs a) in
    let back : List Sign = grouped_signs (may_stand (right_of (level_of_operator o)) (level_of b)) (expression_signs b) in
    let x = up_to (h us (led (operator_sign o) (back ++ behind)) (e ∙ append_assoc front (led (operator_sign o) back) behind)) in
    let y = g x.rest behind x.follows in
    record {
      value = Bin (symbols_place us) o x.value y.value;
      rest = y.rest;
      reads = operation_reads o x.next x.reads x.is y.reads;
      like = same_operation o x.value y.value a b x.like y.like;
      follows = y.follows;
    }

operation : {p : ℕ} (s : Span) (o : Op) (a b : Expression) → Stands p (left_of (level_of_operator o)) a → Stands p (right_of (level_of_operator o)) b → Stands p (level_of_operator o) (Bin s o a b)
operation s o a b h g = alone (stands_itself (level_of_operator o)) (operation_plain s o a b (placed a h) (placed b g))

prefixed_plain : {p : ℕ} (e : Expression) (f : Fixed) (make : Span → Expression → Expression) (wrap : Expression → Expression) →
    ((s : Span) (x : Expression) → bare (make s x) ≡ wrap (bare x)) →
    ((t : Symbol) (ts r : List Symbol) (x : Expression) → Is t f → Reads p Unary ts x r → Reads p Unary (t ∷ ts) (make t.span x) r) →
    (s : Span) → Stands p Unary e → Respells (Reads p Unary) bare (led f (grouped_signs (may_stand Unary (level_of e)) (expression_signs e))) (make s e)
prefixed_plain e f make wrap bares reads s h us behind n =
    led_by us n (λ t m is k.
    let a = placed e h m behind k in
    record { value = make t.span a.value; rest = a.rest; reads = reads t m a.rest a.value is a.reads; like = bares t.span a.value ∙ ap wrap a.like ∙ sym (bares s e); follows = a.follows })

-- a symbol alone
single : {p : ℕ} (e : Expression) (s : Sign) → ((t : Symbol) (r : List Symbol) → t.sign ≡ s → (x : Expression) × Reads p Primary (t ∷ r) x r × (bare x ≡ bare e)) →
    Respells (Reads p Primary) bare (s ∷ []) e
single e s reads us behind n =
    led_by us n (λ t m is k. let a = reads t m is in record { value = a.0; rest = m; reads = a.1; like = a.2; follows = k })

number_stands : {p : ℕ} (s : Span) (n : ℤ) → IsUnsigned (signs.Number n) → Stands p Primary (Lit s n)
number_stands s (pos n) u = alone refl (single (Lit s (pos n)) (signs.Number (pos n)) (λ t r is. (Lit t.span (pos n), Grammar.number t is, refl)))
number_stands s (negsuc n) u = absurd u

old_plain : {p : ℕ} (s : Span) (e : Expression) → IsPlain p e → IsPlain (suc p) (Old s e)
old_plain s e h us behind n =
    led_by us n (λ t m is k.
    led_after (λ x. t ∷ x) m k (λ u l io j.
    let a = up_to (whole e h l (led fixed.CloseParenthesis behind) (j ∙ append_assoc (expression_signs e) (led fixed.CloseParenthesis []) behind)) in
    record { value = Old t.span a.value; rest = a.rest; reads = Grammar.old_value t u a.next is io a.reads a.is; like = ap (Old nowhere) a.like; follows = a.follows }))

-- an expression that was read at a level stands there
stands : {p : ℕ} {l : Level} {ts r : List Symbol} {e : Expression} → Reads p l ts e r → AreUnsigned ts → Stands p l e
stands (Grammar.one {l = l} {e = e} c h) w = stands_up (stands_chain l (level_of e) c) (stands h w)
stands {p} (Grammar.more {l = l} {ts = ts} {a = a} {b = b} {f = f} {o = o} t h is k g) w =
    let c = chain_operator l f o k in
    let x : Stands p (left_of (level_of_operator o)) a = subst (λ k. Stands p k a) (sym (ap left_of c.level ∙ c.left)) (stands h w) in
    let y : Stands p (right_of (level_of_operator o)) b = subst (λ k. Stands p k b) (sym (ap right_of c.level)) (stands g (expression-rest h w).1) in
    subst (λ k. Stands p k (Bin (symbols_place ts) o a b)) c.level (operation (symbols_place ts) o a b x y)
stands (Grammar.unimplied {e = e} h) w = stands_up (stands_implication (level_of e)) (stands h w)
stands (Grammar.implied {ts = ts} {a = a} {b = b} t h is g) w = operation (symbols_place ts) op.Implies a b (stands h w) (stands g (expression-rest h w).1)
stands (Grammar.conjoined {e = e} h) w = stands_up (stands_conjoined (level_of e)) (stands h w)
stands (Grammar.disjoined {e = e} h) w = stands_up (stands_disjoined (level_of e)) (stands h w)
stands (Grammar.uncompared {e = e} h) w = stands_up (stands_comparison (level_of e)) (stands h w)
stands {p} (Grammar.compared {ts = ts} {a = a} {b = b} {f = f} {o = o} t h is k g) w =
    let c = comparison_operator f o k in
    let x : Stands p (left_of (level_of_operator o)) a = subst (λ k. Stands p (left_of k) a) (sym c) (stands h w) in
    let y : Stands p (right_of (level_of_operator o)) b = subst (λ k. Stands p (right_of k) b) (sym c) (stands g (expression-rest h w).1) in
    subst (λ k. Stands p k (Bin (symbols_place ts) o a b)) c (operation (symbols_place ts) o a b x y)
stands (Grammar.unsigned {e = e} h) w = stands_up (stands_unary (level_of e)) (stands h w)
stands (Grammar.negated {e = e} t is h) w =
    alone refl (prefixed_plain e fixed.Minus Neg (Neg nowhere) (λ s x. refl) (λ t ts r x is h. Grammar.negated t is h) t.span (stands h w.1))
stands (Grammar.denied {e = e} t is h) w =
    alone refl (prefixed_plain e fixed.Not Not (Not nowhere) (λ s x. refl) (λ t ts r x is h. Grammar.denied t is h) t.span (stands h w.1))
stands (Grammar.number {n = n} t is) w = number_stands t.span n (subst IsUnsigned is w.0)
stands (Grammar.true_word t is) w = alone refl (single (Truth t.span true) (signs.Fixed fixed.True) (λ t r is. (Truth t.span true, Grammar.true_word t is, refl)))
stands (Grammar.false_word t is) w = alone refl (single (Truth t.span false) (signs.Fixed fixed.False) (λ t r is. (Truth t.span false, Grammar.false_word t is, refl)))
stands (Grammar.name {x = x} t is) w =
    alone refl (single (Var t.span (record { span = t.span; text = x })) (signs.Name x) (λ t r is. (Var t.span (record { span = t.span; text = x }), Grammar.name t is, refl)))
stands (Grammar.old_value {e = e} t u v a b h c) w = alone refl (old_plain t.span e (plain (stands h w.1.1)))
stands (Grammar.grouped {e = e} u v b h c) w = within (plain (stands h w.1))

-- The signs of an expression are read as it, with no more parentheses open than where it was read.
pub expression-again : {p : ℕ} {ts r : List Symbol} {e : Expression} → Reads p Equivalence ts e r → AreUnsigned ts → Respells (Reads p Equivalence) bare (expression_signs e) e
expression-again {e = e} h w = whole e (plain (stands h w))
