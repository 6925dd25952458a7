-- What is read as an expression is one by the grammar, and not deeper than allowed.
use Rattle.std.proofs.Common.{◌≡◌, ◌⊎◌, inl, inr, ℕ, zero, suc, ◌-◌, ◌<◌, ◌≤◌, Bool, true, false, List, [], ◌∷◌, Option, None, Some, Ok, Err, refl, sym, ap, subst, ◌∙◌, arith}
use Rattle.std.specs.Prelude.{nat_le}
use Rattle.std.proofs.lemmas.Bool.Decides.{nat_tests}
use Rattle.boogie_tree.specs.declared.span.Span.{Span}
use Rattle.boogie_tree.specs.declared.level.Level.{Level}
use Rattle.boogie_tree.specs.declared.level.Level.TheVariants.{Equivalence, Implication, Junction, Disjunction, Comparison, Sum, Unary, Primary}
use Rattle.boogie_tree.specs.declared.tree.Op.{Op}
use Rattle.boogie_tree.specs.declared.tree.Op.TheVariants as op
use Rattle.boogie_tree.specs.Levels.{right_of}
use Rattle.boogie_tree.specs.Tree.{Expression, Old, Bin}
use Rattle.boogie_parse.specs.declared.fault.Fault.{Fault}
use Rattle.boogie_parse.specs.declared.symbols.Fixed.{Fixed}
use Rattle.boogie_parse.specs.declared.symbols.Fixed.TheVariants as fixed
use Rattle.boogie_parse.specs.declared.symbols.Sign.{Sign}
use Rattle.boogie_parse.specs.declared.symbols.Sign.TheVariants as signs
use Rattle.boogie_parse.specs.declared.symbols.Symbol.{Symbol}
use Rattle.boogie_parse.specs.declared.grammar.expressions.operators.Chain.{Chain}
use Rattle.boogie_parse.specs.declared.grammar.expressions.operators.Chain.TheVariants as chains
use Rattle.boogie_parse.specs.declared.grammar.expressions.operators.Prefix.{Prefix}
use Rattle.boogie_parse.specs.declared.grammar.expressions.operators.Prefix.TheVariants as prefixes
use Rattle.boogie_parse.specs.Reading.Outcomes.{Read, ReadResult, place_or, and_then}
use Rattle.boogie_parse.specs.Rules.Grammar
use Rattle.boogie_parse.specs.Rules.Grammar.{Is, Reads, symbols_place, links, is_chain}
use Rattle.boogie_parse.specs.Rules.GrammarLimits.{depth}
use Rattle.boogie_parse.specs.Reading.ExpressionReading.{linked, Reader, done, too_deep, unless_deep, joins, sign_joins, Infix, infix_of, infix_at, unless_alone, binary_operation, level_of_chain, chain_behind, chained, opens, closes, behind_if, behind_sign, expected, closed, prefix_of, prefix_by, prefix_at, prefixed, if_prefixed, over, old_value, word_value, sign_value, primary, unary, factor_chain, comparison, junction_by, junction, implication, equivalence, inside, expression}
use Rattle.boogie_parse.specs.Reading.ExpressionReading as reading
use Rattle.boogie_parse.proofs.Reading.ExpressionSteps.{same_read}

no_fault : {X : Type 0} {f : Fault} {y : Read X} → ◌≡◌ {A = ReadResult X} (Err f) (Ok y) → ⊥
no_fault e = cc

nothing : {X : Type 0} {x : X} → None ≡ Some x → ⊥
nothing e = cc

-- the parts of an outcome that is Ok
record Goes {X Y : Type 0} (x : ReadResult X) (go : X → List Symbol → ReadResult Y) (y : Read Y) : Type 0 where
  pub value : X
  pub rest : List Symbol
  pub first : x ≡ Ok (record { value = value; rest = rest })
  pub behind : go value rest ≡ Ok y

goes : {X Y : Type 0} (x : ReadResult X) (go : X → List Symbol → ReadResult Y) (y : Read Y) → and_then x go ≡ Ok y → Goes x go y
goes (Ok z) go y e = record { value = z.value; rest = z.rest; first = refl; behind = e }
goes (Err f) go y e = absurd (no_fault e)

follows : (a : Expression) (r : List Symbol) (go : Op → Span → List Symbol → ReadResult Expression) (o : Option Infix) (y : Read Expression) → unless_alone a r go o ≡ Ok y →
    (done a r ≡ Ok y) ⊎ ((x : Infix) × (o ≡ Some x) × (go x.0 x.1 x.2 ≡ Ok y))
follows a r go None y e = inl e
follows a r go (Some x) y e = inr (x, refl, e)

not_deep : (b : Bool) (here : Span) (x : ReadResult Expression) (y : Read Expression) → unless_deep b here x ≡ Ok y → (b ≡ false) × (x ≡ Ok y)
not_deep true here x y e = absurd (no_fault e)
not_deep false here x y e = (refl, e)

-- the operator that is seen is the first symbol
record Begins (l : Level) (r : List Symbol) (x : Infix) : Type 0 where
  pub symbol : Symbol
  pub word : Fixed
  pub front : r ≡ symbol ∷ x.2
  pub is : Is symbol word
  pub spelled : joins l word ≡ Some x.0

begins_op : (l : Level) (t : Symbol) (ts : List Symbol) (x : Infix) (f : Fixed) → Is t f → (o : Option Op) → joins l f ≡ o → infix_of t.span ts o ≡ Some x → Begins l (t ∷ ts) x
begins_op l t ts x f is None j e = absurd (nothing e)
begins_op l t ts x f is (Some o) j e =
    let same : (o, t.span, ts) ≡ x = cc in
    record { symbol = t; word = f; front = ap (λ z. t ∷ z.2) same; is = is; spelled = j ∙ ap (λ z. Some z.0) same }

begins_sign : (l : Level) (t : Symbol) (ts : List Symbol) (x : Infix) (s : Sign) → t.sign ≡ s → infix_of t.span ts (sign_joins l s) ≡ Some x → Begins l (t ∷ ts) x
begins_sign l t ts x (signs.Fixed f) is e = begins_op l t ts x f is (joins l f) refl e
begins_sign l t ts x (signs.Number n) is e = absurd (nothing e)
begins_sign l t ts x (signs.Name n) is e = absurd (nothing e)

begins : (l : Level) (r : List Symbol) (x : Infix) → infix_at l r ≡ Some x → Begins l r x
begins l [] x e = absurd (nothing e)
begins l (t ∷ ts) x e = begins_sign l t ts x t.sign refl e

-- what reading promises
pub record Good (p : ℕ) (l : Level) (d : ℕ) (ts : List Symbol) (x : Read Expression) : Type 0 where
  pub reads : Reads p l ts x.value x.rest
  pub low : depth x.value ≤ d

abbrev pub IsSound : ℕ → Level → Reader → Type 0
IsSound p l reader = (d : ℕ) (ts : List Symbol) (x : Read Expression) → reader d ts ≡ Ok x → Good p l d ts x

good_done : {p : ℕ} {l : Level} {d : ℕ} {ts r : List Symbol} {a : Expression} {x : Read Expression} → Reads p l ts a r → depth a ≤ d → done a r ≡ Ok x → Good p l d ts x
good_done {p} {l} {d} {ts} h low e = subst (Good p l d ts) (same_read e) (record { reads = h; low = low })

lift_good : {p : ℕ} {l m : Level} {d : ℕ} {ts : List Symbol} {x : Read Expression} → ((e : Expression) (r : List Symbol) → Reads p l ts e r → Reads p m ts e r) → Good p l d ts x → Good p m d ts x
lift_good {x = x} up g = record { reads = up x.value x.rest g.reads; low = g.low }

-- an expression begins with a symbol
pub starts : {p : ℕ} {l : Level} {ts r : List Symbol} {e : Expression} (end : Span) → Reads p l ts e r → place_or end ts ≡ symbols_place ts
starts end (Grammar.one c h) = starts end h
starts end (Grammar.more t h is k g) = starts end h
starts end (Grammar.unimplied h) = starts end h
starts end (Grammar.implied t h is g) = starts end h
starts end (Grammar.conjoined h) = starts end h
starts end (Grammar.disjoined h) = starts end h
starts end (Grammar.uncompared h) = starts end h
starts end (Grammar.compared t h is k g) = starts end h
starts end (Grammar.unsigned h) = starts end h
starts end (Grammar.negated t is h) = refl
starts end (Grammar.denied t is h) = refl
starts end (Grammar.number t is) = refl
starts end (Grammar.true_word t is) = refl
starts end (Grammar.false_word t is) = refl
starts end (Grammar.name t is) = refl
starts end (Grammar.old_value t u v a b h c) = refl
starts end (Grammar.grouped u v b h c) = refl

pub joins_links : (c : Chain) (f : Fixed) → joins (level_of_chain c) f ≡ links (level_of_chain c) f
joins_links chains.Equivalence f = refl
joins_links chains.Conjunction f = refl
joins_links chains.Disjunction f = refl
joins_links chains.Sum f = refl
joins_links chains.Product f = refl

pub level_is_chain : (c : Chain) → is_chain (level_of_chain c) ≡ true
level_is_chain chains.Equivalence = refl
level_is_chain chains.Conjunction = refl
level_is_chain chains.Disjunction = refl
level_is_chain chains.Sum = refl
level_is_chain chains.Product = refl

at_place : {p : ℕ} {l : Level} {ts r : List Symbol} {here : Span} {o : Op} {a b : Expression} → here ≡ symbols_place ts → Reads p l ts (Bin (symbols_place ts) o a b) r → Reads p l ts (Bin here o a b) r
at_place at h = rw at h

-- chains
sound_chain : {p : ℕ} (c : Chain) (part : Reader) → IsSound p (right_of (level_of_chain c)) part →
    (here : Span) (ts : List Symbol) (d k : ℕ) (a : Expression) (r : List Symbol) (x : Read Expression) →
    here ≡ symbols_place ts → Reads p (level_of_chain c) ts a r → depth a ≤ d → chain_behind c part here d k a r ≡ Ok x → Good p (level_of_chain c) d ts x
unfolding chain_behind
sound_chain c part sound here ts d zero a r x at h low e =
    elim (follows a r (λ o at m. too_deep at) (infix_at (level_of_chain c) r) x e) [
      | inl w ↦ good_done h low w
      | inr w ↦ absurd (no_fault w.2)
    ]
sound_chain {p} c part sound here ts d (suc k) a r x at h low e =
    elim (follows a r (linked part here d (chain_behind c part here d k) a) (infix_at (level_of_chain c) r) x e) [
      | inl w ↦ good_done h low w
      | inr w ↦
          let z : Infix = w.0 in
          let b = begins (level_of_chain c) r z w.1 in
          let q = not_deep (nat_le d (depth a)) z.1 (and_then (part (d - 1) z.2) (λ b n. chain_behind c part here d k (Bin here z.0 a b) n)) x w.2 in
          let g = goes (part (d - 1) z.2) (λ b n. chain_behind c part here d k (Bin here z.0 a b) n) x q.1 in
          let right = sound (d - 1) z.2 (record { value = g.value; rest = g.rest }) g.first in
          let left : Reads p (level_of_chain c) ts a (b.symbol ∷ z.2) = rw b.front at h in
          let spelled : links (level_of_chain c) b.word ≡ Some z.0 = sym (joins_links c b.word) ∙ b.spelled in
          let whole : Reads p (level_of_chain c) ts (Bin here z.0 a g.value) g.rest = at_place at (Grammar.more b.symbol left b.is spelled right.reads) in
          let test : nat_le d (depth a) ≡ false = q.0 in
          let shallow : depth a < d = grind (arith, nat_tests) in
          let lower : depth g.value ≤ d - 1 = right.low in
          let fits : depth (Bin here z.0 a g.value) ≤ d = omega arith in
          sound_chain c part sound here ts d k (Bin here z.0 a g.value) g.rest x at whole fits g.behind
    ]

pub sound_chained : (p : ℕ) (end : Span) (c : Chain) (part : Reader) → IsSound p (right_of (level_of_chain c)) part → IsSound p (level_of_chain c) (chained end c part)
sound_chained p end c part sound d ts x e =
    let g = goes (part d ts) (chain_behind c part (place_or end ts) d d) x e in
    let first = sound d ts (record { value = g.value; rest = g.rest }) g.first in
    sound_chain c part sound (place_or end ts) ts d d g.value g.rest x (starts end first.reads) (Grammar.one (level_is_chain c) first.reads) first.low g.behind

-- signs before an operand
signed_by : (plain : ReadResult Expression) (go : Prefix → Span → List Symbol → ReadResult Expression) (o : Option (Prefix × Span × List Symbol)) (y : Read Expression) → if_prefixed plain go o ≡ Ok y →
    (plain ≡ Ok y) ⊎ ((x : Prefix × Span × List Symbol) × (o ≡ Some x) × (go x.0 x.1 x.2 ≡ Ok y))
signed_by plain go None y e = inl e
signed_by plain go (Some x) y e = inr (x, refl, e)

abbrev pub spelling : Prefix → Fixed
spelling prefixes.Not = fixed.Not
spelling prefixes.Neg = fixed.Minus

pub prefix_spelled : (s : Sign) (o : Prefix) → prefix_of s ≡ Some o → s ≡ signs.Fixed (spelling o)
prefix_spelled (signs.Fixed fixed.Not) o e = let same : prefixes.Not ≡ o = cc in ap (λ o. signs.Fixed (spelling o)) same
prefix_spelled (signs.Fixed fixed.Minus) o e = let same : prefixes.Neg ≡ o = cc in ap (λ o. signs.Fixed (spelling o)) same
prefix_spelled s o e = absurd (nothing e)

record BeginsSigned (r : List Symbol) (x : Prefix × Span × List Symbol) : Type 0 where
  pub symbol : Symbol
  pub front : r ≡ symbol ∷ x.2
  pub here : x.1 ≡ symbol.span
  pub is : Is symbol (spelling x.0)

begins_prefix : (t : Symbol) (ts : List Symbol) (x : Prefix × Span × List Symbol) (o : Option Prefix) → prefix_of t.sign ≡ o → prefix_by t.span ts o ≡ Some x → BeginsSigned (t ∷ ts) x
begins_prefix t ts x None j e = absurd (nothing e)
begins_prefix t ts x (Some o) j e =
    let same : (o, t.span, ts) ≡ x = cc in
    record {
      symbol = t;
      front = ap (λ z. t ∷ z.2) same;
      here = sym (ap (λ z. z.1) same);
      is = prefix_spelled t.sign x.0 (j ∙ ap (λ z. Some z.0) same);
    }

begins_signed : (r : List Symbol) (x : Prefix × Span × List Symbol) → prefix_at r ≡ Some x → BeginsSigned r x
begins_signed [] x e = absurd (nothing e)
begins_signed (t ∷ ts) x e = begins_prefix t ts x (prefix_of t.sign) refl e

pub prefix_reads : {p : ℕ} {ts r : List Symbol} {e : Expression} (o : Prefix) (t : Symbol) → Is t (spelling o) → Reads p Unary ts e r → Reads p Unary (t ∷ ts) (prefixed o t.span e) r
prefix_reads prefixes.Not t is h = Grammar.denied t is h
prefix_reads prefixes.Neg t is h = Grammar.negated t is h

prefix_low : {d : ℕ} (o : Prefix) (here : Span) (e : Expression) → depth e ≤ d → depth (prefixed o here e) ≤ suc d
prefix_low prefixes.Not here e low = omega arith
prefix_low prefixes.Neg here e low = omega arith

sound_over : {p d : ℕ} {ts : List Symbol} (x : Read Expression) (z : Prefix × Span × List Symbol) (read : ReadResult Expression) →
    ((y : Read Expression) → read ≡ Ok y → Good p Unary d z.2 y) → BeginsSigned ts z → over z.0 z.1 read ≡ Ok x → Good p Unary (suc d) ts x
sound_over {p} {d} {ts} x z read sound b e =
    let g = goes read (λ e r. done (prefixed z.0 z.1 e) r) x e in
    let inner = sound (record { value = g.value; rest = g.rest }) g.first in
    let whole : Reads p Unary (b.symbol ∷ z.2) (prefixed z.0 b.symbol.span g.value) g.rest = prefix_reads z.0 b.symbol b.is inner.reads in
    let placed : Reads p Unary (b.symbol ∷ z.2) (prefixed z.0 z.1 g.value) g.rest = subst (λ s. Reads p Unary (b.symbol ∷ z.2) (prefixed z.0 s g.value) g.rest) (sym b.here) whole in
    let all : Reads p Unary ts (prefixed z.0 z.1 g.value) g.rest = subst (λ us. Reads p Unary us (prefixed z.0 z.1 g.value) g.rest) (sym b.front) placed in
    good_done all (prefix_low z.0 z.1 g.value inner.low) g.behind

pub sound_unary : (p : ℕ) (end : Span) (inner : Reader) → IsSound p Primary (primary end inner) → IsSound p Unary (unary end inner)
unfolding unary
sound_unary p end inner sound zero ts x e =
    elim (signed_by (primary end inner zero ts) (λ o at m. too_deep at) (prefix_at ts) x e) [
      | inl w ↦ lift_good (λ e r h. Grammar.unsigned h) (sound zero ts x w)
      | inr w ↦ absurd (no_fault w.2)
    ]
sound_unary p end inner sound (suc d) ts x e =
    elim (signed_by (primary end inner (suc d) ts) (λ o at m. over o at (unary end inner d m)) (prefix_at ts) x e) [
      | inl w ↦ lift_good (λ e r h. Grammar.unsigned h) (sound (suc d) ts x w)
      | inr w ↦ sound_over x w.0 (unary end inner d w.0.2) (λ y f. sound_unary p end inner sound d w.0.2 y f) (begins_signed ts w.0 w.1) w.2
    ]

-- parentheses
pub data InParentheses : ℕ → List Symbol → Expression → List Symbol → Type 0 where
  in_parentheses : {q : ℕ} {ts r : List Symbol} {e : Expression} (u v : Symbol) →
      Is u fixed.OpenParenthesis → Reads q Equivalence ts e (v ∷ r) → Is v fixed.CloseParenthesis → InParentheses (suc q) (u ∷ ts) e r

pub record GoodGroup (p d : ℕ) (ts : List Symbol) (x : Read Expression) : Type 0 where
  pub reads : InParentheses p ts x.value x.rest
  pub low : depth x.value ≤ d

abbrev pub IsSoundGroup : ℕ → Reader → Type 0
IsSoundGroup p reader = (d : ℕ) (ts : List Symbol) (x : Read Expression) → reader d ts ≡ Ok x → GoodGroup p d ts x

pub old_reads : {p : ℕ} {ts r : List Symbol} {e : Expression} (t : Symbol) → Is t fixed.Old → InParentheses p ts e r → Reads p Primary (t ∷ ts) (Old t.span e) r
old_reads t is (in_parentheses u v a h b) = Grammar.old_value t u v is a h b

pub group_reads : {p : ℕ} {ts r : List Symbol} {e : Expression} → InParentheses p ts e r → Reads p Primary ts e r
group_reads (in_parentheses u v a h b) = Grammar.grouped u v a h b

sound_old : (p : ℕ) (inner : Reader) → IsSoundGroup p inner → (d : ℕ) (t : Symbol) (ts : List Symbol) (x : Read Expression) → Is t fixed.Old → old_value inner t.span d ts ≡ Ok x → Good p Primary d (t ∷ ts) x
sound_old p inner sound zero t ts x is e = absurd (no_fault e)
sound_old p inner sound (suc d) t ts x is e =
    let g = goes (inner d ts) (λ e r. done (Old t.span e) r) x e in
    let i = sound d ts (record { value = g.value; rest = g.rest }) g.first in
    let low : depth g.value ≤ d = i.low in
    let fits : depth (Old t.span g.value) ≤ suc d = omega arith in
    good_done (old_reads t is i.reads) fits g.behind

sound_word : (p : ℕ) (inner : Reader) → IsSoundGroup p inner → (d : ℕ) (t : Symbol) (ts : List Symbol) (x : Read Expression) (f : Fixed) → Is t f → word_value inner d t ts f ≡ Ok x → Good p Primary d (t ∷ ts) x
sound_word p inner sound d t ts x fixed.True is e = good_done (Grammar.true_word t is) (omega arith) e
sound_word p inner sound d t ts x fixed.False is e = good_done (Grammar.false_word t is) (omega arith) e
sound_word p inner sound d t ts x fixed.Old is e = sound_old p inner sound d t ts x is e
sound_word p inner sound d t ts x fixed.OpenParenthesis is e =
    let g = sound d (t ∷ ts) x e in
    record { reads = group_reads g.reads; low = g.low }
sound_word p inner sound d t ts x f is e = absurd (no_fault e)

sound_sign : (p : ℕ) (inner : Reader) → IsSoundGroup p inner → (d : ℕ) (t : Symbol) (ts : List Symbol) (x : Read Expression) (s : Sign) → t.sign ≡ s → sign_value inner d t ts s ≡ Ok x → Good p Primary d (t ∷ ts) x
sound_sign p inner sound d t ts x (signs.Number n) is e = good_done (Grammar.number t is) (omega arith) e
sound_sign p inner sound d t ts x (signs.Name y) is e = good_done (Grammar.name t is) (omega arith) e
sound_sign p inner sound d t ts x (signs.Fixed f) is e = sound_word p inner sound d t ts x f is e

pub sound_primary : (p : ℕ) (end : Span) (inner : Reader) → IsSoundGroup p inner → IsSound p Primary (primary end inner)
sound_primary p end inner sound d [] x e = absurd (no_fault e)
sound_primary p end inner sound d (t ∷ ts) x e = sound_sign p inner sound d t ts x t.sign refl e

-- the operation whose right operand is read: at a level whose operators are `f`
sound_operation : {p d : ℕ} {l : Level} (here : Span) (ts : List Symbol) (a : Expression) (o : Op) (right : ReadResult Expression) (test : Bool) (at : Span) (x : Read Expression) →
    test ≡ nat_le d (depth a) → here ≡ symbols_place ts →
    ((y : Read Expression) → right ≡ Ok y → (depth y.value ≤ d - 1) × Reads p l ts (Bin (symbols_place ts) o a y.value) y.rest) →
    depth a ≤ d → unless_deep test at (binary_operation here o a right) ≡ Ok x → Good p l d ts x
sound_operation {p} {d} {l} here ts a o right test at x is at_start reads low e =
    let q = not_deep test at (binary_operation here o a right) x e in
    let g = goes right (λ b r. done (Bin here o a b) r) x q.1 in
    let w = reads (record { value = g.value; rest = g.rest }) g.first in
    let shown : nat_le d (depth a) ≡ false = sym is ∙ q.0 in
    let shallow : depth a < d = grind (arith, nat_tests) in
    let lower : depth g.value ≤ d - 1 = w.0 in
    let fits : depth (Bin here o a g.value) ≤ d = omega arith in
    good_done (at_place at_start w.1) fits g.behind

pub sound_comparison : (p : ℕ) (end : Span) (inner : Reader) → IsSound p Sum (reading.sum end inner) → IsSound p Comparison (comparison end inner)
unfolding comparison
sound_comparison p end inner sound d ts x e =
    let go : Expression → List Symbol → Op → Span → List Symbol → ReadResult Expression =
    λ a r o at m. unless_deep (nat_le d (depth a)) at (binary_operation (place_or end ts) o a (reading.sum end inner (d - 1) m)) in
    let g = goes (reading.sum end inner d ts) (λ a r. unless_alone a r (go a r) (infix_at Comparison r)) x e in
    let first = sound d ts (record { value = g.value; rest = g.rest }) g.first in
    elim (follows g.value g.rest (go g.value g.rest) (infix_at Comparison g.rest) x g.behind) [
      | inl w ↦ good_done (Grammar.uncompared first.reads) first.low w
      | inr w ↦
          let b = begins Comparison g.rest w.0 w.1 in
          let left : Reads p Sum ts g.value (b.symbol ∷ w.0.2) = subst (λ r. Reads p Sum ts g.value r) b.front first.reads in
          sound_operation (place_or end ts) ts g.value w.0.0 (reading.sum end inner (d - 1) w.0.2) (nat_le d (depth g.value)) w.0.1 x refl (starts end first.reads)
          (λ y f. let right = sound (d - 1) w.0.2 y f in (right.low, Grammar.compared b.symbol left b.is b.spelled right.reads))
          first.low w.2
    ]

sound_junction_chain : (p : ℕ) (part : Reader) → IsSound p Comparison part → (here : Span) (ts : List Symbol) (d : ℕ) (a : Expression) (r : List Symbol) (x : Read Expression) (o : Option Infix) →
    here ≡ symbols_place ts → Reads p Comparison ts a r → depth a ≤ d → chain_behind (junction_by o) part here d d a r ≡ Ok x → Good p Junction d ts x
sound_junction_chain p part sound here ts d a r x None at h low e =
    lift_good (λ e r h. Grammar.conjoined h) (sound_chain chains.Conjunction part sound here ts d d a r x at (Grammar.one refl h) low e)
sound_junction_chain p part sound here ts d a r x (Some z) at h low e =
    lift_good (λ e r h. Grammar.disjoined h) (sound_chain chains.Disjunction part sound here ts d d a r x at (Grammar.one refl h) low e)

pub sound_junction : (p : ℕ) (end : Span) (inner : Reader) → IsSound p Comparison (comparison end inner) → IsSound p Junction (junction end inner)
sound_junction p end inner sound d ts x e =
    let g = goes (comparison end inner d ts) (λ a r. chain_behind (junction_by (infix_at Disjunction r)) (comparison end inner) (place_or end ts) d d a r) x e in
    let first = sound d ts (record { value = g.value; rest = g.rest }) g.first in
    sound_junction_chain p (comparison end inner) sound (place_or end ts) ts d g.value g.rest x (infix_at Disjunction g.rest) (starts end first.reads) first.reads first.low g.behind

pub implies_is : (f : Fixed) (o : Op) → joins Implication f ≡ Some o → (f ≡ fixed.Implies) × (o ≡ op.Implies)
implies_is fixed.Implies o e = (refl, let same : op.Implies ≡ o = cc in sym same)
implies_is f o e = absurd (nothing e)

pub implied_reads : {p : ℕ} {ts m r : List Symbol} {a b : Expression} {f : Fixed} {o : Op} (t : Symbol) → Is t f → joins Implication f ≡ Some o →
    Reads p Junction ts a (t ∷ m) → Reads p Implication m b r → Reads p Implication ts (Bin (symbols_place ts) o a b) r
implied_reads {p} {ts} {m} {r} {a} {b} {f} {o} t is j h g =
    let w = implies_is f o j in
    let word : Is t fixed.Implies = is ∙ ap (λ f. signs.Fixed f) w.0 in
    subst (λ o. Reads p Implication ts (Bin (symbols_place ts) o a b) r) (sym w.1) (Grammar.implied t h word g)

pub sound_implication : (p : ℕ) (end : Span) (inner : Reader) → IsSound p Junction (junction end inner) → IsSound p Implication (implication end inner)
unfolding implication
sound_implication p end inner sound zero ts x e =
    let g = goes (junction end inner zero ts) (λ a r. unless_alone a r (λ o at m. too_deep at) (infix_at Implication r)) x e in
    let first = sound zero ts (record { value = g.value; rest = g.rest }) g.first in
    elim (follows g.value g.rest (λ o at m. too_deep at) (infix_at Implication g.rest) x g.behind) [
      | inl w ↦ good_done (Grammar.unimplied first.reads) first.low w
      | inr w ↦ absurd (no_fault w.2)
    ]
sound_implication p end inner sound (suc d) ts x e =
    let go : Expression → List Symbol → Op → Span → List Symbol → ReadResult Expression =
    λ a r o at m. unless_deep (nat_le (suc d) (depth a)) at (binary_operation (place_or end ts) o a (implication end inner d m)) in
    let g = goes (junction end inner (suc d) ts) (λ a r. unless_alone a r (go a r) (infix_at Implication r)) x e in
    let first = sound (suc d) ts (record { value = g.value; rest = g.rest }) g.first in
    let less : d ≤ suc d - 1 = omega arith in
    elim (follows g.value g.rest (go g.value g.rest) (infix_at Implication g.rest) x g.behind) [
      | inl w ↦ good_done (Grammar.unimplied first.reads) first.low w
      | inr w ↦
          let b = begins Implication g.rest w.0 w.1 in
          let left : Reads p Junction ts g.value (b.symbol ∷ w.0.2) = subst (λ r. Reads p Junction ts g.value r) b.front first.reads in
          sound_operation (place_or end ts) ts g.value w.0.0 (implication end inner d w.0.2) (nat_le (suc d) (depth g.value)) w.0.1 x refl (starts end first.reads)
          (λ y f.
          let right = sound_implication p end inner sound d w.0.2 y f in
          let low : depth y.value ≤ d = right.low in
          (omega arith, implied_reads b.symbol b.is b.spelled left right.reads))
          first.low w.2
    ]

pub sound_equivalence : (p : ℕ) (end : Span) (inner : Reader) → IsSoundGroup p inner → IsSound p Equivalence (equivalence end inner)
sound_equivalence p end inner group =
    let unaries = sound_unary p end inner (sound_primary p end inner group) in
    let products = sound_chained p end chains.Product (unary end inner) unaries in
    let sums = sound_chained p end chains.Sum (factor_chain end inner) products in
    let comparisons = sound_comparison p end inner sums in
    let implications = sound_implication p end inner (sound_junction p end inner comparisons) in
    sound_chained p end chains.Equivalence (implication end inner) implications

-- the mark that is seen is the first symbol
record BeginsMark (test : Sign → Bool) (r m : List Symbol) : Type 0 where
  pub symbol : Symbol
  pub front : r ≡ symbol ∷ m
  pub passes : test symbol.sign ≡ true

begins_if : (test : Sign → Bool) (t : Symbol) (ts m : List Symbol) (b : Bool) → test t.sign ≡ b → behind_if b ts ≡ Some m → BeginsMark test (t ∷ ts) m
begins_if test t ts m true p e = let same : ts ≡ m = cc in record { symbol = t; front = ap (λ z. t ∷ z) same; passes = p }
begins_if test t ts m false p e = absurd (nothing e)

begins_mark : (test : Sign → Bool) (r m : List Symbol) → behind_sign test r ≡ Some m → BeginsMark test r m
begins_mark test [] m e = absurd (nothing e)
begins_mark test (t ∷ ts) m e = begins_if test t ts m (test t.sign) refl e

no_truth : false ≡ true → ⊥
no_truth e = cc

pub opens_is : (s : Sign) → opens s ≡ true → s ≡ signs.Fixed fixed.OpenParenthesis
opens_is (signs.Fixed fixed.OpenParenthesis) e = refl
opens_is s e = absurd (no_truth e)

closes_is : (s : Sign) → closes s ≡ true → s ≡ signs.Fixed fixed.CloseParenthesis
closes_is (signs.Fixed fixed.CloseParenthesis) e = refl
closes_is s e = absurd (no_truth e)

expects : (end : Span) (ts : List Symbol) (go : List Symbol → ReadResult Expression) (o : Option (List Symbol)) (y : Read Expression) → expected end ts go o ≡ Ok y →
    (m : List Symbol) × (o ≡ Some m) × (go m ≡ Ok y)
expects end ts go None y e = absurd (no_fault e)
expects end ts go (Some m) y e = (m, refl, e)

sound_closed : {q d : ℕ} (end : Span) (ts m : List Symbol) (a : Expression) (r : List Symbol) (x : Read Expression) →
    BeginsMark opens ts m → Reads q Equivalence m a r → depth a ≤ d → closed end a r ≡ Ok x → GoodGroup (suc q) d ts x
sound_closed {q} {d} end ts m a r x u h low e =
    let w = expects end r (done a) (behind_sign closes r) x e in
    let v = begins_mark closes r w.0 w.1 in
    let inner : Reads q Equivalence m a (v.symbol ∷ w.0) = subst (λ r. Reads q Equivalence m a r) v.front h in
    let whole : InParentheses (suc q) (u.symbol ∷ m) a w.0 = in_parentheses u.symbol v.symbol (opens_is u.symbol.sign u.passes) inner (closes_is v.symbol.sign v.passes) in
    let all : InParentheses (suc q) ts a w.0 = subst (λ us. InParentheses (suc q) us a w.0) (sym u.front) whole in
    subst (GoodGroup (suc q) d ts) (same_read w.2) (record { reads = all; low = low })

pub sound_inside : (end : Span) (p : ℕ) → IsSoundGroup p (inside end p)
unfolding inside
sound_inside end zero d ts x e =
    let w = expects end ts (λ m. too_deep (place_or end ts)) (behind_sign opens ts) x e in
    absurd (no_fault w.2)
sound_inside end (suc p) d ts x e =
    let w = expects end ts (λ m. and_then (equivalence end (inside end p) d m) (closed end)) (behind_sign opens ts) x e in
    let g = goes (equivalence end (inside end p) d w.0) (closed end) x w.2 in
    let i = sound_equivalence p end (inside end p) (sound_inside end p) d w.0 (record { value = g.value; rest = g.rest }) g.first in
    sound_closed end ts w.0 g.value g.rest x (begins_mark opens ts w.0 w.1) i.reads i.low g.behind

-- what is read is an expression by the grammar, with no more parentheses and no deeper than allowed
pub sound : (end : Span) (p d : ℕ) (ts : List Symbol) (x : Read Expression) → expression end p d ts ≡ Ok x → Reads p Equivalence ts x.value x.rest × (depth x.value ≤ d)
sound end p d ts x e = let g = sound_equivalence p end (inside end p) (sound_inside end p) d ts x e in (g.reads, g.low)
