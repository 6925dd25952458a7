-- What is an expression by the grammar, within the limits, is read as it, where nothing follows that would carry it on.
use Rattle.std.proofs.Common.{◌≡◌, ◌⊎◌, inl, inr, ℕ, zero, suc, ◌+◌, ◌-◌, ◌<◌, ◌≤◌, true, false, List, [], ◌∷◌, Option, None, Some, refl, sym, ap, subst, ◌∙◌, arith}
use Rattle.std.specs.Prelude.{nat_le, nat_eq}
use Rattle.std.proofs.lemmas.Bool.Decides.{nat_tests}
use Rattle.boogie_tree.specs.declared.span.Span.{Span}
use Rattle.boogie_tree.specs.declared.level.Level.{Level}
use Rattle.boogie_tree.specs.declared.level.Level.TheVariants.{Equivalence, Implication, Junction, Conjunction, Disjunction, Comparison, Sum, Product, Unary, Primary}
use Rattle.boogie_tree.specs.declared.tree.Op.{Op}
use Rattle.boogie_tree.specs.declared.tree.Op.TheVariants as op
use Rattle.boogie_tree.specs.Levels.{right_of, rank}
use Rattle.boogie_tree.specs.Tree.{Expression, Old, Not, Neg, Bin}
use Rattle.boogie_parse.specs.declared.symbols.Fixed.{Fixed}
use Rattle.boogie_parse.specs.declared.symbols.Fixed.TheVariants as fixed
use Rattle.boogie_parse.specs.declared.symbols.Sign.{Sign}
use Rattle.boogie_parse.specs.declared.symbols.Sign.TheVariants as signs
use Rattle.boogie_parse.specs.declared.symbols.Symbol.{Symbol}
use Rattle.boogie_parse.specs.declared.grammar.expressions.operators.Chain.{Chain}
use Rattle.boogie_parse.specs.declared.grammar.expressions.operators.Chain.TheVariants as chains
use Rattle.boogie_parse.specs.declared.grammar.expressions.operators.Prefix.TheVariants as prefixes
use Rattle.boogie_parse.specs.Reading.Outcomes.{place_or}
use Rattle.boogie_parse.specs.Rules.Grammar
use Rattle.boogie_parse.specs.Rules.Grammar.{Is, Reads, symbols_place, links, compares, is_chain}
use Rattle.boogie_parse.specs.Rules.GrammarLimits.{depth}
use Rattle.boogie_parse.specs.Reading.ExpressionReading as reading
use Rattle.boogie_parse.specs.Reading.ExpressionReading.{Reader, done, joins, sign_joins, Infix, infix_of, infix_at, level_of_chain, chain_behind, chained, opens, closes, behind_sign, prefix_at, old_value, sign_value, primary, unary, factor_chain, comparison, junction, implication, equivalence, operand, inside, expression}
use Rattle.boogie_parse.specs.Ties.ExpressionLaws.{strength, sign_strength, first_strength, Ends}
use Rattle.boogie_parse.proofs.Reading.ExpressionSteps.{unary_step, implication_step, chain_stops, chain_goes}
use Rattle.boogie_parse.proofs.Rules.ExpressionSound.{starts}

-- operators are as strong as their level
link_strength : (l : Level) (f : Fixed) (o : Op) → links l f ≡ Some o → strength f ≡ suc (rank l)
link_strength Equivalence fixed.Iff o e = refl
link_strength Conjunction fixed.And o e = refl
link_strength Disjunction fixed.Or o e = refl
link_strength Sum fixed.Plus o e = refl
link_strength Sum fixed.Minus o e = refl
link_strength Product fixed.Star o e = refl
link_strength Product fixed.Div o e = refl
link_strength Product fixed.Mod o e = refl
link_strength l f o e = cc

compare_strength : (f : Fixed) (o : Op) → compares f ≡ Some o → strength f ≡ 4
compare_strength fixed.Equal o e = refl
compare_strength fixed.Unequal o e = refl
compare_strength fixed.Less o e = refl
compare_strength fixed.AtMost o e = refl
compare_strength fixed.Greater o e = refl
compare_strength fixed.AtLeast o e = refl
compare_strength f o e = cc

join_strength : (l : Level) (f : Fixed) (o : Op) → joins l f ≡ Some o → strength f ≡ suc (rank l)
join_strength Implication fixed.Implies o e = refl
join_strength Implication f o e = cc
join_strength Comparison f o e = compare_strength f o e
join_strength l f o e = link_strength l f o e

-- where nothing carries on, no operator is seen
stops_op : (l : Level) (f : Fixed) (o : Option Op) → joins l f ≡ o → strength f ≤ rank l → o ≡ None
stops_op l f None j h = refl
stops_op l f (Some o) j h = absurd (let e = join_strength l f o j in omega arith)

stops_sign : (l : Level) (s : Sign) → sign_strength s ≤ rank l → sign_joins l s ≡ None
stops_sign l (signs.Fixed f) h = stops_op l f (joins l f) refl h
stops_sign l (signs.Number n) h = refl
stops_sign l (signs.Name n) h = refl

stops : (l : Level) (r : List Symbol) → Ends l r → infix_at l r ≡ None
stops l [] h = refl
stops l (t ∷ ts) h = rw (stops_sign l t.sign h) refl

-- an operator that stands there is seen
sees : (l : Level) (t : Symbol) (m : List Symbol) (f : Fixed) (o : Op) → Is t f → joins l f ≡ Some o → infix_at l (t ∷ m) ≡ Some (o, t.span, m)
sees l t m f o is j = rw (is, j) refl

strong : (t : Symbol) (m : List Symbol) (f : Fixed) → Is t f → first_strength (t ∷ m) ≡ strength f
strong t m f is = rw is refl

chain_links : (c : Chain) (f : Fixed) → joins (level_of_chain c) f ≡ links (level_of_chain c) f
chain_links chains.Equivalence f = refl
chain_links chains.Conjunction f = refl
chain_links chains.Disjunction f = refl
chain_links chains.Sum f = refl
chain_links chains.Product f = refl

next_rank : (c : Chain) → rank (right_of (level_of_chain c)) ≡ suc (rank (level_of_chain c))
next_rank chains.Equivalence = refl
next_rank chains.Conjunction = refl
next_rank chains.Disjunction = refl
next_rank chains.Sum = refl
next_rank chains.Product = refl

-- the reader of each level
abbrev at_level : Span → Reader → Level → Reader
at_level end inner Equivalence = equivalence end inner
at_level end inner Implication = implication end inner
at_level end inner Junction = junction end inner
at_level end inner Conjunction = chained end chains.Conjunction (comparison end inner)
at_level end inner Disjunction = chained end chains.Disjunction (comparison end inner)
at_level end inner Comparison = comparison end inner
at_level end inner Sum = reading.sum end inner
at_level end inner Product = factor_chain end inner
at_level end inner Unary = unary end inner
at_level end inner Primary = primary end inner

module _ (end : Span) (p : ℕ) where
  abbrev part : Chain → Reader
  part c = operand end (inside end p) c

  abbrev IsRead : Level → List Symbol → Expression → List Symbol → Type 0
  IsRead l ts e r = (d : ℕ) → depth e ≤ d → Ends l r → at_level end (inside end p) l d ts ≡ done e r

  -- the first operand of a chain is read, and so many turns later the chain is
  record Runs (c : Chain) (d : ℕ) (ts : List Symbol) (e : Expression) (r : List Symbol) : Type 0 where
    pub first : Expression
    pub behind : List Symbol
    pub turns : ℕ
    pub reads : part c d ts ≡ done first behind
    pub few : turns ≤ depth e
    pub goes : (k : ℕ) → chain_behind c (part c) (place_or end ts) d (turns + k) first behind ≡ chain_behind c (part c) (place_or end ts) d k e r
    pub begins : ((first ≡ e) × (behind ≡ r)) ⊎ ((x : Infix) × (infix_at (level_of_chain c) behind ≡ Some x))

  abbrev Run : Chain → List Symbol → Expression → List Symbol → Type 0
  Run c ts e r = (d : ℕ) → depth e ≤ d → Ends (right_of (level_of_chain c)) r → Runs c d ts e r

  -- a chain is read to its end
  run_read : (c : Chain) (d : ℕ) (ts : List Symbol) (e : Expression) (r : List Symbol) → depth e ≤ d → Ends (level_of_chain c) r → (w : Runs c d ts e r) →
      chain_behind c (part c) (place_or end ts) d d w.first w.behind ≡ done e r
  run_read c d ts e r low ends w =
      let few : w.turns ≤ depth e = w.few in
      let split : w.turns + (d - w.turns) ≡ d = omega arith in
      let run = w.goes (d - w.turns) in
      let whole : chain_behind c (part c) (place_or end ts) d d w.first w.behind ≡ chain_behind c (part c) (place_or end ts) d (d - w.turns) e r = rw split at run in
      whole ∙ chain_stops c (part c) (place_or end ts) d (d - w.turns) e r (stops (level_of_chain c) r ends)

  chain_read : (c : Chain) (ts : List Symbol) (e : Expression) (r : List Symbol) → Run c ts e r →
      (d : ℕ) → depth e ≤ d → Ends (level_of_chain c) r → chained end c (part c) d ts ≡ done e r
  chain_read c ts e r run d low ends =
      let up = next_rank c in
      let ends_part : Ends (right_of (level_of_chain c)) r = omega arith in
      let w = run d low ends_part in
      rw w.reads (run_read c d ts e r low ends w)

  one_run : (c : Chain) (ts : List Symbol) (e : Expression) (r : List Symbol) →
      ((d : ℕ) → depth e ≤ d → Ends (right_of (level_of_chain c)) r → part c d ts ≡ done e r) → Run c ts e r
  one_run c ts e r read d low ends =
      record { first = e; behind = r; turns = 0; reads = read d low ends; few = omega arith; goes = λ k. let s : 0 + k ≡ k = omega arith in rw s refl; begins = inl (refl, refl) }

  more_run : (c : Chain) (ts m r : List Symbol) (a b : Expression) (t : Symbol) (f : Fixed) (o : Op) →
      place_or end ts ≡ symbols_place ts → Run c ts a (t ∷ m) → Is t f → links (level_of_chain c) f ≡ Some o →
      ((d : ℕ) → depth b ≤ d → Ends (right_of (level_of_chain c)) r → part c d m ≡ done b r) → Run c ts (Bin (symbols_place ts) o a b) r
  more_run c ts m r a b t f o at run is k read d low ends =
      let up = next_rank c in
      let own = link_strength (level_of_chain c) f o k in
      let seen_strength = strong t m f is in
      let ends_first : Ends (right_of (level_of_chain c)) (t ∷ m) = omega arith in
      let fits : depth a ≤ d = omega arith in
      let w = run d fits ends_first in
      let shallow : depth a < d = omega arith in
      let lower : depth b ≤ d - 1 = omega arith in
      let right : part c (d - 1) m ≡ done b r = read (d - 1) lower ends in
      let seen : infix_at (level_of_chain c) (t ∷ m) ≡ Some (o, t.span, m) = sees (level_of_chain c) t m f o is (chain_links c f ∙ k) in
      let few : w.turns ≤ depth a = w.few in
      let run_on : (j : ℕ) → chain_behind c (part c) (place_or end ts) d (w.turns + 1 + j) w.first w.behind ≡ chain_behind c (part c) (place_or end ts) d j (Bin (symbols_place ts) o a b) r =
      λ j.
      let s : w.turns + 1 + j ≡ w.turns + suc j = omega arith in
      let turn = chain_goes c (part c) (place_or end ts) d (suc j) a (t ∷ m) j (o, t.span, m) seen shallow refl in
      let step : chain_behind c (part c) (place_or end ts) d (suc j) a (t ∷ m) ≡ chain_behind c (part c) (place_or end ts) d j (Bin (place_or end ts) o a b) r = rw right at turn in
      let placed : chain_behind c (part c) (place_or end ts) d j (Bin (place_or end ts) o a b) r ≡ chain_behind c (part c) (place_or end ts) d j (Bin (symbols_place ts) o a b) r =
      ap (λ s. chain_behind c (part c) (place_or end ts) d j (Bin s o a b) r) at in
      rw s (w.goes (suc j) ∙ step ∙ placed) in
      let first_begins : ((w.first ≡ Bin (symbols_place ts) o a b) × (w.behind ≡ r)) ⊎ ((x : Infix) × (infix_at (level_of_chain c) w.behind ≡ Some x)) =
      elim w.begins [ inl q ↦ inr ((o, t.span, m), ap (λ u. infix_at (level_of_chain c) u) q.1 ∙ seen) | inr q ↦ inr q ] in
      record { first = w.first; behind = w.behind; turns = w.turns + 1; reads = w.reads; few = omega arith; goes = run_on; begins = first_begins }

no_truth : false ≡ true → ⊥
no_truth e = cc

nothing : {X : Type 0} {x : X} → None ≡ Some x → ⊥
nothing e = cc

-- `&&` and `||` do not mix
not_both_fixed : (f : Fixed) (o : Op) → joins Conjunction f ≡ Some o → joins Disjunction f ≡ None
not_both_fixed fixed.And o e = refl
not_both_fixed f o e = absurd (nothing e)

not_both_op : (t : Symbol) (ts : List Symbol) (x : Infix) (f : Fixed) (o : Option Op) → joins Conjunction f ≡ o → infix_of t.span ts o ≡ Some x → joins Disjunction f ≡ None
not_both_op t ts x f None j e = absurd (nothing e)
not_both_op t ts x f (Some o) j e = not_both_fixed f o j

not_both_sign : (t : Symbol) (ts : List Symbol) (x : Infix) (s : Sign) → infix_of t.span ts (sign_joins Conjunction s) ≡ Some x → sign_joins Disjunction s ≡ None
not_both_sign t ts x (signs.Fixed f) e = not_both_op t ts x f (joins Conjunction f) refl e
not_both_sign t ts x (signs.Number n) e = refl
not_both_sign t ts x (signs.Name n) e = refl

not_both : (r : List Symbol) (x : Infix) → infix_at Conjunction r ≡ Some x → infix_at Disjunction r ≡ None
not_both [] x e = refl
not_both (t ∷ ts) x e = let s : sign_joins Disjunction t.sign ≡ None = not_both_sign t ts x t.sign e in rw s refl

module _ (end : Span) (p : ℕ) where
  conjoined_read : (ts : List Symbol) (e : Expression) (r : List Symbol) → Run end p chains.Conjunction ts e r → IsRead end p Junction ts e r
  conjoined_read ts e r run d low ends =
      let ends_part : Ends Comparison r = omega arith in
      let w = run d low ends_part in
      let none : infix_at Disjunction w.behind ≡ None =
      elim w.begins [ inl q ↦ ap (λ u. infix_at Disjunction u) q.1 ∙ stops Disjunction r ends | inr q ↦ not_both w.behind q.0 q.1 ] in
      rw (w.reads, none) (run_read end p chains.Conjunction d ts e r low ends w)

  disjoined_read : (ts : List Symbol) (e : Expression) (r : List Symbol) → Run end p chains.Disjunction ts e r → IsRead end p Junction ts e r
  disjoined_read ts e r run d low ends =
      let ends_part : Ends Comparison r = omega arith in
      let w = run d low ends_part in
      elim w.begins [
        | inl q ↦
            let none : infix_at Disjunction w.behind ≡ None = ap (λ u. infix_at Disjunction u) q.1 ∙ stops Disjunction r ends in
            let no_more : infix_at Conjunction w.behind ≡ None = ap (λ u. infix_at Conjunction u) q.1 ∙ stops Conjunction r ends in
            let alone : done w.first w.behind ≡ done e r = ap (λ a. done a w.behind) q.0 ∙ ap (λ u. done e u) q.1 in
            rw (w.reads, none) (chain_stops chains.Conjunction (comparison end (inside end p)) (place_or end ts) d d w.first w.behind no_more ∙ alone)
        | inr q ↦ rw (w.reads, q.1) (run_read end p chains.Disjunction d ts e r low ends w)
      ]

  unimplied_read : (ts : List Symbol) (e : Expression) (r : List Symbol) → IsRead end p Junction ts e r → IsRead end p Implication ts e r
  unimplied_read ts e r read d low ends =
      let ends_part : Ends Junction r = omega arith in
      let left : junction end (inside end p) d ts ≡ done e r = read d low ends_part in
      let none : infix_at Implication r ≡ None = stops Implication r ends in
      rw (implication_step end (inside end p) d ts, left, none) refl

  implied_read : (ts m r : List Symbol) (a b : Expression) (t : Symbol) → place_or end ts ≡ symbols_place ts →
      IsRead end p Junction ts a (t ∷ m) → Is t fixed.Implies → IsRead end p Implication m b r → IsRead end p Implication ts (Bin (symbols_place ts) op.Implies a b) r
  implied_read ts m r a b t at first is read d low ends =
      let own = strong t m fixed.Implies is in
      let ends_first : Ends Junction (t ∷ m) = omega arith in
      let fits : depth a ≤ d = omega arith in
      let left : junction end (inside end p) d ts ≡ done a (t ∷ m) = first d fits ends_first in
      let shallow : depth a < d = omega arith in
      let test : nat_le d (depth a) ≡ false = grind (arith, nat_tests) in
      let lower : depth b ≤ d - 1 = omega arith in
      let right : implication end (inside end p) (d - 1) m ≡ done b r = read (d - 1) lower ends in
      let seen : infix_at Implication (t ∷ m) ≡ Some (op.Implies, t.span, m) = sees Implication t m fixed.Implies op.Implies is refl in
      let placed : done (Bin (place_or end ts) op.Implies a b) r ≡ done (Bin (symbols_place ts) op.Implies a b) r = ap (λ s. done (Bin s op.Implies a b) r) at in
      rw (implication_step end (inside end p) d ts, left, seen, test, right) placed

  uncompared_read : (ts : List Symbol) (e : Expression) (r : List Symbol) → IsRead end p Sum ts e r → IsRead end p Comparison ts e r
  unfolding comparison
  uncompared_read ts e r read d low ends =
      let ends_part : Ends Sum r = omega arith in
      let left : reading.sum end (inside end p) d ts ≡ done e r = read d low ends_part in
      let none : infix_at Comparison r ≡ None = stops Comparison r ends in
      rw (left, none) refl

  compared_read : (ts m r : List Symbol) (a b : Expression) (t : Symbol) (f : Fixed) (o : Op) → place_or end ts ≡ symbols_place ts →
      IsRead end p Sum ts a (t ∷ m) → Is t f → compares f ≡ Some o → IsRead end p Sum m b r → IsRead end p Comparison ts (Bin (symbols_place ts) o a b) r
  unfolding comparison
  compared_read ts m r a b t f o at first is k read d low ends =
      let own = strong t m f is in
      let its = compare_strength f o k in
      let ends_first : Ends Sum (t ∷ m) = omega arith in
      let ends_last : Ends Sum r = omega arith in
      let fits : depth a ≤ d = omega arith in
      let left : reading.sum end (inside end p) d ts ≡ done a (t ∷ m) = first d fits ends_first in
      let shallow : depth a < d = omega arith in
      let test : nat_le d (depth a) ≡ false = grind (arith, nat_tests) in
      let lower : depth b ≤ d - 1 = omega arith in
      let right : reading.sum end (inside end p) (d - 1) m ≡ done b r = read (d - 1) lower ends_last in
      let seen : infix_at Comparison (t ∷ m) ≡ Some (o, t.span, m) = sees Comparison t m f o is k in
      let placed : done (Bin (place_or end ts) o a b) r ≡ done (Bin (symbols_place ts) o a b) r = ap (λ s. done (Bin s o a b) r) at in
      rw (left, seen, test, right) placed

  unsigned_read : (ts : List Symbol) (e : Expression) (r : List Symbol) → prefix_at ts ≡ None → IsRead end p Primary ts e r → IsRead end p Unary ts e r
  unsigned_read ts e r none read d low ends =
      let ends_part : Ends Primary r = omega arith in
      rw (unary_step end (inside end p) d ts, none) (read d low ends_part)

  negated_read : (ts : List Symbol) (e : Expression) (r : List Symbol) (t : Symbol) → Is t fixed.Minus → IsRead end p Unary ts e r → IsRead end p Unary (t ∷ ts) (Neg t.span e) r
  negated_read ts e r t is read d low ends =
      let test : nat_eq d 0 ≡ false = grind (arith, nat_tests) in
      let lower : depth e ≤ d - 1 = omega arith in
      let inner : unary end (inside end p) (d - 1) ts ≡ done e r = read (d - 1) lower ends in
      let seen : prefix_at (t ∷ ts) ≡ Some (prefixes.Neg, t.span, ts) = rw is refl in
      rw (unary_step end (inside end p) d (t ∷ ts), seen, test, inner) refl

  denied_read : (ts : List Symbol) (e : Expression) (r : List Symbol) (t : Symbol) → Is t fixed.Not → IsRead end p Unary ts e r → IsRead end p Unary (t ∷ ts) (Not t.span e) r
  denied_read ts e r t is read d low ends =
      let test : nat_eq d 0 ≡ false = grind (arith, nat_tests) in
      let lower : depth e ≤ d - 1 = omega arith in
      let inner : unary end (inside end p) (d - 1) ts ≡ done e r = read (d - 1) lower ends in
      let seen : prefix_at (t ∷ ts) ≡ Some (prefixes.Not, t.span, ts) = rw is refl in
      rw (unary_step end (inside end p) d (t ∷ ts), seen, test, inner) refl

  group_read : (ts : List Symbol) (e : Expression) (r : List Symbol) (u v : Symbol) → Is u fixed.OpenParenthesis → Is v fixed.CloseParenthesis → IsRead end p Equivalence ts e (v ∷ r) →
      (d : ℕ) → depth e ≤ d → inside end (suc p) d (u ∷ ts) ≡ done e r
  unfolding inside
  group_read ts e r u v is_open is_close read d low =
      let own = strong v r fixed.CloseParenthesis is_close in
      let ends : Ends Equivalence (v ∷ r) = omega arith in
      let inner : equivalence end (inside end p) d ts ≡ done e (v ∷ r) = read d low ends in
      let opened : behind_sign opens (u ∷ ts) ≡ Some ts = rw is_open refl in
      let shut : behind_sign closes (v ∷ r) ≡ Some r = rw is_close refl in
      rw (opened, inner, shut) refl

  old_read : (us : List Symbol) (e : Expression) (r : List Symbol) (t : Symbol) → Is t fixed.Old → ((d : ℕ) → depth e ≤ d → inside end p d us ≡ done e r) →
      IsRead end p Primary (t ∷ us) (Old t.span e) r
  old_read us e r t is read zero low ends = absurd (omega arith)
  old_read us e r t is read (suc d) low ends =
      let lower : depth e ≤ d = omega arith in
      let inner : inside end p d us ≡ done e r = read d lower in
      rw (is, inner) refl

  open_read : (us : List Symbol) (e : Expression) (r : List Symbol) (u : Symbol) → Is u fixed.OpenParenthesis → ((d : ℕ) → depth e ≤ d → inside end p d (u ∷ us) ≡ done e r) →
      IsRead end p Primary (u ∷ us) e r
  open_read us e r u is read d low ends = subst (λ s. sign_value (inside end p) d u us s ≡ done e r) (sym is) (read d low)

  -- what is shown of each level: of a chain that it runs, of the others that they are read
  abbrev Claim : Level → List Symbol → Expression → List Symbol → Type 0
  Claim Equivalence ts e r = Run end p chains.Equivalence ts e r
  Claim Conjunction ts e r = Run end p chains.Conjunction ts e r
  Claim Disjunction ts e r = Run end p chains.Disjunction ts e r
  Claim Sum ts e r = Run end p chains.Sum ts e r
  Claim Product ts e r = Run end p chains.Product ts e r
  Claim Implication ts e r = IsRead end p Implication ts e r
  Claim Junction ts e r = IsRead end p Junction ts e r
  Claim Comparison ts e r = IsRead end p Comparison ts e r
  Claim Unary ts e r = IsRead end p Unary ts e r
  Claim Primary ts e r = IsRead end p Primary ts e r

  read_of : (l : Level) (ts : List Symbol) (e : Expression) (r : List Symbol) → Claim l ts e r → IsRead end p l ts e r
  read_of Equivalence ts e r c = chain_read end p chains.Equivalence ts e r c
  read_of Conjunction ts e r c = chain_read end p chains.Conjunction ts e r c
  read_of Disjunction ts e r c = chain_read end p chains.Disjunction ts e r c
  read_of Sum ts e r c = chain_read end p chains.Sum ts e r c
  read_of Product ts e r c = chain_read end p chains.Product ts e r c
  read_of Implication ts e r c = c
  read_of Junction ts e r c = c
  read_of Comparison ts e r c = c
  read_of Unary ts e r c = c
  read_of Primary ts e r c = c

  one_claim : (l : Level) (ts : List Symbol) (e : Expression) (r : List Symbol) → is_chain l ≡ true → IsRead end p (right_of l) ts e r → Claim l ts e r
  one_claim Equivalence ts e r c read = one_run end p chains.Equivalence ts e r read
  one_claim Conjunction ts e r c read = one_run end p chains.Conjunction ts e r read
  one_claim Disjunction ts e r c read = one_run end p chains.Disjunction ts e r read
  one_claim Sum ts e r c read = one_run end p chains.Sum ts e r read
  one_claim Product ts e r c read = one_run end p chains.Product ts e r read
  one_claim l ts e r c read = absurd (no_truth c)

  more_claim : (l : Level) (ts m r : List Symbol) (a b : Expression) (t : Symbol) (f : Fixed) (o : Op) →
      place_or end ts ≡ symbols_place ts → Claim l ts a (t ∷ m) → Is t f → links l f ≡ Some o → IsRead end p (right_of l) m b r → Claim l ts (Bin (symbols_place ts) o a b) r
  more_claim Equivalence ts m r a b t f o at c is k read = more_run end p chains.Equivalence ts m r a b t f o at c is k read
  more_claim Conjunction ts m r a b t f o at c is k read = more_run end p chains.Conjunction ts m r a b t f o at c is k read
  more_claim Disjunction ts m r a b t f o at c is k read = more_run end p chains.Disjunction ts m r a b t f o at c is k read
  more_claim Sum ts m r a b t f o at c is k read = more_run end p chains.Sum ts m r a b t f o at c is k read
  more_claim Product ts m r a b t f o at c is k read = more_run end p chains.Product ts m r a b t f o at c is k read
  more_claim l ts m r a b t f o at c is k read = absurd (nothing k)

-- what is no unary operation begins with no sign
plain : {p : ℕ} {ts r : List Symbol} {e : Expression} → Reads p Primary ts e r → prefix_at ts ≡ None
plain (Grammar.one c h) = absurd (no_truth c)
plain (Grammar.more t h is k g) = absurd (nothing k)
plain (Grammar.number t is) = rw is refl
plain (Grammar.true_word t is) = rw is refl
plain (Grammar.false_word t is) = rw is refl
plain (Grammar.name t is) = rw is refl
plain (Grammar.old_value t u v is a h b) = rw is refl
plain (Grammar.grouped u v is h b) = rw is refl

claim : (end : Span) {p : ℕ} {l : Level} {ts r : List Symbol} {e : Expression} → Reads p l ts e r → Claim end p l ts e r
claim end (Grammar.one {p} {l} {ts} {r} {e} c h) = one_claim end p l ts e r c (read_of end p (right_of l) ts e r (claim end h))
claim end (Grammar.more {p} {l} {ts} {m} {r} {a} {b} {f} {o} t h is k g) =
    more_claim end p l ts m r a b t f o (starts end h) (claim end h) is k (read_of end p (right_of l) m b r (claim end g))
claim end (Grammar.unimplied {p} {ts} {r} {e} h) = unimplied_read end p ts e r (claim end h)
claim end (Grammar.implied {p} {ts} {m} {r} {a} {b} t h is g) = implied_read end p ts m r a b t (starts end h) (claim end h) is (claim end g)
claim end (Grammar.conjoined {p} {ts} {r} {e} h) = conjoined_read end p ts e r (claim end h)
claim end (Grammar.disjoined {p} {ts} {r} {e} h) = disjoined_read end p ts e r (claim end h)
claim end (Grammar.uncompared {p} {ts} {r} {e} h) = uncompared_read end p ts e r (read_of end p Sum ts e r (claim end h))
claim end (Grammar.compared {p} {ts} {m} {r} {a} {b} {f} {o} t h is k g) =
    compared_read end p ts m r a b t f o (starts end h) (read_of end p Sum ts a (t ∷ m) (claim end h)) is k (read_of end p Sum m b r (claim end g))
claim end (Grammar.unsigned {p} {ts} {r} {e} h) = unsigned_read end p ts e r (plain h) (claim end h)
claim end (Grammar.negated {p} {ts} {r} {e} t is h) = negated_read end p ts e r t is (claim end h)
claim end (Grammar.denied {p} {ts} {r} {e} t is h) = denied_read end p ts e r t is (claim end h)
claim end (Grammar.number t is) = λ d low ends. rw is refl
claim end (Grammar.true_word t is) = λ d low ends. rw is refl
claim end (Grammar.false_word t is) = λ d low ends. rw is refl
claim end (Grammar.name t is) = λ d low ends. rw is refl
claim end (Grammar.old_value {p} {ts} {r} {e} t u v is a h b) =
    old_read end (suc p) (u ∷ ts) e r t is (group_read end p ts e r u v a b (read_of end p Equivalence ts e (v ∷ r) (claim end h)))
claim end (Grammar.grouped {p} {ts} {r} {e} u v a h b) =
    open_read end (suc p) ts e r u a (group_read end p ts e r u v a b (read_of end p Equivalence ts e (v ∷ r) (claim end h)))

-- what is an expression by the grammar, with no more parentheses and no deeper than allowed, is read as it
pub complete : (end : Span) (p d : ℕ) (ts : List Symbol) (e : Expression) (r : List Symbol) →
    Reads p Equivalence ts e r → depth e ≤ d → Ends Equivalence r → expression end p d ts ≡ done e r
complete end p d ts e r h low ends = read_of end p Equivalence ts e r (claim end h) d low ends
