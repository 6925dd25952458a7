-- What are expressions, conditions and invariants by the grammar, and within the limits, are read as them.
use Rattle.std.proofs.Common.{◌≡◌, ℕ, zero, suc, ◌-◌, ◌<◌, ◌≤◌, Bool, true, false, List, [], ◌∷◌, ◌++◌, length, None, Some, Ok, refl, ap, subst, arith}
use denote.Enum.Bare.{sameb}
use Rattle.std.specs.List.{AllByRecursion}
use Rattle.boogie_tree.specs.declared.span.Span.{Span}
use Rattle.boogie_tree.specs.declared.level.Level.{Level}
use Rattle.boogie_tree.specs.declared.level.Level.TheVariants.{Equivalence}
use Rattle.boogie_tree.specs.Tree.{Expression, Guard, Invariant}
use Rattle.boogie_parse.specs.declared.symbols.Fixed.{Fixed}
use Rattle.boogie_parse.specs.declared.symbols.Fixed.TheVariants as fixed
use Rattle.boogie_parse.specs.contracts.symbols.Fixed.{the_type}
use Rattle.boogie_parse.specs.declared.symbols.Sign.TheVariants as signs
use Rattle.boogie_parse.specs.declared.symbols.Symbol.{Symbol}
use Rattle.boogie_parse.specs.Reading.Outcomes.{ReadResult}
use Rattle.boogie_parse.specs.Rules.Grammar.{Is, Reads, one, more, unimplied, implied, conjoined, disjoined, uncompared, compared, unsigned, negated, denied, number, true_word, false_word, name, old_value, grouped}
use Rattle.boogie_parse.specs.Rules.GrammarLists as grammar
use Rattle.boogie_parse.specs.Rules.GrammarLists.{ReadsExpressions, last_expression, next_expression, ReadsArguments, no_argument, ReadsGuard, either_way, ReadsCondition, checked, ReadsInvariants, no_invariant, next_invariant}
use Rattle.boogie_parse.specs.Rules.GrammarLimits.{IsShallow, EachOfGuard}
use Rattle.boogie_parse.specs.Ties.ExpressionLaws.{Ends}
use Rattle.boogie_parse.specs.Reading.ListReading as reading
use Rattle.boogie_parse.specs.Reading.ListReading.{read, Possible, there, one_there, repeated_by, repeated, with_front, seen, behind, separated, opened, closed, listed_by, expression_at, expression_item, expressions_at, arguments_at, guard_by, guard_at, claim_at, condition_behind, invariant_by, invariant_at, invariant_item, invariants_at}
use Rattle.boogie_parse.proofs.Rules.ExpressionComplete.{complete}
use Rattle.boogie_parse.proofs.Rules.ListComplete.{here, seen-it, seen-other, seen-name, behind-it, last-read, next-read, opened-it, reads-take}

seen-number : (f : Fixed) (t : Symbol) (ts : List Symbol) (n : _) → t.sign ≡ signs.Number n → seen f (t ∷ ts) ≡ None
unfolding seen
seen-number f t ts n is = rw is refl

-- a word or mark that begins no expression
record BeginsNone (f : Fixed) : Type 0 where
  minus : sameb the_type fixed.Minus f ≡ false
  negation : sameb the_type fixed.Not f ≡ false
  truth : sameb the_type fixed.True f ≡ false
  falsity : sameb the_type fixed.False f ≡ false
  old : sameb the_type fixed.Old f ≡ false
  parenthesis : sameb the_type fixed.OpenParenthesis f ≡ false

closing_begins_none : BeginsNone fixed.CloseParenthesis
closing_begins_none = record { minus = refl; negation = refl; truth = refl; falsity = refl; old = refl; parenthesis = refl }

star_begins_none : BeginsNone fixed.Star
star_begins_none = record { minus = refl; negation = refl; truth = refl; falsity = refl; old = refl; parenthesis = refl }

reads-open : (f : Fixed) → BeginsNone f → {p : ℕ} {l : Level} {ts r : List Symbol} {e : Expression} → Reads p l ts e r → seen f ts ≡ None
reads-open f b (one c d) = reads-open f b d
reads-open f b (more t a is l c) = reads-open f b a
reads-open f b (unimplied d) = reads-open f b d
reads-open f b (implied t a is c) = reads-open f b a
reads-open f b (conjoined d) = reads-open f b d
reads-open f b (disjoined d) = reads-open f b d
reads-open f b (uncompared d) = reads-open f b d
reads-open f b (compared t a is c d) = reads-open f b a
reads-open f b (unsigned d) = reads-open f b d
reads-open f b (negated {ts = ts} t is d) = seen-other f fixed.Minus t ts is b.minus
reads-open f b (denied {ts = ts} t is d) = seen-other f fixed.Not t ts is b.negation
reads-open f b (number {r = r} {n = n} t is) = seen-number f t r n is
reads-open f b (true_word {r = r} t is) = seen-other f fixed.True t r is b.truth
reads-open f b (false_word {r = r} t is) = seen-other f fixed.False t r is b.falsity
reads-open f b (name {r = r} {x = x} t is) = seen-name f t r x is
reads-open f b (old_value {ts = ts} t u v it iu d iv) = seen-other f fixed.Old t (u ∷ ts) it b.old
reads-open f b (grouped {ts = ts} u v iu d iv) = seen-other f fixed.OpenParenthesis u ts iu b.parenthesis

expressions-open : (f : Fixed) → BeginsNone f → {p : ℕ} {ts r : List Symbol} {es : List Expression} → ReadsExpressions p ts es r → seen f ts ≡ None
expressions-open f b (last_expression d) = reads-open f b d
expressions-open f b (next_expression u d c ds) = reads-open f b d

-- nothing goes on behind these marks
pub semicolon-ends : (u : Symbol) (r : List Symbol) → Is u fixed.Semicolon → Ends Equivalence (u ∷ r)
semicolon-ends u r is = rw is (omega arith)

comma-ends : (u : Symbol) (r : List Symbol) → Is u fixed.Comma → Ends Equivalence (u ∷ r)
comma-ends u r is = rw is (omega arith)

closing-ends : (u : Symbol) (r : List Symbol) → Is u fixed.CloseParenthesis → Ends Equivalence (u ∷ r)
closing-ends u r is = rw is (omega arith)

module _ {X : Type 0} (item : ℕ → List Symbol → Possible (List X)) (used : List X → ℕ) where
  pub stop-read : (n k : ℕ) (ts : List Symbol) → item n ts ≡ Ok None → repeated item used n k ts ≡ read [] ts
  unfolding repeated
  stop-read n zero ts e = refl
  stop-read n (suc k) ts e = rw e refl

  pub item-read : (n k : ℕ) (ts m r : List Symbol) (xs ys : List X) → 0 < k → item n ts ≡ Ok (Some (record { value = xs; rest = m })) → repeated item used (n - used xs) (k - 1) m ≡ read ys r
      → repeated item used n k ts ≡ read (xs ++ ys) r
  unfolding repeated
  item-read n zero ts m r xs ys h i rest = absurd (omega arith)
  item-read n (suc k) ts m r xs ys h i rest =
      let e : suc k - 1 ≡ k = omega arith in
      let next : repeated item used (n - used xs) k m ≡ read ys r = subst (λ j. repeated item used (n - used xs) j m ≡ read ys r) e rest in
      rw (i, next) refl

pub guard-take : {p : ℕ} {ts r : List Symbol} {g : Guard} → ReadsGuard p ts g r → length r < length ts
guard-take (either_way u t v iu it iv) = omega arith
guard-take (grammar.condition u v iu d iv) = let h = reads-take d in omega arith

pub condition-take : {p : ℕ} {f : Fixed} {ts r : List Symbol} {i : Invariant} → ReadsCondition p f ts i r → length r < length ts
condition-take (checked t u is d iu) = let h = reads-take d in omega arith
condition-take (grammar.free s t u free is d iu) = let h = reads-take d in omega arith

module _ (reads : ℕ → List Symbol → ReadResult Expression) (end : Span) (IsSo : Expression → Type 0)
    (reads-complete : (p : ℕ) (ts : List Symbol) (e : Expression) (r : List Symbol) → Reads p Equivalence ts e r → IsSo e → Ends Equivalence r → reads p ts ≡ read e r) where
  expressions-read : (p n k : ℕ) (ts : List Symbol) (es : List Expression) (r : List Symbol) → ReadsExpressions p ts es r → AllByRecursion IsSo es → Ends Equivalence r → seen fixed.Comma r ≡ None → length ts ≤ k
      → separated (expression_item reads p) end n k ts ≡ read es r
  expressions-read p n k ts es r (last_expression {e = e} d) shallow ends none long =
      let h = reads-take d in last-read (expression_item reads p) end n k ts r (e ∷ []) (omega arith) (ap reading.one (reads-complete p ts e r d shallow.0 ends)) none
  expressions-read p n k ts es r (next_expression {m = m} {e = e} {es = fs} u d comma ds) shallow ends none long =
      let h = reads-take d in
      next-read (expression_item reads p) end n k ts m r u (e ∷ []) fs (omega arith) (ap reading.one (reads-complete p ts e (u ∷ m) d shallow.0 (comma-ends u m comma))) comma
      (expressions-read p (n - 1) (k - 1) m fs r ds shallow.1 ends none (omega arith))

  pub expressions-complete : (p : ℕ) (ts : List Symbol) (es : List Expression) (r : List Symbol) → ReadsExpressions p ts es r → AllByRecursion IsSo es → Ends Equivalence r → seen fixed.Comma r ≡ None → expressions_at reads end p ts ≡ read es r
  unfolding expressions_at
  expressions-complete p ts es r d shallow ends none = expressions-read p 0 (length ts) ts es r d shallow ends none (omega arith)

  pub arguments-complete : (p : ℕ) (ts : List Symbol) (es : List Expression) (r : List Symbol) → ReadsArguments p ts es r → AllByRecursion IsSo es → arguments_at reads end p ts ≡ read es r
  unfolding arguments_at
  arguments-complete p ts es r (no_argument {p = q} u v iu iv) shallow = rw (opened-it end fixed.OpenParenthesis q u (v ∷ r) iu, seen-it fixed.CloseParenthesis v r iv) refl
  arguments-complete p ts es r (grammar.arguments {p = q} {ts = us} u v iu d iv) shallow =
      rw (
        opened-it end fixed.OpenParenthesis q u us iu,
        expressions-open fixed.CloseParenthesis closing_begins_none d,
        expressions-complete q us es (v ∷ r) d shallow (closing-ends v r iv) (seen-other fixed.Comma fixed.CloseParenthesis v r iv refl),
        behind-it end fixed.CloseParenthesis v r iv,
      ) refl

  pub guard-complete : (p : ℕ) (ts : List Symbol) (g : Guard) (r : List Symbol) → ReadsGuard p ts g r → EachOfGuard IsSo g → guard_at reads end p ts ≡ read g r
  unfolding guard_at
  guard-complete p ts g r (either_way {p = q} u t v iu it iv) shallow =
      rw (opened-it end fixed.OpenParenthesis q u (t ∷ v ∷ r) iu, seen-it fixed.Star t (v ∷ r) it, behind-it end fixed.CloseParenthesis v r iv) refl
  guard-complete p ts g r (grammar.condition {p = q} {ts = us} {e = e} u v iu d iv) shallow =
      rw (opened-it end fixed.OpenParenthesis q u us iu, reads-open fixed.Star star_begins_none d, reads-complete q us e (v ∷ r) d shallow (closing-ends v r iv), behind-it end fixed.CloseParenthesis v r iv) refl

  pub claim-complete : (p : ℕ) (ts : List Symbol) (e : Expression) (u : Symbol) (r : List Symbol) → Reads p Equivalence ts e (u ∷ r) → Is u fixed.Semicolon → IsSo e → claim_at reads end p ts ≡ read e r
  unfolding claim_at
  claim-complete p ts e u r d is shallow = rw (reads-complete p ts e (u ∷ r) d shallow (semicolon-ends u r is), behind-it end fixed.Semicolon u r is) refl

  pub condition-complete : (p : ℕ) (free : Bool) (t : Symbol) (ts : List Symbol) (e : Expression) (u : Symbol) (r : List Symbol) → Reads p Equivalence ts e (u ∷ r) → Is u fixed.Semicolon → IsSo e
      → condition_behind reads end p free (here t ts) ≡ read (record { span = t.span; free = free; cond = e }) r
  unfolding condition_behind
  condition-complete p free t ts e u r d is shallow = rw (claim-complete p ts e u r d is shallow) refl

  pub invariant-complete : (p : ℕ) (f : Fixed) (ts : List Symbol) (i : Invariant) (r : List Symbol) → f ≡ fixed.Invariant → ReadsCondition p f ts i r → IsSo i.cond
      → invariant_at reads end p ts ≡ Ok (Some (record { value = i; rest = r }))
  unfolding invariant_at
  invariant-complete p f ts i r e (checked {ts = us} {e = c} t u is d iu) shallow =
      let it : Is t fixed.Invariant = subst (Is t) e is in
      rw (seen-other fixed.Free fixed.Invariant t us it refl, seen-it fixed.Invariant t us it, condition-complete p false t us c u r d iu shallow) refl
  invariant-complete p f ts i r e (grammar.free {ts = us} {e = c} s t u free is d iu) shallow =
      let it : Is t fixed.Invariant = subst (Is t) e is in
      rw (seen-it fixed.Free s (t ∷ us) free, behind-it end fixed.Invariant t us it, condition-complete p true t us c u r d iu shallow) refl

  no-invariant : (p : ℕ) (u : Symbol) (r : List Symbol) → Is u fixed.OpenBrace → invariant_at reads end p (u ∷ r) ≡ Ok None
  unfolding invariant_at
  no-invariant p u r is = rw (seen-other fixed.Free fixed.OpenBrace u r is refl, seen-other fixed.Invariant fixed.OpenBrace u r is refl) refl

  invariants-read : (p n k : ℕ) (ts : List Symbol) (is : List Invariant) (r : List Symbol) → ReadsInvariants p ts is r → AllByRecursion (λ (i : Invariant). IsSo i.cond) is
      → invariant_at reads end p r ≡ Ok None → length ts ≤ k → repeated (invariant_item reads end p) length n k ts ≡ read is r
  invariants-read p n k ts is r no_invariant shallow stop long = stop-read (invariant_item reads end p) length n k r (ap one_there stop)
  invariants-read p n k ts is r (next_invariant {m = m} {i = i} {is = js} d ds) shallow stop long =
      let h = condition-take d in
      item-read (invariant_item reads end p) length n k ts m r (i ∷ []) js (omega arith) (ap one_there (invariant-complete p fixed.Invariant ts i m refl d shallow.0))
      (invariants-read p (n - 1) (k - 1) m js r ds shallow.1 stop (omega arith))

  pub invariants-complete : (p : ℕ) (ts : List Symbol) (is : List Invariant) (u : Symbol) (r : List Symbol) → ReadsInvariants p ts is (u ∷ r) → AllByRecursion (λ (i : Invariant). IsSo i.cond) is → Is u fixed.OpenBrace
      → invariants_at reads end p ts ≡ read is (u ∷ r)
  unfolding invariants_at
  invariants-complete p ts is u r d shallow brace = invariants-read p 0 (length ts) ts is (u ∷ r) d shallow (no-invariant p u r brace) (omega arith)

pub expression_at-complete : (end : Span) (p : ℕ) (ts : List Symbol) (e : Expression) (r : List Symbol) → Reads p Equivalence ts e r → IsShallow e → Ends Equivalence r → expression_at end p ts ≡ read e r
unfolding expression_at
expression_at-complete end p ts e r d shallow ends = complete end p 200 ts e r d shallow ends
