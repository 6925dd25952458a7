-- The signs of statements are read as them, with no more parentheses and blocks open than where they were read.
use Rattle.std.proofs.Common.{◌≡◌, ℕ, suc, List, [], ◌∷◌, ◌++◌, map, None, Some, refl, sym, ap, ◌∙◌, append_assoc}
use Rattle.boogie_tree.specs.declared.span.Span.{Span}
use Rattle.boogie_tree.specs.declared.level.Level.TheVariants.{Equivalence}
use Rattle.boogie_tree.specs.declared.tree.Name.{Name}
use Rattle.boogie_tree.specs.Tree.{Expression, Guard, Invariant, Statement, Assert, Assume, Havoc, Assign, Call, If, While, Break, Goto, Return, Label, Block, Empty, Then}
use Rattle.boogie_tree.specs.Apart.{nowhere, bare, bare_name, bare_guard, bare_invariant, bare_statement, bare_block}
use Rattle.boogie_parse.specs.declared.symbols.Fixed.TheVariants as fixed
use Rattle.boogie_parse.specs.declared.symbols.Sign.{Sign}
use Rattle.boogie_parse.specs.declared.symbols.Symbol.{Symbol}
use Rattle.boogie_parse.specs.Rules.Grammar.{Is, symbols_place, Reads}
use Rattle.boogie_parse.specs.Rules.GrammarLists.{ReadsNames, ReadsExpressions, ReadsArguments, ReadsGuard, ReadsInvariants, last_name, next_name}
use Rattle.boogie_parse.specs.Rules.GrammarStatements as statements
use Rattle.boogie_parse.specs.Rules.GrammarStatements.{ReadsStatement, ReadsIf, ReadsBlock, ReadsList}
use Rattle.boogie_parse.specs.Spelling.Spelled.{led, name_sign, expression_signs, names_signs, expressions_signs, enclosed_signs, ended_signs, guard_signs, invariants_signs, targets_signs, statement_signs, block_signs}
use Rattle.boogie_parse.specs.Spelling.Respelled.{signs_of, AreUnsigned}
use Rattle.boogie_parse.proofs.Spelling.RespelledTools.{ReadsAgain, Respells, no_sign, first_sign, more_signs, led_by, led_after, up_to}
use Rattle.boogie_parse.proofs.Spelling.RespelledRest.{names-rest, guard-rest, invariants-rest, block-rest, statement-rest}
use Rattle.boogie_parse.proofs.Spelling.RespelledExpressions.{expression-again}
use Rattle.boogie_parse.proofs.Spelling.RespelledLists.{named, is_named, names-read, expressions-again, arguments-again, guard-again, invariants-again}

abbrev pub ExpressionAgain : ℕ → Expression → Type 0
ExpressionAgain p e = Respells (Reads p Equivalence) bare (expression_signs e) e

abbrev NamesAgain : List Name → Type 0
NamesAgain xs = Respells ReadsNames (map bare_name) (names_signs xs) xs

abbrev ExpressionsAgain : ℕ → List Expression → Type 0
ExpressionsAgain p es = Respells (ReadsExpressions p) (map bare) (expressions_signs es) es

abbrev ArgumentsAgain : ℕ → List Expression → Type 0
ArgumentsAgain p es = Respells (ReadsArguments p) (map bare) (enclosed_signs (expressions_signs es)) es

abbrev GuardAgain : ℕ → Guard → Type 0
GuardAgain p g = Respells (ReadsGuard p) bare_guard (enclosed_signs (guard_signs g)) g

abbrev InvariantsAgain : ℕ → List Invariant → Type 0
InvariantsAgain p is = Respells (ReadsInvariants p) (map bare_invariant) (invariants_signs is) is

abbrev StatementAgain : ℕ → ℕ → Statement → Type 0
StatementAgain p b s = Respells (ReadsStatement p b) bare_statement (statement_signs s) s

abbrev IfAgain : ℕ → ℕ → Statement → Type 0
IfAgain p b s = Respells (ReadsIf p b) bare_statement (statement_signs s) s

-- in braces
abbrev braced : List Sign → List Sign
braced ss = led fixed.OpenBrace (ss ++ led fixed.CloseBrace [])

abbrev BlockAgain : ℕ → ℕ → Block → Type 0
BlockAgain p b x = Respells (ReadsBlock p b) bare_block (braced (block_signs x)) x

abbrev pub ListAgain : ℕ → ℕ → Block → Type 0
ListAgain p b x = Respells (ReadsList p b) bare_block (block_signs x) x

same_assignment : {xs ys : List Name} {es fs : List Expression} → xs ≡ ys → es ≡ fs → Assign nowhere xs es ≡ Assign nowhere ys fs
same_assignment e f = cc

same_call : {xs ys : List Name} (f : Name) {es fs : List Expression} → xs ≡ ys → es ≡ fs → Call nowhere xs f es ≡ Call nowhere ys f fs
same_call f d e = cc

same_loop : {g h : Guard} {is js : List Invariant} {x y : Block} → g ≡ h → is ≡ js → x ≡ y → While nowhere g is x ≡ While nowhere h js y
same_loop d e f = cc

same_branch : {g h : Guard} {x y z w : Block} → g ≡ h → x ≡ y → z ≡ w → If nowhere g x z ≡ If nowhere h y w
same_branch d e f = cc

else_apart : (g x others behind : List Sign) → (g ++ led fixed.OpenBrace (x ++ led fixed.CloseBrace others)) ++ behind ≡ g ++ (braced x ++ (others ++ behind))
else_apart g x others behind =
    append_assoc g (led fixed.OpenBrace (x ++ led fixed.CloseBrace others)) behind
    ∙ ap (λ z. g ++ led fixed.OpenBrace z) (append_assoc x (led fixed.CloseBrace others) behind ∙ sym (append_assoc x (led fixed.CloseBrace []) (others ++ behind)))

same_then : {s t : Statement} {x y : Block} → s ≡ t → x ≡ y → Then s x ≡ Then t y
same_then d e = cc

module _ {p b : ℕ} where
  assert-again : (s : Span) (e : Expression) → ExpressionAgain p e → StatementAgain p b (Assert s e)
  assert-again s e h us behind n =
      led_by us n (λ t m is k.
      let a = up_to (h m (led fixed.Semicolon behind) (k ∙ append_assoc (expression_signs e) (led fixed.Semicolon []) behind)) in
      record { value = Assert t.span a.value; rest = a.rest; reads = statements.asserts t a.next is a.reads a.is; like = ap (Assert nowhere) a.like; follows = a.follows })

  assume-again : (s : Span) (e : Expression) → ExpressionAgain p e → StatementAgain p b (Assume s e)
  assume-again s e h us behind n =
      led_by us n (λ t m is k.
      let a = up_to (h m (led fixed.Semicolon behind) (k ∙ append_assoc (expression_signs e) (led fixed.Semicolon []) behind)) in
      record { value = Assume t.span a.value; rest = a.rest; reads = statements.assumes t a.next is a.reads a.is; like = ap (Assume nowhere) a.like; follows = a.follows })

  havoc-again : (s : Span) (xs : List Name) → NamesAgain xs → StatementAgain p b (Havoc s xs)
  havoc-again s xs h us behind n =
      led_by us n (λ t m is k.
      let a = up_to (h m (led fixed.Semicolon behind) (k ∙ append_assoc (names_signs xs) (led fixed.Semicolon []) behind)) in
      record { value = Havoc t.span a.value; rest = a.rest; reads = statements.havocs t a.next is a.reads a.is; like = ap (Havoc nowhere) a.like; follows = a.follows })

  goto-again : (s : Span) (xs : List Name) → NamesAgain xs → StatementAgain p b (Goto s xs)
  goto-again s xs h us behind n =
      led_by us n (λ t m is k.
      let a = up_to (h m (led fixed.Semicolon behind) (k ∙ append_assoc (names_signs xs) (led fixed.Semicolon []) behind)) in
      record { value = Goto t.span a.value; rest = a.rest; reads = statements.goes_to t a.next is a.reads a.is; like = ap (Goto nowhere) a.like; follows = a.follows })

  assign-again : (s : Span) (xs : List Name) (es : List Expression) → NamesAgain xs → ExpressionsAgain p es → StatementAgain p b (Assign s xs es)
  assign-again s xs es h g us behind n =
      let values : List Sign = ended_signs (expressions_signs es) in
      let a = up_to (h us (led fixed.Becomes (values ++ behind)) (n ∙ append_assoc (names_signs xs) (led fixed.Becomes values) behind)) in
      let c = up_to (g a.rest (led fixed.Semicolon behind) (a.follows ∙ append_assoc (expressions_signs es) (led fixed.Semicolon []) behind)) in
      record {
        value = Assign (symbols_place us) a.value c.value;
        rest = c.rest;
        reads = statements.assigns a.next c.next a.reads a.is c.reads c.is;
        like = same_assignment a.like c.like;
        follows = c.follows;
      }

  call-again : (s : Span) (f : Name) (es : List Expression) → ArgumentsAgain p es → StatementAgain p b (Call s [] f es)
  call-again s f es h us behind e =
      led_by us e (λ t m is k.
      led_after (λ z. t ∷ z) m k (λ n l call j.
      let a = up_to (h l (led fixed.Semicolon behind) (j ∙ append_assoc (enclosed_signs (expressions_signs es)) (led fixed.Semicolon []) behind)) in
      record {
        value = Call t.span [] (named n f) a.value;
        rest = a.rest;
        reads = statements.calls t n a.next is (is_named n f call) a.reads a.is;
        like = ap (Call nowhere [] (bare_name f)) a.like;
        follows = a.follows;
      }))

  -- the call behind its targets
  call-into : (s : Span) (xs ys : List Name) (f : Name) (es : List Expression) → ArgumentsAgain p es → (behind : List Sign) (t c : Symbol) (m rest : List Symbol) →
      Is t fixed.Call → ReadsNames m ys (c ∷ rest) → Is c fixed.Becomes → map bare_name ys ≡ map bare_name xs →
      signs_of rest ≡ name_sign f ∷ (ended_signs (enclosed_signs (expressions_signs es)) ++ behind) →
      ReadsAgain (ReadsStatement p b) (λ y. bare_statement y ≡ bare_statement (Call s xs f es)) (t ∷ m) behind
  call-into s xs ys f es h behind t c m [] it d ic like e = absurd (no_sign e)
  call-into s xs ys f es h behind t c m (n ∷ l) it d ic like e =
      let a = up_to (h l (led fixed.Semicolon behind) (more_signs e ∙ append_assoc (enclosed_signs (expressions_signs es)) (led fixed.Semicolon []) behind)) in
      record {
        value = Call t.span ys (named n f) a.value;
        rest = a.rest;
        reads = statements.calls_into t c n a.next it d ic (is_named n f (first_sign e)) a.reads a.is;
        like = same_call (bare_name f) like a.like;
        follows = a.follows;
      }

  call-into-again : (s : Span) (xs : List Name) (f : Name) (es : List Expression) → targets_signs xs ≡ names_signs xs ++ led fixed.Becomes [] → NamesAgain xs → ArgumentsAgain p es →
      StatementAgain p b (Call s xs f es)
  call-into-again s xs f es targets h g us behind e =
      let call : List Sign = name_sign f ∷ ended_signs (enclosed_signs (expressions_signs es)) in
      led_by us e (λ t m is k.
      let parts : signs_of m ≡ names_signs xs ++ led fixed.Becomes (call ++ behind) =
      k ∙ ap (λ z. (z ++ call) ++ behind) targets ∙ append_assoc (names_signs xs ++ led fixed.Becomes []) call behind ∙ append_assoc (names_signs xs) (led fixed.Becomes []) (call ++ behind) in
      let a = up_to (h m (led fixed.Becomes (call ++ behind)) parts) in
      call-into s xs a.value f es g behind t a.next m a.rest is a.reads a.is a.like a.follows)

  break-again : (s : Span) → StatementAgain p b (Break s None)
  break-again s us behind e =
      led_by us e (λ t m is k.
      led_after (λ z. t ∷ z) m k (λ u l iu j.
      record { value = Break t.span None; rest = l; reads = statements.breaks t u is iu; like = refl; follows = j }))

  break-from-again : (s : Span) (x : Name) → StatementAgain p b (Break s (Some x))
  break-from-again s x us behind e =
      led_by us e (λ t m is k.
      led_after (λ z. t ∷ z) m k (λ n l label j.
      led_after (λ z. t ∷ n ∷ z) l j (λ u o iu i.
      record { value = Break t.span (Some (named n x)); rest = o; reads = statements.breaks_from t n u is (is_named n x label) iu; like = refl; follows = i })))

  return-again : (s : Span) → StatementAgain p b (Return s)
  return-again s us behind e =
      led_by us e (λ t m is k.
      led_after (λ z. t ∷ z) m k (λ u l iu j.
      record { value = Return t.span; rest = l; reads = statements.returns t u is iu; like = refl; follows = j }))

  label-again : (x : Name) → StatementAgain p b (Label x)
  label-again x us behind e =
      led_by us e (λ n m label k.
      led_after (λ z. n ∷ z) m k (λ u l iu j.
      record { value = Label (named n x); rest = l; reads = statements.labels n u (is_named n x label) iu; like = refl; follows = j }))

  branch-again : (s : Statement) → IfAgain p b s → StatementAgain p b s
  branch-again s h us behind e =
      let a = h us behind e in
      record { value = a.value; rest = a.rest; reads = statements.branches a.reads; like = a.like; follows = a.follows }

  loop-again : (s : Span) (g : Guard) (is : List Invariant) (x : Block) → GuardAgain p g → InvariantsAgain p is → BlockAgain p b x → StatementAgain p b (While s g is x)
  loop-again s g is x h i j us behind e =
      let guard : List Sign = enclosed_signs (guard_signs g) in
      let conditions : List Sign = invariants_signs is in
      let body : List Sign = braced (block_signs x) in
      led_by us e (λ t m it k.
      let parts : signs_of m ≡ guard ++ (conditions ++ (body ++ behind)) = k ∙ append_assoc (guard ++ conditions) body behind ∙ append_assoc guard conditions (body ++ behind) in
      let a = h m (conditions ++ (body ++ behind)) parts in
      let c = i a.rest (body ++ behind) a.follows in
      let d = j c.rest behind c.follows in
      record {
        value = While t.span a.value c.value d.value;
        rest = d.rest;
        reads = statements.loops t it a.reads c.reads d.reads;
        like = same_loop a.like c.like d.like;
        follows = d.follows;
      })

  if-alone : (s : Span) (g : Guard) (x : Block) → GuardAgain p g → BlockAgain p b x → IfAgain p b (If s g x Empty)
  if-alone s g x h i us behind e =
      let body : List Sign = braced (block_signs x) in
      led_by us e (λ t m it k.
      let a = h m (body ++ behind) (k ∙ append_assoc (enclosed_signs (guard_signs g)) body behind) in
      let c = i a.rest behind a.follows in
      record {
        value = If t.span a.value c.value Empty;
        rest = c.rest;
        reads = statements.without_else t it a.reads c.reads;
        like = same_branch a.like c.like refl;
        follows = c.follows;
      })

  if-both : (s : Span) (g : Guard) (x : Block) (v : Statement) (z : Block) → GuardAgain p g → BlockAgain p b x → BlockAgain p b (Then v z) → IfAgain p b (If s g x (Then v z))
  if-both s g x v z h i j us behind e =
      let body : List Sign = braced (block_signs x) in
      let others : List Sign = led fixed.Else (braced (block_signs (Then v z))) in
      led_by us e (λ t m it k.
      let a = h m (body ++ (others ++ behind)) (k ∙ else_apart (enclosed_signs (guard_signs g)) (block_signs x) others behind) in
      let c = up_to (i a.rest (others ++ behind) a.follows) in
      let d = j c.rest behind c.follows in
      record {
        value = If t.span a.value c.value d.value;
        rest = d.rest;
        reads = statements.with_else t c.next it a.reads c.reads c.is d.reads;
        like = same_branch a.like c.like d.like;
        follows = d.follows;
      })

  if-else : (s : Span) (g : Guard) (x y : Block) → GuardAgain p g → BlockAgain p b x → BlockAgain p b y → IfAgain p b (If s g x y)
  if-else s g x Empty h i j = if-alone s g x h i
  if-else s g x (Then v z) h i j = if-both s g x v z h i j

  block-by : (x : Block) → ListAgain p b x → BlockAgain p (suc b) x
  block-by x h us behind e =
      led_by us e (λ u m iu k.
      let a = up_to (h m (led fixed.CloseBrace behind) (k ∙ append_assoc (block_signs x) (led fixed.CloseBrace []) behind)) in
      record { value = a.value; rest = a.rest; reads = statements.block u a.next iu a.reads a.is; like = a.like; follows = a.follows })

  none-again : ListAgain p b Empty
  none-again us behind e = record { value = Empty; rest = us; reads = statements.no_statement; like = refl; follows = e }

  then-again : (s : Statement) (x : Block) → StatementAgain p b s → ListAgain p b x → ListAgain p b (Then s x)
  then-again s x h g us behind e =
      let a = h us (block_signs x ++ behind) (e ∙ append_assoc (statement_signs s) (block_signs x) behind) in
      let c = g a.rest behind a.follows in
      record { value = Then a.value c.value; rest = c.rest; reads = statements.next_statement a.reads c.reads; like = same_then a.like c.like; follows = c.follows }

targets-named : {ts r : List Symbol} {xs : List Name} → ReadsNames ts xs r → targets_signs xs ≡ names_signs xs ++ led fixed.Becomes []
targets-named (last_name t n) = refl
targets-named (next_name t u n c d) = refl

mutual
  statement-again : {p b : ℕ} {ts r : List Symbol} {s : Statement} → ReadsStatement p b ts s r → AreUnsigned ts → StatementAgain p b s
  statement-again (statements.asserts {e = e} t u is d iu) w = assert-again t.span e (expression-again d w.1)
  statement-again (statements.assumes {e = e} t u is d iu) w = assume-again t.span e (expression-again d w.1)
  statement-again (statements.havocs {xs = xs} t u is d iu) w = havoc-again t.span xs (names-read d)
  statement-again (statements.assigns {ts = ts} {xs = xs} {es = es} t u d is e iu) w = assign-again (symbols_place ts) xs es (names-read d) (expressions-again e (names-rest d w).1)
  statement-again (statements.calls {f = f} {es = es} t n u is call d iu) w = call-again t.span f es (arguments-again d w.1.1)
  statement-again (statements.calls_into {xs = xs} {f = f} {es = es} t c n u is d ic call e iu) w =
      call-into-again t.span xs f es (targets-named d) (names-read d) (arguments-again e (names-rest d w.1).1.1)
  statement-again (statements.branches {s = s} d) w = branch-again s (if-again d w)
  statement-again (statements.loops {g = g} {is = is} {x = x} t it h i j) w =
      loop-again t.span g is x (guard-again h w.1) (invariants-again i (guard-rest h w.1)) (block-again j (invariants-rest i (guard-rest h w.1)))
  statement-again (statements.breaks t u is iu) w = break-again t.span
  statement-again (statements.breaks_from {x = x} t n u is f iu) w = break-from-again t.span x
  statement-again (statements.goes_to {xs = xs} t u is d iu) w = goto-again t.span xs (names-read d)
  statement-again (statements.returns t u is iu) w = return-again t.span
  statement-again (statements.labels {x = x} n u f iu) w = label-again x

  if-again : {p b : ℕ} {ts r : List Symbol} {s : Statement} → ReadsIf p b ts s r → AreUnsigned ts → IfAgain p b s
  if-again (statements.without_else {g = g} {x = x} t is h i) w = if-alone t.span g x (guard-again h w.1) (block-again i (guard-rest h w.1))
  if-again (statements.with_else {g = g} {x = x} {y = y} t u is h i iu j) w =
      if-else t.span g x y (guard-again h w.1) (block-again i (guard-rest h w.1)) (block-again j (block-rest i (guard-rest h w.1)).1)
  if-again (statements.with_else_if {g = g} {x = x} {s = s} t u is h i iu j) w =
      if-both t.span g x s Empty (guard-again h w.1) (block-again i (guard-rest h w.1))
      (block-by (Then s Empty) (then-again s Empty (branch-again s (if-again j (block-rest i (guard-rest h w.1)).1)) none-again))

  block-again : {p b : ℕ} {ts r : List Symbol} {x : Block} → ReadsBlock p b ts x r → AreUnsigned ts → BlockAgain p b x
  block-again (statements.block {x = x} u v iu d iv) w = block-by x (list-again d w.1)

  pub list-again : {p b : ℕ} {ts r : List Symbol} {x : Block} → ReadsList p b ts x r → AreUnsigned ts → ListAgain p b x
  list-again statements.no_statement w = none-again
  list-again (statements.next_statement {s = s} {x = x} d ds) w = then-again s x (statement-again d w) (list-again ds (statement-rest d w))
