-- The letters of what a called procedure requires: the products of the condition are further arguments.
use Rattle.std.proofs.Common.{◌≡◌, ℕ, zero, suc, ◌+◌, Bool, true, false, not, ◌&&◌, List, [], ◌∷◌, ◌++◌, map, length, Option, Some, if◌then◌else◌, refl, sym, ◌∙◌, ap, append-nil, append_assoc, arith}
use Rattle.std.specs.Prelude.{slice_get}
use Rattle.std.specs.Option.{option_map}
use Rattle.boogie_tree.specs.declared.span.Span.{Span}
use Rattle.boogie_tree.specs.declared.tree.Column.{Column}
use Rattle.boogie_tree.specs.declared.tree.Column.TheVariants as columns
use Rattle.typed_tree.specs.TypedTree.{TypedExpression, Var}
use Rattle.typed_tree.specs.AffineForm.{is_empty, forms_fit}
use Rattle.letter_acts.specs.Frames.{Columns}
use Rattle.cond_jumps.specs.Conjunctions.{Conjunction, Plan, listed_plan}
use Rattle.cond_jumps.specs.Environments.{Environment}
use Rattle.cond_jumps.specs.Frames.{frame_environment, fixed_in}
use Rattle.cond_jumps.specs.Passing.{Standing, Passed, standing_type, standing_sum, standing_plan, standing_environment, passed}
use Rattle.cond_jumps.specs.Paths.{paths}
use Rattle.cond_jumps.specs.FreeProducts.FreeProducts.{free_products, freed, all_free_products, all_freed}
use Rattle.cond_jumps.specs.FreeProducts.FrameLetters.{widened, put_in, told_condition, product_arguments, passed_count, freed_passed_plan, told_letters, passed_letters}
use Rattle.cond_jumps.specs.FreeProducts.Letters.{MarkedConjunction, marked_letter}
use Rattle.cond_jumps.specs.FreeProducts.LetterView.{exact_letter}
use Rattle.cond_jumps.proofs.FreeProducts.FreedLemmas.{freed_same, map_append}
use Rattle.cond_jumps.proofs.FreeProducts.FrameAnswers.{length-widened, none_widened, exact_letters, all_same}
use Rattle.icfg_lower.specs.CallJumps.CallLists.{passed_plan, local_variables, demand_plan, demand_base}

-- ---- where a variable of a local stands does not matter

-- they stand for the same
record StandAlike (v : Environment) (a b : Option Standing) : Type 0 where
  type : standing_type v a ≡ standing_type v b
  sum : standing_sum v a ≡ standing_sum v b
  plan : (want : Bool) → standing_plan v a want ≡ standing_plan v b want

itself : (v : Environment) (a : Option Standing) → StandAlike v a a
itself v a = record { type = refl; sum = refl; plan = λ want. refl }

environments_alike : (v : Environment) (f g : Column → Option Standing) → ((c : Column) → StandAlike v (f c) (g c)) → standing_environment v f ≡ standing_environment v g
environments_alike v f g h = λ i. record { type = λ c. (h c).type i; fixed = v.fixed; sum = λ c. (h c).sum i; plan = λ c want. (h c).plan want i }

variables_alike : (v : Environment) (bs ps : List TypedExpression) (at : Span) (m n : ℕ) →
    StandAlike v (option_map Passed (slice_get (bs ++ local_variables at m (length ps)) n)) (option_map Passed (slice_get (bs ++ product_arguments m ps) n))
variables_alike v [] [] at m n = itself v (option_map Passed (slice_get [] n))
variables_alike v [] (p ∷ ps) at m zero = record { type = refl; sum = refl; plan = λ want. refl }
variables_alike v [] (p ∷ ps) at m (suc n) = variables_alike v [] ps at (suc m) n
variables_alike v (a ∷ bs) ps at m zero = itself v (Some (Passed a))
variables_alike v (a ∷ bs) ps at m (suc n) = variables_alike v bs ps at m n

passed_alike : (v : Environment) (bs ps : List TypedExpression) (at : Span) (m : ℕ) (c : Column) → StandAlike v (passed (bs ++ local_variables at m (length ps)) c) (passed (bs ++ product_arguments m ps) c)
passed_alike v bs ps at m (columns.Global n) = itself v (passed [] (columns.Global n))
passed_alike v bs ps at m (columns.Old n) = itself v (passed [] (columns.Old n))
passed_alike v bs ps at m (columns.Local n) = variables_alike v bs ps at m n

variables_pass : (frame : Columns) (bs ps : List TypedExpression) (at : Span) (m : ℕ) (e : TypedExpression) (want : Bool) →
    passed_plan frame (bs ++ local_variables at m (length ps)) e want ≡ passed_plan frame (bs ++ product_arguments m ps) e want
variables_pass frame bs ps at m e want =
    let v : Environment = frame_environment frame in
    λ i. paths (environments_alike v (passed (bs ++ local_variables at m (length ps))) (passed (bs ++ product_arguments m ps)) (passed_alike v bs ps at m) i) false e want

-- one variable more
variables_snoc : (at : Span) (m k : ℕ) → local_variables at m (k + 1) ≡ local_variables at m k ++ Var at (columns.Local (m + k)) ∷ []
variables_snoc at m zero = let e : m ≡ m + 0 = omega arith in λ j. Var at (columns.Local (e j)) ∷ []
variables_snoc at m (suc k) =
    let a : suc k + 1 ≡ suc (k + 1) = omega arith in
    let b : suc m + k ≡ m + suc k = omega arith in
    (λ j. local_variables at m (a j)) ∙ ap (λ (l : List TypedExpression). Var at (columns.Local m) ∷ l) (variables_snoc at (suc m) k ∙ (λ j. local_variables at (suc m) k ++ Var at (columns.Local (b j)) ∷ []))

pub variables_step : {X : Type 0} (f : X → TypedExpression) (at : Span) (first made local : ℕ) (exprs old new : List X) (x : X) → local ≡ first + made → f x ≡ Var at (columns.Local local) → new ≡ old ++ x ∷ [] →
    map f old ≡ map f exprs ++ local_variables at first made → map f new ≡ map f exprs ++ local_variables at first (made + 1)
variables_step f at first made local exprs old new x n t p h =
    ap (map f) p ∙ map_append f old (x ∷ []) ∙ (λ j. h j ++ (t ∙ (λ i. Var at (columns.Local (n i)))) j ∷ [])
    ∙ append_assoc (map f exprs) (local_variables at first made) (Var at (columns.Local (first + made)) ∷ []) ∙ (λ j. map f exprs ++ sym (variables_snoc at first made) j)

-- ---- a frame, arguments and a condition that stand for those with the products

pub record ArePassed (frame : Columns) (g : Column → Bool) (m : ℕ) (args : List TypedExpression) (e : TypedExpression) (at : Span) (wide : Columns) (bs : List TypedExpression) (f : TypedExpression) (count : ℕ) : Type 0 where
  pub constants : fixed_in frame ≡ g
  pub count_is : count ≡ length (all_free_products g args) + length (free_products g false e)
  pub columns : wide ≡ widened frame m count
  pub arguments : bs ≡ all_freed g m args ++ local_variables at (m + length (all_free_products g args)) (length (free_products g false e))
  pub condition : f ≡ freed g (length args) false e

pub are_passed : (frame : Columns) (g : Column → Bool) (m : ℕ) (args : List TypedExpression) (e : TypedExpression) (at : Span) (wide : Columns) (bs : List TypedExpression) (f : TypedExpression) (first second count behind : ℕ) →
    fixed_in frame ≡ g → first ≡ length (all_free_products g args) → second ≡ length (free_products g false e) → count ≡ first + second → wide ≡ widened frame m count →
    bs ≡ all_freed g m args ++ local_variables at (m + length (all_free_products g args)) second → behind ≡ length args → f ≡ freed g behind false e → ArePassed frame g m args e at wide bs f count
are_passed frame g m args e at wide bs f first second count behind p i j k w a b h =
    record {
      constants = p;
      count_is = k ∙ (λ t. i t + j t);
      columns = w;
      arguments = a ∙ (λ t. all_freed g m args ++ local_variables at (m + length (all_free_products g args)) (j t));
      condition = h ∙ (λ t. freed g (b t) false e);
    }

count_for : (frame : Columns) (g : Column → Bool) (m : ℕ) (args : List TypedExpression) (e : TypedExpression) (at : Span) (wide : Columns) (bs : List TypedExpression) (f : TypedExpression) (count : ℕ) →
    ArePassed frame g m args e at wide bs f count → count ≡ passed_count frame args e
count_for frame g m args e at wide bs f count h = h.count_is ∙ (λ i. length (all_free_products (sym h.constants i) args) + length (free_products (sym h.constants i) false e))

plan_for : (frame : Columns) (g : Column → Bool) (m : ℕ) (args : List TypedExpression) (e : TypedExpression) (at : Span) (wide : Columns) (bs : List TypedExpression) (f : TypedExpression) (count : ℕ) (want : Bool) →
    ArePassed frame g m args e at wide bs f count → passed_plan wide bs f want ≡ freed_passed_plan frame m args e want
plan_for frame g m args e at wide bs f count want h =
    (λ i. passed_plan (h.columns i) (h.arguments i) (h.condition i) want)
    ∙ variables_pass (widened frame m count) (all_freed g m args) (free_products g false e) at (m + length (all_free_products g args)) (freed g (length args) false e) want
    ∙ (λ i. passed_plan (widened frame m (count_for frame g m args e at wide bs f count h i))
    (all_freed (sym h.constants i) m args ++ product_arguments (m + length (all_free_products (sym h.constants i) args)) (free_products (sym h.constants i) false e))
    (freed (sym h.constants i) (length args) false e) want)

width_for : (frame : Columns) (g : Column → Bool) (m : ℕ) (args : List TypedExpression) (e : TypedExpression) (at : Span) (wide : Columns) (bs : List TypedExpression) (f : TypedExpression) (count : ℕ) →
    ArePassed frame g m args e at wide bs f count → length wide ≡ length frame + passed_count frame args e
width_for frame g m args e at wide bs f count h = ap length h.columns ∙ length-widened frame m count ∙ ap (λ (n : ℕ). length frame + n) (count_for frame g m args e at wide bs f count h)

-- a test of the plan and the width
pub test_passed : (test : Plan → ℕ → Bool) (frame : Columns) (g : Column → Bool) (m : ℕ) (args : List TypedExpression) (e : TypedExpression) (at : Span) (wide : Columns) (bs : List TypedExpression) (f : TypedExpression) (count : ℕ)
    (want b : Bool) → ArePassed frame g m args e at wide bs f count → test (passed_plan wide bs f want) (length wide) ≡ b →
    test (freed_passed_plan frame m args e want) (length frame + passed_count frame args e) ≡ b
test_passed test frame g m args e at wide bs f count want b h t =
    sym (λ i. test (plan_for frame g m args e at wide bs f count want h i) (width_for frame g m args e at wide bs f count h i)) ∙ t

-- the lists of both
pub lists_passed : (frame : Columns) (g : Column → Bool) (m : ℕ) (args : List TypedExpression) (e : TypedExpression) (at : Span) (wide : Columns) (bs : List TypedExpression) (f : TypedExpression) (count : ℕ)
    (want : Bool) → ArePassed frame g m args e at wide bs f count →
    listed_plan (passed_plan wide bs f want) (length wide) ≡ listed_plan (freed_passed_plan frame m args e want) (length (widened frame m (passed_count frame args e)))
lists_passed frame g m args e at wide bs f count want h =
    let w : length wide ≡ length (widened frame m (passed_count frame args e)) = ap length h.columns ∙ ap (λ (j : ℕ). length (widened frame m j)) (count_for frame g m args e at wide bs f count h) in
    λ j. listed_plan (plan_for frame g m args e at wide bs f count want h j) (w j)

pub letters_passed : (frame : Columns) (g : Column → Bool) (m : ℕ) (args : List TypedExpression) (e : TypedExpression) (at : Span) (wide : Columns) (bs : List TypedExpression) (f : TypedExpression) (count more : ℕ)
    (want : Bool) (cs : List Conjunction) (ls : List MarkedConjunction) → ArePassed frame g m args e at wide bs f count → more ≡ 0 → cs ≡ listed_plan (passed_plan wide bs f want) (length wide) →
    ls ≡ map (marked_letter (length frame) count more) cs → ls ≡ told_letters frame m args e want
letters_passed frame g m args e at wide bs f count more want cs ls h n k l =
    let c : count ≡ passed_count frame args e = count_for frame g m args e at wide bs f count h in
    l ∙ (λ i. map (marked_letter (length frame) (c i) (n i)) ((k ∙ lists_passed frame g m args e at wide bs f count want h) i))

-- ---- where there is no product the frame, the arguments and the condition are their own

pub no_sum : (a b : ℕ) → a + b ≡ 0 → (a ≡ 0) × (b ≡ 0)
no_sum a b e = (omega (arith, e), omega (arith, e))

pub own_passed : (frame : Columns) (g : Column → Bool) (m : ℕ) (args : List TypedExpression) (e : TypedExpression) (at : Span) → fixed_in frame ≡ g →
    length (all_free_products g args) + length (free_products g false e) ≡ 0 → ArePassed frame g m args e at frame args e 0
own_passed frame g m args e at p h =
    let z = no_sum (length (all_free_products g args)) (length (free_products g false e)) h in
    let a : all_freed g m args ≡ args = all_same g m args z.0 in
    record {
      constants = p;
      count_is = sym h;
      columns = sym (none_widened frame m 0 refl);
      arguments = sym ((λ i. a i ++ local_variables at (m + length (all_free_products g args)) (z.1 i)) ∙ append-nil args);
      condition = sym (freed_same g (length args) false e z.1);
    }

none_empty : {X : Type 0} (xs : List X) → length xs ≡ 0 → is_empty xs ≡ true
none_empty [] h = refl
none_empty (x ∷ xs) h = absurd (omega (arith, h))

-- and the condition is told as it is
pub told_same : (g : Column → Bool) (args : List TypedExpression) (e : TypedExpression) → length (free_products g false e) ≡ 0 → told_condition g args e ≡ e
told_same g args e h = let n : is_empty (free_products g false e) ≡ true = none_empty (free_products g false e) h in λ i. if not (n i) && forms_fit g false (put_in args e) then put_in args e else e

-- the condition as it is told
pub test_told : (test : Plan → ℕ → Bool) (frame : Columns) (m : ℕ) (args : List TypedExpression) (e d : TypedExpression) (want b : Bool) → d ≡ told_condition (fixed_in frame) args e →
    test (freed_passed_plan frame m args d want) (length frame + passed_count frame args d) ≡ b → test (demand_plan frame m args e want) (demand_base frame args e) ≡ b
test_told test frame m args e d want b h t = sym (λ i. test (freed_passed_plan frame m args (h i) want) (length frame + passed_count frame args (h i))) ∙ t

pub letters_told : (frame : Columns) (m : ℕ) (args : List TypedExpression) (e d : TypedExpression) (want : Bool) (ls : List MarkedConjunction) → d ≡ told_condition (fixed_in frame) args e →
    ls ≡ told_letters frame m args d want → ls ≡ passed_letters frame m args e want
letters_told frame m args e d want ls h l = l ∙ (λ i. told_letters frame m args (h i) want)

-- the letters where there is no product
pub record AreOwn (frame : Columns) (g : Column → Bool) (args : List TypedExpression) (e : TypedExpression) : Type 0 where
  pub constants : fixed_in frame ≡ g
  pub none : length (all_free_products g args) + length (free_products g false e) ≡ 0

told_own : (frame : Columns) (g : Column → Bool) (args : List TypedExpression) (e : TypedExpression) → AreOwn frame g args e → e ≡ told_condition (fixed_in frame) args e
told_own frame g args e h =
    sym (told_same g args e (no_sum (length (all_free_products g args)) (length (free_products g false e)) h.none).1) ∙ (λ i. told_condition (sym h.constants i) args e)

pub test_own : (test : Plan → ℕ → Bool) (frame : Columns) (g : Column → Bool) (m : ℕ) (args : List TypedExpression) (e : TypedExpression) (at : Span) (want b : Bool) → AreOwn frame g args e →
    test (passed_plan frame args e want) (length frame) ≡ b → test (demand_plan frame m args e want) (demand_base frame args e) ≡ b
test_own test frame g m args e at want b h t =
    test_told test frame m args e e want b (told_own frame g args e h)
    (test_passed test frame g m args e at frame args e 0 want b (own_passed frame g m args e at h.constants h.none) t)

pub letters_own : (frame : Columns) (g : Column → Bool) (m : ℕ) (args : List TypedExpression) (e : TypedExpression) (at : Span) (want : Bool) (cs : List Conjunction) (ls : List MarkedConjunction) → AreOwn frame g args e →
    cs ≡ listed_plan (passed_plan frame args e want) (length frame) → ls ≡ map exact_letter cs → ls ≡ passed_letters frame m args e want
letters_own frame g m args e at want cs ls h k l =
    letters_told frame m args e e want ls (told_own frame g args e h)
    (letters_passed frame g m args e at frame args e 0 0 want cs ls (own_passed frame g m args e at h.constants h.none) refl k (l ∙ sym (exact_letters (length frame) 0 0 cs refl)))
