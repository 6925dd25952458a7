-- The letters of calls without body: the products of the ensures are further results.
use Rattle.std.proofs.Common.{◌≡◌, ℕ, ◌+◌, ◌≤◌, Bool, true, false, not, ◌&&◌, List, [], ◌∷◌, map, length, take, drop, if◌then◌else◌, refl, sym, ◌∙◌, ap}
use Rattle.boogie_tree.specs.declared.tree.Ty.{Ty}
use Rattle.boogie_tree.specs.declared.tree.Column.{Column}
use Rattle.boogie_tree.specs.declared.tree.VarInfo.{VarInfo}
use Rattle.typed_tree.specs.TypedTree.{TypedExpression, TypedProcedure}
use Rattle.typed_tree.specs.AffineForm.{is_empty, forms_fit}
use Rattle.letter_acts.specs.Frames.{Columns}
use Rattle.cond_jumps.specs.Conjunctions.{Conjunction, Plan, listed_plan}
use Rattle.cond_jumps.specs.Frames.{frame_environment, fixed_in}
use Rattle.boogie_run.specs.BoogiePoints.Actions.{ensured_conditions}
use Rattle.cond_jumps.specs.FreeProducts.FreeProducts.{free_products, all_free_products, all_freed}
use Rattle.cond_jumps.specs.FreeProducts.FrameLetters.{widened, all_product_count, put_in, told_condition}
use Rattle.cond_jumps.specs.FreeProducts.Letters.{MarkedConjunction, marked_letter}
use Rattle.cond_jumps.specs.FreeProducts.LetterView.{exact_letter}
use Rattle.cond_jumps.proofs.FreeProducts.FreedLemmas.{length_append}
use Rattle.cond_jumps.proofs.FreeProducts.NarrowLemmas.{plain_letters}
use Rattle.cond_jumps.proofs.FreeProducts.FrameAnswers.{length-widened, none_widened, all_same}
use Rattle.lowered_graph.specs.LoweredSteps.Edges.{those_in, import_written, whole_columns, all_hold, behind_helpers, told_ensures, import_plan, import_letters}
use Rattle.icfg_lower.specs.CallJumps.Ties.Numbered.{numbered_columns}
use Rattle.icfg_lower.specs.CallJumps.CallLists.{ensured, ensures_plan, behind_written, freed_ensures_plan, freed_ensures_base, ensures_letters, import_base}
use Rattle.icfg_lower.specs.CallJumps.Ties.ImportView.{import_conditions}
use Rattle.icfg_lower.proofs.CallJumps.DemandLemmas.{no_sum, told_same}
use Rattle.icfg_lower.proofs.CallJumps.ImportLemmas.{AreBelow, ensures_plan_is}

-- ---- conditions that are read over numbered columns

pub record AreRead (frame : Columns) (base : ℕ) (globals : List VarInfo) (q : TypedProcedure) (args : List TypedExpression) (targets : List ℕ) (more : List (ℕ × Ty)) (es : List TypedExpression)
    (width : ℕ) (read : List TypedExpression) : Type 0 where
  pub before : length frame ≤ base
  pub below : AreBelow base more
  pub width_is : width ≡ behind_written base q targets
  pub read_is : read ≡ import_conditions frame base globals q args targets more es

read_plan : (frame : Columns) (base : ℕ) (globals : List VarInfo) (q : TypedProcedure) (args : List TypedExpression) (targets : List ℕ) (more : List (ℕ × Ty)) (es : List TypedExpression)
    (width : ℕ) (read : List TypedExpression) → AreRead frame base globals q args targets more es width read →
    all_hold (frame_environment (numbered_columns width)) read ≡ ensures_plan frame base globals q args targets more es
read_plan frame base globals q args targets more es width read h =
    (λ i. all_hold (frame_environment (numbered_columns (h.width_is i))) (h.read_is i)) ∙ ensures_plan_is frame base globals q args targets more es h.before h.below

-- a test of the plan and the width
pub test_read : (test : Plan → ℕ → Bool) (frame : Columns) (base : ℕ) (globals : List VarInfo) (q : TypedProcedure) (args : List TypedExpression) (targets : List ℕ) (more : List (ℕ × Ty)) (es : List TypedExpression)
    (width : ℕ) (read : List TypedExpression) (b : Bool) → AreRead frame base globals q args targets more es width read → test (all_hold (frame_environment (numbered_columns width)) read) width ≡ b →
    test (ensures_plan frame base globals q args targets more es) (behind_written base q targets) ≡ b
test_read test frame base globals q args targets more es width read b h t = sym (λ i. test (read_plan frame base globals q args targets more es width read h i) (h.width_is i)) ∙ t

pub list_read : (frame : Columns) (base : ℕ) (globals : List VarInfo) (q : TypedProcedure) (args : List TypedExpression) (targets : List ℕ) (more : List (ℕ × Ty)) (es : List TypedExpression)
    (width : ℕ) (read : List TypedExpression) (cs : List Conjunction) → AreRead frame base globals q args targets more es width read → cs ≡ listed_plan (all_hold (frame_environment (numbered_columns width)) read) width →
    cs ≡ listed_plan (ensures_plan frame base globals q args targets more es) (behind_written base q targets)
list_read frame base globals q args targets more es width read cs h k = k ∙ (λ i. listed_plan (read_plan frame base globals q args targets more es width read h i) (h.width_is i))

-- ---- a frame, arguments and conditions that stand for those with the products

pub record AreEnsured (frame : Columns) (g : Column → Bool) (m : ℕ) (q : TypedProcedure) (args es : List TypedExpression) (wide : Columns) (bs fs : List TypedExpression) (first second : ℕ) : Type 0 where
  pub constants : fixed_in frame ≡ g
  pub first_is : first ≡ length (all_free_products g args)
  pub second_is : second ≡ length (all_free_products g es)
  pub columns : wide ≡ widened frame m (first + second)
  pub arguments : bs ≡ all_freed g m args
  pub conditions : fs ≡ all_freed g (length args + length (take q.results (drop q.params q.locals))) es

first_for : (frame : Columns) (g : Column → Bool) (m : ℕ) (q : TypedProcedure) (args es : List TypedExpression) (wide : Columns) (bs fs : List TypedExpression) (first second : ℕ) →
    AreEnsured frame g m q args es wide bs fs first second → first ≡ all_product_count frame args
first_for frame g m q args es wide bs fs first second h = h.first_is ∙ (λ i. length (all_free_products (sym h.constants i) args))

second_for : (frame : Columns) (g : Column → Bool) (m : ℕ) (q : TypedProcedure) (args es : List TypedExpression) (wide : Columns) (bs fs : List TypedExpression) (first second : ℕ) →
    AreEnsured frame g m q args es wide bs fs first second → second ≡ all_product_count frame es
second_for frame g m q args es wide bs fs first second h = h.second_is ∙ (λ i. length (all_free_products (sym h.constants i) es))

width_for : (frame : Columns) (g : Column → Bool) (m : ℕ) (q : TypedProcedure) (args es : List TypedExpression) (wide : Columns) (bs fs : List TypedExpression) (first second : ℕ) →
    AreEnsured frame g m q args es wide bs fs first second → length wide ≡ length frame + (first + second)
width_for frame g m q args es wide bs fs first second h = ap length h.columns ∙ length-widened frame m (first + second)

plan_for : (frame : Columns) (g : Column → Bool) (m : ℕ) (q : TypedProcedure) (args es : List TypedExpression) (wide : Columns) (bs fs : List TypedExpression) (first second : ℕ) (globals : List VarInfo) (targets : List ℕ) →
    AreEnsured frame g m q args es wide bs fs first second →
    ensures_plan wide (length wide) globals q bs targets (whole_columns (length frame + first) second) fs ≡ freed_ensures_plan frame m globals q args targets es
plan_for frame g m q args es wide bs fs first second globals targets h =
    let f : first ≡ all_product_count frame args = first_for frame g m q args es wide bs fs first second h in
    let s : second ≡ all_product_count frame es = second_for frame g m q args es wide bs fs first second h in
    let w : length wide ≡ length frame + (first + second) = width_for frame g m q args es wide bs fs first second h in
    (λ i. ensures_plan (h.columns i) (w i) globals q (h.arguments i) targets (whole_columns (length frame + first) second) (h.conditions i))
    ∙ (λ i. ensures_plan (widened frame m (f i + s i)) (length frame + (f i + s i)) globals q (all_freed (sym h.constants i) m args) targets (whole_columns (length frame + f i) (s i))
    (all_freed (sym h.constants i) (length args + length (take q.results (drop q.params q.locals))) es))

base_for : (frame : Columns) (g : Column → Bool) (m : ℕ) (q : TypedProcedure) (args es : List TypedExpression) (wide : Columns) (bs fs : List TypedExpression) (first second : ℕ) (targets : List ℕ) →
    AreEnsured frame g m q args es wide bs fs first second → behind_written (length wide) q targets ≡ freed_ensures_base frame q args targets es
base_for frame g m q args es wide bs fs first second targets h =
    let f : first ≡ all_product_count frame args = first_for frame g m q args es wide bs fs first second h in
    let s : second ≡ all_product_count frame es = second_for frame g m q args es wide bs fs first second h in
    (λ i. behind_written ((width_for frame g m q args es wide bs fs first second h ∙ (λ j. length frame + (f j + s j))) i) q targets)

pub test_ensured : (test : Plan → ℕ → Bool) (frame : Columns) (g : Column → Bool) (m : ℕ) (q : TypedProcedure) (args es : List TypedExpression) (wide : Columns) (bs fs : List TypedExpression) (first second : ℕ)
    (globals : List VarInfo) (targets : List ℕ) (b : Bool) → AreEnsured frame g m q args es wide bs fs first second →
    test (ensures_plan wide (length wide) globals q bs targets (whole_columns (length frame + first) second) fs) (behind_written (length wide) q targets) ≡ b →
    test (freed_ensures_plan frame m globals q args targets es) (freed_ensures_base frame q args targets es) ≡ b
test_ensured test frame g m q args es wide bs fs first second globals targets b h t =
    sym (λ i. test (plan_for frame g m q args es wide bs fs first second globals targets h i) (base_for frame g m q args es wide bs fs first second targets h i)) ∙ t

pub map_through : {X Y Z : Type 0} (f : Y → Z) (k : X → Y) (xs : List X) → map f (map k xs) ≡ map (λ x. f (k x)) xs
map_through f k [] = refl
map_through f k (x ∷ xs) = ap (λ (l : List _). f (k x) ∷ l) (map_through f k xs)

-- the lists of both
pub lists_ensured : (frame : Columns) (g : Column → Bool) (m : ℕ) (q : TypedProcedure) (args es : List TypedExpression) (wide : Columns) (bs fs : List TypedExpression) (first second : ℕ)
    (globals : List VarInfo) (targets : List ℕ) → AreEnsured frame g m q args es wide bs fs first second →
    listed_plan (ensures_plan wide (length wide) globals q bs targets (whole_columns (length frame + first) second) fs) (behind_written (length wide) q targets) ≡
    listed_plan (freed_ensures_plan frame m globals q args targets es) (freed_ensures_base frame q args targets es)
lists_ensured frame g m q args es wide bs fs first second globals targets h =
    λ j. listed_plan (plan_for frame g m q args es wide bs fs first second globals targets h j) (base_for frame g m q args es wide bs fs first second targets h j)

-- the letters of the list
pub letters_counted : (frame : Columns) (g : Column → Bool) (m : ℕ) (q : TypedProcedure) (args es : List TypedExpression) (first second count more own : ℕ) (globals : List VarInfo) (targets : List ℕ)
    (cs : List Conjunction) (ks : List MarkedConjunction) → fixed_in frame ≡ g → first ≡ length (all_free_products g args) → second ≡ length (all_free_products g es) →
    count ≡ first + second → own ≡ length (those_in targets q.modifies) → more ≡ length (import_written q.modifies targets) + own →
    cs ≡ listed_plan (freed_ensures_plan frame m globals q args targets es) (freed_ensures_base frame q args targets es) →
    ks ≡ map (behind_helpers own) (map (marked_letter (length frame) count more) cs) → ks ≡ ensures_letters frame m globals q args targets es
letters_counted frame g m q args es first second count more own globals targets cs ks h a b c o p t n =
    let f : first ≡ all_product_count frame args = a ∙ (λ i. length (all_free_products (sym h i) args)) in
    let s : second ≡ all_product_count frame es = b ∙ (λ i. length (all_free_products (sym h i) es)) in
    let d : count ≡ all_product_count frame args + all_product_count frame es = c ∙ (λ j. f j + s j) in
    let r : more ≡ length (import_written q.modifies targets) + length (those_in targets q.modifies) = p ∙ (λ j. length (import_written q.modifies targets) + o j) in
    n ∙ (λ j. map (behind_helpers (o j)) (map (marked_letter (length frame) count more) cs)) ∙ map_through (behind_helpers (length (those_in targets q.modifies))) (marked_letter (length frame) count more) cs
    ∙ (λ j. map (λ x. behind_helpers (length (those_in targets q.modifies)) (marked_letter (length frame) (d j) (r j) x)) (t j))

-- the letters, behind their helpers
pub letters_ensured : (frame : Columns) (g : Column → Bool) (m : ℕ) (q : TypedProcedure) (args es : List TypedExpression) (wide : Columns) (bs fs : List TypedExpression) (first second count more own : ℕ)
    (globals : List VarInfo) (targets : List ℕ) (cs : List Conjunction) (ls ks : List MarkedConjunction) → AreEnsured frame g m q args es wide bs fs first second →
    count ≡ first + second → own ≡ length (those_in targets q.modifies) → more ≡ length (import_written q.modifies targets) + own →
    cs ≡ listed_plan (ensures_plan wide (length wide) globals q bs targets (whole_columns (length frame + first) second) fs) (behind_written (length wide) q targets) →
    ls ≡ map (marked_letter (length frame) count more) cs → ks ≡ map (behind_helpers own) ls → ks ≡ ensures_letters frame m globals q args targets es
letters_ensured frame g m q args es wide bs fs first second count more own globals targets cs ls ks h c o p k l n =
    letters_counted frame g m q args es first second count more own globals targets cs ks h.constants h.first_is h.second_is c o p
    (k ∙ lists_ensured frame g m q args es wide bs fs first second globals targets h) (n ∙ ap (map (behind_helpers own)) l)

-- ---- where there is no product the frame, the arguments and the conditions are their own

pub own_ensured : (frame : Columns) (g : Column → Bool) (m : ℕ) (q : TypedProcedure) (args es : List TypedExpression) → fixed_in frame ≡ g →
    length (all_free_products g args) + length (all_free_products g es) ≡ 0 → AreEnsured frame g m q args es frame args es 0 0
own_ensured frame g m q args es p h =
    let z = no_sum (length (all_free_products g args)) (length (all_free_products g es)) h in
    record {
      constants = p;
      first_is = sym z.0;
      second_is = sym z.1;
      columns = sym (none_widened frame m 0 refl);
      arguments = sym (all_same g m args z.0);
      conditions = sym (all_same g (length args + length (take q.results (drop q.params q.locals))) es z.1);
    }

-- and a letter is its conjunction
pub exact_marks : (low more : ℕ) (cs : List Conjunction) → map exact_letter cs ≡ map (marked_letter low 0 more) cs
exact_marks low more [] = refl
exact_marks low more (c ∷ cs) = λ i. sym (plain_letters low more c) i ∷ exact_marks low more cs i

-- ---- ensures as they are told

pub told_all : (frame : Columns) (g : Column → Bool) (q : TypedProcedure) (args : List TypedExpression) → fixed_in frame ≡ g → map (told_condition g args) (ensured q.specs) ≡ told_ensures frame q args
told_all frame g q args p =
    (λ i. map (told_condition (sym p i) args) (ensured q.specs)) ∙ map_through (told_condition (fixed_in frame) args) (λ i. i.cond) (ensured_conditions q.specs)

pub told_alike : (g : Column → Bool) (args es : List TypedExpression) → length (all_free_products g es) ≡ 0 → map (told_condition g args) es ≡ es
told_alike g args [] h = refl
told_alike g args (e ∷ es) h =
    let z = no_sum (length (free_products g false e)) (length (all_free_products g es)) (sym (length_append (free_products g false e) (all_free_products g es)) ∙ h) in
    λ i. told_same g args e z.0 i ∷ told_alike g args es z.1 i

pub told_fits : (g : Column → Bool) (args : List TypedExpression) (e : TypedExpression) → forms_fit g false e ≡ true → forms_fit g false (told_condition g args e) ≡ true
told_fits g args e h = by_tests (not (is_empty (free_products g false e))) (forms_fit g false (put_in args e)) refl
  where
    by_tests : (a b : Bool) → forms_fit g false (put_in args e) ≡ b → forms_fit g false (if a && b then put_in args e else e) ≡ true
    by_tests true true k = k
    by_tests true false k = h
    by_tests false b k = h

-- ---- the ensures of a call

pub test_import : (test : Plan → ℕ → Bool) (frame : Columns) (m : ℕ) (globals : List VarInfo) (q : TypedProcedure) (args : List TypedExpression) (targets : List ℕ) (es : List TypedExpression) (b : Bool) →
    es ≡ told_ensures frame q args → test (freed_ensures_plan frame m globals q args targets es) (freed_ensures_base frame q args targets es) ≡ b →
    test (import_plan frame m globals q args targets) (import_base frame q args targets) ≡ b
test_import test frame m globals q args targets es b h t = sym (λ i. test (freed_ensures_plan frame m globals q args targets (h i)) (freed_ensures_base frame q args targets (h i))) ∙ t

pub letters_import : (frame : Columns) (m : ℕ) (globals : List VarInfo) (q : TypedProcedure) (args : List TypedExpression) (targets : List ℕ) (es : List TypedExpression) (ls : List MarkedConjunction) →
    es ≡ told_ensures frame q args → ls ≡ ensures_letters frame m globals q args targets es → ls ≡ import_letters frame m globals q args targets
letters_import frame m globals q args targets es ls h l = l ∙ (λ i. ensures_letters frame m globals q args targets (h i))

-- where there is no product
pub record HasNone (frame : Columns) (g : Column → Bool) (q : TypedProcedure) (args : List TypedExpression) : Type 0 where
  pub constants : fixed_in frame ≡ g
  pub none : length (all_free_products g args) + length (all_free_products g (ensured q.specs)) ≡ 0

none_told : (frame : Columns) (g : Column → Bool) (q : TypedProcedure) (args : List TypedExpression) → HasNone frame g q args → ensured q.specs ≡ told_ensures frame q args
none_told frame g q args h =
    let z = no_sum (length (all_free_products g args)) (length (all_free_products g (ensured q.specs))) h.none in
    sym (told_alike g args (ensured q.specs) z.1) ∙ told_all frame g q args h.constants

pub test_none : (test : Plan → ℕ → Bool) (frame : Columns) (g : Column → Bool) (m : ℕ) (globals : List VarInfo) (q : TypedProcedure) (args : List TypedExpression) (targets : List ℕ) (b : Bool) →
    HasNone frame g q args → test (ensures_plan frame (length frame) globals q args targets [] (ensured q.specs)) (behind_written (length frame) q targets) ≡ b →
    test (import_plan frame m globals q args targets) (import_base frame q args targets) ≡ b
test_none test frame g m globals q args targets b h t =
    test_import test frame m globals q args targets (ensured q.specs) b (none_told frame g q args h)
    (test_ensured test frame g m q args (ensured q.specs) frame args (ensured q.specs) 0 0 globals targets b (own_ensured frame g m q args (ensured q.specs) h.constants h.none) t)

pub letters_none : (frame : Columns) (g : Column → Bool) (m : ℕ) (globals : List VarInfo) (q : TypedProcedure) (args : List TypedExpression) (targets : List ℕ) (ls : List MarkedConjunction) → HasNone frame g q args →
    ls ≡ map (behind_helpers (length (those_in targets q.modifies)))
    (map exact_letter (listed_plan (ensures_plan frame (length frame) globals q args targets [] (ensured q.specs)) (behind_written (length frame) q targets))) →
    ls ≡ import_letters frame m globals q args targets
letters_none frame g m globals q args targets ls h l =
    let own : ℕ = length (those_in targets q.modifies) in
    let more : ℕ = length (import_written q.modifies targets) + own in
    let cs : List Conjunction = listed_plan (ensures_plan frame (length frame) globals q args targets [] (ensured q.specs)) (behind_written (length frame) q targets) in
    letters_import frame m globals q args targets (ensured q.specs) ls (none_told frame g q args h)
    (letters_ensured frame g m q args (ensured q.specs) frame args (ensured q.specs) 0 0 0 more own globals targets cs (map exact_letter cs) ls
    (own_ensured frame g m q args (ensured q.specs) h.constants h.none) refl refl refl refl (exact_marks (length frame) more cs) l)
