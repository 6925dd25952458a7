-- What the code's lists of letters are.
use Rattle.std.proofs.Common.{◌≡◌, ℕ, zero, suc, ◌+◌, ◌-◌, ◌<◌, Bool, false, List, [], ◌∷◌, ◌++◌, map, length, append-nil, append_assoc, Result, Ok, Err, refl, ap, sym, ◌∙◌, arith}
use Rattle.std.specs.Prelude.{IsErrAnd}
use Rattle.boogie_tree.specs.declared.tree.Column.{Column}
use Rattle.boogie_tree.specs.declared.tree.Column.TheVariants as columns
use Rattle.typed_tree.specs.TypedTree.{TypedExpression}
use Rattle.letter_acts.specs.Frames.{Columns}
use Rattle.cond_jumps.specs.declared.fault.JumpFault.{JumpFault}
use Rattle.cond_jumps.specs.Conjunctions.{Conjunction, Plan}
use Rattle.cond_jumps.specs.Frames.{fixed_in}
use Rattle.cond_jumps.specs.Lists.{path_plan, path_list, assign_plan, assign_width, assign_list}
use Rattle.cond_jumps.specs.FreeProducts.FreeProducts.{free_products, freed, all_free_products, all_freed}
use Rattle.cond_jumps.specs.FreeProducts.Letters.{MarkedConjunction, marked_letter}
use Rattle.cond_jumps.specs.FreeProducts.LetterView.{exact_letter}
use Rattle.cond_jumps.specs.FreeProducts.FrameLetters.{product_variable, product_columns, widened, product_count, freed_path_plan, path_letters, all_product_count, freed_assign_plan, assign_letters}
use Rattle.cond_jumps.proofs.FreeProducts.NarrowLemmas.{plain_letters}
use Rattle.cond_jumps.proofs.FreeProducts.FreedLemmas.{freed_same, length_append, map_length}
use Rattle.cond_jumps.proofs.FreeProducts.MeanLemmas.{all_freed_length}

pub length-product_columns : (m k : ℕ) → length (product_columns m k) ≡ k
length-product_columns m zero = refl
length-product_columns m (suc k) = ap suc (length-product_columns (suc m) k)

pub length-widened : (frame : Columns) (m k : ℕ) → length (widened frame m k) ≡ length frame + k
length-widened frame m k = let e = length-product_columns m k in let f = length_append frame (product_columns m k) in omega (arith, e, f)

pub none_widened : (frame : Columns) (m k : ℕ) → k ≡ 0 → widened frame m k ≡ frame
none_widened frame m k e = ap (widened frame m) e ∙ append-nil frame

pub exact_letters : (low more k : ℕ) (cs : List Conjunction) → k ≡ 0 → map (marked_letter low k more) cs ≡ map exact_letter cs
exact_letters low more k cs e = ap (λ (j : ℕ). map (marked_letter low j more) cs) e ∙ each cs
  where
    each : (cs : List Conjunction) → map (marked_letter low 0 more) cs ≡ map exact_letter cs
    each [] = refl
    each (c ∷ cs) = λ i. plain_letters low more c i ∷ each cs i

-- ---- conditions

-- a frame and an expression that stand for those with the products
pub record AreFor (frame : Columns) (m : ℕ) (e : TypedExpression) (wide : Columns) (f : TypedExpression) : Type 0 where
  pub columns : wide ≡ widened frame m (product_count frame e)
  pub expr : f ≡ freed (fixed_in frame) m false e

-- where there is no product the frame and the expression are their own
pub own_for : (frame : Columns) (m : ℕ) (e : TypedExpression) → product_count frame e ≡ 0 → AreFor frame m e frame e
own_for frame m e h = record { columns = sym (none_widened frame m (product_count frame e) h); expr = sym (freed_same (fixed_in frame) m false e h) }

pub plan_for : (frame : Columns) (m : ℕ) (e : TypedExpression) (wide : Columns) (f : TypedExpression) (want : Bool) → AreFor frame m e wide f → path_plan wide f want ≡ freed_path_plan frame m e want
plan_for frame m e wide f want h = λ i. path_plan (h.columns i) (h.expr i) want

pub width_for : (frame : Columns) (m : ℕ) (e : TypedExpression) (wide : Columns) (f : TypedExpression) → AreFor frame m e wide f → length wide ≡ length frame + product_count frame e
width_for frame m e wide f h = ap length h.columns ∙ length-widened frame m (product_count frame e)

-- a test of the plan and the width
pub test_for : (test : Plan → ℕ → Bool) (frame : Columns) (m : ℕ) (e : TypedExpression) (wide : Columns) (f : TypedExpression) (want b : Bool) → AreFor frame m e wide f → test (path_plan wide f want) (length wide) ≡ b →
    test (freed_path_plan frame m e want) (length frame + product_count frame e) ≡ b
test_for test frame m e wide f want b h t = sym (λ i. test (plan_for frame m e wide f want h i) (width_for frame m e wide f h i)) ∙ t

pub letters_for : (frame : Columns) (m : ℕ) (e : TypedExpression) (wide : Columns) (f : TypedExpression) (want : Bool) (count more : ℕ) (cs : List Conjunction) (ls : List MarkedConjunction) → AreFor frame m e wide f →
    count ≡ product_count frame e → more ≡ 0 → cs ≡ path_list wide f want → ls ≡ map (marked_letter (length frame) count more) cs → ls ≡ path_letters frame m e want
letters_for frame m e wide f want count more cs ls h c n k l =
    l ∙ (λ i. map (marked_letter (length frame) (c i) (n i)) ((k ∙ (λ j. path_list (h.columns j) (h.expr j) want)) i))

pub exact_for : (frame : Columns) (m : ℕ) (e : TypedExpression) (want : Bool) (cs : List Conjunction) (ls : List MarkedConjunction) → product_count frame e ≡ 0 → cs ≡ path_list frame e want → ls ≡ map exact_letter cs →
    ls ≡ path_letters frame m e want
exact_for frame m e want cs ls h k l =
    letters_for frame m e frame e want (product_count frame e) 0 cs ls (own_for frame m e h) refl refl k (l ∙ sym (exact_letters (length frame) 0 (product_count frame e) cs h))

-- ---- assignments

pub record AreAllFor (frame : Columns) (m : ℕ) (es : List TypedExpression) (wide : Columns) (fs : List TypedExpression) : Type 0 where
  pub columns : wide ≡ widened frame m (all_product_count frame es)
  pub exprs : fs ≡ all_freed (fixed_in frame) m es

no_append : {X : Type 0} (xs ys : List X) → length (xs ++ ys) ≡ 0 → (length xs ≡ 0) × (length ys ≡ 0)
no_append [] ys e = (refl, e)
no_append (x ∷ xs) ys e = absurd (omega (arith, e))

pub all_same : (g : Column → Bool) (m : ℕ) (es : List TypedExpression) → length (all_free_products g es) ≡ 0 → all_freed g m es ≡ es
all_same g m [] h = refl
all_same g m (e ∷ es) h =
    let p = no_append (free_products g false e) (all_free_products g es) h in
    let x = freed_same g m false e p.0 in
    let y = all_same g (m + length (free_products g false e)) es p.1 in
    λ i. x i ∷ y i

pub all_own_for : (frame : Columns) (m : ℕ) (es : List TypedExpression) → all_product_count frame es ≡ 0 → AreAllFor frame m es frame es
all_own_for frame m es h = record { columns = sym (none_widened frame m (all_product_count frame es) h); exprs = sym (all_same (fixed_in frame) m es h) }

pub all_test_for : (test : Plan → ℕ → Bool) (frame : Columns) (m : ℕ) (es : List TypedExpression) (wide : Columns) (fs : List TypedExpression) (n : ℕ) (b : Bool) → AreAllFor frame m es wide fs →
    test (assign_plan wide fs) (assign_width wide n) ≡ b → test (freed_assign_plan frame m es) ((length frame + all_product_count frame es) + n) ≡ b
all_test_for test frame m es wide fs n b h t =
    let w : length wide ≡ length frame + all_product_count frame es = ap length h.columns ∙ length-widened frame m (all_product_count frame es) in
    sym (λ i. test (assign_plan (h.columns i) (h.exprs i)) (w i + n)) ∙ t

pub all_letters_for : (frame : Columns) (m : ℕ) (es : List TypedExpression) (wide : Columns) (fs : List TypedExpression) (n count more : ℕ) (cs : List Conjunction) (ls : List MarkedConjunction) → AreAllFor frame m es wide fs →
    count ≡ all_product_count frame es → more ≡ n → cs ≡ assign_list wide n fs → ls ≡ map (marked_letter (length frame) count more) cs → ls ≡ assign_letters frame m n es
all_letters_for frame m es wide fs n count more cs ls h c q k l =
    l ∙ (λ i. map (marked_letter (length frame) (c i) (q i)) ((k ∙ (λ j. assign_list (h.columns j) n (h.exprs j))) i))

pub all_exact_for : (frame : Columns) (m : ℕ) (es : List TypedExpression) (n : ℕ) (cs : List Conjunction) (ls : List MarkedConjunction) → all_product_count frame es ≡ 0 → cs ≡ assign_list frame n es → ls ≡ map exact_letter cs →
    ls ≡ assign_letters frame m n es
all_exact_for frame m es n cs ls h k l =
    all_letters_for frame m es frame es n (all_product_count frame es) n cs ls (all_own_for frame m es h) refl refl k (l ∙ sym (exact_letters (length frame) n (all_product_count frame es) cs h))

-- ---- a frame that grows

pub widened_turn : (wide new frame : Columns) (m k made : ℕ) (whole : Columns) → made < k → wide ++ product_columns (m + made) (k - made) ≡ whole → new ≡ wide ++ (columns.Local (m + made), product_variable) ∷ [] →
    new ++ product_columns (m + (made + 1)) (k - (made + 1)) ≡ whole
widened_turn wide new frame m k made whole l h e =
    let a : k - made ≡ suc (k - (made + 1)) = omega (arith, l) in
    let b : suc (m + made) ≡ m + (made + 1) = omega arith in
    let step : product_columns (m + made) (k - made) ≡ (columns.Local (m + made), product_variable) ∷ product_columns (m + (made + 1)) (k - (made + 1)) =
    ap (product_columns (m + made)) a ∙ ap (λ (j : ℕ). (columns.Local (m + made), product_variable) ∷ product_columns j (k - (made + 1))) b in
    ap (λ (cs : Columns). cs ++ product_columns (m + (made + 1)) (k - (made + 1))) e ∙
    append_assoc wide ((columns.Local (m + made), product_variable) ∷ []) (product_columns (m + (made + 1)) (k - (made + 1))) ∙ ap (λ (cs : Columns). wide ++ cs) (sym step) ∙ h

-- ---- what the parts of the code give

pub handed : {X Y : Type 0} (q : Result X JumpFault) (r : Result Y JumpFault) (f want : JumpFault) → q ≡ Err f → IsErrAnd r (λ g. g ≡ f) → r ≡ Err want → q ≡ Err want
handed q (Ok y) f want e h t = absurd h
handed q (Err g) f want e h t = let k : g ≡ want = cc in e ∙ ap Err (sym h ∙ k)

-- the number of products, by the program's constants
pub counted : (frame : Columns) (h : Column → Bool) (e : TypedExpression) (count : ℕ) → fixed_in frame ≡ h → count ≡ length (free_products h false e) → count ≡ product_count frame e
counted frame h e count p c = c ∙ ap (λ (g : Column → Bool). length (free_products g false e)) (sym p)

pub all_counted : (frame : Columns) (h : Column → Bool) (es : List TypedExpression) (count : ℕ) → fixed_in frame ≡ h → count ≡ length (all_free_products h es) → count ≡ all_product_count frame es
all_counted frame h es count p c = c ∙ ap (λ (g : Column → Bool). length (all_free_products g es)) (sym p)

pub are_for : (frame : Columns) (h : Column → Bool) (m : ℕ) (e : TypedExpression) (wide : Columns) (f : TypedExpression) (count : ℕ) → fixed_in frame ≡ h → count ≡ product_count frame e → wide ≡ widened frame m count →
    f ≡ freed h m false e → AreFor frame m e wide f
are_for frame h m e wide f count p c w k = record { columns = w ∙ ap (widened frame m) c; expr = k ∙ ap (λ (g : Column → Bool). freed g m false e) (sym p) }

pub are_all_for : (frame : Columns) (h : Column → Bool) (m : ℕ) (es : List TypedExpression) (wide : Columns) (fs : List TypedExpression) (count : ℕ) → fixed_in frame ≡ h → count ≡ all_product_count frame es → wide ≡ widened frame m count →
    fs ≡ all_freed h m es → AreAllFor frame m es wide fs
are_all_for frame h m es wide fs count p c w k = record { columns = w ∙ ap (widened frame m) c; exprs = k ∙ ap (λ (g : Column → Bool). all_freed g m es) (sym p) }

-- as many values as there are targets
pub same_number : {X Y : Type 0} (f : X → TypedExpression) (targets : List Y) (values made : List X) (h : Column → Bool) (m : ℕ) → length targets ≡ length values → map f made ≡ all_freed h m (map f values) → length targets ≡ length made
same_number f targets values made h m e k =
    let a : length (map f made) ≡ length made = map_length f made in
    let b : length (map f values) ≡ length values = map_length f values in
    let c : length (all_freed h m (map f values)) ≡ length (map f values) = all_freed_length h m (map f values) in
    let d : length (map f made) ≡ length (all_freed h m (map f values)) = ap length k in
    omega (arith, a, b, c, d, e)
